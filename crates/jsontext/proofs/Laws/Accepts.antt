-- The whole text.
-- Assumes nothing.
use mathlib.Core.Logic.{⊎_elim}
use mathlib.Core.Path.{◌≡◌, subst, ◌∙◌}
use mathlib.Core.Bool.{true, false}
use mathlib.Core.List.{List, []}
use Prim.Native.Nat.{ℕ, ◌≤◌, ◌<◌}
use native.Mathlib.Omega.{arith}
use lib.Dec.{leb}
use lib.ListN.{length, drop}
use borrow.Author.Tests.{le-leb, lt-leb}
use Rattle.std.specs.Prelude.{None}
use Rattle.digits.specs.Paper.Read.{Decides, holds, fails}
use Rattle.jsontext.specs.Paper.Json.{blank}
use Rattle.jsontext.specs.Paper.Names.{InGrammar, most_bytes, most_depth}
use Rattle.jsontext.specs.Work.Found.{Found, Skipped}
use Rattle.jsontext.specs.Work.Tight.{Blanks, tight}
use Rattle.jsontext.proofs.Laws.Places.{nothing, at_place, at-end, Ends, not_found}
use Rattle.jsontext.proofs.Laws.Chars.{less}
use Rattle.jsontext.proofs.Laws.Grammar.{Read, text-to, text-from}

-- more bytes than are read
pub too_long : {s : List ℕ} → most_bytes < length s → Decides (InGrammar s) false
too_long h = fails (λ x. omega (arith, x.short))

-- no value behind the first blanks
pub no_value : {s : List ℕ} {a : ℕ} → Skipped blank s 0 a → Found (tight true most_depth) s a None → Decides (InGrammar s) false
no_value {s} {a} k v = fails (λ x. go (text-to most_depth s x.text))
  where
    go : Read most_depth s → ⊥
    go r = not_found v r.b (rw (k.only r.a r.before) at r.is)

module _ {s : List ℕ} {a b c : ℕ} (k : Skipped blank s 0 a) (v : Ends (tight true most_depth) s a b) (l : Skipped blank s b c) where
  -- a value, and something behind it
  pub something-behind : c < length s → Decides (InGrammar s) false
  something-behind h = fails (λ x. go (text-to most_depth s x.text))
    where
      go : Read most_depth s → ⊥
      go r =
          let e : r.b ≡ drop b s = v.only r.b (rw (k.only r.a r.before) at r.is) in
          nothing (l.only [] (subst (λ (m : List ℕ). Blanks m []) e r.behind) ∙ at_place s c h)

  -- a value, and nothing behind it
  pub all_read : length s ≤ most_bytes → length s ≤ c → Decides (InGrammar s) true
  all_read h e =
      let end : Blanks (drop b s) [] = rw (at-end s c e) at l.is in
      holds
      (record {
        short = h;
        text = text-from most_depth s (record { a = drop a s; b = drop b s; before = k.is; is = v.is; behind = end });
      })

  -- which of the two it is
  pub judged : length s ≤ most_bytes → Decides (InGrammar s) (leb (length s) c)
  judged h =
      ⊎_elim (λ e. rw (lt-leb (length s) c e) (something-behind e)) (λ e. rw (le-leb (length s) c e) (all_read h e)) (less c (length s))
