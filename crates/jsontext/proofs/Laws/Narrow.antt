-- Strings whose characters are one byte each: compared with a name, tested, and put into a room.
-- Assumes nothing.
use mathlib.Core.Bool.{Bool, true, false, cond, true≢false, ◌||◌, ◌&&◌}
use mathlib.Core.Path.{◌≡◌, refl, sym, ap, subst, ◌∙◌}
use mathlib.Core.List.{List, [], ◌∷◌, ◌++◌, append_assoc, append-nil}
use Prim.Native.Nat.{ℕ, zero, suc, ◌*◌, ◌%◌, ◌≤◌, ◌<◌}
use native.Mathlib.Omega.{arith}
use lib.Dec.{eqb, ltb, leb, lit<}
use lib.ListN.{length, get_or, drop, length-append, length-drop}
use borrow.Author.Tests.{leb-true, leb-false}
use Rattle.std.specs.List.{list_all}
use Rattle.std.specs.Prelude.{None, Ok, Err}
use Rattle.digits.specs.Paper.Bytes.{Bytes}
use Rattle.digits.specs.Paper.Read.{Decides, holds, fails}
use Rattle.digits.specs.Paper.Refusals.{refusal_order, First, clear, here, after}
use Rattle.digits.specs.declared.refusal.Refusal.TheVariants.{NoRoom, BadMembers}
use Rattle.digits.proofs.Laws.Bytes.{bytes-nil, bytes-cons, bytes-head, bytes-tail}
use Rattle.digits.proofs.Laws.Refusals.{pass-over}
use Rattle.puts.specs.Paper.Put.{Put, largest_place}
use Rattle.puts.specs.Paper.Right.{refused}
use Rattle.puts.specs.Paper.Wrote.{Wrote}
use Rattle.puts.proofs.Laws.Puts.{none, ◌then◌, puts-as, front-count}
use Rattle.puts.proofs.Laws.Right.{as-right}
use Rattle.puts.proofs.Laws.Wrote.{wrote_by}
use Rattle.jsontext.specs.Paper.Json.{string}
use Rattle.jsontext.specs.Paper.Members.{IsString, CharactersCause, WritesCharacters}
use Rattle.jsontext.specs.Paper.Members as paper
use Rattle.jsontext.specs.Paper.Names.{most_bytes}
use Rattle.jsontext.specs.Work.Characters.{NarrowString}
use Rattle.jsontext.specs.Work.Found.{Found}
use Rattle.jsontext.specs.Work.Units.{units, units_in, units_of, size_of, name_in}
use Rattle.jsontext.proofs.Laws.Places.{nothing, at_place, at-end, not_found, Ends}
use Rattle.jsontext.proofs.Laws.Spelt.{spelt-string}
use Rattle.jsontext.proofs.Laws.Units.{units_of_lem, named}

-- ---- units that are bytes

pub all-tested : (us : List ℕ) → Decides (Bytes us) (list_all (λ u. leb u 255) us)
all-tested [] = holds bytes-nil
all-tested (u ∷ us) = by (leb u 255) refl (all-tested us)
  where
    by : {d : Bool} (b : Bool) → leb u 255 ≡ b → Decides (Bytes us) d → Decides (Bytes (u ∷ us)) (b && d)
    by true q (holds y) = let l : u ≤ 255 = leb-true u 255 q in holds (bytes-cons (omega arith) y)
    by true q (fails n) = fails (λ y. n (bytes-tail y))
    by false q d = fails (λ y. let l : u < 256 = bytes-head y in let h : 255 < u = leb-false u 255 q in omega arith)

-- ---- units put into a room: those put, and those left, are all

pub record Putting (all room later left : List ℕ) (n : ℕ) : Type 0 where
  pub passed : List ℕ
  pub put : Put room later 0 n passed
  pub whole : passed ++ left ≡ all
  pub bytes : Bytes left

pub put_first : (room : List ℕ) {all left : List ℕ} → length room ≤ largest_place → Bytes all → left ≡ all → Putting all room room left 0
put_first room l b e = record { passed = []; put = none room 0 l (omega arith); whole = e; bytes = subst Bytes (sym e) b }

module _ {all room later left : List ℕ} {n : ℕ} (w : Putting all room later left n) where
  pub put_on : {u m : ℕ} {rest last : List ℕ} → left ≡ u ∷ rest → Put later last n m ((u % 256) ∷ []) → Putting all room last rest m
  put_on {u} {rest = rest} q p =
      let b : Bytes (u ∷ rest) = subst Bytes q w.bytes in
      let l : u < 256 = bytes-head b in
      let e : u % 256 ≡ u = omega arith in
      record {
        passed = w.passed ++ (u ∷ []);
        put = w.put then puts-as (ap {B = List ℕ} (λ x. x ∷ []) e) p;
        whole = append_assoc w.passed (u ∷ []) rest ∙ ap {B = List ℕ} (λ x. w.passed ++ x) (sym q) ∙ w.whole;
        bytes = bytes-tail b;
      }

  pub all-put : left ≡ [] → Put room later 0 n all
  all-put q = puts-as (sym (append-nil w.passed) ∙ rw q at w.whole) w.put

-- ---- whether the text is such a string

module _ {s : List ℕ} where
  pub too_long : most_bytes < length s → Decides (NarrowString s) false
  too_long h = fails (λ x. omega (arith, x.short))

  pub no-string : Found string s 0 None → Decides (NarrowString s) false
  no-string f = fails (λ x. not_found f [] x.string)

  pub more-behind : {e : ℕ} → Ends string s 0 e → e < length s → Decides (NarrowString s) false
  more-behind {e} f h = fails (λ x. nothing (f.only [] x.string ∙ at_place s e h))

  pub by_bytes : {e : ℕ} {b : Bool} → length s ≤ most_bytes → Ends string s 0 e → length s ≤ e → Decides (Bytes (name_in s)) b → Decides (NarrowString s) b
  by_bytes {e} l f h (holds y) = holds (record { short = l; string = rw (at-end s e h) at f.is; bytes = y })
  by_bytes l f h (fails n) = fails (λ x. n x.bytes)

  -- it is a string of its own units, and of no others
  spelt-narrow : {cs : List ℕ} → IsString s cs → NarrowString s
  spelt-narrow x = record { short = x.short; string = spelt-string x.string; bytes = subst Bytes (sym (units_of_lem x.string)) x.bytes }

  narrow-spelt : NarrowString s → IsString s (name_in s)
  narrow-spelt x = record { short = x.short; string = named x.string; bytes = x.bytes }

-- ---- how many units there are

-- what both sides of a choice are
pub either : (P : List ℕ → Type 0) (b : Bool) {x y : List ℕ} → P x → P y → P (cond b x y)
either P true h k = h
either P false h k = k

one-or-two : (s : List ℕ) → length (units_of s) ≤ 2
unfolding units_of
one-or-two s =
    let few : List ℕ → Type 0 = λ l. length l ≤ 2 in
    either few (eqb (get_or s 0 0) 0x5C) (omega arith)
    (either few (ltb (get_or s 0 0) 0x80) (omega arith)
    (either few (ltb (get_or s 0 0) 0xE0) (omega arith) (either few (ltb (get_or s 0 0) 0xF0) (omega arith) (omega arith))))

at_most : (most : ℕ) (s : List ℕ) → length (units_in most s) ≤ 2 * most
unfolding units_in
at_most zero s = omega arith
at_most (suc most) [] = omega arith
at_most (suc most) (b ∷ s) =
    let rest : List ℕ = drop (size_of (b ∷ s)) (b ∷ s) in
    either (λ (l : List ℕ). length l ≤ 2 * suc most) (eqb b 0x22) (omega arith)
    (simp length-append (omega (arith, one-or-two (b ∷ s), at_most most rest)))

pub name-length : (s : List ℕ) → length (name_in s) ≤ 2 * length s
unfolding name_in units
name-length s = omega (arith, at_most (length (drop 1 s)) (drop 1 s), length-drop 1 s)

-- ---- the characters written

abbrev ours : ℕ → Bool
ours k = eqb k 12 || eqb k 4

module _ {s : List ℕ} {n : ℕ} where
  only : (k : ℕ) → ours k ≡ false → CharactersCause s n k → ⊥
  only k e (paper.no-string f) = true≢false e
  only k e (paper.short x h) = true≢false e

  a-string : NarrowString s → CharactersCause s n 12 → ⊥
  a-string x (paper.no-string f) = f (name_in s) (narrow-spelt x)

  room_for : length (name_in s) ≤ n → CharactersCause s n 4 → ⊥
  room_for l (paper.short x h) = omega (arith, ap length (units_of_lem x.string))

module _ {s room : List ℕ} where
  pub no-characters : (NarrowString s → ⊥) → WritesCharacters s room (Err BadMembers) room
  no-characters f = refused (lit< tt) (pass-over ours only refusal_order (here (paper.no-string (λ cs x. f (spelt-narrow x)))))

  module _ (x : NarrowString s) {n : ℕ} (measured : n ≡ length (name_in s)) where
    pub too_short : length room < n → WritesCharacters s room (Err NoRoom) room
    too_short h =
        let l : length room < length (name_in s) = omega arith in
        refused (lit< tt) (pass-over ours only refusal_order (after (a-string x) (here (paper.short (narrow-spelt x) l))))

    pub all-written : {later : List ℕ} {m : ℕ} → n ≤ length room → Put room later 0 m (name_in s) → WritesCharacters s room (Ok n) later
    all-written {later} h p =
        let Cause : ℕ → Type 0 = CharactersCause s (length room) in
        let l : length (name_in s) ≤ length room = omega arith in
        let f : First Cause refusal_order 0 = pass-over ours only refusal_order (after (a-string x) (after (room_for l) clear)) in
        as-right (narrow-spelt x)
        (subst (λ (i : ℕ). Wrote Cause (name_in s) room 0 i later) (front-count p l ∙ sym measured) (wrote_by f p l))
