-- What the right answers of `decode` and `find` are, case by case.
-- Assumes nothing.
use mathlib.Core.List.{List}
use mathlib.Core.Option.{some}
use mathlib.Core.Path.{◌≡◌, refl, subst}
use Prim.Native.Nat.{ℕ, ◌+◌, ◌-◌}
use Rattle.std.specs.Prelude.{Ok, Err}
use Rattle.digits.specs.Paper.Bytes.{part}
use Rattle.digits.specs.Paper.Refusals.{refusal_number, refusal_order, First, answers, refuses}
use Rattle.digits.specs.declared.refusal.Refusal.{Refusal}
use Rattle.digits.proofs.Laws.Refusals.{answered, cause-of, some_number}
use Rattle.frames.specs.Paper.Search.{Searches}
use Rattle.frames.specs.declared.Found.{Found}
use Rattle.messages.specs.Paper.Answers.{DecodeCause, Said, Decodes, Finds}
use Rattle.messages.specs.declared.Message.{Message as Coded}
use Rattle.messages.specs.declared.Decoded.{Decoded}
use Rattle.messages.specs.declared.FoundMessage.{FoundMessage}

-- an answer with one message says no other
same_some : {d e : Coded} → some e ≡ some d → d ≡ e
same_some q = cc

module _ {k : ℕ} {f : List ℕ} where
  pub decoded : {d : Decoded} → First (DecodeCause k f) refusal_order 0 → Said k f d.message d.from d.to → Decodes k f (Ok d)
  decoded {d} c s = answers c (record { message = d.message; is = refl; said = s })

  pub undecoded : (why : Refusal) → First (DecodeCause k f) refusal_order (refusal_number why) → Decodes k f (Err why)
  undecoded why c = refuses (some_number why) c

  pub said_in : {d : Decoded} → Decodes k f (Ok d) → Said k f d.message d.from d.to
  said_in {d} a = let v = answered a refl in subst (λ (e : Coded). Said k f e d.from d.to) (same_some v.is) v.said

-- what is found of it
abbrev pub hit_of : FoundMessage → Found
hit_of h = record { start = h.start; len = h.len; from = h.from; to = h.to }

-- a message is said in the part of a buffer that is found
abbrev SaidThere : ℕ → List ℕ → FoundMessage → Coded → Type 0
SaidThere k s h e = Said k (part h.start (h.start + h.len) s) e (h.from - h.start) (h.to - h.start)

module _ {k : ℕ} {s : List ℕ} {place : ℕ} where
  module _ {h : FoundMessage} where
    pub found : Searches k s place (Ok (hit_of h)) → SaidThere k s h h.message → Finds k s place (Ok h)
    found f x = answers (cause-of f) (record { message = h.message; is = refl; found = answered f refl; said = x })

    pub search-in : Finds k s place (Ok h) → Searches k s place (Ok (hit_of h))
    search-in a = answers (cause-of a) (answered a refl).found

    pub found_in : Finds k s place (Ok h) → SaidThere k s h h.message
    found_in a = let v = answered a refl in subst (SaidThere k s h) (same_some v.is) v.said

  pub unfound : (why : Refusal) → Searches k s place (Err why) → Finds k s place (Err why)
  unfound why f = refuses (some_number why) (cause-of f)

  pub search-refused : (why : Refusal) → Finds k s place (Err why) → Searches k s place (Err why)
  search-refused why a = refuses (some_number why) (cause-of a)
