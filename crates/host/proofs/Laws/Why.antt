-- A verdict in numbers.
-- Assumes nothing.
use mathlib.Core.List.{List}
use mathlib.Core.Path.{◌≡◌, refl, sym, ◌∙◌, ap, subst}
use Prim.Native.Nat.{ℕ}
use Rattle.std.specs.Prelude.{Some, None, Ok, Err}
use Rattle.digits.specs.Paper.Refusals.{Answers, answers, refuses}
use Rattle.digits.specs.declared.refusal.Refusal.{Refusal}
use Rattle.digits.specs.Paper.Refusals.{refusal_number}
use Rattle.digits.proofs.Laws.Refusals.{some_number, cause-of, answered}
use Rattle.layouts.specs.declared.Failure.{Failure}
use Rattle.frames.specs.Paper.Why.{Failing, WhyCause, Whys, test_number}
use Rattle.frames.proofs.Unique.{failing-one}
use Rattle.host.specs.Paper.Why.{Judgement, zero_judgement, judgement, JudgementAt}

module _ {k place : ℕ} {s : List ℕ} where
  module _ {u v : Failing} (a : Whys k s place (Ok u)) (e : u ≡ v) where
    answer : Whys k s place (Ok v)
    answer = subst (λ (w : Failing). Whys k s place (Ok w)) e a

  pub none-judged : {u : Failing} → Whys k s place (Ok u) → u ≡ None → Answers zero_judgement (WhyCause k s place) (JudgementAt k s place) 0 zero_judgement
  none-judged b e =
      let a = answer b e in
      answers (cause-of a) (record { failing = None; judged = answered a refl; is = refl })

  pub judged-as : {u : Failing} {f : Failure} {t : ℕ} → Whys k s place (Ok u) → u ≡ Some f → t ≡ test_number f.test
      → Answers zero_judgement (WhyCause k s place) (JudgementAt k s place) 0 (record { test = t; found = f.found; expected = f.expected })
  judged-as {u} {f} b e n =
      let a = answer b e in
      answers (cause-of a)
      (record {
        failing = Some f;
        judged = answered a refl;
        is = ap (λ (i : ℕ). record { test = i; found = f.found; expected = f.expected }) n;
      })

  pub refused_as : (why : Refusal) → Whys k s place (Err why) → Answers zero_judgement (WhyCause k s place) (JudgementAt k s place) (refusal_number why) zero_judgement
  refused_as why a = refuses (some_number why) (cause-of a)

pub one-judgement : {k place : ℕ} {s : List ℕ} (u v : Judgement) → JudgementAt k s place u → JudgementAt k s place v → u ≡ v
one-judgement u v a b = a.is ∙ ap judgement (failing-one a.failing b.failing a.judged b.judged) ∙ sym b.is
