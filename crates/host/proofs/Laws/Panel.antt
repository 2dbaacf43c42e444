-- What the panel is shown, and whether a single float holds it, by the members of an answer.
-- Assumes nothing.
use mathlib.Core.Bool.{Bool, true, false}
use mathlib.Core.Path.{◌≡◌, refl, ap, ◌∙◌}
use lib.IntN.{ℤ}
use Rattle.std.specs.Prelude.{Ok, Err}
use mir.Val.{bool_byte}
use Rattle.digits.specs.Paper.Refusals.{refusal_number, Answers, answers, refuses}
use Rattle.digits.specs.declared.refusal.Refusal.{Refusal}
use Rattle.digits.proofs.Laws.Refusals.{answered, cause-of, some_number}
use Rattle.numbers.specs.Paper.Answers.{RangeCause, AnswersFits, AnswersPanel}
use Rattle.numbers.specs.Paper.Single.{fits_single}
use Rattle.numbers.specs.declared.panel.Value.{Value}
use Rattle.host.specs.Paper.Answers.{flag}
use Rattle.host.specs.Paper.Panel.{zero_shown, shown, ShownOf}

pub as-shown : {z : ℤ} (v : Value) → AnswersPanel z (Ok v) → Answers zero_shown (RangeCause z) (ShownOf z) 0 (shown v)
as-shown v a = answers (cause-of a) (record { value = v; right = answered a refl; is = refl })

pub not-shown : {z : ℤ} (why : Refusal) → AnswersPanel z (Err why) → Answers zero_shown (RangeCause z) (ShownOf z) (refusal_number why) zero_shown
not-shown why a = refuses (some_number why) (cause-of a)

-- a truth cast to a number
cast : (b : Bool) → bool_byte b ≡ flag b
cast true = refl
cast false = refl

pub as-flag : {z : ℤ} (b : Bool) → AnswersFits z (Ok b) → Answers 0 (RangeCause z) (λ n. n ≡ flag (fits_single z)) 0 (bool_byte b)
as-flag b a = answers (cause-of a) (cast b ∙ ap flag (answered a refl))

pub no_flag : {z : ℤ} (why : Refusal) → AnswersFits z (Err why) → Answers 0 (RangeCause z) (λ n. n ≡ flag (fits_single z)) (refusal_number why) 0
no_flag why a = refuses (some_number why) (cause-of a)
