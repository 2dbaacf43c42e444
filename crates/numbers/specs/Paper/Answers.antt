-- What the code's answers say in the numbers of document 01; the causes of each refusal; and the promises.
-- Assumes nothing.
use Rattle.std.specs.Prelude.{Result, ◌≡◌, ℕ, ◌<◌, Bool, false, List, ℤ, pos, length, Err, Ok}
use Rattle.std.specs.Float.{fin}
use Rattle.digits.specs.declared.refusal.Refusal.{Refusal}
use Rattle.digits.specs.Paper.LowFirst.{Width}
use Rattle.digits.specs.Paper.Read.{Reads}
use Rattle.digits.specs.Paper.Refusals.{refusal_number, Answers}
use Rattle.numbers.specs.Paper.Raw.{Raw, most_decimals}
use Rattle.numbers.specs.Paper.Text.{text, Number, InLimits}
use Rattle.numbers.specs.Paper.ByteValues.{HeldBy, value_bytes}
use Rattle.numbers.specs.Paper.Single.{fits_single}
use Rattle.numbers.specs.Paper.Panel.{Panel}
use Rattle.numbers.specs.declared.text.Reading.{Reading}
use Rattle.numbers.specs.declared.panel.Value.{Value as PanelValue}
use Rattle.numbers.specs.declared.panel.Value.TheVariants.{Single}

-- ---- text::write: why the text of z at d decimals is not written into a room of n bytes

-- 01, "Refusal numbers": 7 "decimals .. not as above"; 5 "a raw number out of range"; 4 "lent room too short for the
-- answer"
pub data TextCause (z : ℤ) (d n : ℕ) : ℕ → Type 0 where
  decimals : most_decimals < d → TextCause z d n 7
  range : (Raw z → ⊥) → TextCause z d n 5
  room : n < length (text z d) → TextCause z d n 4

-- ---- text::read

abbrev pub zero_number : Number
zero_number = record { raw = pos 0; decimals = 0 }

abbrev pub reading_refusal : Result Reading Refusal → ℕ
reading_refusal (Ok n) = 0
reading_refusal (Err why) = refusal_number why

abbrev pub reading_value : Result Reading Refusal → Number
reading_value (Ok n) = record { raw = n.raw; decimals = n.decimals }
reading_value (Err why) = zero_number

-- the number whose text t is; or 7, "number text not as above, or a text whose number is out of range"
abbrev pub ReadsText : List ℕ → Result Reading Refusal → Type 0
ReadsText t r = Reads zero_number InLimits (λ n. text n.raw n.decimals) 7 t (reading_refusal r) (reading_value r)

-- ---- byte_values::write: why z is not written as w bytes into a room of n

-- 7 "width .. not as above"; 5 "a raw number .. not held by its width and sign"; 4 "lent room too short for the answer"
pub data ValueCause (w : ℕ) (signed : Bool) (z : ℤ) (n : ℕ) : ℕ → Type 0 where
  width : (Width w → ⊥) → ValueCause w signed z n 7
  held : (HeldBy w signed z → ⊥) → ValueCause w signed z n 5
  room : n < w → ValueCause w signed z n 4

-- ---- byte_values::read: why s is not read as w bytes

-- 7 "width .. not as above"; 5 "a field .. outside its limits": there are not w bytes
pub data BytesCause (w : ℕ) (s : List ℕ) : ℕ → Type 0 where
  width : (Width w → ⊥) → BytesCause w s 7
  count : (length s ≡ w → ⊥) → BytesCause w s 5

abbrev pub value_refusal : Result ℤ Refusal → ℕ
value_refusal (Ok z) = 0
value_refusal (Err why) = refusal_number why

abbrev pub value_of : Result ℤ Refusal → ℤ
value_of (Ok z) = z
value_of (Err why) = pos 0

-- the number that w bytes hold and that is written s
pub record ValueIn (w : ℕ) (signed : Bool) (s : List ℕ) (z : ℤ) : Type 0 where
  pub known : Width w
  pub held : HeldBy w signed z
  pub bytes : value_bytes w z ≡ s

abbrev pub AnswersValue : ℕ → Bool → List ℕ → Result ℤ Refusal → Type 0
AnswersValue w signed s r = Answers (pos 0) (BytesCause w s) (ValueIn w signed s) (value_refusal r) (value_of r)

-- ---- single::fits and panel::of: why z is refused

-- 5 "a raw number out of range"
pub data RangeCause (z : ℤ) : ℕ → Type 0 where
  range : (Raw z → ⊥) → RangeCause z 5

abbrev pub fits_refusal : Result Bool Refusal → ℕ
fits_refusal (Ok b) = 0
fits_refusal (Err why) = refusal_number why

abbrev pub fits_value : Result Bool Refusal → Bool
fits_value (Ok b) = b
fits_value (Err why) = false

abbrev pub AnswersFits : ℤ → Result Bool Refusal → Type 0
AnswersFits z r = Answers false (RangeCause z) (λ b. b ≡ fits_single z) (fits_refusal r) (fits_value r)

abbrev pub shown_refusal : Result PanelValue Refusal → ℕ
shown_refusal (Ok v) = 0
shown_refusal (Err why) = refusal_number why

-- 0.0
abbrev pub zero_float : PanelValue
zero_float = Single (fin false 0 (pos 0))

abbrev pub shown_value : Result PanelValue Refusal → PanelValue
shown_value (Ok v) = v
shown_value (Err why) = zero_float

abbrev pub AnswersPanel : ℤ → Result PanelValue Refusal → Type 0
AnswersPanel z r = Answers zero_float (RangeCause z) (Panel z) (shown_refusal r) (shown_value r)
