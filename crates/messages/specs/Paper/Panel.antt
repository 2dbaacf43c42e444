-- 01, Numbers: "A climate message goes to the panel as a pair of singles, raw"; Messages: a state's voltages.
-- Assumes nothing.
use Rattle.std.specs.Prelude.{false, List, ◌≡◌, ℕ, ◌<◌, ℤ, pos, length, Result, Ok, Err}
use Rattle.std.specs.Float.{fin}
use Rattle.digits.specs.Paper.Refusals.{refusal_number, Answers}
use Rattle.digits.specs.declared.refusal.Refusal.{Refusal}
use Rattle.numbers.specs.Paper.Panel.{ClimatePair}
use Rattle.numbers.specs.declared.panel.Climate.{Climate as Counts}
use Rattle.messages.specs.Paper.Table.{least_state, v_in, v_op, v_bat}
use Rattle.messages.specs.declared.nest.Response.{Response}
use Rattle.messages.specs.declared.nest.Response.TheVariants.{Climate}
use Rattle.messages.specs.declared.nest.Volts.{Volts}

-- ---- a climate's counts

-- 5: it is no climate message
pub data PairCause (e : Response) : ℕ → Type 0 where
  other : ((t : ℤ) (h : ℕ) → e ≡ Climate t h → ⊥) → PairCause e 5

-- its temperature and humidity as singles, raw
pub record PairOf (e : Response) (v : Counts) : Type 0 where
  pub temperature : ℤ
  pub humidity : ℕ
  pub is : e ≡ Climate temperature humidity
  pub pair : ClimatePair temperature (pos humidity) v.temperature v.humidity

abbrev pub pair_refusal : Result Counts Refusal → ℕ
pair_refusal (Ok v) = 0
pair_refusal (Err why) = refusal_number why

-- 0.0
abbrev pub zero_counts : Counts
zero_counts = record { temperature = fin false 0 (pos 0); humidity = fin false 0 (pos 0) }

abbrev pub pair_value : Result Counts Refusal → Counts
pair_value (Ok v) = v
pair_value (Err why) = zero_counts

abbrev pub ShowsPair : Response → Result Counts Refusal → Type 0
ShowsPair e r = Answers zero_counts (PairCause e) (PairOf e) (pair_refusal r) (pair_value r)

-- ---- a state's voltages

-- 5: "16 bytes or more"
pub data VoltsCause (p : List ℕ) : ℕ → Type 0 where
  short : length p < least_state → VoltsCause p 5

pub record Voltages : Type 0 where
  pub v_in : ℕ
  pub v_op : ℕ
  pub v_bat : ℕ

-- those that stand in the payload
abbrev pub volts_in : List ℕ → Voltages
volts_in p = record { v_in = v_in p; v_op = v_op p; v_bat = v_bat p }

abbrev pub volts_refusal : Result Volts Refusal → ℕ
volts_refusal (Ok v) = 0
volts_refusal (Err why) = refusal_number why

abbrev pub zero_volts : Voltages
zero_volts = record { v_in = 0; v_op = 0; v_bat = 0 }

abbrev pub volts_value : Result Volts Refusal → Voltages
volts_value (Ok v) = record { v_in = v.vin; v_op = v.vop; v_bat = v.vbat }
volts_value (Err why) = zero_volts

abbrev pub ReadsVolts : List ℕ → Result Volts Refusal → Type 0
ReadsVolts p r = Answers zero_volts (VoltsCause p) (λ v. v ≡ volts_in p) (volts_refusal r) (volts_value r)
