-- `nest::for_panel` and `nest::voltages`: two answers that meet the promise are the same answer.
-- Assumes nothing.
use mathlib.Core.List.{List}
use mathlib.Core.Path.{◌≡◌, refl, sym, ◌∙◌, subst}
use Prim.Native.Nat.{ℕ}
use lib.IntN.{ℤ, pos}
use Rattle.std.specs.Prelude.{Result, Ok, Err}
use Rattle.digits.proofs.Laws.Refusals.{same_answer, one_answer}
use Rattle.digits.specs.declared.refusal.Refusal.{Refusal}
use Rattle.numbers.proofs.Unique as numbers
use Rattle.numbers.specs.Paper.Panel.{ClimatePair}
use Rattle.numbers.specs.declared.panel.Climate.{Climate as Counts}
use Rattle.messages.specs.Paper.Panel.{PairOf, pair_refusal, pair_value, ShowsPair, Voltages, volts_refusal, volts_value, ReadsVolts}
use Rattle.messages.specs.declared.nest.Response.{Response}
use Rattle.messages.specs.declared.nest.Response.TheVariants.{Climate, State, Break, End, Text, Other}
use Rattle.messages.specs.declared.nest.Volts.{Volts}

-- ---- for_panel

-- a climate message's numbers are read off it
temperature_of : Response → ℤ
temperature_of (Climate t h) = t
temperature_of State = pos 0
temperature_of Break = pos 0
temperature_of End = pos 0
temperature_of (Text i) = pos 0
temperature_of (Other i) = pos 0

humidity_of : Response → ℕ
humidity_of (Climate t h) = h
humidity_of State = 0
humidity_of Break = 0
humidity_of End = 0
humidity_of (Text i) = 0
humidity_of (Other i) = 0

pair-in : {e : Response} (v : Counts) → PairOf e v → ClimatePair (temperature_of e) (pos (humidity_of e)) v.temperature v.humidity
unfolding temperature_of humidity_of
pair-in v p =
    subst (λ (e : Response). ClimatePair (temperature_of e) (pos (humidity_of e)) v.temperature v.humidity) (sym p.is) p.pair

pair_one : {e : Response} (u v : Counts) → PairOf e u → PairOf e v → u ≡ v
pair_one {e} u v a b = numbers.climate (temperature_of e) (pos (humidity_of e)) u v (pair-in u a) (pair-in v b)

result-cases : {A : Type 0} (P : Result A Refusal → Type 0) → ((a : A) → P (Ok a)) → ((why : Refusal) → P (Err why)) → (r : Result A Refusal) → P r
result-cases P f g (Ok a) = f a
result-cases P f g (Err why) = g why

pub one-pair : (e : Response) (r q : Result Counts Refusal) → ShowsPair e r → ShowsPair e q → r ≡ q
one-pair e r q a b =
    let s = one_answer pair_one a b in
    same_answer Ok Err pair_refusal pair_value (λ v. refl) (λ why. refl) (λ v. refl) result-cases r q s.0 s.1

-- ---- voltages

abbrev volts_of : Voltages → Volts
volts_of v = record { vin = v.v_in; vop = v.v_op; vbat = v.v_bat }

volts-cases : (P : Result Volts Refusal → Type 0) → ((v : Voltages) → P (Ok (volts_of v))) → ((why : Refusal) → P (Err why)) → (r : Result Volts Refusal) → P r
volts-cases P f g (Ok v) = f (record { v_in = v.vin; v_op = v.vop; v_bat = v.vbat })
volts-cases P f g (Err why) = g why

pub one-volts : (p : List ℕ) (r q : Result Volts Refusal) → ReadsVolts p r → ReadsVolts p q → r ≡ q
one-volts p r q a b =
    let s = one_answer (λ u v x y. x ∙ sym y) a b in
    same_answer (λ (v : Voltages). Ok (volts_of v)) Err volts_refusal volts_value (λ v. refl) (λ why. refl) (λ v. refl) volts-cases r q s.0 s.1
