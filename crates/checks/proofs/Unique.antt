-- Two answers that keep a function's promise are equal. Every promise is an equation of one of three forms.
-- Assumes nothing.
use mathlib.Core.Path.{◌≡◌, refl, ap}
use Prim.Native.Nat.{ℕ}
use Rattle.digits.proofs.Unique.{equation}
use Rattle.checks.specs.Paper.Check.{Check}
use Rattle.checks.specs.Paper.Rules.{order_of, check_of}
use Rattle.checks.specs.declared.homiq.Crc as homiq
use Rattle.checks.specs.declared.nest.Crc as nest
use Rattle.checks.specs.declared.nibe.Xor as nibe
use Rattle.checks.specs.declared.nikobus.Crc16 as nikobus16
use Rattle.checks.specs.declared.nikobus.Crc8 as nikobus8
use Rattle.checks.specs.declared.rule.BitOrder.{BitOrder}
use Rattle.checks.specs.declared.rule.BitOrder.TheVariants.{HighBitFirst, LowBitFirst}
use Rattle.checks.specs.declared.rule.Rule.{Rule}

-- ---- a number, `r ≡ x`: `equation` of the crate digits

-- ---- a state, `r.value ≡ x`

pub homiq-unique : (x : ℕ) (r q : homiq.Crc) → r.value ≡ x → q.value ≡ x → r ≡ q
homiq-unique x r q e f = ap (λ (n : ℕ). record { value = n }) (equation e f)

pub nest-unique : (x : ℕ) (r q : nest.Crc) → r.value ≡ x → q.value ≡ x → r ≡ q
nest-unique x r q e f = ap (λ (n : ℕ). record { value = n }) (equation e f)

pub nibe-unique : (x : ℕ) (r q : nibe.Xor) → r.value ≡ x → q.value ≡ x → r ≡ q
nibe-unique x r q e f = ap (λ (n : ℕ). record { value = n }) (equation e f)

pub nikobus16-unique : (x : ℕ) (r q : nikobus16.Crc16) → r.value ≡ x → q.value ≡ x → r ≡ q
nikobus16-unique x r q e f = ap (λ (n : ℕ). record { value = n }) (equation e f)

pub nikobus8-unique : (x : ℕ) (r q : nikobus8.Crc8) → r.value ≡ x → q.value ≡ x → r ≡ q
nikobus8-unique x r q e f = ap (λ (n : ℕ). record { value = n }) (equation e f)

-- ---- a check's constants, `check_of r ≡ c`

order-inj : (a b : BitOrder) → order_of a ≡ order_of b → a ≡ b
order-inj HighBitFirst HighBitFirst e = refl
order-inj HighBitFirst LowBitFirst e = cc
order-inj LowBitFirst HighBitFirst e = cc
order-inj LowBitFirst LowBitFirst e = refl

pub rule-unique : (c : Check) (r q : Rule) → check_of r ≡ c → check_of q ≡ c → r ≡ q
rule-unique c r q e f =
    let same : check_of r ≡ check_of q = equation e f in
    let o : r.order ≡ q.order = order-inj r.order q.order (λ i. (same i).order) in
    λ i. record { width = (same i).width; poly = (same i).poly; start = (same i).start; order = o i }
