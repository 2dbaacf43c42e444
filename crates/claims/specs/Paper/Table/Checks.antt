-- The public functions of `checks`: each check has the same five.
-- Assumes nothing.
use Rattle.std.specs.Prelude.{List, [], ◌∷◌, ◌≡◌, ℕ}
use mir.Syntax.{Symbol as Name}
use Rattle.checks.specs.Paper.Buses.{homiq_crc, nest_crc, nibe_xor, nikobus_crc16, nikobus_crc8}
use Rattle.checks.specs.Paper.Check.{Check, check, feed}
use Rattle.checks.specs.Paper.Rules.{check_of}
use Rattle.checks.specs.declared.homiq.Crc.{Crc as HomiqCrc}
use Rattle.checks.specs.declared.nest.Crc.{Crc as NestCrc}
use Rattle.checks.specs.declared.nibe.Xor.{Xor}
use Rattle.checks.specs.declared.nikobus.Crc16.{Crc16}
use Rattle.checks.specs.declared.nikobus.Crc8.{Crc8}
use Rattle.checks.specs.declared.rule.Rule.{Rule}
use Rattle.claims.specs.Paper.Claim.{Claim, answering}

-- ---- what the five answer, for a check whose state is in a struct

pub record ByteArgs (State : Type 0) : Type 0 where
  pub self : State
  pub b : ℕ

pub record BytesArgs (State : Type 0) : Type 0 where
  pub self : State
  pub s : List ℕ

pub record OfArgs : Type 0 where
  pub s : List ℕ

-- its width, polynomial, start and bit order
abbrev rule : Name → Check → Claim Rule
rule name c = answering {Args = Unit {0}} name (λ a r. check_of r ≡ c)

-- the state before any byte, and behind one byte or more
abbrev new : {State : Type 0} → (State → ℕ) → Name → Check → Claim State
new value name c = answering {Args = Unit {0}} name (λ a r. value r ≡ c.start)

abbrev byte : {State : Type 0} → (State → ℕ) → Name → Check → Claim State
byte {State} value name c =
    answering {Args = ByteArgs State} name (λ a r. value r ≡ feed c (value a.self) (a.b ∷ []))

abbrev bytes : {State : Type 0} → (State → ℕ) → Name → Check → Claim State
bytes {State} value name c =
    answering {Args = BytesArgs State} name (λ a r. value r ≡ feed c (value a.self) a.s)

-- the check value of all bytes
abbrev all : Name → Check → Claim ℕ
all name c = answering {Args = OfArgs} name (λ a r. r ≡ check c a.s)

-- ---- homiq::Crc

abbrev pub homiq-rule : Claim Rule
homiq-rule = rule "checks::homiq::Crc::rule" homiq_crc

abbrev pub homiq-new : Claim HomiqCrc
homiq-new = new (λ (s : HomiqCrc). s.value) "checks::homiq::Crc::new" homiq_crc

abbrev pub homiq-byte : Claim HomiqCrc
homiq-byte = byte (λ (s : HomiqCrc). s.value) "checks::homiq::Crc::byte" homiq_crc

abbrev pub homiq-bytes : Claim HomiqCrc
homiq-bytes = bytes (λ (s : HomiqCrc). s.value) "checks::homiq::Crc::bytes" homiq_crc

abbrev pub homiq-of : Claim ℕ
homiq-of = all "checks::homiq::Crc::of" homiq_crc

-- ---- nest::Crc

abbrev pub nest-rule : Claim Rule
nest-rule = rule "checks::nest::Crc::rule" nest_crc

abbrev pub nest-new : Claim NestCrc
nest-new = new (λ (s : NestCrc). s.value) "checks::nest::Crc::new" nest_crc

abbrev pub nest-byte : Claim NestCrc
nest-byte = byte (λ (s : NestCrc). s.value) "checks::nest::Crc::byte" nest_crc

abbrev pub nest-bytes : Claim NestCrc
nest-bytes = bytes (λ (s : NestCrc). s.value) "checks::nest::Crc::bytes" nest_crc

abbrev pub nest-of : Claim ℕ
nest-of = all "checks::nest::Crc::of" nest_crc

-- ---- nibe::Xor

abbrev pub nibe-rule : Claim Rule
nibe-rule = rule "checks::nibe::Xor::rule" nibe_xor

abbrev pub nibe-new : Claim Xor
nibe-new = new (λ (s : Xor). s.value) "checks::nibe::Xor::new" nibe_xor

abbrev pub nibe-byte : Claim Xor
nibe-byte = byte (λ (s : Xor). s.value) "checks::nibe::Xor::byte" nibe_xor

abbrev pub nibe-bytes : Claim Xor
nibe-bytes = bytes (λ (s : Xor). s.value) "checks::nibe::Xor::bytes" nibe_xor

abbrev pub nibe-of : Claim ℕ
nibe-of = all "checks::nibe::Xor::of" nibe_xor

-- ---- nikobus::Crc16

abbrev pub nikobus16-rule : Claim Rule
nikobus16-rule = rule "checks::nikobus::Crc16::rule" nikobus_crc16

abbrev pub nikobus16-new : Claim Crc16
nikobus16-new = new (λ (s : Crc16). s.value) "checks::nikobus::Crc16::new" nikobus_crc16

abbrev pub nikobus16-byte : Claim Crc16
nikobus16-byte = byte (λ (s : Crc16). s.value) "checks::nikobus::Crc16::byte" nikobus_crc16

abbrev pub nikobus16-bytes : Claim Crc16
nikobus16-bytes = bytes (λ (s : Crc16). s.value) "checks::nikobus::Crc16::bytes" nikobus_crc16

abbrev pub nikobus16-of : Claim ℕ
nikobus16-of = all "checks::nikobus::Crc16::of" nikobus_crc16

-- ---- nikobus::Crc8

abbrev pub nikobus8-rule : Claim Rule
nikobus8-rule = rule "checks::nikobus::Crc8::rule" nikobus_crc8

abbrev pub nikobus8-new : Claim Crc8
nikobus8-new = new (λ (s : Crc8). s.value) "checks::nikobus::Crc8::new" nikobus_crc8

abbrev pub nikobus8-byte : Claim Crc8
nikobus8-byte = byte (λ (s : Crc8). s.value) "checks::nikobus::Crc8::byte" nikobus_crc8

abbrev pub nikobus8-bytes : Claim Crc8
nikobus8-bytes = bytes (λ (s : Crc8). s.value) "checks::nikobus::Crc8::bytes" nikobus_crc8

abbrev pub nikobus8-of : Claim ℕ
nikobus8-of = all "checks::nikobus::Crc8::of" nikobus_crc8
