-- 02, K1: "the first test that failed (start, length, digits or fields, first check, second check (Nikobus: CRC16, then
-- CRC8), or none), with the check value found and the one expected".
-- Assumes nothing.
use Rattle.std.specs.Prelude.{List, ◌∷◌, ◌≡◌, ℕ, ◌≤◌, length, take, Option, Some, None, Result, Ok, Err}
use Rattle.layouts.specs.Paper.Layout.{Layout, Agree, Form, Leads}
use Rattle.layouts.specs.declared.Compared.{Compared}
use Rattle.layouts.specs.declared.Failure.{Failure}
use Rattle.layouts.specs.declared.Frame.{Frame}
use Rattle.layouts.specs.declared.Test.{Test}
use Rattle.layouts.specs.declared.Test.TheVariants.{Start, Length, Fields, First, Second}

-- the first bytes of s are laid out so, whatever their check values are
pub record Head (l : Layout) (s : List ℕ) : Type 0 where
  pub size : ℕ
  pub inside : size ≤ length s
  pub form : Form l (take size s)

-- a check failed, whose values are these
abbrev pub differing : Test → Compared → Failure
differing t c = record { test = t; found = c.found; expected = c.expected }

-- "Without a failed check both values are 0"
abbrev pub zero_values : Compared
zero_values = record { found = 0; expected = 0 }

-- a test that compares nothing failed
abbrev pub without : Test → Failure
without t = differing t zero_values

-- the first of these checks that fails, if one does
pub data FirstFailed : List Compared → Option Failure → Type 0 where
  no-check : {checks : List Compared} → Agree checks → FirstFailed checks None
  first-check : {c : Compared} {later : List Compared} → (c.found ≡ c.expected → ⊥)
      → FirstFailed (c ∷ later) (Some (differing First c))
  second-check : {c d : Compared} {later : List Compared} → c.found ≡ c.expected → (d.found ≡ d.expected → ⊥)
      → FirstFailed (c ∷ d ∷ later) (Some (differing Second d))

-- the first test that the bytes s fail as a frame that begins with them, if they fail one
pub data Judged (l : Layout) (s : List ℕ) : Option Failure → Type 0 where
  no_start : (l.Begun s → ⊥) → Judged l s (Some (without Start))
  no_length : l.Begun s → (l.Long s → ⊥) → Judged l s (Some (without Length))
  no_fields : l.Begun s → l.Long s → (Head l s → ⊥) → Judged l s (Some (without Fields))
  checked : {failed : Option Failure} → l.Begun s → l.Long s → (h : Head l s)
      → FirstFailed (l.compared h.form.fields) failed → Judged l s failed

-- the frame of an answer, and the failed test of one
abbrev pub frame_in : Result Frame Failure → Option Frame
frame_in (Ok f) = Some f
frame_in (Err failure) = None

abbrev pub failed_in : Result Frame Failure → Option Failure
failed_in (Ok f) = None
failed_in (Err failure) = Some failure

-- what a recogniser answers: the frame at the head of s, or the first test that one there fails
abbrev pub Recognises : Layout → List ℕ → Result Frame Failure → Type 0
Recognises l s r = Leads l s (frame_in r) × Judged l s (failed_in r)
