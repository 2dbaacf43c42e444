-- What the functions below the public ones ask for.
-- Assumes nothing.
use Rattle.std.specs.Prelude.{Bool, true, false, List, ℕ, ◌≡◌, Result, Ok, Err}
use Rattle.digits.specs.declared.refusal.Refusal.{Refusal}
use Rattle.digits.specs.declared.refusal.Refusal.TheVariants.{OutOfLimits}
use Rattle.frames.specs.Paper.OneFrame.{OneFrame}
use Rattle.messages.specs.Paper.Message.{Message}

-- f is one frame, and its payload goes from the one place to the other
abbrev pub Payloaded : ℕ → List ℕ → ℕ → ℕ → Type 0
Payloaded k f from to = OneFrame k f (record { from = from; to = to })

-- this message and no other
abbrev pub Only : Message → Message → Type 0
Only m n = n ≡ m

-- how a message stands whose content no message above it has, by whether its limits hold
abbrev pub standing_of : Bool → Result (Unit {0}) Refusal
standing_of true = Ok (tt {0})
standing_of false = Err OutOfLimits
