-- A public function as the prover has it, and what it is for its code to keep a promise whatever the input is.
-- Assumes nothing.
use Rattle.std.specs.Prelude.{List, [], ℕ, zero, suc}
use base.Logic.{emp}
use borrow.Fn.Kinds.{ParamKind, ResultKind, Out, sig_of, ended_of}
use borrow.Fn.World.{World}
use contract.Lifetimes.{Lfts}
use contract.Monad.{fact}
use denote.Triple.Clauses.{Ended, Clauses, closing}
use denote.Triple.Spec.{Meets}
use mir.Syntax.{Symbol as Name, fn₀}
use prog.Wired.{Code, Wired}

-- its name; the lifetimes, the parameters' types and the result's type of its signature; and its compiled code, with
-- that of all that it calls
pub record Function : Type 3 where
  pub name : Name
  pub lifetimes : ℕ
  pub params : List (ParamKind lifetimes)
  pub result : ResultKind lifetimes
  pub code : Code

-- the same from its parts
abbrev pub function_of : {n : ℕ} → Name → List (ParamKind n) → ResultKind n → Code → Function
function_of {n} name params result code =
    record { name = name; lifetimes = n; params = params; result = result; code = code }

-- its signature, with all loans spoken of afterwards
abbrev pub ended : Function → Ended
ended f = ended_of f.lifetimes f.params f.result

-- a promise: of the arguments, the result, and the arguments afterwards
abbrev pub Promise : Function → Type 1
Promise f = Out f.lifetimes f.params f.result

-- the contract with this promise that asks nothing of its caller (`emp` is the assertion that takes nothing)
abbrev pub asking-nothing : (f : Function) → Promise f → (w : World)
    → Clauses w.𝓤 (ended f)
asking-nothing f P w κs a =
    record { ghost = Unit {0}; requires = λ g. emp w.𝓤; ensures = λ g r s. fact w.𝓤 (P κs a r s) }

-- "accepts all inputs, ends, and does nothing undefined", and then the promise holds: at every model of the machine
-- that has the code, running the function of this name meets the contract that asks nothing
abbrev pub Keeps : (f : Function) → Promise f → Type 2
Keeps f P =
    (w : World)
    → Wired w.𝓡.env f.code
    → Meets w.𝓛 (sig_of f.lifetimes f.params f.result) (w.𝓡.run (w.𝓡.env (fn₀ f.name)))
    (closing w.𝓛 (ended f) (asking-nothing f P w))

-- lifetimes that never end, as many as a signature has: one choice of them, if it does not matter which
abbrev pub unending : (n : ℕ) → Lfts n
unending zero = tt
unending (suc n) = ([], unending n)
