-- DEMAND 1, of one public function: "Every public call accepts all inputs, ends, and does nothing undefined. It
-- answers, or gives one refusal number from the table, for its stated causes and not otherwise. A refused call
-- returns zeros and alters no byte that was lent to it." And 01, "How a promise is judged": "each public function's
-- promise determines the answer and the later content of lent memory, in refusals too."
--
-- A row ties a claim of Table to a function. (At the head of Table a claim is said in plain words.)
-- Assumes nothing.
use Rattle.std.specs.Prelude.{List, [], ◌∷◌, ◌≡◌, ℕ}
use borrow.Fn.Kinds.{Dens, res_t}
use contract.Lifetimes.{Lfts}
use denote.Triple.Clauses.{AtExit, Lasts, at_exit}
use mir.Syntax.{Symbol as Name}
use Rattle.claims.specs.Paper.Claim.{Claim, Promised, Same, OneOf, Occur}
use Rattle.claims.specs.Paper.Function.{Function, ended, Promise, Keeps, unending}

-- A function with what is claimed of it. The claim is of the function's own result type, so nothing of a result is
-- left out. `args` gives the arguments their names. `later` picks the lent room afterwards, and nothing if no room is
-- lent.
pub record Row : Type 3 where
  pub function : Function
  pub claim : (κs : Lfts function.lifetimes) → Claim (res_t function.result κs).Denot
  pub args : (κs : Lfts function.lifetimes) → Dens κs function.params → (claim κs).Args
  pub later : (κs : Lfts function.lifetimes)
      → AtExit (ended function) κs
      → List ℕ

-- the claim as a promise of the function
abbrev pub promise : (f : Row) → Promise f.function
promise f κs a r s = Promised (f.claim κs).Cause (f.claim κs).form (f.args κs a) r (f.later κs s)

-- what demand 1 says of it
pub record Proper (f : Row) : Type 3 where
  -- the claim is of the function of this name
  pub named : (κs : Lfts f.function.lifetimes) → (f.claim κs).name ≡ f.function.name
  -- "accepts all inputs, ends, and does nothing undefined", and the outcome is as the claim says: "It answers, or
  -- gives one refusal number"
  pub keeps : Keeps f.function (promise f)
  -- "for its stated causes and not otherwise": a number with a cause is listed, and each listed number has arguments
  -- with its cause
  pub stated : (κs : Lfts f.function.lifetimes) (a : (f.claim κs).Args) (no : ℕ) → (f.claim κs).Cause a no
      → OneOf no (f.claim κs).refusals
  pub occurs : (κs : Lfts f.function.lifetimes) → Occur (f.claim κs).Cause (f.claim κs).refusals
  -- "Two answers that satisfy it are proved equal": the whole result, and all lent memory afterwards
  pub one : (κs : Lfts f.function.lifetimes) (a : Dens κs f.function.params)
      (r q : (res_t f.function.result κs).Denot)
      (ws vs : Lasts (ended f.function) κs a)
      → promise f κs a r (at_exit (ended f.function) κs a ws)
      → promise f κs a q (at_exit (ended f.function) κs a vs)
      → Same (f.claim κs).form r q × (ws ≡ vs)

-- a property of rows holds for every row of a list
pub data Every (Property : Row → Type 3) : List Row → Type 3 where
  none : Every Property []
  and : {f : Row} {later : List Row} → Property f → Every Property later → Every Property (f ∷ later)

-- a row's name and refusals, as the table lists them
abbrev pub listed : Row → Name × List ℕ
listed f = let c = f.claim (unending f.function.lifetimes) in (c.name, c.refusals)
