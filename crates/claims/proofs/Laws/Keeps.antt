-- A function that keeps a promise keeps every weaker one. So a claim may be said in another form than the code's `ensures`.
-- Assumes nothing.
use borrow.Fn.Kinds.{Dens, res_t}
use contract.Lifetimes.{Lfts}
use contract.Monad.{fact, fact_mono, fm→mono}
use mir.Syntax.{fn₀}
use denote.Triple.Clauses.{Lasts, at_exit}
use denote.Triple.Table.{run_framed}
use denote.Triple.Weaken.{weaken}
use Rattle.claims.specs.Paper.Function.{Function, ended, Promise, Keeps, asking-nothing}

pub keeps-as : (f : Function) (P Q : Promise f)
    → ((κs : Lfts f.lifetimes) (a : Dens κs f.params) (r : (res_t f.result κs).Denot) (ws : Lasts (ended f) κs a)
    → P κs a r (at_exit (ended f) κs a ws) → Q κs a r (at_exit (ended f) κs a ws))
    → Keeps f P → Keeps f Q
keeps-as f P Q weaker kept w wired =
    weaken w.𝓛 (ended f) (asking-nothing f P w)
    (λ κs a g r s. fact w.𝓤 (Q κs a r s))
    (λ κs a g r ws. fact_mono w.𝓤 (P κs a r (at_exit (ended f) κs a ws)) (Q κs a r (at_exit (ended f) κs a ws)) (weaker κs a r ws))
    (w.𝓡.run (w.𝓡.env (fn₀ f.name)))
    (λ vs. fm→mono w.𝓤 (w.𝓡.run (w.𝓡.env (fn₀ f.name)) vs) (run_framed w.𝓤 w.𝓛.H w.𝓜 w.𝓡 (w.𝓡.env (fn₀ f.name)) vs)) (kept w wired)
