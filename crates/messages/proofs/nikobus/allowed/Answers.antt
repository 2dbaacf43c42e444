-- `messages::nikobus::allowed` meets its contract, case by case.
-- Assumes nothing.
use mathlib.Core.Path.{refl}
use native.Mathlib.Omega.{arith}
use Rattle.messages.specs.Paper.Message.{read, set, answer, tail}
use Rattle.messages.proofs.Laws.Allowed.{nikobus-as, as-link, only-good, only_if}
use Rattle.messages.proofs.Laws.Given.{six-bytes}
use Rattle.messages.proofs.Laws.NikobusRows.{read_found, set_found, answer-found}
use Rattle.messages.specs.Paper.Table.{content_of, SixBytes, Limits}
use Rattle.messages.specs.Work.Look.{look}
use Rattle.std.specs.Prelude.{Ok}
use Rattle.messages.specs.Paper.Says.{six}
use Rattle.messages.specs.declared.nikobus.Nikobus.TheVariants.{Read, Set, Answer, Press, Tail}
use Rattle.messages.proofs.nikobus.allowed.Goals as goal

pub returns-in-Read : goal.returns-in-Read
returns-in-Read c =
    let stands = only_if (read c.in-Read.group c.in-Read.address) (λ p. (p, omega (arith, c.in-Read.known_told-1-own.given))) (λ l. l.0) (read_found c.in-Read.group c.in-Read.address) c.is_group.ensures in
    nikobus-as (Read c.in-Read.group c.in-Read.address) c.args.digits.now c.standing.result c.in-Read.is refl
    (stands c.standing.ensures)

pub returns-in-Set : goal.returns-in-Set
returns-in-Set c =
    let b : SixBytes (six c.in-Set.out) = six-bytes (omega (arith, c.in-Set.known_told-in-Set-1-own.given)) (omega (arith, c.in-Set.known_told-in-Set-1-own.given)) (omega (arith, c.in-Set.known_told-in-Set-1-own.given)) (omega (arith, c.in-Set.known_told-in-Set-1-own.given)) (omega (arith, c.in-Set.known_told-in-Set-1-own.given)) (omega (arith, c.in-Set.known_told-in-Set-1-own.given)) in
    let stands = only_if (set c.in-Set.group c.in-Set.address (six c.in-Set.out)) (λ p. (p, omega (arith, c.in-Set.known_told-in-Set-1-own.given), b)) (λ l. l.0) (set_found c.in-Set.group c.in-Set.address (six c.in-Set.out)) c.is_group-in-Set.ensures in
    nikobus-as (Set c.in-Set.group c.in-Set.address c.in-Set.out) c.args.digits.now c.standing-in-Set.result c.in-Set.is refl
    (stands c.standing-in-Set.ensures)

pub returns-in-Answer : goal.returns-in-Answer
returns-in-Answer c = let o : SixBytes (six c.in-Answer.out) = six-bytes (omega (arith, c.in-Answer.known_told-in-Answer-1-own.given)) (omega (arith, c.in-Answer.known_told-in-Answer-1-own.given)) (omega (arith, c.in-Answer.known_told-in-Answer-1-own.given)) (omega (arith, c.in-Answer.known_told-in-Answer-1-own.given)) (omega (arith, c.in-Answer.known_told-in-Answer-1-own.given)) (omega (arith, c.in-Answer.known_told-in-Answer-1-own.given)) in let l : Limits (answer c.in-Answer.address c.in-Answer.third (six c.in-Answer.out)) = (omega (arith, c.in-Answer.known_told-in-Answer-1-own.given), omega (arith, c.in-Answer.known_told-in-Answer-1-own.given), o) in nikobus-as (Answer c.in-Answer.address c.in-Answer.third c.in-Answer.out) c.args.digits.now (Ok tt) c.in-Answer.is refl (only-good (answer c.in-Answer.address c.in-Answer.third (six c.in-Answer.out)) l (answer-found c.in-Answer.address c.in-Answer.third (six c.in-Answer.out) l))

pub returns-in-Press : goal.returns-in-Press
returns-in-Press c = nikobus-as (Press _) c.args.digits.now c.press_allowed.result c.in-Press.is refl c.press_allowed.ensures

pub returns-in-Tail : goal.returns-in-Tail
unfolding look content_of
returns-in-Tail c = nikobus-as Tail c.args.digits.now (Ok tt) c.in-Tail.is refl (only-good tail tt refl)

pub returns-in-Link : goal.returns-in-Link
returns-in-Link c = as-link c.args.digits.now c.link_allowed.result c.in-Link.is c.link_allowed.ensures
