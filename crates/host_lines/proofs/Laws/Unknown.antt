-- A kind that no byte holds is refused like kind 0 by the calls for lines, too.
-- Assumes nothing.
use mathlib.Core.List.{List}
use mathlib.Core.Option.{Option}
use mathlib.Core.Path.{subst}
use Prim.Native.Nat.{ℕ, ◌-◌}
use native.Mathlib.Nat.{sub-zero}
use lib.ListN.{length}
use Rattle.digits.specs.Paper.Refusals.{Answers}
use Rattle.puts.specs.Paper.Right.{WroteRight}
use Rattle.frames.specs.Paper.Search.{SearchCause}
use Rattle.lines.specs.Paper.Answers.{LineCause, LineOf, Placed, zero_placed, NextCause, NextLine}
use Rattle.sheet.specs.Paper.Sheet.{Lookup}
use Rattle.host.specs.Paper.Kind.{KindByte}
use Rattle.host.proofs.Laws.Unknown.{answers-alike, wrote-alike}

pub line-alike : {sheet : Option Lookup} {j k at no n : ℕ} {f room later : List ℕ} → KindByte k j → WroteRight (LineCause sheet j f at (length room)) (LineOf sheet j f at) room no n later
    → WroteRight (LineCause sheet k f at (length room)) (LineOf sheet k f at) room no n later
line-alike {sheet} {at = at} {f = f} {room = room} =
    wrote-alike (λ k. LineCause sheet k f at (length room)) (λ k e. LineCause.no_kind e) (λ j k c. elim c [ ]) (λ k. LineOf sheet k f at)

-- at the room's front all of it is left
pub next-alike : {sheet : Option Lookup} {j k place n : ℕ} {s room : List ℕ} {v : Placed × List ℕ} → KindByte k j
    → Answers {A = Placed × List ℕ} (zero_placed, room) (NextCause sheet j s place (length room - 0)) (λ u. NextLine sheet j s place room 0 u.0 u.1) n v
    → Answers {A = Placed × List ℕ} (zero_placed, room) (NextCause sheet k s place (length room)) (λ u. NextLine sheet k s place room 0 u.0 u.1) n v
next-alike {sheet} {j} {k} {place} {n} {s} {room} {v} b a =
    answers-alike (λ i. NextCause sheet i s place (length room)) (λ i e. NextCause.searched (SearchCause.no_kind e)) (λ i l c. absurd (no-8 c)) Line b
    (subst (λ (left : ℕ). Answers (zero_placed, room) (NextCause sheet j s place left) (Line j) n v) (sub-zero (length room)) a)
  where
    Line : ℕ → Placed × List ℕ → Type 0
    Line i u = NextLine sheet i s place room 0 u.0 u.1

    no-8 : {i : ℕ} → NextCause sheet i s place (length room) 8 → ⊥
    no-8 (NextCause.searched c) = elim c [ ]
