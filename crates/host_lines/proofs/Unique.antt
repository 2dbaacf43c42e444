-- Two answers that meet the promise of `bolsterweft_line_next` or `bolsterweft_line_next_with`, and the rooms afterwards, are the same. (Of the others see `right-written`
-- of `host`.)
-- Assumes nothing.
use mathlib.Core.List.{List}
use mathlib.Core.Option.{Option}
use mathlib.Core.Path.{◌≡◌, ap, ap₂}
use Prim.Native.Nat.{ℕ}
use Rattle.digits.proofs.Laws.Refusals.{one_answer}
use Rattle.lines.proofs.Laws.Next.{one-next-line}
use Rattle.sheet.specs.Paper.Sheet.{Lookup}
use Rattle.host_lines.specs.Paper.Answers.{WroteNext}
use Rattle.host_lines.specs.declared.Listed.{Listed}

pub line-next : {sheet : Option Lookup} {k place : ℕ} {s room x y : List ℕ} (r q : Listed) → WroteNext sheet k s place room r x → WroteNext sheet k s place room q y → (r ≡ q) × (x ≡ y)
line-next r q a b =
    let e = one_answer one-next-line a b in
    (ap₂ (λ i v. record { refusal = i; start = v.0.start; length = v.0.len; line_length = v.0.behind }) e.0 e.1, ap (λ v. v.1) e.1)
