-- For each public function: two answers that meet its promise, and the rooms afterwards, are the same.
-- Assumes nothing.
use mathlib.Core.Path.{◌≡◌, sym, ◌∙◌, ap}
use mathlib.Core.List.{List}
use Prim.Native.Nat.{ℕ}
use Rattle.puts.specs.Paper.Wrote.{Written}
use Rattle.puts.proofs.Laws.Right.{one-wrote}
use Rattle.messages.specs.Paper.Says.{Says}
use Rattle.messages.specs.Paper.Table.{bytes}
use Rattle.messages.specs.declared.Message.{Message as Coded}
use Rattle.messages.proofs.Laws.Says.{one-said}
use Rattle.commands.specs.Paper.Acknowledge.{acknowledgement, AcknowledgementOf, Acknowledges}
use Rattle.commands.specs.Paper.Answers.{MeantBytes, Encodes}
use Rattle.commands.proofs.Laws.Acknowledged.{one-frame-of}

-- encode
one-bytes : (e : Coded) (s : List ℕ) (a b : List ℕ) → MeantBytes (Says e s) a → MeantBytes (Says e s) b → a ≡ b
one-bytes e s a b p q = p.is ∙ ap bytes (one-said e s p.message q.message p.meant q.meant) ∙ sym q.is

pub encode : (k : ℕ) (e : Coded) (s room : List ℕ) {t u : List ℕ} (r q : Written) → Encodes k e s room r t → Encodes k e s room q u → (r ≡ q) × (t ≡ u)
encode k e s room r q a b = one-wrote (one-bytes e s) {r = r} {q = q} a b

-- acknowledge
pub acknowledgement-one : {f : List ℕ} (a b : List ℕ) → AcknowledgementOf f a → AcknowledgementOf f b → a ≡ b
acknowledgement-one a b p q = p.is ∙ ap acknowledgement (one-frame-of p.frame q.frame) ∙ sym q.is

pub acknowledge : (f room : List ℕ) {t u : List ℕ} (r q : Written) → Acknowledges f room r t → Acknowledges f room q u → (r ≡ q) × (t ≡ u)
acknowledge f room r q a b = one-wrote acknowledgement-one {r = r} {q = q} a b
