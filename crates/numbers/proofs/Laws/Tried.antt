-- Whether a text is a number's, as a test that computes: so that a text is shown to be none's by computing.
-- Assumes nothing.
use Rattle.std.specs.Prelude.{Result}
use mathlib.Core.Path.{◌≡◌, refl, sym, ap, ◌∙◌}
use mathlib.Core.Bool.{Bool, true, false, ◌&&◌, true≢false}
use mathlib.Core.List.{List, [], ◌∷◌}
use Prim.Native.Nat.{ℕ, ◌≤◌}
use native.Mathlib.Omega.{arith}
use lib.Dec.{leb, eqb}
use lib.IntN.{ℤ, nat_abs}
use borrow.Author.Tests.{eq-eqb, le-leb}
use Rattle.digits.proofs.Laws.Reads.{no-reading}
use Rattle.digits.specs.declared.refusal.Refusal.{Refusal}
use Rattle.numbers.specs.Paper.Raw.{most_decimals}
use Rattle.numbers.specs.Paper.Text.{below_zero, text}
use Rattle.numbers.specs.Paper.Answers.{reading_refusal, ReadsText}
use Rattle.numbers.specs.Work.Text.{behind}
use Rattle.numbers.specs.declared.text.Reading.{Reading}
use Rattle.numbers.proofs.Laws.Reader.{taken, taken-text, behind-text}

-- the only number whose text t can be is the one that its characters are taken for: this tries it
abbrev alike : List ℕ → List ℕ → Bool
alike [] [] = true
alike [] (d ∷ t) = false
alike (c ∷ s) [] = false
alike (c ∷ s) (d ∷ t) = eqb c d && alike s t

abbrev pub is_text : List ℕ → Bool
is_text t = leb (behind t) most_decimals && alike (text (taken t) (behind t)) t

alike_same : (t : List ℕ) → alike t t ≡ true
alike_same [] = refl
alike_same (c ∷ t) = ap (λ (b : Bool). b && alike t t) (eq-eqb c c refl) ∙ alike_same t

text-is-text : (z : ℤ) (d : ℕ) → d ≤ most_decimals → is_text (text z d) ≡ true
text-is-text z d h =
    let e = behind-text (below_zero z) (nat_abs z) d in
    ap (λ (k : ℕ). leb k most_decimals && alike (text (taken (text z d)) k) (text z d)) e
    ∙ ap (λ (b : Bool). b && alike (text (taken (text z d)) d) (text z d)) (le-leb d most_decimals h)
    ∙ ap (λ (y : ℤ). alike (text y d) (text z d)) (taken-text z d)
    ∙ alike_same (text z d)

pub refused-unless : (t : List ℕ) → is_text t ≡ false → (r : Result Reading Refusal) → ReadsText t r → reading_refusal r ≡ 7
refused-unless t f r a =
    no-reading (omega arith) (λ n l e. true≢false (sym (text-is-text n.raw n.decimals l.few) ∙ ap is_text e ∙ f)) a
