-- How values are spelt: a character by the tests of the code, and bytes one by one.
-- Assumes nothing.
use mathlib.Core.Path.{◌≡◌, refl, sym, ap, ap₂, ◌∙◌, subst}
use mathlib.Core.List.{List, [], ◌∷◌, ◌++◌, append_assoc, append-nil}
use Prim.Native.Nat.{ℕ, ◌+◌, ◌≤◌, ◌<◌}
use native.Mathlib.Numerals.{add-one}
use lib.ListN.{length, get_or, take, drop, take-append-drop}
use lib.Seq.{take-suc}
use borrow.Author.Tests.{lt-ltb, le-ltb, ne_eqb}
use Rattle.digits.proofs.Laws.Parts.{part-front, part-rest}
use Rattle.digits.specs.Paper.Ascii.{ascii}
use Rattle.digits.specs.Paper.Bytes.{part}
use Rattle.digits.specs.Paper.Hex.{hex_byte}
use Rattle.json_values.specs.Paper.Json.{escaped, each_escaped}

-- ---- a character

module _ (b : ℕ) where
  pub quote : b ≡ 34 → ascii "\\\"" ≡ escaped b
  unfolding escaped
  quote e = subst (λ (x : ℕ). ascii "\\\"" ≡ escaped x) (sym e) refl

  pub backslash : b ≡ 92 → ascii "\\\\" ≡ escaped b
  unfolding escaped
  backslash e = subst (λ (x : ℕ). ascii "\\\\" ≡ escaped x) (sym e) refl

  module _ (p : b ≡ 34 → ⊥) (q : b ≡ 92 → ⊥) where
    pub low : b < 0x20 → ascii "\\u00" ++ hex_byte b ≡ escaped b
    unfolding escaped
    low h = simp (ne_eqb b 34 p, ne_eqb b 92 q, lt-ltb b 32 h)

    pub high : 0x20 ≤ b → 0x7E < b → ascii "\\u00" ++ hex_byte b ≡ escaped b
    unfolding escaped
    high l h = simp (ne_eqb b 34 p, ne_eqb b 92 q, le-ltb b 32 l, lt-ltb 126 b h)

    pub plain : 0x20 ≤ b → b ≤ 0x7E → b ∷ [] ≡ escaped b
    unfolding escaped
    plain l h = simp (ne_eqb b 34 p, ne_eqb b 92 q, le-ltb b 32 l, le-ltb 126 b h)

-- ---- bytes one by one

-- what is spelt of bytes with one more behind them
pub escaped-last : (s : List ℕ) (b : ℕ) → each_escaped (s ++ (b ∷ [])) ≡ each_escaped s ++ escaped b
unfolding each_escaped
escaped-last [] b = append-nil (escaped b)
escaped-last (x ∷ s) b = ap (λ (l : List ℕ). escaped x ++ l) (escaped-last s b) ∙ sym (append_assoc (escaped x) (each_escaped s) (escaped b))

-- bytes, and others behind them
pub escaped-append : (s t : List ℕ) → each_escaped (s ++ t) ≡ each_escaped s ++ each_escaped t
unfolding each_escaped
escaped-append [] t = refl
escaped-append (x ∷ s) t = ap (λ (l : List ℕ). escaped x ++ l) (escaped-append s t) ∙ sym (append_assoc (escaped x) (each_escaped s) (each_escaped t))

-- ---- bytes that are spelt as themselves

module _ (s : List ℕ) (n : ℕ) where
  -- one more of them
  pub one-more-plain : n < length s → get_or s n 0 ∷ [] ≡ escaped (get_or s n 0) → each_escaped (take n s) ≡ take n s
      → each_escaped (take (n + 1) s) ≡ take (n + 1) s
  one-more-plain h p e = rw (add-one, take-suc s n 0 h, escaped-last, e, ← p)

  -- n of them at the head, and then the others
  pub plain_then : each_escaped (take n s) ≡ take n s → part 0 n s ++ each_escaped (part n (length s) s) ≡ each_escaped s
  plain_then e =
      ap₂ (λ (x y : List ℕ). x ++ each_escaped y) (part-front n s ∙ sym e) (part-rest n s) ∙ sym (escaped-append (take n s) (drop n s))
      ∙ ap each_escaped (take-append-drop n s)
