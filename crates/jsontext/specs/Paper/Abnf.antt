-- RFC 5234: the operators of ABNF.
-- Assumes nothing.
use Rattle.std.specs.Prelude.{List, ◌∷◌, ◌++◌, ◌≡◌, ◌⊎◌, ℕ, ◌≤◌}

-- A rule: `r s t` says that s begins with what r derives, and t stands behind it.
abbrev pub Rule : Type 1
Rule = List ℕ → List ℕ → Type 0

-- %x_hh, %x_hh-HH, and a text
abbrev pub byte : ℕ → Rule
byte b s t = s ≡ b ∷ t

abbrev pub range : ℕ → ℕ → Rule
range low high s t = (b : ℕ) × (low ≤ b) × (b ≤ high) × (s ≡ b ∷ t)

abbrev pub text : List ℕ → Rule
text w s t = s ≡ w ++ t

-- one rule behind the other; one or the other; one or nothing
infixr 60 ◌⨾◌
abbrev pub ◌⨾◌ : Rule → Rule → Rule
(a ⨾ b) s t = (m : List ℕ) × a s m × b m t

infixr 50 ◌∕◌
abbrev pub ◌∕◌ : Rule → Rule → Rule
(a ∕ b) s t = a s t ⊎ b s t

abbrev pub opt : Rule → Rule
opt a s t = a s t ⊎ (s ≡ t)

-- *rule, and 1*rule
pub data many (a : Rule) : List ℕ → List ℕ → Type 0 where
  done : {s : List ℕ} → many a s s
  more : {s m t : List ℕ} → a s m → many a m t → many a s t

abbrev pub some : Rule → Rule
some a = a ⨾ many a
