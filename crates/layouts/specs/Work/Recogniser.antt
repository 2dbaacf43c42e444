-- What the code finds at the head of a list, of one bus.
-- Assumes nothing.
use Rattle.std.specs.Prelude.{Bool, true, ◌&&◌, List, [], ◌∷◌, ℕ, eqb}
use Rattle.layouts.specs.Work.Heads.{passing}
use Rattle.layouts.specs.declared.Compared.{Compared}

-- how long what is laid out so at the head of a list is, 0 for none; the values of its checks; and where its payload
-- begins and ends
pub record Recogniser : Type 0 where
  pub form : List ℕ → ℕ
  pub pairs : List ℕ → List Compared
  pub from : List ℕ → ℕ
  pub to : List ℕ → ℕ

-- in each pair the two values are the same
unfoldable pub agreeing : List Compared → Bool
agreeing [] = true
agreeing (c ∷ cs) = eqb c.found c.expected && agreeing cs

-- the length of the frame at the head of s, 0 for none
abbrev pub frame_len : Recogniser → List ℕ → ℕ
frame_len r s = passing r.form (λ w. agreeing (r.pairs w)) s
