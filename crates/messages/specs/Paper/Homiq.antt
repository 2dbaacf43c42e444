-- 01, Homiq: the fields of a payload "CMD;VAL;SRC;DST;ID;TYPE".
-- Assumes nothing.
use Rattle.std.specs.Prelude.{cond, List, [], ◌∷◌, ℕ, zero, suc, ◌+◌, ◌-◌, eqb, length}
use Rattle.digits.specs.Paper.Part.{Ends}

-- the characters up to the first `;`, and those behind it
unfoldable pub up_to : List ℕ → List ℕ
up_to [] = []
up_to (c ∷ s) = cond (eqb c 59) [] (c ∷ up_to s)

unfoldable pub past : List ℕ → List ℕ
past [] = []
past (c ∷ s) = cond (eqb c 59) s (past s)

-- the field with this number, from 0: CMD, VAL, SRC, DST, ID, TYPE
unfoldable pub field_at : ℕ → List ℕ → List ℕ
field_at zero s = up_to s
field_at (suc i) s = field_at i (past s)

-- what stands from that field on
unfoldable pub fields_from : ℕ → List ℕ → List ℕ
fields_from zero s = s
fields_from (suc i) s = fields_from i (past s)

-- where that field begins and ends; if there are fewer fields, both are the end of s (ours)
abbrev pub field_ends : ℕ → List ℕ → Ends
field_ends i s =
    record {
      from = length s - length (fields_from i s);
      to = length s - length (fields_from i s) + length (field_at i s);
    }
