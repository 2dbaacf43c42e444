-- Recognisers: the length of the word that stands at the head of a list, 0 for none.
-- Assumes nothing.
use Rattle.std.specs.Prelude.{Bool, true, false, ◌&&◌, cond, List, [], ◌∷◌, ℕ, zero, suc, ◌+◌, eqb, leb, ltb, length}
use Rattle.std.specs.Prelude.{take, drop, ◌≡◌, ◌≤◌, ◌<◌, Option, Some, None}
use Rattle.layouts.specs.Paper.Chars.{all}

-- n if the test holds, else 0
unfoldable pub only_if : Bool → ℕ → ℕ
only_if true n = n
only_if false n = 0

-- what the code answers of a length: that length, or none if it is 0
abbrev pub Lasts : ℕ → Option ℕ → Type 0
Lasts n None = n ≡ 0
Lasts n (Some k) = (k ≡ n) × (0 < k)

-- .. and of one in s
abbrev pub Ends : (List ℕ → ℕ) → List ℕ → Option ℕ → Type 0
Ends f s None = f s ≡ 0
Ends f s (Some k) = (k ≡ f s) × (0 < k) × (k ≤ length s)

-- s starts with p
unfoldable pub starts : List ℕ → List ℕ → Bool
starts [] s = true
starts (y ∷ p) [] = false
starts (y ∷ p) (x ∷ s) = eqb x y && starts p s

-- this word
unfoldable pub word_len : List ℕ → List ℕ → ℕ
word_len w s = only_if (starts w s) (length w)

-- k elements, of each of which f holds
unfoldable pub run_len : (ℕ → Bool) → ℕ → List ℕ → ℕ
run_len f k s = only_if (leb k (length s)) (only_if (all f (take k s)) k)

-- k bytes: what the code reads are bytes, so that it tests only the length
unfoldable pub is_byte : ℕ → Bool
is_byte b = ltb b 256

abbrev pub bytes_len : ℕ → List ℕ → ℕ
bytes_len k s = run_len is_byte k s

-- how many elements at the head f holds of
unfoldable pub leading : (ℕ → Bool) → List ℕ → ℕ
leading f [] = 0
leading f (x ∷ s) = cond (f x) (suc (leading f s)) 0

-- a place and a length behind it; 0 if either is
unfoldable pub on : ℕ → ℕ → ℕ
on zero n = 0
on (suc a) zero = 0
on (suc a) (suc n) = suc a + suc n

-- where what f recognises at a place ends
abbrev pub onward : (List ℕ → ℕ) → List ℕ → ℕ → ℕ
onward f s at = on at (f (drop at s))

-- h, and then f, which may look at what h found
abbrev pub and_then : (List ℕ → ℕ) → (List ℕ → List ℕ → ℕ) → List ℕ → ℕ
and_then h f s = onward (f (take (h s) s)) s (h s)

-- f, or else g
abbrev pub or_else : ℕ → ℕ → ℕ
or_else zero m = m
or_else (suc n) m = suc n

-- f, if what it found passes a test
abbrev pub passing : (List ℕ → ℕ) → (List ℕ → Bool) → List ℕ → ℕ
passing f test s = only_if (test (take (f s) s)) (f s)
