-- How a frame begins: it has at least four bytes, and the first three are those that its bus allows, whatever stands behind it.
-- Assumes nothing.
use mathlib.Core.Bool.{Bool, true, false, ◌&&◌, ◌||◌}
use mathlib.Core.List.{List, [], ◌∷◌, ◌++◌}
use mathlib.Core.Path.{◌≡◌, refl}
use Prim.Native.Nat.{ℕ, ◌+◌, ◌*◌, ◌/◌, ◌≤◌, ◌<◌}
use native.Mathlib.Omega.{arith}
use lib.Dec.{T, leb, eqb, leb→le}
use lib.ListN.{length, get_or, length-append, get_or-append}
use borrow.Author.Tests.{le-leb}
use Rattle.digits.proofs.Laws.Hex.{digit-upper}
use Rattle.digits.proofs.Laws.Tests.{T_and, T_true}
use Rattle.digits.specs.Paper.Ascii.{ascii}
use Rattle.digits.specs.Paper.Decimal.{decimal}
use Rattle.digits.specs.Paper.Hex.{hex_byte, hex_word, hex_bytes, hex_digit}
use Rattle.digits.specs.Paper.LowFirst.{low_byte_first}
use Rattle.layouts.specs.Paper.Chars.{all}
use Rattle.layouts.specs.Paper.Layout.{bytes_of, Form}
use Rattle.layouts.specs.Paper.Starts.{first_three, nikobus_starts, nest_starts, nibe_starts, homiq_starts}
use Rattle.layouts.specs.declared.nest.Direction.{Direction}
use Rattle.layouts.specs.declared.nest.Direction.TheVariants.{Command, Response}
use Rattle.layouts.proofs.Laws.ByteRuns.{one_of_all}
use Rattle.layouts.specs.Paper.Homiq as homiqs
use Rattle.layouts.specs.Paper.Nest as nests
use Rattle.layouts.specs.Paper.Nibe as nibes
use Rattle.layouts.specs.Paper.Nikobus as N

-- how a frame begins
pub record Begun (starts : List ℕ → Bool) (f : List ℕ) : Type 0 where
  pub four : 4 ≤ length f
  pub mark : starts f ≡ true

-- ---- each bus

digit-between : (v : ℕ) → v < 16 → (48 ≤ hex_digit v) × (hex_digit v ≤ 78)
digit-between v h = go (hex_digit v) (digit-upper v h)
  where
    -- a number between two others
    between : (a b d : ℕ) → T (leb a d && leb d b) → (a ≤ d) × (d ≤ b)
    between a b d t = let q = T_and (leb a d) (leb d b) t in (leb→le a d q.0, leb→le d b q.1)

    go : (d : ℕ) → T ((leb 48 d && leb d 57) || (leb 65 d && leb d 70)) → (48 ≤ d) × (d ≤ 78)
    go d t = either (leb 48 d && leb d 57) refl t
      where
        either : (b : Bool) → (leb 48 d && leb d 57) ≡ b → T (b || (leb 65 d && leb d 70)) → (48 ≤ d) × (d ≤ 78)
        either true e k = let q = between 48 57 d (rw e tt) in (omega arith, omega arith)
        either false e k = let q = between 65 70 d k in (omega arith, omega arith)

-- bytes that begin so
begun : (test : ℕ → ℕ → ℕ → Bool) (f g : List ℕ) → f ≡ g → 4 ≤ length g → test (get_or g 0 0) (get_or g 1 0) (get_or g 2 0) ≡ true → Begun (first_three test) f
begun test f g e four mark =
    let three : 3 ≤ length g = omega arith in
    rw e (record { four = four; mark = rw (le-leb 3 (length g) three) mark })

abbrev nikobus_test : ℕ → ℕ → ℕ → Bool
nikobus_test a b c = (eqb a 36 || eqb a 35) && leb 48 b

pub nikobus-begun : (f : List ℕ) → Form N.nikobus f → Begun nikobus_starts f
unfolding nikobus_starts hex_byte hex_word
nikobus-begun f r = go r.fields r.limits r.laid
  where
    go : (m : N.Nikobus) → N.Limits m → f ≡ bytes_of N.nikobus m → Begun nikobus_starts f
    go (N.link p x y) (N.link-limits some short b c d) e =
        let z : List ℕ = hex_word x ++ hex_byte y ++ (0x0D ∷ []) in
        let l : (length p * 2 + 10) / 16 < 16 = omega arith in
        begun nikobus_test f (bytes_of N.nikobus (N.link p x y)) e (omega (arith, length-append (hex_bytes p) z))
        (le-leb 48 (hex_digit ((length p * 2 + 10) / 16)) (digit-between ((length p * 2 + 10) / 16) l).0)
    go (N.press d) (N.press-limits six hex) e = begun nikobus_test f (bytes_of N.nikobus (N.press d)) e (omega (arith, length-append d (0x0D ∷ []))) refl
    go N.tail N.tail-limits e = begun nikobus_test f (bytes_of N.nikobus N.tail) e (omega arith) refl

-- the second character is at most `N`
pub nikobus-second : (f : List ℕ) → Form N.nikobus f → get_or f 1 0 ≤ 78
unfolding hex_byte
nikobus-second f r = go r.fields r.limits r.laid
  where
    go : (m : N.Nikobus) → N.Limits m → f ≡ bytes_of N.nikobus m → get_or f 1 0 ≤ 78
    go (N.link p x y) (N.link-limits some short b c d) e =
        let l : (length p * 2 + 10) / 16 < 16 = omega arith in
        rw e (digit-between ((length p * 2 + 10) / 16) l).1
    go (N.press d) (N.press-limits six hex) e = rw e (omega arith)
    go N.tail N.tail-limits e = rw e (omega arith)

pub nest-begun : (d : Direction) (f : List ℕ) → Form (nests.nest d) f → Begun (nest_starts d) f
unfolding nest_starts low_byte_first
nest-begun Command f r =
    let m = r.fields in
    begun (λ a b c. eqb a 0xD5 && (eqb b 0xAA && eqb c 0x96)) f (bytes_of (nests.nest Command) m) r.laid (omega (arith, length-append m.payload (low_byte_first 2 m.crc))) refl
nest-begun Response f r =
    let m = r.fields in
    begun (λ a b c. eqb a 0xD5 && (eqb b 0xD5 && eqb c 0xAA)) f (bytes_of (nests.nest Response) m) r.laid (omega (arith, length-append m.payload (low_byte_first 2 m.crc))) refl

-- the commands all begin with 6
sixes : T (all (λ c. eqb (c / 16) 6) nibes.commands)
unfolding all
sixes = tt

pub nibe-begun : (f : List ℕ) → Form nibes.nibe f → Begun nibe_starts f
unfolding nibe_starts
nibe-begun f r =
    let m = r.fields in
    let six : T (eqb (m.command / 16) 6) = one_of_all (λ c. eqb (c / 16) 6) nibes.commands m.command sixes r.limits.command in
    begun (λ a b c. eqb a 0xC0 && eqb (b / 16) 6) f (bytes_of nibes.nibe m) r.laid (omega (arith, length-append m.content (m.xor ∷ []))) (T_true _ six)

pub homiq-begun : (f : List ℕ) → Form homiqs.homiq f → Begun homiq_starts f
unfolding homiq_starts
homiq-begun f r =
    let m = r.fields in
    let z : List ℕ = ascii ";" ++ decimal m.crc ++ ascii ";>" in
    begun (λ a b c. eqb a 60 && eqb b 59) f (bytes_of homiqs.homiq m) r.laid
    (omega (arith, length-append (homiqs.payload m) (homiqs.behind m), length-append z (0x0D ∷ 0x0A ∷ []))) refl

-- ---- what stands behind a frame changes nothing of how it begins

three-behind : (test : ℕ → ℕ → ℕ → Bool) (f t : List ℕ) → 3 ≤ length f → first_three test (f ++ t) ≡ first_three test f
three-behind test f t h =
    let at : (i : ℕ) → i < 3 → get_or (f ++ t) i 0 ≡ get_or f i 0 = λ i l. get_or-append f t 0 i (omega arith) in
    let n : leb 3 (length (f ++ t)) ≡ true = le-leb 3 (length (f ++ t)) (omega (arith, length-append f t)) in
    rw (n, le-leb 3 (length f) h, at 0 (omega arith), at 1 (omega arith), at 2 (omega arith))

module _ (f t : List ℕ) (h : 3 ≤ length f) where
  pub nikobus-behind : nikobus_starts (f ++ t) ≡ nikobus_starts f
  unfolding nikobus_starts
  nikobus-behind = three-behind nikobus_test f t h

  pub nest-behind : (d : Direction) → nest_starts d (f ++ t) ≡ nest_starts d f
  unfolding nest_starts
  nest-behind Command = three-behind (λ a b c. eqb a 0xD5 && (eqb b 0xAA && eqb c 0x96)) f t h
  nest-behind Response = three-behind (λ a b c. eqb a 0xD5 && (eqb b 0xD5 && eqb c 0xAA)) f t h

  pub nibe-behind : nibe_starts (f ++ t) ≡ nibe_starts f
  unfolding nibe_starts
  nibe-behind = three-behind (λ a b c. eqb a 0xC0 && eqb (b / 16) 6) f t h

  pub homiq-behind : homiq_starts (f ++ t) ≡ homiq_starts f
  unfolding homiq_starts
  homiq-behind = three-behind (λ a b c. eqb a 60 && eqb b 59) f t h
