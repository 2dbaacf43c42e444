-- What the definitions of check values come to, for a reader. Each holds once for every width, polynomial, start and bit order,
-- or for all the checks of the buses.
-- Assumes nothing.
use mathlib.Core.Bool.{true}
use mathlib.Core.List.{List, [], ◌∷◌, ◌++◌, Memᴰ}
use mathlib.Core.Path.{◌≡◌}
use Prim.Native.Nat.{ℕ, ◌^◌, ◌<◌}
use lib.ListN.{length}
use Rattle.digits.specs.Paper.Bytes.{Bytes}
use Rattle.checks.specs.Paper.Bits.{high_bit_first, bits_of_bytes}
use Rattle.checks.specs.Paper.Check.{Check, poly_bits, feed, check}
use Rattle.checks.specs.Paper.Buses.{nest_crc, nibe_xor, checks}
use Rattle.checks.specs.Paper.Xor.{xor_of}
use Rattle.checks.specs.Paper.Stretch.{FitIn, Burst}
use Rattle.checks.specs.Work.Terms.{last_set}
use Rattle.checks.proofs.Laws.Feed as feeds
use Rattle.checks.proofs.Laws.Burst as bursts
use Rattle.checks.proofs.Laws.Rotate as rotates
use Rattle.checks.proofs.Laws.Unseen as unseen

-- FEEDING IN PIECES IS FEEDING THE WHOLE
pub in_pieces : (c : Check) (v : ℕ) (a b : List ℕ) → feed c v (a ++ b) ≡ feed c (feed c v a) b
in_pieces = feeds.feed-append

-- A CHECK VALUE IS BELOW 2^width
pub below : (c : Check) (s : List ℕ) → check c s < 2 ^ c.width
below = feeds.check-lt

-- A BURST IS FOUND: of a check whose polynomial has the constant term 1, from any state, as many bytes whose differing bits fit in a
-- stretch as long as the check is wide, and that lead to the same state, are the same bytes
pub burst-found : (c : Check) → last_set (poly_bits c) ≡ true → (v : ℕ) (a b : List ℕ) → Bytes a → Bytes b → length a ≡ length b
    → Burst c a b → feed c v a ≡ feed c v b → a ≡ b
burst-found = bursts.burst-bytes

-- BY EVERY CHECK OF THE BUSES
pub burst-found-on-the-buses : (c : Check) → Memᴰ c checks → (a b : List ℕ) → Bytes a → Bytes b → length a ≡ length b
    → Burst c a b → check c a ≡ check c b → a ≡ b
burst-found-on-the-buses = bursts.found

-- NIBE'S CHECK IS THE XOR OF THE BYTES
pub nibe-xor : (s : List ℕ) → Bytes s → check nibe_xor s ≡ xor_of s
nibe-xor = rotates.xor-law

-- 01, known point (l): A STRETCH OF 17 CAN GO UNSEEN by a check of 16 bits, whatever stands before it
pub seventeen : FitIn 17 (bits_of_bytes high_bit_first (0x00 ∷ 0x00 ∷ 0x00 ∷ [])) (bits_of_bytes high_bit_first (0x01 ∷ 0x10 ∷ 0x21 ∷ []))
seventeen = unseen.fit-in-17

pub seventeen-unseen : (head : List ℕ)
    → check nest_crc (head ++ (0x00 ∷ 0x00 ∷ 0x00 ∷ [])) ≡ check nest_crc (head ++ (0x01 ∷ 0x10 ∷ 0x21 ∷ []))
seventeen-unseen = unseen.nest-sharp
