-- The bytes of frames: how many there are, the check values as the code works them out, and the parts one behind the other.
-- Assumes nothing.
use mathlib.Core.Path.{◌≡◌, sym, ap, ◌∙◌}
use mathlib.Core.List.{List, [], ◌∷◌, ◌++◌, append_assoc}
use Prim.Native.Nat.{ℕ, ◌+◌, ◌*◌, ◌≤◌}
use native.Mathlib.Omega.{arith}
use lib.ListN.{length, get_or, length-append}
use lib.Seq.{take_all}
use Rattle.digits.proofs.Laws.Hex.{length-hex}
use Rattle.digits.proofs.Laws.Parts.{part-front, take-ats}
use Rattle.digits.specs.Paper.Ascii.{ascii}
use Rattle.digits.specs.Paper.Bytes.{Bytes, part}
use Rattle.digits.specs.Paper.Decimal.{decimal}
use Rattle.digits.specs.Paper.Hex.{hex_byte, hex_bytes, hex_word}
use Rattle.digits.specs.Paper.LowFirst.{low_byte_first}
use Rattle.checks.proofs.Laws.Feed.{feed-append}
use Rattle.checks.specs.Paper.Buses.{nikobus_crc16, nikobus_crc8, nest_crc, nibe_xor, homiq_crc}
use Rattle.checks.specs.Paper.Check.{Check, feed, check}
use Rattle.layouts.proofs.Laws.HexDigits.{length-byte, length-word}
use Rattle.layouts.proofs.Laws.Nest.{nest-size}
use Rattle.layouts.proofs.Laws.Nibe.{nibe-size, covered-xor}
use Rattle.layouts.proofs.Laws.Nikobus.{link-size}
use Rattle.layouts.specs.Paper.Chars.{CR, LF}
use Rattle.layouts.specs.Paper.Homiq.{without_separators}
use Rattle.layouts.specs.Paper.Layout.{bytes_of}
use Rattle.layouts.specs.Paper.Made.{link_of, nest_of, nibe_of}
use Rattle.layouts.specs.Paper.Nest.{nest_with}
use Rattle.layouts.specs.Paper.Nibe.{nibe}
use Rattle.layouts.specs.Paper.Nikobus.{link, press, link_checked, nikobus}
use Rattle.puts.specs.Paper.Put.{Put}
use Rattle.puts.proofs.Laws.Puts.{put-length, front-count, front_bytes}
use Rattle.builds.specs.Work.Homiq.{around}

-- ---- Nikobus

module _ (p : List ℕ) where
  pub length-checked : (crc16 : ℕ) → length (link_checked p crc16) ≡ length p * 2 + 7
  length-checked crc16 =
      let a : List ℕ = ascii "$" ++ hex_byte (length p * 2 + 10) in
      let b : List ℕ = a ++ hex_bytes p in
      omega (arith, length-append b (hex_word crc16), length-append a (hex_bytes p), length-append (ascii "$") (hex_byte (length p * 2 + 10)), length-byte (length p * 2 + 10), length-hex p, length-word crc16)

  -- what CRC8 covers, then CRC8 and CR
  pub link-closed : (crc16 crc8 : ℕ) → link_checked p crc16 ++ hex_byte crc8 ++ (CR ∷ []) ≡ bytes_of nikobus (link p crc16 crc8)
  link-closed crc16 crc8 = regroup (ascii "$" ++ hex_byte (length p * 2 + 10) ++ hex_bytes p) (hex_word crc16) (hex_byte crc8) (CR ∷ [])
    where
      regroup : (a b c d : List ℕ) → a ++ b ++ c ++ d ≡ a ++ (b ++ c ++ d)
      regroup a b c d = simp append_assoc

  pub length-link : length p * 2 + 10 ≡ length (bytes_of nikobus (link_of p))
  length-link = sym (link-size p (check nikobus_crc16 p) (check nikobus_crc8 (link_checked p (check nikobus_crc16 p))))

-- ---- Nest

module _ (mark : List ℕ) (i : ℕ) (p : List ℕ) where
  pub length-nest : length mark + 4 + length p + 2 ≡ length (bytes_of (nest_with mark) (nest_of i p))
  length-nest = omega (arith, nest-size mark (nest_of i p))

-- a check in two pieces
two-fed : (c : Check) (v x y : ℕ) (a b : List ℕ) → v ≡ c.start → x ≡ feed c v a → y ≡ feed c x b → y ≡ check c (a ++ b)
two-fed c v x y a b ev ex ey = ey ∙ ap (λ (k : ℕ). feed c k b) (ex ∙ ap (λ (k : ℕ). feed c k a) ev) ∙ sym (feed-append c c.start a b)

-- ---- Nibe

pub length-nibe : (c : ℕ) (d : List ℕ) → length d + 4 ≡ length (bytes_of nibe (nibe_of c d))
length-nibe c d = sym (nibe-size (nibe_of c d))

-- ---- the parts as the code puts them

pub link-checked : (p : List ℕ) (x : ℕ) {ll word : List ℕ} → ll ≡ hex_byte (length p * 2 + 10) → x ≡ check nikobus_crc16 p → word ≡ hex_word x
    → ascii "$" ++ ll ++ hex_bytes p ++ word ≡ link_checked p (check nikobus_crc16 p)
link-checked p x el ex ew = rw (ew, ex, el)

-- what CRC8 covers stands at the front of the room by then
pub checked-front : (p : List ℕ) (crc16 : ℕ) {room later : List ℕ} {n : ℕ} → length p * 2 + 10 ≤ length room → Put room later 0 n (link_checked p crc16)
    → (n ≤ length later) × (part 0 n later ≡ link_checked p crc16)
checked-front p crc16 {room} {later} {n} h put =
    let fits : length (link_checked p crc16) ≤ length room = omega (arith, length-checked p crc16) in
    (omega (arith, put-length put, front-count put fits), part-front n later ∙ front_bytes put fits)

pub link-whole : (p : List ℕ) {y : ℕ} {byte : List ℕ} → y ≡ check nikobus_crc8 (link_checked p (check nikobus_crc16 p)) → byte ≡ hex_byte y
    → link_checked p (check nikobus_crc16 p) ++ byte ++ (CR ∷ []) ≡ bytes_of nikobus (link_of p)
link-whole p ey eb = rw (eb, ey) (link-closed p (check nikobus_crc16 p) (check nikobus_crc8 (link_checked p (check nikobus_crc16 p))))

pub nest-whole : (mark p : List ℕ) (i v x y z : ℕ) (id len crc : List ℕ) → id ≡ low_byte_first 2 i → len ≡ low_byte_first 2 (length p) → v ≡ nest_crc.start
    → x ≡ feed nest_crc v id → y ≡ feed nest_crc x len → z ≡ feed nest_crc y p → crc ≡ low_byte_first 2 z
    → mark ++ id ++ len ++ p ++ crc ≡ bytes_of (nest_with mark) (nest_of i p)
nest-whole mark p i v x y z id len crc ei el ev ex ey ez ec =
    let e : z ≡ check nest_crc (id ++ len ++ p) = ez ∙ ap (λ (k : ℕ). feed nest_crc k p) (two-fed nest_crc v x y id len ev ex ey) ∙ sym (feed-append nest_crc nest_crc.start (id ++ len) p) in
    rw (ec, e, ei, el)

pub nibe-whole : (c : ℕ) (d : List ℕ) (v x y : ℕ) → v ≡ nibe_xor.start → x ≡ feed nibe_xor v (length d ∷ []) → y ≡ feed nibe_xor x d
    → length d ≤ 255 → Bytes d → (0xC0 ∷ c ∷ length d ∷ []) ++ d ++ (y ∷ []) ≡ bytes_of nibe (nibe_of c d)
nibe-whole c d v x y ev ex ey short bytes = rw (two-fed nibe_xor v x y (length d ∷ []) d ev ex ey ∙ covered-xor d short bytes)

pub homiq-whole : (p : List ℕ) (x : ℕ) → x ≡ check homiq_crc (without_separators p) → ascii "<;" ++ p ++ ascii ";" ++ decimal x ++ (59 ∷ 62 ∷ CR ∷ LF ∷ []) ≡ around p
homiq-whole p x e = rw e (sym (append_assoc (ascii "<;" ++ p ++ ascii ";" ++ decimal (check homiq_crc (without_separators p))) (ascii ";>") (CR ∷ LF ∷ [])))

-- ---- a press

-- six characters, one by one
pub six : (d : List ℕ) → length d ≡ 6 → d ≡ get_or d 0 0 ∷ get_or d 1 0 ∷ get_or d 2 0 ∷ get_or d 3 0 ∷ get_or d 4 0 ∷ get_or d 5 0 ∷ []
six d h =
    let k : length d ≤ 6 = omega arith in
    sym (take_all 6 d k) ∙ take-ats d 6 0 (omega arith)

pub press-whole : (d : List ℕ) → length d ≡ 6
    → 35 ∷ 78 ∷ get_or d 0 0 ∷ get_or d 1 0 ∷ get_or d 2 0 ∷ get_or d 3 0 ∷ get_or d 4 0 ∷ get_or d 5 0 ∷ 13 ∷ [] ≡ bytes_of nikobus (press d)
press-whole d h = sym (ap (λ (u : List ℕ). ascii "#N" ++ u ++ (CR ∷ [])) (six d h))
