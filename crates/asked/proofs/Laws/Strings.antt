-- Strings as the readers take them: characters, the bytes of hex digits, and fields of Homiq.
-- Assumes nothing.
use mathlib.Core.Bool.{Bool, true, false, not, ◌&&◌, ◌||◌, true≢false}
use mathlib.Core.List.{List, [], ◌∷◌, ◌++◌, append_assoc, append-nil}
use mathlib.Core.Path.{◌≡◌, refl, sym, ap, subst, ◌∙◌}
use Prim.Native.Nat.{ℕ, ◌+◌, ◌*◌, ◌/◌, ◌%◌, ◌≤◌, ◌<◌}
use native.Mathlib.Omega.{arith}
use lib.Dec.{T, eqb}
use lib.ListN.{length, get_or, take, drop, length-append, length-drop, drop_of_length-le}
use lib.Seq.{sets, take-append_seam, length-sets, length-take-le}
use borrow.Author.Tests.{le-leb}
use Rattle.std.specs.Prelude.{Result, Ok, Err, IfOk, Option, Some, None, is_some}
use Rattle.digits.specs.Paper.Answers.{ReadsDigit, ReadsByte}
use Rattle.digits.specs.Paper.Bytes.{Bytes, part}
use Rattle.digits.specs.Paper.Hex.{hex_digit, hex_byte, hex_bytes}
use Rattle.digits.specs.Paper.Read.{Decides, holds, fails}
use Rattle.digits.specs.Paper.Refusals.{refusal_number}
use Rattle.digits.specs.declared.refusal.Refusal.{Refusal}
use Rattle.digits.proofs.Laws.Bytes.{bytes-nil, bytes-cons, bytes-append}
use Rattle.digits.proofs.Laws.Hex.{figure-read, letter-read, length-hex, hex-append, digits-at}
use Rattle.digits.proofs.Laws.Parts.{next, part-front}
use Rattle.digits.proofs.Laws.Reads.{answered, refused}
use Rattle.digits.proofs.Laws.Refusals.{cause-at, some_number}
use Rattle.digits.proofs.Laws.Stores.{sets-append, sets-front}
use Rattle.digits.proofs.Laws.Tests.{T_true, told, untold}
use Rattle.puts.specs.Paper.Put.{Put}
use Rattle.puts.specs.Paper.Right as right
use Rattle.puts.specs.Paper.Right.{WroteRight}
use Rattle.puts.proofs.Laws.Wrote.{by_size}
use Rattle.layouts.specs.Paper.Chars.{all, one_of, is_hex}
use Rattle.layouts.specs.Paper.Homiq as homiqs
use Rattle.layouts.proofs.Laws.HexDigits.{digit-hex, hex-cases}
use Rattle.layouts.proofs.Laws.Runs.{all-by, all-at}
use Rattle.jsontext.specs.Paper.Members as members
use Rattle.jsontext.specs.Paper.Members.{IsString, CharactersCause, WritesCharacters}
use Rattle.jsontext.proofs.Theorems.{string-length}
use Rattle.shapes.specs.Paper.Fields.{Field, plain, hex, chars}
use Rattle.asked.specs.Paper.Field.{Spells, as_plain, as-hex, as-chars}
use Rattle.shapes.specs.Paper.Shapes.{IsOf, a-content, a-string, content, string}
use Rattle.asked.specs.Work.Got as got
use Rattle.asked.specs.Work.Got.{Limit, Reads, up_to, wire-field, Unhexes, are, many, unwritten_of, Holds, mapped}
use Rattle.asked.specs.declared.values.Reason.{Reason}
use Rattle.asked.specs.declared.values.Reason.TheVariants.{Large, NoValue}
use Rattle.asked.proofs.Laws.Lift.{one-string}
use Rattle.asked.proofs.Laws.Values.{not-4}

-- ---- characters put into a room

-- what was read stands at the front of a room, which is as long as it was
pub record Front (R : List ℕ → Type 0) (room later : List ℕ) (len : ℕ) : Type 0 where
  pub reads : R (take len later)
  pub within : len ≤ length room
  pub same : length later ≡ length room

-- the answer's number and count, taken apart
module _ {v room later : List ℕ} where
  -- all characters were put
  string-put : {n : ℕ} → WritesCharacters v room (Ok n) later → Front (IsString v) room later n
  string-put w = by w refl
    where
      by : {k m : ℕ} {t : List ℕ} → WroteRight (CharactersCause v (length room)) (IsString v) room k m t → k ≡ 0 → Front (IsString v) room t m
      by (right.wrote {bs = bs} f x) z =
          let l : length bs ≤ length room = by_size (λ h. h) (λ h. absurd (not-4 f (members.short x h))) in
          record {
            reads = subst (IsString v) (sym (take-append_seam bs (drop (length bs) room))) x;
            within = l;
            same = simp (length-append, length-drop) (omega arith);
          }
      by (right.refused p f) z = absurd (omega arith)

  -- or the room is as it was, and there is a cause
  unput : (why : Refusal) → WritesCharacters v room (Err why) later → CharactersCause v (length room) (refusal_number why) × (length later ≡ length room)
  unput why w = by w (some_number why)
    where
      by : {k m : ℕ} {t : List ℕ} → WroteRight (CharactersCause v (length room)) (IsString v) room k m t → 0 < k
          → CharactersCause v (length room) k × (length t ≡ length room)
      by (right.wrote f x) h = absurd (omega arith)
      by (right.refused p f) h = (cause-at f h, refl)

-- they are within the room
pub put-within : {v room later : List ℕ} {n : ℕ} → WritesCharacters v room (Ok n) later → n ≤ length later
put-within w = let f = string-put w in omega (arith, f.within, f.same)

-- a string of at most so many characters, in an answer
abbrev pub Fits : List ℕ → List ℕ → Result ℕ Reason → Type 0
Fits room later r = IfOk r (λ n. n ≤ length room) × (length later ≡ length room)

abbrev pub ReadsChars : List ℕ → List ℕ → List ℕ → Limit → Result ℕ Reason → Type 0
ReadsChars v room later limit r = Reads v string limit (mapped (λ n. plain (chars (take n later))) r)

module _ {v room later : List ℕ} where
  pub chars-put : {n : ℕ} → WritesCharacters v room (Ok n) later → ReadsChars v room later (up_to (length room)) (Ok n) × Fits room later (Ok n)
  chars-put {n} w =
      let f = string-put w in
      let l : length (take n later) ≡ n = length-take-le n later (omega (arith, f.within, f.same)) in
      (got.Reads.is a-string (as_plain (as-chars f.reads)) (omega (arith, f.within)), (f.within, f.same))

  pub chars-unput : (why : Refusal) {q : Reason} → WritesCharacters v room (Err why) later → q ≡ unwritten_of (refusal_number why) → ReadsChars v room later (up_to (length room)) (Err q) × Fits room later (Err q)
  chars-unput why w u = let x = unput why w in (rw u (by x.0), (tt, x.1))
    where
      by : {k : ℕ} → CharactersCause v (length room) k → Reads v string (up_to (length room)) (Err (unwritten_of k))
      by (members.no-string g) = got.Reads.none (λ h a x. no a x)
        where
          no : {h : Field} → IsOf string h → Spells v h → ⊥
          no a-string (as_plain (as-chars x)) = g _ x
      by (members.short x h) = got.Reads.large a-string (as_plain (as-chars x)) (λ l. omega (arith, l))

-- ---- the bytes that digits are

-- with the digits of i bytes read, those bytes are in the room, as far as it goes
pub record Unhexing (d room later : List ℕ) (i : ℕ) : Type 0 where
  pub passed : List ℕ
  pub bytes : Bytes passed
  pub count : length passed ≡ i
  pub digits : d ≡ hex_bytes passed ++ drop (i * 2) d
  pub put : later ≡ sets room 0 passed

pub none_yet : (d room : List ℕ) → Unhexing d room room 0
unfolding hex_bytes
none_yet d room = record { passed = []; bytes = bytes-nil; count = refl; digits = refl; put = refl }

one_byte : (b : ℕ) (t : List ℕ) → hex_bytes (b ∷ []) ++ t ≡ hex_byte b ++ t
unfolding hex_bytes
one_byte b t = append_assoc (hex_byte b) [] t

pub one_more : {d room later last : List ℕ} {i b m : ℕ} → i < length d / 2
    → ReadsByte (get_or d (i * 2) 0) (get_or d (i * 2 + 1) 0) (Some b) → Put later last i m (b ∷ []) → Unhexing d room later i
    → Unhexing d room last (i + 1)
one_more {d} {room} {later} {last} {i} {b} h digit w u =
    let a = answered (omega arith) digit refl in
    let p = u.passed in
    let rest : List ℕ = drop ((i + 1) * 2) d in
    let place : i ≡ 0 + length p = omega (arith, u.count) in
    let k : i * 2 + 1 + 1 ≡ (i + 1) * 2 = omega arith in
    let two : drop (i * 2) d ≡ hex_byte b ++ rest =
    next d (i * 2) (omega arith) ∙ ap {B = List ℕ} (λ t. get_or d (i * 2) 0 ∷ t) (next d (i * 2 + 1) (omega arith))
    ∙ ap {B = List ℕ} (λ j. get_or d (i * 2) 0 ∷ get_or d (i * 2 + 1) 0 ∷ drop j d) k ∙ ap {B = List ℕ} (λ x. x ++ rest) (sym a.1) in
    record {
      passed = p ++ (b ∷ []);
      bytes = bytes-append p (b ∷ []) u.bytes (bytes-cons a.0 bytes-nil);
      count = length-append p (b ∷ []) ∙ omega (arith, u.count);
      digits = u.digits ∙ ap {B = List ℕ} (λ x. hex_bytes p ++ x) (two ∙ sym (one_byte b rest)) ∙ sym (append_assoc (hex_bytes p) (hex_bytes (b ∷ [])) rest)
          ∙ ap {B = List ℕ} (λ x. x ++ rest) (sym (hex-append p (b ∷ [])));
      put = w.room-is ∙ ap {B = List ℕ} (λ j. sets later j (b ∷ [])) place ∙ ap {B = List ℕ} (λ x. sets x (0 + length p) (b ∷ [])) u.put
          ∙ sets-append p (b ∷ []) room 0;
    }

-- a room stays as long as it was
pub unhexing-length : {d room later : List ℕ} {i : ℕ} → Unhexing d room later i → length later ≡ length room
unhexing-length {room = room} u = ap length u.put ∙ length-sets room 0 u.passed

counted : {d : List ℕ} (p : List ℕ) → d ≡ hex_bytes p → length d ≡ length p * 2
counted p e = ap length e ∙ length-hex p

module _ {d room later : List ℕ} where
  pub odd-digits : (length d % 2 ≡ 0 → ⊥) → length later ≡ length room → Unhexes d room later (Err NoValue)
  odd-digits h k = got.Unhexes.none (λ p b e. let l = counted p e in h (omega arith)) k

  pub no-pair : {i : ℕ} → i < length d / 2 → ReadsByte (get_or d (i * 2) 0) (get_or d (i * 2 + 1) 0) None → length later ≡ length room → Unhexes d room later (Err NoValue)
  no-pair {i} h digit k =
      got.Unhexes.none
      (λ p b f.
      let q : i < length p = omega (arith, counted p f) in
      let g : hex_byte (get_or p i 0) ≡ get_or d (i * 2) 0 ∷ get_or d (i * 2 + 1) 0 ∷ [] =
      digits-at p i q ∙ ap (λ (l : List ℕ). get_or l (i * 2) 0 ∷ get_or l (i * 2 + 1) 0 ∷ []) (sym f) in
      refused (omega arith) digit refl (get_or p i 0) (b.each i) g) k

-- all are read
module _ {d room later : List ℕ} {i : ℕ} (u : Unhexing d room later i) (even : length d % 2 ≡ 0) (enough : length d / 2 ≤ i) where
  whole : d ≡ hex_bytes u.passed
  whole = u.digits ∙ ap {B = List ℕ} (λ x. hex_bytes u.passed ++ x) (drop_of_length-le d {i = i * 2} (omega arith)) ∙ append-nil (hex_bytes u.passed)

  size : length d / 2 ≡ length u.passed
  size = omega (arith, counted u.passed whole)

  pub too_many : length room < length d / 2 → Unhexes d room later (Err Large)
  too_many h = many u.bytes whole (omega (arith, size)) (unhexing-length u)

  pub all_read : length d / 2 ≤ length room → Unhexes d room later (Ok (length d / 2))
  all_read h = subst (λ (n : ℕ). Unhexes d room later (Ok n)) (sym size) (are u.bytes whole (omega (arith, size)) u.put)

-- ---- bytes in hex

abbrev pub ReadsContent : List ℕ → List ℕ → List ℕ → Result ℕ Reason → Type 0
ReadsContent v room later r = Reads v content (up_to (length room)) (mapped (λ n. plain (hex (take n later))) r) × Fits room later r

module _ {v room later : List ℕ} where
  -- by the string's characters
  by_digits : {d : List ℕ} {r : Result ℕ Reason} → IsString v d → Unhexes d room later r → ReadsContent v room later r
  by_digits x (are {p = p} b e fits s) =
      let t : later ≡ p ++ drop (length p) room = s ∙ sets-front p room fits in
      let q : take (length p) later ≡ p = ap {B = List ℕ} (take (length p)) t ∙ take-append_seam p (drop (length p) room) in
      (rw q (got.Reads.is a-content (as_plain (as-hex b (subst (IsString v) e x))) fits), (fits, ap length s ∙ length-sets room 0 p))
  by_digits x (many b e h s) =
      (got.Reads.large a-content (as_plain (as-hex b (subst (IsString v) e x))) (λ l. omega (arith, l)), (tt, s))
  by_digits {d} x (got.Unhexes.none f s) = (got.Reads.none (λ g a y. no a y), (tt, s))
    where
      no : {g : Field} → IsOf content g → Spells v g → ⊥
      no a-content (as_plain (as-hex {p = q} b y)) = f q b (one-string x y)

  pub content-put : {digits put : List ℕ} {n : ℕ} {q : Result ℕ Reason} → WritesCharacters v digits (Ok n) put → Unhexes (part 0 n put) room later q → ReadsContent v room later q
  content-put {put = put} {n = n} w u = by_digits (subst (IsString v) (sym (part-front n put)) (string-put w).reads) u

-- a room of as many bytes as a text may have is never too short
pub content-unput : (room later : List ℕ) {v digits put : List ℕ} (why : Refusal) → length digits ≡ 8192 → WritesCharacters v digits (Err why) put
    → length later ≡ length room → ReadsContent v room later (Err NoValue)
content-unput room later {v} {digits} why l w k = (got.Reads.none (λ g a y. no (unput why w).0 a y), (tt, k))
  where
    no : {j : ℕ} {g : Field} → CharactersCause v (length digits) j → IsOf content g → Spells v g → ⊥
    no (members.no-string f) a-content (as_plain (as-hex b y)) = f _ y
    no (members.short {cs = cs} x h) a y = omega (arith, string-length v cs x, x.short)

-- ---- characters tested one by one

-- f holds of those before i
abbrev pub Passed : (ℕ → Bool) → List ℕ → ℕ → Type 0
Passed f s i = (k : ℕ) → k < i → f (get_or s k 0) ≡ true

pub all-passed : (f : ℕ → Bool) (s : List ℕ) {i : ℕ} → Passed f s i → length s ≤ i → Decides (T (all f s)) true
all-passed f s h l = holds (all-by f s (λ k m. h k (omega arith)))

pub one-fails : (f : ℕ → Bool) (s : List ℕ) {i : ℕ} → i < length s → (T (f (get_or s i 0)) → ⊥) → Decides (T (all f s)) false
one-fails f s {i} l h = fails (λ a. h (all-at f s i a l))

pub T_false : (b : Bool) → b ≡ false → T b → ⊥
T_false true e t = true≢false e
T_false false e t = t

-- a hex digit, by its reading
pub digit-told : {c : ℕ} (r : Option ℕ) → ReadsDigit c r → is_some r ≡ true → is_hex c ≡ true
digit-told {c} (Some v) d e =
    let a = answered (omega arith) d refl in
    let h : hex_digit v ≡ c = cc a.1 in
    T_true (is_hex c) (subst (λ (x : ℕ). T (is_hex x)) h (digit-hex v a.0))
digit-told None d e = absurd (true≢false (sym e))

pub digit-none : {c : ℕ} (r : Option ℕ) → ReadsDigit c r → is_some r ≡ false → T (is_hex c) → ⊥
digit-none (Some v) d e t = true≢false e
digit-none {c} None d e t =
    let no = refused (omega arith) d refl in
    hex-cases c ⊥ t
    (λ h k. let a = answered (omega arith) (figure-read c h k) refl in no _ a.0 a.1)
    (λ h k. let a = answered (omega arith) (letter-read c h k) refl in no _ a.0 a.1)

-- ---- fields of Homiq

pub field-char : (c : ℕ) → 0x21 ≤ c → c ≤ 0x7E → ((not (eqb c 59) && not (eqb c 60)) && not (eqb c 62)) ≡ homiqs.field_char c
unfolding homiqs.field_char one_of
field-char c h k = simp (le-leb 0x21 c h, le-leb c 0x7E k) (neither (eqb c 59) (eqb c 60) (eqb c 62))
  where
    neither : (x y z : Bool) → ((not x && not y) && not z) ≡ not (x || (y || (z || false)))
    neither true y z = refl
    neither false true z = refl
    neither false false true = refl
    neither false false false = refl

module _ (room later : List ℕ) {v : List ℕ} where
  -- no string, or too long
  pub no_field : {why : Reason} → Reads v string (up_to (length room)) (Err why) → ReadsChars v room later (wire-field (length room)) (Err why)
  no_field (got.Reads.large a x y) = got.Reads.large a x (λ w. y w.short)
  no_field (got.Reads.none y) = got.Reads.none y

  -- a string that is no field: it is empty, or has another character; or it is one
  module _ {n : ℕ} (read : ReadsChars v room later (up_to (length room)) (Ok n)) (fits : Fits room later (Ok n)) where
    no-such : (Holds (wire-field (length room)) (plain (chars (take n later))) → ⊥) → ReadsChars v room later (wire-field (length room)) (Err Large)
    no-such h = by read
      where
        by : Reads v string (up_to (length room)) (Ok (plain (chars (take n later)))) → ReadsChars v room later (wire-field (length room)) (Err Large)
        by (got.Reads.is a x y) = got.Reads.large a x h

    pub empty-field : n ≡ 0 → ReadsChars v room later (wire-field (length room)) (Err Large)
    empty-field z = no-such (λ w. omega (arith, w.some, fits, z, length-take-le n later (omega (arith, fits))))

    pub not-field : {b : Bool} → Decides (T (all homiqs.field_char (part 0 n later))) b → b ≡ false → ReadsChars v room later (wire-field (length room)) (Err Large)
    not-field d f = no-such (λ w. untold d f (subst (λ (x : List ℕ). T (all homiqs.field_char x)) (sym (part-front n later)) w.chars))

    pub a-field : {b : Bool} → (n ≡ 0 → ⊥) → Decides (T (all homiqs.field_char (part 0 n later))) b → b ≡ true
        → ReadsChars v room later (wire-field (length room)) (Ok n)
    a-field h d f = by read
      where
        by : Reads v string (up_to (length room)) (Ok (plain (chars (take n later)))) → ReadsChars v room later (wire-field (length room)) (Ok n)
        by (got.Reads.is a x y) =
            got.Reads.is a x
            (record {
              some = omega (arith, h, fits, length-take-le n later (omega (arith, fits)));
              short = y;
              chars = subst (λ (x : List ℕ). T (all homiqs.field_char x)) (part-front n later) (told d f);
            })
