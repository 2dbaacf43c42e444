-- The map of a sheet: a byte stored for each row, and what a lookup in it says.
-- Assumes nothing.
use mathlib.Core.Path.{◌≡◌, refl, sym, ap, ◌∙◌, fun_ext}
use mathlib.Core.Bool.{Bool, true, false}
use mathlib.Core.List.{List, [], ◌∷◌, ◌++◌}
use mathlib.Core.Option.{Option, none, some}
use Prim.Native.Nat.{ℕ, zero, suc, ◌+◌, ◌-◌, ◌≤◌, ◌<◌}
use native.Mathlib.Nat.{add-zero, add-suc, suc-add}
use native.Mathlib.Numerals.{add-one}
use native.Mathlib.Omega.{arith}
use lib.Dec.{eqb, ltb}
use lib.ListN.{length, get_or, drop, set, replicate, length-set, length-replicate, get_or-replicate, get_or-append, get_or-eq_default}
use lib.Seq.{drop-cons, drop_at, drop-drop, set_at, set-append_left, get_or-set_same, get_or-set_other, ext_get_or}
use borrow.Author.Tests.{eqb-true, eqb-false, eq-eqb, ne_eqb, ltb-true, ltb-false}
use Rattle.sheet.specs.Paper.Sheet.{RegisterType, Row, Lookup, Rising, done, next, find}
use Rattle.sheet.specs.Paper.Map.{type_byte, map_byte, in_byte, lookup_in, bytes_from, registers, map_of}
use Rattle.sheet.specs.Work.Maps.{zeros, stores}
use Rattle.sheet.proofs.Laws.Bytes.{in-zero, byte-back}

-- ---- zeros

pub zeros-start : (s : List ℕ) → s ≡ zeros 0 ++ drop 0 s
unfolding zeros
zeros-start s = refl

pub zeros-next : (s t : List ℕ) (i : ℕ) → i < length s → t ≡ zeros i ++ drop i s → set t i 0 ≡ zeros (i + 1) ++ drop (i + 1) s
unfolding zeros
zeros-next s t i h e =
    let d : drop i s ≡ get_or s i 0 ∷ drop (suc i) s = drop-cons s i 0 h in
    ap (λ (x : List ℕ). set x i 0) (e ∙ ap (λ (x : List ℕ). replicate i 0 ++ x) d)
    ∙ set_at (replicate i 0) (get_or s i 0) (drop (suc i) s) 0 i (length-replicate i 0)
    ∙ more i (drop (suc i) s) ∙ ap (λ (k : ℕ). replicate k 0 ++ drop k s) (sym (add-one i))
  where
    more : (n : ℕ) (x : List ℕ) → replicate n 0 ++ 0 ∷ x ≡ replicate (suc n) 0 ++ x
    more zero x = refl
    more (suc n) x = ap (λ (l : List ℕ). 0 ∷ l) (more n x)

pub zeros-length : (n : ℕ) → length (zeros n) ≡ n
unfolding zeros
zeros-length n = length-replicate n 0

zeros-at : (n i : ℕ) → i < n → get_or (zeros n) i 0 ≡ 0
unfolding zeros
zeros-at n i h = get_or-replicate n i 0 0 h

-- the same, by a zero that stands before
pub zeros-again : (s t : List ℕ) (i : ℕ) → i < length s → 256 ≤ i → t ≡ zeros i ++ drop i s
    → set t i (get_or t (i - 256) 0) ≡ zeros (i + 1) ++ drop (i + 1) s
zeros-again s t i h k e =
    let l : i - 256 < length (zeros i) = omega (arith, zeros-length i) in
    let z : get_or t (i - 256) 0 ≡ 0 =
    ap (λ (x : List ℕ). get_or x (i - 256) 0) e ∙ get_or-append (zeros i) (drop i s) 0 (i - 256) l ∙ zeros-at i (i - 256) (omega arith) in
    ap (λ (v : ℕ). set t i v) z ∙ zeros-next s t i h e

-- what stands behind the zeros is as it was
pub zeros-behind : (s t : List ℕ) {k i : ℕ} → k ≤ i → t ≡ zeros k ++ drop k s → drop i t ≡ drop i s
zeros-behind s t {k} {i} h e =
    let j : k + (i - k) ≡ i = omega arith in
    let d : drop k t ≡ drop k s = ap (drop k) e ∙ drop_at (zeros k) (drop k s) k (zeros-length k) in
    ap (λ (n : ℕ). drop n t) (sym j) ∙ sym (drop-drop (i - k) k t) ∙ ap (drop (i - k)) d ∙ drop-drop (i - k) k s ∙ ap (λ (n : ℕ). drop n s) j

-- ---- a byte a register

pub length-bytes : (n k : ℕ) (look : Lookup) → length (bytes_from n k look) ≡ n
unfolding bytes_from
length-bytes zero k look = refl
length-bytes (suc n) k look = ap suc (length-bytes n (suc k) look)

bytes-at : (n k : ℕ) (look : Lookup) (i : ℕ) → i < n → get_or (bytes_from n k look) i 0 ≡ map_byte (look (k + i))
unfolding bytes_from
bytes-at zero k look i h = absurd (omega arith)
bytes-at (suc n) k look zero h = ap (λ (x : ℕ). map_byte (look x)) (sym (add-zero k))
bytes-at (suc n) k look (suc i) h =
    bytes-at n (suc k) look i (omega arith) ∙ ap (λ (x : ℕ). map_byte (look x)) (suc-add k i ∙ sym (add-suc k i))

-- ---- lookups

find-here : (r : Row) (rows : List Row) (i : ℕ) → r.register ≡ i → find (r ∷ rows) i ≡ some r.is
unfolding find
find-here r rows i e = simp (eq-eqb r.register i e)

find-later : (r : Row) (rows : List Row) (i : ℕ) → (r.register ≡ i → ⊥) → find (r ∷ rows) i ≡ find rows i
unfolding find
find-later r rows i n = simp (ne_eqb r.register i n)

by_register : (r : Row) (i : ℕ) {A : Type 0} → (r.register ≡ i → A) → ((r.register ≡ i → ⊥) → A) → A
by_register r i {A} f g = go (eqb r.register i) refl
  where
    go : (b : Bool) → eqb r.register i ≡ b → A
    go true e = f (eqb-true r.register i e)
    go false e = g (eqb-false r.register i e)

-- below the first register there is none
find-below : {least : ℕ} {rows : List Row} → Rising least rows → (i : ℕ) → i < least → find rows i ≡ none
unfolding find
find-below done i h = refl
find-below (next {r = r} {rows = rows} l k t) i h = find-later r rows i (λ e. omega arith) ∙ find-below t i (omega arith)

-- nor beyond the last that there can be
find-beyond : {least : ℕ} {rows : List Row} → Rising least rows → (i : ℕ) → registers ≤ i → find rows i ≡ none
unfolding find
find-beyond done i h = refl
find-beyond (next {r = r} {rows = rows} l k t) i h = find-later r rows i (λ e. omega (arith, l.register)) ∙ find-beyond t i h

-- ---- a byte stored for each row

abbrev or : Option RegisterType → ℕ → ℕ
or none b = b
or (some t) b = type_byte t

pub stores-cons : (m : List ℕ) (r : Row) (rows : List Row) → stores m (r ∷ rows) ≡ stores (set m r.register (type_byte r.is)) rows
unfolding stores
stores-cons m r rows = refl

pub stores-nil : (m : List ℕ) → stores m [] ≡ m
unfolding stores
stores-nil m = refl

stores-length : (m : List ℕ) (rows : List Row) → length (stores m rows) ≡ length m
stores-length m [] = ap length (stores-nil m)
stores-length m (r ∷ rows) =
    ap length (stores-cons m r rows) ∙ stores-length (set m r.register (type_byte r.is)) rows ∙ length-set m r.register (type_byte r.is)

stores_at : {least : ℕ} {rows : List Row} → Rising least rows → (m : List ℕ) → registers ≤ length m → (i : ℕ)
    → get_or (stores m rows) i 0 ≡ or (find rows i) (get_or m i 0)
unfolding find
stores_at done m h i = ap (λ (x : List ℕ). get_or x i 0) (stores-nil m)
stores_at (next {r = r} {rows = rows} l k t) m h i =
    let b : ℕ = type_byte r.is in
    let n : List ℕ = set m r.register b in
    ap (λ (x : List ℕ). get_or x i 0) (stores-cons m r rows)
    ∙ stores_at t n (omega (arith, length-set m r.register b)) i
    ∙ by_register r i
    (λ e.
    ap (λ (o : Option RegisterType). or o (get_or n i 0)) (find-below t i (omega arith))
    ∙ ap (λ (x : ℕ). get_or n x 0) (sym e) ∙ get_or-set_same m r.register b 0 (omega (arith, l.register))
    ∙ ap (λ (o : Option RegisterType). or o (get_or m i 0)) (sym (find-here r rows i e)))
    (λ f.
    ap (or (find rows i)) (get_or-set_other m r.register i b 0 (λ e. f (sym e)))
    ∙ ap (λ (o : Option RegisterType). or o (get_or m i 0)) (sym (find-later r rows i f)))

-- in the front of a room
stores-front : {least : ℕ} {rows : List Row} → Rising least rows → (m y : List ℕ) → registers ≤ length m → stores (m ++ y) rows ≡ stores m rows ++ y
stores-front done m y h = stores-nil (m ++ y) ∙ ap (λ (x : List ℕ). x ++ y) (sym (stores-nil m))
stores-front (next {r = r} {rows = rows} l k t) m y h =
    let b : ℕ = type_byte r.is in
    stores-cons (m ++ y) r rows
    ∙ ap (λ (x : List ℕ). stores x rows) (set-append_left m y r.register b (omega (arith, l.register)))
    ∙ stores-front t (set m r.register b) y (omega (arith, length-set m r.register b))
    ∙ ap (λ (x : List ℕ). x ++ y) (sym (stores-cons m r rows))

stored-all : {least : ℕ} {rows : List Row} (n : ℕ) → Rising least rows → registers ≤ n → stores (zeros n) rows ≡ bytes_from n 0 (find rows)
stored-all {rows = rows} n t h =
    ext_get_or 0 (stores (zeros n) rows) (bytes_from n 0 (find rows))
    (stores-length (zeros n) rows ∙ zeros-length n ∙ sym (length-bytes n 0 (find rows)))
    (λ i k.
    let l : i < n = omega (arith, stores-length (zeros n) rows, zeros-length n) in
    stores_at t (zeros n) (omega (arith, zeros-length n)) i
    ∙ ap (or (find rows i)) (zeros-at n i l) ∙ or-zero (find rows i)
    ∙ ap (λ (x : ℕ). map_byte (find rows x)) (zero-add i) ∙ sym (bytes-at n 0 (find rows) i l))
  where
    or-zero : (o : Option RegisterType) → or o 0 ≡ map_byte o
    or-zero none = refl
    or-zero (some t) = refl

    zero-add : (i : ℕ) → i ≡ 0 + i
    zero-add i = omega arith

pub length-map : (look : Lookup) → length (map_of look) ≡ registers
unfolding map_of
length-map look = length-bytes registers 0 look

-- ROWS STORED OVER ZEROS IN FRONT OF A ROOM ARE THE SHEET'S MAP
pub stored-map : {least : ℕ} {rows : List Row} → Rising least rows → (y : List ℕ) → stores (zeros registers ++ y) rows ≡ map_of (find rows) ++ y
unfolding map_of
stored-map t y =
    stores-front t (zeros registers) y (omega (arith, zeros-length registers))
    ∙ ap (λ (x : List ℕ). x ++ y) (stored-all registers t (omega arith))

-- ---- what a lookup in it says

says-find : {least : ℕ} {rows : List Row} → Rising least rows → (i : ℕ) → in_byte (map_byte (find rows i)) ≡ find rows i
unfolding find
says-find done i = in-zero refl
says-find (next {r = r} {rows = rows} l k t) i =
    by_register r i
    (λ e.
    ap (λ (o : Option RegisterType). in_byte (map_byte o)) (find-here r rows i e) ∙ byte-back r.is l.width l.decimals ∙ sym (find-here r rows i e))
    (λ f. ap (λ (o : Option RegisterType). in_byte (map_byte o)) (find-later r rows i f) ∙ says-find t i ∙ sym (find-later r rows i f))

looked-up : {least : ℕ} {rows : List Row} → Rising least rows → (i : ℕ) → lookup_in (map_of (find rows)) i ≡ find rows i
unfolding lookup_in map_of
looked-up {rows = rows} t i = go (ltb i registers) refl
  where
    go : (b : Bool) → ltb i registers ≡ b → in_byte (get_or (bytes_from registers 0 (find rows)) i 0) ≡ find rows i
    go true e =
        ap in_byte (bytes-at registers 0 (find rows) i (ltb-true i registers e) ∙ ap (λ (x : ℕ). map_byte (find rows x)) (zero-add i))
        ∙ says-find t i
      where
        zero-add : (i : ℕ) → 0 + i ≡ i
        zero-add i = omega arith
    go false e =
        let h : registers ≤ i = ltb-false i registers e in
        in-zero (get_or-eq_default (bytes_from registers 0 (find rows)) 0 (omega (arith, length-bytes registers 0 (find rows))))
        ∙ sym (find-beyond t i h)

-- A LOOKUP IN A SHEET'S MAP SAYS WHAT THE SHEET SAYS
pub lookup-is : {least : ℕ} {rows : List Row} → Rising least rows → lookup_in (map_of (find rows)) ≡ find rows
lookup-is t = fun_ext (looked-up t)
