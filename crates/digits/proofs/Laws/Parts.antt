-- Parts of a list: how long they are, parts of parts, and a list as its parts one after the other.
-- Assumes nothing.
use mathlib.Core.Path.{◌≡◌, refl, sym, ap, ◌∙◌}
use Prim.Native.Nat.{ℕ, zero, suc, ◌+◌, ◌-◌, ◌≤◌, ◌<◌}
use mathlib.Core.List.{List, [], ◌∷◌, ◌++◌}
use native.Mathlib.Numerals.{add-one}
use native.Mathlib.Omega.{arith}
use lib.ListN.{length, get_or, take, drop, length-take, length-drop}
use lib.Seq.{take-nil, take_all, take-add, take-take, take_at, drop_at, drop-drop, get_or-take, get_or-drop, drop-cons}
use Rattle.digits.specs.Paper.Bytes.{part}

pub length_part : (a e : ℕ) (s : List ℕ) → a ≤ e → e ≤ length s → length (part a e s) ≡ e - a
length_part a e s h k = simp (length-take, length-drop) (omega arith)

pub part_at : (a e : ℕ) (s : List ℕ) (i : ℕ) → i < e - a → get_or (part a e s) i 0 ≡ get_or s (a + i) 0
part_at a e s i h = rw (get_or-take, get_or-drop)

-- the whole, and what is left from a place on
pub part-all : (s : List ℕ) → part 0 (length s) s ≡ s
part-all s = take_all (length s - 0) s (omega arith)

pub from_0 : (s : List ℕ) (k : ℕ) → k ≡ 0 → take (length s - k) (drop k s) ≡ s
from_0 s k e = rw e (part-all s)

pub but_0 : (s : List ℕ) (k : ℕ) → k ≡ 0 → take (length s - k) s ≡ s
but_0 s k e = take_all (length s - k) s (omega arith)

pub part-front : (e : ℕ) (s : List ℕ) → part 0 e s ≡ take e s
part-front e s = let z : e - 0 ≡ e = omega arith in rw z

pub part-rest : (a : ℕ) (s : List ℕ) → part a (length s) s ≡ drop a s
part-rest a s = take_all (length s - a) (drop a s) (omega (arith, length-drop a s))

-- the element at a place, and what is left behind it
pub next : (s : List ℕ) (i : ℕ) → i < length s → drop i s ≡ get_or s i 0 ∷ drop (i + 1) s
next s i h = rw (add-one, drop-cons s i 0)

-- what the front of a list has from a place on
pub front_rest : (a e : ℕ) (s : List ℕ) → a ≤ e → drop a (take e s) ≡ part a e s
front_rest zero e s h = let z : e - 0 ≡ e = omega arith in rw z
front_rest (suc a) zero s h = absurd (omega arith)
front_rest (suc a) (suc e) [] h = sym (take-nil (suc e - suc a))
front_rest (suc a) (suc e) (x ∷ s) h = let z : suc e - suc a ≡ e - a = omega arith in rw z (front_rest a e s (omega arith))

-- two parts that meet are one
pub part_join : (a m e : ℕ) (s : List ℕ) → a ≤ m → m ≤ e → part a m s ++ part m e s ≡ part a e s
part_join a m e s h k =
    let x : a + (m - a) ≡ m = omega arith in
    let y : (m - a) + (e - m) ≡ e - a = omega arith in
    ap (λ (t : List ℕ). part a m s ++ take (e - m) t) (ap (λ (n : ℕ). drop n s) (sym x) ∙ sym (drop-drop (m - a) a s))
    ∙ sym (take-add (m - a) (e - m) (drop a s)) ∙ ap (λ (n : ℕ). take n (drop a s)) y

-- a part of a part
pub part-of-part : (i j a b : ℕ) (s : List ℕ) → i ≤ a → a ≤ b → b ≤ j → part (a - i) (b - i) (part i j s) ≡ part a b s
part-of-part i j a b s h k l =
    let m : (b - i) - (a - i) ≡ b - a = omega arith in
    let n : i + (a - i) ≡ a = omega arith in
    let few : b - a ≤ (j - i) - (a - i) = omega arith in
    ap (λ (x : ℕ). take x (drop (a - i) (part i j s))) m
    ∙ ap (take (b - a)) (front_rest (a - i) (j - i) (drop i s) (omega arith))
    ∙ take-take (b - a) ((j - i) - (a - i)) (drop (a - i) (drop i s)) few
    ∙ ap (take (b - a)) (drop-drop (a - i) i s ∙ ap (λ (x : ℕ). drop x s) n)

-- of three lists one behind the other, the middle one
pub part-middle : (x y z : List ℕ) (a e : ℕ) → length x ≡ a → a + length y ≡ e → part a e (x ++ (y ++ z)) ≡ y
part-middle x y z a e h k =
    ap (take (e - a)) (drop_at x (y ++ z) a h) ∙ take_at y z (e - a) (omega arith)

-- k elements of s from j on, one by one
abbrev pub ats : List ℕ → ℕ → ℕ → List ℕ
ats s j zero = []
ats s j (suc k) = get_or s j 0 ∷ ats s (suc j) k

pub take-ats : (s : List ℕ) (k j : ℕ) → j + k ≤ length s → take k (drop j s) ≡ ats s j k
take-ats s zero j h = refl
take-ats s (suc k) j h =
    let l : j < length s = omega arith in
    rw (drop-cons s j 0 l) (ap {B = List ℕ} (λ r. get_or s j 0 ∷ r) (take-ats s k (suc j) (omega arith)))
