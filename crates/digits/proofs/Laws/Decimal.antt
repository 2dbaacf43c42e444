-- Decimal digits: the two equations that say all of them, how many there are, and that no two numbers have the same.
-- Assumes nothing.
use mathlib.Core.Path.{◌≡◌, refl, sym, ap, ◌∙◌, subst}
use mathlib.Core.Bool.{Bool, true, false, cond}
use mathlib.Core.List.{List, [], ◌∷◌, ◌++◌, append_assoc, append-nil}
use Prim.Native.Nat.{ℕ, zero, suc, ◌+◌, ◌-◌, ◌*◌, ◌/◌, ◌%◌, ◌^◌, ◌≤◌, ◌<◌}
use native.Mathlib.Omega.{arith}
use native.Mathlib.Nat.{pow-suc, pow-le-pow_right, zero-lt-suc, le_refl, le_trans}
use native.Mathlib.Numerals.{add-one}
use lib.Dec.{ltb}
use lib.ListN.{length, get_or, take, drop, set, replicate, length-append, length-replicate, drop_of_length-le, get_or-append}
use lib.Seq.{drop-cons, drop_at, take_all}
use borrow.Author.Tests.{lt-ltb, le-ltb, ltb-true, ltb-false}
use Rattle.digits.specs.Paper.Decimal.{decimal_digit, decimal_in, enough, decimal}
use Rattle.digits.specs.Paper.Read.{Reads, is, none, Decides}
use Rattle.digits.specs.Paper.Answers.{AtEnd}
use Rattle.digits.specs.Work.Decimal.{guess}
use Rattle.digits.proofs.Laws.Tests.{told, untold}

-- a number is below 10, or it is not
by_ten : (n : ℕ) {C : Type 0} → (n < 10 → C) → (10 ≤ n → C) → C
by_ten n {C} a b = go (ltb n 10) refl
  where
    go : (t : Bool) → ltb n 10 ≡ t → C
    go true e = a (ltb-true n 10 e)
    go false e = b (ltb-false n 10 e)

-- ---- the two equations

in_small : (most n : ℕ) → n < 10 → decimal_in most n ≡ decimal_digit n ∷ []
unfolding decimal_in
in_small zero n h = refl
in_small (suc most) n h = simp (lt-ltb n 10 h)

in-more : (most n : ℕ) → 10 ≤ n → decimal_in (suc most) n ≡ decimal_in most (n / 10) ++ (decimal_digit (n % 10) ∷ [])
unfolding decimal_in
in-more most n h = simp (le-ltb n 10 h)

tenth-lt : (k n : ℕ) → n < 10 ^ suc (suc k) → n / 10 < 10 ^ suc k
tenth-lt k n h = let p : n < 10 ^ suc k * 10 = subst (λ (x : ℕ). n < x) (pow-suc 10 (suc k)) h in omega arith

-- any bound that is large enough gives the same
in-any : (f g n : ℕ) → n < 10 ^ suc f → n < 10 ^ suc g → decimal_in f n ≡ decimal_in g n
in-any zero g n h k = in_small zero n h ∙ sym (in_small g n h)
in-any (suc f) zero n h k = in_small (suc f) n k ∙ sym (in_small zero n k)
in-any (suc f) (suc g) n h k =
    by_ten n (λ l. in_small (suc f) n l ∙ sym (in_small (suc g) n l))
    (λ l. in-more f n l
    ∙ ap (λ (d : List ℕ). d ++ (decimal_digit (n % 10) ∷ [])) (in-any f g (n / 10) (tenth-lt f n h) (tenth-lt g n k))
    ∙ sym (in-more g n l))

below_power : (n : ℕ) → n < 10 ^ suc n
below_power zero = omega arith
below_power (suc n) = omega (arith, below_power n, pow-suc 10 (suc n))

is-enough : (n : ℕ) → n < 10 ^ suc (enough n)
unfolding enough
is-enough n = go (ltb n (10 ^ 20)) refl
  where
    go : (t : Bool) → ltb n (10 ^ 20) ≡ t → n < 10 ^ suc (cond t 19 n)
    go true e = ltb-true n (10 ^ 20) e
    go false e = below_power n

pub decimal-small : (n : ℕ) → n < 10 → decimal n ≡ decimal_digit n ∷ []
unfolding decimal
decimal-small n h = in_small (enough n) n h

pub decimal-more : (n : ℕ) → 10 ≤ n → decimal n ≡ decimal (n / 10) ++ (decimal_digit (n % 10) ∷ [])
unfolding decimal
decimal-more n h = go (enough n) (is-enough n)
  where
    go : (f : ℕ) → n < 10 ^ suc f → decimal_in f n ≡ decimal_in (enough (n / 10)) (n / 10) ++ (decimal_digit (n % 10) ∷ [])
    go zero k = absurd (omega arith)
    go (suc f) k =
        in-more f n h
        ∙ ap (λ (d : List ℕ). d ++ (decimal_digit (n % 10) ∷ []))
        (in-any f (enough (n / 10)) (n / 10) (tenth-lt f n k) (is-enough (n / 10)))

-- ---- how many

pub length_more : (n : ℕ) → 10 ≤ n → length (decimal n) ≡ length (decimal (n / 10)) + 1
length_more n h = ap length (decimal-more n h) ∙ length-append (decimal (n / 10)) (decimal_digit (n % 10) ∷ [])

pub length_some : (n : ℕ) → 0 < length (decimal n)
length_some n =
    by_ten n (λ h. omega (arith, ap length (decimal-small n h))) (λ h. omega (arith, length_more n h))

-- a number below 10 ^ k has at most k digits
pub length-decimal : (k n : ℕ) → n < 10 ^ suc k → length (decimal n) ≤ suc k
length-decimal zero n h = omega (arith, ap length (decimal-small n h))
length-decimal (suc k) n h =
    by_ten n (λ l. omega (arith, ap length (decimal-small n l)))
    (λ l. let p : n < 10 ^ suc k * 10 = subst (λ (x : ℕ). n < x) (pow-suc 10 (suc k)) h in
    omega (arith, length_more n l, length-decimal k (n / 10) (omega arith)))

-- ---- written from the last digit to the first

-- a store over the last zero
over_zero : (k v : ℕ) (done : List ℕ) → set (replicate (suc k) 0 ++ done) k v ≡ replicate k 0 ++ v ∷ done
over_zero zero v done = refl
over_zero (suc k) v done = ap (λ (l : List ℕ). 0 ∷ l) (over_zero k v done)

-- the digits that are done stand at the end of the room; the zeros before them have a place for each digit of the rest
pub record Left (room n : ℕ) (chars : List ℕ) (from rest : ℕ) : Type 0 where
  pub done : List ℕ
  pub whole : decimal n ≡ decimal rest ++ done
  pub chars-are : chars ≡ replicate (suc from) 0 ++ done
  pub place : suc from + length done ≡ room
  pub places : rest < 10 ^ suc from

pub left-start : (from n : ℕ) → n < 10 ^ suc from → Left (suc from) n (replicate (suc from) 0) from n
left-start from n h =
    record {
      done = [];
      whole = sym (append-nil (decimal n));
      chars-are = sym (append-nil (replicate (suc from) 0));
      place = omega arith;
      places = h;
    }

module _ {room n from rest : ℕ} {chars : List ℕ} (l : Left room n chars from rest) where
  stored : (v : ℕ) → set chars from v ≡ replicate from 0 ++ v ∷ l.done
  stored v = ap (λ (x : List ℕ). set x from v) l.chars-are ∙ over_zero from v l.done

  -- a rest of two digits or more leaves a place for the others
  pub place-left : 9 < rest → 1 ≤ from
  place-left h = go from l.places
    where
      go : (k : ℕ) → rest < 10 ^ suc k → 1 ≤ k
      go zero m = absurd (omega arith)
      go (suc k) m = omega arith

  pub left-next : 9 < rest → Left room n (set chars from (48 + rest % 10)) (from - 1) (rest / 10)
  left-next h =
      let p : 1 ≤ from = place-left h in
      let e : suc (from - 1) ≡ from = omega arith in
      let t : rest < 10 ^ from * 10 = subst (λ (x : ℕ). rest < x) (pow-suc 10 from) l.places in
      let d : rest / 10 < 10 ^ from = omega arith in
      record {
        done = decimal_digit (rest % 10) ∷ l.done;
        whole =
            l.whole ∙ ap (λ (x : List ℕ). x ++ l.done) (decimal-more rest h)
            ∙ append_assoc (decimal (rest / 10)) (decimal_digit (rest % 10) ∷ []) l.done;
        chars-are = stored (48 + rest % 10) ∙ ap (λ (k : ℕ). replicate k 0 ++ (48 + rest % 10) ∷ l.done) (sym e);
        place = omega (arith, l.place);
        places = subst (λ (k : ℕ). rest / 10 < 10 ^ k) (sym e) d;
      }

  pub left_end : rest ≤ 9 → AtEnd room (decimal n) (set chars from (48 + rest)) from
  left_end h =
      let e : decimal n ≡ decimal_digit rest ∷ l.done =
      l.whole ∙ ap (λ (x : List ℕ). x ++ l.done) (decimal-small rest (omega arith)) in
      record {
        place = omega (arith, l.place, ap length e);
        text-last = stored (48 + rest) ∙ ap (λ (x : List ℕ). replicate from 0 ++ x) (sym e);
      }

-- ---- and back

pub guess-append : (s t : List ℕ) (n : ℕ) → guess n (s ++ t) ≡ guess (guess n s) t
unfolding guess
guess-append [] t n = refl
guess-append (c ∷ s) t n = guess-append s t (n * 10 + (c + 2) % 10)

pub one-digit : (n v : ℕ) → v < 10 → guess n (decimal_digit v ∷ []) ≡ n * 10 + v
unfolding guess
one-digit n v h = let e : (48 + v + 2) % 10 ≡ v = omega arith in rw e

guess-in : (most n : ℕ) → n ≤ most → guess 0 (decimal n) ≡ n
guess-in zero n h = ap (guess 0) (decimal-small n (omega arith)) ∙ one-digit 0 n (omega arith) ∙ omega arith
guess-in (suc most) n h =
    by_ten n (λ l. ap (guess 0) (decimal-small n l) ∙ one-digit 0 n l ∙ omega arith)
    (λ l.
    let e : n / 10 * 10 + n % 10 ≡ n = omega arith in
    ap (guess 0) (decimal-more n l) ∙ guess-append (decimal (n / 10)) (decimal_digit (n % 10) ∷ []) 0
    ∙ ap (λ (x : ℕ). guess x (decimal_digit (n % 10) ∷ [])) (guess-in most (n / 10) (omega arith))
    ∙ one-digit (n / 10) (n % 10) (omega arith) ∙ e)

-- a number's digits are taken for that number
pub guess-decimal : (n : ℕ) → guess 0 (decimal n) ≡ n
guess-decimal n = guess-in n n (le_refl n)

-- NO TWO NUMBERS HAVE THE SAME DIGITS
pub decimal-inj : (m n : ℕ) → decimal m ≡ decimal n → m ≡ n
decimal-inj m n e = sym (guess-decimal m) ∙ ap (guess 0) e ∙ guess-decimal n

-- the loop over s: n has been made of i characters, and what is left makes the whole of it
pub record Guessing (s : List ℕ) (n i : ℕ) : Type 0 where
  pub within : i ≤ length s
  pub small : n < 10 ^ i
  pub rest : guess n (drop i s) ≡ guess 0 s

pub guessing-next : {s : List ℕ} {n i : ℕ} → Guessing s n i → i < length s → Guessing s (n * 10 + (get_or s i 0 + 2) % 10) (i + 1)
unfolding guess
guessing-next {s} {n} {i} g h =
    let p : 10 ^ (i + 1) ≡ 10 ^ i * 10 = ap (λ (k : ℕ). 10 ^ k) (add-one i) ∙ pow-suc 10 i in
    record {
      within = omega arith;
      small = omega (arith, g.small, p);
      rest =
          ap (λ (k : ℕ). guess (n * 10 + (get_or s i 0 + 2) % 10) (drop k s)) (add-one i)
          ∙ ap (guess n) (sym (drop-cons s i 0 h)) ∙ g.rest;
    }

pub guessing-end : {s : List ℕ} {n i : ℕ} → Guessing s n i → length s ≤ i → n ≡ guess 0 s
unfolding guess
guessing-end {s} {n} {i} g h = sym (ap (guess n) (drop_of_length-le s h)) ∙ g.rest

-- at most ten characters make no more than ten digits
pub guessing-lt : {s : List ℕ} {n i : ℕ} → Guessing s n i → length s ≤ 10 → n < 10 ^ 10
guessing-lt {s} {n} {i} g h =
    let p : 10 ^ i ≤ 10 ^ 10 = pow-le-pow_right (zero-lt-suc 9) (le_trans g.within h) in
    omega (arith, g.small)

-- ---- what reading answers

module _ (s : List ℕ) where
  pub none-long : 10 < length s → Reads 0 (λ n. n < 2 ^ 32) decimal 7 s 7 0
  none-long h = none (λ n l e. let k : length (decimal n) ≤ 10 = length-decimal 9 n (omega arith) in omega (arith, ap length e))

  pub none-large : (m : ℕ) → m ≡ guess 0 s → 4294967295 < m → Reads 0 (λ n. n < 2 ^ 32) decimal 7 s 7 0
  none-large m g h = none (λ n l e. let k : m ≡ n = g ∙ ap (guess 0) (sym e) ∙ guess-decimal n in omega arith)

  pub none_other : (m : ℕ) → m ≡ guess 0 s → (decimal m ≡ s → ⊥) → Reads 0 (λ n. n < 2 ^ 32) decimal 7 s 7 0
  none_other m g h = none (λ n l e. h (ap decimal (g ∙ ap (guess 0) (sym e) ∙ guess-decimal n) ∙ e))

-- the characters of a text at the end of its room
pub text-part : {room from : ℕ} {text chars : List ℕ} → AtEnd room text chars from → take (room - from) (drop from chars) ≡ text
text-part {room} {from} {text} {chars} a =
    ap (λ (l : List ℕ). take (room - from) (drop from l)) a.text-last
    ∙ ap (take (room - from)) (drop_at (replicate from 0) text from (length-replicate from 0))
    ∙ take_all (room - from) text (omega (arith, a.place))

pub length-chars : {room from : ℕ} {text chars : List ℕ} → AtEnd room text chars from → length chars ≡ room
length-chars {room} {from} {text} {chars} a =
    ap length a.text-last ∙ length-append (replicate from 0) text
    ∙ ap (λ (k : ℕ). k + length text) (length-replicate from 0) ∙ a.place

-- the test of the characters against the digits of the guessed number m
module _ (s : List ℕ) (m from : ℕ) (chars : List ℕ) (g : m ≡ guess 0 s) (d : AtEnd 20 (decimal m) chars from) where
  pub read_same : {b : Bool} → m ≤ 4294967295 → Decides (take (20 - from) (drop from chars) ≡ s) b → b ≡ true
      → Reads 0 (λ n. n < 2 ^ 32) decimal 7 s 0 m
  read_same h t e = is {v = m} (omega arith) (sym (text-part d) ∙ told t e)

  pub read-other : {b : Bool} → Decides (take (20 - from) (drop from chars) ≡ s) b → b ≡ false → Reads 0 (λ n. n < 2 ^ 32) decimal 7 s 7 0
  read-other t e = none_other s m g (λ f. untold t e (text-part d ∙ f))

-- ---- what the characters are

-- c is one of `0` to `9`
abbrev Digit : ℕ → Type 0
Digit c = (48 ≤ c) × (c ≤ 57)

one_char : (v i : ℕ) → v < 10 → i < 1 → Digit (get_or (decimal_digit v ∷ []) i 0)
one_char v zero h k = (omega arith, omega arith)
one_char v (suc i) h k = absurd (omega arith)

-- of a list with an element more, at a place in it: in the list, or that element
at_last : (s : List ℕ) (v i : ℕ) → v < 10 → ((k : ℕ) → k < length s → Digit (get_or s k 0)) → i < length s + 1 → Digit (get_or (s ++ (decimal_digit v ∷ [])) i 0)
at_last [] v i h f k = one_char v i h k
at_last (x ∷ s) v zero h f k = f 0 (omega arith)
at_last (x ∷ s) v (suc i) h f k = at_last s v i h (λ j l. f (suc j) (omega arith)) (omega arith)

chars-in : (most n : ℕ) → n ≤ most → (i : ℕ) → i < length (decimal n) → Digit (get_or (decimal n) i 0)
chars-in zero n h i k =
    let e = decimal-small n (omega arith) in
    subst (λ (d : List ℕ). Digit (get_or d i 0)) (sym e) (one_char n i (omega arith) (omega (arith, ap length e)))
chars-in (suc most) n h i k =
    by_ten n
    (λ l. let e = decimal-small n l in subst (λ (d : List ℕ). Digit (get_or d i 0)) (sym e) (one_char n i l (omega (arith, ap length e))))
    (λ l. subst (λ (d : List ℕ). Digit (get_or d i 0)) (sym (decimal-more n l))
    (at_last (decimal (n / 10)) (n % 10) i (omega arith) (chars-in most (n / 10) (omega arith)) (omega (arith, length_more n l))))

pub chars-digits : (n i : ℕ) → i < length (decimal n) → (48 ≤ get_or (decimal n) i 0) × (get_or (decimal n) i 0 ≤ 57)
chars-digits n i h = chars-in n n (le_refl n) i h

first-in : (most n : ℕ) → n ≤ most → 0 < n → 48 < get_or (decimal n) 0 0
first-in zero n h p = absurd (omega arith)
first-in (suc most) n h p =
    by_ten n
    (λ l. subst (λ (d : List ℕ). 48 < get_or d 0 0) (sym (decimal-small n l)) (omega arith))
    (λ l. subst (λ (d : List ℕ). 48 < get_or d 0 0) (sym (decimal-more n l))
    (rw (get_or-append (decimal (n / 10)) (decimal_digit (n % 10) ∷ []) 0 0 (length_some (n / 10)))
    (first-in most (n / 10) (omega arith) (omega arith))))

-- the first is no `0`, but of the number 0
pub no-leading-zero : (n : ℕ) → 0 < n → 48 < get_or (decimal n) 0 0
no-leading-zero n p = first-in n n (le_refl n) p
