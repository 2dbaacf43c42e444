-- The parts of a Homiq frame, each with the `;` behind it: a field, a number, TYPE.
-- Assumes nothing.
use mathlib.Core.Bool.{Bool, true, false, ◌||◌, not, or-false}
use mathlib.Core.List.{List, [], ◌∷◌, ◌++◌}
use mathlib.Core.Path.{◌≡◌, refl, sym, ◌∙◌, ap, ap₂}
use Prim.Native.Nat.{ℕ, zero, suc, ◌+◌, ◌*◌, ◌/◌, ◌%◌, ◌^◌, ◌≤◌, ◌<◌}
use native.Mathlib.Nat.{pow-suc, pow-le-pow_right, zero-lt-suc}
use native.Mathlib.Numerals.{add-one}
use native.Mathlib.Omega.{arith}
use lib.Dec.{T, eqb, leb, ltb, eqb→eq, leb→le, ltb→lt}
use lib.ListN.{length, get_or, take, drop, length-append}
use lib.Seq.{length-take-le, take-take, take-append_seam, get_or-append_seam, get_or_at, split_at, append_snoc}
use borrow.Author.Tests.{eq-eqb, ne_eqb, le-leb, lt-ltb, eqb-true}
use Rattle.digits.proofs.Laws.Decimal.{decimal-small, length_more, chars-digits, length-decimal, guess-decimal}
use Rattle.digits.proofs.Laws.Parts.{next}
use Rattle.digits.proofs.Laws.Tests.{T_and}
use Rattle.digits.specs.Paper.Ascii.{ascii}
use Rattle.digits.specs.Paper.Decimal.{decimal}
use Rattle.digits.specs.Work.Decimal.{guess}
use Rattle.layouts.specs.Paper.Chars.{one_of, all}
use Rattle.layouts.specs.Paper.Homiq.{field_char, Field}
use Rattle.layouts.specs.Work.Heads.{only_if, starts, word_len, leading}
use Rattle.layouts.specs.Work.Homiq.{field_len, is_figure, number_in, number_len, type_len}
use Rattle.layouts.proofs.Laws.Heads.{Head, Right, Or, left, right, only-test, only-eq, only_yes, word-right, or_right, same-right, front_of}
use Rattle.layouts.proofs.Laws.Runs.{leading_step, leading-most, leading-front, leading-word, all-by}

-- ---- `;` behind a word

pub closed-length : (w : List ℕ) → length w + 1 ≡ length (w ++ ascii ";")
closed-length w = sym (length-append w (ascii ";"))

-- a place where `;` is lies in the list
closed-inside : (s : List ℕ) (n : ℕ) → get_or s n 0 ≡ 59 → n < length s
closed-inside [] n e = let z : ◌≡◌ {A = ℕ} 0 59 = e in absurd (omega arith)
closed-inside (x ∷ s) zero e = omega arith
closed-inside (x ∷ s) (suc n) e = let h : n < length s = closed-inside s n e in omega arith

pub closed-past : (s : List ℕ) (n : ℕ) → length s ≤ n → get_or s n 0 ≡ 59 → ⊥
closed-past s n h e = omega (arith, closed-inside s n e)

-- a list with `;` at a place, as what is before it, `;`, and what is behind
closed-splits : (s : List ℕ) (n : ℕ) → get_or s n 0 ≡ 59 → s ≡ take n s ++ ascii ";" ++ drop (suc n) s
closed-splits s n e = split_at s n 0 (closed-inside s n e) ∙ rw e (sym (append_snoc (take n s) 59 (drop (suc n) s)))

-- what is not positive
none_of : (n : ℕ) → (0 < n → ⊥) → 0 ≡ n
none_of zero h = refl
none_of (suc n) h = absurd (h (omega arith))

-- ---- which characters

not-closed : field_char 59 ≡ false
unfolding field_char one_of
not-closed = refl

figure-bounds : (c : ℕ) → T (is_figure c) → (48 ≤ c) × (c ≤ 57)
unfolding is_figure
figure-bounds c t = let q = T_and (leb 48 c) (leb c 57) t in (leb→le 48 c q.0, leb→le c 57 q.1)

pub char-bounds : (c : ℕ) → T (field_char c) → (c ≤ 0x7E) × (eqb c 59 ≡ false)
unfolding field_char one_of
char-bounds c t =
    let a = (T_and (leb 0x21 c) _ t).1 in
    let b = T_and (leb c 0x7E) _ a in
    (leb→le c 0x7E b.0, first (eqb c 59) _ b.1)
  where
    first : (a b : Bool) → T (not (a || b)) → a ≡ false
    first true b h = absurd h
    first false b h = refl

-- what is left to test of a character behind the other tests
pub char-last : (c : ℕ) → 0x21 ≤ c → c ≤ 0x7E → (c ≡ 59 → ⊥) → (c ≡ 60 → ⊥) → not (eqb c 62) ≡ field_char c
unfolding field_char one_of
char-last c h k x y = simp (le-leb 0x21 c h, le-leb c 0x7E k, ne_eqb c 59 x, ne_eqb c 60 y) (ap not (sym (or-false (eqb c 62))))

decimal-all : (f : ℕ → Bool) → ((c : ℕ) → 48 ≤ c → c ≤ 57 → f c ≡ true) → (v : ℕ) → T (all f (decimal v))
decimal-all f h v = all-by f (decimal v) (λ i k. let d = chars-digits v i k in h _ d.0 d.1)

pub decimal-chars : (v : ℕ) → T (all field_char (decimal v))
unfolding field_char one_of
decimal-chars =
    decimal-all field_char (λ c l h.
    simp (
      le-leb 0x21 c (omega arith),
      le-leb c 0x7E (omega arith),
      ne_eqb c 59 (λ e. omega arith),
      ne_eqb c 60 (λ e. omega arith),
      ne_eqb c 62 (λ e. omega arith),
    ))

pub decimal-figures : (v : ℕ) → T (all is_figure (decimal v))
unfolding is_figure
decimal-figures = decimal-all is_figure (λ c l h. simp (le-leb 48 c l, le-leb c 57 h))

-- ---- a field

pub record Fielded (most : ℕ) (u : List ℕ) : Type 0 where
  pub word : List ℕ
  pub field : Field most word
  pub ends : u ≡ word ++ ascii ";"

-- what the code has found where it answers a length
pub record FieldAt (most : ℕ) (s : List ℕ) (n : ℕ) : Type 0 where
  pub some : 0 < n
  pub short : n ≤ most
  pub chars : T (all field_char (take n s))
  pub end : get_or s n 0 ≡ 59

module _ (most : ℕ) where
  field-head : (s : List ℕ) (n r : ℕ) → FieldAt most s n → r ≡ n + 1 → Head (Fielded most) s r
  field-head s n r f e =
      let w = take n s in
      let lt : n < length s = closed-inside s n f.end in
      let l : length w ≡ n = length-take-le n s (omega arith) in
      record {
        word = w ++ ascii ";";
        rest = drop (suc n) s;
        splits = closed-splits s n f.end;
        is = record { word = w; field = record { some = omega (arith, f.some); short = omega (arith, f.short); chars = f.chars }; ends = refl };
        size = e ∙ omega (arith, closed-length w);
      }

  module _ (s : List ℕ) (n : ℕ) (is : n ≡ leading field_char (take (most + 1) s)) where
    field_at : 0 < field_len most s → FieldAt most s n
    unfolding field_len
    field_at h = rw is (go (leading field_char (take (most + 1) s)) (leading-front field_char (most + 1) s) h)
      where
        go : (k : ℕ) → T (all field_char (take k s)) → 0 < only_if (ltb 0 k) (only_if (leb k most) (only_if (eqb (get_or s k 0) 59) (k + 1))) → FieldAt most s k
        go k a h₀ =
            let h₁ = rw (only-eq _ _ h₀) at h₀ in
            let h₂ = rw (only-eq _ _ h₁) at h₁ in
            record { some = ltb→lt _ _ (only-test _ _ h₀); short = leb→le _ _ (only-test _ _ h₁); chars = a; end = eqb→eq _ _ (only-test _ _ h₂) }

    pub field-no : (FieldAt most s n → ⊥) → 0 ≡ field_len most s
    field-no f = none_of _ (λ h. f (field_at h))

    pub field-whole : 0 < n → n ≤ most → get_or s n 0 ≡ 59 → n + 1 ≡ field_len most s
    unfolding field_len only_if
    field-whole a b e = rw (← is) (simp (lt-ltb 0 n a, le-leb n most b, eq-eqb _ _ e))

  pub field-right : Right (Fielded most) (field_len most)
  field-right = record { some = λ r. rw r.ends (omega (arith, closed-length r.word)); sound = sound; complete = complete }
    where
      sound : (s : List ℕ) → 0 < field_len most s → Head (Fielded most) s (field_len most s)
      sound s h =
          let f = field_at s _ refl h in
          field-head s _ _ f (sym (field-whole s _ refl f.some f.short f.end))

      complete : {u : List ℕ} → Fielded most u → (t : List ℕ) → field_len most (u ++ t) ≡ length u
      complete r t =
          let w = r.word in
          let f = r.field in
          let short = f.short in
          rw (r.ends, append_snoc w 59 t)
          (sym (field-whole (w ++ 59 ∷ t) (length w)
          (sym (leading-word field_char w 59 t (most + 1) f.chars not-closed (omega arith)))
          f.some f.short (get_or-append_seam w 59 t 0))
          ∙ closed-length w)

-- ---- a number

-- lists of figures that make the same number, as many of them, are the same
figures-one : (u v : List ℕ) (m n : ℕ) → length u ≡ length v → T (all is_figure u) → T (all is_figure v) → guess m u ≡ guess n v → (m ≡ n) × (u ≡ v)
unfolding guess all
figures-one [] [] m n l a b e = (e, refl)
figures-one [] (y ∷ v) m n l a b e = absurd (omega arith)
figures-one (x ∷ u) [] m n l a b e = absurd (omega arith)
figures-one (x ∷ u) (y ∷ v) m n l a b e =
    let p = T_and (is_figure x) (all is_figure u) a in
    let q = T_and (is_figure y) (all is_figure v) b in
    let r = figures-one u v (m * 10 + (x + 2) % 10) (n * 10 + (y + 2) % 10) (omega arith) p.1 q.1 e in
    let i = figure-bounds x p.0 in
    let j = figure-bounds y q.0 in
    let k : m * 10 + (x + 2) % 10 ≡ n * 10 + (y + 2) % 10 = r.0 in
    let z : x ≡ y = omega arith in
    (omega arith, ap₂ (λ (c : ℕ) (t : List ℕ). c ∷ t) z r.1)

-- figures, as many as the number that they make has digits, are its digits
figures-decimal : (u : List ℕ) → T (all is_figure u) → length u ≡ length (decimal (guess 0 u)) → u ≡ decimal (guess 0 u)
figures-decimal u a l =
    (figures-one u (decimal (guess 0 u)) 0 0 l a (decimal-figures (guess 0 u)) (sym (guess-decimal (guess 0 u)))).1

-- the figures at the head of a list
abbrev front : List ℕ → List ℕ
front s = take (leading is_figure s) s

-- the loop that counts the figures and makes their number: i of them have made v, and what is left completes both
pub record Figuring (s : List ℕ) (v i : ℕ) : Type 0 where
  pub within : i ≤ length s
  pub small : v < 10 ^ i
  pub count : i + leading is_figure (drop i s) ≡ leading is_figure s
  pub rest : guess v (front (drop i s)) ≡ guess 0 (front s)

pub figuring-start : (s : List ℕ) → Figuring s 0 0
figuring-start s = record { within = omega arith; small = omega arith; count = omega arith; rest = refl }

module _ {s : List ℕ} {v i : ℕ} (g : Figuring s v i) where
  -- of at most four figures, the last adds to a number of three
  pub figuring-small : i < length s → length s ≤ 4 → v < 1000
  figuring-small h most =
      let k : i ≤ 3 = omega arith in
      let p : 10 ^ i ≤ 10 ^ 3 = pow-le-pow_right (zero-lt-suc 9) k in
      omega (arith, g.small)

  -- a figure's character ends in its value
  pub figuring-next : i < length s → is_figure (get_or s i 0) ≡ true → Figuring s (v * 10 + get_or s i 0 % 16) (i + 1)
  unfolding guess leading
  figuring-next h f =
      let b = figure-bounds (get_or s i 0) (rw f tt) in
      let e : get_or s i 0 % 16 ≡ (get_or s i 0 + 2) % 10 = omega arith in
      let p : 10 ^ (i + 1) ≡ 10 ^ i * 10 = ap (λ (k : ℕ). 10 ^ k) (add-one i) ∙ pow-suc 10 i in
      let t : guess v (front (drop i s)) ≡ guess (v * 10 + (get_or s i 0 + 2) % 10) (front (drop (i + 1) s)) = rw (next s i h, f) in
      record {
        within = omega arith;
        small = omega (arith, g.small, p);
        count = leading_step is_figure s i h f ∙ g.count;
        rest = rw e (sym t ∙ g.rest);
      }

  pub figuring-end : i ≡ i + leading is_figure (drop i s) → (i ≡ leading is_figure s) × (v ≡ guess 0 (take i s))
  unfolding guess
  figuring-end e =
      let z : leading is_figure (drop i s) ≡ 0 = omega arith in
      let n : i ≡ leading is_figure s = e ∙ g.count in
      (n, sym (ap (λ (k : ℕ). guess v (take k (drop i s))) z) ∙ g.rest ∙ ap (λ (k : ℕ). guess 0 (take k s)) (sym n))

-- how many digits a number has
pub width_two : (v : ℕ) → 10 ≤ v → v < 100 → 2 ≡ length (decimal v)
width_two v l h = omega (arith, length_more v l, ap length (decimal-small (v / 10) (omega arith)))

pub width_three : (v : ℕ) → 100 ≤ v → v < 1000 → 3 ≡ length (decimal v)
width_three v l h = omega (arith, length_more v (omega arith), width_two (v / 10) (omega arith) (omega arith))

-- the digits of a number, with `;` behind them, are read as that number
module _ (v : ℕ) (small : v < 1000) (t : List ℕ) where
  number-run : leading is_figure (take 4 (decimal v ++ 59 ∷ t)) ≡ length (decimal v)
  unfolding is_figure
  number-run = leading-word is_figure (decimal v) 59 t 4 (decimal-figures v) refl (omega (arith, length-decimal 2 v small))

  pub number_read : number_in (decimal v ++ 59 ∷ t) ≡ v
  unfolding number_in
  number_read = rw (number-run, take-append_seam (decimal v) (59 ∷ t)) (guess-decimal v)

pub record NumberField (limit : ℕ) (u : List ℕ) : Type 0 where
  pub value : ℕ
  pub most : value ≤ limit
  pub ends : u ≡ decimal value ++ ascii ";"

module _ (limit : ℕ) (small : limit < 1000) where
  pub number-right : Right (NumberField limit) (number_len limit)
  unfolding number_len
  number-right = record { some = λ r. rw r.ends (omega (arith, closed-length (decimal r.value))); sound = sound; complete = complete }
    where
      word : (v : ℕ) → Right (λ u. u ≡ decimal v ++ ascii ";") (word_len (decimal v ++ ascii ";"))
      word v = word-right (decimal v ++ ascii ";") (omega (arith, closed-length (decimal v)))

      made : (s : List ℕ) (v r : ℕ) → v ≤ limit → r ≡ word_len (decimal v ++ ascii ";") s → Head (λ u. u ≡ decimal v ++ ascii ";") s (word_len (decimal v ++ ascii ";") s) → Head (NumberField limit) s r
      made s v r b e h =
          record { word = h.word; rest = h.rest; splits = h.splits; is = record { value = v; most = b; ends = h.is }; size = e ∙ h.size }

      sound : (s : List ℕ) → 0 < number_len limit s → Head (NumberField limit) s (number_len limit s)
      sound s h =
          let e = only-eq _ _ h in
          made s (number_in s) _ (leb→le _ _ (only-test _ _ h)) e ((word (number_in s)).sound s (rw e at h))

      whole : (s : List ℕ) (v : ℕ) → number_in s ≡ v → v ≤ limit → (t : List ℕ) → s ≡ decimal v ++ ascii ";" ++ t → number_len limit s ≡ length (decimal v ++ ascii ";")
      whole s v e b t l =
          rw e (only_yes _ _ (le-leb v limit b) ∙ rw l ((word v).complete {w = decimal v ++ ascii ";"} refl t))

      complete : {u : List ℕ} → NumberField limit u → (t : List ℕ) → number_len limit (u ++ t) ≡ length u
      complete r t =
          let v = r.value in
          let most = r.most in
          rw r.ends
          (whole (decimal v ++ ascii ";" ++ t) v (rw (append_snoc (decimal v) 59 t) (number_read v (omega arith) t)) r.most t refl)

-- what the code has found where it answers a length: n figures, which make the number v
pub record NumberAt (limit : ℕ) (s : List ℕ) (n v : ℕ) : Type 0 where
  pub most : v ≤ limit
  pub digits : n ≡ length (decimal v)
  pub end : get_or s n 0 ≡ 59

module _ (s : List ℕ) (n v : ℕ) (is : n ≡ leading is_figure (take 4 s)) (reads : v ≡ guess 0 (take n (take 4 s))) where
  made_of : v ≡ guess 0 (take n s)
  made_of =
      let m : n ≤ 4 = rw is (leading-most is_figure 4 s).0 in
      reads ∙ ap (guess 0) (take-take n 4 s m)

  pub number-value : v ≡ number_in s
  unfolding number_in
  number-value = made_of ∙ ap (λ (k : ℕ). guess 0 (take k s)) is

  module _ (limit : ℕ) (small : limit < 1000) where
    number_at : 0 < number_len limit s → NumberAt limit s n v
    number_at p =
        let h = (number-right limit small).sound s p in
        let x = h.is.value in
        let most = h.is.most in
        let e : s ≡ decimal x ++ 59 ∷ h.rest = h.splits ∙ ap (λ (l : List ℕ). l ++ h.rest) h.is.ends ∙ append_snoc (decimal x) 59 h.rest in
        let d : n ≡ length (decimal x) = is ∙ ap (λ (l : List ℕ). leading is_figure (take 4 l)) e ∙ number-run x (omega arith) h.rest in
        let r : v ≡ x = made_of ∙ ap (guess 0) (front_of s (decimal x) (59 ∷ h.rest) n e d) ∙ guess-decimal x in
        record {
          most = omega arith;
          digits = d ∙ ap (λ (k : ℕ). length (decimal k)) (sym r);
          end = ap (λ (l : List ℕ). get_or l n 0) e ∙ get_or_at (decimal x) 59 h.rest 0 n (sym d);
        }

    pub number-no : (NumberAt limit s n v → ⊥) → 0 ≡ number_len limit s
    number-no f = none_of _ (λ h. f (number_at h))

    pub number-whole : v ≤ limit → n ≡ length (decimal v) → get_or s n 0 ≡ 59 → n + 1 ≡ number_len limit s
    number-whole b d e =
        let u = take n s in
        let l : length u ≡ n = length-take-le n s (rw is (leading-most is_figure 4 s).1) in
        let f : T (all is_figure u) = rw is (leading-front is_figure 4 s) in
        let g : u ≡ decimal v = figures-decimal u f (l ∙ d ∙ ap (λ (k : ℕ). length (decimal k)) made_of) ∙ ap decimal (sym made_of) in
        sym
        (ap (number_len limit) (closed-splits s n e)
        ∙ (number-right limit small).complete (record { value = v; most = b; ends = ap (λ (w : List ℕ). w ++ ascii ";") g }) (drop (suc n) s)
        ∙ sym (closed-length u) ∙ ap (λ (k : ℕ). k + 1) l)

-- ---- TYPE

pub record Typed (u : List ℕ) : Type 0 where
  pub type : ℕ
  pub is : T (one_of (ascii "sa") type)
  pub ends : u ≡ type ∷ ascii ";"

pub type-right : Right Typed type_len
unfolding type_len word_len starts only_if one_of
type-right = same-right to from (or_right (word-right (ascii "s;") (omega arith)) (word-right (ascii "a;") (omega arith)) apart)
  where
    apart : (w t : List ℕ) → w ≡ ascii "a;" → word_len (ascii "s;") (w ++ t) ≡ 0
    apart w t e = rw e

    to : (w : List ℕ) → Or (λ u. u ≡ ascii "s;") (λ u. u ≡ ascii "a;") w → Typed w
    to w (left e) = record { type = 115; is = tt; ends = e }
    to w (right e) = record { type = 97; is = tt; ends = e }

    from : (w : List ℕ) → Typed w → Or (λ u. u ≡ ascii "s;") (λ u. u ≡ ascii "a;") w
    from w r = go (eqb r.type 115) refl (eqb r.type 97) refl r.is
      where
        go : (a : Bool) → eqb r.type 115 ≡ a → (b : Bool) → eqb r.type 97 ≡ b → T (a || (b || false)) → Or (λ u. u ≡ ascii "s;") (λ u. u ≡ ascii "a;") w
        go true p b q t = let e : r.type ≡ 115 = eqb-true _ _ p in left (r.ends ∙ rw e)
        go false p true q t = let e : r.type ≡ 97 = eqb-true _ _ q in right (r.ends ∙ rw e)
        go false p false q t = absurd t
