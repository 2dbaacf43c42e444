-- Recognisers that find the words of a language at the head of a list, and only those: one word, a run of elements, one word
-- after another, one or another, those that pass a test.
-- Assumes nothing.
use mathlib.Core.Bool.{Bool, true, false, true≢false}
use mathlib.Core.List.{List, [], ◌∷◌, ◌++◌, append_assoc}
use mathlib.Core.Path.{◌≡◌, refl, sym, ◌∙◌, ap, ap₂, subst}
use Prim.Native.Nat.{ℕ, zero, suc, ◌+◌, ◌≤◌, ◌<◌}
use native.Mathlib.Omega.{arith}
use lib.Dec.{T, eqb, eqb→eq, leb→le}
use lib.ListN.{length, get_or, take, drop, length-append, length-take, length-drop, take-append-drop}
use lib.Seq.{get_or-take, take-append_seam, drop-append_seam, length-take-le, take_at, drop_at}
use borrow.Author.Tests.{eq-eqb, le-leb}
use Rattle.std.specs.Prelude.{Some, nat_eq}
use Rattle.std.specs.Cmp.Lexicographic.{pointwise, same_text, other_text}
use Rattle.digits.proofs.Laws.Parts.{part-rest}
use Rattle.digits.proofs.Laws.Tests.{T_and, T_true}
use Rattle.digits.specs.Paper.Bytes.{part}
use Rattle.layouts.specs.Paper.Chars.{all}
use Rattle.layouts.specs.Paper.Layout.{StartsWith}
use Rattle.layouts.specs.Work.Heads.{Ends, only_if, starts, word_len, run_len, on, onward, and_then, or_else, passing}

-- s starts with a word of P, of n elements
pub record Head (P : List ℕ → Type 0) (s : List ℕ) (n : ℕ) : Type 0 where
  pub word : List ℕ
  pub rest : List ℕ
  pub splits : s ≡ word ++ rest
  pub is : P word
  pub size : n ≡ length word

-- f finds the words of P, and only those
pub record Right (P : List ℕ → Type 0) (f : List ℕ → ℕ) : Type 0 where
  pub some : {w : List ℕ} → P w → 0 < length w
  pub sound : (s : List ℕ) → 0 < f s → Head P s (f s)
  pub complete : {w : List ℕ} → P w → (t : List ℕ) → f (w ++ t) ≡ length w

-- a word of P and then one of Q
pub record Then (P : List ℕ → Type 0) (Q : List ℕ → List ℕ → Type 0) (w : List ℕ) : Type 0 where
  pub front : List ℕ
  pub back : List ℕ
  pub joins : w ≡ front ++ back
  pub first : P front
  pub second : Q front back

pub join : {P : List ℕ → Type 0} {Q : List ℕ → List ℕ → Type 0} (u v : List ℕ) → P u → Q u v → Then P Q (u ++ v)
join u v a b = record { front = u; back = v; joins = refl; first = a; second = b }

pub glue : {w u v a b : List ℕ} → w ≡ u ++ v → u ≡ a → v ≡ b → w ≡ a ++ b
glue e p q = e ∙ ap₂ (λ (x y : List ℕ). x ++ y) p q

-- one language said in another way
pub same-right : {P Q : List ℕ → Type 0} {f : List ℕ → ℕ} → ((w : List ℕ) → P w → Q w) → ((w : List ℕ) → Q w → P w) → Right P f → Right Q f
same-right to from p =
    record {
      some = λ {w} b. p.some (from w b);
      sound = λ s h. let a = p.sound s h in record { word = a.word; rest = a.rest; splits = a.splits; is = to a.word a.is; size = a.size };
      complete = λ {w} b t. p.complete (from w b) t;
    }

-- ---- tests

pub only-test : (b : Bool) (n : ℕ) → 0 < only_if b n → T b
unfolding only_if
only-test true n h = tt
only-test false n h = absurd (omega arith)

pub only-eq : (b : Bool) (n : ℕ) → 0 < only_if b n → only_if b n ≡ n
unfolding only_if
only-eq true n h = refl
only-eq false n h = absurd (omega arith)

pub only_yes : (b : Bool) (n : ℕ) → b ≡ true → only_if b n ≡ n
unfolding only_if
only_yes b n e = rw e

pub only_no : (b : Bool) (n : ℕ) → b ≡ false → only_if b n ≡ 0
unfolding only_if
only_no b n e = rw e

pub only_zero : (b : Bool) → only_if b 0 ≡ 0
unfolding only_if
only_zero true = refl
only_zero false = refl

-- ---- one word

pub starts-splits : (p s : List ℕ) → T (starts p s) → s ≡ p ++ drop (length p) s
unfolding starts
starts-splits [] s t = refl
starts-splits (y ∷ p) [] t = absurd t
starts-splits (y ∷ p) (x ∷ s) t =
    let q = T_and (eqb x y) (starts p s) t in
    ap₂ (λ (a : ℕ) (l : List ℕ). a ∷ l) (eqb→eq x y q.0) (starts-splits p s q.1)

pub starts-append : (p t : List ℕ) → starts p (p ++ t) ≡ true
unfolding starts
starts-append [] t = refl
starts-append (y ∷ p) t = rw (eq-eqb y y refl) (starts-append p t)

-- .. as the layouts say it
pub starts_with : (p s : List ℕ) → starts p s ≡ true → StartsWith p s
starts_with p s e = rw (starts-splits p s (rw e tt)) (take-append_seam p (drop (length p) s))

pub with-splits : (p s : List ℕ) → StartsWith p s → s ≡ p ++ drop (length p) s
with-splits p s e = sym (take-append-drop (length p) s) ∙ ap (λ (w : List ℕ). w ++ drop (length p) s) e

pub with-starts : (p s : List ℕ) → StartsWith p s → starts p s ≡ true
with-starts p s e = ap (starts p) (with-splits p s e) ∙ starts-append p (drop (length p) s)

pub not-starts : (p s : List ℕ) → starts p s ≡ false → StartsWith p s → ⊥
not-starts p s e h = true≢false (sym (with-starts p s h) ∙ e)

pub starts? : (p s : List ℕ) → Dec (StartsWith p s)
starts? p s = go (starts p s) refl
  where
    go : (b : Bool) → starts p s ≡ b → Dec (StartsWith p s)
    go true e = yes (starts_with p s e)
    go false e = no (not-starts p s e)

-- what the library's test tells
pub starts-told : (p s : List ℕ) (r : Bool) → r ≡ pointwise nat_eq p (take (length p) s) → r ≡ starts p s
starts-told p s true e = sym (with-starts p s (sym (same_text p (take (length p) s) e)))
starts-told p s false e = go (starts p s) refl
  where
    go : (b : Bool) → starts p s ≡ b → false ≡ b
    go true t = absurd (other_text p (take (length p) s) e (sym (starts_with p s t)))
    go false t = refl

-- each byte of the mark
pub mark-at : (p s : List ℕ) → StartsWith p s → (i : ℕ) → i < length p → get_or s i 0 ≡ get_or p i 0
mark-at p s e i h = sym (get_or-take (length p) s i 0 h) ∙ ap (λ (w : List ℕ). get_or w i 0) e

pub mark-inside : (p s : List ℕ) → StartsWith p s → length p ≤ length s
mark-inside p s e = omega (arith, ap length e, length-take (length p) s)

pub word-right : (w : List ℕ) → 0 < length w → Right (λ u. u ≡ w) (word_len w)
unfolding word_len
word-right w some =
    record {
      some = λ e. rw e some;
      sound = λ s h. record { word = w; rest = drop (length w) s; splits = starts-splits w s (only-test _ _ h); is = refl; size = only-eq _ _ h };
      complete = λ {w = u} e t. rw e (only_yes _ _ (starts-append w t));
    }

-- a word of which another byte stands in its place
pub no_word : (p s : List ℕ) (i : ℕ) → i < length p → (get_or s i 0 ≡ get_or p i 0 → ⊥) → word_len p s ≡ 0
unfolding word_len
no_word p s i h f = only_no _ _ (go (starts p s) refl)
  where
    go : (b : Bool) → starts p s ≡ b → starts p s ≡ false
    go true e = absurd (f (mark-at p s (starts_with p s e) i h))
    go false e = e

pub word-there : (w s : List ℕ) → starts w s ≡ true → word_len w s ≡ length w
unfolding word_len
word-there w s e = only_yes _ _ e

pub word-missing : (w s : List ℕ) → starts w s ≡ false → word_len w s ≡ 0
unfolding word_len
word-missing w s e = only_no _ _ e

-- two words of one length: the first is at the head of the second and what follows only where they are the same
pub starts-same : (u v t : List ℕ) → length u ≡ length v → T (starts u (v ++ t)) → u ≡ v
starts-same u v t l h =
    let e : v ++ t ≡ u ++ drop (length u) (v ++ t) = starts-splits u (v ++ t) h in
    sym (take-append_seam u (drop (length u) (v ++ t))) ∙ ap (take (length u)) (sym e) ∙ take_at v t (length u) (sym l)

pub same-starts : (u v t : List ℕ) → u ≡ v → T (starts u (v ++ t))
same-starts u v t e = rw e (rw (starts-append v t) tt)

-- ---- a run of k elements, of each of which f holds

pub record Run (f : ℕ → Bool) (k : ℕ) (u : List ℕ) : Type 0 where
  pub size : length u ≡ k
  pub each : T (all f u)

module _ (f : ℕ → Bool) (k : ℕ) where
  run_sound : (s : List ℕ) {n : ℕ} → k ≤ length s → T (all f (take k s)) → n ≡ k → Head (Run f k) s n
  run_sound s h a e =
      let l : length (take k s) ≡ k = length-take-le k s h in
      record { word = take k s; rest = drop k s; splits = sym (take-append-drop k s); is = record { size = l; each = a }; size = e ∙ sym l }

  pub run-right : 0 < k → Right (Run f k) (run_len f k)
  unfolding run_len
  run-right p = record { some = λ r. omega (arith, r.size); sound = sound; complete = complete }
    where
      sound : (s : List ℕ) → 0 < run_len f k s → Head (Run f k) s (run_len f k s)
      sound s h₀ =
          let e₀ = only-eq _ _ h₀ in
          let h₁ = rw e₀ at h₀ in
          run_sound s (leb→le _ _ (only-test _ _ h₀)) (only-test _ _ h₁) (e₀ ∙ only-eq _ _ h₁)

      complete : {u : List ℕ} → Run f k u → (t : List ℕ) → run_len f k (u ++ t) ≡ length u
      complete {u} r t =
          let l : k ≤ length (u ++ t) = omega (arith, length-append u t, r.size) in
          let e : take k (u ++ t) ≡ u = take_at u t k r.size in
          only_yes _ _ (le-leb k (length (u ++ t)) l) ∙ only_yes _ _ (rw e (T_true _ r.each)) ∙ sym r.size

-- two lists, each of two parts of which the first are equally long: the parts are the same
pub cut-same : (a b c d : List ℕ) → length a ≡ length b → a ++ c ≡ b ++ d → (a ≡ b) × (c ≡ d)
cut-same a b c d l e = (
  sym (take-append_seam a c) ∙ ap (take (length a)) e ∙ take_at b d (length a) (sym l),
  sym (drop-append_seam a c) ∙ ap (drop (length a)) e ∙ drop_at b d (length a) (sym l),
)

-- ---- one after another

pub front_of : (s u r : List ℕ) (n : ℕ) → s ≡ u ++ r → n ≡ length u → take n s ≡ u
front_of s u r n e l = rw (l, e) (take-append_seam u r)

pub back-of : (s u r : List ℕ) (n : ℕ) → s ≡ u ++ r → n ≡ length u → drop n s ≡ r
back-of s u r n e l = rw (l, e) (drop-append_seam u r)

pub on-front : (a n : ℕ) → 0 < on a n → 0 < a
unfolding on
on-front zero n h = absurd (omega arith)
on-front (suc a) n h = omega arith

pub on-back : (a n : ℕ) → 0 < on a n → 0 < n
unfolding on
on-back zero n h = absurd (omega arith)
on-back (suc a) zero h = absurd (omega arith)
on-back (suc a) (suc n) h = omega arith

pub on_both : (a n : ℕ) → 0 < a → 0 < n → on a n ≡ a + n
unfolding on
on_both zero n h k = absurd (omega arith)
on_both (suc a) zero h k = absurd (omega arith)
on_both (suc a) (suc n) h k = refl

pub on_none : (a : ℕ) → on a 0 ≡ 0
unfolding on
on_none zero = refl
on_none (suc a) = refl

module _ {P : List ℕ → Type 0} {Q : List ℕ → List ℕ → Type 0} {h : List ℕ → ℕ} {f : List ℕ → List ℕ → ℕ} where
  pub then-right : Right P h → ((w : List ℕ) → P w → Right (Q w) (f w)) → Right (Then P Q) (and_then h f)
  then-right p q =
      record {
        some = λ {w} r. rw r.joins (omega (arith, length-append r.front r.back, p.some r.first));
        sound = λ s k. found s k (p.sound s (on-front _ _ k));
        complete = λ {w} r t. rw r.joins (whole r.front r.back t r.first r.second);
      }
    where
      found : (s : List ℕ) → 0 < and_then h f s → Head P s (h s) → Head (Then P Q) s (and_then h f s)
      found s k a =
          let u = a.word in
          let r = a.rest in
          let et : take (h s) s ≡ u = front_of s u r (h s) a.splits a.size in
          let ed : drop (h s) s ≡ r = back-of s u r (h s) a.splits a.size in
          let b = (q u a.is).sound r (rw (et, ed) at (on-back _ _ k)) in
          let e : and_then h f s ≡ h s + f u r = on_both _ _ (on-front _ _ k) (on-back _ _ k) ∙ rw (et, ed) in
          record {
            word = u ++ b.word;
            rest = b.rest;
            splits = a.splits ∙ ap (λ (l : List ℕ). u ++ l) b.splits ∙ sym (append_assoc u b.word b.rest);
            is = record { front = u; back = b.word; joins = refl; first = a.is; second = b.is };
            size = e ∙ omega (arith, a.size, b.size, length-append u b.word);
          }

      whole : (u v t : List ℕ) → P u → Q u v → and_then h f ((u ++ v) ++ t) ≡ length (u ++ v)
      whole u v t a b =
          let eh : h (u ++ (v ++ t)) ≡ length u = p.complete a (v ++ t) in
          rw (append_assoc u v t, eh, take-append_seam u (v ++ t), drop-append_seam u (v ++ t), (q u a).complete b t)
          (on_both _ _ (p.some a) ((q u a).some b) ∙ sym (length-append u v))

-- ---- one or another, of which no word of the second is taken for one of the first

pub or-first : (n m : ℕ) → 0 < n → or_else n m ≡ n
or-first zero m h = absurd (omega arith)
or-first (suc n) m h = refl

pub or-second : (n m : ℕ) → n ≡ 0 → or_else n m ≡ m
or-second n m e = rw e

pub data Or (P Q : List ℕ → Type 0) (w : List ℕ) : Type 0 where
  left : P w → Or P Q w
  right : Q w → Or P Q w

module _ {P Q : List ℕ → Type 0} {f g : List ℕ → ℕ} (p : Right P f) (q : Right Q g)
    (apart : (w t : List ℕ) → Q w → f (w ++ t) ≡ 0) where
  pub or_right : Right (Or P Q) (λ s. or_else (f s) (g s))
  or_right = record { some = some; sound = λ s h. found s (f s) refl h; complete = complete }
    where
      some : {w : List ℕ} → Or P Q w → 0 < length w
      some (left a) = p.some a
      some (right b) = q.some b

      leftwards : {s : List ℕ} {n : ℕ} → Head P s n → Head (Or P Q) s n
      leftwards h = record { word = h.word; rest = h.rest; splits = h.splits; is = left h.is; size = h.size }

      rightwards : {s : List ℕ} {n : ℕ} → Head Q s n → Head (Or P Q) s n
      rightwards h = record { word = h.word; rest = h.rest; splits = h.splits; is = right h.is; size = h.size }

      found : (s : List ℕ) (n : ℕ) → f s ≡ n → 0 < or_else n (g s) → Head (Or P Q) s (or_else n (g s))
      found s zero e h = rightwards (q.sound s h)
      found s (suc n) e h = leftwards (subst (λ (k : ℕ). Head P s k) e (p.sound s (omega arith)))

      complete : {w : List ℕ} → Or P Q w → (t : List ℕ) → or_else (f (w ++ t)) (g (w ++ t)) ≡ length w
      complete {w} (left a) t = let e = p.complete a t in rw e (or-first (length w) _ (p.some a))
      complete {w} (right b) t = or-second _ _ (apart w t b) ∙ q.complete b t

-- ---- those that pass a test

pub record Passed (P : List ℕ → Type 0) (test : List ℕ → Bool) (w : List ℕ) : Type 0 where
  pub word : P w
  pub passes : T (test w)

module _ {P : List ℕ → Type 0} {f : List ℕ → ℕ} (p : Right P f) (test : List ℕ → Bool) where
  pub passing-right : Right (Passed P test) (passing f test)
  passing-right = record { some = λ r. p.some r.word; sound = sound; complete = complete }
    where
      made : (s : List ℕ) {n : ℕ} → n ≡ f s → T (test (take (f s) s)) → Head P s (f s) → Head (Passed P test) s n
      made s e t h =
          let w : take (f s) s ≡ h.word = front_of s h.word h.rest (f s) h.splits h.size in
          record {
            word = h.word;
            rest = h.rest;
            splits = h.splits;
            is = record { word = h.is; passes = subst (λ (u : List ℕ). T (test u)) w t };
            size = e ∙ h.size;
          }

      sound : (s : List ℕ) → 0 < passing f test s → Head (Passed P test) s (passing f test s)
      sound s k =
          let e = only-eq _ _ k in
          made s e (only-test _ _ k) (p.sound s (rw e at k))

      complete : {w : List ℕ} → Passed P test w → (t : List ℕ) → passing f test (w ++ t) ≡ length w
      complete {w} r t =
          let e : f (w ++ t) ≡ length w = p.complete r.word t in
          let u : take (f (w ++ t)) (w ++ t) ≡ w = rw e (take-append_seam w t) in
          only_yes _ _ (rw u (T_true _ r.passes)) ∙ e

-- ---- what a recogniser finds lies in the list

module _ {P : List ℕ → Type 0} {f : List ℕ → ℕ} (p : Right P f) where
  pub inside : (s : List ℕ) → f s ≤ length s
  inside s = go (f s) refl
    where
      go : (n : ℕ) → f s ≡ n → n ≤ length s
      go zero e = omega arith
      go (suc n) e =
          let h = p.sound s (omega arith) in
          let l : length s ≡ length (h.word ++ h.rest) = ap length h.splits in
          omega (arith, h.size, length-append h.word h.rest)

  pub nothing : f [] ≡ 0
  nothing = let h : f [] ≤ 0 = inside [] in omega arith

  pub taken : (s : List ℕ) → 0 < f s → P (take (f s) s)
  taken s k = let h = p.sound s k in subst P (sym (front_of s h.word h.rest (f s) h.splits h.size)) h.is

  -- at one place at most one length makes a word
  pub one_word : {u v : List ℕ} → P u → P v → (t r : List ℕ) → u ++ t ≡ v ++ r → u ≡ v
  one_word {u} {v} a b t r e =
      let l : length u ≡ length v = sym (p.complete a t) ∙ ap f e ∙ p.complete b r in
      sym (take-append_seam u t) ∙ ap (take (length u)) e ∙ rw l (take-append_seam v r)

  -- where a word is at the head, it is what is found
  pub found : (s : List ℕ) (n : ℕ) → n ≤ length s → P (take n s) → f s ≡ n
  found s n h a =
      ap f (sym (take-append-drop n s)) ∙ p.complete a (drop n s) ∙ length-take-le n s h

-- what the code finds in the part from a place on
module _ (f : List ℕ → ℕ) (s : List ℕ) (at : ℕ) where
  pub onward-none : f (part at (length s) s) ≡ 0 → onward f s at ≡ 0
  onward-none e = ap (on at) (ap f (sym (part-rest at s)) ∙ e) ∙ on_none at

  pub onward-some : {n : ℕ} → 0 < at → n ≡ f (part at (length s) s) → 0 < n → at + n ≡ onward f s at
  onward-some p e q = sym (on_both at _ p q) ∙ ap (on at) (e ∙ ap f (part-rest at s))

-- .. behind what h found
module _ (h f : List ℕ → ℕ) {s : List ℕ} {a : ℕ} (is : Ends h s (Some a)) where
  pub then-some : {n : ℕ} → Ends f (part a (length s) s) (Some n) → Ends (and_then h (λ _. f)) s (Some (a + n))
  then-some q =
      let e = subst (λ (k : ℕ). onward f s a ≡ onward f s k) is.0 refl in
      (onward-some f s a is.1 q.0 q.1 ∙ e, omega (arith, is.1), omega (arith, q, ap length (part-rest a s), length-drop a s, is.2))

  pub then-none : f (part a (length s) s) ≡ 0 → and_then h (λ _. f) s ≡ 0
  then-none z = subst (λ (k : ℕ). onward f s k ≡ 0) is.0 (onward-none f s a z)

pub then-stops : (h f : List ℕ → ℕ) {s : List ℕ} → h s ≡ 0 → and_then h (λ _. f) s ≡ 0
unfolding on
then-stops h f z = rw z
