-- What stands between brackets, read one by one.
-- Assumes nothing.
use mathlib.Core.Path.{◌≡◌, sym, subst, ◌∙◌}
use mathlib.Core.List.{List, [], ◌∷◌}
use Prim.Native.Nat.{ℕ, ◌+◌, ◌≤◌, ◌<◌}
use native.Mathlib.Omega.{arith}
use lib.ListN.{length, get_or, drop}
use Rattle.std.specs.Prelude.{Option, None, Some}
use Rattle.jsontext.specs.Paper.Abnf.{Rule, byte}
use Rattle.jsontext.specs.Paper.Json.{string, blank}
use Rattle.jsontext.specs.Work.Tight.{Blanks, Without, Elements, last, next, Rest, empty, full, Member, member}
use Rattle.jsontext.specs.Work.Found.{Found, ends, none, Skipped}
use Rattle.jsontext.proofs.Laws.Members.{parts, at-colon, at_value}
use Rattle.jsontext.proofs.Laws.Places.{tail_of, head_of, nothing, at-end, stands, not_there, past, Ends, not_found}

-- the last, or one with more behind it
data Either-way (one : Rule) (close : ℕ) (t n : List ℕ) : Type 0 where
  ended : n ≡ close ∷ t → Either-way one close t n
  goes : {u w : List ℕ} → n ≡ 0x2C ∷ u → Blanks u w → Elements one close w t → Either-way one close t n

record Split (one : Rule) (close : ℕ) (s t : List ℕ) : Type 0 where
  {- behind the first, and behind its blanks -}
  m : List ℕ
  n : List ℕ
  first : one s m
  blanks : Blanks m n
  way : Either-way one close t n

split : {one : Rule} {close : ℕ} {s t : List ℕ} → Elements one close s t → Split one close s t
split (last o b e) = record { m = _; n = _; first = o; blanks = b; way = ended e }
split (next o b e c r) = record { m = _; n = _; first = o; blanks = b; way = goes e c r }

rest-cases : {one : Rule} {close : ℕ} {s t : List ℕ} {A : Type 0} → ((m : List ℕ) → Blanks s m → m ≡ close ∷ t → A) → ((m : List ℕ) → Blanks s m → Without (byte close) m → Elements one close m t → A) → Rest one close s t → A
rest-cases f g (empty b e) = f _ b e
rest-cases f g (full b w r) = g _ b w r

-- the answer where no element stands
pub rest-empty : {one : Rule} {close : ℕ} {s : List ℕ} {p a : ℕ} → Skipped blank s p a → a < length s → get_or s a 0 ≡ close → Found (Rest one close) s p (Some (a + 1))
rest-empty {one} {close} {s} {p} {a} k h e =
    let l : p < a + 1 = omega (arith, k.on) in
    let l2 : a + 1 ≤ length s = omega arith in
    let st : drop a s ≡ close ∷ drop (a + 1) s = stands s a close h e in
    ends l l2 (empty k.is st)
    (λ t. rest-cases (λ m b x. tail_of (sym x ∙ k.only m b ∙ st)) (λ m b w r. absurd (w (drop (a + 1) s) (k.only m b ∙ st))))

-- what is left from i on, read, completes what stands behind the bracket
pub record Going (one : Rule) (close : ℕ) (s : List ℕ) (p i : ℕ) : Type 0 where
  pub on : p ≤ i
  pub there : (t : List ℕ) → Rest one close (drop p s) t → Elements one close (drop i s) t
  pub back : (t : List ℕ) → Elements one close (drop i s) t → Rest one close (drop p s) t

pub begin : {one : Rule} {close : ℕ} {s : List ℕ} {p a : ℕ} → Skipped blank s p a → Without (byte close) (drop a s) → Going one close s p a
begin {one} {close} {s} {p} {a} k f =
    record {
      on = k.on;
      there = λ t. rest-cases (λ m b x. absurd (f t (sym (k.only m b) ∙ x))) (λ m b w r. subst (λ (l : List ℕ). Elements one close l t) (k.only m b) r);
      back = λ t r. full k.is f r;
    }

pub no-element : {one : Rule} {close : ℕ} {s : List ℕ} {p i : ℕ} → Going one close s p i → Found one s i None → Found (Rest one close) s p None
no-element g f = none (λ t r. not_found f _ (split (g.there t r)).first)

module _ {one : Rule} {close : ℕ} {s : List ℕ} {p i e f : ℕ} (g : Going one close s p i) (v : Ends one s i e) (k : Skipped blank s e f) where
  -- the only place behind the element and its blanks
  meets : (t : List ℕ) (x : Split one close (drop i s) t) → x.n ≡ drop f s
  meets t x = k.only _ (subst (λ (l : List ℕ). Blanks l x.n) (v.only _ x.first) x.blanks)

  pub closed : f < length s → get_or s f 0 ≡ close → (close ≡ 0x2C → ⊥) → Found (Rest one close) s p (Some (f + 1))
  closed h c d =
      let l : p < f + 1 = omega (arith, g.on, v.on, k.on) in
      let l2 : f + 1 ≤ length s = omega arith in
      let st : drop f s ≡ close ∷ drop (f + 1) s = stands s f close h c in
      ends l l2 (g.back _ (last v.is k.is st)) (λ t r. go t (split (g.there t r)) st)
    where
      by_way : (t n : List ℕ) → n ≡ drop f s → drop f s ≡ close ∷ drop (f + 1) s → Either-way one close t n → t ≡ drop (f + 1) s
      by_way t n m st (ended x) = tail_of (sym x ∙ m ∙ st)
      by_way t n m st (goes x b r) = absurd (d (head_of (sym (m ∙ st) ∙ x)))

      go : (t : List ℕ) → Split one close (drop i s) t → drop f s ≡ close ∷ drop (f + 1) s → t ≡ drop (f + 1) s
      go t x st = by_way t x.n (meets t x) st x.way

  pub neither : Without (byte close) (drop f s) → Without (byte 0x2C) (drop f s) → Found (Rest one close) s p None
  neither a b = none (λ t r. go t (split (g.there t r)))
    where
      by_way : (t n : List ℕ) → n ≡ drop f s → Either-way one close t n → ⊥
      by_way t n m (ended x) = a t (sym m ∙ x)
      by_way t n m (goes {u} x c r) = b u (sym m ∙ x)

      go : (t : List ℕ) → Split one close (drop i s) t → ⊥
      go t x = by_way t x.n (meets t x) x.way

  pub another : {j : ℕ} → f < length s → get_or s f 0 ≡ 0x2C → (close ≡ 0x2C → ⊥) → Skipped blank s (f + 1) j → Going one close s p j
  another {j} h c d q =
      record {
        on = omega (arith, g.on, v.on, k.on, q.on);
        there = λ t r. go t (split (g.there t r));
        back = λ t r. g.back t (next v.is k.is (stands s f 0x2C h c) q.is r);
      }
    where
      st : drop f s ≡ 0x2C ∷ drop (f + 1) s
      st = stands s f 0x2C h c

      by_way : (t n : List ℕ) → n ≡ drop f s → Either-way one close t n → Elements one close (drop j s) t
      by_way t n m (ended x) = absurd (d (head_of (sym x ∙ (m ∙ st))))
      by_way t n m (goes {u} {w} x b r) =
          let z : w ≡ drop j s = q.only w (subst (λ (l : List ℕ). Blanks l w) (tail_of (sym x ∙ (m ∙ st))) b) in
          subst (λ (l : List ℕ). Elements one close l t) z r

      go : (t : List ℕ) → Split one close (drop i s) t → Elements one close (drop j s) t
      go t x = by_way t x.n (meets t x) x.way

-- a member
pub no_name : {value : Rule} {s : List ℕ} {p : ℕ} → Found string s p None → Found (Member value) s p None
no_name f = none (λ t x. not_found f _ (parts x).string)

module _ {value : Rule} {s : List ℕ} {p a b : ℕ} (n : Ends string s p a) (k : Skipped blank s a b) where
  pub no-colon : Without (byte 0x3A) (drop b s) → Found (Member value) s p None
  no-colon f = none (λ t x. f _ (sym (at-colon n k (parts x)) ∙ (parts x).colon))

  pub valued : {d : ℕ} {r : Option ℕ} → b < length s → get_or s b 0 ≡ 0x3A → Skipped blank s (b + 1) d → Found value s d r → Found (Member value) s p r
  valued {d} h e q v = by v
    where
      there : (t : List ℕ) → Member value (drop p s) t → value (drop d s) t
      there t x = subst (λ (l : List ℕ). value l t) (at_value n k (parts x) h e q) (parts x).is

      by : {r : Option ℕ} → Found value s d r → Found (Member value) s p r
      by (ends {r} l m w o) =
          let i : p < r = omega (arith, n.on, k.on, q.on) in
          ends i m (member n.is k.is (stands s b 0x3A h e) q.is w) (λ t x. o t (there t x))
      by (none f) = none (λ t x. f t (there t x))

-- the same, of what stands at a place
pub rest-cut : {one : Rule} {close : ℕ} {s : List ℕ} {p a : ℕ} → Without one [] → Skipped blank s p a → length s ≤ a → Found (Rest one close) s p None
rest-cut {one} {close} {s} {p} {a} n k h =
    none
    (λ t. rest-cases (λ m b x. nothing (sym (at-end s a h) ∙ sym (k.only m b) ∙ x))
    (λ m b w r. n _ (subst (λ (l : List ℕ). one l (split r).m) (k.only m b ∙ at-end s a h) (split r).first)))

pub begin-at : {one : Rule} {close : ℕ} {s : List ℕ} {p a : ℕ} → Skipped blank s p a → a < length s → ((get_or s a 0 ≡ close) → ⊥) → Going one close s p a
begin-at {one} {close} {s} {p} {a} k h f = begin k (not_there s a close h f)

module _ {one : Rule} {close : ℕ} {s : List ℕ} {p i e f : ℕ} (g : Going one close s p i) (v : Ends one s i e) (k : Skipped blank s e f) where
  pub neither-at : f < length s → ((get_or s f 0 ≡ close) → ⊥) → ((get_or s f 0 ≡ 0x2C) → ⊥) → Found (Rest one close) s p None
  neither-at h x y = neither g v k (not_there s f close h x) (not_there s f 0x2C h y)

  pub neither-end : length s ≤ f → Found (Rest one close) s p None
  neither-end h = neither g v k (past s f close h) (past s f 0x2C h)

module _ {value : Rule} {s : List ℕ} {p a b : ℕ} (n : Ends string s p a) (k : Skipped blank s a b) where
  pub no-colon-at : b < length s → ((get_or s b 0 ≡ 0x3A) → ⊥) → Found (Member value) s p None
  no-colon-at h f = no-colon n k (not_there s b 0x3A h f)

  pub no-colon-end : length s ≤ b → Found (Member value) s p None
  no-colon-end h = no-colon n k (past s b 0x3A h)

no-string : (t : List ℕ) → string [] t → ⊥
unfolding string
no-string t x = nothing x.1

pub member-never : (v : Rule) → Without (Member v) []
member-never v t x = no-string _ (parts x).string
