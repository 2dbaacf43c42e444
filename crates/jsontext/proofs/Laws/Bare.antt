-- A value neither begins nor ends with a blank, so that it stands in one place among its blanks.
-- Assumes nothing.
use mathlib.Core.Bool.{Bool}
use mathlib.Core.Logic.{◌⊎◌, inl, inr, ⊎_elim}
use mathlib.Core.Path.{◌≡◌, refl, sym, ap, subst, ◌∙◌}
use mathlib.Core.List.{List, [], ◌∷◌, ◌++◌, append_assoc, append_cancel_right}
use Prim.Native.Nat.{ℕ, zero, suc, ◌+◌, ◌-◌, ◌≤◌, ◌<◌}
use native.Mathlib.Omega.{arith}
use lib.ListN.{length, take, length-append}
use lib.Seq.{take_at, get_or-append_seam}
use Rattle.digits.specs.Paper.Ascii.{ascii}
use Rattle.jsontext.specs.Paper.Abnf.{Rule, byte, range, opt, many, done, more, ◌⨾◌}
use Rattle.jsontext.specs.Paper.Json.{blank, ws, DIGIT, minus, int, number, string}
use Rattle.jsontext.specs.Paper.Json as json
use Rattle.jsontext.specs.Paper.Members.{Bare}
use Rattle.jsontext.specs.Paper.Names.{spelt, quoted}
use Rattle.jsontext.specs.Work.Tight.{All, Blanks, IsBlank, Opt, Number, sign}
use Rattle.jsontext.specs.Work.Tight.{Elements, last, next, Rest, empty, full, Member, member, Lead, lead, leads, tight}
use Rattle.jsontext.proofs.Laws.Places.{head_of}
use Rattle.jsontext.proofs.Laws.Blanks.{blanks}
use Rattle.jsontext.proofs.Laws.Spelt.{string-spelt}
use Rattle.jsontext.proofs.Laws.Weaker.{by_first}
use Rattle.jsontext.proofs.Laws.Rules.{Within, same, then-in, or-in, both-in, opt-in, Front, fronts, opt-front, byte-front, ws-front, string-front}

-- a byte above 0x20 is no blank
pub visible : (b : ℕ) → 0x20 < b → IsBlank b → ⊥
visible b h = ⊎_elim (λ x. omega arith) (⊎_elim (λ x. omega arith) (⊎_elim (λ x. omega arith) (λ x. omega arith)))

-- ---- the first byte

-- its first byte is within these
pub record First (s : List ℕ) (low high : ℕ) : Type 0 where
  pub b : ℕ
  pub u : List ℕ
  pub is : s ≡ b ∷ u
  pub above : low ≤ b
  pub below : b ≤ high

pub int-first : (m k : List ℕ) → int m k → First m 0x30 0x39
int-first m k (inl x) = record { b = 0x30; u = k; is = x; above = omega arith; below = omega arith }
int-first m k (inr (a, (c, h, l, x), y)) = record { b = c; u = a; is = x; above = omega arith; below = l }

pub number-first : (s t : List ℕ) → number s t → First s 0x2D 0x39
number-first s t (a, inl x, y) = record { b = 0x2D; u = a; is = x; above = omega arith; below = omega arith }
number-first s t (a, inr x, (b, y, z)) =
    let i = int-first a b y in
    record { b = i.b; u = i.u; is = x ∙ i.is; above = omega (arith, i.above); below = i.below }

-- a number that is read is one by the RFC
all_from : {a : Rule} → Within (All a) (many a)
all_from s t x = x.all

opt-from : (begin : Rule) {a b : Rule} → Within a b → Within (Opt begin a) (opt b)
opt-from begin f s t (inl x) = inl (f s t x)
opt-from begin f s t (inr (e, n)) = inr e

pub number-from : Within Number number
unfolding Number
number-from =
    then-in (opt-from minus (same _)) (then-in (or-in (same _) (then-in (same _) all_from))
    (then-in (opt-from (byte 0x2E) (then-in (same _) (then-in (same _) all_from)))
    (opt-from json.e (then-in (same _) (then-in (opt-from sign (same _)) (then-in (same _) all_from))))))

led-first : (n : Bool) (v : Rule) (b : ℕ) (u t : List ℕ) → leads n v b u t → 0x20 < b
led-first n v b u t =
    by_first (λ c. leads n v c u t → 0x20 < c) (λ x. omega arith) (λ x. omega arith) (λ x. omega arith) (λ x. omega arith) (λ x. omega arith) (λ x. omega arith)
    (λ c e x. let i = number-first (c ∷ u) t (number-from (c ∷ u) t (rw (e n v u t) at x)) in omega (arith, i.above, head_of i.is)) b

-- ---- the last byte

-- what stands before t ends with a byte that is no blank
pub record Ended (s t : List ℕ) : Type 0 where
  pub before : List ℕ
  pub last : ℕ
  pub visible : 0x20 < last
  pub is : s ≡ before ++ (last ∷ t)

pub ended-front : {s t : List ℕ} → Ended s t → Front s t
ended-front x = (x.before ++ (x.last ∷ []), rw append_assoc x.is)

-- behind a front part, and before what is no more or ends so
front-then : {s m t : List ℕ} → Front s m → Ended m t → Ended s t
front-then (v, e) x = record { before = v ++ x.before; last = x.last; visible = x.visible; is = rw append_assoc (cc) }

ended-opt : {s m t : List ℕ} → Ended s m → opt Ended m t → Ended s t
ended-opt x (inl y) = front-then (ended-front x) y
ended-opt {s} x (inr e) = subst (Ended s) e x

opt-opt : {s m t : List ℕ} → opt Ended s m → opt Ended m t → opt Ended s t
opt-opt (inl x) y = inl (ended-opt x y)
opt-opt {t = t} (inr e) y = subst (λ (l : List ℕ). opt Ended l t) (sym e) y

-- put together from parts
byte-ended : (b : ℕ) → 0x20 < b → Within (byte b) Ended
byte-ended b h s t e = record { before = []; last = b; visible = h; is = e }

range-ended : (low high : ℕ) → 0x20 < low → Within (range low high) Ended
range-ended low high h s t (b, k, l, e) = record { before = []; last = b; visible = omega arith; is = e }

then-ended : {a b : Rule} → Within a Front → Within b Ended → Within (a ⨾ b) Ended
then-ended f g s t (m, x, y) = front-then (f s m x) (g m t y)

then-opt : {a b : Rule} → Within a Ended → Within b (opt Ended) → Within (a ⨾ b) Ended
then-opt f g s t (m, x, y) = ended-opt (f s m x) (g m t y)

opts : {a b : Rule} → Within a (opt Ended) → Within b (opt Ended) → Within (a ⨾ b) (opt Ended)
opts f g s t (m, x, y) = opt-opt (f s m x) (g m t y)

many-opt : {a : Rule} → Within a Ended → Within (many a) (opt Ended)
many-opt f s t done = inr refl
many-opt f s t (more x r) = inl (ended-opt (f _ _ x) (many-opt f _ _ r))

-- numbers, strings, what stands behind an opening bracket, and a member as a front part
digits-ended : Within (DIGIT ⨾ many DIGIT) Ended
digits-ended = then-opt (range-ended 0x30 0x39 (omega arith)) (many-opt (range-ended 0x30 0x39 (omega arith)))

pub number-ended : Within number Ended
number-ended =
    then-ended (opt-front (byte-front 0x2D))
    (then-opt (both-in (byte-ended 0x30 (omega arith)) (then-opt (range-ended 0x31 0x39 (omega arith)) (many-opt (range-ended 0x30 0x39 (omega arith)))))
    (opts (opt-in (then-ended (byte-front 0x2E) digits-ended))
    (opt-in (then-ended (both-in (byte-front 0x65) (byte-front 0x45))
    (then-ended (opt-front (both-in (byte-front 0x2D) (byte-front 0x2B))) digits-ended)))))

string-ended : Within string Ended
string-ended s t x = by (string-spelt x).1
  where
    by : {us : List ℕ} → spelt us s t → Ended s t
    by (quoted {x = y} c e) = record { before = 0x22 ∷ y; last = 0x22; visible = omega arith; is = e }

module _ {q : Rule} {close : ℕ} (f : Within q Front) (h : 0x20 < close) where
  elements-ended : {s t : List ℕ} → Elements q close s t → Ended s t
  elements-ended (last x b e) = front-then (fronts (f _ _ x) (ws-front _ _ b.all)) (byte-ended close h _ _ e)
  elements-ended (next x b e c r) =
      front-then (fronts (f _ _ x) (fronts (ws-front _ _ b.all) (fronts (byte-front 0x2C _ _ e) (ws-front _ _ c.all)))) (elements-ended r)

  rest_ended : {s t : List ℕ} → Rest q close s t → Ended s t
  rest_ended (empty b e) = front-then (ws-front _ _ b.all) (byte-ended close h _ _ e)
  rest_ended (full b w r) = front-then (ws-front _ _ b.all) (elements-ended r)

member-front : {v : Rule} → Within v Front → Within (Member v) Front
member-front f s t (member n b e c v) =
    fronts (string-front _ _ n) (fronts (ws-front _ _ b.all) (fronts (byte-front 0x3A _ _ e) (fronts (ws-front _ _ c.all) (f _ _ v))))

-- a value: by its first byte
led-ended : (n : Bool) {v : Rule} → Within v Front → (b : ℕ) (u t : List ℕ) → leads n v b u t → Ended (b ∷ u) t
unfolding leads
led-ended n {v} f b u t =
    by_first (λ c. leads n v c u t → Ended (c ∷ u) t)
    (string-ended (0x22 ∷ u) t) (λ x. front-then (0x7B ∷ [], refl) (rest_ended (member-front f) (omega arith) x.members))
    (λ x. front-then (0x5B ∷ [], refl) (rest_ended f (omega arith) x))
    (λ x. record { before = ascii "tru"; last = 0x65; visible = omega arith; is = x })
    (λ x. record { before = ascii "fals"; last = 0x65; visible = omega arith; is = x })
    (λ x. record { before = ascii "nul"; last = 0x6C; visible = omega arith; is = x })
    (λ c e x. number-ended (c ∷ u) t (number-from (c ∷ u) t (rw (e n v u t) at x))) b

-- a value begins and ends with bytes that are no blanks
pub record Shown (s t : List ℕ) : Type 0 where
  pub b : ℕ
  pub u : List ℕ
  pub first : s ≡ b ∷ u
  pub visible : 0x20 < b
  pub ended : Ended s t

shown : (n : Bool) {v : Rule} {s t : List ℕ} → Within v Front → Lead (leads n v) s t → Shown s t
shown n {v} {t = t} f (lead {b = b} {u = u} e x) =
    record { b = b; u = u; first = e; visible = led-first n v b u t x; ended = subst (λ (l : List ℕ). Ended l t) (sym e) (led-ended n f b u t x) }

tight-shown : (n : Bool) (d : ℕ) {s t : List ℕ} → tight n d s t → Shown s t
unfolding tight
tight-shown n zero x = absurd x
tight-shown n (suc d) x = shown n (λ s t y. ended-front (tight-shown n d y).ended) x

pub tight-ended : (n : Bool) (d : ℕ) {s t : List ℕ} → tight n d s t → Ended s t
tight-ended n d x = (tight-shown n d x).ended

-- ---- bare

-- what stands before c
taken : {a : List ℕ} (v c : List ℕ) → a ≡ v ++ c → take (length a - length c) a ≡ v
taken v c e = rw e (take_at v c (length (v ++ c) - length c) (simp length-append (omega arith)))

pub front-taken : {a c : List ℕ} → Front a c → a ≡ take (length a - length c) a ++ c
front-taken {a} {c} (v, e) = rw (taken v c e) e

blank-one : (s t : List ℕ) → blank s t → (y : ℕ) × IsBlank y × (s ≡ y ∷ t)
blank-one s t (inl e) = (0x20, inl refl, e)
blank-one s t (inr (inl e)) = (0x09, inr (inl refl), e)
blank-one s t (inr (inr (inl e))) = (0x0A, inr (inr (inl refl)), e)
blank-one s t (inr (inr (inr e))) = (0x0D, inr (inr (inr refl)), e)

last_of : (w u : List ℕ) (x y : ℕ) → w ++ (x ∷ []) ≡ u ++ (y ∷ []) → x ≡ y
last_of w u x y e =
    let l : length w ≡ length u = omega (arith, simp length-append at (ap length e)) in
    sym (get_or-append_seam w x [] 0) ∙ rw (e, l) (get_or-append_seam u y [] 0)

bare-front : (w : List ℕ) (x : ℕ) (c : List ℕ) {b : ℕ} {u : List ℕ} → w ++ (x ∷ c) ≡ b ∷ u → 0x20 < b → (t : List ℕ) → blank (w ++ (x ∷ [])) t → ⊥
bare-front [] x c e h t y = visible x (omega (arith, head_of e)) (blanks.first x [] t y)
bare-front (z ∷ w) x c e h t y = visible z (omega (arith, head_of e)) (blanks.first z (w ++ (x ∷ [])) t y)

pub shown-bare : {a c : List ℕ} → Shown a c → Bare (take (length a - length c) a)
shown-bare {a} {c} k =
    let w : List ℕ = k.ended.before in
    let x : ℕ = k.ended.last in
    let e : a ≡ (w ++ (x ∷ [])) ++ c = rw append_assoc k.ended.is in
    rw (taken (w ++ (x ∷ [])) c e) (record { front = bare-front w x c (sym k.ended.is ∙ k.first) k.visible; back = back w x k.ended.visible })
  where
    back : (w : List ℕ) (x : ℕ) → 0x20 < x → (u t : List ℕ) → w ++ (x ∷ []) ≡ u ++ t → blank t [] → ⊥
    back w x h u t e y =
        let (z, i, j) = blank-one t [] y in
        visible z (omega (arith, last_of w u x z (rw j at e))) i

-- a value that is read is bare
pub tight-bare : (n : Bool) (d : ℕ) (a c : List ℕ) → tight n d a c → Bare (take (length a - length c) a)
tight-bare n d a c x = shown-bare (tight-shown n d x)

-- ---- among blanks

-- no blank, or one is the last of them
at_back : {c t : List ℕ} → ws c t → (c ≡ t) ⊎ ((z : List ℕ) × (y : ℕ) × IsBlank y × (c ≡ z ++ (y ∷ t)))
at_back done = inl refl
at_back {t = t} (more {s = s} {m = m} x r) = by (blank-one s m x) (at_back r)
  where
    by : (y : ℕ) × IsBlank y × (s ≡ y ∷ m) → (m ≡ t) ⊎ ((z : List ℕ) × (y : ℕ) × IsBlank y × (m ≡ z ++ (y ∷ t)))
        → (s ≡ t) ⊎ ((z : List ℕ) × (y : ℕ) × IsBlank y × (s ≡ z ++ (y ∷ t)))
    by (y, k, e) (inl f) = inr ([], y, k, cc)
    by (y, k, e) (inr (z, l, i, f)) = inr (y ∷ z, l, i, cc)

at_front : (v t : List ℕ) {b a : List ℕ} → ws b a → length t < length b → b ≡ v ++ t → Bare v → b ≡ a
at_front v t done h e k = refl
at_front [] t (more x r) h e k = absurd (omega (arith, ap length e))
at_front (y ∷ v) t (more {m = m} x r) h e k = absurd (k.front v (blanks.is y v (blanks.first y (v ++ t) m (rw e at x))))

shorter : {s t : List ℕ} → Front s t → length t ≤ length s
shorter (v, e) = omega (arith, simp length-append at (ap length e))

regroup : (w z y t : List ℕ) → w ++ (z ++ (y ++ t)) ≡ ((w ++ z) ++ y) ++ t
regroup w z y t = simp append_assoc

-- a bare text among blanks is what is read there
pub cut : {v b a c t : List ℕ} → Blanks b a → Ended a c → ws c t → b ≡ v ++ t → Bare v → (v ≡ take (length a - length c) a) × (length t ≡ length c)
cut {v} {b} {a} {c} {t} x y z e k =
    let w : List ℕ = y.before in
    let long : length a ≡ length w + suc (length c) = ap length y.is ∙ length-append w (y.last ∷ c) in
    let less : length t < length b = omega (arith, shorter (ws-front b a x.all), shorter (ws-front c t z)) in
    let here : b ≡ a = at_front v t x.all less e k in
    by here (at_back z)
  where
    by : b ≡ a → (c ≡ t) ⊎ ((z : List ℕ) × (y : ℕ) × IsBlank y × (c ≡ z ++ (y ∷ t))) → (v ≡ take (length a - length c) a) × (length t ≡ length c)
    by i (inl f) = (sym (taken v c (sym i ∙ e ∙ ap (λ (l : List ℕ). v ++ l) (sym f))), ap length (sym f))
    by i (inr (z, l, j, f)) =
        let w : List ℕ = y.before ++ (y.last ∷ z) in
        let there : v ++ t ≡ (w ++ (l ∷ [])) ++ t = sym e ∙ i ∙ y.is ∙ rw f (regroup y.before (y.last ∷ z) (l ∷ []) t) in
        absurd (k.back w (l ∷ []) (append_cancel_right v (w ++ (l ∷ [])) t there) (blanks.is l [] j))
