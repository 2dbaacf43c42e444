-- What a bus's recognisers have to be, and what follows for its frames and for the verdicts on what stands at a place, once for all buses.
-- Assumes nothing.
use mathlib.Core.Bool.{Bool, true, false}
use mathlib.Core.List.{List, [], ◌∷◌, ◌++◌}
use mathlib.Core.Path.{◌≡◌, refl, sym, ◌∙◌, ap, subst}
use Prim.Native.Nat.{ℕ, zero, suc, ◌≤◌, ◌<◌}
use native.Mathlib.Decide.{ℕ_discrete}
use native.Mathlib.Omega.{arith}
use lib.Dec.{T, eqb, eqb→eq}
use lib.ListN.{length, take, drop, take-append-drop}
use lib.Seq.{length-take-le}
use borrow.Author.Tests.{eq-eqb}
use Rattle.std.specs.Prelude.{Option, Some, None, Ok, Err}
use Rattle.digits.proofs.Laws.Parts.{part-front}
use Rattle.digits.proofs.Laws.Tests.{T_and}
use Rattle.digits.specs.Paper.Bytes.{part}
use Rattle.layouts.specs.Paper.Judged.{Head, differing, without, FirstFailed, no-check, first-check, second-check, Judged, no_start, no_length, no_fields, checked, Recognises}
use Rattle.layouts.specs.Paper.Layout.{Layout, Agree, all-agree, agree, bytes_of, payload_from, payload_to, Form, FrameBy, Leads, leads, none}
use Rattle.layouts.specs.Work.Recogniser.{Recogniser, agreeing, frame_len}
use Rattle.layouts.specs.declared.Compared.{Compared}
use Rattle.layouts.specs.declared.Failure.{Failure}
use Rattle.layouts.specs.declared.Frame.{Frame}
use Rattle.layouts.specs.declared.Test.{Test}
use Rattle.layouts.specs.declared.Test.TheVariants.{Start, Length, Fields, First, Second}
use Rattle.layouts.proofs.Laws.Heads.{Right, passing-right, same-right, taken, inside, found, only_yes, only_no}

-- ---- the values of checks

pub same-pair : {a b c d : ℕ} → a ≡ b → c ≡ d → ◌≡◌ {A = Compared} (record { found = a; expected = c }) (record { found = b; expected = d })
same-pair e f = rw (e, f)

-- of the values of no check, of one, or of two
pub data Few : List Compared → Type 0 where
  no-pair : Few []
  one-pair : (c : Compared) → Few (c ∷ [])
  two-pairs : (c d : Compared) → Few (c ∷ d ∷ [])

pub all-agreed : (cs : List Compared) → T (agreeing cs) → Agree cs
unfolding agreeing
all-agreed [] t = all-agree
all-agreed (c ∷ cs) t = let q = T_and (eqb c.found c.expected) (agreeing cs) t in agree (eqb→eq _ _ q.0) (all-agreed cs q.1)

pub agreed-all : {cs : List Compared} → Agree cs → agreeing cs ≡ true
unfolding agreeing
agreed-all all-agree = refl
agreed-all (agree {c = c} e later) = rw (eq-eqb c.found c.expected e) (agreed-all later)

pub first-agrees : {c : Compared} {cs : List Compared} → Agree (c ∷ cs) → c.found ≡ c.expected
first-agrees (agree e later) = e

-- where they do not agree, a test tells it
not-agreed : {cs : List Compared} → (Agree cs → ⊥) → agreeing cs ≡ false
not-agreed {cs} f = go (agreeing cs) refl
  where
    go : (t : Bool) → agreeing cs ≡ t → agreeing cs ≡ false
    go true e = absurd (f (all-agreed cs (rw e tt)))
    go false e = e

agreed : {cs : List Compared} → FirstFailed cs None → Agree cs
agreed (no-check a) = a

pub later-agree : {c : Compared} {cs : List Compared} → Agree (c ∷ cs) → Agree cs
later-agree (agree e later) = later

-- `form` finds what is laid out so; `pairs` are the values of its checks; the payload goes from `from` to `to`; whether the start mark and the
-- length are there can be told; and what is laid out so has both
pub record Bus (l : Layout) (r : Recogniser) : Type 0 where
  pub forms : Right (Form l) r.form
  pub compares : (w : List ℕ) (f : Form l w) → l.compared f.fields ≡ r.pairs w
  pub few : (w : List ℕ) → Few (r.pairs w)
  pub begins : (w : List ℕ) (f : Form l w) → payload_from l f.fields ≡ r.from w
  pub ends : (w : List ℕ) (f : Form l w) → payload_to l f.fields ≡ r.to w
  pub begun? : (s : List ℕ) → Dec (l.Begun s)
  pub long? : (s : List ℕ) → Dec (l.Long s)
  pub laid-begun : (m : l.Fields) → l.Limits m → (t : List ℕ) → l.Begun (bytes_of l m ++ t)
  pub laid-long : (m : l.Fields) → l.Limits m → (t : List ℕ) → l.Long (bytes_of l m ++ t)

-- a frame of three numbers
abbrev pub standing : (n from to : ℕ) → Frame
standing n x y = record { len = n; from = x; to = y }

same-frame : {n m x u y v : ℕ} → n ≡ m → x ≡ u → y ≡ v → standing n x y ≡ standing m u v
same-frame e f g = rw (e, f, g)

pub answered-as : {l : Layout} {s : List ℕ} {r q : Failure} → r ≡ q → Recognises l s (Err q) → Recognises l s (Err r)
answered-as {l} {s} e a = subst (λ (f : Failure). Recognises l s (Err f)) (sym e) a

module _ {l : Layout} {r : Recogniser} (b : Bus l r) where
  -- ---- frames

  -- what passes is a frame, and only that
  pub frame_right : Right (FrameBy l) (frame_len r)
  frame_right =
      same-right
      (λ w p. record { form = p.word; passes = subst Agree (sym (b.compares w p.word)) (all-agreed (r.pairs w) p.passes) })
      (λ w p. record { word = p.form; passes = rw (agreed-all (subst Agree (b.compares w p.form) p.passes)) tt })
      (passing-right b.forms (λ w. agreeing (r.pairs w)))

  -- what the code answers
  pub leads-at : (s : List ℕ) (n x y : ℕ) → n ≡ frame_len r s → (n ≡ 0 → ⊥) → x ≡ r.from (take n s) → y ≡ r.to (take n s)
      → Leads l s (Some (standing n x y))
  leads-at s n x y e nz ex ey =
      let p : 0 < frame_len r s = omega (arith, e) in
      let f : FrameBy l (take n s) = subst (λ (k : ℕ). FrameBy l (take k s)) (sym e) (taken frame_right s p) in
      let h : n ≤ length s = subst (λ (k : ℕ). k ≤ length s) (sym e) (inside frame_right s) in
      let ax : payload_from l f.form.fields ≡ x = b.begins (take n s) f.form ∙ sym ex in
      let ay : payload_to l f.form.fields ≡ y = b.ends (take n s) f.form ∙ sym ey in
      subst (λ (f : Frame). Leads l s (Some f)) (same-frame refl ax ay) (leads h f)

  pub leads-none : (s : List ℕ) → 0 ≡ frame_len r s → Leads l s None
  leads-none s e =
      none (λ n h f.
      let k : frame_len r s ≡ n = found frame_right s n h f in
      let p : 0 < length (take n s) = frame_right.some f in
      never n k p)
    where
      never : (n : ℕ) → frame_len r s ≡ n → 0 < length (take n s) → ⊥
      never n k p = let z : n ≡ 0 = sym k ∙ sym e in let q : 0 < length (take 0 s) = rw z at p in omega arith

  -- and what an answer says
  pub lead-length : {s : List ℕ} {f : Frame} → Leads l s (Some f) → f.len ≡ frame_len r s
  lead-length {s} (leads {n = n} h f) = sym (found frame_right s n h f)

  pub none-length : {s : List ℕ} → Leads l s None → 0 ≡ frame_len r s
  none-length {s} (none g) = go (frame_len r s) refl
    where
      go : (k : ℕ) → frame_len r s ≡ k → 0 ≡ k
      go zero e = refl
      go (suc k) e = absurd (g (frame_len r s) (inside frame_right s) (taken frame_right s (omega (arith, e))))

  pub lead-from : {s : List ℕ} {f : Frame} → Leads l s (Some f) → f.from ≡ r.from (take f.len s)
  lead-from {s} (leads {n = n} h f) = b.begins (take n s) f.form

  pub lead-to : {s : List ℕ} {f : Frame} → Leads l s (Some f) → f.to ≡ r.to (take f.len s)
  lead-to {s} (leads {n = n} h f) = b.ends (take n s) f.form

  -- two answers are the same
  pub one-lead : {s : List ℕ} {x y : Option Frame} → Leads l s x → Leads l s y → x ≡ y
  one-lead {s} (leads {n = n} h f) (leads {n = m} k g) =
      let e : n ≡ m = sym (found frame_right s n h f) ∙ found frame_right s m k g in
      ap (λ (f : Frame). Some f)
      (same-frame e
      (b.begins (take n s) f.form ∙ ap (λ (i : ℕ). r.from (take i s)) e ∙ sym (b.begins (take m s) g.form))
      (b.ends (take n s) f.form ∙ ap (λ (i : ℕ). r.to (take i s)) e ∙ sym (b.ends (take m s) g.form)))
  one-lead (leads {n = n} h f) (none g) = absurd (g n h f)
  one-lead (none g) (leads {n = n} h f) = absurd (g n h f)
  one-lead (none g) (none k) = refl

  -- ---- what is laid out so at the head

  pub head-found : {s : List ℕ} (h : Head l s) → r.form s ≡ h.size
  head-found {s} h = found b.forms s h.size h.inside h.form

  head-laid : {s : List ℕ} (h : Head l s) → bytes_of l h.form.fields ++ drop h.size s ≡ s
  head-laid {s} h = ap (λ (w : List ℕ). w ++ drop h.size s) (sym h.form.laid) ∙ take-append-drop h.size s

  pub head-some : {s : List ℕ} → Head l s → 0 < r.form s
  head-some {s} h =
      let e = head-found h in
      let p = b.forms.some h.form in
      omega (arith, e, p, length-take-le h.size s h.inside)

  pub head-there : (s : List ℕ) (n : ℕ) → n ≡ r.form s → 0 < n → Head l s
  head-there s n e p =
      record {
        size = n;
        inside = subst (λ (k : ℕ). k ≤ length s) (sym e) (inside b.forms s);
        form = subst (λ (k : ℕ). Form l (take k s)) (sym e) (taken b.forms s (omega (arith, e)));
      }

  pub head-pairs : {s : List ℕ} (h : Head l s) → l.compared h.form.fields ≡ r.pairs (take (r.form s) s)
  head-pairs {s} h = b.compares (take h.size s) h.form ∙ ap (λ (k : ℕ). r.pairs (take k s)) (sym (head-found h))

  -- WHAT IS LAID OUT SO HAS BEGUN AND IS LONG ENOUGH
  pub head-begun : {s : List ℕ} → Head l s → l.Begun s
  head-begun {s} h = subst l.Begun (head-laid h) (b.laid-begun h.form.fields h.form.limits (drop h.size s))

  pub head-long : {s : List ℕ} → Head l s → l.Long s
  head-long {s} h = subst l.Long (head-laid h) (b.laid-long h.form.fields h.form.limits (drop h.size s))

  -- ---- the code's answers, test by test

  module _ (s : List ℕ) where
    no_lead : (Head l s → ⊥) → Leads l s None
    no_lead f = none (λ n h x. f (record { size = n; inside = h; form = x.form }))

    pub fails-start : (l.Begun s → ⊥) → Recognises l s (Err (without Start))
    fails-start f = (no_lead (λ h. f (head-begun h)), no_start f)

    pub fails-length : l.Begun s → (l.Long s → ⊥) → Recognises l s (Err (without Length))
    fails-length a f = (no_lead (λ h. f (head-long h)), no_length a f)

    pub fails-fields : l.Begun s → l.Long s → r.form s ≡ 0 → Recognises l s (Err (without Fields))
    fails-fields a c z =
        let f : Head l s → ⊥ = λ h. let p = head-some h in omega (arith, z, p) in
        (no_lead f, no_fields a c f)

    module _ (n : ℕ) (e : n ≡ r.form s) (p : 0 < n) where
      there : Head l s
      there = head-there s n e p

      judged-there : {o : Option Failure} → FirstFailed (r.pairs (take n s)) o → Judged l s o
      judged-there {o} f =
          let same : l.compared there.form.fields ≡ r.pairs (take n s) = head-pairs there ∙ ap (λ (k : ℕ). r.pairs (take k s)) (sym e) in
          checked (head-begun there) (head-long there) there (subst (λ (cs : List Compared). FirstFailed cs o) (sym same) f)

      -- the checks are those of what was found
      tested : agreeing (r.pairs (take (r.form s) s)) ≡ agreeing (r.pairs (take n s))
      tested = ap (λ (k : ℕ). agreeing (r.pairs (take k s))) (sym e)

      fails-check : {f : Failure} → agreeing (r.pairs (take n s)) ≡ false → FirstFailed (r.pairs (take n s)) (Some f) → Recognises l s (Err f)
      fails-check off f = (leads-none s (sym (only_no _ _ (tested ∙ off))), judged-there f)

      pub fails-first : {c : Compared} {cs : List Compared} → r.pairs (take n s) ≡ c ∷ cs → (c.found ≡ c.expected → ⊥) → Recognises l s (Err (differing First c))
      fails-first {c} {cs} q f =
          fails-check (not-agreed (λ a. f (first-agrees (subst Agree q a))))
          (subst (λ (ds : List Compared). FirstFailed ds (Some (differing First c))) (sym q) (first-check f))

      pub fails-second : {c d : Compared} {cs : List Compared} → r.pairs (take n s) ≡ c ∷ d ∷ cs → c.found ≡ c.expected → (d.found ≡ d.expected → ⊥)
          → Recognises l s (Err (differing Second d))
      fails-second {c} {d} {cs} q x f =
          fails-check (not-agreed (λ a. f (first-agrees (later-agree (subst Agree q a)))))
          (subst (λ (ds : List Compared). FirstFailed ds (Some (differing Second d))) (sym q) (second-check x f))

      pub passes-all : {x y : ℕ} {cs : List Compared} → r.pairs (take n s) ≡ cs → Agree cs → x ≡ r.from (take n s) → y ≡ r.to (take n s)
          → Recognises l s (Ok (standing n x y))
      passes-all {x} {y} q a ex ey =
          let c : Agree (r.pairs (take n s)) = subst Agree (sym q) a in
          (leads-at s n x y (e ∙ sym (only_yes _ _ (tested ∙ agreed-all c))) (λ z. omega (arith, p, z)) ex ey, judged-there (no-check c))

  -- ---- the verdicts

  one-failed : {cs : List Compared} {x y : Option Failure} → FirstFailed cs x → FirstFailed cs y → x ≡ y
  one-failed (no-check a) (no-check c) = refl
  one-failed (no-check a) (first-check f) = absurd (f (first-agrees a))
  one-failed (no-check a) (second-check e f) = absurd (f (first-agrees (later-agree a)))
  one-failed (first-check f) (no-check a) = absurd (f (first-agrees a))
  one-failed (first-check f) (first-check g) = refl
  one-failed (first-check f) (second-check e g) = absurd (f e)
  one-failed (second-check e f) (no-check a) = absurd (f (first-agrees (later-agree a)))
  one-failed (second-check e f) (first-check g) = absurd (g e)
  one-failed (second-check e f) (second-check x g) = refl

  -- TWO VERDICTS are the same
  pub one-verdict : {s : List ℕ} {o q : Option Failure} → Judged l s o → Judged l s q → o ≡ q
  one-verdict (no_start f) (no_start g) = refl
  one-verdict (no_start f) (no_length x g) = absurd (f x)
  one-verdict (no_start f) (no_fields x y g) = absurd (f x)
  one-verdict (no_start f) (checked x y h g) = absurd (f x)
  one-verdict (no_length x f) (no_start g) = absurd (g x)
  one-verdict (no_length x f) (no_length y g) = refl
  one-verdict (no_length x f) (no_fields y z g) = absurd (f z)
  one-verdict (no_length x f) (checked y z h g) = absurd (f z)
  one-verdict (no_fields x y f) (no_start g) = absurd (g x)
  one-verdict (no_fields x y f) (no_length z g) = absurd (g y)
  one-verdict (no_fields x y f) (no_fields z a g) = refl
  one-verdict (no_fields x y f) (checked z a h g) = absurd (f h)
  one-verdict (checked x y h f) (no_start g) = absurd (g x)
  one-verdict (checked x y h f) (no_length z g) = absurd (g y)
  one-verdict (checked x y h f) (no_fields z a g) = absurd (g h)
  one-verdict {s} {q = q} (checked x y h f) (checked z a k g) =
      one-failed f (subst (λ (cs : List Compared). FirstFailed cs q) (head-pairs k ∙ sym (head-pairs h)) g)

  -- some check of these fails first, or none
  first-failed : {cs : List Compared} → Few cs → (o : Option Failure) × FirstFailed cs o
  first-failed no-pair = (None, no-check all-agree)
  first-failed (one-pair c) = go (ℕ_discrete c.found c.expected)
    where
      go : Dec (c.found ≡ c.expected) → (o : Option Failure) × FirstFailed (c ∷ []) o
      go (yes e) = (None, no-check (agree e all-agree))
      go (no f) = (Some (differing First c), first-check f)
  first-failed (two-pairs c d) = go (ℕ_discrete c.found c.expected) (ℕ_discrete d.found d.expected)
    where
      go : Dec (c.found ≡ c.expected) → Dec (d.found ≡ d.expected) → (o : Option Failure) × FirstFailed (c ∷ d ∷ []) o
      go (yes e) (yes x) = (None, no-check (agree e (agree x all-agree)))
      go (yes e) (no f) = (Some (differing Second d), second-check e f)
      go (no f) x = (Some (differing First c), first-check f)

  -- EVERY PLACE HAS A VERDICT
  pub a-verdict : (s : List ℕ) → (o : Option Failure) × Judged l s o
  a-verdict s = start (b.begun? s)
    where
      fields : l.Begun s → l.Long s → (n : ℕ) → n ≡ r.form s → (o : Option Failure) × Judged l s o
      fields x y zero e = (Some (without Fields), no_fields x y (λ h. let p = head-some h in omega (arith, e, p)))
      fields x y (suc n) e =
          let q = first-failed (b.few (take (suc n) s)) in
          (q.0, judged-there s (suc n) e (omega arith) q.1)

      length : l.Begun s → Dec (l.Long s) → (o : Option Failure) × Judged l s o
      length x (yes y) = fields x y (r.form s) refl
      length x (no f) = (Some (without Length), no_length x f)

      start : Dec (l.Begun s) → (o : Option Failure) × Judged l s o
      start (yes x) = length x (b.long? s)
      start (no f) = (Some (without Start), no_start f)

  -- NO TEST FAILED exactly if a frame stands there
  pub frame-none : {s : List ℕ} {n : ℕ} → n ≤ length s → FrameBy l (take n s) → Judged l s None
  frame-none {s} {n} h f =
      let k : Head l s = record { size = n; inside = h; form = f.form } in
      checked (head-begun k) (head-long k) k (no-check f.passes)

  pub none-frame : {s : List ℕ} → Judged l s None → (n : ℕ) × (n ≤ length s) × FrameBy l (take n s)
  none-frame (checked x y h f) = (h.size, h.inside, record { form = h.form; passes = agreed f })

-- ---- the values of a verdict

-- a test that compares two values
pub data Compares : Test → Type 0 where
  first : Compares First
  second : Compares Second

-- THE VALUES DIFFER IF A CHECK FAILED, and else they are zeros
failed-differ : {cs : List Compared} {f : Failure} → FirstFailed cs (Some f) → Compares f.test → f.found ≡ f.expected → ⊥
failed-differ (first-check f) first = f
failed-differ (second-check e f) second = f

pub values-differ : {l : Layout} {s : List ℕ} {f : Failure} → Judged l s (Some f) → Compares f.test → f.found ≡ f.expected → ⊥
values-differ (no_start _) c = elim c [ ]
values-differ (no_length _ _) c = elim c [ ]
values-differ (no_fields _ _ _) c = elim c [ ]
values-differ (checked x y h f) c = failed-differ f c

failed-zeros : {cs : List Compared} {f : Failure} → FirstFailed cs (Some f) → (Compares f.test → ⊥) → f ≡ without f.test
failed-zeros (first-check g) f = absurd (f first)
failed-zeros (second-check e g) f = absurd (f second)

pub values-zeros : {l : Layout} {s : List ℕ} {f : Failure} → Judged l s (Some f) → (Compares f.test → ⊥) → f ≡ without f.test
values-zeros (no_start g) f = refl
values-zeros (no_length x g) f = refl
values-zeros (no_fields x y g) f = refl
values-zeros (checked x y h g) f = failed-zeros g f

-- what was found is as long as was answered
module _ {P : List ℕ → Type 0} {f : List ℕ → ℕ} (p : Right P f) (s : List ℕ) (n : ℕ) (e : n ≡ f s) where
  pub found-length : length (take n s) ≡ n
  found-length = length-take-le n s (rw e (inside p s))

  pub found_part : length (part 0 n s) ≡ n
  found_part = ap length (part-front n s) ∙ found-length
