-- For each public function: two answers that meet its promise are the same answer.
-- Assumes nothing.
use mathlib.Core.Bool.{true≢false}
use mathlib.Core.List.{List, ◌∷◌}
use mathlib.Core.Logic.{◌⊎◌, inl, inr, ⊎_elim}
use mathlib.Core.Path.{◌≡◌, refl, sym, ◌∙◌, ap, ap₂, subst}
use Prim.Native.Nat.{ℕ, ◌+◌, ◌≤◌, ◌<◌}
use native.Mathlib.Decide.{dec_le}
use native.Mathlib.Nat.{eq-or-lt_of_le}
use native.Mathlib.Omega.{arith}
use denote.Ref.{Bor}
use lib.ListN.{drop}
use Rattle.std.specs.Prelude.{Option, Some, None, Result, Ok, Err}
use Rattle.digits.proofs.Laws.Handed.{same_ends, one-part}
use Rattle.digits.proofs.Laws.Refusals.{some_number, same_answer, one_answer}
use Rattle.digits.specs.Paper.Bytes.{part}
use Rattle.digits.specs.Paper.Part.{Ends}
use Rattle.digits.specs.Paper.Refusals.{refusal_number}
use Rattle.digits.specs.declared.refusal.Refusal.{Refusal}
use Rattle.frames.specs.Paper.Kinds.{layout_of, Resolves}
use Rattle.frames.specs.Paper.Runs.{Run}
use Rattle.frames.specs.Paper.Search.{FrameAt, Hit, Leftmost, found_refusal, found_hit, Searches, Hands}
use Rattle.frames.specs.Paper.OneFrame.{OneFrame, frame_payload_refusal, frame_payload_ends, TestsOneFrame}
use Rattle.frames.specs.Paper.Why.{Failing, JudgedAt, verdict_refusal, verdict_failing, Whys}
use Rattle.frames.specs.declared.Found.{Found}
use Rattle.frames.specs.declared.kinds.Kind.{Kind}
use Rattle.layouts.proofs.Laws.Buses.{one-verdict}
use Rattle.layouts.specs.Paper.Judged.{Judged}
use Rattle.frames.specs.declared.FramePayload.{FramePayload}
use Rattle.frames.proofs.Laws.Kinds.{bus_of, one-payload, one-kind, known_of, kind-is, kind-not}
use Rattle.frames.proofs.Laws.Places.{one-length}
use Rattle.frames.proofs.Laws.Runs.{leftmost, none_found}
use Rattle.frames.specs.Paper.Runs as R

-- ---- the leftmost frame

apart : (i j : ℕ) → (i ≡ j) ⊎ ((i < j) ⊎ (j < i))
apart i j = go (dec_le i j)
  where
    go : Dec (i ≤ j) → (i ≡ j) ⊎ ((i < j) ⊎ (j < i))
    go (yes h) = ⊎_elim inl (λ l. inr (inl l)) (eq-or-lt_of_le h)
    go (no h) = inr (inr (omega arith))

abbrev hit : (start len from to : ℕ) → Hit
hit i n x y = record { start = i; len = n; from = x; to = y }

module _ {k : ℕ} {s : List ℕ} {place : ℕ} where
  pub leftmost-one : (u v : Hit) → Leftmost k s place u → Leftmost k s place v → u ≡ v
  leftmost-one u v a b =
      ⊎_elim
      (λ (e : u.start ≡ v.start).
      let n : u.len ≡ v.len = one-length a.stands (subst (λ (i : ℕ). FrameAt k s i v.len) (sym e) b.stands) in
      let p : part u.start (u.start + u.len) s ≡ part v.start (v.start + v.len) s = rw (e, n) in
      let q = one-payload p a.stands.frame b.stands.frame in
      let x : u.from ≡ v.from = a.from_is ∙ ap₂ (λ (i j : ℕ). i + j) e q.0 ∙ sym b.from_is in
      let y : u.to ≡ v.to = a.to_is ∙ ap₂ (λ (i j : ℕ). i + j) e q.1 ∙ sym b.to_is in
      same u.start v.start u.len v.len u.from v.from u.to v.to e n x y)
      (λ h. absurd (⊎_elim (λ (l : u.start < v.start). b.none_before u.start u.len a.behind l a.stands) (λ (l : v.start < u.start). a.none_before v.start v.len b.behind l b.stands) h))
      (apart u.start v.start)
    where
      same : (i i' n n' x x' y y' : ℕ) → i ≡ i' → n ≡ n' → x ≡ x' → y ≡ y' → hit i n x y ≡ hit i' n' x' y'
      same i i' n n' x x' y y' p q r t = rw (p, q, r, t)

-- ---- frames::search

by_cases : {A : Type 0} (P : Result A Refusal → Type 0) → ((v : A) → P (Ok v)) → ((why : Refusal) → P (Err why)) → (r : Result A Refusal) → P r
by_cases P f g (Ok v) = f v
by_cases P f g (Err why) = g why

found-answer : (r q : Result Found Refusal) → found_refusal r ≡ found_refusal q → found_hit r ≡ found_hit q → r ≡ q
found-answer = same_answer Ok Err found_refusal found_hit (λ v. refl) (λ why. refl) (λ v. refl) by_cases

pub searched-one : {k : ℕ} {s : List ℕ} {place : ℕ} (r q : Result Found Refusal) → Searches k s place r → Searches k s place q → r ≡ q
searched-one r q a b = let e = one_answer leftmost-one a b in found-answer r q e.0 e.1

-- a find is no refusal
pub hit-or-none : {v : Hit} {why : Refusal} → Ok v ≡ Err why → ⊥
hit-or-none {why = why} e = let h : 0 ≡ refusal_number why = ap found_refusal e in omega (arith, some_number why)

-- ---- frames::frame and frames::payload

pub handed-one : {k : ℕ} {s : Bor (List ℕ)} {place : ℕ} (ends : Hit → Ends) (p q : Bor (List ℕ)) → Hands k s place ends p → Hands k s place ends q
    → (p.ref_ptr ≡ q.ref_ptr) × (p.now ≡ q.now)
handed-one ends p q = one-part (λ d e x y. x.2 ∙ ap ends (leftmost-one x.0 y.0 x.1 y.1) ∙ sym y.2)

-- ---- frames::one_frame

module _ {k : ℕ} {s : List ℕ} where
  pub ends-one : (u v : Ends) → OneFrame k s u → OneFrame k s v → u ≡ v
  ends-one u v a b =
      let q = one-payload refl a.frame b.frame in
      same_ends (a.from_is ∙ q.0 ∙ sym b.from_is) (a.to_is ∙ q.1 ∙ sym b.to_is)

  pub whole-one : (r q : Result FramePayload Refusal) → TestsOneFrame k s r → TestsOneFrame k s q → r ≡ q
  whole-one r q a b = let e = one_answer ends-one a b in whole-answer r q e.0 e.1
    where
      whole-answer : (r q : Result FramePayload Refusal) → frame_payload_refusal r ≡ frame_payload_refusal q
          → frame_payload_ends r ≡ frame_payload_ends q → r ≡ q
      whole-answer =
          same_answer (λ (v : Ends). Ok (record { from = v.from; to = v.to })) Err frame_payload_refusal frame_payload_ends
          (λ v. refl) (λ why. refl) (λ v. refl)
          (λ P f. by_cases P (λ v. f (record { from = v.from; to = v.to })))

-- ---- frames::why

module _ {k : ℕ} {s : List ℕ} {place : ℕ} where
  pub failing-one : (u v : Failing) → JudgedAt k s place u → JudgedAt k s place v → u ≡ v
  failing-one u v a b =
      let same : b.kind ≡ a.kind = one-kind b.kind a.kind (b.number ∙ sym a.number) in
      one-verdict (bus_of a.kind) a.judged (subst (λ (x : Kind). Judged (layout_of x) (drop place s) v) same b.judged)

  pub why-one : (r q : Result Failing Refusal) → Whys k s place r → Whys k s place q → r ≡ q
  why-one r q a b = let e = one_answer failing-one a b in verdict-answer r q e.0 e.1
    where
      verdict-answer : (r q : Result Failing Refusal) → verdict_refusal r ≡ verdict_refusal q → verdict_failing r ≡ verdict_failing q → r ≡ q
      verdict-answer = same_answer Ok Err verdict_refusal verdict_failing (λ v. refl) (λ why. refl) (λ v. refl) by_cases

-- ---- frames::kinds::of

pub resolved-one : {k : ℕ} (r q : Option Kind) → Resolves k r → Resolves k q → r ≡ q
resolved-one (Some a) (Some b) x y = ap Some (one-kind a b (kind-is a x ∙ sym (kind-is b y)))
resolved-one (Some a) None x y = absurd (true≢false (sym (known_of a (kind-is a x)) ∙ kind-not y))
resolved-one None (Some b) x y = absurd (true≢false (sym (known_of b (kind-is b y)) ∙ kind-not x))
resolved-one None None x y = refl

-- ---- one search after the other

pub run-one : {k : ℕ} {s : List ℕ} {place : ℕ} {xs ys : List Hit} → Run k s place xs → Run k s place ys → xs ≡ ys
run-one (R.ends a) (R.ends b) = refl
run-one (R.ends a) (R.finds {v = v} b r) = absurd (none_found a v.start v.len (leftmost b).behind (leftmost b).stands)
run-one (R.finds {v = v} a r) (R.ends b) = absurd (none_found b v.start v.len (leftmost a).behind (leftmost a).stands)
run-one {k} {s} (R.finds {v = u} {later = later} a r) (R.finds {v = v} b q) =
    let e : u ≡ v = leftmost-one u v (leftmost a) (leftmost b) in
    let at : u.start + u.len ≡ v.start + v.len = ap (λ (h : Hit). h.start + h.len) e in
    ap₂ (λ (h : Hit) (l : List Hit). h ∷ l) e (run-one (subst (λ (p : ℕ). Run k s p later) at r) q)
