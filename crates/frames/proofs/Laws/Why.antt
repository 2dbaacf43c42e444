-- The verdict on a place: which it is, that there is one, and what it has to do with the frame there.
-- Assumes nothing.
use mathlib.Core.Bool.{true, false}
use mathlib.Core.List.{List}
use mathlib.Core.Path.{◌≡◌, refl, sym, ◌∙◌, subst}
use Prim.Native.Nat.{ℕ, ◌+◌, ◌≤◌, ◌<◌}
use native.Mathlib.Decide.{dec_le}
use native.Mathlib.Omega.{arith}
use lib.ListN.{length, drop, length-drop}
use lib.Seq.{length-take-le}
use Rattle.std.specs.Prelude.{Option, Some, None, Result, Ok, Err}
use Rattle.digits.proofs.Laws.Refusals.{answered}
use Rattle.digits.specs.Paper.Refusals.{answers, refuses}
use Rattle.digits.specs.declared.refusal.Refusal.{Refusal}
use Rattle.digits.specs.declared.refusal.Refusal.TheVariants.{NoKind, NoPlace}
use Rattle.layouts.proofs.Laws.Buses.{a-verdict, frame-none, none-frame, head-begun, head-long}
use Rattle.layouts.specs.Paper.Judged.{Head, Judged}
use Rattle.layouts.specs.Paper.Layout as layout
use Rattle.frames.specs.Paper.Kinds.{number_of, layout_of, known, Resolves, payload_from, payload_to}
use Rattle.frames.specs.Paper.Search.{FrameAt, Searches}
use Rattle.frames.specs.Paper.Why.{Failing, Whys}
use Rattle.frames.specs.Work.Seek.{resolved, found_at}
use Rattle.frames.specs.declared.kinds.Kind.{Kind}
use Rattle.frames.proofs.Laws.Causes.{why-0, why-2, why-3, search-0}
use Rattle.frames.proofs.Laws.Kinds.{bus_of, known_of, as-frame, kind-right, resolves, kind-is, kind-not}
use Rattle.frames.proofs.Laws.Places.{part-take, known_at}

-- ---- what the code answers

module _ {k : ℕ} {s : List ℕ} {place : ℕ} where
  pub why-no-kind : known k ≡ false → Whys k s place (Err NoKind)
  why-no-kind e = refuses {no = 2} (omega arith) (why-2 e)

  pub why-no-place : known k ≡ true → length s < place → Whys k s place (Err NoPlace)
  why-no-place e h = refuses {no = 3} (omega arith) (why-3 e h)

  pub why-judged : (kind : Kind) → number_of kind ≡ k → place ≤ length s → {v : Failing} → Judged (layout_of kind) (drop place s) v
      → Whys k s place (Ok v)
  why-judged kind e h {v} j = answers {v = v} (why-0 (known_of kind e) h) (record { kind = kind; number = e; judged = j })

-- ---- each kind, buffer and place has a verdict

pub some-verdict : (k : ℕ) (s : List ℕ) (place : ℕ) → (r : Result Failing Refusal) × Whys k s place r
some-verdict k s place = of (resolved k) (resolves k)
  where
    at : (kind : Kind) → number_of kind ≡ k → Dec (place ≤ length s) → (r : Result Failing Refusal) × Whys k s place r
    at kind e (yes h) =
        let q = a-verdict (bus_of kind) (drop place s) in
        (Ok q.0, why-judged kind e h q.1)
    at kind e (no f) = (Err NoPlace, why-no-place (known_of kind e) (omega (arith, f)))

    of : (r : Option Kind) → Resolves k r → (r : Result Failing Refusal) × Whys k s place r
    of (Some kind) a = at kind (kind-is kind a) (dec_le place (length s))
    of None a = (Err NoKind, why-no-kind (kind-not a))

-- ---- no test failed, and a frame stands there

pub frame-why : {k : ℕ} {s : List ℕ} {place n : ℕ} → FrameAt k s place n → Whys k s place (Ok None)
frame-why {k} {s} {place} {n} q =
    let r = q.frame in
    why-judged r.kind r.number (omega (arith, q.inside))
    (frame-none (bus_of r.kind) {n = n} (omega (arith, q.inside, length-drop place s))
    (subst (layout.FrameBy (layout_of r.kind)) (part-take place n s) r.frame))

pub why-frame : {k : ℕ} {s : List ℕ} {place : ℕ} → Whys k s place (Ok None) → (n : ℕ) × FrameAt k s place n
why-frame {k} {s} {place} w =
    let j = answered w refl in
    let q = none-frame (bus_of j.kind) j.judged in
    let n = q.0 in
    let some : 0 < n = omega (arith, (kind-right j.kind).some q.2, length-take-le n (drop place s) q.1) in (
      n,
      subst (λ (i : ℕ). FrameAt i s place n) j.number
          (record {
            inside = omega (arith, some, q.1, length-drop place s);
            frame = as-frame j.kind (subst (layout.FrameBy (layout_of j.kind)) (sym (part-take place n s)) q.2);
          }),
    )

-- and the search from there answers that place
pub frame_found : {k : ℕ} {s : List ℕ} {place n : ℕ} (q : FrameAt k s place n)
    → Searches k s place (Ok (found_at place (record { len = n; from = payload_from q.frame; to = payload_to q.frame })))
frame_found {k} {s} {place} {n} q =
    answers {v = found_at place (record { len = n; from = payload_from q.frame; to = payload_to q.frame })}
    (search-0 (known_at q) (omega (arith, q.inside)) {i = place} {n = n} (omega arith) q)
    (record { behind = omega arith; stands = q; from_is = refl; to_is = refl; none_before = λ j m p l r. omega (arith, p, l) })

-- ---- what is laid out so

pub laid-begun : (kind : Kind) {s : List ℕ} → Head (layout_of kind) s → ((layout_of kind).Begun s) × ((layout_of kind).Long s)
laid-begun kind h = (head-begun (bus_of kind) h, head-long (bus_of kind) h)
