-- What the definitions of frames and of the search come to, for a reader.
-- Assumes nothing.
use mathlib.Core.List.{List}
use mathlib.Core.Path.{◌≡◌, refl, sym, ◌∙◌, ap, subst}
use Prim.Native.Nat.{ℕ, ◌+◌, ◌*◌, ◌%◌, ◌≤◌, ◌<◌}
use native.Mathlib.Omega.{arith}
use denote.Ref.{Bor}
use lib.ListN.{length}
use Rattle.std.specs.Prelude.{Some, None, Result, Ok}
use Rattle.digits.proofs.Laws.Handed.{bytes-of}
use Rattle.digits.proofs.Laws.Refusals.{answered}
use Rattle.digits.specs.Paper.Bytes.{part}
use Rattle.digits.specs.Paper.Hex.{hex_byte}
use Rattle.digits.specs.Paper.LowFirst.{low_byte_first}
use Rattle.digits.specs.declared.refusal.Refusal.{Refusal}
use Rattle.frames.specs.Paper.Kinds.{layout_of, Frame, payload_from, payload_to}
use Rattle.frames.specs.Paper.Runs.{Run, InOrder, TakenUp}
use Rattle.frames.specs.Paper.Search.{FrameAt, Hit, Leftmost, Searches, frame_ends, payload_ends, Hands, frame_part}
use Rattle.frames.specs.Paper.Why.{Failing, Whys}
use Rattle.frames.specs.Work.Seek.{searched}
use Rattle.frames.specs.declared.Found.{Found}
use Rattle.frames.specs.declared.kinds.Kind.{Kind}
use Rattle.layouts.specs.declared.Failure.{Failure}
use Rattle.layouts.specs.declared.Test.{Test}
use Rattle.layouts.specs.declared.Test.TheVariants.{First, Second}
use Rattle.layouts.specs.declared.nest.Direction.{Direction}
use Rattle.layouts.specs.declared.nest.Direction.TheVariants.{Command, Response}
use Rattle.layouts.proofs.Laws.Buses as buses
use Rattle.layouts.proofs.Laws.Nest.{nest-size}
use Rattle.layouts.proofs.Laws.Nikobus.{link-size}
use Rattle.layouts.specs.Paper.Judged.{Head}
use Rattle.layouts.specs.Paper.Layout as layout
use Rattle.layouts.specs.Paper.Nikobus as N
use Rattle.layouts.specs.Paper.Nest as nests
use Rattle.frames.proofs.Laws.Places as places
use Rattle.frames.proofs.Laws.Seek as seeks
use Rattle.frames.proofs.Laws.Runs as runs
use Rattle.frames.proofs.Laws.Why as whys
use Rattle.frames.proofs.Unique as unique

-- 01: "At one place at most one length makes a frame."
pub one-length : {k : ℕ} {s : List ℕ} {i n m : ℕ} → FrameAt k s i n → FrameAt k s i m → n ≡ m
one-length = places.one-length

-- A FRAME ALONE: its bytes are a frame exactly if a frame of their length stands at their front
pub alone : {k : ℕ} {f : List ℕ} → (Frame k f → FrameAt k f 0 (length f)) × (FrameAt k f 0 (length f) → Frame k f)
alone = (places.frame-alone, places.alone-frame)

-- A FRAME IS NEVER EMPTY
pub never-empty : {k : ℕ} {f : List ℕ} → Frame k f → 0 < length f
never-empty = places.never-empty

-- THE SEARCH HAS AN ANSWER for every kind, buffer and place, and one only; `searched` computes it
pub an-answer : (k : ℕ) (s : List ℕ) (place : ℕ) → Searches k s place (searched k s place)
an-answer = seeks.search-right

pub one_answer : {k : ℕ} {s : List ℕ} {place : ℕ} (r q : Result Found Refusal) → Searches k s place r → Searches k s place q → r ≡ q
one_answer = unique.searched-one

-- THE FRAME THAT IS HANDED BACK has the bytes of the frame that the search finds, which are a frame; and the payload those of its payload
module _ {k place : ℕ} {s r : Bor (List ℕ)} where
  pub handed-frame : (h : Hands k s place frame_ends r) → h.refusal ≡ 0
      → (v : Hit) × (Leftmost k s.now place v) × (r.now ≡ frame_part s.now v) × Frame k r.now
  handed-frame h z =
      let x = answered h.answer z in
      let e = bytes-of h.is x.2 in
      (x.0, x.1, e, subst (Frame k) (sym e) x.1.stands.frame)

  pub handed-payload : (h : Hands k s place payload_ends r) → h.refusal ≡ 0
      → (v : Hit) × (Leftmost k s.now place v) × (r.now ≡ part v.from v.to s.now)
  handed-payload h z = let x = answered h.answer z in (x.0, x.1, bytes-of h.is x.2)

-- 01: "the next search begins at that frame's end". ONE SEARCH AFTER THE OTHER finds frames that stand in order, no two of them in one
-- byte; every frame from the place on begins in a byte that they take up, so that none begins in between; and they are always the same
pub in_order : {k : ℕ} {s : List ℕ} {place : ℕ} {hits : List Hit} → Run k s place hits → InOrder k s place hits
in_order = runs.in_order

pub none_between : {k : ℕ} {s : List ℕ} {place : ℕ} {hits : List Hit} → Run k s place hits
    → (j m : ℕ) → place ≤ j → FrameAt k s j m → TakenUp j hits
none_between = runs.none_between

pub one-run : {k : ℕ} {s : List ℕ} {place : ℕ} {xs ys : List Hit} → Run k s place xs → Run k s place ys → xs ≡ ys
one-run = unique.run-one

-- 02, K1. WHY SAYS NONE exactly if a frame stands at the place, and exactly then the search from there answers that place
pub none-if-frame : {k : ℕ} {s : List ℕ} {place n : ℕ} → FrameAt k s place n → Whys k s place (Ok None)
none-if-frame = whys.frame-why

pub frame-if-none : {k : ℕ} {s : List ℕ} {place : ℕ} → Whys k s place (Ok None) → (n : ℕ) × FrameAt k s place n
frame-if-none = whys.why-frame

pub found-if-frame : {k : ℕ} {s : List ℕ} {place n : ℕ} (q : FrameAt k s place n)
    → Searches k s place (Ok (record { start = place; len = n; from = place + payload_from q.frame; to = place + payload_to q.frame }))
found-if-frame = whys.frame_found

pub frame-if-found : {k : ℕ} {s : List ℕ} {place n from to : ℕ}
    → Searches k s place (Ok (record { start = place; len = n; from = from; to = to })) → FrameAt k s place n
frame-if-found a = (runs.leftmost a).stands

-- EACH KIND, BUFFER AND PLACE HAS A VERDICT, and one only
pub a-verdict : (k : ℕ) (s : List ℕ) (place : ℕ) → (r : Result Failing Refusal) × Whys k s place r
a-verdict = whys.some-verdict

pub one-verdict : {k : ℕ} {s : List ℕ} {place : ℕ} (r q : Result Failing Refusal) → Whys k s place r → Whys k s place q → r ≡ q
one-verdict = unique.why-one

-- WHAT IS LAID OUT SO HAS BEGUN AND IS LONG ENOUGH
pub laid-begun : (kind : Kind) {s : List ℕ} → Head (layout_of kind) s → ((layout_of kind).Begun s) × ((layout_of kind).Long s)
laid-begun = whys.laid-begun

-- VALUES OTHER THAN 0 ONLY WITH A FAILED CHECK, and then they differ
module _ {k : ℕ} {s : List ℕ} {place : ℕ} {v : Failure} (w : Whys k s place (Ok (Some v))) where
  pub first-differ : v.test ≡ First → v.found ≡ v.expected → ⊥
  first-differ e = buses.values-differ (answered w refl).judged (subst buses.Compares (sym e) buses.Compares.first)

  pub second-differ : v.test ≡ Second → v.found ≡ v.expected → ⊥
  second-differ e = buses.values-differ (answered w refl).judged (subst buses.Compares (sym e) buses.Compares.second)

  pub else-zeros : (v.test ≡ First → ⊥) → (v.test ≡ Second → ⊥) → (v.found ≡ 0) × (v.expected ≡ 0)
  else-zeros f g =
      let e = buses.values-zeros (answered w refl).judged (neither f g) in
      (ap (λ (f : Failure). f.found) e, ap (λ (f : Failure). f.expected) e)
    where
      neither : {t : Test} → (t ≡ First → ⊥) → (t ≡ Second → ⊥) → buses.Compares t → ⊥
      neither f g buses.first = f refl
      neither f g buses.second = g refl

-- 01, Nikobus: "LL is even, 0x0C to 0xFE, so the payload is 1 to 122 bytes and the frame is LL bytes long"
pub record LinkLength (f : List ℕ) : Type 0 where
  pub ll : ℕ
  pub stands : part 1 3 f ≡ hex_byte ll
  pub even : ll % 2 ≡ 0
  pub least : 0x0C ≤ ll
  pub most : ll ≤ 0xFE
  pub frame-length : length f ≡ ll

pub link-length : {f p : List ℕ} {crc16 crc8 : ℕ} (r : layout.Form N.nikobus f) → r.fields ≡ N.link p crc16 crc8 → LinkLength f
unfolding hex_byte
link-length {f} {p} {crc16} {crc8} r e = made (limits r.limits e) (r.laid ∙ ap (layout.bytes_of N.nikobus) e)
  where
    limits : {m : N.Nikobus} → N.Limits m → m ≡ N.link p crc16 crc8 → (1 ≤ length p) × (length p ≤ 122)
    limits {m} l h = of (subst N.Limits h l)
      where
        of : N.Limits (N.link p crc16 crc8) → (1 ≤ length p) × (length p ≤ 122)
        of (N.link-limits a b c d f) = (a, b)

    made : (1 ≤ length p) × (length p ≤ 122) → f ≡ layout.bytes_of N.nikobus (N.link p crc16 crc8) → LinkLength f
    made l h =
        rw h
        (record {
          ll = length p * 2 + 10;
          stands = refl;
          even = omega arith;
          least = omega (arith, l.0);
          most = omega (arith, l.1);
          frame-length = link-size p crc16 crc8;
        })

-- 01, Nest: "payload 0 to 1,024 bytes", and its length stands in the frame
pub record NestLength (d : Direction) (f : List ℕ) : Type 0 where
  pub payload-length : ℕ
  pub stands : part (length (nests.preamble d) + 2) (length (nests.preamble d) + 4) f ≡ low_byte_first 2 payload-length
  pub most : payload-length ≤ 1024
  pub frame-length : length f ≡ length (nests.preamble d) + payload-length + 6

pub nest-length : (d : Direction) {f : List ℕ} (r : layout.Form (nests.nest d) f) → NestLength d f
unfolding low_byte_first
nest-length d r =
    let m = r.fields in
    rw (layout.Form.laid r)
    (record { payload-length = length m.payload; stands = stands d m; most = r.limits.short; frame-length = nest-size (nests.preamble d) m })
  where
    stands : (d : Direction) (m : nests.Nest)
        → part (length (nests.preamble d) + 2) (length (nests.preamble d) + 4) (layout.bytes_of (nests.nest d) m) ≡ low_byte_first 2 (length m.payload)
    stands Command m = refl
    stands Response m = refl
