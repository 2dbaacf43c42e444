-- For each public function: two answers that meet its promise, and the rooms afterwards, are the same. (The version's promise is an
-- equation: `equation` of `digits`.)
-- Assumes nothing.
use mathlib.Core.Bool.{Bool}
use mathlib.Core.List.{List}
use mathlib.Core.Path.{◌≡◌, refl, sym, ap, ap₂, ◌∙◌}
use Prim.Native.Nat.{ℕ, ◌+◌}
use native.Mathlib.Omega.{arith}
use lib.Ieee.{Float}
use lib.IntN.{ℤ, pos}
use Rattle.std.specs.Prelude.{Result}
use Rattle.digits.specs.Paper.Part.{Ends, zero_ends}
use Rattle.digits.specs.Paper.Read.{Reads}
use Rattle.digits.specs.Paper.Refusals.{Answers}
use Rattle.digits.specs.declared.refusal.Refusal.{Refusal}
use Rattle.digits.proofs.Laws.Reads.{one-reading}
use Rattle.digits.proofs.Laws.Refusals.{one_answer}
use Rattle.puts.specs.Paper.Right.{WroteRight}
use Rattle.puts.specs.Paper.Wrote.{Wrote, written_refusal, written_count}
use Rattle.puts.proofs.Laws.Right as right
use Rattle.puts.proofs.Laws.Wrote as written
use Rattle.numbers.specs.Paper.Answers.{zero_number, BytesCause, ValueIn, RangeCause}
use Rattle.numbers.specs.Paper.Single.{fits_single}
use Rattle.numbers.specs.Paper.Text.{text, InLimits}
use Rattle.numbers.proofs.Unique.{same_number, same-value}
use Rattle.frames.specs.Paper.Search.{Hit, zero_hit, SearchCause, Leftmost}
use Rattle.frames.specs.Paper.OneFrame.{OneFrameCause, OneFrame}
use Rattle.frames.proofs.Unique.{leftmost-one, ends-one}
use Rattle.frames.specs.Paper.Why.{WhyCause}
use Rattle.host.specs.Paper.Why.{Judgement, zero_judgement, JudgementAt, judgement_in}
use Rattle.host.specs.Paper.Answers.{hit_in, ends_in, number_in, flag}
use Rattle.host.specs.Paper.Kind.{KindByte, held, beyond}
use Rattle.host.specs.Paper.Panel.{zero_shown, Shown, shown, shown_in, ShownOf, zero_climate, ClimateCause, ClimateOf, climate_in, Pair}
use Rattle.host.specs.declared.answers.Climate.{Climate}
use Rattle.host.specs.declared.answers.Count.{Count}
use Rattle.host.specs.declared.answers.Fit.{Fit}
use Rattle.host.specs.declared.answers.Found.{Found}
use Rattle.host.specs.declared.answers.PanelValue.{PanelValue}
use Rattle.host.specs.declared.answers.Payload.{Payload}
use Rattle.host.specs.declared.answers.Raw.{Raw}
use Rattle.host.specs.declared.answers.Reading.{Reading}
use Rattle.host.specs.declared.answers.Verdict.{Verdict}
use Rattle.host.proofs.Laws.Why.{one-judgement}

-- ---- a part by its start and its length

pub same_length : {a b m n : ℕ} → a ≡ b → a + m ≡ b + n → m ≡ n
same_length e f = omega arith

abbrev payload : ℕ → ℕ → ℕ → Payload
payload i a m = record { refusal = i; payload_start = a; payload_length = m }

same-payload : (r q : Payload) → r.refusal ≡ q.refusal → ends_in r ≡ ends_in q → r ≡ q
same-payload r q e f =
    let start : r.payload_start ≡ q.payload_start = ap (λ (v : Ends). v.from) f in
    go r.refusal q.refusal r.payload_start q.payload_start r.payload_length q.payload_length e start
    (same_length start (ap (λ (v : Ends). v.to) f))
  where
    go : (i j a b m n : ℕ) → i ≡ j → a ≡ b → m ≡ n → payload i a m ≡ payload j b n
    go i j a b m n x y z = rw (x, y, z)

abbrev found : ℕ → ℕ → ℕ → ℕ → ℕ → Found
found i a m b n = record { refusal = i; start = a; length = m; payload_start = b; payload_length = n }

same-found : (r q : Found) → r.refusal ≡ q.refusal → hit_in r ≡ hit_in q → r ≡ q
same-found r q e f =
    let start : r.payload_start ≡ q.payload_start = ap (λ (v : Hit). v.from) f in
    go r.refusal q.refusal r.start q.start r.length q.length r.payload_start q.payload_start r.payload_length
    q.payload_length e (ap (λ (v : Hit). v.start) f) (ap (λ (v : Hit). v.len) f) start (same_length start (ap (λ (v : Hit). v.to) f))
  where
    go : (i j a b m n c d k l : ℕ) → i ≡ j → a ≡ b → m ≡ n → c ≡ d → k ≡ l → found i a m c k ≡ found j b n d l
    go i j a b m n c d k l x y z u v = rw (x, y, z, u, v)

-- ---- bolsterweft_search, bolsterweft_one_frame

pub search : {k place : ℕ} {s : List ℕ} (r q : Found) → Answers zero_hit (SearchCause k s place) (Leftmost k s place) r.refusal (hit_in r)
    → Answers zero_hit (SearchCause k s place) (Leftmost k s place) q.refusal (hit_in q) → r ≡ q
search r q a b = let e = one_answer leftmost-one a b in same-found r q e.0 e.1

pub one-frame : {k : ℕ} {s : List ℕ} (r q : Payload) → Answers zero_ends (OneFrameCause k s) (OneFrame k s) r.refusal (ends_in r)
    → Answers zero_ends (OneFrameCause k s) (OneFrame k s) q.refusal (ends_in q) → r ≡ q
one-frame r q a b = let e = one_answer ends-one a b in same-payload r q e.0 e.1

-- ---- bolsterweft_why

pub why : {k place : ℕ} {s : List ℕ} (r q : Verdict)
    → Answers zero_judgement (WhyCause k s place) (JudgementAt k s place) r.refusal (judgement_in r)
    → Answers zero_judgement (WhyCause k s place) (JudgementAt k s place) q.refusal (judgement_in q) → r ≡ q
why r q a b =
    let e = one_answer one-judgement a b in
    ap₂ (λ (i : ℕ) (v : Judgement). record { refusal = i; test = v.test; found = v.found; expected = v.expected }) e.0 e.1

-- ---- the calls that write from a room's front

abbrev count : ℕ → ℕ → Count
count i n = record { refusal = i; length = n }

-- bolsterweft_text, bolsterweft_value
pub these-written : {Cause : ℕ → Type 0} {bs room s t : List ℕ} (r q : Count) → Wrote Cause bs room r.refusal r.length s
    → Wrote Cause bs room q.refusal q.length t → (r ≡ q) × (s ≡ t)
these-written r q a b = let e = written.one-outcome a b in (ap₂ count e.0 e.1, e.2)

-- the calls for lines and books
pub right-written : {Cause : ℕ → Type 0} {Right : List ℕ → Type 0} → ((a b : List ℕ) → Right a → Right b → a ≡ b) → {room s t : List ℕ} (r q : Count)
    → WroteRight Cause Right room r.refusal r.length s → WroteRight Cause Right room q.refusal q.length t → (r ≡ q) × (s ≡ t)
right-written one r q a b = let e = right.one-outcome one a b in (ap₂ count e.0 e.1, e.2)

-- ---- the other calls of numbers

pub number_read : {t : List ℕ} (r q : Reading) → Reads zero_number InLimits (λ n. text n.raw n.decimals) 7 t r.refusal (number_in r)
    → Reads zero_number InLimits (λ n. text n.raw n.decimals) 7 t q.refusal (number_in q) → r ≡ q
number_read r q a b =
    let e = one-reading (omega arith) (λ m n h k f. same_number m n f) a b in
    ap₂ (λ i v. record { refusal = i; decimals = v.decimals; raw = v.raw }) e.0 e.1

pub value_read : {w : ℕ} {signed : Bool} {s : List ℕ} (r q : Raw) → Answers (pos 0) (BytesCause w s) (ValueIn w signed s) r.refusal r.raw
    → Answers (pos 0) (BytesCause w s) (ValueIn w signed s) q.refusal q.raw → r ≡ q
value_read {w} {signed} {s} r q a b =
    let e = one_answer (same-value w signed s) a b in ap₂ (λ (i : ℕ) (z : ℤ). record { refusal = i; raw = z }) e.0 e.1

pub fits : {z : ℤ} (r q : Fit) → Answers 0 (RangeCause z) (λ n. n ≡ flag (fits_single z)) r.refusal r.fits
    → Answers 0 (RangeCause z) (λ n. n ≡ flag (fits_single z)) q.refusal q.fits → r ≡ q
fits r q a b = let e = one_answer (λ x y g h. g ∙ sym h) a b in ap₂ (λ (i n : ℕ). record { refusal = i; fits = n }) e.0 e.1

pub panel : {z : ℤ} (r q : PanelValue) → Answers zero_shown (RangeCause z) (ShownOf z) r.refusal (shown_in r)
    → Answers zero_shown (RangeCause z) (ShownOf z) q.refusal (shown_in q) → r ≡ q
panel {z} r q a b =
    let e = one_answer one a b in
    ap₂ (λ (i : ℕ) (v : Shown). record { refusal = i; size = v.size; single = v.single; wide = v.wide }) e.0 e.1
  where
    one : (u v : Shown) → ShownOf z u → ShownOf z v → u ≡ v
    one u v g h = g.is ∙ ap shown (g.right.cast ∙ sym h.right.cast) ∙ sym h.is

pub climate : {t h : ℤ} (r q : Climate) → Answers zero_climate (ClimateCause t h) (ClimateOf t h) r.refusal (climate_in r)
    → Answers zero_climate (ClimateCause t h) (ClimateOf t h) q.refusal (climate_in q) → r ≡ q
climate {t} {h} r q a b =
    let e = one_answer one a b in
    ap₂ (λ (i : ℕ) (v : Pair). record { refusal = i; temperature = v.temperature; humidity = v.humidity }) e.0 e.1
  where
    one : (u v : Pair) → ClimateOf t h u → ClimateOf t h v → u ≡ v
    one u v x y =
        ap₂ (λ (f g : Float). record { temperature = f; humidity = g }) (x.first.cast ∙ sym y.first.cast) (x.second.cast ∙ sym y.second.cast)

-- ---- the answers' own functions: `refusal_number` promises an equation

pub counted : (w : Result ℕ Refusal) (r q : Count) → (r.refusal ≡ written_refusal w) × (r.length ≡ written_count w)
    → (q.refusal ≡ written_refusal w) × (q.length ≡ written_count w) → r ≡ q
counted w r q a b = ap₂ count (a.0 ∙ sym b.0) (a.1 ∙ sym b.1)

pub kind-byte : {k a b : ℕ} → KindByte k a → KindByte k b → a ≡ b
kind-byte (held h) (held g) = refl
kind-byte (held h) (beyond g) = absurd (omega (arith, h, g))
kind-byte (beyond h) (held g) = absurd (omega (arith, h, g))
kind-byte (beyond h) (beyond g) = refl
