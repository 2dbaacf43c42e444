-- What the table comes to, for a reader: demand 2's messages; and that IDs go round.
-- Assumes nothing.
use mathlib.Core.Bool.{Bool, true, false}
use mathlib.Core.List.{List, [], ◌∷◌}
use mathlib.Core.Path.{◌≡◌, refl, sym, ◌∙◌, ap, subst}
use Prim.Native.Nat.{ℕ, ◌≤◌}
use native.Mathlib.Omega.{arith}
use lib.Dec.{T, leb}
use borrow.Author.Tests.{leb-true, leb-false}
use denote.Ref.{Bor}
use Rattle.std.specs.Prelude.{Result, Ok, Err}
use Rattle.digits.specs.Paper.Bytes.{part}
use Rattle.digits.proofs.Laws.Handed.{bytes-of}
use Rattle.digits.proofs.Laws.Refusals.{answered}
use Rattle.digits.specs.declared.refusal.Refusal.{Refusal}
use Rattle.digits.specs.declared.refusal.Refusal.TheVariants.{OutOfLimits}
use Rattle.frames.specs.Paper.Kinds.{number_of, Frame}
use Rattle.messages.specs.Paper.Answers.{Stands, Said, content_ends, Contents}
use Rattle.messages.specs.Paper.Content.{Content, kind_of, laid, payload_in, payload_from}
use Rattle.messages.specs.Paper.Message.{Message, read, set, answer, press, tail, link, command, climate, state, break, end, text, response, ask, reply, put, done, nibe, output, input, shutter, beat, homiq, row}
use Rattle.layouts.specs.Paper.Chars.{one_of}
use Rattle.layouts.specs.Paper.Homiq.{last_id}
use Rattle.messages.specs.Paper.NextId.{Follows}
use Rattle.messages.specs.Paper.Table.{content_of, bytes, Limits, Above, Good}
use Rattle.messages.specs.Work.Look.{look}
use Rattle.messages.specs.declared.Message.{Message as Coded}
use Rattle.messages.proofs.Laws.Decode as decoding
use Rattle.messages.proofs.Laws.Frames.{made-content, content-bytes, content-kind, one-content, frame-of}
use Rattle.messages.proofs.Laws.HomiqRows.{output-found, input-found, shutter-found, beat-found}
use Rattle.messages.proofs.Laws.NestRows.{climate-found, state-found, break-found, end-found}
use Rattle.messages.proofs.Laws.NextId.{next-refused, one-next}
use Rattle.messages.proofs.Laws.NibeRows.{ask-found, reply-found, put-found, done-found}
use Rattle.messages.proofs.Laws.NikobusRows.{read_found, set_found, answer-found}
use Rattle.messages.proofs.Laws.Table.{fit, free, one-message}

-- COVERAGE: in every frame of a kind stands a message of the table
pub has-message : {k : ℕ} {f : List ℕ} → Frame k f → (m : Message) × Stands k f m
has-message = decoding.message-of

-- UNIQUENESS: and no other
pub one-message-of : {k : ℕ} {f : List ℕ} (m n : Message) → Stands k f m → Stands k f n → m ≡ n
one-message-of m n s t = one-message m n s.good t.good (sym s.content ∙ one-content s.frame t.frame ∙ t.content)

-- A MESSAGE STANDS IN ITS BYTES AND IN NO OTHERS, as a frame of its kind
pub stands-bytes : {k : ℕ} {f : List ℕ} {m : Message} → Stands k f m → f ≡ bytes m
stands-bytes s = content-bytes s.frame ∙ ap laid s.content

pub stands-kind : {k : ℕ} {f : List ℕ} {m : Message} → Stands k f m → number_of (kind_of (content_of m)) ≡ k
stands-kind s = ap (λ (c : Content). number_of (kind_of c)) (sym s.content) ∙ content-kind s.frame

-- THE BYTES OF EVERY MESSAGE within its limits are a frame, whether a message above has its content or not
abbrev pub bytes-frame : (m : Message) → Limits m → Frame (number_of (kind_of (content_of m))) (bytes m)
bytes-frame m l = frame-of (content_of m) (fit m l)

-- so a message of the table is the message of its own bytes
pub own-bytes : (m : Message) → Good m → Stands (number_of (kind_of (content_of m))) (bytes m) m
own-bytes m g = record { good = g; frame = bytes-frame m g.limits; content = made-content (content_of m) }

-- and bytes that are a message's are its frame: `Stands` says the same as that f is the bytes of m, of m's kind
pub bytes-stand : {k : ℕ} {f : List ℕ} {m : Message} → Good m → number_of (kind_of (content_of m)) ≡ k → bytes m ≡ f → Stands k f m
bytes-stand {k} {f} {m} g e b =
    subst (λ (j : ℕ). Stands j f m) e (subst (λ (s : List ℕ). Stands (number_of (kind_of (content_of m))) s m) b (own-bytes m g))

-- the payload of a message's frame is what stands beside the message
pub payload-beside : {k : ℕ} {f : List ℕ} {m : Message} → Stands k f m → part (content_ends m).from (content_ends m).to f ≡ payload_in (content_of m)
payload-beside {m = m} s = ap (part (content_ends m).from (content_ends m).to) (stands-bytes s) ∙ decoding.payload-part (content_of m)

-- so that part is what `content` hands back
pub handed-payload : {k : ℕ} {s r : Bor (List ℕ)} (h : Contents k s r) → h.refusal ≡ 0
    → (m : Message) × (Stands k s.now m) × (r.now ≡ payload_in (content_of m))
handed-payload h z =
    let x = answered h.answer z in
    (x.0, x.1, bytes-of h.is x.2 ∙ payload-beside x.1)

-- and what a frame is decoded to has the frame's payload beside it
pub beside : {k : ℕ} {f : List ℕ} {e : Coded} {from to : ℕ} (said : Said k f e from to) → part from to f ≡ payload_in (content_of said.message)
beside {f = f} {from = from} {to = to} said =
    let x = content_of said.message in
    ap (λ (i : ℕ). part i to f) said.from_is ∙ ap (λ (i : ℕ). part (payload_from x) i f) said.to_is
    ∙ payload-beside said.stands

-- "Link, text, response, nibe and homiq": of the messages within their limits only these, the rows
-- 6, 12, 13, 18 and 23, can have the content of one above
pub only-these : (m : Message) → Limits m → Above m → T (one_of (6 ∷ 12 ∷ 13 ∷ 18 ∷ 23 ∷ []) (row m))
unfolding look content_of one_of
only-these (read g a) l x = absurd (free (read g a) (read_found g a l) x)
only-these (set g a out) l x = absurd (free (set g a out) (set_found g a out l) x)
only-these (answer a third out) l x = absurd (free (answer a third out) (answer-found a third out l) x)
only-these (press d) l x = absurd (free (press d) refl x)
only-these tail l x = absurd (free tail refl x)
only-these (link p) l x = tt
only-these (command i p) l x = absurd (free (command i p) refl x)
only-these (climate t h) l x = absurd (free (climate t h) (climate-found t h l) x)
only-these (state p) l x = absurd (free (state p) (state-found p l) x)
only-these break l x = absurd (free break break-found x)
only-these end l x = absurd (free end end-found x)
only-these (text i p) l x = tt
only-these (response i p) l x = tt
only-these (ask r) l x = absurd (free (ask r) (ask-found r l) x)
only-these (reply r w v) l x = absurd (free (reply r w v) (reply-found r w v l) x)
only-these (put r w v) l x = absurd (free (put r w v) (put-found r w v l) x)
only-these (done ok) l x = absurd (free (done ok) (done-found ok) x)
only-these (nibe c d) l x = tt
only-these (output w) l x = absurd (free (output w) (output-found w l) x)
only-these (input w) l x = absurd (free (input w) (input-found w l) x)
only-these (shutter w) l x = absurd (free (shutter w) (shutter-found w l) x)
only-these (beat w) l x = absurd (free (beat w) (beat-found w l) x)
only-these (homiq w) l x = tt

-- ---- 02, K3: IDs follow one another in a circle

-- only an ID has a successor
has-next : {i n : ℕ} → Follows i (Ok n) → i ≤ last_id
has-next {i} {n} f = go (leb i last_id) refl
  where
    go : (b : Bool) → leb i last_id ≡ b → i ≤ last_id
    go true e = leb-true _ _ e
    go false e =
        let same : ◌≡◌ {A = Result ℕ Refusal} (Ok n) (Err OutOfLimits) = one-next i (Ok n) (Err OutOfLimits) f (next-refused (leb-false _ _ e)) in
        let z : ◌≡◌ {A = ℕ} 0 1 = cc in
        absurd (omega arith)

-- THE SUCCESSOR OF AN ID is an ID
pub next-is-id : {i n : ℕ} → Follows i (Ok n) → n ≤ last_id
next-is-id {i} f = omega (arith, answered f refl)

-- AND NO TWO IDS HAVE THE SAME ONE
pub next-of-one : {i j n : ℕ} → Follows i (Ok n) → Follows j (Ok n) → i ≡ j
next-of-one {i} {j} f g = omega (arith, has-next f, has-next g, answered f refl, answered g refl)
