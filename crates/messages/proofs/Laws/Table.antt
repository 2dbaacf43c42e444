-- THE TABLE: each frame's content is that of one message within its limits that no message above has.
-- Assumes nothing.
use mathlib.Core.Logic.{inl, ⊎_elim}
use mathlib.Core.Path.{◌≡◌, refl, sym, ◌∙◌, ap, subst}
use Prim.Native.Nat.{◌<◌}
use native.Mathlib.Omega.{arith}
use Rattle.layouts.proofs.Laws.Made.{press-said}
use Rattle.layouts.specs.Paper.Nikobus.{tail-limits}
use Rattle.messages.specs.Paper.Content.{Content}
use Rattle.messages.specs.Paper.Content as content
use Rattle.messages.specs.Work.Content.{Fit}
use Rattle.messages.specs.Paper.Message.{Message, read, set, answer, press, tail, link, command, climate, state, break, end, text, response, ask, reply, put, done, nibe, output, input, shutter, beat, homiq, row}
use Rattle.messages.specs.Paper.Table.{content_of, Limits, Above, Good}
use Rattle.messages.specs.Work.Look.{look}
use Rattle.messages.proofs.Laws.Rows.{ReadsTo, Found}
use Rattle.messages.proofs.Laws.NikobusRows.{linked-reads, read_found, set_found, answer-found, link-found, read-fit, set-fit, answer-fit, press-fit, link-message-fit}
use Rattle.messages.proofs.Laws.NestRows.{command-reads, response-reads, climate-found, state-found, break-found, end-found, text-found, response-found, command-fit, climate-fit, state-fit, break-fit, end-fit, text-fit, response-fit}
use Rattle.messages.proofs.Laws.NibeRows.{nibe-reads, ask-found, reply-found, put-found, done-found, nibe-found, ask-fit, reply-fit, put_fit, done-fit, nibe-message-fit}
use Rattle.messages.proofs.Laws.HomiqRows.{homiq-reads, output-found, input-found, shutter-found, beat-found, homiq-found, output-fit, input_fit, shutter-fit, beat-fit, homiq-message-fit}

-- ---- the three laws of each row

-- what is found has the content
pub reads : (x : Content) → Fit x → ReadsTo x (look x)
unfolding look content_of
reads (content.link p) f = linked-reads p f
reads (content.press d) f = record { same = refl; limits = press-said f }
reads content.tail f = record { same = refl; limits = tt }
reads (content.command i p) f = command-reads i p f
reads (content.response i p) f = response-reads i p f
reads (content.nibe c d) f = nibe-reads c d f
reads (content.homiq w) f = homiq-reads w f

-- a message within its limits is found again, or one above it is
pub found : (m : Message) → Limits m → Found m (look (content_of m))
unfolding look content_of
found (read g a) l = inl (read_found g a l)
found (set g a o) l = inl (set_found g a o l)
found (answer a t o) l = inl (answer-found a t o l)
found (press d) l = inl refl
found tail l = inl refl
found (link p) l = link-found p l
found (command i p) l = inl refl
found (climate t h) l = inl (climate-found t h l)
found (state p) l = inl (state-found p l)
found break l = inl break-found
found end l = inl end-found
found (text i p) l = text-found i p l
found (response i p) l = response-found i p l
found (ask r) l = inl (ask-found r l)
found (reply r w v) l = inl (reply-found r w v l)
found (put r w v) l = inl (put-found r w v l)
found (done ok) l = inl (done-found ok)
found (nibe c d) l = nibe-found c d l
found (output w) l = inl (output-found w l)
found (input w) l = inl (input-found w l)
found (shutter w) l = inl (shutter-found w l)
found (beat w) l = inl (beat-found w l)
found (homiq w) l = homiq-found w l

-- a message within its limits has a content that makes a frame
pub fit : (m : Message) → Limits m → Fit (content_of m)
unfolding content_of
fit (read g a) l = read-fit g a l
fit (set g a o) l = set-fit g a o l
fit (answer a t o) l = answer-fit a t o l
fit (press d) l = press-fit d l
fit tail l = tail-limits
fit (link p) l = link-message-fit p l
fit (command i p) l = command-fit i p l
fit (climate t h) l = climate-fit t h l
fit (state p) l = state-fit p l
fit break l = break-fit
fit end l = end-fit
fit (text i p) l = text-fit i p l
fit (response i p) l = response-fit i p l
fit (ask r) l = ask-fit r l
fit (reply r w v) l = reply-fit r w v l
fit (put r w v) l = put_fit r w v l
fit (done ok) l = done-fit ok
fit (nibe c d) l = nibe-message-fit c d l
fit (output w) l = output-fit w l
fit (input w) l = input_fit w l
fit (shutter w) l = shutter-fit w l
fit (beat w) l = beat-fit w l
fit (homiq w) l = homiq-message-fit w l

-- ---- and what follows from them

-- a message that is found again is free
pub free : (m : Message) → look (content_of m) ≡ m → Above m → ⊥
free m e a =
    let r : Found a.other m = subst (λ (n : Message). Found a.other n) (ap look a.same ∙ e) (found a.other a.limits) in
    let h = a.above in
    ⊎_elim (λ (q : m ≡ a.other). let z : row m ≡ row a.other = ap row q in omega arith) (λ (q : row m < row a.other). omega arith) r

-- COVERAGE: what is found for the content of a frame stands in the table
pub good : (x : Content) → Fit x → Good (look x)
good x f =
    let r = reads x f in
    record { limits = r.limits; free = free (look x) (ap look r.same) }

-- a message above what is found for its content
pub above_of : (m : Message) → Limits m → row (look (content_of m)) < row m → Above m
above_of m l h =
    let r = reads (content_of m) (fit m l) in
    record { other = look (content_of m); above = h; limits = r.limits; same = r.same }

-- UNIQUENESS: a message of the table is found for its content, so no two have the same
pub only : (m : Message) → Good m → look (content_of m) ≡ m
only m g = ⊎_elim {C = look (content_of m) ≡ m} (λ e. e) (λ h. absurd (g.free (above_of m g.limits h))) (found m g.limits)

pub one-message : (m n : Message) → Good m → Good n → content_of m ≡ content_of n → m ≡ n
one-message m n a b e = sym (only m a) ∙ ap look e ∙ only n b
