-- What the writer of one frame's line answers.
-- Assumes nothing.
use Rattle.std.specs.Prelude.{Err, Ok}
use mathlib.Core.Path.{◌≡◌, refl, sym, ap, ◌∙◌}
use mathlib.Core.Bool.{Bool, false, ◌||◌, true≢false}
use mathlib.Core.List.{List, ◌∷◌}
use mathlib.Core.Option.{Option}
use Prim.Native.Nat.{ℕ, ◌≤◌, ◌<◌}
use native.Mathlib.Omega.{arith}
use lib.Dec.{eqb}
use lib.ListN.{length}
use Rattle.digits.specs.Paper.Bytes.{part}
use Rattle.digits.specs.Paper.Refusals.{refusal_order, First, clear, here, after}
use Rattle.digits.specs.declared.refusal.Refusal.{Refusal}
use Rattle.digits.proofs.Laws.Refusals.{cause-at, cause-of, pass-over, some_number}
use Rattle.frames.specs.Paper.Kinds.{layout_of, Frame}
use Rattle.frames.proofs.Laws.Kinds.{frame-known, laid-holds}
use Rattle.messages.specs.Paper.Answers.{DecodeCause, Said, Decodes}
use Rattle.messages.specs.Paper.Answers as decoding
use Rattle.messages.specs.Paper.Content.{Content, kind_of, made, laid, payload_from, payload_to}
use Rattle.messages.specs.Paper.Table.{content_of}
use Rattle.messages.specs.declared.Decoded.{Decoded}
use Rattle.messages.specs.declared.Message.{Message as Coded}
use Rattle.messages.proofs.Laws.Cases.{said_in}
use Rattle.messages.proofs.Laws.Decode.{is-frame}
use Rattle.messages.proofs.Theorems.{has-message, stands-bytes}
use Rattle.puts.specs.Paper.Put.{largest_place}
use Rattle.puts.specs.Paper.Right as right
use Rattle.puts.specs.Paper.Wrote.{Written}
use Rattle.puts.proofs.Laws.Right.{fronted-right}
use Rattle.sheet.specs.Paper.Sheet.{Lookup}
use Rattle.lines.specs.Paper.Answers.{LineOf, LineCause, no_kind, no-frame, short, WritesLine}
use Rattle.lines.specs.Work.Put.{put, Bounded, AllOrNone}
use Rattle.lines.proofs.Laws.Next.{line-of-said, said-bounded, one_line}
use Rattle.lines.proofs.Laws.Placed.{at_front}
use Rattle.lines.proofs.Laws.Types.{InTypes}

-- ---- the payload lies inside the frame

content-inside : (c : Content) → (payload_from c ≤ payload_to c) × (payload_to c ≤ length (laid c))
content-inside c = laid-holds (layout_of (kind_of c)) (made c)

said-inside : {k : ℕ} {f : List ℕ} {e : Coded} {from to : ℕ} → Said k f e from to → (from ≤ to) × (to ≤ length f)
said-inside {f = f} x =
    let i = content-inside (content_of x.message) in
    let n : length (laid (content_of x.message)) ≡ length f = ap length (sym (stands-bytes x.stands)) in
    (omega (arith, i, x.from_is, x.to_is), omega (arith, i, n, x.to_is))

-- ---- the causes

abbrev ours : ℕ → Bool
ours k = eqb k 2 || (eqb k 5 || eqb k 4)

-- the second of the causes does not apply where a later one is the first
pub second-passed : {Cause : ℕ → Type 0} {x y no : ℕ} {l : List ℕ} → First Cause (x ∷ y ∷ l) no → (x ≡ no → ⊥) → (y ≡ no → ⊥) → Cause y → ⊥
second-passed (here c) p q d = p refl
second-passed (after n (here c)) p q d = q refl
second-passed (after n (after m f)) p q d = m d

module _ {sheet : Option Lookup} {k : ℕ} {f : List ℕ} {place room : ℕ} where
  only : (i : ℕ) → ours i ≡ false → LineCause sheet k f place room i → ⊥
  only i e (no_kind h) = true≢false e
  only i e (no-frame h) = true≢false e
  only i e (short l h) = true≢false e

  kind-known : Frame k f → LineCause sheet k f place room 2 → ⊥
  kind-known r (no_kind h) = true≢false (sym (frame-known r) ∙ h)

  frame-there : Frame k f → LineCause sheet k f place room 5 → ⊥
  frame-there r (no-frame h) = h r

  module _ {t : List ℕ} (l : LineOf sheet k f place t) where
    enough : length t ≤ room → First (LineCause sheet k f place room) refusal_order 0
    enough h = pass-over ours only refusal_order (after (kind-known (is-frame l.stands)) (after (frame-there (is-frame l.stands)) (after fits clear)))
      where
        fits : LineCause sheet k f place room 4 → ⊥
        fits (short {t = u} o g) = let e : length u ≡ length t = ap length (one_line u t o l) in omega arith

    too_few : room < length t → First (LineCause sheet k f place room) refusal_order 4
    too_few h = pass-over ours only refusal_order (after (kind-known (is-frame l.stands)) (after (frame-there (is-frame l.stands)) (here (short l h))))

  -- what decoding is refused for
  refusing : {no : ℕ} → First (DecodeCause k f) refusal_order no → DecodeCause k f no → First (LineCause sheet k f place room) refusal_order no
  refusing c (decoding.no_kind h) = pass-over ours only refusal_order (here (no_kind h))
  refusing c (decoding.no-message h) = pass-over ours only refusal_order (after kind (here (no-frame (λ r. let m = has-message r in h m.0 m.1))))
    where
      kind : LineCause sheet k f place room 2 → ⊥
      kind (no_kind g) = second-passed c (λ e. absurd (omega arith)) (λ e. absurd (omega arith)) (decoding.no_kind g)

-- ---- the answers

module _ {k : ℕ} {f : List ℕ} where
  module _ {d : Decoded} (decoded : Decodes k f (Ok d)) where
    pub inside-frame : (d.from ≤ d.to) × (d.to ≤ length f)
    inside-frame = said-inside (said_in decoded)

    -- the line that the code puts of what is decoded
    abbrev pub put-of : Option Lookup → (place : ℕ) → List ℕ
    put-of sheet place = put sheet d.message (part d.from d.to f) place (length f)

    the-line : {sheet : Option Lookup} (place : ℕ) → LineOf sheet k f place (put-of sheet place)
    the-line place = line-of-said place (part d.from d.to f) (said_in decoded) refl

    pub put-bounded : {sheet : Option Lookup} → InTypes sheet → (place : ℕ) → place ≤ largest_place → length f ≤ largest_place → Bounded sheet (put-of sheet place) (length (part d.from d.to f))
    put-bounded types place h k = said-bounded types (part d.from d.to f) (said_in decoded) refl h k

    pub written : {sheet : Option Lookup} (place : ℕ) (room later : List ℕ) (w : Written) → AllOrNone (put-of sheet place) room 0 w later → WritesLine sheet k f place room w later
    written place room later w p = fronted-right w (the-line place) (enough (the-line place)) (too_few (the-line place)) (at_front p)

  pub not_written : {sheet : Option Lookup} (why : Refusal) (place : ℕ) (room : List ℕ) → Decodes k f (Err why) → WritesLine sheet k f place room (Err why) room
  not_written why place room a =
      let c = cause-of a in
      right.refused (some_number why) (refusing c (cause-at c (some_number why)))
