-- The line of a frame by the text of a sheet.
-- Assumes nothing.
use Rattle.std.specs.Prelude.{Err, Ok}
use mathlib.Core.Bool.{Bool, false, ◌||◌, true≢false}
use mathlib.Core.List.{List, [], ◌∷◌}
use mathlib.Core.Option.{Option, some}
use mathlib.Core.Path.{◌≡◌, refl, sym, ap, ◌∙◌, subst}
use Prim.Native.Nat.{ℕ, ◌<◌}
use native.Mathlib.Omega.{arith}
use lib.Dec.{eqb}
use lib.ListN.{length, drop, length-append}
use Rattle.digits.specs.Paper.Refusals.{refusal_order, refusal_number, First, here, after}
use Rattle.digits.specs.declared.refusal.Refusal.{Refusal}
use Rattle.digits.proofs.Laws.Refusals.{cause-at, cause-of, pass-over, some_number}
use Rattle.frames.specs.Paper.Kinds.{Frame}
use Rattle.frames.proofs.Laws.Kinds.{frame-known}
use Rattle.messages.specs.Paper.Answers.{DecodeCause, Decodes}
use Rattle.messages.specs.Paper.Answers as decoding
use Rattle.messages.specs.declared.Decoded.{Decoded}
use Rattle.messages.proofs.Laws.Cases.{said_in}
use Rattle.messages.proofs.Laws.Decode.{is-frame}
use Rattle.messages.proofs.Theorems.{has-message}
use Rattle.puts.specs.Paper.Right as right
use Rattle.puts.specs.Paper.Right.{WroteRight}
use Rattle.puts.specs.Paper.Wrote.{Written}
use Rattle.puts.proofs.Laws.Right.{recast}
use Rattle.sheet.specs.Paper.Answers.{MapCause, IsMap}
use Rattle.sheet.specs.Paper.Map.{lookup_in, sheet_in}
use Rattle.sheet.specs.Paper.Sheet.{Row, Sheet, Lookup, find}
use Rattle.sheet.proofs.Laws.ByMap.{ByMap}
use Rattle.sheet.proofs.Laws.Maps.{length-map}
use Rattle.sheet.proofs.Laws.Scans.{one-sheet}
use Rattle.sheet.proofs.Laws.Split.{first-map}
use Rattle.lines.specs.Paper.Answers.{LineOf, LineCause, WritesLine, LineByText, LineByTextCause, WritesLineByText}
use Rattle.lines.specs.Paper.Answers as paper
use Rattle.lines.proofs.Laws.Next.{one_line}
use Rattle.lines.proofs.Laws.Write.{second-passed}

-- a frame has one line by a text
pub one-line-by-text : {k : ℕ} {f : List ℕ} {at : ℕ} {text : List ℕ} (s t : List ℕ) → LineByText k f at text s → LineByText k f at text t → s ≡ t
one-line-by-text {k} {f} {at} s t a b =
    one_line s t a.line (subst (λ (rows : List Row). LineOf (some (find rows)) k f at t) (one-sheet b.is a.is) b.line)

ours : ℕ → Bool
ours i = eqb i 2 || (eqb i 5 || (eqb i 10 || eqb i 4))

module _ {k : ℕ} {f : List ℕ} {at : ℕ} {text : List ℕ} {room : ℕ} where
  only : (i : ℕ) → ours i ≡ false → LineByTextCause k f at text room i → ⊥
  unfolding ours
  only i e (paper.no_kind h) = true≢false e
  only i e (paper.no-frame h) = true≢false e
  only i e (paper.bad-sheet h) = true≢false e
  only i e (paper.short l h) = true≢false e

  kind-known : Frame k f → LineByTextCause k f at text room 2 → ⊥
  kind-known r (paper.no_kind h) = true≢false (sym (frame-known r) ∙ h)

  frame-there : Frame k f → LineByTextCause k f at text room 5 → ⊥
  frame-there r (paper.no-frame h) = h r

  bad : Frame k f → ((rows : List Row) → Sheet text rows → ⊥) → First (LineByTextCause k f at text room) refusal_order 10
  unfolding ours
  bad r g = pass-over ours only refusal_order (after (kind-known r) (after (frame-there r) (here (paper.bad-sheet g))))

  -- what decoding is refused for
  refusing : {no : ℕ} → First (DecodeCause k f) refusal_order no → DecodeCause k f no → First (LineByTextCause k f at text room) refusal_order no
  unfolding ours
  refusing c (decoding.no_kind h) = pass-over ours only refusal_order (here (paper.no_kind h))
  refusing c (decoding.no-message h) = pass-over ours only refusal_order (after kind (here (paper.no-frame (λ r. let m = has-message r in h m.0 m.1))))
    where
      kind : LineByTextCause k f at text room 2 → ⊥
      kind (paper.no_kind g) = second-passed c (λ e. absurd (omega arith)) (λ e. absurd (omega arith)) (decoding.no_kind g)

  -- by a sheet, as by its rows
  module _ {rows : List Row} (w : Sheet text rows) where
    to : (i : ℕ) → LineCause (some (find rows)) k f at room i → LineByTextCause k f at text room i
    to i (paper.no_kind h) = paper.no_kind h
    to i (paper.no-frame h) = paper.no-frame h
    to i (paper.short l h) = paper.short (record { rows = rows; is = w; line = l }) h

    from : (i : ℕ) → LineByTextCause k f at text room i → LineCause (some (find rows)) k f at room i
    from i (paper.no_kind h) = paper.no_kind h
    from i (paper.no-frame h) = paper.no-frame h
    from i (paper.bad-sheet h) = absurd (h rows w)
    from i (paper.short {t = t} l h) = paper.short (subst (λ (q : List Row). LineOf (some (find q)) k f at t) (one-sheet l.is w) l.line) h

pub some-sheet : (map : List ℕ) → 0 < length map → sheet_in map ≡ some (lookup_in map)
some-sheet [] h = absurd (omega arith)
some-sheet (b ∷ map) h = refl

module _ {k : ℕ} {f : List ℕ} {at : ℕ} {text room : List ℕ} where
  pub by_map : {map later : List ℕ} (r : Written) → ByMap text map → 0 < length map → WritesLine (sheet_in map) k f at room r later → WritesLineByText k f at text room r later
  by_map {map} {later} r m h x =
      let e : sheet_in map ≡ some (find m.rows) = some-sheet map h ∙ ap some m.look in
      recast (λ no c. first-map (to m.is) (from m.is) c) (λ bs l. record { rows = m.rows; is = m.is; line = l })
      (subst (λ (sheet : Option Lookup). WritesLine sheet k f at room r later) e x)

  pub bad-text : {d : Decoded} → Decodes k f (Ok d) → (why : Refusal) → refusal_number why ≡ 10
      → ((rows : List Row) → Sheet text rows → ⊥) → WritesLineByText k f at text room (Err why) room
  bad-text a why n g =
      right.refused (some_number why)
      (subst (First (LineByTextCause k f at text (length room)) refusal_order) (sym n) (bad (is-frame (said_in a).stands) g))

  pub not-decoded : (why : Refusal) → Decodes k f (Err why) → WritesLineByText k f at text room (Err why) room
  not-decoded why a =
      let c = cause-of a in
      right.refused (some_number why) (refusing c (cause-at c (some_number why)))

-- a map that has been written is not empty
pub some-map : {text room later : List ℕ} {k n : ℕ} → WroteRight (MapCause text (length room)) (IsMap text) room k n later → k ≡ 0 → 0 < length later
some-map {room = room} (right.wrote {bs = bs} f x) z =
    omega (arith, ap length x.bytes-are, length-map (find x.rows), length-append bs (drop (length bs) room))
some-map (right.refused p f) z = absurd (omega arith)
