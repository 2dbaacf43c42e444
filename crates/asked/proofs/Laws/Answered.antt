-- From a draft to the answer: what stands beside a message handed over, and its frame written.
-- Assumes nothing.
use mathlib.Core.List.{List}
use mathlib.Core.Path.{◌≡◌, refl, sym, ap, ◌∙◌, subst}
use Prim.Native.Nat.{ℕ, ◌<◌}
use native.Mathlib.Omega.{arith}
use lib.ListN.{length}
use Rattle.std.specs.Prelude.{Result, Ok, Err, MatchResult, IsErrAnd}
use Rattle.std.proofs.lemmas.Result.{err_from_is_err_and}
use Rattle.digits.proofs.Laws.Refusals.{one-refusal, some_number, cause-at, answered}
use Rattle.digits.specs.Paper.Refusals.{refusal_number}
use Rattle.digits.specs.declared.refusal.Refusal.{Refusal}
use Rattle.digits.specs.declared.refusal.Refusal.TheVariants.{NoRoom, BadForm}
use Rattle.puts.proofs.Laws.Wrote.{has_room}
use Rattle.puts.specs.Paper.Wrote.{Wrote, wrote, refused, Writes, RoomCause, short, written_refusal, written_count, Written}
use Rattle.messages.specs.Paper.Allowed.{Allows}
use Rattle.messages.specs.declared.Message.{Message as Coded}
use Rattle.commands.specs.Paper.Answers.{Encodes}
use Rattle.asked.specs.Work.Draft.{Hands, handing, HandsAllowed, Frames, Limited, as-it-is, no-width}
use Rattle.asked.specs.Work.Draft as draft
use Rattle.asked.specs.declared.Asked.{Asked}

-- ---- handed over

module _ {kind : ℕ} {e : Coded} {c room later : List ℕ} {r : Written} (x : Writes (RoomCause (length room) (length c)) c room r later) where
  pub hands : {n k : ℕ} → r ≡ Ok n → k ≡ kind → Hands kind e c room (Ok (handing k e n)) later
  hands {n} {k} f g =
      subst (λ (i : ℕ). Hands kind e c room (Ok (handing i e n)) later) (sym g)
      (subst (λ (i : ℕ). Hands kind e c room (Ok (handing kind e i)) later) (ap written_count f) (by x (ap written_refusal f)))
    where
      by : {no i : ℕ} {l : List ℕ} → Wrote (RoomCause (length room) (length c)) c room no i l → no ≡ 0 → Hands kind e c room (Ok (handing kind e i)) l
      by (wrote h) z = draft.all (has_room h)
      by (refused p h) z = absurd (omega (arith, p, z))

  pub hands-nothing : {why : Refusal} → r ≡ Err why → Hands kind e c room (Err why) later
  hands-nothing {why} f = by x (ap written_refusal f)
    where
      room-short : {no : ℕ} → RoomCause (length room) (length c) no → (no ≡ 4) × (length room < length c)
      room-short (short h) = (refl, h)

      by : {no i : ℕ} {l : List ℕ} → Wrote (RoomCause (length room) (length c)) c room no i l → no ≡ refusal_number why → Hands kind e c room (Err why) l
      by (wrote h) z = absurd (omega (arith, some_number why, z))
      by (refused p h) z =
          let k = room-short (cause-at h p) in
          subst (λ (w : Refusal). Hands kind e c room (Err w) room) (one-refusal NoRoom why (sym k.0 ∙ z)) (draft.short k.1)

-- ---- framed

module _ {kind k : ℕ} {e : Coded} {c room later : List ℕ} (r : Written) (x : Encodes k e c room r later) (same : k ≡ kind) where
  encoded : {q : Written} → r ≡ q → Encodes kind e c room q later
  encoded {q} f = subst (λ (i : ℕ). Encodes i e c room q later) same (subst (λ (w : Written). Encodes k e c room w later) f x)

  -- with its refusal by the limits here
  pub frames : {q : Written} → MatchResult r (λ n. q ≡ Ok n) (λ why. IsErrAnd q (Limited why)) → Frames kind e c room q later
  frames {q} = by r refl
    where
      by : (p : Written) → r ≡ p → MatchResult p (λ n. q ≡ Ok n) (λ why. IsErrAnd q (Limited why)) → Frames kind e c room q later
      by (Ok n) f g = rw g (draft.as-encoded {r = Ok n} (encoded f) (λ h. omega (arith, h)))
      by (Err why) f g = let (w, h, l) = err_from_is_err_and q g in rw h (so l)
        where
          so : {w : Refusal} → Limited why w → Frames kind e c room (Err w) later
          so (as-it-is n) = draft.as-encoded (encoded f) n
          so (no-width h) = draft.no-width (encoded (f ∙ ap Err (one-refusal why BadForm h)))

-- ---- allowed

-- a message of the table is handed over, and another refused as it is not allowed
pub good-handed : (kind : ℕ) (e : Coded) (c room : List ℕ) {u : Unit} {q : Result Asked Refusal} {later : List ℕ} → Allows e c (Ok u) → Hands kind e c room q later
    → HandsAllowed kind e c room q later
good-handed kind e c room x h = let (m, s, g) = answered x refl in draft.good {m = m} s g h
