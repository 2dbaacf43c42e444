-- The line of one entry, put at a place of a room.
-- Assumes nothing.
use mathlib.Core.List.{List}
use mathlib.Core.Option.{Option}
use mathlib.Core.Path.{◌≡◌, refl, sym, ◌∙◌, subst}
use Prim.Native.Nat.{ℕ}
use lib.ListN.{length}
use Rattle.std.specs.Prelude.{Result, Ok, Err, IsOk}
use Rattle.digits.specs.Paper.Bytes.{part}
use Rattle.digits.specs.declared.refusal.Refusal.{Refusal}
use Rattle.digits.proofs.Laws.Refusals.{answered, cause-at, cause-of, some_number}
use Rattle.frames.specs.Paper.OneFrame.{OneFrame}
use Rattle.lines.specs.Paper.Answers.{PutContent, PutsContent}
use Rattle.lines.proofs.Theorems.{content-of-frame}
use Rattle.messages.specs.Paper.Content.{Content, content_at, payload_in}
use Rattle.messages.specs.Paper.Meant.{ContentWith, MeantCause, no-message}
use Rattle.messages.specs.declared.Tag.{Tag}
use Rattle.messages.proofs.Laws.Decode.{the-part}
use Rattle.messages.proofs.Laws.Frames.{one-content}
use Rattle.messages.proofs.Theorems.{has-message}
use Rattle.sheet.specs.Paper.Sheet.{Lookup}
use Rattle.book.specs.Work.Contents.{Tagged}
use Rattle.book.specs.Work.Writing.{PutsOne}

module _ {k : ℕ} {f : List ℕ} {from to : ℕ} (o : OneFrame k f (record { from = from; to = to })) (tag : Tag) (x : Tagged k f tag) where
  -- what the frame says has this tag and its payload
  says : ContentWith tag (part from to f) (content_at o.frame)
  says =
      let same : content_at x.frame ≡ content_at o.frame = one-content x.frame o.frame in
      subst (λ (p : List ℕ). ContentWith tag p (content_at o.frame)) (sym (the-part o))
      (subst (λ (c : Content). ContentWith tag (payload_in c) c) same x.is)

  never : {no : ℕ} → MeantCause (ContentWith tag (part from to f)) no → ⊥
  never (no-message g) =
      let own = has-message o.frame in
      g own.0 own.1.good (subst (ContentWith tag (part from to f)) (one-content o.frame own.1.frame ∙ own.1.content) says)

  -- so its line is not refused
  module _ {sheet : Option Lookup} {at : ℕ} {room later : List ℕ} {place : ℕ} where
    pub line-ok : (w : Result ℕ Refusal) → PutsContent sheet tag (part from to f) at (length f) room place w later → IsOk w
    line-ok (Ok n) a = refl
    line-ok (Err why) a = absurd (never (cause-at (cause-of a) (some_number why)))

    pub line-one : {n : ℕ} (w : Result ℕ Refusal) → w ≡ Ok n → PutsContent sheet tag (part from to f) at (length f) room place w later → PutsOne sheet k f at room later place n
    line-one {n} w q a =
        let y : PutContent sheet tag (part from to f) at (length f) room place n later =
        answered (subst (λ (w : Result ℕ Refusal). PutsContent sheet tag (part from to f) at (length f) room place w later) q a) refl in
        record { text = y.text; right = content-of-frame o.frame tag (part from to f) says y.line; put = y.put }
