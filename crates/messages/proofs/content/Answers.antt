-- `messages::content` meets its contract: where the whole is one frame, the part is its payload.
-- Assumes nothing.
use mathlib.Core.Path.{refl}
use native.Mathlib.Nat.{sub_self}
use borrow.Author.Rules.{rules}
use Rattle.messages.proofs.Laws.Decode.{inside, contents-part, contents-nothing, one-frame, no-first, first_of}
use Rattle.messages.proofs.content.Goals as goal

pub slice_bounds-result-count : goal.slice_bounds-result-count
slice_bounds-result-count c = (inside (one-frame c.one_frame.ensures c.in-Ok.is)).0

pub slice_bounds-result-start : goal.slice_bounds-result-start
slice_bounds-result-start c = (inside (one-frame c.one_frame.ensures c.in-Ok.is)).0

pub slice_bounds-result-end : goal.slice_bounds-result-end
slice_bounds-result-end c = (inside (one-frame c.one_frame.ensures c.in-Ok.is)).1

pub returns-in-Ok : goal.returns-in-Ok
returns-in-Ok c =
    contents-part (one-frame c.one_frame.ensures c.in-Ok.is) (no-first c.one_frame.ensures c.in-Ok.is) (record { bytes = refl; place = refl })

-- `sub_self`: a part from any place to itself is empty, so that only its place tells a wrong one
pub returns-in-Err : goal.returns-in-Err
returns-in-Err c =
    contents-nothing _ (first_of c.one_frame.ensures c.in-Err.is) (record { bytes = search (rules, sub_self); place = refl })
