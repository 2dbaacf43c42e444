-- What the verdicts of `why` come to.
-- Assumes nothing.
use mathlib.Core.Path.{refl}
use Rattle.frames.proofs.Theorems as frames
use Rattle.claims.specs.Paper.Verdicts.{Verdicts}

pub verdicts : Verdicts
verdicts =
    record {
      frame-if-none = frames.frame-if-none;
      none-if-frame = λ q r w. frames.one-verdict r _ w (frames.none-if-frame q);
      found-if-frame = λ q r a. (_, _, frames.one_answer r _ a (frames.found-if-frame q));
      frame-if-found = frames.frame-if-found;
      a-verdict = frames.a-verdict;
      one-verdict = frames.one-verdict;
      laid = frames.laid-begun;
      first-differ = λ w. frames.first-differ w refl;
      second-differ = λ w. frames.second-differ w refl;
      else-zeros = λ w. frames.else-zeros w;
    }
