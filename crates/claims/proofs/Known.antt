-- THE KNOWN POINTS (a) to (l), all in one statement, and those of document 02 in another. Each crate's own Known has its part, computed from the definitions.
-- Assumes nothing.
use Rattle.std.specs.Prelude.{Ok, Err, Result}
use mathlib.Core.List.{List, [], ◌∷◌, ◌++◌}
use mathlib.Core.Path.{◌≡◌, refl, sym, ap, ◌∙◌, subst}
use Prim.Native.Nat.{ℕ, ◌+◌}
use native.Mathlib.Omega.{arith}
use lib.Dec.{lit≤}
use lib.ListN.{length}
use Rattle.digits.specs.declared.refusal.Refusal.{Refusal}
use Rattle.digits.specs.Paper.Ascii.{ascii}
use Rattle.digits.specs.Paper.Bytes.{part}
use Rattle.digits.specs.Paper.LowFirst.{low_byte_first}
use Rattle.digits.proofs.Laws.Parts.{part-all}
use Rattle.digits.specs.declared.refusal.Refusal.TheVariants.{NoFrame}
use Rattle.checks.proofs.Known.{nest-six}
use Rattle.checks.proofs.Theorems.{seventeen, seventeen-unseen}
use Rattle.numbers.proofs.Known.{minus-five, fit, do-not-fit}
use Rattle.layouts.specs.Paper.Chars.{CR, LF}
use Rattle.frames.specs.Paper.Kinds.{Frame}
use Rattle.frames.specs.Paper.Search.{Searches}
use Rattle.frames.specs.Work.Seek.{searched}
use Rattle.frames.specs.declared.Found.{Found}
use Rattle.frames.proofs.Laws.Runs.{leftmost, none_found}
use Rattle.frames.proofs.Theorems.{an-answer}
use Rattle.frames.proofs.Known as frames
use Rattle.messages.proofs.Known as messages
use Rattle.commands.proofs.Known as commands
use Rattle.book.proofs.Known as books
use Rattle.claims.specs.Paper.Points.{AllHold, points, later_points}

-- what is computed is the one right answer of the search
answer : (k : ℕ) (s : List ℕ) {r : Result Found Refusal} → searched k s 0 ≡ r → Searches k s 0 r
answer k s e = subst (Searches k s 0) e (an-answer k s 0)

-- all of f, as the search has it
all_of : {f : List ℕ} {len : ℕ} → len ≡ length f → part 0 (0 + len) f ≡ f
all_of {f} {len} e = let n : 0 + len ≡ length f = omega (arith, e) in ap (λ (m : ℕ). part 0 m f) n ∙ part-all f

-- a frame that the search finds at 0 with the whole length, and none where it finds none
whole : {k : ℕ} {f : List ℕ} {len from to : ℕ} → Searches k f 0 (Ok (record { start = 0; len = len; from = from; to = to })) → len ≡ length f → Frame k f
whole {k} {f} a e = subst (Frame k) (all_of e) (leftmost a).stands.frame

no-frame : {k : ℕ} {f : List ℕ} → Searches k f 0 (Err NoFrame) → Frame k f → ⊥
no-frame {k} {f} a h = none_found a 0 (length f) (lit≤ tt) (record { inside = omega arith; frame = subst (Frame k) (sym (all_of refl)) h })

-- (g)
abbrev right : List ℕ
right = ascii "<;I.3;1;0H;0;42;s;134;>" ++ (CR ∷ LF ∷ [])

abbrev wrong : List ℕ
wrong = ascii "<;I.3;1;0H;0;42;s;143;>" ++ (CR ∷ LF ∷ [])

pub known : AllHold points
known = (
  messages.a,
  (
    messages.b,
    (
      messages.c,
      (
        nest-six,
        (
          messages.e,
          (
            (5, 7, answer 4 (0xC0 ∷ 0x69 ∷ 0xC0 ∷ 0x69 ∷ 0x02 ∷ 0x64 ∷ 0x00 ∷ 0x66 ∷ []) frames.f),
            (
              whole (answer 5 right frames.g) refl,
              (
                no-frame (answer 5 wrong frames.g-143),
                (
                  record { wire = commands.third; frame = commands.g; is = sym commands.h },
                  (
                    minus-five,
                    (
                      fit.0,
                      (
                        fit.1,
                        (
                          do-not-fit.0,
                          (
                            do-not-fit.1,
                            (
                              books.k,
                              (((λ id. seventeen-unseen (low_byte_first 2 id ++ low_byte_first 2 3)), seventeen), tt),
                            ),
                          ),
                        ),
                      ),
                    ),
                  ),
                ),
              ),
            ),
          ),
        ),
      ),
    ),
  ),
)

-- THE POINTS OF DOCUMENT 02
pub later-known : AllHold later_points
later-known = (
  messages.id-0,
  (record { wire = messages.numbered-0; frame = commands.id-0; is = sym commands.id-0-acknowledged }, (refl, tt)),
)
