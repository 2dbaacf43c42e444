-- The rows of Homiq: what `look_homiq` finds has the content that it was given; each row's message is found again; its content makes a
-- frame.
-- Assumes nothing.
use mathlib.Core.Bool.{◌&&◌}
use mathlib.Core.List.{List}
use mathlib.Core.Logic.{inl, inr}
use mathlib.Core.Path.{◌≡◌, refl, ap}
use Prim.Native.Nat.{ℕ}
use lib.Dec.{lit<}
use Rattle.digits.proofs.Laws.Tests.{told}
use Rattle.digits.specs.Paper.Ascii.{ascii}
use Rattle.layouts.specs.Paper.Homiq as homiqs
use Rattle.layouts.specs.Paper.Made.{Wire, homiq_of}
use Rattle.messages.specs.Paper.Content as content
use Rattle.messages.specs.Work.Content.{Fit}
use Rattle.messages.specs.Paper.Message.{Message, output, input, shutter, beat, homiq}
use Rattle.messages.specs.Paper.Says.{of_homiq}
use Rattle.messages.specs.Paper.Table.{Sends, content_of, Limits}
use Rattle.messages.specs.Work.Homiq.{same, is_marked_number, is_letter, which_of}
use Rattle.messages.specs.Work.Look.{look_homiq, look}
use Rattle.messages.specs.declared.homiq.Homiq.{Homiq}
use Rattle.messages.specs.declared.homiq.Homiq.TheVariants.{Output, Input, Shutter, Beat, Other}
use Rattle.messages.proofs.Laws.Choices.{by-test}
use Rattle.messages.proofs.Laws.HomiqTests.{same-tells, numbered-tells, letter-tells, output-which, input-which, shutter-which, beat-which}
use Rattle.messages.proofs.Laws.Rows.{ReadsTo, Found}
use Rattle.messages.proofs.Laws.Telling.{both-tell}

-- ---- what is found has the content that was given

module _ (w : Wire) (f : homiqs.Limits (homiq_of w)) where
  sends : {Cmd Val : List ℕ → Type 0} → Cmd w.cmd × Val w.val → Sends Cmd Val w
  sends p = record { limits = f; cmd = p.0; val = p.1 }

  row : (m : Message) → content_of m ≡ content.homiq w → Limits m → ReadsTo (content.homiq w) m
  row m e l = record { same = e; limits = l }

pub homiq-reads : (w : Wire) → homiqs.Limits (homiq_of w) → ReadsTo (content.homiq w) (look_homiq w)
unfolding which_of content_of
homiq-reads w f =
    by-test (λ e. ReadsTo (content.homiq w) (of_homiq e w)) (is_marked_number (ascii "O.") 9 w.cmd && is_letter (ascii "01") w.val)
    (λ t. row w f (output w) refl (sends w f (told (both-tell (numbered-tells (ascii "O.") 9 w.cmd) (letter-tells (ascii "01") w.val)) t)))
    (λ _. by-test (λ e. ReadsTo (content.homiq w) (of_homiq e w)) (is_marked_number (ascii "I.") 15 w.cmd && is_letter (ascii "01") w.val)
    (λ t. row w f (input w) refl (sends w f (told (both-tell (numbered-tells (ascii "I.") 15 w.cmd) (letter-tells (ascii "01") w.val)) t)))
    (λ _. by-test (λ e. ReadsTo (content.homiq w) (of_homiq e w)) (same (ascii "UD") w.cmd && is_letter (ascii "uds") w.val)
    (λ t. row w f (shutter w) refl (sends w f (told (both-tell (same-tells (ascii "UD") w.cmd) (letter-tells (ascii "uds") w.val)) t)))
    (λ _. by-test (λ e. ReadsTo (content.homiq w) (of_homiq e w)) (same (ascii "HB") w.cmd && is_letter (ascii "1") w.val)
    (λ t. row w f (beat w) refl (sends w f (told (both-tell (same-tells (ascii "HB") w.cmd) (letter-tells (ascii "1") w.val)) t)))
    (λ _. row w f (homiq w) refl f))))

-- ---- each row's message is found again

module _ (w : Wire) where
  found : {e : Homiq} → which_of w.cmd w.val ≡ e → look_homiq w ≡ of_homiq e w
  found p = ap (λ (e : Homiq). of_homiq e w) p

  -- any of Homiq's messages is the last, or above it
  last : (e : Homiq) → Found (homiq w) (of_homiq e w)
  last Output = inr (lit< tt)
  last Input = inr (lit< tt)
  last Shutter = inr (lit< tt)
  last Beat = inr (lit< tt)
  last Other = inl refl

pub output-found : (w : Wire) → Limits (output w) → look (content_of (output w)) ≡ output w
unfolding look content_of
output-found w l = found w (output-which w l)

pub input-found : (w : Wire) → Limits (input w) → look (content_of (input w)) ≡ input w
unfolding look content_of
input-found w l = found w (input-which w l)

pub shutter-found : (w : Wire) → Limits (shutter w) → look (content_of (shutter w)) ≡ shutter w
unfolding look content_of
shutter-found w l = found w (shutter-which w l)

pub beat-found : (w : Wire) → Limits (beat w) → look (content_of (beat w)) ≡ beat w
unfolding look content_of
beat-found w l = found w (beat-which w l)

pub homiq-found : (w : Wire) → Limits (homiq w) → Found (homiq w) (look (content_of (homiq w)))
unfolding look content_of
homiq-found w l = last w (which_of w.cmd w.val)

-- ---- the content of each makes a frame

pub output-fit : (w : Wire) → Limits (output w) → Fit (content_of (output w))
unfolding content_of
output-fit w l = l.limits

pub input_fit : (w : Wire) → Limits (input w) → Fit (content_of (input w))
unfolding content_of
input_fit w l = l.limits

pub shutter-fit : (w : Wire) → Limits (shutter w) → Fit (content_of (shutter w))
unfolding content_of
shutter-fit w l = l.limits

pub beat-fit : (w : Wire) → Limits (beat w) → Fit (content_of (beat w))
unfolding content_of
beat-fit w l = l.limits

pub homiq-message-fit : (w : Wire) → Limits (homiq w) → Fit (content_of (homiq w))
unfolding content_of
homiq-message-fit w l = l
