-- The frames and the bytes in none add up; and how long a listing can be.
-- Assumes nothing.
use mathlib.Core.List.{List, [], ◌∷◌}
use mathlib.Core.Option.{Option}
use mathlib.Core.Path.{ap, ◌∙◌}
use Prim.Native.Nat.{ℕ, ◌+◌, ◌-◌, ◌*◌, ◌^◌, ◌≤◌, ◌<◌}
use native.Mathlib.Omega.{arith}
use lib.ListN.{length, length-append}
use Rattle.digits.specs.Paper.Ascii.{ascii}
use Rattle.digits.proofs.Laws.Decimal.{length-decimal}
use Rattle.frames.specs.Paper.Runs.{Run, InOrder, nothing, next}
use Rattle.frames.specs.Paper.Search.{Hit, frame_part}
use Rattle.frames.proofs.Laws.Places.{size-at}
use Rattle.frames.proofs.Laws.Starts.{four_bytes}
use Rattle.frames.proofs.Theorems.{in_order}
use Rattle.json_values.specs.Paper.Json.{◌∶◌, object, number}
use Rattle.json_values.proofs.Laws.Sizes.{total, length-object}
use Rattle.lines.proofs.Laws.Sizes.{line-within}
use Rattle.sheet.specs.Paper.Sheet.{Lookup}
use Rattle.lines.proofs.Laws.Types.{InTypes}
use Rattle.list.specs.Paper.Listing.{Lines, none, line, inside, last_line, Lists, most_input, refused_with, Listing, bad-start, too_long, bad-sheet, listed, listing_room}

-- ---- frames

-- frames in order lie in the capture
pub in-capture : {k : ℕ} {s : List ℕ} {place : ℕ} {hits : List Hit} → InOrder k s place hits → place ≤ length s → place + inside hits ≤ length s
unfolding inside
in-capture nothing h = omega arith
in-capture (next {v = v} b q r) h = let l = in-capture r q.inside in omega (arith, q.inside)

pub inside-most : {k : ℕ} {s : List ℕ} {hits : List Hit} → Run k s 0 hits → inside hits ≤ length s
inside-most r = let l = in-capture (in_order r) (omega arith) in omega arith

few : {k : ℕ} {s : List ℕ} {place : ℕ} {hits : List Hit} → InOrder k s place hits → 4 * length hits ≤ inside hits
unfolding inside
few nothing = omega arith
few (next {v = v} b q r) = omega (arith, four_bytes q.frame, size-at q, few r)

pub few-found : {k : ℕ} {s : List ℕ} {place : ℕ} {hits : List Hit} → Run k s place hits → 4 * length hits ≤ inside hits
few-found r = few (in_order r)

-- ---- lines

lines-most : {sheet : Option Lookup} {k : ℕ} {s : List ℕ} {place : ℕ} {hits : List Hit} {t : List ℕ} → InTypes sheet → length s ≤ most_input → InOrder k s place hits → Lines sheet k s hits t → length t ≤ 32 * inside hits
unfolding inside
lines-most types h nothing none = omega arith
lines-most {s = s} types h (next {v = v} b q r) (line {t = t} {rest = rest} l ls) =
    omega (
      arith,
      length-append t rest,
      line-within {f = frame_part s v} types (omega (arith, q.inside)) (four_bytes q.frame) l,
      size-at q,
      lines-most types h r ls,
    )

last-line-most : (n m : ℕ) → n < 10 ^ 5 → m < 10 ^ 5 → length (last_line n m) ≤ 50
unfolding total
last-line-most n m h l =
    let f = ascii "frames" ∶ number n in
    let ms = ascii "skipped" ∶ number m ∷ [] in
    omega (arith, length-append (object (f ∷ ms)) (ascii "\n"), length-object f ms, length-decimal 4 n h, length-decimal 4 m l)

pub lists-most : {sheet : Option Lookup} {k : ℕ} {s t : List ℕ} → InTypes sheet → length s ≤ most_input → Lists sheet k s t → length t ≤ listing_room (length s)
lists-most {s = s} types h l =
    let o = in_order l.run in
    let i = inside-most l.run in
    let n = few o in
    let e = ap length l.is ∙ length-append l.lines (last_line (length l.frames) (length s - inside l.frames)) in
    omega (arith, e, lines-most types h o l.each, last-line-most (length l.frames) (length s - inside l.frames) (omega arith) (omega arith))

pub refused-size : (n : ℕ) → n < 100 → length (refused_with n) ≤ 15
unfolding total
refused-size n h =
    let f = ascii "refused" ∶ number n in
    omega (arith, length-append (object (f ∷ [])) (ascii "\n"), length-object f [], length-decimal 1 n h)

-- ---- listings

module _ {Given : Option Lookup → Type 0} (types : (sheet : Option Lookup) → Given sheet → InTypes sheet) where
  pub listing-room : {s t : List ℕ} → Listing Given s t → length t ≤ listing_room (length s)
  listing-room (bad-start f) = omega (arith, refused-size 2 (omega arith))
  listing-room (too_long i h) = omega (arith, refused-size 5 (omega arith))
  listing-room (bad-sheet i h f) = omega (arith, refused-size 10 (omega arith))
  listing-room (listed {sheet = sheet} g i h l) =
      let e = ap length i.is in
      omega (arith, lists-most (types sheet g) (omega arith) l)

  pub listing-most : {s t : List ℕ} → Listing Given s t → length t ≤ listing_room most_input
  listing-most (bad-start f) = omega (arith, refused-size 2 (omega arith))
  listing-most (too_long i h) = omega (arith, refused-size 5 (omega arith))
  listing-most (bad-sheet i h f) = omega (arith, refused-size 10 (omega arith))
  listing-most (listed {sheet = sheet} g i h l) =
      let e = ap length i.is in
      omega (arith, lists-most (types sheet g) (omega arith) l)
