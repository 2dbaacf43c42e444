-- Raw numbers, which the machine keeps as bits and reads back: that they fit a single, their text, and their readings.
-- Assumes nothing.
use mathlib.Core.Path.{◌≡◌, refl, sym, ap, ◌∙◌, subst}
use mathlib.Core.Bool.{Bool, true, false}
use mathlib.Core.List.{List, [], ◌∷◌, ◌++◌, append-nil, append_assoc}
use Prim.Native.Nat.{ℕ, ◌+◌, ◌-◌, ◌/◌, ◌^◌, ◌≤◌, ◌<◌}
use native.Mathlib.Nat.{lt_of_lt_of_le}
use native.Mathlib.Omega.{arith}
use lib.Dec.{T, le→leb, lit≤, lit<}
use lib.IntN.{ℤ, pos, negsuc, nat_abs, ◌-ℤ◌}
use lib.ListN.{length, take, drop, length-append}
use lib.Seq.{take_at}
use lib.Signed.{lt_z, non_neg}
use mir.Syntax.{Width, w32, w64}
use mir.Val.{Fits, SFits, hbits, to_z, of_z}
use mir.ValLaws.{to_z-of_z}
use Rattle.digits.specs.Paper.Ascii.{ascii}
use Rattle.digits.specs.Paper.Decimal.{decimal}
use Rattle.digits.specs.Paper.Refusals.{refusal_number, answers}
use Rattle.digits.specs.declared.refusal.Refusal.{Refusal}
use Rattle.digits.proofs.Laws.Refusals.{some_number, one_answer}
use Rattle.std.specs.Prelude.{Result, Ok, Err}
use Rattle.std.specs.Result.{result_unwrap_or}
use Rattle.puts.specs.Paper.Wrote.{Written, written_refusal, written_count, Writes}
use Rattle.numbers.specs.Paper.Raw.{Raw}
use Rattle.numbers.specs.Paper.Text.{below_zero, sign, text_of, text}
use Rattle.numbers.specs.Paper.Single.{fits_single}
use Rattle.numbers.specs.Paper.Answers.{TextCause, fits_value, AnswersFits}
use Rattle.numbers.proofs.Laws.Causes.{in-range}
use Rattle.numbers.proofs.Laws.Signs.{back, read_back, said, less, not-less, below, Cast, plain, turned, plus}
use Rattle.numbers.proofs.Theorems.Text.{room-of-12}
use Rattle.json_values.specs.Paper.Json.{truth, further, object, reading}
use Rattle.json_values.specs.Paper.Decimals.{decimals_of}
use Rattle.json_values.specs.declared.Decimals.{Decimals}
use Rattle.json_values.specs.declared.Decimals.TheVariants.{Zero, One, Two, Three}

-- ---- whether a single holds it

fit-value : (z : ℤ) (r : Result Bool Refusal) → SFits w64 z → Raw z → AnswersFits (back z) r → fits_value r ≡ fits_single z
fit-value z r f h a = (one_answer (λ x y g k. g ∙ sym k) (said (λ (y : ℤ). AnswersFits y r) z f a) (answers {v = fits_single z} (in-range z h) refl)).1

-- a number that is refused has no single; a raw number never is
pub fit : (z : ℤ) (r : Result Bool Refusal) → SFits w64 z → Raw z → AnswersFits (back z) r → result_unwrap_or r false ≡ fits_single z
fit z (Ok b) f h a = fit-value z (Ok b) f h a
fit z (Err why) f h a = fit-value z (Err why) f h a

-- ---- its text, in a room of 12

module _ (z : ℤ) (d : ℕ) (f : SFits w64 z) (h : Raw z) (few : d ≤ 3) (room later : List ℕ) (r : Written) (twelve : length room ≡ 12)
    (a : Writes (TextCause (back z) d (length room)) (text (back z) d) room r later) where
  written : (r ≡ Ok (length (text z d))) × (later ≡ text z d ++ drop (length (text z d)) room)
  written = room-of-12 z d r room later h few (omega arith) (said (λ (y : ℤ). Writes (TextCause y d (length room)) (text y d) room r later) z f a)

  module _ (n : ℕ) (e : r ≡ Ok n) where
    count : n ≡ length (text z d)
    count = ap written_count (sym e ∙ written.0)

    pub text-within : n ≤ length later
    text-within =
        let l : length later ≡ length (text z d) + length (drop (length (text z d)) room) = ap length written.1 ∙ length-append (text z d) (drop (length (text z d)) room) in
        omega (arith, count)

    pub text-front : take (n - 0) later ≡ text z d
    text-front =
        let m : n - 0 ≡ n = omega arith in
        ap (λ (k : ℕ). take k later) m ∙ ap (take n) written.1 ∙ take_at (text z d) (drop (length (text z d)) room) n (sym count)

  pub never-refused : (why : Refusal) → r ≡ Err why → ⊥
  never-refused why e = let g : refusal_number why ≡ 0 = ap written_refusal (sym e ∙ written.0) in omega (arith, some_number why)

-- ---- its text with no decimals

spelt : (minus : Bool) (n : ℕ) → sign minus ++ decimal n ≡ text_of minus n 0
unfolding text_of
spelt minus n =
    let e : n ≡ n / 10 ^ 0 = omega arith in
    ap (λ (l : List ℕ). sign minus ++ l) (ap decimal e ∙ sym (append-nil (decimal (n / 10 ^ 0))))

zero-fits : SFits w64 (pos 0)
zero-fits = record { sfits = lit< tt }

wide : {n : ℕ} → Fits w32 n → Fits w64 n
wide h = record { fits = omega (arith, h.fits) }

module _ (z : ℤ) (f : SFits w64 z) (h : Raw z) where
  sign_of : (b : Bool) → lt_z (back z) (pos 0) ≡ b → below_zero z ≡ b
  sign_of b e = sym (ap below_zero (read_back z f)) ∙ sym (below (back z)) ∙ e

  text-as : (b : Bool) (n : ℕ) → lt_z (back z) (pos 0) ≡ b → n ≡ nat_abs z → sign b ++ decimal n ≡ text z 0
  text-as b n e g = rw (sign_of b e, g) (spelt b (nat_abs z))

  module _ (e : lt_z (back z) (pos 0) ≡ true) where
    lower : SFits w64 (pos 0 -ℤ back z) × Cast (pos 0 -ℤ back z) (nat_abs z)
    lower = turned z h (less z (pos 0) f zero-fits e)

    pub lower-fits : SFits w64 (pos 0 -ℤ back z)
    lower-fits = lower.0

    pub lower-cast : T (non_neg (back (pos 0 -ℤ back z))) × Fits w64 (nat_abs (back (pos 0 -ℤ back z)))
    lower-cast = (lower.1.0.0, wide lower.1.0.1)

    pub lower-text : ascii "-" ++ decimal (nat_abs (back (pos 0 -ℤ back z))) ≡ text z 0
    lower-text = text-as true (nat_abs (back (pos 0 -ℤ back z))) e lower.1.1

  module _ (e : lt_z (back z) (pos 0) ≡ false) where
    upper : Cast z (nat_abs z)
    upper = plain z h (not-less z (pos 0) f zero-fits e)

    pub upper-cast : T (non_neg (back z)) × Fits w64 (nat_abs (back z))
    upper-cast = (upper.0.0, wide upper.0.1)

    pub upper-text : decimal (nat_abs (back z)) ≡ text z 0
    upper-text = text-as false (nat_abs (back z)) e upper.1

-- ---- its reading

pub reading-spelt : (z : ℤ) (d : ℕ)
    → ascii "{\"raw\":" ++ (text z 0 ++ (ascii ",\"dec\":" ++ (decimal d ++ (ascii ",\"text\":\"" ++ (text z d ++ (ascii "\",\"f32\":" ++ (truth (fits_single z) ++ ascii "}"))))))) ≡ reading z d
unfolding reading object further
reading-spelt z d =
    ap (λ (l : List ℕ). ascii "{\"raw\":" ++ (text z 0 ++ (ascii ",\"dec\":" ++ (decimal d ++ (ascii ",\"text\":\"" ++ l)))))
    (sym (append_assoc (text z d) (34 ∷ []) (ascii ",\"f32\":" ++ (truth (fits_single z) ++ ascii "}"))))

pub at-most-3 : (d : Decimals) → decimals_of d ≤ 3
at-most-3 Zero = lit≤ tt
at-most-3 One = lit≤ tt
at-most-3 Two = lit≤ tt
at-most-3 Three = lit≤ tt

-- a number of v bits with a sign, as the machine hands it on to w bits that hold as much

module _ (v w : Width) (h : 2 ^ hbits v ≤ 2 ^ hbits w) (z : ℤ) (f : SFits v z) where
  pub handed-fits : SFits w (to_z v (of_z v z))
  handed-fits = subst (SFits w) (sym (to_z-of_z v z f)) (record { sfits = lt_of_lt_of_le f.sfits h })

  pub handed-back : to_z w (of_z w (to_z v (of_z v z))) ≡ z
  handed-back = to_z-of_z w (to_z v (of_z v z)) handed-fits ∙ to_z-of_z v z f

-- one of 32 bits, to 64

abbrev pub back32 : ℤ → ℤ
back32 z = to_z w32 (of_z w32 z)

module _ (z : ℤ) (f : SFits w32 z) where
  pub signed-fits : SFits w64 (back32 z)
  signed-fits = handed-fits w32 w64 (lit≤ tt) z f

  pub signed_back : back (back32 z) ≡ z
  signed_back = handed-back w32 w64 (lit≤ tt) z f

  pub signed-raw : Raw (back (back32 z))
  signed-raw = subst Raw (sym signed_back) (raw z f)
    where
      raw : (y : ℤ) → SFits w32 y → Raw y
      raw (pos n) g = record { low = record { le = tt }; high = record { le = le→leb n 4294967295 (omega (arith, g.sfits)) } }
      raw (negsuc n) g = record { low = record { le = le→leb n 2147483647 (omega (arith, g.sfits)) }; high = record { le = tt } }

-- and one without

module _ (n : ℕ) (h : n < 2 ^ 32) where
  pub unsigned_back : to_z w64 n ≡ pos n
  unsigned_back = plus n (omega arith)

  pub unsigned-raw : Raw (to_z w64 n)
  unsigned-raw =
      subst Raw (sym unsigned_back)
      (record { low = record { le = tt }; high = record { le = le→leb n 4294967295 (omega arith) } })
