-- The members of a reading: its decimals, and strings of its text.
-- Assumes nothing.
use mathlib.Core.Bool.{Bool, true, false}
use mathlib.Core.List.{List}
use mathlib.Core.Path.{◌≡◌, refl, sym, subst, ◌∙◌}
use Prim.Native.Nat.{ℕ, ◌≤◌, zero-le}
use lib.Dec.{eqb, le→leb}
use lib.IntN.{ℤ, pos, negsuc}
use lib.ListN.{length}
use borrow.Author.Tests.{eqb-true, eqb-false}
use mir.Syntax.{w64}
use mir.Val.{of_z}
use Rattle.std.specs.Prelude.{Ok, Err}
use Rattle.digits.specs.Paper.Ascii.{ascii}
use Rattle.digits.specs.Paper.Read.{Decides, holds, fails}
use Rattle.numbers.specs.Paper.Raw.{Between}
use Rattle.jsontext.specs.Paper.Members.{IsString}
use Rattle.shapes.specs.Paper.Fields.{◌∶◌, whole, chars, Field, plain}
use Rattle.asked.specs.Paper.Field.{Has, Spells, as_plain, as-chars}
use Rattle.shapes.specs.Paper.Shapes.{Sort, number, string, IsOf, a-number, a-string}
use Rattle.asked.specs.Work.Got.{Limit, between, up_to, Holds, Reads, ReadsIn, slot}
use Rattle.asked.specs.Work.Got as got
use Rattle.asked.specs.declared.values.Reason.{Reason}
use Rattle.asked.proofs.Laws.Lift.{one_in, one-string}

-- ---- a member that was read, or not

module _ {s n : List ℕ} {sort : Sort} {limit : Limit} where
  pub was_read : {f : Field} → ReadsIn s (slot n sort limit) (Ok f) → IsOf sort f × Has Spells s (n ∶ f) × Holds limit f
  was_read (got.ReadsIn.is o h l) = (o, h, l)

  -- a member within the limit is read
  pub unread : {why : Reason} {g : Field} → ReadsIn s (slot n sort limit) (Err why) → IsOf sort g → Holds limit g → Has Spells s (n ∶ g) → ⊥
  unread (got.ReadsIn.large o h l) i j k = l (subst (Holds limit) (sym (one_in o i h k)) j)
  unread (got.ReadsIn.none l) i j k = l _ i k

-- ---- decimals

abbrev Dec : List ℕ → ℤ → Type 0
Dec v z = Has Spells v (ascii "dec" ∶ plain (whole z))

module _ {v : List ℕ} {d : ℕ} where
  pub no-decimals : {why : Reason} → ReadsIn v (slot (ascii "dec") number (between (pos 0) (pos 3))) (Err why) → d ≤ 3 → Decides (Dec v (pos d)) false
  no-decimals r h = fails (unread r a-number (record { low = record { le = le→leb 0 d zero-le }; high = record { le = le→leb d 3 h } }))

  pub decimals-so : {z : ℤ} → ReadsIn v (slot (ascii "dec") number (between (pos 0) (pos 3))) (Ok (plain (whole z))) → Decides (Dec v (pos d)) (eqb (of_z w64 z) d)
  decimals-so {z} r = let (o, h, b) = was_read r in by z h b
    where
      told : (n : ℕ) → Dec v (pos n) → (b : Bool) → eqb n d ≡ b → Decides (Dec v (pos d)) b
      told n h true f = holds (subst (λ (x : ℕ). Dec v (pos x)) (eqb-true n d f) h)
      told n h false f = fails (λ k. let g : n ≡ d = cc (one_in a-number a-number h k) in eqb-false n d f g)

      by : (z : ℤ) → Dec v z → Between (pos 0) (pos 3) z → Decides (Dec v (pos d)) (eqb (of_z w64 z) d)
      by (pos n) h b = told n h (eqb n d) refl
      by (negsuc n) h b = absurd b.low.le

-- ---- strings

module _ {v : List ℕ} {most : ℕ} where
  pub string-read : {cs : List ℕ} → Reads v string (up_to most) (Ok (plain (chars cs))) → IsString v cs
  string-read (got.Reads.is o (as_plain (as-chars x)) l) = x

  pub string-unread : {ds : List ℕ} {why : Reason} → Reads v string (up_to most) (Err why) → (IsString v ds → length ds ≤ most) → Decides (IsString v ds) false
  string-unread (got.Reads.large a-string (as_plain (as-chars x)) l) h = fails (λ y. l (subst (λ (c : List ℕ). length c ≤ most) (one-string y x) (h y)))
  string-unread (got.Reads.none k) h = fails (λ y. k _ a-string (as_plain (as-chars y)))

-- a string by its characters, compared as they stand in two rooms
pub same-string : {v cs ds es fs : List ℕ} {b : Bool} → IsString v cs → es ≡ cs → fs ≡ ds → Decides (es ≡ fs) b → Decides (IsString v ds) b
same-string {v} x e f (holds g) = holds (subst (IsString v) (sym e ∙ g ∙ f) x)
same-string x e f (fails g) = fails (λ y. g (e ∙ one-string x y ∙ sym f))
