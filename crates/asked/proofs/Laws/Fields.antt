-- Homiq's type, its six fields put one behind the other, six bytes of an array, and a state's voltages.
-- Assumes nothing.
use mathlib.Core.Bool.{Bool, true, false, cond}
use mathlib.Core.List.{List, [], ◌∷◌, ◌++◌, append_assoc}
use mathlib.Core.Path.{◌≡◌, refl, sym, ap, subst, ◌∙◌}
use Prim.Native.Nat.{ℕ, zero, suc, ◌+◌, ◌^◌, ◌≤◌, ◌<◌}
use native.Mathlib.Omega.{arith}
use lib.Dec.{T}
use lib.IntN.{ℤ, pos}
use lib.ListN.{length, get_or, take, length-append}
use lib.Seq.{take_all}
use Rattle.std.specs.Prelude.{Result, Ok, Err}
use mir.Syntax.{w64}
use mir.Val.{SFits, to_z, of_z}
use Rattle.digits.specs.Paper.Ascii.{ascii}
use Rattle.digits.specs.Paper.Bytes.{Bytes}
use Rattle.digits.specs.Paper.Decimal.{decimal}
use Rattle.digits.specs.Paper.Read.{Decides, holds, fails}
use Rattle.digits.proofs.Laws.Parts.{ats, take-ats}
use Rattle.puts.specs.Paper.Put.{Put}
use Rattle.puts.proofs.Laws.Puts.{◌then◌, puts-as, put-length, front-count, front_bytes}
use Rattle.layouts.specs.Paper.Chars.{one_of}
use Rattle.messages.specs.Paper.Table.{u16_at, v_in, v_op, v_bat}
use Rattle.numbers.proofs.Laws.Signs.{read_back, signed-fits}
use Rattle.asked.specs.Paper.Answers.{wired_payload}
use Rattle.shapes.specs.Paper.Fields.{plain, chars}
use Rattle.shapes.specs.Paper.Shapes.{string, wired_fields}
use Rattle.asked.specs.Work.Got as got
use Rattle.asked.specs.Work.Got.{Reads, up_to, wire-type, typed_of, Volts, ReadsAll, mapped}
use Rattle.asked.specs.Work.Homiq as homiq
use Rattle.asked.specs.Work.Homiq.{Wires, wired_slots}
use Rattle.asked.specs.declared.values.Reason.{Reason}
use Rattle.asked.specs.declared.values.Reason.TheVariants.{Large}
use Rattle.asked.proofs.Laws.Lift.{nothing}
use Rattle.asked.proofs.Laws.Strings.{T_false}
use Rattle.digits.proofs.Laws.Decimal.{length-decimal}
use Rattle.layouts.specs.Paper.Made.{Wire}

-- six bytes, one by one
pub six-all : (s : List ℕ) → length s ≡ 6 → ats s 0 6 ≡ s
six-all s h = sym (take-ats s 6 0 (omega arith)) ∙ take_all 6 s (omega arith)

-- ---- the type: `s` or `a`

module _ {v : List ℕ} where
  no-letter : Reads v string (up_to 1) (Ok (plain (chars []))) → Reads v string wire-type (Err Large)
  no-letter (got.Reads.is a x l) = got.Reads.large a x (λ w. nothing w.is)

  one-letter : (y : ℕ) → Reads v string (up_to 1) (Ok (plain (chars (y ∷ []))))
      → Reads v string wire-type (mapped (λ l. plain (chars (l ∷ []))) (typed_of 1 y))
  one-letter y (got.Reads.is a x l) = by (one_of (ascii "sa") y) refl
    where
      by : (b : Bool) → one_of (ascii "sa") y ≡ b → Reads v string wire-type (mapped (λ l. plain (chars (l ∷ []))) (cond b (Ok y) (Err Large)))
      by true t = got.Reads.is a x (record { letter = y; one = rw t tt; is = refl })
      by false t =
          got.Reads.large a x
          (λ w. let s : w.letter ≡ y = cc w.is in T_false (one_of (ascii "sa") y) t (subst (λ (z : ℕ). T (one_of (ascii "sa") z)) s w.one))

  -- one that was not read
  pub unlettered : {why : Reason} → Reads v string (up_to 1) (Err why) → Reads v string wire-type (Err why)
  unlettered (got.Reads.large a x l) = got.Reads.large a x (λ w. l (omega (arith, ap length w.is)))
  unlettered (got.Reads.none f) = got.Reads.none f

  pub letter-read : (s : List ℕ) (len : ℕ) {q : Result ℕ Reason} → Reads v string (up_to 1) (Ok (plain (chars (take len s)))) → len ≤ 1 → length s ≡ 1
      → q ≡ typed_of len (get_or s 0 0) → Reads v string wire-type (mapped (λ l. plain (chars (l ∷ []))) q)
  letter-read [] len r l k e = absurd (omega arith)
  letter-read (y ∷ z ∷ s) len r l k e = absurd (omega arith)
  letter-read (y ∷ []) zero r l k e = rw e (no-letter r)
  letter-read (y ∷ []) (suc zero) r l k e = rw e (one-letter y r)
  letter-read (y ∷ []) (suc (suc n)) r l k e = absurd (omega arith)

-- ---- CMD;VAL;SRC;DST;ID;TYPE

regroup : (z a b c d e t : List ℕ)
    → (a ++ z) ++ ((b ++ z) ++ ((c ++ z) ++ ((d ++ z) ++ (e ++ (z ++ t))))) ≡ a ++ z ++ b ++ z ++ c ++ z ++ d ++ z ++ e ++ z ++ t
regroup z a b c d e t = simp append_assoc

-- a wire's fields, put one behind the other
pub wires : (wire : Wire) {s content c1 c2 c3 c4 later : List ℕ} {i j k l len : ℕ} → length content ≡ 8192 → ReadsAll s wired_slots (Ok (wired_fields wire))
    → Put content c1 0 i (wire.cmd ++ (59 ∷ [])) → Put c1 c2 i j (wire.val ++ (59 ∷ [])) → Put c2 c3 j k (wire.src ++ (59 ∷ [])) → Put c3 c4 k l (wire.dst ++ (59 ∷ []))
    → Put c4 later l len (decimal wire.id ++ (59 ∷ wire.type ∷ [])) → length wire.cmd ≤ 8 → length wire.val ≤ 16 → length wire.src ≤ 4 → length wire.dst ≤ 4 → wire.id ≤ 511
    → Wires s later (Ok len)
wires wire {content = content} {later = later} room reads p q r t put a b d e few =
    let there : Put content later 0 _ (wired_payload wire) =
    puts-as (regroup (59 ∷ []) wire.cmd wire.val wire.src wire.dst (decimal wire.id) (wire.type ∷ [])) (p then (q then (r then (t then put)))) in
    let fits : length (wired_payload wire) ≤ length content = simp length-append (omega (arith, a, b, d, e, length-decimal 2 wire.id (omega arith), room)) in
    homiq.is reads (omega (arith, front-count there fits, put-length there, fits)) (front_bytes there fits)

-- ---- a state's voltages

-- a number that is compared by its 64 bits: another, or the same
other-volts : {x y z : ℤ} → x ≡ z → (of_z w64 x ≡ of_z w64 y → ⊥) → z ≡ y → ⊥
other-volts e f g = f (ap (of_z w64) (e ∙ g))

pub same-volts : {p : List ℕ} {x y : ℤ} (i : ℕ) → Bytes p → SFits w64 y → x ≡ pos (u16_at i p) → of_z w64 x ≡ of_z w64 y → pos (u16_at i p) ≡ y
same-volts {p} {y = y} i b f e h =
    let n : ℕ = u16_at i p in
    let few : n < 2 ^ 48 = omega (arith, b.each i, b.each (i + 1)) in
    sym (read_back (pos n) (signed-fits false n few)) ∙ ap (to_z w64) (ap (of_z w64) (sym e) ∙ h) ∙ read_back y f

module _ {p : List ℕ} {a b c : ℤ} where
  pub too_few : length p < 14 → Decides (Volts p a b c) false
  too_few h = fails (λ v. omega (arith, v.enough))

  pub not_in : {x : ℤ} → x ≡ pos (v_in p) → (of_z w64 x ≡ of_z w64 a → ⊥) → Decides (Volts p a b c) false
  not_in e f = fails (λ v. other-volts e f v.is-in)

  pub not_op : {x : ℤ} → x ≡ pos (v_op p) → (of_z w64 x ≡ of_z w64 b → ⊥) → Decides (Volts p a b c) false
  not_op e f = fails (λ v. other-volts e f v.is-op)

  pub not-bat : {x : ℤ} → x ≡ pos (v_bat p) → (of_z w64 x ≡ of_z w64 c → ⊥) → Decides (Volts p a b c) false
  not-bat e f = fails (λ v. other-volts e f v.is-bat)

  pub all-volts : 14 ≤ length p → pos (v_in p) ≡ a → pos (v_op p) ≡ b → pos (v_bat p) ≡ c → Decides (Volts p a b c) true
  all-volts h e f g = holds (record { enough = h; is-in = e; is-op = f; is-bat = g })
