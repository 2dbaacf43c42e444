-- The tests of Homiq's commands and values tell what the paper states of them, and at most one of the four messages is told.
-- Assumes nothing.
use mathlib.Core.Bool.{Bool, true, false}
use mathlib.Core.List.{List, [], ◌∷◌, ◌++◌, append-nil}
use mathlib.Core.Path.{◌≡◌, refl, sym, ◌∙◌, ap, subst}
use Prim.Native.Nat.{ℕ, ◌≤◌}
use native.Mathlib.Omega.{arith}
use borrow.Author.Tests.{eqb-true, leb-true, eq-eqb, le-leb}
use lib.Dec.{T, eqb, leb}
use lib.ListN.{length, get_or, drop, drop_of_length-le}
use lib.Seq.{drop-append_seam}
use Rattle.digits.proofs.Laws.Decimal.{guess-decimal}
use Rattle.digits.proofs.Laws.Tests.{T_true}
use Rattle.digits.specs.Paper.Ascii.{ascii}
use Rattle.digits.specs.Paper.Decimal.{decimal}
use Rattle.digits.specs.Paper.Read.{Decides}
use Rattle.digits.specs.Work.Decimal.{guess}
use Rattle.layouts.proofs.Laws.Heads.{starts-splits, starts-append}
use Rattle.layouts.specs.Paper.Chars.{one_of}
use Rattle.layouts.specs.Paper.Made.{Wire}
use Rattle.layouts.specs.Work.Heads.{starts}
use Rattle.messages.specs.Paper.Message.{output, input, shutter, beat}
use Rattle.messages.specs.Paper.Table.{MarkedNumber, Letter, Limits}
use Rattle.messages.specs.Work.Homiq.{same, is_marked_number, is_letter, which_of}
use Rattle.messages.specs.declared.homiq.Homiq.TheVariants.{Output, Input, Shutter, Beat}
use Rattle.messages.proofs.Laws.Choices.{both_true}
use Rattle.messages.proofs.Laws.Telling.{tells}

-- ---- two lists are one

same-sound : (a b : List ℕ) → same a b ≡ true → b ≡ a
same-sound a b e =
    let q = both_true (eqb (length b) (length a)) (starts a b) e in
    let l : length b ≡ length a = eqb-true _ _ q.0 in
    let k : length b ≤ length a = omega arith in
    starts-splits a b (subst T (sym q.1) tt)
    ∙ ap (λ (t : List ℕ). a ++ t) (drop_of_length-le b k) ∙ append-nil a

same-complete : (a b : List ℕ) → b ≡ a → same a b ≡ true
same-complete a b e =
    let s : starts a a ≡ true = subst (λ (l : List ℕ). starts a l ≡ true) (append-nil a) (starts-append a []) in
    rw (e, eq-eqb (length a) (length a) refl, s)

pub same-tells : (a b : List ℕ) → Decides (b ≡ a) (same a b)
same-tells a b = tells (same a b) (same-sound a b) (same-complete a b)

-- ---- a mark and a number

numbered-sound : (mark : List ℕ) (most : ℕ) (cmd : List ℕ) → is_marked_number mark most cmd ≡ true → MarkedNumber mark most cmd
unfolding is_marked_number
numbered-sound mark most cmd e =
    let n = guess 0 (drop (length mark) cmd) in
    let q = both_true (leb n most) (same (mark ++ decimal n) cmd) e in
    record { number = n; few = leb-true n most q.0; is = same-sound (mark ++ decimal n) cmd q.1 }

numbered-complete : (mark : List ℕ) (most : ℕ) (cmd : List ℕ) → MarkedNumber mark most cmd → is_marked_number mark most cmd ≡ true
unfolding is_marked_number
numbered-complete mark most cmd r =
    let k = r.number in
    let e : guess 0 (drop (length mark) cmd) ≡ k =
    ap (λ (l : List ℕ). guess 0 (drop (length mark) l)) r.is ∙ ap (guess 0) (drop-append_seam mark (decimal k)) ∙ guess-decimal k
    in
    rw (e, le-leb k most r.few) (same-complete (mark ++ decimal k) cmd r.is)

pub numbered-tells : (mark : List ℕ) (most : ℕ) (cmd : List ℕ) → Decides (MarkedNumber mark most cmd) (is_marked_number mark most cmd)
numbered-tells mark most cmd = tells (is_marked_number mark most cmd) (numbered-sound mark most cmd) (numbered-complete mark most cmd)

-- ---- one character of these

letter-sound : (letters val : List ℕ) → is_letter letters val ≡ true → Letter letters val
unfolding is_letter
letter-sound letters val e =
    let q = both_true (eqb (length val) 1) (one_of letters (get_or val 0 0)) e in
    record { letter = get_or val 0 0; one = subst T (sym q.1) tt; is = alone val (eqb-true _ 1 q.0) }
  where
    alone : (s : List ℕ) → length s ≡ 1 → s ≡ get_or s 0 0 ∷ []
    alone [] h = absurd (omega arith)
    alone (x ∷ []) h = refl
    alone (x ∷ y ∷ s) h = absurd (omega arith)

letter-complete : (letters val : List ℕ) → Letter letters val → is_letter letters val ≡ true
unfolding is_letter
letter-complete letters val r = rw r.is (T_true _ r.one)

pub letter-tells : (letters val : List ℕ) → Decides (Letter letters val) (is_letter letters val)
letter-tells letters val = tells (is_letter letters val) (letter-sound letters val) (letter-complete letters val)

-- ---- the four messages: their commands differ in the first character

numbered-first : (m : ℕ) (mark : List ℕ) (most : ℕ) (cmd : List ℕ) → is_marked_number (m ∷ mark) most cmd ≡ true → get_or cmd 0 0 ≡ m
numbered-first m mark most cmd e = ap (λ (l : List ℕ). get_or l 0 0) (numbered-sound (m ∷ mark) most cmd e).is

same_first : (m : ℕ) (rest cmd : List ℕ) → same (m ∷ rest) cmd ≡ true → get_or cmd 0 0 ≡ m
same_first m rest cmd e = ap (λ (l : List ℕ). get_or l 0 0) (same-sound (m ∷ rest) cmd e)

-- a test that asks for another first character fails
other-first : (t : Bool) (c m n : ℕ) → (t ≡ true → c ≡ m) → c ≡ n → (m ≡ n → ⊥) → t ≡ false
other-first true c m n f e apart = absurd (apart (sym (f refl) ∙ e))
other-first false c m n f e apart = refl

module _ (cmd : List ℕ) where
  no_output : (n : ℕ) → get_or cmd 0 0 ≡ n → (79 ≡ n → ⊥) → is_marked_number (ascii "O.") 9 cmd ≡ false
  no_output n e apart = other-first _ (get_or cmd 0 0) 79 n (numbered-first 79 (ascii ".") 9 cmd) e apart

  no-input : (n : ℕ) → get_or cmd 0 0 ≡ n → (73 ≡ n → ⊥) → is_marked_number (ascii "I.") 15 cmd ≡ false
  no-input n e apart = other-first _ (get_or cmd 0 0) 73 n (numbered-first 73 (ascii ".") 15 cmd) e apart

  no-shutter : (n : ℕ) → get_or cmd 0 0 ≡ n → (85 ≡ n → ⊥) → same (ascii "UD") cmd ≡ false
  no-shutter n e apart = other-first _ (get_or cmd 0 0) 85 n (same_first 85 (ascii "D") cmd) e apart

pub output-which : (w : Wire) → Limits (output w) → which_of w.cmd w.val ≡ Output
unfolding which_of
output-which w l =
    rw (numbered-complete (ascii "O.") 9 w.cmd l.cmd, letter-complete (ascii "01") w.val l.val)

pub input-which : (w : Wire) → Limits (input w) → which_of w.cmd w.val ≡ Input
unfolding which_of
input-which w l =
    let t = numbered-complete (ascii "I.") 15 w.cmd l.cmd in
    let e : get_or w.cmd 0 0 ≡ 73 = numbered-first 73 (ascii ".") 15 w.cmd t in
    rw (no_output w.cmd 73 e (λ x. omega arith), t, letter-complete (ascii "01") w.val l.val)

pub shutter-which : (w : Wire) → Limits (shutter w) → which_of w.cmd w.val ≡ Shutter
unfolding which_of
shutter-which w l =
    let t = same-complete (ascii "UD") w.cmd l.cmd in
    let e : get_or w.cmd 0 0 ≡ 85 = ap (λ (s : List ℕ). get_or s 0 0) l.cmd in
    rw (
      no_output w.cmd 85 e (λ x. omega arith),
      no-input w.cmd 85 e (λ x. omega arith),
      t,
      letter-complete (ascii "uds") w.val l.val,
    )

pub beat-which : (w : Wire) → Limits (beat w) → which_of w.cmd w.val ≡ Beat
unfolding which_of
beat-which w l =
    let t = same-complete (ascii "HB") w.cmd l.cmd in
    let e : get_or w.cmd 0 0 ≡ 72 = ap (λ (s : List ℕ). get_or s 0 0) l.cmd in
    rw (
      no_output w.cmd 72 e (λ x. omega arith),
      no-input w.cmd 72 e (λ x. omega arith),
      no-shutter w.cmd 72 e (λ x. omega arith),
      t,
      letter-complete (ascii "1") w.val l.val,
    )
