-- The answers of `read` and `encode`, from the draft of the text.
-- Assumes nothing.
use mathlib.Core.Bool.{Bool, true, false, ◌||◌, true≢false}
use mathlib.Core.List.{List, ◌++◌}
use mathlib.Core.Path.{◌≡◌, refl, sym, ap, ◌∙◌, subst}
use Prim.Native.Nat.{ℕ, ◌≤◌}
use native.Mathlib.Omega.{arith}
use lib.Dec.{T, eqb, lit<}
use borrow.Author.Tests.{ne_eqb}
use lib.IntN.{nat_abs}
use lib.ListN.{length, drop}
use Rattle.std.specs.Prelude.{Result, Ok, Err}
use Rattle.digits.proofs.Laws.Refusals.{one-first, cause-at, cause-of, pass-over, some_number}
use Rattle.digits.proofs.Laws.Parts.{part-front}
use Rattle.digits.proofs.Laws.Tests.{T_true}
use Rattle.digits.specs.Paper.Bytes.{part}
use Rattle.digits.specs.Paper.LowFirst.{Width}
use Rattle.digits.specs.Paper.Refusals.{refusal_number, refusal_order, First, clear, here, after, answers, refuses}
use Rattle.digits.specs.declared.refusal.Refusal.{Refusal}
use Rattle.digits.specs.declared.refusal.Refusal.TheVariants.{OutOfLimits}
use Rattle.frames.specs.Paper.Kinds.{known, number_of}
use Rattle.layouts.specs.Paper.Chars.{one_of}
use Rattle.puts.specs.Paper.Right.{WroteRight, wrote, refused}
use Rattle.puts.specs.Paper.Wrote.{Written}
use Rattle.messages.specs.Paper.Allowed.{StandingCause, Allows}
use Rattle.messages.specs.Paper.Allowed as allowing
use Rattle.commands.proofs.Laws.Kinds.{said-kind}
use Rattle.messages.specs.Paper.Content.{kind_of}
use Rattle.messages.specs.Paper.Message.{Message, row}
use Rattle.messages.specs.Paper.Says.{Says, kind_in}
use Rattle.messages.specs.Paper.Table.{content_of, Limits, Above, Good, HasWidth, in-reply, in-put}
use Rattle.messages.specs.declared.Message.{Message as Coded}
use Rattle.commands.specs.Paper.Answers.{MessageCause, outside, taken, short, EncodeCause, no_kind, no-width, other-kind, by-message, MeantBytes}
use Rattle.jsontext.specs.Paper.Names.{InGrammar}
use Rattle.asked.specs.Paper.Answers.{AskedCause, ReadCause, EncodesAsked, ReadsAsked, zero_asked, beside}
use Rattle.asked.specs.Paper.Answers as paper
use Rattle.shapes.specs.Paper.Fields.{Field}
use Rattle.asked.specs.Paper.Means.{Fills, Means}
use Rattle.shapes.specs.Paper.Shapes.{shape_at, a-number}
use Rattle.asked.specs.Work.Draft.{DraftsText, Filled, Said, Hands, HandsAllowed, Frames}
use Rattle.asked.specs.Work.Draft as draft
use Rattle.asked.specs.Work.Got.{number_in}
use Rattle.asked.specs.declared.Asked.{Asked}
use Rattle.asked.specs.declared.Drafted.{Drafted}
use Rattle.asked.proofs.Laws.Lift.{head-has, one_in}
use Rattle.shapes.proofs.Laws.Rows.{each_row}
use Rattle.asked.proofs.Laws.OneMeaning.{one-meaning}
use Rattle.shapes.proofs.Laws.Picked.{mapped}
use Rattle.asked.proofs.Laws.Rebuilt.{shape-kind}

-- ---- the first cause

abbrev pub ours : ℕ → Bool
ours k = eqb k 11 || (eqb k 12 || (eqb k 5 || (eqb k 6 || eqb k 4)))

-- the causes of a message: only 5, 6 and 4, and 5 if no message within its limits is meant
pub record Causes (s : List ℕ) (Cause : ℕ → Type 0) : Type 0 where
  pub only : (k : ℕ) → ours k ≡ false → Cause k → ⊥
  pub not-11 : Cause 11 → ⊥
  pub not-12 : Cause 12 → ⊥
  pub five : ((m : Message) → Means s m → Limits m → ⊥) → Cause 5

module _ {s : List ℕ} {Cause : ℕ → Type 0} (causes : Causes s Cause) where
  only-asked : (k : ℕ) → ours k ≡ false → AskedCause s Cause k → ⊥
  only-asked k e (paper.not-json n) = true≢false e
  only-asked k e (paper.no-message n) = true≢false e
  only-asked k e (paper.by-message x) = causes.only k e x

  pub no-11 : InGrammar s → AskedCause s Cause 11 → ⊥
  no-11 g (paper.not-json n) = n g
  no-11 g (paper.by-message x) = causes.not-11 x

  pub no-12 : {r : ℕ} → Filled s r → AskedCause s Cause 12 → ⊥
  no-12 {r} f (paper.no-message n) = n r f.fields f.fills
  no-12 f (paper.by-message x) = causes.not-12 x

  pub first-11 : (InGrammar s → ⊥) → First (AskedCause s Cause) refusal_order 11
  first-11 n = pass-over ours only-asked refusal_order (here (paper.not-json n))

  pub first-12 : InGrammar s → ((r : ℕ) (fs : List Field) → Fills s r fs → ⊥) → First (AskedCause s Cause) refusal_order 12
  first-12 g n = pass-over ours only-asked refusal_order (after (no-11 g) (here (paper.no-message n)))

  -- a text that is refused by its draft
  pub refused-first : {content : List ℕ} {why : Refusal} → DraftsText s content (Err why) → First (AskedCause s Cause) refusal_order (refusal_number why)
  refused-first (draft.outside g f x) =
      pass-over ours only-asked refusal_order (after (no-11 g) (after (no-12 f) (here (paper.by-message (causes.five x)))))
  refused-first (draft.none g x) = first-12 g x
  refused-first (draft.not-json x) = first-11 x

  -- one that is not, by the causes of its message
  five-of : AskedCause s Cause 5 → Cause 5
  five-of (paper.by-message x) = x

  six-of : AskedCause s Cause 6 → Cause 6
  six-of (paper.by-message x) = x

  four-of : AskedCause s Cause 4 → Cause 4
  four-of (paper.by-message x) = x

  module _ {r : ℕ} (g : InGrammar s) (f : Filled s r) where
    pub first-5 : Cause 5 → First (AskedCause s Cause) refusal_order 5
    first-5 x = pass-over ours only-asked refusal_order (after (no-11 g) (after (no-12 f) (here (paper.by-message x))))

    pub first-6 : (Cause 5 → ⊥) → Cause 6 → First (AskedCause s Cause) refusal_order 6
    first-6 n x = pass-over ours only-asked refusal_order (after (no-11 g) (after (no-12 f) (after (λ y. n (five-of y)) (here (paper.by-message x)))))

    pub first-4 : (Cause 5 → ⊥) → (Cause 6 → ⊥) → Cause 4 → First (AskedCause s Cause) refusal_order 4
    first-4 n m x =
        pass-over ours only-asked refusal_order
        (after (no-11 g) (after (no-12 f) (after (λ y. n (five-of y)) (after (λ y. m (six-of y)) (here (paper.by-message x))))))

    pub first-0 : (Cause 5 → ⊥) → (Cause 6 → ⊥) → (Cause 4 → ⊥) → First (AskedCause s Cause) refusal_order 0
    first-0 n m k =
        pass-over ours only-asked refusal_order
        (after (no-11 g) (after (no-12 f) (after (λ y. n (five-of y)) (after (λ y. m (six-of y)) (after (λ y. k (four-of y)) clear)))))

-- ---- the causes of encoding, and of reading

pub encode-causes : (s : List ℕ) (n : ℕ) → Causes s (MessageCause (Means s) n)
encode-causes s n = record { only = by; not-11 = λ x. elim x [ ]; not-12 = λ x. elim x [ ]; five = outside }
  where
    by : (k : ℕ) → ours k ≡ false → MessageCause (Means s) n k → ⊥
    by k e (outside f) = true≢false e
    by k e (taken a b) = true≢false e
    by k e (short a b) = true≢false e

standing-only : {M : Message → Type 0} (k : ℕ) → ours k ≡ false → StandingCause M k → ⊥
standing-only k e (allowing.outside f) = true≢false e
standing-only k e (allowing.taken a b) = true≢false e

pub read-causes : (s : List ℕ) (n : ℕ) → Causes s (ReadCause s n)
read-causes s n = record { only = by; not-11 = n-11; not-12 = n-12; five = λ f. paper.standing (allowing.outside f) }
  where
    by : (k : ℕ) → ours k ≡ false → ReadCause s n k → ⊥
    by k e (paper.standing x) = standing-only k e x
    by k e (paper.short m a b) = true≢false e

    n-11 : ReadCause s n 11 → ⊥
    n-11 (paper.standing x) = elim x [ ]

    n-12 : ReadCause s n 12 → ⊥
    n-12 (paper.standing x) = elim x [ ]

-- ---- REFUSED by its draft

module _ {s content room : List ℕ} {why : Refusal} (x : DraftsText s content (Err why)) where
  pub not-encoded : EncodesAsked s room (Err why) room
  not-encoded = refused (some_number why) (refused-first (encode-causes s (length room)) x)

  pub not-read : ReadsAsked s room (Err why) room
  not-read = refuses (some_number why) (refused-first (read-causes s (length room)) x)

-- ---- a text that is not refused by its draft

pub record Ready (s c : List ℕ) (r : ℕ) (e : Coded) : Type 0 where
  pub grammar : InGrammar s
  pub filled : Filled s r
  pub some : Said e c
  pub from : (m : Message) → Says e c m → Means s m
  pub stands : (m : Message) → Says e c m → beside m ≡ c

module _ {s content : List ℕ} {d : Drafted} (x : DraftsText s content (Ok d)) where
  pub ready : Ready s (part 0 d.draft.len content) d.row d.draft.message
  ready = by x
    where
      by : DraftsText s content (Ok d) → Ready s (part 0 d.draft.len content) d.row d.draft.message
      by (draft.is g f y) =
          subst (λ (c : List ℕ). Ready s c d.row d.draft.message) (sym (part-front d.draft.len content))
          (record { grammar = g; filled = f; some = y.some; from = y.from; stands = y.stands })

  -- the row is one of the table
  pub row_of : (1 ≤ d.row) × (d.row ≤ 23)
  row_of = by x
    where
      by : DraftsText s content (Ok d) → (1 ≤ d.row) × (d.row ≤ 23)
      by (draft.is g f y) = (f.fills.low, f.fills.high)

  -- what stands beside it is a part of the content
  pub inside : d.draft.len ≤ length content
  inside = by x
    where
      by : DraftsText s content (Ok d) → d.draft.len ≤ length content
      by (draft.is g f y) = y.within

-- whatever it means is said
said : {s c : List ℕ} {r : ℕ} {e : Coded} → Ready s c r e → (m : Message) → Means s m → Says e c m
said {s} {c} {r} {e} y m k = subst (Says e c) (one-meaning s y.some.message m (y.from _ y.some.says) k) y.some.says

same_kind : {s c : List ℕ} {r : ℕ} {e : Coded} → Ready s c r e → (m : Message) → Means s m → (shape_at (row m)).kind ≡ (shape_at r).kind
same_kind y m k = ap (λ (f : Field). nat_abs (number_in f)) (one_in a-number a-number (head-has k.each) (head-has y.filled.fills.object.each))

kind-in : {s c : List ℕ} {r : ℕ} {e : Coded} → Ready s c r e → number_of (kind_in e) ≡ (shape_at r).kind
kind-in {c = c} {e = e} y =
    let m : Message = y.some.message in
    let a : number_of (kind_of (content_of m)) ≡ number_of (kind_in e) = ap number_of (said-kind e c m y.some.says) in
    sym a ∙ sym (shape-kind m) ∙ same_kind y m (y.from m y.some.says)

pub known-kind : (r : ℕ) → 1 ≤ r → r ≤ 23 → known (shape_at r).kind ≡ true
unfolding known one_of
known-kind r l h =
    let t : T (eqb r 0 || known (shape_at r).kind) = each_row (λ i. eqb i 0 || known (shape_at i).kind) tt r h in
    T_true _ (rw (ne_eqb r 0 (λ z. omega arith)) at t)

-- ---- encode

to-said : {s c : List ℕ} {r n k : ℕ} {e : Coded} → Ready s c r e → MessageCause (Means s) n k → MessageCause (Says e c) n k
to-said y (outside h) = outside (λ m z. h m (y.from m z))
to-said y (taken {m = m} a b) = taken (said y m a) b
to-said y (short {m = m} a b) = short (said y m a) b

to-meant : {s c : List ℕ} {r n k : ℕ} {e : Coded} → Ready s c r e → MessageCause (Says e c) n k → MessageCause (Means s) n k
to-meant y (outside h) = outside (λ m z. h m (said y m z))
to-meant y (taken {m = m} a b) = taken (y.from m a) b
to-meant y (short {m = m} a b) = short (y.from m a) b

module _ {s c : List ℕ} {r : ℕ} {e : Coded} (y : Ready s c r e) {n : ℕ} where
  to-encode : (k : ℕ) → AskedCause s (MessageCause (Means s) n) k → EncodeCause (shape_at r).kind e c n k
  to-encode k (paper.not-json h) = absurd (h y.grammar)
  to-encode k (paper.no-message h) = absurd (h r y.filled.fields y.filled.fills)
  to-encode k (paper.by-message x) = by-message (to-said y x)

  to-asked : {k : ℕ} → (k ≡ 7 → ⊥) → EncodeCause (shape_at r).kind e c n k → AskedCause s (MessageCause (Means s) n) k
  to-asked h (no_kind z) = absurd (true≢false (sym (known-kind r y.filled.fills.low y.filled.fills.high) ∙ z))
  to-asked h (no-width a b w) = absurd (h refl)
  to-asked h (other-kind z) = absurd (z (kind-in y))
  to-asked h (by-message x) = paper.by-message (to-meant y x)

meant-bytes : {s c : List ℕ} {r : ℕ} {e : Coded} → Ready s c r e → {bs : List ℕ} → MeantBytes (Says e c) bs → MeantBytes (Means s) bs
meant-bytes y x = record { message = x.message; meant = y.from _ x.meant; good = x.good; is = x.is }

-- a message whose width is none is not within its limits
no-limits : {m : Message} {w : ℕ} → HasWidth m w → (Width w → ⊥) → Limits m → ⊥
no-limits (in-reply i) n l = n (subst Limits i l).1.known
no-limits (in-put i) n l = n (subst Limits i l).1.known

module _ {s c : List ℕ} {r : ℕ} {e : Coded} (y : Ready s c r e) (room : List ℕ) where
  encoded : {no i : ℕ} {l : List ℕ} → WroteRight (EncodeCause (shape_at r).kind e c (length room)) (MeantBytes (Says e c)) room no i l → (no ≡ 7 → ⊥)
      → WroteRight (AskedCause s (MessageCause (Means s) (length room))) (MeantBytes (Means s)) room no i l
  encoded (wrote f x) h = wrote (mapped (to-encode y) (to-asked y h) f) (meant-bytes y x)
  encoded (refused p f) h = refused p (mapped (to-encode y) (to-asked y h) f)

  width-outside : {k : ℕ} → EncodeCause (shape_at r).kind e c (length room) k → k ≡ 7 → (m : Message) → Means s m → Limits m → ⊥
  width-outside (no_kind z) h m k l = omega (arith, h)
  width-outside (no-width {m = w} a b z) h m k l = no-limits b z (subst Limits (one-meaning s m w k (y.from w a)) l)
  width-outside (other-kind z) h m k l = omega (arith, h)
  width-outside (by-message x) h m k l = seven x h
    where
      seven : {k : ℕ} → MessageCause (Says e c) (length room) k → k ≡ 7 → ⊥
      seven (outside f) h = omega (arith, h)
      seven (taken a b) h = omega (arith, h)
      seven (short a b) h = omega (arith, h)

  no-frame : {no i : ℕ} {l : List ℕ} → WroteRight (EncodeCause (shape_at r).kind e c (length room)) (MeantBytes (Says e c)) room no i l → no ≡ 7
      → EncodesAsked s room (Err OutOfLimits) l
  no-frame (wrote f x) h = absurd (omega (arith, h))
  no-frame (refused p f) h =
      refused (lit< tt) (first-5 (encode-causes s (length room)) y.grammar y.filled (outside (width-outside (cause-at f p) h)))

  -- ENCODED
  pub asked-encoded : {w : Written} {l : List ℕ} → Frames (shape_at r).kind e c room w l → EncodesAsked s room w l
  asked-encoded (draft.as-encoded x h) = encoded x h
  asked-encoded (draft.no-width x) = no-frame x refl

-- ---- read

standing-first : {M : Message → Type 0} (f : First (StandingCause M) refusal_order 6) → StandingCause M 5 → ⊥
standing-first {M} f x = let h : ◌≡◌ {A = ℕ} 5 6 = one-first (pass-over two only refusal_order (here x)) f in omega (arith, h)
  where
    two : ℕ → Bool
    two k = eqb k 5 || eqb k 6

    only : (k : ℕ) → two k ≡ false → StandingCause M k → ⊥
    only k e (allowing.outside g) = true≢false e
    only k e (allowing.taken a b) = true≢false e

module _ {s c : List ℕ} {r : ℕ} {e : Coded} (y : Ready s c r e) (room : List ℕ) where
  -- the causes of a message of the table
  module _ (m : Message) (says : Says e c m) (good : Good m) where
    same : (k : Message) → Means s k → k ≡ m
    same k z = one-meaning s k m z (y.from m says)

    none-5 : ReadCause s (length room) 5 → ⊥
    none-5 (paper.standing (allowing.outside f)) = f m (y.from m says) good.limits

    none-6 : ReadCause s (length room) 6 → ⊥
    none-6 (paper.standing (allowing.taken {m = k} a b)) = good.free (subst Above (same k a) b)

    none-4 : length c ≤ length room → ReadCause s (length room) 4 → ⊥
    none-4 h (paper.short k a b) =
        let l : length (beside k) ≡ length c = ap (λ (i : Message). length (beside i)) (same k a) ∙ ap length (y.stands m says) in omega (arith, h, b, l)
    none-4 h (paper.standing x) = elim x [ ]

    handed : {q : Result Asked Refusal} {l : List ℕ} → Hands (shape_at r).kind e c room q l → ReadsAsked s room q l
    handed (draft.all h) =
        let b : beside m ≡ c = y.stands m says in
        answers (first-0 (read-causes s (length room)) y.grammar y.filled none-5 none-6 (none-4 h))
        (record {
          meant = m;
          means = y.from m says;
          good = good;
          coded = e;
          says = subst (λ (i : List ℕ). Says e i m) (sym b) says;
          kind-is = sym (same_kind y m (y.from m says));
          message-is = refl;
          len_is = ap length (sym b);
          room-is = ap (λ (i : List ℕ). i ++ drop (length i) room) (sym b);
        })
    handed (draft.short h) =
        let l : length (beside m) ≡ length c = ap length (y.stands m says) in
        refuses (lit< tt)
        (first-4 (read-causes s (length room)) y.grammar y.filled none-5 none-6 (paper.short m (y.from m says) (omega (arith, h, l))))

  not-allowed : {k : ℕ} → StandingCause (Says e c) k → First (StandingCause (Says e c)) refusal_order k
      → First (AskedCause s (ReadCause s (length room))) refusal_order k
  not-allowed (allowing.outside f) h =
      first-5 (read-causes s (length room)) y.grammar y.filled (paper.standing (allowing.outside (λ m a. f m (said y m a))))
  not-allowed (allowing.taken {m = m} a b) h =
      first-6 (read-causes s (length room)) y.grammar y.filled (λ z. standing-first h (five z)) (paper.standing (allowing.taken (y.from m a) b))
    where
      five : ReadCause s (length room) 5 → StandingCause (Says e c) 5
      five (paper.standing (allowing.outside f)) = allowing.outside (λ m a. f m (y.from m a))

  -- READ
  pub asked-read : {q : Result Asked Refusal} {l : List ℕ} → HandsAllowed (shape_at r).kind e c room q l → ReadsAsked s room q l
  asked-read (draft.good {m = m} says good h) = handed m says good h
  asked-read (draft.refused {why = why} x) =
      let f = cause-of x in
      refuses (some_number why) (not-allowed (cause-at f (some_number why)) f)
