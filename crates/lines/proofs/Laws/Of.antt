-- What the writer of a message's line answers.
-- Assumes nothing.
use mathlib.Core.Bool.{false, true≢false}
use mathlib.Core.List.{List}
use mathlib.Core.Option.{Option}
use mathlib.Core.Path.{◌≡◌, refl, sym, ap, ap₂, ◌∙◌, subst}
use Prim.Native.Nat.{ℕ, ◌+◌, ◌≤◌, ◌<◌, min}
use native.Mathlib.Omega.{arith}
use lib.Dec.{lit<}
use lib.ListN.{length}
use lib.Seq.{sets}
use Rattle.std.specs.Prelude.{Ok, Err}
use Rattle.digits.specs.Paper.Refusals.{refusal_order, First, answers, refuses}
use Rattle.digits.specs.declared.refusal.Refusal.{Refusal}
use Rattle.digits.specs.declared.refusal.Refusal.TheVariants.{OutOfLimits}
use Rattle.digits.proofs.Laws.Refusals.{answered, cause-at, cause-of, some_number}
use Rattle.messages.specs.Paper.Allowed.{StandingCause, outside, taken, Allows}
use Rattle.messages.specs.Paper.Meant.{ContentWith, MeantCause, no-message as no-content, MessageWith, Means}
use Rattle.messages.specs.Paper.Message.{Message}
use Rattle.messages.specs.Paper.Says.{Says}
use Rattle.messages.specs.Paper.Table.{Above, Good}
use Rattle.messages.specs.declared.Message.{Message as Coded}
use Rattle.messages.specs.declared.Tag.{Tag}
use Rattle.messages.proofs.Laws.Meant.{one-content-with, says-with, meant-in}
use Rattle.messages.proofs.Laws.Says.{one-said}
use Rattle.messages.proofs.Laws.Table.{one-message}
use Rattle.puts.specs.Paper.Put.{largest_place, Put}
use Rattle.puts.specs.Paper.Wrote.{Written}
use Rattle.puts.proofs.Laws.Right.{ours, first-5, first-4, no-cause}
use Rattle.lines.specs.Paper.Answers.{LineSaid, SaidCause, no-message, short, PutSaid, WritesSaid, HasContent, PutContent, PutsContent}
use Rattle.sheet.specs.Paper.Sheet.{Lookup}
use Rattle.lines.specs.Paper.WithSheet.{line_with}
use Rattle.lines.specs.Work.Put.{put, AllOrNone, all, none}
use Rattle.lines.proofs.Laws.Next.{line-of-message}
use Rattle.lines.proofs.Laws.Said.{put-said}

-- ---- one line is said

-- no two messages of the table are said
abbrev pub OneSaid : (Message → Type 0) → Type 0
OneSaid IsSaid = (m n : Message) → Good m → Good n → IsSaid m → IsSaid n → m ≡ n

pub one-says : (e : Coded) (s : List ℕ) → OneSaid (Says e s)
one-says e s m n a b x y = one-said e s m n x y

pub one_has : (t : Tag) (p : List ℕ) → OneSaid (HasContent t p)
one_has t p m n a b x y = one-message m n a b (one-content-with t p m n a b x y)

module _ {sheet : Option Lookup} {IsSaid : Message → Type 0} (one : OneSaid IsSaid) {at len : ℕ} where
  pub one-line-said : (t u : List ℕ) → LineSaid sheet IsSaid at len t → LineSaid sheet IsSaid at len u → t ≡ u
  one-line-said t u a b = a.is ∙ ap (line_with sheet at len) (one a.message b.message a.good b.good a.said b.said) ∙ sym b.is

  -- and so one room has it
  pub one-put-said : {room : List ℕ} {to : ℕ} (u v : ℕ × List ℕ) → PutSaid sheet IsSaid at len room to u.0 u.1
      → PutSaid sheet IsSaid at len room to v.0 v.1 → u ≡ v
  one-put-said {room = room} {to = to} u v a b =
      let t : a.text ≡ b.text = one-line-said a.text b.text a.line b.line in
      ap₂ (λ (n : ℕ) (x : List ℕ). (n, x)) (a.size_is ∙ ap length t ∙ sym b.size_is) (a.room-is ∙ ap (sets room to) t ∙ sym b.room-is)

-- a line is put at one place and into one room
pub one-put-content : {sheet : Option Lookup} {t : Tag} {p : List ℕ} {at len : ℕ} {room : List ℕ} {to : ℕ} (u v : ℕ × List ℕ) → PutContent sheet t p at len room to u.0 u.1
    → PutContent sheet t p at len room to v.0 v.1 → u ≡ v
one-put-content {t = t} {p = p} {room = room} {to = to} u v a b =
    let e : a.text ≡ b.text = one-line-said (one_has t p) a.text b.text a.line b.line in
    ap₂ (λ (n : ℕ) (x : List ℕ). (n, x)) (a.put.behind ∙ ap (λ (x : List ℕ). min (to + length x) largest_place) e ∙ sym b.put.behind)
    (a.put.room-is ∙ ap (sets room to) e ∙ sym b.put.room-is)

-- ---- the causes

module _ {sheet : Option Lookup} {IsSaid : Message → Type 0} {at len left : ℕ} where
  only : (i : ℕ) → ours i ≡ false → SaidCause sheet IsSaid at len left i → ⊥
  only i h (no-message f) = true≢false h
  only i h (short l g) = true≢false h

  module _ {t : List ℕ} (l : LineSaid sheet IsSaid at len t) where
    message-there : SaidCause sheet IsSaid at len left 5 → ⊥
    message-there (no-message f) = f l.message l.good l.said

    enough : OneSaid IsSaid → length t ≤ left → First (SaidCause sheet IsSaid at len left) refusal_order 0
    enough one h = no-cause only message-there fits
      where
        fits : SaidCause sheet IsSaid at len left 4 → ⊥
        fits (short {t = u} o g) = let n : length u ≡ length t = ap length (one-line-said one u t o l) in omega arith

    too_few : left < length t → First (SaidCause sheet IsSaid at len left) refusal_order 4
    too_few h = first-4 only message-there (short l h)

-- a message that is refused is none of the table
none_said : (e : Coded) (s : List ℕ) {no : ℕ} → StandingCause (Says e s) no → (m : Message) → Good m → Says e s m → ⊥
none_said e s (outside f) m g x = f m x g.limits
none_said e s (taken {m = q} y a) m g x = g.free (subst Above (one-said e s q m y x) a)

-- ---- the answers

pub said-placed : {sheet : Option Lookup} {IsSaid : Message → Type 0} (one : OneSaid IsSaid) {at len : ℕ} {t room later : List ℕ} {to : ℕ} {w : Written} → LineSaid sheet IsSaid at len t
    → AllOrNone t room to w later → WritesSaid sheet IsSaid at len room to w later
said-placed one {t = t} {room = room} {to = to} l (all h) =
    answers {v = (length t, sets room to t)} (enough l one h) (record { text = t; line = l; size_is = refl; room-is = refl })
said-placed one l (none h) = refuses (lit< tt) (too_few l h)

-- of a message
module _ (e : Coded) (s : List ℕ) {at len : ℕ} where
  pub allowed-line : {sheet : Option Lookup} → Allows e s (Ok tt) → LineSaid sheet (Says e s) at len (put sheet e s at len)
  allowed-line a = let x = answered a refl in line-of-message e s x.2 x.1

  pub not-allowed : {sheet : Option Lookup} (why : Refusal) {room : List ℕ} {to : ℕ} → Allows e s (Err why) → WritesSaid sheet (Says e s) at len room to (Err OutOfLimits) room
  not-allowed why a = refuses (lit< tt) (first-5 only (no-message (none_said e s (cause-at (cause-of a) (some_number why)))))

-- of a content
module _ (t : Tag) (p : List ℕ) where
  module _ {e : Coded} (a : Means (ContentWith t p) (Ok e)) where
    meant : MessageWith (ContentWith t p) e
    meant = meant-in a

    -- its message is said with the payload beside it, and so its line is the one that is put
    beside : Says e p meant.message
    beside = says-with p e meant.message meant.says t meant.good meant.content

    meant-line : (sheet : Option Lookup) (at len : ℕ) → LineSaid sheet (HasContent t p) at len (put sheet e p at len)
    meant-line sheet at len =
        record { message = meant.message; good = meant.good; said = meant.content; is = put-said sheet e p at len meant.message meant.good.limits beside }

    pub meant-put : {sheet : Option Lookup} {at len : ℕ} {room later : List ℕ} {to behind : ℕ} → Put room later to behind (put sheet e p at len)
        → PutsContent sheet t p at len room to (Ok behind) later
    meant-put {sheet} {at} {len} {later = later} {behind = behind} x =
        answers {v = (behind, later)} (cause-of a) (record { text = put sheet e p at len; line = meant-line sheet at len; put = x })

  pub not-meant : {sheet : Option Lookup} {at len : ℕ} (why : Refusal) {room : List ℕ} {to : ℕ} → Means (ContentWith t p) (Err why) → PutsContent sheet t p at len room to (Err why) room
  not-meant why a = refuses (some_number why) (cause-of a)

  -- the one cause is 5
  pub meant-outside : {sheet : Option Lookup} {at len : ℕ} (why : Refusal) {room : List ℕ} {to : ℕ} → Means (ContentWith t p) (Err why) → PutsContent sheet t p at len room to (Err OutOfLimits) room
  meant-outside why a = refuses (lit< tt) (subst (First (MeantCause (ContentWith t p)) refusal_order) (is-5 (cause-at (cause-of a) (some_number why))) (cause-of a))
    where
      is-5 : {no : ℕ} → MeantCause (ContentWith t p) no → no ≡ 5
      is-5 (no-content f) = refl
