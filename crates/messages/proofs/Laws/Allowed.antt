-- What is answered of how a message stands.
-- Assumes nothing.
use mathlib.Core.Bool.{Bool, false, ◌||◌, true≢false}
use mathlib.Core.List.{List, []}
use mathlib.Core.Logic.{◌⊎◌, inl, inr, ⊎_elim}
use mathlib.Core.Path.{◌≡◌, refl, sym, ◌∙◌, ap, subst}
use Prim.Native.Nat.{ℕ, ◌<◌}
use native.Mathlib.Omega.{arith}
use lib.Dec.{eqb, lit<}
use Rattle.std.specs.Prelude.{Result, Ok, Err}
use Rattle.digits.proofs.Laws.Refusals.{one-first, one-refusal, some_number, cause-of, pass-over}
use Rattle.digits.specs.Paper.Read.{Decides, holds, fails}
use Rattle.digits.specs.Paper.Refusals.{refusal_order, First, Answers, clear, here, after, answers, refuses}
use Rattle.digits.specs.declared.refusal.Refusal.{Refusal}
use Rattle.digits.specs.declared.refusal.Refusal.TheVariants.{OutOfLimits, ContentAbove}
use Rattle.layouts.specs.Paper.Made.{Wire, Payload}
use Rattle.messages.specs.Paper.Allowed.{Allows, StandingCause, outside, taken, InTheTable, StandsSo}
use Rattle.messages.specs.Paper.Content as content
use Rattle.messages.specs.Paper.Homiq.{field_at}
use Rattle.messages.specs.Paper.Message.{Message, link, homiq, row}
use Rattle.messages.specs.Paper.Says.{of_nikobus, of_response, of_nibe, of_homiq, SaysNikobus, a-link, another, SaysHomiq}
use Rattle.messages.specs.Paper.Table.{content_of, Limits, Above}
use Rattle.messages.specs.Work.Answers.{Only, standing_of}
use Rattle.messages.specs.Work.Homiq.{which_of}
use Rattle.messages.specs.Work.Look.{look}
use Rattle.messages.specs.Work.Nikobus.{LinkDigits}
use Rattle.messages.specs.declared.Message.{Message as Coded}
use Rattle.messages.specs.declared.nest.Response.{Response}
use Rattle.messages.specs.declared.nest.Response.TheVariants.{Climate, State, Break, End, Text}
use Rattle.messages.specs.declared.nest.Response.TheVariants as response_cases
use Rattle.messages.specs.declared.nibe.Nibe.{Nibe}
use Rattle.messages.specs.declared.nibe.Nibe.TheVariants.{Ask, Reply, Put, Done}
use Rattle.messages.specs.declared.nibe.Nibe.TheVariants as nibe_cases
use Rattle.messages.specs.declared.homiq.Homiq.{Homiq}
use Rattle.messages.specs.declared.homiq.Homiq.TheVariants.{Output, Input, Shutter, Beat}
use Rattle.messages.specs.declared.homiq.Homiq.TheVariants as homiq_cases
use Rattle.messages.specs.declared.nikobus.Nikobus.{Nikobus}
use Rattle.messages.specs.declared.nikobus.Nikobus.TheVariants.{Read, Set, Answer, Press, Tail, Link}
use Rattle.digits.proofs.Laws.Hex.{hex-inj}
use Rattle.messages.proofs.Laws.Buses.{which-fields}
use Rattle.messages.proofs.Laws.HomiqFields.{one-wire}
use Rattle.messages.proofs.Laws.HomiqTests.{output-which, input-which, shutter-which, beat-which}
use Rattle.messages.proofs.Laws.Links.{is_link, no-link}
use Rattle.messages.proofs.Laws.Table.{reads, found, free, above_of}

-- ---- the first cause

abbrev ours : ℕ → Bool
ours k = eqb k 5 || eqb k 6

only : {Means : Message → Type 0} (k : ℕ) → ours k ≡ false → StandingCause Means k → ⊥
only k e (outside f) = true≢false e
only k e (taken s a) = true≢false e

-- ---- the answers

module _ {Means : Message → Type 0} where
  -- outside its limits, or no message at all
  pub is-outside : ((q : Message) → Means q → Limits q → ⊥) → StandsSo Means (Err OutOfLimits)
  is-outside f = refuses (lit< tt) (pass-over ours only refusal_order (here (outside f)))

  -- one message is meant
  module _ (m : Message) (meant : Means m) (one : (q : Message) → Means q → q ≡ m) (l : Limits m) where
    not-5 : StandingCause Means 5 → ⊥
    not-5 (outside f) = f m meant l

    pub is-good : look (content_of m) ≡ m → StandsSo Means (Ok tt)
    is-good e =
        answers {v = tt {0}} (pass-over ours only refusal_order (after not-5 (after not-6 clear))) (m, meant, record { limits = l; free = free m e })
      where
        not-6 : StandingCause Means 6 → ⊥
        not-6 (taken {m = q} s a) = free m e (subst Above (one q s) a)

    -- what is found for its content stands above it
    pub found-above : {q : Message} → q ≡ look (content_of m) → row q < row m → StandsSo Means (Err ContentAbove)
    found-above e h =
        refuses (lit< tt) (pass-over ours only refusal_order (after not-5 (here (taken meant (above_of m l (subst (λ (x : Message). row x < row m) e h))))))

    -- what is found does not stand above it: so it is found itself
    pub found-same : {q : Message} → q ≡ look (content_of m) → (row q < row m → ⊥) → StandsSo Means (Ok tt)
    found-same e h =
        is-good (⊎_elim {C = look (content_of m) ≡ m} (λ x. x) (λ x. absurd (h (subst (λ (y : Message). row y < row m) (sym e) x))) (found m l))

-- the same for a message that is named
module _ (m : Message) where
  the-only : (q : Message) → Only m q → q ≡ m
  the-only q e = e

  pub only-outside : (Limits m → ⊥) → StandsSo (Only m) (Err OutOfLimits)
  only-outside f = is-outside (λ q e l. f (subst Limits e l))

  module _ (l : Limits m) where
    pub only-good : look (content_of m) ≡ m → StandsSo (Only m) (Ok tt)
    only-good = is-good m refl the-only l

    pub only_above : {q : Message} → q ≡ look (content_of m) → row q < row m → StandsSo (Only m) (Err ContentAbove)
    only_above = found-above m refl the-only l

    pub only_same : {q : Message} → q ≡ look (content_of m) → (row q < row m → ⊥) → StandsSo (Only m) (Ok tt)
    only_same = found-same m refl the-only l

  -- its limits hold exactly where what is tested does, and no message above has its content
  module _ {P : Type 0} (within : P → Limits m) (back : Limits m → P) (own : Limits m → look (content_of m) ≡ m) where
    pub only_if : {hold : Bool} {r : Result (Unit {0}) Refusal} → Decides P hold → r ≡ standing_of hold → StandsSo (Only m) r
    only_if (holds p) e = subst (StandsSo (Only m)) (sym e) (only-good (within p) (own (within p)))
    only_if (fails f) e = subst (StandsSo (Only m)) (sym e) (only-outside (λ l. f (back l)))

-- ---- the same message, meant in other words

module _ {A B : Message → Type 0} (to : (m : Message) → A m → B m) (back : (m : Message) → B m → A m) where
  cause-as : (no : ℕ) → StandingCause A no → StandingCause B no
  cause-as i (outside f) = outside (λ m s. f m (back m s))
  cause-as i (taken {m = m} s a) = taken (to m s) a

module _ {A B : Message → Type 0} (to : (m : Message) → A m → B m) (back : (m : Message) → B m → A m) where
  first-as : (l : List ℕ) {no : ℕ} → First (StandingCause A) l no → First (StandingCause B) l no
  first-as _ clear = clear
  first-as _ (here c) = here (cause-as to back _ c)
  first-as _ (after n f) = after (λ c. n (cause-as back to _ c)) (first-as _ f)

  answer-as : {no : ℕ} {v : Unit {0}} → Answers (tt {0}) (StandingCause A) (InTheTable A) no v → Answers (tt {0}) (StandingCause B) (InTheTable B) no v
  answer-as (answers c x) = answers (first-as refusal_order c) (x.0, to x.0 x.1, x.2)
  answer-as (refuses p c) = refuses p (first-as refusal_order c)

  pub stands-as : (r : Result (Unit {0}) Refusal) → StandsSo A r → StandsSo B r
  stands-as r a = answer-as a

-- a Nikobus message that takes nothing from beside it
pub fixed-as : (e : Nikobus) (s : List ℕ) → (e ≡ Link → ⊥) → (r : Result (Unit {0}) Refusal) → StandsSo (Only (of_nikobus e [])) r → StandsSo (SaysNikobus e s) r
fixed-as e s n = stands-as (λ m h. another n h) back
  where
    back : (m : Message) → SaysNikobus e s m → m ≡ of_nikobus e []
    back m (a-link h l) = absurd (n h)
    back m (another h i) = i

-- ---- the code's messages, case by case

pub nikobus-as : {e : Nikobus} (f : Nikobus) (s : List ℕ) (r : Result (Unit {0}) Refusal) → e ≡ f → is_link f ≡ false → StandsSo (Only (of_nikobus f [])) r
    → StandsSo (SaysNikobus e s) r
nikobus-as f s r e n a = subst (λ (x : Nikobus). StandsSo (SaysNikobus x s) r) (sym e) (fixed-as f s (no-link f n) r a)

pub as-link : {e : Nikobus} (s : List ℕ) (r : Result (Unit {0}) Refusal) → e ≡ Link → StandsSo (SaysNikobus Link s) r → StandsSo (SaysNikobus e s) r
as-link s r e a = subst (λ (x : Nikobus). StandsSo (SaysNikobus x s) r) (sym e) a

pub response-as : {e : Response} (f : Response) (p : List ℕ) (r : Result (Unit {0}) Refusal) → e ≡ f → StandsSo (Only (of_response f p)) r → StandsSo (Only (of_response e p)) r
response-as f p r e a = subst (λ (x : Response). StandsSo (Only (of_response x p)) r) (sym e) a

pub nibe-as : {e : Nibe} (f : Nibe) (d : List ℕ) (r : Result (Unit {0}) Refusal) → e ≡ f → StandsSo (Only (of_nibe f d)) r → StandsSo (Only (of_nibe e d)) r
nibe-as f d r e a = subst (λ (x : Nibe). StandsSo (Only (of_nibe x d)) r) (sym e) a

pub allows-as : {e : Coded} (f : Coded) (s : List ℕ) (r : Result (Unit {0}) Refusal) → e ≡ f → Allows f s r → Allows e s r
allows-as f s r e a = subst (λ (x : Coded). Allows x s r) (sym e) a

-- ---- every message but the last of its bus stands above that, whatever stands beside it

pub above-link : (e : Nikobus) (p : List ℕ) → (e ≡ Link → ⊥) → row (of_nikobus e p) < 6
above-link (Read g a) p n = lit< tt
above-link (Set g a out) p n = lit< tt
above-link (Answer a third out) p n = lit< tt
above-link (Press six) p n = lit< tt
above-link Tail p n = lit< tt
above-link Link p n = absurd (n refl)

pub not-above-link : (e : Nikobus) (p : List ℕ) → e ≡ Link → row (of_nikobus e p) < 6 → ⊥
not-above-link e p q h = let k : row (of_nikobus e p) ≡ 6 = ap (λ (r : Nikobus). row (of_nikobus r p)) q in omega arith

pub above-response : (e : Response) (p : List ℕ) → ((i : ℕ) → e ≡ response_cases.Other i → ⊥) → row (of_response e p) < 13
above-response (Climate t h) p n = lit< tt
above-response State p n = lit< tt
above-response Break p n = lit< tt
above-response End p n = lit< tt
above-response (Text i) p n = lit< tt
above-response (response_cases.Other i) p n = absurd (n i refl)

pub above-text : (e : Response) (p : List ℕ) → ((i : ℕ) → e ≡ Text i → ⊥) → ((i : ℕ) → e ≡ response_cases.Other i → ⊥) → row (of_response e p) < 12
above-text (Climate t h) p n m = lit< tt
above-text State p n m = lit< tt
above-text Break p n m = lit< tt
above-text End p n m = lit< tt
above-text (Text i) p n m = absurd (n i refl)
above-text (response_cases.Other i) p n m = absurd (m i refl)

pub not-above-text : (e : Response) (p : List ℕ) → ((i : ℕ) × (e ≡ Text i)) ⊎ ((i : ℕ) × (e ≡ response_cases.Other i)) → row (of_response e p) < 12 → ⊥
not-above-text e p (inl x) h = let k : row (of_response e p) ≡ 12 = ap (λ (r : Response). row (of_response r p)) x.1 in omega arith
not-above-text e p (inr x) h = let k : row (of_response e p) ≡ 13 = ap (λ (r : Response). row (of_response r p)) x.1 in omega arith

pub above-nibe : (e : Nibe) (d : List ℕ) → ((c : ℕ) → e ≡ nibe_cases.Other c → ⊥) → row (of_nibe e d) < 18
above-nibe (Ask register) d n = lit< tt
above-nibe (Reply v) d n = lit< tt
above-nibe (Put v) d n = lit< tt
above-nibe (Done ok) d n = lit< tt
above-nibe (nibe_cases.Other command) d n = absurd (n command refl)

-- ---- a link

module _ {d : List ℕ} where
  pub no-digits : (LinkDigits d → ⊥) → StandsSo (SaysNikobus Link d) (Err OutOfLimits)
  no-digits f = is-outside go
    where
      go : (q : Message) → SaysNikobus Link d q → Limits q → ⊥
      go q (a-link h a) l = f (record { payload = a.payload; limits = subst Limits a.is l; is = a.digits })
      go q (another h i) l = h refl

  module _ (x : LinkDigits d) where
    abbrev own : Message
    own = link x.payload

    meant : SaysNikobus Link d own
    meant = a-link refl (record { payload = x.payload; bytes = x.limits.bytes; digits = x.is; is = refl })

    one : (q : Message) → SaysNikobus Link d q → q ≡ own
    one q (a-link h a) =
        a.is ∙ ap link (hex-inj a.payload x.payload a.bytes x.limits.bytes (sym a.digits ∙ x.is))
    one q (another h i) = absurd (h refl)

    pub link-above : {q : Message} → q ≡ look (content_of own) → row q < 6 → StandsSo (SaysNikobus Link d) (Err ContentAbove)
    link-above = found-above own meant one x.limits

    pub link-good : {q : Message} → q ≡ look (content_of own) → (row q < 6 → ⊥) → StandsSo (SaysNikobus Link d) (Ok tt)
    link-good = found-same own meant one x.limits

-- ---- Homiq

pub homiq-content : (e : Homiq) (w : Wire) → content_of (of_homiq e w) ≡ content.homiq w
unfolding content_of
homiq-content Output w = refl
homiq-content Input w = refl
homiq-content Shutter w = refl
homiq-content Beat w = refl
homiq-content homiq_cases.Other w = refl

-- a message but the last has its command and value
which-is : (e : Homiq) (w : Wire) → (e ≡ homiq_cases.Other → ⊥) → Limits (of_homiq e w) → which_of w.cmd w.val ≡ e
which-is Output w n l = output-which w l
which-is Input w n l = input-which w l
which-is Shutter w n l = shutter-which w l
which-is Beat w n l = beat-which w l
which-is homiq_cases.Other w n l = absurd (n refl)

rest-last : (e : Homiq) (w : Wire) → (e ≡ homiq_cases.Other → ⊥) → row (of_homiq e w) < row (homiq w)
rest-last Output w n = lit< tt
rest-last Input w n = lit< tt
rest-last Shutter w n = lit< tt
rest-last Beat w n = lit< tt
rest-last homiq_cases.Other w n = absurd (n refl)

module _ (e : Homiq) {s : List ℕ} where
  pub no_payload : ((w : Wire) × Payload s w → ⊥) → StandsSo (SaysHomiq e s) (Err OutOfLimits)
  no_payload f = is-outside (λ q a l. f (a.wire, a.payload))

  -- these are the fields, and d is the message that they are
  module _ {w : Wire} (pl : Payload s w) {d : Homiq} (g : d ≡ which_of (field_at 0 s) (field_at 1 s)) where
    which : d ≡ which_of w.cmd w.val
    which = which-fields pl g

    looked : of_homiq d w ≡ look (content_of (of_homiq e w))
    unfolding look
    looked = ap (λ (x : Homiq). of_homiq x w) which ∙ sym (ap look (homiq-content e w))

    homiq-meant : SaysHomiq e s (of_homiq e w)
    homiq-meant = record { wire = w; payload = pl; is = refl }

    homiq-one : (q : Message) → SaysHomiq e s q → q ≡ of_homiq e w
    homiq-one q a = a.is ∙ ap (of_homiq e) (one-wire a.payload pl)

    pub homiq-same : e ≡ d → StandsSo (SaysHomiq e s) (Ok tt)
    unfolding look
    homiq-same h =
        let k : d ≡ e = sym h in
        let l : Limits (of_homiq e w) = subst (λ (x : Homiq). Limits (of_homiq x w)) (sym which ∙ k) (reads (content.homiq w) pl.limits).limits in
        is-good (of_homiq e w) homiq-meant homiq-one l (sym looked ∙ ap (λ (x : Homiq). of_homiq x w) k)

    module _ (other : e ≡ d → ⊥) where
      pub homiq-above : e ≡ homiq_cases.Other → StandsSo (SaysHomiq e s) (Err ContentAbove)
      homiq-above r =
          let l : Limits (of_homiq e w) = subst (λ (x : Homiq). Limits (of_homiq x w)) (sym r) pl.limits in
          let above : row (of_homiq d w) < row (of_homiq e w) =
          subst (λ (x : Homiq). row (of_homiq d w) < row (of_homiq x w)) (sym r) (rest-last d w (λ q. other (r ∙ sym q))) in
          found-above (of_homiq e w) homiq-meant homiq-one l looked above

      pub homiq-other : (e ≡ homiq_cases.Other → ⊥) → StandsSo (SaysHomiq e s) (Err OutOfLimits)
      homiq-other h =
          is-outside λ q a l.
          let k : which_of w.cmd w.val ≡ e = which-is e w h (subst Limits (homiq-one q a) l) in
          other (sym (which ∙ k))

-- ---- one answer

pub one-standing : {Means : Message → Type 0} (r q : Result (Unit {0}) Refusal) → StandsSo Means r → StandsSo Means q → r ≡ q
one-standing (Ok u) (Ok v) a b = refl
one-standing (Ok u) (Err why) a b = let e = one-first (cause-of a) (cause-of b) in absurd (omega (arith, some_number why))
one-standing (Err why) (Ok u) a b = let e = one-first (cause-of a) (cause-of b) in absurd (omega (arith, some_number why))
one-standing (Err why) (Err other) a b = ap Err (one-refusal why other (one-first (cause-of a) (cause-of b)))
