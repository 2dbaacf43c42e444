-- What the functions that answer the message of a content answer, and that they answer one only.
-- Assumes nothing.
use mathlib.Core.Bool.{Bool, false, true≢false}
use mathlib.Core.List.{List}
use mathlib.Core.Option.{some}
use mathlib.Core.Path.{◌≡◌, refl, sym, ◌∙◌, ap, subst}
use Prim.Native.Nat.{ℕ, ◌≤◌, ◌<◌}
use native.Mathlib.Omega.{arith}
use lib.Dec.{T, eqb, lit<}
use lib.ListN.{length}
use Rattle.std.specs.Prelude.{Result, Ok, Err}
use Rattle.digits.proofs.Laws.Hex.{hex-inj}
use Rattle.digits.proofs.Laws.Refusals.{answered, cause-of, one-first, one-refusal, pass-over, some_number}
use Rattle.digits.specs.Paper.Bytes.{Bytes}
use Rattle.digits.specs.Paper.Refusals.{refusal_order, clear, here, after, answers, refuses}
use Rattle.digits.specs.declared.refusal.Refusal.{Refusal}
use Rattle.digits.specs.declared.refusal.Refusal.TheVariants.{OutOfLimits}
use Rattle.digits.specs.Paper.Hex.{hex_bytes}
use Rattle.layouts.proofs.Laws.Made.{link-fit, nest-fit, nibe-fit, press-said}
use Rattle.layouts.specs.Paper.Chars.{all, is_hex, one_of}
use Rattle.layouts.specs.Paper.Made.{link_of, nibe_of, Wire, Payload}
use Rattle.layouts.specs.Paper.Nibe as nibes
use Rattle.layouts.specs.Paper.Nibe.{commands}
use Rattle.layouts.specs.Paper.Nikobus as nikobuses
use Rattle.messages.specs.Paper.Content.{Content, payload_in}
use Rattle.messages.specs.Paper.Content as content
use Rattle.messages.specs.Paper.Meant.{LinkWith, PressWith, CommandWith, ResponseWith, NibeWith, HomiqWith, ContentWith, MeantCause, no-message, MessageWith, Means}
use Rattle.messages.specs.Paper.Homiq.{field_at}
use Rattle.messages.specs.Paper.Message.{Message, press, tail}
use Rattle.messages.specs.Paper.Says.{six, of_response, of_nibe, another, SaysHomiq, Says}
use Rattle.messages.specs.Paper.Table.{content_of, Good}
use Rattle.messages.specs.Work.Content.{Fit}
use Rattle.messages.specs.Work.Homiq.{which_of}
use Rattle.messages.specs.Work.Look.{look_response, look_nibe, look_homiq, look}
use Rattle.messages.specs.Work.Nikobus.{LinkDigits, LinkSaid}
use Rattle.messages.specs.declared.Message.{Message as Coded}
use Rattle.messages.specs.declared.Message.TheVariants.{Nikobus as OnNikobus, Command as OfCommand, Response as OfResponse, Nibe as OnNibe, Homiq as OnHomiq}
use Rattle.messages.specs.declared.Tag.{Tag}
use Rattle.messages.specs.declared.Tag.TheVariants as tag
use Rattle.messages.specs.declared.homiq.Homiq.{Homiq}
use Rattle.messages.specs.declared.nest.Response.{Response as Responded}
use Rattle.messages.specs.declared.nibe.Nibe.{Nibe}
use Rattle.messages.specs.declared.nikobus.Nikobus.{Nikobus}
use Rattle.messages.specs.declared.nikobus.Nikobus.TheVariants.{Press, Tail}
use Rattle.messages.specs.declared.nikobus.Six.{Six}
use Rattle.messages.proofs.Laws.Buses.{homiq-says}
use Rattle.messages.proofs.Laws.HomiqFields.{one-wire}
use Rattle.messages.proofs.Laws.Links.{says_of, no-link}
use Rattle.messages.proofs.Laws.Says.{one-case}
use Rattle.messages.proofs.Laws.Table.{reads, fit, good, one-message}

-- ---- the answers

same_some : {d e : Coded} → some e ≡ some d → d ≡ e
same_some q = cc

abbrev ours : ℕ → Bool
ours k = eqb k 5

module _ {With : Content → Type 0} where
  only : (k : ℕ) → ours k ≡ false → MeantCause With k → ⊥
  only k e (no-message f) = true≢false e

  -- a content within its limits has the message that is found for it
  pub is-meant : (c : Content) → Fit c → With c → {e : Coded} → Says e (payload_in c) (look c) → Means With (Ok e)
  is-meant c f w {e} s =
      let same : content_of (look c) ≡ c = (reads c f).same in
      let m : MessageWith With e =
      record { message = look c; good = good c f; content = subst With (sym same) w; says = subst (λ (p : List ℕ). Says e p (look c)) (ap payload_in (sym same)) s } in
      answers {v = some e} (pass-over ours only refusal_order (after (never m) clear)) (record { coded = e; is = refl; right = m })
    where
      never : {d : Coded} → MessageWith With d → MeantCause With 5 → ⊥
      never m (no-message g) = g m.message m.good m.content

  -- and one outside them has none
  pub not-meant : ((c : Content) → With c → Fit c → ⊥) → Means With (Err OutOfLimits)
  not-meant g = refuses (lit< tt) (pass-over ours only refusal_order (here (no-message (λ m a w. g (content_of m) w (fit m a.limits)))))

  -- ---- one only

  pub meant-in : {e : Coded} → Means With (Ok e) → MessageWith With e
  meant-in a = let v = answered a refl in subst (MessageWith With) (same_some v.is) v.right

  pub one-meant : ((m n : Message) → Good m → Good n → With (content_of m) → With (content_of n) → content_of m ≡ content_of n)
      → (r q : Result Coded Refusal) → Means With r → Means With q → r ≡ q
  one-meant one (Ok d) (Ok e) a b =
      let x = meant-in a in
      let y = meant-in b in
      let m : x.message ≡ y.message = one-message x.message y.message x.good y.good (one x.message y.message x.good y.good x.content y.content) in
      let p = payload_in (content_of x.message) in
      ap Ok (one-case d e p (payload_in (content_of y.message)) y.message (subst (Says d p) m x.says) y.says)
  one-meant one (Ok d) (Err why) a b = let e = one-first (cause-of a) (cause-of b) in absurd (omega (arith, some_number why))
  one-meant one (Err why) (Ok d) a b = let e = one-first (cause-of a) (cause-of b) in absurd (omega (arith, some_number why))
  one-meant one (Err why) (Err other) a b = ap Err (one-refusal why other (one-first (cause-of a) (cause-of b)))

-- ---- the same parts are the same content

link-bytes : {p : List ℕ} → Fit (content.link p) → Bytes p
link-bytes (nikobuses.link-limits a b c d e) = c

link-within : {d : List ℕ} {m : Message} → Good m → (x : LinkWith d (content_of m)) → Bytes x.payload
link-within {m = m} g x = link-bytes (subst Fit x.is (fit m g.limits))

pub one_link : {d : List ℕ} (m n : Message) → Good m → Good n → LinkWith d (content_of m) → LinkWith d (content_of n) → content_of m ≡ content_of n
one_link m n a b x y =
    x.is ∙ ap content.link (hex-inj x.payload y.payload (link-within a x) (link-within b y) (sym x.digits ∙ y.digits)) ∙ sym y.is

pub one-homiq : {p : List ℕ} (m n : Message) → Good m → Good n → HomiqWith p (content_of m) → HomiqWith p (content_of n) → content_of m ≡ content_of n
one-homiq m n a b x y = x.is ∙ ap content.homiq (one-wire x.payload y.payload) ∙ sym y.is

pub one-equal : {c : Content} (m n : Message) → Good m → Good n → content_of m ≡ c → content_of n ≡ c → content_of m ≡ content_of n
one-equal m n a b x y = x ∙ sym y

pub one-content-with : (t : Tag) (p : List ℕ) (m n : Message) → Good m → Good n → ContentWith t p (content_of m) → ContentWith t p (content_of n)
    → content_of m ≡ content_of n
one-content-with tag.Link p = one_link
one-content-with tag.Press p = one-equal
one-content-with tag.Tail p = one-equal
one-content-with (tag.Command i) p = one-equal
one-content-with (tag.Response i) p = one-equal
one-content-with (tag.Nibe command) p = one-equal
one-content-with tag.Homiq p = one-homiq

-- ---- each of them

pub tail-meant : Means (λ c. c ≡ content.tail) (Ok (OnNikobus Tail))
unfolding look
tail-meant = is-meant content.tail nikobuses.tail-limits refl {e = OnNikobus Tail} (another (no-link Tail refl) refl)

module _ {d : List ℕ} where
  digits_of : {c : Content} → (x : LinkWith d c) → Fit c → LinkDigits d
  digits_of x f = go (subst Fit x.is f)
    where
      go : nikobuses.Limits (link_of x.payload) → LinkDigits d
      go (nikobuses.link-limits a b c e g) = record { payload = x.payload; limits = record { enough = a; short = b; bytes = c }; is = x.digits }

  pub link-not-meant : (LinkDigits d → ⊥) → Means (LinkWith d) (Err OutOfLimits)
  link-not-meant n = not-meant (λ c x f. n (digits_of x f))

  pub link-meant : {e : Nikobus} → LinkSaid d e → Means (LinkWith d) (Ok (OnNikobus e))
  unfolding look
  link-meant {e} s =
      let l = s.link in
      let p = l.payload in
      is-meant (content.link p) (link-fit p l.limits.enough l.limits.short l.limits.bytes) (record { payload = p; is = refl; digits = l.is })
      {e = OnNikobus e} (says_of e p (hex_bytes p) l.limits.bytes refl s.says)

  pub press-not-meant : ((length d ≡ 6) × T (all is_hex d) → ⊥) → Means (PressWith d) (Err OutOfLimits)
  press-not-meant n = not-meant (λ c x f. n (press-said (subst Fit x f)))

  pub press-meant : (length d ≡ 6) × T (all is_hex d) → (o : Six) → six o ≡ d → Means (PressWith d) (Ok (OnNikobus (Press o)))
  unfolding look
  press-meant l o e = is-meant (content.press d) (nikobuses.press-limits l.0 l.1) refl {e = OnNikobus (Press o)} (another (no-link (Press o) refl) (ap press (sym e)))

module _ {i : ℕ} {p : List ℕ} where
  pub command-not-meant : (length p ≤ 1024 → ⊥) → Means (CommandWith i p) (Err OutOfLimits)
  command-not-meant n = not-meant (λ c x f. n (nest-short (subst Fit x f)))
    where
      nest-short : Fit (content.command i p) → length p ≤ 1024
      nest-short f = f.short

  pub response-not-meant : (length p ≤ 1024 → ⊥) → Means (ResponseWith i p) (Err OutOfLimits)
  response-not-meant n = not-meant (λ c x f. n (nest-short (subst Fit x f)))
    where
      nest-short : Fit (content.response i p) → length p ≤ 1024
      nest-short f = f.short

  module _ (id : i < 65536) (short : length p ≤ 1024) (bytes : Bytes p) where
    pub command-meant : Means (CommandWith i p) (Ok (OfCommand i))
    unfolding look
    command-meant = is-meant (content.command i p) (nest-fit i p id short bytes) refl {e = OfCommand i} refl

    pub response-meant : {e : Responded} → of_response e p ≡ look_response i p → Means (ResponseWith i p) (Ok (OfResponse e))
    unfolding look
    response-meant {e} s = is-meant (content.response i p) (nest-fit i p id short bytes) refl {e = OfResponse e} (sym s)

module _ {k : ℕ} {d : List ℕ} where
  pub nibe-not-meant : ((T (one_of commands k)) × (length d ≤ 255) → ⊥) → Means (NibeWith k d) (Err OutOfLimits)
  nibe-not-meant n = not-meant (λ c x f. go (subst Fit x f))
    where
      go : nibes.Limits (nibe_of k d) → ⊥
      go f = n (f.command, f.short)

  pub nibe-meant : T (one_of commands k) → length d ≤ 255 → Bytes d → {e : Nibe} → of_nibe e d ≡ look_nibe k d → Means (NibeWith k d) (Ok (OnNibe e))
  unfolding look
  nibe-meant o short bytes {e} s = is-meant (content.nibe k d) (nibe-fit k d o short bytes) refl {e = OnNibe e} (sym s)

module _ {p : List ℕ} where
  pub homiq-not-meant : ((w : Wire) × Payload p w → ⊥) → Means (HomiqWith p) (Err OutOfLimits)
  homiq-not-meant n = not-meant (λ c x f. n (x.wire, x.payload))

  pub homiq-meant : (w : Wire) × Payload p w → {e : Homiq} → e ≡ which_of (field_at 0 p) (field_at 1 p) → Means (HomiqWith p) (Ok (OnHomiq e))
  unfolding look
  homiq-meant x {e} g =
      let w = x.0 in
      is-meant (content.homiq w) x.1.limits (record { wire = w; is = refl; payload = x.1 }) {e = OnHomiq e}
      (subst (λ (q : List ℕ). SaysHomiq e q (look_homiq w)) x.1.laid (homiq-says x.1 g))

-- ---- what stands beside the message of a content is the content's payload

module _ (p : List ℕ) (e : Coded) (m : Message) (s : Says e (payload_in (content_of m)) m) where
  beside : p ≡ payload_in (content_of m) → Says e p m
  beside q = subst (λ (x : List ℕ). Says e x m) (sym q) s

  says-tail : m ≡ tail → Says e p m
  says-tail q =
      let same : e ≡ OnNikobus Tail = one-case e (OnNikobus Tail) (payload_in (content_of m)) p m s (another (no-link Tail refl) q) in
      subst (λ (d : Coded). Says d p m) (sym same) (another (no-link Tail refl) q)

  pub says-with : (t : Tag) → Good m → ContentWith t p (content_of m) → Says e p m
  unfolding look content_of
  says-with tag.Link g x = beside (x.digits ∙ ap payload_in (sym x.is))
  says-with tag.Press g x = beside (ap payload_in (sym x))
  says-with tag.Tail g x = says-tail (one-message m tail g (good content.tail nikobuses.tail-limits) x)
  says-with (tag.Command i) g x = beside (ap payload_in (sym x))
  says-with (tag.Response i) g x = beside (ap payload_in (sym x))
  says-with (tag.Nibe command) g x = beside (ap payload_in (sym x))
  says-with tag.Homiq g x = beside (x.payload.laid ∙ ap payload_in (sym x.is))

-- the arm of a tag
pub in-arm : (p : List ℕ) (r : Result Coded Refusal) {t it : Tag} → t ≡ it → Means (ContentWith it p) r → Means (ContentWith t p) r
in-arm p r h = subst (λ (t : Tag). Means (ContentWith t p) r) (sym h)
