-- For each public function: two answers that meet its promise are the same.
-- Assumes nothing.
use mathlib.Core.Path.{◌≡◌, refl, sym, ◌∙◌, ap, subst}
use mathlib.Core.List.{List}
use Prim.Native.Nat.{ℕ, ◌+◌, ◌-◌}
use native.Mathlib.Omega.{arith}
use denote.Ref.{Bor}
use Rattle.std.specs.Prelude.{Result, Ok, Err}
use Rattle.digits.specs.Paper.Bytes.{part}
use Rattle.digits.specs.Paper.Part.{Ends, IsPart}
use Rattle.digits.specs.declared.refusal.Refusal.{Refusal}
use Rattle.digits.proofs.Laws.Handed.{same-part, one-part}
use Rattle.digits.proofs.Laws.Refusals.{one-refusal, some_number, one-first, cause-of}
use Rattle.frames.specs.declared.Found.{Found}
use Rattle.frames.proofs.Unique.{searched-one, hit-or-none}
use Rattle.messages.specs.Paper.Answers.{Said, Decodes, content_ends, Contents, Finds}
use Rattle.messages.specs.Paper.Allowed.{Allows}
use Rattle.messages.specs.Paper.Content.{payload_in, payload_from, payload_to}
use Rattle.messages.specs.Paper.Meant.{ContentWith, Means}
use Rattle.messages.specs.Paper.Message.{Message}
use Rattle.messages.specs.Paper.Says.{Says}
use Rattle.messages.specs.Paper.Table.{content_of}
use Rattle.messages.specs.declared.Message.{Message as Coded}
use Rattle.messages.specs.declared.Decoded.{Decoded}
use Rattle.messages.specs.declared.Message.TheVariants.{Command}
use Rattle.messages.specs.declared.FoundMessage.{FoundMessage}
use Rattle.numbers.specs.declared.panel.Climate.{Climate as Counts}
use Rattle.messages.specs.Paper.Panel.{ShowsPair, ReadsVolts}
use Rattle.messages.specs.Paper.NextId.{Follows}
use Rattle.messages.specs.declared.nest.Response.{Response}
use Rattle.messages.specs.declared.nest.Volts.{Volts}
use Rattle.messages.specs.declared.Tag.{Tag}
use Rattle.messages.proofs.Laws.Allowed.{one-standing}
use Rattle.messages.proofs.Laws.Meant.{one-content-with, one-meant}
use Rattle.messages.proofs.Laws.Cases.{hit_of, said_in, search-in, found_in, search-refused}
use Rattle.messages.proofs.Laws.NestUnique.{one-pair, one-volts}
use Rattle.messages.proofs.Laws.NextId.{one-next}
use Rattle.messages.proofs.Laws.Says.{one-case}
use Rattle.messages.proofs.Theorems.{one-message-of}

-- decode
one-coded : {k : ℕ} {f : List ℕ} {d e : Coded} {a b x y : ℕ} → Said k f d a b → Said k f e x y → d ≡ e
one-coded {k} {f} {d} {e} s t =
    let m : s.message ≡ t.message = one-message-of s.message t.message s.stands t.stands in
    let u : Says d (payload_in (content_of s.message)) t.message = subst (Says d (payload_in (content_of s.message))) m s.says in
    one-case d e (payload_in (content_of s.message)) (payload_in (content_of t.message)) t.message u t.says

abbrev is : Coded → ℕ → ℕ → Decoded
is e from to = record { message = e; from = from; to = to }

one-is : {k : ℕ} {f : List ℕ} {d e : Coded} {a b x y : ℕ} → Said k f d a b → Said k f e x y
    → ◌≡◌ {A = Decoded} (record { message = d; from = a; to = b }) (record { message = e; from = x; to = y })
one-is {k} {f} {d} {e} {a} {b} {x} {y} s t =
    let m : s.message ≡ t.message = one-message-of s.message t.message s.stands t.stands in
    let p : a ≡ x = s.from_is ∙ ap (λ (n : Message). payload_from (content_of n)) m ∙ sym t.from_is in
    let q : b ≡ y = s.to_is ∙ ap (λ (n : Message). payload_to (content_of n)) m ∙ sym t.to_is in
    ap (λ (i : Coded). is i a b) (one-coded s t) ∙ ap (λ (i : ℕ). is e i b) p ∙ ap (is e x) q

pub decode : (k : ℕ) (f : List ℕ) (r q : Result Decoded Refusal) → Decodes k f r → Decodes k f q → r ≡ q
decode k f (Ok d) (Ok e) s t = ap Ok (one-is (said_in s) (said_in t))
decode k f (Ok d) (Err why) s t = let e = one-first (cause-of s) (cause-of t) in absurd (omega (arith, some_number why))
decode k f (Err why) (Ok e) s t = let e = one-first (cause-of s) (cause-of t) in absurd (omega (arith, some_number why))
decode k f (Err why) (Err other) s t = ap Err (one-refusal why other (one-first (cause-of s) (cause-of t)))

-- find: what the search finds is the same, and then the message
abbrev with : Coded → Result Found Refusal → Result FoundMessage Refusal
with e (Ok v) = Ok (record { start = v.start; len = v.len; from = v.from; to = v.to; message = e })
with e (Err why) = Err why

abbrev SaidOf : ℕ → List ℕ → Coded → Result Found Refusal → Type 0
SaidOf k s e (Ok v) = Said k (part v.start (v.start + v.len) s) e (v.from - v.start) (v.to - v.start)
SaidOf k s e (Err why) = Unit

pub find : (k : ℕ) (s : List ℕ) (place : ℕ) (r q : Result FoundMessage Refusal) → Finds k s place r → Finds k s place q → r ≡ q
find k s place (Ok h) (Ok i) f g =
    let one : ◌≡◌ {A = Result Found Refusal} (Ok (hit_of h)) (Ok (hit_of i)) = searched-one (Ok (hit_of h)) (Ok (hit_of i)) (search-in f) (search-in g) in
    ap (with h.message) one ∙ ap (λ (e : Coded). with e (Ok (hit_of i))) (one-coded (subst (SaidOf k s h.message) one (found_in f)) (found_in g))
find k s place (Ok h) (Err why) f g = absurd (hit-or-none (searched-one (Ok (hit_of h)) (Err why) (search-in f) (search-refused why g)))
find k s place (Err why) (Ok h) f g = absurd (hit-or-none (searched-one (Ok (hit_of h)) (Err why) (search-in g) (search-refused why f)))
find k s place (Err why) (Err other) f g = ap (with (Command 0)) (searched-one (Err why) (Err other) (search-refused why f) (search-refused other g))

-- content
pub content : (k : ℕ) (s r q : Bor (List ℕ)) → Contents k s r → Contents k s q → (r.ref_ptr ≡ q.ref_ptr) × (r.now ≡ q.now)
content k s r q = one-part (λ d e x y. x.2 ∙ ap content_ends (one-message-of x.0 y.0 x.1 y.1) ∙ sym y.2)

-- homiq::field
pub field : (e : Ends) (s r q : Bor (List ℕ)) → IsPart s e r → IsPart s e q → (r.ref_ptr ≡ q.ref_ptr) × (r.now ≡ q.now)
field e s r q = same-part refl

-- nest::for_panel
pub for-panel : (e : Response) (r q : Result Counts Refusal) → ShowsPair e r → ShowsPair e q → r ≡ q
for-panel = one-pair

-- nest::voltages
pub voltages : (p : List ℕ) (r q : Result Volts Refusal) → ReadsVolts p r → ReadsVolts p q → r ≡ q
voltages = one-volts

-- homiq::next_id
pub next-id : (i : ℕ) (r q : Result ℕ Refusal) → Follows i r → Follows i q → r ≡ q
next-id = one-next

-- of
pub of : (t : Tag) (p : List ℕ) (r q : Result Coded Refusal) → Means (ContentWith t p) r → Means (ContentWith t p) q → r ≡ q
of t p = one-meant (one-content-with t p)

-- allowed
pub allowed : (e : Coded) (s : List ℕ) (r q : Result (Unit {0}) Refusal) → Allows e s r → Allows e s q → r ≡ q
allowed e s = one-standing
