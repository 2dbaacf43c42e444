-- A state's voltages are those of its data, or the text has no state's members.
-- Assumes nothing.
use mathlib.Core.Bool.{Bool}
use mathlib.Core.List.{List, [], ◌∷◌}
use mathlib.Core.Path.{◌≡◌, refl, sym, ap, ◌∙◌, subst}
use Prim.Native.Nat.{ℕ, ◌≤◌}
use native.Mathlib.Omega.{arith}
use lib.IntN.{ℤ, pos}
use lib.ListN.{length, take, get_or}
use Rattle.std.specs.Prelude.{Result, Ok, Err}
use Rattle.digits.proofs.Laws.Hex.{length-hex}
use Rattle.digits.specs.Paper.Ascii.{ascii}
use Rattle.digits.proofs.Laws.Parts.{part-front}
use Rattle.digits.specs.Paper.Bytes.{Bytes, part}
use Rattle.digits.specs.Paper.Read.{Decides}
use Rattle.digits.specs.Paper.Hex.{hex_bytes}
use Rattle.jsontext.proofs.Theorems.{string-length}
use Rattle.numbers.proofs.Laws.Signs.{back}
use Rattle.numbers.specs.Paper.Raw.{Between}
use Rattle.messages.specs.Paper.Message.{state}
use Rattle.messages.specs.Paper.Table.{v_in, v_op, v_bat}
use Rattle.messages.specs.declared.Message.TheVariants.{Response as AsResponse}
use Rattle.messages.specs.declared.nest.Response.TheVariants.{State}
use Rattle.asked.specs.Paper.Answers.{beside}
use Rattle.shapes.specs.Paper.Fields.{◌∶◌, Field, plain, hex, reading}
use Rattle.asked.specs.Paper.Field.{Spells, as_plain, as-hex, Has, HasEach}
use Rattle.asked.specs.Paper.Field as paper
use Rattle.asked.specs.Paper.Means.{named, HasRow}
use Rattle.asked.specs.Paper.Means as means
use Rattle.shapes.specs.Paper.Shapes.{IsOf, content, measured, a-content, a-reading, shape_at, fields_of}
use Rattle.asked.specs.Work.Draft.{HasMessage, Drafts}
use Rattle.asked.specs.Work.Draft as draft
use Rattle.asked.specs.Work.Got.{Slot, slot, Limit, between, up_to, Holds, Reads, ReadsIn, ReadsAll, ValueIn, Volts, number_in, list_in, mapped, joined, firm_of}
use Rattle.asked.specs.Work.Got as got
use Rattle.asked.specs.declared.Draft.{Draft}
use Rattle.asked.specs.declared.values.Reason.{Reason}
use Rattle.asked.specs.declared.values.Reason.TheVariants.{NoValue}
use Rattle.asked.proofs.Laws.Casts.{back-again}
use Rattle.asked.proofs.Laws.Drafts.{Settled, settled, SaysRow, one_each, members_of}
use Rattle.asked.proofs.Laws.Drafts as drafts
use Rattle.asked.proofs.Laws.Lift.{lifted, one_in}
use Rattle.asked.proofs.Laws.Results.{firm-is, firm-none}
use Rattle.asked.proofs.Laws.Shaped.{last, more, said_row}
use Rattle.asked.proofs.Laws.Slots.{AllHeld, u16-le, natural, are-of}
use Rattle.asked.proofs.Laws.Slots as slots

-- ---- the members

abbrev word : Limit
word = between (pos 0) (pos 65535)

abbrev pub volt_slots : List Slot
volt_slots = slot (ascii "vin") (measured 2) word ∷ slot (ascii "vop") (measured 3) word ∷ slot (ascii "vbat") (measured 3) word ∷ []

abbrev pub data_slot : Slot
data_slot = slot (ascii "data") content (up_to 8192)

abbrev pub volt_fields : ℤ → ℤ → ℤ → List Field
volt_fields a b d = reading a 2 ∷ reading b 3 ∷ reading d 3 ∷ []

-- what a text with a state's members has
record StateIn (s q : List ℕ) : Type 0 where
  volts : HasEach Spells s (named (members_of volt_slots) (volt_fields (pos (v_in q)) (pos (v_op q)) (pos (v_bat q))))
  its-data : Has Spells s (ascii "data" ∶ plain (hex q))
  bytes : Bytes q
  enough : means.least_volts ≤ length q

hex-bytes : {v q : List ℕ} → Spells v (plain (hex q)) → Bytes q
hex-bytes (as_plain (as-hex b x)) = b

state-in : {s : List ℕ} → HasRow s 9 → (q : List ℕ) × StateIn s q
unfolding members_of named fields_of
state-in {s} h =
    let a = h.of.agree refl in
    let each : HasEach Spells s (named (shape_at 9).members (fields_of (state a.payload))) =
    subst (λ (l : List Field). HasEach Spells s (named (shape_at 9).members l)) a.is h.each in
    (a.payload, taken each a.enough)
  where
    taken : {q : List ℕ} → HasEach Spells s (named (shape_at 9).members (fields_of (state q))) → means.least_volts ≤ length q → StateIn s q
    taken (paper.and x (paper.and y (paper.and z (paper.and d paper.none)))) e =
        record { volts = paper.and x (paper.and y (paper.and z paper.none)); its-data = d; bytes = hex-bytes d.spelt; enough = e }

-- a number that a payload has is held
volts-held : (q : List ℕ) → Bytes q → AllHeld volt_slots (volt_fields (pos (v_in q)) (pos (v_op q)) (pos (v_bat q)))
volts-held q b = slots.and (natural (u16-le q 8 b)) (slots.and (natural (u16-le q 10 b)) (slots.and (natural (u16-le q 12 b)) slots.none))

readings : (a b d : ℤ) → means.AreOf (members_of volt_slots) (volt_fields a b d)
unfolding members_of
readings a b d = means.and a-reading (means.and a-reading (means.and a-reading means.none))

-- data are never too many: a text has fewer digits
few : {v q : List ℕ} → Spells v (plain (hex q)) → length q ≤ 8192
few {v} {q} (as_plain (as-hex b x)) = omega (arith, string-length v (hex_bytes q) x, length-hex q, x.short)

reading-number : {y z : ℤ} {i j : ℕ} → reading y i ≡ reading z j → y ≡ z
reading-number e = ap number_in e

content-list : {p q : List ℕ} → plain (hex p) ≡ plain (hex q) → p ≡ q
content-list e = ap list_in e

-- what such a text has is what was read, and agrees
agreeing : {s p q : List ℕ} {a b d : ℤ} → StateIn s q → HasEach Spells s (named (members_of volt_slots) (volt_fields a b d)) → Has Spells s (ascii "data" ∶ plain (hex p))
    → Volts p a b d
agreeing {s} {p} {q} {a} {b} {d} x hs h = by (one_each (readings _ _ _) (readings a b d) x.volts hs) (content-list (one_in a-content a-content x.its-data h))
  where
    by : volt_fields (pos (v_in q)) (pos (v_op q)) (pos (v_bat q)) ≡ volt_fields a b d → q ≡ p → Volts p a b d
    by e f =
        subst (λ (l : List ℕ). Volts l a b d) f
        (record {
          enough = x.enough;
          is-in = ap (λ (l : List Field). number_in (get_or l 0 (reading (pos 0) 0))) e;
          is-op = ap (λ (l : List Field). number_in (get_or l 1 (reading (pos 0) 0))) e;
          is-bat = ap (λ (l : List Field). number_in (get_or l 2 (reading (pos 0) 0))) e;
        })

-- a state with these members is said
stated : {s bytes : List ℕ} {len : ℕ} {a b d : ℤ} → len ≤ length bytes → HasEach Spells s (named (members_of volt_slots) (volt_fields a b d))
    → Has Spells s (ascii "data" ∶ plain (hex (take len bytes))) → Volts (take len bytes) a b d → {e : Draft} → e.message ≡ AsResponse State → e.len ≡ len
    → Drafts s 9 bytes (Ok e)
unfolding members_of named fields_of beside
stated {s} {bytes} {len} {a} {b} {d} l (paper.and x (paper.and y (paper.and z paper.none))) h v {e} f g =
    let p : List ℕ = take len bytes in
    let fs : List Field = reading a 2 ∷ reading b 3 ∷ reading d 3 ∷ plain (hex p) ∷ [] in
    let same : fs ≡ fields_of (state p) = rw (sym v.is-in, sym v.is-op, sym v.is-bat) in
    let each : HasEach Spells s (named (shape_at 9).members fs) = paper.and x (paper.and y (paper.and z (paper.and h paper.none))) in
    let sorts : means.AreOf (shape_at 9).members fs = means.and a-reading (means.and a-reading (means.and a-reading (means.and a-content means.none))) in
    let k = said_row {fs = fs} {bytes = bytes} {e = AsResponse State} {len = len} (state p) refl (sym same) l refl refl in
    draft.is (record { fields = fs; of = record { sorts = sorts; agree = λ i. record { payload = p; enough = v.enough; is = same } }; each = each })
    (rw (f, g) (record {
      within = l;
      some = k.some;
      to = λ m i j. k.to m i.its-row (one_each (subst (λ (r : ℕ). means.AreOf (shape_at r).members (fields_of m)) i.its-row (are-of m j)) sorts i.each each) j;
      from = λ m i. record { its-row = (k.from m i).0; each = subst (λ (l : List Field). HasEach Spells s (named (shape_at 9).members l)) (sym (k.from m i).1) each };
      stands = k.stands;
    }))

too_many : {s : List ℕ} {g : Field} → IsOf content g → Has Spells s (ascii "data" ∶ g) → (Holds (up_to 8192) g → ⊥) → ⊥
too_many a-content h n = n (few h.spelt)

-- no text with a state's members has voltages or data that are not read, or that disagree
module _ {s : List ℕ} where
  no-large : (gs : List Field) → means.AreOf (members_of volt_slots) gs → HasEach Spells s (named (members_of volt_slots) gs) → (AllHeld volt_slots gs → ⊥)
      → HasRow s 9 → ⊥
  no-large gs o h n g =
      let (q, t) = state-in g in
      n (subst (AllHeld volt_slots) (one_each (readings _ _ _) o t.volts h) (volts-held q t.bytes))

  no-volts : ((gs : List Field) → means.AreOf (members_of volt_slots) gs → HasEach Spells s (named (members_of volt_slots) gs) → ⊥) → HasRow s 9 → ⊥
  no-volts n g = let (q, t) = state-in g in n _ (readings _ _ _) t.volts

  no-data : ((f : Field) → IsOf content f → Has Spells s (ascii "data" ∶ f) → ⊥) → HasRow s 9 → ⊥
  no-data n g = let (q, t) = state-in g in n (plain (hex q)) a-content t.its-data

-- that the voltages agree is told of the bytes that were read, and of numbers that come back from their 64 bits
abbrev InWord : ℤ → Type 0
InWord z = Between (pos 0) (pos 65535) z

pub agreed : (bytes : List ℕ) (n : ℕ) {a b d : ℤ} {r : Bool} → InWord a → InWord b → InWord d → Decides (Volts (part 0 n bytes) (back a) (back b) (back d)) r
    → Decides (Volts (take n bytes) a b d) r
agreed bytes n {a} {b} {d} {r} x y z k =
    let f : (e : ℤ) → InWord e → back e ≡ e = back-again {m = 65535} (omega arith) in
    subst (λ (l : List ℕ). Decides (Volts l a b d) r) (part-front n bytes)
    (subst (λ (i : ℤ). Decides (Volts (part 0 n bytes) i b d) r) (f a x)
    (subst (λ (i : ℤ). Decides (Volts (part 0 n bytes) (back a) i d) r) (f b y)
    (subst (λ (i : ℤ). Decides (Volts (part 0 n bytes) (back a) (back b) i) r) (f d z) k)))

-- three voltages that were read
abbrev pub Three : Type 0
Three = ℤ × (ℤ × ℤ)

pub three : (a b d : Result ℤ Reason) {s u v w : List ℕ} {q : Result (ℤ × ℤ) Reason} {r : Result Three Reason}
    → ValueIn s (ascii "vin") u → Reads u (measured 2) word (mapped (λ z. reading z 2) a)
    → ValueIn s (ascii "vop") v → Reads v (measured 3) word (mapped (λ z. reading z 3) b)
    → ValueIn s (ascii "vbat") w → Reads w (measured 3) word (mapped (λ z. reading z 3) d)
    → q ≡ joined b d → r ≡ joined a q → ReadsAll s volt_slots (mapped (λ (z : Three). volt_fields z.0 z.1.0 z.1.1) r)
three a b d {q = q} u x v y w z e f =
    more (λ z. reading z 2) (λ (z : ℤ × ℤ). reading z.0 3 ∷ reading z.1 3 ∷ []) a q (lifted u x)
    (more (λ z. reading z 3) (λ z. reading z 3 ∷ []) b d (lifted v y) (last (λ z. reading z 3) d (lifted w z)) e) f

-- THE DRAFT OF A STATE, from voltages that were read
module _ {s : List ℕ} (r : Result Three Reason) {q : Result Three Reason} (volts : ReadsAll s volt_slots (mapped (λ (z : Three). volt_fields z.0 z.1.0 z.1.1) r))
    (firm : q ≡ firm_of r) where
  its-at : {a : Result Three Reason} → r ≡ a → Settled s volt_slots (mapped (λ (z : Three). volt_fields z.0 z.1.0 z.1.1) a)
  its-at e = settled (subst (λ (a : Result Three Reason). ReadsAll s volt_slots (mapped (λ (z : Three). volt_fields z.0 z.1.0 z.1.1) a)) e volts)

  -- or not
  pub volts-unread : {bytes : List ℕ} {why : Reason} → q ≡ Err why → Drafts s 9 bytes (Err why)
  volts-unread e = let (n, w, f) = firm-none r (sym firm ∙ e) in rw n (draft.none (by (its-at f)))
    where
      by : {w : Reason} → Settled s volt_slots (Err w) → HasRow s 9 → ⊥
      by (drafts.large gs o h n) = no-large gs o h n
      by (drafts.none n) = no-volts n

  -- with data that were read, or not
  module _ {z : Three} (e : q ≡ Ok z) where
    read_three : Settled s volt_slots (Ok (volt_fields z.0 z.1.0 z.1.1))
    read_three = its-at (firm-is r (sym firm ∙ e))

    pub disagree-state : {bytes p : List ℕ} → ReadsIn s data_slot (Ok (plain (hex p))) → (Volts p z.0 z.1.0 z.1.1 → ⊥) → Drafts s 9 bytes (Err NoValue)
    disagree-state {p = p} y k = draft.none (by read_three y)
      where
        by : Settled s volt_slots (Ok (volt_fields z.0 z.1.0 z.1.1)) → ReadsIn s data_slot (Ok (plain (hex p))) → HasRow s 9 → ⊥
        by (drafts.all o h i) (got.is x y l) g = let (q, t) = state-in g in k (agreeing t h y)

    pub agree-state : {bytes : List ℕ} {len : ℕ} → len ≤ length bytes → ReadsIn s data_slot (Ok (plain (hex (take len bytes)))) → Volts (take len bytes) z.0 z.1.0 z.1.1
        → {d : Draft} → d.message ≡ AsResponse State → d.len ≡ len → Drafts s 9 bytes (Ok d)
    agree-state {bytes} {len} within y k {d} f g = by read_three y
      where
        by : Settled s volt_slots (Ok (volt_fields z.0 z.1.0 z.1.1)) → ReadsIn s data_slot (Ok (plain (hex (take len bytes)))) → Drafts s 9 bytes (Ok d)
        by (drafts.all o h i) (got.is x y l) = stated within h y k f g

-- data that were not read
pub data-unread : {s bytes : List ℕ} {why : Reason} → ReadsIn s data_slot (Err why) → Drafts s 9 bytes (Err why)
data-unread (got.large x y n) = absurd (too_many x y n)
data-unread (got.none n) = draft.none (no-data n)
