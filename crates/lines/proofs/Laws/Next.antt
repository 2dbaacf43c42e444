-- The line of a message, of one frame, and of what a search finds.
-- Assumes nothing.
use mathlib.Core.Bool.{Bool, true, false, not, true≢false}
use mathlib.Core.List.{List, [], ◌∷◌}
use mathlib.Core.Option.{Option}
use mathlib.Core.Path.{◌≡◌, refl, sym, ap, ap₂, ◌∙◌, subst}
use Prim.Native.Nat.{ℕ, ◌+◌, ◌-◌, ◌*◌, ◌/◌, ◌^◌, ◌≤◌, ◌<◌}
use native.Mathlib.Omega.{arith}
use lib.Dec.{leb, eqb, lit<}
use lib.ListN.{length}
use lib.Seq.{sets}
use borrow.Author.Tests.{leb-true, not-true, not-false}
use Rattle.std.specs.Prelude.{Result, Ok, Err}
use Rattle.digits.specs.Paper.Bytes.{part}
use Rattle.digits.specs.Paper.Refusals.{refusal_order, First, clear, here, after, Answers, answers, refuses}
use Rattle.digits.specs.declared.refusal.Refusal.{Refusal}
use Rattle.digits.specs.declared.refusal.Refusal.TheVariants.{NoRoom}
use Rattle.digits.proofs.Laws.Parts.{length_part, part-of-part}
use Rattle.digits.proofs.Laws.Refusals.{answered, cause-of, cause-at, pass-over, some_number, refused-zeros}
use Rattle.puts.specs.Paper.Put.{Put, largest_place}
use Rattle.puts.specs.Paper.Wrote.{Written}
use Rattle.frames.specs.Paper.Search as hits
use Rattle.frames.specs.Paper.Search.{Leftmost, SearchCause, no-frame, no_kind, no_place, Searches, frame_part}
use Rattle.frames.proofs.Laws.Kinds.{frame-known}
use Rattle.frames.proofs.Unique.{leftmost-one}
use Rattle.messages.specs.Paper.Answers.{Said, Finds}
use Rattle.messages.specs.Paper.Message.{Message}
use Rattle.messages.specs.Paper.Says.{Says}
use Rattle.messages.specs.Paper.Table.{Good}
use Rattle.messages.specs.declared.Message.{Message as Coded}
use Rattle.messages.specs.declared.FoundMessage.{FoundMessage}
use Rattle.messages.proofs.Laws.Cases.{search-in, found_in, search-refused}
use Rattle.messages.proofs.Laws.Decode.{inside}
use Rattle.messages.proofs.Laws.Find.{in_buffer, behind-start, payloaded}
use Rattle.messages.proofs.Theorems.{beside, one-message-of}
use Rattle.lines.specs.Paper.Answers.{LineOf, LineSaid, NextCause, searched, short, Placed, zero_placed, NextLine, PutsNext, Size, NextSize, Measures}
use Rattle.sheet.specs.Paper.Map.{sheet_in}
use Rattle.sheet.specs.Paper.Sheet.{Lookup}
use Rattle.lines.specs.Paper.WithSheet.{line_with}
use Rattle.lines.specs.Work.Put.{put, a_byte, Bounded, AllOrNone, all, none}
use Rattle.lines.specs.Work.Tried.{Surely, Clipped, Comes, Tries}
use Rattle.lines.specs.declared.Listed.{Listed}
use Rattle.lines.specs.declared.Measured.{Measured}
use Rattle.lines.specs.declared.Tried.{Tried}
use Rattle.lines.specs.declared.Tried.TheVariants.{At, Unsure}
use Rattle.lines.proofs.Laws.Said.{put-said}
use Rattle.lines.proofs.Laws.Sizes.{line-bounded, line-most}
use Rattle.lines.proofs.Laws.Types.{InTypes}

-- what stands beside the message of a frame says it
beside-says : {k : ℕ} {f : List ℕ} {e : Coded} {from to : ℕ} {c : List ℕ} (x : Said k f e from to) → c ≡ part from to f → Says e c x.message
beside-says {e = e} x same = subst (λ (p : List ℕ). Says e p x.message) (sym (same ∙ beside x)) x.says

module _ {sheet : Option Lookup} where
  -- what the code puts of a message that is said is the message's line
  pub line-of-message : (e : Coded) (s : List ℕ) {at len : ℕ} {m : Message} → Good m → Says e s m → LineSaid sheet (Says e s) at len (put sheet e s at len)
  line-of-message e s {at} {len} {m} g x = record { message = m; good = g; said = x; is = put-said sheet e s at len m g.limits x }

  -- so what the code puts of it is the line of the frame
  pub line-of-said : {k : ℕ} {f : List ℕ} {e : Coded} {from to : ℕ} (place : ℕ) (c : List ℕ) → Said k f e from to → c ≡ part from to f
      → LineOf sheet k f place (put sheet e c place (length f))
  line-of-said {f = f} {e = e} place c x same =
      record { message = x.message; stands = x.stands; is = put-said sheet e c place (length f) x.message x.stands.good.limits (beside-says x same) }

  -- and no longer than the bound
  pub said-bounded : {k : ℕ} {f : List ℕ} {e : Coded} {from to at len : ℕ} → InTypes sheet → (c : List ℕ) → Said k f e from to → c ≡ part from to f
      → at ≤ largest_place → len ≤ largest_place → Bounded sheet (put sheet e c at len) (length c)
  said-bounded {e = e} types c x same h k = line-bounded types e c h k (line-of-message e c x.stands.good (beside-says x same))

  -- a frame has one line
  pub one_line : {k : ℕ} {f : List ℕ} {place : ℕ} (s t : List ℕ) → LineOf sheet k f place s → LineOf sheet k f place t → s ≡ t
  one_line {f = f} {place = place} s t a b =
      a.is ∙ ap (line_with sheet place (length f)) (one-message-of a.message b.message a.stands b.stands) ∙ sym b.is

-- ---- the causes

-- the first of other causes, where they are the same but for one that does not apply
first-at : {C D : ℕ → Type 0} {l : List ℕ} {r : ℕ} → (C r → D r) → ((n : ℕ) → D n → C n) → First C l r → First D l r
first-at f g clear = clear
first-at f g (here c) = here (f c)
first-at f g (after {no = i} n x) = after (λ d. n (g i d)) (first-at f g x)

module _ {k : ℕ} {s : List ℕ} {place : ℕ} where
  -- a search that finds a frame is refused for nothing
  not-refused : {v : hits.Hit} {n : ℕ} → Leftmost k s place v → SearchCause k s place n → ⊥
  not-refused {v} l (no-frame f) = f v.start v.len l.behind l.stands
  not-refused l (no_kind e) = true≢false (sym (frame-known l.stands.frame) ∙ e)
  not-refused l (no_place h) = omega (arith, l.behind, l.stands.inside)

  pub hit-found : {v : hits.Hit} → Leftmost k s place v → Searches k s place (Ok v)
  hit-found l = answers (pass-over (λ n. false) (λ n e c. not-refused l c) refusal_order clear) l

module _ {sheet : Option Lookup} {k : ℕ} {s : List ℕ} {place : ℕ} where
  -- what is found has one line
  pub one-found-line : (u v : hits.Hit) {a b : List ℕ} → Leftmost k s place u → Leftmost k s place v → LineOf sheet k (frame_part s u) u.start a
      → LineOf sheet k (frame_part s v) v.start b → a ≡ b
  one-found-line u v {a} {b} l m x y = one_line a b (subst (λ (w : hits.Hit). LineOf sheet k (frame_part s w) w.start a) (leftmost-one u v l m) x) y

  module _ {left : ℕ} where
    module _ {v : hits.Hit} {t : List ℕ} (l : Leftmost k s place v) (o : LineOf sheet k (frame_part s v) v.start t) where
      only : (i : ℕ) → eqb i 4 ≡ false → NextCause sheet k s place left i → ⊥
      only i e (searched c) = not-refused l c
      only i e (short m p h) = true≢false e

      enough : length t ≤ left → First (NextCause sheet k s place left) refusal_order 0
      enough h = pass-over (λ i. eqb i 4) only refusal_order (after fits clear)
        where
          fits : NextCause sheet k s place left 4 → ⊥
          fits (searched c) = not-refused l c
          fits (short {v = u} m p g) = let e = ap length (one-found-line u v m l p o) in omega arith

      too_few : left < length t → First (NextCause sheet k s place left) refusal_order 4
      too_few h = pass-over (λ i. eqb i 4) only refusal_order (here (short l o h))

    refusing : {n : ℕ} → 0 < n → First (SearchCause k s place) refusal_order n → First (NextCause sheet k s place left) refusal_order n
    refusing {n} h f = first-at searched back f
      where
        back : (i : ℕ) → NextCause sheet k s place left i → SearchCause k s place i
        back i (searched c) = c
        back i (short m o g) = absurd (not-refused m (cause-at f h))

    -- where the room is long enough for whatever is found, the search alone refuses
    pub refused-by-search : ((v : hits.Hit) (t : List ℕ) → Leftmost k s place v → LineOf sheet k (frame_part s v) v.start t → length t ≤ left) → {n : ℕ}
        → First (NextCause sheet k s place left) refusal_order n → First (SearchCause k s place) refusal_order n
    refused-by-search roomy {n} f = first-at (of n) (λ i. searched) f
      where
        of : (i : ℕ) → NextCause sheet k s place left i → SearchCause k s place i
        of i (searched c) = c
        of i (short {v = v} {t = t} m o h) = let r = roomy v t m o in absurd (omega arith)

-- ---- what is next, case by case

-- the answer, where the line is put or is not
abbrev pub listed_of : (start len to : ℕ) → Written → Result Listed Refusal
listed_of start len to (Ok n) = Ok (record { start = start; len = len; behind = to + n })
listed_of start len to (Err why) = Err why

module _ {sheet : Option Lookup} {k : ℕ} {s : List ℕ} {place : ℕ} {room : List ℕ} {to : ℕ} where
  pub next-placed : {start len from end : ℕ} {t later : List ℕ} {w : Written} → Leftmost k s place (record { start = start; len = len; from = from; to = end })
      → LineOf sheet k (part start (start + len) s) start t → AllOrNone t room to w later → PutsNext sheet k s place room to (listed_of start len to w) later
  next-placed {start} {len} {from} {end} {t} l o (all h) =
      answers {v = (record { start = start; len = len; behind = to + length t }, sets room to t)} (enough l o h)
      (record { from = from; end = end; found = l; text = t; line = o; behind-is = refl; room-is = refl })
  next-placed l o (none h) = refuses (lit< tt) (too_few l o h)

  module _ {v : Placed} {later : List ℕ} (a : PutsNext sheet k s place room to (Ok v) later) where
    -- what is put
    pub line-next : NextLine sheet k s place room to v later
    line-next = answered a refl

    pub next-found : Searches k s place (Ok (record { start = v.start; len = v.len; from = line-next.from; to = line-next.end }))
    next-found = hit-found line-next.found

  pub room-kept : (why : Refusal) {later : List ℕ} → PutsNext sheet k s place room to (Err why) later → later ≡ room
  room-kept why a = ap (λ v. v.1) (refused-zeros a (some_number why))

-- a line that no room of so many bytes is too short for
pub by-no-sheet : {sure : Bool} {beside bytes : ℕ} (map : List ℕ) → length map ≡ 0 → sure ≡ false → 352 ≤ bytes
    → Surely (sheet_in map) sure beside bytes (leb beside ((bytes - 352) / 8))
by-no-sheet {sure} {beside} {bytes} [] z e h = go (leb beside ((bytes - 352) / 8)) refl
  where
    go : (b : Bool) → leb beside ((bytes - 352) / 8) ≡ b → Surely (sheet_in []) sure beside bytes b
    go true q = record { may-put = λ f. let m = leb-true beside ((bytes - 352) / 8) q in omega arith }
    go false q = record { may-put = e }
by-no-sheet (x ∷ map) z e h = absurd (omega arith)

pub by-a-sheet : {sure : Bool} {beside bytes : ℕ} (map : List ℕ) → (length map ≡ 0 → ⊥) → sure ≡ false → 352 ≤ bytes
    → Surely (sheet_in map) sure beside bytes (leb beside ((bytes - 352) / 26))
by-a-sheet [] n e h = absurd (n refl)
by-a-sheet {sure} {beside} {bytes} (x ∷ map) n e h = go (leb beside ((bytes - 352) / 26)) refl
  where
    go : (b : Bool) → leb beside ((bytes - 352) / 26) ≡ b → Surely (sheet_in (x ∷ map)) sure beside bytes b
    go true q = record { may-put = λ f. let m = leb-true beside ((bytes - 352) / 26) q in omega arith }
    go false q = record { may-put = e }

-- ---- what is found

module _ {k : ℕ} {s : List ℕ} {place : ℕ} where
  module _ {v : FoundMessage} (seen : Finds k s place (Ok v)) where
    abbrev start : ℕ
    start = v.start

    abbrev len : ℕ
    len = v.len

    abbrev from : ℕ
    from = v.from

    abbrev to : ℕ
    to = v.to

    abbrev e : Coded
    e = v.message

    found_inside : (start ≤ from) × (from ≤ to) × (to ≤ start + len) × (start + len ≤ length s)
    found_inside =
        let f = search-in seen in
        let b = behind-start f refl in
        let i = inside (payloaded f refl) in
        let l = in_buffer f refl in
        let n = length_part start (start + len) s (omega arith) l in
        (b.0, omega (arith, b, i), omega (arith, b, i, n), l)

    pub payload-in : (from ≤ to) × (to ≤ length s)
    payload-in = let x = found_inside in (x.1, omega (arith, x))

    -- the payload in the frame
    payload-of : part from to s ≡ part (from - start) (to - start) (part start (start + len) s)
    payload-of = let x = found_inside in sym (part-of-part start (start + len) from to s x.0 x.1 x.2)

    found-line : {sheet : Option Lookup} → LineOf sheet k (part start (start + len) s) start (put sheet e (part from to s) start len)
    found-line {sheet} =
        let x = found_inside in
        let f = part start (start + len) s in
        let n : length f ≡ len = length_part start (start + len) s (omega arith) x.3 ∙ omega arith in
        subst (λ (i : ℕ). LineOf sheet k f start (put sheet e (part from to s) start i)) n (line-of-said start (part from to s) (found_in seen) payload-of)

    found-bounded : {sheet : Option Lookup} → InTypes sheet → length s ≤ largest_place → Bounded sheet (put sheet e (part from to s) start len) (length (part from to s))
    found-bounded {sheet} types h =
        let x = found_inside in said-bounded types (part from to s) (found_in seen) payload-of (omega (arith, x.3)) (omega (arith, x.3))

    pub tried-put : {sheet : Option Lookup} → InTypes sheet → length s ≤ largest_place → {sure : Bool} {room later : List ℕ} {place-to behind left : ℕ} (b : Bool) → Surely sheet sure (to - from) left b
        → not b ≡ false → left ≡ length room - place-to → Put room later place-to behind (put sheet e (part from to s) start len)
        → Tries sheet k s place sure room place-to (Ok (At (record { start = start; len = len; behind = behind }))) later
    tried-put {sheet} types h {sure} {left = left} b y i l p =
        let x = payload-in in
        let n = length_part from to s x.0 x.1 in
        record {
          comes = record {
            from = from;
            end = to;
            found = answered (search-in seen) refl;
            text = put sheet e (part from to s) start len;
            line = found-line;
            put = p;
            fits = λ q. let m = (subst (Surely sheet sure (to - from) left) (not-false b i) y).may-put q in omega (arith, (found-bounded types h).most, ap (λ (j : ℕ). a_byte sheet * j) n);
          };
        }

    pub tried-unsure : {sheet : Option Lookup} {sure : Bool} {room : List ℕ} {place-to beside left : ℕ} (b : Bool) → Surely sheet sure beside left b → not b ≡ true
        → Tries sheet k s place sure room place-to (Ok (Unsure start)) room
    tried-unsure {sheet} {sure} {beside = beside} {left = left} b y i =
        record { comes = ((subst (Surely sheet sure beside left) (not-true b i) y).may-put, refl, (record { start = start; len = len; from = from; to = to }, answered (search-in seen) refl, refl)) }

  pub tried-refused : (why : Refusal) → Finds k s place (Err why) → {sheet : Option Lookup} {sure : Bool} {room : List ℕ} {to : ℕ}
      → Tries sheet k s place sure room to (Err why) room
  tried-refused why a = record { comes = (search-refused why a, refl) }

-- ---- what is tried

module _ {sheet : Option Lookup} {k : ℕ} {s : List ℕ} {place : ℕ} {sure : Bool} {room : List ℕ} {to : ℕ} {later : List ℕ} where
  -- a line that is put although nobody asked whether it fits
  pub put-anyway : (r : Result Tried Refusal) → Tries sheet k s place sure room to r later → {v : hits.Hit} {t : List ℕ} → sure ≡ true → Leftmost k s place v
      → LineOf sheet k (frame_part s v) v.start t → later ≡ sets room to t
  put-anyway (Ok (At w)) x {v} e l o = x.comes.put.room-is ∙ ap (sets room to) (one-found-line _ v x.comes.found l x.comes.line o)
  put-anyway (Ok (Unsure _)) x e l o = absurd (true≢false (sym e ∙ x.comes.0))
  put-anyway (Err why) x e l o = absurd (not-refused l (cause-at (cause-of x.comes.0) (some_number why)))

  module _ {why : Refusal} (x : Tries sheet k s place sure room to (Err why) later) where
    pub next-refused : PutsNext sheet k s place room to (Err why) later
    next-refused =
        subst (PutsNext sheet k s place room to (Err why)) (sym x.comes.1) (refuses (some_number why) (refusing (some_number why) (cause-of x.comes.0)))

    pub none-measured : Measures sheet k s place (Err why)
    none-measured = refuses (some_number why) (cause-of x.comes.0)

  module _ (t : Tried) (x : Tries sheet k s place sure room to (Ok t) later) where
    in-case : {q : Tried} → t ≡ q → Comes sheet k s place sure room to (Ok q) later
    in-case e = (subst (λ (q : Tried). Tries sheet k s place sure room to (Ok q) later) e x).comes

    pub never-unsure : {start : ℕ} {A : Type 0} → sure ≡ true → t ≡ Unsure start → A
    never-unsure h e = absurd (true≢false (sym h ∙ (in-case e).0))

    module _ {v : Listed} (e : t ≡ At v) where
      tried-at : Clipped sheet k s place sure room to v later
      tried-at = in-case e

      pub size-tried : InTypes sheet → to ≡ 0 → length s ≤ largest_place → Measures sheet k s place (Ok (record { start = v.start; len = v.len; size = v.behind }))
      size-tried types z h =
          let c = tried-at in
          let few : v.start < 10 ^ 20 = omega (arith, c.found.stands.inside) in
          answers {v = record { start = v.start; len = v.len; size = v.behind }} (cause-of (hit-found c.found))
          (record { from = c.from; end = c.end; found = c.found; text = c.text; line = c.line; size_is = omega (arith, c.put.behind, line-most types few c.line) })

      pub next-tried : sure ≡ false → to ≤ largest_place → PutsNext sheet k s place room to (Ok v) later
      next-tried h l =
          let c = tried-at in
          let f = c.fits h in
          answers {v = (v, later)} (enough c.found c.line f)
          (record { from = c.from; end = c.end; found = c.found; text = c.text; line = c.line; behind-is = omega (arith, c.put.behind, c.put.slice); room-is = c.put.room-is })

-- ---- what is measured

module _ {sheet : Option Lookup} {k : ℕ} {s : List ℕ} {place : ℕ} where
  module _ {v : Measured} (m : Measures sheet k s place (Ok v)) where
    size-next : NextSize sheet k s place v
    size-next = answered m refl

    pub measured-short : {room : List ℕ} {to left : ℕ} → left ≡ length room - to → left < v.size → PutsNext sheet k s place room to (Err NoRoom) room
    measured-short l h = let z = size-next in refuses (lit< tt) (too_few z.found z.line (omega (arith, z.size_is)))

    pub measured-put : {room later : List ℕ} {to left : ℕ} → left ≡ length room - to → v.size ≤ left → (t : Result Tried Refusal) → Tries sheet k s place true room to t later
        → PutsNext sheet k s place room to (Ok (record { start = v.start; len = v.len; behind = to + v.size })) later
    measured-put {room} {later} {to} l h t x =
        let z = size-next in
        let n = z.size_is in
        answers {v = (record { start = v.start; len = v.len; behind = to + v.size }, later)} (enough z.found z.line (omega arith))
        (record { from = z.from; end = z.end; found = z.found; text = z.text; line = z.line; behind-is = omega arith; room-is = put-anyway t x refl z.found z.line })

  pub none-next : (why : Refusal) {room : List ℕ} {to : ℕ} → Measures sheet k s place (Err why) → PutsNext sheet k s place room to (Err why) room
  none-next why m = refuses (some_number why) (refusing (some_number why) (cause-of m))

-- ---- from the start of what is found

module _ {k : ℕ} {s : List ℕ} {place : ℕ} {v : hits.Hit} (l : Leftmost k s place v) where
  at-start : Leftmost k s v.start v
  at-start =
      record {
        behind = omega arith;
        stands = l.stands;
        from_is = l.from_is;
        to_is = l.to_is;
        none_before = λ j m p q x. absurd (omega arith);
      }

  from_place : (u : hits.Hit) → Leftmost k s v.start u → Leftmost k s place u
  from_place u m = subst (Leftmost k s place) (leftmost-one v u at-start m) l

  module _ {sheet : Option Lookup} {left : ℕ} where
    cause-here : (i : ℕ) → NextCause sheet k s v.start left i → NextCause sheet k s place left i
    cause-here i (searched c) = absurd (not-refused at-start c)
    cause-here i (short {v = u} m o h) = short (from_place u m) o h

    cause-there : (i : ℕ) → NextCause sheet k s place left i → NextCause sheet k s v.start left i
    cause-there i (searched c) = absurd (not-refused l c)
    cause-there i (short {v = u} m o h) = short (subst (Leftmost k s v.start) (leftmost-one v u l m) at-start) o h

  -- what is next from there on is what is next from the place on
  pub next-from-place : {sheet : Option Lookup} {start : ℕ} {room later : List ℕ} {to : ℕ} (r : Result Listed Refusal) → v.start ≡ start → PutsNext sheet k s start room to r later → PutsNext sheet k s place room to r later
  next-from-place {sheet} {start} {room} {later} {to} r e a = go (subst (λ (i : ℕ). PutsNext sheet k s i room to r later) (sym e) a)
    where
      go : {n : ℕ} {w : Placed × List ℕ} → Answers {A = Placed × List ℕ} (zero_placed, room) (NextCause sheet k s v.start (length room - to)) (λ w. NextLine sheet k s v.start room to w.0 w.1) n w
          → Answers {A = Placed × List ℕ} (zero_placed, room) (NextCause sheet k s place (length room - to)) (λ w. NextLine sheet k s place room to w.0 w.1) n w
      go (answers f x) =
          answers (first-at (cause-here 0) cause-there f)
          (record { from = x.from; end = x.end; found = from_place _ x.found; text = x.text; line = x.line; behind-is = x.behind-is; room-is = x.room-is })
      go (refuses {no = n} p f) = refuses p (first-at (cause-here n) cause-there f)

-- so what is unsure is settled there
pub next-measured : {sheet : Option Lookup} {k : ℕ} {s : List ℕ} {place : ℕ} {sure : Bool} {room between : List ℕ} {to : ℕ} (t : Tried) → Tries sheet k s place sure room to (Ok t) between
    → {start : ℕ} → t ≡ Unsure start → (r : Result Listed Refusal) {later : List ℕ} → PutsNext sheet k s start between to r later → PutsNext sheet k s place room to r later
next-measured {sheet} {k} {s} {place} {sure} {room} {between} {to} t x {start} e r {later} a =
    let c = in-case t x e in
    next-from-place c.2.1 r c.2.2 (subst (λ (y : List ℕ). PutsNext sheet k s start y to r later) c.1 a)

-- ---- one answer

module _ {sheet : Option Lookup} {k : ℕ} {s : List ℕ} {place : ℕ} where
  -- what is found is one, and so is its line: so are whatever values the two make
  one-made : {A : Type 0} (make : hits.Hit → List ℕ → A) (u v : hits.Hit) {a b : List ℕ} → Leftmost k s place u → Leftmost k s place v
      → LineOf sheet k (frame_part s u) u.start a → LineOf sheet k (frame_part s v) v.start b → make u a ≡ make v b
  one-made make u v l m x y = ap₂ make (leftmost-one u v l m) (one-found-line u v l m x y)

  pub one-next-line : {room : List ℕ} {to : ℕ} (u v : Placed × List ℕ) → NextLine sheet k s place room to u.0 u.1 → NextLine sheet k s place room to v.0 v.1 → u ≡ v
  one-next-line {room} {to} u v a b = is u a ∙ one-made made (hit u a) (hit v b) a.found b.found a.line b.line ∙ sym (is v b)
    where
      made : hits.Hit → List ℕ → Placed × List ℕ
      made h t = (record { start = h.start; len = h.len; behind = to + length t }, sets room to t)

      hit : (u : Placed × List ℕ) → NextLine sheet k s place room to u.0 u.1 → hits.Hit
      hit u a = record { start = u.0.start; len = u.0.len; from = a.from; to = a.end }

      is : (u : Placed × List ℕ) (a : NextLine sheet k s place room to u.0 u.1) → u ≡ made (hit u a) a.text
      is u a = ap₂ (λ (n : ℕ) (x : List ℕ). (record { start = u.0.start; len = u.0.len; behind = n }, x)) a.behind-is a.room-is

  pub one-next-size : (u v : Size) → NextSize sheet k s place u → NextSize sheet k s place v → u ≡ v
  one-next-size u v a b = is u a ∙ one-made made (hit u a) (hit v b) a.found b.found a.line b.line ∙ sym (is v b)
    where
      made : hits.Hit → List ℕ → Size
      made h t = record { start = h.start; len = h.len; size = length t }

      hit : (u : Size) → NextSize sheet k s place u → hits.Hit
      hit u a = record { start = u.start; len = u.len; from = a.from; to = a.end }

      is : (u : Size) (a : NextSize sheet k s place u) → u ≡ made (hit u a) a.text
      is u a = ap (λ (n : ℕ). record { start = u.start; len = u.len; size = n }) a.size_is
