-- What is claimed of a public function: its name, its arguments under their own names, the numbers that it refuses
-- with and the cause of each, and what a right answer is. 01, "Refusal numbers": "Refusals return zeros and write
-- nothing. An answer writes only its own bytes; the rest of the room keeps its values."
-- Assumes nothing.
use Rattle.std.specs.Prelude.{List, [], ◌∷◌, ◌++◌, ◌≡◌, ℕ, length, drop}
use Rattle.std.specs.Borrow.{Bor}
use mir.Syntax.{Symbol as Name}
use Rattle.digits.specs.Paper.Part.{Ends, HandsPart}
use Rattle.digits.specs.Paper.Refusals.{Answers}
use Rattle.puts.specs.Paper.Put.{Put}
use Rattle.puts.specs.Paper.Right.{AnswersInto}
use Rattle.puts.specs.Paper.Wrote.{written_refusal, written_count, Written}

-- ---- the five forms of an answer

-- a function that puts bytes at a place of a lent room
pub record Puts (Args : Type 0) : Type 0 where
  pub room : Args → List ℕ
  pub place : Args → ℕ
  pub bytes : Args → List ℕ

-- A function that may refuse. `refusal` and `value` read its result: a refusal number, which is 0 if it answers, and
-- a value. `zeros` is the value of every refusal ("Refusals return zeros"). `Right` says which values are right for
-- its arguments.
pub record Refuses (Args Result Value : Type 0) : Type 1 where
  pub refusal : Result → ℕ
  pub value : Result → Value
  pub zeros : Value
  pub Right : Args → Value → Type 0

-- The same beside a lent room: `Right` speaks of the value and of the room afterwards.
pub record Writes (Args Result Value : Type 0) : Type 1 where
  pub refusal : Result → ℕ
  pub value : Result → Value
  pub zeros : Value
  pub room : Args → List ℕ
  pub Right : Args → Value → List ℕ → Type 0

-- How a function answers, from its arguments and its result's type:
pub data Form (Args : Type 0) : (Result : Type 0) → Type 1 where
  -- it refuses nothing, and no room is lent to it: its result is right
  answers : {R : Type 0} (Right : Args → R → Type 0) → Form Args R
  -- it refuses nothing: it puts these bytes at a place of a lent room, as far as the room goes, and answers the place
  -- behind them
  puts : Puts Args → Form Args ℕ
  -- it answers a right value, or a refusal's number and zeros
  refuses : {R A : Type 0} → Refuses Args R A → Form Args R
  -- the same beside a lent room: the value and the room afterwards are right, or the room is as it was
  writes : {R A : Type 0} → Writes Args R A → Form Args R
  -- it hands back a part of lent bytes: from one right end to the other, or an empty part
  hands : (lent : Args → Bor (List ℕ)) (Right : Args → Ends → Type 0) → Form Args (Bor (List ℕ))

-- what is promised of a result and of the lent room afterwards; `Cause` gives the causes of the refusals
abbrev pub Promised : {Args R : Type 0} → (Args → ℕ → Type 0) → Form Args R → Args → R → List ℕ
    → Type 0
Promised Cause (answers Right) a r later = Right a r
Promised Cause (puts f) a r later = Put (f.room a) later (f.place a) r (f.bytes a)
Promised Cause (refuses f) a r later = Answers f.zeros (Cause a) (f.Right a) (f.refusal r) (f.value r)
Promised Cause (writes f) a r later =
    AnswersInto f.zeros (f.room a) (Cause a) (f.Right a) (f.refusal r) (f.value r) later
Promised Cause (hands lent Right) a r later = HandsPart (Cause a) (Right a) (lent a) r

-- when two results are the same; a part is its place and its bytes (its name in the logic is none of the machine's)
abbrev pub Same : {Args R : Type 0} → Form Args R → R → R → Type 0
Same (answers Right) r q = r ≡ q
Same (puts f) r q = r ≡ q
Same (refuses f) r q = r ≡ q
Same (writes f) r q = r ≡ q
Same (hands lent Right) r q = (r.ref_ptr ≡ q.ref_ptr) × (r.now ≡ q.now)

-- ---- a claim

pub record Claim (Result : Type 0) : Type 1 where
  pub name : Name
  -- the arguments: a record whose fields have the parameters' names; of lent bytes it has the bytes,
  -- and of those of which a part is handed back their place, too
  pub Args : Type 0
  -- the numbers that it refuses with, in the order in which they are tested, and the cause of each
  pub refusals : List ℕ
  pub Cause : Args → ℕ → Type 0
  -- what a right answer is
  pub form : Form Args Result

-- the number is one of the list
pub data OneOf (no : ℕ) : List ℕ → Type 0 where
  here : {later : List ℕ} → OneOf no (no ∷ later)
  there : {other : ℕ} {later : List ℕ} → OneOf no later → OneOf no (other ∷ later)

-- for each number of the list there are arguments with its cause
abbrev pub Occur : {Args : Type 0} → (Args → ℕ → Type 0) → List ℕ → Type 0
Occur Cause [] = Unit {0}
Occur {Args} Cause (n ∷ later) = ((a : Args) × Cause a n) × Occur Cause later

-- ---- claims of functions that refuse nothing

abbrev pub NeverRefused : ℕ → Type 0
NeverRefused n = ⊥

-- a function that refuses nothing
abbrev pub answering : {Args R : Type 0} (name : Name) (Right : Args → R → Type 0) → Claim R
answering {Args} name Right =
    record { name = name; Args = Args; refusals = []; Cause = λ a. NeverRefused; form = answers Right }

-- one that puts bytes
abbrev pub putting : {Args : Type 0} (name : Name) → Puts Args → Claim ℕ
putting {Args} name f =
    record { name = name; Args = Args; refusals = []; Cause = λ a. NeverRefused; form = puts f }

-- ---- readers and writers

-- why a reader refuses, with the one number that it has: no value within its limits is written so
pub data Unread {A : Type 0} (Limits : A → Type 0) (write : A → List ℕ) (no : ℕ) (s : List ℕ)
    : ℕ → Type 0 where
  unread : ((v : A) → Limits v → write v ≡ s → ⊥) → Unread Limits write no s no

-- A reader of a text, with the one number that it refuses with. Its result is read as in `Refuses`. `Limits` are
-- those of the values, `write` is how a value is written, and `text` is what is read.
pub record Reader (Args Result Value : Type 0) : Type 1 where
  pub refuses-with : ℕ
  pub refusal : Result → ℕ
  pub value : Result → Value
  pub zeros : Value
  pub Limits : Args → Value → Type 0
  pub write : Args → Value → List ℕ
  pub text : Args → List ℕ

-- the right value is the one within its limits that is written so
abbrev pub reading : {Args R A : Type 0} (name : Name) → Reader Args R A → Claim R
reading {Args} name f =
    record {
      name = name;
      Args = Args;
      refusals = f.refuses-with ∷ [];
      Cause = λ a. Unread (f.Limits a) (f.write a) f.refuses-with (f.text a);
      form = refuses
          (record {
            refusal = f.refusal;
            value = f.value;
            zeros = f.zeros;
            Right = λ a v. f.Limits a v × (f.write a v ≡ f.text a);
          });
    }

-- `count` right bytes stand at the front of the room, and the rest of it is as it was
pub record Fronted (Right : List ℕ → Type 0) (room : List ℕ) (count : ℕ) (later : List ℕ) : Type 0 where
  pub bytes : List ℕ
  pub right : Right bytes
  pub count-is : count ≡ length bytes
  pub room-is : later ≡ bytes ++ drop (length bytes) room

-- a writer from the front of a lent room
abbrev pub fronts : {Args : Type 0} (room : Args → List ℕ) (Right : Args → List ℕ → Type 0)
    → Form Args Written
fronts room Right =
    writes
    (record {
      refusal = written_refusal;
      value = written_count;
      zeros = 0;
      room = room;
      Right = λ a. Fronted (Right a) (room a);
    })
