-- THE THREE DEMANDS. What is claimed stands in specs/Paper: Row (demand 1, of one function), Demands (2 and 3); here it is proved, by
-- what each crate has proved. The rows, which tie the claims to the functions, are in Table.
-- Assumes nothing.
use Rattle.std.specs.Prelude.{Ok, Err, Result}
use mathlib.Core.Bool.{true, true≢false, false≢true}
use mathlib.Core.List.{List, [], ◌∷◌, ◌++◌, map}
use mathlib.Core.Path.{◌≡◌, refl, sym, ◌∙◌, subst}
use Prim.Native.Nat.{ℕ, ◌≤◌}
use native.Mathlib.Omega.{arith}
use lib.ListN.{length, take}
use mir.Syntax.{Symbol as Name}
use Rattle.digits.proofs.Laws.Refusals.{one-refusal, some_number, cause-at, cause-of, keep, answered}
use Rattle.digits.specs.Paper.Refusals.{refusal_number, refusal_order}
use Rattle.digits.specs.declared.refusal.Refusal.{Refusal}
use Rattle.digits.specs.declared.refusal.Refusal.TheVariants.{NoFrame}
use Rattle.numbers.proofs.Theorems.Text.{exact, written-then-read, read-then-written}
use Rattle.puts.specs.Paper.Wrote.{written_refusal, written_count, Written}
use Rattle.layouts.specs.Paper.Chars.{one_of}
use Rattle.frames.specs.Paper.Kinds.{known, Frame}
use Rattle.frames.specs.Paper.Search.{SearchCause, no-frame, no_kind, no_place, Searches}
use Rattle.frames.specs.declared.Found.{Found}
use Rattle.frames.proofs.Demand as frames-demand
use Rattle.frames.proofs.Theorems.{one-length}
use Rattle.frames.proofs.Laws.Kinds.{frame-known}
use Rattle.frames.proofs.Laws.Runs as runs
use Rattle.messages.specs.Paper.Answers.{DecodeCause, no_kind as unknown, no-message, Said, Decodes}
use Rattle.messages.specs.Paper.Says.{Says}
use Rattle.messages.specs.declared.Decoded.{Decoded}
use Rattle.messages.specs.declared.Message.{Message as Coded}
use Rattle.messages.proofs.Laws.Cases.{said_in}
use Rattle.messages.proofs.Laws.Decode.{is-frame}
use Rattle.messages.proofs.Theorems.{has-message, one-message-of, stands-bytes}
use Rattle.commands.specs.Paper.Answers.{Encodes}
use Rattle.commands.proofs.Theorems.{same_bytes, encoded-decodes}
use Rattle.lines.proofs.Theorems.{plain-line, has-line, one_line, same-frame, written-line}
use Rattle.book.proofs.Theorems.{written_entry, written-lines}
use Rattle.list.proofs.Theorems.{written-listing, its-length, adds-up, in-no-frame}
use Rattle.claims.specs.Paper.Functions.{functions}
use Rattle.claims.specs.Paper.Row.{Row, Proper, Every, none, and, listed}
use Rattle.claims.proofs.Table.Digits as digits
use Rattle.claims.proofs.Table.Checks as checks
use Rattle.claims.proofs.Table.Puts as puts
use Rattle.claims.proofs.Table.Numbers as numbers
use Rattle.claims.proofs.Table.Json as json
use Rattle.claims.proofs.Table.Sheet as sheet
use Rattle.claims.proofs.Table.Jsontext as jsontext
use Rattle.claims.proofs.Table.Layouts as layouts
use Rattle.claims.proofs.Table.Builds as builds
use Rattle.claims.proofs.Table.Frames as frames
use Rattle.claims.proofs.Table.Messages as messages
use Rattle.claims.proofs.Table.Commands as commands
use Rattle.claims.proofs.Table.Shapes as shapes
use Rattle.claims.proofs.Table.Asked as asked
use Rattle.claims.proofs.Table.Lines as lines
use Rattle.claims.proofs.Table.Book as book
use Rattle.claims.proofs.Table.List as list
use Rattle.claims.proofs.Table.Host as host
use Rattle.claims.specs.Paper.Demands.{LeftmostOrNone, leftmost, none-exists, DecodedAs, Demand2, Demand3}

-- ---- DEMAND 1

-- every public function, from the lowest crate up; what is said of one is `Proper`
abbrev pub table : List Row
table =
    digits.rows
    ++ (checks.rows
    ++ (puts.rows
    ++ (numbers.rows
    ++ (json.rows
    ++ (sheet.rows
    ++ (jsontext.rows
    ++ (layouts.rows
    ++ (builds.rows
    ++ (frames.rows
    ++ (messages.rows
    ++ (commands.rows
    ++ (lines.rows
    ++ (shapes.rows
    ++ (asked.rows
    ++ (book.rows
    ++ (list.rows
    ++ host.rows))))))))))))))))

-- the functions of two lists
joined : {Property : Row → Type 3} {xs ys : List Row} → Every Property xs → Every Property ys → Every Property (xs ++ ys)
joined none k = k
joined (and h later) k = and h (joined later k)

pub demand-1 : Every Proper table
demand-1 =
    joined digits.rows-proper
    (joined checks.rows-proper
    (joined puts.rows-proper
    (joined numbers.rows-proper
    (joined json.rows-proper
    (joined sheet.rows-proper
    (joined jsontext.rows-proper
    (joined layouts.rows-proper
    (joined builds.rows-proper
    (joined frames.rows-proper
    (joined messages.rows-proper
    (joined commands.rows-proper
    (joined lines.rows-proper
    (joined shapes.rows-proper
    (joined asked.rows-proper
    (joined book.rows-proper
    (joined list.rows-proper
    host.rows-proper))))))))))))))))

-- these are the functions that are listed, with the numbers that they refuse with
pub the-table : map listed table ≡ functions
the-table = refl

-- that order is the paper's
pub in_order : map (λ (f : Name × List ℕ). keep (λ n. one_of f.1 n) refusal_order) functions ≡ map (λ (f : Name × List ℕ). f.1) functions
unfolding one_of
in_order = refl

-- ---- DEMAND 2

-- a known kind and a place in the buffer leave the search one refusal
searched : {k place : ℕ} {s : List ℕ} → known k ≡ true → place ≤ length s → (r : Result Found Refusal) → Searches k s place r → LeftmostOrNone k s place r
searched kind inside (Ok v) a = leftmost (runs.leftmost a)
searched {k} {place} {s} kind inside (Err why) a = of (refusal_number why) (cause-at (cause-of a) (some_number why)) refl
  where
    of : (n : ℕ) → SearchCause k s place n → n ≡ refusal_number why → LeftmostOrNone k s place (Err why)
    of n (no-frame h) e = subst (λ (p : Refusal). LeftmostOrNone k s place (Err p)) (one-refusal NoFrame why e) (none-exists h)
    of n (no_kind h) e = absurd (false≢true (sym h ∙ kind))
    of n (no_place h) e = absurd (omega (arith, h, inside))

-- a frame is never refused by the decoder
decoded : {k : ℕ} {f : List ℕ} → Frame k f → (r : Result Decoded Refusal) → Decodes k f r → (e : Coded) × DecodedAs k f e r
decoded h (Ok v) a = (v.message, record { from = v.from; to = v.to; answer = refl; said = said_in a })
decoded {k} {f} h (Err why) a = absurd (never (cause-at (cause-of a) (some_number why)))
  where
    never : {n : ℕ} → DecodeCause k f n → ⊥
    never (unknown e) = true≢false (sym (frame-known h) ∙ e)
    never (no-message f) = let m = has-message h in f m.0 m.1

-- what the encoder has written is decoded to what was encoded
same : {k : ℕ} (e : Coded) (s room later : List ℕ) (r : Written) → Encodes k e s room r later → written_refusal r ≡ 0 → (d : Result Decoded Refusal)
    → Decodes k (take (written_count r) later) d → (a : DecodedAs k (take (written_count r) later) e d) × Says e s a.said.message
same e s room later r w z d a =
    let x = encoded-decodes e s room later r w z d a in (record { from = x.0; to = x.1; answer = x.2; said = x.3 }, x.4)

pub demand-2 : Demand2
demand-2 =
    record {
      search = searched;
      one-length = one-length;
      a-message = has-message;
      one-message = one-message-of;
      a-frame = is-frame;
      its-bytes = stands-bytes;
      decoded = decoded;
      no-sheet = plain-line;
      a-line = has-line;
      one_line = one_line;
      of-one-frame = same-frame;
      line-written = written-line;
      next-line-put = λ r p z. answered p z;
      entry-line-written = written_entry;
      book-lines-written = written-lines;
      listing-written = written-listing;
      listing-by-map = λ map. written-listing;
      listing-by-text = λ text. written-listing;
      listed-length = its-length;
      listed-all = adds-up;
      skipped = in-no-frame;
      same-message = same;
      same_bytes = same_bytes;
      exact = exact;
      reads-back = written-then-read;
      written-so = read-then-written;
    }

-- ---- DEMAND 3

pub demand-3 : Demand3
demand-3 =
    record {
      each-carries = frames-demand.each-carries;
      only-those = frames-demand.only-those;
      what-carries = frames-demand.what-carries;
      passes = frames-demand.passes;
      found = frames-demand.demand-3;
    }
