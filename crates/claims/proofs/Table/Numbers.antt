-- The public functions of `numbers`: each keeps its claim.
-- Assumes nothing.
use Rattle.puts.proofs.Unique.{one_written}
use mathlib.Core.Bool.{Bool}
use mathlib.Core.List.{List, [], ◌∷◌}
use mathlib.Core.Path.{refl}
use Prim.Native.Nat.{ℕ}
use lib.IntN.{ℤ}
use native.Mathlib.Omega.{arith}
use Rattle.numbers.specs.Paper.Answers.{TextCause, ValueCause, BytesCause, RangeCause}
use Rattle.numbers.specs.Paper.Text.{text}
use Rattle.numbers.proofs.Unique as unique
use Rattle.numbers.proofs as numbers
use Rattle.claims.specs.Paper.Claim.{OneOf, here, there}
use Rattle.claims.specs.Paper.Row.{Row, Proper, Every, none, and, promise}
use Rattle.claims.specs.Paper.Function.{function_of}
use Rattle.claims.specs.Paper.Table.Numbers as claims
use Rattle.claims.proofs.Laws.Forms.{fronted-these, these-fronted, answers-read, reads-answered, read-stated, placed}
use Rattle.claims.proofs.Laws.Keeps.{keeps-as}
use Rattle.claims.proofs.Occur as inputs

pub out_of_range : {z : ℤ} {no : ℕ} → RangeCause z no → OneOf no (5 ∷ [])
out_of_range (RangeCause.range h) = here

pub text-stated : {z : ℤ} {d n no : ℕ} → TextCause z d n no → OneOf no (7 ∷ 5 ∷ 4 ∷ [])
text-stated (TextCause.decimals h) = here
text-stated (TextCause.range h) = there here
text-stated (TextCause.room h) = there (there here)

pub byte-values-write-stated : {w : ℕ} {signed : Bool} {z : ℤ} {n no : ℕ} → ValueCause w signed z n no → OneOf no (7 ∷ 5 ∷ 4 ∷ [])
byte-values-write-stated (ValueCause.width h) = here
byte-values-write-stated (ValueCause.held h) = there here
byte-values-write-stated (ValueCause.room h) = there (there here)

abbrev pub byte-values-write : Row
byte-values-write =
    record {
      function = function_of numbers.byte_values.write.Symbol.symbol numbers.byte_values.write.Kinds.ps
          numbers.byte_values.write.Kinds.r numbers.byte_values.write.Symbol.code;
      claim = λ κs. claims.byte-values-write;
      args = λ κs a. record { raw = a.0; width = a.1.0; signed = a.1.1.0; room = a.1.1.1.0.now };
      later = λ κs s. s.1.1.1.0.now;
    }

pub byte-values-write-proper : Proper byte-values-write
byte-values-write-proper =
    record {
      named = λ κs. refl;
      keeps = keeps-as byte-values-write.function numbers.byte_values.write.Reads.Post (promise byte-values-write)
          (λ κs a r ws p. fronted-these p)
          (λ w. numbers.byte_values.write.Met.met w.𝓤 w.𝓛 w.𝓜 w.𝓡);
      stated = λ κs a no c. byte-values-write-stated c;
      occurs = λ κs. inputs.byte-values-write;
      one = λ κs a r q ws vs x y. placed (λ (l : List ℕ). (tt, (tt, (tt, (l, tt)))))
          (one_written {r = r} {q = q} (these-fronted x) (these-fronted y));
    }

pub byte-values-read-stated : {w : ℕ} {s : List ℕ} {no : ℕ} → BytesCause w s no → OneOf no (7 ∷ 5 ∷ [])
byte-values-read-stated (BytesCause.width h) = here
byte-values-read-stated (BytesCause.count h) = there here

abbrev pub byte-values-read : Row
byte-values-read =
    record {
      function = function_of numbers.byte_values.read.Symbol.symbol numbers.byte_values.read.Kinds.ps
          numbers.byte_values.read.Kinds.r numbers.byte_values.read.Symbol.code;
      claim = λ κs. claims.byte-values-read;
      args = λ κs a. record { s = a.0.now; width = a.1.0; signed = a.1.1.0 };
      later = λ κs s. [];
    }

pub byte-values-read-proper : Proper byte-values-read
byte-values-read-proper =
    record {
      named = λ κs. refl;
      keeps = λ w. numbers.byte_values.read.Met.met w.𝓤 w.𝓛 w.𝓜 w.𝓡;
      stated = λ κs a no c. byte-values-read-stated c;
      occurs = λ κs. inputs.byte-values-read;
      one = λ κs a r q ws vs x y. (unique.value_read _ _ _ r q x y, refl);
    }

abbrev pub panel-of : Row
panel-of =
    record {
      function = function_of numbers.panel.of.Symbol.symbol numbers.panel.of.Kinds.ps numbers.panel.of.Kinds.r
          numbers.panel.of.Symbol.code;
      claim = λ κs. claims.panel-of;
      args = λ κs a. record { raw = a.0 };
      later = λ κs s. [];
    }

pub panel-of-proper : Proper panel-of
panel-of-proper =
    record {
      named = λ κs. refl;
      keeps = λ w. numbers.panel.of.Met.met w.𝓤 w.𝓛 w.𝓜 w.𝓡;
      stated = λ κs a no c. out_of_range c;
      occurs = λ κs. inputs.panel-of;
      one = λ κs a r q ws vs x y. (unique.panel-shown _ r q x y, refl);
    }

abbrev pub panel-pair : Row
panel-pair =
    record {
      function = function_of numbers.panel.pair.Symbol.symbol numbers.panel.pair.Kinds.ps numbers.panel.pair.Kinds.r
          numbers.panel.pair.Symbol.code;
      claim = λ κs. claims.panel-pair;
      args = λ κs a. record { temperature = a.0; humidity = a.1.0 };
      later = λ κs s. [];
    }

pub panel-pair-proper : Proper panel-pair
panel-pair-proper =
    record {
      named = λ κs. refl;
      keeps = λ w. numbers.panel.pair.Met.met w.𝓤 w.𝓛 w.𝓜 w.𝓡;
      stated = λ κs a no c. absurd c;
      occurs = λ κs. tt;
      one = λ κs a r q ws vs x y. (unique.climate _ _ r q x y, refl);
    }

abbrev pub single-fits : Row
single-fits =
    record {
      function = function_of numbers.single.fits.Symbol.symbol numbers.single.fits.Kinds.ps numbers.single.fits.Kinds.r
          numbers.single.fits.Symbol.code;
      claim = λ κs. claims.single-fits;
      args = λ κs a. record { raw = a.0 };
      later = λ κs s. [];
    }

pub single-fits-proper : Proper single-fits
single-fits-proper =
    record {
      named = λ κs. refl;
      keeps = λ w. numbers.single.fits.Met.met w.𝓤 w.𝓛 w.𝓜 w.𝓡;
      stated = λ κs a no c. out_of_range c;
      occurs = λ κs. inputs.single-fits;
      one = λ κs a r q ws vs x y. (unique.fits _ r q x y, refl);
    }

abbrev pub text-write : Row
text-write =
    record {
      function = function_of numbers.text.write.Symbol.symbol numbers.text.write.Kinds.ps numbers.text.write.Kinds.r
          numbers.text.write.Symbol.code;
      claim = λ κs. claims.text-write;
      args = λ κs a. record { raw = a.0; decimals = a.1.0; room = a.1.1.0.now };
      later = λ κs s. s.1.1.0.now;
    }

pub text-write-proper : Proper text-write
text-write-proper =
    record {
      named = λ κs. refl;
      keeps = keeps-as text-write.function numbers.text.write.Reads.Post (promise text-write)
          (λ κs a r ws p. fronted-these p) (λ w. numbers.text.write.Met.met w.𝓤 w.𝓛 w.𝓜 w.𝓡);
      stated = λ κs a no c. text-stated c;
      occurs = λ κs. inputs.text-write;
      one = λ κs a r q ws vs x y. placed (λ (l : List ℕ). (tt, (tt, (l, tt))))
          (one_written {r = r} {q = q} (these-fronted x) (these-fronted y));
    }

abbrev pub text-read : Row
text-read =
    record {
      function = function_of numbers.text.read.Symbol.symbol numbers.text.read.Kinds.ps numbers.text.read.Kinds.r
          numbers.text.read.Symbol.code;
      claim = λ κs. claims.text-read;
      args = λ κs a. record { t = a.0.now };
      later = λ κs s. [];
    }

pub text-read-proper : Proper text-read
text-read-proper =
    record {
      named = λ κs. refl;
      keeps = keeps-as text-read.function numbers.text.read.Reads.Post (promise text-read)
          (λ κs a r ws p. answers-read refl (omega arith) p)
          (λ w. numbers.text.read.Met.met w.𝓤 w.𝓛 w.𝓜 w.𝓡);
      stated = λ κs a no c. read-stated c;
      occurs = λ κs. inputs.text-read;
      one = λ κs a r q ws vs x y. (unique.text-read _ r q (reads-answered x) (reads-answered y), refl);
    }

-- ---- all of them

abbrev pub rows : List Row
rows = byte-values-write ∷ byte-values-read ∷ panel-of ∷ panel-pair ∷ single-fits ∷ text-write ∷ text-read ∷ []

pub rows-proper : Every Proper rows
rows-proper =
    and byte-values-write-proper
    (and byte-values-read-proper
    (and panel-of-proper
    (and panel-pair-proper
    (and single-fits-proper
    (and text-write-proper
    (and text-read-proper none))))))
