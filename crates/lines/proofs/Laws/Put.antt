-- What the writers of a line put is the line.
-- Assumes nothing.
use mathlib.Core.Path.{◌≡◌, refl, sym, ap, ◌∙◌}
use mathlib.Core.List.{List, [], ◌∷◌, ◌++◌, append_assoc, append-nil}
use mathlib.Core.Option.{Option}
use Prim.Native.Nat.{ℕ}
use Rattle.digits.specs.Paper.Ascii.{ascii}
use Rattle.digits.specs.Paper.Hex.{hex_byte, hex_bytes, hex_word}
use Rattle.json_values.specs.Paper.Json.{Member, member, number, further, object}
use Rattle.messages.specs.Paper.Message.{Message, name}
use Rattle.puts.specs.Paper.Put.{Put}
use Rattle.puts.proofs.Laws.Puts.{puts-as}
use Rattle.sheet.specs.Paper.Sheet.{Lookup}
use Rattle.lines.specs.Paper.Line.{high_byte_first, members}
use Rattle.lines.specs.Paper.WithSheet.{Share, nothing, share, by_share, behind_share, members_with, further_members, line_with}
use Rattle.lines.specs.Work.Put.{commaed, named, named_with}

-- nothing behind the last piece
pub last-put : {r s us : List ℕ} {a b : ℕ} → Put r s a b us → Put r s a b (us ++ [])
last-put {us = us} p = puts-as (sym (append-nil us)) p

-- "a Nikobus module address is shown high byte first": the digits of its number
pub word-shown : (a : ℕ) → hex_word a ≡ hex_bytes (high_byte_first a)
unfolding hex_word hex_bytes hex_byte
word-shown a = refl

-- ---- the line

furthered : (ms : List Member) → further ms ≡ commaed ms ++ ascii "}"
unfolding further commaed
furthered [] = refl
furthered (m ∷ ms) = ap (λ (x : List ℕ). 44 ∷ (member m ++ x)) (furthered ms) ∙ ap (λ (x : List ℕ). 44 ∷ x) (sym (append_assoc (member m) (commaed ms) (ascii "}")))

-- the pieces of a line, one behind the other
regroup : (a p l q n t c b e : List ℕ)
    → (a ++ (p ++ (l ++ (q ++ ((n ++ t) ++ (c ++ b)))))) ++ e ≡ a ++ (p ++ (l ++ (q ++ ((n ++ (t ++ c)) ++ (b ++ e)))))
regroup a p l q n t c b e = simp append_assoc refl

pub line-named : (sheet : Option Lookup) (at len : ℕ) (m : Message)
    → ascii "{\"at\":" ++ (number at ++ (ascii ",\"len\":" ++ (number len ++ (ascii ",\"msg\":\"" ++ (named_with sheet m ++ ascii "}\n"))))) ≡ line_with sheet at len m
unfolding line_with named_with object further
line-named sheet at len m =
    let p : List ℕ = ascii ",\"len\":" in
    let q : List ℕ = ascii ",\"msg\":\"" in
    let t : List ℕ = 34 ∷ [] in
    let ms = members_with sheet m ++ further_members sheet m in
    sym
    (ap (λ (x : List ℕ). ascii "{\"at\":" ++ ((number at ++ (p ++ (number len ++ (q ++ ((name m ++ t) ++ x))))) ++ ascii "\n")) (furthered ms)
    ∙ ap (λ (x : List ℕ). ascii "{\"at\":" ++ x) (regroup (number at) p (number len) q (name m) t (commaed ms) (ascii "}") (ascii "\n")))

-- ---- where a sheet has no say

pub members-unshared : (sheet : Option Lookup) (m : Message) → share m ≡ nothing → members_with sheet m ++ further_members sheet m ≡ members m
unfolding members_with further_members
members-unshared sheet m e = ap (λ (x : Share). by_share sheet x (members m) ++ behind_share sheet x) e ∙ append-nil (members m)

pub named-unshared : (sheet : Option Lookup) (m : Message) → share m ≡ nothing → named m ≡ named_with sheet m
unfolding named named_with
named-unshared sheet m e = ap (λ (ms : List Member). name m ++ (34 ∷ commaed ms)) (sym (members-unshared sheet m e))
