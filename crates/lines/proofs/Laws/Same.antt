-- Two messages with the same line at the same place are the same: place and length end where they end, then the name, which says what
-- members follow and how they are spelt, then each member's value.
-- Assumes nothing.
use mathlib.Core.List.{List, ◌∷◌, ◌++◌}
use mathlib.Core.Option.{Option}
use mathlib.Core.Path.{◌≡◌, refl, sym, ap, ◌∙◌, subst}
use Prim.Native.Nat.{ℕ}
use lib.ListN.{length}
use Rattle.frames.specs.Paper.Kinds.{number_of}
use Rattle.digits.specs.Paper.Ascii.{ascii}
use Rattle.messages.specs.Paper.Message.{Message, name}
use Rattle.messages.specs.Paper.Content.{kind_of}
use Rattle.messages.specs.Paper.Table.{content_of, bytes, Limits}
use Rattle.messages.proofs.Theorems.{stands-bytes, stands-kind}
use Rattle.json_values.specs.Paper.Json.{Member, ◌∶◌, further, number, quoted}
use Rattle.json_values.proofs.Laws.Tokens.{number-token, quoted-token, next-member, first_member}
use Rattle.lines.specs.Paper.Answers.{LineOf}
use Rattle.sheet.specs.Paper.Sheet.{Lookup}
use Rattle.lines.specs.Paper.WithSheet.{members_with, further_members, line_with}
use Rattle.lines.specs.Work.Values.{Of, Columns, close, column, Values, members_of, Form, form_of, values, form_named}
use Rattle.lines.proofs.Laws.Values.{spelt-as, made, token, AllProper, proper}

-- values of the same columns, whatever members stand behind them
same-values : (cs : Columns) (u v : Values cs) (xs ys : List Member) (s t : List ℕ) → AllProper cs u → AllProper cs v
    → further (members_of cs u ++ xs) ++ s ≡ further (members_of cs v ++ ys) ++ t → u ≡ v
same-values close u v xs ys s t p q e = refl
same-values (column n k cs) u v xs ys s t p q e =
    let r = next-member (token k) n u.0 v.0 p.0 q.0 (members_of (cs u.0) u.1 ++ xs) (members_of (cs v.0) v.1 ++ ys) s t e in
    subst
    (λ (y : Of k). (w : Values (cs y)) → AllProper (cs y) w → further (members_of (cs u.0) u.1 ++ xs) ++ s ≡ further (members_of (cs y) w ++ ys) ++ t
    → u ≡ (y, w))
    r.0 (λ w b f. ap (λ (x : Values (cs u.0)). (u.0, x)) (same-values (cs u.0) u.1 w xs ys s t p.1 b f)) v.1 q.1 r.1

-- values of the same form
same-form : (A B : Form) → A ≡ B → (u : Values A.columns) (v : Values B.columns) (xs ys : List Member) (s t : List ℕ) → AllProper A.columns u
    → AllProper B.columns v → further (members_of A.columns u ++ xs) ++ s ≡ further (members_of B.columns v ++ ys) ++ t → A.message u ≡ B.message v
same-form A B e u =
    subst (λ (C : Form). (v : Values C.columns) (xs ys : List Member) (s t : List ℕ) → AllProper A.columns u → AllProper C.columns v
    → further (members_of A.columns u ++ xs) ++ s ≡ further (members_of C.columns v ++ ys) ++ t → A.message u ≡ C.message v) e
    (λ v xs ys s t p q f. ap A.message (same-values A.columns u v xs ys s t p q f))

module _ (sheet : Option Lookup) where
  same-message : (m n : Message) (xs ys : List Member) (s t : List ℕ) → Limits m → Limits n → name m ≡ name n
      → further (members_with sheet m ++ xs) ++ s ≡ further (members_with sheet n ++ ys) ++ t → m ≡ n
  same-message m n xs ys s t l k e f =
      let g : form_of sheet m ≡ form_of sheet n = sym (spelt-as sheet m).named ∙ ap (form_named sheet) e ∙ (spelt-as sheet n).named in
      let h : further (members_of (form_of sheet m).columns (values sheet m) ++ xs) ++ s ≡ further (members_of (form_of sheet n).columns (values sheet n) ++ ys) ++ t
      = ap (λ (x : List Member). further (x ++ xs) ++ s) (sym (spelt-as sheet m).spelling) ∙ f ∙ ap (λ (x : List Member). further (x ++ ys) ++ t) (spelt-as sheet n).spelling in
      sym (made sheet m) ∙ same-form (form_of sheet m) (form_of sheet n) g (values sheet m) (values sheet n) xs ys s t (proper sheet m l) (proper sheet n k) h ∙ made sheet n

  -- what stands behind `at` and behind `len`
  abbrev from_msg : Message → List Member
  from_msg m = ascii "msg" ∶ quoted (name m) ∷ (members_with sheet m ++ further_members sheet m)

  abbrev sized : ℕ → Message → List Member
  sized len m = ascii "len" ∶ number len ∷ from_msg m

  -- A LINE SAYS ITS FRAME'S PLACE AND MESSAGE, under one sheet
  pub one_line : (at there : ℕ) (m n : Message) → Limits m → Limits n
      → line_with sheet at (length (bytes m)) m ≡ line_with sheet there (length (bytes n)) n → (at ≡ there) × (m ≡ n)
  unfolding line_with
  one_line at there m n l k e =
      let a = length (bytes m) in
      let b = length (bytes n) in
      let ms = members_with sheet m ++ further_members sheet m in
      let ns = members_with sheet n ++ further_members sheet n in
      let f = first_member number-token (ascii "at") at there tt tt (sized a m) (sized b n) (ascii "\n") (ascii "\n") e in
      let g = next-member number-token (ascii "len") a b tt tt (from_msg m) (from_msg n) (ascii "\n") (ascii "\n") f.1 in
      let h = next-member quoted-token (ascii "msg") (name m) (name n) (spelt-as sheet m).plain (spelt-as sheet n).plain ms ns (ascii "\n") (ascii "\n") g.1 in
      (f.0, same-message m n (further_members sheet m) (further_members sheet n) (ascii "\n") (ascii "\n") l k h.0 h.1)

-- AND SO THE SAME FRAME, OF THE SAME KIND
pub same-frame : {sheet : Option Lookup} {k j : ℕ} {f g : List ℕ} {at there : ℕ} {t : List ℕ} → LineOf sheet k f at t → LineOf sheet j g there t
    → (at ≡ there) × (k ≡ j) × (f ≡ g)
same-frame {sheet} {at = at} {there = there} a b =
    let m = a.message in
    let n = b.message in
    let f = stands-bytes a.stands in
    let g = stands-bytes b.stands in
    let x = ap (λ (s : List ℕ). line_with sheet at (length s) m) (sym f) in
    let y = ap (λ (s : List ℕ). line_with sheet there (length s) n) (sym g) in
    let r = one_line sheet at there m n a.stands.good.limits b.stands.good.limits (x ∙ sym a.is ∙ b.is ∙ sym y) in
    (r.0, sym (stands-kind a.stands) ∙ ap (λ (o : Message). number_of (kind_of (content_of o))) r.1 ∙ stands-kind b.stands, f ∙ ap bytes r.1 ∙ sym g)
