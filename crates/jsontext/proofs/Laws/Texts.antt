-- A text that stands at a place.
-- Assumes nothing.
use mathlib.Core.Path.{◌≡◌, refl, sym, ap, ◌∙◌}
use mathlib.Core.List.{List, ◌++◌}
use Prim.Native.Nat.{ℕ, ◌+◌, ◌-◌, ◌≤◌, ◌<◌}
use native.Mathlib.Omega.{arith}
use lib.ListN.{length, take, drop, length-drop, length-append, take-append-drop}
use lib.Seq.{drop-drop, drop_at, take_all, take-append_seam}
use Rattle.std.specs.Prelude.{None, Some}
use Rattle.jsontext.specs.Paper.Abnf.{text}
use Rattle.jsontext.specs.Work.Found.{Found, ends, none}

-- what stands from p on, as a slice of s
whole : (s : List ℕ) (p : ℕ) → take (length s - p) (drop p s) ≡ drop p s
whole s p = take_all (length s - p) (drop p s) (omega (arith, length-drop p s))

module _ {s : List ℕ} (w : List ℕ) {p : ℕ} where
  pub short : length s < p + length w → 0 < length w → Found (text w) s p None
  short h k = none (λ t e. absurd (omega (arith, ap length e, length-drop p s, length-append w t)))

  pub differs : ((w ≡ take (length w) (take (length s - p) (drop p s))) → ⊥) → Found (text w) s p None
  differs f = none (λ t e. f (sym (ap (take (length w)) (whole s p ∙ e) ∙ take-append_seam w t)))

  pub equals : 0 < length w → length w ≤ length (take (length s - p) (drop p s)) → p < length s
      → w ≡ take (length w) (take (length s - p) (drop p s)) → Found (text w) s p (Some (p + length w))
  equals k h q f =
      let l : p < p + length w = omega arith in
      let n : p + length w ≤ length s = omega (arith, h, ap length (whole s p), length-drop p s) in
      let front : take (length w) (drop p s) ≡ w = ap (take (length w)) (sym (whole s p)) ∙ sym f in
      let rest : drop (length w) (drop p s) ≡ drop (p + length w) s = drop-drop (length w) p s in
      let all : drop p s ≡ w ++ drop (p + length w) s = sym (take-append-drop (length w) (drop p s)) ∙ ap (λ (x : List ℕ). x ++ drop (length w) (drop p s)) front ∙ ap (λ (x : List ℕ). w ++ x) rest in
      ends l n all (λ t e. sym (sym rest ∙ ap (drop (length w)) e ∙ drop_at w t (length w) refl))
