-- Conditions on one element Δ: a system of linear equations and one quadratic equation;
-- and how many elements meet them.
--   is_zero x == whether x is 0;  Line == an equation a + Δ·b = 0;  Conditions == lines, and c0 + c1·Δ + c2·Δ² = 0
--   line_at l Δ, quad_at c0 c1 c2 Δ == the left sides at Δ;  lines_ok ls Δ == every line holds at Δ
--   passing c Δ == all of c holds at Δ
--   ZeroOneTwoAll all n == n is 0, 1, 2 or all;  ZeroOneAll all n == n is 0, 1 or all
--   AllZero ls, Trivial c == every coefficient is 0
--   FourCases c == the number of elements that pass c is 0, 1, 2 or the size of the field
--   FullExactly c == it is the size exactly if c is trivial;  LineCases ls == lines alone pass at 0, 1 or all elements
-- Assumes nothing.
use Rattle.std.specs.Prelude.{◌≡◌, ◌⊎◌, ◌↔◌, Bool, true, ◌&&◌, List, [], ◌∷◌, ℕ}
use Rattle.algebra.specs.Count.{count}
use Rattle.algebra.specs.Field.{Field}

abbrev pub ZeroOneTwoAll : ℕ → ℕ → Type 0
ZeroOneTwoAll all n = (n ≡ 0) ⊎ ((n ≡ 1) ⊎ ((n ≡ 2) ⊎ (n ≡ all)))

abbrev pub ZeroOneAll : ℕ → ℕ → Type 0
ZeroOneAll all n = (n ≡ 0) ⊎ ((n ≡ 1) ⊎ (n ≡ all))

module _ (K : Field) where
  open K use {R, size, elements}
  open R use {F, 𝟘, add as ◌⊕◌, mul as ◌⊗◌}

  infixl 65 ◌⊕◌
  infixl 70 ◌⊗◌
  abbrev pub is_zero : F → Bool
  is_zero x = K.eqb x 𝟘

  pub record Line : Type 0 where
    pub a : F
    pub b : F

  pub record Conditions : Type 0 where
    pub lines : List Line
    pub c0 : F
    pub c1 : F
    pub c2 : F

  abbrev pub line_at : Line → F → F
  line_at l Δ = l.a ⊕ Δ ⊗ l.b

  abbrev pub lines_ok : List Line → F → Bool
  lines_ok [] Δ = true
  lines_ok (l ∷ ls) Δ = is_zero (line_at l Δ) && lines_ok ls Δ

  abbrev pub quad_at : F → F → F → F → F
  quad_at c0 c1 c2 Δ = c0 ⊕ c1 ⊗ Δ ⊕ c2 ⊗ (Δ ⊗ Δ)

  abbrev pub passing : Conditions → F → Bool
  passing c Δ = lines_ok c.lines Δ && is_zero (quad_at c.c0 c.c1 c.c2 Δ)

  abbrev pub AllZero : List Line → Type 0
  AllZero [] = Unit {0}
  AllZero (l ∷ ls) = (l.a ≡ 𝟘) × (l.b ≡ 𝟘) × AllZero ls

  pub record Trivial (c : Conditions) : Type 0 where
    pub lines-zero : AllZero c.lines
    pub c0-zero : c.c0 ≡ 𝟘
    pub c1-zero : c.c1 ≡ 𝟘
    pub c2-zero : c.c2 ≡ 𝟘

  abbrev pub FourCases : Conditions → Type 0
  FourCases c = ZeroOneTwoAll size (count (passing c) elements)

  abbrev pub FullExactly : Conditions → Type 0
  FullExactly c = (count (passing c) elements ≡ size) ↔ Trivial c

  abbrev pub LineCases : List Line → Type 0
  LineCases ls = ZeroOneAll size (count (lines_ok ls) elements)
