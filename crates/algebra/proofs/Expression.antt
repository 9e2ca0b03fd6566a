-- Expressions over a ring of characteristic 2, and their normal form: a sorted list of monomials, each a sorted list of
-- variables.
--   Ex == expressions;  Equation == two of them, written l := r
--   Nary n == an equation of n variables, as a function of them
--   norm e == the normal form of e;  value R ρ e == the element that e denotes where variable i is entry i of ρ
--   Holds R n ρ e == the equation e holds for all elements of R in its n variables
-- Assumes nothing.
use mathlib.Core.Path.{◌≡◌}
use Prim.Native.Nat.{ℕ, zero, suc, compare, Ordering}
use mathlib.Core.List.{List, [], ◌∷◌}
use lib.ListN.{get_or}
use Rattle.algebra.specs.Ring.{Ring}

infixl 65 ◌:+◌
infixl 70 ◌:*◌
pub data Ex : Type 0 where
  var : ℕ → Ex
  :0 :1 : Ex
  ◌:+◌ ◌:*◌ : Ex → Ex → Ex

-- a monomial times a variable; times a monomial
abbrev pub ins : ℕ → List ℕ → List ℕ
ins x [] = x ∷ []
ins x (y ∷ m) = elim (compare x y) [ Ordering.lt ↦ x ∷ y ∷ m | Ordering.eq ↦ x ∷ y ∷ m | Ordering.gt ↦ y ∷ ins x m ]

abbrev pub times : List ℕ → List ℕ → List ℕ
times [] n = n
times (x ∷ m) n = ins x (times m n)

abbrev pub order : List ℕ → List ℕ → Ordering
order [] [] = Ordering.eq
order [] (y ∷ n) = Ordering.lt
order (x ∷ m) [] = Ordering.gt
order (x ∷ m) (y ∷ n) = elim (compare x y) [ Ordering.lt ↦ Ordering.lt | Ordering.eq ↦ order m n | Ordering.gt ↦ Ordering.gt ]

-- a polynomial plus a monomial: two of a kind cancel
abbrev pub plus : List ℕ → List (List ℕ) → List (List ℕ)
plus m [] = m ∷ []
plus m (n ∷ p) = elim (order m n) [ Ordering.lt ↦ m ∷ n ∷ p | Ordering.eq ↦ p | Ordering.gt ↦ n ∷ plus m p ]

abbrev pub add_p : List (List ℕ) → List (List ℕ) → List (List ℕ)
add_p [] r = r
add_p (m ∷ p) r = plus m (add_p p r)

-- r plus m times p
abbrev pub scale : List ℕ → List (List ℕ) → List (List ℕ) → List (List ℕ)
scale m [] r = r
scale m (n ∷ p) r = plus (times m n) (scale m p r)

abbrev pub mul_p : List (List ℕ) → List (List ℕ) → List (List ℕ)
mul_p [] r = []
mul_p (m ∷ p) r = scale m r (mul_p p r)

abbrev pub norm : Ex → List (List ℕ)
norm (var i) = (i ∷ []) ∷ []
norm :0 = []
norm :1 = [] ∷ []
norm (a :+ b) = add_p (norm a) (norm b)
norm (a :* b) = mul_p (norm a) (norm b)

module _ (R : Ring) where
  open R use {F, 𝟘, 𝟙, add as ◌⊕◌, mul as ◌⊗◌}

  infixl 65 ◌⊕◌
  infixl 70 ◌⊗◌
  abbrev pub value : List F → Ex → F
  value ρ (var i) = get_or ρ i 𝟘
  value ρ :0 = 𝟘
  value ρ :1 = 𝟙
  value ρ (a :+ b) = value ρ a ⊕ value ρ b
  value ρ (a :* b) = value ρ a ⊗ value ρ b

  abbrev pub value_m : List F → List ℕ → F
  value_m ρ [] = 𝟙
  value_m ρ (x ∷ m) = get_or ρ x 𝟘 ⊗ value_m ρ m

  abbrev pub value_p : List F → List (List ℕ) → F
  value_p ρ [] = 𝟘
  value_p ρ (m ∷ p) = value_m ρ m ⊕ value_p ρ p

-- an equation between expressions of n variables, and what it says of elements of a ring
infix 50 ◌:=◌
pub record Equation : Type 0 where
  pub left : Ex
  pub right : Ex

abbrev pub ◌:=◌ : Ex → Ex → Equation
a := b = record { left = a; right = b }

abbrev pub Nary : ℕ → Type 0
Nary zero = Equation
Nary (suc n) = Ex → Nary n

abbrev pub close : (n : ℕ) → ℕ → Nary n → Equation
close zero i e = e
close (suc n) i f = close n (suc i) (f (var i))

abbrev pub Holds : (R : Ring) → ℕ → (List R.F → List R.F) → Equation → Type 0
Holds R zero ρ e = value R (ρ []) e.left ≡ value R (ρ []) e.right
Holds R (suc n) ρ e = (x : R.F) → Holds R n (λ xs. ρ (x ∷ xs)) e
