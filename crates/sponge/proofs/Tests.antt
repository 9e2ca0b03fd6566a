-- Equality of lists as a test: what is computed comes out true or false, so that a wrong value is refused at once.
-- Assumes nothing.
use mathlib.Core.Path.{◌≡◌, refl, ap₂}
use mathlib.Core.Bool.{Bool, true, false, ◌&&◌}
use mathlib.Core.List.{List, [], ◌∷◌}
use Prim.Native.Nat.{ℕ}
use lib.Dec.{eqb, eqb→eq, T}
use Rattle.algebra.specs.Count.{same}

module _ {A : Type 0} (test : A → A → Bool) (sound : (a b : A) → T (test a b) → a ≡ b) where
  joined : (a b : A) (p q : List A) (t : Bool) → (T t → a ≡ b) → (T (same test p q) → p ≡ q) → T (t && same test p q) → a ∷ p ≡ b ∷ q
  joined a b p q true h k passed = ap₂ ◌∷◌ (h tt) (k passed)
  joined a b p q false h k passed = absurd passed

  same-is : (p q : List A) → T (same test p q) → p ≡ q
  same-is [] [] passed = refl
  same-is [] (_ ∷ _) passed = absurd passed
  same-is (_ ∷ _) [] passed = absurd passed
  same-is (a ∷ p) (b ∷ q) passed = joined a b p q (test a b) (sound a b) (same-is p q) passed

pub numbers : (p q : List ℕ) → T (same eqb p q) → p ≡ q
numbers = same-is eqb eqb→eq

pub lists : (p q : List (List ℕ)) → T (same (same eqb) p q) → p ≡ q
lists = same-is (same eqb) numbers
