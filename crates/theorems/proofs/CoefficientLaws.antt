-- A repetition's two checks are its conditions on the challenge; so its factor counts the elements that pass them.
-- Assumes nothing.
use mathlib.Core.Path.{◌≡◌, refl, sym, ap, ap₂, ◌∙◌}
use mathlib.Core.Bool.{Bool, ◌&&◌}
use mathlib.Core.List.{List}
use Prim.Native.Nat.{ℕ, zero, suc, ◌+◌, ◌*◌, ◌<◌}
use lib.ListN.{length}
use Rattle.algebra.specs.Roots.{is_zero, Line, line_at, lines_ok, quad_at, passing, Conditions}
use Rattle.algebra.proofs.Solver.{◌:+◌, ◌:*◌, ◌:=◌, ring_by, same_of_zero, zero_of_same}
use Rattle.algebra.proofs.FieldLaws.{eqb_iff}
use Rattle.protocol.specs.Lists.{all_below, table}
use Rattle.protocol.specs.Alphabet.{Alphabet, sym as symbol, elem_at}
use Rattle.protocol.specs.Shape.{Shape, per_tree, w_of}
use Rattle.protocol.specs.Sections.{Sections}
use Rattle.protocol.specs.Leaves.{open_tree}
use Rattle.protocol.specs.Forms.{quad, lin, y_of, middle, mask_of, batch}
use Rattle.protocol.specs.Prover.{v}
use Rattle.protocol.specs.Verifier.{W, key_at, consistent, product_left, product_holds, consistent_at, product_at, candidate, batched_error}
use Rattle.protocol.specs.Counting.{checks_at}
use Rattle.protocol.specs.Coefficients.{shift, row_line, conditions}
use Rattle.theorems.proofs.VoleLaws.{vole}
use Rattle.theorems.proofs.FormLaws.{hash-line, mask-line, expand, batch-three}

module _ (A : Alphabet) (s : Shape) where
  open A use {K}
  open K use {base, elem, byte}
  open base use {R, eqb as same?}
  open R use {F, 𝟘, add as ◌⊕◌, mul as ◌⊗◌}

  infixl 65 ◌⊕◌
  infixl 70 ◌⊗◌
  -- two sides agree when their sum is zero
  side : (a b c : F) → a ⊕ b ≡ c → same? a b ≡ is_zero base c
  side a b c e = eqb_iff base a b c 𝟘 (λ p. sym e ∙ zero_of_same R p) (λ p. same_of_zero R (e ∙ p))

  pub all_lines : (n : ℕ) (l : ℕ → Line base) (x : F) → all_below n (λ ρ. is_zero base (line_at base (l ρ) x)) ≡ lines_ok base (table n l) x
  unfolding all_below table
  all_lines zero l x = refl
  all_lines (suc n) l x = ap (λ b. is_zero base (line_at base (l 0) x) && b) (all_lines n (λ ρ. l (suc ρ)) x)

  all_ext : (n : ℕ) (p r : ℕ → Bool) → ((i : ℕ) → p i ≡ r i) → all_below n p ≡ all_below n r
  all_ext n p r h = ap (all_below n) (λ i k. h k i)

  module _ (key leaves H' χ : List ℕ) (p : Sections) (e : ℕ) where
    abbrev v̂ : ℕ → F
    v̂ = v A s leaves e

    abbrev g : ℕ → F
    g = shift A s key leaves H' χ p e

    abbrev x̂ : ℕ → F
    x̂ = candidate A s leaves p e

    abbrev line : ℕ → Line base
    line = row_line A s key leaves H' χ p e

    abbrev cs : Conditions base
    cs = conditions A s key leaves H' χ p e

    consistent_is : (x : F) → consistent A s H' p e x (λ c. v̂ c ⊕ x ⊗ g c) ≡ lines_ok base (table s.t line) x
    unfolding consistent
    consistent_is x =
        all_ext s.t _ _
        (λ ρ. side _ _ (line_at base (line ρ) x) (ap (λ z. z ⊕ (elem_at A p.Ṽ (e * s.t + ρ) ⊕ x ⊗ symbol A p.ũ ρ)) (hash-line A s H' ρ v̂ g x)
        ∙ ring_by R 5 (λ x a b c d. a :+ x :* b :+ (c :+ x :* d) := a :+ c :+ x :* (b :+ d)) refl x _ _ _ _))
        ∙ all_lines s.t line x

    key_is : (x : F) (c : ℕ) → key_at A s p x (λ c. v̂ c ⊕ x ⊗ g c) c ≡ v̂ c ⊕ x ⊗ x̂ c
    unfolding key_at candidate
    key_is x c = ring_by R 5 (λ x v u k d. v :+ x :* (u :+ k) :+ x :* d := v :+ x :* (u :+ k :+ d)) refl x _ _ _ _

    key_fun : (x : F) → key_at A s p x (λ c. v̂ c ⊕ x ⊗ g c) ≡ (λ c. v̂ c ⊕ x ⊗ x̂ c)
    key_fun x = λ i c. key_is x c i

    left_is : (x : F) → product_left A s key χ p e x (λ c. v̂ c ⊕ x ⊗ g c)
        ≡ batch A s χ e (λ i. quad A s key i v̂ v̂) ⊕ batch A s χ e (λ i. middle A s key i v̂ x̂) ⊗ x ⊕ batched_error A s key χ leaves p e ⊗ (x ⊗ x) ⊕ (mask_of A s e v̂ ⊕ x ⊗ mask_of A s e g)
    unfolding product_left batched_error
    left_is x =
        ap₂ ◌⊕◌
        (ap (λ k. batch A s χ e (λ i. quad A s key i k k ⊕ x ⊗ lin A s key i k ⊕ y_of A s key i ⊗ (x ⊗ x))) (key_fun x)
        ∙ ap (batch A s χ e) (λ j i. expand A s key i v̂ x̂ x j)
        ∙ batch-three A s χ e _ _ _ x)
        (mask-line A s e v̂ g x)

    product_is : (x : F) → product_holds A s key χ p e x (λ c. v̂ c ⊕ x ⊗ g c) ≡ is_zero base (quad_at base cs.c0 cs.c1 cs.c2 x)
    unfolding product_holds
    product_is x =
        side _ _ _ (ap (λ z. z ⊕ (elem_at A p.QS0 e ⊕ elem_at A p.QS1 e ⊗ x)) (left_is x)
        ∙ ring_by R 8 (λ x a b c m n q r. a :+ b :* x :+ c :* (x :* x) :+ (m :+ x :* n) :+ (q :+ r :* x) := a :+ m :+ q :+ (b :+ n :+ r) :* x :+ c :* (x :* x)) refl x _ _ _ _ _ _ _)

    module _ (l : length leaves ≡ s.τ * per_tree A * w_of A s) (le : e < s.τ) where
      byte-below : (x : F) → byte x < per_tree A
      unfolding per_tree
      byte-below x = K.byte_lt x

      vole_fun : (x : F) → W A s p e (byte x) (open_tree (per_tree A) (w_of A s) leaves e (byte x)) ≡ (λ c. v̂ c ⊕ x ⊗ g c)
      vole_fun x = λ i c. (vole A s leaves l p e (byte x) c le (byte-below x) ∙ ap (λ z. v̂ c ⊕ z ⊗ g c) (K.elem-byte x)) i

      pub checks-passing : (x : F) → checks_at A key leaves H' χ s p e (byte x) ≡ passing base cs x
      unfolding checks_at consistent_at product_at
      checks-passing x =
          ap₂ (λ d w. consistent A s H' p e d w && product_holds A s key χ p e d w) (K.elem-byte x) (vole_fun x)
          ∙ ap₂ ◌&&◌ (consistent_is x) (product_is x)
