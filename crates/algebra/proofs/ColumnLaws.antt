-- How many columns make a combination of given elements zero: the count goes entry by entry, for every value t of the
-- sum.
-- Assumes nothing.
use mathlib.Core.Path.{◌≡◌, refl, sym, ap, ◌∙◌, ◌≡⟨◌⟩◌, ◌∎}
use mathlib.Core.Logic.{◌⊎◌, inl, inr, ◌≢◌}
use mathlib.Core.Bool.{true, ◌&&◌, and-true}
use mathlib.Core.List.{List, ◌∷◌}
use Prim.Native.Nat.{ℕ, zero, suc, ◌^◌, ◌<◌}
use native.Mathlib.Nat.{pow-succ', one-mul}
use native.Mathlib.Omega.{arith}
use lib.ListN.{get_or}
use Rattle.algebra.specs.Count.{count}
use Rattle.algebra.specs.Field.{Field}
use Rattle.algebra.specs.Strings.{strings}
use Rattle.algebra.specs.Columns.{column_sum, zero_columns, FailingColumns, AllColumns}
use Rattle.algebra.proofs.RingLaws.{ring, mul-zero}
use Rattle.algebra.proofs.CountLaws.{count_congr, count-true, count-pairs, count_pairs_const}
use Rattle.algebra.proofs.FieldLaws.{dec, eqb-true, solve}
pub use Rattle.algebra.proofs.FieldLaws.{eqb_iff}
use Rattle.algebra.proofs.StringLaws.{strings-length}
use Rattle.algebra.proofs.SumLaws.{sum_congr, sum-zero, sum-front}

module _ (K : Field) where
  open K use {R, inv, eqb, elements, size}
  open R use {F, 𝟘, 𝟙, add as ◌⊕◌, mul as ◌⊗◌}

  infixl 65 ◌⊕◌
  infixl 70 ◌⊗◌
  abbrev Zeros : ℕ → (ℕ → F) → Type 0
  Zeros m f = (i : ℕ) → i < m → f i ≡ 𝟘

  abbrev NonZero : ℕ → (ℕ → F) → Type 0
  NonZero m f = (i : ℕ) × (i < m) × (f i ≢ 𝟘)

  zeros? : (m : ℕ) (f : ℕ → F) → Zeros m f ⊎ NonZero m f
  zeros? zero f = inl (λ i l. absurd (omega arith))
  zeros? (suc m) f = go (dec K (f 0) 𝟘) (zeros? m (λ i. f (suc i)))
    where
      both : f 0 ≡ 𝟘 → Zeros m (λ i. f (suc i)) → Zeros (suc m) f
      both z zs zero l = z
      both z zs (suc i) l = zs i (omega arith)

      go : Dec (f 0 ≡ 𝟘) → Zeros m (λ i. f (suc i)) ⊎ NonZero m (λ i. f (suc i)) → Zeros (suc m) f ⊎ NonZero (suc m) f
      go (no n) r = inr (0, omega arith, n)
      go (yes z) (inl zs) = inl (both z zs)
      go (yes z) (inr t) = inr (suc t.0, omega (arith, t.1), t.2)

  head_nonzero : (m : ℕ) (f : ℕ → F) → NonZero (suc m) f → Zeros m (λ i. f (suc i)) → f 0 ≢ 𝟘
  head_nonzero m f t z = go t.0 t.1 t.2
    where
      go : (i : ℕ) → i < suc m → f i ≢ 𝟘 → f 0 ≢ 𝟘
      go zero l n = n
      go (suc i) l n = absurd (n (z i (omega arith)))

  column-front : (m : ℕ) (x : F) (s : List F) (f : ℕ → F) → column_sum K (suc m) (x ∷ s) f ≡ x ⊗ f 0 ⊕ column_sum K m s (λ i. f (suc i))
  unfolding column_sum
  column-front m x s f = sum-front R m (λ i. get_or (x ∷ s) i 𝟘 ⊗ f i)

  column-zeros : (m : ℕ) (s : List F) (f : ℕ → F) → Zeros m f → column_sum K m s f ≡ 𝟘
  unfolding column_sum
  column-zeros m s f z = sum_congr R m _ (λ i. 𝟘) (λ i l. ap (λ w. get_or s i 𝟘 ⊗ w) (z i l) ∙ mul-zero R (get_or s i 𝟘)) ∙ sum-zero R m

  -- only the first element is not zero: the column's first entry is settled, and the others are free
  first : (m : ℕ) (f : ℕ → F) (t : F) → f 0 ≢ 𝟘 → Zeros m (λ i. f (suc i)) → count (λ s. eqb (column_sum K (suc m) s f) t) (strings K (suc m)) ≡ size ^ m
  first m f t n z =
      count-pairs (λ s. eqb (column_sum K (suc m) s f) t) (eqb (inv (f 0) ⊗ t)) (λ s. true) split elements (strings K m)
      ∙ rw (K.elements_once (inv (f 0) ⊗ t), count-true (λ (s : List F). true) (λ s. refl) (strings K m), strings-length K m) (one-mul (size ^ m))
    where
      one : (x : F) → x ⊗ f 0 ≡ t → inv (f 0) ⊗ t ≡ x
      one x h = sym (solve K (f 0) x t n (R.mul_comm (f 0) x ∙ h))

      back : (x : F) → inv (f 0) ⊗ t ≡ x → x ⊗ f 0 ≡ t
      back x h =
          x ⊗ f 0 ≡⟨ (rw (← h)) ⟩
          inv (f 0) ⊗ t ⊗ f 0 ≡⟨ (simp ring) ⟩
          t ⊗ (f 0 ⊗ inv (f 0)) ≡⟨ (rw (K.mul-inv (f 0) n)) ⟩
          t ⊗ 𝟙 ≡⟨ (simp ring) ⟩
          t ∎

      split : (x : F) (s : List F) → eqb (column_sum K (suc m) (x ∷ s) f) t ≡ (eqb (inv (f 0) ⊗ t) x && true)
      split x s =
          rw (column-front m x s f, column-zeros m s (λ i. f (suc i)) z, R.add-zero (x ⊗ f 0)) (eqb_iff K (x ⊗ f 0) t (inv (f 0) ⊗ t) x (one x) (back x) ∙ sym (and-true _))

  columns : (m : ℕ) (f : ℕ → F) (t : F) → NonZero (suc m) f → count (λ s. eqb (column_sum K (suc m) s f) t) (strings K (suc m)) ≡ size ^ m
  columns zero f t n = first 0 f t (head_nonzero 0 f n (λ i l. absurd (omega arith))) (λ i l. absurd (omega arith))
  columns (suc m) f t n = go (zeros? (suc m) g) (columns m g)
    where
      g : ℕ → F
      g i = f (suc i)

      shift : (x : F) (s : List F) → eqb (column_sum K (suc (suc m)) (x ∷ s) f) t ≡ eqb (column_sum K (suc m) s g) (t ⊕ x ⊗ f 0)
      shift x s = rw (column-front (suc m) x s f) (eqb_iff K _ _ _ _ (λ h. rw (← h) (simp ring)) (λ h. rw h (simp ring)))

      go : Zeros (suc m) g ⊎ NonZero (suc m) g → ((u : F) → NonZero (suc m) g → count (λ s. eqb (column_sum K (suc m) s g) u) (strings K (suc m)) ≡ size ^ m)
          → count (λ s. eqb (column_sum K (suc (suc m)) s f) t) (strings K (suc (suc m))) ≡ size ^ suc m
      go (inl z) ih = first (suc m) f t (head_nonzero (suc m) f n z) z
      go (inr k) ih =
          count_pairs_const _ (size ^ m) elements (strings K (suc m)) (λ x. count_congr _ (λ s. eqb (column_sum K (suc m) s g) (t ⊕ x ⊗ f 0)) (shift x) (strings K (suc m)) ∙ ih (t ⊕ x ⊗ f 0) k)
          ∙ rw (K.elements-length, pow-succ')

  power_of : (a b : ℕ) → a ≡ b → size ^ a ≡ size ^ b
  power_of a b e = ap (λ k. size ^ k) e

  pub columns_fail : (m : ℕ) (f : ℕ → F) → FailingColumns K m f
  unfolding zero_columns
  columns_fail zero f i l n = absurd (omega arith)
  columns_fail (suc m) f i l n = columns m f 𝟘 (i, l, n) ∙ power_of _ _ (omega arith)

  pub columns-all : (m : ℕ) (f : ℕ → F) → AllColumns K m f
  unfolding zero_columns
  columns-all m f z = count-true _ (λ s. eqb-true K (column_sum K m s f) 𝟘 (column-zeros m s f z)) (strings K m) ∙ strings-length K m
