-- A row's entries tested together, by one or of all differences, with masks for the bits of ũ.
-- Assumes nothing.
use mathlib.Core.Path.{◌≡◌, refl, sym, ap, ap₂, ◌∙◌}
use mathlib.Core.Bool.{◌&&◌}
use mathlib.Core.List.{List}
use Prim.Native.Nat.{ℕ, ◌+◌, ◌*◌, ◌<◌}
use native.Mathlib.Numerals.{add-one}
use lib.Bits.{bit_xor, bit_and, bit_or, xor_self, xor_zero_l, xor_zero_r}
use lib.Dec.{eqb}
use lib.ListN.{length}
use Rattle.field.proofs.ProductLaws.{mask-times}
use Rattle.protocol.specs.Lists.{all_below}
use Rattle.protocol.specs.Strings.{bit}
use Rattle.theorems.proofs.StringLaws.{bit_lt}
use Rattle.theorems.proofs.TestLaws.{bool_iff, eqb_same, eqb_eq}
use Rattle.rows.proofs.SpareLaws.{or-zero, all_more}
use Rattle.strings.specs.Sums.{byte_at}
use Rattle.strings.proofs.XorLaws.{xor_assoc}
use Rattle.verifier_consistency.specs.Consistency.{BitMasks, row_consistent}

xor_none : (a b : ℕ) → bit_xor a b ≡ 0 → a ≡ b
xor_none a b h = sym (xor_zero_r a) ∙ ap (bit_xor a) (sym h) ∙ sym (xor_assoc a a b) ∙ ap (λ x. bit_xor x b) (xor_self a) ∙ xor_zero_l b

xor_test : (a b : ℕ) → eqb (bit_xor a b) 0 ≡ eqb a b
xor_test a b = bool_iff _ _ (λ h. eqb_same a b (xor_none a b (eqb_eq (bit_xor a b) 0 h))) (λ h. eqb_same (bit_xor a b) 0 (ap (bit_xor a) (sym (eqb_eq a b h)) ∙ xor_self a))

module _ (hashed v u : List ℕ) (δ : ℕ) where
  pub row-none : eqb 0 0 ≡ row_consistent hashed v u δ 0
  unfolding all_below
  row-none = refl

  -- one entry more
  pub row_more : (masks : List ℕ) → BitMasks u masks → δ < 256 → (ρ found : ℕ) → ρ < length masks → eqb found 0 ≡ row_consistent hashed v u δ ρ
      → eqb (bit_or found (bit_xor (byte_at hashed ρ) (bit_xor (byte_at v ρ) (bit_and δ (byte_at masks ρ))))) 0 ≡ row_consistent hashed v u δ (ρ + 1)
  row_more masks are small ρ found lt done =
      let mask : bit_and δ (byte_at masks ρ) ≡ δ * bit u ρ = ap (bit_and δ) (are ρ lt) ∙ mask-times (bit u ρ) δ (bit_lt u ρ) small in
      ap (λ x. eqb (bit_or found (bit_xor (byte_at hashed ρ) (bit_xor (byte_at v ρ) x))) 0) mask
      ∙ or-zero found _
      ∙ ap₂ ◌&&◌ done (xor_test (byte_at hashed ρ) (bit_xor (byte_at v ρ) (δ * bit u ρ)))
      ∙ rw add-one (sym (all_more ρ (λ ρ. eqb (byte_at hashed ρ) (bit_xor (byte_at v ρ) (δ * bit u ρ)))))
