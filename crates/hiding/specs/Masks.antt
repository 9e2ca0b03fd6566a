-- What hiding asks of an alphabet beside that it is lawful: the mask coordinates of a repetition write each element of
-- the field in exactly one way.
--   mask_sum A f == Σ_{i<masks} α^i·f(i), the mask of a repetition whose mask coordinates are f
--   Symbols A f == each f(i) stands for a symbol
--   OneMask A == each element of K is that sum for some choice of symbols, and the sum tells them
-- Assumes nothing.
use Rattle.std.specs.Prelude.{◌≡◌, ℕ, ◌<◌}
use Rattle.algebra.specs.Sum.{sum, power}
use Rattle.protocol.specs.Alphabet.{Alphabet, IsSymbol}
use Rattle.protocol.specs.Forms.{α}

module _ (A : Alphabet) where
  open A use {K, masks}
  open K use {base}
  open base use {R}
  open R use {F, mul as ◌⊗◌}

  infixl 70 ◌⊗◌
  abbrev pub mask_sum : (ℕ → F) → F
  mask_sum f = sum R masks (λ i. power R (α A) i ⊗ f i)

  abbrev pub Symbols : (ℕ → F) → Type 0
  Symbols f = (i : ℕ) → IsSymbol A (f i)

  pub record OneMask : Type 0 where
    pub some-mask : (a : F) → (f : ℕ → F) × Symbols f × (mask_sum f ≡ a)
    pub same-mask : (f g : ℕ → F) → Symbols f → Symbols g → mask_sum f ≡ mask_sum g → (i : ℕ) → i < masks → f i ≡ g i
