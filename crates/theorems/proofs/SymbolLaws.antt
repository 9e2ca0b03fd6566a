-- Symbols: what is read of a string, and what the prover computes from such by sums and products, is a symbol;
-- packed, it is read back.
-- Assumes nothing.
use mathlib.Core.Path.{◌≡◌, refl, ap, ◌∙◌}
use mathlib.Core.Bool.{Bool, true, false, cond}
use mathlib.Core.List.{List}
use Prim.Native.Nat.{ℕ, zero, suc, ◌+◌, ◌<◌}
use lib.Dec.{eqb, ltb}
use Rattle.algebra.specs.Sum.{sum}
use Rattle.protocol.specs.Lists.{block_at}
use Rattle.protocol.specs.Alphabet.{Alphabet, sym as symbol, IsSymbol, Lawful}
use Rattle.protocol.specs.Shape.{Shape, per_tree, k_of, l_of}
use Rattle.protocol.specs.Forms.{h, hash}
use Rattle.protocol.specs.Prover.{u, correction, d_of}

module _ (A : Alphabet) (laws : Lawful A) where
  open A use {K, embed, symbol_of, width, pack, spare_zero}
  open K use {base}
  open base use {R}
  open R use {F, 𝟘, 𝟙}

  pub sym_symbol : (s : List ℕ) (c : ℕ) → IsSymbol A (symbol A s c)
  unfolding symbol
  sym_symbol s c = (A.at s c, laws.at_lt s c, refl)

  pub sum_symbol : (n : ℕ) (f : ℕ → F) → ((i : ℕ) → IsSymbol A (f i)) → IsSymbol A (sum R n f)
  sum_symbol zero f k = laws.zero_symbol
  sum_symbol (suc n) f k = laws.add_symbol (sum R n f) (f n) (sum_symbol n f k) (k n)

  -- packed symbols, read back as elements
  pub pack-sym : (L : ℕ) (f : ℕ → F) → ((c : ℕ) → IsSymbol A (f c)) → (c : ℕ) → c < L → symbol A (pack L (λ c. symbol_of (f c))) c ≡ f c
  unfolding symbol
  pack-sym L f k c l = ap embed (laws.pack-at L (λ c. symbol_of (f c)) (λ c. laws.symbol_lt (f c)) c l) ∙ laws.symbol_back (f c) (k c)

  pub spare-pack : (L : ℕ) (f : ℕ → F) → spare_zero (pack L (λ c. symbol_of (f c))) L ≡ true
  spare-pack L f = laws.pack-spare L (λ c. symbol_of (f c)) (λ c. laws.symbol_lt (f c))

  module _ (s : Shape) (leaves : List ℕ) where
    pub h_symbol : (H' : List ℕ) (ρ c : ℕ) → IsSymbol A (h A s H' ρ c)
    unfolding h
    h_symbol H' ρ c = go (ltb c (k_of A s)) (eqb c (k_of A s + ρ))
      where
        go : (b d : Bool) → IsSymbol A (cond b (symbol A (block_at H' (width (k_of A s)) ρ) c) (cond d 𝟙 𝟘))
        go true d = sym_symbol _ c
        go false true = laws.one_symbol
        go false false = laws.zero_symbol

    pub u_symbol : (e c : ℕ) → IsSymbol A (u A s leaves e c)
    unfolding u
    u_symbol e c = sum_symbol (per_tree A) _ (λ j. sym_symbol _ c)

    pub hash_symbol : (H' : List ℕ) (ρ : ℕ) → IsSymbol A (hash A s H' ρ (u A s leaves 0))
    unfolding hash
    hash_symbol H' ρ = sum_symbol (l_of A s) _ (λ c. laws.mul_symbol _ _ (h_symbol H' ρ c) (u_symbol 0 c))

    pub correction_symbol : (e c : ℕ) → IsSymbol A (correction A s leaves e c)
    unfolding correction
    correction_symbol e c = laws.add_symbol _ _ (u_symbol e c) (u_symbol 0 c)

    pub d_symbol : (x : List ℕ) (c : ℕ) → IsSymbol A (d_of A s leaves x c)
    unfolding d_of
    d_symbol x c = laws.add_symbol _ _ (sym_symbol x c) (u_symbol 0 c)
