-- The key: its sections A, b, y after the header of eight bytes, and the coefficients that they hold.
--   rows_spare A L rows str == each of the first `rows` rows of L coordinates of str has spare bits 0
--   key_lengths == the lengths of the sections
--   key_exact, key_spare == questions 3 and 4;  a_sym key i ρ c == A_i(ρ, c);  b_sym key i c == b_i(c);  y_sym key i == y_i
-- Assumes nothing.
use Rattle.std.specs.Prelude.{Bool, List, [], ◌∷◌, ℕ, ◌+◌, ◌*◌, drop}
use Rattle.protocol.specs.Lists.{all_below, all_true, block_at}
use Rattle.protocol.specs.Frames.{framed, section_no}
use Rattle.protocol.specs.Alphabet.{Alphabet, sym}
use Rattle.protocol.specs.Shape.{Shape}

module _ (A : Alphabet) where
  open A use {K, width, spare_zero}
  open K use {base}
  open base use {R}
  open R use {F}

  unfoldable pub rows_spare : ℕ → ℕ → List ℕ → Bool
  rows_spare L rows str = all_below rows (λ i. spare_zero (block_at str (width L) i) L)

  module _ (s : Shape) where
    unfoldable pub key_lengths : List ℕ
    key_lengths = s.m * s.n * width s.n ∷ s.m * width s.n ∷ width s.m ∷ []

    unfoldable pub key_exact : List ℕ → Bool
    key_exact key = framed key_lengths (drop 8 key)

    module _ (key : List ℕ) where
      unfoldable pub section_a : List ℕ
      section_a = section_no key_lengths 0 (drop 8 key)

      unfoldable pub section_b : List ℕ
      section_b = section_no key_lengths 1 (drop 8 key)

      unfoldable pub section_y : List ℕ
      section_y = section_no key_lengths 2 (drop 8 key)

      unfoldable pub key_spare : Bool
      key_spare = all_true (rows_spare s.n (s.m * s.n) section_a ∷ rows_spare s.n s.m section_b ∷ spare_zero section_y s.m ∷ [])

      unfoldable pub a_sym : ℕ → ℕ → ℕ → F
      a_sym i ρ c = sym A (block_at section_a (width s.n) (i * s.n + ρ)) c

      unfoldable pub b_sym : ℕ → ℕ → F
      b_sym i c = sym A (block_at section_b (width s.n) i) c

      unfoldable pub y_sym : ℕ → F
      y_sym i = sym A section_y i
