-- Sizes that fit one another: within the limits every part of a leaf, and every row, is where the code reads it.
-- Assumes nothing.
use mathlib.Core.Path.{◌≡◌}
use mathlib.Core.Bool.{true}
use mathlib.Core.List.{List}
use Prim.Native.Nat.{ℕ, ◌+◌, ◌*◌, ◌≤◌, ◌<◌}
use native.Mathlib.Nat.{mul-le-mul}
use native.Mathlib.Omega.{arith}
use lib.ListN.{length}
use Rattle.protocol.specs.Strings.{bytes_for}
use Rattle.protocol.specs.Setting.{Setting, alphabet_of}
use Rattle.protocol.specs.Shape.{Shape, most_repetitions, most_hash_rows, limits, mask_at, k_of, l_of, w_of}
use Rattle.protocol.specs.Questions.{χExact}
use Rattle.theorems.proofs.TestLaws.{eqb_eq}
use Rattle.theorems.proofs.ListLaws.{row-end}
use Rattle.format.specs.Limits.{most_leaf}
use Rattle.format.proofs.SizeLaws.{in-limits, w_most, hashed_most}

module _ (g : Setting) (s : Shape) where
  -- the first n coordinates, and the first k, are in a leaf
  pub n_fits : bytes_for s.n ≤ w_of (alphabet_of g) s
  unfolding w_of l_of k_of bytes_for
  n_fits = omega arith

  pub k_fits : bytes_for (k_of (alphabet_of g) s) ≤ w_of (alphabet_of g) s
  unfolding w_of l_of bytes_for
  k_fits = omega arith

  -- all coordinates are in a leaf
  pub l_fits : k_of (alphabet_of g) s + s.t ≤ w_of (alphabet_of g) s * 8
  unfolding w_of l_of bytes_for
  l_fits = omega arith

  -- the mask coordinates of each repetition are among the first k
  pub mask_below : (e : ℕ) → e < s.τ → mask_at (alphabet_of g) s e + (alphabet_of g).masks ≤ k_of (alphabet_of g) s
  unfolding mask_at k_of
  mask_below e h = omega (arith, row-end e s.τ (alphabet_of g).masks h)

  -- the variables' coordinates are in a leaf
  pub variables_fit : s.n ≤ 8 * w_of (alphabet_of g) s
  unfolding w_of l_of k_of bytes_for
  variables_fit = omega arith

  -- and so is each of the first k among all
  pub k_below : (c : ℕ) → c < k_of (alphabet_of g) s → c < l_of (alphabet_of g) s
  unfolding l_of
  k_below c h = omega arith

  -- every coordinate is in a leaf
  pub in_width : (c : ℕ) → c < l_of (alphabet_of g) s → c < 8 * w_of (alphabet_of g) s
  unfolding w_of bytes_for
  in_width c h = omega arith

  -- a batching challenge of the right form has a byte for each repetition and equation
  pub batching_of : (χ : List ℕ) → χExact (alphabet_of g) s χ ≡ true → length χ ≡ s.τ * s.m
  unfolding χExact
  batching_of χ h = eqb_eq _ _ h

  -- the buffers of a call, made for the largest key, hold this one
  pub record Room : Type 0 where
    pub table-room : 8 * w_of (alphabet_of g) s * most_repetitions ≤ 8 * most_leaf * most_repetitions
    pub sums-room : s.τ * w_of (alphabet_of g) s ≤ most_repetitions * most_leaf
    pub hashed_room : s.τ * s.t ≤ most_repetitions * most_hash_rows

  pub room : limits s ≡ true → Room
  room h =
      record {
        table-room = omega (arith, w_most g s h);
        sums-room = mul-le-mul (in-limits s h).τ_most (w_most g s h);
        hashed_room = hashed_most s h;
      }
