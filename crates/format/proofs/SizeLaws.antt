-- What the limits bound: the sizes, what is derived from them, and so each length that the code computes.
-- Assumes nothing.
use mathlib.Core.Path.{◌≡◌}
use mathlib.Core.Bool.{true}
use mathlib.Core.List.{[], ◌∷◌}
use Prim.Native.Nat.{ℕ, ◌+◌, ◌*◌, ◌-◌, ◌/◌, ◌≤◌}
use native.Mathlib.Nat.{mul-le-mul}
use native.Mathlib.Omega.{arith}
use lib.Dec.{leb}
use Rattle.galois.specs.Degrees.{degree}
use Rattle.protocol.specs.Alphabet.{Alphabet}
use Rattle.algebra.proofs.CountLaws.{and_left}
use Rattle.protocol.specs.Strings.{bytes_for}
use Rattle.protocol.specs.Setting.{Setting, alphabet_of}
use Rattle.protocol.specs.Frames.{framed_length}
use Rattle.protocol.specs.Key.{key_lengths}
use Rattle.protocol.specs.Sections.{lengths, commit_lengths, hash_lengths, batch_lengths}
use Rattle.protocol.specs.Shape.{Shape, within, most_variables, least_equations, most_equations, most_repetitions, most_hash_rows, limits, k_of, l_of, w_of}
use Rattle.format.specs.Limits.{most_hashed, most_leaf, most_row, most_witness}
use Rattle.theorems.proofs.TestLaws.{leb_le, all_true_lem}
use Rattle.theorems.proofs.LimitLaws.{within_le}

pub record InLimits (s : Shape) : Type 0 where
  pub n_least : 1 ≤ s.n
  pub n_most : s.n ≤ most_variables
  pub m_most : s.m ≤ most_equations
  pub τ_least : 1 ≤ s.τ
  pub τ_most : s.τ ≤ most_repetitions
  pub t_least : 1 ≤ s.t
  pub t_most : s.t ≤ most_hash_rows

least : (most x : ℕ) → within 1 most x ≡ true → 1 ≤ x
unfolding within
least most x h = leb_le 1 x (and_left (leb 1 x) (leb x most) h)

pub in-limits : (s : Shape) → limits s ≡ true → InLimits s
unfolding limits
in-limits s h =
    let a = all_true_lem (within 1 most_variables s.n ∷ within least_equations most_equations s.m ∷ within 1 most_repetitions s.τ ∷ within 1 most_hash_rows s.t ∷ []) h in
    record {
      n_least = least most_variables s.n a.0;
      n_most = within_le 1 most_variables s.n a.0;
      m_most = within_le least_equations most_equations s.m a.1.0;
      τ_least = least most_repetitions s.τ a.1.1.0;
      τ_most = within_le 1 most_repetitions s.τ a.1.1.0;
      t_least = least most_hash_rows s.t a.1.1.1.0;
      t_most = within_le 1 most_hash_rows s.t a.1.1.1.0;
    }

-- the bytes of at most so many bits
pub bytes-up-to : (most bits : ℕ) → bits ≤ most → bytes_for bits ≤ (most + 7) / 8
unfolding bytes_for
bytes-up-to most bits h = omega arith

pub bytes_most : (bits : ℕ) → bits ≤ most_hashed → bytes_for bits ≤ most_row
bytes_most = bytes-up-to most_hashed

-- what does not depend on the setting
module _ (s : Shape) (h : limits s ≡ true) where
  pub batching_most : s.τ * s.m ≤ most_repetitions * most_equations
  batching_most = mul-le-mul (in-limits s h).τ_most (in-limits s h).m_most

  pub hashed_most : s.τ * s.t ≤ most_repetitions * most_hash_rows
  hashed_most = mul-le-mul (in-limits s h).τ_most (in-limits s h).t_most

  pub row-most : bytes_for s.n ≤ most_witness
  row-most = bytes-up-to most_variables s.n (in-limits s h).n_most

  pub matrix_rows_most : s.m * s.n ≤ most_equations * most_variables
  matrix_rows_most = mul-le-mul (in-limits s h).m_most (in-limits s h).n_most

  pub matrices-most : s.m * s.n * bytes_for s.n ≤ most_equations * most_variables * most_witness
  matrices-most = mul-le-mul matrix_rows_most row-most

  pub linear-most : s.m * bytes_for s.n ≤ most_equations * most_witness
  linear-most = mul-le-mul (in-limits s h).m_most row-most

  -- a tree has at most as many leaves as there are bytes
  pub trees_most : (per : ℕ) → per ≤ 256 → s.τ * per ≤ most_repetitions * 256
  trees_most per l = mul-le-mul (in-limits s h).τ_most l

-- what does: a mask has at most eight coordinates
module _ (g : Setting) (s : Shape) (h : limits s ≡ true) where
  abbrev A : Alphabet
  A = alphabet_of g

  pub masks-most : s.τ * A.masks ≤ most_repetitions * degree
  masks-most = mul-le-mul (in-limits s h).τ_most A.K.degree≤8

  pub k-most : k_of (alphabet_of g) s ≤ most_hashed
  unfolding k_of
  k-most = let b = in-limits s h in omega (arith, masks-most)

  pub l_most : l_of (alphabet_of g) s ≤ most_hashed + most_hash_rows
  unfolding l_of
  l_most = let b = in-limits s h in omega (arith, k-most)

  pub w_most : w_of (alphabet_of g) s ≤ most_leaf
  unfolding w_of
  w_most = bytes-up-to (most_hashed + most_hash_rows) (l_of A s) l_most

  -- products of sizes
  pub corrections_most : (s.τ - 1) * w_of (alphabet_of g) s ≤ (most_repetitions - 1) * most_leaf
  corrections_most = let b = in-limits s h in let e : s.τ - 1 ≤ most_repetitions - 1 = omega arith in mul-le-mul e w_most

  pub hash_matrix_most : s.t * bytes_for (k_of (alphabet_of g) s) ≤ most_hash_rows * most_row
  hash_matrix_most = mul-le-mul (in-limits s h).t_most (bytes_most (k_of A s) k-most)

  pub leaves-most : (per : ℕ) → per ≤ 256 → s.τ * per * w_of (alphabet_of g) s ≤ most_repetitions * 256 * most_leaf
  leaves-most per l = mul-le-mul (trees_most s h per l) w_most

  -- strings of sections, each after its count of four bytes
  pub commit-most : framed_length (commit_lengths (alphabet_of g) s) ≤ 2 * 4 + (most_repetitions - 1) * most_leaf + most_witness
  unfolding framed_length commit_lengths
  commit-most = omega (arith, corrections_most, row-most s h)

  pub hash-most : framed_length (hash_lengths (alphabet_of g) s) ≤ 2 * 4 + (most_hash_rows + 7) / 8 + most_repetitions * most_hash_rows
  unfolding framed_length hash_lengths
  hash-most = let b = in-limits s h in omega (arith, bytes-up-to most_hash_rows s.t b.t_most, hashed_most s h)

  pub batch-most : framed_length (batch_lengths (alphabet_of g) s) ≤ 2 * 4 + 2 * most_repetitions
  unfolding framed_length batch_lengths
  batch-most = let b = in-limits s h in omega arith

  pub proof-most
      : framed_length (lengths (alphabet_of g) s)
      ≤ 6 * 4 + (most_repetitions - 1) * most_leaf + most_witness + (most_hash_rows + 7) / 8 + most_repetitions * most_hash_rows + 2 * most_repetitions
  unfolding framed_length lengths
  proof-most = let b = in-limits s h in omega (arith, corrections_most, row-most s h, bytes-up-to most_hash_rows s.t b.t_most, hashed_most s h)

  pub key-most : framed_length (key_lengths (alphabet_of g) s) ≤ 3 * 4 + most_equations * most_variables * most_witness + most_equations * most_witness + (most_equations + 7) / 8
  unfolding framed_length key_lengths
  key-most = let b = in-limits s h in omega (arith, matrices-most s h, linear-most s h, bytes-up-to most_equations s.m b.m_most)
