-- Sums of one tree of leaves on bytes, of which leaf δ is left out; none is where δ is not below the number of leaves.
--   leaf_byte tree w δ j b == byte b of leaf j, at its place in the tree, and 0 for the leaf that is left out
--   TreeFits tree w δ count == each of the count leaves that is not left out stands whole at its place
--   Absorbed w r j row old new == the planes p below r, rows of w bytes, are as they were, plus the row where bit p of
--     j is set
--   Summed f count r w u planes n == of each of the first n bytes, u has the sum of f over the leaves j below count,
--     and plane p below r the sum of
--     those with bit p of j set; f j b is byte b of leaf j, and planes are rows of w bytes
--   TreeSummed tree w δ count r u planes n == the same for the leaves of a tree
-- Assumes nothing.
use Rattle.std.specs.Prelude.{◌≡◌, cond, List, ℕ, ◌+◌, ◌*◌, ◌<◌, ◌≤◌, eqb, length}
use Rattle.std.specs.Int.Bits.{bit_xor}
use Rattle.protocol.specs.Leaves.{place, opened_leaf}
use Rattle.strings.specs.Sums.{byte_at, bit_of, xor_sum}

abbrev pub leaf_byte : List ℕ → ℕ → ℕ → ℕ → ℕ → ℕ
leaf_byte tree w δ j b = cond (eqb j δ) 0 (byte_at (opened_leaf w δ tree j) b)

abbrev pub TreeFits : List ℕ → ℕ → ℕ → ℕ → Type 0
TreeFits tree w δ count = (j : ℕ) → j < count → (j ≡ δ → ⊥) → place δ j * w + w ≤ length tree

abbrev pub Absorbed : ℕ → ℕ → ℕ → List ℕ → List ℕ → List ℕ → Type 0
Absorbed w r j row old new = (p b : ℕ) → p < r → b < w → byte_at new (p * w + b) ≡ bit_xor (byte_at old (p * w + b)) (bit_of j p * byte_at row b)

abbrev pub Summed : (ℕ → ℕ → ℕ) → ℕ → ℕ → ℕ → List ℕ → List ℕ → ℕ → Type 0
Summed f count r w u planes n = ((b : ℕ) → b < n → byte_at u b ≡ xor_sum count (λ j. f j b)) × ((p b : ℕ) → p < r → b < n → byte_at planes (p * w + b) ≡ xor_sum count (λ j. bit_of j p * f j b))

abbrev pub TreeSummed : List ℕ → ℕ → ℕ → ℕ → ℕ → List ℕ → List ℕ → ℕ → Type 0
TreeSummed tree w δ count r u planes n = Summed (leaf_byte tree w δ) count r w u planes n
