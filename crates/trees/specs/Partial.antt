-- Partial sums: after j leaves, plane p has its sum, plus the sum of all j leaves where bit p of j is 1.
--   Running f r w u planes j == u is the sum of the first j leaves, and the r planes are as said, where f i b is byte b
--     of leaf i, u b of u,
--     and planes p b of plane p, for each b below w
--   held_plane held r p b == byte b of plane p, from rows of sixteen bytes: the sum of the rows 0, .., r - p
--   with_low a x y p b == byte b of plane p, which is a p b and two sums that are kept apart: x where bit p of 1 is set,
--     and y where that of 3 is
--   RunningHeld f r sum held j == `Running` of sixteen bytes of each leaf, where the planes are held in rows
--   RunningLow f r a sum first second j == the same, where the planes are a and two sums that are kept apart
--   RunningLeaves tree w δ at r sum held j == RunningHeld of the sixteen bytes from `at` on of the leaves of a tree
--   Handed f j leaf at == the sixteen bytes from `at` on of this string are those of leaf j
--   Placed f j to skip tree w at == the row at place i - skip of the tree is so of leaf i, for each i from j on and
--     below `to`
--   ThreeAdded at leaf next third sum first second sum' first' second' == where three leaves are handed on, from a j
--     that 4 divides, the sums that ran
--     up to leaf j run up to leaf j + 3
--   FoursFit r w at skip from to tree == there are at most eight planes, and the leaves from `from` on and below `to`
--     are whole fours, and stand whole in the tree
-- Assumes nothing.
use Rattle.std.specs.Prelude.{◌≡◌, List, ℕ, ◌+◌, ◌*◌, ◌-◌, ◌%◌, ◌≤◌, ◌<◌, length}
use Rattle.std.specs.Int.Bits.{bit_xor}
use Rattle.protocol.specs.Lists.{block_at}
use Rattle.strings.specs.Sums.{byte_at, bit_of, xor_sum}
use Rattle.trees.specs.Trees.{leaf_byte}

abbrev pub Running : (ℕ → ℕ → ℕ) → ℕ → ℕ → (ℕ → ℕ) → (ℕ → ℕ → ℕ) → ℕ → Type 0
Running f r w u planes j = ((b : ℕ) → b < w → u b ≡ xor_sum j (λ i. f i b)) × ((p b : ℕ) → p < r → b < w → planes p b ≡ bit_xor (bit_of j p * xor_sum j (λ i. f i b)) (xor_sum j (λ i. bit_of i p * f i b)))

abbrev pub held_plane : List ℕ → ℕ → ℕ → ℕ → ℕ
held_plane held r p b = xor_sum (r + 1 - p) (λ k. byte_at held (k * 16 + b))

abbrev pub with_low : (ℕ → ℕ → ℕ) → (ℕ → ℕ) → (ℕ → ℕ) → ℕ → ℕ → ℕ
with_low a x y p b = bit_xor (bit_xor (a p b) (bit_of 1 p * x b)) (bit_of 3 p * y b)

abbrev pub RunningHeld : (ℕ → ℕ → ℕ) → ℕ → List ℕ → List ℕ → ℕ → Type 0
RunningHeld f r sum held j = Running f r 16 (byte_at sum) (held_plane held r) j

abbrev pub RunningLow : (ℕ → ℕ → ℕ) → ℕ → (ℕ → ℕ → ℕ) → List ℕ → List ℕ → List ℕ → ℕ → Type 0
RunningLow f r a sum first second j = Running f r 16 (byte_at sum) (with_low a (byte_at first) (byte_at second)) j

abbrev pub RunningLeaves : List ℕ → ℕ → ℕ → ℕ → ℕ → List ℕ → List ℕ → ℕ → Type 0
RunningLeaves tree w δ at r sum held j = RunningHeld (λ i b. leaf_byte tree w δ i (at + b)) r sum held j

abbrev pub Handed : (ℕ → ℕ → ℕ) → ℕ → List ℕ → ℕ → Type 0
Handed f j leaf at = (b : ℕ) → b < 16 → f j b ≡ byte_at leaf (at + b)

abbrev pub Placed : (ℕ → ℕ → ℕ) → ℕ → ℕ → ℕ → List ℕ → ℕ → ℕ → Type 0
Placed f j to skip tree w at = (i : ℕ) → j ≤ i → i < to → Handed f i (block_at tree w (i - skip)) at

abbrev pub ThreeAdded : ℕ → List ℕ → List ℕ → List ℕ → List ℕ → List ℕ → List ℕ → List ℕ → List ℕ → List ℕ → Type 0
ThreeAdded at leaf next third sum first second sum' first' second' =
    (f a : ℕ → ℕ → ℕ) (r j : ℕ) → j % 4 ≡ 0 → Handed f j leaf at → Handed f (j + 1) next at → Handed f (j + 2) third at
    → RunningLow f r a sum first second j → RunningLow f r a sum' first' second' (j + 3)

abbrev pub FoursFit : ℕ → ℕ → ℕ → ℕ → ℕ → ℕ → List ℕ → Type 0
FoursFit r w at skip from to tree =
    (r ≤ 8) × (to < 65536) × (at + 16 ≤ w) × (from ≤ to) × ((to - from) % 4 ≡ 0) × (from < to → (from % 4 ≡ 0) × (skip ≤ from) × ((to - skip) * w ≤ length tree))
