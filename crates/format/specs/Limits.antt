-- The most that a key within the limits has of what follows from its sizes. The limits themselves are 01's: n, m, τ, t
-- are at most most_variables, most_equations, most_repetitions, most_hash_rows (protocol/specs/Shape). In the code
-- most_hashed and most_leaf stand in src/sizes.rt too.
--   most_hashed == the most k, the coordinates that a row of H' covers: the most n, and as many masks as repetitions,
--     each with as many coordinates as the largest degree
--   most_leaf == the most w, the bytes of a leaf: those of most_hashed and most_hash_rows bits
--   most_row == the most bytes of a row of H': those of most_hashed bits
--   most_witness == the most bytes of a witness, and of a row of A or b: those of most_variables bits
-- The last three are ⌈bits/8⌉ written out, not bytes_for, so that they compute in every proof that cites them.
-- Assumes nothing.
use Rattle.std.specs.Prelude.{ℕ, ◌+◌, ◌*◌, ◌/◌}
use Rattle.galois.specs.Degrees.{degree}
use Rattle.protocol.specs.Shape.{most_variables, most_repetitions, most_hash_rows}

abbrev pub most_hashed : ℕ
most_hashed = most_variables + most_repetitions * degree

abbrev pub most_leaf : ℕ
most_leaf = (most_hashed + most_hash_rows + 7) / 8

abbrev pub most_row : ℕ
most_row = (most_hashed + 7) / 8

abbrev pub most_witness : ℕ
most_witness = (most_variables + 7) / 8
