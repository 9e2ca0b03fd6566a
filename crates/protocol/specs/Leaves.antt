-- Leaves: the full string, the opened leaves got from it by leaving out j = δ in each repetition, and where leaf j
-- stands in an opened tree.
--   q == leaves of a tree;  w == bytes of a leaf;  leaf_at q w leaves e j == ℓ(e, j)
--   open_tree q w leaves e δ == the leaves of repetition e whose index is not δ, rising: indices are FILTERED
--   open_leaves q w τ leaves Δ == the opened trees of all repetitions, tree e opened at Δ_e
--   place δ j == where leaf j stands in an opened tree: j below δ, j - 1 above
--   opened_leaf w δ tree j == the leaf at that place
-- Two descriptions of one thing, joined by a theorem (`OpenedByPlace`), so that no slip of indexing hides in both.
-- Assumes nothing.
use Rattle.std.specs.Prelude.{Bool, true, false, cond, List, [], ◌∷◌, map, ℕ, zero, suc, ◌+◌, ◌*◌, ◌-◌, eqb, ltb, get_or}
use Rattle.protocol.specs.Lists.{block_at, table, concat}

unfoldable pub leaf_at : ℕ → ℕ → List ℕ → ℕ → ℕ → List ℕ
leaf_at q w leaves e j = block_at leaves w (e * q + j)

abbrev pub unless : Bool → ℕ → List ℕ → List ℕ
unless true j js = js
unless false j js = j ∷ js

-- the indices of a list other than δ
unfoldable pub except : ℕ → List ℕ → List ℕ
except δ [] = []
except δ (j ∷ js) = unless (eqb j δ) j (except δ js)

-- a, a + 1, .., n of them
unfoldable pub rising : ℕ → ℕ → List ℕ
rising a zero = []
rising a (suc n) = a ∷ rising (suc a) n

unfoldable pub open_tree : ℕ → ℕ → List ℕ → ℕ → ℕ → List ℕ
open_tree q w leaves e δ = concat (map (leaf_at q w leaves e) (except δ (rising 0 q)))

unfoldable pub open_leaves : ℕ → ℕ → ℕ → List ℕ → List ℕ → List ℕ
open_leaves q w τ leaves Δ = concat (table τ (λ e. open_tree q w leaves e (get_or Δ e 0)))

unfoldable pub place : ℕ → ℕ → ℕ
place δ j = cond (ltb j δ) j (j - 1)

unfoldable pub opened_leaf : ℕ → ℕ → List ℕ → ℕ → List ℕ
opened_leaf w δ tree j = block_at tree w (place δ j)
