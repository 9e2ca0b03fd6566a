-- The sizes: what a key's header says, the limits, and what is derived from them.
--   n variables, m equations, τ repetitions, t hash rows;  shape_of key == the sizes in the header of a key
--   most_variables, most_equations, most_repetitions, most_hash_rows == the largest n, m, τ, t;  limits s == the sizes are
--     in range
--   least_equations == the fewest equations, 0: a practice key (request 12). Of the others at least 1
--   within least most x == least ≤ x ≤ most
--   mask_at A s e == the first mask coordinate of repetition e: each repetition has a mask of its own, one after another
--     from n on (request 4; in 01 one mask serves all)
--   k_of == k = n + rτ, r mask coordinates for each repetition: the coordinates that H' covers
--   l_of == L = k + t, all coordinates
--   w_of == w, the bytes of a leaf: ⌈L/8⌉ for bits, ⌈L/4⌉ for four symbols
--   per_tree == the leaves of a tree, as many as the field has elements;  per_opened == those of an opened tree, one
--     fewer
-- Assumes nothing.
use Rattle.std.specs.Prelude.{Bool, ◌&&◌, List, [], ◌∷◌, ℕ, ◌+◌, ◌*◌, ◌-◌, leb}
use Rattle.protocol.specs.Lists.{all_true}
use Rattle.protocol.specs.Frames.{num2}
use Rattle.protocol.specs.Alphabet.{Alphabet}

pub record Shape : Type 0 where
  pub n : ℕ
  pub m : ℕ
  pub τ : ℕ
  pub t : ℕ

abbrev pub shape_of : List ℕ → Shape
shape_of key = record { n = num2 key 0; m = num2 key 2; τ = num2 key 4; t = num2 key 6 }

unfoldable pub within : ℕ → ℕ → ℕ → Bool
within least most x = leb least x && leb x most

abbrev pub most_variables : ℕ
most_variables = 320

abbrev pub least_equations : ℕ
least_equations = 0

abbrev pub most_equations : ℕ
most_equations = 320

abbrev pub most_repetitions : ℕ
most_repetitions = 48

abbrev pub most_hash_rows : ℕ
most_hash_rows = 288

unfoldable pub limits : Shape → Bool
limits s = all_true (within 1 most_variables s.n ∷ within least_equations most_equations s.m ∷ within 1 most_repetitions s.τ ∷ within 1 most_hash_rows s.t ∷ [])

module _ (A : Alphabet) where
  unfoldable pub per_tree : ℕ
  per_tree = A.K.base.size

  unfoldable pub per_opened : ℕ
  per_opened = per_tree - 1

  module _ (s : Shape) where
    unfoldable pub mask_at : ℕ → ℕ
    mask_at e = s.n + e * A.masks

    unfoldable pub k_of : ℕ
    k_of = s.n + s.τ * A.masks

    unfoldable pub l_of : ℕ
    l_of = k_of + s.t

    unfoldable pub w_of : ℕ
    w_of = A.width l_of
