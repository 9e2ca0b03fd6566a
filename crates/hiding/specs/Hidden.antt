-- Hidden leaves: leaf Δ_e of each repetition e, which the verifier is not lent. They are written as one string, the
-- leaf of repetition e at place e.
--   hidden_form s hidden == hidden is one leaf for each repetition, of exact length, "with spare bits 0"
--   HiddenForm s hidden == and its entries are bytes: entries from 256 on would write the same coordinates again
--   hidden_of s leaves Δ == the hidden leaves of full leaves
--   with_hidden s leaves Δ hidden == the full leaves, the hidden ones replaced;  tree_with == tree e of them
--   Replaced == what that means, leaf by leaf: each hidden leaf is in its place, every other leaf is as it was, and so
--     is what is opened. `IsReplacement` says it of leaves and hidden leaves of the right form
-- Assumes nothing.
use Rattle.std.specs.Prelude.{◌≡◌, ◌≢◌, Bool, true, ◌&&◌, cond, List, ℕ, ◌<◌, eqb, get_or}
use Rattle.protocol.specs.Lists.{table, concat, block_at}
use Rattle.protocol.specs.Strings.{bytes}
use Rattle.protocol.specs.Alphabet.{Alphabet}
use Rattle.protocol.specs.Shape.{Shape, per_tree, w_of}
use Rattle.protocol.specs.Leaves.{leaf_at}
use Rattle.protocol.specs.Questions.{leaves_exact, leaves_spare}
use Rattle.protocol.specs.Counting.{opening}

module _ (A : Alphabet) (s : Shape) where
  unfoldable pub hidden_form : List ℕ → Bool
  hidden_form hidden = leaves_exact A s 1 hidden && leaves_spare A s 1 hidden

  abbrev pub HiddenForm : List ℕ → Type 0
  HiddenForm hidden = (hidden_form hidden ≡ true) × bytes hidden

  unfoldable pub hidden_of : List ℕ → List ℕ → List ℕ
  hidden_of leaves Δ = concat (table s.τ (λ e. leaf_at (per_tree A) (w_of A s) leaves e (get_or Δ e 0)))

  unfoldable pub tree_with : List ℕ → List ℕ → ℕ → ℕ → List ℕ
  tree_with leaves hidden e δ = concat (table (per_tree A) (λ j. cond (eqb j δ) (block_at hidden (w_of A s) e) (leaf_at (per_tree A) (w_of A s) leaves e j)))

  unfoldable pub with_hidden : List ℕ → List ℕ → List ℕ → List ℕ
  with_hidden leaves Δ hidden = concat (table s.τ (λ e. tree_with leaves hidden e (get_or Δ e 0)))

  pub record Replaced (leaves Δ hidden : List ℕ) : Type 0 where
    pub hidden-leaf : (e : ℕ) → e < s.τ → get_or Δ e 0 < per_tree A → leaf_at (per_tree A) (w_of A s) (with_hidden leaves Δ hidden) e (get_or Δ e 0) ≡ block_at hidden (w_of A s) e
    pub other-leaf : (e j : ℕ) → e < s.τ → j < per_tree A → j ≢ get_or Δ e 0
        → leaf_at (per_tree A) (w_of A s) (with_hidden leaves Δ hidden) e j ≡ leaf_at (per_tree A) (w_of A s) leaves e j
    pub same-opened : opening A s (with_hidden leaves Δ hidden) Δ ≡ opening A s leaves Δ

  abbrev pub IsReplacement : Type 0
  IsReplacement = (leaves Δ hidden : List ℕ) → leaves_exact A s (per_tree A) leaves ≡ true → hidden_form hidden ≡ true → Replaced leaves Δ hidden
