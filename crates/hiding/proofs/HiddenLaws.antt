-- Full leaves with the hidden ones replaced: the leaves that they have, what is opened of them, and the prover's sums.
-- Assumes nothing.
use mathlib.Core.Path.{◌≡◌, refl, sym, ap, ap₂, ◌∙◌}
use mathlib.Core.Logic.{◌≢◌}
use mathlib.Core.Bool.{Bool, true, false, cond, true≢false}
use mathlib.Core.List.{List, ◌∷◌, map}
use Prim.Native.Nat.{ℕ, zero, suc, ◌+◌, ◌*◌, ◌≤◌, ◌<◌}
use native.Mathlib.Nat.{mul_assoc}
use native.Mathlib.Omega.{arith}
use lib.Dec.{eqb, eqb→eq}
use lib.ListN.{length, get_or}
use Rattle.algebra.specs.Ring.{Ring}
use Rattle.algebra.specs.Sum.{sum}
use Rattle.algebra.proofs.RingLaws.{ring}
use Rattle.algebra.proofs.SumLaws.{sum_congr, sum_ext, sum-add, sum_one}
use Rattle.protocol.specs.Lists.{block_at, concat}
use Rattle.protocol.specs.Alphabet.{Alphabet, sym as symbol}
use Rattle.protocol.specs.Shape.{Shape, per_tree, w_of}
use Rattle.protocol.specs.Leaves.{rising, unless, except, leaf_at, open_tree, open_leaves}
use Rattle.protocol.specs.Prover.{u, v}
use Rattle.protocol.specs.Counting.{opening}
use Rattle.hiding.specs.Hidden.{tree_with, with_hidden}
use Rattle.theorems.proofs.TestLaws.{eqb_same, eqb-other}
use Rattle.theorems.proofs.ListLaws.{row-end, length-block, table-block, table-length, table_congr, block-block}
use Rattle.theorems.proofs.LeafLaws.{length-leaf}

-- ---- a sum with one term replaced

module _ (R : Ring) where
  open R use {F, 𝟘, add as ◌⊕◌, mul as ◌⊗◌}

  infixl 65 ◌⊕◌
  infixl 70 ◌⊗◌
  pub sum_replaced : (n d : ℕ) (h : F) (l : ℕ → F) → d < n → sum R n (λ j. cond (eqb j d) h (l j)) ≡ sum R n l ⊕ (l d ⊕ h)
  sum_replaced n d h l k =
      sum_ext R n _ (λ j. l j ⊕ cond (eqb j d) (l d ⊕ h) 𝟘) (λ j. term j (eqb j d) refl)
      ∙ sum-add R n l (λ j. cond (eqb j d) (l d ⊕ h) 𝟘)
      ∙ ap (λ z. sum R n l ⊕ z) (sum_one R n d (λ j. cond (eqb j d) (l d ⊕ h) 𝟘) k (λ j ne. ap (λ b. cond b (l d ⊕ h) 𝟘) (eqb-other j d ne)) ∙ ap (λ b. cond b (l d ⊕ h) 𝟘) (eqb_same d d refl))
    where
      term : (j : ℕ) (b : Bool) → eqb j d ≡ b → cond b h (l j) ≡ l j ⊕ cond b (l d ⊕ h) 𝟘
      term j true e = rw (eqb→eq j d (rw e tt)) (simp ring)
      term j false e = simp ring

  pub sum_weighted : (n d : ℕ) (at : ℕ → F) (h : F) (l : ℕ → F) → d < n → sum R n (λ j. at j ⊗ cond (eqb j d) h (l j)) ≡ sum R n (λ j. at j ⊗ l j) ⊕ at d ⊗ (l d ⊕ h)
  sum_weighted n d at h l k =
      sum_ext R n _ (λ j. cond (eqb j d) (at d ⊗ h) (at j ⊗ l j)) (λ j. term j (eqb j d) refl)
      ∙ sum_replaced n d (at d ⊗ h) (λ j. at j ⊗ l j) k
      ∙ ap (λ z. sum R n (λ j. at j ⊗ l j) ⊕ z) (sym (R.mul-add (at d) (l d) h))
    where
      term : (j : ℕ) (b : Bool) → eqb j d ≡ b → at j ⊗ cond b h (l j) ≡ cond b (at d ⊗ h) (at j ⊗ l j)
      term j true e = ap (λ i. at i ⊗ h) (eqb→eq j d (rw e tt))
      term j false e = refl

-- what is opened depends on the other leaves alone
map-except : {X : Type 0} (δ a n : ℕ) (f g : ℕ → X) → ((j : ℕ) → a ≤ j → j < a + n → j ≢ δ → f j ≡ g j) → map f (except δ (rising a n)) ≡ map g (except δ (rising a n))
unfolding except rising
map-except δ a zero f g h = refl
map-except {X} δ a (suc n) f g h = go (eqb a δ) refl (map-except δ (suc a) n f g (λ j l k. h j (omega arith) (omega arith)))
  where
    go : (b : Bool) → eqb a δ ≡ b → map f (except δ (rising (suc a) n)) ≡ map g (except δ (rising (suc a) n)) → map f (unless b a (except δ (rising (suc a) n))) ≡ map g (unless b a (except δ (rising (suc a) n)))
    go true e r = r
    go false e r = ap₂ ◌∷◌ (h a (omega arith) (omega arith) (λ z. absurd (true≢false (sym (eqb_same a δ z) ∙ e)))) r

pub open_congr : (q w τ : ℕ) (leaves leaves' Δ : List ℕ) → ((e j : ℕ) → e < τ → j < q → j ≢ get_or Δ e 0 → leaf_at q w leaves e j ≡ leaf_at q w leaves' e j)
    → open_leaves q w τ leaves Δ ≡ open_leaves q w τ leaves' Δ
unfolding open_leaves open_tree
open_congr q w τ leaves leaves' Δ h = ap concat (table_congr τ _ _ (λ e l. ap concat (map-except (get_or Δ e 0) 0 q (leaf_at q w leaves e) (leaf_at q w leaves' e) (λ j a k n. h e j l (omega arith) n))))

-- what the hidden leaf of repetition e changes by
unfoldable pub change : (A : Alphabet) → Shape → List ℕ → List ℕ → List ℕ → ℕ → ℕ → A.K.base.R.F
change A s leaves Δ hidden e c = A.K.base.R.add (symbol A (leaf_at (per_tree A) (w_of A s) leaves e (get_or Δ e 0)) c) (symbol A (block_at hidden (w_of A s) e) c)

module _ (A : Alphabet) (s : Shape) (leaves Δ hidden : List ℕ) (k7 : length leaves ≡ s.τ * per_tree A * w_of A s) (h7 : length hidden ≡ s.τ * w_of A s) where
  open A use {K}
  open K use {base, elem}
  open base use {R}
  open R use {F, 𝟘, add as ◌⊕◌, mul as ◌⊗◌}

  infixl 65 ◌⊕◌
  infixl 70 ◌⊗◌
  abbrev q : ℕ
  q = per_tree A

  abbrev w : ℕ
  w = w_of A s

  pub hidden-length : (e : ℕ) → e < s.τ → length (block_at hidden w e) ≡ w
  hidden-length e l = length-block hidden w e (omega (arith, h7, row-end e s.τ w l))

  entry : ℕ → ℕ → List ℕ
  entry e j = cond (eqb j (get_or Δ e 0)) (block_at hidden w e) (leaf_at q w leaves e j)

  entry_length : (e : ℕ) → e < s.τ → (j : ℕ) → j < q → length (entry e j) ≡ w
  unfolding entry
  entry_length e le j l = go (eqb j (get_or Δ e 0))
    where
      go : (b : Bool) → length (cond b (block_at hidden w e) (leaf_at q w leaves e j)) ≡ w
      go true = hidden-length e le
      go false = length-leaf q w s.τ leaves k7 e j le l

  tree-length : (e : ℕ) → e < s.τ → length (tree_with A s leaves hidden e (get_or Δ e 0)) ≡ q * w
  unfolding tree_with entry
  tree-length e le = table-length w q (entry e) (entry_length e le)

  pub with_length : length (with_hidden A s leaves Δ hidden) ≡ s.τ * q * w
  unfolding with_hidden
  with_length = table-length (q * w) s.τ (λ e. tree_with A s leaves hidden e (get_or Δ e 0)) tree-length ∙ sym (mul_assoc s.τ q w)

  pub with_leaf : (e j : ℕ) → e < s.τ → j < q → leaf_at q w (with_hidden A s leaves Δ hidden) e j ≡ cond (eqb j (get_or Δ e 0)) (block_at hidden w e) (leaf_at q w leaves e j)
  unfolding with_hidden tree_with leaf_at entry
  with_leaf e j le l =
      sym (block-block (with_hidden A s leaves Δ hidden) q w e j l)
      ∙ ap (λ z. block_at z w j) (table-block (q * w) s.τ (λ e. tree_with A s leaves hidden e (get_or Δ e 0)) tree-length e le)
      ∙ table-block w q (entry e) (entry_length e le) j l

  pub with_opened : opening A s (with_hidden A s leaves Δ hidden) Δ ≡ opening A s leaves Δ
  unfolding opening
  with_opened = open_congr q w s.τ (with_hidden A s leaves Δ hidden) leaves Δ (λ e j le l n. with_leaf e j le l ∙ ap (λ b. cond b (block_at hidden w e) (leaf_at q w leaves e j)) (eqb-other j (get_or Δ e 0) n))

  cond_symbol : (b : Bool) (y z : List ℕ) (c : ℕ) → symbol A (cond b y z) c ≡ cond b (symbol A y c) (symbol A z c)
  cond_symbol true y z c = refl
  cond_symbol false y z c = refl

  with_symbol : (e j c : ℕ) → e < s.τ → j < q → symbol A (leaf_at q w (with_hidden A s leaves Δ hidden) e j) c ≡ cond (eqb j (get_or Δ e 0)) (symbol A (block_at hidden w e) c) (symbol A (leaf_at q w leaves e j) c)
  with_symbol e j c le l = ap (λ z. symbol A z c) (with_leaf e j le l) ∙ cond_symbol (eqb j (get_or Δ e 0)) _ _ c

  module _ (e : ℕ) (le : e < s.τ) (ld : get_or Δ e 0 < per_tree A) (c : ℕ) where
    pub with_u : u A s (with_hidden A s leaves Δ hidden) e c ≡ u A s leaves e c ⊕ change A s leaves Δ hidden e c
    unfolding u change
    with_u = sum_congr R q _ _ (λ j l. with_symbol e j c le l) ∙ sum_replaced R q (get_or Δ e 0) (symbol A (block_at hidden w e) c) (λ j. symbol A (leaf_at q w leaves e j) c) ld

    pub with_v : v A s (with_hidden A s leaves Δ hidden) e c ≡ v A s leaves e c ⊕ elem (get_or Δ e 0) ⊗ change A s leaves Δ hidden e c
    unfolding v change
    with_v =
        sum_congr R q _ _ (λ j l. ap (λ z. elem j ⊗ z) (with_symbol e j c le l))
        ∙ sum_weighted R q (get_or Δ e 0) elem (symbol A (block_at hidden w e) c) (λ j. symbol A (leaf_at q w leaves e j) c) ld
