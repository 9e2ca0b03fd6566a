-- The sums over a tree of leaves, with its bytes walked once from the front and no product with a bit, so that they
-- compute over 256 leaves.
--   pick x a == 0 if x is 0, and a if not
--   walk n w g s j == g j (block 0 of s) + g (j + 1) (block 1) + .., n blocks of w bytes
--   weighed a == Σ_j a_j·ℓ(e, j), walked;  opened_weighed == W, walked over the opened tree
-- Assumes nothing.
use mathlib.Core.Path.{◌≡◌, refl, sym, ap, ap₂, ◌∙◌}
use mathlib.Core.Logic.{◌≢◌}
use mathlib.Core.Bool.{cond}
use mathlib.Core.List.{List, [], ◌∷◌}
use Prim.Native.Nat.{ℕ, zero, suc, ◌+◌, ◌*◌, ◌<◌}
use native.Mathlib.Nat.{zero-mul, zero-add, add-zero, add-mul}
use native.Mathlib.Omega.{arith}
use lib.Dec.{eqb}
use lib.ListN.{take, drop}
use Rattle.algebra.specs.Ring.{Ring}
use Rattle.algebra.specs.Coded.{Coded}
use Rattle.algebra.specs.Sum.{sum}
use Rattle.algebra.proofs.RingLaws.{mul-zero, one-mul, zero-add as zero-plus}
use Rattle.algebra.proofs.SumLaws.{sum_congr, sum_ext, sum-front, sum-split}
use Rattle.protocol.specs.Lists.{part, block_at}
use Rattle.protocol.specs.Strings.{bit}
use Rattle.protocol.specs.Alphabet.{sym as symbol}
use Rattle.protocol.specs.Binary.{binary}
use Rattle.protocol.specs.Shape.{Shape, per_tree, w_of}
use Rattle.protocol.specs.Sections.{Sections}
use Rattle.protocol.specs.Leaves.{leaf_at, place, opened_leaf}
use Rattle.protocol.specs.Prover.{u, v}
use Rattle.protocol.specs.Verifier.{correction_at, W}
use Rattle.theorems.proofs.TestLaws.{eqb-other, eqb_same}
use Rattle.theorems.proofs.StringLaws.{bit_lt}
use Rattle.theorems.proofs.LeafLaws.{place-below, place-above}

add-suc-left : (j i : ℕ) → j + suc i ≡ suc j + i
add-suc-left j i = omega arith

drop-drop : (a b : ℕ) (s : List ℕ) → drop (a + b) s ≡ drop b (drop a s)
drop-drop zero b s = ap (λ k. drop k s) (zero-add b)
drop-drop (suc a) zero [] = ap {B = List ℕ} (λ k. drop k []) (add-zero (suc a))
drop-drop (suc a) (suc b) [] = let e : suc a + suc b ≡ suc (a + suc b) = omega arith in ap {B = List ℕ} (λ k. drop k []) e
drop-drop (suc a) b (x ∷ s) = let e : suc a + b ≡ suc (a + b) = omega arith in ap (λ k. drop k (x ∷ s)) e ∙ drop-drop a b s

-- blocks from block a on
block-from : (s : List ℕ) (w a i : ℕ) → block_at s w (a + i) ≡ block_at (drop (a * w) s) w i
unfolding block_at part
block-from s w a i = ap (take w) (ap (λ k. drop k s) (add-mul a i w) ∙ drop-drop (a * w) (i * w) s)

block-first : (s : List ℕ) (w : ℕ) → block_at s w 0 ≡ take w s
unfolding block_at part
block-first s w = ap (λ k. take w (drop k s)) (zero-mul w)

block-next : (s : List ℕ) (w i : ℕ) → block_at s w (suc i) ≡ block_at (drop w s) w i
block-next s w i =
    let e : suc i ≡ 1 + i = omega arith in
    let f : 1 * w ≡ w = omega arith in
    ap (block_at s w) e ∙ block-from s w 1 i ∙ ap (λ k. block_at (drop k s) w i) f

module _ (R : Ring) where
  open R use {F, 𝟘, add as ◌⊕◌}

  infixl 65 ◌⊕◌
  abbrev pub walk : ℕ → ℕ → (ℕ → List ℕ → F) → List ℕ → ℕ → F
  walk zero w g s j = 𝟘
  walk (suc n) w g s j = g j (take w s) ⊕ walk n w g (drop w s) (suc j)

  walk_is : (n w : ℕ) (g : ℕ → List ℕ → F) (s : List ℕ) (j : ℕ) → sum R n (λ i. g (j + i) (block_at s w i)) ≡ walk n w g s j
  walk_is zero w g s j = refl
  walk_is (suc n) w g s j =
      sum-front R n (λ i. g (j + i) (block_at s w i))
      ∙ ap₂ ◌⊕◌ (ap₂ g (add-zero j) (block-first s w)) (sum_ext R n _ _ (λ i. ap₂ g (add-suc-left j i) (block-next s w i)) ∙ walk_is n w g (drop w s) (suc j))

module _ (K : Coded) where
  open K use {base, elem}
  open base use {R}
  open R use {F, 𝟘, 𝟙, add as ◌⊕◌, mul as ◌⊗◌}

  infixl 65 ◌⊕◌
  infixl 70 ◌⊗◌
  abbrev pub pick : ℕ → F → F
  pick zero a = 𝟘
  pick (suc x) a = a

  pick_is : (a : F) (x : ℕ) → x < 2 → a ⊗ elem x ≡ pick x a
  pick_is a zero l = ap (λ z. a ⊗ z) K.elem-zero ∙ mul-zero R a
  pick_is a (suc zero) l = ap (λ z. a ⊗ z) K.elem-one ∙ R.mul-one a
  pick_is a (suc (suc x)) l = absurd (omega arith)

  module _ (s : Shape) (leaves : List ℕ) (e c : ℕ) where
    abbrev q : ℕ
    q = per_tree (binary K)

    abbrev w : ℕ
    w = w_of (binary K) s

    abbrev pub weighed : (ℕ → F) → F
    weighed a = walk R (per_tree (binary K)) (w_of (binary K) s) (λ j l. pick (bit l c) (a j)) (drop (e * per_tree (binary K) * w_of (binary K) s) leaves) 0

    weighed_is : (a : ℕ → F) → sum R q (λ j. a j ⊗ symbol (binary K) (leaf_at q w leaves e j) c) ≡ weighed a
    unfolding symbol leaf_at
    weighed_is a =
        sum_ext R q _ _ (λ j. ap₂ (λ x l. a x ⊗ elem (bit l c)) (sym (zero-add j)) (block-from leaves w (e * q) j) ∙ pick_is (a (0 + j)) _ (bit_lt _ c))
        ∙ walk_is R q w (λ j l. pick (bit l c) (a j)) (drop (e * q * w) leaves) 0

    pub v_walked : v (binary K) s leaves e c ≡ weighed elem
    unfolding v
    v_walked = weighed_is elem

    pub u_walked : u (binary K) s leaves e c ≡ weighed (λ j. 𝟙)
    unfolding u
    u_walked = sum_ext R q _ _ (λ j. sym (one-mul R _)) ∙ weighed_is (λ j. 𝟙)

  -- W, where the tree has δ + 1 + r leaves: those below δ, and those above
  module _ (s : Shape) (p : Sections) (e δ r : ℕ) (tree : List ℕ) (c : ℕ) where
    abbrev weight : ℕ → List ℕ → F
    weight j l = pick (bit l c) (elem j ⊕ elem δ)

    abbrev pub opened_weighed : F
    opened_weighed =
        walk R δ (w_of (binary K) s) weight tree 0 ⊕ walk R r (w_of (binary K) s) weight (drop (δ * w_of (binary K) s) tree) (suc δ)
        ⊕ elem δ ⊗ correction_at (binary K) s p e c

    abbrev wide : ℕ
    wide = w_of (binary K) s

    abbrev term : ℕ → F
    term j = cond (eqb j δ) 𝟘 ((elem j ⊕ elem δ) ⊗ symbol (binary K) (opened_leaf (w_of (binary K) s) δ tree j) c)

    other : (j : ℕ) → j ≢ δ → term j ≡ weight j (block_at tree wide (place δ j))
    unfolding symbol opened_leaf
    other j n = ap (λ b. cond b 𝟘 ((elem j ⊕ elem δ) ⊗ elem (bit (block_at tree wide (place δ j)) c))) (eqb-other j δ n) ∙ pick_is (elem j ⊕ elem δ) _ (bit_lt _ c)

    below : (j : ℕ) → j < δ → term j ≡ weight (0 + j) (block_at tree wide j)
    below j l =
        let n : j ≢ δ = omega arith in
        other j n ∙ ap₂ (λ x k. weight x (block_at tree wide k)) (sym (zero-add j)) (place-below δ j l)

    above : (i : ℕ) → term (δ + suc i) ≡ weight (suc δ + i) (block_at (drop (δ * wide) tree) wide i)
    above i =
        let n : δ + suc i ≢ δ = omega arith in
        let k : place δ (δ + suc i) ≡ δ + i = place-above δ (δ + suc i) (omega arith) ∙ omega arith in
        other (δ + suc i) n ∙ ap₂ weight (add-suc-left δ i) (ap (block_at tree wide) k ∙ block-from tree wide δ i)

    left_out : term (δ + 0) ≡ 𝟘
    left_out = ap term (add-zero δ) ∙ ap (λ b. cond b 𝟘 ((elem δ ⊕ elem δ) ⊗ symbol (binary K) (opened_leaf wide δ tree δ) c)) (eqb_same δ δ refl)

    pub W_walked : per_tree (binary K) ≡ δ + suc r → W (binary K) s p e δ tree c ≡ opened_weighed
    unfolding W
    W_walked h =
        ap (λ z. z ⊕ elem δ ⊗ correction_at (binary K) s p e c)
        (ap (λ q. sum R q term) h ∙ sum-split R δ (suc r) term
        ∙ ap₂ ◌⊕◌ (sum_congr R δ _ _ below ∙ walk_is R δ wide weight tree 0)
        (sum-front R r (λ i. term (δ + i)) ∙ ap₂ ◌⊕◌ left_out (sum_ext R r _ _ above ∙ walk_is R r wide weight (drop (δ * wide) tree) (suc δ)) ∙ zero-plus R _))
