-- Opened leaves: the indices that are left when one is left out, where they stand, and the form of what is opened.
-- Assumes nothing.
use mathlib.Core.Path.{◌≡◌, refl, sym, ap, ◌∙◌}
use mathlib.Core.Logic.{◌≢◌}
use mathlib.Core.Bool.{Bool, true, false}
use mathlib.Core.List.{List, [], ◌∷◌, map}
use Prim.Native.Nat.{ℕ, zero, suc, ◌+◌, ◌*◌, ◌-◌, ◌≤◌, ◌<◌}
use native.Mathlib.Nat.{mul_assoc}
use native.Mathlib.Decide.{dec_lt, ℕ_discrete}
use native.Mathlib.Omega.{arith}
use lib.Dec.{eqb}
use lib.ListN.{length, get_or, length-map}
use Rattle.protocol.specs.Lists.{block_at, concat}
use Rattle.protocol.specs.Strings.{bytes}
use Rattle.protocol.specs.Leaves.{rising, unless, except, place, leaf_at, open_tree, open_leaves, opened_leaf}
use Rattle.theorems.proofs.TestLaws.{eqb-other, eqb_same, ltb_yes, ltb_no}
use Rattle.theorems.proofs.ListLaws.{row-end, length-block, Each, block-concat, length-concat, get_d_map, table-block, table-length, Cut, cut-none, cut-one, cut-append, cut-table}
use Rattle.theorems.proofs.StringLaws.{bytes-block, bytes-map, bytes-table}

length-rising : (a n : ℕ) → length (rising a n) ≡ n
unfolding rising
length-rising a zero = refl
length-rising a (suc n) = ap suc (length-rising (suc a) n)

rising-at : (a n i : ℕ) → i < n → get_or (rising a n) i 0 ≡ a + i
unfolding rising
rising-at a zero i h = absurd (omega arith)
rising-at a (suc n) zero h = omega arith
rising-at a (suc n) (suc i) h = rising-at (suc a) n i (omega arith) ∙ omega arith

except-all : (δ a n : ℕ) → δ < a → except δ (rising a n) ≡ rising a n
unfolding except rising
except-all δ a zero h = refl
except-all δ a (suc n) h = rw (eqb-other a δ (omega arith)) (ap (λ r. a ∷ r) (except-all δ (suc a) n (omega arith)))

except-here : (a n : ℕ) → except a (rising a (suc n)) ≡ rising (suc a) n
unfolding except rising
except-here a n = rw (eqb_same a a refl) (except-all a (suc a) n (omega arith))

except_later : (δ a n : ℕ) → a ≢ δ → except δ (rising a (suc n)) ≡ a ∷ except δ (rising (suc a) n)
unfolding except rising
except_later δ a n h = rw (eqb-other a δ h)

pub length-except : (δ a n : ℕ) → a ≤ δ → δ < a + n → suc (length (except δ (rising a n))) ≡ n
length-except δ a zero l h = absurd (omega arith)
length-except δ a (suc n) l h = go (ℕ_discrete a δ) (length-except δ (suc a) n)
  where
    go : Dec (a ≡ δ) → (suc a ≤ δ → δ < suc a + n → suc (length (except δ (rising (suc a) n))) ≡ n) → suc (length (except δ (rising a (suc n)))) ≡ suc n
    go (yes e) ih = rw (← e, except-here a n, length-rising (suc a) n)
    go (no e) ih = rw (except_later δ a n e) (ap suc (ih (omega arith) (omega arith)))

pub place-below : (δ j : ℕ) → j < δ → place δ j ≡ j
unfolding place
place-below δ j h = rw (ltb_yes j δ h)

pub place-above : (δ j : ℕ) → δ ≤ j → place δ j ≡ j - 1
unfolding place
place-above δ j h = rw (ltb_no j δ h)

-- the two descriptions agree
pub except-place : (δ a n j : ℕ) → a ≤ δ → a ≤ j → j < a + n → j ≢ δ → get_or (except δ (rising a n)) (place δ j - a) 0 ≡ j
except-place δ a zero j l h k ne = absurd (omega arith)
except-place δ a (suc n) j l h k ne = go (ℕ_discrete a δ) (ℕ_discrete j a) (except-place δ (suc a) n j)
  where
    go : Dec (a ≡ δ) → Dec (j ≡ a) → (suc a ≤ δ → suc a ≤ j → j < suc a + n → j ≢ δ → get_or (except δ (rising (suc a) n)) (place δ j - suc a) 0 ≡ j)
        → get_or (except δ (rising a (suc n))) (place δ j - a) 0 ≡ j
    go (yes e) d ih =
        rw (← e, except-here a n, place-above a j h) (rising-at (suc a) n (j - 1 - a) (omega (arith, e)) ∙ omega (arith, e))
    go (no e) (yes f) ih =
        let z : place δ j - a ≡ 0 = omega (arith, place-below δ j (omega (arith, e, f)), f) in
        rw (except_later δ a n e, z) (sym f)
    go (no e) (no f) ih =
        let z : place δ j - a ≡ suc (place δ j - suc a) = step (dec_lt j δ) in
        rw (except_later δ a n e, z) (ih (omega arith) (omega arith) (omega arith) ne)
      where
        step : Dec (j < δ) → place δ j - a ≡ suc (place δ j - suc a)
        step (yes g) = omega (arith, place-below δ j g)
        step (no g) = omega (arith, place-above δ j (omega arith))

-- ---- an opened tree

-- a leaf of the full string is w bytes long
pub length-leaf : (q w τ : ℕ) (leaves : List ℕ) → length leaves ≡ τ * q * w → (e j : ℕ) → e < τ → j < q → length (leaf_at q w leaves e j) ≡ w
unfolding leaf_at
length-leaf q w τ leaves h e j le lj =
    let a : e * q + j < τ * q = omega (arith, row-end e τ q le) in
    length-block leaves w (e * q + j) (omega (arith, h, row-end (e * q + j) (τ * q) w a))

each-except : (w δ a n m : ℕ) (f : ℕ → List ℕ) → a + n ≤ m → ((j : ℕ) → j < m → length (f j) ≡ w) → Each w (map f (except δ (rising a n)))
unfolding except rising
each-except w δ a zero m f l h = tt
each-except w δ a (suc n) m f l h = go (eqb a δ) (each-except w δ (suc a) n m f (omega arith) h)
  where
    go : (b : Bool) → Each w (map f (except δ (rising (suc a) n))) → Each w (map f (unless b a (except δ (rising (suc a) n))))
    go true r = r
    go false r = (h a (omega arith), r)

place_lt : (δ j q : ℕ) → δ < q → j < q → j ≢ δ → place δ j < q - 1
place_lt δ j q hd hj ne = go (dec_lt j δ)
  where
    go : Dec (j < δ) → place δ j < q - 1
    go (yes g) = omega (arith, place-below δ j g)
    go (no g) = omega (arith, place-above δ j (omega arith))

-- B3: leaf j of the opened tree, by place, is leaf j of the full tree
pub open_place : (q w τ : ℕ) (leaves : List ℕ) → length leaves ≡ τ * q * w → (e δ j : ℕ) → e < τ → δ < q → j < q → j ≢ δ
    → opened_leaf w δ (open_tree q w leaves e δ) j ≡ leaf_at q w leaves e j
unfolding opened_leaf open_tree
open_place q w τ leaves h e δ j le ld lj ne =
    let f : ℕ → List ℕ = leaf_at q w leaves e in
    let k : suc (length (except δ (rising 0 q))) ≡ q = length-except δ 0 q (omega arith) (omega arith) in
    let p : place δ j < length (except δ (rising 0 q)) = omega (arith, place_lt δ j q ld lj ne, k) in
    let p' : place δ j < length (map f (except δ (rising 0 q))) = rw (length-map (except δ (rising 0 q)) f) p in
    let z : place δ j ≡ place δ j - 0 = omega arith in
    block-concat w (map f (except δ (rising 0 q))) (each-except w δ 0 q q f (omega arith) (λ i li. length-leaf q w τ leaves h e i le li)) (place δ j) p'
    ∙ get_d_map f (except δ (rising 0 q)) (place δ j) 0 [] p
    ∙ ap f (ap (λ i. get_or (except δ (rising 0 q)) i 0) z ∙ except-place δ 0 q j (omega arith) (omega arith) (omega arith) ne)

pub length_open : (q w τ : ℕ) (leaves : List ℕ) → length leaves ≡ τ * q * w → (e δ : ℕ) → e < τ → δ < q → length (open_tree q w leaves e δ) ≡ (q - 1) * w
unfolding open_tree
length_open q w τ leaves h e δ le ld =
    let f : ℕ → List ℕ = leaf_at q w leaves e in
    let k : length (except δ (rising 0 q)) ≡ q - 1 = omega (arith, length-except δ 0 q (omega arith) (omega arith)) in
    length-concat w (map f (except δ (rising 0 q))) (each-except w δ 0 q q f (omega arith) (λ i li. length-leaf q w τ leaves h e i le li))
    ∙ ap (λ i. i * w) (length-map (except δ (rising 0 q)) f ∙ k)

cut-except : (w δ a n q : ℕ) (P : List ℕ → Bool) (f : ℕ → List ℕ) → a + n ≤ q → ((j : ℕ) → j < q → length (f j) ≡ w) → ((j : ℕ) → j < q → P (f j) ≡ true)
    → Cut w (length (except δ (rising a n))) P (concat (map f (except δ (rising a n))))
unfolding except rising concat
cut-except w δ a zero q P f l h g = cut-none w P
cut-except w δ a (suc n) q P f l h g = go (eqb a δ) (cut-except w δ (suc a) n q P f (omega arith) h g)
  where
    js : List ℕ
    js = except δ (rising (suc a) n)

    go : (b : Bool) → Cut w (length (except δ (rising (suc a) n))) P (concat (map f (except δ (rising (suc a) n))))
        → Cut w (length (unless b a (except δ (rising (suc a) n)))) P (concat (map f (unless b a (except δ (rising (suc a) n)))))
    go true c = c
    go false c =
        let e : suc (length (except δ (rising (suc a) n))) ≡ 1 + length (except δ (rising (suc a) n)) = omega arith in
        rw e (cut-append w 1 _ P (f a) _ (cut-one w P (f a) (h a (omega arith)) (g a (omega arith))) c)

module _ (q w τ : ℕ) (leaves : List ℕ) (h : length leaves ≡ τ * q * w) (P : List ℕ → Bool) (g : (e j : ℕ) → e < τ → j < q → P (leaf_at q w leaves e j) ≡ true) where
  pub cut-tree : (e δ : ℕ) → e < τ → δ < q → Cut w (q - 1) P (open_tree q w leaves e δ)
  unfolding open_tree
  cut-tree e δ le ld =
      let k : length (except δ (rising 0 q)) ≡ q - 1 = omega (arith, length-except δ 0 q (omega arith) (omega arith)) in
      rw k at (cut-except w δ 0 q q P (leaf_at q w leaves e) (omega arith) (λ j lj. length-leaf q w τ leaves h e j le lj) (λ j lj. g e j le lj))

  -- every leaf of an opened string is a leaf of the full one
  pub cut_opened : (Δ : List ℕ) → ((e : ℕ) → e < τ → get_or Δ e 0 < q) → Cut w (τ * (q - 1)) P (open_leaves q w τ leaves Δ)
  unfolding open_leaves
  cut_opened Δ b = cut-table w (q - 1) τ P (λ e. open_tree q w leaves e (get_or Δ e 0)) (λ e le. cut-tree e (get_or Δ e 0) le (b e le))

-- what is opened is bytes where the leaves are
pub opened-bytes : (q w τ : ℕ) (leaves Δ : List ℕ) → bytes leaves → bytes (open_leaves q w τ leaves Δ)
unfolding open_leaves open_tree leaf_at
opened-bytes q w τ leaves Δ h =
    bytes-table τ (λ e. open_tree q w leaves e (get_or Δ e 0)) (λ e. bytes-map (leaf_at q w leaves e) (λ j. bytes-block leaves w (e * q + j) h) (except (get_or Δ e 0) (rising 0 q)))

module _ (q w τ : ℕ) (leaves : List ℕ) (h : length leaves ≡ τ * q * w) (Δ : List ℕ) (b : (e : ℕ) → e < τ → get_or Δ e 0 < q) where
  tree-length : (e : ℕ) → e < τ → length (open_tree q w leaves e (get_or Δ e 0)) ≡ (q - 1) * w
  tree-length e le = length_open q w τ leaves h e (get_or Δ e 0) le (b e le)

  pub opened-length : length (open_leaves q w τ leaves Δ) ≡ τ * (q - 1) * w
  unfolding open_leaves
  opened-length = table-length ((q - 1) * w) τ (λ e. open_tree q w leaves e (get_or Δ e 0)) tree-length ∙ sym (mul_assoc τ (q - 1) w)

  pub opened-block : (e : ℕ) → e < τ → block_at (open_leaves q w τ leaves Δ) ((q - 1) * w) e ≡ open_tree q w leaves e (get_or Δ e 0)
  unfolding open_leaves
  opened-block e le = table-block ((q - 1) * w) τ (λ e. open_tree q w leaves e (get_or Δ e 0)) tree-length e le
