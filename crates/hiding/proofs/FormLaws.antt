-- The form of hidden leaves, of full leaves in which they are replaced, and of the hidden leaves that full leaves have.
-- Assumes nothing.
use mathlib.Core.Path.{◌≡◌, refl, sym, ap, ◌∙◌}
use mathlib.Core.Logic.{◌≢◌}
use mathlib.Core.Bool.{Bool, true, false, cond, true≢false}
use mathlib.Core.List.{List}
use Prim.Native.Nat.{ℕ, ◌+◌, ◌*◌, ◌/◌, ◌%◌, ◌<◌}
use native.Mathlib.Nat.{mul-one}
use native.Mathlib.Omega.{arith}
use lib.Dec.{eqb, eqb→eq}
use lib.ListN.{length, get_or}
use Rattle.algebra.proofs.CountLaws.{and_left, and_right}
use Rattle.protocol.specs.Lists.{block_at, concat, table}
use Rattle.protocol.specs.Strings.{bytes}
use Rattle.protocol.specs.Alphabet.{Alphabet, sym as symbol, Lawful}
use Rattle.protocol.specs.Shape.{Shape, per_tree, l_of, w_of}
use Rattle.protocol.specs.Key.{rows_spare}
use Rattle.protocol.specs.Leaves.{leaf_at, opened_leaf}
use Rattle.protocol.specs.Questions.{leaves_exact, leaves_spare, tree_of}
use Rattle.protocol.specs.Counting.{opening}
use Rattle.theorems.proofs.TestLaws.{eqb_eq, eqb_same, eqb-other, both_true, all-at, all_of}
use Rattle.theorems.proofs.ListLaws.{row-end, table-block, table-length}
use Rattle.theorems.proofs.StringLaws.{bytes-block, bytes-table}
use Rattle.theorems.proofs.LeafLaws.{length-leaf}
use Rattle.theorems.proofs.CountingLaws.{leaves-length}
use Rattle.theorems.proofs.Theorems.{opened-by-place}
use Rattle.hiding.specs.Hidden.{hidden_form, HiddenForm, hidden_of, tree_with, with_hidden, IsReplacement}
use Rattle.hiding.proofs.BlockLaws.{digits, blocks_ext}
use Rattle.hiding.proofs.HiddenLaws.{with_length, with_leaf, with_opened}

-- strings of bytes with spare bits 0 are equal where their coordinates are
module _ (A : Alphabet) (laws : Lawful A) where
  open A use {symbol_of, width, at, spare_zero}

  at_symbol : (z : List ℕ) (c : ℕ) → at z c ≡ symbol_of (symbol A z c)
  unfolding symbol
  at_symbol z c = sym (laws.symbol-of (at z c) (laws.at_lt z c))

  pub string_ext : (L : ℕ) (y z : List ℕ) → length y ≡ width L → length z ≡ width L → bytes y → bytes z → spare_zero y L ≡ true → spare_zero z L ≡ true
      → ((c : ℕ) → c < L → symbol A y c ≡ symbol A z c) → y ≡ z
  string_ext L y z ly lz by bz sy sz e =
      sym (laws.string_is L y ly by sy) ∙ laws.pack_congr L (at y) (at z) (λ c l. at_symbol y c ∙ ap symbol_of (e c l) ∙ sym (at_symbol z c)) ∙ laws.string_is L z lz bz sz

module _ (A : Alphabet) (s : Shape) where
  open A use {width, spare_zero}

  abbrev q : ℕ
  q = per_tree A

  abbrev w : ℕ
  w = w_of A s

  abbrev L : ℕ
  L = l_of A s

  row-spare : (per : ℕ) (l : List ℕ) → leaves_spare A s per l ≡ true → (i : ℕ) → i < s.τ * per → spare_zero (block_at l w i) L ≡ true
  unfolding leaves_spare rows_spare w_of
  row-spare per l h i k = all-at (s.τ * per) (λ i. spare_zero (block_at l (width L) i) L) h i k

  rows-spare : (per : ℕ) (l : List ℕ) → ((i : ℕ) → i < s.τ * per → spare_zero (block_at l w i) L ≡ true) → leaves_spare A s per l ≡ true
  unfolding leaves_spare rows_spare w_of
  rows-spare per l h = all_of (s.τ * per) (λ i. spare_zero (block_at l (width L) i) L) h

  -- ---- the form of hidden leaves

  module _ (hidden : List ℕ) where
    pub form-length : hidden_form A s hidden ≡ true → length hidden ≡ s.τ * w
    unfolding hidden_form leaves_exact
    form-length h = eqb_eq (length hidden) (s.τ * 1 * w) (and_left _ (leaves_spare A s 1 hidden) h) ∙ ap (λ z. z * w) (mul-one s.τ)

    pub form-spare : hidden_form A s hidden ≡ true → (e : ℕ) → e < s.τ → spare_zero (block_at hidden w e) L ≡ true
    unfolding hidden_form
    form-spare h e l = row-spare 1 hidden (and_right (leaves_exact A s 1 hidden) _ h) e (omega arith)

    hidden-form : length hidden ≡ s.τ * w → ((e : ℕ) → e < s.τ → spare_zero (block_at hidden w e) L ≡ true) → hidden_form A s hidden ≡ true
    unfolding hidden_form leaves_exact
    hidden-form k h = both_true _ _ (eqb_same (length hidden) (s.τ * 1 * w) (k ∙ ap (λ z. z * w) (sym (mul-one s.τ)))) (rows-spare 1 hidden (λ e l. h e (omega arith)))

  -- a leaf for each repetition, put together
  module _ (f : ℕ → List ℕ) (k : (e : ℕ) → e < s.τ → length (f e) ≡ w) where
    pub together-block : (e : ℕ) → e < s.τ → block_at (concat (table s.τ f)) w e ≡ f e
    together-block e l = table-block w s.τ f k e l

    pub together : ((e : ℕ) → bytes (f e)) → ((e : ℕ) → e < s.τ → spare_zero (f e) L ≡ true) → HiddenForm A s (concat (table s.τ f))
    together b z =
        (hidden-form (concat (table s.τ f)) (table-length w s.τ f k) (λ e l. ap (λ y. spare_zero y L) (together-block e l) ∙ z e l), bytes-table s.τ f b)

  -- ---- full leaves, the hidden ones replaced

  module _ (leaves Δ hidden : List ℕ) (exact : leaves_exact A s q leaves ≡ true) (form : hidden_form A s hidden ≡ true) where
    with_leaf' : (e j : ℕ) → e < s.τ → j < q → leaf_at q w (with_hidden A s leaves Δ hidden) e j ≡ cond (eqb j (get_or Δ e 0)) (block_at hidden w e) (leaf_at q w leaves e j)
    with_leaf' = with_leaf A s leaves Δ hidden (leaves-length A s leaves exact) (form-length hidden form)

    pub with_exact : leaves_exact A s q (with_hidden A s leaves Δ hidden) ≡ true
    unfolding leaves_exact
    with_exact = eqb_same _ _ (with_length A s leaves Δ hidden (leaves-length A s leaves exact) (form-length hidden form))

    module _ (spare : leaves_spare A s q leaves ≡ true) where
      leaf-spare : (e j : ℕ) → e < s.τ → j < q → spare_zero (leaf_at q w (with_hidden A s leaves Δ hidden) e j) L ≡ true
      unfolding leaf_at
      leaf-spare e j le l = ap (λ z. spare_zero z L) (with_leaf' e j le l) ∙ go (eqb j (get_or Δ e 0))
        where
          go : (b : Bool) → spare_zero (cond b (block_at hidden w e) (leaf_at q w leaves e j)) L ≡ true
          go true = form-spare hidden form e le
          go false = row-spare q leaves spare (e * q + j) (omega (arith, row-end e s.τ q le))

      pub with_spare : leaves_spare A s q (with_hidden A s leaves Δ hidden) ≡ true
      unfolding leaf_at
      with_spare =
          rows-spare q (with_hidden A s leaves Δ hidden)
          (λ i l. let d = digits s.τ q i l in ap (λ k. spare_zero (block_at (with_hidden A s leaves Δ hidden) w k) L) (sym d.2) ∙ leaf-spare (i / q) (i % q) d.0 d.1)

  pub with_bytes : (leaves Δ hidden : List ℕ) → bytes leaves → bytes hidden → bytes (with_hidden A s leaves Δ hidden)
  unfolding with_hidden tree_with leaf_at
  with_bytes leaves Δ hidden bl bh = bytes-table s.τ (λ e. tree_with A s leaves hidden e (get_or Δ e 0)) (λ e. bytes-table q _ (λ j. go e j (eqb j (get_or Δ e 0))))
    where
      go : (e j : ℕ) (b : Bool) → bytes (cond b (block_at hidden w e) (leaf_at q w leaves e j))
      go e j true = bytes-block hidden w e bh
      go e j false = bytes-block leaves w (e * q + j) bl

  pub is_replacement : IsReplacement A s
  is_replacement leaves Δ hidden exact form = record {
    hidden-leaf = λ e le ld.
        with_leaf' leaves Δ hidden exact form e (get_or Δ e 0) le ld
        ∙ ap (λ b. cond b (block_at hidden w e) (leaf_at q w leaves e (get_or Δ e 0))) (eqb_same (get_or Δ e 0) (get_or Δ e 0) refl);
    other-leaf = λ e j le lj n.
        with_leaf' leaves Δ hidden exact form e j le lj ∙ ap (λ b. cond b (block_at hidden w e) (leaf_at q w leaves e j)) (eqb-other j (get_or Δ e 0) n);
    same-opened = with_opened A s leaves Δ hidden (leaves-length A s leaves exact) (form-length hidden form);
  }

  -- ---- the hidden leaves of full leaves

  module _ (l Δ : List ℕ) (exact : leaves_exact A s q l ≡ true) (small : (e : ℕ) → e < s.τ → get_or Δ e 0 < q) where
    own : ℕ → List ℕ
    own e = leaf_at q w l e (get_or Δ e 0)

    own-length : (e : ℕ) → e < s.τ → length (own e) ≡ w
    unfolding own
    own-length e le = length-leaf q w s.τ l (leaves-length A s l exact) e (get_or Δ e 0) le (small e le)

    own_block : (e : ℕ) → e < s.τ → block_at (hidden_of A s l Δ) w e ≡ leaf_at q w l e (get_or Δ e 0)
    unfolding own hidden_of
    own_block e le = together-block own own-length e le

    pub own-form : leaves_spare A s q l ≡ true → bytes l → HiddenForm A s (hidden_of A s l Δ)
    unfolding own hidden_of leaf_at
    own-form spare b =
        together own own-length (λ e. bytes-block l w (e * q + get_or Δ e 0) b)
        (λ e le. row-spare q l spare (e * q + get_or Δ e 0) (omega (arith, row-end e s.τ q le, small e le)))

    -- put into full leaves of which the same is opened, they give back their own
    module _ (leaves : List ℕ) (exact' : leaves_exact A s q leaves ≡ true) (form : hidden_form A s (hidden_of A s l Δ) ≡ true) (same : opening A s leaves Δ ≡ opening A s l Δ) where
      in_size : (e : ℕ) → e < s.τ → get_or Δ e 0 < A.K.base.size
      unfolding per_tree
      in_size e le = small e le

      other : (e j : ℕ) → e < s.τ → j < q → j ≢ get_or Δ e 0 → leaf_at q w leaves e j ≡ leaf_at q w l e j
      other e j le lj n =
          sym (opened-by-place A s leaves Δ exact' in_size e j le lj n) ∙ ap (λ z. opened_leaf w (get_or Δ e 0) (tree_of A s z e) j) same ∙ opened-by-place A s l Δ exact in_size e j le lj n

      own-leaf : (e j : ℕ) → e < s.τ → j < q → leaf_at q w (with_hidden A s leaves Δ (hidden_of A s l Δ)) e j ≡ leaf_at q w l e j
      own-leaf e j le lj = with_leaf' leaves Δ (hidden_of A s l Δ) exact' form e j le lj ∙ go (eqb j (get_or Δ e 0)) refl
        where
          go : (b : Bool) → eqb j (get_or Δ e 0) ≡ b → cond b (block_at (hidden_of A s l Δ) w e) (leaf_at q w leaves e j) ≡ leaf_at q w l e j
          go true h = own_block e le ∙ ap (leaf_at q w l e) (sym (eqb→eq j (get_or Δ e 0) (rw h tt)))
          go false h = other e j le lj (λ z. absurd (true≢false (sym (eqb_same j (get_or Δ e 0) z) ∙ h)))

      pub given_back : with_hidden A s leaves Δ (hidden_of A s l Δ) ≡ l
      unfolding leaf_at
      given_back =
          blocks_ext w (s.τ * q) (with_hidden A s leaves Δ (hidden_of A s l Δ)) l (with_length A s leaves Δ (hidden_of A s l Δ) (leaves-length A s leaves exact') (form-length (hidden_of A s l Δ) form))
          (leaves-length A s l exact)
          (λ i li. let d = digits s.τ q i li in
          ap (block_at (with_hidden A s leaves Δ (hidden_of A s l Δ)) w) (sym d.2) ∙ own-leaf (i / q) (i % q) d.0 d.1 ∙ ap (block_at l w) d.2)
