-- What the sums and the table hold, in 01's terms: a row of the sums is u_e, a lane of the table is v_e.
-- Assumes nothing.
use mathlib.Core.Path.{◌≡◌, refl, sym, ap, ◌∙◌}
use mathlib.Core.Bool.{true}
use mathlib.Core.List.{List}
use Prim.Native.Nat.{ℕ, ◌+◌, ◌*◌, ◌/◌, ◌%◌, ◌≤◌, ◌<◌}
use native.Mathlib.Nat.{mod-eq_of_lt}
use native.Mathlib.Omega.{arith}
use lib.Dec.{eqb, lit<}
use lib.ListN.{length}
use Rattle.algebra.specs.Coded.{Coded}
use Rattle.protocol.specs.Lists.{block_at}
use Rattle.protocol.specs.Strings.{bit}
use Rattle.protocol.specs.Alphabet.{sym as symbol}
use Rattle.protocol.specs.Setting.{Setting, alphabet_of, size_of}
use Rattle.protocol.specs.Shape.{Shape, per_tree, l_of, w_of}
use Rattle.protocol.specs.Key.{rows_spare}
use Rattle.protocol.specs.Questions.{leaves_exact, leaves_spare}
use Rattle.protocol.specs.Leaves.{leaf_at}
use Rattle.protocol.specs.Prover.{u, v}
use Rattle.theorems.proofs.TestLaws.{eqb_eq, eqb_same, bool_iff, all-at}
use Rattle.theorems.proofs.ListLaws.{row-end, length-block}
use Rattle.theorems.proofs.StringLaws.{bit_lt, spare-at}
use Rattle.strings.specs.Sums.{byte_at, bit_of, xor_sum}
use Rattle.strings.proofs.Rows.{row-byte}
use Rattle.strings.proofs.SumLaws.{sum_same, sum_lt, sum-none}
use Rattle.strings.proofs.Meaning.{bitOf_sum, bit_is, byte-sum, byte-bit, byte-times}
use Rattle.lanes.specs.Lanes.{lanes}
use Rattle.tables.specs.Sums.{v_byte, SumsAre, TableIs}
use Rattle.tables.proofs.TreeLaws.{tree-bit}

pub per_tree_lem : (g : Setting) → per_tree (alphabet_of g) ≡ size_of g
unfolding per_tree
per_tree_lem g = refl

abbrev pub byte_of : (g : Setting) → (alphabet_of g).K.base.R.F → ℕ
byte_of g = (alphabet_of g).K.byte

-- two elements are the same where their bytes are
pub same_bytes : (K : Coded) (a b : K.base.R.F) → eqb (K.byte a) (K.byte b) ≡ K.base.eqb a b
same_bytes K a b =
    bool_iff (eqb (K.byte a) (K.byte b)) (K.base.eqb a b)
    (λ h. let same : a ≡ b = sym (K.elem-byte a) ∙ ap K.elem (eqb_eq (K.byte a) (K.byte b) h) ∙ K.elem-byte b in rw same (K.base.eqb_refl b))
    (λ h. eqb_same (K.byte a) (K.byte b) (ap K.byte (K.base.eqb_sound a b h)))

module _ (g : Setting) (s : Shape) (leaves : List ℕ) (e c : ℕ) where
  abbrev w : ℕ
  w = w_of (alphabet_of g) s

  abbrev count : ℕ
  count = per_tree (alphabet_of g)

  abbrev leaf : ℕ → List ℕ
  leaf j = block_at leaves w (e * count + j)

  abbrev tree : List ℕ
  tree = block_at leaves (count * w) e

  u_bit : byte_of g (u (alphabet_of g) s leaves e c) ≡ xor_sum count (λ j. bit (leaf j) c)
  unfolding u symbol leaf_at
  u_bit = byte-sum (alphabet_of g).K count _ ∙ sum_same count _ _ (λ j h. byte-bit (alphabet_of g).K (bit (leaf j) c) (bit_lt (leaf j) c))

  v_byte_lem : c < 8 * w → byte_of g (v (alphabet_of g) s leaves e c) ≡ v_byte tree count w c
  unfolding v symbol leaf_at
  v_byte_lem k =
      byte-sum (alphabet_of g).K count _
      ∙ sum_same count _ _ (λ j h. byte-times (alphabet_of g).K j (bit (leaf j) c) (rw (per_tree_lem g) at h) (bit_lt (leaf j) c) ∙ ap (λ x. j * x) (sym (tree-bit leaves count w e j h c k)))

  pub u_lt : byte_of g (u (alphabet_of g) s leaves e c) < 2
  u_lt = rw u_bit (sum_lt 1 count _ (lit< tt) (λ j h. bit_lt (leaf j) c))

  -- a coordinate of u is a bit
  pub u_symbol : (alphabet_of g).symbol_of (u (alphabet_of g) s leaves e c) ≡ byte_of g (u (alphabet_of g) s leaves e c)
  u_symbol = mod-eq_of_lt u_lt

  pub sums_u : (sums : List ℕ) (τ : ℕ) → SumsAre sums leaves τ w count → e < τ → c < 8 * w → bit (block_at sums w e) c ≡ byte_of g (u (alphabet_of g) s leaves e c)
  sums_u sums τ are l h =
      let k : c / 8 < w = omega arith in
      bit_is (block_at sums w e) c
      ∙ ap (λ x. bit_of x (c % 8)) (row-byte sums w e (c / 8) k ∙ are e (c / 8) l k)
      ∙ bitOf_sum count _ (c % 8)
      ∙ sum_same count _ _ (λ j i. ap (λ x. bit_of x (c % 8)) (sym (row-byte tree w j (c / 8) k)) ∙ sym (bit_is (block_at tree w j) c) ∙ tree-bit leaves count w e j i c h)
      ∙ sym u_bit

  pub table_v : (table : List ℕ) (τ : ℕ) → TableIs table leaves τ w count → e < τ → c < 8 * w → byte_at table (c * lanes + e) ≡ byte_of g (v (alphabet_of g) s leaves e c)
  table_v table τ is l h = is e c l h ∙ sym (v_byte_lem h)

  -- the spare bits of u are 0, as those of the leaves are
  pub u_spare : leaves_exact (alphabet_of g) s count leaves ≡ true → leaves_spare (alphabet_of g) s count leaves ≡ true
      → e < s.τ → l_of (alphabet_of g) s ≤ c → c < 8 * w → byte_of g (u (alphabet_of g) s leaves e c) ≡ 0
  unfolding leaves_exact leaves_spare rows_spare w_of
  u_spare exact zeros l low high =
      u_bit ∙ sum_same count _ (λ j. 0) (λ j h.
      let row : e * count + j < s.τ * count = omega (arith, row-end e s.τ count l) in
      spare-at (l_of (alphabet_of g) s) (leaf j) (all-at (s.τ * count) _ zeros (e * count + j) row) c low
      (rw (length-block leaves w (e * count + j) (omega (arith, long, row-end (e * count + j) (s.τ * count) w row))) (omega arith)))
      ∙ sum-none count
    where
      long : length leaves ≡ s.τ * count * w
      long = eqb_eq _ _ exact
