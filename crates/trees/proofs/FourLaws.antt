-- Leaves by four: which planes take the running sum after each of them, and where the leaves stand that come before and
-- after the one left out.
--   Fits j to skip w n == four leaves from j on are below `to`, and all below `to` end within n bytes, where leaf i
--     stands at place i - skip
-- Assumes nothing.
use Prim.Native.Nat.{ℕ, zero, suc, ◌+◌, ◌*◌, ◌-◌, ◌/◌, ◌%◌, ◌≤◌, ◌<◌}
use mathlib.Core.Path.{◌≡◌, refl, sym, ap, ap₂, ◌∙◌}
use mathlib.Core.Bool.{cond}
use mathlib.Core.List.{List}
use native.Mathlib.Nat.{add-mul, one-mul, mul-zero}
use Rattle.std.proofs.Common.{min}
use native.Mathlib.Decide.{dec_lt}
use native.Mathlib.Omega.{arith}
use lib.Bits.{bit_xor, xor_zero_r}
use lib.ListN.{length}
use Rattle.protocol.specs.Lists.{block_at}
use Rattle.protocol.specs.Leaves.{place, opened_leaf}
use Rattle.theorems.proofs.TestLaws.{eqb-other}
use Rattle.theorems.proofs.LeafLaws.{place-below, place-above}
use Rattle.strings.specs.Sums.{byte_at, bit_of}
use Rattle.strings.proofs.Rows.{row-byte}
use Rattle.strings.proofs.Meaning.{bitOf_lt}
use Rattle.strings.proofs.SumLaws.{scale_xor, xor_swap}
use Rattle.strings.proofs.XorLaws.{xor_assoc}
use Rattle.trees.specs.Trees.{leaf_byte, TreeFits}
use Rattle.trees.specs.Partial.{Running, with_low}
use Rattle.trees.proofs.PartialLaws.{running_more}
use Rattle.trees.proofs.SixteenLaws.{differing, first-differs, even_rest, odd_rest}

-- ---- bits that change, by the number's remainder

even_changes : (j p : ℕ) → j % 2 ≡ 0 → differing j p ≡ bit_of 1 p
even_changes j zero even = first-differs j ∙ sym (first-differs 0)
even_changes j (suc p) even = even_rest j p even ∙ sym (even_rest 0 p refl)

odd_changes : (j p : ℕ) → j % 4 ≡ 1 → differing j p ≡ bit_of 3 p
odd_changes j zero odd = first-differs j ∙ sym (first-differs 1)
odd_changes j (suc p) odd = odd_rest j p (omega arith) ∙ even_changes (j / 2) p (omega arith) ∙ sym (even_changes 0 p refl) ∙ sym (odd_rest 1 p refl)

-- ---- a sum added to one of those that make up a plane

-- what is made of m is so of m and t, and t is added
scaled : (q x s v : ℕ) (g : ℕ → ℕ) → q < 2 → v ≡ bit_xor x s → ((m t : ℕ) → g (bit_xor m t) ≡ bit_xor (g m) t) → g (q * v) ≡ bit_xor (g (q * x)) (q * s)
scaled q x s v g h is linear = ap (λ y. g (q * y)) is ∙ ap g (scale_xor q x s h) ∙ linear (q * x) (q * s)

module _ (f a : ℕ → ℕ → ℕ) (r j : ℕ) (u x y u' : ℕ → ℕ) (run : Running f r 16 u (with_low a x y) j) (leaf : (b : ℕ) → b < 16 → u' b ≡ bit_xor (u b) (f j b)) where
  pub first_more : (x' : ℕ → ℕ) → j % 2 ≡ 0 → ((b : ℕ) → b < 16 → x' b ≡ bit_xor (x b) (u' b)) → Running f r 16 u' (with_low a x' y) (j + 1)
  first_more x' even more =
      running_more f r 16 u (with_low a x y) j u' (with_low a x' y) run leaf
      (λ p b hp hb.
      scaled (bit_of 1 p) (x b) (u' b) (x' b) (λ m. bit_xor (bit_xor (a p b) m) (bit_of 3 p * y b)) (bitOf_lt 1 p) (more b hb)
      (λ m t. ap (λ z. bit_xor z (bit_of 3 p * y b)) (sym (xor_assoc (a p b) m t)) ∙ xor_swap (bit_xor (a p b) m) t (bit_of 3 p * y b))
      ∙ ap (λ q. bit_xor (with_low a x y p b) (q * u' b)) (sym (even_changes j p even)))

  pub second_more : (y' : ℕ → ℕ) → j % 4 ≡ 1 → ((b : ℕ) → b < 16 → y' b ≡ bit_xor (y b) (u' b)) → Running f r 16 u' (with_low a x y') (j + 1)
  second_more y' odd more =
      running_more f r 16 u (with_low a x y) j u' (with_low a x y') run leaf
      (λ p b hp hb.
      scaled (bit_of 3 p) (y b) (u' b) (y' b) (λ m. bit_xor (bit_xor (a p b) (bit_of 1 p * x b)) m) (bitOf_lt 3 p) (more b hb)
      (λ m t. sym (xor_assoc (bit_xor (a p b) (bit_of 1 p * x b)) m t))
      ∙ ap (λ q. bit_xor (with_low a x y p b) (q * u' b)) (sym (odd_changes j p odd)))

  pub held_more : (a' : ℕ → ℕ → ℕ) → ((p b : ℕ) → p < r → b < 16 → a' p b ≡ bit_xor (a p b) (differing j p * u' b)) → Running f r 16 u' (with_low a' x y) (j + 1)
  held_more a' more =
      running_more f r 16 u (with_low a x y) j u' (with_low a' x y) run leaf
      (λ p b hp hb.
      ap (λ z. bit_xor (bit_xor z (bit_of 1 p * x b)) (bit_of 3 p * y b)) (more p b hp hb)
      ∙ ap (λ z. bit_xor z (bit_of 3 p * y b)) (xor_swap (a p b) (differing j p * u' b) (bit_of 1 p * x b))
      ∙ xor_swap (bit_xor (a p b) (bit_of 1 p * x b)) (differing j p * u' b) (bit_of 3 p * y b))

pub from_front : (l l' s : List ℕ) → ((i : ℕ) → i < 16 → byte_at l' i ≡ bit_xor (byte_at l i) (byte_at s (0 + i))) → (i : ℕ) → i < 16 → byte_at l' i ≡ bit_xor (byte_at l i) (byte_at s i)
from_front l l' s done i h = let e : 0 + i ≡ i = omega arith in done i h ∙ ap (λ k. bit_xor (byte_at l i) (byte_at s k)) e

-- ---- sums of 0

pub low-none : (a : ℕ → ℕ → ℕ) (x y : ℕ → ℕ) (p b : ℕ) → x b ≡ 0 → y b ≡ 0 → with_low a x y p b ≡ a p b
low-none a x y p b hx hy =
    ap₂ (λ s t. bit_xor (bit_xor (a p b) (bit_of 1 p * s)) (bit_of 3 p * t)) hx hy
    ∙ ap₂ (λ s t. bit_xor (bit_xor (a p b) s) t) (mul-zero (bit_of 1 p)) (mul-zero (bit_of 3 p))
    ∙ xor_zero_r (bit_xor (a p b) 0) ∙ xor_zero_r (a p b)

-- the same sums under other names
pub running_same : (f : ℕ → ℕ → ℕ) (r j : ℕ) (u u' : ℕ → ℕ) (planes planes' : ℕ → ℕ → ℕ) → ((b : ℕ) → b < 16 → u' b ≡ u b)
    → ((p b : ℕ) → p < r → b < 16 → planes' p b ≡ planes p b) → Running f r 16 u planes j → Running f r 16 u' planes' j
running_same f r j u u' planes planes' su sp run = (λ b h. su b h ∙ run.0 b h, λ p b hp hb. sp p b hp hb ∙ run.1 p b hp hb)

-- ---- where leaves stand

abbrev pub Fits : ℕ → ℕ → ℕ → ℕ → ℕ → Type 0
Fits j to skip w n = (j % 4 ≡ 0) × (skip ≤ j) × (j + 4 ≤ to) × ((to - skip) * w ≤ n)

-- four leaves of a span of whole fours end within the tree
pub four-fits : (from to skip k w n : ℕ) → from ≤ to → (to - from) % 4 ≡ 0 → (from < to → (from % 4 ≡ 0) × (skip ≤ from) × ((to - skip) * w ≤ n)) → k < (to - from) / 4 → Fits (from + k * 4) to skip w n
four-fits from to skip k w n le whole known lt =
    let all = known (omega arith) in
    (omega arith, omega arith, omega arith, all.2)

-- a leaf that is not left out, by its place
at_place : (tree : List ℕ) (w δ j i : ℕ) → (j ≡ δ → ⊥) → place δ j ≡ i → (b : ℕ) → leaf_byte tree w δ j b ≡ byte_at (block_at tree w i) b
unfolding opened_leaf
at_place tree w δ j i other is b =
    ap (λ q. cond q 0 (byte_at (opened_leaf w δ tree j) b)) (eqb-other j δ other) ∙ ap (λ k. byte_at (block_at tree w k) b) is

-- a leaf below the one that is left out, and one above it
pub below-leaf : (tree : List ℕ) (w δ j : ℕ) → j < δ → (b : ℕ) → leaf_byte tree w δ j b ≡ byte_at (block_at tree w (j - 0)) b
below-leaf tree w δ j h = at_place tree w δ j (j - 0) (λ e. omega arith) (place-below δ j h ∙ omega arith)

pub above-leaf : (tree : List ℕ) (w δ j : ℕ) → δ < j → (b : ℕ) → leaf_byte tree w δ j b ≡ byte_at (block_at tree w (j - 1)) b
above-leaf tree w δ j h = at_place tree w δ j (j - 1) (λ e. omega arith) (place-above δ j (omega arith))

-- the same, of a full tree, in the whole string
pub full-byte : (leaves : List ℕ) (w count j b : ℕ) → j < count → b < w → leaf_byte leaves w count j b ≡ byte_at leaves (j * w + b)
full-byte leaves w count j b h l = at_place leaves w count j j (λ e. omega arith) (place-below count j h) b ∙ row-byte leaves w j b l

-- ---- the fours before the leaf that is left out, and those after it

full-rows : (k n w l : ℕ) → k + 1 ≡ n → k * w + w ≤ l → n * w ≤ l
full-rows k n w l e h = rw (sym e, add-mul, one-mul) h

module _ (tree : List ℕ) (w δ count : ℕ) (fits : TreeFits tree w δ count) (n : ℕ) (le : n ≤ count) where
  pub before-fits : n ≤ δ → 0 < n → (n - 0) * w ≤ length tree
  before-fits low pos = full-rows (n - 1) (n - 0) w (length tree) (omega arith) (rw (place-below δ (n - 1) (omega arith)) at (fits (n - 1) (omega arith) (λ e. omega arith)))

  pub after-fits : δ + 1 < n → (n - 1) * w ≤ length tree
  after-fits high = full-rows (n - 1 - 1) (n - 1) w (length tree) (omega arith) (rw (place-above δ (n - 1) (omega arith)) at (fits (n - 1) (omega arith) (λ e. omega arith)))

-- m is the lesser of a and b, and below b
first-least : (m a b : ℕ) → m ≤ a → (m < a → m ≡ b) → m < b → m ≡ a
first-least m a b le other lt = go (dec_lt m a)
  where
    go : Dec (m < a) → m ≡ a
    go (yes below) = absurd (omega (arith, other below))
    go (no above) = omega arith

-- where leaves are left after the four that are cut out, the leaf that is left out is among these
pub cut_out : (δ count m next : ℕ) → m ≤ δ → (m < δ → m ≡ count) → next ≤ m / 4 * 4 + 4 → (next < m / 4 * 4 + 4 → next ≡ count) → next < count → (next % 4 ≡ 0) × (δ < next)
cut_out δ count m next le other le' other' lt =
    let after : next ≡ m / 4 * 4 + 4 = first-least next (m / 4 * 4 + 4) count le' other' lt in
    let here : m ≡ δ = first-least m δ count le other (omega arith) in
    (omega arith, omega arith)

pub cut-out_min : (δ count next : ℕ) → next ≡ min count (min δ count / 4 * 4 + 4) → next < count → (next % 4 ≡ 0) × (δ < next)
cut-out_min δ count next is lt = cut_out δ count (min δ count) next (omega arith) (λ l. omega arith) (omega arith) (λ l. omega arith) lt
