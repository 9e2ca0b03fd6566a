-- `tables_opened::load_lane` meets its contract. u and the planes of v are those of the opened tree; then u takes C_e,
-- and the planes δ·(u + C_e).
-- Assumes nothing.
use Prim.Native.Nat.{ℕ, ◌+◌, ◌*◌, ◌/◌, ◌^◌, ◌<◌}
use mathlib.Core.Path.{◌≡◌, ap, ap₂, ◌∙◌}
use native.Mathlib.Omega.{arith}
use lib.Bits.{bit_xor}
use lib.ListN.{length}
use Rattle.strings.specs.Sums.{byte_at, bit_of, xor_sum}
use Rattle.trees.specs.Trees.{leaf_byte}
use Rattle.tables_opened.specs.Opened.{correction_byte}
use Rattle.tables.proofs.TreeLaws.{opened-fits}
use Rattle.tables_opened.proofs.OpenedLaws.{planes_w, none-added}
use Rattle.tables_opened.proofs.load_lane.Goals as goal

pub sum_tree-requires : goal.sum_tree-requires
sum_tree-requires c =
    let a = c.args in
    (c.requires.1, c.requires.6, opened-fits a.tree.now (length a.u.now) a.delta (2 ^ a.r) c.requires.3 c.requires.5)

pub add_correction-requires : goal.add_correction-requires
add_correction-requires c =
    rw c.sum_tree.auto.u (c.requires.4, c.requires.2)

pub returns : goal.returns
returns c =
    let a = c.args in
    let w = length a.u.now in
    let count = 2 ^ a.r in
    let sums = c.sum_tree in
    let corrected = c.add_correction in
    let added = c.absorb in
    let lane = c.spread in
    let C = a.corrections.now in
    let leaf : ℕ → ℕ → ℕ = leaf_byte a.tree.now w a.delta in
    let long : length sums.new.u ≡ w = sums.auto.u in
    let still : length corrected.new.u ≡ w = corrected.auto.u ∙ long in
    let u : (b : ℕ) → b < w → byte_at corrected.new.u b ≡ bit_xor (xor_sum count (λ j. leaf j b)) (correction_byte C w a.e b) =
    λ b h. (rw long at corrected.ensures) b h ∙ ap (λ x. bit_xor x (correction_byte C w a.e b)) (sums.ensures.tree_summed.0 b h) in
    let absorbed = rw still at added.ensures in
    let planes : (p b : ℕ) → p < a.r → b < w → byte_at added.new.planes (p * w + b) ≡ bit_xor (xor_sum count (λ j. bit_of j p * leaf j b)) (bit_of a.delta p * bit_xor (xor_sum count (λ j. leaf j b)) (correction_byte C w a.e b)) =
    λ p b k h. absorbed p b (omega (arith, c.requires.6)) h ∙ ap₂ bit_xor (sums.ensures.tree_summed.1 p b k h) (ap (λ x. bit_of a.delta p * x) (u b h)) in
    let none = none-added sums.new.planes added.new.planes corrected.new.u w a.r a.delta c.requires.3 sums.ensures.no_planes_from absorbed in record {
      lane_is = (λ d h. lane.ensures.lane_is d h ∙ planes_w a.tree.now C a.r w a.e a.delta d added.new.planes h c.requires.3 c.requires.6 (λ p k. planes p (d / 8) k (omega arith)) none);
      lanes_kept = lane.ensures.lanes_kept;
    }
