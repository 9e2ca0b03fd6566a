-- `tables::load_tree` meets its contract. A full tree is one of which no leaf is left out, and its planes are spread
-- over lane e (`TreeLaws`).
-- Assumes nothing.
use Prim.Native.Nat.{ℕ, ◌+◌, ◌*◌, ◌^◌, ◌<◌}
use mathlib.Core.Path.{◌≡◌, ap, ◌∙◌}
use lib.ListN.{length}
use Rattle.strings.specs.Sums.{byte_at, bit_of, xor_sum}
use Rattle.strings.proofs.SumLaws.{sum_same}
use Rattle.trees.proofs.FourLaws.{full-byte}
use Rattle.tables.proofs.TreeLaws.{full-fits, tree_v}
use Rattle.tables.proofs.load_tree.Goals as goal

pub sum_tree-requires : goal.sum_tree-requires
sum_tree-requires c =
    let a = c.args in
    let count : c.leaves_of.result ≡ 2 ^ a.r = c.leaves_of.ensures in
    rw count (c.requires.1, c.requires.3, full-fits a.tree.now (length a.u.now) (2 ^ a.r) c.requires.4)

pub returns : goal.returns
returns c =
    let a = c.args in
    let tree = a.tree.now in
    let w = length a.u.now in
    let count : c.leaves_of.result ≡ 2 ^ a.r = c.leaves_of.ensures in
    let planes = c.sum_tree.new.planes in
    let is = rw count at c.sum_tree.ensures.tree_summed in
    let rows : (p b : ℕ) → p < a.r → b < w → byte_at planes (p * w + b) ≡ xor_sum (2 ^ a.r) (λ j. bit_of j p * byte_at tree (j * w + b)) =
    λ p b h l. is.1 p b h l ∙ sum_same (2 ^ a.r) _ _ (λ j k. ap (λ x. bit_of j p * x) (full-byte tree w (2 ^ a.r) j b k l)) in record {
      by_index = (λ b h. is.0 b h ∙ sum_same (2 ^ a.r) _ _ (λ j k. full-byte tree w (2 ^ a.r) j b k h));
      lane_is = (λ d h. c.spread.ensures.lane_is d h ∙ tree_v tree w a.r planes c.requires.3 rows c.sum_tree.ensures.no_planes_from d h);
      lanes_kept = c.spread.ensures.lanes_kept;
    }
