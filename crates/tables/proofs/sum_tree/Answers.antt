-- `tables::sum_tree` meets its contract. The first r planes are those of the tree, and the others are cleared.
-- Assumes nothing.
use Prim.Native.Nat.{ℕ, ◌*◌, ◌-◌, ◌^◌, ◌<◌}
use mathlib.Core.Path.{◌≡◌, refl, ◌∙◌}
use mathlib.Core.List.{◌++◌}
use native.Mathlib.Nat.{mul-le-mul_right}
use native.Mathlib.Omega.{arith}
use lib.ListN.{length, drop, length-take, length-drop, length-append}
use Rattle.strings.specs.Sums.{byte_at}
use Rattle.tables.proofs.TreeLaws.{leaves-most, leaves_even, none-there, planes-kept, planes-none}
use Rattle.tables.proofs.sum_tree.Goals as goal

pub overflow_mul-end : goal.overflow_mul-end
overflow_mul-end c =
    let a = c.args in
    omega (arith, mul-le-mul_right (length a.u.now) c.requires.1)

pub slice_bounds-tree_sums-end : goal.slice_bounds-tree_sums-end
slice_bounds-tree_sums-end c =
    let a = c.args in
    omega (arith, c.requires.0, mul-le-mul_right (length a.u.now) c.requires.1)

pub slice_bounds-tree_sums-end-2 : goal.slice_bounds-tree_sums-end-2
slice_bounds-tree_sums-end-2 c =
    let a = c.args in
    simp length-take (omega (arith, c.requires.0, mul-le-mul_right (length a.u.now) c.requires.1))

pub tree_sums-requires : goal.tree_sums-requires
tree_sums-requires c =
    let a = c.args in
    let count : c.leaves_of.result ≡ 2 ^ a.r = c.leaves_of.ensures in
    rw count (record {
      u_len = (
        refl,
        simp length-take (omega (arith, c.requires.0, mul-le-mul_right (length a.u.now) c.requires.1)),
        c.requires.1,
        omega (arith, leaves-most a.r c.requires.1),
        c.requires.2,
      );
      by_index = leaves_even a.r;
    })

pub slice_bounds-fill-count : goal.slice_bounds-fill-count
slice_bounds-fill-count c =
    let a = c.args in
    let sums = c.tree_sums in
    let front : length sums.new.planes ≡ a.r * length a.u.now = sums.auto.planes ∙ simp length-take (omega (arith, c.requires.0, mul-le-mul_right (length a.u.now) c.requires.1)) in
    simp length-append (omega (arith, front))

pub slice_bounds-fill-start : goal.slice_bounds-fill-start
slice_bounds-fill-start c =
    let a = c.args in
    let sums = c.tree_sums in
    let front : length sums.new.planes ≡ a.r * length a.u.now = sums.auto.planes ∙ simp length-take (omega (arith, c.requires.0, mul-le-mul_right (length a.u.now) c.requires.1)) in
    simp length-append (omega (arith, front))

pub returns : goal.returns
returns c =
    let a = c.args in
    let w = length a.u.now in
    let sums = c.tree_sums in
    let low = sums.new.planes in
    let old = a.planes.now in
    let zeros = c.fill.new.self in
    let count : c.leaves_of.result ≡ 2 ^ a.r = c.leaves_of.ensures in
    let front : length low ≡ a.r * w = sums.auto.planes ∙ simp length-take (omega (arith, c.requires.0, mul-le-mul_right w c.requires.1)) in
    let rest : ℕ = length (low ++ drop (a.r * w) old) - a.r * w in
    let same : length zeros ≡ rest = c.fill.ensures.len ∙ simp (length-take, length-drop) (omega arith) in
    let cleared : (i : ℕ) → i < rest → byte_at zeros i ≡ 0 = λ i k. none-there zeros _ i (c.fill.ensures.after (λ y e. e)) (omega (arith, same, k)) in
    let is = rw count at sums.ensures in record {
      tree_summed = ((λ b h. is.0 b h), (λ p b h l. planes-kept a.r w low old zeros c.requires.1 front c.requires.0 same cleared p b h l ∙ is.1 p b h l));
      no_planes_from = planes-none a.r w low old zeros c.requires.1 front c.requires.0 same cleared;
    }
