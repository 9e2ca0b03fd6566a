-- `prover::steps::add_masks` meets its contract.
-- Assumes nothing.
use mathlib.Core.Path.{◌≡◌, ap, ◌∙◌}
use mathlib.Core.List.{List}
use Prim.Native.Nat.{ℕ}
use native.Mathlib.Omega.{arith}
use lib.ListN.{length}
use lib.Bits.{bit_xor}
use Rattle.galois.specs.Degrees.{degree_of}
use Rattle.protocol.specs.Lists.{block_at}
use Rattle.protocol.specs.Shape.{w_of}
use Rattle.theorems.proofs.ListLaws.{row-end}
use Rattle.strings.specs.Sums.{byte_at}
use Rattle.lanes.specs.Lanes.{mask_bits, first_mask}
use Rattle.format.specs.Sizes.{setting_for, alphabet_for, shape_for}
use Rattle.format.proofs.SizeLaws.{in-limits, k-most}
use Rattle.format.proofs.FitLaws.{mask_below, l_fits}
use Rattle.prover.proofs.steps.add_masks.Goals as goal

pub leaf_bytes-w-requires : goal.leaf_bytes-w-requires
leaf_bytes-w-requires c = c.requires.in-range

pub add_masks-requires : goal.add_masks-requires
unfolding degree_of
add_masks-requires c =
    let s = shape_for c.args.s in
    ((in-limits s c.requires.in-range).τ_most, λ e h. omega (arith, c.requires.buffers.table-room, mask_below (setting_for c.args.s) s e h, l_fits (setting_for c.args.s) s))

pub row_at-requires : goal.row_at-requires
row_at-requires c =
    let s = shape_for c.args.s in
    rw c.leaf_bytes-w.ensures (omega (arith, c.requires.buffers.sums-room, row-end 0 s.τ (w_of (alphabet_for c.args.s) s) (in-limits s c.requires.in-range).τ_least))

pub add_mask_bits-requires : goal.add_mask_bits-requires
unfolding degree_of
add_mask_bits-requires c =
    let s = shape_for c.args.s in
    let long : length c.row_at.result.now ≡ w_of (alphabet_for c.args.s) s = c.row_at.ensures.1 ∙ c.leaf_bytes-w.ensures in
    ((in-limits s c.requires.in-range).τ_most, λ e h. (omega (arith, long, mask_below (setting_for c.args.s) s e h, l_fits (setting_for c.args.s) s), omega (arith, mask_below (setting_for c.args.s) s e h, k-most (setting_for c.args.s) s c.requires.in-range)))

pub returns : goal.returns
returns c =
    let row : c.row_at.result.now ≡ block_at c.args.sums.now (w_of (alphabet_for c.args.s) (shape_for c.args.s)) 0 = rw c.leaf_bytes-w.ensures at c.row_at.ensures.0 in
    record { lanes_added = c.add_masks.ensures; lanes_added_2 = λ e h. c.add_mask_bits.ensures e h ∙ ap (λ (u : List ℕ). bit_xor (byte_at c.args.qs1.now e) (mask_bits c.args.s.degree u (first_mask c.args.s e))) row }
