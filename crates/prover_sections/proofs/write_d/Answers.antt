-- `prover_sections::write_d` meets its contract: the count, and after it the difference, which is the section d.
-- Assumes nothing.
use mathlib.Core.Path.{◌≡◌, ap, ◌∙◌}
use mathlib.Core.List.{List}
use Prim.Native.Nat.{ℕ}
use native.Mathlib.Omega.{arith}
use lib.ListN.{length, length-take}
use lib.Bits.{bit_xor}
use Rattle.protocol.specs.Lists.{block_at}
use Rattle.protocol.specs.Strings.{bytes_for, bit, pack}
use Rattle.protocol.specs.Shape.{w_of}
use Rattle.protocol.specs.Prover.{d_section}
use Rattle.theorems.proofs.ListLaws.{row-end}
use Rattle.format.specs.Sizes.{setting_for, alphabet_for, shape_for}
use Rattle.format.proofs.SizeLaws.{in-limits, row-most}
use Rattle.format.proofs.FitLaws.{n_fits}
use Rattle.sections.proofs.Writes.{framed-one, rest-length}
use Rattle.prover_sections.proofs.SumSections.{first_is_u, difference_is}
use Rattle.prover_sections.proofs.write_d.Goals as goal

pub slice_bounds-put_count-end-2 : goal.slice_bounds-put_count-end-2
slice_bounds-put_count-end-2 c = simp length-take (omega arith)

pub put_count-requires : goal.put_count-requires
put_count-requires c =
    (simp length-take (omega arith), omega (arith, c.requires.2, row-most (shape_for c.args.s) c.requires.0))

pub row_at-requires : goal.row_at-requires
row_at-requires c =
    rw c.leaf_bytes-w.ensures (omega (arith, c.requires.1, row-end 0 (shape_for c.args.s).τ (w_of (alphabet_for c.args.s) (shape_for c.args.s)) (in-limits (shape_for c.args.s) c.requires.0).τ_least))

pub write_difference-requires : goal.write_difference-requires
write_difference-requires c =
    let long : length c.row_at.result.now ≡ w_of (alphabet_for c.args.s) (shape_for c.args.s) = c.row_at.ensures.1 ∙ c.leaf_bytes-w.ensures in
    (rest-length 4 (bytes_for c.args.s.n) c.put_count.new.out c.args.out.now (c.put_count.auto.out ∙ simp length-take (omega arith)) c.requires.3, c.requires.2, rw long (n_fits (setting_for c.args.s) (shape_for c.args.s)))

pub returns : goal.returns
returns c =
    let a = c.args in
    let shape = (shape_for c.args.s) in
    let count = c.put_count in
    let differs = c.write_difference in
    let row : c.row_at.result.now ≡ block_at c.args.sums.now (w_of (alphabet_for c.args.s) (shape_for c.args.s)) 0 = rw c.leaf_bytes-w.ensures at c.row_at.ensures.0 in
    let long : length c.write_difference.new.out ≡ bytes_for c.args.s.n = differs.auto.out ∙ rest-length 4 (bytes_for c.args.s.n) c.put_count.new.out c.args.out.now (c.put_count.auto.out ∙ simp length-take (omega arith)) c.requires.3 in
    λ leaves are.
    framed-one (bytes_for a.s.n) count.new.out a.out.now differs.new.out (d_section (alphabet_for a.s) shape leaves a.witness.now) (count.auto.out ∙ simp length-take (omega arith)) (rw c.requires.2 at count.ensures)
    (differs.ensures
    ∙ ap (λ (r : List ℕ). pack a.s.n (λ i. bit_xor (bit a.witness.now i) (bit r i))) row
    ∙ difference_is (setting_for c.args.s) shape leaves a.witness.now (block_at a.sums.now (w_of (alphabet_for a.s) shape) 0) (first_is_u (setting_for c.args.s) shape leaves a.sums.now (in-limits (shape_for c.args.s) c.requires.0).τ_least are))
    long
