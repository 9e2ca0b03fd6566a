-- `prover_sections::vole::write_difference` meets its contract. The bits of the sum below n are kept, and those from n
-- on are 0, so that it is packed.
-- Assumes nothing.
use mathlib.Core.Path.{◌≡◌, ap, ◌∙◌}
use native.Mathlib.Omega.{arith}
use lib.Bits.{bit_xor}
use lib.ListN.{length, take, length-take}
use Rattle.protocol.specs.Strings.{bytes_for, bit}
use Rattle.strings.proofs.BitLaws.{xor_bits, take-bit}
use Rattle.strings.proofs.Packed.{packed}
use Rattle.prover_sections.proofs.vole.write_difference.Goals as goal

pub slice_bounds-xor_of-end : goal.slice_bounds-xor_of-end
slice_bounds-xor_of-end c = simp length-take (omega arith)

pub xor_of-requires : goal.xor_of-requires
xor_of-requires c = (omega arith, simp length-take (omega arith))

pub returns : goal.returns
unfolding bytes_for
returns c =
    let a = c.args in
    let sum = c.xor_of in
    let cut = c.clear_spare in
    let n = length a.out.now in
    let long : length cut.new.s ≡ bytes_for a.n = omega arith in
    packed a.n cut.new.s _ long (λ i. (c.type_inv.out i).fits)
    (λ d h.
    cut.ensures.by_index d h ∙ xor_bits sum.new.dst a.witness.now (take n a.u.now) n sum.ensures d (omega arith)
    ∙ ap (bit_xor (bit a.witness.now d)) (take-bit n a.u.now d (omega arith)))
    (λ d low high. cut.ensures.by_index_2 d low (omega arith))
