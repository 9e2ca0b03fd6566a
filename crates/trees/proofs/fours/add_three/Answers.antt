-- `trees::fours::add_three` meets its contract: three leaves, one after the other (`FourLaws`).
-- Assumes nothing.
use Rattle.std.proofs.Common.{◌≡◌, ◌+◌, sym, ap, ◌∙◌, arith}
use lib.Bits.{bit_xor}
use Rattle.strings.specs.Sums.{byte_at}
use Rattle.trees.proofs.FourLaws.{first_more, second_more}
use Rattle.trees.proofs.fours.add_three.Goals as goal

pub returns : goal.returns
returns c =
    let a = c.args in
    let one = c.add_at in
    let first = c.xor_into in
    let two = c.add_at-2 in
    let second = c.xor_into-2 in
    let three = c.add_at-3 in
    let again = c.xor_into-3 in
    λ f rows r j even leaf next third run.
    let run1 =
    first_more f rows r j (byte_at a.sum.now) (byte_at a.first.now) (byte_at a.second.now) (byte_at one.new.dst) run
    (λ b h. one.ensures b h ∙ ap (bit_xor (byte_at a.sum.now b)) (sym (leaf b h)))
    (byte_at first.new.dst) (omega arith) (λ b h. first.ensures b (omega arith)) in
    let run2 =
    second_more f rows r (j + 1) (byte_at one.new.dst) (byte_at first.new.dst) (byte_at a.second.now) (byte_at two.new.dst) run1
    (λ b h. two.ensures b h ∙ ap (bit_xor (byte_at one.new.dst b)) (sym (next b h)))
    (byte_at second.new.dst) (omega arith) (λ b h. second.ensures b (omega arith)) in
    let number : j + 1 + 1 ≡ j + 2 = omega arith in
    let run3 =
    first_more f rows r (j + 2) (byte_at two.new.dst) (byte_at first.new.dst) (byte_at second.new.dst) (byte_at three.new.dst) (rw number at run2)
    (λ b h. three.ensures b h ∙ ap (bit_xor (byte_at two.new.dst b)) (sym (third b h)))
    (byte_at again.new.dst) (omega arith) (λ b h. again.ensures b (omega arith)) in
    let end : j + 2 + 1 ≡ j + 3 = omega arith in
    rw end at run3
