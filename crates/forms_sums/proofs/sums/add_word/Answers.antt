-- `forms_sums::sums::add_word` meets its contract. The invariant: the entries of the fives below j are added.
-- Assumes nothing.
use Rattle.std.proofs.Common.{◌+◌, ◌*◌, sym, ◌∙◌}
use lib.Bits.{xor_zero_r}
use Rattle.strings.specs.Sums.{byte_at, xor_sum}
use Rattle.strings.proofs.SumLaws.{sum_step}
use Rattle.chunks.specs.Chunks.{cell_at}
use Rattle.forms_choices.specs.Entries.{five}
use Rattle.forms_sums.proofs.sums.add_word.Goals as goal

pub loop-j-init : goal.loop-j-init
unfolding xor_sum
loop-j-init g c = λ f h. sym (xor_zero_r _)

pub loop-j-preserved : goal.loop-j-preserved
loop-j-preserved g c =
    let a = c.args in
    let l = c.loop-j in
    λ f h. c.add_five.ensures f h ∙ sum_step (byte_at a.sum.now f) (byte_at l.sum f) l.j (λ j. cell_at a.sums.now ((a.k * 10 + j) * 32 + five a.w j) f) (l.invariant f h)
