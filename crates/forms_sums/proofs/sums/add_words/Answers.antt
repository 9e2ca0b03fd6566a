-- `forms_sums::sums::add_words` meets its contract. The invariant: of both, the entries of the fives below j are added.
-- Assumes nothing.
use Rattle.std.proofs.Common.{◌+◌, ◌*◌, sym, ◌∙◌}
use lib.Bits.{xor_zero_r}
use Rattle.strings.specs.Sums.{byte_at, xor_sum}
use Rattle.strings.proofs.SumLaws.{sum_step}
use Rattle.chunks.specs.Chunks.{cell_at}
use Rattle.forms_choices.specs.Entries.{five}
use Rattle.forms_sums.proofs.sums.add_words.Goals as goal

pub loop-j-init : goal.loop-j-init
unfolding xor_sum
loop-j-init g c = ((λ f h. sym (xor_zero_r _)), λ f h. sym (xor_zero_r _))

pub loop-j-preserved : goal.loop-j-preserved
loop-j-preserved g c =
    let a = c.args in
    let l = c.loop-j in
    let one = c.add_five in
    let two = c.add_five-in-loop-j in (
      (λ f h. one.ensures f h ∙ sum_step (byte_at a.first.now f) (byte_at l.first f) l.j (λ j. cell_at a.sums.now ((a.k * 10 + j) * 32 + five a.w j) f) (l.invariant.0 f h)),
      (λ f h. two.ensures f h ∙ sum_step (byte_at a.second.now f) (byte_at l.second f) l.j (λ j. cell_at a.sums.now ((a.k * 10 + j) * 32 + five a.x j) f) (l.invariant.1 f h)),
    )
