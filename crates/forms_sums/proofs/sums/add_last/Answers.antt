-- `forms_sums::sums::add_last` meets its contract. Where there are at most 30 groups, no five of the last word is among
-- them.
-- Assumes nothing.
use Rattle.std.proofs.Common.{◌≡◌, ◌-◌, sym, arith}
use lib.Bits.{xor_zero_r}
use Rattle.strings.specs.Sums.{xor_sum}
use Rattle.forms_sums.proofs.sums.add_last.Goals as goal

pub returns-then-groups-gt30 : goal.returns-then-groups-gt30
returns-then-groups-gt30 c =
    let all : c.args.groups ≡ 32 = c.requires.0.2 (omega arith) in
    let two : c.args.groups - 30 ≡ 2 = omega arith in
    rw two c.add_words.ensures

pub returns-else-groups-gt30 : goal.returns-else-groups-gt30
unfolding xor_sum
returns-else-groups-gt30 c =
    let none : c.args.groups - 30 ≡ 0 = omega arith in
    rw none (record { by_index = (λ f h. sym (xor_zero_r _)); by_index_2 = λ f h. sym (xor_zero_r _) })
