-- `trees::sixteens::held_row` meets its contract. Which bits change is said by the zeros at the end of j + 1
-- (`SixteenLaws`).
-- Assumes nothing.
use Rattle.std.proofs.Common.{◌≡◌, ◌+◌, ◌-◌, arith}
use lib.Count.{count_trailing_zeros, trailing_le}
use Rattle.trees.proofs.SixteenLaws.{row_takes}
use Rattle.trees.proofs.sixteens.held_row.Goals as goal

pub overflow_cast-zeros : goal.overflow_cast-zeros
overflow_cast-zeros c = omega (arith, trailing_le 64 (c.args.j + 1))

pub returns : goal.returns
returns c =
    let a = c.args in
    let is : 8 - c.min.result ≡ 8 - count_trailing_zeros 64 (a.j + 1) = omega arith in
    record { upper_bound = omega arith; by_index = λ p h. rw is (row_takes 64 a.j 8 p h (omega arith)) }
