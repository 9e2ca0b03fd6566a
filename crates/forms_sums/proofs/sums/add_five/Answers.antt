-- `forms_sums::sums::add_five` meets its contract.
-- Assumes nothing.
use Rattle.std.proofs.Common.{ℕ, ◌+◌, ap, ◌∙◌, arith}
use lib.Bits.{bit_xor}
use Rattle.strings.specs.Sums.{byte_at}
use Rattle.forms_sums.proofs.sums.add_five.Goals as goal

pub add_at-requires : goal.add_at-requires
add_at-requires c = omega (arith, c.entry_place.ensures.0, c.entry_place.ensures.1, c.requires.2)

pub returns : goal.returns
returns c = λ f h. c.add_at.ensures f h ∙ ap (λ (p : ℕ). bit_xor (byte_at c.args.sum.now f) (byte_at c.args.sums.now (p + f))) c.entry_place.ensures.0
