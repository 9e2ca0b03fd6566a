-- `tables::leaves_of` meets its contract.
-- Assumes nothing.
use Prim.Native.Nat.{◌^◌, ◌%◌}
use mathlib.Core.Path.{ap, ◌∙◌}
use native.Mathlib.Nat.{one-mul, mod-eq_of_lt}
use native.Mathlib.Omega.{arith}
use Rattle.tables.proofs.TreeLaws.{leaves-most}
use borrow.Author.Rules.{rules}
use Rattle.tables.proofs.leaves_of.Goals as goal

pub returns : goal.returns
returns c = ap (λ x. x % 18446744073709551616) (one-mul (2 ^ c.args.r)) ∙ mod-eq_of_lt (omega (arith, leaves-most c.args.r (search rules)))
