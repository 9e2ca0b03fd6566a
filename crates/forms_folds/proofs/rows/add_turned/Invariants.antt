-- `forms_folds::rows::add_turned` meets its contract. The invariant: the first f bytes of each half are added.
-- Assumes nothing.
use Prim.Native.Nat.{ℕ, ◌+◌, ◌*◌, ◌/◌, ◌%◌}
use mathlib.Core.List.{List}
use Rattle.strings.specs.Sums.{byte_at}
use Rattle.chunks.proofs.HalfLaws.{Halves}
use Rattle.forms_folds.proofs.rows.add_turned.Given as goal

-- what is added to byte e
abbrev pub added : List ℕ → ℕ → ℕ → ℕ
added t at e = byte_at t (at + (e / 16 * 160 + e % 16))

abbrev pub invariant-loop-f : goal.invariant-loop-f
invariant-loop-f l = Halves (added l.turned l.at) l.initial.sum l.sum l.f
