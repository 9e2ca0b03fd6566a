-- `equations::unpack` meets its contract. Each element is changed once (`Elementwise`).
-- Assumes nothing.
use mathlib.Core.Path.{◌≡◌}
use Rattle.protocol.specs.Strings.{bit}
use Rattle.strings.proofs.Elementwise.{changed}
use Rattle.equations.proofs.unpack.Given as goal

abbrev pub invariant-loop-c : goal.invariant-loop-c
invariant-loop-c l = l.out ≡ changed (λ k y. bit l.x k) l.initial.out l.c
