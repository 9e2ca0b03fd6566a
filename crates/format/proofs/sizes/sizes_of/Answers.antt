-- `format::sizes::sizes_of` meets its contract. Four numbers of two bytes, where the key has so many.
-- Assumes nothing.
use mathlib.Core.Path.{refl}
use native.Mathlib.Omega.{arith}
use Rattle.format.proofs.sizes.sizes_of.Goals as goal

pub returns-then-key-lt-HEADER : goal.returns-then-key-lt-HEADER
returns-then-key-lt-HEADER c = ((λ h. absurd (omega (arith, h, c.if-key-lt-HEADER.true))), refl)

pub returns : goal.returns
returns c = ((λ _. rw (c.number2.ensures.0, c.number2-2.ensures.0, c.number2-3.ensures.0, c.number2-4.ensures.0)), refl)
