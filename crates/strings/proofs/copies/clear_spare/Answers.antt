-- `strings::copies::clear_spare` meets its contract. The byte of coordinate n is cut to the bits below it; where n
-- fills its bytes there is none.
-- Assumes nothing.
use Prim.Native.Nat.{◌/◌, ◌%◌}
use mathlib.Core.Path.{refl}
use native.Mathlib.Omega.{arith}
use Rattle.protocol.specs.Strings.{bytes_for}
use Rattle.strings.specs.Sums.{byte_at}
use Rattle.strings.proofs.BitLaws.{mask_is, cut_low, cut_high}
use Rattle.strings.proofs.copies.clear_spare.Goals as goal

pub bounds-s-n : goal.bounds-s-n
unfolding bytes_for
bounds-s-n c = omega arith

pub bounds-s-n-then-n-ne0 : goal.bounds-s-n-then-n-ne0
unfolding bytes_for
bounds-s-n-then-n-ne0 c = omega arith

pub returns-then-n-ne0 : goal.returns-then-n-ne0
returns-then-n-ne0 c =
    let a = c.args in
    let e = mask_is (byte_at a.s.now (a.n / 8)) (a.n % 8) (omega arith) in
    rw e (record { by_index = cut_low a.s.now a.n (λ z. omega arith) (omega arith); by_index_2 = cut_high a.s.now a.n (λ z. omega arith) (omega arith) })

pub returns-else-n-ne0 : goal.returns-else-n-ne0
unfolding bytes_for
returns-else-n-ne0 c = record { by_index = λ d h. refl; by_index_2 = λ d low high. absurd (omega arith) }
