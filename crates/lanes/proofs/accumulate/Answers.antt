-- `lanes::accumulate` meets its contract: the field is that of the branch.
-- Assumes nothing.
use mathlib.Core.Path.{sym, ap, ◌∙◌}
use lib.Bits.{bit_xor}
use Rattle.algebra.specs.Coded.{Coded, mul_byte}
use Rattle.galois.proofs.DegreeLaws.{field_four, field_other}
use Rattle.strings.specs.Sums.{byte_at}
use Rattle.lanes.proofs.accumulate.Goals as goal

pub returns-then-degree-eq-DEGREE : goal.returns-then-degree-eq-DEGREE
returns-then-degree-eq-DEGREE c e h =
    let a = c.args in
    c.accumulate_in.ensures e h ∙ sym (ap (λ (C : Coded). bit_xor (byte_at a.acc.now e) (mul_byte C (byte_at a.f.now e) (byte_at a.t.now e))) (field_four a.degree c.if-degree-eq-DEGREE.true))

pub returns-else-degree-eq-DEGREE : goal.returns-else-degree-eq-DEGREE
returns-else-degree-eq-DEGREE c e h =
    let a = c.args in
    c.accumulate_in-else-degree-eq-DEGREE.ensures e h ∙ sym (ap (λ (C : Coded). bit_xor (byte_at a.acc.now e) (mul_byte C (byte_at a.f.now e) (byte_at a.t.now e))) (field_other a.degree c.if-degree-eq-DEGREE.false))
