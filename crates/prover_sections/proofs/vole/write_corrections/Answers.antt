-- `prover_sections::vole::write_corrections` meets its contract. The invariant: the corrections before that of e are
-- done.
-- Assumes nothing.
use Rattle.std.proofs.Common.{◌≡◌, ◌+◌, ◌*◌, ◌-◌, arith}
use lib.Bits.{bit_xor}
use Rattle.strings.specs.Sums.{byte_at}
use Rattle.strings.proofs.Rows.{row-end, rows_more}
use Rattle.prover_sections.proofs.vole.write_corrections.Goals as goal

pub loop-e-init : goal.loop-e-init
loop-e-init c = λ e b h. absurd (omega arith)

pub write_correction-requires : goal.write_correction-requires
write_correction-requires c =
    let a = c.args in
    let l = c.loop-e in
    let before = l.e - 1 in
    (omega arith, omega (arith, row-end before (a.tau - 1) a.w (omega arith)), omega (arith, row-end (before + 1) a.tau a.w (omega arith)))

pub loop-e-preserved : goal.loop-e-preserved
loop-e-preserved c =
    let a = c.args in
    let l = c.loop-e in
    let call = c.write_correction in
    let sums = a.sums.now in
    let next : l.e + 1 - 1 ≡ l.e - 1 + 1 = omega arith in
    rw next (rows_more (λ e b. bit_xor (byte_at sums ((e + 1) * a.w + b)) (byte_at sums b)) l.out call.new.out (l.e - 1) a.w l.invariant call.ensures.by_index call.ensures.by_index_2)

pub returns : goal.returns
returns c = λ e b h. c.loop-e.invariant e b (omega arith)
