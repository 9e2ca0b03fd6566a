-- `tables_opened::add_correction` meets its contract. Row e - 1 of the section is C_e, and nothing is added at e = 0.
-- Assumes nothing.
use Prim.Native.Nat.{ℕ, suc, ◌*◌, ◌-◌}
use mathlib.Core.Path.{◌≡◌, sym, ap, ◌∙◌}
use mathlib.Core.List.{List}
use native.Mathlib.Nat.{suc-mul}
use native.Mathlib.Omega.{arith}
use lib.Bits.{bit_xor, xor_zero_r}
use lib.ListN.{length}
use Rattle.strings.specs.Sums.{byte_at}
use Rattle.strings.proofs.Rows.{row-byte}
use Rattle.tables_opened.specs.Opened.{correction_byte}
use Rattle.tables_opened.proofs.add_correction.Goals as goal

pub row_at-requires : goal.row_at-requires
row_at-requires c =
    let a = c.args in
    let w = length a.u.now in
    let last : suc (a.e - 1) ≡ a.e = omega arith in
    omega (arith, suc-mul (a.e - 1) w, ap (λ n. n * w) last)

pub returns-then-e-ne0 : goal.returns-then-e-ne0
returns-then-e-ne0 c b h =
    let a = c.args in
    let w = length a.u.now in
    let last : suc (a.e - 1) ≡ a.e = omega arith in
    c.xor_into.ensures b h
    ∙ ap (bit_xor (byte_at a.u.now b))
    (ap (λ (s : List ℕ). byte_at s b) c.row_at.ensures.0
    ∙ row-byte a.corrections.now w (a.e - 1) b h
    ∙ ap (λ n. correction_byte a.corrections.now w n b) last)

pub returns-else-e-ne0 : goal.returns-else-e-ne0
returns-else-e-ne0 c b h =
    let a = c.args in
    let none : a.e ≡ 0 = omega arith in
    sym (ap (λ n. bit_xor (byte_at a.u.now b) (correction_byte a.corrections.now (length a.u.now) n b)) none ∙ xor_zero_r (byte_at a.u.now b))
