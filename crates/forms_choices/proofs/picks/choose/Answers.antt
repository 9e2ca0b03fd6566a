-- `forms_choices::picks::choose` meets its contract. The invariant: the number is what the last z bits write.
-- Assumes nothing.
use Rattle.std.proofs.Common.{◌≡◌, ℕ, ◌+◌, ◌*◌, ◌-◌, ◌^◌, ◌<◌, ◌≤◌, ◌∙◌, sym, add-zero, arith, pow_mono, rules}
use Rattle.strings.specs.Sums.{byte_at, bit_of}
use Rattle.strings.proofs.Meaning.{bitOf_lt}
use Rattle.forms_choices.proofs.DigitLaws.{digits, digits-none, digits-more, digits-small, digits-five}
use Rattle.forms_choices.proofs.PickLaws.{choice-rows}
use Rattle.forms_choices.proofs.picks.choose.Goals as goal

-- there is room for one bit more
room : (w x k : ℕ) → w < 2 ^ k → k < 5 → x < 2 → w * 2 + x < 256
room w x k small lt bit = let pow : 2 ^ k ≤ 2 ^ 4 = pow_mono {i = k} {j = 4} (omega arith) in omega (arith, small, bit, pow)

pub loop-z-init : goal.loop-z-init
loop-z-init c = let a = c.args in digits-none 2 5 (λ z. bit_of (byte_at a.rows.now (a.h * 128 + a.g + z * 16)) a.p)

pub overflow_mul-number : goal.overflow_mul-number
overflow_mul-number c =
    let a = c.args in
    let l = c.loop-z in
    let bits : ℕ → ℕ = λ z. bit_of (byte_at a.rows.now (a.h * 128 + a.g + z * 16)) a.p in
    let small = rw (sym l.invariant) at (digits-small bits 5 l.z (λ i. bitOf_lt (byte_at a.rows.now (a.h * 128 + a.g + i * 16)) a.p)) in
    let enough = room l.number 0 l.z small (omega arith) (omega arith) in
    search (rules, enough)

pub overflow_add-number-in-loop-z : goal.overflow_add-number-in-loop-z
unfolding bit_of
overflow_add-number-in-loop-z c =
    let a = c.args in
    let l = c.loop-z in
    let bits : ℕ → ℕ = λ z. bit_of (byte_at a.rows.now (a.h * 128 + a.g + z * 16)) a.p in
    let small = rw (sym l.invariant) at (digits-small bits 5 l.z (λ i. bitOf_lt (byte_at a.rows.now (a.h * 128 + a.g + i * 16)) a.p)) in
    let enough = room l.number (bits (4 - l.z)) l.z small (omega arith) (bitOf_lt (byte_at a.rows.now (a.h * 128 + a.g + (4 - l.z) * 16)) a.p) in
    search (rules, enough)

pub loop-z-preserved : goal.loop-z-preserved
unfolding bit_of
loop-z-preserved c =
    let a = c.args in
    let l = c.loop-z in
    let bits : ℕ → ℕ = λ z. bit_of (byte_at a.rows.now (a.h * 128 + a.g + z * 16)) a.p in
    rw l.invariant (digits-more 2 5 l.z bits)

pub returns : goal.returns
returns c =
    let a = c.args in
    let l = c.loop-z in
    let bits : ℕ → ℕ = λ z. bit_of (byte_at a.rows.now (a.h * 128 + a.g + z * 16)) a.p in
    let end : l.z ≡ 5 = omega arith in
    let all : l.number ≡ digits 2 bits 5 5 = rw end at l.invariant in
    all ∙ digits-five bits ∙ rw (add-zero (a.h * 128 + a.g)) (sym (choice-rows a.rows.now a.h a.g a.p (omega arith)))
