-- `forms_choices::fives::word_at` meets its contract. The invariant: the word is what the last k numbers write.
-- Assumes nothing.
use Rattle.std.proofs.Common.{◌≡◌, ℕ, ◌+◌, ◌*◌, ◌-◌, ◌^◌, ◌<◌, ◌≤◌, ◌∙◌, ap, sym, arith, pow_mono, rules}
use Rattle.strings.specs.Sums.{byte_at}
use Rattle.forms_choices.proofs.DigitLaws.{digits-none, digits-more, digits-most, digits-word}
use Rattle.forms_choices.proofs.fives.word_at.Goals as goal

-- there is room for one number more
room : (w x k : ℕ) → 31 * w + 255 ≤ 255 * 2 ^ (5 * k) → k < 10 → x < 256 → w * 32 + x < 18446744073709551616
room w x k most lt small = let pow : 2 ^ (5 * k) ≤ 2 ^ 45 = pow_mono {i = 5 * k} {j = 45} (omega arith) in omega (arith, most, small, pow)

pub loop-k-init : goal.loop-k-init
loop-k-init c = digits-none 32 10 (λ k. byte_at c.args.picks.now (c.args.at + k))

pub overflow_mul-word : goal.overflow_mul-word
overflow_mul-word c =
    let a = c.args in
    let l = c.loop-k in
    let bytes : ℕ → ℕ = λ k. byte_at a.picks.now (a.at + k) in
    let most = rw (sym l.invariant) at (digits-most bytes 10 l.k (λ i. c.fits-picks (a.at + i))) in
    let enough = room l.word 0 l.k most (omega arith) (omega arith) in
    search (rules, enough)

pub overflow_add-word : goal.overflow_add-word
overflow_add-word c =
    let a = c.args in
    let l = c.loop-k in
    let bytes : ℕ → ℕ = λ k. byte_at a.picks.now (a.at + k) in
    let most = rw (sym l.invariant) at (digits-most bytes 10 l.k (λ i. c.fits-picks (a.at + i))) in
    let small : c.from.result < 256 = rw c.from.ensures (c.fits-picks (a.at + 10 - 1 - l.k)) in
    let enough = room l.word c.from.result l.k most (omega arith) small in
    search (rules, enough)

pub loop-k-preserved : goal.loop-k-preserved
loop-k-preserved c =
    let a = c.args in
    let l = c.loop-k in
    let bytes : ℕ → ℕ = λ k. byte_at a.picks.now (a.at + k) in
    let place : a.at + 10 - 1 - l.k ≡ a.at + (10 - 1 - l.k) = omega arith in
    let next : c.from.result ≡ bytes (10 - 1 - l.k) = c.from.ensures ∙ ap (byte_at a.picks.now) place in
    rw (l.invariant, next) (digits-more 32 10 l.k bytes)

pub returns : goal.returns
returns c =
    let a = c.args in
    let l = c.loop-k in
    let end : l.k ≡ 10 = omega arith in
    rw end at l.invariant ∙ digits-word a.picks.now a.at
