-- `forms_batching::panels::stack_part` meets its contract: the stacks of the cells, from zeros.
-- Assumes nothing.
use Prim.Native.Nat.{ℕ, ◌+◌, ◌*◌, ◌/◌, ◌%◌, ◌≤◌, ◌<◌}
use mathlib.Core.List.{List, ◌++◌}
use mathlib.Core.Path.{◌≡◌, ap, ◌∙◌}
use native.Mathlib.Omega.{arith}
use lib.ListN.{length, drop, length-take, length-append, get_or-append, get_or-replicate}
use lib.Seq.{length-take-le}
use lib.Bits.{bit_xor, xor_zero_l}
use Rattle.strings.specs.Sums.{byte_at, xor_sum}
use Rattle.chunks.specs.Chunks.{chunk}
use Rattle.forms_columns.specs.Stacks.{byte_product, planes, stack_of, coordinate_of}
use Rattle.forms_batching.specs.Batched.{cell_sum}
use Rattle.forms_batching.proofs.StackLaws.{stack_none}
use Rattle.forms_batching.proofs.PartLaws.{fold_is}
use Rattle.forms_batching.proofs.panels.stack_part.Goals as goal

-- the stacks that were cleared
cleared : (d : ℕ) (r l : List ℕ) (k : ℕ) → length r ≡ k → ((b : ℕ) → b < length r → byte_at r b ≡ 0) → (e f z : ℕ) → e * (planes * chunk) + planes * chunk ≤ k → f < chunk → stack_of d (r ++ l) e f z ≡ 0
cleared d r l k long zero e f z h hf = stack_none d (r ++ l) e f z hf (λ b hb. get_or-append r l 0 (e * (planes * chunk) + b) (omega arith) ∙ zero (e * (planes * chunk) + b) (omega arith))

pub slice_bounds-fill-end-2 : goal.slice_bounds-fill-end-2
slice_bounds-fill-end-2 c = simp length-take (omega arith)

pub collect-requires : goal.collect-requires
collect-requires c =
    let a = c.args in
    let pre = c.requires in
    let k : ℕ = a.s.tau * (planes * chunk) in
    let r = c.fill.new.self in
    let front : length r ≡ k = c.fill.ensures.len ∙ length-take-le k a.stacks.now pre.0 in
    let whole : k ≤ length (r ++ drop k a.stacks.now) = rw (length-append r (drop k a.stacks.now)) (omega (arith, front)) in
    (whole, pre.1, pre.2, pre.3, pre.4, pre.5, pre.6, pre.7, pre.8, pre.9, pre.10)

pub returns : goal.returns
returns c =
    let a = c.args in
    let pre = c.requires in
    let collected = c.collect in
    let cells = a.cells.now in
    let k : ℕ = a.s.tau * (planes * chunk) in
    let r = c.fill.new.self in
    let front : length r ≡ k = c.fill.ensures.len ∙ length-take-le k a.stacks.now pre.0 in
    let empty = cleared a.s.degree r (drop k a.stacks.now) k front (λ b h. ap (λ (x : List ℕ). byte_at x b) (c.fill.ensures.after (λ y e. e)) ∙ get_or-replicate _ b 0 0 (omega (arith, h, c.fill.ensures.len))) in
    λ A χ n w J count e s folded held above small chosen end narrow he hs col.
    fold_is a.s.degree n w a.s.m A χ cells e a.top J count a.rows folded held above (coordinate_of a.vectors.now e) (λ ρ past inside. end e ρ he past (omega (arith, inside, pre.3))) collected.new.stacks s hs col
    (λ f hf.
    collected.ensures χ e (s / 8) f (s % 8) small chosen narrow he (omega arith) hf
    ∙ ap (λ (x : ℕ). bit_xor x (xor_sum a.rows (λ q. byte_product a.s.degree (coordinate_of a.vectors.now e ((a.top + q) * 16 + f)) (cell_sum cells a.s.m χ e q (s / 8 * 16 + f) (s % 8))))) (empty e (s / 8 * 16 + f) (s % 8) (omega (arith, he)) (omega (arith, hs, hf)))
    ∙ xor_zero_l _)
