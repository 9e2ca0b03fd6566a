-- `shake_calls::shake_pieces` meets its contract: pieces absorbed one after the other are absorbed at once, and bytes
-- given so are given at once.
-- Assumes nothing.
use mathlib.Core.Path.{◌≡◌, sym, ap, ap₂, ◌∙◌}
use mathlib.Core.List.{List, ◌++◌}
use Prim.Native.Nat.{ℕ, ◌+◌, ◌-◌, ◌≤◌}
use native.Mathlib.Omega.{arith}
use lib.ListN.{length, take, drop, length-append, length-take, length-drop}
use lib.Seq.{take_at, take_all, length-take-le}
use borrow.Rule.Slice.PartMut.{put_mid, same_len_mid}
use Rattle.shake.specs.Pieces.{Held, fresh, absorbed, finished, given, after}
use Rattle.shake.proofs.PieceLaws.{absorbed-append, given_more, shake_is}
use Rattle.std.proofs.lemmas.Slice.{take-put_mid}
use Rattle.shake_calls.proofs.shake_pieces.Goals as goal

-- a first part written, and then the rest
written : (o r₁ r₂ : List ℕ) (p : ℕ) → p ≤ length o → length r₁ ≡ p → length r₂ ≡ length o - p
    → put_mid p (length (r₁ ++ drop p o) - p) (r₁ ++ drop p o) r₂ ≡ r₁ ++ r₂
written o r₁ r₂ p h n₁ n₂ =
    let l = r₁ ++ drop p o in
    let back : p + (length o - p) ≡ length o = omega arith in
    let all : length l ≡ length o = length-append r₁ (drop p o) ∙ ap₂ ◌+◌ n₁ (length-drop p o) ∙ back in
    let k = length l - p in
    let n : length r₂ ≡ k = n₂ ∙ ap (λ x. x - p) (sym all) in
    let end : p + k ≡ length l = omega (arith, all) in
    let part : length (take k (drop p l)) ≡ k = length-take-le k (drop p l) (omega (arith, length-drop p l)) in
    let same : length (put_mid p k l r₂) ≡ length l = same_len_mid p k l r₂ (n ∙ sym part) in
    sym (take_all (p + k) (put_mid p k l r₂) (omega arith)) ∙ take-put_mid p k l r₂ (p + k) (omega (arith, n)) (omega arith)
    ∙ ap (λ s. s ++ r₂) (take_at r₁ (drop p o) p n₁)

pub slice_bounds-squeeze-end-2 : goal.slice_bounds-squeeze-end-2
slice_bounds-squeeze-end-2 c = simp length-take (omega arith)

pub returns : goal.returns
returns c =
    let m = c.args.input.now in
    let o = c.args.out.now in
    let p = c.min-first.result in
    let head = c.split_at.result.0.now in
    let tail = c.split_at.result.1.now in
    let first = c.squeeze-given in
    let last = c.squeeze in
    let in-o : p ≤ length o = omega arith in
    let h : Held = finished (absorbed fresh m) in
    let h₁ = c.absorb.ensures.state ∙ ap (λ g. absorbed g head) c.new.ensures.state in
    let h₂ = c.absorb-2.ensures.state ∙ ap (λ g. absorbed g tail) h₁ ∙ sym (absorbed-append head tail fresh) ∙ ap (absorbed fresh) (sym c.split_at.ensures.by_index.0) in
    let h₃ = c.finish-whole.ensures.state ∙ ap finished h₂ in
    let r₁ = first.new.out in
    let r₂ = last.new.out in
    let l = r₁ ++ drop p o in
    let part : length (take p o) ≡ p = length-take-le p o in-o in
    let n₁ : length r₁ ≡ p = first.auto.out ∙ part in
    let back : p + (length o - p) ≡ length o = omega arith in
    let all : length l ≡ length o = length-append r₁ (drop p o) ∙ ap₂ ◌+◌ n₁ (length-drop p o) ∙ back in
    let left : length (take (length l - p) (drop p l)) ≡ length o - p = length-take-le (length l - p) (drop p l) (omega (arith, length-drop p l)) ∙ ap (λ n. n - p) all in
    let n₂ : length r₂ ≡ length o - p = last.auto.out ∙ left in
    let h₄ = first.ensures.state ∙ ap₂ after h₃ part in
    written o r₁ r₂ p in-o n₁ n₂
    ∙ ap₂ ◌++◌ (first.ensures.bytes ∙ ap₂ given h₃ part) (last.ensures.bytes ∙ ap₂ given h₄ left)
    ∙ sym (given_more p (length o - p) h) ∙ ap (given h) back ∙ shake_is m (length o)
