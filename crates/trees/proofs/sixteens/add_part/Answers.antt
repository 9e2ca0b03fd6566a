-- `trees::sixteens::add_part` meets its contract. Bytes of leaf j are added, or 0 where leaf j is left out.
-- Assumes nothing.
use Prim.Native.Nat.{ℕ, ◌+◌}
use mathlib.Core.Path.{◌≡◌, sym, ap, ◌∙◌}
use mathlib.Core.Bool.{cond}
use mathlib.Core.List.{List}
use native.Mathlib.Omega.{arith}
use lib.Bits.{bit_xor, xor_zero_r}
use Rattle.protocol.specs.Leaves.{opened_leaf}
use Rattle.theorems.proofs.TestLaws.{eqb_same, eqb-other}
use Rattle.strings.specs.Sums.{byte_at}
use Rattle.trees.proofs.sixteens.add_part.Goals as goal

pub opened_leaf-requires : goal.opened_leaf-requires
opened_leaf-requires c =
    let other : c.args.j ≡ c.args.delta → ⊥ = λ e. omega arith in
    (other, c.requires.0 other)

pub returns-then-j-delta : goal.returns-then-j-delta
returns-then-j-delta c =
    let a = c.args in
    let leaf = opened_leaf a.w a.delta a.tree.now a.j in
    λ b h.
    c.add_at.ensures b h
    ∙ ap (λ (s : List ℕ). bit_xor (byte_at a.sum.now b) (byte_at s (a.at + b))) c.opened_leaf.ensures.0
    ∙ sym (ap (λ q. bit_xor (byte_at a.sum.now b) (cond q 0 (byte_at leaf (a.at + b)))) (eqb-other a.j a.delta (λ e. omega arith)))

pub returns-else-j-delta : goal.returns-else-j-delta
returns-else-j-delta c =
    let a = c.args in
    let leaf = opened_leaf a.w a.delta a.tree.now a.j in
    λ b h. sym (ap (λ q. bit_xor (byte_at a.sum.now b) (cond q 0 (byte_at leaf (a.at + b)))) (eqb_same a.j a.delta (omega arith)) ∙ xor_zero_r (byte_at a.sum.now b))
