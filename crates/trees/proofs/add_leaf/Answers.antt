-- `trees::add_leaf` meets its contract. Byte b of leaf j is added, or 0 where leaf j is left out.
-- Assumes nothing.
use Prim.Native.Nat.{ℕ}
use mathlib.Core.Path.{◌≡◌, sym, ap, ◌∙◌}
use mathlib.Core.Bool.{cond}
use mathlib.Core.List.{List}
use native.Mathlib.Omega.{arith}
use lib.Bits.{bit_xor, xor_zero_r}
use lib.ListN.{length}
use Rattle.protocol.specs.Leaves.{opened_leaf}
use Rattle.theorems.proofs.TestLaws.{eqb_same, eqb-other}
use Rattle.strings.specs.Sums.{byte_at}
use Rattle.trees.proofs.add_leaf.Goals as goal

pub opened_leaf-requires : goal.opened_leaf-requires
opened_leaf-requires c =
    let other : c.args.j ≡ c.args.delta → ⊥ = λ e. omega arith in
    (other, c.requires other)

pub returns-then-j-delta : goal.returns-then-j-delta
returns-then-j-delta c b h =
    let a = c.args in
    let leaf = opened_leaf (length a.u.now) a.delta a.tree.now a.j in
    c.xor_into.ensures b h
    ∙ ap (λ (s : List ℕ). bit_xor (byte_at a.u.now b) (byte_at s b)) c.opened_leaf.ensures.0
    ∙ sym (ap (λ q. bit_xor (byte_at a.u.now b) (cond q 0 (byte_at leaf b))) (eqb-other a.j a.delta (λ e. omega arith)))

pub returns-else-j-delta : goal.returns-else-j-delta
returns-else-j-delta c b h =
    let a = c.args in
    let leaf = opened_leaf (length a.u.now) a.delta a.tree.now a.j in
    sym (ap (λ q. bit_xor (byte_at a.u.now b) (cond q 0 (byte_at leaf b))) (eqb_same a.j a.delta (omega arith)) ∙ xor_zero_r (byte_at a.u.now b))
