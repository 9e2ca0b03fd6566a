-- `trees::absorb` meets its contract. The invariant: the planes below p are done, the others are as they were.
-- Assumes nothing.
use borrow.Author.Rules.{rules}
use Prim.Native.Nat.{ℕ, ◌+◌, ◌*◌, ◌<◌}
use mathlib.Core.Path.{◌≡◌, refl, ◌∙◌}
use lib.ListN.{length}
use lib.Bits.{bit_xor}
use native.Mathlib.Omega.{arith}
use Rattle.strings.specs.Sums.{byte_at, bit_of}
use native.Mathlib.Nat.{mod-lt}
use lib.Dec.{lit<}
use Rattle.strings.proofs.Rows.{row-end}
use Rattle.trees.proofs.PlaneLaws.{done_more, left_less}
use Rattle.strings.proofs.SumLaws.{bit_added, bit-left}
use Rattle.trees.proofs.absorb.Goals as goal
use Rattle.trees.proofs.absorb.Goals.{then-j-p-eq1, else-j-p-eq1}

pub loop-p-init : goal.loop-p-init
loop-p-init c = (λ q b h. absurd (omega arith), λ q b h k. refl)

pub xor_row-requires : goal.xor_row-requires
xor_row-requires c =
    let a = c.args in
    omega (arith, row-end c.loop-p.p a.r (length a.row.now) (search rules))

pub loop-p-preserved : goal.loop-p-preserved
unfolding bit_of
loop-p-preserved c =
    let a = c.args in
    let l = c.loop-p in
    let w = length a.row.now in
    let g : ℕ → ℕ → ℕ → ℕ = λ q b x. bit_xor x (bit_of a.j q * byte_at a.row.now b) in
    let Row : Type 0 = ((b : ℕ) → b < w → byte_at c.if-j-p-eq1.planes (l.p * w + b) ≡ g l.p b (byte_at l.planes (l.p * w + b))) in
    let Others : Type 0 = ((q b : ℕ) → (q ≡ l.p → ⊥) → b < w → byte_at c.if-j-p-eq1.planes (q * w + b) ≡ byte_at l.planes (q * w + b)) in
    let step : (length c.if-j-p-eq1.planes ≡ length l.planes) × Row × Others =
    elim c.if-j-p-eq1.branch [
      | then-j-p-eq1 k ↦ rw k.planes-is (
        k.xor_row.auto.table,
        (λ b h. k.xor_row.ensures.row_added b h ∙ bit_added (byte_at l.planes (l.p * w + b)) (bit_of a.j l.p) (byte_at a.row.now b) k.if-j-p-eq1.true),
        k.xor_row.ensures.rows_kept,
      )
      | else-j-p-eq1 k ↦ rw k.planes-is (
        refl,
        (λ b h. bit-left (byte_at l.planes (l.p * w + b)) (bit_of a.j l.p) (byte_at a.row.now b) (mod-lt _ (lit< tt)) k.if-j-p-eq1.false),
        (λ q b h o. refl),
      )
    ] in (
      done_more g a.planes.now l.planes c.if-j-p-eq1.planes w l.p step.1 step.2 l.invariant.1 l.invariant.0,
      left_less g a.planes.now l.planes c.if-j-p-eq1.planes w l.p step.1 step.2 l.invariant.1,
    )

pub returns : goal.returns
returns c p b hp hb = c.loop-p.invariant.0 p b (omega arith) hb
