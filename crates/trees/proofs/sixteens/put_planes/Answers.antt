-- `trees::sixteens::put_planes` meets its contract. The invariant: sum is that of the rows 0, .., k, and of the
-- r planes those from 8 - k on are done.
-- Assumes nothing.
use Rattle.std.proofs.Common.{◌≡◌, ℕ, ◌+◌, ◌*◌, ◌-◌, ◌<◌, refl, sym, ap, ◌∙◌, arith}
use lib.Bits.{bit_xor}
use lib.ListN.{get_or-replicate}
use Rattle.strings.specs.Sums.{byte_at, xor_sum}
use Rattle.strings.proofs.SumLaws.{sum_more}
use Rattle.trees.proofs.SixteenLaws.{row_apart, planes_more}
use Rattle.trees.proofs.sixteens.put_planes.Goals as goal

pub loop-k-init : goal.loop-k-init
unfolding xor_sum
loop-k-init c =
    let a = c.args in (
      (λ b h.
          c.add_at.ensures b h
          ∙ ap (λ x. bit_xor x (byte_at a.held.now (0 + b))) (get_or-replicate 16 b 0 0 h)
          ∙ sym (sum_more 0 (λ i. byte_at a.held.now (i * 16 + b)))),
      (λ p b hp le. absurd (omega arith)),
      (λ p b hp hb. refl),
    )

pub loop-k-preserved : goal.loop-k-preserved
loop-k-preserved c =
    let a = c.args in
    let l = c.loop-k in
    let add = c.add_at-in-loop-k in
    let store = c.put_plane in
    let q = 8 - (l.k + 1) in
    let same : 7 - l.k ≡ q = omega arith in
    let stored = rw same at store.ensures in
    let rows : ℕ → ℕ → ℕ = λ b i. byte_at a.held.now (i * 16 + b) in
    let sum : (b : ℕ) → b < 16 → byte_at add.new.dst b ≡ xor_sum (l.k + 1 + 1) (rows b) =
    λ b h. add.ensures b h ∙ ap (λ x. bit_xor x (rows b (l.k + 1))) (l.invariant.0 b h) ∙ sym (sum_more (l.k + 1) (rows b)) in (
      sum,
      planes_more (λ p b. xor_sum (8 + 1 - p) (rows b)) l.planes store.new.planes a.r a.w a.at l.k (omega arith) (omega arith)
          (λ lt b h. let last : l.k + 1 + 1 ≡ 8 + 1 - q = omega arith in stored.b_after lt b h ∙ sum b h ∙ ap (λ n. xor_sum n (rows b)) last)
          stored.by_index l.invariant.1,
      (λ p b hp hb. stored.by_index (p * a.w + b) (row_apart q p a.w a.at b (omega arith) (omega arith) (λ e. hb)) ∙ l.invariant.2 p b hp hb),
    )
