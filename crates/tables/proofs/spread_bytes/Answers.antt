-- `tables::spread_bytes` meets its contract. The invariant: lane e of the coordinates of the first b bytes is done, the
-- other lanes are as they were.
-- Assumes nothing.
use Prim.Native.Nat.{ℕ, ◌+◌, ◌*◌, ◌<◌}
use mathlib.Core.Path.{◌≡◌, refl, sym, ap, ◌∙◌}
use native.Mathlib.Omega.{arith}
use Rattle.protocol.specs.Lists.{block_at}
use Rattle.protocol.specs.Strings.{bit, from_bits}
use Rattle.theorems.proofs.StringLaws.{bits_congr}
use Rattle.strings.specs.Sums.{byte_at, bit_of}
use Rattle.strings.proofs.Rows.{row-byte}
use Rattle.strings.proofs.Meaning.{bit-place}
use Rattle.tables.proofs.LaneLaws.{lane_more}
use Rattle.tables.proofs.spread_bytes.Goals as goal

pub loop-b-init : goal.loop-b-init
loop-b-init c = (λ c h. absurd (omega arith), λ c q h k. refl)

pub loop-b-preserved : goal.loop-b-preserved
loop-b-preserved c =
    let a = c.args in
    let l = c.loop-b in
    let call = c.spread_byte in
    let g : ℕ → ℕ = λ c. from_bits 8 (λ p. bit (block_at a.planes.now a.w p) c) in
    let place : (i p : ℕ) → i < 8 → bit_of (byte_at a.planes.now (p * a.w + l.b)) i ≡ bit (block_at a.planes.now a.w p) (l.b * 8 + i) =
    λ i p h. sym (bit-place (block_at a.planes.now a.w p) l.b i h ∙ ap (λ x. bit_of x i) (row-byte a.planes.now a.w p l.b (omega arith))) in (
      lane_more g l.table call.new.table a.e l.b (omega arith) (λ i h. call.ensures.by_index i h ∙ bits_congr 8 _ _ (λ p k. place i p h)) call.ensures.by_index_2 l.invariant.0,
      (λ d q h k. call.ensures.by_index_2 d q h (λ e. absurd (k e)) ∙ l.invariant.1 d q h k),
    )

pub returns : goal.returns
returns c =
    let l = c.loop-b in
    record { lane_is = λ d h. l.invariant.0 d (omega arith); lanes_kept = l.invariant.1 }
