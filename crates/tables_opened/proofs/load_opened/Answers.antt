-- `tables_opened::load_opened` meets its contract. The invariant: the lanes of the repetitions below e are done.
-- Assumes nothing.
use borrow.Author.Rules.{rules}
use Prim.Native.Nat.{ℕ, ◌*◌, ◌-◌, ◌^◌, ◌≤◌, ◌<◌}
use mathlib.Core.Path.{◌≡◌, ap₂, ◌∙◌}
use mathlib.Core.List.{List}
use native.Mathlib.Nat.{mul_assoc, mul-le-mul, mul-le-mul_right}
use native.Mathlib.Omega.{arith}
use lib.ListN.{length, take, length-take}
use lib.Pow.{pow_pos}
use Rattle.protocol.specs.Lists.{block_at}
use Rattle.strings.specs.Sums.{byte_at}
use Rattle.strings.proofs.Rows.{row-end}
use Rattle.tables_opened.specs.Opened.{w_byte}
use Rattle.tables.proofs.TreeLaws.{leaves-most, lanes_more}
use Rattle.tables_opened.proofs.load_opened.Goals as goal

below : (e tau : ℕ) → e < tau → e ≤ tau - 1
below e tau h = omega arith

pub leaves_of-requires : goal.leaves_of-requires
leaves_of-requires c = c.requires.6

pub overflow_sub-len : goal.overflow_sub-len
overflow_sub-len c =
    let count : c.leaves_of.result ≡ 2 ^ c.args.r = c.leaves_of.ensures in
    rw count (pow_pos c.args.r)

pub overflow_mul-len : goal.overflow_mul-len
overflow_mul-len c =
    let a = c.args in
    let count : c.leaves_of.result ≡ 2 ^ a.r = c.leaves_of.ensures in
    let few : 2 ^ a.r - 1 ≤ 255 = omega (arith, leaves-most a.r c.requires.6) in
    rw count (omega (arith, mul-le-mul few c.requires.5))

pub loop-e-init : goal.loop-e-init
loop-e-init c =
    λ e c h. absurd (omega arith)

pub slice_bounds-load_lane-end : goal.slice_bounds-load_lane-end
slice_bounds-load_lane-end c = simp length-take (omega arith)

pub slice_bounds-load_lane-end-in-loop-e : goal.slice_bounds-load_lane-end-in-loop-e
slice_bounds-load_lane-end-in-loop-e c = simp length-take (omega arith)

pub row_at-requires : goal.row_at-requires
row_at-requires c =
    let a = c.args in
    let count : c.leaves_of.result ≡ 2 ^ a.r = c.leaves_of.ensures in
    rw count (omega (arith, row-end c.loop-e.e a.tau ((2 ^ a.r - 1) * a.w) (search rules), mul_assoc a.tau (2 ^ a.r - 1) a.w, c.requires.1))

pub load_lane-requires : goal.load_lane-requires
load_lane-requires c =
    let a = c.args in
    let l = c.loop-e in
    let count : c.leaves_of.result ≡ 2 ^ a.r = c.leaves_of.ensures in
    let long : length (take a.w l.u) ≡ a.w = simp length-take (omega arith) in
    rw long (
      omega arith,
      simp length-take (omega arith),
      omega arith,
      rw c.from.ensures (c.requires.7 l.e (search rules)),
      omega (arith, mul-le-mul_right a.w (below l.e a.tau (omega arith))),
      rw count at c.row_at.ensures.1,
      c.requires.6,
    )

pub loop-e-preserved : goal.loop-e-preserved
loop-e-preserved c =
    let a = c.args in
    let l = c.loop-e in
    let call = c.load_lane in
    let C = a.corrections.now in
    let count : c.leaves_of.result ≡ 2 ^ a.r = c.leaves_of.ensures in
    let trees : ℕ → List ℕ = block_at a.opened.now ((2 ^ a.r - 1) * a.w) in
    let tree : c.row_at.result.now ≡ trees l.e = rw count at c.row_at.ensures.0 in
    let long : length (take a.w l.u) ≡ a.w = simp length-take (omega arith) in
    lanes_more (λ e d. w_byte (trees e) C (2 ^ a.r) a.w e (byte_at a.delta.now e) d) a.w l.e l.table call.new.table (omega arith) l.invariant
    (λ d h. (rw long at call.ensures.lane_is) d h ∙ ap₂ (λ (t : List ℕ) (δ : ℕ). w_byte t C (2 ^ a.r) a.w l.e δ d) tree c.from.ensures)
    call.ensures.lanes_kept

pub returns : goal.returns
returns c = λ e d h. c.loop-e.invariant e d (omega arith)
