-- `hash::vectors::hash_row` meets its contract: what the block's bytes of the row select is added (`FrontLaws`).
-- Assumes nothing.
use mathlib.Core.Path.{◌≡◌, ap, ap₂, ◌∙◌}
use mathlib.Core.List.{List}
use Prim.Native.Nat.{ℕ, ◌+◌, ◌*◌, ◌<◌}
use native.Mathlib.Omega.{arith}
use lib.Bits.{bit_xor, xor_comm}
use lib.ListN.{length, length-take, length-drop}
use Rattle.protocol.specs.Lists.{part}
use Rattle.theorems.proofs.ListLaws.{row-end}
use Rattle.strings.specs.Sums.{byte_at, selected}
use Rattle.strings.proofs.Rows.{row-byte}
use Rattle.lanes.specs.Lanes.{lanes}
use Rattle.hash.specs.Hashed.{front_lane}
use Rattle.hash.proofs.FrontLaws.{front_start, front_more}
use Rattle.hash.proofs.vectors.hash_row.Goals as goal

pub overflow_mul-at : goal.overflow_mul-at
overflow_mul-at c =
    let a = c.args in
    omega (arith, row-end a.rho a.b.t a.b.width c.requires.block_fits.1, c.requires.block_fits.0.1, c.requires.block_fits.0.6)

pub overflow_add-at : goal.overflow_add-at
overflow_add-at c =
    let a = c.args in
    omega (arith, row-end a.rho a.b.t a.b.width c.requires.block_fits.1, c.requires.block_fits.0.1, c.requires.block_fits.0.6)

pub part_of-requires : goal.part_of-requires
part_of-requires c =
    let a = c.args in
    omega (arith, row-end a.rho a.b.t a.b.width c.requires.block_fits.1, c.requires.block_fits.0.1, c.requires.block_fits.0.6)

pub put_column-requires : goal.put_column-requires
put_column-requires c = (c.requires.block_fits.0.0, c.requires.block_fits.1, c.requires.block_fits.0.2)

pub returns : goal.returns
unfolding part
returns c =
    let a = c.args in
    let b = a.b in
    let H = a.matrix.now in
    let T = a.table.now in
    let start = c.start_of.result.now in
    let table : List ℕ = part T (b.from * 8 * lanes) (b.len * 8 * lanes) in
    let long : length table ≡ b.len * 8 * lanes = simp (length-take, length-drop) (omega (arith, c.requires.block_fits.0.5, c.requires.block_fits.0.6)) in
    let looked = rw c.part_of.ensures.1 at c.look_up_row.ensures in
    let begun : (e : ℕ) → e < b.tau → e < lanes → byte_at start e ≡ front_lane H b.width b.k T b.from a.rho e =
    λ e h l.
    front_start H T b.width b.k b.from a.rho e (byte_at start e) (λ z. ap (λ (r : List ℕ). byte_at r e) (c.start_of.ensures.0 z) ∙ row-byte T lanes (b.k + a.rho) e l)
    (λ pos. ap (λ (r : List ℕ). byte_at r e) (c.start_of.ensures.1 pos) ∙ c.take_before.ensures pos e h ∙ c.requires.block_tabled.1 pos e h) in record {
      column = (λ e h.
          let l : e < lanes = omega (arith, h, c.requires.block_fits.0.2) in
          let first : 0 + e ≡ e = omega arith in
          c.put_column.ensures.by_index e h ∙ c.add_at.ensures e l ∙ ap (λ (x : ℕ). bit_xor (byte_at c.look_up_row.new.out e) (byte_at start x)) first
          ∙ xor_comm (byte_at c.look_up_row.new.out e) (byte_at start e)
          ∙ ap₂ bit_xor (begun e h l)
          (looked table (b.len * 8) e c.requires.block_tabled.0 long (omega arith) l ∙ ap (λ (r : List ℕ). selected (b.len * 8) r table lanes e) c.part_of.ensures.0)
          ∙ front_more H T b.width b.k b.from b.len a.rho e c.requires.block_fits.0.6 l);
      by_index = c.put_column.ensures.by_index_2;
    }
