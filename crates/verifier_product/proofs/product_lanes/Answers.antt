-- `verifier_product::product_lanes` meets its contract: without the bits of a witness the middle coefficients are the
-- linear parts.
-- Assumes nothing.
use borrow.Author.Rules.{rules}
use Prim.Native.Nat.{ℕ, ◌+◌, ◌*◌, ◌<◌}
use mathlib.Core.Path.{◌≡◌, refl, ap, ap₂, ◌∙◌}
use native.Mathlib.Omega.{arith}
use lib.Dec.{lit<}
use lib.ListN.{replicate, get_or-replicate}
use lib.Bits.{bit_xor}
use Rattle.algebra.specs.Coded.{mul_byte}
use Rattle.galois.specs.Degrees.{field_of}
use Rattle.protocol.specs.Shape.{most_variables}
use Rattle.strings.specs.Sums.{byte_at}
use Rattle.lanes.specs.Lanes.{lanes}
use Rattle.forms_columns.specs.Stacks.{coordinate_of}
use Rattle.equations.specs.Equations.{row_of, matrix_of}
use Rattle.equations.proofs.RowLaws.{zeros}
use Rattle.forms.specs.Forms.{row_bit}
use Rattle.forms.specs.Batch.{batch_byte}
use Rattle.forms.proofs.BatchLaws.{batch-same, middle-none}
use Rattle.format.specs.Sizes.{shape_for}
use Rattle.format.proofs.SizeLaws.{in-limits}
use Rattle.verifier_product.proofs.ProductLaws.{left-side}
use Rattle.verifier_product.proofs.product_lanes.Goals as goal

zeros-small : (n k : ℕ) → byte_at (replicate n 0) k < 2
zeros-small n k = rw (zeros n k) (lit< tt)

pub batch_forms-requires : goal.batch_forms-requires
batch_forms-requires c =
    let b = in-limits (shape_for c.args.s) c.requires.equations_of.0 in (
      search rules,
      refl,
      b.n_most,
      b.τ_most,
      b.τ_least,
      c.requires.equations_of.1,
      c.requires.equations_of.2,
      c.requires.equations_of.4,
      c.requires.rooms.0,
      c.requires.rooms.1,
      c.requires.rooms.2,
      refl,
      zeros-small most_variables,
      (λ k h. zeros most_variables k),
      (λ e k. zeros most_variables k),
      b.m_most,
      c.requires.rooms.3,
    )

pub batch_values-requires : goal.batch_values-requires
batch_values-requires c =
    ((in-limits (shape_for c.args.s) c.requires.equations_of.0).τ_most, c.requires.equations_of.4, c.requires.equations_of.3)

pub returns : goal.returns
returns c e h =
    let a = c.args in
    let d = a.s.degree in
    let n = a.s.n in
    let m = a.s.m in
    let χ = a.chi.now in
    let δ = byte_at a.delta.now e in
    let f : ℕ → ℕ = coordinate_of a.vectors.now e in
    let lane : e < lanes = omega (arith, (in-limits (shape_for a.s) c.requires.equations_of.0).τ_most) in
    let formed = c.batch_forms in
    let squared = c.accumulate-2 in
    let linear : byte_at formed.new.lin e ≡ batch_byte d m χ e (λ i. row_bit n (row_of n a.b.now i) f) =
    formed.ensures.lanes_added_2 e h
    ∙ ap₂ bit_xor (get_or-replicate lanes e 0 0 lane)
    (batch-same d m (λ q i. byte_at χ (q * m + i)) e _ (λ i. row_bit n (row_of n a.b.now i) f) (λ i l. middle-none n (matrix_of n a.a.now i) (row_of n a.b.now i) f (byte_at (replicate most_variables 0)) (zeros most_variables))) in
    let square : byte_at squared.new.acc e ≡ mul_byte (field_of d) δ δ = squared.ensures e lane ∙ ap (λ (z : ℕ). bit_xor z (mul_byte (field_of d) δ δ)) (get_or-replicate lanes e 0 0 lane) in
    left-side d n m a.a.now a.b.now a.y.now χ e δ f (byte_at a.left.now e) (formed.ensures.lanes_added e h) linear square (c.batch_values.ensures e h) (c.accumulate.ensures e lane) (c.accumulate-3.ensures e lane)
