-- `prover::steps::add_forms` meets its contract: the sections A and b of the key are its parts.
-- Assumes nothing.
use mathlib.Core.Path.{◌≡◌, ap, ap₂, ◌∙◌}
use mathlib.Core.List.{List}
use Prim.Native.Nat.{ℕ}
use native.Mathlib.Nat.{mul_assoc}
use lib.Bits.{bit_xor}
use Rattle.protocol.specs.Strings.{bytes_for, bit}
use Rattle.protocol.specs.Key.{section_a, section_b}
use Rattle.strings.specs.Sums.{byte_at}
use Rattle.format.specs.Sizes.{alphabet_for, shape_for}
use Rattle.format.proofs.SizeLaws.{in-limits}
use Rattle.forms_columns.specs.Stacks.{coordinate_of}
use Rattle.forms.specs.Batch.{forms_byte, middles_byte}
use Rattle.forms.proofs.NarrowLaws.{element_bits}
use Rattle.prover.proofs.LoadedLaws.{key-form}
use Rattle.prover.proofs.steps.add_forms.Goals as goal

pub section_a-requires : goal.section_a-requires
section_a-requires c = key-form (alphabet_for c.args.s) (shape_for c.args.s) c.args.key.now c.requires.key-facts

pub section_b-requires : goal.section_b-requires
section_b-requires c = key-form (alphabet_for c.args.s) (shape_for c.args.s) c.args.key.now c.requires.key-facts

pub batch_lanes-requires : goal.batch_lanes-requires
batch_lanes-requires c =
    let s = shape_for c.args.s in
    let within = in-limits (shape_for c.args.s) c.requires.key-facts.in-range in (
      c.requires.qs0-lanes,
      c.requires.qs1-lanes,
      within.n_most,
      within.τ_most,
      within.τ_least,
      c.section_a.ensures.1 ∙ mul_assoc s.m s.n (bytes_for s.n),
      c.section_b.ensures.1,
      c.requires.batching_length,
      c.requires.vectors_room,
      c.requires.vectors-end,
      c.requires.cells_room,
      c.requires.witness-form.witness-length,
      within.m_most,
      λ e k l h. element_bits c.args.s.degree _ (c.requires.vectors_narrow e k l h),
    )

pub returns : goal.returns
returns c =
    let a = c.args in
    let done = c.batch_lanes in
    let forms : c.section_a.result.now ≡ section_a (alphabet_for c.args.s) (shape_for c.args.s) c.args.key.now = c.section_a.ensures.0 in
    let linear : c.section_b.result.now ≡ section_b (alphabet_for c.args.s) (shape_for c.args.s) c.args.key.now = c.section_b.ensures.0 in record {
      lanes_added = (λ e h. done.ensures.lanes_added e h ∙ ap (λ (A : List ℕ). bit_xor (byte_at a.qs0.now e) (forms_byte a.s.degree a.s.n a.s.m A a.batching.now e (coordinate_of a.vectors.now e))) forms);
      lanes_added_2 = (λ e h. done.ensures.lanes_added_2 e h ∙ ap₂ (λ (A b : List ℕ). bit_xor (byte_at a.qs1.now e) (middles_byte a.s.degree a.s.n a.s.m A b (bit a.witness.now) a.batching.now e (coordinate_of a.vectors.now e))) forms linear);
    }
