-- `verifier_product::check_product` meets its contract: the space begins with the K_e, the vectors are taken from
-- it before it is lent as cells, and the left sides are those of the product check.
-- Assumes nothing.
use borrow.Author.Rules.{rules}
use Prim.Native.Nat.{ℕ, ◌*◌, ◌<◌}
use mathlib.Core.Path.{sym, ap, ap₂, ◌∙◌}
use mathlib.Core.List.{List}
use native.Mathlib.Nat.{mul_assoc}
use native.Mathlib.Omega.{arith}
use lib.ListN.{get_or-replicate}
use lib.Bits.{bit_xor}
use Rattle.galois.specs.Degrees.{degree_of}
use Rattle.protocol.specs.Strings.{bytes_for, bit}
use Rattle.protocol.specs.Key.{section_a, section_b}
use Rattle.protocol.specs.Alphabet.{Alphabet}
use Rattle.protocol.specs.Shape.{Shape, mask_at}
use Rattle.protocol.specs.Sections.{sections_in}
use Rattle.theorems.proofs.ElementLaws.{element_lt}
use Rattle.strings.specs.Sums.{byte_at}
use Rattle.lanes.specs.Lanes.{lanes, lane_at, mask_lane}
use Rattle.format.specs.Sizes.{setting_for, alphabet_for, shape_for}
use Rattle.format.proofs.SizeLaws.{in-limits}
use Rattle.format.proofs.FitLaws.{mask_below, variables_fit, l_fits}
use Rattle.equations.proofs.BlockLaws.{bytes-enough}
use Rattle.questions.specs.Asking.{SizedKey}
use Rattle.questions.specs.Facts.{KeyFacts}
use Rattle.forms_columns.specs.Stacks.{coordinate_of}
use Rattle.forms_choices.proofs.ChoiceLaws.{up-to-first}
use Rattle.forms_batching.proofs.VectorLaws.{vectors_narrow}
use Rattle.verifier_product.specs.Product.{product_byte}
use Rattle.questions_proof.proofs.ProofLaws.{section-lengths}
use Rattle.verifier_product.proofs.ProductLaws.{key-narrow}
use Rattle.verifier_product.proofs.ProductMeaning.{first_differing_is}
use Rattle.verifier_product.proofs.check_product.Goals as goal

sized : {A : Alphabet} {s : Shape} {key : List ℕ} → KeyFacts A s key → SizedKey A s key
sized k = record { header = k.header; sizes = k.in-range; exact = k.key-exact }

pub load_challenge-requires : goal.load_challenge-requires
load_challenge-requires c =
    omega (arith, c.requires.key_facts.2, (in-limits (shape_for c.args.s) c.requires.key_facts.0.in-range).τ_most)

pub add_difference-requires : goal.add_difference-requires
add_difference-requires c =
    let shape = shape_for c.args.s in (
      omega (arith, c.requires.batching_len.1.0, variables_fit (setting_for c.args.s) shape),
      omega (arith, c.requires.key_facts.1.d_is.1, (section-lengths (alphabet_for c.args.s) shape).d_length, bytes-enough c.args.s.n),
    )

pub add_masks-requires : goal.add_masks-requires
unfolding degree_of
add_masks-requires c =
    let shape = shape_for c.args.s in
    ((in-limits shape c.requires.key_facts.0.in-range).τ_most, λ e h. omega (arith, c.add_difference.auto.table, c.requires.batching_len.1.0, mask_below (setting_for c.args.s) shape e h, l_fits (setting_for c.args.s) shape))

pub fill_vectors-requires : goal.fill_vectors-requires
fill_vectors-requires c =
    let shape = shape_for c.args.s in
    let b = in-limits shape c.requires.key_facts.0.in-range in
    (omega (arith, c.add_difference.auto.table, c.requires.batching_len.1.0, variables_fit (setting_for c.args.s) shape), b.n_most, b.τ_most)

pub section_b-requires : goal.section_b-requires
section_b-requires c = sized c.requires.key_facts.0

pub section_y-requires : goal.section_y-requires
section_y-requires c = sized c.requires.key_facts.0

pub product_lanes-requires : goal.product_lanes-requires
product_lanes-requires c =
    let shape = shape_for c.args.s in
    let bounds = in-limits shape c.requires.key_facts.0.in-range in record {
      equations_of = (
        c.requires.key_facts.0.in-range,
        c.section_a.ensures.1 ∙ mul_assoc shape.m shape.n (bytes_for shape.n),
        c.section_b.ensures.1,
        omega (arith, c.section_y.ensures.1, bytes-enough shape.m),
        c.requires.batching_len.0,
      );
      rooms = (
        search rules,
        c.fill_vectors.ensures.vectors_end,
        omega (arith, c.add_difference.auto.table, c.requires.batching_len.1.1),
        vectors_narrow c.args.s.degree c.args.s.n c.args.s.tau c.add_difference.new.table c.fill_vectors.new.vectors
            (key-narrow c.args.s.degree c.args.s.n c.args.s.tau c.args.proof.d.now c.load_challenge.new.out c.args.space.now c.add_difference.new.table bounds.τ_most c.add_difference.ensures.key_lanes
            (λ e l. rw (c.load_challenge.ensures e (omega (arith, c.requires.key_facts.2, l))) (element_lt (alphabet_for c.args.s) c.args.delta.now c.requires.delta_value.0 e)) c.requires.delta_value.3)
            c.fill_vectors.ensures.vectors_are,
      );
    }

pub first_differing-requires : goal.first_differing-requires
first_differing-requires c =
    let shape = shape_for c.args.s in
    let p = c.requires.key_facts.1 in (
      omega (arith, c.requires.key_facts.2, (in-limits shape c.requires.key_facts.0.in-range).τ_most),
      p.qs0_is.1 ∙ (section-lengths (alphabet_for c.args.s) shape).qs0-length ∙ sym c.requires.key_facts.2,
      p.qs1_is.1 ∙ (section-lengths (alphabet_for c.args.s) shape).qs1-length ∙ sym c.requires.key_facts.2,
    )

pub shape_of-space : goal.shape_of-space
shape_of-space c = c.product_lanes.auto.cells ∙ c.add_difference.auto.table

pub returns : goal.returns
returns c opened is =
    let a = c.args in
    let shape = shape_for a.s in
    let p = c.requires.key_facts.1 in
    let key = a.key.now in
    let proof = a.proof.bytes.now in
    let χ = a.batching.now in
    let keys = c.add_difference in
    let load = c.load_challenge in
    let masks = c.add_masks in
    let vectors = c.fill_vectors in
    let left = c.product_lanes in
    let challenge = load.new.out in
    let T : List ℕ = keys.new.table in
    let f : ℕ → ℕ → ℕ = coordinate_of vectors.new.vectors in
    let y = c.section_y.result.now in
    let d = p.d_is.0 in
    let lane : (e : ℕ) → e < a.s.tau → e < lanes = λ e l. omega (arith, l, (in-limits shape c.requires.key_facts.0.in-range).τ_most) in
    first_differing_is (setting_for a.s) shape a.delta.now opened proof a.space.now is c.requires.key_facts.2 (element_lt (alphabet_for a.s) a.delta.now c.requires.delta_value.0) challenge T f
    (λ e l. load.ensures e (omega (arith, c.requires.key_facts.2, l)))
    (λ e k l h.
    vectors.ensures.vectors_are e k l (omega (arith, h, (in-limits shape c.requires.key_facts.0.in-range).n_most))
    ∙ up-to-first a.s.n (λ j. lane_at T j e) k h
    ∙ keys.ensures.key_lanes k e h (lane e l)
    ∙ ap (λ (r : List ℕ). bit_xor (lane_at a.space.now k e) (bit r k * byte_at challenge e)) d)
    (λ e k l h. keys.ensures.by_index k e h (lane e l)) key χ left.new.left (element_lt (alphabet_for a.s) χ c.requires.delta_value.1)
    (element_lt (alphabet_for a.s) (sections_in (alphabet_for a.s) shape proof).QS0 c.requires.delta_value.2)
    (λ e l.
    left.ensures e l
    ∙ ap₂ bit_xor (masks.ensures e l ∙ ap (λ (z : ℕ). bit_xor z (mask_lane a.s.degree T (mask_at (alphabet_for a.s) shape e) e)) (get_or-replicate lanes e 0 0 (lane e l)))
    (ap₂ (λ (r q : List ℕ). product_byte a.s.degree a.s.n a.s.m r q y χ e (byte_at challenge e) (f e)) c.section_a.ensures.0 c.section_b.ensures.0
    ∙ ap (λ (r : List ℕ). product_byte a.s.degree a.s.n a.s.m (section_a (alphabet_for a.s) shape key) (section_b (alphabet_for a.s) shape key) r χ e (byte_at challenge e) (f e)) c.section_y.ensures.0)) _
    (rw (← p.qs0_is.0, ← p.qs1_is.0) c.first_differing.ensures)
