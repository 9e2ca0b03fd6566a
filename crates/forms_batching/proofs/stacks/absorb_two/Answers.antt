-- `forms_batching::stacks::absorb_two` meets its contract: the planes that are looked up are those of the sum.
-- Assumes nothing.
use Prim.Native.Nat.{ℕ, ◌+◌, ◌*◌, ◌<◌}
use mathlib.Core.List.{List}
use mathlib.Core.Path.{◌≡◌, ap, ap₂, ◌∙◌}
use native.Mathlib.Omega.{arith}
use lib.Bits.{bit_xor}
use Rattle.strings.specs.Sums.{byte_at, bit_of, xor_sum}
use Rattle.chunks.specs.Chunks.{chunk, cell_at}
use Rattle.forms_choices.specs.Entries.{looked_up, Weighed}
use Rattle.forms_choices.proofs.ChoiceLaws.{chosen-sum}
use Rattle.forms_columns.specs.Stacks.{stack_at, two_planes}
use Rattle.forms_batching.proofs.stacks.absorb_two.Goals as goal

pub returns : goal.returns
returns c =
    let a = c.args in
    let lt : a.k < 4 = c.requires.1 in
    let looked = c.look_up_two in
    let both = looked.new.out in
    let p : ℕ = 2 * a.k in
    let next : a.base + p + 1 ≡ a.base + (p + 1) = omega arith in
    let S' = a.sums.now in
    let W = a.words.now in
    let one : (S : List ℕ) (χ : ℕ → ℕ) (m f : ℕ) → Weighed S χ m S' W a.groups a.base → f < chunk → cell_at both 0 f ≡ xor_sum m (λ i. bit_of (χ i) p * cell_at S i f) =
    λ S χ m f weighed h. looked.ensures.by_index f h ∙ chosen-sum S χ m S' W a.groups a.base p f weighed (omega (arith, lt)) h in
    let two : (S : List ℕ) (χ : ℕ → ℕ) (m f : ℕ) → Weighed S χ m S' W a.groups a.base → f < chunk → cell_at both 1 f ≡ xor_sum m (λ i. bit_of (χ i) (p + 1) * cell_at S i f) =
    λ S χ m f weighed h. looked.ensures.by_index_2 f h ∙ ap (λ r. looked_up S' W r a.groups f) next ∙ chosen-sum S χ m S' W a.groups a.base (p + 1) f weighed (omega (arith, lt)) h in
    λ d S v χ m f z weighed masks narrow h.
    c.absorb_planes.ensures d v f z masks narrow h
    ∙ ap₂ (λ (x y : ℕ). bit_xor (stack_at d a.t.now f z) (two_planes d p x y z (byte_at v f))) (one S χ m f weighed h) (two S χ m f weighed h)
