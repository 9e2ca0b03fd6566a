-- What the verifier answers to the toy's proofs, computed.
--   W₄ == W, by the VOLE identity, from sums over four leaves
--   checks w == the answer to questions 14 and 15, where the vector is w
-- Assumes nothing.
use mathlib.Core.Path.{◌≡◌, refl, ap, ap₂, ◌∙◌}
use mathlib.Core.Bool.{true}
use mathlib.Core.List.{List, [], ◌∷◌}
use Prim.Native.Nat.{ℕ, zero, suc, ◌<◌}
use lib.ListN.{get_or}
use native.Mathlib.Omega.{arith}
use lib.Dec.{lit<}
use Rattle.galois.specs.Degrees.{field_of}
use Rattle.protocol.specs.Lists.{all_below, first_not}
use Rattle.protocol.specs.Frames.{num2}
use Rattle.protocol.specs.Shape.{per_tree}
use Rattle.protocol.specs.Sections.{Sections, sections_in}
use Rattle.protocol.specs.Verifier.{W, correction_at, consistent, product_holds, consistent_at, product_at}
use Rattle.protocol.specs.Answers.{Answer, accepted, refused, question, ask}
use Rattle.protocol.specs.Questions.{tree_of, leaves_exact, consistent_in, product_in, q14, q15}
use Rattle.protocol.specs.Calls.{verify_questions, verify_answer, verify_form}
use Rattle.protocol.specs.Counting.{opening}
use Rattle.protocol.specs.Check.{eight}
use Rattle.theorems.proofs.AnswerLaws.{ask-after}
use Rattle.theorems.proofs.CountingLaws.{leaves-length, tree_is}
use Rattle.theorems.proofs.VoleLaws.{vole}
use Rattle.examples.specs.Toy.{A, key_with, key, leaves, H', χ, proof, proof_qs1, proofũ, answer_with}
use Rattle.examples.proofs.ToyComputing.{computing}
use Rattle.examples.proofs.ToyLeaves.{R, F, toy, u₄, v₄, u_few, v_few}

pub leaves-exact : leaves_exact A toy (per_tree A) leaves ≡ true
unfolding computing
leaves-exact = refl

tree-size : per_tree A ≡ 256
unfolding computing
tree-size = refl

module _ (y δ : ℕ) (proof : List ℕ) where
  abbrev p : Sections
  p = sections_in A toy proof

  abbrev opened : List ℕ
  opened = opening A toy leaves (δ ∷ [])

  abbrev W₄ : ℕ → F
  W₄ c = R.add (v₄ c) (R.mul (A.K.elem δ) (R.add (u₄ c) (correction_at A toy p 0 c)))

  abbrev checks : (ℕ → F) → Answer
  checks w =
      ask
      (question (all_below 1 (λ e. consistent A toy H' p e (A.K.elem δ) w)) 14 (first_not 1 (λ e. consistent A toy H' p e (A.K.elem δ) w))
      ∷ question (all_below 1 (λ e. product_holds A toy (key_with y) χ p e (A.K.elem δ) w)) 15 (first_not 1 (λ e. product_holds A toy (key_with y) χ p e (A.K.elem δ) w))
      ∷ [])

  module _ (l : δ < 256) where
    below : (e : ℕ) → e < 1 → get_or (δ ∷ []) e 0 < per_tree A
    below zero le = rw tree-size l
    below (suc e) le = absurd (omega arith)

    W_is : W A toy p 0 δ (tree_of A toy opened 0) ≡ W₄
    W_is =
        ap (W A toy p 0 δ) (tree_is A toy leaves leaves-exact (δ ∷ []) below 0 (lit< tt))
        ∙ (λ i c. vole A toy leaves (leaves-length A toy leaves leaves-exact) p 0 δ c (lit< tt) (below 0 (lit< tt)) i)
        ∙ ap₂ (λ f g c. R.add (f c) (R.mul (A.K.elem δ) (R.add (g c) (correction_at A toy p 0 c)))) v_few u_few

    last-two : ask (q14 A toy (δ ∷ []) H' opened proof ∷ q15 A toy (key_with y) (δ ∷ []) χ opened proof ∷ []) ≡ checks W₄
    unfolding all_below first_not consistent_in product_in consistent_at product_at
    last-two = ap checks W_is

    pub answer_is : verify_form eight (key_with y) (δ ∷ []) H' χ opened proof ≡ true → answer_with (key_with y) δ proof ≡ checks W₄
    unfolding field_of verify_answer verify_form num2 key_with
    answer_is h = ask-after (verify_questions eight (key_with y) (δ ∷ []) H' χ opened proof) _ h ∙ last-two

pub proof_at_02 : answer_with key 0x02 proof ≡ accepted
unfolding computing
proof_at_02 = answer_is 0x01 0x02 proof (lit< tt) refl ∙ refl

pub QS1_changed_at_02 : answer_with key 0x02 proof_qs1 ≡ refused 15 0
unfolding computing
QS1_changed_at_02 = answer_is 0x01 0x02 proof_qs1 (lit< tt) refl ∙ refl

pub QS1_changed_at_00 : answer_with key 0x00 proof_qs1 ≡ accepted
unfolding computing
QS1_changed_at_00 = answer_is 0x01 0x00 proof_qs1 (lit< tt) refl ∙ refl

pub ũ_changed_at_02 : answer_with key 0x02 proofũ ≡ refused 14 0
unfolding computing
ũ_changed_at_02 = answer_is 0x01 0x02 proofũ (lit< tt) refl ∙ refl
