-- Request 8 in every setting.
-- Assumes nothing.
use mathlib.Core.List.{List}
use Prim.Native.Nat.{ℕ}
use Rattle.galois.specs.Degrees.{field_of}
use Rattle.protocol.specs.Alphabet.{Alphabet, Lawful}
use Rattle.protocol.specs.Setting.{Setting, alphabet_of}
use Rattle.protocol.specs.Shape.{shape_of}
use Rattle.protocol.specs.Calls.{honest_questions, honest_form}
use Rattle.theorems.proofs.AnswerLaws.{all_yes_lem, yes_all}
use Rattle.theorems.proofs.BinaryLaws.{binary-lawful}
use Rattle.hiding.specs.Masks.{OneMask}
use Rattle.hiding.specs.View.{view_of}
use Rattle.hiding.specs.Hidden.{HiddenForm, with_hidden}
use Rattle.hiding.specs.Hiding.{Solution, Honest, Gives}
use Rattle.hiding.specs.Settings.{HonestIn, GivesIn, HiddenLeavesIn, FullLeavesIn, KeepsWitness}
use Rattle.hiding.proofs.MaskLaws.{mask-of}
use Rattle.hiding.proofs.Hiding.{with_honest, keeps-over}

module _ (g : Setting) where
  abbrev A : Alphabet
  A = alphabet_of g

  laws : Lawful (alphabet_of g)
  laws = binary-lawful (field_of g.degree)

  one : OneMask (alphabet_of g)
  one = mask-of g.degree

  -- what the prover takes is honest
  pub is_honest : (key leaves x Δ H' χ : List ℕ) → HonestIn g key leaves x Δ H' χ → Honest A key leaves x Δ
  unfolding honest_form
  is_honest key leaves x Δ H' χ h =
      let y = all_yes_lem (honest_questions g key leaves x H' χ) h.form in
      let r = y.1.1.1.1.1.1.1.1 in
      record {
        sizes = y.1.1.0;
        exact = r.0;
        spare = r.1.0;
        solution = record { form = r.1.1.0; solved = h.solved };
        challenge = h.challenge;
      }

  -- and other honest leaves and a solution are taken, beside the same key, H' and χ
  is_taken : (key leaves x Δ H' χ leaves' x' : List ℕ) → HonestIn g key leaves x Δ H' χ → Honest A key leaves' x' Δ → HonestIn g key leaves' x' Δ H' χ
  unfolding honest_form
  is_taken key leaves x Δ H' χ leaves' x' h k =
      let y = all_yes_lem (honest_questions g key leaves x H' χ) h.form in
      let r = y.1.1.1.1.1 in
      record {
        form = yes_all (honest_questions g key leaves' x' H' χ) (y.0, (y.1.0, (y.1.1.0, (y.1.1.1.0, (y.1.1.1.1.0, (r.0, (r.1.0, (r.1.1.0, (k.exact, (k.spare, (k.solution.form, tt)))))))))));
        solved = k.solution.solved;
        challenge = k.challenge;
      }

  -- so full leaves with hidden ones of the right form are taken, for any solution
  pub with_taken : (key leaves x Δ H' χ hidden x' : List ℕ) → HonestIn g key leaves x Δ H' χ → HiddenForm A (shape_of key) hidden → Solution A key x'
      → HonestIn g key (with_hidden A (shape_of key) leaves Δ hidden) x' Δ H' χ
  with_taken key leaves x Δ H' χ hidden x' h f sol =
      is_taken key leaves x Δ H' χ (with_hidden A (shape_of key) leaves Δ hidden) x' h (with_honest A laws key leaves x Δ hidden x' (is_honest key leaves x Δ H' χ h) f sol)

  hidden_leaves_in : HiddenLeavesIn g
  hidden_leaves_in key leaves x Δ H' χ x' h sol = (keeps-over A laws one).hidden-leaves key leaves x Δ H' χ x' (is_honest key leaves x Δ H' χ h) sol

  full_leaves_in : FullLeavesIn g
  full_leaves_in key leaves x Δ H' χ x' h b sol =
      let only = (keeps-over A laws one).full-leaves key leaves x Δ H' χ x' (is_honest key leaves x Δ H' χ h) b sol in
      let plain : (l : List ℕ) → GivesIn g key x' (view_of A key leaves x Δ H' χ) l → Gives A key x' (view_of A key leaves x Δ H' χ) l =
      λ l f. (is_honest key l x' Δ H' χ f.0, f.1, f.2) in
      ((only.0.0, (is_taken key leaves x Δ H' χ only.0.0 x' h only.0.1.0, only.0.1.1, only.0.1.2)), λ a c fa fc. only.1 a c (plain a fa) (plain c fc))

  pub keeps-witness : KeepsWitness g
  keeps-witness = record {
    over = keeps-over A laws one;
    hidden_leaves_in = hidden_leaves_in;
    full_leaves_in = full_leaves_in;
  }
