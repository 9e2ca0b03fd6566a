-- Request 8 of the calls: an accepted call of mq_prove was lent what is honest, and wrote the definition's bytes. So
-- what `hiding` proves of the view holds of its output.
-- Assumes nothing.
use mathlib.Core.Path.{◌≡◌, sym, ap, ◌∙◌}
use mathlib.Core.Bool.{true}
use mathlib.Core.List.{List}
use Prim.Native.Nat.{ℕ}
use lib.Dec.{eqb}
use lib.ListN.{length}
use Rattle.protocol.specs.Strings.{bytes}
use Rattle.protocol.specs.Alphabet.{Alphabet, elements_in}
use Rattle.protocol.specs.Setting.{Setting, alphabet_of}
use Rattle.protocol.specs.Shape.{Shape, shape_of}
use Rattle.protocol.specs.Frames.{framed_length}
use Rattle.protocol.specs.Sections.{lengths}
use Rattle.protocol.specs.Prover.{proof_of}
use Rattle.protocol.specs.Answers.{accepted, word, written}
use Rattle.protocol.specs.Questions.{ΔExact}
use Rattle.protocol.specs.Calls.{test_puts, prove_puts, test_answer, prove_answer, honest_questions, honest_form}
use Rattle.theorems.proofs.TestLaws.{eqb_same}
use Rattle.theorems.proofs.AnswerLaws.{ask-accepts, all_yes_lem, yes_all}
use Rattle.theorems.proofs.Published.{all_published}
use Rattle.hiding.specs.View.{View, view_of}
use Rattle.hiding.specs.Hidden.{HiddenForm, with_hidden}
use Rattle.hiding.specs.Hiding.{Solution, Challenge}
use Rattle.hiding.specs.Settings.{HonestIn, GivesIn}
use Rattle.hiding.proofs.Settings.{keeps-witness, with_taken}
use Rattle.demands.specs.Demands.{TestTold, ProveWrites}
use Rattle.demands.specs.Hiding.{SameBytes, CallsKeepWitness}
use Rattle.demands.proofs.ToldLaws.{word-accepted}
use Rattle.demands.proofs.Demands.{yes_told, proved, accepted-writes}

module _ (g : Setting) where
  abbrev A : Alphabet
  A = alphabet_of g

  -- a witness that mq_test takes is a solution
  tested : (key x : List ℕ) → TestTold g key x 0 → Solution A key x
  unfolding test_answer
  tested key x t =
      let y = yes_told (shape_of key) (test_puts g key x) ((all_published g).test_published key x) t in
      record { form = y.1.1.1.1.1.0; solved = y.1.1.1.1.1.1.0 }

  challenge_of : (key Δ : List ℕ) → length Δ ≡ (shape_of key).τ → elements_in A Δ ≡ true → Challenge A key Δ
  unfolding ΔExact
  challenge_of key Δ long small = record { exact = eqb_same _ _ long; elements = small }

  -- an accepted call had an output of the right length
  out-exact : (key leaves x H' χ before after : List ℕ) → ProveWrites g key leaves x H' χ before after 0 → eqb (length before) (framed_length (lengths A (shape_of key))) ≡ true
  unfolding prove_answer
  out-exact key leaves x H' χ before after t = (yes_told (shape_of key) (prove_puts g key leaves x H' χ before) ((all_published g).prove_published key leaves x H' χ before) t.0).1.1.1.1.1.1.1.1.1.1.1.0

  -- what is honest, mq_prove takes, and writes its proof
  writes : (key leaves x Δ H' χ before after : List ℕ) → HonestIn g key leaves x Δ H' χ → eqb (length before) (framed_length (lengths A (shape_of key))) ≡ true → after ≡ proof_of A key leaves x H' χ
      → ProveWrites g key leaves x H' χ before after 0
  unfolding prove_answer honest_form
  writes key leaves x Δ H' χ before after h out e =
      let y = all_yes_lem (honest_questions g key leaves x H' χ) h.form in
      let r = y.1.1.1.1.1.1 in
      let yes : prove_answer g key leaves x H' χ before ≡ accepted =
      (ask-accepts (prove_puts g key leaves x H' χ before)).1
      (yes_all (prove_puts g key leaves x H' χ before) (y.0, (y.1.0, (y.1.1.0, (y.1.1.1.0, (y.1.1.1.1.0, (y.1.1.1.1.1.0, (r.0, (r.1.0, (r.1.1.0, (r.1.1.1.0, (r.1.1.1.1.0, (out, (h.solved, tt)))))))))))))) in
      (sym (ap word yes ∙ word-accepted), e ∙ sym (ap (λ a. written a before (proof_of A key leaves x H' χ)) yes))

  module _ (key leaves x H' χ before after Δ x' before' : List ℕ) (t : ProveWrites g key leaves x H' χ before after 0) (long : length Δ ≡ (shape_of key).τ) (small : elements_in A Δ ≡ true)
      (t' : TestTold g key x' 0) (room : length before' ≡ length before) where
    abbrev s : Shape
    s = shape_of key

    honest : HonestIn g key leaves x Δ H' χ
    honest = let p = proved g key leaves x H' χ before after t in record { form = p.0; solved = p.1; challenge = challenge_of key Δ long small }

    is_proof : after ≡ proof_of A key leaves x H' χ
    is_proof = (accepted-writes g).prove-writes key leaves x H' χ before after t

    out' : eqb (length before') (framed_length (lengths A s)) ≡ true
    out' = ap (λ n. eqb n (framed_length (lengths A s))) room ∙ out-exact key leaves x H' χ before after t

    -- the same opened leaves and bytes are the same view
    same_view : (l : List ℕ) → SameBytes g key l x' H' χ before' after leaves Δ → view_of A key l x' Δ H' χ ≡ view_of A key leaves x Δ H' χ
    same_view l b = λ i. record { opened = b.0 i; Δ = Δ; H' = H'; χ = χ; proof = (sym ((accepted-writes g).prove-writes key l x' H' χ before' after b.1) ∙ is_proof) i }

    same_bytes : (l : List ℕ) → HonestIn g key l x' Δ H' χ → view_of A key l x' Δ H' χ ≡ view_of A key leaves x Δ H' χ → SameBytes g key l x' H' χ before' after leaves Δ
    same_bytes l h v = (ap (λ (z : View). z.opened) v, writes key l x' Δ H' χ before' after h out' (is_proof ∙ sym (ap (λ (z : View). z.proof) v)))

    abbrev hidden-written : List ℕ → Type 0
    hidden-written hidden = HiddenForm A s hidden × SameBytes g key (with_hidden A s leaves Δ hidden) x' H' χ before' after leaves Δ

    some-hidden : (hidden : List ℕ) × hidden-written hidden
    some-hidden =
        let choice = ((keeps-witness g).hidden_leaves_in key leaves x Δ H' χ x' honest (tested key x' t')).0 in
        (choice.0, (choice.1.0, same_bytes (with_hidden A s leaves Δ choice.0) (with_taken g key leaves x Δ H' χ choice.0 x' honest choice.1.0 (tested key x' t')) choice.1.1))

    same-hidden : (a b : List ℕ) → hidden-written a → hidden-written b → a ≡ b
    same-hidden a b ha hb =
        ((keeps-witness g).hidden_leaves_in key leaves x Δ H' χ x' honest (tested key x' t')).1 a b (ha.0, same_view (with_hidden A s leaves Δ a) ha.1) (hb.0, same_view (with_hidden A s leaves Δ b) hb.1)

    abbrev full-written : List ℕ → Type 0
    full-written l = bytes l × SameBytes g key l x' H' χ before' after leaves Δ

    module _ (b : bytes leaves) where
      some-full : (l : List ℕ) × full-written l
      some-full =
          let only = ((keeps-witness g).full_leaves_in key leaves x Δ H' χ x' honest b (tested key x' t')).0 in
          (only.0, (only.1.1, same_bytes only.0 only.1.0 only.1.2))

      gives : (l : List ℕ) → full-written l → GivesIn g key x' (view_of A key leaves x Δ H' χ) l
      gives l f =
          let p = proved g key l x' H' χ before' after f.1.1 in
          (record { form = p.0; solved = p.1; challenge = honest.challenge }, f.0, same_view l f.1)

      same_full : (a c : List ℕ) → full-written a → full-written c → a ≡ c
      same_full a c fa fc = ((keeps-witness g).full_leaves_in key leaves x Δ H' χ x' honest b (tested key x' t')).1 a c (gives a fa) (gives c fc)

  pub calls_keep_witness : CallsKeepWitness g
  calls_keep_witness = record {
    keeps-witness = λ key leaves x H' χ before after Δ x' before' t long small t' room. (some-hidden key leaves x H' χ before after Δ x' before' t long small t' room, same-hidden key leaves x H' χ before after Δ x' before' t long small t' room);
    favours_none = λ key leaves x H' χ before after Δ x' before' t b long small t' room. (some-full key leaves x H' χ before after Δ x' before' t long small t' room b, same_full key leaves x H' χ before after Δ x' before' t long small t' room b);
  }
