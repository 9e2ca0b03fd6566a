-- Every answer of every call is in the published list; 11 is given exactly when some equation fails, and names the
-- first that does.
-- Assumes nothing.
use mathlib.Core.Path.{◌≡◌, refl, sym, ◌∙◌}
use mathlib.Core.Logic.{◌↔◌, ◌≢◌}
use mathlib.Core.Bool.{Bool, true, false, true≢false}
use mathlib.Core.List.{List, [], ◌∷◌, ◌++◌}
use Prim.Native.Nat.{ℕ}
use lib.ListN.{drop}
use Rattle.algebra.proofs.FieldLaws.{eqb-true}
use Rattle.protocol.specs.Lists.{all_below, first_not}
use Rattle.protocol.specs.Alphabet.{Alphabet, sym as symbol}
use Rattle.protocol.specs.Setting.{Setting, alphabet_of}
use Rattle.protocol.specs.Shape.{Shape, shape_of}
use Rattle.protocol.specs.Forms.{error}
use Rattle.protocol.specs.Answers.{Answer, refused, Question, all_yes, ask, Published, header-short, size_out_of_range, key-length, key-spare-bit, challenge-length, hash-spare-bit, leaf-length, leaf-spare-bit, witness-form, output_length, equation_fails, proof-length, proof-spare-bit, inconsistent, product-differs, degree_unserved, challenge_element, proof_element}
use Rattle.protocol.specs.Questions.{equation_holds, solves, consistent_in, product_in}
use Rattle.protocol.specs.Calls.{key_questions, test_puts, commit_puts, batch_puts, prove_puts, verify_puts, test_questions, commit_questions, hash_questions, batch_questions, prove_questions, test_answer, commit_answer, hash_answer, batch_answer, prove_answer, verify_answer, test_form, commit_form, batch_form, prove_form}
use Rattle.theorems.specs.Statements.{AllPublished, SomeFails, FirstFails, FirstFailing, RefusedIff, RefusesExactly}
use Rattle.theorems.proofs.TestLaws.{all-at, first-not}
use Rattle.theorems.proofs.AnswerLaws.{Listed, published_ask, on_form}
use Rattle.theorems.proofs.EachLaws.{without?, without_by, each, some-first-fails, names_first, refused-first, refused_when}

module _ (A : Alphabet) where
  open A use {K}
  open K use {base}
  open base use {R}
  open R use {F, 𝟘}

  -- question 11, in the terms of the errors
  module _ (key x : List ℕ) where
    abbrev s : Shape
    s = shape_of key

    abbrev holds : ℕ → Bool
    holds = equation_holds A s key x

    not-holds : (i : ℕ) → holds i ≡ false → error A s key i (symbol A x) ≢ 𝟘
    not-holds i h z = true≢false (sym (eqb-true base _ 𝟘 z) ∙ h)

    first-fails : {i : ℕ} → FirstFailing s.m holds i → FirstFails A key x i
    first-fails f = ((f.0, not-holds _ f.1), λ j l. base.eqb_sound _ 𝟘 (f.2 j l))

    some-fails : (all_below s.m holds ≡ false) ↔ SomeFails A key x
    some-fails = (λ h. let t = first-not s.m holds h in (first_not s.m holds, (t.0, not-holds _ t.1)), λ t. go (all_below s.m holds) refl t)
      where
        go : (b : Bool) → all_below s.m holds ≡ b → SomeFails A key x → b ≡ false
        go true e (i, f) = absurd (f.1 (base.eqb_sound _ 𝟘 (all-at s.m holds e i f.0)))
        go false e t = refl

    -- of a call that puts it last, after questions of other numbers
    module _ (form : List Question) (other : without? 11 form ≡ true) where
      abbrev answer : Answer
      answer = ask (form ++ (each 11 s.m holds ∷ []))

      pub names_eleven : (i : ℕ) → answer ≡ refused 11 i → FirstFails A key x i
      names_eleven i h = first-fails (names_first 11 s.m holds form [] (without_by 11 form other) tt i h).1

      pub refused_iff : all_yes form ≡ true → RefusedIff A key x answer
      refused_iff f =
          let when = refused_when 11 s.m holds form f in (
            (λ n. some-fails.0 (when.0 n), λ t. when.1 (some-fails.1 t)),
            λ n.
                let no = when.0 n in
                (first_not s.m holds, first-fails (some-first-fails 11 s.m holds no), refused-first 11 s.m holds form f no),
          )

module _ (g : Setting) where
  abbrev A : Alphabet
  A = alphabet_of g

  module _ (key : List ℕ) (r : Answer) where
    form : (i : ℕ) (b : Bool) → Published (shape_of key) (refused i 0) → b ≡ false → r ≡ refused i 0 → Published (shape_of key) r
    form i b c = on_form (shape_of key) r i b c

    eleven : (x : List ℕ) → all_below (shape_of key).m (holds A key x) ≡ false → r ≡ refused 11 (first_not (shape_of key).m (holds A key x)) → Published (shape_of key) r
    eleven x e h = rw h (equation_fails _ (first-not (shape_of key).m (holds A key x) e).0)

    fourteen : (Δ H' opened proof : List ℕ) → let C = consistent_in A (shape_of key) Δ H' opened proof in
        all_below (shape_of key).τ C ≡ false → r ≡ refused 14 (first_not (shape_of key).τ C) → Published (shape_of key) r
    fourteen Δ H' opened proof e h = rw h (inconsistent _ (first-not (shape_of key).τ (consistent_in A (shape_of key) Δ H' opened proof) e).0)

    fifteen : (Δ χ opened proof : List ℕ) → let Q = product_in A (shape_of key) key Δ χ opened proof in
        all_below (shape_of key).τ Q ≡ false → r ≡ refused 15 (first_not (shape_of key).τ Q) → Published (shape_of key) r
    fifteen Δ χ opened proof e h = rw h (product-differs _ (first-not (shape_of key).τ (product_in A (shape_of key) key Δ χ opened proof) e).0)

    -- after the questions on the setting and the key
    key-listed : (qs : List Question) → Listed (shape_of key) r qs → Listed (shape_of key) r (key_questions g key ++ qs)
    key-listed qs l = (form 16 _ degree_unserved, (form 1 _ header-short, (form 2 _ size_out_of_range, (form 3 _ key-length, (form 4 _ key-spare-bit, l)))))

  pub all_published : AllPublished g
  unfolding test_answer commit_answer hash_answer batch_answer prove_answer verify_answer solves
  all_published = record {
    test_published = λ key x.
        let a = test_answer g key x in
        published_ask (shape_of key) a (test_puts g key x) (key-listed key a (drop 5 (test_puts g key x)) (form key a 9 _ witness-form, (eleven key a x, tt))) refl;
    commit_published = λ key leaves x out.
        let a = commit_answer g key leaves x out in
        published_ask (shape_of key) a (commit_puts g key leaves x out)
        (key-listed key a (drop 5 (commit_puts g key leaves x out)) (form key a 7 _ leaf-length, (form key a 8 _ leaf-spare-bit, (form key a 9 _ witness-form, (form key a 10 _ output_length, (eleven key a x, tt))))))
        refl;
    hash_published = λ key leaves H' out.
        let a = hash_answer g key leaves H' out in
        published_ask (shape_of key) a (hash_questions g key leaves H' out)
        (key-listed key a (drop 5 (hash_questions g key leaves H' out)) (form key a 5 _ challenge-length, (form key a 6 _ hash-spare-bit, (form key a 7 _ leaf-length, (form key a 8 _ leaf-spare-bit, (form key a 10 _ output_length, tt))))))
        refl;
    batch_published = λ key leaves x χ out.
        let a = batch_answer g key leaves x χ out in
        published_ask (shape_of key) a (batch_puts g key leaves x χ out)
        (key-listed key a (drop 5 (batch_puts g key leaves x χ out)) (form key a 5 _ challenge-length, (form key a 17 _ challenge_element, (form key a 7 _ leaf-length, (form key a 8 _ leaf-spare-bit, (form key a 9 _ witness-form, (form key a 10 _ output_length, (eleven key a x, tt))))))))
        refl;
    prove_published = λ key leaves x H' χ out.
        let a = prove_answer g key leaves x H' χ out in
        published_ask (shape_of key) a (prove_puts g key leaves x H' χ out)
        (key-listed key a (drop 5 (prove_puts g key leaves x H' χ out)) (form key a 5 _ challenge-length, (form key a 6 _ hash-spare-bit, (form key a 17 _ challenge_element, (form key a 7 _ leaf-length, (form key a 8 _ leaf-spare-bit, (form key a 9 _ witness-form, (form key a 10 _ output_length, (eleven key a x, tt)))))))))
        refl;
    verify_published = λ key Δ H' χ opened proof.
        let s = shape_of key in
        let a = verify_answer g key Δ H' χ opened proof in
        published_ask s a (verify_puts g key Δ H' χ opened proof)
        (key-listed key a (drop 5 (verify_puts g key Δ H' χ opened proof)) (form key a 5 _ challenge-length, (form key a 6 _ hash-spare-bit, (form key a 17 _ challenge_element, (form key a 7 _ leaf-length, (form key a 8 _ leaf-spare-bit, (form key a 12 _ proof-length, (form key a 13 _ proof-spare-bit, (form key a 18 _ proof_element, (fourteen key a Δ H' opened proof, (fifteen key a Δ χ opened proof, tt)))))))))))
        refl;
  }

  pub refuses_exactly_when : RefusesExactly g
  unfolding test_answer commit_answer batch_answer prove_answer test_form commit_form batch_form prove_form solves
  refuses_exactly_when = record {
    test_refuses = λ key x f. refused_iff A key x (test_questions g key x) refl f;
    commit_refuses = λ key leaves x out f. refused_iff A key x (commit_questions g key leaves x out) refl f;
    batch_refuses = λ key leaves x χ out f. refused_iff A key x (batch_questions g key leaves x χ out) refl f;
    prove_refuses = λ key leaves x H' χ out f. refused_iff A key x (prove_questions g key leaves x H' χ out) refl f;
  }
