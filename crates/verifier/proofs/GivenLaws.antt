-- What an accepted answer to the verifier's questions on form says; and what the opened table is once it is loaded.
-- Assumes nothing.
use mathlib.Core.Path.{◌≡◌, sym, ap, ◌∙◌, subst}
use mathlib.Core.Bool.{true}
use mathlib.Core.List.{List, [], ◌∷◌, ◌++◌}
use Prim.Native.Nat.{ℕ, ◌+◌, ◌*◌, ◌-◌, ◌^◌, ◌≤◌, ◌<◌}
use native.Mathlib.Omega.{arith}
use lib.ListN.{length, take, drop, length-append, length-drop, get_or-append}
use lib.Seq.{take_at}
use Rattle.protocol.specs.Alphabet.{Alphabet, elements_in}
use Rattle.protocol.specs.Setting.{Setting, setting, alphabet_of}
use Rattle.protocol.specs.Shape.{Shape, shape_of, per_opened, per_tree, k_of, l_of, w_of}
use Rattle.protocol.specs.Sections.{Sections, sections_in}
use Rattle.protocol.specs.Answers.{Answer, accepted, ask}
use Rattle.protocol.specs.Questions.{ΔExact, h_exact, χExact, leaves_exact, proof_elements}
use Rattle.protocol.specs.Calls.{key_questions, verify_answer}
use Rattle.theorems.proofs.TestLaws.{eqb_eq, all_true_lem}
use Rattle.theorems.proofs.AnswerLaws.{ask-accepts, all_yes_lem}
use Rattle.theorems.proofs.ElementLaws.{element_lt}
use Rattle.strings.specs.Sums.{byte_at}
use Rattle.lanes.specs.Lanes.{lanes}
use Rattle.sections.proofs.Writes.{take-length}
use Rattle.tables_opened.specs.Opened.{OpenedTableIs, Opened}
use Rattle.tables_opened.proofs.OpenedMeaning.{opened-lane}
use Rattle.format.specs.Verdict.{and_then}
use Rattle.format.proofs.AskLaws.{then_ask}
use Rattle.questions.specs.Asking.{verify_inputs, proof_questions}
use Rattle.questions.specs.Facts.{KeyFacts}
use Rattle.forms.specs.Batch.{TableNarrow}
use Rattle.verifier.specs.Given.{VerifyFacts, check_questions}

challenge_of : (A : Alphabet) (s : Shape) (Δ : List ℕ) → ΔExact A s Δ ≡ true → length Δ ≡ s.τ
unfolding ΔExact
challenge_of A s Δ h = eqb_eq _ _ h

batching_of : (A : Alphabet) (s : Shape) (χ : List ℕ) → χExact A s χ ≡ true → length χ ≡ s.τ * s.m
unfolding χExact
batching_of A s χ h = eqb_eq _ _ h

opened_of : (A : Alphabet) (s : Shape) (opened : List ℕ) → leaves_exact A s (per_opened A) opened ≡ true → length opened ≡ s.τ * per_opened A * w_of A s
unfolding leaves_exact
opened_of A s opened h = eqb_eq _ _ h

-- from the facts of the key, and the acceptance of the questions on the other inputs and on the proof
pub verify-facts : (A : Alphabet) (s : Shape) (key Δ H' χ opened proof : List ℕ) → KeyFacts A s key → ask (verify_inputs A s Δ H' χ opened) ≡ accepted → ask (proof_questions A s proof) ≡ accepted → VerifyFacts A s key Δ H' χ opened proof
verify-facts A s key Δ H' χ opened proof facts h k =
    let t = all_yes_lem (verify_inputs A s Δ H' χ opened) ((ask-accepts (verify_inputs A s Δ H' χ opened)).0 h) in
    let q = all_true_lem (ΔExact A s Δ ∷ h_exact A s H' ∷ χExact A s χ ∷ []) t.0 in
    let r = all_true_lem (elements_in A Δ ∷ elements_in A χ ∷ []) t.1.1.0 in
    let u = all_yes_lem (proof_questions A s proof) ((ask-accepts (proof_questions A s proof)).0 k) in
    record {
      of-key = facts;
      of_challenge = challenge_of A s Δ q.0;
      of_hash = record { hash-exact = q.1.0; hash-spare = t.1.0 };
      of_batching = batching_of A s χ q.1.1.0;
      of_opened = opened_of A s opened t.1.1.1.0;
      of-proof = u.0;
      of_elements = r.0;
      χ_elements = r.1.0;
      proof-elements = u.1.1.0;
    }

-- the sections of which question 18 asks, as far as the checks add them
pub sent_elements : (A : Alphabet) (s : Shape) (p : Sections) → proof_elements A s p ≡ true → (elements_in A p.Ṽ ≡ true) × (elements_in A p.QS0 ≡ true)
unfolding proof_elements
sent_elements A s p h =
    let t = all_true_lem (elements_in A p.Ṽ ∷ elements_in A p.QS0 ∷ elements_in A p.QS1 ∷ []) h in
    (t.0, t.1.0)

-- a challenge is below the number of a tree's leaves
pub challenge_lt : (A : Alphabet) (Δ : List ℕ) → elements_in A Δ ≡ true → (e : ℕ) → byte_at Δ e < 2 ^ A.K.degree
challenge_lt A Δ h e = subst (λ n. byte_at Δ e < n) A.K.size_is (element_lt A Δ h e)

-- the questions on the key, on the other inputs, on the proof, and the checks, each only where all before got a yes:
-- the verifier's answer at the degree that it was named
module _ (d : ℕ) (s : Shape) (key Δ H' χ opened proof : List ℕ) where
  abbrev A : Alphabet
  A = alphabet_of (setting d)

  pub all_asked : {degree : ℕ} → d ≡ degree → s ≡ shape_of key → {a b c f : Answer} → a ≡ ask (key_questions (setting d) key) → b ≡ ask (verify_inputs A s Δ H' χ opened)
      → c ≡ ask (proof_questions A s proof) → f ≡ ask (check_questions A s key Δ H' χ opened proof) → and_then a (and_then b (and_then c f)) ≡ verify_answer (setting degree) key Δ H' χ opened proof
  unfolding verify_answer
  all_asked named e {a} {b} {c} {f} of-key of-inputs of-proof checked =
      let z = shape_of key in
      then_ask (key_questions (setting d) key) _ of-key
      (ap (and_then a)
      (then_ask (verify_inputs A z Δ H' χ opened) _ (of-inputs ∙ ap (λ (z : Shape). ask (verify_inputs A z Δ H' χ opened)) e)
      (ap (and_then b)
      (then_ask (proof_questions A z proof) (check_questions A z key Δ H' χ opened proof) (of-proof ∙ ap (λ (z : Shape). ask (proof_questions A z proof)) e)
      (ap (and_then c) (checked ∙ ap (λ (z : Shape). ask (check_questions A z key Δ H' χ opened proof)) e))))))
      ∙ ap (λ (n : ℕ). verify_answer (setting n) key Δ H' χ opened proof) named

-- over a width that is w, corrections that are C, and a degree that is the field's
pub opened_is : (A : Alphabet) (s : Shape) (Δ opened proof T C : List ℕ) (w r : ℕ) → w ≡ w_of A s → C ≡ (sections_in A s proof).C → r ≡ A.K.degree
    → 8 * w_of A s * lanes ≤ length T → OpenedTableIs T opened Δ C s.τ w (2 ^ r) → Opened A s Δ opened proof T
unfolding per_tree
opened_is A s Δ opened proof T C w r e f d long is = record { table-length = long; table_is = subst (OpenedTableIs T opened Δ (sections_in A s proof).C s.τ (w_of A s)) (sym A.K.size_is) (rw (e, f, d) at is) }

-- what a space begins with is read in the space
pub opened_begins : (A : Alphabet) (s : Shape) (Δ opened proof T rest : List ℕ) → s.τ ≤ lanes → Opened A s Δ opened proof T → Opened A s Δ opened proof (T ++ rest)
opened_begins A s Δ opened proof T rest few is =
    record {
      table-length = rw (length-append T rest) (omega (arith, is.table-length));
      table_is = λ e c l h. get_or-append T rest 0 (c * lanes + e) (omega (arith, few, l, h, is.table-length)) ∙ is.table_is e c l h;
    }

-- a space that begins with the table: the table, and what the whole is then
pub record Loaded (A : Alphabet) (s : Shape) (Δ opened proof space T : List ℕ) (w : ℕ) : Type 0 where
  pub table-length : length T ≡ 8 * w * lanes
  pub front : take (8 * w * lanes) (T ++ drop (8 * w * lanes) space) ≡ T
  pub whole : length (T ++ drop (8 * w * lanes) space) ≡ length space
  pub table_opened : Opened A s Δ opened proof T
  pub space-opened : Opened A s Δ opened proof (T ++ drop (8 * w * lanes) space)

pub loaded : (A : Alphabet) (s : Shape) (Δ opened proof space T C : List ℕ) (w r : ℕ) → w ≡ w_of A s → r ≡ A.K.degree → C ≡ (sections_in A s proof).C → s.τ ≤ lanes → 8 * w_of A s * lanes ≤ length space
    → length T ≡ length (take (8 * w * lanes) space) → OpenedTableIs T opened Δ C s.τ w (2 ^ r) → Loaded A s Δ opened proof space T w
loaded A s Δ opened proof space T C w r width degree C_is few room long is =
    let n : ℕ = 8 * w * lanes in
    let fits : n ≤ length space = rw width room in
    let table-is : length T ≡ n = long ∙ take-length n space fits in
    let opened-first = opened_is A s Δ opened proof T C w r width C_is degree (rw (← width) (omega (arith, table-is))) is in
    record {
      table-length = table-is;
      front = take_at T (drop n space) n table-is;
      whole = rw (length-append T (drop n space), length-drop n space) (omega (arith, table-is, fits));
      table_opened = opened-first;
      space-opened = opened_begins A s Δ opened proof T (drop n space) few opened-first;
    }

-- the opened leaves of a tree, by the field's degree
pub opened-long : (A : Alphabet) (s : Shape) (opened : List ℕ) → length opened ≡ s.τ * per_opened A * w_of A s → length opened ≡ s.τ * (2 ^ A.K.degree - 1) * w_of A s
unfolding per_opened per_tree
opened-long A s opened e = e ∙ ap (λ (n : ℕ). s.τ * (n - 1) * w_of A s) A.K.size_is

-- the variables' coordinates are among all
first_in : (g : Setting) (s : Shape) (c : ℕ) → c < s.n → c < l_of (alphabet_of g) s
unfolding l_of k_of
first_in g s c h = omega (arith, h)

-- what was opened is W_e, and so of elements
pub opened-narrow : (g : Setting) (s : Shape) (Δ opened proof T : List ℕ) → Opened (alphabet_of g) s Δ opened proof T → elements_in (alphabet_of g) Δ ≡ true → TableNarrow (alphabet_of g) s T
opened-narrow g s Δ opened proof T is elements e c l h =
    rw (opened-lane g s Δ opened proof T is (element_lt (alphabet_of g) Δ elements) e c l (first_in g s c h)) ((alphabet_of g).K.byte_lt _)
