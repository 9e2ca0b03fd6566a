-- The statements of specs/Statements, proved for every lawful alphabet and every setting.
-- Assumes nothing.
use mathlib.Core.Path.{◌≡◌, refl, sym, ap, ap₂, ◌∙◌, subst}
use mathlib.Core.Logic.{◌⊎◌, inl, inr, ◌↔◌}
use mathlib.Core.Bool.{Bool, true, false, ◌&&◌}
use mathlib.Core.List.{List, [], ◌∷◌, ◌++◌, map}
use Prim.Native.Nat.{ℕ, zero, suc, ◌^◌, ◌≤◌, ◌<◌}
use native.Mathlib.Decide.{dec_lt}
use native.Mathlib.Omega.{arith}
use lib.ListN.{length, get_or, drop, length-map}
use Rattle.galois.specs.Degrees.{field_of}
use Rattle.algebra.specs.Count.{count}
use Rattle.algebra.specs.Roots.{passing, Trivial}
use Rattle.algebra.proofs.CountLaws.{and_left, and_right, count_congr}
use Rattle.algebra.proofs.RootLaws.{factor_values, factor_iff}
use Rattle.algebra.proofs.StringLaws.{above}
use Rattle.algebra.proofs.ColumnLaws.{columns_fail, columns-all}
use Rattle.protocol.specs.Lists.{all_below, all_true}
use Rattle.protocol.specs.Frames.{frame}
use Rattle.protocol.specs.Alphabet.{Alphabet, sym as symbol, elements_in, IsSymbol, Lawful}
use Rattle.protocol.specs.Binary.{binary}
use Rattle.protocol.specs.Quaternary.{fours256}
use Rattle.protocol.specs.Setting.{Setting, alphabet_of}
use Rattle.protocol.specs.Shape.{Shape, shape_of, per_tree, w_of}
use Rattle.protocol.specs.Sections.{Sections, bytes_of, sections_in}
use Rattle.protocol.specs.Leaves.{opened_leaf}
use Rattle.protocol.specs.Forms.{y_of, error}
use Rattle.protocol.specs.Prover.{v, a₀, a₁, c_section, d_section, ũSection, ṼSection, qs0_section, qs1_section, sections_of, commit_bytes, hash_bytes, batch_bytes, proof_of}
use Rattle.protocol.specs.Verifier.{candidate, correction_at}
use Rattle.protocol.specs.Answers.{accepted, refused, is_accepted, Question, all_yes}
use Rattle.protocol.specs.Questions.{ΔExact, h_exact, χExact, solves, witness_form, proof_spare, proof_elements, leaves_exact, consistent_in, product_in, q5, q6, q14, q15, q17}
use Rattle.protocol.specs.Calls.{test_questions, commit_questions, batch_questions, prove_questions, verify_questions, honest_questions, well_formed_questions, key_questions, verify_puts, test_answer, commit_answer, batch_answer, prove_answer, verify_answer, honest_form, verify_form, well_formed}
use Rattle.protocol.specs.Counting.{opening, accepted_count, checks_at, factor, candidate_bytes}
use Rattle.protocol.specs.Coefficients.{conditions}
use Rattle.theorems.specs.Statements.{OpenedByPlace, OpenedForm, VoleIdentity, Expansion, ProverExpansion, HonestAccepted, HonestWellFormed, AcceptsExactly, FirstNamed, StepsAreWhole, ProofReadsBack, CandidateIsWitness, HonestChecks, Factors, HidingColumns, HoldsOver, EveryAlphabet, ForgeryCount, error_of}
use Rattle.theorems.proofs.TestLaws.{both_true, all-at, all_of, true-all, eqb_same, passes-all}
use Rattle.theorems.proofs.FrameLaws.{frame-append}
use Rattle.theorems.proofs.LeafLaws.{open_place}
use Rattle.theorems.proofs.VoleLaws.{vole}
use Rattle.theorems.proofs.FormLaws.{expand, quad_congr, lin_congr}
use Rattle.theorems.proofs.CoefficientLaws.{checks-passing}
use Rattle.theorems.proofs.AnswerLaws.{accepted-all, accepted_of, all_yes_lem, yes_all, ask-after, ask_first_no}
use Rattle.theorems.proofs.EachLaws.{without_by, names_first}
use Rattle.theorems.proofs.Published.{names_eleven}
use Rattle.theorems.proofs.CountingLaws.{Form, form_of, leaves-length, opened-exact, opened-spare, tree_is, splits, count-product}
use Rattle.theorems.proofs.LimitLaws.{bounds_of}
use Rattle.theorems.proofs.BinaryLaws.{binary-lawful}
use Rattle.theorems.proofs.QuaternaryLaws.{fours256-lawful}
use Rattle.theorems.proofs.ElementLaws.{honest-elements as proof-elements}
use Rattle.theorems.proofs.SymbolLaws.{sym_symbol, pack-sym, u_symbol}
use Rattle.theorems.proofs.HonestLaws.{passing-all, exact, sections-back, spare}

last_yes : (qs : List Question) (x : Question) → all_yes (qs ++ (x ∷ [])) ≡ true → x.yes? ≡ true
last_yes [] x h = and_left x.yes? true h
last_yes (y ∷ qs) x h = last_yes qs x (and_right y.yes? (all_yes (qs ++ (x ∷ []))) h)

module _ (A : Alphabet) where
  open A use {K}
  open K use {base, elem, byte}
  open base use {R, size, elements, four≤size}
  open R use {F, 𝟘, add as ◌⊕◌, mul as ◌⊗◌}

  infixl 65 ◌⊕◌
  infixl 70 ◌⊗◌
  below-tree : (δ : ℕ) → δ < size → δ < per_tree A
  unfolding per_tree
  below-tree δ h = h

  pub opened-by-place : OpenedByPlace A
  opened-by-place s leaves Δ k7 b e j le lj n =
      let b' : (i : ℕ) → i < s.τ → get_or Δ i 0 < per_tree A = λ i li. below-tree (get_or Δ i 0) (b i li) in
      ap (λ t. opened_leaf (w_of A s) (get_or Δ e 0) t j) (tree_is A s leaves k7 Δ b' e le)
      ∙ open_place (per_tree A) (w_of A s) s.τ leaves (leaves-length A s leaves k7) e (get_or Δ e 0) j le (b' e le) lj n

  pub opened-form : OpenedForm A
  opened-form s leaves Δ k7 k8 b =
      let b' : (e : ℕ) → e < s.τ → get_or Δ e 0 < per_tree A = λ e le. below-tree (get_or Δ e 0) (b e le) in
      (opened-exact A s leaves k7 Δ b', opened-spare A s leaves k7 Δ b' k8)

  pub vole_identity : VoleIdentity A
  vole_identity s leaves k7 p e δ c le ld = vole A s leaves (leaves-length A s leaves k7) p e δ c le (below-tree δ ld)

  pub expansion : Expansion A
  expansion s key i f g X = expand A s key i f g X

  pub prover_expansion : ProverExpansion A
  unfolding a₀ a₁
  prover_expansion s leaves key x e i X f h = rw h (expand A s key i (v A s leaves e) (symbol A x) X)

  pub steps_are_whole : StepsAreWhole A
  unfolding commit_bytes hash_bytes batch_bytes proof_of bytes_of
  steps_are_whole key leaves x H' χ =
      let s = shape_of key in
      let a : List (List ℕ) = c_section A s leaves ∷ d_section A s leaves x ∷ [] in
      let b : List (List ℕ) = ũSection A s leaves H' ∷ ṼSection A s leaves H' ∷ [] in
      let c : List (List ℕ) = qs0_section A s leaves key χ ∷ qs1_section A s leaves key x χ ∷ [] in
      ap (λ r. frame a ++ r) (frame-append b c) ∙ frame-append a (b ++ c)

  -- the factors, of leaves of exact length
  module _ (key leaves H' χ proof : List ℕ) (k7 : leaves_exact A (shape_of key) (per_tree A) leaves ≡ true) where
    pub factor_is : (e : ℕ) → e < (shape_of key).τ → factor A key leaves H' χ proof e ≡ count (passing base (conditions A (shape_of key) key leaves H' χ (sections_in A (shape_of key) proof) e)) elements
    unfolding factor
    factor_is e le = count_congr _ _ (checks-passing A (shape_of key) key leaves H' χ (sections_in A (shape_of key) proof) e (leaves-length A (shape_of key) leaves k7) le) elements

    pub factors_of : Factors A key leaves H' χ proof
    factors_of = record {
      four-cases = λ e l. rw (factor_is e l) (factor_values base (conditions A (shape_of key) key leaves H' χ (sections_in A (shape_of key) proof) e));
      full_exactly = full;
      full-error = λ e l k. ((full e l).0 k).c2-zero;
    }
      where
        full : (e : ℕ) → e < (shape_of key).τ → (factor A key leaves H' χ proof e ≡ size) ↔ Trivial base (conditions A (shape_of key) key leaves H' χ (sections_in A (shape_of key) proof) e)
        full e l = rw (factor_is e l) (factor_iff base (conditions A (shape_of key) key leaves H' χ (sections_in A (shape_of key) proof) e))

  pub hiding_columns : (key leaves proof : List ℕ) → HidingColumns A key leaves proof
  hiding_columns key leaves proof = record {
    failing = λ e i l n. columns_fail base (shape_of key).m (error_of A key leaves proof e) i l n;
    solving = λ e h. columns-all base (shape_of key).m (error_of A key leaves proof e) h;
  }

  module _ (laws : Lawful A) where
    pub proof_reads_back : ProofReadsBack A
    unfolding proof_of
    proof_reads_back key leaves x H' χ h =
        (exact A laws (shape_of key) leaves key x H' χ (bounds_of (shape_of key) h), sections-back A laws (shape_of key) leaves key x H' χ)

    correction_symbol : (s : Shape) (p : Sections) (e c : ℕ) → IsSymbol A (correction_at A s p e c)
    unfolding correction_at
    correction_symbol s p zero c = laws.zero_symbol
    correction_symbol s p (suc e) c = sym_symbol A laws _ c

    candidate_symbol : (s : Shape) (leaves : List ℕ) (p : Sections) (e c : ℕ) → IsSymbol A (candidate A s leaves p e c)
    unfolding candidate
    candidate_symbol s leaves p e c = laws.add_symbol _ _ (laws.add_symbol _ _ (u_symbol A laws s leaves e c) (correction_symbol s p e c)) (sym_symbol A laws p.d c)

    pub candidate_is_witness : (key leaves proof : List ℕ) → CandidateIsWitness A key leaves proof
    unfolding witness_form error
    candidate_is_witness key leaves proof e =
        let s = shape_of key in
        let p = sections_in A s proof in
        let x = candidate A s leaves p e in
        let y = symbol A (candidate_bytes A key leaves proof e) in
        let same : (c : ℕ) → c < s.n → y c ≡ x c = pack-sym A laws s.n x (candidate_symbol s leaves p e) in (
          both_true _ _ (eqb_same _ _ (laws.pack-length s.n _)) (laws.pack-spare s.n _ (λ c. laws.symbol_lt (x c))),
          λ i. ap (λ z. z ⊕ y_of A s key i) (ap₂ ◌⊕◌ (quad_congr A s key i y x y x same same) (lin_congr A s key i y x same)),
        )

    pub honest-checks : HonestChecks A
    unfolding proof_of
    honest-checks key leaves x H' χ k7 solved e l y =
        let s = shape_of key in
        ap (λ p. checks_at A key leaves H' χ s p e (byte y)) (sections-back A laws s leaves key x H' χ)
        ∙ checks-passing A s key leaves H' χ (sections_of A s leaves key x H' χ) e (leaves-length A s leaves k7) l y
        ∙ passing-all A laws s leaves key x H' χ e l solved y

    holds-over : HoldsOver A
    holds-over = record {
      opened-by-place = opened-by-place;
      opened-form = opened-form;
      vole_identity = vole_identity;
      expansion = expansion;
      prover_expansion = prover_expansion;
      steps_are_whole = steps_are_whole;
      proof_reads_back = proof_reads_back;
      candidate_is_witness = candidate_is_witness;
      hiding_columns = hiding_columns;
      honest-checks = honest-checks;
      factors = factors_of;
    }

pub every_alphabet : EveryAlphabet
every_alphabet = record { lawful = holds-over; bits = λ K. holds-over (binary K) (binary-lawful K); fours = holds-over fours256 fours256-lawful }

-- of the calls
module _ (g : Setting) where
  abbrev A : Alphabet
  A = alphabet_of g

  laws : Lawful (alphabet_of g)
  laws = binary-lawful (field_of g.degree)

  open A use {K}
  open K use {base, elem, byte}
  open base use {R, size, elements}
  open R use {F, 𝟘}

  pub accepts_exactly : AcceptsExactly g
  unfolding verify_answer verify_form
  accepts_exactly key Δ H' χ opened proof h = (to, from)
    where
      s : Shape
      s = shape_of key

      C : ℕ → Bool
      C = consistent_in A (shape_of key) Δ H' opened proof

      Q : ℕ → Bool
      Q = product_in A (shape_of key) key Δ χ opened proof

      split : is_accepted (verify_answer g key Δ H' χ opened proof) ≡ (all_below (shape_of key).τ C && (all_below (shape_of key).τ Q && true))
      split =
          ap is_accepted (ask-after (verify_questions g key Δ H' χ opened proof) (q14 A (shape_of key) Δ H' opened proof ∷ q15 A (shape_of key) key Δ χ opened proof ∷ []) h)
          ∙ accepted-all (q14 A (shape_of key) Δ H' opened proof ∷ q15 A (shape_of key) key Δ χ opened proof ∷ [])

      to : verify_answer g key Δ H' χ opened proof ≡ accepted → (e : ℕ) → e < (shape_of key).τ → (C e ≡ true) × (Q e ≡ true)
      to a e l =
          let t : (all_below (shape_of key).τ C && (all_below (shape_of key).τ Q && true)) ≡ true = sym split ∙ ap is_accepted a in
          let r = and_right (all_below (shape_of key).τ C) (all_below (shape_of key).τ Q && true) t in
          (all-at (shape_of key).τ C (and_left (all_below (shape_of key).τ C) _ t) e l, all-at (shape_of key).τ Q (and_left (all_below (shape_of key).τ Q) true r) e l)

      from : ((e : ℕ) → e < (shape_of key).τ → (C e ≡ true) × (Q e ≡ true)) → verify_answer g key Δ H' χ opened proof ≡ accepted
      from f =
          accepted_of _ (split ∙ both_true _ _ (all_of (shape_of key).τ C (λ e l. (f e l).0)) (both_true _ true (all_of (shape_of key).τ Q (λ e l. (f e l).1)) refl))

  pub first-named : FirstNamed g
  unfolding test_answer commit_answer batch_answer prove_answer verify_answer solves
  first-named = record {
    test-eleven = λ key x. names_eleven A key x (test_questions g key x) refl;
    commit-eleven = λ key leaves x out. names_eleven A key x (commit_questions g key leaves x out) refl;
    batch-eleven = λ key leaves x χ out. names_eleven A key x (batch_questions g key leaves x χ out) refl;
    prove-eleven = λ key leaves x H' χ out. names_eleven A key x (prove_questions g key leaves x H' χ out) refl;
    fourteen = λ key Δ H' χ opened proof e h.
        let s = shape_of key in
        let before = verify_questions g key Δ H' χ opened proof in
        (names_first 14 s.τ (consistent_in A s Δ H' opened proof) before (q15 A s key Δ χ opened proof ∷ []) (without_by 14 before refl) (omega arith, tt) e h).1;
    fifteen = λ key Δ H' χ opened proof e h.
        let s = shape_of key in
        let before = verify_questions g key Δ H' χ opened proof ++ (q14 A s Δ H' opened proof ∷ []) in
        let t = names_first 15 s.τ (product_in A s key Δ χ opened proof) before [] (without_by 15 before refl) tt e h in
        (t.1, all-at s.τ (consistent_in A s Δ H' opened proof) (last_yes (verify_questions g key Δ H' χ opened proof) (q14 A s Δ H' opened proof) t.0));
  }

  pub forgery_count : (key leaves H' χ proof : List ℕ) → well_formed g key leaves H' χ proof ≡ true → ForgeryCount g key leaves H' χ proof
  forgery_count key leaves H' χ proof h = record {
    factors = factors_of A key leaves H' χ proof form.k7;
    count_is_product = count-product g key leaves H' χ proof form;
    large-count = large;
  }
    where
      form : Form g (shape_of key) key leaves H' χ proof
      form = form_of g key leaves H' χ proof h

      f : ℕ → ℕ
      f = factor A key leaves H' χ proof

      large : 2 ^ (shape_of key).τ < accepted_count g key leaves H' χ proof → (e : ℕ) × (e < (shape_of key).τ) × (f e ≡ size)
      large k = finish (above (shape_of key).τ f (λ e. e < (shape_of key).τ → f e ≡ size) cases (rw (count-product g key leaves H' χ proof form) at k))
        where
          pick : (e : ℕ) → (f e ≡ 0) ⊎ ((f e ≡ 1) ⊎ ((f e ≡ 2) ⊎ (f e ≡ size))) → (e < (shape_of key).τ → f e ≡ size) ⊎ (f e ≤ 2)
          pick e (inl z) = inr (omega arith)
          pick e (inr (inl z)) = inr (omega arith)
          pick e (inr (inr (inl z))) = inr (omega arith)
          pick e (inr (inr (inr z))) = inl (λ l. z)

          by : (e : ℕ) → Dec (e < (shape_of key).τ) → (e < (shape_of key).τ → f e ≡ size) ⊎ (f e ≤ 2)
          by e (yes l) = pick e ((factors_of A key leaves H' χ proof form.k7).four-cases e l)
          by e (no n) = inl (λ l. absurd (n l))

          cases : (e : ℕ) → (e < (shape_of key).τ → f e ≡ size) ⊎ (f e ≤ 2)
          cases e = by e (dec_lt e (shape_of key).τ)

          finish : (e : ℕ) × (e < (shape_of key).τ) × (e < (shape_of key).τ → f e ≡ size) → (e : ℕ) × (e < (shape_of key).τ) × (f e ≡ size)
          finish (e, l, g) = (e, l, g l)

  -- a Δ that is not all elements is refused 17: what comes before gets a yes
  pub other-bytes : (key leaves H' χ proof : List ℕ) → well_formed g key leaves H' χ proof ≡ true → (Δ opened : List ℕ) → length Δ ≡ (shape_of key).τ → elements_in A Δ ≡ false
      → verify_answer g key Δ H' χ opened proof ≡ refused 17 0
  unfolding verify_answer ΔExact
  other-bytes key leaves H' χ proof h Δ opened n b =
      let s = shape_of key in
      let f = form_of g key leaves H' χ proof h in
      let five = true-all (ΔExact A s Δ ∷ h_exact A s H' ∷ χExact A s χ ∷ []) (eqb_same _ _ n, (f.k5_h, (f.k5χ, tt))) in
      ask_first_no (key_questions g key ++ (q5 A s (ΔExact A s Δ ∷ h_exact A s H' ∷ χExact A s χ ∷ []) ∷ q6 A s H' ∷ []))
      (q17 A s (elements_in A Δ ∷ elements_in A χ ∷ [])) (drop 8 (verify_puts g key Δ H' χ opened proof))
      (yes_all (key_questions g key ++ (q5 A s (ΔExact A s Δ ∷ h_exact A s H' ∷ χExact A s χ ∷ []) ∷ q6 A s H' ∷ []))
      (f.k16, (f.k1, (f.k2, (f.k3, (f.k4, (five, (f.k6, tt))))))))
      (ap (λ z. all_true (z ∷ elements_in A χ ∷ [])) b)

  pub honest_well_formed : HonestWellFormed g
  unfolding honest_form well_formed proof_of
  honest_well_formed key leaves x H' χ h =
      let s = shape_of key in
      let P = sections_of A s leaves key x H' χ in
      let t = all_yes_lem (honest_questions g key leaves x H' χ) h in
      let r = t.1.1.1.1.1.1 in
      let back = sections-back A laws s leaves key x H' χ in
      yes_all (well_formed_questions g key leaves H' χ (bytes_of P))
      (t.0, (t.1.0, (t.1.1.0, (t.1.1.1.0, (t.1.1.1.1.0, (t.1.1.1.1.1.0, (r.0, (r.1.0, (r.1.1.0, (r.1.1.1.0, (exact A laws s leaves key x H' χ (bounds_of s t.1.1.0), (ap (proof_spare A s) back ∙ spare A laws s leaves key x H' χ, (ap (proof_elements A s) back ∙ proof-elements A s leaves key x H' χ, tt)))))))))))))

  -- over elements; then a string of bytes is one of elements
  honest-elements : (key leaves x H' χ : List ℕ) → honest_form g key leaves x H' χ ≡ true → ((i : ℕ) → i < (shape_of key).m → error A (shape_of key) key i (symbol A x) ≡ 𝟘)
      → (Δ : List F) → length Δ ≡ (shape_of key).τ → verify_answer g key (map byte Δ) H' χ (opening A (shape_of key) leaves (map byte Δ)) (proof_of A key leaves x H' χ) ≡ accepted
  unfolding proof_of
  honest-elements key leaves x H' χ h solved Δ n =
      let s = shape_of key in
      let P = sections_of A s leaves key x H' χ in
      let form = form_of g key leaves H' χ (bytes_of P) (honest_well_formed key leaves x H' χ h) in
      accepted_of _
      (splits g key leaves H' χ (bytes_of P) form Δ n ∙ passes-all (λ e y. checks_at A key leaves H' χ s (sections_in A s (bytes_of P)) e (byte y)) Δ 𝟘
      ∙ all_of (length Δ) _ (λ e l. honest-checks A laws key leaves x H' χ form.k7 solved e (omega (arith, l, n)) (get_or Δ e 𝟘)))

  bytes_back : (Δ : List ℕ) → ((e : ℕ) → e < length Δ → get_or Δ e 0 < size) → map byte (map elem Δ) ≡ Δ
  bytes_back [] h = refl
  bytes_back (x ∷ Δ) h = ap₂ ◌∷◌ (K.byte-elem x (h 0 (omega arith))) (bytes_back Δ (λ e l. h (suc e) (omega arith)))

  pub honest-accepted : HonestAccepted g
  honest-accepted key leaves x H' χ Δ h solved n b =
      subst (λ D. verify_answer g key D H' χ (opening A (shape_of key) leaves D) (proof_of A key leaves x H' χ) ≡ accepted) (bytes_back Δ b)
      (honest-elements key leaves x H' χ h solved (map elem Δ) (length-map Δ elem ∙ n))
