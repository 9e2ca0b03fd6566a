-- A key with no equations: sums over equations are empty.
-- Assumes nothing.
use mathlib.Core.Path.{◌≡◌, refl, ap, ◌∙◌}
use mathlib.Core.Bool.{Bool, true, false, ◌&&◌}
use mathlib.Core.List.{List, [], ◌∷◌}
use Prim.Native.Nat.{ℕ, ◌+◌, ◌*◌, ◌^◌}
use native.Mathlib.Nat.{pow-zero, mul-zero, zero-mul}
use native.Mathlib.Omega.{arith}
use lib.ListN.{length}
use Rattle.galois.specs.Degrees.{field_of}
use Rattle.algebra.specs.Field.{Field}
use Rattle.algebra.specs.Sum.{sum}
use Rattle.algebra.specs.Count.{count}
use Rattle.algebra.specs.Roots.{Conditions, ZeroOneAll, is_zero, quad_at, lines_ok, passing}
use Rattle.algebra.specs.Columns.{column_sum}
use Rattle.algebra.proofs.RingLaws.{ring, zero-add}
use Rattle.algebra.proofs.CountLaws.{count_congr}
use Rattle.algebra.proofs.RootLaws.{lines_values}
use Rattle.algebra.proofs.ColumnLaws.{columns-all}
use Rattle.protocol.specs.Frames.{framed_length}
use Rattle.protocol.specs.Alphabet.{Alphabet, Lawful}
use Rattle.protocol.specs.Setting.{Setting, alphabet_of}
use Rattle.protocol.specs.Shape.{Shape, shape_of}
use Rattle.protocol.specs.Key.{key_lengths}
use Rattle.protocol.specs.Forms.{mask_of, χAt, batch}
use Rattle.protocol.specs.Prover.{u, v, qs0, qs1}
use Rattle.protocol.specs.Sections.{sections_in}
use Rattle.protocol.specs.Verifier.{batched_error}
use Rattle.protocol.specs.Questions.{χExact, solves}
use Rattle.protocol.specs.Coefficients.{conditions}
use Rattle.theorems.specs.NoEquations.{NoEquations, NoElevens, NoSquares, PracticeKeys}
use Rattle.theorems.proofs.TestLaws.{all_of, eqb_eq}
use Rattle.theorems.proofs.BinaryLaws.{binary-lawful}
use Rattle.theorems.proofs.CountingLaws.{form_of}
use Rattle.theorems.proofs.Theorems.{first-named, factor_is}

-- conditions without a square are lines
module _ (K : Field) where
  open K use {R, size, elements}
  open R use {F, 𝟘, add as ◌⊕◌, mul as ◌⊗◌}

  infixl 65 ◌⊕◌
  infixl 70 ◌⊗◌
  no_square : (c0 c1 x : F) → c0 ⊕ c1 ⊗ x ⊕ 𝟘 ⊗ (x ⊗ x) ≡ c0 ⊕ x ⊗ c1
  no_square c0 c1 x = simp ring

  and-swap : (a b : Bool) → (a && b) ≡ (b && a)
  and-swap true true = refl
  and-swap true false = refl
  and-swap false true = refl
  and-swap false false = refl

  one_more : (c : Conditions K) → c.c2 ≡ 𝟘 → (x : F) → passing K c x ≡ lines_ok K (record { a = c.c0; b = c.c1 } ∷ c.lines) x
  one_more c h x =
      and-swap (lines_ok K c.lines x) (is_zero K (quad_at K c.c0 c.c1 c.c2 x))
      ∙ ap (λ z. is_zero K z && lines_ok K c.lines x) (ap (λ d. c.c0 ⊕ c.c1 ⊗ x ⊕ d ⊗ (x ⊗ x)) h ∙ no_square c.c0 c.c1 x)

  pub lines-alone : (c : Conditions K) → c.c2 ≡ 𝟘 → ZeroOneAll size (count (passing K c) elements)
  lines-alone c h = rw (count_congr _ _ (one_more c h) elements) (lines_values K (record { a = c.c0; b = c.c1 } ∷ c.lines))

no_entries : {X : Type 0} (s : List X) → length s ≡ 0 → s ≡ []
no_entries [] h = refl
no_entries (x ∷ s) h = absurd (omega (arith, h))

module _ (A : Alphabet) (s : Shape) (none : s.m ≡ 0) where
  open A use {K, width}
  open K use {base}
  open base use {R, size}
  open R use {F, 𝟘, add as ◌⊕◌, mul as ◌⊗◌}

  infixl 65 ◌⊕◌
  infixl 70 ◌⊗◌
  pub batch-none : (χ : List ℕ) (e : ℕ) (f : ℕ → F) → batch A s χ e f ≡ 𝟘
  unfolding batch
  batch-none χ e f = ap (λ m. sum R m (λ i. χAt A s χ e i ⊗ f i)) none

  pub no_equations : Lawful A → NoEquations A s
  unfolding solves qs0 qs1 column_sum key_lengths framed_length χExact
  no_equations laws =
      let w : width 0 ≡ 0 = omega (arith, laws.width_le 0) in
      let p : 0 * s.n * width s.n ≡ 0 = ap (λ k. k * width s.n) (zero-mul s.n) ∙ zero-mul (width s.n) in
      let ls : key_lengths A s ≡ 0 ∷ 0 ∷ 0 ∷ [] = rw (none, w) (λ i. p i ∷ zero-mul (width s.n) i ∷ 0 ∷ []) in
      record {
        sections-empty = ls;
        key-length = ap (λ l. 8 + framed_length l) ls;
        χ_empty = λ χ h. no_entries χ (eqb_eq _ _ h ∙ ap (λ m. s.τ * m) none ∙ mul-zero s.τ);
        any-solves = λ key x. all_of s.m _ (λ i l. absurd (omega (arith, none)));
        QS0-mask = λ key leaves χ e. ap (λ z. z ⊕ mask_of A s e (v A s leaves e)) (batch-none χ e _) ∙ zero-add R _;
        QS1-mask = λ key leaves x χ e. ap (λ z. z ⊕ mask_of A s e (u A s leaves 0)) (batch-none χ e _) ∙ zero-add R _;
        one-column = λ f. columns-all base s.m f (λ i l. absurd (omega (arith, none))) ∙ ap (λ m. size ^ m) none ∙ pow-zero size;
        its_sum = λ f. ap (λ m. column_sum base m [] f) none;
      }

module _ (g : Setting) (key : List ℕ) (none : (shape_of key).m ≡ 0) where
  pub no_elevens : NoElevens g key
  no_elevens = record {
    test = λ x i h. absurd (omega (arith, none, ((first-named g).test-eleven key x i h).0.0));
    commit = λ leaves x out i h. absurd (omega (arith, none, ((first-named g).commit-eleven key leaves x out i h).0.0));
    batch = λ leaves x χ out i h. absurd (omega (arith, none, ((first-named g).batch-eleven key leaves x χ out i h).0.0));
    prove = λ leaves x H' χ out i h. absurd (omega (arith, none, ((first-named g).prove-eleven key leaves x H' χ out i h).0.0));
  }

  pub no_squares : NoSquares g key
  unfolding batched_error
  no_squares leaves H' χ proof h e l =
      let A = alphabet_of g in
      let c = conditions A (shape_of key) key leaves H' χ (sections_in A (shape_of key) proof) e in
      rw (factor_is A key leaves H' χ proof (form_of g key leaves H' χ proof h).k7 e l) (lines-alone A.K.base c (batch-none A (shape_of key) none χ e _))

pub practice_keys : (g : Setting) → PracticeKeys g
practice_keys g key none =
    (no_equations (alphabet_of g) (shape_of key) none (binary-lawful (field_of g.degree)), no_elevens g key none, no_squares g key none)
