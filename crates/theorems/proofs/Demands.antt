-- Demands 2 and 3, sentence by sentence. The client's words stand above each type in specs/Demands.
-- Assumes nothing.
use mathlib.Core.Path.{◌≡◌, refl, sym, ap, ap₂, ◌∙◌}
use mathlib.Core.Logic.{◌⊎◌, inl, inr}
use mathlib.Core.Bool.{Bool, true, false, ◌&&◌, ◌||◌, false≢true}
use mathlib.Core.List.{List, [], ◌∷◌, map}
use Prim.Native.Nat.{ℕ, suc, ◌<◌}
use native.Mathlib.Omega.{arith}
use lib.Dec.{eqb}
use lib.ListN.{length, get_or, length-map}
use Rattle.galois.specs.Degrees.{field_of}
use Rattle.algebra.specs.Coded.{Coded}
use Rattle.algebra.specs.Count.{count, same}
use Rattle.algebra.specs.Roots.{is_zero}
use Rattle.algebra.specs.Columns.{column_sum}
use Rattle.algebra.specs.Strings.{strings}
use Rattle.algebra.proofs.FieldLaws.{eqb-true}
use Rattle.algebra.proofs.SumLaws.{sum_congr}
use Rattle.algebra.proofs.CountLaws.{words_congr}
use Rattle.algebra.proofs.StringLaws.{strings-length, strings_once}
use Rattle.protocol.specs.Lists.{table}
use Rattle.protocol.specs.Alphabet.{Alphabet, sym as symbol, elements_in, Lawful}
use Rattle.protocol.specs.Setting.{Setting, setting, served, alphabet_of}
use Rattle.protocol.specs.Shape.{Shape, shape_of}
use Rattle.protocol.specs.Sections.{Sections, sections_in}
use Rattle.protocol.specs.Forms.{error, χAt, batch}
use Rattle.protocol.specs.Verifier.{candidate, batched_error}
use Rattle.protocol.specs.Questions.{solves}
use Rattle.theorems.specs.Demands.{SizesAre, StepBytes, RefusedExactlyWhen, AcceptsExactlyWhen, HonestProofAccepted, Demand3}
use Rattle.theorems.proofs.TestLaws.{bool_iff, eqb_eq, eqb_same, all-at}
use Rattle.theorems.proofs.ListLaws.{table_at}
use Rattle.theorems.proofs.StringLaws.{pack-bytes}
use Rattle.theorems.proofs.ElementLaws.{element_lt, elements-bytes}
use Rattle.theorems.proofs.BinaryLaws.{binary-lawful}
use Rattle.theorems.proofs.Published.{refuses_exactly_when}
use Rattle.theorems.proofs.Theorems.{steps_are_whole, accepts_exactly, honest-accepted, forgery_count, other-bytes, hiding_columns, candidate_is_witness}

-- a batched sum is the sum of its column
module _ (A : Alphabet) (s : Shape) (key χ leaves : List ℕ) (p : Sections) (e : ℕ) where
  open A use {K}
  open K use {base}
  open base use {R}
  open R use {F, 𝟘, mul as ◌⊗◌}

  infixl 70 ◌⊗◌
  abbrev errors : ℕ → F
  errors i = error A s key i (candidate A s leaves p e)

  column_is : batched_error A s key χ leaves p e ≡ column_sum base s.m (table s.m (χAt A s χ e)) errors
  unfolding batched_error batch column_sum
  column_is = sum_congr R s.m _ _ (λ i l. ap (λ z. z ⊗ errors i) (sym (table_at s.m (χAt A s χ e) 𝟘 i l)))

-- each string of numbers below the size is the numbers of exactly one string of elements
module _ (K : Coded) where
  open K use {base, elem, byte}
  open base use {R, size, eqb as same?, elements}
  open R use {F}

  letter : (a : F) (d : ℕ) → d < size → eqb (byte a) d ≡ same? (elem d) a
  letter a d l =
      bool_iff _ _ (λ h. eqb-true base (elem d) a (ap elem (sym (eqb_eq (byte a) d h)) ∙ K.elem-byte a))
      (λ h. eqb_same (byte a) d (ap byte (sym (base.eqb_sound (elem d) a h)) ∙ K.byte-elem d l))

  letters : (z : List F) (Δ : List ℕ) → ((e : ℕ) → e < length Δ → get_or Δ e 0 < size) → same eqb (map byte z) Δ ≡ same same? (map elem Δ) z
  letters [] [] b = refl
  letters [] (d ∷ Δ) b = refl
  letters (a ∷ z) [] b = refl
  letters (a ∷ z) (d ∷ Δ) b = ap₂ ◌&&◌ (letter a d (b 0 (omega arith))) (letters z Δ (λ e l. b (suc e) (omega arith)))

  numbers_once : (τ : ℕ) (Δ : List ℕ) → length Δ ≡ τ → ((e : ℕ) → e < length Δ → get_or Δ e 0 < size) → count (λ z. same eqb (map byte z) Δ) (strings base τ) ≡ 1
  numbers_once τ Δ n b =
      words_congr elements τ _ (same same? (map elem Δ)) (λ z l. letters z Δ b) ∙ strings_once base τ (map elem Δ) (length-map Δ elem ∙ n)

pub sizes_are : SizesAre
unfolding field_of served
sizes_are = record {
  eight = (refl, refl);
  four = (refl, refl);
  no_other = λ g h. go g (eqb g.degree 8) (eqb g.degree 4) refl refl h;
  every_byte = λ s b. elements-bytes (alphabet_of (setting 8)) refl s b;
  above_15 = λ s i h. past s (elements_in (alphabet_of (setting 4)) s) refl i h;
}
  where
    past : (s : List ℕ) (b : Bool) → elements_in (alphabet_of (setting 4)) s ≡ b → (i : ℕ) → 15 < get_or s i 0 → b ≡ false
    past s true e i h = absurd (omega (arith, h, element_lt (alphabet_of (setting 4)) s e i))
    past s false e i h = refl

    go : (g : Setting) (b c : Bool) → eqb g.degree 8 ≡ b → eqb g.degree 4 ≡ c → (b || c) ≡ true → (g ≡ setting 8) ⊎ (g ≡ setting 4)
    go g true c e k h = inl (ap setting (eqb_eq g.degree 8 e))
    go g false true e k h = inr (ap setting (eqb_eq g.degree 4 k))
    go g false false e k h = absurd (false≢true h)

module _ (g : Setting) where
  abbrev A : Alphabet
  A = alphabet_of g

  laws : Lawful (alphabet_of g)
  laws = binary-lawful (field_of g.degree)

  pub step-bytes : StepBytes g
  step-bytes = steps_are_whole A

  pub refused_exactly_when : RefusedExactlyWhen g
  refused_exactly_when = (refuses_exactly_when g).prove_refuses

  pub accepts_exactly_when : AcceptsExactlyWhen g
  accepts_exactly_when = accepts_exactly g

  solved : (key x : List ℕ) → solves A (shape_of key) key x ≡ true → (i : ℕ) → i < (shape_of key).m → error A (shape_of key) key i (symbol A x) ≡ A.K.base.R.𝟘
  unfolding solves
  solved key x h i l = A.K.base.eqb_sound _ _ (all-at (shape_of key).m (λ i. is_zero A.K.base (error A (shape_of key) key i (symbol A x))) h i l)

  pub honest-proof-accepted : HonestProofAccepted g
  honest-proof-accepted key leaves x H' χ Δ f h n b = honest-accepted g key leaves x H' χ Δ f (solved key x h) n (λ e l. element_lt A Δ b e)

  module _ (key leaves H' χ proof : List ℕ) where
    pub demand_3 : Demand3 g key leaves H' χ proof
    demand_3 = record {
      count_equals_product = λ h. (forgery_count g key leaves H' χ proof h).count_is_product;
      each-factor = λ h. (forgery_count g key leaves H' χ proof h).factors.four-cases;
      large_count_needs_full = λ h. (forgery_count g key leaves H' χ proof h).large-count;
      full-spells-candidate = λ h. (forgery_count g key leaves H' χ proof h).factors.full-error;
      other-bytes-refused = λ h Δ opened n b. other-bytes g key leaves H' χ proof h Δ opened n b;
      every_challenge_once = λ Δ n b. numbers_once A.K (shape_of key).τ Δ n (λ e l. element_lt A Δ b e);
      challenges_in_all = strings-length A.K.base (shape_of key).τ;
      candidate_is_witness = (candidate_is_witness A laws key leaves proof, λ e. pack-bytes (shape_of key).n _ (λ c. laws.symbol_lt _));
      that_sum = λ e. column_is A (shape_of key) key χ leaves (sections_in A (shape_of key) proof) e;
      columns_if_failing = (hiding_columns A key leaves proof).failing;
      columns_if_solving = (hiding_columns A key leaves proof).solving;
      every_column_once = λ s n b. numbers_once A.K (shape_of key).m s n (λ e l. element_lt A s b e);
      columns_in_all = strings-length A.K.base (shape_of key).m;
    }
