-- Request 8 in the small example, computed on the definitions, and the theorem applied to it.
-- Assumes nothing.
use mathlib.Core.Path.{◌≡◌, refl, sym, ap, ◌∙◌, subst}
use mathlib.Core.Bool.{true, false≢true}
use mathlib.Core.List.{List}
use Prim.Native.Nat.{ℕ, ◌≤◌}
use native.Mathlib.Omega.{arith}
use lib.Dec.{leb, lit<}
use lib.ListN.{length, get_or}
use Rattle.galois.specs.Degrees.{field_of}
use Rattle.protocol.specs.Lists.{all_below}
use Rattle.protocol.specs.Strings.{bytes}
use Rattle.protocol.specs.Binary.{bits16}
use Rattle.protocol.specs.Shape.{Shape}
use Rattle.protocol.specs.Prover.{proof_of}
use Rattle.protocol.specs.Counting.{opening}
use Rattle.protocol.specs.SmallExample.{four, sizes, key, witness, leaves, H', χ, Δ, proof, opened}
use Rattle.theorems.proofs.TestLaws.{all-at, leb_le}
use Rattle.protocol.proofs.Computing.{computing}
use Rattle.protocol.proofs.SmallExample.{small_bytes, small-proof, small_replies}
use Rattle.hiding.specs.View.{View}
use Rattle.hiding.specs.Hidden.{hidden_form, HiddenForm, hidden_of, tree_with, with_hidden}
use Rattle.hiding.specs.Hiding.{Solution, Challenge, Honest}
use Rattle.hiding.specs.SmallHiding.{other, Δ₀, hidden, hidden₀, own_hidden, OneIsOne, SmallHiding, SmallHiding₀, keeps, NoChoice, MaskValues, SmallView, SmallApplied}
use Rattle.hiding.proofs.Settings.{keeps-witness}

pub one_is_one : OneIsOne
one_is_one = record {
  one = ((5, refl), λ x y p q. p ∙ sym q);
  none = λ e. absurd (omega (arith, e.0.1));
  two = λ e. let z : ◌≡◌ {A = ℕ} 0 1 = e.1 0 1 (lit< tt) (lit< tt) in absurd (omega (arith, z));
}

pub small_hiding : SmallHiding
unfolding computing key leaves H' χ Δ proof opened hidden_form hidden_of tree_with with_hidden other hidden own_hidden
small_hiding = record {
  other-form = refl;
  other-solves = refl;
  hidden-form = refl;
  first_placed = refl;
  second_placed = refl;
  same-opened = refl;
  same-proof = refl;
  own_is = refl;
  own_back = refl;
}

pub small_hiding₀ : SmallHiding₀
unfolding computing key leaves H' χ proof hidden_form tree_with with_hidden other Δ₀ hidden₀
small_hiding₀ = record { hidden-form = refl; same-opened = refl; same-proof = refl }

pub mask_values : MaskValues
unfolding computing
mask_values = record { four-ones = refl; eight-ones = refl }

-- byte 11 of a proof is the first of d
own-differs : keeps Δ own_hidden → ⊥
unfolding computing key witness leaves H' χ Δ tree_with with_hidden other own_hidden
own-differs k = let z : ◌≡◌ {A = ℕ} 0xBC 0x30 = ap (λ (v : View). get_or v.proof 11 0) k.1 in absurd (omega (arith, z))

pub no_choice : NoChoice
unfolding computing key leaves H' χ Δ proof hidden_form tree_with with_hidden other hidden
no_choice = record {
  spare-form = refl;
  spare-proof = refl;
  entry-form = λ f. absurd (omega (arith, f.1 0 (lit< tt)));
  entry-proof = refl;
  own-none = own-differs;
  no_solution = λ s. false≢true s.solved;
}

pub small_view : SmallView
small_view = λ i. record { opened = (ap (λ s. opening bits16 s leaves Δ) small_bytes.header_is ∙ small_replies.opening_is) i; Δ = Δ; H' = H'; χ = χ; proof = small-proof i }

-- bytes, by computing
bytes-by : (s : List ℕ) → all_below (length s) (λ i. leb (get_or s i 0) 255) ≡ true → bytes s
bytes-by s h i l = let k : get_or s i 0 ≤ 255 = leb_le _ 255 (all-at (length s) (λ i. leb (get_or s i 0) 255) h i l) in omega arith

other-solution : Solution bits16 key other
unfolding computing key other
other-solution = record { form = refl; solved = refl }

honest-at : (D : List ℕ) → Challenge bits16 key D → Honest bits16 key leaves witness D
unfolding computing key leaves witness
honest-at D c = record { sizes = refl; exact = refl; spare = refl; solution = record { form = refl; solved = refl }; challenge = c }

challenge : Challenge bits16 key Δ
unfolding computing key Δ
challenge = record { exact = refl; elements = refl }

challenge₀ : Challenge bits16 key Δ₀
unfolding computing key Δ₀
challenge₀ = record { exact = refl; elements = refl }

hidden-bytes : bytes hidden
unfolding all_below hidden
hidden-bytes = bytes-by hidden refl

hidden₀-bytes : bytes hidden₀
unfolding all_below hidden₀
hidden₀-bytes = bytes-by hidden₀ refl

-- what is computed at the sizes is of the key's header
view_at : Shape → List ℕ → List ℕ → List ℕ → View
view_at s l x D = record { opened = opening bits16 s l D; Δ = D; H' = H'; χ = χ; proof = proof_of bits16 key l x H' χ }

at-header : (D h : List ℕ) → hidden_form bits16 sizes h ≡ true → bytes h → opening bits16 sizes (with_hidden bits16 sizes leaves D h) D ≡ opening bits16 sizes leaves D
    → proof_of bits16 key (with_hidden bits16 sizes leaves D h) other H' χ ≡ proof → keeps D h
unfolding view_at
at-header D h form b o p =
    subst (λ (s : Shape). HiddenForm bits16 s h × (view_at s (with_hidden bits16 s leaves D h) other D ≡ view_at s leaves witness D)) (sym small_bytes.header_is)
    ((form, b), λ i. record { opened = o i; Δ = D; H' = H'; χ = χ; proof = (p ∙ sym small-proof) i })

pub small_applied : SmallApplied
unfolding field_of
small_applied = record {
  honest = honest-at Δ challenge;
  honest₀ = honest-at Δ₀ challenge₀;
  keeps_view = here;
  keeps_view₀ = here₀;
  only = λ h k. ((keeps-witness four).over.hidden-leaves key leaves witness Δ H' χ other (honest-at Δ challenge) other-solution).1 h hidden k here;
  only₀ = λ h k. ((keeps-witness four).over.hidden-leaves key leaves witness Δ₀ H' χ other (honest-at Δ₀ challenge₀) other-solution).1 h hidden₀ k here₀;
}
  where
    here : keeps Δ hidden
    here = at-header Δ hidden small_hiding.hidden-form hidden-bytes (small_hiding.same-opened ∙ sym small_replies.opening_is) small_hiding.same-proof

    here₀ : keeps Δ₀ hidden₀
    here₀ = at-header Δ₀ hidden₀ small_hiding₀.hidden-form hidden₀-bytes small_hiding₀.same-opened small_hiding₀.same-proof
