-- The answer to a question that is asked of every index below a bound, from the first that fails it.
-- Assumes nothing.
use mathlib.Core.Path.{◌≡◌, ap, ◌∙◌}
use mathlib.Core.Bool.{Bool}
use mathlib.Core.List.{[], ◌∷◌}
use Prim.Native.Nat.{ℕ}
use native.Mathlib.Omega.{arith}
use lib.Dec.{leb}
use Rattle.protocol.specs.Lists.{all_below, first_not}
use Rattle.protocol.specs.Answers.{Answer, question, ask}
use Rattle.theorems.proofs.TestLaws.{leb_yes, leb_le, bool_iff, all-at}
use Rattle.format.proofs.FirstLaws.{first-none, first-all}

-- the first that fails is past the end where all hold
first_past : (n : ℕ) (p : ℕ → Bool) → leb n (first_not n p) ≡ all_below n p
first_past n p = bool_iff _ _ (λ h. first-all n p (leb_le _ _ h)) (λ h. leb_yes n (first_not n p) (omega (arith, first-none n p (all-at n p h))))

pub asked_of_each : (n : ℕ) (p : ℕ → Bool) (i first : ℕ) {r : Answer} → first ≡ first_not n p → r ≡ ask (question (leb n first) i first ∷ [])
    → r ≡ ask (question (all_below n p) i (first_not n p) ∷ [])
asked_of_each n p i first e h = h ∙ ap (λ (k : ℕ). ask (question (leb n k) i k ∷ [])) e ∙ ap (λ (b : Bool). ask (question b i (first_not n p) ∷ [])) (first_past n p)
