-- The first index that fails a test, from what a loop knows that looks for it; two tests that agree below the bound; and
-- whether any index fails.
-- Assumes nothing.
use mathlib.Core.Path.{◌≡◌, refl, sym, ap, ap₂, ◌∙◌}
use mathlib.Core.Bool.{Bool, true, false}
use Prim.Native.Nat.{ℕ, zero, suc, ◌≤◌, ◌<◌}
use native.Mathlib.Omega.{arith}
use Rattle.std.specs.Prelude.{Option, Some, None, IfSome}
use Rattle.protocol.specs.Lists.{all_below, first_not}
use Rattle.theorems.proofs.TestLaws.{all_of, all-at, first-at, first-before}
use Rattle.format.specs.First.{FirstOf}

pub first-none : (n : ℕ) (p : ℕ → Bool) → ((k : ℕ) → k < n → p k ≡ true) → first_not n p ≡ n
unfolding first_not
first-none zero p all = refl
first-none (suc n) p all = rw (all 0 (omega arith), first_not) (ap suc (first-none n (λ k. p (suc k)) (λ k h. all (suc k) (omega arith))))

pub first_congr : (n : ℕ) (p r : ℕ → Bool) → ((k : ℕ) → k < n → p k ≡ r k) → first_not n p ≡ first_not n r
unfolding first_not
first_congr zero p r same = refl
first_congr (suc n) p r same =
    ap₂ (λ (b : Bool) (k : ℕ). elim b as (λ x. ℕ) [ true ↦ suc k | false ↦ 0 ]) (same 0 (omega arith)) (first_congr n (λ k. p (suc k)) (λ k. r (suc k)) (λ k h. same (suc k) (omega arith)))

pub first-all : (n : ℕ) (p : ℕ → Bool) → n ≤ first_not n p → all_below n p ≡ true
first-all n p h = all_of n p (λ i l. first-before n p i (omega (arith, h, l)))

pub first_found : (n : ℕ) (p : ℕ → Bool) (i : ℕ) → i < n → ((k : ℕ) → k < i → p k ≡ true) → p i ≡ false → FirstOf n p (Some i)
first_found n p i h before fails = (h, sym (first-at n p i h before fails))

pub none_found : (n : ℕ) (p : ℕ → Bool) → ((k : ℕ) → k < n → p k ≡ true) → FirstOf n p None
none_found n p all = sym (first-none n p all)

pub first_same : (n m : ℕ) (p r : ℕ → Bool) (first : Option ℕ) → n ≡ m → ((k : ℕ) → k < m → p k ≡ r k) → FirstOf n p first → FirstOf m r first
first_same n m p r (Some i) e same (h, is) = (omega (arith, e, h), is ∙ ap (λ n. first_not n p) e ∙ first_congr m p r same)
first_same n m p r None e same is = sym e ∙ is ∙ ap (λ n. first_not n p) e ∙ first_congr m p r same

-- where one is found not all pass, and else all do
pub some_fails : (n : ℕ) (p : ℕ → Bool) (i : ℕ) → FirstOf n p (Some i) → all_below n p ≡ false
some_fails n p i (h, is) = go (all_below n p) refl
  where
    go : (b : Bool) → all_below n p ≡ b → all_below n p ≡ false
    go true e = absurd (omega (arith, h, is, first-none n p (all-at n p e)))
    go false e = e

pub none_fails : (n : ℕ) (p : ℕ → Bool) → FirstOf n p None → all_below n p ≡ true
none_fails n p is = first-all n p (omega (arith, is))

pub first_small : (n : ℕ) (p : ℕ → Bool) (first : Option ℕ) → n ≤ 65536 → FirstOf n p first → IfSome first (λ i. i < 65536)
first_small n p (Some i) h (l, is) = omega (arith, h, l)
first_small n p None h is = tt
