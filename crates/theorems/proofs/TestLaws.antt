-- Laws of tests: on numbers, of conjunctions, and at every index below a bound.
-- Assumes nothing.
use mathlib.Core.Path.{◌≡◌, refl, sym, ap, ap₂, ◌∙◌}
use mathlib.Core.Logic.{◌≢◌}
use mathlib.Core.Bool.{Bool, true, false, ◌&&◌, false≢true}
use mathlib.Core.List.{List, [], ◌∷◌}
use Prim.Native.Nat.{ℕ, zero, suc, ◌≤◌, ◌<◌}
use native.Mathlib.Omega.{arith}
use lib.Dec.{T, eqb, eqb→eq, eqb_refl, ltb, lt→ltb, ltb→lt, leb, le→leb, leb→le}
use lib.ListN.{length, get_or}
use Rattle.algebra.specs.Count.{passes}
use Rattle.algebra.proofs.CountLaws.{and_left, and_right}
pub use Rattle.algebra.proofs.TestLaws.{T_true}
use Rattle.protocol.specs.Lists.{all_below, all_true, first_not}

pub T_false : (b : Bool) → (T b → ⊥) → b ≡ false
T_false true f = absurd (f tt)
T_false false f = refl

pub eqb-other : (m n : ℕ) → m ≢ n → eqb m n ≡ false
eqb-other m n h = T_false (eqb m n) (λ t. h (eqb→eq m n t))

pub eqb_same : (m n : ℕ) → m ≡ n → eqb m n ≡ true
eqb_same m n h = T_true (eqb m n) (rw h (eqb_refl n))

pub eqb_eq : (m n : ℕ) → eqb m n ≡ true → m ≡ n
eqb_eq m n h = eqb→eq m n (rw h tt)

pub ltb_yes : (m n : ℕ) → m < n → ltb m n ≡ true
ltb_yes m n h = T_true (ltb m n) (lt→ltb m n h)

pub ltb_no : (m n : ℕ) → n ≤ m → ltb m n ≡ false
ltb_no m n h = T_false (ltb m n) (λ t. absurd (omega (arith, ltb→lt m n t)))

pub leb_yes : (m n : ℕ) → m ≤ n → leb m n ≡ true
leb_yes m n h = T_true (leb m n) (le→leb m n h)

pub leb_no : (m n : ℕ) → n < m → leb m n ≡ false
leb_no m n h = T_false (leb m n) (λ t. absurd (omega (arith, leb→le m n t)))

pub leb_le : (m n : ℕ) → leb m n ≡ true → m ≤ n
leb_le m n h = leb→le m n (rw h tt)

pub and-true : (b : Bool) → (b && true) ≡ b
and-true true = refl
and-true false = refl

pub bool_iff : (a b : Bool) → (a ≡ true → b ≡ true) → (b ≡ true → a ≡ true) → a ≡ b
bool_iff true b f g = sym (f refl)
bool_iff false true f g = g refl
bool_iff false false f g = refl

pub both_true : (a b : Bool) → a ≡ true → b ≡ true → (a && b) ≡ true
both_true true b g h = h
both_true false b g h = g

-- ---- lists of tests

abbrev pub Trues : List Bool → Type 0
Trues [] = Unit {0}
Trues (b ∷ bs) = (b ≡ true) × Trues bs

pub all_true_lem : (bs : List Bool) → all_true bs ≡ true → Trues bs
all_true_lem [] h = tt
all_true_lem (b ∷ bs) h = (and_left b (all_true bs) h, all_true_lem bs (and_right b (all_true bs) h))

pub true-all : (bs : List Bool) → Trues bs → all_true bs ≡ true
true-all [] h = refl
true-all (b ∷ bs) h = both_true b (all_true bs) h.0 (true-all bs h.1)

-- ---- at every index

pub all-at : (n : ℕ) (p : ℕ → Bool) → all_below n p ≡ true → (i : ℕ) → i < n → p i ≡ true
unfolding all_below
all-at zero p h i l = absurd (omega arith)
all-at (suc n) p h zero l = and_left (p 0) _ h
all-at (suc n) p h (suc i) l = all-at n (λ k. p (suc k)) (and_right (p 0) _ h) i (omega arith)

pub all_of : (n : ℕ) (p : ℕ → Bool) → ((i : ℕ) → i < n → p i ≡ true) → all_below n p ≡ true
unfolding all_below
all_of zero p h = refl
all_of (suc n) p h = rw (h 0 (omega arith)) (all_of n (λ k. p (suc k)) (λ i l. h (suc i) (omega arith)))

pub all_congr : (n : ℕ) (p r : ℕ → Bool) → ((i : ℕ) → i < n → p i ≡ r i) → all_below n p ≡ all_below n r
unfolding all_below
all_congr zero p r h = refl
all_congr (suc n) p r h = ap₂ ◌&&◌ (h 0 (omega arith)) (all_congr n (λ k. p (suc k)) (λ k. r (suc k)) (λ i l. h (suc i) (omega arith)))

and-swap : (a b c d : Bool) → ((a && b) && (c && d)) ≡ ((a && c) && (b && d))
and-swap true true c d = refl
and-swap true false true d = refl
and-swap true false false d = refl
and-swap false b c d = refl

pub all-and : (n : ℕ) (p r : ℕ → Bool) → (all_below n p && all_below n r) ≡ all_below n (λ i. p i && r i)
unfolding all_below
all-and zero p r = refl
all-and (suc n) p r = and-swap (p 0) _ (r 0) _ ∙ ap (λ b. p 0 && r 0 && b) (all-and n (λ k. p (suc k)) (λ k. r (suc k)))

pub passes-all : {A : Type 0} (P : ℕ → A → Bool) (s : List A) (d : A) → passes P s ≡ all_below (length s) (λ e. P e (get_or s e d))
unfolding all_below
passes-all P [] d = refl
passes-all P (x ∷ s) d = ap (λ b. P 0 x && b) (passes-all (λ e. P (suc e)) s d)

-- every index before the first that fails holds
pub first-before : (n : ℕ) (p : ℕ → Bool) (i : ℕ) → i < first_not n p → p i ≡ true
unfolding first_not
first-before zero p i h = absurd (omega arith)
first-before (suc n) p i h = go (p 0) refl i h (first-before n (λ k. p (suc k)))
  where
    go : (b : Bool) → p 0 ≡ b → (i : ℕ) → i < elim b as (λ x. ℕ) [ true ↦ suc (first_not n (λ k. p (suc k))) | false ↦ 0 ] → ((i : ℕ) → i < first_not n (λ k. p (suc k)) → p (suc i) ≡ true) → p i ≡ true
    go true e zero l ih = e
    go true e (suc i) l ih = ih i (omega arith)
    go false e i l ih = absurd (omega arith)

-- where some index fails, the first one that does is below the bound, and fails
pub first-not : (n : ℕ) (p : ℕ → Bool) → all_below n p ≡ false → (first_not n p < n) × (p (first_not n p) ≡ false)
unfolding all_below first_not
first-not zero p h = absurd (false≢true (sym h))
first-not (suc n) p h = go (p 0) refl (first-not n (λ i. p (suc i)))
  where
    Goal : ℕ → Type 0
    Goal k = (k < suc n) × (p k ≡ false)

    go : (b : Bool) → p 0 ≡ b → (all_below n (λ i. p (suc i)) ≡ false → (first_not n (λ i. p (suc i)) < n) × (p (suc (first_not n (λ i. p (suc i)))) ≡ false))
        → (elim b as (λ x. ℕ) [ true ↦ suc (first_not n (λ i. p (suc i))) | false ↦ 0 ] < suc n) × (p (elim b as (λ x. ℕ) [ true ↦ suc (first_not n (λ i. p (suc i))) | false ↦ 0 ]) ≡ false)
    go true e ih = let r = ih (rw e at h) in (omega (arith, r.0), r.1)
    go false e ih = (omega arith, e)

pub first-at : (n : ℕ) (p : ℕ → Bool) (i : ℕ) → i < n → ((k : ℕ) → k < i → p k ≡ true) → p i ≡ false → first_not n p ≡ i
unfolding first_not
first-at zero p i l before fails = absurd (omega arith)
first-at (suc n) p zero l before fails = rw (fails, first_not)
first-at (suc n) p (suc i) l before fails = rw (before 0 (omega arith), first_not) (ap suc (first-at n (λ k. p (suc k)) i (omega arith) (λ k h. before (suc k) (omega arith)) fails))
