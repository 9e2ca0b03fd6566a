-- θ, ρ and π of a state with some lanes changed: the same lanes as of the state itself, some of them changed.
-- Assumes nothing.
use mathlib.Core.Path.{◌≡◌, refl, sym, ap, ap₂, ◌∙◌}
use mathlib.Core.List.{List, ◌∷◌}
use mathlib.Core.Bool.{Bool, false}
use Prim.Native.Nat.{ℕ, zero, suc, ◌+◌, ◌*◌, ◌%◌, ◌-◌, ◌^◌, ◌≤◌, ◌<◌}
use native.Mathlib.Nat.{mod-lt}
use native.Mathlib.Omega.{arith}
use lib.ListN.{length, get_or, drop, drop_of_length-le}
use lib.Seq.{drop-cons}
use lib.Dec.{lit<}
use lib.Bits.{bit_xor, xor_lt, or_lt}
use lib.Pow.{pow_pos, shr_le}
use Rattle.sponge.specs.Lanes.{rotated, lane, state_of, listed}
use Rattle.sponge.specs.Tables.{offset, offsets}
use Rattle.sponge.specs.Keccak.{column, effects, with_effects, θ, ρ, π, χ, ι, rounded, rounds, keccak}
use Rattle.keccak.specs.Flags.{flag, named, flips, outer, inner}
use Rattle.keccak.proofs.FlagLaws.{differs, flag-sum, flag-rotated, flag-twice}

-- ---- lanes of a state

at : (f : ℕ → ℕ → ℕ) (x y : ℕ) → x < 5 → y < 5 → get_or (state_of f) (x + 5 * y) 0 ≡ f x y
unfolding state_of
at f zero zero h k = refl
at f zero (suc zero) h k = refl
at f zero (suc (suc zero)) h k = refl
at f zero (suc (suc (suc zero))) h k = refl
at f zero (suc (suc (suc (suc zero)))) h k = refl
at f zero (suc (suc (suc (suc (suc y))))) h k = absurd (omega arith)
at f (suc zero) zero h k = refl
at f (suc zero) (suc zero) h k = refl
at f (suc zero) (suc (suc zero)) h k = refl
at f (suc zero) (suc (suc (suc zero))) h k = refl
at f (suc zero) (suc (suc (suc (suc zero)))) h k = refl
at f (suc zero) (suc (suc (suc (suc (suc y))))) h k = absurd (omega arith)
at f (suc (suc zero)) zero h k = refl
at f (suc (suc zero)) (suc zero) h k = refl
at f (suc (suc zero)) (suc (suc zero)) h k = refl
at f (suc (suc zero)) (suc (suc (suc zero))) h k = refl
at f (suc (suc zero)) (suc (suc (suc (suc zero)))) h k = refl
at f (suc (suc zero)) (suc (suc (suc (suc (suc y))))) h k = absurd (omega arith)
at f (suc (suc (suc zero))) zero h k = refl
at f (suc (suc (suc zero))) (suc zero) h k = refl
at f (suc (suc (suc zero))) (suc (suc zero)) h k = refl
at f (suc (suc (suc zero))) (suc (suc (suc zero))) h k = refl
at f (suc (suc (suc zero))) (suc (suc (suc (suc zero)))) h k = refl
at f (suc (suc (suc zero))) (suc (suc (suc (suc (suc y))))) h k = absurd (omega arith)
at f (suc (suc (suc (suc zero)))) zero h k = refl
at f (suc (suc (suc (suc zero)))) (suc zero) h k = refl
at f (suc (suc (suc (suc zero)))) (suc (suc zero)) h k = refl
at f (suc (suc (suc (suc zero)))) (suc (suc (suc zero))) h k = refl
at f (suc (suc (suc (suc zero)))) (suc (suc (suc (suc zero)))) h k = refl
at f (suc (suc (suc (suc zero)))) (suc (suc (suc (suc (suc y))))) h k = absurd (omega arith)
at f (suc (suc (suc (suc (suc x))))) y h k = absurd (omega arith)

pub lane_of : (f : ℕ → ℕ → ℕ) (x y : ℕ) → lane (state_of f) x y ≡ f (x % 5) (y % 5)
unfolding lane
lane_of f x y = at f (x % 5) (y % 5) (omega arith) (omega arith)

pub lane-mod : (a : List ℕ) (x y : ℕ) → lane a (x % 5) (y % 5) ≡ lane a x y
unfolding lane
lane-mod a x y =
    let p : x % 5 % 5 ≡ x % 5 = omega arith in
    let q : y % 5 % 5 ≡ y % 5 = omega arith in
    ap₂ (λ u v. get_or a (u + 5 * v) 0) p q

pub state_same : (f g : ℕ → ℕ → ℕ) → ((x y : ℕ) → f x y ≡ g x y) → state_of f ≡ state_of g
unfolding state_of
state_same f g h =
    ap₂ ◌∷◌ (h 0 0) (
    ap₂ ◌∷◌ (h 1 0) (
    ap₂ ◌∷◌ (h 2 0) (
    ap₂ ◌∷◌ (h 3 0) (
    ap₂ ◌∷◌ (h 4 0) (
    ap₂ ◌∷◌ (h 0 1) (
    ap₂ ◌∷◌ (h 1 1) (
    ap₂ ◌∷◌ (h 2 1) (
    ap₂ ◌∷◌ (h 3 1) (
    ap₂ ◌∷◌ (h 4 1) (
    ap₂ ◌∷◌ (h 0 2) (
    ap₂ ◌∷◌ (h 1 2) (
    ap₂ ◌∷◌ (h 2 2) (
    ap₂ ◌∷◌ (h 3 2) (
    ap₂ ◌∷◌ (h 4 2) (
    ap₂ ◌∷◌ (h 0 3) (
    ap₂ ◌∷◌ (h 1 3) (
    ap₂ ◌∷◌ (h 2 3) (
    ap₂ ◌∷◌ (h 3 3) (
    ap₂ ◌∷◌ (h 4 3) (
    ap₂ ◌∷◌ (h 0 4) (
    ap₂ ◌∷◌ (h 1 4) (
    ap₂ ◌∷◌ (h 2 4) (
    ap₂ ◌∷◌ (h 3 4) (
    ap₂ ◌∷◌ (h 4 4) (refl)))))))))))))))))))))))))

small : (i : ℕ) → get_or offsets i 0 < 64
unfolding offsets
small zero = lit< tt
small (suc zero) = lit< tt
small (suc (suc zero)) = lit< tt
small (suc (suc (suc zero))) = lit< tt
small (suc (suc (suc (suc zero)))) = lit< tt
small (suc (suc (suc (suc (suc zero))))) = lit< tt
small (suc (suc (suc (suc (suc (suc zero)))))) = lit< tt
small (suc (suc (suc (suc (suc (suc (suc zero))))))) = lit< tt
small (suc (suc (suc (suc (suc (suc (suc (suc zero)))))))) = lit< tt
small (suc (suc (suc (suc (suc (suc (suc (suc (suc zero))))))))) = lit< tt
small (suc (suc (suc (suc (suc (suc (suc (suc (suc (suc zero)))))))))) = lit< tt
small (suc (suc (suc (suc (suc (suc (suc (suc (suc (suc (suc zero))))))))))) = lit< tt
small (suc (suc (suc (suc (suc (suc (suc (suc (suc (suc (suc (suc zero)))))))))))) = lit< tt
small (suc (suc (suc (suc (suc (suc (suc (suc (suc (suc (suc (suc (suc zero))))))))))))) = lit< tt
small (suc (suc (suc (suc (suc (suc (suc (suc (suc (suc (suc (suc (suc (suc zero)))))))))))))) = lit< tt
small (suc (suc (suc (suc (suc (suc (suc (suc (suc (suc (suc (suc (suc (suc (suc zero))))))))))))))) = lit< tt
small (suc (suc (suc (suc (suc (suc (suc (suc (suc (suc (suc (suc (suc (suc (suc (suc zero)))))))))))))))) = lit< tt
small (suc (suc (suc (suc (suc (suc (suc (suc (suc (suc (suc (suc (suc (suc (suc (suc (suc zero))))))))))))))))) = lit< tt
small (suc (suc (suc (suc (suc (suc (suc (suc (suc (suc (suc (suc (suc (suc (suc (suc (suc (suc zero)))))))))))))))))) = lit< tt
small (suc (suc (suc (suc (suc (suc (suc (suc (suc (suc (suc (suc (suc (suc (suc (suc (suc (suc (suc zero))))))))))))))))))) = lit< tt
small (suc (suc (suc (suc (suc (suc (suc (suc (suc (suc (suc (suc (suc (suc (suc (suc (suc (suc (suc (suc zero)))))))))))))))))))) = lit< tt
small (suc (suc (suc (suc (suc (suc (suc (suc (suc (suc (suc (suc (suc (suc (suc (suc (suc (suc (suc (suc (suc zero))))))))))))))))))))) = lit< tt
small (suc (suc (suc (suc (suc (suc (suc (suc (suc (suc (suc (suc (suc (suc (suc (suc (suc (suc (suc (suc (suc (suc zero)))))))))))))))))))))) = lit< tt
small (suc (suc (suc (suc (suc (suc (suc (suc (suc (suc (suc (suc (suc (suc (suc (suc (suc (suc (suc (suc (suc (suc (suc zero))))))))))))))))))))))) = lit< tt
small (suc (suc (suc (suc (suc (suc (suc (suc (suc (suc (suc (suc (suc (suc (suc (suc (suc (suc (suc (suc (suc (suc (suc (suc zero)))))))))))))))))))))))) = lit< tt
small (suc (suc (suc (suc (suc (suc (suc (suc (suc (suc (suc (suc (suc (suc (suc (suc (suc (suc (suc (suc (suc (suc (suc (suc (suc i))))))))))))))))))))))))) = lit< tt

from : (s : List ℕ) (n i : ℕ) → i + n ≡ length s → drop i s ≡ listed n (λ k. get_or s k 0) i
unfolding listed
from s zero i e = let l : length s ≤ i = omega arith in drop_of_length-le s l
from s (suc n) i e = drop-cons s i 0 (omega arith) ∙ ap (λ l. get_or s i 0 ∷ l) (from s n (suc i) (omega arith))

-- a state is its lanes
pub whole : (s : List ℕ) → length s ≡ 25 → s ≡ state_of (lane s)
unfolding listed state_of lane
whole s h = from s 25 0 (sym h)

-- ---- lanes changed

module _ (p : ℕ → ℕ → Bool) (f : ℕ → ℕ → ℕ) where
  flagged : ℕ → ℕ → ℕ
  flagged x y = flag (p x y) (f x y)

  flag-lane : (x y : ℕ) → lane (state_of flagged) x y ≡ flag (p (x % 5) (y % 5)) (lane (state_of f) x y)
  unfolding flagged
  flag-lane x y = lane_of flagged x y ∙ ap (flag (p (x % 5) (y % 5))) (sym (lane_of f x y))

named-mod : (m : List Bool) (x y : ℕ) → named m (x % 5) (y % 5) ≡ named m x y
unfolding named
named-mod m x y =
    let p : x % 5 % 5 ≡ x % 5 = omega arith in
    let q : y % 5 % 5 ≡ y % 5 = omega arith in
    ap₂ (λ u v. get_or m (u + 5 * v) false) p q

lane-flips : (m : List Bool) (a : List ℕ) (x y : ℕ) → lane (flips m a) x y ≡ flag (named m x y) (lane a x y)
unfolding flips
lane-flips m a x y = lane_of (λ x y. flag (named m x y) (lane a x y)) x y ∙ ap₂ flag (named-mod m x y) (lane-mod a x y)

pub flips-twice : (m : List Bool) (a : List ℕ) → flips m (flips m a) ≡ state_of (lane a)
unfolding flips
flips-twice m a = state_same _ _ (λ x y. ap (flag (named m x y)) (lane-flips m a x y) ∙ flag-twice (named m x y) (lane a x y))

pub flips-length : (m : List Bool) (a : List ℕ) → length (flips m a) ≡ 25
unfolding flips state_of
flips-length m a = refl

-- θ, lane by lane
θ_is : (a : List ℕ) → θ a ≡ state_of (λ x y. bit_xor (lane a x y) (bit_xor (column a (x + 4)) (rotated (column a (x + 1)) 1)))
unfolding θ with_effects effects listed column state_of lane
θ_is a = refl

-- θ reads the lanes alone
pub θ_lanes : (a : List ℕ) → θ (state_of (lane a)) ≡ θ a
unfolding θ with_effects effects listed column state_of lane
θ_lanes a = refl

module _ (m : List Bool) (a : List ℕ) (h : (i : ℕ) → get_or a i 0 < 2 ^ 64) where
  lane_lt : (x y : ℕ) → lane a x y < 2 ^ 64
  unfolding lane
  lane_lt x y = h (x % 5 + 5 * (y % 5))

  column_lt : (x : ℕ) → column a x < 2 ^ 64
  unfolding column
  column_lt x = xor_lt 64 _ _ (xor_lt 64 _ _ (xor_lt 64 _ _ (xor_lt 64 _ _ (lane_lt x 0) (lane_lt x 1)) (lane_lt x 2)) (lane_lt x 3)) (lane_lt x 4)

  parity : ℕ → Bool
  parity x = differs (differs (differs (differs (named m x 0) (named m x 1)) (named m x 2)) (named m x 3)) (named m x 4)

  column-flips : (x : ℕ) → column (flips m a) x ≡ flag (parity x) (column a x)
  unfolding column parity
  column-flips x =
      let l : (y : ℕ) → lane (flips m a) x y ≡ flag (named m x y) (lane a x y) = lane-flips m a x in
      ap₂ bit_xor (ap₂ bit_xor (ap₂ bit_xor (ap₂ bit_xor (l 0) (l 1) ∙ flag-sum _ _ _ _) (l 2) ∙ flag-sum _ _ _ _) (l 3) ∙ flag-sum _ _ _ _) (l 4) ∙ flag-sum _ _ _ _

rotated_lt : (x r : ℕ) → x < 2 ^ 64 → rotated x r < 2 ^ 64
unfolding rotated
rotated_lt x zero h = h
rotated_lt x (suc r) h = or_lt 64 _ _ (mod-lt (x * 2 ^ suc r) (pow_pos 64)) (omega (arith, shr_le x (64 - suc r)))

module _ (m : List Bool) (a : List ℕ) (h : (i : ℕ) → get_or a i 0 < 2 ^ 64) where
  -- the lanes after θ, and which of them are changed
  mixed : ℕ → ℕ → ℕ
  mixed x y = bit_xor (lane a x y) (bit_xor (column a (x + 4)) (rotated (column a (x + 1)) 1))

  p₁ : ℕ → ℕ → Bool
  p₁ x y = differs (named m x y) (differs (parity m a h (x + 4)) (parity m a h (x + 1)))

  θ_flips : θ (flips m a) ≡ state_of (flagged p₁ mixed)
  unfolding flagged mixed p₁
  θ_flips =
      θ_is (flips m a)
      ∙ state_same _ _ (λ x y.
      ap₂ bit_xor (lane-flips m a x y)
      (ap₂ bit_xor (column-flips m a h (x + 4)) (ap (λ c. rotated c 1) (column-flips m a h (x + 1)) ∙ flag-rotated (parity m a h (x + 1)) (column a (x + 1)) 1 (omega arith) (column_lt m a h (x + 1))) ∙ flag-sum _ _ _ _)
      ∙ flag-sum _ _ _ _)

  mixed_lt : (x y : ℕ) → mixed x y < 2 ^ 64
  unfolding mixed
  mixed_lt x y = xor_lt 64 _ _ (lane_lt m a h x y) (xor_lt 64 _ _ (column_lt m a h (x + 4)) (rotated_lt _ 1 (column_lt m a h (x + 1))))

  θ_lt : (x y : ℕ) → lane (state_of mixed) x y < 2 ^ 64
  θ_lt x y = rw (lane_of mixed x y) (mixed_lt (x % 5) (y % 5))

  spun : ℕ → ℕ → ℕ
  spun x y = rotated (lane (state_of mixed) x y) (offset x y)

  p₂ : ℕ → ℕ → Bool
  p₂ x y = p₁ (x % 5) (y % 5)

  ρ_flips : ρ (state_of (flagged p₁ mixed)) ≡ state_of (flagged p₂ spun)
  unfolding ρ flagged p₂ spun offset
  ρ_flips =
      state_same _ _ (λ x y.
      ap (λ l. rotated l (offset x y)) (flag-lane p₁ mixed x y)
      ∙ flag-rotated (p₁ (x % 5) (y % 5)) (lane (state_of mixed) x y) (offset x y) (small (x + 5 * y)) (θ_lt x y))

  π_flips : π (state_of (flagged p₂ spun)) ≡ state_of (λ x y. flag (p₂ ((x + 3 * y) % 5) (x % 5)) (lane (state_of spun) (x + 3 * y) x))
  unfolding π
  π_flips = state_same _ _ (λ x y. flag-lane p₂ spun (x + 3 * y) x)

same : (a : List ℕ) (h : (i : ℕ) → get_or a i 0 < 2 ^ 64)
    → state_of (λ x y. flag (p₂ outer a h ((x + 3 * y) % 5) (x % 5)) (lane (state_of (spun outer a h)) (x + 3 * y) x)) ≡ flips inner (π (ρ (θ a)))
unfolding flips π ρ p₂ p₁ parity named outer inner spun mixed state_of lane
same a h = ap (λ s. flips inner (π (ρ s))) (sym (θ_is a))

spun_lt : (a : List ℕ) → ((i : ℕ) → get_or a i 0 < 2 ^ 64) → (x y : ℕ) → lane (ρ (θ a)) x y < 2 ^ 64
unfolding ρ mixed
spun_lt a h x y =
    let lanes : lane (θ a) (x % 5) (y % 5) < 2 ^ 64 = rw (θ_is a) (θ_lt outer a h (x % 5) (y % 5)) in
    rw (lane_of (λ x y. rotated (lane (θ a) x y) (offset x y)) x y) (rotated_lt _ (offset (x % 5) (y % 5)) lanes)

-- the lanes after θ, ρ and π fit
pub linear_lt : (a : List ℕ) → ((i : ℕ) → get_or a i 0 < 2 ^ 64) → (x y : ℕ) → lane (π (ρ (θ a))) x y < 2 ^ 64
unfolding π
linear_lt a h x y = rw (lane_of (λ x y. lane (ρ (θ a)) (x + 3 * y) x) x y) (spun_lt a h (x % 5 + 3 * (y % 5)) (x % 5))

-- of the lanes changed between rounds, to those changed before χ
pub linear-flips : (a : List ℕ) → ((i : ℕ) → get_or a i 0 < 2 ^ 64) → π (ρ (θ (flips outer a))) ≡ flips inner (π (ρ (θ a)))
linear-flips a h =
    ap (λ s. π (ρ s)) (θ_flips outer a h) ∙ ap π (ρ_flips outer a h) ∙ π_flips outer a h ∙ same a h

-- a round of the lanes as they are held
pub round_held : (a : List ℕ) (k : ℕ) → ((i : ℕ) → get_or a i 0 < 2 ^ 64) → flips outer (ι k (χ (flips inner (π (ρ (θ a)))))) ≡ flips outer (rounded k (flips outer a))
unfolding rounded
round_held a k h = ap (λ t. flips outer (ι k (χ t))) (sym (linear-flips a h))

pub round_next : (a s : List ℕ) (k : ℕ) → s ≡ flips outer a → flips outer (rounded k (flips outer s)) ≡ flips outer (rounded k a)
unfolding rounded
round_next a s k e =
    ap (λ t. flips outer (rounded k t)) (ap (flips outer) e ∙ flips-twice outer a) ∙ ap (λ t. flips outer (ι k (χ (π (ρ t))))) (θ_lanes a)

-- a state after a round has its lanes and no more
pub all_lanes : (a : List ℕ) → state_of (lane (rounds 24 a)) ≡ keccak a
unfolding keccak rounds rounded ι χ state_of lane
all_lanes a = refl
