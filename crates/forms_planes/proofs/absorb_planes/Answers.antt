-- `forms_planes::absorb_planes` meets its contract. The invariant: the bytes below f are done, and the others are as
-- they were.
-- Assumes nothing.
use Prim.Native.Nat.{ℕ, ◌+◌, ◌*◌, ◌<◌, ◌^◌}
use mathlib.Core.List.{List}
use mathlib.Core.Path.{◌≡◌, refl, ap, ap₂, ◌∙◌}
use native.Mathlib.Decide.{dec_lt}
use native.Mathlib.Omega.{arith}
use lib.Bits.{bit_xor}
use Rattle.strings.specs.Sums.{byte_at, bit_of}
use Rattle.strings.proofs.SumLaws.{sum_same}
use Rattle.chunks.specs.Chunks.{chunk, cell_at, Masks}
use Rattle.forms_columns.specs.Stacks.{alpha, byte_product, planes, stack_at}
use Rattle.galois.specs.Degrees.{degree_of}
use Rattle.forms_planes.proofs.absorb_planes.Invariants.{term}
use Rattle.forms_planes.proofs.absorb_planes.Goals as goal

-- bytes at one place make the stack there
stack_same : (d : ℕ) (t t' : List ℕ) (f z : ℕ) → ((q : ℕ) → cell_at t' q f ≡ cell_at t q f) → stack_at d t' f z ≡ stack_at d t f z
stack_same d t t' f z same = sum_same planes _ _ (λ s l. ap (λ x. bit_of x z * alpha d s) (same s))

split : (g f : ℕ) (P : Type 0) → g < f + 1 → (g < f → P) → (g ≡ f → P) → P
split g f P h below here = go (dec_lt g f)
  where
    go : Dec (g < f) → P
    go (yes k) = below k
    go (no k) = here (omega arith)

pub loop-f-init : goal.loop-f-init
loop-f-init c =
    ((λ d v g z is hv h. absurd (omega arith)), λ q g h k. refl)

pub absorb_byte-requires : goal.absorb_byte-requires
absorb_byte-requires c =
    (c.loop-f.auto.t ∙ c.requires.0, omega arith, omega (arith, c.loop-f-test.true), c.requires.3)

pub loop-f-preserved : goal.loop-f-preserved
loop-f-preserved c =
    let a = c.args in
    let l = c.loop-f in
    let done = c.absorb_byte in
    let t₀ = a.t.now in
    let t = l.t in
    let t' = done.new.t in
    let f = l.f in
    let both = a.both.now in
    let lt : f < chunk = omega (arith, c.loop-f-test.true) in
    let front : f ≡ 0 * chunk + f = omega arith in
    let back : chunk + f ≡ 1 * chunk + f = omega arith in
    let here : (d : ℕ) (v : List ℕ) (z : ℕ) → Masks v a.masks.now → byte_at v f < 2 ^ degree_of d → stack_at d t' f z ≡ bit_xor (stack_at d t₀ f z) (term d both a.p v f z) =
    λ d v z masks hv.
    done.ensures.by_index d (byte_at v f) z (λ b k. masks b f k lt) hv
    ∙ ap (λ (x : ℕ). bit_xor x (bit_xor (bit_of (byte_at both f) z * byte_product d (alpha d a.p) (byte_at v f)) (bit_of (byte_at both (chunk + f)) z * byte_product d (alpha d (a.p + 1)) (byte_at v f)))) (stack_same d t₀ t f z (λ q. l.invariant.1 q f (omega arith) lt))
    ∙ ap₂ (λ (j k : ℕ). bit_xor (stack_at d t₀ f z) (bit_xor (bit_of (byte_at both j) z * byte_product d (alpha d a.p) (byte_at v f)) (bit_of (byte_at both k) z * byte_product d (alpha d (a.p + 1)) (byte_at v f)))) front back in (
      (λ d v g z masks hv h. split g f (stack_at d t' g z ≡ bit_xor (stack_at d t₀ g z) (term d both a.p v g z)) h (λ below. stack_same d t t' g z (λ q. done.ensures.by_index_2 q g (λ e. omega arith) (omega arith)) ∙ l.invariant.0 d v g z masks hv below) (λ e. rw e (here d v z masks (rw e at hv)))),
      (λ q g h k. done.ensures.by_index_2 q g (λ e. omega arith) k ∙ l.invariant.1 q g (omega arith) k),
    )

pub returns : goal.returns
returns c d v f z masks hv h =
    c.loop-f.invariant.0 d v f z masks hv (omega arith)
