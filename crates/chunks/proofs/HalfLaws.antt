-- Laws of a chunk to whose two halves bytes are added, one of each at a time.
-- Assumes nothing.
use mathlib.Core.Path.{◌≡◌, ap, ◌∙◌}
use mathlib.Core.List.{List}
use Prim.Native.Nat.{ℕ, ◌+◌, ◌%◌, ◌≤◌, ◌<◌}
use native.Mathlib.Decide.{ℕ_discrete}
use native.Mathlib.Omega.{arith}
use lib.Bits.{bit_xor}
use lib.ListN.{length, set, length-set}
use lib.Seq.{get_or-set_same, get_or-set_other}
use Rattle.strings.specs.Sums.{byte_at}
use Rattle.chunks.specs.Chunks.{chunk}

-- v is added to the first f bytes of each half
abbrev pub Halves : (ℕ → ℕ) → List ℕ → List ℕ → ℕ → Type 0
Halves v old new f = (k : ℕ) → k < chunk → (k % 16 < f → byte_at new k ≡ bit_xor (byte_at old k) (v k)) × (f ≤ k % 16 → byte_at new k ≡ byte_at old k)

pub halves_more : (v : ℕ → ℕ) (old l : List ℕ) (f y z : ℕ) → f < 16 → length l ≡ chunk → y ≡ bit_xor (byte_at l f) (v f) → z ≡ bit_xor (byte_at (set l f y) (16 + f)) (v (16 + f))
    → Halves v old l f → Halves v old (set (set l f y) (16 + f) z) (f + 1)
halves_more v old l f y z hf long is is' done k hk = go (ℕ_discrete k f) (ℕ_discrete k (16 + f))
  where
    go : Dec (k ≡ f) → Dec (k ≡ 16 + f) → (k % 16 < f + 1 → byte_at (set (set l f y) (16 + f) z) k ≡ bit_xor (byte_at old k) (v k)) × (f + 1 ≤ k % 16 → byte_at (set (set l f y) (16 + f) z) k ≡ byte_at old k)
    go (yes e) d = (
      (λ h. rw e (get_or-set_other (set l f y) (16 + f) f z 0 (λ x. omega arith) ∙ get_or-set_same l f y 0 (omega arith) ∙ is ∙ ap (λ b. bit_xor b (v f)) ((done f (omega arith)).1 (omega arith)))),
      (λ h. absurd (omega (arith, h, e))),
    )
    go (no n) (yes e) = (
      (λ h. rw e (get_or-set_same (set l f y) (16 + f) z 0 (omega (arith, length-set l f y)) ∙ is' ∙ ap (λ b. bit_xor b (v (16 + f))) (get_or-set_other l f (16 + f) y 0 (λ x. omega arith) ∙ (done (16 + f) (omega arith)).1 (omega arith)))),
      (λ h. absurd (omega (arith, h, e))),
    )
    go (no n) (no n') =
        let same : byte_at (set (set l f y) (16 + f) z) k ≡ byte_at l k = get_or-set_other (set l f y) (16 + f) k z 0 n' ∙ get_or-set_other l f k y 0 n in
        ((λ h. same ∙ (done k hk).0 (omega (arith, h, n, n', hk))), λ h. same ∙ (done k hk).1 (omega arith))
