-- A string is its blocks, and a number below τ·m its two digits.
-- Assumes nothing.
use mathlib.Core.Path.{◌≡◌, sym, ap, ◌∙◌}
use mathlib.Core.List.{List}
use Prim.Native.Nat.{ℕ, zero, suc, ◌+◌, ◌*◌, ◌/◌, ◌%◌, ◌<◌}
use native.Mathlib.Nat.{mul-zero, mod-lt, div-lt_iff_lt-mul, div-add-mod'}
use native.Mathlib.Omega.{arith}
use lib.ListN.{length, get_or}
use lib.Seq.{ext_get_or}
use Rattle.protocol.specs.Lists.{block_at}
use Rattle.theorems.proofs.ListLaws.{block_getD}

positive : (τ m i : ℕ) → i < τ * m → 0 < m
positive τ zero i h = absurd (omega (arith, mul-zero τ))
positive τ (suc m) i h = omega arith

pub digits : (τ m i : ℕ) → i < τ * m → (i / m < τ) × (i % m < m) × (i / m * m + i % m ≡ i)
digits τ m i h = let p : 0 < m = positive τ m i h in ((div-lt_iff_lt-mul p).1 h, mod-lt i p, div-add-mod' i m)

pub blocks_ext : (w n : ℕ) (s t : List ℕ) → length s ≡ n * w → length t ≡ n * w → ((i : ℕ) → i < n → block_at s w i ≡ block_at t w i) → s ≡ t
blocks_ext w n s t h k e =
    ext_get_or 0 s t (h ∙ sym k)
    (λ i l. let d = digits n w i (omega (arith, l, h)) in
    ap (λ j. get_or s j 0) (sym d.2) ∙ sym (block_getD s w (i / w) (i % w) d.1) ∙ ap (λ z. get_or z (i % w) 0) (e (i / w) d.0) ∙ block_getD t w (i / w) (i % w) d.1 ∙ ap (λ j. get_or t j 0) d.2)
