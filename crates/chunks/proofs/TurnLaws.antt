-- Laws of the turn of eight rows, by three passes, and of the parting of sixteen rows, by four merges.
-- Assumes nothing.
use mathlib.Core.Path.{◌≡◌, refl, sym, ap, ap₂, ◌∙◌}
use mathlib.Core.List.{List}
use Prim.Native.Nat.{ℕ, zero, suc, ◌+◌, ◌*◌, ◌-◌, ◌/◌, ◌%◌, ◌≤◌, ◌<◌}
use native.Mathlib.Nat.{mul_assoc, mul_comm, div-one}
use native.Mathlib.Omega.{arith}
use Rattle.strings.specs.Sums.{byte_at, bit_of}
use Rattle.chunks.specs.Turns.{Passed, Turned, TurnedAt}
use Rattle.chunks.proofs.PassLaws.{eight}

-- ---- three passes

times : (β w : ℕ) → β * (4 * w) ≡ 4 * (β * w)
times β w = sym (mul_assoc β 4 w) ∙ ap (λ k. k * w) (mul_comm β 4) ∙ mul_assoc 4 β w

at_most : (β w : ℕ) → β < 2 → β * w ≤ w
at_most zero w h = omega arith
at_most (suc zero) w h = omega arith
at_most (suc (suc β)) w h = absurd (omega arith)

-- a row's number by its bits
by_bits : (b w : ℕ) → b < 8 → b * w ≡ 4 * (b / 4 % 2 * w) + 2 * (b / 2 % 2 * w) + b % 2 * w
by_bits b w =
    eight (λ b. b * w ≡ 4 * (b / 4 % 2 * w) + 2 * (b / 2 % 2 * w) + b % 2 * w) (omega arith) (omega arith) (omega arith) (omega arith) (omega arith) (omega arith) (omega arith) (omega arith) b

-- a pass over eight rows of w bytes, at a bit x that takes the half β
pass_at : (s w : ℕ) (from to : List ℕ) → Passed s (4 * w) from (2 * (4 * w)) to
    → (i x β i' x' : ℕ) → i < 8 * w → x < 8 → x / s % 2 ≡ β → i' ≡ 4 * (β * w) + i / 2 → x' ≡ x + i % 2 * s - β * s → bit_of (byte_at to i) x ≡ bit_of (byte_at from i') x'
pass_at s w from to pass i x β i' x' hi hx half at place =
    let e : x / s % 2 * (4 * w) + i / 2 ≡ i' = omega (arith, ap (λ k. k * (4 * w)) half ∙ times β w) in
    pass i x (omega arith) hx ∙ ap₂ (λ k p. bit_of (byte_at from k) p) e (ap (λ k. x + i % 2 * s - k * s) half ∙ sym place)

-- the places of a bit b after the passes by 1, by 2 and by 4, at byte r
place_1 : (b r : ℕ) → b / 2 * 2 + r % 2 ≡ b + r % 2 * 1 - b % 2 * 1
place_1 b r = omega arith

place_2 : (b r k : ℕ) → b / 4 * 4 + r % 4 ≡ b / 2 * 2 + r % 2 + (4 * k + r / 2) % 2 * 2 - b / 2 % 2 * 2
place_2 b r k =
    let u : (4 * k + r / 2) % 2 ≡ r / 2 % 2 = omega arith in
    let v : r % 4 ≡ r / 2 % 2 * 2 + r % 2 = omega arith in
    let t : b / 2 * 2 ≡ b / 4 * 4 + b / 2 % 2 * 2 = omega arith in
    rw (u, v, t) (omega arith)

place_4 : (b r k l : ℕ) → b < 8 → r % 8 ≡ b / 4 * 4 + r % 4 + (4 * l + 2 * k + r / 4) % 2 * 4 - b / 4 % 2 * 4
place_4 b r k l h =
    let u : (4 * l + 2 * k + r / 4) % 2 ≡ r / 4 % 2 = omega arith in
    let v : r % 8 ≡ r / 4 % 2 * 4 + r % 4 = omega arith in
    let t : b / 4 % 2 ≡ b / 4 = omega arith in
    rw (u, v, t) (omega arith)

pub turned : (w : ℕ) (rows one two three : List ℕ) → Passed 4 (4 * w) rows (2 * (4 * w)) one → Passed 2 (4 * w) one (2 * (4 * w)) two → Passed 1 (4 * w) two (2 * (4 * w)) three → Turned w rows three
turned w rows one two three p q t r b hr hb =
    let low = b % 2 * w in
    let mid = b / 2 % 2 * w in
    let low≤ : low ≤ w = at_most (b % 2) w (omega arith) in
    let mid≤ : mid ≤ w = at_most (b / 2 % 2) w (omega arith) in
    pass_at 1 w two three t r b (b % 2) (4 * low + r / 2) (b / 2 * 2 + r % 2) hr hb (ap (λ k. k % 2) (div-one b)) refl (place_1 b r)
    ∙ pass_at 2 w one two q (4 * low + r / 2) (b / 2 * 2 + r % 2) (b / 2 % 2) (4 * mid + 2 * low + r / 4) (b / 4 * 4 + r % 4) (omega arith) (omega arith) (omega arith) (omega arith) (place_2 b r low)
    ∙ pass_at 4 w rows one p (4 * mid + 2 * low + r / 4) (b / 4 * 4 + r % 4) (b / 4 % 2) (b * w + r / 8) (r % 8) (omega arith) (omega arith) (omega arith) (omega (arith, by_bits b w hb)) (place_4 b r low mid hb)

-- ---- eight rows of sixteen bytes that were copied

pub turned-at : (w from : ℕ) (src rows out : List ℕ) → Turned 16 rows out → ((z f : ℕ) → z < 8 → f < 16 → byte_at rows (z * 16 + f) ≡ byte_at src (from + z * w + f)) → TurnedAt w from src out
turned-at w from src rows out turn copied r b hr hb = turn r b (omega arith) hb ∙ ap (λ z. bit_of z (r % 8)) (copied b (r / 8) hb (omega arith))

-- ---- merges

abbrev Merged : List ℕ → List ℕ → Type 0
Merged rows out = (i : ℕ) → i < 128 → byte_at out i ≡ byte_at rows (i % 2 * 64 + i / 2)

twice : (a b c : List ℕ) → Merged a b → Merged b c → (i : ℕ) → i < 128 → byte_at c i ≡ byte_at a (i % 4 * 32 + i / 4)
twice a b c first second i h =
    let at : (i % 2 * 64 + i / 2) % 2 * 64 + (i % 2 * 64 + i / 2) / 2 ≡ i % 4 * 32 + i / 4 = omega arith in
    second i h ∙ first (i % 2 * 64 + i / 2) (omega arith) ∙ ap (byte_at a) at

pub four_merges : (a b c d e : List ℕ) → Merged a b → Merged b c → Merged c d → Merged d e → (i : ℕ) → i < 128 → byte_at e i ≡ byte_at a (i % 16 * 8 + i / 16)
four_merges a b c d e p q r s i h =
    let at : (i % 4 * 32 + i / 4) % 4 * 32 + (i % 4 * 32 + i / 4) / 4 ≡ i % 16 * 8 + i / 16 = omega arith in
    twice c d e r s i h ∙ twice a b c p q (i % 4 * 32 + i / 4) (omega arith) ∙ ap (byte_at a) at
