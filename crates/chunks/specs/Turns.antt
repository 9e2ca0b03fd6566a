-- Eight rows of bits, turned into columns of bytes, by three passes of one kind. A pass takes the rows' first half and
-- last half side by side.
--   Step s mask == the pass that moves bits by s places: mask has the bits x where ⌊x/s⌋ is even
--   moved s mask a b == the bits under the mask that b and a, moved s places down, do not share
--   Exchanged s rows n out == the first n bytes of each half of out are those of a pass over rows:
--     where ⌊x/s⌋ is even bit x is of a byte of the first half, else of the last; those of the last half of out are s
--       places further up
--   Passed s half rows n out == the same, where the bytes of the two halves of out stand side by side, for the first n
--     bytes of out
--   Turned w rows out == byte r of out is column r of the eight rows of w bytes
--   TurnedAt w from src out == the same for sixteen bytes of each of eight rows of src, which stand w bytes apart, the
--     first at from
-- Assumes nothing.
use Rattle.std.specs.Prelude.{◌≡◌, List, ◌⊎◌, ℕ, ◌+◌, ◌*◌, ◌-◌, ◌/◌, ◌%◌, ◌^◌, ◌<◌}
use Rattle.std.specs.Int.Bits.{bit_xor, bit_and}
use Rattle.strings.specs.Sums.{byte_at, bit_of}

abbrev pub Step : ℕ → ℕ → Type 0
Step s mask = ((s ≡ 4) × (mask ≡ 15)) ⊎ (((s ≡ 2) × (mask ≡ 51)) ⊎ ((s ≡ 1) × (mask ≡ 85)))

abbrev pub moved : ℕ → ℕ → ℕ → ℕ → ℕ
moved s mask a b = bit_and (bit_xor (a / 2 ^ s) b) mask

abbrev pub Exchanged : ℕ → List ℕ → ℕ → List ℕ → Type 0
Exchanged s rows n out =
    (i y x : ℕ) → i < n → y < 2 → x < 8 → bit_of (byte_at out (y * 64 + i)) x ≡ bit_of (byte_at rows (x / s % 2 * 64 + i)) (x + y * s - x / s % 2 * s)

abbrev pub Passed : ℕ → ℕ → List ℕ → ℕ → List ℕ → Type 0
Passed s half rows n out =
    (i x : ℕ) → i < n → x < 8 → bit_of (byte_at out i) x ≡ bit_of (byte_at rows (x / s % 2 * half + i / 2)) (x + i % 2 * s - x / s % 2 * s)

abbrev pub Turned : ℕ → List ℕ → List ℕ → Type 0
Turned w rows out = (r b : ℕ) → r < 8 * w → b < 8 → bit_of (byte_at out r) b ≡ bit_of (byte_at rows (b * w + r / 8)) (r % 8)

abbrev pub TurnedAt : ℕ → ℕ → List ℕ → List ℕ → Type 0
TurnedAt w from src out = (r b : ℕ) → r < 128 → b < 8 → bit_of (byte_at out r) b ≡ bit_of (byte_at src (from + b * w + r / 8)) (r % 8)
