-- Vectors of the repetitions side by side, on bytes, and their masks.
--   lanes == the stride of a table, as many as a key may have repetitions;  lane_at T c e == coordinate c of the vector
--     of repetition e
--   LaneIs e n f T == coordinates f 0, .., f (n - 1) stand in lane e;
--     LanesKept e old new == the lanes other than e are as they were
--   LanesAdded n f old new == to each of the first n lanes e, f e is added
--   ProductsAdded C f t old new == to each lane e, the product of f_e and t_e in the field C is added
--   mask_lane d T at e == Σ α^i · coordinate at + i, i below the degree, in repetition e, over the field of degree d
--   mask_bits d u at == the same of a string of bits
--   first_mask s e == the first mask coordinate of repetition e, for a key of the sizes s
--   MasksIn s T, MaskBitsIn s u == there are at most as many repetitions as lanes, and the mask coordinates of each are
--     in the table, and in the string; of the string each is small, so that its index cannot overflow
-- Assumes nothing.
use Rattle.std.specs.Prelude.{◌≡◌, List, ℕ, ◌+◌, ◌*◌, ◌<◌, ◌≤◌, length}
use Rattle.std.specs.Int.Bits.{bit_xor}
use Rattle.protocol.specs.Shape.{most_repetitions, mask_at}
use Rattle.algebra.specs.Coded.{Coded, mul_byte}
use Rattle.galois.specs.Degrees.{field_of, degree_of, mask_element_of}
use Rattle.protocol.specs.Strings.{bit}
use Rattle.strings.specs.Sums.{byte_at, xor_sum}
use Rattle.format.specs.Sizes.{alphabet_for, shape_for}
use Rattle.format.specs.declared.sizes.Sizes.{Sizes}

abbrev pub lanes : ℕ
lanes = most_repetitions

abbrev pub lane_at : List ℕ → ℕ → ℕ → ℕ
lane_at T c e = byte_at T (c * lanes + e)

abbrev pub LaneIs : ℕ → ℕ → (ℕ → ℕ) → List ℕ → Type 0
LaneIs e n f T = (c : ℕ) → c < n → byte_at T (c * lanes + e) ≡ f c

abbrev pub LanesKept : ℕ → List ℕ → List ℕ → Type 0
LanesKept e old new = (c q : ℕ) → q < lanes → (q ≡ e → ⊥) → byte_at new (c * lanes + q) ≡ byte_at old (c * lanes + q)

abbrev pub LanesAdded : ℕ → (ℕ → ℕ) → List ℕ → List ℕ → Type 0
LanesAdded n f old new = (e : ℕ) → e < n → byte_at new e ≡ bit_xor (byte_at old e) (f e)

abbrev pub ProductsAdded : Coded → List ℕ → List ℕ → List ℕ → List ℕ → Type 0
ProductsAdded C f t old new = LanesAdded lanes (λ e. mul_byte C (byte_at f e) (byte_at t e)) old new

abbrev pub mask_lane : ℕ → List ℕ → ℕ → ℕ → ℕ
mask_lane d T at e = xor_sum (degree_of d) (λ i. mul_byte (field_of d) (mask_element_of d i) (lane_at T (at + i) e))

abbrev pub mask_bits : ℕ → List ℕ → ℕ → ℕ
mask_bits d u at = xor_sum (degree_of d) (λ i. mul_byte (field_of d) (mask_element_of d i) (bit u (at + i)))

abbrev pub first_mask : Sizes → ℕ → ℕ
first_mask s e = mask_at (alphabet_for s) (shape_for s) e

abbrev pub MasksIn : Sizes → List ℕ → Type 0
MasksIn s T = (s.tau ≤ lanes) × ((e : ℕ) → e < s.tau → (first_mask s e + degree_of s.degree) * lanes ≤ length T)

abbrev pub MaskBitsIn : Sizes → List ℕ → Type 0
MaskBitsIn s u = (s.tau ≤ lanes) × ((e : ℕ) → e < s.tau → (first_mask s e + degree_of s.degree ≤ length u * 8) × (first_mask s e < 65536))
