-- Polynomials in α whose coefficients are bits, in planes: plane s of a stack holds the coefficients of α^s, one bit
-- for each place. In each definition d is the degree of the field (field's Degrees).
--   alpha d s == α^s as a byte, where α is the element 02;  byte_product d x y == the product of two bytes as elements
--   planes == the planes of a stack: as many coefficients as a product of two elements of the larger field has before
--     it is reduced
--   stack_at d t f z == the value of a stack at bit z of byte f;  stack_of d T e f z == that of stack e of a table
--   fold_of d T e h z == the sum of the values of stack e at bit z of the sixteen bytes of half h
--   column_of d T e s == the same for column s of sixteen
--   sixteen_of T e at == the sum of the sixteen bytes from `at` on of stack e
--   value_of d rows z e == the value at bit z of the planes of repetition e, where row s has byte e of plane s for every
--     repetition
--   two_planes d p x y z v == what bit z of two bytes of planes gives times v, where the weights of the planes are α^p
--     and α^(p+1)
--   coordinate_of vs e c == coordinate c of the vector of repetition e: the vectors stand one after the other, each with
--     as many coordinates as a key may have variables
--   VectorsRoom vs == so many vectors as there are lanes
--   BlockTurned g step src from w new == parts g, g + step, .. of `new`, eight of sixteen bytes each, are the columns
--     of sixteen rows of eight bytes of src, which stand w bytes apart, the first at `from`
--   BesideBlock g step count old new == the parts other than these `count` are as they were
--   FrontIs τ vs first front == front has, row after row, sixteen coordinates of each repetition below τ, from `first`
--     on
--   Weights d weights == byte s is α^s, for each plane
--   IsBits xs == each byte is 0 or 1
--   StacksFit tau T == T has a stack for each repetition below tau
--   PanelFits == there are at most as many repetitions as lanes, each with its stack and its vector; the panel's
--     sixteen columns are coordinates, and xs has bits for them
--   MasksAt v f masks == the masks have at byte f those of the bits of v
-- Assumes nothing.
use Rattle.std.specs.Prelude.{◌≡◌, List, ℕ, ◌+◌, ◌*◌, ◌-◌, ◌/◌, ◌%◌, ◌<◌, ◌≤◌, length}
use Rattle.std.specs.Int.Bits.{bit_xor}
use Rattle.algebra.specs.Coded.{mul_byte, pow_byte}
use Rattle.galois.specs.Degrees.{field_of, degree}
use Rattle.protocol.specs.Shape.{most_variables}
use Rattle.strings.specs.Sums.{byte_at, bit_of, xor_sum, mask_byte}
use Rattle.lanes.specs.Lanes.{lanes, lane_at}
use Rattle.chunks.specs.Chunks.{chunk}

unfoldable pub alpha : ℕ → ℕ → ℕ
alpha d s = pow_byte (field_of d) 2 s

unfoldable pub byte_product : ℕ → ℕ → ℕ → ℕ
byte_product d x y = mul_byte (field_of d) x y

abbrev pub planes : ℕ
planes = 2 * degree - 1

abbrev pub stack_at : ℕ → List ℕ → ℕ → ℕ → ℕ
stack_at d t f z = xor_sum planes (λ s. bit_of (byte_at t (s * chunk + f)) z * alpha d s)

abbrev pub stack_of : ℕ → List ℕ → ℕ → ℕ → ℕ → ℕ
stack_of d T e f z = xor_sum planes (λ s. bit_of (byte_at T (e * (planes * chunk) + (s * chunk + f))) z * alpha d s)

unfoldable pub fold_of : ℕ → List ℕ → ℕ → ℕ → ℕ → ℕ
fold_of d T e h z = xor_sum 16 (λ f. stack_of d T e (h * 16 + f) z)

abbrev pub column_of : ℕ → List ℕ → ℕ → ℕ → ℕ
column_of d T e s = fold_of d T e (s / 8) (s % 8)

abbrev pub sixteen_of : List ℕ → ℕ → ℕ → ℕ
sixteen_of T e at = xor_sum 16 (λ f. byte_at T (e * (planes * chunk) + (at + f)))

abbrev pub value_of : ℕ → List ℕ → ℕ → ℕ → ℕ
value_of d rows z e = xor_sum planes (λ s. bit_of (lane_at rows s e) z * alpha d s)

abbrev pub two_planes : ℕ → ℕ → ℕ → ℕ → ℕ → ℕ → ℕ
two_planes d p x y z v = bit_xor (bit_of x z * byte_product d (alpha d p) v) (bit_of y z * byte_product d (alpha d (p + 1)) v)

abbrev pub coordinate_of : List ℕ → ℕ → ℕ → ℕ
coordinate_of vs e c = byte_at vs (e * most_variables + c)

abbrev pub VectorsRoom : List ℕ → Type 0
VectorsRoom vs = length vs ≡ lanes * most_variables

abbrev pub BlockTurned : ℕ → ℕ → List ℕ → ℕ → ℕ → List ℕ → Type 0
BlockTurned g step src from w new = (k j : ℕ) → k < 8 → j < 16 → byte_at new ((g + k * step) * 16 + j) ≡ byte_at src (from + j * w + k)

abbrev pub BesideBlock : ℕ → ℕ → ℕ → List ℕ → List ℕ → Type 0
BesideBlock g step count old new = (x j : ℕ) → ((k : ℕ) → k < count → x ≡ g + k * step → ⊥) → j < 16 → byte_at new (x * 16 + j) ≡ byte_at old (x * 16 + j)

abbrev pub FrontIs : ℕ → List ℕ → ℕ → List ℕ → Type 0
FrontIs τ vs first front = (k e : ℕ) → k < 16 → e < τ → lane_at front k e ≡ coordinate_of vs e (first + k)

abbrev pub Weights : ℕ → List ℕ → Type 0
Weights d weights = (length weights ≡ planes) × ((s : ℕ) → s < planes → byte_at weights s ≡ alpha d s)

abbrev pub IsBits : List ℕ → Type 0
IsBits xs = (c : ℕ) → byte_at xs c < 2

abbrev pub StacksFit : ℕ → List ℕ → Type 0
StacksFit tau T = tau * (planes * chunk) ≤ length T

abbrev pub PanelFits : List ℕ → ℕ → ℕ → List ℕ → List ℕ → Type 0
PanelFits stacks panel tau vectors xs =
    (tau ≤ lanes) × StacksFit tau stacks × VectorsRoom vectors × (panel * 16 + 16 ≤ most_variables) × (most_variables ≤ length xs) × IsBits xs

abbrev pub MasksAt : ℕ → ℕ → List ℕ → Type 0
MasksAt v f masks = (b : ℕ) → b < 8 → byte_at masks (b * chunk + f) ≡ bit_of v b * mask_byte
