-- Numbers that are elements of the field of a degree.
-- Assumes nothing.
use Prim.Native.Nat.{ℕ, ◌^◌, ◌<◌}
use Rattle.galois.specs.Degrees.{field_of, degree_of}

-- a number below the field's size has the field's bits
pub element_bits : (d x : ℕ) → x < (field_of d).base.size → x < 2 ^ degree_of d
unfolding degree_of
element_bits d x h = rw (field_of d).size_is at h
