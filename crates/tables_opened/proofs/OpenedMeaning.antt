-- What the verifier's table holds, in 01's terms: a lane of it is W_e.
-- Assumes nothing.
use mathlib.Core.Path.{◌≡◌, refl, sym, ap, ap₂, ◌∙◌}
use mathlib.Core.Bool.{Bool, true, false, cond}
use mathlib.Core.List.{List}
use Prim.Native.Nat.{ℕ, zero, suc, ◌+◌, ◌*◌, ◌-◌, ◌<◌}
use lib.Bits.{bit_xor, xor_lt}
use lib.Dec.{eqb, lit<}
use Rattle.protocol.specs.Lists.{block_at}
use Rattle.protocol.specs.Strings.{bit}
use Rattle.protocol.specs.Alphabet.{Alphabet, sym as symbol}
use Rattle.algebra.specs.Coded.{Coded}
use Rattle.protocol.specs.Setting.{Setting, alphabet_of, size_of}
use Rattle.protocol.specs.Shape.{Shape, per_tree, per_opened, l_of, w_of}
use Rattle.protocol.specs.Leaves.{opened_leaf}
use Rattle.protocol.specs.Sections.{Sections, sections_in}
use Rattle.protocol.specs.Questions.{tree_of}
use Rattle.protocol.specs.Verifier.{correction_at, W}
use Rattle.theorems.proofs.StringLaws.{bit_lt}
use Rattle.strings.specs.Sums.{byte_at}
use Rattle.strings.proofs.SumLaws.{sum_same}
use Rattle.strings.proofs.Meaning.{byte-sum, byte-bit, byte-times}
use Rattle.lanes.specs.Lanes.{lanes, lane_at}
use Rattle.format.proofs.FitLaws.{in_width}
use Rattle.tables_opened.specs.Opened.{correction_bit, w_byte, OpenedTableIs, Opened}
use Rattle.tables.proofs.SumsMeaning.{byte_of, per_tree_lem}

byte-zero : (K : Coded) → K.byte K.base.R.𝟘 ≡ 0
byte-zero K = ap K.byte (sym K.elem-zero) ∙ byte-bit K 0 (lit< tt)

byte-unless : (K : Coded) (b : Bool) (a : K.base.R.F) (y : ℕ) → K.byte a ≡ y → K.byte (cond b K.base.R.𝟘 a) ≡ cond b 0 y
byte-unless K true a y h = byte-zero K
byte-unless K false a y h = h

-- the sum of two numbers of elements is one
xor_element : (K : Coded) (x y : ℕ) → x < K.base.size → y < K.base.size → bit_xor x y < K.base.size
xor_element K x y h k = rw K.size_is (xor_lt K.degree x y (rw K.size_is at h) (rw K.size_is at k))

module _ (g : Setting) (s : Shape) (p : Sections) (opened : List ℕ) (c : ℕ) where
  abbrev A : Alphabet
  A = alphabet_of g

  abbrev w : ℕ
  w = w_of A s

  abbrev count : ℕ
  count = per_tree A

  tree-of : (e : ℕ) → tree_of A s opened e ≡ block_at opened ((count - 1) * w) e
  unfolding tree_of per_opened
  tree-of e = refl

  -- δ times a coordinate of C_e
  correction-times : (e δ : ℕ) → δ < size_of g → byte_of g (A.K.base.R.mul (A.K.elem δ) (correction_at A s p e c)) ≡ δ * correction_bit p.C w e c
  unfolding correction_at symbol
  correction-times zero δ h = ap (λ a. byte_of g (A.K.base.R.mul (A.K.elem δ) a)) (sym A.K.elem-zero) ∙ byte-times A.K δ 0 h (lit< tt)
  correction-times (suc e) δ h = byte-times A.K δ (bit (block_at p.C w e) c) h (bit_lt (block_at p.C w e) c)

  -- (j + δ) times a coordinate of leaf j, or 0 at j = δ
  leaf-times : (δ j : ℕ) (leaf : List ℕ) → δ < size_of g → j < size_of g
      → byte_of g (cond (eqb j δ) A.K.base.R.𝟘 (A.K.base.R.mul (A.K.base.R.add (A.K.elem j) (A.K.elem δ)) (symbol A leaf c)))
      ≡ cond (eqb j δ) 0 (bit_xor j δ * bit leaf c)
  unfolding symbol
  leaf-times δ j leaf h k =
      byte-unless A.K (eqb j δ) _ (bit_xor j δ * bit leaf c)
      (ap (λ a. byte_of g (A.K.base.R.mul a (A.K.elem (bit leaf c)))) (sym (A.K.elem_xor j δ))
      ∙ byte-times A.K (bit_xor j δ) (bit leaf c) (xor_element A.K j δ k h) (bit_lt leaf c))

  pub w_byte_lem : (e δ : ℕ) → δ < count → byte_of g (W A s p e δ (tree_of A s opened e) c) ≡ w_byte (block_at opened ((count - 1) * w) e) p.C count w e δ c
  unfolding W
  w_byte_lem e δ h =
      let d : δ < size_of g = rw (per_tree_lem g) at h in
      ap (λ t. byte_of g (W A s p e δ t c)) (tree-of e)
      ∙ A.K.byte-add _ (A.K.base.R.mul (A.K.elem δ) (correction_at A s p e c))
      ∙ ap₂ bit_xor
      (byte-sum A.K count _ ∙ sum_same count _ _ (λ j k. leaf-times δ j (opened_leaf w δ (block_at opened ((count - 1) * w) e) j) d (rw (per_tree_lem g) at k)))
      (correction-times e δ d)

  pub table_w : (table Δ : List ℕ) (τ e : ℕ) → OpenedTableIs table opened Δ p.C τ w count → e < τ → c < 8 * w → byte_at Δ e < count
      → byte_at table (c * lanes + e) ≡ byte_of g (W A s p e (byte_at Δ e) (tree_of A s opened e) c)
  table_w table Δ τ e is l h d = is e c l h ∙ sym (w_byte_lem e (byte_at Δ e) d)

-- a lane of what was opened
pub opened-lane : (g : Setting) (s : Shape) (Δ opened proof T : List ℕ) → Opened (alphabet_of g) s Δ opened proof T → ((i : ℕ) → byte_at Δ i < size_of g)
    → (e c : ℕ) → e < s.τ → c < l_of (alphabet_of g) s → lane_at T c e ≡ byte_of g (W (alphabet_of g) s (sections_in (alphabet_of g) s proof) e (byte_at Δ e) (tree_of (alphabet_of g) s opened e) c)
opened-lane g s Δ opened proof T is challenges e c l h = table_w g s (sections_in (alphabet_of g) s proof) opened c T Δ s.τ e is.table_is l (in_width g s c h) (rw (per_tree_lem g) (challenges e))
