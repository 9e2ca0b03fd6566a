-- Hiding needs a mask for each repetition: it "rests on" request 4. With one mask for all repetitions, as 01 had it,
-- the choices of hidden leaves that give a view with another solution are counted here, and there are none. The field
-- is GF(4), so that all choices can be gone through; n = 2, m = 1, τ = 2, t = 1.
-- proofs/SharedMask computes each statement.
--   gf4 == two bits, modulo X^2 + X + 1;  tiny == bits over it
--   single s == the sizes with one repetition: its lengths are those of one mask
--   shared_proof s key leaves x H' χ == the six sections as 01 had them, one after the other, without their counts
--   key, leaves, H', χ, proof == the example: the one equation is x_0·x_1 = 0, and a leaf has five bits
--   choices x Δ == how many of all hidden leaves at Δ with spare bits 0 give that proof with x
-- Assumes nothing.
use Rattle.std.specs.Prelude.{◌≡◌, List, [], ◌∷◌, ◌++◌, ℕ, suc, ◌-◌, eqb}
use Rattle.algebra.specs.Coded.{Coded}
use Rattle.algebra.specs.Bits.{elem}
use Rattle.algebra.specs.BitField.{Passes, computing}
use Rattle.algebra.specs.Count.{count, words, same}
use Rattle.algebra.proofs.BitFieldLaws.{coded}
use Rattle.protocol.specs.Lists.{table, concat}
use Rattle.protocol.specs.Alphabet.{Alphabet}
use Rattle.protocol.specs.Binary.{binary}
use Rattle.protocol.specs.Shape.{Shape, l_of}
use Rattle.protocol.specs.Forms.{hash, mask_of, batch}
use Rattle.protocol.specs.Prover.{u, v, correction, d_of, a₀, a₁}
use Rattle.hiding.specs.Hidden.{with_hidden}
use Rattle.hiding.specs.Hiding.{HiddenLeaves}

abbrev pub modulus : ℕ
modulus = 0x7

pub passes : Passes 2 (elem 2 modulus)
unfolding computing
passes = record { least? = tt; most? = tt; commutes? = tt; associates? = tt; one? = tt; inverts? = tt }

abbrev pub gf4 : Coded
gf4 = coded 2 (elem 2 modulus) passes

abbrev pub tiny : Alphabet
tiny = binary gf4

abbrev pub single : Shape → Shape
single s = record { n = s.n; m = s.m; τ = 1; t = s.t }

module _ (A : Alphabet) (s : Shape) (key leaves x H' χ : List ℕ) where
  open A use {K, symbol_of, pack}
  open K use {base, byte}
  open base use {R}
  open R use {F, add as ◌⊕◌}

  infixl 65 ◌⊕◌
  abbrev o : Shape
  o = single s

  -- the mask of repetition 0 in every repetition
  unfoldable pub shared_qs0 : ℕ → F
  shared_qs0 e = batch A o χ e (a₀ A o leaves key e) ⊕ mask_of A o 0 (v A o leaves e)

  unfoldable pub shared_qs1 : ℕ → F
  shared_qs1 e = batch A o χ e (a₁ A o leaves key x e) ⊕ mask_of A o 0 (u A o leaves 0)

  unfoldable pub shared_proof : List ℕ
  shared_proof =
      concat (table (s.τ - 1) (λ e. pack (l_of A o) (λ c. symbol_of (correction A o leaves (suc e) c))))
      ++ (pack s.n (λ c. symbol_of (d_of A o leaves x c))
      ++ (pack s.t (λ ρ. symbol_of (hash A o H' ρ (u A o leaves 0)))
      ++ (concat (table s.τ (λ e. table s.t (λ ρ. byte (hash A o H' ρ (v A o leaves e))))) ++ (table s.τ (λ e. byte (shared_qs0 e)) ++ table s.τ (λ e. byte (shared_qs1 e))))))

abbrev pub sizes : Shape
sizes = record { n = 2; m = 1; τ = 2; t = 1 }

unfoldable pub key : List ℕ
key =
    0x02 ∷ 0x00 ∷ 0x01 ∷ 0x00 ∷ 0x02 ∷ 0x00 ∷ 0x01 ∷ 0x00
    ∷ 0x02 ∷ 0x00 ∷ 0x00 ∷ 0x00 ∷ 0x02 ∷ 0x00
    ∷ 0x01 ∷ 0x00 ∷ 0x00 ∷ 0x00 ∷ 0x00
    ∷ 0x01 ∷ 0x00 ∷ 0x00 ∷ 0x00 ∷ 0x00 ∷ []

unfoldable pub leaves : List ℕ
leaves = 0x10 ∷ 0x16 ∷ 0x01 ∷ 0x1D ∷ 0x0F ∷ 0x03 ∷ 0x0A ∷ 0x07 ∷ []

unfoldable pub H' : List ℕ
H' = 0x0B ∷ []

unfoldable pub χ : List ℕ
χ = 0x02 ∷ 0x01 ∷ []

unfoldable pub proof : List ℕ
proof = 0x1B ∷ 0x03 ∷ 0x01 ∷ 0x01 ∷ 0x00 ∷ 0x01 ∷ 0x00 ∷ 0x00 ∷ 0x02 ∷ []

abbrev pub choices : List ℕ → List ℕ → ℕ
choices x Δ = count (λ hidden. same eqb (shared_proof tiny sizes key (with_hidden tiny sizes leaves Δ hidden) x H' χ) proof) (words (table 32 (λ i. i)) 2)

-- The proof is that of x = 10, coordinate 0 first. 00 and 01 solve the equation too.
pub record SharedMask : Type 0 where
  pub proof_is : shared_proof tiny sizes key leaves (0x01 ∷ []) H' χ ≡ proof
  pub own : choices (0x01 ∷ []) (0x01 ∷ 0x02 ∷ []) ≡ 1
  pub other : choices (0x02 ∷ []) (0x01 ∷ 0x02 ∷ []) ≡ 0
  -- and at Δ = 0
  pub other₀ : choices (0x00 ∷ []) (0x00 ∷ 0x00 ∷ []) ≡ 0

-- With a mask for each repetition the theorem holds over this field too.
abbrev pub TinyHiding : Type 0
TinyHiding = HiddenLeaves tiny
