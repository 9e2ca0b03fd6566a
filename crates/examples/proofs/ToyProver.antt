-- What the prover's rules give for the toy, computed.
-- Assumes nothing.
use mathlib.Core.Path.{◌≡◌, refl, ap, ap₂, ◌∙◌}
use mathlib.Core.List.{[], ◌∷◌}
use lib.ListN.{length}
use Rattle.protocol.specs.Lists.{table}
use Rattle.protocol.specs.Alphabet.{sym}
use Rattle.protocol.specs.Shape.{l_of}
use Rattle.protocol.specs.Sections.{bytes_of}
use Rattle.protocol.specs.Forms.{quad, middle, hash, mask_of, batch}
use Rattle.protocol.specs.Prover.{u, v, proof_of}
use Rattle.examples.specs.Toy.{A, s, key, leaves, x, H', χ, proof}
use Rattle.examples.specs.PublishedEntries.{sections}
use Rattle.examples.proofs.ToyComputing.{computing}
use Rattle.examples.proofs.ToyLeaves.{R, toy, u_few, v_few}

pub u_is : A.pack (l_of A s) (λ c. A.symbol_of (u A s leaves 0 c)) ≡ 0x07 ∷ 0x04 ∷ []
unfolding computing
u_is = ap (λ f. A.pack 11 (λ c. A.symbol_of (f c))) u_few ∙ refl

pub v_is : table (l_of A s) (λ c. A.K.byte (v A s leaves 0 c)) ≡ 0x02 ∷ 0x03 ∷ 0x02 ∷ 0x00 ∷ 0x00 ∷ 0x00 ∷ 0x00 ∷ 0x00 ∷ 0x00 ∷ 0x00 ∷ 0x03 ∷ []
unfolding computing
v_is = ap (λ f. table 11 (λ c. A.K.byte (f c))) v_few ∙ refl

pub C_is : sections.C ≡ []
unfolding computing
C_is = refl

pub d_is : sections.d ≡ 0x02 ∷ []
unfolding computing
d_is = ap (λ f. A.pack 2 (λ c. A.symbol_of (R.add (sym A x c) (f c)))) u_few ∙ refl

pub ũ_is : sections.ũ ≡ 0x01 ∷ []
unfolding computing
ũ_is = ap (λ f. A.pack 1 (λ ρ. A.symbol_of (hash A toy H' ρ f))) u_few ∙ refl

pub Ṽ_is : sections.Ṽ ≡ 0x03 ∷ []
unfolding computing
Ṽ_is = ap (λ f. A.K.byte (hash A toy H' 0 f) ∷ []) v_few ∙ refl

pub QS0_is : sections.QS0 ≡ 0x1C ∷ []
unfolding computing
QS0_is = ap (λ f. A.K.byte (R.add (batch A toy χ 0 (λ i. quad A toy key i f f)) (mask_of A toy 0 f)) ∷ []) v_few ∙ refl

pub QS1_is : sections.QS1 ≡ 0x04 ∷ []
unfolding computing
QS1_is = ap₂ (λ f g. A.K.byte (R.add (batch A toy χ 0 (λ i. middle A toy key i f (sym A x))) (mask_of A toy 0 g)) ∷ []) v_few u_few ∙ refl

all-six : sections ≡ record { C = []; d = 0x02 ∷ []; ũ = 0x01 ∷ []; Ṽ = 0x03 ∷ []; QS0 = 0x1C ∷ []; QS1 = 0x04 ∷ [] }
all-six = λ i. record { C = C_is i; d = d_is i; ũ = ũ_is i; Ṽ = Ṽ_is i; QS0 = QS0_is i; QS1 = QS1_is i }

written : bytes_of (record { C = []; d = 0x02 ∷ []; ũ = 0x01 ∷ []; Ṽ = 0x03 ∷ []; QS0 = 0x1C ∷ []; QS1 = 0x04 ∷ [] }) ≡ proof
unfolding computing
written = refl

pub proof_is : proof_of A key leaves x H' χ ≡ proof
unfolding proof_of
proof_is = ap bytes_of all-six ∙ written

pub proof-length : length (proof_of A key leaves x H' χ) ≡ 29
unfolding computing
proof-length = ap length proof_is ∙ refl
