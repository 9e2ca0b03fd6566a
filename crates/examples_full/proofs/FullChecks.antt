-- The full example opened and verified: W is computed by walking the opened leaves, and the checks from a table of it.
--   w-0, w_1 == W_0 and W_1, a byte for each coordinate
-- Assumes nothing.
use mathlib.Core.Path.{◌≡◌, refl, sym, ap, ◌∙◌, subst}
use mathlib.Core.Bool.{true}
use mathlib.Core.List.{List, [], ◌∷◌}
use Prim.Native.Nat.{ℕ, zero, suc, ◌<◌}
use native.Mathlib.Omega.{arith}
use Rattle.galois.specs.Gf256.{gf256}
use Rattle.galois.specs.Degrees.{field_of}
use Rattle.protocol.specs.Binary.{bits256}
use Rattle.protocol.specs.Shape.{per_tree}
use Rattle.protocol.specs.Sections.{Sections, sections_in}
use Rattle.protocol.specs.Verifier.{W, consistent, product_holds, consistent_at, product_at}
use Rattle.protocol.specs.Questions.{tree_of, consistent_in, product_in}
use Rattle.protocol.specs.Calls.{verify_form}
use Rattle.protocol.specs.Check.{eight}
use Rattle.protocol.proofs.Computing.{computing}
use Rattle.theorems.proofs.Theorems.{accepts_exactly}
use Rattle.examples_full.specs.FullExample.{sizes, key, leaves, H', χ, Δ, proof, opened, coordinates, FullOpening, FullAccepts}
use Rattle.examples_full.proofs.TreeLaws.{opened_weighed, W_walked}
use Rattle.examples_full.proofs.TableLaws.{entry, Near, near, consistent_is, product_is}
use Rattle.examples_full.proofs.FullSums.{full-sums}

pub full-opening : FullOpening
unfolding computing leaves Δ opened
full-opening = refl

unfoldable w_0 : List ℕ
w_0 = 0x61 ∷ 0xAF ∷ 0xE8 ∷ 0x09 ∷ 0x0D ∷ 0x71 ∷ 0x3E ∷ 0x08 ∷ 0x4A ∷ 0x08 ∷ 0x6C ∷ 0xE3 ∷ 0x7B ∷ 0x36 ∷ 0xBE ∷ 0xDD ∷ 0xEA ∷ 0xAD ∷ 0x11 ∷ 0x9F ∷ 0x55 ∷ 0x65 ∷ 0x7E ∷ 0x5B ∷ 0x7C ∷ 0x72 ∷ 0xDE ∷ 0x27 ∷ 0x55 ∷ 0x9D ∷ []

unfoldable w_1 : List ℕ
w_1 = 0x38 ∷ 0xB7 ∷ 0xED ∷ 0x9C ∷ 0xD3 ∷ 0x62 ∷ 0x9E ∷ 0x15 ∷ 0xAD ∷ 0x6D ∷ 0xC2 ∷ 0x1C ∷ 0x6A ∷ 0x41 ∷ 0x95 ∷ 0xCA ∷ 0xFA ∷ 0x78 ∷ 0x0F ∷ 0xC7 ∷ 0xB7 ∷ 0x1A ∷ 0x69 ∷ 0xB9 ∷ 0x23 ∷ 0xC5 ∷ 0xE7 ∷ 0xED ∷ 0x0A ∷ 0x8D ∷ []

abbrev p : Sections
p = sections_in bits256 sizes proof

w_0_walked : coordinates (opened_weighed gf256 sizes p 0 0xCB 0x34 (tree_of bits256 sizes opened 0)) ≡ w_0
unfolding computing proof opened w_0
w_0_walked = refl

w_1_walked : coordinates (opened_weighed gf256 sizes p 1 0xC6 0x39 (tree_of bits256 sizes opened 1)) ≡ w_1
unfolding computing proof opened w_1
w_1_walked = refl

w_0_is : coordinates (W bits256 sizes p 0 0xCB (tree_of bits256 sizes opened 0)) ≡ w_0
unfolding per_tree
w_0_is = ap coordinates (λ i c. W_walked gf256 sizes p 0 0xCB 0x34 (tree_of bits256 sizes opened 0) c refl i) ∙ w_0_walked

w_1_is : coordinates (W bits256 sizes p 1 0xC6 (tree_of bits256 sizes opened 1)) ≡ w_1
unfolding per_tree
w_1_is = ap coordinates (λ i c. W_walked gf256 sizes p 1 0xC6 0x39 (tree_of bits256 sizes opened 1) c refl i) ∙ w_1_walked

well_formed_lem : verify_form eight key Δ H' χ opened proof ≡ true
unfolding computing key Δ H' χ opened proof
well_formed_lem = refl

-- both checks, of a vector for W
abbrev Checks : ℕ → ℕ → (ℕ → gf256.base.R.F) → Type 0
Checks e δ f = (consistent bits256 sizes H' p e (gf256.elem δ) f ≡ true) × (product_holds bits256 sizes key χ p e (gf256.elem δ) f ≡ true)

checks_0 : Checks 0 0xCB (entry gf256 sizes w_0)
unfolding computing key H' χ proof w_0
checks_0 = (refl, refl)

checks_1 : Checks 1 0xC6 (entry gf256 sizes w_1)
unfolding computing key H' χ proof w_1
checks_1 = (refl, refl)

from-table : (e δ : ℕ) (f g : ℕ → gf256.base.R.F) → e < 2 → Near gf256 sizes f g → Checks e δ g → Checks e δ f
from-table e δ f g l n k = (consistent_is gf256 sizes H' p e (gf256.elem δ) f g n ∙ k.0, product_is gf256 sizes key χ p e (gf256.elem δ) f g l n ∙ k.1)

checks : (e : ℕ) → e < 2 → (consistent_in bits256 sizes Δ H' opened proof e ≡ true) × (product_in bits256 sizes key Δ χ opened proof e ≡ true)
unfolding consistent_in product_in consistent_at product_at Δ
checks zero l = from-table 0 0xCB _ (entry gf256 sizes w_0) l (near gf256 sizes _ w_0 w_0_is) checks_0
checks (suc zero) l = from-table 1 0xC6 _ (entry gf256 sizes w_1) l (near gf256 sizes _ w_1 w_1_is) checks_1
checks (suc (suc e)) l = absurd (omega arith)

pub full-accepts : FullAccepts
unfolding field_of
full-accepts =
    (accepts_exactly eight key Δ H' χ opened proof well_formed_lem).1
    (subst (λ s. (e : ℕ) → e < s.τ → (consistent_in bits256 s Δ H' opened proof e ≡ true) × (product_in bits256 s key Δ χ opened proof e ≡ true)) (sym full-sums.header_is) checks)
