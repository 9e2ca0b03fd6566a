-- Conjunctions as the code writes them, of results that are each a test's, are lists of tests that all hold.
-- Assumes nothing.
use mathlib.Core.Path.{◌≡◌, refl, sym, ap₂, ◌∙◌}
use mathlib.Core.Bool.{Bool, true, false, ◌&&◌}
use mathlib.Core.List.{[], ◌∷◌}
use Rattle.protocol.specs.Lists.{all_true}
use Rattle.theorems.proofs.TestLaws.{and-true}

and_assoc : (a b c : Bool) → (a && b && c) ≡ (a && (b && c))
and_assoc true b c = refl
and_assoc false b c = refl

pub all_one : {a p : Bool} → p ≡ a → p ≡ all_true (a ∷ [])
all_one {a} e = e ∙ sym (and-true a)

pub all_two : {a b p q : Bool} → p ≡ a → q ≡ b → (p && q) ≡ all_true (a ∷ b ∷ [])
all_two e f = ap₂ ◌&&◌ e (all_one f)

pub all_three : {a b c p q r : Bool} → p ≡ a → q ≡ b → r ≡ c → (p && q && r) ≡ all_true (a ∷ b ∷ c ∷ [])
all_three {p = p} {q} {r} e f g = and_assoc p q r ∙ ap₂ ◌&&◌ e (all_two f g)

pub all-four : {a b c d p q r s : Bool} → p ≡ a → q ≡ b → r ≡ c → s ≡ d → (p && q && r && s) ≡ all_true (a ∷ b ∷ c ∷ d ∷ [])
all-four {p = p} {q} {r} {s} e f g h = and_assoc (p && q) r s ∙ and_assoc p q (r && s) ∙ ap₂ ◌&&◌ e (sym (and_assoc q r s) ∙ all_three f g h)
