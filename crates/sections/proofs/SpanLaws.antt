-- What `find` says of a span, once the span has been taken apart.
-- Assumes nothing.
use mathlib.Core.Path.{◌≡◌, sym, ap, ◌∙◌, subst}
use mathlib.Core.List.{List}
use Prim.Native.Nat.{ℕ, ◌≤◌}
use lib.ListN.{length}
use Rattle.protocol.specs.Reader.{Extent, between, missing}
use Rattle.sections.specs.Span.{extent_of, Inside}
use Rattle.sections.specs.declared.Span.{Span}
use Rattle.sections.specs.declared.Span.TheVariants.{At, Missing}

pub found : {r : Span} {x : Extent} {a e : ℕ} → r ≡ At a e → extent_of r ≡ x → between a e ≡ x
found p h = sym (ap extent_of p) ∙ h

pub not_found : {r : Span} {x : Extent} → r ≡ Missing → extent_of r ≡ x → missing ≡ x
not_found p h = sym (ap extent_of p) ∙ h

pub found_inside : (s : List ℕ) {r : Span} {a e : ℕ} → r ≡ At a e → Inside s r → (a ≤ e) × (e ≤ length s)
found_inside s p h = subst (Inside s) p h
