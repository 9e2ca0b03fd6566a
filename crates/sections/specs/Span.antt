-- What each case of a span stands for.
--   extent_of span == from its start up to its end, or missing;  Inside s span == a section that is there lies within
--     the string s
-- Assumes nothing.
use Rattle.std.specs.Prelude.{List, ℕ, ◌≤◌, length}
use Rattle.protocol.specs.Reader.{Extent, between, missing}
use Rattle.sections.specs.declared.Span.{Span}
use Rattle.sections.specs.declared.Span.TheVariants.{At, Missing}

abbrev pub extent_of : Span → Extent
extent_of (At start end) = between start end
extent_of Missing = missing

abbrev pub Inside : List ℕ → Span → Type 0
Inside s (At start end) = (start ≤ end) × (end ≤ length s)
Inside s Missing = Unit {0}
