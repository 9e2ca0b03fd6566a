-- `sections::find` meets its contract. A section that is cut is missing, one that is whole is found (`SectionLaws`).
-- Assumes nothing.
use native.Mathlib.Omega.{arith}
use Rattle.sections.proofs.SectionLaws.{section-short, section-cut, section-whole}
use Rattle.sections.proofs.find.Goals as goal

pub returns-then-s-at : goal.returns-then-s-at
returns-then-s-at c = record { result_value = section-short _ _ (omega arith); inside = tt }

pub returns-then-s-at-lt-COUNT : goal.returns-then-s-at-lt-COUNT
returns-then-s-at-lt-COUNT c = record { result_value = section-short _ _ (omega arith); inside = tt }

pub returns-then-s-start : goal.returns-then-s-start
returns-then-s-start c = record { result_value = section-cut _ _ (omega arith); inside = tt }

pub returns : goal.returns
returns c = record { result_value = rw c.number4-count.ensures.0 (section-whole _ _ (omega arith)); inside = omega arith }
