-- What each case of the code's enums stands for in 01.
--   number_for reason == the number of the question that was answered no;  answer_of verdict == the answer
--   told result == the answer that a result of questions stands for: its refusal, or accepted, whatever it gives then
--   and_then a b == the answer a where it refuses, else b
-- Assumes nothing.
use Rattle.std.specs.Prelude.{ℕ, Result, Ok, Err}
use Rattle.protocol.specs.Answers.{Answer, accepted, refused}
use Rattle.format.specs.declared.Reason.{Reason}
use Rattle.format.specs.declared.Reason.TheVariants.{ShortHeader, SizeOutOfRange, KeyLength, KeySpareBit, ChallengeLength, HashSpareBit, LeafLength, LeafSpareBit, WitnessForm, OutputLength, EquationFails, ProofLength, ProofSpareBit, Inconsistent, ProductDiffers, DegreeUnserved, ChallengeElement, ProofElement}
use Rattle.format.specs.declared.Refusal.{Refusal}
use Rattle.format.specs.declared.Verdict.{Verdict}
use Rattle.format.specs.declared.Verdict.TheVariants.{Accepted, Refused}

abbrev pub number_for : Reason → ℕ
number_for ShortHeader = 1
number_for SizeOutOfRange = 2
number_for KeyLength = 3
number_for KeySpareBit = 4
number_for ChallengeLength = 5
number_for HashSpareBit = 6
number_for LeafLength = 7
number_for LeafSpareBit = 8
number_for WitnessForm = 9
number_for OutputLength = 10
number_for EquationFails = 11
number_for ProofLength = 12
number_for ProofSpareBit = 13
number_for Inconsistent = 14
number_for ProductDiffers = 15
number_for DegreeUnserved = 16
number_for ChallengeElement = 17
number_for ProofElement = 18

abbrev pub answer_of : Verdict → Answer
answer_of Accepted = accepted
answer_of (Refused r) = refused (number_for r.number) r.place

abbrev pub told : {T : Type 0} → Result T Refusal → Answer
told (Ok x) = accepted
told (Err r) = refused (number_for r.number) r.place

unfoldable pub and_then : Answer → Answer → Answer
and_then accepted b = b
and_then (refused i p) b = refused i p
