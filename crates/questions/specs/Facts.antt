-- What each call knows once its questions on form got a yes. In each definition A is the alphabet.
--   KeyFacts s key == of the key;  WitnessForm s x == of the witness
--   LeavesForm s leaves == of full leaves;  HashForm s H' == of H'
--   ProofForm s proof == the proof is its sections, each of its length (question 12)
--   SectionIs s proof i r == r is section i of the proof, and has its length
--   ProofOf s p == so it is of the bytes of p, and p names these sections
--   ProofAsked s proof result == the answer to questions 12, 13 and 18; and where that is accepted, the proof with its
--     sections
--   TestFacts, CommitFacts, HashFacts, BatchFacts, ProveFacts == of all inputs that a call goes on with, and of its
--     output's length
-- Assumes nothing.
use Rattle.std.specs.Prelude.{◌≡◌, true, List, ℕ, ◌+◌, ◌*◌, ◌-◌, ◌≤◌, length, get_or, Result, IfOk}
use Rattle.protocol.specs.Strings.{bytes_for, spare_zero}
use Rattle.protocol.specs.Alphabet.{Alphabet, elements_in}
use Rattle.protocol.specs.Shape.{Shape, limits, per_tree, w_of}
use Rattle.protocol.specs.Key.{key_exact, key_spare}
use Rattle.protocol.specs.Frames.{framed, section_no}
use Rattle.protocol.specs.Sections.{lengths}
use Rattle.protocol.specs.Answers.{ask}
use Rattle.protocol.specs.Questions.{leaves_exact, leaves_spare, h_exact, h_spare}
use Rattle.format.specs.Verdict.{told}
use Rattle.format.specs.declared.Refusal.{Refusal}
use Rattle.sections.specs.declared.reader.Proof.{Proof}
use Rattle.questions.specs.Asking.{proof_questions}

pub record KeyFacts (A : Alphabet) (s : Shape) (key : List ℕ) : Type 0 where
  pub header : 8 ≤ length key
  pub in-range : limits s ≡ true
  pub key-exact : key_exact A s key ≡ true
  pub key-spare : key_spare A s key ≡ true

pub record WitnessForm (A : Alphabet) (s : Shape) (x : List ℕ) : Type 0 where
  pub witness-length : length x ≡ bytes_for s.n
  pub witness-spare : spare_zero x s.n ≡ true

pub record LeavesForm (A : Alphabet) (s : Shape) (leaves : List ℕ) : Type 0 where
  pub leaves-exact : leaves_exact A s (per_tree A) leaves ≡ true
  pub leaves-spare : leaves_spare A s (per_tree A) leaves ≡ true

pub record HashForm (A : Alphabet) (s : Shape) (H' : List ℕ) : Type 0 where
  pub hash-exact : h_exact A s H' ≡ true
  pub hash-spare : h_spare A s H' ≡ true

abbrev pub ProofForm : Alphabet → Shape → List ℕ → Type 0
ProofForm A s proof = framed (lengths A s) proof ≡ true

abbrev pub SectionIs : Alphabet → Shape → List ℕ → ℕ → List ℕ → Type 0
SectionIs A s proof i r = (r ≡ section_no (lengths A s) i proof) × (length r ≡ get_or (lengths A s) i 0)

pub record ProofOf (A : Alphabet) (s : Shape) (p : Proof) : Type 0 where
  pub form : ProofForm A s p.bytes.now
  pub c_is : SectionIs A s p.bytes.now 0 p.c.now
  pub d_is : SectionIs A s p.bytes.now 1 p.d.now
  pub u_is : SectionIs A s p.bytes.now 2 p.u.now
  pub v_is : SectionIs A s p.bytes.now 3 p.v.now
  pub qs0_is : SectionIs A s p.bytes.now 4 p.qs0.now
  pub qs1_is : SectionIs A s p.bytes.now 5 p.qs1.now

abbrev pub ProofAsked : Alphabet → Shape → List ℕ → Result Proof Refusal → Type 0
ProofAsked A s proof result = (told result ≡ ask (proof_questions A s proof)) × IfOk result (λ p. (p.bytes.now ≡ proof) × ProofOf A s p)

pub record TestFacts (A : Alphabet) (s : Shape) (key x : List ℕ) : Type 0 where
  pub of-key : KeyFacts A s key
  pub of_witness : WitnessForm A s x

pub record CommitFacts (A : Alphabet) (s : Shape) (leaves x out : List ℕ) : Type 0 where
  pub in-range : limits s ≡ true
  pub of_leaves : LeavesForm A s leaves
  pub of_witness : WitnessForm A s x
  pub of_out : length out ≡ 8 + (s.τ - 1) * w_of A s + bytes_for s.n

pub record HashFacts (A : Alphabet) (s : Shape) (leaves H' out : List ℕ) : Type 0 where
  pub in-range : limits s ≡ true
  pub of_hash : HashForm A s H'
  pub of_leaves : LeavesForm A s leaves
  pub of_out : length out ≡ 8 + bytes_for s.t + s.τ * s.t

pub record BatchFacts (A : Alphabet) (s : Shape) (key leaves x χ out : List ℕ) : Type 0 where
  pub of-key : KeyFacts A s key
  pub of_batching : length χ ≡ s.τ * s.m
  pub of_elements : elements_in A χ ≡ true
  pub of_leaves : LeavesForm A s leaves
  pub of_witness : WitnessForm A s x
  pub of_out : length out ≡ 8 + s.τ + s.τ

pub record ProveFacts (A : Alphabet) (s : Shape) (key leaves x H' χ out : List ℕ) : Type 0 where
  pub of-key : KeyFacts A s key
  pub of_hash : HashForm A s H'
  pub of_batching : length χ ≡ s.τ * s.m
  pub of_elements : elements_in A χ ≡ true
  pub of_leaves : LeavesForm A s leaves
  pub of_witness : WitnessForm A s x
  pub of_out : length out ≡ 24 + (s.τ - 1) * w_of A s + bytes_for s.n + bytes_for s.t + s.τ * s.t + s.τ + s.τ
