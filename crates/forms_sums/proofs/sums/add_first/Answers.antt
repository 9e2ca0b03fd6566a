-- `forms_sums::sums::add_first` meets its contract. Each element of a chunk is changed once (`Elementwise`).
-- Assumes nothing.
use Rattle.std.proofs.Common.{ℕ, List, ◌≡◌, refl, ap, ◌∙◌, arith}
use lib.Bits.{bit_xor}
use Rattle.strings.specs.Sums.{byte_at}
use Rattle.strings.proofs.Elementwise.{changed, changed_more, changed-at, changed-past}
use Rattle.chunks.specs.Chunks.{chunk}
use Rattle.forms_sums.proofs.sums.add_first.Goals as goal

pub loop-f-init : goal.loop-f-init
unfolding changed
loop-f-init c = refl

pub loop-f-preserved : goal.loop-f-preserved
loop-f-preserved c =
    let a = c.args in
    let l = c.loop-f in
    changed_more (λ (k x : ℕ). bit_xor x (byte_at a.sums.now k)) a.dst.now l.dst l.f _ l.invariant refl

pub returns : goal.returns
returns c =
    let a = c.args in
    let l = c.loop-f in
    let change = λ (k x : ℕ). bit_xor x (byte_at a.sums.now k) in
    let end : l.f ≡ chunk = omega arith in
    let is : l.dst ≡ changed change a.dst.now chunk = rw end at l.invariant in record {
      by_index = (λ f h. ap (λ (d : List ℕ). byte_at d f) is ∙ changed-at change a.dst.now chunk f c.requires.0 h);
      by_index_2 = (λ f h. ap (λ (d : List ℕ). byte_at d f) is ∙ changed-past change a.dst.now chunk f h);
    }
