-- `chunks::masks::fill_mask` meets its contract. Each element is changed once (`Elementwise`).
-- Assumes nothing.
use Rattle.std.proofs.Common.{◌≡◌, ℕ, ◌*◌, List}
use Rattle.strings.specs.Sums.{byte_at, bit_of}
use Rattle.strings.proofs.Elementwise.{changed}
use Rattle.chunks.proofs.masks.fill_mask.Given as goal

abbrev pub change : List ℕ → ℕ → ℕ → ℕ → ℕ
change v b k x = bit_of (byte_at v k) b * 255

abbrev pub invariant-loop-f : goal.invariant-loop-f
invariant-loop-f l = l.out ≡ changed (change l.v l.b) l.initial.out l.f
