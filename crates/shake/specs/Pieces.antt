-- SHAKE256 piece by piece: the lanes, with how many bytes of the present block have been absorbed, or given. That is
-- the place of the next byte, and below the rate.
--   Held == lanes and place
--   settled s at == the lanes s with the place `at`, after a permutation where a block is full
--   absorbed h p == the held state h after the bytes p;  finished h == after the padding, ready to give bytes
--   given h n == the next n bytes;  after h n == the state after them
-- Laws (proofs/PieceLaws): `absorbed-append`, pieces absorbed one after the other are absorbed at once; `given_more`,
-- and bytes given so; `shake_is`, what is given after a message and its padding is SHAKE256 of it.
-- Assumes nothing.
use Rattle.std.specs.Prelude.{List, [], ◌∷◌, Bool, true, false, ℕ, zero, suc, ◌-◌, eqb}
use Rattle.sponge.specs.Lanes.{zero_state}
use Rattle.sponge.specs.Keccak.{keccak}
use Rattle.sponge.specs.Sponge.{byte_in, added, rate, suffix, last_bit}

abbrev pub Held : Type 0
Held = List ℕ × ℕ

unfoldable pub either : Bool → Held → Held → Held
either true a b = a
either false a b = b

unfoldable pub settled : List ℕ → ℕ → Held
settled s at = either (eqb at rate) (keccak s, 0) (s, at)

unfoldable pub fresh : Held
fresh = (zero_state, 0)

unfoldable pub absorbed : Held → List ℕ → Held
absorbed h [] = h
absorbed h (b ∷ p) = absorbed (settled (added h.0 h.1 b) (suc h.1)) p

unfoldable pub finished : Held → Held
finished h = (keccak (added (added h.0 h.1 suffix) (rate - 1) last_bit), 0)

unfoldable pub given : Held → ℕ → List ℕ
given h zero = []
given h (suc n) = byte_in h.0 h.1 ∷ given (settled h.0 (suc h.1)) n

unfoldable pub after : Held → ℕ → Held
after h zero = h
after h (suc n) = after (settled h.0 (suc h.1)) n
