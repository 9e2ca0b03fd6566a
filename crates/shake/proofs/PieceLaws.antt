-- SHAKE256 piece by piece is SHAKE256: pieces absorbed one after the other are absorbed at once, and the bytes given
-- are those of the definition.
-- Assumes nothing.
use mathlib.Core.Path.{◌≡◌, refl, sym, ap, ap₂, ◌∙◌}
use mathlib.Core.List.{List, [], ◌∷◌, ◌++◌}
use Prim.Native.Nat.{ℕ, zero, suc, ◌+◌, ◌*◌, ◌-◌, ◌/◌, ◌%◌, ◌≤◌, ◌<◌}
use mathlib.Core.Logic.{⊎_elim}
use native.Mathlib.Nat.{add-zero, eq-or-lt_of_le, le_of_suc-le-suc, mod-eq_of_lt}
use native.Mathlib.Numerals.{add-one}
use native.Mathlib.Omega.{arith}
use lib.ListN.{length, take, drop, length-append, length-drop, take-append-drop, drop_of_length-le}
use lib.Seq.{length-take-le, take-append-le, drop-append-le, take_all}
use borrow.Author.Tests.{eq-eqb, ne_eqb}
use Rattle.sponge.specs.Keccak.{keccak}
use Rattle.sponge.specs.Lanes.{listed, lane_count, zero_state}
use Rattle.sponge.specs.Sponge.{byte_in, added, added_all, padding, padded, blocks, absorbing, squeezing, shake256, rate, suffix, last_bit}
use Rattle.shake.specs.Pieces.{Held, either, settled, fresh, absorbed, finished, given, after}
use Rattle.shake.proofs.StateLaws.{all-length, all_append, padding_is, padding-length, keccak-length}

pub full : (s : List ℕ) (at : ℕ) → at ≡ rate → settled s at ≡ (keccak s, 0)
unfolding settled either
full s at e = ap (λ t. either t (keccak s, 0) (s, at)) (eq-eqb at rate e)

pub rest : (s : List ℕ) (at : ℕ) → (at ≡ rate → ⊥) → settled s at ≡ (s, at)
unfolding settled either
rest s at h = ap (λ t. either t (keccak s, 0) (s, at)) (ne_eqb at rate h)

pub part : (s : List ℕ) (at : ℕ) → at < rate → settled s at ≡ (s, at)
part s at h = rest s at (λ e. omega arith)

pub in_block : (s : List ℕ) (at : ℕ) → at < rate → ◌≡◌ {A = Held} (s, at % rate) (s, at)
in_block s at h = ap (λ k. (s, k)) (mod-eq_of_lt h)

-- absorbing a and then b is absorbing both at once
pub absorbed-append : (a b : List ℕ) (h : Held) → absorbed h (a ++ b) ≡ absorbed (absorbed h a) b
unfolding absorbed
absorbed-append [] b h = refl
absorbed-append (x ∷ a) b h = absorbed-append a b (settled (added h.0 h.1 x) (suc h.1))

-- a piece within a block
pub absorbed-part : (p s : List ℕ) (at : ℕ) → at < rate → at + length p ≤ rate → absorbed (s, at) p ≡ settled (added_all s at p) (at + length p)
unfolding absorbed added_all
absorbed-part [] s at h k = sym (ap (settled s) (add-zero at) ∙ part s at h)
absorbed-part (b ∷ []) s at h k = ap (settled (added s at b)) (let e : suc at ≡ at + 1 = omega arith in e)
absorbed-part (b ∷ c ∷ p) s at h k =
    ap (λ g. absorbed g (c ∷ p)) (part (added s at b) (suc at) (omega arith))
    ∙ absorbed-part (c ∷ p) (added s at b) (suc at) (omega arith) (omega arith)
    ∙ ap (settled (added_all (added s at b) (suc at) (c ∷ p))) (let e : suc at + length (c ∷ p) ≡ at + length (b ∷ c ∷ p) = omega arith in e)

-- the last, partial block with its padding
last_block : (m s : List ℕ) → length m < rate → length s ≡ lane_count → finished (absorbed (s, 0) m) ≡ (keccak (added_all s 0 (m ++ padding (rate - length m))), 0)
unfolding finished
last_block m s h l =
    ap finished (absorbed-part m s 0 (omega arith) (omega arith) ∙ part (added_all s 0 m) (0 + length m) (omega arith))
    ∙ ap (λ t. (keccak t, 0))
    (sym (padding_is (rate - length m) (0 + length m) (added_all s 0 m) (omega arith) (omega arith) (all-length m s 0 ∙ l)) ∙ sym (all_append m (padding (rate - length m)) s 0))

-- absorbing and then the padding are the blocks of the padded message
pub finished_is : (n : ℕ) (m s : List ℕ) → length m / rate ≡ n → length s ≡ lane_count → finished (absorbed (s, 0) m) ≡ (absorbing s (m ++ padding (rate - length m % rate)) (suc n), 0)
unfolding absorbing
finished_is zero m s e l =
    let small : length m < rate = omega arith in
    let same : length m % rate ≡ length m = omega arith in
    let long : length (m ++ padding (rate - length m)) ≤ rate = omega (arith, length-append m (padding (rate - length m)), padding-length (rate - length m) (omega arith)) in
    rw same (last_block m s small l ∙ ap (λ p. (keccak (added_all s 0 p), 0)) (sym (take_all rate (m ++ padding (rate - length m)) long)))
finished_is (suc n) m s e l =
    let long : rate ≤ length m = omega arith in
    let first = take rate m in
    let block : length first ≡ rate = length-take-le rate m long in
    let left : length (drop rate m) ≡ length m - rate = length-drop rate m in
    let same : length (drop rate m) % rate ≡ length m % rate = omega arith in
    let pad = padding (rate - length m % rate) in
    ap (λ p. finished (absorbed (s, 0) p)) (sym (take-append-drop rate m))
    ∙ ap finished (absorbed-append first (drop rate m) (s, 0))
    ∙ ap (λ h. finished (absorbed h (drop rate m))) (absorbed-part first s 0 (omega arith) (omega arith) ∙ full (added_all s 0 first) (0 + length first) (omega arith))
    ∙ finished_is n (drop rate m) (keccak (added_all s 0 first)) (omega arith) (keccak-length (added_all s 0 first))
    ∙ ap (λ r. (absorbing (keccak (added_all s 0 first)) (drop rate m ++ padding (rate - r)) (suc n), 0)) same
    ∙ ap₂ (λ p q. (absorbing (keccak (added_all s 0 p)) q (suc n), 0)) (sym (take-append-le rate m pad long)) (sym (drop-append-le rate m pad long))

-- ---- the bytes given

given_is : (n : ℕ) (s : List ℕ) (k at : ℕ) → at < rate → given (squeezing s k, at) n ≡ listed n (λ i. byte_in (squeezing s (i / rate)) (i % rate)) (k * rate + at)
unfolding given listed squeezing
given_is zero s k at h = refl
given_is (suc n) s k at h =
    let q : k ≡ (k * rate + at) / rate = omega arith in
    let r : at ≡ (k * rate + at) % rate = omega arith in
    let f : ℕ → ℕ = λ i. byte_in (squeezing s (i / rate)) (i % rate) in
    ap₂ ◌∷◌ (ap₂ (λ a b. byte_in (squeezing s a) b) q r)
    (⊎_elim
    (λ (e : at ≡ 135).
    let o : suc k * rate + 0 ≡ suc (k * rate + at) = omega arith in
    ap (λ g. given g n) (full (squeezing s k) (suc at) (omega arith)) ∙ given_is n s (suc k) 0 (omega arith) ∙ ap (listed n f) o)
    (λ (l : at < 135).
    let o : k * rate + suc at ≡ suc (k * rate + at) = omega arith in
    ap (λ g. given g n) (part (squeezing s k) (suc at) (omega arith)) ∙ given_is n s k (suc at) (omega arith) ∙ ap (listed n f) o)
    (eq-or-lt_of_le (le_of_suc-le-suc h)))

-- what is given after the whole message is SHAKE256 of it
pub shake_is : (m : List ℕ) (d : ℕ) → given (finished (absorbed fresh m)) d ≡ shake256 m d
unfolding fresh shake256 padded blocks squeezing
shake_is m d =
    ap (λ h. given h d) (finished_is (length m / rate) m zero_state refl refl)
    ∙ given_is d (absorbing zero_state (m ++ padding (rate - length m % rate)) (suc (length m / rate))) 0 0 (omega arith)
    ∙ ap (λ n. listed d (λ i. byte_in (squeezing (absorbing zero_state (m ++ padding (rate - length m % rate)) n) (i / rate)) (i % rate)) 0) (sym (add-one (length m / rate)))

-- bytes given one after the other
pub given_more : (m n : ℕ) (h : Held) → given h (m + n) ≡ given h m ++ given (after h m) n
unfolding given after
given_more zero n h = let e : 0 + n ≡ n = omega arith in ap (given h) e
given_more (suc m) n h =
    let e : suc m + n ≡ suc (m + n) = omega arith in
    ap (given h) e ∙ ap (λ l. byte_in h.0 h.1 ∷ l) (given_more m n (settled h.0 (suc h.1)))

pub after_more : (m n : ℕ) (h : Held) → after h (m + n) ≡ after (after h m) n
unfolding after
after_more zero n h = let e : 0 + n ≡ n = omega arith in ap (after h) e
after_more (suc m) n h = let e : suc m + n ≡ suc (m + n) = omega arith in ap (after h) e ∙ after_more m n (settled h.0 (suc h.1))

-- within a block
pub given-part : (n : ℕ) (s : List ℕ) (at : ℕ) → at < rate → at + n ≤ rate → given (s, at) n ≡ listed n (byte_in s) at
unfolding given listed
given-part zero s at h k = refl
given-part (suc zero) s at h k = refl
given-part (suc (suc n)) s at h k =
    ap (λ g. byte_in s at ∷ given g (suc n)) (part s (suc at) (omega arith)) ∙ ap (λ l. byte_in s at ∷ l) (given-part (suc n) s (suc at) (omega arith) (omega arith))

pub after-part : (n : ℕ) (s : List ℕ) (at : ℕ) → at < rate → at + n ≤ rate → after (s, at) n ≡ settled s (at + n)
unfolding after
after-part zero s at h k = sym (ap (settled s) (add-zero at) ∙ part s at h)
after-part (suc zero) s at h k = let e : suc at ≡ at + 1 = omega arith in ap (settled s) e
after-part (suc (suc n)) s at h k =
    let e : suc at + suc n ≡ at + suc (suc n) = omega arith in
    ap (λ g. after g (suc n)) (part s (suc at) (omega arith)) ∙ after-part (suc n) s (suc at) (omega arith) (omega arith) ∙ ap (settled s) e

pub settled_lt : (s : List ℕ) (at : ℕ) → at ≤ rate → (settled s at).1 < rate
settled_lt s at h =
    ⊎_elim
    (λ (e : at ≡ rate). let x : (settled s at).1 ≡ 0 = ap (λ g. g.1) (full s at e) in omega arith)
    (λ (l : at < rate). let x : (settled s at).1 ≡ at = ap (λ g. g.1) (part s at l) in omega arith)
    (eq-or-lt_of_le h)

pub settled-length : (s : List ℕ) (at : ℕ) → at ≤ rate → length s ≡ lane_count → length (settled s at).0 ≡ lane_count
settled-length s at h l =
    ⊎_elim
    (λ (e : at ≡ rate). ap (λ g. length g.0) (full s at e) ∙ keccak-length s)
    (λ (k : at < rate). ap (λ g. length g.0) (part s at k) ∙ l)
    (eq-or-lt_of_le h)

-- a turn of the loop that absorbs: p, within a block, of what is left
pub absorbed-step : (p q s : List ℕ) (at : ℕ) → at < rate → at + length p ≤ rate → absorbed (settled (added_all s at p) (at + length p)) q ≡ absorbed (s, at) (p ++ q)
absorbed-step p q s at h k = ap (λ g. absorbed g q) (sym (absorbed-part p s at h k)) ∙ sym (absorbed-append p q (s, at))

pub listed_more : (n m : ℕ) (f : ℕ → ℕ) (i : ℕ) → listed (n + m) f i ≡ listed n f i ++ listed m f (i + n)
unfolding listed
listed_more zero m f i = let e : 0 + m ≡ m = omega arith in ap₂ (λ k j. listed k f j) e (sym (add-zero i))
listed_more (suc n) m f i =
    let e : suc n + m ≡ suc (n + m) = omega arith in
    let j : suc i + n ≡ i + suc n = omega arith in
    ap (λ k. listed k f i) e ∙ ap (λ l. f i ∷ l) (listed_more n m f (suc i) ∙ ap (λ k. listed n f (suc i) ++ listed m f k) j)

pub listed_next : (n : ℕ) (f : ℕ → ℕ) (i : ℕ) → listed (n + 1) f i ≡ listed n f i ++ (f (i + n) ∷ [])
unfolding listed
listed_next n f i = listed_more n 1 f i

pub none-absorbed : (piece s : List ℕ) (at i : ℕ) → length piece ≤ i → (s, at) ≡ absorbed (s, at) (drop i piece)
unfolding absorbed
none-absorbed piece s at i h = ap (absorbed (s, at)) (sym (drop_of_length-le piece h))

-- an input and an output of a block each
pub short_is : (m : List ℕ) (n : ℕ) → length m < rate → n ≤ rate → listed n (byte_in (keccak (added (added (added_all zero_state 0 m) (length m) suffix) (rate - 1) last_bit))) 0 ≡ shake256 m n
unfolding finished fresh
short_is m n h k =
    let z : 0 + length m ≡ length m = omega arith in
    sym (given-part n _ 0 (omega arith) (omega arith))
    ∙ ap (λ g. given (finished g) n) (sym (absorbed-part m zero_state 0 (omega arith) (omega arith) ∙ ap (settled (added_all zero_state 0 m)) z ∙ part _ (length m) h))
    ∙ shake_is m n
