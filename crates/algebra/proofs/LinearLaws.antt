-- Additive maps of bit vectors: what two of them have at the basis they have everywhere, and the product is additive on
-- both sides.
-- And a test that passes everywhere passes at each vector.
-- Assumes nothing.
use mathlib.Core.Path.{◌≡◌, refl, sym, ap, ap₂, ◌∙◌}
use mathlib.Core.Bool.{Bool, true, false}
use Prim.Native.Nat.{ℕ, zero, suc}
use lib.Dec.{T}
use Rattle.algebra.specs.Bits.{Bits, plus, zeros, add, scale, on_basis, everywhere}
use Rattle.algebra.specs.BitField.{add_if, shift, out, xtime, times, mul}
use Rattle.algebra.proofs.BitsLaws.{pair, plus_comm, add_comm, add_assoc, add-zero, add_self, add_zero_r, add-four, both_left, both_right}

abbrev pub Linear : (n m : ℕ) → (Bits n → Bits m) → Type 0
Linear n m f = (a b : Bits n) → f (add n a b) ≡ add m (f a) (f b)

pub linear-zero : (n m : ℕ) (f : Bits n → Bits m) → Linear n m f → f (zeros n) ≡ zeros m
linear-zero n m f l =
    sym (add_zero_r m (f (zeros n)))
    ∙ ap (add m (f (zeros n))) (sym (add_self m (f (zeros n))))
    ∙ sym (add_assoc m (f (zeros n)) (f (zeros n)) (f (zeros n)))
    ∙ ap (λ (x : Bits m). add m x (f (zeros n))) (sym (l (zeros n) (zeros n)) ∙ ap f (add_self n (zeros n)))
    ∙ add_self m (f (zeros n))

pub scale-linear : (n : ℕ) (c : Bool) → Linear n n (scale n c)
unfolding scale
scale-linear n true a b = refl
scale-linear n false a b = sym (add_self n (zeros n))

pub scale-plus : (n : ℕ) (c d : Bool) (v : Bits n) → scale n (plus c d) v ≡ add n (scale n c v) (scale n d v)
unfolding scale
scale-plus n true true v = sym (add_self n v)
scale-plus n true false v = sym (add_zero_r n v)
scale-plus n false d v = sym (add-zero n (scale n d v))

-- ---- what two additive maps have at the basis they have everywhere

abbrev pub OnBasis : (n : ℕ) → (Bits n → Type 0) → Type 0
OnBasis zero P = Unit {0}
OnBasis (suc n) P = P (true, zeros n) × OnBasis n (λ x. P (false, x))

pub on_basis_lem : (n : ℕ) (p : Bits n → Bool) (P : Bits n → Type 0) → ((x : Bits n) → T (p x) → P x) → T (on_basis n p) → OnBasis n P
unfolding on_basis
on_basis_lem zero p P h t = tt
on_basis_lem (suc n) p P h t = (
  h (true, zeros n) (both_left (p (true, zeros n)) (on_basis n (λ x. p (false, x))) t),
  on_basis_lem n (λ x. p (false, x)) (λ x. P (false, x)) (λ x. h (false, x))
      (both_right (p (true, zeros n)) (on_basis n (λ x. p (false, x))) t),
)

tail_linear : (n m : ℕ) (f : Bits (suc n) → Bits m) → Linear (suc n) m f → Linear n m (λ x. f (false, x))
unfolding add
tail_linear n m f l a b = l (false, a) (false, b)

head : (n m : ℕ) (f g : Bits (suc n) → Bits m) → Linear (suc n) m f → Linear (suc n) m g → f (true, zeros n) ≡ g (true, zeros n)
    → (c : Bool) → f (c, zeros n) ≡ g (c, zeros n)
unfolding zeros
head n m f g lf lg e true = e
head n m f g lf lg e false = linear-zero (suc n) m f lf ∙ sym (linear-zero (suc n) m g lg)

apart : (n m : ℕ) (f : Bits (suc n) → Bits m) → Linear (suc n) m f → (x : Bits (suc n)) → f x ≡ add m (f (x.0, zeros n)) (f (false, x.1))
unfolding add
apart n m f l x =
    ap f (pair n (plus_comm false x.0) (sym (add-zero n x.1))) ∙ l (x.0, zeros n) (false, x.1)

pub linear_ext : (n m : ℕ) (f g : Bits n → Bits m) → Linear n m f → Linear n m g → OnBasis n (λ x. f x ≡ g x) → (x : Bits n) → f x ≡ g x
unfolding zeros
linear_ext zero m f g lf lg h x = linear-zero zero m f lf ∙ sym (linear-zero zero m g lg)
linear_ext (suc n) m f g lf lg h x =
    apart n m f lf x
    ∙ ap₂ (add m) (head n m f g lf lg h.0 x.0)
    (linear_ext n m (λ y. f (false, y)) (λ y. g (false, y)) (tail_linear n m f lf) (tail_linear n m g lg) h.1 x.1)
    ∙ sym (apart n m g lg x)

-- ---- a test at every vector

by-head : (n : ℕ) (p : Bits (suc n) → Bool) → ((x : Bits n) → T (p (false, x))) → ((x : Bits n) → T (p (true, x)))
    → (c : Bool) (x : Bits n) → T (p (c, x))
by-head n p f t false x = f x
by-head n p f t true x = t x

pub everywhere-at : (n : ℕ) (p : Bits n → Bool) → T (everywhere n p) → (x : Bits n) → T (p x)
unfolding everywhere
everywhere-at zero p t x = t
everywhere-at (suc n) p t x =
    by-head n p
    (everywhere-at n (λ y. p (false, y)) (both_left (everywhere n (λ y. p (false, y))) (everywhere n (λ y. p (true, y))) t))
    (everywhere-at n (λ y. p (true, y)) (both_right (everywhere n (λ y. p (false, y))) (everywhere n (λ y. p (true, y))) t))
    x.0
    x.1

-- ---- the product is additive on both sides

shift-add : (n : ℕ) (c d : Bool) (a b : Bits n) → shift n (plus c d) (add n a b) ≡ add n (shift n c a) (shift n d b)
unfolding shift add
shift-add zero c d a b = refl
shift-add (suc n) c d a b = pair n refl (shift-add n a.0 b.0 a.1 b.1)

out-add : (n : ℕ) (c d : Bool) (a b : Bits n) → out n (plus c d) (add n a b) ≡ plus (out n c a) (out n d b)
unfolding out add
out-add zero c d a b = refl
out-add (suc n) c d a b = out-add n a.0 b.0 a.1 b.1

add_if_lem : (n : ℕ) (c : Bool) (v w : Bits n) → add_if n c v w ≡ add n (scale n c v) w
unfolding add_if scale
add_if_lem n true v w = refl
add_if_lem n false v w = sym (add-zero n w)

xtime_is : (r : ℕ) (m v : Bits r) → xtime r m v ≡ add r (shift r false v) (scale r (out r false v) m)
unfolding xtime
xtime_is r m v = add_if_lem r (out r false v) m (shift r false v) ∙ add_comm r (scale r (out r false v) m) (shift r false v)

pub times_is : (r : ℕ) (m : Bits r) (k : ℕ) (a : Bits (suc k)) (b : Bits r) → times r m (suc k) a b ≡ add r (scale r a.0 b) (times r m k a.1 (xtime r m b))
unfolding times
times_is r m k a b = add_if_lem r a.0 b (times r m k a.1 (xtime r m b))

pub xtime-linear : (r : ℕ) (m : Bits r) → Linear r r (xtime r m)
xtime-linear r m a b =
    xtime_is r m (add r a b)
    ∙ ap₂ (add r) (shift-add r false false a b)
    (ap (λ (c : Bool). scale r c m) (out-add r false false a b) ∙ scale-plus r (out r false a) (out r false b) m)
    ∙ add-four r (shift r false a) (shift r false b) (scale r (out r false a) m) (scale r (out r false b) m)
    ∙ sym (ap₂ (add r) (xtime_is r m a) (xtime_is r m b))

times-left : (r : ℕ) (m : Bits r) (k : ℕ) (b : Bits r) → Linear k r (λ a. times r m k a b)
unfolding times add
times-left r m zero b x y = sym (add_self r (zeros r))
times-left r m (suc k) b x y =
    times_is r m k (add (suc k) x y) b
    ∙ ap₂ (add r) (scale-plus r x.0 y.0 b) (times-left r m k (xtime r m b) x.1 y.1)
    ∙ add-four r (scale r x.0 b) (scale r y.0 b) (times r m k x.1 (xtime r m b)) (times r m k y.1 (xtime r m b))
    ∙ sym (ap₂ (add r) (times_is r m k x b) (times_is r m k y b))

times-right : (r : ℕ) (m : Bits r) (k : ℕ) (a : Bits k) → Linear r r (times r m k a)
unfolding times
times-right r m zero a x y = sym (add_self r (zeros r))
times-right r m (suc k) a x y =
    times_is r m k a (add r x y)
    ∙ ap₂ (add r) (scale-linear r a.0 x y)
    (ap (times r m k a.1) (xtime-linear r m x y) ∙ times-right r m k a.1 (xtime r m x) (xtime r m y))
    ∙ add-four r (scale r a.0 x) (scale r a.0 y) (times r m k a.1 (xtime r m x)) (times r m k a.1 (xtime r m y))
    ∙ sym (ap₂ (add r) (times_is r m k a x) (times_is r m k a y))

pub mul_left : (r : ℕ) (m b : Bits r) → Linear r r (λ a. mul r m a b)
unfolding mul
mul_left r m b = times-left r m r b

pub mul_right : (r : ℕ) (m a : Bits r) → Linear r r (mul r m a)
unfolding mul
mul_right r m a = times-right r m r a
