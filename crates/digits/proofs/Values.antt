-- The digits of a number are digits, of the value that the number has; and digits are those of their value.
-- Assumes nothing.
use Prim.Native.Nat.{ℕ, zero, suc, ◌+◌, ◌-◌, ◌*◌, ◌/◌, ◌%◌, ◌^◌, ◌≤◌, ◌<◌}
use mathlib.Core.Path.{◌≡◌, refl, sym, ap, ◌∙◌}
use mathlib.Core.List.{List, [], ◌∷◌, ◌++◌, append-nil, append_assoc}
use mathlib.Core.Bool.{Bool, true, false, ◌&&◌}
use native.Mathlib.Omega.{arith}
use native.Mathlib.Nat.{add-zero, zero-add, pow-suc}
use lib.ListN.{length, take, length-append}
use lib.Dec.{leb}
use borrow.Author.Tests.{le-leb, lt-leb, leb-true}
use Rattle.digits.specs.Digits.{is_digit, all_digits, value_from, value_of, digits_of}

-- ---- one digit
-- two tests that pass together
pub both : (p q : Bool) → (p && q) ≡ true → (p ≡ true) × (q ≡ true)
both true true e = (refl, refl)
both true false e = (refl, e)
both false q e = (e, cc)

-- a byte from 48 to 57 is a digit, and no other is
pub digit-is : (b : ℕ) → 48 ≤ b → b ≤ 57 → is_digit b ≡ true
digit-is b h k = rw (le-leb 48 b h, le-leb b 57 k)

pub digit_low : (b : ℕ) → b < 48 → is_digit b ≡ false
digit_low b h = rw (lt-leb 48 b h)

pub digit-bounds : (b : ℕ) → is_digit b ≡ true → (48 ≤ b) × (b ≤ 57)
digit-bounds b e =
    let t = both (leb 48 b) (leb b 57) e in
    (leb-true 48 b t.0, leb-true b 57 t.1)

-- ---- all digits
pub all_cons : (b : ℕ) (l : List ℕ) → is_digit b ≡ true → all_digits l ≡ true → all_digits (b ∷ l) ≡ true
unfolding all_digits
all_cons b l e f = rw (e, f)

pub all_head : (b : ℕ) (l : List ℕ) → all_digits (b ∷ l) ≡ true → is_digit b ≡ true
unfolding all_digits
all_head b l e = (both (is_digit b) (all_digits l) e).0

pub all_tail : (b : ℕ) (l : List ℕ) → all_digits (b ∷ l) ≡ true → all_digits l ≡ true
unfolding all_digits
all_tail b l e = (both (is_digit b) (all_digits l) e).1

pub all_append : (d e : List ℕ) → all_digits d ≡ true → all_digits e ≡ true → all_digits (d ++ e) ≡ true
all_append [] e p q = q
all_append (b ∷ d) e p q = all_cons b (d ++ e) (all_head b d p) (all_append d e (all_tail b d p) q)

pub all_take : (n : ℕ) (d : List ℕ) → all_digits d ≡ true → all_digits (take n d) ≡ true
unfolding all_digits
all_take zero d a = refl
all_take (suc n) [] a = refl
all_take (suc n) (b ∷ d) a = all_cons b (take n d) (all_head b d a) (all_take n d (all_tail b d a))

-- ---- the digits of a number
pub digits-length : (k n : ℕ) → length (digits_of k n) ≡ k
unfolding digits_of
digits-length zero n = refl
digits-length (suc k) n = simp (length-append, digits-length k (n / 10)) (omega arith)

pub digits-all : (k n : ℕ) → all_digits (digits_of k n) ≡ true
unfolding digits_of all_digits
digits-all zero n = refl
digits-all (suc k) n =
    let b = 48 + n % 10 in
    all_append (digits_of k (n / 10)) (b ∷ []) (digits-all k (n / 10)) (all_cons b [] (digit-is b (omega arith) (omega arith)) refl)

-- ---- the value of digits
-- one digit more behind them
pub value-snoc : (v : ℕ) (l : List ℕ) (b : ℕ) → value_from v (l ++ (b ∷ [])) ≡ value_from v l * 10 + (b - 48)
unfolding value_from
value-snoc v [] b = refl
value-snoc v (x ∷ l) b = value-snoc (v * 10 + (x - 48)) l b

-- below ten to the number of digits
below_by : (m v : ℕ) (d : List ℕ) → all_digits d ≡ true → v < 10 ^ m → value_from v d < 10 ^ (m + length d)
unfolding value_from
below_by m v [] a h = rw (add-zero m) h
below_by m v (b ∷ d) a h =
    let p : 10 ^ suc m ≡ 10 ^ m * 10 = pow-suc 10 m in
    let e : suc m + length d ≡ m + suc (length d) = omega arith in
    rw (sym e) (below_by (suc m) (v * 10 + (b - 48)) d (all_tail b d a) (omega (arith, digit-bounds b (all_head b d a))))

pub value-below : (d : List ℕ) → all_digits d ≡ true → value_of d < 10 ^ length d
value-below d a = rw (zero-add (length d)) at (below_by 0 0 d a (omega arith))

-- k digits give a number back that k digits are enough for
pub digits-back : (k n : ℕ) → n < 10 ^ k → value_of (digits_of k n) ≡ n
unfolding digits_of value_from
digits-back zero n h = omega arith
digits-back (suc k) n h =
    let p : 10 ^ suc k ≡ 10 ^ k * 10 = pow-suc 10 k in
    let i : value_of (digits_of k (n / 10)) ≡ n / 10 = digits-back k (n / 10) (omega arith) in
    omega (arith, value-snoc 0 (digits_of k (n / 10)) (48 + n % 10))

-- the digits of a value, behind those of v in k digits, are the digits that it is the value of
back_by : (k v : ℕ) (d : List ℕ) → all_digits d ≡ true → digits_of (k + length d) (value_from v d) ≡ digits_of k v ++ d
unfolding digits_of value_from
back_by k v [] a = rw (add-zero k, append-nil)
back_by k v (b ∷ d) a =
    let h = digit-bounds b (all_head b d a) in
    let w = v * 10 + (b - 48) in
    let e : suc k + length d ≡ k + suc (length d) = omega arith in
    let q : w / 10 ≡ v = omega arith in
    let r : 48 + w % 10 ≡ b = omega arith in
    ap (λ (x : ℕ). digits_of x (value_from w d)) (sym e)
    ∙ back_by (suc k) w d (all_tail b d a)
    ∙ rw (q, r) (append_assoc (digits_of k v) (b ∷ []) d)

pub value_back : (d : List ℕ) → all_digits d ≡ true → digits_of (length d) (value_of d) ≡ d
unfolding digits_of
value_back d a = ap (λ (x : ℕ). digits_of x (value_of d)) (sym (zero-add (length d))) ∙ back_by 0 0 d a
