-- The order of two numbers is -1, 0 or 1 exactly as one is below, at or above the other.
-- Assumes nothing.
use mathlib.Core.Path.{◌≡◌, refl, sym, ap, subst}
use mathlib.Core.Bool.{Bool, true, false, not, cond}
use native.Mathlib.Nat.{le_of_lt}
use native.Mathlib.Omega.{arith}
use lib.Dec.{T, ltb→lt, le→leb}
use lib.IntN.{ℤ, pos, negsuc, nat_abs, pos-ne-negsuc}
use lib.Signed.{◌≤ℤ◌, ◌<ℤ◌, lt_z, le_z_yes, lt_z_yes, lt_z_no, clash_ℤ, <ℤ_irrefl}
use Rattle.numbers.specs.OrderLaws.{le-pos, le-both}
use Rattle.arithmetic.specs.Compare.{order_of}
use Rattle.arithmetic.specs.Statements.{Ordered}

lt-le : (x y : ℤ) → x <ℤ y → x ≤ℤ y
lt-le (pos a) (pos b) h = le-pos (le_of_lt (ltb→lt a b h.lt))
lt-le (pos a) (negsuc b) h = absurd h.lt
lt-le (negsuc a) (pos b) h = le_z_yes tt
lt-le (negsuc a) (negsuc b) h = le_z_yes (le→leb b a (le_of_lt (ltb→lt b a h.lt)))

-- not both, and not of a number and itself
both : {X : Type 0} (x y : ℤ) → x <ℤ y → y <ℤ x → X
both x y h k = clash_ℤ h (lt-le y x k)

self : {X : Type 0} (x y : ℤ) → x <ℤ y → x ≡ y → X
self x y h e = absurd (<ℤ_irrefl (subst (λ (z : ℤ). z <ℤ y) e h))

below-is : (x y : ℤ) → x <ℤ y → Ordered x y (negsuc 0)
below-is x y h =
    record {
      below = (λ e. h, λ l. refl);
      same = (λ e. absurd (omega (arith, ap nat_abs e)), λ e. self x y h e);
      above = (λ e. absurd (pos-ne-negsuc 1 0 (sym e)), λ l. both x y h l);
    }

same-is : (x y : ℤ) → x ≡ y → Ordered x y (pos 0)
same-is x y e =
    record {
      below = (λ f. absurd (pos-ne-negsuc 0 0 f), λ l. self x y l e);
      same = (λ f. e, λ f. refl);
      above = (λ f. absurd (omega (arith, ap nat_abs f)), λ l. self y x l (sym e));
    }

above-is : (x y : ℤ) → y <ℤ x → Ordered x y (pos 1)
above-is x y h =
    record {
      below = (λ e. absurd (pos-ne-negsuc 1 0 e), λ l. both x y l h);
      same = (λ e. absurd (omega (arith, ap nat_abs e)), λ e. self y x h (sym e));
      above = (λ e. h, λ l. refl);
    }

pub order_is : (x y : ℤ) → Ordered x y (order_of x y)
unfolding order_of
order_is x y = by_tests (lt_z x y) (lt_z y x) refl refl
  where
    yes_of : (t : Bool) → t ≡ true → T t
    yes_of t e = subst T (sym e) tt

    no_of : (t : Bool) → t ≡ false → T (not t)
    no_of t e = subst (λ (b : Bool). T (not b)) (sym e) tt

    by_tests : (s t : Bool) → lt_z x y ≡ s → lt_z y x ≡ t → Ordered x y (cond s (negsuc 0) (cond t (pos 1) (pos 0)))
    by_tests true t e f = below-is x y (lt_z_yes (yes_of (lt_z x y) e))
    by_tests false true e f = above-is x y (lt_z_yes (yes_of (lt_z y x) f))
    by_tests false false e f = same-is x y (le-both x y (lt_z_no (no_of (lt_z y x) f)) (lt_z_no (no_of (lt_z x y) e)))
