-- Laws of faults that callers cite (BEHAVIOUR: Why): when there is none, and that the limit found is the nearest allowed value.
-- Assumes nothing.
use Rattle.faults.specs.declared.Fault.{Fault}
use Rattle.std.specs.Prelude.{ℕ, suc, ◌-◌, ◌≤◌, ◌<◌, ◌≡◌, refl, Bool, true, false, cond, ◌&&◌, not, T, ltb, leb, eqb, ℤ, pos, negsuc, neg_ℤ, nat_abs, ◌-ℤ◌, Option, Some, None, is_some}
use Rattle.std.proofs.Common.{sym, ap, ◌∙◌, subst, arith, leb-true, lt-ltb, le-ltb}
use Rattle.std.proofs.lemmas.Bool.{lt-leb}
use Rattle.std.proofs.Math.IntN.{neg_ℤ-neg_ℤ}
use Rattle.numbers.specs.Sign.{signed}
use Rattle.numbers.specs.SignLaws.{abs_neg, abs-signed}
use Rattle.numbers.specs.DistanceLaws.{far, far-across, far-neg}
use Rattle.answers.specs.Refusals.{most_count, is_count}
use Rattle.faults.specs.declared.Field.{Field}
use Rattle.faults.specs.declared.Field.TheVariants.{Count}
use Rattle.faults.specs.Faults.{NearestAllowed, fault, is_none, under, exactly, sign_fault, count_fault, leftmost}

-- ---- when there is none
-- what Option's own test answers
pub none_told : {b : Bool} (found : Option Fault) → is_some found ≡ not b → b ≡ is_none found
none_told {b = true} found e = sym (ap not e)
none_told {b = false} found e = sym (ap not e)

pub under_none : (field : Field) (bound value : ℕ) → is_none (under field bound value) ≡ ltb value bound
unfolding under
under_none field bound value = by (ltb value bound)
  where
    by : (t : Bool) → is_none (cond t None (Some (fault field false (bound - 1) value))) ≡ t
    by true = refl
    by false = refl

pub exactly-none : (field : Field) (only value : ℕ) → is_none (exactly field only value) ≡ eqb value only
unfolding exactly
exactly-none field only value = by (eqb value only)
  where
    by : (t : Bool) → is_none (cond t None (Some (fault field false only value))) ≡ t
    by true = refl
    by false = refl

pub sign-none : (minus : Bool) → is_none (sign_fault minus) ≡ not minus
sign-none true = refl
sign-none false = refl

pub count_none : (minus : Bool) (m : ℕ) → is_none (count_fault minus m) ≡ leb m most_count
unfolding count_fault
count_none minus m = by (leb m most_count)
  where
    by : (t : Bool) → is_none (cond t None (Some (fault Count minus most_count m))) ≡ t
    by true = refl
    by false = refl

pub leftmost-none : (left right : Option Fault) → is_none (leftmost left right) ≡ (is_none left && is_none right)
leftmost-none None right = refl
leftmost-none (Some f) right = refl

-- ---- what is found by a test
pub leftmost-other : (left right : Option Fault) → is_none left ≡ true → leftmost left right ≡ right
leftmost-other None right e = refl
leftmost-other (Some f) right e = absurd (subst T (sym e) tt)

pub leftmost-own : (left right : Option Fault) → is_none left ≡ false → leftmost left right ≡ left
leftmost-own None right e = absurd (subst T e tt)
leftmost-own (Some f) right e = refl

pub under_at : (field : Field) (bound value : ℕ) → bound ≤ value → under field bound value ≡ Some (fault field false (bound - 1) value)
unfolding under
under_at field bound value h = rw (le-ltb value bound h)

pub under-not : (field : Field) (bound value : ℕ) → value < bound → under field bound value ≡ None
unfolding under
under-not field bound value h = rw (lt-ltb value bound h)

pub exactly-at : (field : Field) (only value : ℕ) → eqb value only ≡ false → exactly field only value ≡ Some (fault field false only value)
unfolding exactly
exactly-at field only value e = rw e

pub count_at : (minus : Bool) (m : ℕ) → most_count < m → count_fault minus m ≡ Some (fault Count minus most_count m)
unfolding count_fault
count_at minus m h = rw (lt-leb m most_count h)

-- ---- the limit is the nearest allowed value
-- of numbers from 0 on, where those that are allowed are those under a bound
pub nearest-under : (Allowed : ℤ → Type 0) (bound value : ℕ) → 0 < bound → bound ≤ value
    → ((x : ℤ) → Allowed x → (nat_abs x < bound) × (x ≡ pos (nat_abs x)))
    → ((n : ℕ) → n < bound → Allowed (pos n))
    → NearestAllowed Allowed (pos (bound - 1)) (pos value)
nearest-under Allowed bound value some h only all = record {
  not_allowed = λ a. let b = (only (pos value) a).0 in absurd (omega arith);
  allowed = all (bound - 1) (omega arith);
  farther = λ x a other. farther-by x (only x a) other;
}
  where
    farther-by : (x : ℤ) → (nat_abs x < bound) × (x ≡ pos (nat_abs x)) → ¬ (x ≡ pos (bound - 1))
        → nat_abs (pos (bound - 1) -ℤ pos value) < nat_abs (x -ℤ pos value)
    farther-by (pos n) b other =
        let apart : ¬ (n ≡ bound - 1) = λ e. other (ap pos e) in
        rw (far n value, far (bound - 1) value) (omega arith)
    farther-by (negsuc n) b other = let clash : ◌≡◌ {A = ℕ} 0 1 = cc in absurd (omega arith)

-- where one value only is allowed
pub nearest-only : (Allowed : ℤ → Type 0) (only value : ℕ) → ¬ (value ≡ only) → ((x : ℤ) → Allowed x → x ≡ pos only) → Allowed (pos only)
    → NearestAllowed Allowed (pos only) (pos value)
nearest-only Allowed only value other one it = record {
  not_allowed = λ a. other (ap nat_abs (one (pos value) a));
  allowed = it;
  farther = λ x a apart. absurd (apart (one x a));
}

-- of counts, within their bounds on both sides of zero
pub nearest-count : (minus : Bool) (m : ℕ) → most_count < m → NearestAllowed (λ z. is_count z ≡ true) (signed minus most_count) (signed minus m)
nearest-count minus m h = record {
  not_allowed = λ a. let b = leb-true (nat_abs (signed minus m)) most_count a in let e = abs-signed minus m in absurd (omega arith);
  allowed = ap (λ (k : ℕ). leb k most_count) (abs-signed minus most_count);
  farther = λ x a other. farther-by minus x (leb-true (nat_abs x) most_count a) other;
}
  where
    -- above zero
    up : (x : ℤ) → nat_abs x ≤ most_count → ¬ (x ≡ pos most_count) → nat_abs (pos most_count -ℤ pos m) < nat_abs (x -ℤ pos m)
    up (pos n) b other = let apart : ¬ (n ≡ most_count) = λ e. other (ap pos e) in rw (far n m, far most_count m) (omega arith)
    up (negsuc n) b other = rw (far-across (suc n) m, far most_count m) (omega arith)

    farther-by : (s : Bool) (x : ℤ) → nat_abs x ≤ most_count → ¬ (x ≡ signed s most_count)
        → nat_abs (signed s most_count -ℤ signed s m) < nat_abs (x -ℤ signed s m)
    farther-by false x b other = up x b other
    farther-by true x b other =
        let back : neg_ℤ (neg_ℤ x) ≡ x = neg_ℤ-neg_ℤ x in
        let turned = up (neg_ℤ x) (rw (abs_neg x) b) (λ e. other (sym back ∙ ap neg_ℤ e)) in
        let near = far-neg (pos most_count) (pos m) in
        let off = far-neg (neg_ℤ x) (pos m) in
        let same = ap (λ (z : ℤ). nat_abs (z -ℤ neg_ℤ (pos m))) back in
        omega arith
