-- There is one limit for a value, and one fault with a field, a limit and a value (BEHAVIOUR: Why).
-- Assumes nothing.
use Rattle.std.specs.Prelude.{ℕ, zero, suc, ◌<◌, ◌≡◌, refl, Bool, true, false, T, eqb, ℤ, nat_abs, ◌-ℤ◌}
use Rattle.std.proofs.Common.{sym, ap, ◌∙◌, subst, arith, eqb-true}
use Rattle.std.proofs.lemmas.Bool.{eqb-false}
use Rattle.numbers.specs.Sign.{is_neg, signed}
use Rattle.numbers.specs.SignLaws.{abs-signed, is_neg-neg}
use Rattle.numbers.specs.DistanceLaws.{far_none, far-self}
use Rattle.faults.specs.declared.Field.{Field}
use Rattle.faults.specs.declared.Fault.{Fault}
use Rattle.faults.specs.Faults.{NearestAllowed, limit_of, value_of, fault}

-- two limits of one value: each would be nearer than the other
pub one-limit : (Allowed : ℤ → Type 0) (v a b : ℤ) → NearestAllowed Allowed a v → NearestAllowed Allowed b v → a ≡ b
one-limit Allowed v a b p q = by (eqb (nat_abs (a -ℤ b)) 0) refl
  where
    by : (t : Bool) → eqb (nat_abs (a -ℤ b)) 0 ≡ t → a ≡ b
    by true e = far_none a b (eqb-true (nat_abs (a -ℤ b)) 0 e)
    by false e =
        let apart : ¬ (a ≡ b) = λ same. eqb-false (nat_abs (a -ℤ b)) 0 e (ap (λ (z : ℤ). nat_abs (z -ℤ b)) same ∙ far-self b) in
        let near = p.farther b q.allowed (λ same. apart (sym same)) in
        let off = q.farther a p.allowed apart in
        absurd (omega (arith, near, off))

-- a limit is not the value
pub limit-apart : (Allowed : ℤ → Type 0) (limit value : ℤ) → NearestAllowed Allowed limit value → ¬ (limit ≡ value)
limit-apart Allowed limit value p e = p.not_allowed (subst Allowed e p.allowed)

-- ---- a number's sign and magnitude
magnitude-same : (s t : Bool) (m n : ℕ) → signed s m ≡ signed t n → m ≡ n
magnitude-same s t m n e = sym (abs-signed s m) ∙ ap nat_abs e ∙ abs-signed t n

sign_same : (s t : Bool) (m n : ℕ) → 0 < m → signed s m ≡ signed t n → s ≡ t
sign_same true true m n h e = refl
sign_same false false m n h e = refl
sign_same true false m n h e = absurd (subst T (sym (is_neg-neg m h) ∙ ap is_neg e) tt)
sign_same false true m n h e =
    absurd (subst T (sym (is_neg-neg n (subst (λ (k : ℕ). 0 < k) (magnitude-same false true m n e) h)) ∙ sym (ap is_neg e)) tt)

-- of a limit and a value that differ one is not 0, so both have its sign
pub one-fault : (f g : Fault) → f.field ≡ g.field → limit_of f ≡ limit_of g → value_of f ≡ value_of g → ¬ (limit_of f ≡ value_of f) → f ≡ g
one-fault f g e l v apart =
    let limit = magnitude-same f.minus g.minus f.limit g.limit l in
    let value = magnitude-same f.minus g.minus f.value g.value v in
    ap (λ (x : Field). fault x f.minus f.limit f.value) e
    ∙ ap (λ (t : Bool). fault g.field t f.limit f.value) (signs f.limit f.value refl refl)
    ∙ ap (λ (m : ℕ). fault g.field g.minus m f.value) limit
    ∙ ap (λ (m : ℕ). fault g.field g.minus g.limit m) value
  where
    signs : (m n : ℕ) → f.limit ≡ m → f.value ≡ n → f.minus ≡ g.minus
    signs (suc m) n x y = sign_same f.minus g.minus f.limit g.limit (omega arith) l
    signs zero (suc n) x y = sign_same f.minus g.minus f.value g.value (omega arith) v
    signs zero zero x y = absurd (apart (ap (signed f.minus) (x ∙ sym y)))
