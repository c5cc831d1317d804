-- Which labels are dropped, by cases (BEHAVIOUR: Labels and counts). The count with no difference in it: proofs/ByMinutes.antt.
-- Assumes nothing.
use Rattle.std.specs.Prelude.{◌≡◌, Bool, true, false, eqb, ltb}
use Rattle.std.proofs.Math.Path.{refl}
use Rattle.std.proofs.Common.{sym, ◌∙◌, ap, mul-le-mul}
use Rattle.std.proofs.Math.Bool.{and-false}
use Prim.Native.Nat.{ℕ, zero, suc, ◌+◌, ◌*◌, ◌-◌, ◌/◌, ◌%◌, ◌≤◌, ◌<◌}
use native.Mathlib.Omega.{arith}
use borrow.Author.Tests.{lt-ltb, le-ltb, eq-eqb, ne_eqb, ltb-true, ltb-false}
use Rattle.labels.specs.Label.{is_dropped}

module _ (D minutes seconds frames : ℕ) where
  -- none is dropped in a minute that is a multiple of 10, after second 0, from frame D on
  pub kept-tenth : minutes % 10 ≡ 0 → is_dropped D minutes seconds frames ≡ false
  unfolding is_dropped
  kept-tenth e = rw (eq-eqb (minutes % 10) 0 e) (rw (and-false (ltb frames D)) (and-false (eqb seconds 0)))

  pub kept_second : 0 < seconds → is_dropped D minutes seconds frames ≡ false
  unfolding is_dropped
  kept_second h = rw (ne_eqb seconds 0 (λ z. omega (arith, z))) refl

  pub kept_frame : D ≤ frames → is_dropped D minutes seconds frames ≡ false
  unfolding is_dropped
  kept_frame h = rw (le-ltb frames D h) (and-false (eqb seconds 0))

  -- all others are
  pub all-dropped : 0 < minutes % 10 → seconds ≡ 0 → frames < D → is_dropped D minutes seconds frames ≡ true
  unfolding is_dropped
  all-dropped h e l = rw (ne_eqb (minutes % 10) 0 (λ z. omega (arith, z)), eq-eqb seconds 0 e, lt-ltb frames D l) refl

-- where D is 0 none is
pub none_dropped : (minutes seconds frames : ℕ) → is_dropped 0 minutes seconds frames ≡ false
none_dropped minutes seconds frames = kept_frame 0 minutes seconds frames (omega arith)

-- a label that is kept, in a minute that is no multiple of 10, is D frames or more past the minute's start
pub kept-past :
    (timebase D minutes seconds frames : ℕ) → D ≤ timebase
    → is_dropped D minutes seconds frames ≡ false → 0 < minutes % 10 → D ≤ seconds * timebase + frames
kept-past timebase D minutes zero frames d k h = by (ltb frames D) refl
  where
    by : (b : Bool) → ltb frames D ≡ b → D ≤ zero * timebase + frames
    by true e =
        let f : true ≡ false = sym (all-dropped D minutes zero frames h refl (ltb-true frames D e)) ∙ k in
        let z : ◌≡◌ {A = ℕ} 0 1 = cc in
        omega (arith, z)
    by false e = omega (arith, ltb-false frames D e)
kept-past timebase D minutes (suc s) frames d k h = omega arith

-- ---- the count
module _ (timebase D : ℕ) (d : D ≤ timebase) where
  -- a minute's counts, with the dropped ones
  pub minute-whole : (M : ℕ) → (60 * timebase - D) * M + D * M ≡ M * (60 * timebase)
  minute-whole M =
      let w : 60 * timebase - D + D ≡ 60 * timebase = omega arith in
      omega (arith, ap (λ k. k * M) w)

  module _ (hours minutes seconds frames : ℕ) where
    -- what is taken away is never more than there is
    pub dropped-le :
        D * (60 * hours + minutes - (60 * hours + minutes) / 10)
        ≤ (60 * (60 * hours + minutes) + seconds) * timebase + frames
    dropped-le =
        let M : ℕ = 60 * hours + minutes in
        let l : M - M / 10 ≤ M = omega arith in
        omega (arith, mul-le-mul d l)
