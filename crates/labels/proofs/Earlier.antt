-- How many allowed labels come before a place of a minute: D are dropped at its start, or none in a minute that is a multiple of 10.
-- Assumes nothing.
use mathlib.Core.Path.{◌≡◌, refl, sym, ◌∙◌, ap}
use mathlib.Core.Bool.{Bool, true, false, not}
use mathlib.Core.List.{[], ◌∷◌}
use mathlib.Core.Logic.{◌⊎◌, inl, inr, ⊎_elim}
use Prim.Native.Nat.{ℕ, zero, suc, ◌+◌, ◌*◌, ◌-◌, ◌/◌, ◌%◌, ◌≤◌, ◌<◌}
use native.Mathlib.Nat.{div-add-mod', mod-lt, div-lt_iff_lt-mul, div-eq_of_lt, mod-eq_of_lt, add_assoc}
use native.Mathlib.Omega.{arith}
use Rattle.tally.specs.Before.{before}
use Rattle.tally.specs.BeforeLaws.{all_pass, all-fail, before-zero}
use Rattle.labels.specs.Label.{is_dropped}
use Rattle.labels.specs.LabelLaws.{kept-tenth, kept_second, kept_frame, all-dropped}
use Rattle.labels.specs.Sections.{fields_at, is_allowed}
use Rattle.labels.proofs.Fields.{fields_back}

pub zero-or-more : (n : ℕ) → (n ≡ 0) ⊎ (0 < n)
zero-or-more zero = inl refl
zero-or-more (suc n) = inr (omega arith)

-- place o of minute M: its fields, and whether it is dropped
module _ (timebase D M o : ℕ) (d : D < timebase) (h : o < 60 * timebase) where
  whole : o / timebase * timebase + o % timebase ≡ o
  whole = div-add-mod' o timebase

  pub place-second : o / timebase < 60
  place-second = let p : 0 < timebase = omega arith in (div-lt_iff_lt-mul p).1 h

  pub fields-in-minute : fields_at timebase (M * (60 * timebase) + o) ≡ M / 60 ∷ M % 60 ∷ o / timebase ∷ o % timebase ∷ []
  fields-in-minute =
      let m : 60 * (M / 60) + M % 60 ≡ M = omega arith in
      let n : M * (60 * timebase) + o ≡ (60 * (60 * (M / 60) + M % 60) + o / timebase) * timebase + o % timebase = rw m (omega (arith, whole)) in
      ap (fields_at timebase) n
      ∙ fields_back timebase (M / 60) (M % 60) (o / timebase) (o % timebase) (omega arith) place-second (mod-lt o (omega arith))

  pub kept-place : (0 < M % 10 → D ≤ o) → is_dropped D (M % 60) (o / timebase) (o % timebase) ≡ false
  kept-place k = ⊎_elim tenth other (zero-or-more (M % 10))
    where
      tenth : M % 10 ≡ 0 → is_dropped D (M % 60) (o / timebase) (o % timebase) ≡ false
      tenth e = kept-tenth D (M % 60) (o / timebase) (o % timebase) (omega arith)

      first : o / timebase ≡ 0 → D ≤ o → is_dropped D (M % 60) (o / timebase) (o % timebase) ≡ false
      first z l =
          kept_frame D (M % 60) (o / timebase) (o % timebase) (omega (arith, whole, ap (λ k. k * timebase) z))

      other : 0 < M % 10 → is_dropped D (M % 60) (o / timebase) (o % timebase) ≡ false
      other p = ⊎_elim (λ z. first z (k p)) (kept_second D (M % 60) (o / timebase) (o % timebase)) (zero-or-more (o / timebase))

  is-allowed : (b : Bool) → is_dropped D (M % 60) (o / timebase) (o % timebase) ≡ b → is_allowed timebase D (M * (60 * timebase) + o) ≡ not b
  unfolding is_allowed
  is-allowed b e = rw fields-in-minute (ap not e)

  place-allowed : (0 < M % 10 → D ≤ o) → is_allowed timebase D (M * (60 * timebase) + o) ≡ true
  place-allowed k = is-allowed false (kept-place k)

  place-dropped : 0 < M % 10 → o < D → is_allowed timebase D (M * (60 * timebase) + o) ≡ false
  place-dropped p l =
      let t : o < timebase = omega arith in
      is-allowed true (rw (div-eq_of_lt t, mod-eq_of_lt t) (all-dropped D (M % 60) 0 o (omega arith) refl l))

module _ (timebase D : ℕ) (d : D < timebase) where
  -- a minute's labels: 60 timebases, of which w are kept in each minute that is no multiple of 10
  abbrev minute : ℕ
  minute = 60 * timebase

  abbrev w : ℕ
  w = 60 * timebase - D

  module _ (M : ℕ) where
    -- up to place o of a minute that is a multiple of 10; up to place D + o of another
    pub before-in-tenth :
        M % 10 ≡ 0 → (o : ℕ) → o ≤ minute
        → before (is_allowed timebase D) (M * minute + o) ≡ before (is_allowed timebase D) (M * minute) + o
    before-in-tenth e o h =
        all_pass (is_allowed timebase D) (M * minute) o
        (λ k l. place-allowed timebase D M k d (omega arith) (λ p. omega arith))

    pub before-in-other :
        0 < M % 10 → (o : ℕ) → o ≤ w
        → before (is_allowed timebase D) (M * minute + (D + o)) ≡ before (is_allowed timebase D) (M * minute) + o
    before-in-other p o h =
        rw (sym (add_assoc (M * minute) D o))
        (all_pass (is_allowed timebase D) (M * minute + D) o
        (λ k l. rw (add_assoc (M * minute) D k) (place-allowed timebase D M (D + k) d (omega arith) (λ q. omega arith)))
        ∙ ap (λ n. n + o) (all-fail (is_allowed timebase D) (M * minute) D (λ k l. place-dropped timebase D M k d (omega arith) p l)))

  -- one minute more
  next :
      (M : ℕ) → before (is_allowed timebase D) (M * minute) ≡ w * M + D * ((M + 9) / 10)
      → before (is_allowed timebase D) (suc M * minute) ≡ w * suc M + D * ((suc M + 9) / 10)
  next M before-M = ⊎_elim tenth other (zero-or-more (M % 10))
    where
      tenth : M % 10 ≡ 0 → before (is_allowed timebase D) (suc M * minute) ≡ w * suc M + D * ((suc M + 9) / 10)
      tenth e =
          let s : (suc M + 9) / 10 ≡ suc ((M + 9) / 10) = omega arith in
          let n : suc M * minute ≡ M * minute + minute = omega arith in
          rw n (before-in-tenth M e minute (omega arith) ∙ omega (arith, before-M, ap (λ k. D * k) s))

      other : 0 < M % 10 → before (is_allowed timebase D) (suc M * minute) ≡ w * suc M + D * ((suc M + 9) / 10)
      other p =
          let s : (suc M + 9) / 10 ≡ (M + 9) / 10 = omega arith in
          let n : suc M * minute ≡ M * minute + (D + w) = omega arith in
          rw n (before-in-other M p w (omega arith) ∙ omega (arith, before-M, ap (λ k. D * k) s))

  -- whole minutes: w each, and D more for each that is a multiple of 10
  pub before-minute : (M : ℕ) → before (is_allowed timebase D) (M * minute) ≡ w * M + D * ((M + 9) / 10)
  before-minute zero =
      let z : zero * minute ≡ 0 = omega arith in
      ap (before (is_allowed timebase D)) z ∙ before-zero (is_allowed timebase D) ∙ omega arith
  before-minute (suc M) = next M (before-minute M)

  -- place o of minute M, where it is kept
  pub before-place :
      (M o : ℕ) → o < minute → (0 < M % 10 → D ≤ o)
      → before (is_allowed timebase D) (M * minute + o) ≡ w * M + D * (M / 10) + o
  before-place M o h k = ⊎_elim tenth other (zero-or-more (M % 10))
    where
      tenth : M % 10 ≡ 0 → before (is_allowed timebase D) (M * minute + o) ≡ w * M + D * (M / 10) + o
      tenth e =
          let s : (M + 9) / 10 ≡ M / 10 = omega arith in
          omega (arith, before-in-tenth M e o (omega arith), before-minute M, ap (λ k. D * k) s)

      other : 0 < M % 10 → before (is_allowed timebase D) (M * minute + o) ≡ w * M + D * (M / 10) + o
      other p =
          let l = k p in
          let s : (M + 9) / 10 ≡ M / 10 + 1 = omega arith in
          let n : D + (o - D) ≡ o = omega arith in
          let m = ap (λ k. before (is_allowed timebase D) (M * minute + k)) n in
          omega (arith, m, before-in-other M p (o - D) (omega arith), before-minute M, ap (λ k. D * k) s)
