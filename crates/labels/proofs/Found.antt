-- The sections of a count are those of an allowed label with that count: ten minutes have 600 x timebase - 9 x D counts.
-- Assumes nothing.
use mathlib.Core.Path.{◌≡◌, refl, sym, ◌∙◌, ap, subst}
use Prim.Native.Nat.{ℕ, ◌+◌, ◌*◌, ◌-◌, ◌/◌, ◌%◌, ◌≤◌, ◌<◌}
use native.Mathlib.Nat.{div-add-mod', mod-lt, div-lt_iff_lt-mul, mul-le-mul_right}
use native.Mathlib.Omega.{arith}
use Rattle.labels.specs.Label.{LabelOf}
use Rattle.labels.specs.LabelLaws.{minute-whole}
use Rattle.labels.proofs.ByMinutes.{count-by-minutes}
use Rattle.labels.specs.Sections.{fields_at, dropped_before, sections_of}
use Rattle.labels.proofs.Earlier.{place-second, fields-in-minute, kept-place}

-- place o of minute M, where it is kept, has its label
label-there :
    (timebase D M o : ℕ) → D < timebase → o < 60 * timebase → (0 < M % 10 → D ≤ o)
    → LabelOf timebase D ((60 * timebase - D) * M + D * (M / 10) + o) (fields_at timebase (M * (60 * timebase) + o))
label-there timebase D M o d h k =
    subst (λ l. LabelOf timebase D ((60 * timebase - D) * M + D * (M / 10) + o) l) (sym (fields-in-minute timebase D M o d h))
    (record {
      strict = record { four = refl; minutes = omega arith; seconds = place-second timebase D M o d h; frames = mod-lt o (omega arith) };
      allowed = kept-place timebase D M o d h k;
      count =
          let m : 60 * (M / 60) + M % 60 ≡ M = omega arith in
          count-by-minutes timebase D (omega arith) (M / 60) (M % 60) (o / timebase) (o % timebase)
          ∙ rw (m, div-add-mod' o timebase) refl;
    })

-- n is t tens of minutes, of 10 w + D counts each, and then minute k and place o: its number, and its count
number_by : (w D n t k o : ℕ) → n ≡ t * (10 * w + D) + (k * w + o) → n + D * (9 * t + k) ≡ w * (10 * t + k) + D * (10 * t + k) + o
number_by w D n t k o e = omega arith

count_by : (w D n t k o : ℕ) → n ≡ t * (10 * w + D) + (k * w + o) → k < 10 → w * (10 * t + k) + D * ((10 * t + k) / 10) + o ≡ n
count_by w D n t k o e h =
    let m : (10 * t + k) / 10 ≡ t = omega arith in
    omega (arith, ap (λ x. D * x) m)

module _ (timebase D n : ℕ) (d : D < timebase) where
  -- the counts of a minute and of ten
  abbrev w : ℕ
  w = 60 * timebase - D

  abbrev tens : ℕ
  tens = 600 * timebase - 9 * D

  -- the tens of minutes before, what is left, the minute there and the place in it
  abbrev t : ℕ
  t = n / tens

  abbrev r : ℕ
  r = n % tens

  abbrev k : ℕ
  k = (r - D) / w

  abbrev o : ℕ
  o = r - k * w

  some : 0 < w
  some = omega arith

  left : r < tens
  left = mod-lt n (omega arith)

  minute : k < 10
  minute = (div-lt_iff_lt-mul some).1 (omega (arith, left))

  part : k * w + (r - D) % w ≡ r - D
  part = div-add-mod' (r - D) w

  place : o < 60 * timebase
  place = omega (arith, part, mod-lt (r - D) some)

  kept : 0 < (10 * t + k) % 10 → D ≤ o
  kept p =
      let l : 1 ≤ k = omega (arith, minute) in
      omega (arith, part, mul-le-mul_right w l, some)

  split : n ≡ t * (10 * w + D) + (k * w + o)
  split =
      let e : tens ≡ 10 * w + D = omega arith in
      let s : k * w + o ≡ r = omega (arith, part) in
      sym (div-add-mod' n tens) ∙ ap (λ m. t * m + r) e ∙ ap (λ m. t * (10 * w + D) + m) (sym s)

  number : n + dropped_before timebase D n ≡ (10 * t + k) * (60 * timebase) + o
  unfolding dropped_before
  number = number_by w D n t k o split ∙ ap (λ m. m + o) (minute-whole timebase D (omega arith) (10 * t + k))

  pub found : LabelOf timebase D n (sections_of timebase D n)
  unfolding sections_of
  found =
      subst (λ c. LabelOf timebase D c (fields_at timebase (n + dropped_before timebase D n))) (count_by w D n t k o split minute)
      (rw number (label-there timebase D (10 * t + k) o d place kept))
