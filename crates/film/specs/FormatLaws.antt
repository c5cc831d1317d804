-- Laws of the film formats that callers cite (BEHAVIOUR: Footage): the answer for each number, and the bounds of the perfs.
-- Assumes nothing.
use Rattle.std.specs.Prelude.{ℕ, zero, suc, ◌-◌, ◌≤◌, ◌<◌, ◌≡◌, refl, Bool, true, false, not, cond, ◌&&◌, leb, get_or, Ok, Err}
use Rattle.std.proofs.Common.{arith, ap, leb-true}
use Rattle.std.proofs.Math.Bool.{and-eq-true_iff}
use Rattle.answers.specs.declared.Refusal.{Refusal}
use Rattle.answers.specs.Refusals.{no_such}
use Rattle.film.specs.declared.FilmFormat.{FilmFormat}
use Rattle.film.specs.declared.FilmFormat.TheVariants.{FF35mm4perf, FF35mm3perf, FF35mm2perf, FF16mm}
use Rattle.film.specs.Film.{format_number, perfs_per_frame_of, perfs_per_foot_of, is_format, formats, format_at}

-- a number that is none of the four is no film format
pub none_of_four : (n : ℕ) → (n ≡ 1 → ⊥) → (n ≡ 2 → ⊥) → (n ≡ 3 → ⊥) → (n ≡ 4 → ⊥) → is_format n ≡ false
unfolding is_format
none_of_four n one two three four = go (leb 1 n) (leb n 4) refl refl
  where
    go : (s t : Bool) → leb 1 n ≡ s → leb n 4 ≡ t → (s && t) ≡ false
    go false t low high = refl
    go true false low high = refl
    go true true low high = let a = leb-true 1 n low in let b = leb-true n 4 high in absurd (omega arith)

-- the answer for a number that is a film format, and for one that is none
pub format_at-in : (n : ℕ) → is_format n ≡ true → format_at n ≡ Ok (get_or formats (n - 1) FF35mm4perf)
unfolding format_at
format_at-in n h = ap (λ t. cond (not t) (Err no_such) (Ok (get_or formats (n - 1) FF35mm4perf))) h

pub format_at-out : (n : ℕ) → is_format n ≡ false → format_at n ≡ Err no_such
unfolding format_at
format_at-out n h = ap (λ t. cond (not t) (Err no_such) (Ok (get_or formats (n - 1) FF35mm4perf))) h

-- the answer for a format's own number is that format
pub at-number : (format : FilmFormat) → format_at (format_number format) ≡ Ok format
unfolding format_at is_format
at-number FF35mm4perf = refl
at-number FF35mm3perf = refl
at-number FF35mm2perf = refl
at-number FF16mm = refl

-- a format's place in the list is its number, counted from 1
placed : (i : ℕ) → i < 4 → format_number (get_or formats i FF35mm4perf) ≡ suc i
placed zero h = refl
placed (suc zero) h = refl
placed (suc (suc zero)) h = refl
placed (suc (suc (suc zero))) h = refl
placed (suc (suc (suc (suc i)))) h = absurd (omega arith)

-- what an answer says of the number
pub format_at-told : (n : ℕ) (format : FilmFormat) → format_at n ≡ Ok format → n ≡ format_number format
unfolding is_format
format_at-told n format h = go (is_format n) refl
  where
    go : (t : Bool) → is_format n ≡ t → n ≡ format_number format
    go true e =
        let p = (and-eq-true_iff (leb 1 n) (leb n 4)).0 e in
        let low = leb-true 1 n p.0 in
        let high = leb-true n 4 p.1 in
        let k = format_at-in n e in
        let same : get_or formats (n - 1) FF35mm4perf ≡ format = cc in
        omega (arith, placed (n - 1) (omega arith), ap format_number same)
    go false e = let k = format_at-out n e in let z : ◌≡◌ {A = ℕ} 0 1 = cc in absurd (omega arith)

pub format_at-refused : (n : ℕ) (e : Refusal) → format_at n ≡ Err e → (is_format n ≡ false) × (e ≡ no_such)
format_at-refused n r h = go (is_format n) refl
  where
    go : (t : Bool) → is_format n ≡ t → (is_format n ≡ false) × (r ≡ no_such)
    go true e = let k = format_at-in n e in let z : ◌≡◌ {A = ℕ} 0 1 = cc in absurd (omega arith)
    go false e = let k = format_at-out n e in (e, cc)

-- 1 to 4 perfs a frame, 20 to 64 a foot
pub frame-perfs : (format : FilmFormat) → (0 < perfs_per_frame_of format) × (perfs_per_frame_of format ≤ 4)
frame-perfs FF35mm4perf = (omega arith, omega arith)
frame-perfs FF35mm3perf = (omega arith, omega arith)
frame-perfs FF35mm2perf = (omega arith, omega arith)
frame-perfs FF16mm = (omega arith, omega arith)

pub foot-perfs : (format : FilmFormat) → (20 ≤ perfs_per_foot_of format) × (perfs_per_foot_of format ≤ 64)
foot-perfs FF35mm4perf = (omega arith, omega arith)
foot-perfs FF35mm3perf = (omega arith, omega arith)
foot-perfs FF35mm2perf = (omega arith, omega arith)
foot-perfs FF16mm = (omega arith, omega arith)
