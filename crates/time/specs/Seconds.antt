-- Time, out (BEHAVIOUR: Time): seconds as a fraction in lowest terms.
-- Assumes nothing.
use Rattle.std.specs.Prelude.{ℕ, ◌≡◌, ℤ, pos, nat_abs, ◌*ℤ◌, Result, Ok, Err}
use Rattle.numbers.specs.Lowest.{Lowest}
use Rattle.answers.specs.declared.Refusal.{Refusal}
use Rattle.answers.specs.Order.{judged}
use Rattle.rates.specs.Rates.{second_ticks}
use Rattle.timecodes.specs.declared.Timecode.{Timecode}
use Rattle.timecodes.specs.Admitted.{admits}
use Rattle.timecodes.specs.Instant.{instant}
use Rattle.time.specs.declared.Fraction.{Fraction}
pub use Rattle.answers.specs.Refusals.{number_of}

-- p/q seconds are t ticks exactly, sign and all, and p/q is in lowest terms with q above 0
pub record InSeconds (t p : ℤ) (q : ℕ) : Type 0 where
  pub exact : p *ℤ pos second_ticks ≡ t *ℤ pos q
  pub lowest : Lowest (nat_abs t) second_ticks (nat_abs p) q

-- p/q
abbrev pub fraction : (p : ℤ) (q : ℕ) → Fraction
fraction p q = record { p = p; q = q }

-- the answer is the seconds of t ticks
abbrev pub IsSeconds : ℤ → Result Fraction Refusal → Type 0
IsSeconds t (Ok f) = InSeconds t f.p f.q
IsSeconds t (Err e) = ⊥

-- the answer is right: that of the first refusal of the timecode (6, 5), or else the seconds of its instant
pub record SecondsOf (tc : Timecode) (r : Result Fraction Refusal) : Type 0 where
  pub refused : (e : Refusal) → judged (admits tc) ≡ Err e → r ≡ Err e
  pub seconds : judged (admits tc) ≡ (Ok tt) → IsSeconds (instant tc) r

-- the fraction of an answer (a refusal's is 0/1)
abbrev pub numerator_of : Result Fraction Refusal → ℤ
numerator_of (Ok f) = f.p
numerator_of (Err e) = pos 0

abbrev pub denominator_of : Result Fraction Refusal → ℕ
denominator_of (Ok f) = f.q
denominator_of (Err e) = 1
