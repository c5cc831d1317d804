-- Laws of seconds (BEHAVIOUR: Time): lowest terms with the ticks' sign are such, an answer of seconds tells of its timecode, and there is one answer.
-- Assumes nothing.
use Rattle.answers.specs.declared.Refusal.{Refusal}
use Rattle.std.specs.Prelude.{ℕ, ◌≡◌, refl, ℤ, pos, negsuc, neg_ℤ, nat_abs, ◌*ℤ◌, Result, Ok, Err}
use Rattle.std.proofs.Common.{sym, ◌∙◌, ap, ap₂, subst, arith}
use Rattle.numbers.specs.Sign.{is_neg, signed}
use Rattle.numbers.specs.SignLaws.{abs-signed, neg-mul}
use Rattle.numbers.specs.Lowest.{Lowest}
use Rattle.numbers.specs.LowestLaws.{den-one}
use Rattle.numbers.specs.MultipleLaws.{mul-cancel}
use Rattle.answers.specs.Order.{judged}
use Rattle.answers.specs.OrderLaws.{judged-clear}
use Rattle.rates.specs.Rates.{second_ticks}
use Rattle.timecodes.specs.declared.Timecode.{Timecode}
use Rattle.timecodes.specs.Admitted.{admits, Valid}
use Rattle.timecodes.specs.AdmittedLaws.{admits-valid}
use Rattle.timecodes.specs.Instant.{instant}
use Rattle.time.specs.declared.Fraction.{Fraction}
use Rattle.time.specs.Seconds.{fraction, InSeconds, IsSeconds, SecondsOf}

-- the magnitudes' lowest terms with the ticks' sign are the seconds
pub in_seconds-signed : (t : ℤ) (n d : ℕ) → Lowest (nat_abs t) second_ticks n d → InSeconds t (signed (is_neg t) n) d
in_seconds-signed t n d x =
    record {
      exact = by_sign t x;
      lowest = subst (λ (k : ℕ). Lowest (nat_abs t) second_ticks k d) (sym (abs-signed (is_neg t) n)) x;
    }
  where
    by_sign : (t : ℤ) → Lowest (nat_abs t) second_ticks n d → signed (is_neg t) n *ℤ pos second_ticks ≡ t *ℤ pos d
    by_sign (pos a) x = ap pos x.same
    by_sign (negsuc a) x = neg-mul (pos n) second_ticks ∙ ap (λ (k : ℕ). neg_ℤ (pos k)) x.same

-- ---- what an answer of seconds tells

module _ (tc : Timecode) (p : ℤ) (q : ℕ) (h : SecondsOf tc (Ok (fraction p q))) where
  pub seconds-passed : judged (admits tc) ≡ (Ok tt)
  seconds-passed = by (judged (admits tc)) refl
    where
      by : (v : Result (Unit {0}) Refusal) → judged (admits tc) ≡ v → judged (admits tc) ≡ (Ok tt)
      by (Ok tt) e = e
      by (Err r) e =
          let told = h.refused r e in
          let clash : ◌≡◌ {A = ℕ} 0 1 = cc in
          absurd (omega arith)

  pub seconds-valid : Valid tc
  seconds-valid = admits-valid tc (judged-clear (admits tc) seconds-passed)

  pub seconds-told : InSeconds (instant tc) p q
  seconds-told = h.seconds seconds-passed

-- ---- one answer

module _ {t p p' : ℤ} {q q' : ℕ} (x : InSeconds t p q) (y : InSeconds t p' q') where
  q-one : q ≡ q'
  q-one = den-one {p = nat_abs t} {q = second_ticks} (omega arith) x.lowest y.lowest

  p-one : p ≡ p'
  p-one =
      mul-cancel p p' second_ticks (omega arith) (x.exact ∙ ap (λ (k : ℕ). t *ℤ pos k) q-one ∙ sym y.exact)

is_seconds-one : (t : ℤ) (x y : Result Fraction Refusal) → IsSeconds t x → IsSeconds t y → x ≡ y
is_seconds-one t (Ok x) (Ok y) h k = ap Ok (ap₂ fraction (p-one h k) (q-one h k))
is_seconds-one t (Ok x) (Err e) h k = absurd k
is_seconds-one t (Err e) y h k = absurd h

pub seconds-one : (tc : Timecode) (x y : Result Fraction Refusal) → SecondsOf tc x → SecondsOf tc y → x ≡ y
seconds-one tc x y h k = by (judged (admits tc)) refl
  where
    by : (v : Result (Unit {0}) Refusal) → judged (admits tc) ≡ v → x ≡ y
    by (Ok tt) e = is_seconds-one (instant tc) x y (h.seconds e) (k.seconds e)
    by (Err r) e = h.refused r e ∙ sym (k.refused r e)
