-- Laws of reading a length or a position that callers cite (BEHAVIOUR: Positions): each test. That a text reads as its shape does, and as a length what it was: proofs/ByShape.antt.
-- Assumes nothing.
use Rattle.std.specs.Prelude.{ℕ, ◌≡◌, Bool, true, false, not, ◌&&◌, List, T, Option, Err}
use Rattle.std.proofs.Math.Path.{refl}
use Rattle.std.proofs.Common.{sym, ap₂, ◌∙◌, subst}
use Rattle.answers.specs.declared.Refusal.{Refusal}
use Rattle.answers.specs.Refusals.{not_strict, no_such}
use Rattle.rates.specs.Rates.{is_rate, rate_row}
use Rattle.timecodes.specs.declared.kinds.Kind.{Kind}
use Rattle.timecodes.specs.declared.kinds.Kind.TheVariants.{Length, Position}
use Rattle.timecodes.specs.Kinds.{is_position}
use Rattle.faults.specs.Faults.{is_none, sign_fault}
use Rattle.faults.specs.FaultLaws.{sign-none, leftmost-none}
use Rattle.labels.specs.Label.{is_strict}
use Rattle.labels.specs.Faults.{strict_fault}
use Rattle.labels.specs.FaultLaws.{strict_fault-none}
use Rattle.reading.specs.Shaped.{is_stated, format_for, Shaped, label, footage, refused}
use Rattle.reading.specs.Reading.{label_read, footage_read}
use Rattle.reading.specs.For.{settled_read, position_fault, is_label_of, shaped_for, read_by, read_for}

-- ---- a label by kind: any may be a length's, a position's is strict and has no sign
pub any-label : (kind : Kind) (rate : ℕ) (minus : Bool) (fields : List ℕ) → is_position kind ≡ false → is_label_of kind rate minus fields ≡ true
any-label Length rate minus fields e = refl
any-label Position rate minus fields e = absurd (subst T e tt)

pub day-label : (kind : Kind) (rate : ℕ) (minus : Bool) (fields : List ℕ) → is_position kind ≡ true
    → is_label_of kind rate minus fields ≡ (not minus && is_strict (rate_row rate).timebase fields)
day-label Length rate minus fields e = absurd (subst T (sym e) tt)
day-label Position rate minus fields e = refl

-- nothing is at fault in it just where it has no sign and is strict
pub position-none : (rate : ℕ) (minus : Bool) (fields : List ℕ)
    → is_none (position_fault rate minus fields) ≡ (not minus && is_strict (rate_row rate).timebase fields)
unfolding position_fault
position-none rate minus fields =
    leftmost-none (sign_fault minus) (strict_fault (rate_row rate).timebase fields)
    ∙ ap₂ ◌&&◌ (sign-none minus) (strict_fault-none (rate_row rate).timebase fields)

-- ---- by shape
module _ (kind : Kind) (rate : ℕ) (stated : Option ℕ) where
  pub label-not-of : (minus : Bool) (fields : List ℕ) → is_label_of kind rate minus fields ≡ false
      → shaped_for kind rate stated (label minus fields) ≡ Err not_strict
  unfolding shaped_for
  label-not-of minus fields e = rw e

  pub label_of : (minus : Bool) (fields : List ℕ) → is_label_of kind rate minus fields ≡ true
      → shaped_for kind rate stated (label minus fields) ≡ settled_read kind (label_read rate minus fields)
  unfolding shaped_for
  label_of minus fields e = rw e

  -- a footage, and what is neither, get no 14
  pub footage-for : (minus : Bool) (feet frames : ℕ) (perf : Bool) (marker : ℕ)
      → shaped_for kind rate stated (footage minus feet frames perf marker)
      ≡ settled_read kind (footage_read rate (format_for stated perf) minus feet frames perf marker)
  unfolding shaped_for
  footage-for minus feet frames perf marker = refl

  pub refused-for : (e : Refusal) → shaped_for kind rate stated (refused e) ≡ Err e
  unfolding shaped_for
  refused-for e = refl

-- ---- a text
module _ (kind : Kind) (text : List ℕ) (stated : Option ℕ) (rate : ℕ) where
  pub for-no-rate : is_rate rate ≡ false → read_for kind text stated rate ≡ Err no_such
  unfolding read_for
  for-no-rate e = simp e

  pub for-no-format : is_rate rate ≡ true → is_stated stated ≡ false → read_for kind text stated rate ≡ Err no_such
  unfolding read_for
  for-no-format r s = simp (r, s)

-- ---- what was taken by its shape
module _ (kind : Kind) (stated : Option ℕ) (rate : ℕ) (x : Shaped) where
  pub by-no-rate : is_rate rate ≡ false → read_by kind stated rate x ≡ Err no_such
  unfolding read_by
  by-no-rate e = simp e

  pub by-no-format : is_rate rate ≡ true → is_stated stated ≡ false → read_by kind stated rate x ≡ Err no_such
  unfolding read_by
  by-no-format r s = simp (r, s)

  pub by-shaped : is_rate rate ≡ true → is_stated stated ≡ true → read_by kind stated rate x ≡ shaped_for kind rate stated x
  unfolding read_by
  by-shaped r s = simp (r, s)
