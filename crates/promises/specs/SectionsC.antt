-- What C is handed as the fields of a label, in plain numbers: of the one label whose count it is.
-- Assumes nothing.
use Rattle.std.specs.Prelude.{ℕ, ◌+◌, ◌*◌, ◌-◌, ◌/◌, ◌%◌, ◌<◌, ◌≡◌, Bool, true, false, ℤ, pos, negsuc, nat_abs}
use Rattle.outcomes.specs.Outcome.{Gives}
use Rattle.rates.specs.Rates.{rate_row, drop_frames}
use Rattle.exports.specs.declared.handed.TzqSections.{TzqSections}
use Rattle.exports.specs.contracts.writes.tzq_sections as tzq_sections
use Rattle.exports.proofs.writes.tzq_sections.Reads as tzq-sections-reads

-- negative exactly below 0
abbrev pub SignIs : Bool → ℤ → Type 0
SignIs negative (pos n) = negative ≡ false
SignIs negative (negsuc n) = negative ≡ true

-- minutes and seconds under 60, frames under the timebase; not dropped; its count is the absolute count, with 60 x hours + minutes as M
pub record LabelOfCount (timebase D : ℕ) (count : ℤ) (t : TzqSections) : Type 0 where
  pub sign : SignIs t.negative count
  pub minutes : t.minutes < 60
  pub seconds : t.seconds < 60
  pub frames : t.frames < timebase
  pub kept : t.seconds ≡ 0 → t.frames < D → t.minutes % 10 ≡ 0
  pub counts :
      (60 * (60 * t.hours + t.minutes) + t.seconds) * timebase + t.frames
      - D * (60 * t.hours + t.minutes - (60 * t.hours + t.minutes) / 10)
      ≡ nat_abs count

-- so it is of whatever the contract of `tzq_sections` allows where `refused` is 0
abbrev pub SectionsForC : Type 0
SectionsForC =
    Gives tzq_sections.ended tzq-sections-reads.Learnt (λ κs a x.
    x.0.refused ≡ 0 → LabelOfCount (rate_row a.0.rate).timebase (drop_frames a.0.rate) a.0.count x.0)
