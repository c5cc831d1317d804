-- What C is handed of why a text is read as it is: the numbers that tzq_read hands over, field by field, the fact, and room for its label.
-- Assumes nothing.
use Rattle.answers.specs.declared.Refusal.{Refusal}
use Rattle.std.specs.Prelude.{◌≤◌, ◌<◌, ◌≡◌, Result, Ok, Err}
use Rattle.outcomes.specs.Outcome.{Gives}
use Rattle.timecodes.specs.Kinds.{kind_from}
use Rattle.reasons.specs.declared.Reason.{Reason}
use Rattle.reasons.specs.Why.{why_of}
use Rattle.exports.specs.declared.why.TzqReason.{TzqReason}
use Rattle.exports.specs.HandedWhy.{stated_from}
use Rattle.promises.specs.ReadFieldsC.{ReadsAs}
use Rattle.promises.specs.WhyC.{FactIs, NotTold}
use Rattle.exports.specs.contracts.why.tzq_why as tzq_why
use Rattle.exports.proofs.why.tzq_why.Reads as tzq-why-reads

-- what is told: the numbers that tzq_read hands over, the fact, and the phrase's length
pub record ToldFields (t : TzqReason) (r : Reason) : Type 0 where
  pub refused : t.refused ≡ 0
  pub read : ReadsAs r.read t.number t.count t.format t.place t.position
  pub fact : FactIs t r.fact
  pub length : t.length ≡ r.length

abbrev pub ReasonFields : TzqReason → Result Reason Refusal → Type 0
ReasonFields t (Ok r) = ToldFields t r
ReasonFields t (Err e) = NotTold t e

-- a sign, ten digits of hours, and two of each other field: the label of 3 has at most 20 bytes
pub record ShortIn (t : TzqReason) : Type 0 where
  pub hours : t.hours ≤ 1_016_666_665
  pub minutes : t.minutes < 60
  pub seconds : t.seconds ≡ 0
  pub frames : t.frames ≤ 4

-- so it is of whatever the contract of `tzq_why` allows; and the label of 3 has room in 20 bytes
pub record WhyFieldsForC : Type 0 where
  pub why : Gives tzq_why.ended tzq-why-reads.Learnt (λ κs a x.
      ReasonFields x.0
      (why_of (kind_from a.1.1.1.1.0) a.0.now (stated_from a.1.0 a.1.1.0) a.1.1.1.0 a.1.1.1.1.1.0.now a.1.1.1.1.1.1.0))
  pub room : Gives tzq_why.ended tzq-why-reads.Learnt (λ κs a x. ShortIn x.0)
