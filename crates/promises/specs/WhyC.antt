-- What C is handed of why a text is read as it is: the reader's numbers, those of the fact by name, and zeros where there are none.
-- Assumes nothing.
use Rattle.answers.specs.Causes.{refusal_number}
use Rattle.std.specs.Prelude.{ℕ, ◌<◌, ◌^◌, ◌≡◌, ◌↔◌, true, false, pos, Some, None, Result, Ok, Err, Option}
use Rattle.outcomes.specs.Outcome.{Gives}
use Rattle.answers.specs.declared.Refusal.{Refusal}
use Rattle.faults.specs.declared.Field.TheVariants.{Count, Sign, Hours, Minutes, Seconds, Frames, Marker}
use Rattle.faults.specs.declared.Fault.{Fault}
use Rattle.faults.specs.Faults.{limit_of, value_of}
use Rattle.timecodes.specs.declared.kinds.Kind.TheVariants.{Position}
use Rattle.timecodes.specs.Kinds.{kind_from}
use Rattle.label_writer.specs.declared.TimecodeSections.{TimecodeSections}
use Rattle.reading.specs.Answer.{number_of, place_of, timecode_of, format_of}
use Rattle.reasons.specs.declared.Fact.{Fact}
use Rattle.reasons.specs.declared.Fact.TheVariants.{Limit, First}
use Rattle.reasons.specs.declared.Reason.{Reason}
use Rattle.reasons.specs.Why.{why_of}
use Rattle.exports.specs.declared.why.TzqReason.{TzqReason}
use Rattle.exports.specs.HandedWhy.{stated_from, field_number}
use Rattle.exports.specs.contracts.why.tzq_why as tzq_why
use Rattle.exports.proofs.why.tzq_why.Reads as tzq-why-reads

-- ---- the fact
-- no field, limit or value
pub record NoLimit (t : TzqReason) : Type 0 where
  pub field : t.field ≡ 0
  pub limit : t.limit ≡ pos 0
  pub value : t.value ≡ pos 0

-- no label
pub record NoLabel (t : TzqReason) : Type 0 where
  pub negative : t.negative ≡ false
  pub hours : t.hours ≡ 0
  pub minutes : t.minutes ≡ 0
  pub seconds : t.seconds ≡ 0
  pub frames : t.frames ≡ 0

-- the field's number, and its limit and its value with their sign, where they fit 64 bits
pub record LimitIs (t : TzqReason) (f : Fault) : Type 0 where
  pub field : t.field ≡ field_number f.field
  pub limit : f.limit < 2 ^ 63 → t.limit ≡ limit_of f
  pub value : f.value < 2 ^ 63 → t.value ≡ value_of f

-- the label, field by field
pub record LabelIs (t : TzqReason) (s : TimecodeSections) : Type 0 where
  pub negative : t.negative ≡ s.negative
  pub hours : t.hours ≡ s.hours
  pub minutes : t.minutes ≡ s.minutes
  pub seconds : t.seconds ≡ s.seconds
  pub frames : t.frames ≡ s.frames

abbrev pub FactIs : TzqReason → Option Fact → Type 0
FactIs t None = NoLimit t × NoLabel t
FactIs t (Some (Limit f)) = LimitIs t f × NoLabel t
FactIs t (Some (First s)) = NoLimit t × LabelIs t s

-- ---- the whole
-- what is told: the reader's numbers, whether it is a position, the fact, and the phrase's length
pub record ToldIs (t : TzqReason) (r : Reason) : Type 0 where
  pub refused : t.refused ≡ 0
  pub number : t.number ≡ number_of r.read
  pub place : t.place ≡ place_of r.read
  pub count : t.count ≡ (timecode_of r.read).count
  pub format : t.format ≡ format_of r.read
  pub position : (t.position ≡ true) ↔ ((timecode_of r.read).kind ≡ Position)
  pub fact : FactIs t r.fact
  pub length : t.length ≡ r.length

-- a refusal: its number, and every other number is 0
pub record NotTold (t : TzqReason) (e : Refusal) : Type 0 where
  pub refused : t.refused ≡ refusal_number e
  pub number : t.number ≡ 0
  pub place : t.place ≡ 0
  pub count : t.count ≡ pos 0
  pub format : t.format ≡ 0
  pub position : t.position ≡ false
  pub limit : NoLimit t
  pub label : NoLabel t
  pub length : t.length ≡ 0

abbrev pub ReasonIs : TzqReason → Result Reason Refusal → Type 0
ReasonIs t (Ok r) = ToldIs t r
ReasonIs t (Err e) = NotTold t e

-- so it is of whatever the contract of `tzq_why` allows; a format counts only where it is stated; and the fields are numbered 1 to 7
pub record WhyForC : Type 0 where
  pub why : Gives tzq_why.ended tzq-why-reads.Learnt (λ κs a x.
      ReasonIs x.0
      (why_of (kind_from a.1.1.1.1.0) a.0.now (stated_from a.1.0 a.1.1.0) a.1.1.1.0 a.1.1.1.1.1.0.now a.1.1.1.1.1.1.0))
  pub stated : (format : ℕ) → (stated_from true format ≡ Some format) × (stated_from false format ≡ None)
  pub fields :
      (field_number Count ≡ 1) × (field_number Sign ≡ 2) × (field_number Hours ≡ 3) × (field_number Minutes ≡ 4) × (field_number Seconds ≡ 5)
      × (field_number Frames ≡ 6) × (field_number Marker ≡ 7)
