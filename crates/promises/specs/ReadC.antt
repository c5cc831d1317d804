-- What C is handed of a text that is read, and of an answer that is a timecode: each number of the struct is that of the answer, the place and the kind too.
-- Assumes nothing.
use Rattle.answers.specs.declared.Refusal.{Refusal}
use Rattle.std.specs.Prelude.{◌≡◌, ◌↔◌, true, Some, None, Result}
use Rattle.outcomes.specs.Outcome.{Gives}
use Rattle.timecodes.specs.declared.Timecode.{Timecode}
use Rattle.timecodes.specs.declared.kinds.Kind.TheVariants.{Position}
use Rattle.timecodes.specs.Kinds.{kind_from}
use Rattle.timecodes.specs.Timecode as answer
use Rattle.timecodes.specs.Made.{settled}
use Rattle.time.specs.Frames.{frames_at, ticks_at, seconds_at}
use Rattle.runtime_reading.specs.Reading.{read_runtime}
use Rattle.arithmetic.specs.Sum.{add_of, sub_of}
use Rattle.reading.specs.declared.Read.{Read}
use Rattle.reading.specs.Answer.{number_of, place_of, timecode_of, format_of}
use Rattle.reading.specs.For.{read_for}
use Rattle.exports.specs.declared.handed.TzqTimecode.{TzqTimecode}
use Rattle.exports.specs.declared.handed.TzqCount.{TzqCount}
use Rattle.exports.specs.declared.handed.TzqRead.{TzqRead}
use Rattle.exports.specs.Handed.{timecode_from}
use Rattle.exports.specs.contracts.sums.tzq_add as tzq_add
use Rattle.exports.proofs.sums.tzq_add.Reads as tzq-add-reads
use Rattle.exports.specs.contracts.sums.tzq_sub as tzq_sub
use Rattle.exports.proofs.sums.tzq_sub.Reads as tzq-sub-reads
use Rattle.exports.specs.contracts.times.tzq_with_frames as tzq_with_frames
use Rattle.exports.proofs.times.tzq_with_frames.Reads as tzq-with-frames-reads
use Rattle.exports.specs.contracts.times.tzq_with_premiere_ticks as tzq_with_premiere_ticks
use Rattle.exports.proofs.times.tzq_with_premiere_ticks.Reads as tzq-with-premiere-ticks-reads
use Rattle.exports.specs.contracts.times.tzq_with_seconds as tzq_with_seconds
use Rattle.exports.proofs.times.tzq_with_seconds.Reads as tzq-with-seconds-reads
use Rattle.exports.specs.contracts.reads.tzq_read_runtime as tzq_read_runtime
use Rattle.exports.proofs.reads.tzq_read_runtime.Reads as tzq-read-runtime-reads
use Rattle.exports.specs.contracts.reads.tzq_read as tzq_read
use Rattle.exports.proofs.reads.tzq_read.Reads as tzq-read-reads
use Rattle.exports.specs.contracts.reads.tzq_read_as as tzq_read_as
use Rattle.exports.proofs.reads.tzq_read_as.Reads as tzq-read-as-reads

-- the struct has the answer's number, its count, its film format, its place, and whether it is a position
pub record HandedWhole (t : TzqRead) (a : Result Read Refusal) : Type 0 where
  pub refused : t.refused ≡ number_of a
  pub count : t.count ≡ (timecode_of a).count
  pub format : t.format ≡ format_of a
  pub place : t.place ≡ place_of a
  pub position : (t.position ≡ true) ↔ ((timecode_of a).kind ≡ Position)

-- that of a timecode its number, its count, and whether it is a position
pub record HandedAnswer (t : TzqCount) (a : Result Timecode Refusal) : Type 0 where
  pub refused : t.refused ≡ answer.number_of a
  pub count : t.count ≡ (answer.timecode_of a).count
  pub position : (t.position ≡ true) ↔ ((answer.timecode_of a).kind ≡ Position)

-- a record that C hands over is a timecode: its count, its rate, a position exactly where it says so
pub record TakenFromC (t : TzqTimecode) (tc : Timecode) : Type 0 where
  pub count : tc.count ≡ t.count
  pub rate : tc.rate ≡ t.rate
  pub position : (tc.kind ≡ Position) ↔ (t.position ≡ true)

-- so it is of whatever the contracts of the readers for C, of its sums, and of its makers allow; and of what C hands over
pub record ReadForC : Type 0 where
  pub read : Gives tzq_read.ended tzq-read-reads.Learnt (λ κs a x. HandedWhole x.0 (read_for (kind_from a.1.1.0) a.0.now None a.1.0))
  pub read_as : Gives tzq_read_as.ended tzq-read-as-reads.Learnt (λ κs a x.
      HandedWhole x.0 (read_for (kind_from a.1.1.1.0) a.0.now (Some a.1.0) a.1.1.0))
  pub add : Gives tzq_add.ended tzq-add-reads.Learnt (λ κs a x. HandedAnswer x.0 (add_of (timecode_from a.0) (timecode_from a.1.0)))
  pub sub : Gives tzq_sub.ended tzq-sub-reads.Learnt (λ κs a x. HandedAnswer x.0 (sub_of (timecode_from a.0) (timecode_from a.1.0)))
  pub with_frames : Gives tzq_with_frames.ended tzq-with-frames-reads.Learnt (λ κs a x.
      HandedAnswer x.0 (settled (kind_from a.1.1.0) (frames_at a.0 a.1.0)))
  pub with_premiere_ticks : Gives tzq_with_premiere_ticks.ended tzq-with-premiere-ticks-reads.Learnt (λ κs a x.
      HandedAnswer x.0 (settled (kind_from a.1.1.0) (ticks_at a.0 a.1.0)))
  pub with_seconds : Gives tzq_with_seconds.ended tzq-with-seconds-reads.Learnt (λ κs a x.
      HandedAnswer x.0 (settled (kind_from a.1.1.1.0) (seconds_at a.0 a.1.0 a.1.1.0)))
  pub read-runtime : Gives tzq_read_runtime.ended tzq-read-runtime-reads.Learnt (λ κs a x.
      HandedAnswer x.0 (settled (kind_from a.1.1.0) (read_runtime a.0.now a.1.0)))
  pub handed_over : (t : TzqTimecode) → TakenFromC t (timecode_from t)
