-- What C is handed of a text that is read, and of an answer that is a timecode: each field of the struct, in the cases of the answer.
-- Assumes nothing.
use Rattle.answers.specs.Causes.{refusal_number}
use Rattle.timecodes.specs.declared.Timecode.{Timecode}
use Rattle.answers.specs.declared.Refusal.{Refusal}
use Rattle.std.specs.Prelude.{ℕ, ◌≡◌, ◌↔◌, Bool, true, false, ℤ, pos, Some, None, Result, Ok, Err}
use Rattle.outcomes.specs.Outcome.{Gives}
use Rattle.timecodes.specs.declared.kinds.Kind.TheVariants.{Position}
use Rattle.timecodes.specs.Kinds.{kind_from}
use Rattle.timecodes.specs.Made.{settled}
use Rattle.film.specs.declared.FilmFormat.TheVariants.{FF35mm4perf, FF35mm3perf, FF35mm2perf, FF16mm}
use Rattle.film.specs.Film.{format_number}
use Rattle.time.specs.Frames.{frames_at, ticks_at, seconds_at}
use Rattle.runtime_reading.specs.Reading.{read_runtime}
use Rattle.arithmetic.specs.Sum.{add_of, sub_of}
use Rattle.arithmetic.specs.Product.{mul_of}
use Rattle.arithmetic.specs.Truncating.{div_of, rem_of}
use Rattle.arithmetic.specs.Flooring.{divq_of}
use Rattle.arithmetic.specs.Remainder.{remq_of}
use Rattle.arithmetic.specs.Count.{neg_of, abs_of, rebase_of}
use Rattle.reading.specs.declared.Read.{Read}
use Rattle.reading.specs.declared.Read.TheVariants.{Label, Footage}
use Rattle.reading.specs.For.{read_for}
use Rattle.exports.specs.declared.handed.TzqCount.{TzqCount}
use Rattle.exports.specs.declared.handed.TzqRead.{TzqRead}
use Rattle.exports.specs.Handed.{timecode_from}
use Rattle.exports.specs.contracts.reads.tzq_read as tzq_read
use Rattle.exports.proofs.reads.tzq_read.Reads as tzq-read-reads
use Rattle.exports.specs.contracts.reads.tzq_read_as as tzq_read_as
use Rattle.exports.proofs.reads.tzq_read_as.Reads as tzq-read-as-reads
use Rattle.exports.specs.contracts.reads.tzq_read_runtime as tzq_read_runtime
use Rattle.exports.proofs.reads.tzq_read_runtime.Reads as tzq-read-runtime-reads
use Rattle.exports.specs.contracts.times.tzq_with_frames as tzq_with_frames
use Rattle.exports.proofs.times.tzq_with_frames.Reads as tzq-with-frames-reads
use Rattle.exports.specs.contracts.times.tzq_with_premiere_ticks as tzq_with_premiere_ticks
use Rattle.exports.proofs.times.tzq_with_premiere_ticks.Reads as tzq-with-premiere-ticks-reads
use Rattle.exports.specs.contracts.times.tzq_with_seconds as tzq_with_seconds
use Rattle.exports.proofs.times.tzq_with_seconds.Reads as tzq-with-seconds-reads
use Rattle.exports.specs.contracts.sums.tzq_add as tzq_add
use Rattle.exports.proofs.sums.tzq_add.Reads as tzq-add-reads
use Rattle.exports.specs.contracts.sums.tzq_sub as tzq_sub
use Rattle.exports.proofs.sums.tzq_sub.Reads as tzq-sub-reads
use Rattle.exports.specs.contracts.sums.tzq_mul as tzq_mul
use Rattle.exports.proofs.sums.tzq_mul.Reads as tzq-mul-reads
use Rattle.exports.specs.contracts.sums.tzq_div as tzq_div
use Rattle.exports.proofs.sums.tzq_div.Reads as tzq-div-reads
use Rattle.exports.specs.contracts.sums.tzq_rem as tzq_rem
use Rattle.exports.proofs.sums.tzq_rem.Reads as tzq-rem-reads
use Rattle.exports.specs.contracts.sums.tzq_divq as tzq_divq
use Rattle.exports.proofs.sums.tzq_divq.Reads as tzq-divq-reads
use Rattle.exports.specs.contracts.sums.tzq_remq as tzq_remq
use Rattle.exports.proofs.sums.tzq_remq.Reads as tzq-remq-reads
use Rattle.exports.specs.contracts.sums.tzq_neg as tzq_neg
use Rattle.exports.proofs.sums.tzq_neg.Reads as tzq-neg-reads
use Rattle.exports.specs.contracts.sums.tzq_abs as tzq_abs
use Rattle.exports.proofs.sums.tzq_abs.Reads as tzq-abs-reads
use Rattle.exports.specs.contracts.sums.tzq_rebase as tzq_rebase
use Rattle.exports.proofs.sums.tzq_rebase.Reads as tzq-rebase-reads

-- ---- what a text reads as
-- the five numbers that are handed over of a text: of a label, of a footage, of a refusal
abbrev pub ReadsAs : Result Read Refusal → (refused : ℕ) (count : ℤ) (format place : ℕ) (position : Bool) → Type 0
ReadsAs (Ok (Label tc)) refused count format place position =
    (refused ≡ 0) × (count ≡ tc.count) × (format ≡ 0) × (place ≡ 0) × ((position ≡ true) ↔ (tc.kind ≡ Position))
ReadsAs (Ok (Footage tc film)) refused count format place position =
    (refused ≡ 0) × (count ≡ tc.count) × (format ≡ format_number film) × (place ≡ 0) × ((position ≡ true) ↔ (tc.kind ≡ Position))
ReadsAs (Err e) refused count format place position =
    (refused ≡ refusal_number e) × (count ≡ pos 0) × (format ≡ 0) × (place ≡ e.place) × (position ≡ false)

abbrev pub ReadWhole : TzqRead → Result Read Refusal → Type 0
ReadWhole t a = ReadsAs a t.refused t.count t.format t.place t.position

-- ---- a timecode
-- of a timecode its count, and whether it is a position; of a refusal its number, count 0 and no position
abbrev pub AnswerWhole : TzqCount → Result Timecode Refusal → Type 0
AnswerWhole t (Ok tc) = (t.refused ≡ 0) × (t.count ≡ tc.count) × ((t.position ≡ true) ↔ (tc.kind ≡ Position))
AnswerWhole t (Err e) = (t.refused ≡ refusal_number e) × (t.count ≡ pos 0) × (t.position ≡ false)

-- so it is of whatever the contracts of the readers, the makers and the arithmetic for C allow; and film formats are 1 to 4
pub record ReadFieldsForC : Type 0 where
  pub read : Gives tzq_read.ended tzq-read-reads.Learnt (λ κs a x. ReadWhole x.0 (read_for (kind_from a.1.1.0) a.0.now None a.1.0))
  pub read_as : Gives tzq_read_as.ended tzq-read-as-reads.Learnt (λ κs a x.
      ReadWhole x.0 (read_for (kind_from a.1.1.1.0) a.0.now (Some a.1.0) a.1.1.0))
  pub read-runtime : Gives tzq_read_runtime.ended tzq-read-runtime-reads.Learnt (λ κs a x.
      AnswerWhole x.0 (settled (kind_from a.1.1.0) (read_runtime a.0.now a.1.0)))
  pub with_frames : Gives tzq_with_frames.ended tzq-with-frames-reads.Learnt (λ κs a x.
      AnswerWhole x.0 (settled (kind_from a.1.1.0) (frames_at a.0 a.1.0)))
  pub with_premiere_ticks : Gives tzq_with_premiere_ticks.ended tzq-with-premiere-ticks-reads.Learnt (λ κs a x.
      AnswerWhole x.0 (settled (kind_from a.1.1.0) (ticks_at a.0 a.1.0)))
  pub with_seconds : Gives tzq_with_seconds.ended tzq-with-seconds-reads.Learnt (λ κs a x.
      AnswerWhole x.0 (settled (kind_from a.1.1.1.0) (seconds_at a.0 a.1.0 a.1.1.0)))
  pub add : Gives tzq_add.ended tzq-add-reads.Learnt (λ κs a x. AnswerWhole x.0 (add_of (timecode_from a.0) (timecode_from a.1.0)))
  pub sub : Gives tzq_sub.ended tzq-sub-reads.Learnt (λ κs a x. AnswerWhole x.0 (sub_of (timecode_from a.0) (timecode_from a.1.0)))
  pub mul : Gives tzq_mul.ended tzq-mul-reads.Learnt (λ κs a x. AnswerWhole x.0 (mul_of (timecode_from a.0) a.1.0 a.1.1.0))
  pub div : Gives tzq_div.ended tzq-div-reads.Learnt (λ κs a x. AnswerWhole x.0 (div_of (timecode_from a.0) a.1.0))
  pub rem : Gives tzq_rem.ended tzq-rem-reads.Learnt (λ κs a x. AnswerWhole x.0 (rem_of (timecode_from a.0) a.1.0))
  pub divq : Gives tzq_divq.ended tzq-divq-reads.Learnt (λ κs a x. AnswerWhole x.0 (divq_of (timecode_from a.0) a.1.0 a.1.1.0))
  pub remq : Gives tzq_remq.ended tzq-remq-reads.Learnt (λ κs a x. AnswerWhole x.0 (remq_of (timecode_from a.0) a.1.0 a.1.1.0))
  pub neg : Gives tzq_neg.ended tzq-neg-reads.Learnt (λ κs a x. AnswerWhole x.0 (neg_of (timecode_from a.0)))
  pub abs : Gives tzq_abs.ended tzq-abs-reads.Learnt (λ κs a x. AnswerWhole x.0 (abs_of (timecode_from a.0)))
  pub rebase : Gives tzq_rebase.ended tzq-rebase-reads.Learnt (λ κs a x. AnswerWhole x.0 (rebase_of (timecode_from a.0) a.1.0))
  pub formats : (format_number FF35mm4perf ≡ 1) × (format_number FF35mm3perf ≡ 2) × (format_number FF35mm2perf ≡ 3) × (format_number FF16mm ≡ 4)
