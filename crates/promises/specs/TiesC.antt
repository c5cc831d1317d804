-- The promises speak of what runs, from C: whatever the contract of a function for C allows is the answer of the definition, handed over.
-- Assumes nothing.
use Rattle.std.specs.Prelude.{◌≡◌, drop, Some, None}
use Rattle.outcomes.specs.Outcome.{Gives}
use Rattle.arithmetic.specs.Compare.{compare_of}
use Rattle.arithmetic.specs.Count.{abs_of, neg_of, rebase_of}
use Rattle.arithmetic.specs.Flooring.{divq_of}
use Rattle.arithmetic.specs.Product.{mul_of}
use Rattle.arithmetic.specs.Remainder.{remq_of}
use Rattle.arithmetic.specs.Sum.{add_of, sub_of}
use Rattle.arithmetic.specs.Truncating.{div_of, rem_of}
use Rattle.chains.specs.Chain.{convert_of}
use Rattle.shot_lists.specs.Entries.{on_disk, entry_of}
use Rattle.shot_lists.specs.Reading.{checked_of, read_of}
use Rattle.shot_writer.specs.ListText.{list_draft}
use Rattle.exports.specs.HandedLists.{handed_entry, handed_checked}
use Rattle.router.specs.Route.{route_of}
use Rattle.exports.specs.HandedRoute.{handed_routed}
use Rattle.exports.specs.HandedWhy.{stated_from, handed_reason}
use Rattle.exports.specs.Handed.{SecondsHanded, handed_answer, handed_count, handed_format, handed_length, handed_order, handed_rate, handed_read, handed_sections, handed_ticks, handed_timecode, timecode_from}
use Rattle.film.specs.Film.{format_at}
use Rattle.footage_writer.specs.FootageText.{footage_draft}
use Rattle.label_writer.specs.LabelText.{label_draft}
use Rattle.label_writer.specs.Sections.{sectioned}
use Rattle.minutes.specs.Minutes.{minute_at}
use Rattle.rates.specs.Rates.{drop_frames, rate_at}
use Rattle.timecodes.specs.Kinds.{kind_from}
use Rattle.timecodes.specs.Made.{settled}
use Rattle.reading.specs.For.{read_for}
use Rattle.runtime_reading.specs.Reading.{read_runtime}
use Rattle.runtime_writer.specs.RuntimeText.{runtime_draft}
use Rattle.time.specs.Frames.{frames_at, seconds_at, ticks_at}
use Rattle.time.specs.Ticks.{ticks_of}
use Rattle.reasons.specs.Why.{phrase_for, why_of}
use Rattle.written.specs.Written.{Text, answer_to, line_to}
use Rattle.exports.specs.contracts.reads.tzq_read as tzq_read
use Rattle.exports.proofs.reads.tzq_read.Reads as tzq-read-reads
use Rattle.exports.specs.contracts.reads.tzq_read_as as tzq_read_as
use Rattle.exports.proofs.reads.tzq_read_as.Reads as tzq-read-as-reads
use Rattle.exports.specs.contracts.reads.tzq_read_runtime as tzq_read_runtime
use Rattle.exports.proofs.reads.tzq_read_runtime.Reads as tzq-read-runtime-reads
use Rattle.exports.specs.contracts.writes.tzq_sections as tzq_sections
use Rattle.exports.proofs.writes.tzq_sections.Reads as tzq-sections-reads
use Rattle.exports.specs.contracts.why.tzq_why as tzq_why
use Rattle.exports.proofs.why.tzq_why.Reads as tzq-why-reads
use Rattle.exports.specs.contracts.writes.tzq_write_label as tzq_write_label
use Rattle.exports.proofs.writes.tzq_write_label.Reads as tzq-write-label-reads
use Rattle.exports.specs.contracts.writes.tzq_write_footage as tzq_write_footage
use Rattle.exports.proofs.writes.tzq_write_footage.Reads as tzq-write-footage-reads
use Rattle.exports.specs.contracts.writes.tzq_write_runtime as tzq_write_runtime
use Rattle.exports.proofs.writes.tzq_write_runtime.Reads as tzq-write-runtime-reads
use Rattle.exports.specs.contracts.times.tzq_with_frames as tzq_with_frames
use Rattle.exports.proofs.times.tzq_with_frames.Reads as tzq-with-frames-reads
use Rattle.exports.specs.contracts.times.tzq_with_premiere_ticks as tzq_with_premiere_ticks
use Rattle.exports.proofs.times.tzq_with_premiere_ticks.Reads as tzq-with-premiere-ticks-reads
use Rattle.exports.specs.contracts.times.tzq_with_seconds as tzq_with_seconds
use Rattle.exports.proofs.times.tzq_with_seconds.Reads as tzq-with-seconds-reads
use Rattle.exports.specs.contracts.times.tzq_premiere_ticks as tzq_premiere_ticks
use Rattle.exports.proofs.times.tzq_premiere_ticks.Reads as tzq-premiere-ticks-reads
use Rattle.exports.specs.contracts.times.tzq_seconds as tzq_seconds
use Rattle.exports.proofs.times.tzq_seconds.Reads as tzq-seconds-reads
use Rattle.exports.specs.contracts.sums.tzq_add as tzq_add
use Rattle.exports.proofs.sums.tzq_add.Reads as tzq-add-reads
use Rattle.exports.specs.contracts.sums.tzq_sub as tzq_sub
use Rattle.exports.proofs.sums.tzq_sub.Reads as tzq-sub-reads
use Rattle.exports.specs.contracts.sums.tzq_cmp as tzq_cmp
use Rattle.exports.proofs.sums.tzq_cmp.Reads as tzq-cmp-reads
use Rattle.exports.specs.contracts.sums.tzq_mul as tzq_mul
use Rattle.exports.proofs.sums.tzq_mul.Reads as tzq-mul-reads
use Rattle.exports.specs.contracts.sums.tzq_div as tzq_div
use Rattle.exports.proofs.sums.tzq_div.Reads as tzq-div-reads
use Rattle.exports.specs.contracts.sums.tzq_rem as tzq_rem
use Rattle.exports.proofs.sums.tzq_rem.Reads as tzq-rem-reads
use Rattle.exports.specs.contracts.sums.tzq_divq as tzq_divq
use Rattle.exports.proofs.sums.tzq_divq.Reads as tzq-divq-reads
use Rattle.exports.specs.contracts.sums.tzq_remq as tzq_remq
use Rattle.exports.proofs.sums.tzq_remq.Reads as tzq-remq-reads
use Rattle.exports.specs.contracts.sums.tzq_neg as tzq_neg
use Rattle.exports.proofs.sums.tzq_neg.Reads as tzq-neg-reads
use Rattle.exports.specs.contracts.sums.tzq_abs as tzq_abs
use Rattle.exports.proofs.sums.tzq_abs.Reads as tzq-abs-reads
use Rattle.exports.specs.contracts.sums.tzq_rebase as tzq_rebase
use Rattle.exports.proofs.sums.tzq_rebase.Reads as tzq-rebase-reads
use Rattle.exports.specs.contracts.times.tzq_convert as tzq_convert
use Rattle.exports.proofs.times.tzq_convert.Reads as tzq-convert-reads
use Rattle.exports.specs.contracts.lists.tzq_record_at as tzq_record_at
use Rattle.exports.proofs.lists.tzq_record_at.Reads as tzq-record-at-reads
use Rattle.exports.specs.contracts.lists.tzq_check_list as tzq_check_list
use Rattle.exports.proofs.lists.tzq_check_list.Reads as tzq-check-list-reads
use Rattle.exports.specs.contracts.lists.tzq_write_list as tzq_write_list
use Rattle.exports.proofs.lists.tzq_write_list.Reads as tzq-write-list-reads
use Rattle.exports.specs.contracts.route.tzq_route as tzq_route
use Rattle.exports.proofs.route.tzq_route.Reads as tzq-route-reads
use Rattle.exports.specs.contracts.tables.tzq_rate as tzq_rate
use Rattle.exports.proofs.tables.tzq_rate.Reads as tzq-rate-reads
use Rattle.exports.specs.contracts.tables.tzq_drop_frames_per_minute as tzq_drop_frames_per_minute
use Rattle.exports.proofs.tables.tzq_drop_frames_per_minute.Reads as tzq-drop-frames-per-minute-reads
use Rattle.exports.specs.contracts.tables.tzq_format as tzq_format
use Rattle.exports.proofs.tables.tzq_format.Reads as tzq-format-reads
use Rattle.exports.specs.contracts.tables.tzq_minute_start as tzq_minute_start
use Rattle.exports.proofs.tables.tzq_minute_start.Reads as tzq-minute-start-reads

-- a is what the function is called with, x what comes of it: the answer, and the last value of each thing lent
pub record TiesC : Type 0 where
  -- texts read
  pub tzq_read : Gives tzq_read.ended tzq-read-reads.Learnt (λ κs a x. x.0 ≡ handed_read (read_for (kind_from a.1.1.0) a.0.now None a.1.0))
  pub tzq_read_as : Gives tzq_read_as.ended tzq-read-as-reads.Learnt (λ κs a x.
      x.0 ≡ handed_read (read_for (kind_from a.1.1.1.0) a.0.now (Some a.1.0) a.1.1.0))
  pub tzq_read_runtime : Gives tzq_read_runtime.ended tzq-read-runtime-reads.Learnt (λ κs a x.
      x.0 ≡ handed_answer (settled (kind_from a.1.1.0) (read_runtime a.0.now a.1.0)))
  pub tzq_why : Gives tzq_why.ended tzq-why-reads.Learnt (λ κs a x.
      (x.0 ≡ handed_reason (why_of (kind_from a.1.1.1.1.0) a.0.now (stated_from a.1.0 a.1.1.0) a.1.1.1.0 a.1.1.1.1.1.0.now a.1.1.1.1.1.1.0))
      × (x.1.1.1.1.1.1.0 ≡ line_to a.1.1.1.1.1.0.now a.1.1.1.1.1.1.0 (Text (phrase_for (kind_from a.1.1.1.1.0) a.0.now (stated_from a.1.0 a.1.1.0) a.1.1.1.0))))
  -- texts written
  pub tzq_sections : Gives tzq_sections.ended tzq-sections-reads.Learnt (λ κs a x. x.0 ≡ handed_sections (sectioned (timecode_from a.0)))
  pub tzq_write_label : Gives tzq_write_label.ended tzq-write-label-reads.Learnt (λ κs a x.
      (x.0 ≡ handed_length (answer_to a.1.0.now a.1.1.0 (label_draft (timecode_from a.0))))
      × (x.1.1.0 ≡ line_to a.1.0.now a.1.1.0 (label_draft (timecode_from a.0))))
  pub tzq_write_footage : Gives tzq_write_footage.ended tzq-write-footage-reads.Learnt (λ κs a x.
      (x.0 ≡ handed_length (answer_to a.1.1.0.now a.1.1.1.0 (footage_draft (timecode_from a.0) a.1.0)))
      × (x.1.1.1.0 ≡ line_to a.1.1.0.now a.1.1.1.0 (footage_draft (timecode_from a.0) a.1.0)))
  pub tzq_write_runtime : Gives tzq_write_runtime.ended tzq-write-runtime-reads.Learnt (λ κs a x.
      (x.0 ≡ handed_length (answer_to a.1.1.0.now a.1.1.1.0 (runtime_draft (timecode_from a.0) a.1.0)))
      × (x.1.1.1.0 ≡ line_to a.1.1.0.now a.1.1.1.0 (runtime_draft (timecode_from a.0) a.1.0)))
  -- time
  pub tzq_with_frames : Gives tzq_with_frames.ended tzq-with-frames-reads.Learnt (λ κs a x.
      x.0 ≡ handed_answer (settled (kind_from a.1.1.0) (frames_at a.0 a.1.0)))
  pub tzq_with_premiere_ticks : Gives tzq_with_premiere_ticks.ended tzq-with-premiere-ticks-reads.Learnt (λ κs a x.
      x.0 ≡ handed_answer (settled (kind_from a.1.1.0) (ticks_at a.0 a.1.0)))
  pub tzq_with_seconds : Gives tzq_with_seconds.ended tzq-with-seconds-reads.Learnt (λ κs a x.
      x.0 ≡ handed_answer (settled (kind_from a.1.1.1.0) (seconds_at a.0 a.1.0 a.1.1.0)))
  pub tzq_premiere_ticks : Gives tzq_premiere_ticks.ended tzq-premiere-ticks-reads.Learnt (λ κs a x. x.0 ≡ handed_ticks (ticks_of (timecode_from a.0)))
  pub tzq_seconds : Gives tzq_seconds.ended tzq-seconds-reads.Learnt (λ κs a x. SecondsHanded (timecode_from a.0) x.0)
  -- arithmetic
  pub tzq_add : Gives tzq_add.ended tzq-add-reads.Learnt (λ κs a x. x.0 ≡ handed_answer (add_of (timecode_from a.0) (timecode_from a.1.0)))
  pub tzq_sub : Gives tzq_sub.ended tzq-sub-reads.Learnt (λ κs a x. x.0 ≡ handed_answer (sub_of (timecode_from a.0) (timecode_from a.1.0)))
  pub tzq_cmp : Gives tzq_cmp.ended tzq-cmp-reads.Learnt (λ κs a x. x.0 ≡ handed_order (compare_of (timecode_from a.0) (timecode_from a.1.0)))
  pub tzq_mul : Gives tzq_mul.ended tzq-mul-reads.Learnt (λ κs a x. x.0 ≡ handed_answer (mul_of (timecode_from a.0) a.1.0 a.1.1.0))
  pub tzq_div : Gives tzq_div.ended tzq-div-reads.Learnt (λ κs a x. x.0 ≡ handed_answer (div_of (timecode_from a.0) a.1.0))
  pub tzq_rem : Gives tzq_rem.ended tzq-rem-reads.Learnt (λ κs a x. x.0 ≡ handed_answer (rem_of (timecode_from a.0) a.1.0))
  pub tzq_divq : Gives tzq_divq.ended tzq-divq-reads.Learnt (λ κs a x. x.0 ≡ handed_answer (divq_of (timecode_from a.0) a.1.0 a.1.1.0))
  pub tzq_remq : Gives tzq_remq.ended tzq-remq-reads.Learnt (λ κs a x. x.0 ≡ handed_answer (remq_of (timecode_from a.0) a.1.0 a.1.1.0))
  pub tzq_neg : Gives tzq_neg.ended tzq-neg-reads.Learnt (λ κs a x. x.0 ≡ handed_answer (neg_of (timecode_from a.0)))
  pub tzq_abs : Gives tzq_abs.ended tzq-abs-reads.Learnt (λ κs a x. x.0 ≡ handed_answer (abs_of (timecode_from a.0)))
  pub tzq_rebase : Gives tzq_rebase.ended tzq-rebase-reads.Learnt (λ κs a x. x.0 ≡ handed_answer (rebase_of (timecode_from a.0) a.1.0))
  -- chains
  pub tzq_convert : Gives tzq_convert.ended tzq-convert-reads.Learnt (λ κs a x. x.0 ≡ handed_timecode (convert_of (timecode_from a.0) a.1.0.now))
  -- shot lists
  pub tzq_record_at : Gives tzq_record_at.ended tzq-record-at-reads.Learnt (λ κs a x. x.0 ≡ handed_entry (entry_of on_disk a.1.1.0 (drop a.1.0 a.0.now)))
  pub tzq_check_list : Gives tzq_check_list.ended tzq-check-list-reads.Learnt (λ κs a x. x.0 ≡ handed_checked (checked_of (read_of on_disk a.0.now)))
  pub tzq_write_list : Gives tzq_write_list.ended tzq-write-list-reads.Learnt (λ κs a x.
      (x.0 ≡ handed_length (answer_to a.1.0.now a.1.1.0 (list_draft a.0.now)))
      × (x.1.1.0 ≡ line_to a.1.0.now a.1.1.0 (list_draft a.0.now)))
  -- the router
  pub tzq_route : Gives tzq_route.ended tzq-route-reads.Learnt (λ κs a x.
      x.0 ≡ handed_routed (route_of a.0 a.1.0.now a.1.1.0.now a.1.1.1.0 a.1.1.1.1.0.now))
  -- the tables
  pub tzq_rate : Gives tzq_rate.ended tzq-rate-reads.Learnt (λ κs a x. x.0 ≡ handed_rate (rate_at a.0))
  pub tzq_drop_frames_per_minute : Gives tzq_drop_frames_per_minute.ended tzq-drop-frames-per-minute-reads.Learnt (λ κs a x. x.0 ≡ drop_frames a.0)
  pub tzq_format : Gives tzq_format.ended tzq-format-reads.Learnt (λ κs a x. x.0 ≡ handed_format (format_at a.0))
  pub tzq_minute_start : Gives tzq_minute_start.ended tzq-minute-start-reads.Learnt (λ κs a x. x.0 ≡ handed_count (minute_at a.0))
