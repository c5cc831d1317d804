-- Demand 1, calls from C: any bytes and any numbers get an answer, and one only; nothing relies on the caller having checked.
-- Assumes nothing.
use Rattle.promises.specs.Answers.{Answers}
use Rattle.exports.specs.contracts.reads.tzq_read as tzq_read
use Rattle.exports.proofs.reads.tzq_read.Reads as tzq-read-reads
use Rattle.exports.specs.contracts.reads.tzq_read_as as tzq_read_as
use Rattle.exports.proofs.reads.tzq_read_as.Reads as tzq-read-as-reads
use Rattle.exports.specs.contracts.reads.tzq_read_runtime as tzq_read_runtime
use Rattle.exports.proofs.reads.tzq_read_runtime.Reads as tzq-read-runtime-reads
use Rattle.exports.specs.contracts.writes.tzq_sections as tzq_sections
use Rattle.exports.proofs.writes.tzq_sections.Reads as tzq-sections-reads
use Rattle.exports.specs.contracts.why.tzq_why as tzq_why
use Rattle.exports.proofs.why.tzq_why.Reads as tzq-why-reads
use Rattle.exports.specs.contracts.writes.tzq_write_label as tzq_write_label
use Rattle.exports.proofs.writes.tzq_write_label.Reads as tzq-write-label-reads
use Rattle.exports.specs.contracts.writes.tzq_write_footage as tzq_write_footage
use Rattle.exports.proofs.writes.tzq_write_footage.Reads as tzq-write-footage-reads
use Rattle.exports.specs.contracts.writes.tzq_write_runtime as tzq_write_runtime
use Rattle.exports.proofs.writes.tzq_write_runtime.Reads as tzq-write-runtime-reads
use Rattle.exports.specs.contracts.times.tzq_with_frames as tzq_with_frames
use Rattle.exports.proofs.times.tzq_with_frames.Reads as tzq-with-frames-reads
use Rattle.exports.specs.contracts.times.tzq_with_premiere_ticks as tzq_with_premiere_ticks
use Rattle.exports.proofs.times.tzq_with_premiere_ticks.Reads as tzq-with-premiere-ticks-reads
use Rattle.exports.specs.contracts.times.tzq_with_seconds as tzq_with_seconds
use Rattle.exports.proofs.times.tzq_with_seconds.Reads as tzq-with-seconds-reads
use Rattle.exports.specs.contracts.times.tzq_premiere_ticks as tzq_premiere_ticks
use Rattle.exports.proofs.times.tzq_premiere_ticks.Reads as tzq-premiere-ticks-reads
use Rattle.exports.specs.contracts.times.tzq_seconds as tzq_seconds
use Rattle.exports.proofs.times.tzq_seconds.Reads as tzq-seconds-reads
use Rattle.exports.specs.contracts.sums.tzq_add as tzq_add
use Rattle.exports.proofs.sums.tzq_add.Reads as tzq-add-reads
use Rattle.exports.specs.contracts.sums.tzq_sub as tzq_sub
use Rattle.exports.proofs.sums.tzq_sub.Reads as tzq-sub-reads
use Rattle.exports.specs.contracts.sums.tzq_cmp as tzq_cmp
use Rattle.exports.proofs.sums.tzq_cmp.Reads as tzq-cmp-reads
use Rattle.exports.specs.contracts.sums.tzq_mul as tzq_mul
use Rattle.exports.proofs.sums.tzq_mul.Reads as tzq-mul-reads
use Rattle.exports.specs.contracts.sums.tzq_div as tzq_div
use Rattle.exports.proofs.sums.tzq_div.Reads as tzq-div-reads
use Rattle.exports.specs.contracts.sums.tzq_rem as tzq_rem
use Rattle.exports.proofs.sums.tzq_rem.Reads as tzq-rem-reads
use Rattle.exports.specs.contracts.sums.tzq_divq as tzq_divq
use Rattle.exports.proofs.sums.tzq_divq.Reads as tzq-divq-reads
use Rattle.exports.specs.contracts.sums.tzq_remq as tzq_remq
use Rattle.exports.proofs.sums.tzq_remq.Reads as tzq-remq-reads
use Rattle.exports.specs.contracts.sums.tzq_neg as tzq_neg
use Rattle.exports.proofs.sums.tzq_neg.Reads as tzq-neg-reads
use Rattle.exports.specs.contracts.sums.tzq_abs as tzq_abs
use Rattle.exports.proofs.sums.tzq_abs.Reads as tzq-abs-reads
use Rattle.exports.specs.contracts.sums.tzq_rebase as tzq_rebase
use Rattle.exports.proofs.sums.tzq_rebase.Reads as tzq-rebase-reads
use Rattle.exports.specs.contracts.times.tzq_convert as tzq_convert
use Rattle.exports.proofs.times.tzq_convert.Reads as tzq-convert-reads
use Rattle.exports.specs.contracts.lists.tzq_record_at as tzq_record_at
use Rattle.exports.proofs.lists.tzq_record_at.Reads as tzq-record-at-reads
use Rattle.exports.specs.contracts.lists.tzq_check_list as tzq_check_list
use Rattle.exports.proofs.lists.tzq_check_list.Reads as tzq-check-list-reads
use Rattle.exports.specs.contracts.lists.tzq_write_list as tzq_write_list
use Rattle.exports.proofs.lists.tzq_write_list.Reads as tzq-write-list-reads
use Rattle.exports.specs.contracts.route.tzq_route as tzq_route
use Rattle.exports.proofs.route.tzq_route.Reads as tzq-route-reads
use Rattle.exports.specs.contracts.tables.tzq_rate as tzq_rate
use Rattle.exports.proofs.tables.tzq_rate.Reads as tzq-rate-reads
use Rattle.exports.specs.contracts.tables.tzq_drop_frames_per_minute as tzq_drop_frames_per_minute
use Rattle.exports.proofs.tables.tzq_drop_frames_per_minute.Reads as tzq-drop-frames-per-minute-reads
use Rattle.exports.specs.contracts.tables.tzq_format as tzq_format
use Rattle.exports.proofs.tables.tzq_format.Reads as tzq-format-reads
use Rattle.exports.specs.contracts.tables.tzq_minute_start as tzq_minute_start
use Rattle.exports.proofs.tables.tzq_minute_start.Reads as tzq-minute-start-reads

-- every function that C calls answers every call, and in one way
pub record OneAnswerC : Type 0 where
  -- texts read
  pub tzq_read : Answers tzq_read.ended tzq-read-reads.Asked tzq-read-reads.Learnt
  pub tzq_read_as : Answers tzq_read_as.ended tzq-read-as-reads.Asked tzq-read-as-reads.Learnt
  pub tzq_read_runtime : Answers tzq_read_runtime.ended tzq-read-runtime-reads.Asked tzq-read-runtime-reads.Learnt
  pub tzq_why : Answers tzq_why.ended tzq-why-reads.Asked tzq-why-reads.Learnt
  -- texts written
  pub tzq_sections : Answers tzq_sections.ended tzq-sections-reads.Asked tzq-sections-reads.Learnt
  pub tzq_write_label : Answers tzq_write_label.ended tzq-write-label-reads.Asked tzq-write-label-reads.Learnt
  pub tzq_write_footage : Answers tzq_write_footage.ended tzq-write-footage-reads.Asked tzq-write-footage-reads.Learnt
  pub tzq_write_runtime : Answers tzq_write_runtime.ended tzq-write-runtime-reads.Asked tzq-write-runtime-reads.Learnt
  -- time
  pub tzq_with_frames : Answers tzq_with_frames.ended tzq-with-frames-reads.Asked tzq-with-frames-reads.Learnt
  pub tzq_with_premiere_ticks : Answers tzq_with_premiere_ticks.ended tzq-with-premiere-ticks-reads.Asked tzq-with-premiere-ticks-reads.Learnt
  pub tzq_with_seconds : Answers tzq_with_seconds.ended tzq-with-seconds-reads.Asked tzq-with-seconds-reads.Learnt
  pub tzq_premiere_ticks : Answers tzq_premiere_ticks.ended tzq-premiere-ticks-reads.Asked tzq-premiere-ticks-reads.Learnt
  pub tzq_seconds : Answers tzq_seconds.ended tzq-seconds-reads.Asked tzq-seconds-reads.Learnt
  -- arithmetic
  pub tzq_add : Answers tzq_add.ended tzq-add-reads.Asked tzq-add-reads.Learnt
  pub tzq_sub : Answers tzq_sub.ended tzq-sub-reads.Asked tzq-sub-reads.Learnt
  pub tzq_cmp : Answers tzq_cmp.ended tzq-cmp-reads.Asked tzq-cmp-reads.Learnt
  pub tzq_mul : Answers tzq_mul.ended tzq-mul-reads.Asked tzq-mul-reads.Learnt
  pub tzq_div : Answers tzq_div.ended tzq-div-reads.Asked tzq-div-reads.Learnt
  pub tzq_rem : Answers tzq_rem.ended tzq-rem-reads.Asked tzq-rem-reads.Learnt
  pub tzq_divq : Answers tzq_divq.ended tzq-divq-reads.Asked tzq-divq-reads.Learnt
  pub tzq_remq : Answers tzq_remq.ended tzq-remq-reads.Asked tzq-remq-reads.Learnt
  pub tzq_neg : Answers tzq_neg.ended tzq-neg-reads.Asked tzq-neg-reads.Learnt
  pub tzq_abs : Answers tzq_abs.ended tzq-abs-reads.Asked tzq-abs-reads.Learnt
  pub tzq_rebase : Answers tzq_rebase.ended tzq-rebase-reads.Asked tzq-rebase-reads.Learnt
  -- chains
  pub tzq_convert : Answers tzq_convert.ended tzq-convert-reads.Asked tzq-convert-reads.Learnt
  -- shot lists
  pub tzq_record_at : Answers tzq_record_at.ended tzq-record-at-reads.Asked tzq-record-at-reads.Learnt
  pub tzq_check_list : Answers tzq_check_list.ended tzq-check-list-reads.Asked tzq-check-list-reads.Learnt
  pub tzq_write_list : Answers tzq_write_list.ended tzq-write-list-reads.Asked tzq-write-list-reads.Learnt
  -- the router
  pub tzq_route : Answers tzq_route.ended tzq-route-reads.Asked tzq-route-reads.Learnt
  -- the tables
  pub tzq_rate : Answers tzq_rate.ended tzq-rate-reads.Asked tzq-rate-reads.Learnt
  pub tzq_drop_frames_per_minute : Answers tzq_drop_frames_per_minute.ended tzq-drop-frames-per-minute-reads.Asked tzq-drop-frames-per-minute-reads.Learnt
  pub tzq_format : Answers tzq_format.ended tzq-format-reads.Asked tzq-format-reads.Learnt
  pub tzq_minute_start : Answers tzq_minute_start.ended tzq-minute-start-reads.Asked tzq-minute-start-reads.Learnt
