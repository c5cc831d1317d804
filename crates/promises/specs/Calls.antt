-- Demand 1, calls: any bytes and any numbers get an answer, and one only; nothing relies on the caller having checked.
-- Assumes nothing.
use Rattle.std.specs.Prelude.{◌≡◌, []}
use Rattle.promises.specs.Answers.{Answers}
use Rattle.reading.specs.contracts.read_text as read-text
use Rattle.reading.proofs.read_text.Reads as read-text-reads
use Rattle.reading.specs.contracts.read_label_only as read_label_only
use Rattle.reading.proofs.read_label_only.Reads as read-label-only-reads
use Rattle.reasons.specs.contracts.why as why
use Rattle.reasons.proofs.why.Reads as why-reads
use Rattle.phrases.specs.contracts.write_phrase as write_phrase
use Rattle.phrases.proofs.write_phrase.Reads as write-phrase-reads
use Rattle.runtime_reading.specs.contracts.read_runtime as read-runtime
use Rattle.runtime_reading.proofs.read_runtime.Reads as read-runtime-reads
use Rattle.label_writer.specs.contracts.sections as sections
use Rattle.label_writer.proofs.sections.Reads as sections-reads
use Rattle.label_writer.specs.contracts.sections_length as sections-length
use Rattle.label_writer.proofs.sections_length.Reads as sections-length-reads
use Rattle.label_writer.specs.contracts.put_sections as put_sections
use Rattle.label_writer.proofs.put_sections.Reads as put-sections-reads
use Rattle.label_writer.specs.contracts.write_label as write_label
use Rattle.label_writer.proofs.write_label.Reads as write-label-reads
use Rattle.footage_writer.specs.contracts.write_footage as write_footage
use Rattle.footage_writer.proofs.write_footage.Reads as write-footage-reads
use Rattle.runtime_writer.specs.contracts.write_runtime as write_runtime
use Rattle.runtime_writer.proofs.write_runtime.Reads as write-runtime-reads
use Rattle.time.specs.contracts.is_fraction as is-fraction
use Rattle.time.proofs.is_fraction.Reads as is-fraction-reads
use Rattle.time.specs.contracts.with_frames as with_frames
use Rattle.time.proofs.with_frames.Reads as with-frames-reads
use Rattle.time.specs.contracts.with_premiere_ticks as with_premiere_ticks
use Rattle.time.proofs.with_premiere_ticks.Reads as with-premiere-ticks-reads
use Rattle.time.specs.contracts.with_seconds as with_seconds
use Rattle.time.proofs.with_seconds.Reads as with-seconds-reads
use Rattle.time.specs.contracts.premiere_ticks as premiere_ticks
use Rattle.time.proofs.premiere_ticks.Reads as premiere-ticks-reads
use Rattle.time.specs.contracts.seconds as seconds
use Rattle.time.proofs.seconds.Reads as seconds-reads
use Rattle.arithmetic.specs.contracts.add as add
use Rattle.arithmetic.proofs.add.Reads as add_reads
use Rattle.arithmetic.specs.contracts.sub as sub
use Rattle.arithmetic.proofs.sub.Reads as sub-reads
use Rattle.arithmetic.specs.contracts.mul as mul
use Rattle.arithmetic.proofs.mul.Reads as mul-reads
use Rattle.arithmetic.specs.contracts.div as div
use Rattle.arithmetic.proofs.div.Reads as div-reads
use Rattle.arithmetic.specs.contracts.rem as rem
use Rattle.arithmetic.proofs.rem.Reads as rem-reads
use Rattle.arithmetic.specs.contracts.divq as divq
use Rattle.arithmetic.proofs.divq.Reads as divq-reads
use Rattle.arithmetic.specs.contracts.remq as remq
use Rattle.arithmetic.proofs.remq.Reads as remq-reads
use Rattle.arithmetic.specs.contracts.cmp as cmp
use Rattle.arithmetic.proofs.cmp.Reads as cmp-reads
use Rattle.arithmetic.specs.contracts.neg as neg
use Rattle.arithmetic.proofs.neg.Reads as neg-reads
use Rattle.arithmetic.specs.contracts.abs as abs
use Rattle.arithmetic.proofs.abs.Reads as abs-reads
use Rattle.arithmetic.specs.contracts.rebase as rebase
use Rattle.arithmetic.proofs.rebase.Reads as rebase-reads
use Rattle.chains.specs.contracts.convert as convert
use Rattle.chains.proofs.convert.Reads as convert-reads
use Rattle.shot_lists.specs.contracts.record_at as record_at
use Rattle.shot_lists.proofs.record_at.Reads as record-at-reads
use Rattle.shot_lists.specs.contracts.check_list as check_list
use Rattle.shot_lists.proofs.check_list.Reads as check-list-reads
use Rattle.shot_lists.specs.contracts.given_at as given_at
use Rattle.shot_lists.proofs.given_at.Reads as given-at-reads
use Rattle.shot_writer.specs.contracts.write_list as write_list
use Rattle.shot_writer.proofs.write_list.Reads as write-list-reads
use Rattle.router.specs.contracts.check_directory as check_directory
use Rattle.router.proofs.check_directory.Reads as check-directory-reads
use Rattle.router.specs.contracts.query_range as query_range
use Rattle.router.proofs.query_range.Reads as query-range-reads
use Rattle.router.specs.contracts.route as route
use Rattle.router.proofs.route.Reads as route-reads
use Rattle.router.specs.contracts.tested as tested
use Rattle.router.proofs.tested.Reads as tested_reads
use Rattle.router.specs.contracts.verdict as verdict
use Rattle.router.proofs.verdict.Reads as verdict-reads
use Rattle.router.specs.contracts.route_tested as route_tested
use Rattle.router.proofs.route_tested.Reads as route-tested-reads
use denote.RattleType.{RattleType}
use denote.Param.Laws.{Laws}
use Rattle.answers.specs.contracts.Cause.number as answers_cause_number
use Rattle.answers.proofs.Cause.number.Reads as answers-cause-number-reads
use Rattle.answers.specs.contracts.number as answers_number
use Rattle.answers.proofs.number.Reads as answers-number-reads
use Rattle.answers.specs.contracts.count as answers_count
use Rattle.answers.proofs.count.Reads as answers-count-reads
use Rattle.timecodes.specs.contracts.timecode_of as timecodes_timecode_of
use Rattle.timecodes.proofs.timecode_of.Reads as timecodes-timecode-of-reads
use Rattle.written.specs.contracts.length as written_length
use Rattle.written.proofs.length.Reads as written-length-reads
use Rattle.rates.specs.contracts.framerate_at as framerate_at
use Rattle.rates.proofs.framerate_at.Reads as framerate-at-reads
use Rattle.film.specs.contracts.format_at as format-at
use Rattle.film.proofs.format_at.Reads as format-at-reads
use Rattle.minutes.specs.contracts.minute_start as minute-start
use Rattle.minutes.proofs.minute_start.Reads as minute-start-reads

-- every function that a user calls answers every call, and in one way
pub record OneAnswer : Type 2 where
  -- reading
  pub read-text : Answers read-text.ended read-text-reads.Asked read-text-reads.Learnt
  pub read_label_only : Answers read_label_only.ended read-label-only-reads.Asked read-label-only-reads.Learnt
  pub read-runtime : Answers read-runtime.ended read-runtime-reads.Asked read-runtime-reads.Learnt
  pub why : Answers why.ended why-reads.Asked why-reads.Learnt
  -- writing
  pub write_phrase : Answers write_phrase.ended write-phrase-reads.Asked write-phrase-reads.Learnt
  pub sections : Answers sections.ended sections-reads.Asked sections-reads.Learnt
  pub sections-length : Answers sections-length.ended sections-length-reads.Asked sections-length-reads.Learnt
  pub put_sections : Answers put_sections.ended put-sections-reads.Asked put-sections-reads.Learnt
  pub write_label : Answers write_label.ended write-label-reads.Asked write-label-reads.Learnt
  pub write_footage : Answers write_footage.ended write-footage-reads.Asked write-footage-reads.Learnt
  pub write_runtime : Answers write_runtime.ended write-runtime-reads.Asked write-runtime-reads.Learnt
  -- time
  pub is-fraction : Answers is-fraction.ended is-fraction-reads.Asked is-fraction-reads.Learnt
  pub with_frames : Answers with_frames.ended with-frames-reads.Asked with-frames-reads.Learnt
  pub with_premiere_ticks : Answers with_premiere_ticks.ended with-premiere-ticks-reads.Asked with-premiere-ticks-reads.Learnt
  pub with_seconds : Answers with_seconds.ended with-seconds-reads.Asked with-seconds-reads.Learnt
  pub premiere_ticks : Answers premiere_ticks.ended premiere-ticks-reads.Asked premiere-ticks-reads.Learnt
  pub seconds : Answers seconds.ended seconds-reads.Asked seconds-reads.Learnt
  -- arithmetic
  pub add : Answers add.ended add_reads.Asked add_reads.Learnt
  pub sub : Answers sub.ended sub-reads.Asked sub-reads.Learnt
  pub mul : Answers mul.ended mul-reads.Asked mul-reads.Learnt
  pub div : Answers div.ended div-reads.Asked div-reads.Learnt
  pub rem : Answers rem.ended rem-reads.Asked rem-reads.Learnt
  pub divq : Answers divq.ended divq-reads.Asked divq-reads.Learnt
  pub remq : Answers remq.ended remq-reads.Asked remq-reads.Learnt
  pub cmp : Answers cmp.ended cmp-reads.Asked cmp-reads.Learnt
  pub neg : Answers neg.ended neg-reads.Asked neg-reads.Learnt
  pub abs : Answers abs.ended abs-reads.Asked abs-reads.Learnt
  pub rebase : Answers rebase.ended rebase-reads.Asked rebase-reads.Learnt
  -- chains
  pub convert : Answers convert.ended convert-reads.Asked convert-reads.Learnt
  -- shot lists
  pub record_at : Answers record_at.ended record-at-reads.Asked record-at-reads.Learnt
  pub check_list : Answers check_list.ended check-list-reads.Asked check-list-reads.Learnt
  pub given_at : Answers given_at.ended given-at-reads.Asked given-at-reads.Learnt
  pub write_list : Answers write_list.ended write-list-reads.Asked write-list-reads.Learnt
  -- the router
  pub check_directory : Answers check_directory.ended check-directory-reads.Asked check-directory-reads.Learnt
  pub query_range : Answers query_range.ended query-range-reads.Asked query-range-reads.Learnt
  pub route : Answers route.ended route-reads.Asked route-reads.Learnt
  pub tested : Answers tested.ended tested_reads.Asked tested_reads.Learnt
  pub verdict : Answers verdict.ended verdict-reads.Asked verdict-reads.Learnt
  pub route_tested : Answers route_tested.ended route-tested-reads.Asked route-tested-reads.Learnt
  -- what an answer holds
  pub answers_cause_number : Answers answers_cause_number.ended answers-cause-number-reads.Asked answers-cause-number-reads.Learnt
  -- of any type of answers that holds no reference, those of the reader and of the writers among them
  pub answers_number : (T : RattleType) (laws : Laws T) → T.lives ≡ [] → Answers (answers_number.ended T) (answers-number-reads.Asked T laws) (answers-number-reads.Learnt T laws)
  pub answers_count : Answers answers_count.ended answers-count-reads.Asked answers-count-reads.Learnt
  pub timecodes_timecode_of : Answers timecodes_timecode_of.ended timecodes-timecode-of-reads.Asked timecodes-timecode-of-reads.Learnt
  pub written_length : Answers written_length.ended written-length-reads.Asked written-length-reads.Learnt
  -- the tables
  pub framerate_at : Answers framerate_at.ended framerate-at-reads.Asked framerate-at-reads.Learnt
  pub format-at : Answers format-at.ended format-at-reads.Asked format-at-reads.Learnt
  pub minute-start : Answers minute-start.ended minute-start-reads.Asked minute-start-reads.Learnt
