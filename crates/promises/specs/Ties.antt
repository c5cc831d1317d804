-- The promises speak of what runs: whatever the contract of a function that users call allows is what its definition says.
-- Assumes nothing.
use Rattle.std.specs.Prelude.{ℕ, ◌≡◌, drop}
use mir.Syntax.{Dict}
use Rattle.outcomes.specs.Outcome.{Gives}
use Rattle.arithmetic.specs.Compare.{compare_of}
use Rattle.arithmetic.specs.Count.{abs_of, neg_of, rebase_of}
use Rattle.arithmetic.specs.Flooring.{divq_of}
use Rattle.arithmetic.specs.Product.{mul_of}
use Rattle.arithmetic.specs.Remainder.{remq_of}
use Rattle.arithmetic.specs.Sum.{add_of, sub_of}
use Rattle.arithmetic.specs.Truncating.{div_of, rem_of}
use Rattle.chains.specs.Chain.{convert_of}
use Rattle.film.specs.Film.{format_at}
use Rattle.footage_writer.specs.FootageText.{footage_draft}
use Rattle.label_writer.specs.LabelText.{frames_mark, label_draft, sections_length, sections_text}
use Rattle.label_writer.specs.Sections.{sectioned}
use Rattle.lent.specs.Line.{laid}
use Rattle.minutes.specs.Minutes.{minute_at}
use Rattle.rates.specs.Rates.{rate_at}
use Rattle.timecodes.specs.Made.{settled}
use Rattle.reading.specs.For.{read_for, label_for}
use Rattle.reading.specs.Answer as reading
use Rattle.showing.specs.Why.{why_on}
use Rattle.showing.specs.Routes.{routed_on}
use Rattle.phrases.specs.Phrases.{phrase_of}
use Rattle.reasons.specs.Why.{phrase_for, why_of}
use Rattle.runtime_reading.specs.Reading.{read_runtime}
use Rattle.runtime_writer.specs.RuntimeText.{runtime_draft}
use Rattle.time.specs.Bounds.{is_fraction}
use Rattle.time.specs.Frames.{frames_at, seconds_at, ticks_at}
use Rattle.time.specs.Seconds.{SecondsOf}
use Rattle.time.specs.Ticks.{ticks_of}
use Rattle.written.specs.Written.{Text, answer_to, line_to}
use Rattle.shot_lists.specs.Entries.{on_disk, in_numbers, entry_of}
use Rattle.shot_lists.specs.Reading.{checked_of, read_of}
use Rattle.shot_writer.specs.ListText.{list_draft}
use Rattle.answers.specs.Order.{judged}
use Rattle.router.specs.Directory.{directory_when}
use Rattle.router.specs.Query.{range_of}
use Rattle.router.specs.Route.{route_of}
use Rattle.router.specs.Tested.{directory_of, verdict_of, routed_in}
use Rattle.answers.specs.Refusals as answers
use Rattle.timecodes.specs.Timecode as timecodes
use Rattle.written.specs.Written as written
use Rattle.reading.specs.contracts.read_label_only as read_label_only
use Rattle.reading.proofs.read_label_only.Reads as read-label-only-reads
use Rattle.reading.specs.contracts.read_text as read-text
use Rattle.reading.proofs.read_text.Reads as read-text-reads
use Rattle.reasons.specs.contracts.why as why
use Rattle.streams.specs.declared.sheets.Page.{Ghosts}
use Rattle.showing.specs.contracts.show_why as show_why
use Rattle.showing.proofs.show_why.Reads as show-why-reads
use Rattle.showing.specs.contracts.show_routed as show_routed
use Rattle.showing.proofs.show_routed.Reads as show-routed-reads
use Rattle.reasons.proofs.why.Reads as why-reads
use Rattle.phrases.specs.contracts.write_phrase as write_phrase
use Rattle.phrases.proofs.write_phrase.Reads as write-phrase-reads
use Rattle.runtime_reading.specs.contracts.read_runtime as read-runtime
use Rattle.runtime_reading.proofs.read_runtime.Reads as read-runtime-reads
use Rattle.label_writer.specs.contracts.sections as sections
use Rattle.label_writer.proofs.sections.Reads as sections-reads
use Rattle.label_writer.specs.contracts.sections_length as sections-length
use Rattle.label_writer.proofs.sections_length.Reads as sections-length-reads
use Rattle.label_writer.specs.contracts.put_sections as put_sections
use Rattle.label_writer.proofs.put_sections.Reads as put-sections-reads
use Rattle.label_writer.specs.contracts.write_label as write_label
use Rattle.label_writer.proofs.write_label.Reads as write-label-reads
use Rattle.footage_writer.specs.contracts.write_footage as write_footage
use Rattle.footage_writer.proofs.write_footage.Reads as write-footage-reads
use Rattle.runtime_writer.specs.contracts.write_runtime as write_runtime
use Rattle.runtime_writer.proofs.write_runtime.Reads as write-runtime-reads
use Rattle.time.specs.contracts.is_fraction as is-fraction
use Rattle.time.proofs.is_fraction.Reads as is-fraction-reads
use Rattle.time.specs.contracts.with_frames as with_frames
use Rattle.time.proofs.with_frames.Reads as with-frames-reads
use Rattle.time.specs.contracts.with_premiere_ticks as with_premiere_ticks
use Rattle.time.proofs.with_premiere_ticks.Reads as with-premiere-ticks-reads
use Rattle.time.specs.contracts.with_seconds as with_seconds
use Rattle.time.proofs.with_seconds.Reads as with-seconds-reads
use Rattle.time.specs.contracts.premiere_ticks as premiere_ticks
use Rattle.time.proofs.premiere_ticks.Reads as premiere-ticks-reads
use Rattle.time.specs.contracts.seconds as seconds
use Rattle.time.proofs.seconds.Reads as seconds-reads
use Rattle.arithmetic.specs.contracts.add as add
use Rattle.arithmetic.proofs.add.Reads as add_reads
use Rattle.arithmetic.specs.contracts.sub as sub
use Rattle.arithmetic.proofs.sub.Reads as sub-reads
use Rattle.arithmetic.specs.contracts.mul as mul
use Rattle.arithmetic.proofs.mul.Reads as mul-reads
use Rattle.arithmetic.specs.contracts.div as div
use Rattle.arithmetic.proofs.div.Reads as div-reads
use Rattle.arithmetic.specs.contracts.rem as rem
use Rattle.arithmetic.proofs.rem.Reads as rem-reads
use Rattle.arithmetic.specs.contracts.divq as divq
use Rattle.arithmetic.proofs.divq.Reads as divq-reads
use Rattle.arithmetic.specs.contracts.remq as remq
use Rattle.arithmetic.proofs.remq.Reads as remq-reads
use Rattle.arithmetic.specs.contracts.cmp as cmp
use Rattle.arithmetic.proofs.cmp.Reads as cmp-reads
use Rattle.arithmetic.specs.contracts.neg as neg
use Rattle.arithmetic.proofs.neg.Reads as neg-reads
use Rattle.arithmetic.specs.contracts.abs as abs
use Rattle.arithmetic.proofs.abs.Reads as abs-reads
use Rattle.arithmetic.specs.contracts.rebase as rebase
use Rattle.arithmetic.proofs.rebase.Reads as rebase-reads
use Rattle.chains.specs.contracts.convert as convert
use Rattle.chains.proofs.convert.Reads as convert-reads
use Rattle.shot_lists.specs.contracts.record_at as record_at
use Rattle.shot_lists.proofs.record_at.Reads as record-at-reads
use Rattle.shot_lists.specs.contracts.check_list as check_list
use Rattle.shot_lists.proofs.check_list.Reads as check-list-reads
use Rattle.shot_lists.specs.contracts.given_at as given_at
use Rattle.shot_lists.proofs.given_at.Reads as given-at-reads
use Rattle.shot_writer.specs.contracts.write_list as write_list
use Rattle.shot_writer.proofs.write_list.Reads as write-list-reads
use Rattle.router.specs.contracts.check_directory as check_directory
use Rattle.router.proofs.check_directory.Reads as check-directory-reads
use Rattle.router.specs.contracts.query_range as query_range
use Rattle.router.proofs.query_range.Reads as query-range-reads
use Rattle.router.specs.contracts.route as route
use Rattle.router.proofs.route.Reads as route-reads
use Rattle.router.specs.contracts.tested as tested
use Rattle.router.proofs.tested.Reads as tested_reads
use Rattle.router.specs.contracts.verdict as verdict
use Rattle.router.proofs.verdict.Reads as verdict-reads
use Rattle.router.specs.contracts.route_tested as route_tested
use Rattle.router.proofs.route_tested.Reads as route-tested-reads
use denote.RattleType.{RattleType}
use denote.Param.Laws.{Laws}
use Rattle.answers.specs.Causes.{cause_number}
use Rattle.answers.specs.contracts.Cause.number as answers_cause_number
use Rattle.answers.proofs.Cause.number.Reads as answers-cause-number-reads
use Rattle.answers.specs.contracts.number as answers_number
use Rattle.answers.proofs.number.Reads as answers-number-reads
use Rattle.answers.specs.contracts.count as answers_count
use Rattle.answers.proofs.count.Reads as answers-count-reads
use Rattle.timecodes.specs.contracts.timecode_of as timecodes_timecode_of
use Rattle.timecodes.proofs.timecode_of.Reads as timecodes-timecode-of-reads
use Rattle.written.specs.contracts.length as written_length
use Rattle.written.proofs.length.Reads as written-length-reads
use Rattle.rates.specs.contracts.framerate_at as framerate_at
use Rattle.rates.proofs.framerate_at.Reads as framerate-at-reads
use Rattle.film.specs.contracts.format_at as format-at
use Rattle.film.proofs.format_at.Reads as format-at-reads
use Rattle.minutes.specs.contracts.minute_start as minute-start
use Rattle.minutes.proofs.minute_start.Reads as minute-start-reads

-- a is what the function is called with, x what comes of it: the answer, and the last value of each thing lent
pub record Ties : Type 2 where
  -- reading
  pub read-text : Gives read-text.ended read-text-reads.Learnt (λ κs a x. x.0 ≡ read_for a.1.1.1.0 a.0.now a.1.0 a.1.1.0)
  pub read_label_only : Gives read_label_only.ended read-label-only-reads.Learnt (λ κs a x. x.0 ≡ label_for a.1.1.0 a.0.now a.1.0)
  pub read-runtime : Gives read-runtime.ended read-runtime-reads.Learnt (λ κs a x. x.0 ≡ settled a.1.1.0 (read_runtime a.0.now a.1.0))
  pub why : Gives why.ended why-reads.Learnt (λ κs a x.
      (x.0 ≡ why_of a.1.1.1.0 a.0.now a.1.0 a.1.1.0 a.1.1.1.1.0.now a.1.1.1.1.1.0)
      × (x.1.1.1.1.1.0 ≡ line_to a.1.1.1.1.0.now a.1.1.1.1.1.0 (Text (phrase_for a.1.1.1.0 a.0.now a.1.0 a.1.1.0))))
  -- writing
  pub write_phrase : Gives write_phrase.ended write-phrase-reads.Learnt (λ κs a x.
      (x.0 ≡ answer_to a.1.0.now a.1.1.0 (Text (phrase_of a.0))) × (x.1.1.0 ≡ line_to a.1.0.now a.1.1.0 (Text (phrase_of a.0))))
  pub sections : Gives sections.ended sections-reads.Learnt (λ κs a x. x.0 ≡ sectioned a.0)
  pub sections-length : Gives sections-length.ended sections-length-reads.Learnt (λ κs a x. x.0 ≡ sections_length a.0)
  pub put_sections : Gives put_sections.ended put-sections-reads.Learnt (λ κs a x. x.1.0 ≡ laid a.0.now (sections_text (frames_mark a.1.1.0) a.1.0))
  pub write_label : Gives write_label.ended write-label-reads.Learnt (λ κs a x.
      (x.0 ≡ answer_to a.1.0.now a.1.1.0 (label_draft a.0))
      × (x.1.1.0 ≡ line_to a.1.0.now a.1.1.0 (label_draft a.0)))
  pub write_footage : Gives write_footage.ended write-footage-reads.Learnt (λ κs a x.
      (x.0 ≡ answer_to a.1.1.0.now a.1.1.1.0 (footage_draft a.0 a.1.0))
      × (x.1.1.1.0 ≡ line_to a.1.1.0.now a.1.1.1.0 (footage_draft a.0 a.1.0)))
  pub write_runtime : Gives write_runtime.ended write-runtime-reads.Learnt (λ κs a x.
      (x.0 ≡ answer_to a.1.1.0.now a.1.1.1.0 (runtime_draft a.0 a.1.0))
      × (x.1.1.1.0 ≡ line_to a.1.1.0.now a.1.1.1.0 (runtime_draft a.0 a.1.0)))
  -- time
  pub is-fraction : Gives is-fraction.ended is-fraction-reads.Learnt (λ κs a x. x.0 ≡ is_fraction a.0 a.1.0 a.1.1.0)
  pub with_frames : Gives with_frames.ended with-frames-reads.Learnt (λ κs a x. x.0 ≡ settled a.1.1.0 (frames_at a.0 a.1.0))
  pub with_premiere_ticks : Gives with_premiere_ticks.ended with-premiere-ticks-reads.Learnt (λ κs a x. x.0 ≡ settled a.1.1.0 (ticks_at a.0 a.1.0))
  pub with_seconds : Gives with_seconds.ended with-seconds-reads.Learnt (λ κs a x. x.0 ≡ settled a.1.1.1.0 (seconds_at a.0 a.1.0 a.1.1.0))
  pub premiere_ticks : Gives premiere_ticks.ended premiere-ticks-reads.Learnt (λ κs a x. x.0 ≡ ticks_of a.0)
  pub seconds : Gives seconds.ended seconds-reads.Learnt (λ κs a x. SecondsOf a.0 x.0)
  -- arithmetic
  pub add : Gives add.ended add_reads.Learnt (λ κs a x. x.0 ≡ add_of a.0 a.1.0)
  pub sub : Gives sub.ended sub-reads.Learnt (λ κs a x. x.0 ≡ sub_of a.0 a.1.0)
  pub mul : Gives mul.ended mul-reads.Learnt (λ κs a x. x.0 ≡ mul_of a.0 a.1.0 a.1.1.0)
  pub div : Gives div.ended div-reads.Learnt (λ κs a x. x.0 ≡ div_of a.0 a.1.0)
  pub rem : Gives rem.ended rem-reads.Learnt (λ κs a x. x.0 ≡ rem_of a.0 a.1.0)
  pub divq : Gives divq.ended divq-reads.Learnt (λ κs a x. x.0 ≡ divq_of a.0 a.1.0 a.1.1.0)
  pub remq : Gives remq.ended remq-reads.Learnt (λ κs a x. x.0 ≡ remq_of a.0 a.1.0 a.1.1.0)
  pub cmp : Gives cmp.ended cmp-reads.Learnt (λ κs a x. x.0 ≡ compare_of a.0 a.1.0)
  pub neg : Gives neg.ended neg-reads.Learnt (λ κs a x. x.0 ≡ neg_of a.0)
  pub abs : Gives abs.ended abs-reads.Learnt (λ κs a x. x.0 ≡ abs_of a.0)
  pub rebase : Gives rebase.ended rebase-reads.Learnt (λ κs a x. x.0 ≡ rebase_of a.0 a.1.0)
  -- chains
  pub convert : Gives convert.ended convert-reads.Learnt (λ κs a x. x.0 ≡ convert_of a.0 a.1.0.now)
  -- shot lists
  pub record_at : Gives record_at.ended record-at-reads.Learnt (λ κs a x. x.0 ≡ entry_of on_disk a.1.1.0 (drop a.1.0 a.0.now))
  pub check_list : Gives check_list.ended check-list-reads.Learnt (λ κs a x. x.0 ≡ checked_of (read_of on_disk a.0.now))
  pub given_at : Gives given_at.ended given-at-reads.Learnt (λ κs a x. x.0 ≡ entry_of in_numbers a.1.1.0 (drop a.1.0 a.0.now))
  pub write_list : Gives write_list.ended write-list-reads.Learnt (λ κs a x.
      (x.0 ≡ answer_to a.1.0.now a.1.1.0 (list_draft a.0.now))
      × (x.1.1.0 ≡ line_to a.1.0.now a.1.1.0 (list_draft a.0.now)))
  -- the router
  pub check_directory : Gives check_directory.ended check-directory-reads.Learnt (λ κs a x. x.0 ≡ judged (directory_when a.0 a.1.0.now a.1.1.0.now))
  pub query_range : Gives query_range.ended query-range-reads.Learnt (λ κs a x. x.0 ≡ range_of a.0 a.1.0 a.1.1.0.now)
  pub route : Gives route.ended route-reads.Learnt (λ κs a x.
      x.0 ≡ route_of a.0 a.1.0.now a.1.1.0.now a.1.1.1.0 a.1.1.1.1.0.now)
  pub tested : Gives tested.ended tested_reads.Learnt (λ κs a x. x.0 ≡ directory_of a.0 a.1.0.now a.1.1.0.now)
  pub verdict : Gives verdict.ended verdict-reads.Learnt (λ κs a x. x.0 ≡ verdict_of a.0)
  pub route_tested : Gives route_tested.ended route-tested-reads.Learnt (λ κs a x. x.0 ≡ routed_in a.0 a.1.0 a.1.1.0.now)
  -- shown by the calculator
  pub show_why : (P : RattleType) (laws : Laws P) (page : Ghosts P.Denot) (code : Dict)
      → Gives (show_why.ended P page code) (show-why-reads.Learnt P laws page code) (λ κs a x.
      page.seen x.1.0 ≡ why_on (page.seen a.0.now) a.1.1.0 a.1.0 a.1.1.1.0.now)
  pub show_routed : (P : RattleType) (laws : Laws P) (page : Ghosts P.Denot) (code : Dict)
      → Gives (show_routed.ended P page code) (show-routed-reads.Learnt P laws page code) (λ κs a x.
      page.seen x.1.0 ≡ routed_on (page.seen a.0.now) a.1.0)
  -- what an answer holds
  pub answers_cause_number : Gives answers_cause_number.ended answers-cause-number-reads.Learnt (λ κs a x. x.0 ≡ cause_number a.0)
  -- of any type of answers, those of the reader and of the writers among them
  pub answers_number : (T : RattleType) (laws : Laws T) → Gives (answers_number.ended T) (answers-number-reads.Learnt T laws) (λ κs a x. x.0 ≡ answers.number_of a.0.now)
  pub answers_count : Gives answers_count.ended answers-count-reads.Learnt (λ κs a x. x.0 ≡ answers.count_of a.0)
  pub timecodes_timecode_of : Gives timecodes_timecode_of.ended timecodes-timecode-of-reads.Learnt (λ κs a x. x.0 ≡ timecodes.timecode_of a.0)
  pub written_length : Gives written_length.ended written-length-reads.Learnt (λ κs a x. x.0 ≡ written.length_of a.0)
  -- the tables
  pub framerate_at : Gives framerate_at.ended framerate-at-reads.Learnt (λ κs a x. x.0 ≡ rate_at a.0)
  pub format-at : Gives format-at.ended format-at-reads.Learnt (λ κs a x. x.0 ≡ format_at a.0)
  pub minute-start : Gives minute-start.ended minute-start-reads.Learnt (λ κs a x. x.0 ≡ minute_at a.0)
