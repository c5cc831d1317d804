-- Each function that users call answers every call, and in one way: its own crate's theorem.
-- Assumes nothing.
use Prim.Native.Nat.{ℕ}
use mathlib.Core.Path.{subst}
use mathlib.Core.List.{List, Mem, not-mem-nil}
use Rattle.promises.specs.Calls.{OneAnswer}
use Rattle.reading.proofs.Determined as reading-determined
use Rattle.reasons.proofs.Determined as reasons-determined
use Rattle.phrases.proofs.Determined as phrases-determined
use Rattle.runtime_reading.proofs.Determined as runtime-reading-determined
use Rattle.label_writer.proofs.Determined as label-writer-determined
use Rattle.footage_writer.proofs.Determined as footage-writer-determined
use Rattle.runtime_writer.proofs.Determined as runtime-writer-determined
use Rattle.time.proofs.Determined as time-determined
use Rattle.arithmetic.proofs.Determined as arithmetic-determined
use Rattle.chains.proofs.Determined as chains-determined
use Rattle.shot_lists.proofs.Determined as shot-lists-determined
use Rattle.shot_writer.proofs.Determined as shot-writer-determined
use Rattle.router.proofs.Determined as router-determined
use Rattle.answers.proofs.Determined as answers-determined
use Rattle.timecodes.proofs.Determined as timecodes-determined
use Rattle.written.proofs.Determined as written-determined
use Rattle.rates.proofs.Determined as rates-determined
use Rattle.film.proofs.Determined as film-determined
use Rattle.minutes.proofs.Determined as minutes-determined

pub one_answer : OneAnswer
one_answer = record {
  read-text = record { asks_nothing = λ κs a. tt; one_outcome = reading-determined.read-text-determined };
  read_label_only = record { asks_nothing = λ κs a. tt; one_outcome = reading-determined.read-label-only-determined };
  read-runtime = record { asks_nothing = λ κs a. tt; one_outcome = runtime-reading-determined.read-runtime-determined };
  why = record { asks_nothing = λ κs a. tt; one_outcome = reasons-determined.why-determined };
  write_phrase = record { asks_nothing = λ κs a. tt; one_outcome = phrases-determined.write-phrase-determined };
  sections = record { asks_nothing = λ κs a. tt; one_outcome = label-writer-determined.sections-determined };
  sections-length = record { asks_nothing = λ κs a. tt; one_outcome = label-writer-determined.sections-length-determined };
  put_sections = record { asks_nothing = λ κs a. tt; one_outcome = label-writer-determined.put-sections-determined };
  write_label = record { asks_nothing = λ κs a. tt; one_outcome = label-writer-determined.write-label-determined };
  write_footage = record { asks_nothing = λ κs a. tt; one_outcome = footage-writer-determined.write-footage-determined };
  write_runtime = record { asks_nothing = λ κs a. tt; one_outcome = runtime-writer-determined.write-runtime-determined };
  is-fraction = record { asks_nothing = λ κs a. tt; one_outcome = time-determined.is-fraction-determined };
  with_frames = record { asks_nothing = λ κs a. tt; one_outcome = time-determined.with-frames-determined };
  with_premiere_ticks = record { asks_nothing = λ κs a. tt; one_outcome = time-determined.with-premiere-ticks-determined };
  with_seconds = record { asks_nothing = λ κs a. tt; one_outcome = time-determined.with-seconds-determined };
  premiere_ticks = record { asks_nothing = λ κs a. tt; one_outcome = time-determined.premiere-ticks-determined };
  seconds = record { asks_nothing = λ κs a. tt; one_outcome = time-determined.seconds-determined };
  add = record { asks_nothing = λ κs a. tt; one_outcome = arithmetic-determined.add-determined };
  sub = record { asks_nothing = λ κs a. tt; one_outcome = arithmetic-determined.sub-determined };
  mul = record { asks_nothing = λ κs a. tt; one_outcome = arithmetic-determined.mul-determined };
  div = record { asks_nothing = λ κs a. tt; one_outcome = arithmetic-determined.div-determined };
  rem = record { asks_nothing = λ κs a. tt; one_outcome = arithmetic-determined.rem-determined };
  divq = record { asks_nothing = λ κs a. tt; one_outcome = arithmetic-determined.divq-determined };
  remq = record { asks_nothing = λ κs a. tt; one_outcome = arithmetic-determined.remq-determined };
  cmp = record { asks_nothing = λ κs a. tt; one_outcome = arithmetic-determined.cmp-determined };
  neg = record { asks_nothing = λ κs a. tt; one_outcome = arithmetic-determined.neg-determined };
  abs = record { asks_nothing = λ κs a. tt; one_outcome = arithmetic-determined.abs-determined };
  rebase = record { asks_nothing = λ κs a. tt; one_outcome = arithmetic-determined.rebase-determined };
  convert = record { asks_nothing = λ κs a. tt; one_outcome = chains-determined.convert-determined };
  record_at = record { asks_nothing = λ κs a. tt; one_outcome = shot-lists-determined.record-at-determined };
  check_list = record { asks_nothing = λ κs a. tt; one_outcome = shot-lists-determined.check-list-determined };
  given_at = record { asks_nothing = λ κs a. tt; one_outcome = shot-lists-determined.given-at-determined };
  write_list = record { asks_nothing = λ κs a. tt; one_outcome = shot-writer-determined.write-list-determined };
  check_directory = record { asks_nothing = λ κs a. tt; one_outcome = router-determined.check-directory-determined };
  query_range = record { asks_nothing = λ κs a. tt; one_outcome = router-determined.query-range-determined };
  route = record { asks_nothing = λ κs a. tt; one_outcome = router-determined.route-determined };
  tested = record { asks_nothing = λ κs a. tt; one_outcome = router-determined.tested-determined };
  verdict = record { asks_nothing = λ κs a. tt; one_outcome = router-determined.verdict-determined };
  route_tested = record { asks_nothing = λ κs a. tt; one_outcome = router-determined.route-tested-determined };
  answers_cause_number = record { asks_nothing = λ κs a. tt; one_outcome = answers-determined.cause-number-determined };
  answers_number = λ T laws none. record { asks_nothing = λ κs a x held. absurd (not-mem-nil (subst (λ (l : List ℕ). Mem x l) none held)); one_outcome = answers-determined.number-determined T laws };
  answers_count = record { asks_nothing = λ κs a. tt; one_outcome = answers-determined.count-determined };
  timecodes_timecode_of = record { asks_nothing = λ κs a. tt; one_outcome = timecodes-determined.timecode-of-determined };
  written_length = record { asks_nothing = λ κs a. tt; one_outcome = written-determined.length-determined };
  framerate_at = record { asks_nothing = λ κs a. tt; one_outcome = rates-determined.framerate-at-determined };
  format-at = record { asks_nothing = λ κs a. tt; one_outcome = film-determined.format-at-determined };
  minute-start = record { asks_nothing = λ κs a. tt; one_outcome = minutes-determined.minute-start-determined };
}
