-- Each function for C answers every call, and in one way: its own crate's theorem.
-- Assumes nothing.
use Rattle.promises.specs.CallsC.{OneAnswerC}
use Rattle.exports.proofs.Determined as exports-determined

pub one_answer_c : OneAnswerC
one_answer_c = record {
  tzq_read = record { asks_nothing = λ κs a. tt; one_outcome = exports-determined.tzq-read-determined };
  tzq_read_as = record { asks_nothing = λ κs a. tt; one_outcome = exports-determined.tzq-read-as-determined };
  tzq_read_runtime = record { asks_nothing = λ κs a. tt; one_outcome = exports-determined.tzq-read-runtime-determined };
  tzq_sections = record { asks_nothing = λ κs a. tt; one_outcome = exports-determined.tzq-sections-determined };
  tzq_why = record { asks_nothing = λ κs a. tt; one_outcome = exports-determined.tzq-why-determined };
  tzq_write_label = record { asks_nothing = λ κs a. tt; one_outcome = exports-determined.tzq-write-label-determined };
  tzq_write_footage = record { asks_nothing = λ κs a. tt; one_outcome = exports-determined.tzq-write-footage-determined };
  tzq_write_runtime = record { asks_nothing = λ κs a. tt; one_outcome = exports-determined.tzq-write-runtime-determined };
  tzq_with_frames = record { asks_nothing = λ κs a. tt; one_outcome = exports-determined.tzq-with-frames-determined };
  tzq_with_premiere_ticks = record { asks_nothing = λ κs a. tt; one_outcome = exports-determined.tzq-with-premiere-ticks-determined };
  tzq_with_seconds = record { asks_nothing = λ κs a. tt; one_outcome = exports-determined.tzq-with-seconds-determined };
  tzq_premiere_ticks = record { asks_nothing = λ κs a. tt; one_outcome = exports-determined.tzq-premiere-ticks-determined };
  tzq_seconds = record { asks_nothing = λ κs a. tt; one_outcome = exports-determined.tzq-seconds-determined };
  tzq_add = record { asks_nothing = λ κs a. tt; one_outcome = exports-determined.tzq-add-determined };
  tzq_sub = record { asks_nothing = λ κs a. tt; one_outcome = exports-determined.tzq-sub-determined };
  tzq_cmp = record { asks_nothing = λ κs a. tt; one_outcome = exports-determined.tzq-cmp-determined };
  tzq_mul = record { asks_nothing = λ κs a. tt; one_outcome = exports-determined.tzq-mul-determined };
  tzq_div = record { asks_nothing = λ κs a. tt; one_outcome = exports-determined.tzq-div-determined };
  tzq_rem = record { asks_nothing = λ κs a. tt; one_outcome = exports-determined.tzq-rem-determined };
  tzq_divq = record { asks_nothing = λ κs a. tt; one_outcome = exports-determined.tzq-divq-determined };
  tzq_remq = record { asks_nothing = λ κs a. tt; one_outcome = exports-determined.tzq-remq-determined };
  tzq_neg = record { asks_nothing = λ κs a. tt; one_outcome = exports-determined.tzq-neg-determined };
  tzq_abs = record { asks_nothing = λ κs a. tt; one_outcome = exports-determined.tzq-abs-determined };
  tzq_rebase = record { asks_nothing = λ κs a. tt; one_outcome = exports-determined.tzq-rebase-determined };
  tzq_convert = record { asks_nothing = λ κs a. tt; one_outcome = exports-determined.tzq-convert-determined };
  tzq_record_at = record { asks_nothing = λ κs a. tt; one_outcome = exports-determined.tzq-record-at-determined };
  tzq_check_list = record { asks_nothing = λ κs a. tt; one_outcome = exports-determined.tzq-check-list-determined };
  tzq_write_list = record { asks_nothing = λ κs a. tt; one_outcome = exports-determined.tzq-write-list-determined };
  tzq_route = record { asks_nothing = λ κs a. tt; one_outcome = exports-determined.tzq-route-determined };
  tzq_rate = record { asks_nothing = λ κs a. tt; one_outcome = exports-determined.tzq-rate-determined };
  tzq_drop_frames_per_minute = record { asks_nothing = λ κs a. tt; one_outcome = exports-determined.tzq-drop-frames-per-minute-determined };
  tzq_format = record { asks_nothing = λ κs a. tt; one_outcome = exports-determined.tzq-format-determined };
  tzq_minute_start = record { asks_nothing = λ κs a. tt; one_outcome = exports-determined.tzq-minute-start-determined };
}
