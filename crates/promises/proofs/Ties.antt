-- Each tie is the contract's own equations: a contract that drifts breaks it.
-- Assumes nothing.
use Rattle.promises.specs.Ties.{Ties}

pub ties : Ties
ties = record {
  read-text = λ κs a x p. p;
  read_label_only = λ κs a x p. p;
  read-runtime = λ κs a x p. p;
  why = λ κs a x p. p;
  write_phrase = λ κs a x p. p;
  sections = λ κs a x p. p;
  sections-length = λ κs a x p. p;
  put_sections = λ κs a x p. p;
  write_label = λ κs a x p. p;
  write_footage = λ κs a x p. p;
  write_runtime = λ κs a x p. p;
  is-fraction = λ κs a x p. p;
  with_frames = λ κs a x p. p;
  with_premiere_ticks = λ κs a x p. p;
  with_seconds = λ κs a x p. p;
  premiere_ticks = λ κs a x p. p;
  seconds = λ κs a x p. p;
  add = λ κs a x p. p;
  sub = λ κs a x p. p;
  mul = λ κs a x p. p;
  div = λ κs a x p. p;
  rem = λ κs a x p. p;
  divq = λ κs a x p. p;
  remq = λ κs a x p. p;
  cmp = λ κs a x p. p;
  neg = λ κs a x p. p;
  abs = λ κs a x p. p;
  rebase = λ κs a x p. p;
  convert = λ κs a x p. p;
  record_at = λ κs a x p. p;
  check_list = λ κs a x p. p;
  given_at = λ κs a x p. p;
  write_list = λ κs a x p. p;
  check_directory = λ κs a x p. p;
  query_range = λ κs a x p. p;
  route = λ κs a x p. p;
  tested = λ κs a x p. p;
  verdict = λ κs a x p. p;
  route_tested = λ κs a x p. p;
  show_why = λ P laws page code κs a x p. p;
  show_routed = λ P laws page code κs a x p. p;
  answers_cause_number = λ κs a x p. p;
  answers_number = λ T laws κs a x p. p;
  answers_count = λ κs a x p. p;
  timecodes_timecode_of = λ κs a x p. p;
  written_length = λ κs a x p. p;
  framerate_at = λ κs a x p. p;
  format-at = λ κs a x p. p;
  minute-start = λ κs a x p. p;
}
