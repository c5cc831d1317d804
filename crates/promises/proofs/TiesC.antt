-- Each tie is the contract's own equations: a contract that drifts breaks it.
-- Assumes nothing.
use Rattle.promises.specs.TiesC.{TiesC}

pub ties_c : TiesC
ties_c = record {
  tzq_read = λ κs a x p. p;
  tzq_read_as = λ κs a x p. p;
  tzq_read_runtime = λ κs a x p. p;
  tzq_sections = λ κs a x p. p;
  tzq_why = λ κs a x p. p;
  tzq_write_label = λ κs a x p. p;
  tzq_write_footage = λ κs a x p. p;
  tzq_write_runtime = λ κs a x p. p;
  tzq_with_frames = λ κs a x p. p;
  tzq_with_premiere_ticks = λ κs a x p. p;
  tzq_with_seconds = λ κs a x p. p;
  tzq_premiere_ticks = λ κs a x p. p;
  tzq_seconds = λ κs a x p. p;
  tzq_add = λ κs a x p. p;
  tzq_sub = λ κs a x p. p;
  tzq_cmp = λ κs a x p. p;
  tzq_mul = λ κs a x p. p;
  tzq_div = λ κs a x p. p;
  tzq_rem = λ κs a x p. p;
  tzq_divq = λ κs a x p. p;
  tzq_remq = λ κs a x p. p;
  tzq_neg = λ κs a x p. p;
  tzq_abs = λ κs a x p. p;
  tzq_rebase = λ κs a x p. p;
  tzq_convert = λ κs a x p. p;
  tzq_record_at = λ κs a x p. p;
  tzq_check_list = λ κs a x p. p;
  tzq_write_list = λ κs a x p. p;
  tzq_route = λ κs a x p. p;
  tzq_rate = λ κs a x p. p;
  tzq_drop_frames_per_minute = λ κs a x p. p;
  tzq_format = λ κs a x p. p;
  tzq_minute_start = λ κs a x p. p;
}
