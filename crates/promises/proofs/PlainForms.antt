-- Each is so by its definition.
-- Assumes nothing.
use mathlib.Core.Path.{refl}
use Rattle.promises.specs.PlainForms.{CausesNumbered, RefusalsNamed, PartsOfAnswers}

pub causes_numbered : CausesNumbered
causes_numbered = record {
  no_shape = refl;
  too_long = refl;
  dropped_label = refl;
  no_perf_field = refl;
  out_of_bounds = refl;
  no_such = refl;
  zero_divisor = refl;
  no_room = refl;
  no_such_kind = refl;
  cut_short = refl;
  no_rate_yet = refl;
  end_before_first = refl;
  not_on_film = refl;
  not_strict = refl;
  wrong_kind = refl;
  broken_directory = refl;
  past_day = refl;
  of_refusal = λ e. refl;
}

pub refusals_named : RefusalsNamed
refusals_named = record {
  no_shape = refl;
  too_long = refl;
  dropped_label = refl;
  no_perf_field = refl;
  out_of_bounds = refl;
  no_such = refl;
  zero_divisor = refl;
  no_room = refl;
  no_such_kind = refl;
  cut_short = refl;
  no_rate_yet = refl;
  end_before_first = refl;
  not_on_film = refl;
  not_strict = refl;
  wrong_kind = refl;
  broken_directory = refl;
  past_day = refl;
  refusal_1 = refl;
  refusal_2 = refl;
  refusal_3 = refl;
  refusal_4 = refl;
  refusal_5 = refl;
  refusal_6 = refl;
  refusal_7 = refl;
  refusal_8 = refl;
  refusal_9 = refl;
  refusal_10 = refl;
  refusal_11 = refl;
  refusal_12 = refl;
  refusal_13 = refl;
  refusal_14 = refl;
  refusal_15 = refl;
  refusal_16 = refl;
  refusal_17 = refl;
  place = λ e. refl;
}

pub parts_of_answers : PartsOfAnswers
parts_of_answers = record {
  seconds = λ p q. refl;
  record_taken = λ r held size. refl;
  list_over = refl;
  shards_found = λ first after. refl;
  frames_asked = λ start end. refl;
  word_there = λ number next. refl;
  question_with_text = λ way at. refl;
  question_without = λ way. refl;
}
