-- Every promise is kept: the record's value, each part by the proof that bears its name.
-- Assumes nothing.
use Rattle.low_bytes.proofs.Statements as low-bytes
use Rattle.shot_lists.proofs.Statements as shot-lists
use Rattle.shot_lists.proofs.Bodies as shot-bodies
use Rattle.shot_lists.proofs.Numbers as shot-numbers
use Rattle.shot_lists.proofs.OneWay as shot-ways
use Rattle.shot_lists.proofs.RefusalStatements as shot-refusals
use Rattle.shot_writer.proofs.Statements as shot-writer
use Rattle.reading.proofs.LabelOnly as reading-label
use Rattle.router.proofs.Statements as router
use Rattle.routing.proofs.Statements as routing
use Rattle.router.proofs.Exact as router-exact
use Rattle.hex_bytes.proofs.Statements as hex
use Rattle.promises.specs.Promises.{Promises}
use Rattle.beginnings.proofs.Statements as beginnings
use Rattle.numbers.proofs.Statements as numbers
use Rattle.lent.proofs.Statements as lent
use Rattle.digits.proofs.Statements as digits
use Rattle.rates.proofs.Statements as rates
use Rattle.timecodes.proofs.Statements as timecodes
use Rattle.film.proofs.Statements as film
use Rattle.labels.proofs.Statements as labels
use Rattle.minutes.proofs.Statements as minutes
use Rattle.scanner.proofs.Statements as scanner
use Rattle.label_scan.proofs.Statements as label-scan
use Rattle.footage_scan.proofs.Statements as footage-scan
use Rattle.runtime_scan.proofs.Statements as runtime-scan
use Rattle.reading.proofs.Statements as reading
use Rattle.phrases.proofs.Statements as phrases
use Rattle.reasons.proofs.Statements as reasons
use Rattle.reading.proofs.Positions as reading-positions
use Rattle.reading.proofs.PositionCounts as reading-counts
use Rattle.runtime_reading.proofs.Statements as runtime-reading
use Rattle.written.proofs.Statements as written
use Rattle.label_writer.proofs.Statements as label-writer
use Rattle.footage_writer.proofs.Statements as footage-writer
use Rattle.runtime_writer.proofs.Statements as runtime-writer
use Rattle.time.proofs.Statements as time
use Rattle.arithmetic.proofs.Statements as arithmetic
use Rattle.arithmetic.proofs.Positions as arithmetic-positions
use Rattle.chains.proofs.Demand3 as chains
use Rattle.streams.proofs.Statements as streams
use Rattle.lines.proofs.Statements as lines
use Rattle.feeding.proofs.Statements as feeding
use Rattle.asking.proofs.Statements as asking
use Rattle.showing.proofs.Statements as showing
use Rattle.telling.proofs.Statements as telling
use Rattle.showing.proofs.WhyStatements as showing-why
use Rattle.showing.proofs.RouteStatements as showing-route
use Rattle.promises.proofs.Calls.{one_answer}
use Rattle.promises.proofs.CallsC.{one_answer_c}
use Rattle.promises.proofs.Ties.{ties}
use Rattle.promises.proofs.TiesC.{ties_c}
use Rattle.promises.proofs.ReadC.{read_for_c}
use Rattle.promises.proofs.ReadFieldsC.{read_fields_for_c}
use Rattle.promises.proofs.AnswersC.{answers_for_c}
use Rattle.promises.proofs.SectionsC.{sections_for_c}
use Rattle.promises.proofs.ListsFieldsC.{lists_fields_for_c}
use Rattle.promises.proofs.WhyFieldsC.{why_fields_for_c}
use Rattle.promises.proofs.WhyC.{why_for_c}
use Rattle.promises.proofs.RouteC.{route_for_c}
use Rattle.promises.proofs.RouteMany.{asked_many}
use Rattle.promises.proofs.ListsC.{lists_for_c}
use Rattle.promises.proofs.When.{refused_when}
use Rattle.promises.proofs.Demand1.{refused_zero, refused_keeps_line}
use Rattle.promises.proofs.Demand2.{fills_each_rate, demand2_at5, demand2_at11}
use Rattle.promises.proofs.ReadBack.{labels_read_back, footage_read_back, unstated_read_back}
use Rattle.promises.proofs.AsWritten.{read_as_written}
use Rattle.promises.proofs.Cases.{starred_cases}
use Rattle.promises.proofs.PositionCases.{position-cases}
use Rattle.promises.proofs.WhyCases.{why_cases}
use Rattle.promises.proofs.RouteCases.{route_cases}
use Rattle.promises.proofs.PlainForms.{causes_numbered, refusals_named, parts_of_answers}

pub promises : Promises
promises = record {
  causes_numbered = causes_numbered;
  refusals_named = refusals_named;
  parts_of_answers = parts_of_answers;
  one_answer = one_answer;
  one_answer_c = one_answer_c;
  ties = ties;
  ties_c = ties_c;
  read_for_c = read_for_c;
  why_for_c = why_for_c;
  read_fields_for_c = read_fields_for_c;
  answers_for_c = answers_for_c;
  sections_for_c = sections_for_c;
  lists_fields_for_c = lists_fields_for_c;
  why_fields_for_c = why_fields_for_c;
  refused_when = refused_when;
  refused_zero = refused_zero;
  refused_keeps_line = refused_keeps_line;
  fills_each_rate = fills_each_rate;
  demand2_at5 = demand2_at5;
  demand2_at11 = demand2_at11;
  empty_list = chains.empty_list;
  step_is_nearest = chains.step_is_nearest;
  in-turn = chains.in-turn;
  converted_at = chains.converted_at;
  each_time = chains.each_time;
  chain_within = chains.chain_within;
  chain_ordered = chains.chain_ordered;
  counts_ordered = chains.counts_ordered;
  out_and_back = chains.out_and_back;
  second_trip = chains.second_trip;
  position_refused = chains.position_refused;
  length_stays = chains.length_stays;
  day_at = rates.day_at;
  kind_chosen = timecodes.kind_chosen;
  day_is = timecodes.day_is;
  day_one = timecodes.day_one;
  position_within = timecodes.position_within;
  length_within = timecodes.length_within;
  settled_position = timecodes.settled_position;
  settled_length = timecodes.settled_length;
  settled_valid = timecodes.settled_valid;
  length_read = reading-positions.length_read;
  refused_fourteen = reading-positions.refused_fourteen;
  place_fourteen = reading-positions.place_fourteen;
  position_else = reading-positions.position_else;
  position_label = reading-counts.position_label;
  position_footage = reading-counts.position_footage;
  read_kind = reading-counts.read_kind;
  ticks_back_as = time.ticks_back_as;
  seconds_back_as = time.seconds_back_as;
  sum_kind = arithmetic-positions.sum_kind;
  difference_kind = arithmetic-positions.difference_kind;
  sum_in_day = arithmetic-positions.sum_in_day;
  difference_in_day = arithmetic-positions.difference_in_day;
  sum_exact_as = arithmetic-positions.sum_exact_as;
  difference_exact_as = arithmetic-positions.difference_exact_as;
  sum_takes = arithmetic-positions.sum_takes;
  difference_takes = arithmetic-positions.difference_takes;
  compare_takes = arithmetic-positions.compare_takes;
  sum_refused = arithmetic-positions.sum_refused;
  difference_refused = arithmetic-positions.difference_refused;
  compare_refused = arithmetic-positions.compare_refused;
  lengths_only = arithmetic-positions.lengths_only;
  lengths_answered = arithmetic-positions.lengths_answered;
  midnight = arithmetic-positions.midnight;
  there_again = arithmetic-positions.there_again;
  position-cases = position-cases;
  labels_read_back = labels_read_back;
  footage_read_back = footage_read_back;
  unstated_read_back = unstated_read_back;
  read_as_written = read_as_written;
  starred_cases = starred_cases;
  readers_own = reasons.readers_own;
  fact_told = reasons.fact_told;
  one_fact = reasons.one_fact;
  fact_fits = reasons.fact_fits;
  phrase_told = reasons.phrase_told;
  why_refused = reasons.why_refused;
  why_keeps = reasons.why_keeps;
  phrases_are = phrases.phrases_are;
  phrases_apart = phrases.phrases_apart;
  phrases_plain = phrases.phrases_plain;
  no_phrase = phrases.no_phrase;
  why_cases = why_cases;
  label_no_rate = reading-label.label_no_rate;
  label_as_read = reading-label.label_as_read;
  label_none = reading-label.label_none;
  label_position = reading-label.label_position;
  label_or_own = reading-label.label_or_own;
  rules_tested = router.rules_tested;
  directory_checked = router.directory_checked;
  route_refused_six = router.refused-six;
  route_refused_sixteen = router.refused-sixteen;
  route_refused_by_label = router.refused-by-label;
  route_refused_five = router.refused-five;
  route_refused_seventeen = router.refused-seventeen;
  route_numbers_given = router.numbers_given;
  route_exactly = router.route_exactly;
  pruned_exactly = router.pruned_exactly;
  nothing_asked = router.nothing_asked;
  together = router-exact.together;
  end_frame = router.end_frame;
  range_is = router.range_is;
  range_refused = router.range_refused;
  halves_walk = router.halves_walk;
  found_by_halving = router.found_by_halving;
  tested_once = router.tested_once;
  verdict_kept = router.verdict_kept;
  asked_many = asked_many;
  route_for_c = route_for_c;
  route_cases = route_cases;
  told_stands = telling.told_stands;
  answer_stands = telling.answer_stands;
  word_stands = telling.word_stands;
  refused_told = telling.refused_told;
  label_told = telling.label_told;
  footage_told = telling.footage_told;
  shown_columns = telling.shown_columns;
  caret_under = telling.caret_under;
  counted_read = telling.counted_read;
  limit_read = telling.limit_read;
  first_read = telling.first_read;
  facts_read = telling.facts_read;
  question_understood = telling.question_understood;
  texts_understood = telling.texts_understood;
  line_skipped = routing.line_skipped;
  line_taken = routing.line_taken;
  head_loaded = routing.head_loaded;
  shard_loaded = routing.shard_loaded;
  nothing_loaded = routing.nothing_loaded;
  states_are = routing.states_are;
  line_bad = routing.line_bad;
  lines_in_turn = routing.lines_in_turn;
  file_loaded = routing.file_loaded;
  loaded_passes = routing.loaded_passes;
  query_understood = routing.query_understood;
  routing_answer_stands = routing.answer_stands;
  flaw_stands = routing.flaw_stands;
  some_told = routing.some_told;
  one_told = routing.one_told;
  none_told = routing.none_told;
  routing_refused_told = routing.refused_told;
  other_told = routing.other_told;
  long_told = routing.long_told;
  answer_short = routing.answer_short;
  answers_read = routing.answers_read;
  flaws_read = routing.flaws_read;
  entries_read = routing.entries_read;
  queries_read = routing.queries_read;
  nearest_is = numbers.nearest_is;
  nearest_one = numbers.nearest_one;
  within_half = numbers.within_half;
  exact_on_multiples = numbers.exact_on_multiples;
  order_kept = numbers.order_kept;
  floor_is = numbers.floor_is;
  floor_one = numbers.floor_one;
  truncate_is = numbers.truncate_is;
  truncate_one = numbers.truncate_one;
  reduced_is = numbers.reduced_is;
  reduced_one = numbers.reduced_one;
  lowest_one = numbers.lowest_one;
  all_digits = digits.all_digits;
  decimal_back = digits.decimal_back;
  value_back = digits.value_back;
  leading_zeros = digits.leading_zeros;
  decimal_length = digits.decimal_length;
  width_is = digits.width_is;
  decimal_padded = digits.decimal_padded;
  laid_is = lent.laid_is;
  same_length = lent.same_length;
  text_there = lent.text_there;
  others_stay = lent.others_stay;
  ticks_consistent = rates.ticks_consistent;
  drops_at = rates.drops_at;
  format_numbered = film.format_numbered;
  only_three_perf = film.only_three_perf;
  footage_back = film.footage_back;
  footage_next = film.footage_next;
  frames-in-foot = film.frames-in-foot;
  three_perf_frames = film.three_perf_frames;
  on_film_exactly = film.on_film_exactly;
  off_film_exactly = film.off_film_exactly;
  footage_forth = film.footage_forth;
  has_fields = labels.has_fields;
  one_number = labels.one_number;
  counts_earlier = labels.counts_earlier;
  has_label = labels.has_label;
  one_label = labels.one_label;
  small_fields = labels.small_fields;
  fill_day = labels.fill_day;
  fill_rate = labels.fill_rate;
  day_ends = labels.day_ends;
  fill_in_order = labels.fill_in_order;
  strict_exactly = labels.strict_exactly;
  fill_day30 = labels.fill_day30;
  fill_day60 = labels.fill_day60;
  first_of_minute = minutes.first_of_minute;
  listed_entries = minutes.listed_entries;
  text_reads = scanner.text_reads;
  fit_sound = scanner.fit_sound;
  one_longest = beginnings.one_longest;
  longest_of_either = beginnings.longest_of_either;
  stop_longest = scanner.stop_longest;
  shape_ascii = scanner.shape_ascii;
  fields_stand = scanner.fields_stand;
  one_text_shape = scanner.one_text_shape;
  text_bounded = scanner.text_bounded;
  label_reads = label-scan.label_reads;
  label_fits = label-scan.label_fits;
  label_too_long = label-scan.label_too_long;
  label_no_shape = label-scan.label_no_shape;
  one_label_shape = label-scan.one_label_shape;
  label_back = label-scan.label_back;
  footage_reads = footage-scan.footage_reads;
  perf_present = footage-scan.perf_present;
  footage_fits = footage-scan.footage_fits;
  footage_too_long = footage-scan.footage_too_long;
  footage_no_shape = footage-scan.footage_no_shape;
  one_footage_shape = footage-scan.one_footage_shape;
  footage_below = footage-scan.footage_below;
  footage_text_back = footage-scan.footage_text_back;
  runtime_reads = runtime-scan.runtime_reads;
  runtime_fits = runtime-scan.runtime_fits;
  runtime_too_long = runtime-scan.runtime_too_long;
  runtime_no_shape = runtime-scan.runtime_no_shape;
  one_runtime_shape = runtime-scan.one_runtime_shape;
  runtime_bounded = runtime-scan.runtime_bounded;
  shapes_apart = reading.shapes_apart;
  reading_refused_six = reading.refused-six;
  reading_refused_one = reading.refused-one;
  reading_refused_two = reading.refused-two;
  place_one = reading.place_one;
  place_two = reading.place_two;
  place_else = reading.place_else;
  format_chosen = reading.format_chosen;
  refused_four = reading.refused_four;
  refused_thirteen = reading.refused_thirteen;
  marker_absent = reading.marker_absent;
  refused_three = reading.refused_three;
  label-counted = reading.label-counted;
  footage_counted = reading.footage_counted;
  reading_refused_five = reading.refused-five;
  reading_count_bounded = reading.count-bounded;
  reading_at_rate = reading.at-rate;
  read_valid = reading.read_valid;
  numbers_given = reading.numbers_given;
  runtime_reading_refused_six = runtime-reading.refused-six;
  runtime_reading_refused_one = runtime-reading.refused-one;
  runtime_reading_refused_two = runtime-reading.refused-two;
  place_none = runtime-reading.place_none;
  runtime_counted = runtime-reading.runtime_counted;
  runtime_reading_refused_five = runtime-reading.refused-five;
  runtime_reading_count_bounded = runtime-reading.count-bounded;
  runtime_reading_at_rate = runtime-reading.at-rate;
  refused_keeps = written.refused_keeps;
  length_stands = written.length_stands;
  answer_behind = written.answer_behind;
  number_behind = written.number_behind;
  no_room_exactly = written.no_room_exactly;
  mark_at = label-writer.mark_at;
  label_is = label-writer.label_is;
  label_length = label-writer.label_length;
  label_bounds = label-writer.label_bounds;
  label_bytes = label-writer.label_bytes;
  label_written = label-writer.label_written;
  sections_is = label-writer.sections_is;
  footage_is = footage-writer.footage_is;
  fourteen_bytes = footage-writer.fourteen_bytes;
  some_digit = runtime-writer.some_digit;
  no_last_zero = runtime-writer.no_last_zero;
  same_value = runtime-writer.same_value;
  runtime_nearest = runtime-writer.runtime_nearest;
  eighteen_bytes = runtime-writer.eighteen_bytes;
  ticks_nearest = time.ticks_nearest;
  seconds_nearest = time.seconds_nearest;
  ticks_back = time.ticks_back;
  seconds_back = time.seconds_back;
  seconds_instant = time.seconds_instant;
  sum_nearest = arithmetic.sum_nearest;
  difference_nearest = arithmetic.difference_nearest;
  sum_exact = arithmetic.sum_exact;
  difference_exact = arithmetic.difference_exact;
  product_nearest = arithmetic.product_nearest;
  quotient_remainder = arithmetic.quotient_remainder;
  quotient_floor = arithmetic.quotient_floor;
  remainder_nearest = arithmetic.remainder_nearest;
  compare_is_order = arithmetic.compare_is_order;
  unsigned_is = low-bytes.unsigned_is;
  unsigned_one = low-bytes.unsigned_one;
  signed_is = low-bytes.signed_is;
  signed_one = low-bytes.signed_one;
  kind_fixes = shot-bodies.kind_fixes;
  read_exactly = shot-lists.read_exactly;
  refused_exactly = shot-lists.refused_exactly;
  given_exactly = shot-lists.given_exactly;
  given_refused = shot-lists.given_refused;
  entry_when = shot-numbers.entry_when;
  refusal_order = shot-refusals.refusal_order;
  nine_exactly = shot-refusals.nine_exactly;
  ten_exactly = shot-refusals.ten_exactly;
  six_exactly = shot-refusals.six_exactly;
  five_exactly = shot-refusals.five_exactly;
  eleven_exactly = shot-refusals.eleven_exactly;
  twelve_exactly = shot-refusals.twelve_exactly;
  rate_holds = shot-refusals.rate_holds;
  empty_shot = shot-refusals.empty_shot;
  any_reel = shot-refusals.any_reel;
  never_eight = shot-numbers.never_eight;
  one_list = shot-lists.one_list;
  one_bytes = shot-ways.one_bytes;
  record_by_record = shot-lists.record_by_record;
  list-refused = shot-writer.list-refused;
  room_refused = shot-writer.room_refused;
  bytes_on_disk = shot-writer.bytes_on_disk;
  written_then_read = shot-writer.written_then_read;
  read_then_written = shot-writer.read_then_written;
  lists_for_c = lists_for_c;
  two_chunks = streams.two_chunks;
  any_chunks = streams.any_chunks;
  fold_finds = streams.fold_finds;
  one_reading = streams.one_reading;
  lines_handed = streams.lines_handed;
  read_at_rate = lines.read_at_rate;
  not_begun = lines.not_begun;
  short_answer = lines.short_answer;
  laid_as_text = lines.laid_as_text;
  answered = feeding.answered;
  taken_whole = feeding.taken_whole;
  stopped_full = feeding.stopped_full;
  understood = asking.understood;
  only_understood = asking.only_understood;
  marks_belong = asking.marks_belong;
  why_asked = asking.why_asked;
  route_asked = asking.route_asked;
  records_exactly = asking.records_exactly;
  shards_exactly = asking.shards_exactly;
  one_list_spelt = asking.one_list_spelt;
  route_understood = asking.route_understood;
  few_shards = asking.few_shards;
  hex_exactly = hex.hex_exactly;
  hex_one = hex.hex_one;
  hex_back = hex.hex_back;
  hex_bytes = hex.hex_bytes;
  hex_lower = hex.hex_lower;
  shown_line = showing.shown_line;
  written_line = showing.written_line;
  text_refused_shown = showing.text_refused_shown;
  position_shown = showing.position_shown;
  hex_written_line = showing.hex_written_line;
  list_line = showing.list_line;
  list_refused_line = showing.list_refused_line;
  list_words = showing.list_words;
  why_line = showing-why.why_line;
  why_accepted_shown = showing-why.why_accepted_shown;
  why_refused_shown = showing-why.why_refused_shown;
  why_limit_shown = showing-why.why_limit_shown;
  why_first_shown = showing-why.why_first_shown;
  why_no_room_shown = showing-why.why_no_room_shown;
  why_words = showing-why.why_words;
  routed_line = showing-route.routed_line;
  routed_shown = showing-route.routed_shown;
  routed_words = showing-route.routed_words;
}
