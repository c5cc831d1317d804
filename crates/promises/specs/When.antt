-- Demand 1, exactly when: of each function that refuses by tests, the refusal given is the first of its conditions, in their order, that holds.
-- Assumes nothing.
use Rattle.std.specs.Prelude.{ℕ, List, [], ◌∷◌, ◌++◌, true, false, ℤ, Result}
use Rattle.answers.specs.declared.Refusal.{Refusal}
use Rattle.answers.specs.Refusals.{bad_count}
use Rattle.rates.specs.Rates.{bad_rate, rate_at}
use Rattle.timecodes.specs.declared.Timecode.{Timecode}
use Rattle.timecodes.specs.declared.kinds.Kind.{Kind}
use Rattle.timecodes.specs.declared.kinds.Joining.TheVariants.{Sum, Difference, Comparison}
use Rattle.timecodes.specs.Timecode.{timecode}
use Rattle.timecodes.specs.Made.{settled}
use Rattle.timecodes.specs.Admitted.{admits, admits_length, admits_both}
use Rattle.film.specs.Film.{bad_format, format_in, format_at}
use Rattle.minutes.specs.Minutes.{bad_minute, minute_at}
use Rattle.time.specs.Bounds.{bad_seconds, bad_factor}
use Rattle.time.specs.Frames.{frames_at, ticks_frame, ticks_at, seconds_frame, seconds_at}
use Rattle.time.specs.Ticks.{ticks_of}
use Rattle.time.specs.declared.Fraction.{Fraction}
use Rattle.time.specs.Seconds.{SecondsOf}
use Rattle.arithmetic.specs.Sum.{joined_frame, add_of, sub_of}
use Rattle.arithmetic.specs.Product.{product_of, mul_of}
use Rattle.arithmetic.specs.Divisor.{bad_divisor}
use Rattle.arithmetic.specs.Truncating.{div_of, rem_of}
use Rattle.arithmetic.specs.Flooring.{floored_of, divq_of}
use Rattle.arithmetic.specs.Remainder.{left_of, remq_of}
use Rattle.arithmetic.specs.Compare.{compare_of}
use Rattle.arithmetic.specs.Count.{neg_of, abs_of, rebase_of}
use Rattle.chains.specs.Chain.{bad_rates, bad_steps, convert_of}
use Rattle.shot_lists.specs.Entries.{on_disk, in_numbers, against, entry_of}
use Rattle.written.specs.Written.{Draft, written_when, answer_to}
use Rattle.label_writer.specs.Sections.{sectioned}
use Rattle.label_writer.specs.LabelText.{label_text, label_draft}
use Rattle.footage_writer.specs.FootageText.{footage_text, footage_draft}
use Rattle.runtime_writer.specs.RuntimeText.{runtime_text, bad_precision, runtime_draft}
use Rattle.promises.specs.Given.{Given}

-- the number that each function gives, for all inputs, is that of the first condition in its order that holds, and its place is 0 (those of
-- the two text readers, whose conditions are shapes, stand in the specs/Statements.antt of `reading` and `runtime_reading`)
pub record RefusedWhen : Type 0 where
  -- writing
  pub write_label :
      (tc : Timecode) (line : List ℕ) (place : ℕ)
      → Given (written_when (admits tc) line place (label_text tc.rate tc.count)) (answer_to line place (label_draft tc))
  pub write_footage :
      (tc : Timecode) (format : ℕ) (line : List ℕ) (place : ℕ)
      → Given (written_when (bad_format format ∷ admits tc) line place (footage_text (format_in format) tc.count)) (answer_to line place (footage_draft tc format))
  pub write_runtime :
      (tc : Timecode) (precision : ℕ) (line : List ℕ) (place : ℕ)
      → Given (written_when (admits tc ++ (bad_precision precision ∷ [])) line place (runtime_text tc.rate precision tc.count))
      (answer_to line place (runtime_draft tc precision))
  pub sections : (tc : Timecode) → Given (admits tc) (sectioned tc)
  -- time
  pub with_frames : (kind : Kind) (count : ℤ) (rate : ℕ) → Given (admits (timecode count rate)) (settled kind (frames_at count rate))
  pub with_premiere_ticks : (kind : Kind) (t : ℤ) (rate : ℕ)
      → Given (bad_rate rate ∷ bad_count (ticks_frame t rate) ∷ []) (settled kind (ticks_at t rate))
  pub with_seconds : (kind : Kind) (p : ℤ) (q rate : ℕ)
      → Given (bad_rate rate ∷ bad_seconds p q ∷ bad_count (seconds_frame p q rate) ∷ []) (settled kind (seconds_at p q rate))
  pub premiere_ticks : (tc : Timecode) → Given (admits tc) (ticks_of tc)
  pub seconds : (tc : Timecode) (answer : Result Fraction Refusal) → SecondsOf tc answer → Given (admits tc) answer
  -- arithmetic
  pub add : (a b : Timecode) → Given (admits_both Sum a b ++ (bad_count (joined_frame false a b) ∷ [])) (add_of a b)
  pub sub : (a b : Timecode) → Given (admits_both Difference a b ++ (bad_count (joined_frame true a b) ∷ [])) (sub_of a b)
  pub cmp : (a b : Timecode) → Given (admits_both Comparison a b) (compare_of a b)
  pub mul : (tc : Timecode) (p : ℤ) (q : ℕ)
      → Given (admits_length tc ++ (bad_factor p q ∷ bad_count (product_of tc.count p q) ∷ [])) (mul_of tc p q)
  pub div : (tc : Timecode) (n : ℤ) → Given (admits_length tc ++ (bad_divisor n ∷ [])) (div_of tc n)
  pub rem : (tc : Timecode) (n : ℤ) → Given (admits_length tc ++ (bad_divisor n ∷ [])) (rem_of tc n)
  pub divq : (tc : Timecode) (p : ℤ) (q : ℕ)
      → Given (admits_length tc ++ (bad_factor p q ∷ bad_divisor p ∷ bad_count (floored_of tc.count p q) ∷ [])) (divq_of tc p q)
  pub remq : (tc : Timecode) (p : ℤ) (q : ℕ)
      → Given (admits_length tc ++ (bad_factor p q ∷ bad_divisor p ∷ bad_count (left_of tc.count p q) ∷ [])) (remq_of tc p q)
  pub neg : (tc : Timecode) → Given (admits_length tc) (neg_of tc)
  pub abs : (tc : Timecode) → Given (admits_length tc) (abs_of tc)
  pub rebase : (tc : Timecode) (rate : ℕ) → Given (bad_rate rate ∷ admits_length tc) (rebase_of tc rate)
  -- chains
  pub convert : (tc : Timecode) (list : List ℕ) → Given (bad_rates list ∷ admits_length tc ++ (bad_steps tc list ∷ [])) (convert_of tc list)
  -- shot lists: a record on disk, and one that is handed over (of a whole list: specs/Statements.antt of `shot_lists` and `shot_writer`)
  pub record_at : (held b : ℕ) (l : List ℕ) → Given (against on_disk held b l) (entry_of on_disk held (b ∷ l))
  pub given_at : (held : ℕ) (z : ℤ) (l : List ℤ) → Given (against in_numbers held z l) (entry_of in_numbers held (z ∷ l))
  -- the tables
  pub framerate_at : (rate : ℕ) → Given (bad_rate rate ∷ []) (rate_at rate)
  pub format-at : (format : ℕ) → Given (bad_format format ∷ []) (format_at format)
  pub minute-start : (minute : ℕ) → Given (bad_minute minute ∷ []) (minute_at minute)
