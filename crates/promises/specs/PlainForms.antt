-- What a refusal and an answer of several parts are, part by part: no name between may say another thing (BEHAVIOUR: Refusals).
-- Assumes nothing.
use Rattle.std.specs.Prelude.{ℕ, ℤ, ◌≡◌, Result, Ok, Err, Option, Some, None}
use Rattle.answers.specs.declared.Cause.{Cause}
use Rattle.answers.specs.declared.Cause.TheVariants.{NoShape, TooLong, DroppedLabel, NoPerfField, OutOfBounds, NoSuch, ZeroDivisor, NoRoom, NoSuchKind, CutShort, NoRateYet, EndBeforeFirst, NotOnFilm, NotStrict, WrongKind, BrokenDirectory, PastDay}
use Rattle.answers.specs.declared.Refusal.{Refusal}
use Rattle.answers.specs.Causes.{cause_number, refusal_number, refusal}
use Rattle.answers.specs.Refusals.{no_shape, too_long, dropped_label, no_perf_field, out_of_bounds, no_such, zero_divisor, no_room, no_such_kind, cut_short, no_rate_yet, end_before_first, not_on_film, not_strict, wrong_kind, broken_directory, past_day}
use Rattle.time.specs.declared.Fraction.{Fraction}
use Rattle.time.specs.Seconds.{fraction}
use Rattle.shot_lists.specs.declared.records.Record.{Record}
use Rattle.shot_lists.specs.declared.records.Taken.{Taken}
use Rattle.shot_lists.specs.Entries.{taken, over}
use Rattle.router.specs.declared.Shards.{Shards}
use Rattle.router.specs.declared.query.Frames.{Frames}
use Rattle.router.specs.Found.{shards, frames}
use Rattle.asking.specs.declared.values.Word.{Word}
use Rattle.asking.specs.Numbers.{some_word}
use Rattle.telling.specs.declared.told.Way.{Way}
use Rattle.telling.specs.declared.questions.Question.{Question}
use Rattle.telling.specs.Question.{with_text, no_text}
use Rattle.promises.specs.Given.{place_in}

-- the number of each cause, and of a refusal that of its cause
pub record CausesNumbered : Type 0 where
  pub no_shape : cause_number NoShape ≡ 1
  pub too_long : cause_number TooLong ≡ 2
  pub dropped_label : cause_number DroppedLabel ≡ 3
  pub no_perf_field : cause_number NoPerfField ≡ 4
  pub out_of_bounds : cause_number OutOfBounds ≡ 5
  pub no_such : cause_number NoSuch ≡ 6
  pub zero_divisor : cause_number ZeroDivisor ≡ 7
  pub no_room : cause_number NoRoom ≡ 8
  pub no_such_kind : cause_number NoSuchKind ≡ 9
  pub cut_short : cause_number CutShort ≡ 10
  pub no_rate_yet : cause_number NoRateYet ≡ 11
  pub end_before_first : cause_number EndBeforeFirst ≡ 12
  pub not_on_film : cause_number NotOnFilm ≡ 13
  pub not_strict : cause_number NotStrict ≡ 14
  pub wrong_kind : cause_number WrongKind ≡ 15
  pub broken_directory : cause_number BrokenDirectory ≡ 16
  pub past_day : cause_number PastDay ≡ 17
  pub of_refusal : (e : Refusal) → refusal_number e ≡ cause_number e.cause

-- each named refusal, and that of each number: its cause, and place 0
pub record RefusalsNamed : Type 0 where
  pub no_shape : no_shape ≡ record { cause = NoShape; place = 0 }
  pub too_long : too_long ≡ record { cause = TooLong; place = 0 }
  pub dropped_label : dropped_label ≡ record { cause = DroppedLabel; place = 0 }
  pub no_perf_field : no_perf_field ≡ record { cause = NoPerfField; place = 0 }
  pub out_of_bounds : out_of_bounds ≡ record { cause = OutOfBounds; place = 0 }
  pub no_such : no_such ≡ record { cause = NoSuch; place = 0 }
  pub zero_divisor : zero_divisor ≡ record { cause = ZeroDivisor; place = 0 }
  pub no_room : no_room ≡ record { cause = NoRoom; place = 0 }
  pub no_such_kind : no_such_kind ≡ record { cause = NoSuchKind; place = 0 }
  pub cut_short : cut_short ≡ record { cause = CutShort; place = 0 }
  pub no_rate_yet : no_rate_yet ≡ record { cause = NoRateYet; place = 0 }
  pub end_before_first : end_before_first ≡ record { cause = EndBeforeFirst; place = 0 }
  pub not_on_film : not_on_film ≡ record { cause = NotOnFilm; place = 0 }
  pub not_strict : not_strict ≡ record { cause = NotStrict; place = 0 }
  pub wrong_kind : wrong_kind ≡ record { cause = WrongKind; place = 0 }
  pub broken_directory : broken_directory ≡ record { cause = BrokenDirectory; place = 0 }
  pub past_day : past_day ≡ record { cause = PastDay; place = 0 }
  pub refusal_1 : refusal 1 ≡ record { cause = NoShape; place = 0 }
  pub refusal_2 : refusal 2 ≡ record { cause = TooLong; place = 0 }
  pub refusal_3 : refusal 3 ≡ record { cause = DroppedLabel; place = 0 }
  pub refusal_4 : refusal 4 ≡ record { cause = NoPerfField; place = 0 }
  pub refusal_5 : refusal 5 ≡ record { cause = OutOfBounds; place = 0 }
  pub refusal_6 : refusal 6 ≡ record { cause = NoSuch; place = 0 }
  pub refusal_7 : refusal 7 ≡ record { cause = ZeroDivisor; place = 0 }
  pub refusal_8 : refusal 8 ≡ record { cause = NoRoom; place = 0 }
  pub refusal_9 : refusal 9 ≡ record { cause = NoSuchKind; place = 0 }
  pub refusal_10 : refusal 10 ≡ record { cause = CutShort; place = 0 }
  pub refusal_11 : refusal 11 ≡ record { cause = NoRateYet; place = 0 }
  pub refusal_12 : refusal 12 ≡ record { cause = EndBeforeFirst; place = 0 }
  pub refusal_13 : refusal 13 ≡ record { cause = NotOnFilm; place = 0 }
  pub refusal_14 : refusal 14 ≡ record { cause = NotStrict; place = 0 }
  pub refusal_15 : refusal 15 ≡ record { cause = WrongKind; place = 0 }
  pub refusal_16 : refusal 16 ≡ record { cause = BrokenDirectory; place = 0 }
  pub refusal_17 : refusal 17 ≡ record { cause = PastDay; place = 0 }
  pub place : (e : Refusal) → place_in {A = ℤ} (Err e) ≡ e.place

-- the parts of each answer that has several
pub record PartsOfAnswers : Type 0 where
  pub seconds : (p : ℤ) (q : ℕ) → fraction p q ≡ record { p = p; q = q }
  pub record_taken : (r : Record) (held size : ℕ) → taken r held size ≡ Ok (Some (record { found = r; held = held; size = size }))
  pub list_over : over ≡ Ok None
  pub shards_found : (first after : ℕ) → shards first after ≡ Ok (record { first = first; after = after })
  pub frames_asked : (start end : ℕ) → frames start end ≡ Ok (record { start = start; end = end })
  pub word_there : (number : ℤ) (next : ℕ) → some_word number next ≡ Some (record { number = number; next = next })
  pub question_with_text : (way : Way) (at : ℕ) → with_text way at ≡ Some (record { way = way; text = Some at })
  pub question_without : (way : Way) → no_text way ≡ Some (record { way = way; text = None })
