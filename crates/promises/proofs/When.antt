-- Demand 1, exactly when: each definition is its list of conditions before an answer, so its number is that of the first that holds.
-- Assumes nothing.
use Rattle.std.specs.Prelude.{Result, Ok, Err}
use Prim.Native.Nat.{ℕ}
use mathlib.Core.Path.{◌≡◌, refl, sym, ap, subst}
use mathlib.Core.List.{List, [], ◌∷◌}
use mathlib.Core.Bool.{true, false}
use lib.IntN.{ℤ}
use lib.ListN.{length}
use Rattle.answers.specs.declared.Refusal.{Refusal}
use Rattle.answers.specs.Order.{Condition, unless, NoPlaces, judged}
use Rattle.answers.specs.Refusals.{number_of}
use Rattle.answers.specs.OrderLaws.{unless-number, unless-place}
use Rattle.rates.specs.Rates.{bad_rate, rate_at}
use Rattle.timecodes.specs.declared.Timecode.{Timecode}
use Rattle.timecodes.specs.declared.kinds.Kind.{Kind}
use Rattle.timecodes.specs.declared.kinds.Joining.TheVariants.{Comparison}
use Rattle.timecodes.specs.Timecode.{timecode}
use Rattle.timecodes.specs.Made.{made, settled}
use Rattle.timecodes.specs.MadeLaws.{settled-unless}
use Rattle.timecodes.specs.Instant.{instant}
use Rattle.timecodes.specs.Admitted.{admits, admits_length, admits_both}
use Rattle.film.specs.Film.{bad_format, format_in, format_at}
use Rattle.minutes.specs.Minutes.{bad_minute, minute_at}
use Rattle.time.specs.declared.Fraction.{Fraction}
use Rattle.time.specs.Frames.{frames_when, frames_at, ticks_frame, ticks_when, ticks_at, seconds_frame, seconds_when, seconds_at}
use Rattle.time.specs.Ticks.{ticks_of}
use Rattle.time.specs.Seconds.{IsSeconds, SecondsOf}
use Rattle.arithmetic.specs.Sum.{joined_when, joined}
use Rattle.arithmetic.specs.Product.{mul_when, mul_of}
use Rattle.arithmetic.specs.Truncating.{div_when, div_of, rem_of}
use Rattle.arithmetic.specs.Flooring.{divq_when, divq_of}
use Rattle.arithmetic.specs.Remainder.{remq_when, remq_of}
use Rattle.arithmetic.specs.Compare.{compare_of}
use Rattle.arithmetic.specs.Count.{neg_of, abs_of, rebase_when, rebase_of}
use Rattle.chains.specs.Chain.{convert_when, convert_of}
use Rattle.written.specs.Written.{Text, NoText, written_when, answer_to}
use Rattle.written.proofs.Statements.{answer_behind}
use Rattle.label_writer.specs.Sections.{sectioned}
use Rattle.label_writer.specs.LabelText.{label_text, label_when, label_draft}
use Rattle.footage_writer.specs.FootageText.{footage_text, footage_when, footage_draft}
use Rattle.runtime_writer.specs.RuntimeText.{runtime_text, runtime_when, runtime_draft}
use Rattle.shot_lists.specs.Entries.{on_disk, in_numbers, against, entry_of}
use Rattle.shot_lists.proofs.Numbers.{against-nowhere}
use Rattle.promises.specs.Given.{place_in, Given}
use Rattle.promises.specs.When.{RefusedWhen}

-- behind conditions none of which has a place, for any kind of answer
given : {A : Type 0} (conditions : List Condition) → NoPlaces conditions → (answer : A) → Given conditions (unless Err conditions (Ok answer))
given conditions none answer = record {
  number = unless-number number_of Err (λ e. refl) conditions (Ok answer) refl;
  place = unless-place place_in Err (λ e. refl) conditions none (Ok answer) refl;
}

-- one that was made as a length, and then of a kind
made_at : (kind : Kind) (conditions : List Condition) → NoPlaces conditions → (count : ℤ) (rate : ℕ)
    → Given conditions (settled kind (unless Err conditions (Ok (timecode count rate))))
made_at kind conditions none count rate =
    subst (λ (a : Result Timecode Refusal). Given conditions a) (sym (settled-unless kind conditions count rate)) (given conditions none (made kind count rate))

-- a text that is written
laid : (conditions : List Condition) (line : List ℕ) (place : ℕ) (text : List ℕ) → NoPlaces (written_when conditions line place text)
    → Given (written_when conditions line place text) (answer_to line place (unless NoText conditions (Text text)))
laid conditions line place text none =
    let when = written_when conditions line place text in
    subst (λ (a : Result ℕ Refusal). Given when a) (sym (answer_behind conditions line place text)) (given when none (length text))

-- seconds, whose fraction is told by what it is
second-given : (tc : Timecode) (answer : Result Fraction Refusal) → SecondsOf tc answer → Given (admits tc) answer
second-given tc answer h = by (judged (admits tc)) refl answer h
  where
    judged-given : (v : Result (Unit {0}) Refusal) → judged (admits tc) ≡ v → Given (admits tc) v
    judged-given v e = subst (λ (x : Result (Unit {0}) Refusal). Given (admits tc) x) e (given (admits tc) (refl, (refl, tt)) tt)

    taken : (answer : Result Fraction Refusal) → IsSeconds (instant tc) answer → Given {A = Unit {0}} (admits tc) (Ok tt) → Given (admits tc) answer
    taken (Ok f) k g = record { number = g.number; place = g.place }
    taken (Err e) k g = absurd k

    by : (v : Result (Unit {0}) Refusal) → judged (admits tc) ≡ v → (answer : Result Fraction Refusal) → SecondsOf tc answer → Given (admits tc) answer
    by (Ok tt) e answer h = taken answer (h.seconds e) (judged-given (Ok tt) e)
    by (Err r) e answer h =
        let g = judged-given (Err r) e in
        subst (λ (a : Result Fraction Refusal). Given (admits tc) a) (sym (h.refused r e)) (record { number = g.number; place = g.place })

pub refused_when : RefusedWhen
unfolding label_draft footage_draft runtime_draft sectioned frames_at ticks_at seconds_at ticks_of
    joined compare_of mul_of div_of rem_of divq_of remq_of neg_of abs_of rebase_of convert_of entry_of rate_at format_at minute_at
refused_when = record {
  write_label = λ tc line place. laid (label_when tc) line place (label_text tc.rate tc.count) (refl, (refl, (refl, tt)));
  write_footage = λ tc format line place. laid (footage_when tc format) line place (footage_text (format_in format) tc.count) (refl, (refl, (refl, (refl, tt))));
  write_runtime = λ tc precision line place.
      laid (runtime_when tc precision) line place (runtime_text tc.rate precision tc.count) (refl, (refl, (refl, (refl, tt))));
  sections = λ tc. given (admits tc) (refl, (refl, tt)) _;
  with_frames = λ kind count rate. made_at kind (frames_when count rate) (refl, (refl, tt)) count rate;
  with_premiere_ticks = λ kind t rate. made_at kind (ticks_when t rate) (refl, (refl, tt)) (ticks_frame t rate) rate;
  with_seconds = λ kind p q rate. made_at kind (seconds_when p q rate) (refl, (refl, (refl, tt))) (seconds_frame p q rate) rate;
  premiere_ticks = λ tc. given (admits tc) (refl, (refl, tt)) _;
  seconds = second-given;
  add = λ a b. given (joined_when false a b) (refl, (refl, (refl, (refl, (refl, (refl, tt)))))) _;
  sub = λ a b. given (joined_when true a b) (refl, (refl, (refl, (refl, (refl, (refl, tt)))))) _;
  cmp = λ a b. given (admits_both Comparison a b) (refl, (refl, (refl, (refl, (refl, tt))))) _;
  mul = λ tc p q. given (mul_when tc p q) (refl, (refl, (refl, (refl, (refl, tt))))) _;
  div = λ tc n. given (div_when tc n) (refl, (refl, (refl, (refl, tt)))) _;
  rem = λ tc n. given (div_when tc n) (refl, (refl, (refl, (refl, tt)))) _;
  divq = λ tc p q. given (divq_when tc p q) (refl, (refl, (refl, (refl, (refl, (refl, tt)))))) _;
  remq = λ tc p q. given (remq_when tc p q) (refl, (refl, (refl, (refl, (refl, (refl, tt)))))) _;
  neg = λ tc. given (admits_length tc) (refl, (refl, (refl, tt))) _;
  abs = λ tc. given (admits_length tc) (refl, (refl, (refl, tt))) _;
  rebase = λ tc rate. given (rebase_when tc rate) (refl, (refl, (refl, (refl, tt)))) _;
  convert = λ tc list. given (convert_when tc list) (refl, (refl, (refl, (refl, (refl, tt))))) _;
  record_at = λ held b l. given (against on_disk held b l) (against-nowhere on_disk held b l) _;
  given_at = λ held z l. given (against in_numbers held z l) (against-nowhere in_numbers held z l) _;
  framerate_at = λ rate. given (bad_rate rate ∷ []) (refl, tt) _;
  format-at = λ format. given (bad_format format ∷ []) (refl, tt) _;
  minute-start = λ minute. given (bad_minute minute ∷ []) (refl, tt) _;
}
