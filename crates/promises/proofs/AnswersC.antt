-- What C is handed by every other function is the answer's numbers: those of the struct that the contract names.
-- Assumes nothing.
use Rattle.label_writer.specs.declared.TimecodeSections.{TimecodeSections}
use Rattle.answers.specs.declared.Refusal.{Refusal}
use Rattle.rates.specs.declared.Framerate.{Framerate}
use Rattle.film.specs.declared.FilmFormat.{FilmFormat}
use Rattle.std.specs.Prelude.{Result, Ok, Err, ℤ}
use Prim.Native.Nat.{ℕ, ◌+◌}
use mathlib.Core.Path.{◌≡◌, refl, ◌∙◌, ap}
use mathlib.Core.List.{List}
use mathlib.Core.Bool.{Bool, true, false, not, cond}
use lib.Dec.{leb}
use lib.ListN.{length}
use borrow.Author.Tests.{le-leb, lt-leb}
use Rattle.answers.specs.Refusals.{no_room}
use Rattle.rates.specs.Rates.{drop_frames}
use Rattle.rates.proofs.Statements as rates
use Rattle.timecodes.specs.declared.Timecode.{Timecode}
use Rattle.timecodes.specs.Instant.{instant}
use Rattle.time.specs.declared.Fraction.{Fraction}
use Rattle.time.specs.Seconds.{InSeconds, IsSeconds}
use Rattle.written.specs.Written.{Draft, Text, NoText, answer_to}
use Rattle.exports.specs.declared.handed.TzqCount.{TzqCount}
use Rattle.exports.specs.declared.handed.TzqOrder.{TzqOrder}
use Rattle.exports.specs.declared.handed.TzqTicks.{TzqTicks}
use Rattle.exports.specs.declared.handed.TzqSeconds.{TzqSeconds}
use Rattle.exports.specs.declared.handed.TzqConverted.{TzqConverted}
use Rattle.exports.specs.declared.handed.TzqSections.{TzqSections}
use Rattle.exports.specs.declared.handed.TzqLength.{TzqLength}
use Rattle.exports.specs.declared.handed.TzqRate.{TzqRate}
use Rattle.exports.specs.declared.handed.TzqFormat.{TzqFormat}
use Rattle.exports.specs.Handed.{SecondsHanded, handed_count, handed_order, handed_ticks, handed_seconds, handed_timecode, handed_sections, handed_length, handed_rate, handed_format}
use Rattle.promises.specs.AnswersC.{CountIs, OrderIs, TicksAre, ConvertedIs, SecondsAre, SectionsAre, LengthIs, RateIs, FormatIs, DropsAre, AnswersForC}

-- ---- numbers
count_is : (t : TzqCount) (a : Result ℤ Refusal) → t ≡ handed_count a → CountIs t a
unfolding handed_count
count_is t (Ok z) e = rw e (refl, refl, refl)
count_is t (Err r) e = rw e (refl, refl, refl)

order_is : (t : TzqOrder) (a : Result ℤ Refusal) → t ≡ handed_order a → OrderIs t a
unfolding handed_order
order_is t (Ok o) e = rw e (refl, refl)
order_is t (Err r) e = rw e (refl, refl)

ticks-are : (t : TzqTicks) (a : Result ℤ Refusal) → t ≡ handed_ticks a → TicksAre t a
unfolding handed_ticks
ticks-are t (Ok n) e = rw e (refl, refl)
ticks-are t (Err r) e = rw e (refl, refl)

converted-is : (t : TzqConverted) (a : Result Timecode Refusal) → t ≡ handed_timecode a → ConvertedIs t a
unfolding handed_timecode
converted-is t (Ok tc) e = rw e (refl, refl, refl)
converted-is t (Err r) e = rw e (refl, refl, refl)

-- a right answer that is handed over: seconds are no refusal, and a refusal no seconds
in-seconds : (tc : Timecode) (t : TzqSeconds) (a : Result Fraction Refusal) → t ≡ handed_seconds a → IsSeconds (instant tc) a
    → (t.refused ≡ 0) × InSeconds (instant tc) t.numerator t.denominator
unfolding handed_seconds
in-seconds tc t (Ok f) e right = rw e (refl, right)
in-seconds tc t (Err r) e right = absurd right

seconds-are : (tc : Timecode) (t : TzqSeconds) → SecondsHanded tc t → SecondsAre tc t
unfolding handed_seconds
seconds-are tc t h = record {
  refused = λ r k. rw (h.handed ∙ ap handed_seconds (h.right.refused r k)) (refl, refl, refl);
  seconds = λ k. in-seconds tc t h.answer h.handed (h.right.seconds k);
}

-- ---- texts
sections-are : (t : TzqSections) (a : Result TimecodeSections Refusal) → t ≡ handed_sections a → SectionsAre t a
unfolding handed_sections
sections-are t (Ok s) e = rw e (refl, refl, refl, refl, refl, refl)
sections-are t (Err r) e = rw e (refl, refl, refl, refl, refl, refl)

-- by whether there is room
answered : (line : List ℕ) (place : ℕ) (text : List ℕ) (t : Bool) → leb (place + length text) (length line) ≡ t
    → answer_to line place (Text text) ≡ cond (not t) (Err no_room) (Ok (length text))
unfolding answer_to
answered line place text t e = ap (λ (b : Bool). cond (not b) (Err no_room) (Ok (length text))) e

length-is : (t : TzqLength) (line : List ℕ) (place : ℕ) (draft : Draft) → t ≡ handed_length (answer_to line place draft) → LengthIs t line place draft
unfolding handed_length answer_to
length-is t line place (Text text) e = (
  λ h. rw (e ∙ ap handed_length (answered line place text true (le-leb _ _ h))) (refl, refl),
  λ h. rw (e ∙ ap handed_length (answered line place text false (lt-leb _ _ h))) (refl, refl),
)
length-is t line place (NoText r) e = rw e (refl, refl)

-- ---- the tables
rate_is : (t : TzqRate) (a : Result Framerate Refusal) → t ≡ handed_rate a → RateIs t a
unfolding handed_rate
rate_is t (Ok r) e = rw e (refl, refl, refl, refl, refl)
rate_is t (Err r) e = rw e (refl, refl, refl, refl, refl)

format-is : (t : TzqFormat) (a : Result FilmFormat Refusal) → t ≡ handed_format a → FormatIs t a
unfolding handed_format
format-is t (Ok film) e = rw e (refl, refl, refl, refl)
format-is t (Err r) e = rw e (refl, refl, refl, refl)

drops-are : (rate drops : ℕ) → drops ≡ drop_frames rate → DropsAre rate drops
drops-are rate drops e = record {
  at_5 = λ h. e ∙ (ap drop_frames h ∙ (rates.drops_at).at_5);
  at_11 = λ h. e ∙ (ap drop_frames h ∙ (rates.drops_at).at_11);
  elsewhere = λ h k. e ∙ (rates.drops_at).elsewhere rate h k;
}

pub answers_for_c : AnswersForC
answers_for_c = record {
  premiere_ticks = λ κs a x p. ticks-are x.0 _ p;
  seconds = λ κs a x p. seconds-are _ x.0 p;
  convert = λ κs a x p. converted-is x.0 _ p;
  cmp = λ κs a x p. order_is x.0 _ p;
  sections = λ κs a x p. sections-are x.0 _ p;
  write_label = λ κs a x p. length-is x.0 _ _ _ p.0;
  write_footage = λ κs a x p. length-is x.0 _ _ _ p.0;
  write_runtime = λ κs a x p. length-is x.0 _ _ _ p.0;
  write_list = λ κs a x p. length-is x.0 _ _ _ p.0;
  rate = λ κs a x p. rate_is x.0 _ p;
  drop-frames-per-minute = λ κs a x p. drops-are a.0 x.0 p;
  format = λ κs a x p. format-is x.0 _ p;
  minute-start = λ κs a x p. count_is x.0 _ p;
}
