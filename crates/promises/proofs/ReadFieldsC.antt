-- What C is handed is the answer's numbers: those of the struct that the contract names.
-- Assumes nothing.
use Rattle.timecodes.specs.declared.Timecode.{Timecode}
use Rattle.answers.specs.declared.Refusal.{Refusal}
use Rattle.std.specs.Prelude.{Result, Ok, Err}
use mathlib.Core.Path.{◌≡◌, refl, ap}
use mathlib.Core.Logic.{◌↔◌}
use mathlib.Core.Bool.{Bool, true, false}
use Rattle.timecodes.specs.declared.kinds.Kind.{Kind}
use Rattle.timecodes.specs.declared.kinds.Kind.TheVariants.{Position}
use Rattle.timecodes.specs.Kinds.{kind_from, is_position}
use Rattle.timecodes.specs.KindLaws.{position-told}
use Rattle.reading.specs.declared.Read.{Read}
use Rattle.reading.specs.declared.Read.TheVariants.{Label, Footage}
use Rattle.exports.specs.declared.handed.TzqCount.{TzqCount}
use Rattle.exports.specs.declared.handed.TzqRead.{TzqRead}
use Rattle.exports.specs.Handed.{handed_read, handed_answer}
use Rattle.promises.specs.ReadFieldsC.{ReadWhole, AnswerWhole, ReadFieldsForC}

-- the test of a kind says whether it is that of a position
pub kind-told : (kind : Kind) → (is_position kind ≡ true) ↔ (kind ≡ Position)
kind-told kind = (λ h. position-told kind h, λ h. ap is_position h)

kind-is : (t : Bool) → (kind_from t ≡ Position) ↔ (t ≡ true)
kind-is true = (λ h. refl, λ h. refl)
kind-is false = (λ h. ap is_position h, λ h. ap kind_from h)

-- what is handed over of a text, and of a timecode
pub read_is : (a : Result Read Refusal) → ReadWhole (handed_read a) a
unfolding handed_read
read_is (Ok (Label tc)) = (refl, refl, refl, refl, kind-told tc.kind)
read_is (Ok (Footage tc film)) = (refl, refl, refl, refl, kind-told tc.kind)
read_is (Err e) = (refl, refl, refl, refl, refl)

answer-is : (a : Result Timecode Refusal) → AnswerWhole (handed_answer a) a
unfolding handed_answer
answer-is (Ok tc) = (refl, refl, kind-told tc.kind)
answer-is (Err e) = (refl, refl, refl)

whole : (t : TzqRead) (a : Result Read Refusal) → t ≡ handed_read a → ReadWhole t a
whole t a e = rw e (read_is a)

timecode : (t : TzqCount) (a : Result Timecode Refusal) → t ≡ handed_answer a → AnswerWhole t a
timecode t a e = rw e (answer-is a)

pub read_fields_for_c : ReadFieldsForC
read_fields_for_c = record {
  read = λ κs a x p. whole x.0 _ p;
  read_as = λ κs a x p. whole x.0 _ p;
  read-runtime = λ κs a x p. timecode x.0 _ p;
  with_frames = λ κs a x p. timecode x.0 _ p;
  with_premiere_ticks = λ κs a x p. timecode x.0 _ p;
  with_seconds = λ κs a x p. timecode x.0 _ p;
  add = λ κs a x p. timecode x.0 _ p;
  sub = λ κs a x p. timecode x.0 _ p;
  mul = λ κs a x p. timecode x.0 _ p;
  div = λ κs a x p. timecode x.0 _ p;
  rem = λ κs a x p. timecode x.0 _ p;
  divq = λ κs a x p. timecode x.0 _ p;
  remq = λ κs a x p. timecode x.0 _ p;
  neg = λ κs a x p. timecode x.0 _ p;
  abs = λ κs a x p. timecode x.0 _ p;
  rebase = λ κs a x p. timecode x.0 _ p;
  formats = (refl, refl, refl, refl);
}
