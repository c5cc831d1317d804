-- What C is handed is the answer's numbers: those of the struct that the contract names.
-- Assumes nothing.
use Rattle.timecodes.specs.declared.Timecode.{Timecode}
use Rattle.answers.specs.declared.Refusal.{Refusal}
use Rattle.std.specs.Prelude.{Result}
use mathlib.Core.Path.{◌≡◌, refl, sym, ◌∙◌, ap}
use mathlib.Core.Logic.{◌↔◌}
use mathlib.Core.Bool.{Bool, true, false}
use Rattle.timecodes.specs.declared.kinds.Kind.{Kind}
use Rattle.timecodes.specs.declared.kinds.Kind.TheVariants.{Position}
use Rattle.timecodes.specs.Kinds.{kind_from, is_position}
use Rattle.timecodes.specs.KindLaws.{position-told}
use Rattle.timecodes.specs.Timecode as answer
use Rattle.reading.specs.declared.Read.{Read}
use Rattle.reading.specs.Answer.{timecode_of}
use Rattle.exports.specs.declared.handed.TzqCount.{TzqCount}
use Rattle.exports.specs.declared.handed.TzqRead.{TzqRead}
use Rattle.exports.specs.Handed.{handed_read, handed_answer}
use Rattle.promises.specs.ReadC.{HandedWhole, HandedAnswer, ReadForC}

-- a test that is the kind's says so
position-is : (t : Bool) (kind : Kind) → t ≡ is_position kind → (t ≡ true) ↔ (kind ≡ Position)
position-is t kind e = (λ h. position-told kind (sym e ∙ h), λ h. e ∙ ap is_position h)

kind-is : (t : Bool) → (kind_from t ≡ Position) ↔ (t ≡ true)
kind-is true = (λ h. refl, λ h. refl)
kind-is false = (λ h. ap is_position h, λ h. ap kind_from h)

whole : (t : TzqRead) (a : Result Read Refusal) → t ≡ handed_read a → HandedWhole t a
unfolding handed_read
whole t a e = record {
  refused = ap (λ (x : TzqRead). x.refused) e;
  count = ap (λ (x : TzqRead). x.count) e;
  format = ap (λ (x : TzqRead). x.format) e;
  place = ap (λ (x : TzqRead). x.place) e;
  position = position-is t.position (timecode_of a).kind (ap (λ (x : TzqRead). x.position) e);
}

timecode : (t : TzqCount) (a : Result Timecode Refusal) → t ≡ handed_answer a → HandedAnswer t a
unfolding handed_answer
timecode t a e = record {
  refused = ap (λ (x : TzqCount). x.refused) e;
  count = ap (λ (x : TzqCount). x.count) e;
  position = position-is t.position (answer.timecode_of a).kind (ap (λ (x : TzqCount). x.position) e);
}

pub read_for_c : ReadForC
read_for_c = record {
  read = λ κs a x p. whole x.0 _ p;
  read_as = λ κs a x p. whole x.0 _ p;
  add = λ κs a x p. timecode x.0 _ p;
  sub = λ κs a x p. timecode x.0 _ p;
  with_frames = λ κs a x p. timecode x.0 _ p;
  with_premiere_ticks = λ κs a x p. timecode x.0 _ p;
  with_seconds = λ κs a x p. timecode x.0 _ p;
  read-runtime = λ κs a x p. timecode x.0 _ p;
  handed_over = λ t. record { count = refl; rate = refl; position = kind-is t.position };
}
