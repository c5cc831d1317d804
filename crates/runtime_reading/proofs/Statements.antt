-- Each answer tells the text's shape and its fault, and each shape and fault gives its answer.
-- Assumes nothing.
use Rattle.timecodes.specs.declared.Timecode.{Timecode}
use Rattle.answers.specs.declared.Refusal.{Refusal}
use Rattle.std.specs.Prelude.{Result, Ok, Err}
use Prim.Native.Nat.{ℕ}
use native.Mathlib.Omega.{arith}
use mathlib.Core.Path.{◌≡◌, refl, ap, ◌∙◌, subst}
use mathlib.Core.List.{List}
use mathlib.Core.Bool.{true}
use Rattle.answers.specs.Refusals.{is_count}
use Rattle.answers.specs.Laws.{held_in, held_out}
use Rattle.timecodes.specs.Timecode.{placed, number_of, timecode_of}
use Rattle.runtime_reading.specs.Reading.{read_runtime}
use Rattle.runtime_reading.specs.ReadingLaws.{no_rate}
use Rattle.runtime_reading.specs.Statements.{RefusedSix, RefusedOne, RefusedTwo, PlaceNone, RuntimeCounted, RefusedFive, CountBounded, AtRate}
use Rattle.runtime_reading.proofs.Gives.{gives_none, gives-long, gives-count}
use Rattle.runtime_reading.proofs.Told.{Told, told, cause}

pub refused-six : RefusedSix
refused-six l rate = (cause l rate 6 (omega arith), λ r. ap number_of (no_rate l rate r))

pub refused-one : RefusedOne
refused-one l rate r = (cause l rate 1 (omega arith), λ h. ap number_of (gives_none l rate r h))

pub refused-two : RefusedTwo
refused-two l rate r = (cause l rate 2 (omega arith), λ h. ap number_of (gives-long l rate r h))

pub place_none : PlaceNone
place_none l rate e is = (subst (Told l rate) is (told l rate)).1

pub runtime_counted : RuntimeCounted
runtime_counted l rate z r = (
  λ e. (subst (Told l rate) e (told l rate)).1,
  λ x. gives-count l rate r z x.0 ∙ ap (placed rate) (held_in z x.1),
)

pub refused-five : RefusedFive
refused-five l rate r = (
  cause l rate 5 (omega arith),
  λ x. ap number_of (gives-count l rate r x.z x.count ∙ ap (placed rate) (held_out x.z x.out)),
)

bounded-by : (l : List ℕ) (rate : ℕ) (a : Result Timecode Refusal) → Told l rate a → is_count (timecode_of a).count ≡ true
bounded-by l rate (Ok tc) t = t.1.1
bounded-by l rate (Err e) t = refl

pub count-bounded : CountBounded
count-bounded l rate = bounded-by l rate (read_runtime l rate) (told l rate)

pub at-rate : AtRate
at-rate l rate tc e = (subst (Told l rate) e (told l rate)).0
