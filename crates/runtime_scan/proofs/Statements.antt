-- A text reads as its shape says, in one way only, and each fit is given exactly: the scan of a text by a runtime's grammar.
-- Assumes nothing.
use Rattle.std.specs.Prelude.{Ok, Err}
use Prim.Native.Nat.{ℕ, ◌^◌, ◌≤◌, ◌<◌}
use mathlib.Core.Path.{◌≡◌, ap, ◌∙◌, subst}
use mathlib.Core.List.{List, map}
use native.Mathlib.Omega.{arith}
use lib.ListN.{length}
use borrow.Author.Tests.{ltb-false}
use mathlib.Core.Bool.{true, false}
use Rattle.beginnings.specs.Beginning.{LongestBeginning}
use Rattle.digits.specs.Digits.{value_of}
use Rattle.digits.proofs.Runs.{field-value}
use Rattle.scanner.specs.declared.text.Misfit.TheVariants.{TooLong, NoShape}
use Rattle.scanner.specs.Long.{is_over, fields_long}
use Rattle.scanner.specs.Justified.{justified}
use Rattle.scanner.specs.Text.{named, text_scan}
use Rattle.scanner.specs.Shapes.{TextParts, Possible}
use Rattle.scanner.proofs.Long.{neither}
use Rattle.scanner.proofs.Statements.{one_text_shape, text_bounded, text-any, fit-told, named-ok, named-err, text-short, text-long, long-place, place-long, text-none, stop_longest, text-stops}
use Rattle.runtime_scan.specs.declared.RuntimeScan.{RuntimeScan}
use Rattle.runtime_scan.specs.Shape.{runtime_grammar, RuntimeShape, in_millionths, runtime_long, HasRuntimeShape, IsRuntime, LongRuntime}
use Rattle.runtime_scan.specs.Runtime.{fitting_runtime, runtime_from, runtime_scan}
use Rattle.runtime_scan.specs.Statements.{RuntimeReads, RuntimeFits, RuntimeTooLong, RuntimeNoShape, OneRuntimeShape, RuntimeBounds, RuntimeBounded}
use Rattle.runtime_scan.proofs.Millionths.{fraction-below}

-- a fraction that is not too long has at most 6 digits
short-fraction : (p : TextParts) → runtime_long p ≡ false → length p.tail ≤ 6
short-fraction p e = ltb-false 6 (length p.tail) (neither (is_over 6 (length p.tail)) (fields_long p.fields) e).0

pub runtime_reads : RuntimeReads
unfolding runtime_scan
runtime_reads l p shape short =
    let h = short-fraction p short in
    ap (named runtime_from) (text-short runtime_grammar l p shape short)
    ∙ ap (λ (v : ℕ). Ok (fitting_runtime p.minus (justified (map value_of p.fields)) (in_millionths v (length p.tail)))) (field-value p.tail (omega arith))

-- ---- each fit
pub runtime_fits : RuntimeFits
unfolding runtime_scan
runtime_fits l = (
  λ p. let t = named-ok runtime_from (text_scan runtime_grammar l) p.0 p.1 in fit-told runtime_grammar l (Ok t.0) t.1,
  λ h. (_, runtime_reads l h.parts h.shape h.digits),
)

pub runtime_too_long : RuntimeTooLong
unfolding runtime_scan
runtime_too_long l place = (
  λ e. fit-told runtime_grammar l (Err (TooLong place)) (named-err runtime_from (text_scan runtime_grammar l) (TooLong place) e),
  λ h. ap (named runtime_from) (text-long runtime_grammar l place h),
)

-- where something is too long, the first such field has a place, and back
pub runtime-long-place : (l : List ℕ) → HasRuntimeShape l true → (place : ℕ) × LongRuntime l place
runtime-long-place l h = long-place runtime_grammar l h

pub runtime-place-long : (l : List ℕ) (place : ℕ) → LongRuntime l place → HasRuntimeShape l true
runtime-place-long l place h = place-long runtime_grammar l place h

-- there are runtimes
possible : Possible runtime_grammar
possible = record { some = omega arith; enough = omega arith }

-- ---- what the fit alone tells
pub runtime-fit-long : (l : List ℕ) (place : ℕ) → runtime_scan l ≡ Err (TooLong place) → LongRuntime l place
unfolding runtime_scan
runtime-fit-long l place e = fit-told runtime_grammar l (Err (TooLong place)) (named-err runtime_from (text_scan runtime_grammar l) (TooLong place) e)

pub runtime-fit-none : (l : List ℕ) (stop : ℕ) → runtime_scan l ≡ Err (NoShape stop) → (p : TextParts) → ¬ RuntimeShape l p
unfolding runtime_scan
runtime-fit-none l stop e = fit-told runtime_grammar l (Err (NoShape stop)) (named-err runtime_from (text_scan runtime_grammar l) (NoShape stop) e)

runtime-fit-stop : (l : List ℕ) (stop : ℕ) → runtime_scan l ≡ Err (NoShape stop) → LongestBeginning IsRuntime l stop
unfolding runtime_scan
runtime-fit-stop l stop e = stop_longest runtime_grammar l stop possible (named-err runtime_from (text_scan runtime_grammar l) (NoShape stop) e)

-- a text without the shape is scanned up to some place
pub runtime-none-fit : (l : List ℕ) → ((p : TextParts) → ¬ RuntimeShape l p) → (stop : ℕ) × (runtime_scan l ≡ Err (NoShape stop))
unfolding runtime_scan
runtime-none-fit l h = (_, ap (named runtime_from) (text-none runtime_grammar l h))

pub runtime_no_shape : RuntimeNoShape
unfolding runtime_scan
runtime_no_shape l stop = (
  λ e. (runtime-fit-none l stop e, runtime-fit-stop l stop e),
  λ h. ap (named runtime_from) (text-stops runtime_grammar l stop possible h.0 h.1),
)

pub one_runtime_shape : OneRuntimeShape
one_runtime_shape l = one_text_shape runtime_grammar l

pub runtime_bounded : RuntimeBounded
unfolding runtime_scan
runtime_bounded l scan e =
    let t = named-ok runtime_from (text_scan runtime_grammar l) scan e in
    let b = text_bounded runtime_grammar l t.0 t.1 in
    let fraction =
    text-any runtime_grammar l (λ x. in_millionths x.tail x.digits < 10 ^ 6) (λ p s short. fraction-below p.tail s.shape.digits (short-fraction p short)) t.0 t.1 in
    subst (λ (x : RuntimeScan). RuntimeBounds x.fields x.millionths) t.2 record { four = b.four; below = b.below; fraction = fraction }
