-- `runtime_writer::runtime_of` meets its contract: the digits kept of the rounded time, carried into its fields.
-- Assumes nothing.
use native.Mathlib.Omega.{arith}
use mathlib.Core.Path.{◌≡◌, ap, ◌∙◌}
use lib.IntN.{pos, nat_abs}
use lib.Signed.{lt_z}
use mir.Syntax.{w64}
use mir.Val.{to_z, of_z}
use borrow.Author.Rules.{rules}
use Rattle.numbers.specs.Sign.{is_neg}
use Rattle.timecodes.specs.AdmittedLaws.{valid-count-le}
use Rattle.runtime_writer.specs.RuntimeText.{runtime_units}
use Rattle.runtime_writer.proofs.Powers.{ten-pos}
use Rattle.runtime_writer.proofs.Laws.{tail-short, tail-runtime}
use Rattle.runtime_writer.proofs.runtime_of.Goals as goal
use Rattle.runtime_writer.proofs.runtime_of.Goals.{After-unsigned_abs}

size : (c : After-unsigned_abs) → c.unsigned_abs.result ≡ nat_abs c.args.tc.count
size c =
    c.unsigned_abs.ensures.value ∙ ap nat_abs ((let told : to_z w64 (of_z w64 c.args.tc.count) ≡ c.args.tc.count = search rules in told))

pub units_of-units-requires-clause-count : goal.units_of-units-requires-clause-count
units_of-units-requires-clause-count c =
    omega (arith, size (goal.at.units_of-units-requires-clause-count c).After-unsigned_abs, valid-count-le c.args.tc c.requires.timecode)

pub nonzero_rem-units : goal.nonzero_rem-units
nonzero_rem-units c =
    omega (arith, c.pow-unit.ensures, ten-pos c.args.precision)

pub nonzero_div-result : goal.nonzero_div-result
nonzero_div-result c =
    omega (arith, c.pow-unit.ensures, ten-pos c.args.precision)

pub invariant_of-result : goal.invariant_of-result
invariant_of-result c =
    record { few_digits = omega (arith, c.requires.precision, tail-short c.args.precision _ _ c.shortest.ensures) }

pub returns : goal.returns
returns c =
    let back : to_z w64 (of_z w64 c.args.tc.count) ≡ c.args.tc.count = search rules in
    let minus : lt_z (to_z w64 (of_z w64 c.args.tc.count)) (pos 0) ≡ is_neg c.args.tc.count = search rules in
    let units = c.units_of-units.ensures ∙ ap (runtime_units c.args.tc.rate c.args.precision) (size (goal.at.returns c).After-unsigned_abs) in
    tail-runtime c.args.tc.rate c.args.precision c.args.tc.count _ _ _ _ minus units c.pow-unit.ensures c.shortest.ensures
