-- `exports::FactNumbers::from` of a label meets its contract: its fields, over the numbers of no fact.
-- Assumes nothing.
use mathlib.Core.Path.{◌≡◌, ap, ap₂, ◌∙◌}
use lib.IntN.{ℤ}
use mir.Syntax.{w64}
use mir.Val.{to_z, of_z}
use Rattle.exports.specs.declared.why.FactNumbers.{FactNumbers}
use Rattle.exports.specs.HandedWhy.{no_fact, first_fact}
use borrow.Author.Rules.{rules}
use Rattle.exports.proofs.Defaults.{no-fact}
use Rattle.exports.proofs.why.FactNumbersFromTimecodeSections.from.Goals as goal

pub returns : goal.returns
unfolding no_fact first_fact
returns c =
    let s = c.args.s in
    let limit : to_z w64 (of_z w64 c.default.result.limit) ≡ c.default.result.limit = search rules in
    let value : to_z w64 (of_z w64 c.default.result.value) ≡ c.default.result.value = search rules in
    ap₂ (λ (x y : ℤ). record { field = c.default.result.field; limit = x; value = y; negative = s.negative; hours = s.hours; minutes = s.minutes; seconds = s.seconds; frames = s.frames }) limit value
    ∙ ap (λ (n : FactNumbers). record { field = n.field; limit = n.limit; value = n.value; negative = s.negative; hours = s.hours; minutes = s.minutes; seconds = s.seconds; frames = s.frames }) (no-fact c.default.result c.default.ensures)
