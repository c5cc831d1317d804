-- `exports::FactNumbers::from` of a fault meets its contract: its field's number, its limit and its value, over the numbers of no fact.
-- Assumes nothing.
use Prim.Native.Nat.{ℕ}
use mathlib.Core.Path.{◌≡◌, ap₂, ◌∙◌}
use lib.IntN.{ℤ}
use mir.Syntax.{w64}
use mir.Val.{to_z, of_z}
use Rattle.exports.specs.declared.why.FactNumbers.{FactNumbers}
use Rattle.exports.specs.HandedWhy.{no_fact, limit_fact}
use borrow.Author.Rules.{rules}
use Rattle.numbers.specs.Total.{fitted}
use Rattle.numbers.specs.Sign.{signed}
use Rattle.exports.proofs.Defaults.{no-fact}
use Rattle.exports.proofs.why.FactNumbersFromFault.from.Goals as goal

-- a field, a limit and a value, over the numbers of no fact
abbrev over : FactNumbers → (field : ℕ) (limit value : ℤ) → FactNumbers
over n field limit value =
    record { field = field; limit = limit; value = value; negative = n.negative; hours = n.hours; minutes = n.minutes; seconds = n.seconds; frames = n.frames }

pub returns : goal.returns
unfolding no_fact limit_fact
returns c =
    let value : to_z w64 (of_z w64 c.with_sign-2.result) ≡ c.with_sign-2.result = search rules in
    let limit : to_z w64 (of_z w64 c.with_sign.result) ≡ c.with_sign.result = search rules in
    ap₂ (λ (x y : ℤ). over c.default.result c.field_number.result x y) (limit ∙ c.with_sign.ensures) (value ∙ c.with_sign-2.ensures)
    ∙ ap₂ (λ (n : FactNumbers) (k : ℕ). over n k (fitted c.args.f.limit (signed c.args.f.minus c.args.f.limit)) (fitted c.args.f.value (signed c.args.f.minus c.args.f.value))) (no-fact c.default.result c.default.ensures) c.field_number.ensures
