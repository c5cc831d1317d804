-- `exports::TzqReasonFromReason::from` meets its contract: the reader's numbers, those of the fact, and the length.
-- Assumes nothing.
use Prim.Native.Nat.{ℕ}
use mathlib.Core.Path.{◌≡◌, ap, ap₂, ◌∙◌}
use lib.IntN.{ℤ}
use mir.Syntax.{w64}
use mir.Val.{to_z, of_z}
use Rattle.exports.specs.declared.handed.TzqRead.{TzqRead}
use Rattle.exports.specs.declared.why.FactNumbers.{FactNumbers}
use Rattle.exports.specs.declared.why.TzqReason.{TzqReason}
use Rattle.exports.specs.HandedWhy.{told_reason}
use borrow.Author.Rules.{rules}
use Rattle.exports.proofs.why.TzqReasonFromReason.from.Goals as goal

-- with the signed numbers apart, which are handed on as their bits
abbrev told : TzqRead → FactNumbers → (count limit value : ℤ) (length : ℕ) → TzqReason
told a n count limit value length =
    record {
      refused = 0;
      number = a.refused;
      place = a.place;
      count = count;
      format = a.format;
      position = a.position;
      field = n.field;
      limit = limit;
      value = value;
      negative = n.negative;
      hours = n.hours;
      minutes = n.minutes;
      seconds = n.seconds;
      frames = n.frames;
      length = length;
    }

pub returns : goal.returns
unfolding told_reason
returns c =
    let count : to_z w64 (of_z w64 c.from-a.result.count) ≡ c.from-a.result.count = search rules in
    let limit : to_z w64 (of_z w64 c.from-n.result.limit) ≡ c.from-n.result.limit = search rules in
    let value : to_z w64 (of_z w64 c.from-n.result.value) ≡ c.from-n.result.value = search rules in
    ap (λ (z : ℤ). told c.from-a.result c.from-n.result z (to_z w64 (of_z w64 c.from-n.result.limit)) (to_z w64 (of_z w64 c.from-n.result.value)) c.args.r.length) count
    ∙ ap₂ (λ (x y : ℤ). told c.from-a.result c.from-n.result c.from-a.result.count x y c.args.r.length) limit value
    ∙ ap₂ (λ (b : TzqRead) (k : FactNumbers). told b k b.count k.limit k.value c.args.r.length) c.from-a.ensures c.from-n.ensures
