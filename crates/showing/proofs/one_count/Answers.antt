-- `showing::one_count` meets its contract: its count, and whether it is a position.
-- Assumes nothing.
use Rattle.std.specs.Prelude.{Option, None}
use mir.Syntax.{w64}
use mir.Val.{to_z, of_z}
use mathlib.Core.Path.{◌≡◌, ap₂}
use mathlib.Core.Bool.{Bool}
use lib.IntN.{ℤ}
use borrow.Author.Rules.{rules}
use Rattle.showing.specs.declared.Word.{Word}
use Rattle.showing.specs.declared.Shown.{Shown}
use Rattle.showing.specs.declared.Shown.TheVariants as variant
use Rattle.showing.proofs.one_count.Goals as goal

abbrev shown : Option Word → (position : Bool) (x : ℤ) → Shown
shown word position x = variant.Numbers (record { word = word; position = position; first = x; second = None })

pub returns : goal.returns
returns c =
    let back : to_z w64 (of_z w64 c.args.tc.count) ≡ c.args.tc.count = search rules in
    ap₂ (λ (t : Bool) (z : ℤ). shown c.args.word t z) c.is_position.ensures back
