-- `showing::count_and` meets its contract: its count, whether it is a position, and the number.
-- Assumes nothing.
use Rattle.std.specs.Prelude.{Option, Some}
use Prim.Native.Nat.{ℕ}
use mir.Syntax.{w64}
use mir.Val.{to_z, of_z}
use mathlib.Core.Path.{◌≡◌, ap₂}
use mathlib.Core.Bool.{Bool}
use lib.IntN.{ℤ}
use borrow.Author.Rules.{rules}
use Rattle.showing.specs.declared.Word.{Word}
use Rattle.showing.specs.declared.Shown.{Shown}
use Rattle.showing.specs.declared.Shown.TheVariants as variant
use Rattle.showing.proofs.count_and.Goals as goal

abbrev shown : Option Word → (position : Bool) (x : ℤ) (y : ℕ) → Shown
shown word position x y =
    variant.Numbers (record { word = word; position = position; first = x; second = Some (record { mark = 32; number = y }) })

pub returns : goal.returns
returns c =
    let back : to_z w64 (of_z w64 c.args.tc.count) ≡ c.args.tc.count = search rules in
    ap₂ (λ (t : Bool) (z : ℤ). shown c.args.word t z c.args.y) c.is_position.ensures back
