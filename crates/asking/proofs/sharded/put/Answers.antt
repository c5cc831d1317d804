-- `asking::sharded::put` meets its contract: the number as one from 0 on; a place past the list's end is set to no avail.
-- Assumes nothing.
use mathlib.Core.Path.{◌≡◌, sym, ap, ◌∙◌}
use lib.ListN.{set}
use lib.Seq.{set_out}
use borrow.Author.Rules.{rules}
use mir.Syntax.{w64}
use mir.Val.{to_z, of_z}
use Rattle.numbers.specs.Sign.{up_from}
use Rattle.asking.proofs.sharded.put.Goals as goal

pub returns-then-n-list : goal.returns-then-n-list
returns-then-n-list c =
    let back : to_z w64 (of_z w64 c.args.z) ≡ c.args.z = search rules in
    ap (set c.args.list.now c.args.n) (c.up_from.ensures ∙ ap up_from back)

pub returns-else-n-list : goal.returns-else-n-list
returns-else-n-list c =
    sym (set_out _ _ _ c.if-n-list.false)
