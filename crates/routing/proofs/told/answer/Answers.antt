-- `routing::told::answer` meets its contract: the label begins within the line.
-- Assumes nothing.
use Prim.Native.Nat.{◌-◌}
use mathlib.Core.Path.{◌≡◌, sym, ap, ◌∙◌}
use native.Mathlib.Omega.{arith}
use borrow.Author.Rules.{rules}
use lib.ListN.{length, take, drop}
use mir.Syntax.{w64}
use mir.Val.{to_z, of_z}
use Rattle.streams.specs.Pieces.{all_on}
use Rattle.router.specs.Tested.{routed_in}
use Rattle.routing.specs.Told.{routed_pieces, asked_pieces}
use Rattle.routing.proofs.Putting.{rest-whole, answer-over, answer-none, answer-whole}
use Rattle.routing.proofs.Asking.{query-within}
use Rattle.routing.proofs.told.answer.Goals as goal
use Rattle.routing.proofs.told.answer.Goals.{in_default-via-in-Some+else-not-over, in_default-via-in_default}

pub slice_bounds-label-count : goal.slice_bounds-label-count
slice_bounds-label-count g c =
    query-within c.args.line.now _ _ (sym c.query_of.ensures ∙ c.in-Some.is)

pub slice_bounds-label-start : goal.slice_bounds-label-start
slice_bounds-label-start g c =
    omega (arith, query-within c.args.line.now _ _ (sym c.query_of.ensures ∙ c.in-Some.is))

pub returns-in-Some : goal.returns-in-Some
returns-in-Some g c =
    let q = c.in-Some.query in
    let back : to_z w64 (of_z w64 q.length) ≡ q.length = search rules in
    c.put_routed.ensures
    ∙ ap (all_on (g.P.Page.seen c.args.sheet.now))
    (ap (routed_pieces c.args.reel)
    (c.route_tested.ensures
    ∙ ap (λ z. routed_in c.args.d z (take (length c.args.line.now - q.label) (drop q.label c.args.line.now))) back
    ∙ ap (routed_in c.args.d q.length) (rest-whole c.args.line.now q.label))
    ∙ ap (asked_pieces c.args.d c.args.reel c.args.line.now) (sym c.in-Some.is ∙ c.query_of.ensures)
    ∙ answer-whole c.args.d c.args.reel c.args.line.now c.args.over c.if-not-over.true)

pub returns-in_default : goal.returns-in_default
returns-in_default g c =
    c.put_text.ensures
    ∙ ap (all_on (g.P.Page.seen c.args.sheet.now)) (elim c.in_default.branch [
      | in_default-via-in-Some+else-not-over w ↦ answer-over c.args.d c.args.reel c.args.line.now c.args.over w.if-not-over.false
      | in_default-via-in_default w ↦ answer-none c.args.d c.args.reel c.args.line.now c.args.over (sym c.query_of.ensures ∙ w.in_default.is)
    ])
