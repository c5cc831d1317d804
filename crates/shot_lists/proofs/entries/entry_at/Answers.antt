-- `shot_lists::entries::entry_at` meets its contract: what speaks against the record, in its order, and the record itself.
-- Assumes nothing.
use Prim.Native.Nat.{ℕ, ◌-◌, ◌+◌}
use mathlib.Core.Path.{◌≡◌, sym, ap, ap₂, ◌∙◌}
use mathlib.Core.List.{List}
use native.Mathlib.Omega.{arith}
use borrow.Author.Rules.{rules}
use lib.ListN.{length, take, drop, length-drop}
use lib.Seq.{take_all}
use Rattle.std.specs.Prelude.{Err}
use Rattle.shot_lists.specs.Entries.{ruled}
use Rattle.shot_lists.specs.Laws.{entry-end, entry-unknown, entry-cut, entry_whole}
use Rattle.shot_lists.specs.KindLaws.{kind-known, kind-unknown}
use Rattle.shot_lists.proofs.entries.entry_at.Goals as goal
use Rattle.shot_lists.proofs.entries.entry_at.Goals.{After-body-body}

-- all that is left is lent on
rest-is : {A : Type 0} (l : List A) (a : ℕ) → take (length l - a) (drop a l) ≡ drop a l
rest-is l a = take_all (length l - a) (drop a l) (omega (arith, length-drop a l))

pub returns-in_default : goal.returns-in_default
returns-in_default g c =
    sym (entry-end g.T.Element.layout c.args.held c.args.list.now c.args.at c.in_default.ensures.lookup.3)

pub returns-in_err-kind : goal.returns-in_err-kind
returns-in_err-kind g c =
    let told = c.in-Some.ensures.lookup in
    let none = g.met.T.Element.unknown c.kind.result _ (sym c.in_err-kind.ensures) in
    let same = kind-unknown c.kind.result _ (sym c.in_err-kind.ensures) in
    let body = ap g.T.Element.layout.body (sym c.kind.ensures) ∙ none in
    let refused = entry-unknown g.T.Element.layout c.args.held c.args.list.now c.args.at c.in-Some.head.now told.3.0 told.1 body in
    let failed : c.from_residual.result ≡ Err c.in_err-kind.field-0.0 = search rules in
    failed ∙ ap Err (sym same) ∙ sym refused

pub returns-then-rest-body : goal.returns-then-rest-body
returns-then-rest-body g c =
    let told = c.in-Some.ensures.lookup in
    let f = g.T.Element.layout in
    let kind = sym c.kind.ensures ∙ kind-known c.kind.result c.in_ok-kind.kind (sym c.in_ok-kind.ensures) in
    let body = c.body-body.ensures ∙ ap f.body (sym kind) in
    let known = g.met.T.Element.known c.in_ok-kind.kind in
    let rest = rest-is c.args.list.now (c.args.at + 1) in
    ap Err c.into.ensures
    ∙ sym (entry-cut f c.args.held c.args.list.now c.args.at c.in-Some.head.now told.3.0 told.1 (λ e. known (ap f.body (sym kind) ∙ e))
    (omega (arith, body, ap length rest, c.if-rest-body.true)))

pub returns : goal.returns
returns g c =
    let told = c.in-Some.ensures.lookup in
    let f = g.T.Element.layout in
    let kind = sym c.kind.ensures ∙ kind-known c.kind.result c.in_ok-kind.kind (sym c.in_ok-kind.ensures) in
    let body = c.body-body.ensures ∙ ap f.body (sym kind) in
    let known = g.met.T.Element.known c.in_ok-kind.kind in
    let rest = rest-is c.args.list.now (c.args.at + 1) in
    c.rule.ensures
    ∙ ap (λ r. ruled c.args.held r (c.body-body.result + 1)) (c.record.ensures ∙ ap₂ f.made (sym kind) rest)
    ∙ sym (entry_whole f c.args.held c.args.list.now c.args.at c.in-Some.head.now told.3.0 told.1 c.body-body.result body (λ e. known (sym c.body-body.ensures ∙ e))
    (omega (arith, ap length rest, c.if-rest-body.false)))
