-- `routing::entries::entry_of` meets its contract: behind the blanks the line's end, or two numbers.
-- Assumes nothing.
use Rattle.std.specs.Prelude.{Err}
use Rattle.std.proofs.lemmas.Bool.{not_from_false, not_from_true}
use Rattle.std.proofs.lemmas.Result.{err_from_is_err_and}
use mathlib.Core.Path.{sym, ap, ◌∙◌}
use borrow.Author.Tests.{not-true, not-false}
use Rattle.routing.specs.Entries.{is_over}
use Rattle.routing.proofs.Reading.{entry-over, entry_found, entry-none, second-found, second_none, ended-over, ended-other, entry-is}
use Rattle.routing.proofs.entries.entry_of.Goals as goal

pub returns-then-is_over : goal.returns-then-is_over
returns-then-is_over c =
    entry-over c.args.line.now c.past_blanks-at.result _ c.past_blanks-at.ensures (sym c.is_over.ensures ∙ c.if-is_over.true) ∙ entry-is c.args.line.now

pub returns-in_err-first : goal.returns-in_err-first
returns-in_err-first c =
    let p = err_from_is_err_and c.from_residual.result c.from_residual.ensures.1 in
    p.1
    ∙ ap Err p.2
    ∙ entry-none c.args.line.now c.past_blanks-at.result _ c.past_blanks-at.ensures (sym c.is_over.ensures ∙ c.if-is_over.false) _
    (sym c.number_at.ensures ∙ c.in_err-first.was)
    ∙ entry-is c.args.line.now

pub returns-in_err-second : goal.returns-in_err-second
returns-in_err-second c =
    let p = err_from_is_err_and c.from_residual-in_err-second.result c.from_residual-in_err-second.ensures.1 in
    p.1
    ∙ ap Err p.2
    ∙ second_none c.args.line.now c.past_blanks.result _ c.past_blanks.ensures c.in_ok-first.first.value _ (sym c.number_at-2.ensures ∙ c.in_err-second.was)
    ∙ entry_found c.args.line.now c.past_blanks-at.result _ c.past_blanks-at.ensures (sym c.is_over.ensures ∙ c.if-is_over.false) _ _
    (sym c.number_at.ensures ∙ c.in_ok-first.was)
    ∙ entry-is c.args.line.now

pub returns-then-not-is_over : goal.returns-then-not-is_over
returns-then-not-is_over c =
    ended-other c.in_ok-first.first.value c.in_ok-second.second.value _
    (sym (ap is_over c.past_blanks-2.ensures) ∙ sym c.is_over-2.ensures ∙ not-true _ (not_from_false _ c.if-not-is_over.true))
    ∙ second-found c.args.line.now c.past_blanks.result _ c.past_blanks.ensures c.in_ok-first.first.value _ _ (sym c.number_at-2.ensures ∙ c.in_ok-second.was)
    ∙ entry_found c.args.line.now c.past_blanks-at.result _ c.past_blanks-at.ensures (sym c.is_over.ensures ∙ c.if-is_over.false) _ _
    (sym c.number_at.ensures ∙ c.in_ok-first.was)
    ∙ entry-is c.args.line.now

pub returns : goal.returns
returns c =
    ended-over c.in_ok-first.first.value c.in_ok-second.second.value _
    (sym (ap is_over c.past_blanks-2.ensures) ∙ sym c.is_over-2.ensures ∙ not-false _ (not_from_true _ c.if-not-is_over.false))
    ∙ second-found c.args.line.now c.past_blanks.result _ c.past_blanks.ensures c.in_ok-first.first.value _ _ (sym c.number_at-2.ensures ∙ c.in_ok-second.was)
    ∙ entry_found c.args.line.now c.past_blanks-at.result _ c.past_blanks-at.ensures (sym c.is_over.ensures ∙ c.if-is_over.false) _ _
    (sym c.number_at.ensures ∙ c.in_ok-first.was)
    ∙ entry-is c.args.line.now
