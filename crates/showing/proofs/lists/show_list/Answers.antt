-- `showing::lists::show_list` meets its contract: by the test of the whole list.
-- Assumes nothing.
use mathlib.Core.Path.{sym, ap, ◌∙◌}
use mathlib.Core.List.{[], ◌∷◌}
use Rattle.streams.specs.Sheet.{put_on}
use Rattle.shot_lists.specs.Entries.{on_disk}
use Rattle.shot_lists.specs.Reading.{read_of}
use Rattle.showing.specs.Lists.{reading_on}
use Rattle.showing.specs.Shown.{shown_on}
use Rattle.showing.proofs.ListPutting.{list_all, list-fault}
use Rattle.showing.proofs.lists.show_list.Goals as goal

pub returns-in-Ok : goal.returns-in-Ok
returns-in-Ok g c =
    let t = read_of on_disk c.args.list.now in
    c.put_byte.ensures
    ∙ ap (λ z. put_on z (10 ∷ [])) (c.put_records.ensures ∙ ap (λ z. reading_on z t) c.put_signed.ensures)
    ∙ list_all (g.P.Page.seen c.args.sheet.now) t c.in-Ok.n (sym c.check_list.ensures ∙ c.in-Ok.is)

pub returns-in-Err : goal.returns-in-Err
returns-in-Err g c =
    c.show.ensures ∙ ap (shown_on (g.P.Page.seen c.args.sheet.now)) c.of_refusal.ensures
    ∙ list-fault (g.P.Page.seen c.args.sheet.now) (read_of on_disk c.args.list.now) c.in-Err.e (sym c.check_list.ensures ∙ c.in-Err.is)
