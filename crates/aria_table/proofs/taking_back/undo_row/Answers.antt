use Rattle.std.proofs.Common.{◌≡◌, ℕ, Bool, List, refl, sym, ap, ◌∙◌, subst}
use Rattle.std.specs.Prelude.{drop}
use Rattle.aria_page.specs.declared.lsn.Lsn.{Lsn}
use Rattle.aria_page.specs.declared.group.Last.TheVariants.{Clr}
use Rattle.aria_cache.specs.Ending.{newest}
use Rattle.aria_table.specs.Step.{EndsOne}
use Rattle.aria_table.proofs.Ending.{ended_one}
use Rattle.aria_table.proofs.taking_back.undo_row.Goals as goal

pub returns-in_ok-end-in-Ok-clause-ends : goal.returns-in_ok-end-in-Ok-clause-ends
returns-in_ok-end-in-Ok-clause-ends g c =
    subst (λ (n : Lsn). EndsOne g.P.Pages.tells g.P.Pages.logged g.P.Pages.ends g.P.Pages.state c.args.slot (Clr (newest (g.P.Pages.state c.args.pages.now).pending) n) c.args.pages.now c.end.new.self) c.undo_next-next.ensures
    (subst (λ (u : Lsn). EndsOne g.P.Pages.tells g.P.Pages.logged g.P.Pages.ends g.P.Pages.state c.args.slot (Clr u c.undo_next-next.result) c.args.pages.now c.end.new.self) c.last_undo-undone.ensures
    (ended_one g.P.Pages.tells g.P.Pages.logged g.P.Pages.ends g.P.Pages.state c.args.slot (Clr c.last_undo-undone.result c.undo_next-next.result) c.args.pages.now c.group-group.new.self c.take_counted.new.pages c.end.new.self c.in_ok-end-in-Ok.field-0
    c.group-group.ensures.begins c.in-Ok.ensures.slots c.in-Ok.ensures.log (λ told log. c.in-Ok.ensures.applies told log) c.in_ok-end-in-Ok.ensures.ended
    (λ groups ends. g.met.P.Pages.ends_behind c.args.pages.now c.group-group.new.self c.end.new.self groups c.group-group.ensures.moves (g.met.P.Pages.ends_behind c.group-group.new.self c.take_counted.new.pages c.end.new.self groups c.in-Ok.ensures.moves ends))
    c.in_ok-end-in-Ok.ensures.bodies c.in_ok-end-in-Ok.ensures.pending))
