use Rattle.std.proofs.Common.{[], true, is_some}
use Rattle.std.specs.Prelude.{unwrap_or}
use Rattle.aria_page.specs.Change.{edits_of}
use Rattle.aria_host.proofs.Answered.{on_ok, on_ok_of}
use Rattle.aria_cache.proofs.Growing.{stays_edited}
use Rattle.aria_pager.specs.Laws.{stands_stays}
use Rattle.aria_pager.specs.View.{pages_of}
use Rattle.aria_pager.proofs.Paging.{edits_page}
use Rattle.aria_pager.proofs.view.PagerPages.edit.Goals as goal

pub returns-clause-stands : goal.returns-clause-stands
returns-clause-stands g c = (c.edit_kept.ensures.tidy, λ told. stands_stays c.args.self.now.store.now c.edit_kept.new.self (g.H.Host.state c.args.self.now.host.now) (g.H.Host.state c.edit_kept.new.host) (c.requires.stands.1 told) (c.edit_kept.ensures.moves told))

pub returns-clause-slots : goal.returns-clause-slots
returns-clause-slots g c = record { is_open = λ i n. is_some (c.edit_kept.ensures.same.slots i n); name = λ i n. unwrap_or (c.edit_kept.ensures.same.slots i n) [] }

pub returns-clause-edits : goal.returns-clause-edits
returns-clause-edits g c = λ told. on_ok c.edit_kept.result _ (λ done.
    edits_page c.args.why c.args.at.slot c.args.at.part c.args.at.page (edits_of c.args.edits.now) c.args.self.now.store.now c.edit_kept.new.self (g.H.Host.state c.args.self.now.host.now) (g.H.Host.state c.edit_kept.new.host)
    (on_ok_of c.edit_kept.result _ (c.edit_kept.ensures.shows told) done) (on_ok_of c.edit_kept.result _ c.edit_kept.ensures.entries done))

pub returns-clause-inside : goal.returns-clause-inside
returns-clause-inside g c = λ told. on_ok c.edit_kept.result _ (λ done.
    let store = c.args.self.now.store.now in
    let s = g.H.Host.state c.args.self.now.host.now in
    let t = g.H.Host.state c.edit_kept.new.host in
    let es = edits_of c.args.edits.now in
    stays_edited true c.args.why c.args.at.slot c.args.at.part c.args.at.page es (pages_of store s) (pages_of c.edit_kept.new.self t)
    (edits_page c.args.why c.args.at.slot c.args.at.part c.args.at.page es store c.edit_kept.new.self s t
    (on_ok_of c.edit_kept.result _ (c.edit_kept.ensures.shows told) done) (on_ok_of c.edit_kept.result _ c.edit_kept.ensures.entries done)))
