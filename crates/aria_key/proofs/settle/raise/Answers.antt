use Rattle.std.proofs.Common.{◌≡◌, ◌∙◌, ◌+◌, ap, max, []}
use Rattle.std.proofs.lemmas.Result.{err_from_is_err_and}
use Rattle.aria_page.specs.declared.place.Part.TheVariants.{Keys}
use Rattle.aria_cache.specs.PageState.{PageState, Counts, table_file}
use Rattle.aria_keypage.specs.Item.{Item}
use Rattle.aria_keypage.specs.Change.{node_of_one}
use Rattle.aria_key.specs.Taking.{HasSpare}
use Rattle.aria_key.specs.Ascent.{CanAscend}
use Rattle.aria_key.specs.Reading.{keys_file}
use Rattle.aria_key.proofs.Sparing.{more_cause, written_then, some_then}
use Rattle.aria_key.proofs.Cramped.{count-then}
use Rattle.aria_key.proofs.Ascending.{ascend-spare}
use Rattle.aria_key.proofs.Regrowing.{raised}
use Rattle.aria_key.proofs.settle.raise.Goals as goal

pub returns-in_err-taken-clause-cause : goal.returns-in_err-taken-clause-cause
returns-in_err-taken-clause-cause g c =
    let old : PageState = g.P.Pages.state c.args.pages.now in
    let new : PageState = g.P.Pages.state c.take_page.new.pages in
    let file = keys_file old c.args.slot in
    let x : Item = record { entry = c.args.entry.now; to = c.args.child } in
    let p = err_from_is_err_and c.from_residual.result c.from_residual.ensures.1 in
    rw (p.1, p.2) (more_cause g.P.Pages.tells g.P.Pages.logged (HasSpare old file c.args.free) (CanAscend old file c.args.key c.args.root [] x c.args.free) file old new _ (λ t asked. ascend-spare old file c.args.key c.args.root [] x c.args.free asked) c.in_err-taken.ensures.cause)

pub returns-clause-raised : goal.returns-clause-raised
returns-clause-raised g c = λ t was before levels chain walk ascent few.
    let slot = c.args.slot in
    let old : PageState = g.P.Pages.state c.args.pages.now in
    let mid : PageState = g.P.Pages.state c.take_page.new.pages in
    let new : PageState = g.P.Pages.state c.new_root.new.pages in
    let file = keys_file old slot in
    let e = c.in_ok-taken.ensures in
    let fresh = c.in_ok-taken.taken.page in
    let x : Item = record { entry = c.args.entry.now; to = c.args.child } in
    let same : keys_file mid slot ≡ file = λ i. table_file (e.loads.slots.name i slot) Keys in
    let wrote = c.in_ok-new_root.ensures.written t (some_then file (keys_file mid slot) fresh old.bodies mid.bodies same (e.loads.bodies t) (e.some t)) in
    raised file was old.bodies new.bodies before (old.counts file) (new.counts file) c.args.key c.args.root levels chain walk x c.args.free fresh c.in_ok-taken.taken.free ascent (e.taken t ascent.left ascent.chain_is)
    (written_then file (keys_file mid slot) fresh (node_of_one c.args.key c.args.root x) old.bodies mid.bodies new.bodies same (e.loads.bodies t) wrote)
    (count-then file (keys_file mid slot) (fresh + 1) mid new same c.in_ok-new_root.ensures.counts ∙ ap (λ (m : Counts). max (m file) (fresh + 1)) e.loads.counts) few
