use Rattle.std.proofs.Common.{◌≡◌, ◌∙◌}
use Rattle.std.proofs.lemmas.Result.{err_from_is_err_and}
use Rattle.aria_cache.specs.PageState.{PageState, with_edits, table_file}
use Rattle.aria_host.specs.declared.file_name.FileName.{FileName}
use Rattle.aria_page.specs.declared.place.Part.TheVariants.{Keys}
use Rattle.aria_cache.specs.Causes.{OfPage}
use Rattle.aria_page.specs.Change.{edits_of}
use Rattle.aria_key.specs.Held.{Takes}
use Rattle.aria_key.specs.Reading.{keys_file, OfKeyPage}
use Rattle.aria_key.proofs.Holding.{rewritten}
use Rattle.aria_key.proofs.Reading.{reads_one, cause_then}
use Rattle.aria_key.proofs.Finding.{edit_cause}
use Rattle.aria_key.proofs.put.put.Goals as goal

pub returns-in_err-edit_page-in-Some-clause-cause : goal.returns-in_err-edit_page-in-Some-clause-cause
returns-in_err-edit_page-in-Some-clause-cause g c =
    let old = g.P.Pages.state c.args.pages.now in
    let now = g.P.Pages.state c.item_edits.new.pages in
    let new = g.P.Pages.state c.edit_page.new.pages in
    let reads = reads_one g.P.Pages.tells 1 (OfKeyPage g.P.Pages.tells g.P.Pages.logged (Takes c.args.kind c.args.at) (keys_file old c.args.slot) c.args.page old now) old now c.in_ok-edits.ensures.loads c.in_ok-edits.ensures.answers c.in_ok-edits.ensures.cause in
    let p = err_from_is_err_and c.from_residual-in_err-edit_page-in-Some.result c.from_residual-in_err-edit_page-in-Some.ensures.1 in
    rw (p.1, p.2) (cause_then g.P.Pages.tells 1 (OfPage g.P.Pages.tells g.P.Pages.logged (keys_file now c.args.slot) c.args.page now new) (OfKeyPage g.P.Pages.tells g.P.Pages.logged (Takes c.args.kind c.args.at) (keys_file old c.args.slot) c.args.page old new) old now new _ reads (edit_cause g.P.Pages.tells g.P.Pages.logged (Takes c.args.kind c.args.at) c.args.slot 1 c.args.page old now new reads) c.in_err-edit_page-in-Some.ensures.cause)

pub returns-in_ok-edit_page-in-Some-clause-put : goal.returns-in_ok-edit_page-in-Some-clause-put
returns-in_ok-edit_page-in-Some-clause-put g c = λ t content held.
    let old : PageState = g.P.Pages.state c.args.pages.now in
    let mid : PageState = g.P.Pages.state c.item_edits.new.pages in
    let new : PageState = g.P.Pages.state c.edit_page.new.pages in
    let file : FileName = keys_file old c.args.slot in
    let loads = c.in_ok-edits.ensures.loads in
    let changes = rw c.in-Some.is at (c.in_ok-edits.ensures.offered t content held) in
    let made = rewritten file c.args.page c.in-Some.edits old.bodies content _ held changes in
    let edited : new.bodies ≡ with_edits (keys_file mid c.args.slot) c.args.page (edits_of c.edits-in-Some.result) mid.bodies = (c.in_ok-edit_page-in-Some.ensures.edits t).bodies in
    let now : new.bodies ≡ with_edits file c.args.page c.in-Some.edits old.bodies =
    ◌∙◌ {b = with_edits (keys_file mid c.args.slot) c.args.page (edits_of c.edits-in-Some.result) mid.bodies} edited (λ i. with_edits (table_file (loads.slots.name i c.args.slot) Keys) c.args.page (c.edits-in-Some.ensures.edits i) (loads.bodies t i)) in
    rw now made

pub returns-in-None-clause-put : goal.returns-in-None-clause-put
returns-in-None-clause-put g c = λ t content held. (c.in_ok-edits.ensures.loads.bodies t, rw c.in-None.is at (c.in_ok-edits.ensures.offered t content held))
