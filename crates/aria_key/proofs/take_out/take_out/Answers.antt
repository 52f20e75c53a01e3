use Rattle.std.proofs.Common.{◌≡◌, ◌∙◌}
use Rattle.std.proofs.lemmas.Result.{err_from_is_err_and}
use Rattle.aria_host.specs.declared.file_name.FileName.{FileName}
use Rattle.aria_page.specs.declared.place.Part.TheVariants.{Keys}
use Rattle.aria_page.specs.Change.{edits_of}
use Rattle.aria_cache.specs.PageState.{PageState, with_edits, table_file}
use Rattle.aria_cache.specs.Causes.{OfPage}
use Rattle.aria_keypage.specs.Change.{without_item}
use Rattle.aria_key.specs.Merging.{HasItem}
use Rattle.aria_key.specs.Reading.{keys_file, OfKeyPage}
use Rattle.aria_key.proofs.Holding.{rewritten}
use Rattle.aria_key.proofs.Reading.{reads_one, cause_then}
use Rattle.aria_key.proofs.Finding.{edit_cause}
use Rattle.aria_key.proofs.take_out.take_out.Goals as goal

pub returns-in_err-edit_page-clause-cause : goal.returns-in_err-edit_page-clause-cause
returns-in_err-edit_page-clause-cause g c =
    let tells = g.P.Pages.tells in
    let logged = g.P.Pages.logged in
    let old : PageState = g.P.Pages.state c.args.pages.now in
    let now : PageState = g.P.Pages.state c.removal.new.pages in
    let new : PageState = g.P.Pages.state c.edit_page.new.pages in
    let asked = HasItem c.args.kind c.args.at in
    let e = c.in_ok-edits.ensures in
    let reads = reads_one tells 1 (OfKeyPage tells logged asked (keys_file old c.args.slot) c.args.page old now) old now e.loads e.answers e.cause in
    let p = err_from_is_err_and c.from_residual-in_err-edit_page.result c.from_residual-in_err-edit_page.ensures.1 in
    rw (p.1, p.2) (cause_then tells 1 (OfPage tells logged (keys_file now c.args.slot) c.args.page now new) (OfKeyPage tells logged asked (keys_file old c.args.slot) c.args.page old new) old now new _ reads (edit_cause tells logged asked c.args.slot 1 c.args.page old now new reads) c.in_err-edit_page.ensures.cause)

pub returns-clause-taken : goal.returns-clause-taken
returns-clause-taken g c = λ t content held kind within.
    let old : PageState = g.P.Pages.state c.args.pages.now in
    let mid : PageState = g.P.Pages.state c.removal.new.pages in
    let new : PageState = g.P.Pages.state c.edit_page.new.pages in
    let file : FileName = keys_file old c.args.slot in
    let loads = c.in_ok-edits.ensures.loads in
    let made = rewritten file c.args.page c.in_ok-edits.edits old.bodies content (without_item content c.args.at) held (c.in_ok-edits.ensures.removal t content held kind within) in
    let edited : new.bodies ≡ with_edits (keys_file mid c.args.slot) c.args.page (edits_of c.edits-2.result) mid.bodies = (c.in_ok-edit_page.ensures.edits t).bodies in
    let now : new.bodies ≡ with_edits file c.args.page c.in_ok-edits.edits old.bodies =
    ◌∙◌ {b = with_edits (keys_file mid c.args.slot) c.args.page (edits_of c.edits-2.result) mid.bodies} edited (λ i. with_edits (table_file (loads.slots.name i c.args.slot) Keys) c.args.page (c.edits-2.ensures.edits i) (loads.bodies t i)) in
    rw now made
