use Rattle.std.proofs.Common.{◌≡◌, ◌∙◌}
use Rattle.aria_page.specs.declared.place.Part.TheVariants.{Keys}
use Rattle.aria_page.specs.Change.{edits_of}
use Rattle.aria_host.specs.declared.file_name.FileName.{FileName}
use Rattle.aria_cache.specs.PageState.{PageState, with_edits, table_file}
use Rattle.aria_keypage.specs.Merge.{joined}
use Rattle.aria_key.specs.Reading.{keys_file}
use Rattle.aria_key.proofs.Holding.{rewritten}
use Rattle.aria_key.proofs.Sparing.{held_then, some_then}
use Rattle.aria_key.proofs.Merged.{held-some, divided-then}
use Rattle.aria_key.proofs.merging.merge.Goals as goal

pub returns-in_ok-edit_page-in-Join-clause-merged : goal.returns-in_ok-edit_page-in-Join-clause-merged
returns-in_ok-edit_page-in-Join-clause-merged g c = λ t content other held beside kind thin apart.
    let old : PageState = g.P.Pages.state c.args.pages.now in
    let mid : PageState = g.P.Pages.state c.merger_at.new.pages in
    let new : PageState = g.P.Pages.state c.edit_page.new.pages in
    let file : FileName = keys_file old c.args.slot in
    let loads = c.in_ok-edits.ensures.loads in
    let is = rw c.in-Join.is at (c.in_ok-edits.ensures.merger t content other held beside kind thin) in
    let made = rewritten file c.args.left c.in-Join.edits old.bodies content (joined content c.args.between.now other) held is.0 in
    let edited : new.bodies ≡ with_edits (keys_file mid c.args.slot) c.args.left (edits_of c.edits-in-Join.result) mid.bodies = (c.in_ok-edit_page-in-Join.ensures.edits t).bodies in
    let now : new.bodies ≡ with_edits file c.args.left c.in-Join.edits old.bodies =
    ◌∙◌ {b = with_edits (keys_file mid c.args.slot) c.args.left (edits_of c.edits-in-Join.result) mid.bodies} edited (λ i. with_edits (table_file (loads.slots.name i c.args.slot) Keys) c.args.left (c.edits-in-Join.ensures.edits i) (loads.bodies t i)) in
    (rw now made, is.1)

pub returns-in_ok-entry-in-Share-clause-merged : goal.returns-in_ok-entry-in-Share-clause-merged
returns-in_ok-entry-in-Share-clause-merged g c = λ t content other held beside kind thin apart.
    let old : PageState = g.P.Pages.state c.args.pages.now in
    let mid : PageState = g.P.Pages.state c.merger_at.new.pages in
    let new : PageState = g.P.Pages.state c.write_split.new.pages in
    let file : FileName = keys_file old c.args.slot in
    let then_file : FileName = keys_file mid c.args.slot in
    let loads = c.in_ok-edits.ensures.loads in
    let same : then_file ≡ file = λ i. table_file (loads.slots.name i c.args.slot) Keys in
    let is = rw c.in-Share.is at (c.in_ok-edits.ensures.merger t content other held beside kind thin) in
    let written = c.in_ok-entry-in-Share.ensures.written t content (joined content c.args.between.now other) (held_then file then_file c.args.left content old.bodies mid.bodies same (loads.bodies t) held) is.0
    (some_then file then_file c.args.right old.bodies mid.bodies same (loads.bodies t) (held-some (old.bodies file) c.args.right other beside)) apart in
    (divided-then file then_file c.args.left c.args.right (joined content c.args.between.now other) c.in_ok-entry-in-Share.entry old.bodies mid.bodies new.bodies same (loads.bodies t) written, is.1)
