use Rattle.std.proofs.Common.{◌≡◌, ◌∙◌, [], ◌∷◌}
use Rattle.aria_page.specs.declared.place.Part.TheVariants.{Keys}
use Rattle.aria_page.specs.declared.edit.Edit.TheVariants.{Whole}
use Rattle.aria_page.specs.Change.{edits_of}
use Rattle.aria_host.specs.declared.file_name.FileName.{FileName}
use Rattle.aria_cache.specs.PageState.{PageState, with_edits, table_file}
use Rattle.aria_key.specs.Reading.{keys_file}
use Rattle.aria_key.proofs.Holding.{in-two}
use Rattle.aria_key.proofs.merging.write_split.Goals as goal

pub returns-clause-written : goal.returns-clause-written
returns-clause-written g c = λ t content all held split some apart.
    let old : PageState = g.P.Pages.state c.args.pages.now in
    let mid : PageState = g.P.Pages.state c.edit_page.new.pages in
    let new : PageState = g.P.Pages.state c.edit_page-2.new.pages in
    let file : FileName = keys_file old c.args.slot in
    let first : mid.bodies ≡ with_edits file c.args.left (edits_of c.edits-2.result) old.bodies = (c.in_ok-edit_page.ensures.edits t).bodies in
    let one : mid.bodies ≡ with_edits file c.args.left c.args.split.left old.bodies =
    ◌∙◌ {b = with_edits file c.args.left (edits_of c.edits-2.result) old.bodies} first (λ i. with_edits file c.args.left (c.edits-2.ensures.edits i) old.bodies) in
    let names = c.edit_page.ensures.slots.name in
    let second : new.bodies ≡ with_edits (keys_file mid c.args.slot) c.args.right (Whole c.as_slice.result.now ∷ []) mid.bodies = (c.in_ok-edit_page-2.ensures.edits t).bodies in
    let two : new.bodies ≡ with_edits file c.args.right (Whole c.args.split.right ∷ []) mid.bodies =
    ◌∙◌ {b = with_edits (keys_file mid c.args.slot) c.args.right (Whole c.as_slice.result.now ∷ []) mid.bodies} second (λ i. with_edits (table_file (names i c.args.slot) Keys) c.args.right (Whole (c.as_slice.ensures i) ∷ []) mid.bodies) in
    in-two file c.args.left c.args.right content all c.args.split.left c.args.split.right c.args.split.between old.bodies mid.bodies new.bodies held split some apart one two
