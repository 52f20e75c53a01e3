use Rattle.std.proofs.Common.{◌≡◌, ◌∙◌, [], ◌∷◌}
use Rattle.aria_page.specs.declared.place.Part.TheVariants.{Keys}
use Rattle.aria_page.specs.declared.edit.Edit.TheVariants.{Whole}
use Rattle.aria_host.specs.declared.file_name.FileName.{FileName}
use Rattle.aria_cache.specs.PageState.{PageState, with_edits, table_file}
use Rattle.aria_page.specs.Change.{edits_of}
use Rattle.aria_key.specs.Reading.{keys_file}
use Rattle.aria_key.proofs.Holding.{in-two}
use Rattle.aria_key.proofs.divide.divide.Goals as goal

pub returns-clause-divided : goal.returns-clause-divided
returns-clause-divided g c = λ t content held some apart.
    let old : PageState = g.P.Pages.state c.args.pages.now in
    let read : PageState = g.P.Pages.state c.split_of.new.pages in
    let mid : PageState = g.P.Pages.state c.edit_page.new.pages in
    let new : PageState = g.P.Pages.state c.edit_page-2.new.pages in
    let file : FileName = keys_file old c.args.slot in
    let loads = c.in_ok-split.ensures.loads in
    let first : mid.bodies ≡ with_edits (keys_file read c.args.slot) c.args.page (edits_of c.edits.result) read.bodies = (c.in_ok-edit_page.ensures.edits t).bodies in
    let one : mid.bodies ≡ with_edits file c.args.page c.in_ok-split.split.left old.bodies =
    ◌∙◌ {b = with_edits (keys_file read c.args.slot) c.args.page (edits_of c.edits.result) read.bodies} first (λ i. with_edits (table_file (loads.slots.name i c.args.slot) Keys) c.args.page (c.edits.ensures.edits i) (loads.bodies t i)) in
    let names = c.edit_page.ensures.slots.name ∙ loads.slots.name in
    let second : new.bodies ≡ with_edits (keys_file mid c.args.slot) c.args.fresh (Whole c.as_slice.result.now ∷ []) mid.bodies = (c.in_ok-edit_page-2.ensures.edits t).bodies in
    let two : new.bodies ≡ with_edits file c.args.fresh (Whole c.in_ok-split.split.right ∷ []) mid.bodies =
    ◌∙◌ {b = with_edits (keys_file mid c.args.slot) c.args.fresh (Whole c.as_slice.result.now ∷ []) mid.bodies} second (λ i. with_edits (table_file (names i c.args.slot) Keys) c.args.fresh (Whole (c.as_slice.ensures i) ∷ []) mid.bodies) in
    in-two file c.args.page c.args.fresh content content c.in_ok-split.split.left c.in_ok-split.split.right c.in_ok-split.split.between old.bodies mid.bodies new.bodies held (c.in_ok-split.ensures.split t content held) some apart one two
