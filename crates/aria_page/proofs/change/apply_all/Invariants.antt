use Rattle.std.proofs.Common.{◌≡◌, drop}
use Rattle.aria_page.specs.Page.{page_body}
use Rattle.aria_page.specs.Change.{edits_of}
use Rattle.aria_page.specs.Edit.{all_edited}
use Rattle.aria_page.proofs.change.apply_all.Given as goal

abbrev pub invariant-loop-edit : goal.invariant-loop-edit
invariant-loop-edit l = all_edited (edits_of (drop l.edit-index l.edits)) (page_body l.page) ≡ all_edited (edits_of l.edits) (page_body l.initial.page)
