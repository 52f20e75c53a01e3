use Rattle.std.proofs.Common.{◌≡◌, drop}
use Rattle.aria_page.specs.Page.{page_body}
use Rattle.aria_page.specs.Edit.{all_edited}
use Rattle.aria_cache.proofs.frames.apply_edits.Given as goal

abbrev pub invariant-loop-edit : goal.invariant-loop-edit
invariant-loop-edit l = all_edited (drop l.edit-index l.edits) (page_body l.page) ≡ all_edited l.edits (page_body l.initial.page)
