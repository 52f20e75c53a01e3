-- Edits whose bytes are lent.
use Rattle.std.specs.Prelude.{List, [], ◌∷◌}
use Rattle.aria_page.specs.declared.edit.Edit.{Edit}
use Rattle.aria_page.specs.declared.edit.Edit.TheVariants.{Set, Shift, Whole}
use Rattle.aria_page.specs.declared.change.Change.{Change}
use Rattle.aria_page.specs.declared.change.Change.TheVariants as lent

-- the edit
abbrev pub edit_of : Change → Edit
edit_of (lent.Set at bytes) = Set at bytes.now
edit_of (lent.Shift at len to) = Shift at len to
edit_of (lent.Whole body) = Whole body.now

-- the edits
abbrev pub edits_of : List Change → List Edit
edits_of [] = []
edits_of (e ∷ es) = edit_of e ∷ edits_of es
