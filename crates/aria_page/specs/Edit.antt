-- Edits of a page's body.
use Rattle.std.specs.Prelude.{◌≡◌, ℕ, ◌+◌, ◌≤◌, List, [], ◌∷◌, length, take, drop}
use Rattle.aria_page.specs.declared.edit.Edit.{Edit}
use Rattle.aria_page.specs.declared.edit.Edit.TheVariants.{Set, Shift, Whole}
use Rattle.aria_page.specs.declared.page.TheConstants.{BODY_BYTES}
use Rattle.aria_page.specs.Page.{with_bytes}

-- the edit stays within a body
abbrev pub IsWithin : Edit → Type 0
IsWithin (Set at bytes) = at + length bytes ≤ BODY_BYTES
IsWithin (Shift at len to) = (at + len ≤ BODY_BYTES) × (to + len ≤ BODY_BYTES)
IsWithin (Whole body) = length body ≡ BODY_BYTES

-- how many bytes the edit brings
abbrev pub edit_bytes : Edit → ℕ
edit_bytes (Set at bytes) = length bytes
edit_bytes (Shift at len to) = 0
edit_bytes (Whole body) = length body

-- the body after the edit
unfoldable pub edited : Edit → List ℕ → List ℕ
edited (Set at bytes) body = with_bytes at bytes body
edited (Shift at len to) body = with_bytes to (take len (drop at body)) body
edited (Whole new) body = new

-- the body after these edits, one after another
abbrev pub all_edited : List Edit → List ℕ → List ℕ
all_edited [] body = body
all_edited (e ∷ es) body = all_edited es (edited e body)
