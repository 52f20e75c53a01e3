-- A group of one edit, of one byte.
use Rattle.std.specs.Prelude.{ℕ, List, [], ◌∷◌}
use Rattle.aria_page.specs.declared.edit.Edit.TheVariants.{Set}
use Rattle.aria_page.specs.declared.group.Last.{Last}
use Rattle.aria_page.specs.declared.group.RedoKind.TheVariants.{State}
use Rattle.aria_page.specs.declared.place.Part.{Part}
use Rattle.aria_record.specs.declared.record.Record.{Record}
use Rattle.aria_record.specs.declared.record.Record.TheVariants.{Redo}
use Rattle.aria_cache.specs.PageState.{PageState}
use Rattle.aria_cache.specs.Ending.{newest}
use Rattle.aria_record.specs.Writing.{last_record}

-- the byte, and the record that ends the group
abbrev pub byte_group : PageState → ℕ → Part → ℕ → ℕ → ℕ → Last → List Record
byte_group s slot part page place byte last = Redo State (s.name slot) part page (Set place (byte ∷ []) ∷ []) ∷ last_record (s.name slot) (newest s.pending) last ∷ []
