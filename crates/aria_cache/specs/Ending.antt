-- What ends a group: its last record, and the undo records that are pending then.
use Rattle.std.specs.Prelude.{◌≡◌, ⊤, ℕ, ◌^◌, ◌<◌, ◌≤◌, List, [], ◌∷◌, ◌++◌, length, drop}
use Rattle.aria_page.specs.declared.group.Last.{Last}
use Rattle.aria_page.specs.declared.group.Last.TheVariants.{RowInsert, RowDelete, KeyInsert, KeyDelete, Clr}
use Rattle.aria_page.specs.declared.lsn.Lsn.{Lsn}
use Rattle.aria_record.specs.declared.record.Record.{Record}
use Rattle.aria_record.specs.Groups.{PlacesFit}
use Rattle.aria_record.specs.Writing.{last_record}
use Rattle.aria_cache.specs.PageState.{PageState}

-- the log sequence number of none
abbrev pub no_lsn : Lsn
no_lsn = record { file = 0; offset = 0 }

-- the undo record that is undone next, or none
abbrev pub newest : List Lsn → Lsn
newest [] = no_lsn
newest (l ∷ ls) = l

-- the group that is ended: its edits, and its last record
abbrev pub ended_group : ℕ → Last → PageState → List Record
ended_group slot last s = s.edits ++ last_record (s.name slot) (newest s.pending) last ∷ []

-- what is pending after a group that was ended at this place
abbrev pub pending_after : Lsn → Last → List Lsn → List Lsn
pending_after at (Clr undone next) pending = drop 1 pending
pending_after at _ pending = at ∷ pending

-- numbers and lengths that a group's last record has room for
abbrev pub EndFits : Last → Type 0
EndFits (RowInsert places) = PlacesFit places
EndFits (RowDelete places row) = PlacesFit places × (length row ≤ 65540)
EndFits (KeyInsert key target entry) = (key < 8) × (target < 2 ^ 40) × (length entry ≤ 1000)
EndFits (KeyDelete key target entry) = (key < 8) × (target < 2 ^ 40) × (length entry ≤ 1000)
EndFits (Clr undone next) = ⊤

-- a record that says that one was undone names the newest that is pending, and the one before it
abbrev pub UndoesNewest : Last → List Lsn → Type 0
UndoesNewest (Clr undone next) pending = (1 ≤ length pending) × (undone ≡ newest pending) × (next ≡ newest (drop 1 pending))
UndoesNewest _ pending = ⊤
