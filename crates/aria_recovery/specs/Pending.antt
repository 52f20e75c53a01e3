-- Which undo records are pending, and their chain.
use Rattle.std.specs.Prelude.{◌≡◌, ◌==◌, ◌&&◌, not, ℕ, nat_lt, Bool, true, false, Option, None, Some, List, [], ◌∷◌, drop, map, reverse, if◌then◌else◌}
use Rattle.aria_page.specs.Lsn.{lsn_number}
use Rattle.aria_page.specs.declared.lsn.Lsn.{Lsn}
use Rattle.aria_record.specs.declared.record.Record.{Record}
use Rattle.aria_record.specs.declared.record.Record.TheVariants.{Redo, UndoRowInsert, UndoRowDelete, UndoKeyInsert, UndoKeyDelete, ClrEnd, Commit, Checkpoint, CreateTable, DropTable, RepairTable}
use Rattle.aria_record.specs.Logged.{Logged, lsn_at_place}
use Rattle.aria_recovery.specs.declared.link.Link.{Link}
use Rattle.aria_recovery.specs.declared.link.Link.TheVariants.{Undo, Undone, Ends, Loose}

-- what a record is in the chain
abbrev pub link_in : Record → Link
link_in (Redo kind table part page edits) = Loose
link_in (UndoRowInsert table prev places) = Undo prev
link_in (UndoRowDelete table prev places row) = Undo prev
link_in (UndoKeyInsert table prev key target entry) = Undo prev
link_in (UndoKeyDelete table prev key target entry) = Undo prev
link_in (ClrEnd table undone next) = Undone undone next
link_in Commit = Ends
link_in (Checkpoint redo dirty) = Loose
link_in (CreateTable table plain definition format) = Loose
link_in (DropTable table) = Loose
link_in (RepairTable table) = Loose

-- a group is what its last record is
abbrev pub link_of : List Record → Link
link_of [] = Loose
link_of (r ∷ []) = link_in r
link_of (r ∷ s ∷ group) = link_of (s ∷ group)

-- the places of the pending undo records behind a group at that place, newest first
abbrev pub pended : ℕ → Link → List ℕ → List ℕ
pended at (Undo prev) places = at ∷ places
pended at (Undone undone next) places = drop 1 places
pended at Ends places = []
pended at Loose places = places

abbrev pub pending_from : List ℕ → List Logged → List ℕ
pending_from places [] = places
pending_from places (g ∷ gs) = pending_from (pended g.at (link_of g.group) places) gs

-- PENDING
abbrev pub pending_of : List Logged → List ℕ
pending_of gs = pending_from [] gs

-- their log sequence numbers, the oldest first
abbrev pub oldest : List ℕ → List Lsn
oldest places = reverse (map lsn_at_place places)

-- ---- the chain

abbrev pub same_lsn : Lsn → Lsn → Bool
same_lsn a b = (a.file == b.file) && (a.offset == b.offset)

-- the newest of them; (0,0) where there is none
abbrev pub newest : List ℕ → Lsn
newest [] = record { file = 0; offset = 0 }
newest (at ∷ places) = lsn_at_place at

-- The group goes on the chain: an undo record names the newest pending one, and what undoes one names that and the one before.
abbrev pub is_linked : Link → List ℕ → Bool
is_linked (Undo prev) places = same_lsn prev (newest places)
is_linked (Undone undone next) [] = false
is_linked (Undone undone next) (at ∷ places) = same_lsn undone (lsn_at_place at) && same_lsn next (newest places)
is_linked Ends places = true
is_linked Loose places = true

-- the second stands behind the first
abbrev pub is_behind : Lsn → Lsn → Bool
is_behind a b = nat_lt (lsn_number a) (lsn_number b)

-- a group behind that log sequence number
abbrev pub above : Lsn → Logged → Bool
above at g = is_behind at (lsn_at_place g.at)

-- the chain fails at a group behind the checkpoint
abbrev pub fails : Lsn → List ℕ → Logged → Bool
fails checkpoint places g = above checkpoint g && not (is_linked (link_of g.group) places)

abbrev pub unchained_from : Lsn → List ℕ → List Logged → Option ℕ
unchained_from checkpoint places [] = None
unchained_from checkpoint places (g ∷ gs) = if fails checkpoint places g then Some g.at else unchained_from checkpoint (pended g.at (link_of g.group) places) gs

-- the place of the first group at which the chain fails
abbrev pub unchained : Lsn → List Logged → Option ℕ
unchained checkpoint gs = unchained_from checkpoint [] gs

abbrev pub Chained : Lsn → List Logged → Type 0
Chained checkpoint gs = unchained checkpoint gs ≡ None
