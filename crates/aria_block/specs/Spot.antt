-- Where one more part goes on a page.
use Rattle.std.specs.Prelude.{◌≡◌, ◌≢◌, ℕ, ◌+◌, ◌*◌, ◌<◌, ◌≤◌, ◌⊎◌, max, true, List, drop, slice_index, Option, Some, None}
use Rattle.aria_page.specs.declared.page.TheConstants.{BODY_BYTES}
use Rattle.aria_page.specs.declared.page_kind.PageKind.TheVariants as page
use Rattle.aria_page.specs.Number.{number_of}
use Rattle.aria_page.specs.PageKind.{kind_byte}
use Rattle.aria_bitmap.specs.Code.{entry, all_used, room}
use Rattle.aria_block.specs.declared.layout.TheConstants.{PARTS_AT, ENTRY_BYTES, MAX_ENTRIES}
use Rattle.aria_block.specs.declared.spot.Space.{Space}
use Rattle.aria_block.specs.declared.spot.Spot.{Spot}
use Rattle.aria_block.specs.declared.part_kind.PartKind.{PartKind}
use Rattle.aria_block.specs.PartPage.{part_byte}

-- a free page, or one of such parts, with so many directory entries and its parts up to an end
abbrev pub Begins : PartKind → List ℕ → ℕ → ℕ → Type 0
Begins kind body entries end =
    ((slice_index body 0 ≡ kind_byte page.FreeData) × (entries ≡ 0) × (end ≡ PARTS_AT))
    ⊎ ((slice_index body 0 ≡ part_byte kind) × (entries ≡ slice_index body 1) × (end ≡ number_of 2 (drop 2 body)))

-- neither
abbrev pub IsOther : PartKind → List ℕ → Type 0
IsOther kind body = (slice_index body 0 ≢ kind_byte page.FreeData) × (slice_index body 0 ≢ part_byte kind)

-- the lowest slot without a part: one of the directory, or else the next
pub record IsLowest (body : List ℕ) (entries slot : ℕ) : Type 0 where
  pub within : slot ≤ entries
  pub unused : slot < entries → entry body slot ≡ 0
  pub below : all_used body slot ≡ true

-- A part of so many bytes may go there.
pub record IsSpot (kind : PartKind) (len : ℕ) (body : List ℕ) (s : Spot) : Type 0 where
  pub begins : Begins kind body s.before s.end
  pub unused : s.slot < s.before → entry body s.slot ≡ 0
  pub entries : s.entries ≡ max s.before (s.slot + 1)
  pub few : s.entries ≤ MAX_ENTRIES
  pub room : s.end + len + ENTRY_BYTES * s.entries ≤ BODY_BYTES

-- such a slot, where there is room
abbrev pub FindsSpot : PartKind → ℕ → List ℕ → Option Spot → Type 0
FindsSpot kind len body (Some s) = IsSpot kind len body s × IsLowest body s.before s.slot
FindsSpot kind len body None = (slice_index body 0 ≡ kind_byte page.FreeData → BODY_BYTES < PARTS_AT + len + ENTRY_BYTES) × (slice_index body 0 ≡ part_byte kind → 1 ≤ len → room body < len)

-- that slot, where a part may go there
abbrev pub SpotAt : PartKind → ℕ → ℕ → List ℕ → Option Spot → Type 0
SpotAt kind slot len body (Some s) = IsSpot kind len body s × (s.slot ≡ slot)
SpotAt kind slot len body None = (s : Spot) → s.slot ≡ slot → IsSpot kind len body s → ⊥

-- a slot in such a space, if it fits
abbrev pub Fits : Space → ℕ → ℕ → Option Spot → Type 0
Fits space slot len (Some s) =
    (s ≡ record { slot = slot; before = space.entries; entries = max space.entries (slot + 1); end = space.end })
    × (max space.entries (slot + 1) ≤ MAX_ENTRIES) × (space.end + len + ENTRY_BYTES * max space.entries (slot + 1) ≤ BODY_BYTES)
Fits space slot len None = MAX_ENTRIES < slot + 1 ⊎ BODY_BYTES < space.end + len + ENTRY_BYTES * max space.entries (slot + 1)

-- the space of a page that is free or has such parts
abbrev pub IsSpace : PartKind → List ℕ → Option Space → Type 0
IsSpace kind body (Some s) = Begins kind body s.entries s.end
IsSpace kind body None = IsOther kind body

-- That slot or, where none is given, the lowest one.
abbrev pub SpotFor : PartKind → Option ℕ → ℕ → List ℕ → Option Spot → Type 0
SpotFor kind None len body o = FindsSpot kind len body o
SpotFor kind (Some slot) len body o = SpotAt kind slot len body o
