-- What the groups of the log make of a page of a table's file.
use Rattle.std.specs.Prelude.{◌==◌, ◌&&◌, ◌||◌, if◌then◌else◌, ℕ, ◌+◌, ◌≤◌, max, Bool, true, false, nat_eq, nat_lt, Option, None, Some, List, [], ◌∷◌, ◌++◌, drop}
use Rattle.std.specs.Option.{option_map, option_map_or}
use Rattle.std.specs.Cmp.Lexicographic.{pointwise}
use Rattle.aria_page.specs.Page.{zero_page, page_body, page_lsn}
use Rattle.aria_page.specs.Number.{number_of}
use Rattle.aria_page.specs.Crc.{checksum}
use Rattle.aria_page.specs.Lsn.{lsn_number}
use Rattle.aria_page.specs.Edit.{all_edited}
use Rattle.aria_page.specs.declared.edit.Edit.{Edit}
use Rattle.aria_page.specs.declared.place.Part.{Part}
use Rattle.aria_page.specs.declared.place.Part.TheVariants.{Keys, Rows}
use Rattle.aria_value.specs.Named.{same_name}
use Rattle.aria_host.specs.Seen.{page_or_zero}
use Rattle.aria_record.specs.declared.record.Record.{Record}
use Rattle.aria_record.specs.declared.record.Record.TheVariants.{Redo}
use Rattle.aria_record.specs.Logged.{Logged, lsn_at_place}

-- the number of the log sequence number of a group at that place
abbrev pub number_at : ℕ → ℕ
number_at place = lsn_number (lsn_at_place place)

-- the groups stand one behind another, from a place on
abbrev pub Rises : ℕ → List Logged → Type 0
Rises low [] = Unit {0}
Rises low (g ∷ gs) = (low ≤ g.at) × Rises (g.at + 1) gs

-- a page as redo sees it: the number of its log sequence number and its body; nothing where it isn't sound
abbrev pub Seen : Type 0
Seen = Option (ℕ × List ℕ)

-- the pages of a file, if it is there
abbrev pub Content : Type 0
Content = Option (List (List ℕ))

-- the checksum fits, or all bytes are zero
unfoldable pub is_sound : List ℕ → Bool
is_sound page = (number_of 4 page == checksum (drop 4 page)) || pointwise ◌==◌ page zero_page

-- the number of the log sequence number that a page bears
unfoldable pub page_number : List ℕ → ℕ
page_number page = lsn_number (page_lsn page)

abbrev pub seen : List ℕ → Seen
seen page = if is_sound page then Some (page_number page, page_body page) else None

-- the page of that number, or zeros past the end
abbrev pub page_seen : List (List ℕ) → ℕ → Seen
page_seen pages n = seen (page_or_zero n (Some pages))

abbrev pub body_of : Seen → Option (List ℕ)
body_of x = option_map (λ s. s.1) x

-- ---- the edits of a group

abbrev pub same_part : Part → Part → Bool
same_part Keys Keys = true
same_part Rows Rows = true
same_part _ _ = false

-- the edits of a record on the pages of a file: the page's number, and the edits
abbrev pub edits_in : List ℕ → Part → Record → Option (ℕ × List Edit)
edits_in name part (Redo kind table p page edits) = if same_name name table && same_part part p then Some (page, edits) else None
edits_in name part _ = None

-- those on one page
abbrev pub edits_at : ℕ → Option (ℕ × List Edit) → List Edit
edits_at n None = []
edits_at n (Some e) = if nat_eq n e.0 then e.1 else []

-- the edits of these records on one page, in their order
abbrev pub edits_on : List ℕ → Part → ℕ → List Record → List Edit
edits_on name part n [] = []
edits_on name part n (r ∷ rs) = edits_at n (edits_in name part r) ++ edits_on name part n rs

abbrev pub is_some_edit : List Edit → Bool
is_some_edit [] = false
is_some_edit (e ∷ es) = true

-- the records edit the page
abbrev pub touches : List ℕ → Part → ℕ → List Record → Bool
touches name part n records = is_some_edit (edits_on name part n records)

-- one more than the highest page of the file that is edited
abbrev pub reach_in : Option (ℕ × List Edit) → ℕ
reach_in None = 0
reach_in (Some e) = e.0 + 1

abbrev pub reach_on : List ℕ → Part → List Record → ℕ
reach_on name part [] = 0
reach_on name part (r ∷ rs) = max (reach_in (edits_in name part r)) (reach_on name part rs)

abbrev pub reach : List ℕ → Part → List Logged → ℕ
reach name part [] = 0
reach name part (g ∷ gs) = max (reach_on name part g.group) (reach name part gs)

-- ---- redo

-- the page after a group's edits: only where the group edits it and stands behind the page's log sequence number
abbrev pub stepped : ℕ → List Edit → Seen → Seen
stepped at [] x = x
stepped at (e ∷ es) x = option_map (λ s. if nat_lt s.0 at then (at, all_edited (e ∷ es) s.1) else s) x

abbrev pub redo : List ℕ → Part → ℕ → List Logged → Seen → Seen
redo name part n [] x = x
redo name part n (g ∷ gs) x = redo name part n gs (stepped (number_at g.at) (edits_on name part n g.group) x)

-- ---- a group that isn't appended yet, or that redo is at

-- the page stands before that number; one that isn't sound doesn't
abbrev pub is_before : ℕ → Seen → Bool
is_before at x = option_map_or (λ s. nat_lt s.0 at) x false

-- a page that stands before that number, with edits on top that don't show in its log sequence number yet
abbrev pub topped : ℕ → List Edit → Seen → Seen
topped at es x = option_map (λ s. if nat_lt s.0 at then (s.0, all_edited es s.1) else s) x

-- what the records of an open group make of a page's body
abbrev pub over : List ℕ → Part → ℕ → List Record → List ℕ → List ℕ
over name part n records body = all_edited (edits_on name part n records) body

-- a body after these groups' edits, one after another, whatever the page's log sequence number
abbrev pub all_over : List ℕ → Part → ℕ → List Logged → List ℕ → List ℕ
all_over name part n [] body = body
all_over name part n (g ∷ gs) body = all_over name part n gs (over name part n g.group body)
