-- Groups of edits, as what they make of all pages.
use Rattle.std.proofs.Common.{◌≡◌, ◌∙◌, ℕ, List, [], ◌∷◌, ◌++◌, refl, sym}
use Rattle.aria_page.specs.declared.group.Last.{Last}
use Rattle.aria_page.specs.declared.group.Last.TheVariants.{RowInsert, RowDelete, KeyInsert, KeyDelete, Clr}
use Rattle.aria_page.specs.declared.lsn.Lsn.{Lsn}
use Rattle.aria_record.specs.Logged.{Logged}
use Rattle.aria_cache.specs.PageState.{PageState, Bodies, record_applied, edits_applied, applied}
use Rattle.aria_cache.specs.Ending.{ended_group, newest}
use Rattle.aria_record.specs.Writing.{last_record}
use Rattle.aria_cache.proofs.Growing.{edits_applied-append}

-- groups that come behind others are applied last
pub applied-append : (gs hs : List Logged) (start : Bodies) → applied (gs ++ hs) start ≡ applied hs (applied gs start)
applied-append [] hs start = refl
applied-append (g ∷ gs) hs start = applied-append gs hs (edits_applied g.group start)

-- the record that ends a group changes no page
pub last_applied : (table : List ℕ) (prev : Lsn) (last : Last) (bodies : Bodies) → record_applied (last_record table prev last) bodies ≡ bodies
last_applied table prev (RowInsert places) bodies = refl
last_applied table prev (RowDelete places row) bodies = refl
last_applied table prev (KeyInsert key target entry) bodies = refl
last_applied table prev (KeyDelete key target entry) bodies = refl
last_applied table prev (Clr undone next) bodies = refl

-- what the open group's edits make of the pages, the ended group does
pub ended_applied : (slot : ℕ) (last : Last) (s : PageState) (at : ℕ) (start : Bodies) → s.bodies ≡ edits_applied s.edits start → s.bodies ≡ applied (record { at = at; group = ended_group slot last s } ∷ []) start
ended_applied slot last s at start is = is ∙ sym (edits_applied-append s.edits (last_record (s.name slot) (newest s.pending) last ∷ []) start ∙ last_applied (s.name slot) (newest s.pending) last (edits_applied s.edits start))
