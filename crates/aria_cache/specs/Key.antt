-- The numbers of pages in memory.
use Rattle.std.specs.Prelude.{ℕ, ◌+◌, ◌*◌, ◌^◌}
use Rattle.aria_page.specs.declared.place.Part.{Part}
use Rattle.aria_page.specs.declared.place.Part.TheVariants.{Keys, Rows}
use Rattle.aria_cache.specs.declared.page_id.PageId.{PageId}

abbrev pub part_key : Part → ℕ
part_key Keys = 0
part_key Rows = 2 ^ 31

-- the number of a page: one to one for pages below 2^31
abbrev pub key_of : PageId → ℕ
key_of at = at.slot * 2 ^ 32 + part_key at.part + at.page
