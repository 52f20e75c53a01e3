-- What one pass over a record of changes sees of a file.
use Rattle.std.specs.Prelude.{◌==◌, ◌&&◌, if◌then◌else◌, ℕ, ◌+◌, max, min, Bool, Option, None, Some, List, nat_le, unwrap_or, slice_index_or}
use Rattle.std.specs.Option.{option_map}
use Rattle.aria_page.specs.Page.{zero_page}
use Rattle.aria_host.specs.declared.memory.effect.Effect.{Effect}
use Rattle.aria_host.specs.declared.memory.effect.Effect.TheVariants.{Wrote, Cut, Created, Removed, Synced, Set, Told}
use Rattle.aria_host.specs.declared.file_name.FileName.{FileName}
use Rattle.aria_host.specs.Folder.{same_file}

-- the number of the file's pages after a change
abbrev pub count_after : Effect → FileName → Option ℕ → Option ℕ
count_after (Wrote g at page) file count = if same_file g file then option_map (λ n. max n (at + 1)) count else count
count_after (Cut g pages) file count = if same_file g file then option_map (λ n. min pages n) count else count
count_after (Created g) file count = if same_file g file then Some 0 else count
count_after (Removed g) file count = if same_file g file then None else count
count_after (Synced g) file count = count
count_after (Set g at page) file count = if same_file g file then Some (max (unwrap_or count 0) (at + 1)) else count
count_after (Told stream n) file count = count

-- a page of the file after a change, or zeros past the end, where the file was there or wasn't
abbrev pub page_after : Effect → FileName → ℕ → Bool → List ℕ → List ℕ
page_after (Wrote g at page) file n there held = if same_file g file && (there && (at == n)) then page else held
page_after (Cut g pages) file n there held = if same_file g file && nat_le pages n then zero_page else held
page_after (Created g) file n there held = if same_file g file then zero_page else held
page_after (Removed g) file n there held = if same_file g file then zero_page else held
page_after (Synced g) file n there held = held
page_after (Set g at page) file n there held = if same_file g file && (at == n) then page else held
page_after (Told stream k) file n there held = held

-- a page of a file, or zeros past its end and where it isn't there
abbrev pub page_or_zero : ℕ → Option (List (List ℕ)) → List ℕ
page_or_zero n None = zero_page
page_or_zero n (Some pages) = slice_index_or pages n zero_page
