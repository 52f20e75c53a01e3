-- A folder: the pages of each file that is there.
use Rattle.std.specs.Prelude.{◌==◌, if◌then◌else◌, ℕ, ◌+◌, ◌-◌, ◌^◌, ◌<◌, ⊤, Bool, true, false, nat_lt, Option, List, ◌∷◌, ◌++◌, length, take, drop, replicate, slice_get, option_and_then}
use Rattle.std.specs.Option.{option_map, option_map_or}
use Rattle.std.specs.Cmp.Lexicographic.{pointwise}
use Rattle.aria_page.specs.Page.{zero_page}
use Rattle.aria_host.specs.declared.file_name.FileName.{FileName}
use Rattle.aria_host.specs.declared.file_name.FileName.TheVariants.{Control, Log, Keys, Rows, NewKeys, NewRows}

-- the pages of each file that is there
abbrev pub Folder : Type 0
Folder = FileName → Option (List (List ℕ))

-- the number of a log file has three bytes
abbrev pub IsFileName : FileName → Type 0
IsFileName (Log number) = number < 2 ^ 24
IsFileName _ = ⊤

-- the same, as a test
abbrev pub is_form : FileName → Bool
is_form (Log number) = nat_lt number (2 ^ 24)
is_form _ = true

-- it is a file of the log
abbrev pub is_log : FileName → Bool
is_log (Log number) = true
is_log _ = false

-- the two names are the same
abbrev pub same_file : FileName → FileName → Bool
same_file Control Control = true
same_file (Log m) (Log n) = m == n
same_file (Keys a) (Keys b) = pointwise ◌==◌ a b
same_file (Rows a) (Rows b) = pointwise ◌==◌ a b
same_file (NewKeys a) (NewKeys b) = pointwise ◌==◌ a b
same_file (NewRows a) (NewRows b) = pointwise ◌==◌ a b
same_file _ _ = false

-- the pages with this one at that place; those between the end and it are zeros
unfoldable pub put_page : ℕ → List ℕ → List (List ℕ) → List (List ℕ)
put_page at page pages = take at pages ++ (replicate (at - length pages) zero_page ++ page ∷ drop (at + 1) pages)

-- the folder with that file as said, and all others as they are
abbrev pub with_file : FileName → Option (List (List ℕ)) → Folder → Folder
with_file file content folder = λ f. if same_file file f then content else folder f

-- the folder with that page of a file, if the file is there
abbrev pub with_page : FileName → ℕ → List ℕ → Folder → Folder
with_page file at page folder = with_file file (option_map (put_page at page) (folder file)) folder

-- the folder with the first pages of a file alone, if the file is there
abbrev pub with_cut : FileName → ℕ → Folder → Folder
with_cut file pages folder = with_file file (option_map (take pages) (folder file)) folder

-- how many pages a file has
abbrev pub page_count : FileName → Folder → ℕ
page_count file folder = option_map_or length (folder file) 0

-- a page of a file
abbrev pub page_at : FileName → ℕ → Folder → Option (List ℕ)
page_at file at folder = option_and_then (λ pages. slice_get pages at) (folder file)
