-- A file in memory: what its pages hold.
use Rattle.std.specs.Prelude.{◌≡◌, ◌==◌, ◌&&◌, if◌then◌else◌, ℕ, ◌+◌, ◌-◌, ◌%◌, max, nat_eq, nat_lt, Bool, false, List, ◌∷◌, replicate, Option, None, Some, unwrap_or}
use Rattle.std.specs.Option.{option_map, option_map_or}
use Rattle.std.specs.HashMap.{get}
use Rattle.aria_page.specs.declared.edit.Edit.{Edit}
use Rattle.aria_page.specs.declared.page.TheConstants.{BODY_BYTES}
use Rattle.aria_page.specs.declared.page_kind.PageKind.TheVariants.{Bitmap}
use Rattle.aria_page.specs.declared.place.Part.{Part}
use Rattle.aria_page.specs.declared.place.Part.TheVariants.{Keys, Rows}
use Rattle.aria_page.specs.Edit.{all_edited}
use Rattle.aria_page.specs.Page.{zero_page, page_body}
use Rattle.aria_page.specs.PageKind.{kind_byte}
use Rattle.aria_cache.specs.declared.mem_file.TheConstants.{MAP_EVERY}
use Rattle.aria_cache.specs.declared.mem_file.MemFile.{MemFile}

-- the body of zeros
abbrev pub zero_body : List ℕ
zero_body = page_body zero_page

-- the body of a bitmap page that has no pattern yet
unfoldable pub bitmap_body : List ℕ
bitmap_body = kind_byte Bitmap ∷ replicate (BODY_BYTES - 1) 0

-- the page is a bitmap page
abbrev pub is_map : Part → ℕ → Bool
is_map Keys number = false
is_map Rows number = number % MAP_EVERY == 0

-- a page that was never edited, of a file that was set to so many pages
abbrev pub blank_body : Part → ℕ → ℕ → List ℕ
blank_body part set number = if is_map part number && nat_lt number set then bitmap_body else zero_body

-- a page that was edited
abbrev pub kept_body : MemFile → ℕ → Option (List ℕ)
kept_body file number = option_map (λ b. page_body b.value) (get nat_eq file.pages number)

-- the page of a file that is there or not
abbrev pub file_body : Part → Option MemFile → ℕ → List ℕ
file_body part None number = zero_body
file_body part (Some file) number = unwrap_or (kept_body file number) (blank_body part file.set number)

-- how many pages it has
abbrev pub file_count : Option MemFile → ℕ
file_count file = option_map_or (λ (f : MemFile). f.count) file 0

-- a page is edited
pub record EditsFile (part : Part) (number : ℕ) (edits : List Edit) (old new : MemFile) : Type 0 where
  pub bodies : (q : ℕ) → file_body part (Some new) q ≡ (if number == q then all_edited edits (file_body part (Some old) q) else file_body part (Some old) q)
  pub count : new.count ≡ max old.count (number + 1)

-- nothing is
pub record SameFile (old new : MemFile) : Type 0 where
  pub set : new.set ≡ old.set
  pub count : new.count ≡ old.count
  pub pages : (q : ℕ) → kept_body new q ≡ kept_body old q
