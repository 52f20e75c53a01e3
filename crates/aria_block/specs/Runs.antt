-- Free pages one after another under one bitmap page.
use Rattle.std.specs.Prelude.{◌≡◌, ◌≢◌, ℕ, ◌+◌, ◌%◌, ◌<◌, ◌≤◌, ◌⊎◌, Bool, true, false, List, Option, Some, None}
use Rattle.aria_host.specs.declared.file_name.FileName.{FileName}
use Rattle.aria_bitmap.specs.Promise.{IsFreeRun}
use Rattle.aria_cache.specs.PageState.{PageState}
use Rattle.aria_block.specs.declared.layout.TheConstants.{MAP_EVERY}
use Rattle.aria_block.specs.declared.part_kind.PartKind.{PartKind}
use Rattle.aria_block.specs.Pieces.{Pieces}
use Rattle.aria_block.specs.DataFile.{map_of, nth_of}
use Rattle.aria_block.specs.Finding.{NoneBefore}

-- The first of so many pages of the file under this bitmap page that it promises free, or none where it promises no such pages.
abbrev pub FindsRunUnder : ℕ → ℕ → ℕ → List ℕ → Option ℕ → Type 0
FindsRunUnder n count at map (Some page) = (page % MAP_EVERY ≢ 0) × (map_of page ≡ at) × (page + n ≤ count) × IsFreeRun map n (nth_of page)
FindsRunUnder n count at map None = (page : ℕ) → page % MAP_EVERY ≢ 0 → map_of page ≡ at → page + n ≤ count → IsFreeRun map n (nth_of page) → ⊥

-- the bitmap pages before a place promise no such pages of the file
abbrev pub NoRunBefore : ℕ → ℕ → (ℕ → Option (List ℕ)) → ℕ → Type 0
NoRunBefore n count bodies to = (page : ℕ) → page % MAP_EVERY ≢ 0 → map_of page < to → page + n ≤ count → (map : List ℕ) → bodies (map_of page) ≡ Some map → IsFreeRun map n (nth_of page) → ⊥

-- The first of so many pages of the file that their bitmap page promises free, or none where no bitmap page promises such pages.
abbrev pub FindsRun : ℕ → ℕ → (ℕ → Option (List ℕ)) → Option ℕ → Type 0
FindsRun n count bodies (Some page) = (map : List ℕ) → bodies (map_of page) ≡ Some map → IsFreeRun map n (nth_of page)
FindsRun n count bodies None = NoRunBefore n count bodies count

-- whether a bitmap page promises so many pages free, from this number on
abbrev pub TellsFree : ℕ → ℕ → List ℕ → Bool → Type 0
TellsFree n nth map true = IsFreeRun map n nth
TellsFree n nth map false = IsFreeRun map n nth → ⊥

-- so many pages from this one on lie under one bitmap page
pub record IsUnderOne (n page : ℕ) : Type 0 where
  pub plain : page % MAP_EVERY ≢ 0
  pub within : page % MAP_EVERY + n ≤ MAP_EVERY

-- nothing stands on so many pages from this one on
pub record AreFree (n page : ℕ) (pieces : Pieces) : Type 0 where
  pub free : (m slot : ℕ) → page ≤ m → m < page + n → pieces m slot ≡ None

-- The file grew only where no bitmap page promised so many free pages of the file, one after another.
abbrev pub GrowsForRun : ℕ → FileName → PageState → PageState → Type 0
GrowsForRun n file old new = (new.counts file ≡ old.counts file) ⊎ NoRunBefore n (old.counts file) (old.bodies file) (old.counts file)

-- The file grew only where no bitmap page promised room for such a part on a page of the file.
abbrev pub GrowsForPart : PartKind → ℕ → FileName → PageState → PageState → Type 0
GrowsForPart kind len file old new = (new.counts file ≡ old.counts file) ⊎ NoneBefore kind len (old.counts file) (old.bodies file) (old.counts file)
