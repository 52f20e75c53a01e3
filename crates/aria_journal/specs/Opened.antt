-- What the opening of a log finds.
use Rattle.std.specs.Prelude.{◌≡◌, Some, map}
use Rattle.aria_host.specs.Folder.{Folder}
use Rattle.aria_journal.specs.declared.opened.Frame.{Frame}
use Rattle.aria_journal.specs.declared.opened.Opened.{Opened}
use Rattle.aria_journal.specs.declared.opened.Opened.TheVariants.{Sound, Damaged}
use Rattle.aria_journal.specs.Front.{damaged_at}
use Rattle.aria_journal.specs.Places.{frame_pages_of}
use Rattle.aria_journal.specs.Log.{IsOpened, log_pages, log_of}

-- the log of the folder, with its frames and the pages in which they begin, where it isn't damaged, and else the page at
-- which it is
abbrev pub Finds : Opened → Folder → Type 0
Finds (Sound log frames) folder =
    IsOpened log folder × (map (λ (f : Frame). f.bytes) frames ≡ log_of folder) × (map (λ (f : Frame). f.page) frames ≡ frame_pages_of (log_pages folder))
Finds (Damaged page) folder = damaged_at (log_pages folder) ≡ Some page
