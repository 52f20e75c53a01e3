-- The page of the control file: its checksum, the magic, two log sequence numbers, and zeros.
use Rattle.std.specs.Prelude.{◌≡◌, ℕ, List, ◌++◌, ◌+◌, ◌-◌, take, drop, replicate, codes}
use Rattle.aria_page.specs.declared.lsn.TheConstants.{LSN_BYTES}
use Rattle.aria_page.specs.declared.page.TheConstants.{PAGE_BYTES}
use Rattle.aria_page.specs.Lsn.{IsLsn, lsn_bytes, lsn_of}
use Rattle.aria_page.specs.Page.{with_sum}
use Rattle.aria_control.specs.declared.control.Control.{Control}
use Rattle.aria_control.specs.declared.control.TheConstants.{MAGIC_AT, MAGIC_BYTES, CHECKPOINT_AT, REDO_AT}

-- the bytes that this program's files have
unfoldable pub magic : List ℕ
magic = codes "ARIAOWN1"

-- what stands behind the checksum
unfoldable pub control_bytes : Control → List ℕ
control_bytes control = magic ++ (lsn_bytes control.checkpoint ++ (lsn_bytes control.redo ++ replicate (PAGE_BYTES - (REDO_AT + LSN_BYTES)) 0))

-- the page that names these two
unfoldable pub control_page : Control → List ℕ
control_page control = with_sum (control_bytes control)

-- the two that a page names
unfoldable pub named_by : List ℕ → Control
named_by page = record { checkpoint = lsn_of (drop CHECKPOINT_AT page); redo = lsn_of (drop REDO_AT page) }

-- the magic stands in its place
unfoldable pub HasMagic : List ℕ → Type 0
HasMagic page = take MAGIC_BYTES (drop MAGIC_AT page) ≡ magic

-- both can be stored
pub record IsStorable (control : Control) : Type 0 where
  pub checkpoint : IsLsn control.checkpoint
  pub redo : IsLsn control.redo
