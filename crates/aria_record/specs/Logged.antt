-- Groups in the log, by their places.
use Rattle.std.specs.Prelude.{ℕ, ◌+◌, ◌*◌, ◌/◌, ◌%◌, List}
use Rattle.aria_page.specs.declared.lsn.Lsn.{Lsn}
use Rattle.aria_record.specs.declared.record.Record.{Record}

-- A place in the log, in bytes of pages' bodies: byte b of the body of page n has place 8176 * n + b. A group has one
-- place, that of its first byte; a multiple of 8176 is the first byte of a page.
-- the log sequence number of a place
abbrev pub lsn_at_place : ℕ → Lsn
lsn_at_place place = record { file = place / 8176 / 1024; offset = 8192 * (place / 8176 % 1024) + 16 + place % 8176 }

-- a group of the log and its place
pub record Logged : Type 0 where
  pub at : ℕ
  pub group : List Record
