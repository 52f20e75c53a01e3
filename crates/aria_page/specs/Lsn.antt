-- Log sequence numbers: how they are stored, and their order.
use Rattle.std.specs.Prelude.{◌≡◌, ℕ, ◌+◌, ◌*◌, ◌<◌, ◌^◌, ◌⊎◌, false, List, ◌++◌, drop, Option, Some, codes, decimal}
use Rattle.std.specs.Fmt.{digits}
use Rattle.aria_page.specs.declared.lsn.Lsn.{Lsn}
use Rattle.aria_page.specs.Field.{◌>>=◌}
use Rattle.aria_page.specs.Number.{number, number_of, number_at}

-- what can be stored: a file number of 3 bytes and an offset of 4
pub record IsLsn (l : Lsn) : Type 0 where
  pub file : l.file < 2 ^ 24
  pub offset : l.offset < 2 ^ 32

-- 3 bytes of file number, and 4 bytes of offset
unfoldable pub lsn_bytes : Lsn → List ℕ
lsn_bytes l = number 3 l.file ++ number 4 l.offset

-- the one in the first 7 bytes
unfoldable pub lsn_of : List ℕ → Lsn
lsn_of bytes = record { file = number_of 3 bytes; offset = number_of 4 (drop 3 bytes) }

-- a log sequence number and the bytes after it; nothing where the bytes run out
unfoldable pub lsn_at : List ℕ → Option (Lsn × List ℕ)
lsn_at bytes = do
  file ← number_at 3 bytes
  offset ← number_at 4 file.1
  Some (record { file = file.0; offset = offset.0 }, offset.1)

-- a stands before b in the log: in an earlier file, or in the same file at an earlier byte
abbrev pub IsBefore : Lsn → Lsn → Type 0
IsBefore a b = (a.file < b.file) ⊎ ((a.file ≡ b.file) × (a.offset < b.offset))

-- its 7 bytes as one number: it grows as they are ordered
abbrev pub lsn_number : Lsn → ℕ
lsn_number l = l.file * 2 ^ 32 + l.offset

-- how it is printed: the file's number in decimal, and the offset in hexadecimal digits of lower case
abbrev pub lsn_text : Lsn → List ℕ
lsn_text l = codes "(" ++ (decimal l.file ++ (codes ",0x" ++ (digits 16 false l.offset ++ codes ")")))
