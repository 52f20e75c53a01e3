-- How rows are kept in tables of either format.
use Rattle.std.specs.Prelude.{ℕ, ◌-◌, List, ◌++◌, length, take, drop, Option, Some, None, nat_lt, ◌==◌, if◌then◌else◌}
use Rattle.aria_page.specs.Field.{◌>>=◌}
use Rattle.aria_page.specs.Number.{number, number_of}
use Rattle.aria_page.specs.Crc.{checksum}
use Rattle.aria_value.specs.declared.value.Value.{Value}
use Rattle.aria_value.specs.declared.definition.Definition.{Definition}
use Rattle.aria_value.specs.Stored.{row_bytes}
use Rattle.aria_value.specs.Reading.{read_row}

-- bytes and 4 bytes with their checksum
unfoldable pub with_checksum : List ℕ → List ℕ
with_checksum bytes = bytes ++ number 4 (checksum bytes)

-- what a table of the format keeps of a row: the stored row, in format 2 with its checksum
abbrev pub kept_bytes : ℕ → List Value → List ℕ
kept_bytes format row = if format == 2 then with_checksum (row_bytes row) else row_bytes row

-- what stands before the checksum that the bytes end with; nothing where they don't end with it
unfoldable pub without_checksum : List ℕ → Option (List ℕ)
without_checksum bytes =
    let size = length bytes - 4 in
    if nat_lt (length bytes) 4 then None else if number_of 4 (drop size bytes) == checksum (take size bytes) then Some (take size bytes) else None

-- the stored row in what is kept of it
abbrev pub stored_in : ℕ → List ℕ → Option (List ℕ)
stored_in format bytes = if format == 2 then without_checksum bytes else Some bytes

-- the row of the definition that a table of the format keeps so
unfoldable pub read_kept : Definition → ℕ → List ℕ → Option (List Value)
read_kept d format bytes = do
  stored ← stored_in format bytes
  read_row d stored
