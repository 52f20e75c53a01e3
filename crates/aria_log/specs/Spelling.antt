-- Bytes that `append` takes.
use Rattle.std.specs.Prelude.{◌≡◌, ℕ, List}
use Rattle.aria_record.specs.declared.record.Record.{Record}
use Rattle.aria_record.specs.Groups.{IsGroup}
use Rattle.aria_record.specs.Spelled.{group_bytes}

-- the bytes spell one group
abbrev pub IsSpelled : List ℕ → Type 0
IsSpelled bytes = (records : List Record) × IsGroup records × (bytes ≡ group_bytes records)
