-- The world that tables in memory are.
use Rattle.std.specs.Prelude.{false}
use Rattle.std.specs.Option.{option_map}
use Rattle.std.specs.BTreeMap.{get, values}
use Rattle.std.specs.Cmp.Lexicographic.{slice_cmp}
use Rattle.std.specs.Ordering.{nat_cmp}
use Rattle.aria_model.specs.World as model
use Rattle.aria_memory.specs.declared.table.Table.{Table}
use Rattle.aria_memory.specs.declared.tables.Tables.{Tables}

-- a table, with its rows in the order of its first key
abbrev pub table_of : Table → model.Table
table_of table = record { definition = table.definition; plain = false; content = model.Sound (values table.rows) }

abbrev pub world_of : Tables → model.World
world_of tables = λ name. option_map table_of (get (slice_cmp nat_cmp) tables.by_name name)
