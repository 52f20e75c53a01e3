-- Tables in memory are logged, all of them.
use Rattle.std.specs.Prelude.{◌≡◌, false, Option, Some, None, refl}
use Rattle.std.specs.Option.{option_map}
use Rattle.std.specs.BTreeMap.{get}
use Rattle.std.specs.Cmp.Lexicographic.{slice_cmp}
use Rattle.std.specs.Ordering.{nat_cmp}
use Rattle.aria_model.proofs.Kept.{is_plain, HasNoPlain}
use Rattle.aria_memory.specs.declared.table.Table.{Table}
use Rattle.aria_memory.specs.declared.tables.Tables.{Tables}
use Rattle.aria_memory.specs.Worlds.{table_of, world_of}

transactional : (found : Option Table) → is_plain (option_map table_of found) ≡ false
transactional None = refl
transactional (Some table) = refl

-- no table in memory is plain
pub no_plain : (tables : Tables) → HasNoPlain (world_of tables)
no_plain tables = λ name. transactional (get (slice_cmp nat_cmp) tables.by_name name)
