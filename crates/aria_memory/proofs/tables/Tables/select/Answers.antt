use Rattle.std.proofs.Common.{◌≡◌, sym, ap}
use Rattle.std.specs.Prelude.{Some}
use Rattle.std.specs.Option.{option_map}
use Rattle.aria_memory.proofs.Stopping.{replies_weaker}
use Rattle.aria_memory.specs.Worlds.{table_of, world_of}
use Rattle.aria_memory.specs.Seeking.{SelectsFrom}
use Rattle.aria_memory.proofs.tables.Tables.select.Goals as goal

pub returns-in-Some : goal.returns-in-Some
returns-in-Some c =
    let has : world_of c.args.self.now c.args.name ≡ Some (table_of c.in-Some.table.now) = ap (option_map table_of) (sym c.in-Some.ensures.value) in
    replies_weaker c.select.result (SelectsFrom (table_of c.in-Some.table.now) c.args.key c.args.sought.now c.args.text.now c.select.new.text) _
    (λ reply selects exception. selects (world_of c.args.self.now) c.args.name exception has)
    c.select.ensures
