use Rattle.std.proofs.Common.{◌≡◌, sym, ap, ◌∙◌}
use Rattle.std.specs.Prelude.{Some}
use Rattle.std.specs.Option.{is_some, option_map}
use Rattle.std.specs.BTreeMap.{WritesThrough}
use Rattle.std.specs.Cmp.Lexicographic.{slice_cmp}
use Rattle.std.specs.Ordering.{nat_cmp}
use Rattle.aria_memory.proofs.Stopping.{replies_weaker}
use Rattle.aria_model.specs.declared.refusal.Exception.TheVariants.{Spent}
use Rattle.aria_model.specs.World.{World}
use Rattle.aria_model.specs.Step.{update}
use Rattle.aria_memory.specs.Worlds.{table_of, world_of}
use Rattle.aria_memory.specs.Performs.{ActsOn}
use Rattle.aria_memory.proofs.Worlds.{world_with}
use Rattle.aria_memory.proofs.tables.Tables.update.Goals as goal

pub returns-in-Some : goal.returns-in-Some
returns-in-Some c =
    let name = c.args.name in
    let old = c.args.self.now.by_name in
    let table = c.update.new.self in
    let change : WritesThrough (slice_cmp nat_cmp) (slice_cmp nat_cmp name) old table (c.get_mut.follows.lender table) = c.get_mut.follows.holds table in
    let has : world_of c.args.self.now name ≡ Some (table_of c.in-Some.table.now) = ap (option_map table_of) (sym c.in-Some.ensures.value) in
    let put = world_with old.entries (c.get_mut.follows.lender table).entries name table (change.3 (ap is_some (sym c.in-Some.ensures.value))).0 in
    replies_weaker c.update.result (ActsOn (λ (world : World) name. update world name c.args.key c.args.sought.now c.args.settings.now (option_map Spent c.args.spent)) (table_of c.in-Some.table.now) (table_of table)) _
    (λ reply acts. let leaves = acts (world_of c.args.self.now) name has in record { world = put ∙ leaves.world; reply = leaves.reply })
    c.update.ensures
