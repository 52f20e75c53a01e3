use Rattle.std.proofs.Common.{◌≡◌, sym, ap, ◌∙◌}
use Rattle.std.specs.Prelude.{Some}
use Rattle.std.specs.Option.{is_some, option_map}
use Rattle.std.specs.BTreeMap.{WritesThrough}
use Rattle.std.specs.Cmp.Lexicographic.{slice_cmp}
use Rattle.std.specs.Ordering.{nat_cmp}
use Rattle.std.proofs.lemmas.Result.{on_err_weaker}
use Rattle.aria_memory.proofs.Stopping.{replies_weaker}
use Rattle.aria_model.specs.declared.refusal.Exception.TheVariants.{Spent}
use Rattle.aria_model.specs.World.{World, with_table}
use Rattle.aria_model.specs.Step.{insert}
use Rattle.aria_memory.specs.Worlds.{table_of, world_of}
use Rattle.aria_memory.specs.Performs.{ActsOn}
use Rattle.aria_memory.proofs.Worlds.{world_with, with_table_same}
use Rattle.aria_memory.proofs.tables.Tables.insert.Goals as goal

pub returns-in-Some-clause-inserts : goal.returns-in-Some-clause-inserts
returns-in-Some-clause-inserts c =
    let name = c.args.name in
    let old = c.args.self.now.by_name in
    let table = c.insert.new.self in
    let change : WritesThrough (slice_cmp nat_cmp) (slice_cmp nat_cmp name) old table (c.get_mut.follows.lender table) = c.get_mut.follows.holds table in
    let has : world_of c.args.self.now name ≡ Some (table_of c.in-Some.table.now) = ap (option_map table_of) (sym c.in-Some.ensures.value) in
    let put = world_with old.entries (c.get_mut.follows.lender table).entries name table (change.3 (ap is_some (sym c.in-Some.ensures.value))).0 in
    replies_weaker c.insert.result (ActsOn (λ (world : World) name. insert world name c.args.rows (option_map Spent c.args.spent)) (table_of c.in-Some.table.now) (table_of table)) _
    (λ reply acts. let leaves = acts (world_of c.args.self.now) name has in record { world = put ∙ leaves.world; reply = leaves.reply })
    c.insert.ensures.inserts

pub returns-in-Some-clause-err : goal.returns-in-Some-clause-err
returns-in-Some-clause-err c =
    let name = c.args.name in
    let old = c.args.self.now.by_name in
    let table = c.insert.new.self in
    let change : WritesThrough (slice_cmp nat_cmp) (slice_cmp nat_cmp name) old table (c.get_mut.follows.lender table) = c.get_mut.follows.holds table in
    let has : world_of c.args.self.now name ≡ Some (table_of c.in-Some.table.now) = ap (option_map table_of) (sym c.in-Some.ensures.value) in
    let put = world_with old.entries (c.get_mut.follows.lender table).entries name table (change.3 (ap is_some (sym c.in-Some.ensures.value))).0 in
    on_err_weaker c.insert.result
    (λ (kept : table_of table ≡ table_of c.in-Some.table.now).
    put ∙ ap (λ t. with_table (world_of c.args.self.now) name (Some t)) kept ∙ with_table_same (world_of c.args.self.now) name (Some (table_of c.in-Some.table.now)) has)
    c.insert.ensures.err
