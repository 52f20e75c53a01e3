use Rattle.std.proofs.Common.{refl, None, Some}
use Rattle.aria_record.specs.declared.record.Record.TheVariants.{CreateTable, DropTable}
use Rattle.aria_recovery.proofs.Noting.{all_five, settles_anew, settles_repair}
use Rattle.aria_recovery.proofs.lives.settle_record.Goals as goal

pub returns-in-CreateTable : goal.returns-in-CreateTable
returns-in-CreateTable c =
    let x = c.in-CreateTable in
    rw x.is (all_five c.begin.result c.begin.ensures.edits c.begin.ensures.reach c.begin.ensures.told c.begin.ensures.file_group c.begin.ensures.names
    (settles_anew c.args.at (CreateTable x.table x.plain x.definition x.format) x.table (Some (record { at = c.args.at; plain = x.plain; definition = x.definition; format = x.format })) c.args.lives.now c.begin.new.lives (λ q. refl) (λ q. refl)))

pub returns-in-DropTable : goal.returns-in-DropTable
returns-in-DropTable c =
    let x = c.in-DropTable in
    rw x.is (all_five c.begin-in-DropTable.result c.begin-in-DropTable.ensures.edits c.begin-in-DropTable.ensures.reach c.begin-in-DropTable.ensures.told c.begin-in-DropTable.ensures.file_group c.begin-in-DropTable.ensures.names
    (settles_anew c.args.at (DropTable x.table) x.table None c.args.lives.now c.begin-in-DropTable.new.lives (λ q. refl) (λ q. refl)))

pub returns-in-RepairTable : goal.returns-in-RepairTable
returns-in-RepairTable c =
    let x = c.in-RepairTable in
    rw x.is (all_five c.repair.result c.repair.ensures.edits c.repair.ensures.reach c.repair.ensures.told c.repair.ensures.file_group c.repair.ensures.names (settles_repair c.args.at x.table c.args.lives.now c.repair.new.lives))
