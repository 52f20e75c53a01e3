use Rattle.std.proofs.Common.{arith}
use Rattle.aria_page.proofs.CrcRows.{table_item}
use Rattle.aria_page.proofs.crc_table.ahead.Goals as goal

-- src/crc_table.rt
pub returns : goal.returns
returns c = table_item c.args.after c.args.byte _ _ (omega arith) (omega arith)
