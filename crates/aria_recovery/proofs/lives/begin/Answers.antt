use Rattle.std.proofs.Common.{None, Some, Option}
use Rattle.aria_recovery.specs.Noted.{edit_at, reach_at, told_at, file_group_at}
use Rattle.aria_recovery.specs.declared.life.Life.{Life}
use Rattle.aria_recovery.proofs.Noting.{put_read, put_names}
use Rattle.aria_recovery.proofs.lives.begin.Goals as goal

pub returns-clause-edits : goal.returns-clause-edits
returns-clause-edits c q p n = put_read c.args.name c.new-life.result c.args.lives.now c.insert.new.self c.in_ok-insert.ensures.updates.0 (λ (o : Option Life). edit_at o p n) None (c.new-life.ensures.edits p n) q

pub returns-clause-reach : goal.returns-clause-reach
returns-clause-reach c q p = put_read c.args.name c.new-life.result c.args.lives.now c.insert.new.self c.in_ok-insert.ensures.updates.0 (λ (o : Option Life). reach_at o p) 0 (c.new-life.ensures.reach p) q

pub returns-clause-told : goal.returns-clause-told
returns-clause-told c = put_read c.args.name c.new-life.result c.args.lives.now c.insert.new.self c.in_ok-insert.ensures.updates.0 told_at c.args.told c.new-life.ensures.told

pub returns-clause-file_group : goal.returns-clause-file_group
returns-clause-file_group c = put_read c.args.name c.new-life.result c.args.lives.now c.insert.new.self c.in_ok-insert.ensures.updates.0 file_group_at (Some c.args.at) c.new-life.ensures.file_group

pub returns-clause-names : goal.returns-clause-names
returns-clause-names c = put_names c.args.name c.new-life.result c.args.lives.now c.insert.new.self c.in_ok-insert.ensures.updates.0
