use Rattle.std.proofs.Common.{◌∙◌}
use Rattle.aria_recovery.proofs.Noting.{puts, put_edits, put_reach, put_told, put_file_group, put_names}
use Rattle.aria_recovery.proofs.lives.note.Goals as goal

pub returns-clause-edits : goal.returns-clause-edits
returns-clause-edits c = put_edits c.args.name c.note.new.self c.args.lives.now c.insert.new.self
    (puts c.args.name c.note.new.self c.args.lives.now c.take-life.new.lives c.insert.new.self c.take-life.ensures.others c.in_ok-insert.ensures.updates.0)
    c.take-life.result c.args.at c.args.part c.args.page c.args.has_edits c.take-life.ensures.edits c.in_ok-note.ensures.edits

pub returns-clause-reach : goal.returns-clause-reach
returns-clause-reach c = put_reach c.args.name c.note.new.self c.args.lives.now c.insert.new.self
    (puts c.args.name c.note.new.self c.args.lives.now c.take-life.new.lives c.insert.new.self c.take-life.ensures.others c.in_ok-insert.ensures.updates.0)
    c.take-life.result c.args.part c.args.page c.take-life.ensures.reach c.in_ok-note.ensures.reach

pub returns-clause-told : goal.returns-clause-told
returns-clause-told c = put_told c.args.name c.note.new.self c.args.lives.now c.insert.new.self
    (puts c.args.name c.note.new.self c.args.lives.now c.take-life.new.lives c.insert.new.self c.take-life.ensures.others c.in_ok-insert.ensures.updates.0)
    (c.note.ensures.told ∙ c.take-life.ensures.told)

pub returns-clause-file_group : goal.returns-clause-file_group
returns-clause-file_group c = put_file_group c.args.name c.note.new.self c.args.lives.now c.insert.new.self
    (puts c.args.name c.note.new.self c.args.lives.now c.take-life.new.lives c.insert.new.self c.take-life.ensures.others c.in_ok-insert.ensures.updates.0)
    (c.note.ensures.file_group ∙ c.take-life.ensures.file_group)

pub returns-clause-names : goal.returns-clause-names
returns-clause-names c = put_names c.args.name c.note.new.self c.args.lives.now c.insert.new.self
    (puts c.args.name c.note.new.self c.args.lives.now c.take-life.new.lives c.insert.new.self c.take-life.ensures.others c.in_ok-insert.ensures.updates.0)
