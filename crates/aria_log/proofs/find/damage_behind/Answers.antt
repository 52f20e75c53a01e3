use Rattle.std.proofs.Common.{arith}
use Rattle.aria_log.specs.Pieces.{log_files}
use Rattle.aria_log.proofs.Counting.{not_done}
use Rattle.aria_log.proofs.Damages.{damage_found}
use Rattle.aria_log.proofs.find.damage_behind.Goals as goal

pub returns-clause-damage : goal.returns-clause-damage
returns-clause-damage g c = λ told first from upto noted.
    damage_found (log_files (g.H.Host.state c.args.host.now).folder) first c.args.end c.args.last c.begins_behind.new.scan.long c.too_long.result from upto (c.requires.none told) (c.requires.apart told)
    (λ behind. not_done c.in_ok-begins_behind.field-0 c.if-branch.false ((c.in_ok-begins_behind.ensures.begins told).1 behind))
    (c.in_ok-begins_behind.ensures.noted told first (omega (arith, from)) noted c.if-branch.false) c.too_long.ensures
