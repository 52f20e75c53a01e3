use Rattle.std.specs.Prelude.{true, length}
use Rattle.std.proofs.lemmas.Result.{IfOk-weaker}
use Rattle.aria_record.specs.Logged.{lsn_at_place}
use Rattle.aria_pager.specs.Redone.{BeginsRedo}
use Rattle.aria_pager.specs.Entered.{HasEntered}
use Rattle.aria_pager.proofs.Entered.{begins}
use Rattle.aria_pager.proofs.enter.enter.Goals as goal

pub returns-clause-begins : goal.returns-clause-begins
returns-clause-begins g c = λ told checkpoint base start groups settled has low listed.
    let s = g.H.Host.state c.args.host.now in
    let t = g.H.Host.state c.enter_tables.new.host in
    IfOk-weaker c.enter_tables.result (HasEntered c.args.log true s.folder groups) (λ store. BeginsRedo store t c.args.analysis.now (lsn_at_place base) base start groups (length groups))
    (λ store is. begins c.args.log store s t base start groups checkpoint c.args.analysis.now settled has (c.enter_tables.ensures.same told) is)
    (c.enter_tables.ensures.entered told checkpoint groups has low listed)
