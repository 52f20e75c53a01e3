use Rattle.std.proofs.Common.{◌≡◌, true, subst, Bool, is_ok}
use Rattle.aria_host.specs.Calls.{Syncs}
use Rattle.aria_journal.specs.Log.{log_file}
use Rattle.aria_host.proofs.Answered.{on_ok}
use Rattle.aria_journal.proofs.Starting.{started_log}
use Rattle.aria_journal.proofs.log.Log.start.Goals as goal

pub returns-clause-started : goal.returns-clause-started
returns-clause-started g c = λ told.
    let old = g.H.Host.state c.args.host.now in
    let mid = g.H.Host.state c.prepare.new.host in
    let new = g.H.Host.state c.sync.new.self in
    on_ok c.sync.result _ (λ done. started_log c.args.self.now old mid new (c.requires.opened told) (c.in_ok-prepare.ensures.prepared told)
    (let is : is_ok c.sync.result ≡ true = done in subst (λ (b : Bool). Syncs log_file mid new b) is (c.sync.ensures.synced told)))
