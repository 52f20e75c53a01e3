use Rattle.std.proofs.Common.{◌≡◌, ◌∙◌, ◌+◌, ◌/◌, ℕ, refl, sym, ap, subst, arith, is_ok, length}
use Rattle.std.proofs.lemmas.Result.{err_from_is_err_and}
use Rattle.aria_log.specs.Log.{SyncedUpTo}
use Rattle.aria_log.proofs.Syncing.{file_there, synced_none, synced_more, synced_failed, synced_all}
use Rattle.aria_log.proofs.log.Log.sync_run.Goals as goal

pub loop-file-init : goal.loop-file-init
loop-file-init g c = record {
  from = omega (arith, c.file_of-file.ensures.is);
  synced = λ told base whole parts is at first.
      let s = g.H.Host.state c.args.host.now in
      let file : (base / 8176 + length whole) / 1024 ≡ c.file_of-file.result = ap (λ (n : ℕ). n / 1024) (sym first) ∙ sym c.file_of-file.ensures.is in
      subst (λ (f : ℕ). SyncedUpTo s s base whole parts c.args.self.now.there f) file (synced_none s base whole parts c.args.self.now.there (λ f b left. g.met.H.Host.only_now c.args.host.now f b told left) is);
  disk = refl;
  tell = refl;
}

pub sync-requires-clause-there : goal.sync-requires-clause-there
sync-requires-clause-there g c = λ told.
    let (base, whole, parts, is, at, first) = c.requires.at told in
    file_there (g.H.Host.state c.args.host.now) (g.H.Host.state c.loop-file.host) base c.loop-file.file whole parts c.args.self.now.there (c.loop-file.invariant.synced told base whole parts is at first)
    (omega (arith, first, c.loop-file.invariant.from)) (omega (arith, at, c.loop-file-test.true, c.file_of-file-end.ensures.is)) (omega (arith, at, first, c.requires.some))

pub returns-in_err-sync-clause-synced : goal.returns-in_err-sync-clause-synced
returns-in_err-sync-clause-synced g c = λ told base whole parts is at first.
    let p = err_from_is_err_and c.from_residual.result c.from_residual.ensures.1 in
    synced_failed (g.H.Host.state c.args.host.now) (g.H.Host.state c.loop-file.host) (g.H.Host.state c.sync.new.self) c.loop-file.file base whole parts c.args.self.now.there _ _
    (λ f b left. g.met.H.Host.only_now c.loop-file.host f b told left) (c.loop-file.invariant.synced told base whole parts is at first) (c.in_err-sync.ensures.synced told) (ap is_ok p.1)

pub loop-file-preserved : goal.loop-file-preserved
loop-file-preserved g c = record {
  from = omega (arith, c.loop-file.invariant.from);
  synced = λ told base whole parts is at first.
      synced_more (g.H.Host.state c.args.host.now) (g.H.Host.state c.loop-file.host) (g.H.Host.state c.sync.new.self) c.loop-file.file base whole parts c.args.self.now.there
      (λ f b left. g.met.H.Host.only_now c.loop-file.host f b told left) (c.loop-file.invariant.synced told base whole parts is at first) (c.in_ok-sync.ensures.synced told)
      (omega (arith, first, c.loop-file.invariant.from)) (omega (arith, at, c.loop-file-test.true, c.file_of-file-end.ensures.is)) (omega (arith, at, first, c.requires.some));
  disk = c.in_ok-sync.ensures.cause.calm ∙ c.loop-file.invariant.disk;
  tell = c.in_ok-sync.ensures.cause.tell ∙ c.loop-file.invariant.tell;
}

pub returns-clause-synced : goal.returns-clause-synced
returns-clause-synced g c = λ told base whole parts is at first.
    synced_all (g.H.Host.state c.args.host.now) (g.H.Host.state c.loop-file.host) c.loop-file.file base whole parts c.args.self.now.there (c.loop-file.invariant.synced told base whole parts is at first)
    (omega (arith, at, c.loop-file-test.false, c.file_of-file-end.ensures.is))
