use Rattle.std.proofs.Common.{◌∙◌, sym, subst}
use Rattle.aria_host.specs.Folder.{IsFileName}
use Rattle.aria_host.proofs.Moments.{narrows_then}
use Rattle.aria_pager.proofs.Founding.{item_there, synced_more, synced_all}
use Rattle.aria_pager.proofs.find.sync_files.Goals as goal

pub sync_file-requires-clause-there : goal.sync_file-requires-clause-there
sync_file-requires-clause-there g c = λ told part.
    item_there c.args.files.now (g.H.Host.state c.args.host.now) (g.H.Host.state c.loop-file.host) c.loop-file.file-index c.file-item.result (c.requires.listed told) (c.loop-file.invariant.same told) c.loop-file-test.true c.file-item.is
    (subst IsFileName (sym c.file-item.is) (c.requires.forms c.loop-file.file-index c.file-item.result c.loop-file-test.true)) part

pub loop-file-preserved : goal.loop-file-preserved
loop-file-preserved g c = record {
  same = λ told. narrows_then (g.H.Host.state c.args.host.now) (g.H.Host.state c.loop-file.host) (g.H.Host.state c.sync_file.new.host) (λ t f le leaves. g.met.H.Host.counts_now c.args.host.now t f told le leaves)
      (c.loop-file.invariant.same told) (c.in_ok-sync_file.ensures.same told);
  synced = λ told. synced_more c.args.files.now (g.H.Host.state c.loop-file.host) (g.H.Host.state c.sync_file.new.host) c.loop-file.file-index c.file-item.result c.loop-file-test.true c.file-item.is
      (c.in_ok-sync_file.ensures.same told) (c.in_ok-sync_file.ensures.durable told) (c.loop-file.invariant.synced told);
  disk = c.in_ok-sync_file.ensures.cause.calm ∙ c.loop-file.invariant.disk;
  tell = c.in_ok-sync_file.ensures.cause.tell ∙ c.loop-file.invariant.tell;
}

pub returns-clause-durable : goal.returns-clause-durable
returns-clause-durable g c = λ told.
    synced_all c.args.files.now (g.H.Host.state c.args.host.now) (g.H.Host.state c.loop-file.host) c.loop-file.file-index c.loop-file-test.false (c.requires.listed told) (c.requires.names told)
    (c.loop-file.invariant.same told) (c.loop-file.invariant.synced told)
