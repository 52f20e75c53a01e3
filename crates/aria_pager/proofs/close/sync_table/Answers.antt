use Rattle.std.proofs.Common.{Bool, true, is_ok, sym, subst}
use Rattle.std.specs.Prelude.{IsSome}
use Rattle.aria_page.specs.declared.place.Part.TheVariants.{Keys, Rows}
use Rattle.aria_host.specs.declared.file_name.FileName.{FileName}
use Rattle.aria_host.specs.Calls.{Syncs}
use Rattle.aria_host.proofs.Answered.{on_ok}
use Rattle.aria_host.proofs.Moments.{narrows_then, sync_narrows}
use Rattle.aria_recovery.specs.Tables.{file}
use Rattle.aria_pager.proofs.Syncing.{synced_both, still_some}
use Rattle.aria_pager.proofs.close.sync_table.Goals as goal

pub sync-requires-clause-there : goal.sync-requires-clause-there
sync-requires-clause-there g c = λ told. subst (λ (f : FileName). IsSome ((g.H.Host.state c.args.host.now).folder f)) (sym c.file_of-keys.ensures) (c.requires.there told Keys)

pub returns-in_err-sync-clause-narrows : goal.returns-in_err-sync-clause-narrows
returns-in_err-sync-clause-narrows g c = λ told. sync_narrows (g.H.Host.state c.args.host.now) (g.H.Host.state c.sync.new.self) (c.in_err-sync.ensures.synced told)

pub sync-requires-2-clause-there : goal.sync-requires-2-clause-there
sync-requires-2-clause-there g c = λ told.
    let s = g.H.Host.state c.args.host.now in
    let m = g.H.Host.state c.sync.new.self in
    subst (λ (f : FileName). IsSome (m.folder f)) (sym c.file_of-rows.ensures) (still_some s m (file c.args.name.now Rows) (c.in_ok-sync.ensures.synced told).folder (c.requires.there told Rows))

pub returns-clause-narrows : goal.returns-clause-narrows
returns-clause-narrows g c = λ told.
    let s = g.H.Host.state c.args.host.now in
    let m = g.H.Host.state c.sync.new.self in
    let t = g.H.Host.state c.sync-2.new.self in
    narrows_then s m t (λ k f le leaves. g.met.H.Host.counts_now c.args.host.now k f told le leaves) (sync_narrows s m (c.in_ok-sync.ensures.synced told)) (sync_narrows m t (c.sync-2.ensures.synced told))

pub returns-clause-durable : goal.returns-clause-durable
returns-clause-durable g c = λ told.
    let name = c.args.name.now in
    let s = g.H.Host.state c.args.host.now in
    let m = g.H.Host.state c.sync.new.self in
    let t = g.H.Host.state c.sync-2.new.self in
    on_ok c.sync-2.result _ (λ on. synced_both name s m t (c.requires.there told) (c.requires.names told)
    (subst (λ (f : FileName). Syncs f s m true) c.file_of-keys.ensures (c.in_ok-sync.ensures.synced told))
    (subst (λ (b : Bool). Syncs (file name Rows) m t b) on (subst (λ (f : FileName). Syncs f m t (is_ok c.sync-2.result)) c.file_of-rows.ensures (c.sync-2.ensures.synced told))))
