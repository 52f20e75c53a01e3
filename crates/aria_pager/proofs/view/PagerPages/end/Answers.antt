use Rattle.std.proofs.Common.{◌++◌, ◌∷◌, [], reverse, List, refl}
use Rattle.std.specs.Prelude.{unwrap_or}
use Rattle.aria_host.proofs.Answered.{on_ok, on_ok_of}
use Rattle.aria_record.specs.declared.record.Record.{Record}
use Rattle.aria_record.specs.Writing.{last_record, records_of}
use Rattle.aria_log.specs.Log.{place}
use Rattle.aria_cache.specs.Ending.{newest}
use Rattle.aria_pager.specs.PageStore.{name_at}
use Rattle.aria_pager.proofs.Lending.{open_name}
use Rattle.aria_pager.proofs.Paging.{ended, stands_end}
use Rattle.aria_pager.proofs.view.PagerPages.end.Goals as goal

pub returns-clause-stands : goal.returns-clause-stands
returns-clause-stands g c =
    let store = c.args.self.now.store.now in
    let name = unwrap_or (name_at store c.args.slot) [] in (
      c.end_kept.ensures.tidy,
      λ told. stands_end store c.end_kept.new.self (g.H.Host.state c.args.self.now.host.now) (g.H.Host.state c.end_kept.new.host)
          (record { at = place store.log; group = records_of store.writer ++ last_record name (newest (reverse store.pending.items)) c.args.last.now ∷ [] } ∷ []) c.end_kept.result (c.requires.stands.1 told) (c.end_kept.ensures.stays told)
          (on_ok c.end_kept.result _ (λ done. on_ok_of c.end_kept.result _ (c.end_kept.ensures.ends told) done name (open_name store c.args.slot c.requires.open))),
    )

pub returns-clause-ended : goal.returns-clause-ended
returns-clause-ended g c =
    let store = c.args.self.now.store.now in
    let name = unwrap_or (name_at store c.args.slot) [] in
    let group : List Record = records_of store.writer ++ last_record name (newest (reverse store.pending.items)) c.args.last.now ∷ [] in
    ended _ group (place store.log) _ _ c.end_kept.result c.end_kept.ensures.lsn
    (on_ok c.end_kept.result _ (λ done. (refl, refl, λ told. on_ok_of c.end_kept.result _ (c.end_kept.ensures.ends told) done name (open_name store c.args.slot c.requires.open))))

pub returns-clause-bodies : goal.returns-clause-bodies
returns-clause-bodies g c = λ told. (c.end_kept.ensures.pages told).bodies
