use Rattle.std.proofs.Common.{refl, sym, subst}
use Rattle.aria_host.specs.Folder.{Folder}
use Rattle.aria_host.specs.MemHost.{mem_state}
use Rattle.aria_log.specs.Pieces.{log_files}
use Rattle.aria_log.specs.Reading.{IsReader, StandsAt}
use Rattle.aria_host.proofs.Moments.{unchanged_after}
use Rattle.aria_log.proofs.tests.crashes.count_groups.Goals as goal

pub loop-nth-preserved : goal.loop-nth-preserved
loop-nth-preserved c =
    let (at, before, more, stands, here) = c.loop-nth.invariant.stands in
    let step = c.in_ok-step.ensures in
    let same = step.same refl in
    let (next, before', more', stands', after) = c.in-Some.ensures c.args.log.now (log_files (mem_state c.loop-nth.host).folder) at before more stands (step.step refl at before more stands here) in
    record {
      reader = subst (λ (f : Folder). IsReader c.next.new.reader (log_files f)) (sym same.folder) (step.reader refl);
      stands = (next, before', more', subst (λ (f : Folder). StandsAt c.args.log.now (log_files f) next before' more') (sym same.folder) stands', after);
      same = unchanged_after (mem_state c.args.host.now) (mem_state c.loop-nth.host) (mem_state c.next.new.host) c.loop-nth.invariant.same same;
    }
