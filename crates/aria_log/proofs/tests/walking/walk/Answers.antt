use Rattle.std.proofs.Common.{◌≡◌, refl, ◌∙◌, ◌*◌, sym, ap}
use Rattle.aria_host.specs.MemHost.{mem_state}
use Rattle.aria_log.specs.declared.tests.walking.Walked.{Walked}
use Rattle.aria_log.specs.Pieces.{log_files}
use Rattle.aria_log.proofs.Looking.{reader_at}
use Rattle.aria_log.proofs.Readable.{stands_first}
use Rattle.aria_log.proofs.Walking.{StandsBehind, behind_group, behind_rest, behind_at}
use Rattle.aria_log.proofs.tests.walking.walk.Goals.{in-Group, in-Rest}
use Rattle.aria_log.proofs.tests.walking.walk.Goals as goal

pub loop-nth-init : goal.loop-nth-init
loop-nth-init c =
    let (front, is, empty) = c.requires in
    record {
      reader = c.new-reader.ensures.reader (log_files (mem_state c.args.host.now).folder);
      stands = record {
        at = 8176 * 1024;
        before = _;
        more = _;
        stands = stands_first c.args.log.now (log_files (mem_state c.args.host.now).folder) (8176 * 1024) front is empty;
        after_is = refl;
      };
    }

pub loop-nth-preserved : goal.loop-nth-preserved
loop-nth-preserved c =
    let old = mem_state c.loop-nth.host in
    let new = mem_state c.next.new.host in
    let same = (c.in_ok-after.ensures.same refl).folder in
    let was = c.loop-nth.invariant.stands in
    let step = c.in_ok-after.ensures.step refl was.at was.before was.more was.stands was.after_is in
    record {
      reader = reader_at c.next.new.reader old new (sym same) (c.in_ok-after.ensures.reader refl);
      stands = elim c.match-branch-2.branch [
        | in-Group w ↦
            behind_at c.args.log.now old new _ _ (sym same) (sym (ap (λ (f : Walked). f.end) w.found-is)) (behind_group c.args.log.now (log_files old.folder) was.at was.before was.more _ _ _ was.stands (rw w.in-Group.is at step))
        | in-Rest w ↦
            behind_at c.args.log.now old new _ _ (sym same) (sym (ap (λ (f : Walked). f.end) w.found-is)) (behind_rest c.args.log.now (log_files old.folder) was.at was.before was.more _ _ _ was.stands (rw w.in-Rest.is at step))
      ];
    }
