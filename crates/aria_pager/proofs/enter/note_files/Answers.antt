use Rattle.std.specs.BTreeMap.{get}
use Rattle.std.specs.Cmp.Lexicographic.{slice_cmp}
use Rattle.std.specs.Ordering.{nat_cmp}
use Rattle.aria_pager.proofs.Given.{next_of, noted_more}
use Rattle.aria_pager.proofs.enter.note_files.Goals as goal

pub loop-found-preserved : goal.loop-found-preserved
loop-found-preserved c = λ checkpoint groups has q.
    noted_more c.args.files.now c.loop-found.found-index c.found-item.result groups q (get (slice_cmp nat_cmp) c.args.tables.now q) (get (slice_cmp nat_cmp) c.loop-found.tables q) (get (slice_cmp nat_cmp) c.note_file.new.tables q)
    (next_of c.args.files.now c.loop-found.found-index c.found-item.result c.loop-found-test.true c.found-item.is) (c.loop-found.invariant checkpoint groups has q) (c.in_ok-note_file.ensures checkpoint groups has q)
