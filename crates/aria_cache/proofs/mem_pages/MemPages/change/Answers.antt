use Rattle.std.proofs.Common.{refl}
use Rattle.std.proofs.lemmas.Result.{on_ok_weaker, on_err_weaker}
use Rattle.aria_page.specs.Change.{edits_of}
use Rattle.aria_cache.specs.MemPages.{mem_name}
use Rattle.aria_cache.proofs.MemStates.{keys_bodies, keys_counts, rows_bodies, rows_counts, same_bodies, same_counts, same_in}
use Rattle.aria_cache.proofs.mem_pages.MemPages.change.Goals as goal

pub returns-in-Keys-clause-bodies : goal.returns-in-Keys-clause-bodies
returns-in-Keys-clause-bodies c = rw c.in-Keys.is (on_ok_weaker c.edit_in.result
    (λ is. keys_bodies (mem_name c.args.at.slot) c.args.at.page (edits_of c.args.edits.now) c.args.self.now.keys c.edit_in.new.files c.args.self.now.rows is)
    (rw c.name_of-name.ensures at c.edit_in.ensures.ok))

pub returns-in-Keys-clause-counts : goal.returns-in-Keys-clause-counts
returns-in-Keys-clause-counts c = rw c.in-Keys.is (on_ok_weaker c.edit_in.result
    (λ is. keys_counts (mem_name c.args.at.slot) c.args.at.page (edits_of c.args.edits.now) c.args.self.now.keys c.edit_in.new.files c.args.self.now.rows is)
    (rw c.name_of-name.ensures at c.edit_in.ensures.ok))

pub returns-in-Keys-clause-err : goal.returns-in-Keys-clause-err
returns-in-Keys-clause-err c = on_err_weaker c.edit_in.result
    (λ is. record { counts = same_counts c.args.self.now.keys c.args.self.now.rows c.edit_in.new.files c.args.self.now.rows is (same_in c.args.self.now.rows).1; bodies = same_bodies c.args.self.now.keys c.args.self.now.rows c.edit_in.new.files c.args.self.now.rows is (same_in c.args.self.now.rows).1; late = refl })
    c.edit_in.ensures.err

pub returns-in-Rows-clause-bodies : goal.returns-in-Rows-clause-bodies
returns-in-Rows-clause-bodies c = rw c.in-Rows.is (on_ok_weaker c.edit_in-in-Rows.result
    (λ is. rows_bodies (mem_name c.args.at.slot) c.args.at.page (edits_of c.args.edits.now) c.args.self.now.keys c.args.self.now.rows c.edit_in-in-Rows.new.files is)
    (rw c.name_of-name.ensures at c.edit_in-in-Rows.ensures.ok))

pub returns-in-Rows-clause-counts : goal.returns-in-Rows-clause-counts
returns-in-Rows-clause-counts c = rw c.in-Rows.is (on_ok_weaker c.edit_in-in-Rows.result
    (λ is. rows_counts (mem_name c.args.at.slot) c.args.at.page (edits_of c.args.edits.now) c.args.self.now.keys c.args.self.now.rows c.edit_in-in-Rows.new.files is)
    (rw c.name_of-name.ensures at c.edit_in-in-Rows.ensures.ok))

pub returns-in-Rows-clause-err : goal.returns-in-Rows-clause-err
returns-in-Rows-clause-err c = on_err_weaker c.edit_in-in-Rows.result
    (λ is. record { counts = same_counts c.args.self.now.keys c.args.self.now.rows c.args.self.now.keys c.edit_in-in-Rows.new.files (same_in c.args.self.now.keys).0 is; bodies = same_bodies c.args.self.now.keys c.args.self.now.rows c.args.self.now.keys c.edit_in-in-Rows.new.files (same_in c.args.self.now.keys).0 is; late = refl })
    c.edit_in-in-Rows.ensures.err
