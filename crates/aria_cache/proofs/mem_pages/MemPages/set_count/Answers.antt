use Rattle.std.proofs.Common.{refl}
use Rattle.std.specs.Prelude.{Ok, Err, OnOk, OnErr, Result}
use Rattle.std.proofs.lemmas.Result.{on_ok_weaker, on_err_weaker}
use Rattle.aria_host.specs.declared.file_name.FileName.TheVariants as files
use Rattle.aria_page.specs.declared.place.Part.TheVariants as parts
use Rattle.aria_cache.specs.MemPages.{mem_name, bodies_in, counts_in}
use Rattle.aria_cache.proofs.MemStates.{keys_bodies_set, keys_counts_set, rows_bodies_set, rows_counts_set, same_bodies, same_counts, same_in, files_set, files_same}
use Rattle.aria_cache.proofs.mem_pages.MemPages.set_count.Goals as goal

either : {A E : Type 0} {P Q G : Type 0} (r : Result A E) → OnOk r P → OnErr r Q → (P → G) → (Q → G) → G
either (Ok x) p q one other = one p
either (Err x) p q one other = other q

pub returns-in-Keys-clause-bodies : goal.returns-in-Keys-clause-bodies
returns-in-Keys-clause-bodies c = rw c.in-Keys.is (on_ok_weaker c.set_in.result
    (λ is. keys_bodies_set (mem_name c.args.slot) c.args.pages c.args.self.now.keys c.set_in.new.files c.args.self.now.rows is)
    (rw c.name_of-name.ensures at c.set_in.ensures.ok))

pub returns-in-Keys-clause-counts : goal.returns-in-Keys-clause-counts
returns-in-Keys-clause-counts c = rw c.in-Keys.is (on_ok_weaker c.set_in.result
    (λ is. keys_counts_set (mem_name c.args.slot) c.args.pages c.args.self.now.keys c.set_in.new.files c.args.self.now.rows is)
    (rw c.name_of-name.ensures at c.set_in.ensures.ok))

pub returns-in-Keys-clause-err : goal.returns-in-Keys-clause-err
returns-in-Keys-clause-err c = on_err_weaker c.set_in.result
    (λ is. record { counts = same_counts c.args.self.now.keys c.args.self.now.rows c.set_in.new.files c.args.self.now.rows is (same_in c.args.self.now.rows).1; bodies = same_bodies c.args.self.now.keys c.args.self.now.rows c.set_in.new.files c.args.self.now.rows is (same_in c.args.self.now.rows).1; late = refl })
    c.set_in.ensures.err

pub returns-in-Keys-clause-stands : goal.returns-in-Keys-clause-stands
returns-in-Keys-clause-stands c =
    let old = c.args.self.now in
    either c.set_in.result (rw c.name_of-name.ensures at c.set_in.ensures.ok) c.set_in.ensures.err
    (λ is. files_set (counts_in c.args.self.now.keys c.args.self.now.rows) (counts_in c.set_in.new.files c.args.self.now.rows) (bodies_in c.args.self.now.keys c.args.self.now.rows) (bodies_in c.set_in.new.files c.args.self.now.rows) (files.Keys (mem_name c.args.slot)) parts.Keys c.args.pages c.requires.few c.requires.stands
    (keys_counts_set (mem_name c.args.slot) c.args.pages c.args.self.now.keys c.set_in.new.files c.args.self.now.rows is) (keys_bodies_set (mem_name c.args.slot) c.args.pages c.args.self.now.keys c.set_in.new.files c.args.self.now.rows is))
    (λ is. files_same (counts_in c.args.self.now.keys c.args.self.now.rows) (counts_in c.set_in.new.files c.args.self.now.rows) (bodies_in c.args.self.now.keys c.args.self.now.rows) (bodies_in c.set_in.new.files c.args.self.now.rows) c.requires.stands (same_counts c.args.self.now.keys c.args.self.now.rows c.set_in.new.files c.args.self.now.rows is (same_in c.args.self.now.rows).1) (same_bodies c.args.self.now.keys c.args.self.now.rows c.set_in.new.files c.args.self.now.rows is (same_in c.args.self.now.rows).1))

pub returns-in-Rows-clause-bodies : goal.returns-in-Rows-clause-bodies
returns-in-Rows-clause-bodies c = rw c.in-Rows.is (on_ok_weaker c.set_in-in-Rows.result
    (λ is. rows_bodies_set (mem_name c.args.slot) c.args.pages c.args.self.now.keys c.args.self.now.rows c.set_in-in-Rows.new.files is)
    (rw c.name_of-name.ensures at c.set_in-in-Rows.ensures.ok))

pub returns-in-Rows-clause-counts : goal.returns-in-Rows-clause-counts
returns-in-Rows-clause-counts c = rw c.in-Rows.is (on_ok_weaker c.set_in-in-Rows.result
    (λ is. rows_counts_set (mem_name c.args.slot) c.args.pages c.args.self.now.keys c.args.self.now.rows c.set_in-in-Rows.new.files is)
    (rw c.name_of-name.ensures at c.set_in-in-Rows.ensures.ok))

pub returns-in-Rows-clause-err : goal.returns-in-Rows-clause-err
returns-in-Rows-clause-err c = on_err_weaker c.set_in-in-Rows.result
    (λ is. record { counts = same_counts c.args.self.now.keys c.args.self.now.rows c.args.self.now.keys c.set_in-in-Rows.new.files (same_in c.args.self.now.keys).0 is; bodies = same_bodies c.args.self.now.keys c.args.self.now.rows c.args.self.now.keys c.set_in-in-Rows.new.files (same_in c.args.self.now.keys).0 is; late = refl })
    c.set_in-in-Rows.ensures.err

pub returns-in-Rows-clause-stands : goal.returns-in-Rows-clause-stands
returns-in-Rows-clause-stands c =
    let old = c.args.self.now in
    either c.set_in-in-Rows.result (rw c.name_of-name.ensures at c.set_in-in-Rows.ensures.ok) c.set_in-in-Rows.ensures.err
    (λ is. files_set (counts_in c.args.self.now.keys c.args.self.now.rows) (counts_in c.args.self.now.keys c.set_in-in-Rows.new.files) (bodies_in c.args.self.now.keys c.args.self.now.rows) (bodies_in c.args.self.now.keys c.set_in-in-Rows.new.files) (files.Rows (mem_name c.args.slot)) parts.Rows c.args.pages c.requires.few c.requires.stands
    (rows_counts_set (mem_name c.args.slot) c.args.pages c.args.self.now.keys c.args.self.now.rows c.set_in-in-Rows.new.files is) (rows_bodies_set (mem_name c.args.slot) c.args.pages c.args.self.now.keys c.args.self.now.rows c.set_in-in-Rows.new.files is))
    (λ is. files_same (counts_in c.args.self.now.keys c.args.self.now.rows) (counts_in c.args.self.now.keys c.set_in-in-Rows.new.files) (bodies_in c.args.self.now.keys c.args.self.now.rows) (bodies_in c.args.self.now.keys c.set_in-in-Rows.new.files) c.requires.stands (same_counts c.args.self.now.keys c.args.self.now.rows c.args.self.now.keys c.set_in-in-Rows.new.files (same_in c.args.self.now.keys).0 is) (same_bodies c.args.self.now.keys c.args.self.now.rows c.args.self.now.keys c.set_in-in-Rows.new.files (same_in c.args.self.now.keys).0 is))
