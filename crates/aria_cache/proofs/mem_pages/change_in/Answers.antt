use Rattle.std.proofs.Common.{◌≡◌, sym, ap}
use Rattle.std.specs.Prelude.{Some}
use Rattle.std.specs.Option.{is_some}
use Rattle.std.specs.BTreeMap.{WritesThrough}
use Rattle.std.specs.Cmp.Lexicographic.{slice_cmp}
use Rattle.std.specs.Ordering.{nat_cmp}
use Rattle.std.proofs.lemmas.Result.{on_ok_weaker, on_err_weaker}
use Rattle.aria_cache.specs.MemPages.{file_in}
use Rattle.aria_cache.proofs.MemFiles.{put_edited, put_same}
use Rattle.aria_cache.proofs.mem_pages.change_in.Goals as goal

pub returns-in-Some-clause-ok : goal.returns-in-Some-clause-ok
returns-in-Some-clause-ok c =
    let old = c.args.files.now in
    let file = c.edit.new.self in
    let change : WritesThrough (slice_cmp nat_cmp) (slice_cmp nat_cmp c.args.name.now) old file (c.get_mut.follows.lender file) = c.get_mut.follows.holds file in
    let was : file_in old c.args.name.now ≡ Some c.in-Some.file.now = sym c.in-Some.ensures.value in
    on_ok_weaker c.edit.result (put_edited c.args.part old (c.get_mut.follows.lender file) c.args.name.now file (change.3 (ap is_some was)).0 c.args.number _ c.in-Some.file.now was) c.edit.ensures.ok

pub returns-in-Some-clause-err : goal.returns-in-Some-clause-err
returns-in-Some-clause-err c =
    let old = c.args.files.now in
    let file = c.edit.new.self in
    let change : WritesThrough (slice_cmp nat_cmp) (slice_cmp nat_cmp c.args.name.now) old file (c.get_mut.follows.lender file) = c.get_mut.follows.holds file in
    let was : file_in old c.args.name.now ≡ Some c.in-Some.file.now = sym c.in-Some.ensures.value in
    on_err_weaker c.edit.result (put_same c.args.part old (c.get_mut.follows.lender file) c.args.name.now file (change.3 (ap is_some was)).0 c.in-Some.file.now was) c.edit.ensures.err
