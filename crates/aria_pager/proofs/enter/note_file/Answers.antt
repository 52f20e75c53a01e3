use Rattle.std.proofs.Common.{◌∙◌, ◌&&◌, not, cond, None, Some, ap, sym}
use Rattle.std.specs.BTreeMap.{get}
use Rattle.std.specs.Cmp.Lexicographic.{slice_cmp}
use Rattle.std.specs.Ordering.{nat_cmp}
use Rattle.aria_page.specs.declared.place.Part.TheVariants.{Keys}
use Rattle.aria_host.specs.declared.file_name.FileName.{FileName}
use Rattle.aria_host.specs.Folder.{same_file}
use Rattle.aria_recovery.specs.Tables.{file}
use Rattle.aria_pager.specs.Entered.{was_dropped}
use Rattle.aria_pager.proofs.Given.{noted_one}
use Rattle.aria_pager.proofs.enter.note_file.Goals as goal

pub returns : goal.returns
returns c = λ checkpoint groups has q.
    noted_one c.in-Keys.name c.args.tables.now c.insert.new.self groups c.in_ok-insert.ensures.updates (sym (c.was_dropped.ensures checkpoint groups has) ∙ c.if-was_dropped.false) q
    ∙ ap (λ (f : FileName). cond (same_file (file q Keys) f && not (was_dropped q groups)) (Some None) (get (slice_cmp nat_cmp) c.args.tables.now q)) (sym c.in-Keys.is)
