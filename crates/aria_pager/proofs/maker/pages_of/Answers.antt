use Rattle.std.proofs.Common.{◌≡◌, ◌∙◌, Some, sym, subst}
use Rattle.aria_record.specs.declared.record.Record.{Record}
use Rattle.aria_recovery.specs.Tables.{says}
use Rattle.aria_pager.proofs.Makers.{made_of}
use Rattle.aria_pager.proofs.maker.pages_of.Goals as goal

pub returns : goal.returns
returns c = λ maker is.
    made_of c.args.at c.args.name.now c.in-CreateTable.table c.in-CreateTable.plain c.in-CreateTable.definition c.as_slice.result.now c.in-CreateTable.format maker c.in-Some.d c.in_ok-pages.pages
    (subst (λ (r : Record). says c.args.at c.args.name.now r ≡ Some (Some maker)) c.in-CreateTable.is is) c.as_slice.ensures (sym c.in-Some.is ∙ c.in_ok-d.ensures.read)
    c.in_ok-pages.ensures.index c.in_ok-pages.ensures.data c.in_ok-pages.ensures.sums
