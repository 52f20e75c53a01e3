use Rattle.std.proofs.Common.{◌≡◌, ◌∙◌, true, false, ap, sym}
use Rattle.std.proofs.lemmas.Result.{err_from_is_err_and}
use Rattle.aria_page.specs.Lsn.{IsBefore}
use Rattle.aria_page.specs.Page.{page_body}
use Rattle.aria_pager.specs.Slotted.{OfFirst}
use Rattle.aria_pager.specs.Steps.{damaged_at}
use Rattle.aria_pager.proofs.Again.{if_err_at}
use Rattle.aria_pager.proofs.Heading.{first_body}
use Rattle.aria_pager.proofs.Loading.{before_number, behind_number}
use Rattle.aria_pager.proofs.Slotting.{first_late, first_headed}
use Rattle.aria_pager.proofs.table.check_first.Goals as goal

pub returns-in_err-check_header-clause-cause : goal.returns-in_err-check_header-clause-cause
returns-in_err-check_header-clause-cause c =
    let e = err_from_is_err_and c.from_residual.result c.from_residual.ensures.1 in
    let f = c.in_err-check_header.field-0.0 in
    if_err_at c.from_residual.result (OfFirst true c.args.page.now c.args.file.now c.args.end) e.0 f e.1 e.2
    (first_body c.args.page.now c.body.result.now c.args.file.now c.args.end f c.body.ensures.value (c.is_sound.ensures.0 c.if-not-is_sound.false) c.in_err-check_header.ensures.cause)

pub returns-then-not-is_before-clause-cause : goal.returns-then-not-is_before-clause-cause
returns-then-not-is_before-clause-cause c =
    let not : ¬ IsBefore c.lsn-lsn.result c.args.end = λ before. let e : true ≡ false = sym (c.is_before.ensures.1 before) ∙ c.if-not-is_before.true in (cc) in
    first_late c.args.page.now c.args.file.now c.args.end c.lsn-lsn.result c.log_damaged.result (c.log_damaged.ensures ∙ ap damaged_at c.bounded.ensures.same) (c.is_sound.ensures.0 c.if-not-is_sound.false) c.lsn-lsn.ensures.value
    (behind_number c.lsn-lsn.result c.args.end not c.bounded.ensures.small)

pub returns-clause-headed : goal.returns-clause-headed
returns-clause-headed c = first_headed c.args.page.now c.body.result.now c.args.end c.lsn-lsn.result c.body.ensures.value (c.is_sound.ensures.0 c.if-not-is_sound.false) c.in_ok-check_header.ensures.header.magic
    c.in_ok-check_header.ensures.header.kind c.lsn-lsn.ensures.value (before_number c.lsn-lsn.result c.args.end (c.is_before.ensures.0 c.if-not-is_before.false) c.lsn-lsn.ensures.fits.offset)
