use Rattle.std.proofs.lemmas.Result.{err_from_is_err_and}
use Rattle.aria_key.specs.Taking.{IsFreePage, HasSpare}
use Rattle.aria_key.specs.Reading.{keys_file}
use Rattle.aria_key.proofs.Sparing.{more_cause, first_free, take_next}
use Rattle.aria_key.proofs.take.take_page.Goals as goal

pub returns-in_err-next-clause-cause : goal.returns-in_err-next-clause-cause
returns-in_err-next-clause-cause g c =
    let old = g.P.Pages.state c.args.pages.now in
    let new = g.P.Pages.state c.next_free.new.pages in
    let file = keys_file old c.args.slot in
    let p = err_from_is_err_and c.from_residual-in_err-next.result c.from_residual-in_err-next.ensures.1 in
    rw (p.1, p.2) (more_cause g.P.Pages.tells g.P.Pages.logged (IsFreePage old file c.args.free) (HasSpare old file c.args.free) file old new _ (λ t asked. first_free old file c.args.free c.if-free-eq0.false asked) c.in_err-next.ensures.cause)

pub returns-clause-taken : goal.returns-clause-taken
returns-clause-taken g c = λ t left chain.
    let old = g.P.Pages.state c.args.pages.now in
    let file = keys_file old c.args.slot in
    take_next (old.bodies file) (old.counts file) c.args.free c.in_ok-next.next left c.if-free-eq0.false chain (c.in_ok-next.ensures.next t)
