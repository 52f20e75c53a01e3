use Rattle.std.proofs.Common.{None, arith}
use Rattle.std.proofs.lemmas.Result.{err_from_is_err_and}
use Rattle.aria_cache.specs.PageState.{PageState}
use Rattle.aria_block.specs.Causes.{rows_file}
use Rattle.aria_block.specs.Reading.{OfPieces, HasHead, HasAllRest, HasRow}
use Rattle.aria_block.proofs.RowRead.{has_head, has_rest, head_says, row_read}
use Rattle.aria_block.proofs.ReadPages.{Went, went, holds_then, pieces_then, cause_read, loads_both, loads_upto, cause_ok, cause_asked}
use Rattle.aria_block.proofs.row_reading.read_row.Goals as goal

pub returns-in_err-fields-clause-loads : goal.returns-in_err-fields-clause-loads
returns-in_err-fields-clause-loads g c = loads_upto g.P.Pages.tells 1 20 (g.P.Pages.state c.args.pages.now) (g.P.Pages.state c.read_head.new.pages) c.in_err-fields.ensures.loads (omega arith)

pub returns-in_err-read_rest-clause-loads : goal.returns-in_err-read_rest-clause-loads
returns-in_err-read_rest-clause-loads g c = loads_both g.P.Pages.tells 1 10 20 (g.P.Pages.state c.args.pages.now) (g.P.Pages.state c.read_head.new.pages) (g.P.Pages.state c.read_rest.new.pages) c.in_ok-fields.ensures.loads c.in_err-read_rest.ensures.loads (omega arith)

pub returns-clause-loads : goal.returns-clause-loads
returns-clause-loads g c = loads_both g.P.Pages.tells 1 10 20 (g.P.Pages.state c.args.pages.now) (g.P.Pages.state c.read_head.new.pages) (g.P.Pages.state c.read_rest.new.pages) c.in_ok-fields.ensures.loads c.in_ok-read_rest.ensures.loads (omega arith)

pub returns-clause-row : goal.returns-clause-row
returns-clause-row g c = λ told is_row pieces rows holds.
    let old : PageState = g.P.Pages.state c.args.pages.now in
    let now : PageState = g.P.Pages.state c.read_head.new.pages in
    let ok = c.in_ok-fields.ensures in
    let w : Went g.P.Pages.tells c.args.slot old now = went g.P.Pages.tells 1 c.args.slot _ old now ok.loads ok.answers ok.cause in
    row_read is_row pieces rows holds.tiled c.args.head c.in_ok-fields.fields c.clear.new.self c.read_head.new.out c.read_rest.new.out c.clear.ensures (ok.head told pieces holds.data_file)
    (λ row has start. c.in_ok-read_rest.ensures.rest told pieces row (holds_then g.P.Pages.tells c.args.slot old now pieces w told holds.data_file) has start)

pub returns-in_err-read_rest-clause-cause : goal.returns-in_err-read_rest-clause-cause
returns-in_err-read_rest-clause-cause g c =
    let old : PageState = g.P.Pages.state c.args.pages.now in
    let now : PageState = g.P.Pages.state c.read_head.new.pages in
    let new : PageState = g.P.Pages.state c.read_rest.new.pages in
    let ok = c.in_ok-fields.ensures in
    let fields = c.in_ok-fields.fields in
    let w : Went g.P.Pages.tells c.args.slot old now = went g.P.Pages.tells 1 c.args.slot _ old now ok.loads ok.answers ok.cause in
    let p = err_from_is_err_and c.from_residual-in_err-read_rest.result c.from_residual-in_err-read_rest.ensures.1 in
    rw (p.1, p.2) (cause_read g.P.Pages.tells c.args.slot (OfPieces g.P.Pages.tells g.P.Pages.logged (HasAllRest fields) (rows_file now c.args.slot) now new) (OfPieces g.P.Pages.tells g.P.Pages.logged (HasRow c.args.head) (rows_file old c.args.slot) old new) old now new _ w
    (pieces_then g.P.Pages.tells g.P.Pages.logged c.args.slot (HasRow c.args.head) (HasAllRest fields) old now new w (λ pieces told holds has.
    let says = head_says has.is_row pieces has.rows has.tiled c.args.head.page c.args.head.slot has.kept has.there fields c.clear.new.self c.read_head.new.out has.fits (ok.head told pieces holds) in
    (has.kept.row, has_rest has.is_row pieces has.rows has.tiled c.args.head.page c.args.head.slot has.kept has.there fields has.fits says.0)))
    c.in_err-read_rest.ensures.cause)

pub returns-clause-cause : goal.returns-clause-cause
returns-clause-cause g c =
    let old : PageState = g.P.Pages.state c.args.pages.now in
    let now : PageState = g.P.Pages.state c.read_head.new.pages in
    let new : PageState = g.P.Pages.state c.read_rest.new.pages in
    let ok = c.in_ok-fields.ensures in
    let w : Went g.P.Pages.tells c.args.slot old now = went g.P.Pages.tells 1 c.args.slot _ old now ok.loads ok.answers ok.cause in
    let cause = cause_ok _ (OfPieces g.P.Pages.tells g.P.Pages.logged (HasRow c.args.head) (rows_file old c.args.slot) old new) now new c.in_ok-read_rest.ensures.cause in
    cause_read g.P.Pages.tells c.args.slot (OfPieces g.P.Pages.tells g.P.Pages.logged (HasRow c.args.head) (rows_file old c.args.slot) old new) (OfPieces g.P.Pages.tells g.P.Pages.logged (HasRow c.args.head) (rows_file old c.args.slot) old new) old now new None w (λ f k. k) cause

pub returns-in_err-fields-clause-cause : goal.returns-in_err-fields-clause-cause
returns-in_err-fields-clause-cause g c =
    let old : PageState = g.P.Pages.state c.args.pages.now in
    let new : PageState = g.P.Pages.state c.read_head.new.pages in
    let p = err_from_is_err_and c.from_residual.result c.from_residual.ensures.1 in
    rw (p.1, p.2) (cause_asked g.P.Pages.tells g.P.Pages.logged (HasRow c.args.head) (HasHead c.args.head) (rows_file old c.args.slot) old new _
    (λ pieces has. has_head has.is_row pieces has.rows has.tiled c.args.head.page c.args.head.slot has.kept has.there has.fits) c.in_err-fields.ensures.cause)
