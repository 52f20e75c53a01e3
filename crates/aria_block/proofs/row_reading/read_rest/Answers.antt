use Rattle.std.proofs.Common.{◌≡◌, ◌∙◌, false, length, sym, ap, arith}
use Rattle.std.specs.Prelude.{is_some, nat_lt}
use Rattle.std.proofs.lemmas.Bool.Decides.{nat_tests}
use Rattle.std.proofs.lemmas.Result.{err_from_is_err_and}
use Rattle.aria_cache.specs.PageState.{PageState}
use Rattle.aria_block.specs.Causes.{rows_file}
use Rattle.aria_block.specs.Pieces.{tail_of, tail_size}
use Rattle.aria_block.specs.Reading.{OfPieces, HasTail, HasAllBlobs, HasAllRest}
use Rattle.aria_block.proofs.Measuring.{tail_long, no_tail_left, rest_is}
use Rattle.aria_block.proofs.ReadPages.{Went, went, holds_then, pieces_then, cause_read, loads_both, loads_upto, cause_ok, cause_asked}
use Rattle.aria_block.proofs.row_reading.read_rest.Goals as goal

pub returns-in_err-read_blobs-clause-cause : goal.returns-in_err-read_blobs-clause-cause
returns-in_err-read_blobs-clause-cause g c =
    let old : PageState = g.P.Pages.state c.args.pages.now in
    let new : PageState = g.P.Pages.state c.read_blobs.new.pages in
    let p = err_from_is_err_and c.from_residual.result c.from_residual.ensures.1 in
    rw (p.1, p.2) (cause_asked g.P.Pages.tells g.P.Pages.logged (HasAllRest c.args.head.now) (HasAllBlobs c.args.head.now) (rows_file old c.args.slot) old new _ (λ pieces has. (has.0, has.1.blobs)) c.in_err-read_blobs.ensures.cause)

pub returns-in-None-clause-loads : goal.returns-in-None-clause-loads
returns-in-None-clause-loads g c = loads_upto g.P.Pages.tells 9 10 (g.P.Pages.state c.args.pages.now) (g.P.Pages.state c.read_blobs.new.pages) c.in_ok-read_blobs.ensures.loads (omega arith)

pub returns-in-None-clause-rest : goal.returns-in-None-clause-rest
returns-in-None-clause-rest g c = λ told pieces row holds has start.
    let none : nat_lt 0 (tail_size (length row)) ≡ false = sym (sym (ap is_some c.in-None.is) ∙ has.some) in
    no_tail_left row c.read_blobs.new.out (grind (arith, nat_tests)) (c.in_ok-read_blobs.ensures.blobs told pieces row holds has.blobs start)

pub returns-in-None-clause-cause : goal.returns-in-None-clause-cause
returns-in-None-clause-cause g c = cause_ok _ _ (g.P.Pages.state c.args.pages.now) (g.P.Pages.state c.read_blobs.new.pages) c.in_ok-read_blobs.ensures.cause

pub returns-in-Some-clause-loads : goal.returns-in-Some-clause-loads
returns-in-Some-clause-loads g c = loads_both g.P.Pages.tells 9 1 10 (g.P.Pages.state c.args.pages.now) (g.P.Pages.state c.read_blobs.new.pages) (g.P.Pages.state c.read_tail.new.pages) c.in_ok-read_blobs.ensures.loads c.read_tail.ensures.loads (omega arith)

pub returns-in-Some-clause-rest : goal.returns-in-Some-clause-rest
returns-in-Some-clause-rest g c = λ told pieces row holds has start.
    let old : PageState = g.P.Pages.state c.args.pages.now in
    let now : PageState = g.P.Pages.state c.read_blobs.new.pages in
    let ok = c.in_ok-read_blobs.ensures in
    let w : Went g.P.Pages.tells c.args.slot old now = went g.P.Pages.tells 9 c.args.slot _ old now ok.loads ok.answers ok.cause in
    let long : length (tail_of row) ≡ c.tail_size.result = tail_long row ∙ ap tail_size (sym has.blobs.len) ∙ sym c.tail_size.ensures in
    rest_is c.read_tail.result row c.read_blobs.new.out c.read_tail.new.out (ok.blobs told pieces row holds has.blobs start)
    (c.read_tail.ensures.tail told pieces (tail_of row) (holds_then g.P.Pages.tells c.args.slot old now pieces w told holds) (has.tail c.in-Some.place c.in-Some.is) long)

pub returns-in-Some-clause-cause : goal.returns-in-Some-clause-cause
returns-in-Some-clause-cause g c =
    let old : PageState = g.P.Pages.state c.args.pages.now in
    let now : PageState = g.P.Pages.state c.read_blobs.new.pages in
    let new : PageState = g.P.Pages.state c.read_tail.new.pages in
    let ok = c.in_ok-read_blobs.ensures in
    let w : Went g.P.Pages.tells c.args.slot old now = went g.P.Pages.tells 9 c.args.slot _ old now ok.loads ok.answers ok.cause in
    cause_read g.P.Pages.tells c.args.slot (OfPieces g.P.Pages.tells g.P.Pages.logged (HasTail c.in-Some.place c.tail_size.result) (rows_file now c.args.slot) now new) (OfPieces g.P.Pages.tells g.P.Pages.logged (HasAllRest c.args.head.now) (rows_file old c.args.slot) old new) old now new _ w
    (pieces_then g.P.Pages.tells g.P.Pages.logged c.args.slot (HasAllRest c.args.head.now) (HasTail c.in-Some.place c.tail_size.result) old now new w (λ pieces told holds has. record {
      bytes = tail_of has.0;
      there = has.1.tail c.in-Some.place c.in-Some.is;
      long = tail_long has.0 ∙ ap tail_size (sym has.1.blobs.len) ∙ sym c.tail_size.ensures;
    })) c.read_tail.ensures.cause
