use Rattle.std.proofs.Common.{ℕ, subst}
use Rattle.aria_host.specs.declared.file_name.FileName.{FileName}
use Rattle.aria_cache.specs.PageState.{PageState}
use Rattle.aria_cache.specs.Calls.{fault_of}
use Rattle.aria_cache.specs.Causes.{HasPagesCause}
use Rattle.aria_block.specs.declared.part_kind.PartKind.TheVariants as part
use Rattle.aria_block.specs.Causes.{rows_file}
use Rattle.aria_block.specs.Pieces.{Pieces}
use Rattle.aria_block.specs.Reading.{OfPieces}
use Rattle.aria_block.specs.PuttingBack.{TakesPartAt}
use Rattle.aria_block.proofs.PartsBack.{tail_back}
use Rattle.aria_block.proofs.putting_back.put_tail_back.Goals as goal

pub returns-clause-holds : goal.returns-clause-holds
returns-clause-holds g c = λ told pieces holds.
    let old : PageState = g.P.Pages.state c.args.pages.now in
    let new : PageState = g.P.Pages.state c.put_part_back.new.pages in
    let file : FileName = rows_file old c.args.slot in
    rw c.in-Some.is
    (tail_back c.put_part_back.result c.args.row.now c.last_bytes-bytes.result.now c.in-Some.place (old.counts file) (new.bodies file) pieces c.last_bytes-bytes.ensures.is (rw c.in-Some.is at c.requires.asked)
    (c.put_part_back.ensures.free told pieces holds) (c.put_part_back.ensures.holds told pieces holds))

pub returns-clause-cause : goal.returns-clause-cause
returns-clause-cause g c =
    let old : PageState = g.P.Pages.state c.args.pages.now in
    let new : PageState = g.P.Pages.state c.put_part_back.new.pages in
    let file : FileName = rows_file old c.args.slot in
    rw c.in-Some.is
    (subst (λ (n : ℕ). HasPagesCause (OfPieces g.P.Pages.tells g.P.Pages.logged (λ (pieces : Pieces). TakesPartAt part.Tail c.in-Some.place n (old.counts file) (old.bodies file)) file old new) old new (fault_of c.put_part_back.result))
    c.last_bytes-bytes.ensures.len c.put_part_back.ensures.cause)
