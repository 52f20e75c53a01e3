use Rattle.std.proofs.Common.{ℕ, ◌+◌, ◌≤◌, List, length, sym, arith, subst}
use Rattle.aria_page.specs.declared.place.Places.{Places}
use Rattle.aria_host.specs.declared.file_name.FileName.{FileName}
use Rattle.aria_cache.specs.PageState.{PageState}
use Rattle.aria_cache.proofs.Causing.{cause_weaker}
use Rattle.aria_block.specs.declared.part_kind.PartKind.TheVariants as part
use Rattle.aria_block.specs.Causes.{rows_file}
use Rattle.aria_block.specs.Pieces.{Pieces, head_size}
use Rattle.aria_block.specs.Reading.{OfPieces}
use Rattle.aria_block.specs.PuttingBack.{TakesPartAt, MayStand, CanPutBack}
use Rattle.aria_block.proofs.ReadPages.{cause_first}
use Rattle.aria_block.proofs.RowBack.{may_stand, short_back, short_needs, back_row}
use Rattle.aria_block.proofs.Stepping.{pieces_enough}
use Rattle.aria_block.proofs.putting_back.put_back.Goals as goal

pub returns-then-not-may_stand-clause-cause : goal.returns-then-not-may_stand-clause-cause
returns-then-not-may_stand-clause-cause g c =
    let old : PageState = g.P.Pages.state c.args.pages.now in
    let new : PageState = g.P.Pages.state c.stop.new.self in
    let file : FileName = rows_file old c.args.slot in
    let row : List ℕ = c.args.row.now in
    let places : Places = c.args.places.now in
    cause_first (OfPieces g.P.Pages.tells g.P.Pages.logged (CanPutBack row places (old.counts file)) file old new) old new _ c.stop.result c.stop.ensures.fault c.stop.ensures.stops (
      c.file-file.ensures,
      λ told pieces holds can.
          let may : MayStand places (length row) (old.counts file) = may_stand row places (old.counts file) pieces can in
          let is = c.may_stand.ensures.1 (subst (MayStand places (length row)) {x = old.counts file} (sym {b = old.counts file} c.count-count.ensures.count) may) in
          let not = c.if-not-may_stand.true in absurd (cc),
    )

pub returns-then-row-gt-WHOLE_MAX-clause-rows : goal.returns-then-row-gt-WHOLE_MAX-clause-rows
returns-then-row-gt-WHOLE_MAX-clause-rows g c = λ told is_row pieces rows holds is.
    let old : PageState = g.P.Pages.state c.args.pages.now in
    let new : PageState = g.P.Pages.state c.put_long_back.new.pages in
    let file : FileName = rows_file old c.args.slot in
    back_row c.put_long_back.result is_row c.args.row.now c.args.places.now (old.counts file) (old.bodies file) (new.bodies file) pieces rows holds is (c.put_long_back.ensures.put told pieces holds.data_file)

pub returns-clause-put : goal.returns-clause-put
returns-clause-put g c = λ told pieces holds.
    let old : PageState = g.P.Pages.state c.args.pages.now in
    let new : PageState = g.P.Pages.state c.put_head_back.new.pages in
    let file : FileName = rows_file old c.args.slot in
    let row : List ℕ = c.args.row.now in
    let places : Places = c.args.places.now in
    let short : length row ≤ 5986 = omega (arith, c.if-row-gt-WHOLE_MAX.false) in
    let may : MayStand places (length row) (old.counts file) = subst (MayStand places (length row)) {y = old.counts file} c.count-count.ensures.count (c.may_stand.ensures.0 c.if-not-may_stand.false) in
    short_back row short places (old.counts file) may pieces c.put_head_back.result (old.bodies file) (new.bodies file) holds (c.put_head_back.ensures.holds told pieces holds)

pub returns-clause-rows : goal.returns-clause-rows
returns-clause-rows g c = λ told is_row pieces rows holds is.
    let old : PageState = g.P.Pages.state c.args.pages.now in
    let new : PageState = g.P.Pages.state c.put_head_back.new.pages in
    let file : FileName = rows_file old c.args.slot in
    back_row c.put_head_back.result is_row c.args.row.now c.args.places.now (old.counts file) (old.bodies file) (new.bodies file) pieces rows holds is (returns-clause-put g c told pieces holds.data_file)

pub returns-clause-cause : goal.returns-clause-cause
returns-clause-cause g c =
    let old : PageState = g.P.Pages.state c.args.pages.now in
    let new : PageState = g.P.Pages.state c.put_head_back.new.pages in
    let file : FileName = rows_file old c.args.slot in
    let row : List ℕ = c.args.row.now in
    let places : Places = c.args.places.now in
    let short : length row ≤ 5986 = omega (arith, c.if-row-gt-WHOLE_MAX.false) in
    let may : MayStand places (length row) (old.counts file) = subst (MayStand places (length row)) {y = old.counts file} c.count-count.ensures.count (c.may_stand.ensures.0 c.if-not-may_stand.false) in
    let Needs : Pieces → Type 0 = λ pieces. TakesPartAt part.Head places.head (14 + head_size (length row)) (old.counts file) (old.bodies file) in
    cause_weaker (OfPieces g.P.Pages.tells g.P.Pages.logged Needs file old new) (OfPieces g.P.Pages.tells g.P.Pages.logged (CanPutBack row places (old.counts file)) file old new) old new _
    (pieces_enough g.P.Pages.tells g.P.Pages.logged (CanPutBack row places (old.counts file)) Needs file old new (λ pieces holds can. short_needs row short places (old.counts file) may pieces (old.bodies file) holds can))
    c.put_head_back.ensures.cause
