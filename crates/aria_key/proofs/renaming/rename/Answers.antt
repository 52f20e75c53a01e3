use Rattle.std.proofs.Common.{◌≡◌, ◌∙◌, ◌+◌, ◌++◌, ap, arith, max}
use Rattle.std.proofs.lemmas.Result.{err_from_is_err_and}
use Rattle.aria_page.specs.declared.place.Part.TheVariants.{Keys}
use Rattle.aria_page.specs.Change.{edits_of}
use Rattle.aria_host.specs.declared.file_name.FileName.{FileName}
use Rattle.aria_cache.specs.PageState.{PageState, Counts, with_edits, table_file}
use Rattle.aria_keypage.specs.declared.kind.Kind.TheVariants.{Node}
use Rattle.aria_keypage.specs.Item.{Item}
use Rattle.aria_keypage.specs.Change.{without_item}
use Rattle.aria_key.specs.Merging.{HasItem, IsRenamable}
use Rattle.aria_key.specs.Exchanging.{exchanged, IsTight}
use Rattle.aria_key.specs.Reading.{keys_file, OfKeyPage}
use Rattle.aria_key.proofs.Holding.{rewritten}
use Rattle.aria_key.proofs.Later.{Went, went}
use Rattle.aria_key.proofs.Sparing.{tree_later, held_then}
use Rattle.aria_key.proofs.Cramped.{half-then, chain-then, taken-then, low-then, count-then}
use Rattle.aria_key.proofs.Renamed.{tight-then}
use Rattle.aria_key.proofs.renaming.rename.Goals as goal

pub returns-in_err-divided-in-None-clause-cause : goal.returns-in_err-divided-in-None-clause-cause
returns-in_err-divided-in-None-clause-cause g c =
    let tells = g.P.Pages.tells in
    let logged = g.P.Pages.logged in
    let slot = c.args.slot in
    let old : PageState = g.P.Pages.state c.args.pages.now in
    let mid : PageState = g.P.Pages.state c.exchange_at.new.pages in
    let new : PageState = g.P.Pages.state c.rename_in_half.new.pages in
    let file = keys_file old slot in
    let other = keys_file mid slot in
    let e = c.in_ok-edits.ensures in
    let x : Item = record { entry = c.args.entry.now; to = c.args.to } in
    let first : Went tells slot old mid = went tells slot (OfKeyPage tells logged (HasItem Node c.args.at) file c.args.page old mid) old mid e.loads.slots e.answers e.cause e.loads.late in
    let p = err_from_is_err_and c.from_residual-in_err-divided-in-None.result c.from_residual-in_err-divided-in-None.ensures.1 in
    rw (p.1, p.2) (tree_later tells logged slot (IsTight mid other c.args.page c.args.at x c.args.free) (IsRenamable old file c.args.page c.args.at c.args.entry.now c.args.free) old mid new _ first
    (λ t h. tight-then old mid file other c.args.page c.args.at x c.args.free first.file (e.loads.bodies t) e.loads.counts h (rw c.in-None.is at (e.exchanged t h.content h.held h.has.0 h.has.1))) c.in_err-divided-in-None.ensures.cause)

pub returns-in_ok-edit_page-in-Some-clause-renamed : goal.returns-in_ok-edit_page-in-Some-clause-renamed
returns-in_ok-edit_page-in-Some-clause-renamed g c = λ t content left held kind within chain low off.
    let slot = c.args.slot in
    let old : PageState = g.P.Pages.state c.args.pages.now in
    let mid : PageState = g.P.Pages.state c.exchange_at.new.pages in
    let new : PageState = g.P.Pages.state c.edit_page.new.pages in
    let file : FileName = keys_file old slot in
    let other : FileName = keys_file mid slot in
    let x : Item = record { entry = c.args.entry.now; to = c.args.to } in
    let loads = c.in_ok-edits.ensures.loads in
    let same : other ≡ file = λ i. table_file (loads.slots.name i slot) Keys in
    let changes = rw c.in-Some.is at (c.in_ok-edits.ensures.exchanged t content held kind within) in
    let made = rewritten file c.args.page (c.in-Some.edits.out ++ c.in-Some.edits.put) old.bodies content (exchanged content c.args.at x) held changes in
    let edited : new.bodies ≡ with_edits other c.args.page (edits_of c.all_edits.result) mid.bodies = (c.in_ok-edit_page-in-Some.ensures.edits t).bodies in
    let now : new.bodies ≡ with_edits file c.args.page (c.in-Some.edits.out ++ c.in-Some.edits.put) old.bodies =
    ◌∙◌ {b = with_edits other c.args.page (edits_of c.all_edits.result) mid.bodies} edited (λ i. with_edits (same i) c.args.page (c.all_edits.ensures.edits i) (loads.bodies t i)) in
    let grown : new.counts file ≡ max (mid.counts file) (c.args.page + 1) = count-then file other (c.args.page + 1) mid new same c.in_ok-edit_page-in-Some.ensures.counts in
    let count : mid.counts file ≡ old.counts file = ap (λ (n : Counts). n file) loads.counts in
    (rw now made, omega (arith, grown, count, low))

pub returns-in_ok-divided-in-None-clause-renamed : goal.returns-in_ok-divided-in-None-clause-renamed
returns-in_ok-divided-in-None-clause-renamed g c = λ t content left held kind within chain low off.
    let slot = c.args.slot in
    let old : PageState = g.P.Pages.state c.args.pages.now in
    let mid : PageState = g.P.Pages.state c.exchange_at.new.pages in
    let new : PageState = g.P.Pages.state c.rename_in_half.new.pages in
    let file = keys_file old slot in
    let other = keys_file mid slot in
    let loads = c.in_ok-edits.ensures.loads in
    let d = c.in_ok-divided-in-None.divided in
    let x : Item = record { entry = c.args.entry.now; to = c.args.to } in
    let same : keys_file mid slot ≡ file = λ i. table_file (loads.slots.name i slot) Keys in
    let full = rw c.in-None.is at (c.in_ok-edits.ensures.exchanged t content held kind within) in
    let put = c.in_ok-divided-in-None.ensures.put t content left (held_then file other c.args.page content old.bodies mid.bodies same (loads.bodies t) held) kind within (chain-then file other c.args.free left old mid same (loads.bodies t) chain) (low-then file other c.args.page old mid same loads.counts low) off in (
      taken-then file other left d.fresh d.free old mid same (loads.bodies t) loads.counts put.0,
      half-then file other c.args.page d.fresh (without_item content c.args.at) c.args.at x d.between old.bodies mid.bodies new.bodies same (loads.bodies t) put.1,
      full,
      count-then file other (d.fresh + 1) mid new same c.in_ok-divided-in-None.ensures.counts ∙ ap (λ (m : Counts). max (m file) (d.fresh + 1)) loads.counts,
    )
