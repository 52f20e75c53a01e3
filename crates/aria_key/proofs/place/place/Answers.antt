use Rattle.std.proofs.Common.{◌≡◌, ◌∙◌, ◌+◌, ap, max}
use Rattle.std.proofs.lemmas.Result.{err_from_is_err_and}
use Rattle.aria_page.specs.declared.place.Part.TheVariants.{Keys}
use Rattle.aria_cache.specs.PageState.{PageState, Counts, table_file}
use Rattle.aria_keypage.specs.Item.{Item}
use Rattle.aria_key.specs.Held.{Takes}
use Rattle.aria_key.specs.Ascent.{IsPlaceable, IsCramped}
use Rattle.aria_key.specs.Reading.{keys_file, OfKeyPage}
use Rattle.aria_key.proofs.Later.{Went, went}
use Rattle.aria_key.proofs.Sparing.{tree_later, held_then}
use Rattle.aria_key.proofs.Cramped.{cramped-then, half-then, chain-then, taken-then, low-then, count-then}
use Rattle.aria_key.proofs.place.place.Goals as goal

pub returns-in_err-divided-in-false-clause-cause : goal.returns-in_err-divided-in-false-clause-cause
returns-in_err-divided-in-false-clause-cause g c =
    let tells = g.P.Pages.tells in
    let logged = g.P.Pages.logged in
    let slot = c.args.slot in
    let old : PageState = g.P.Pages.state c.args.pages.now in
    let mid : PageState = g.P.Pages.state c.put.new.pages in
    let new : PageState = g.P.Pages.state c.place_in_half.new.pages in
    let file = keys_file old slot in
    let other = keys_file mid slot in
    let e = c.in_ok-put.ensures in
    let x : Item = record { entry = c.args.entry.now; to = c.args.to } in
    let same : keys_file mid slot ≡ file = λ i. table_file (e.slots.name i slot) Keys in
    let first : Went tells slot old mid = went tells slot (OfKeyPage tells logged (Takes c.args.kind c.args.at) file c.args.page old mid) old mid e.slots e.answers e.cause e.late in
    let p = err_from_is_err_and c.from_residual-in_err-divided-in-false.result c.from_residual-in_err-divided-in-false.ensures.1 in
    rw (p.1, p.2) (tree_later tells logged slot (IsCramped mid other c.args.page c.args.kind c.args.at x c.args.free) (IsPlaceable old file c.args.page c.args.kind c.args.at c.args.entry.now c.args.free) old mid new _ first
    (λ t h. let none = rw c.in-false.is at (e.put t h.content h.held) in cramped-then old mid file other c.args.page c.args.kind c.args.at x c.args.free same none.0 e.counts h none.1) c.in_err-divided-in-false.ensures.cause)

pub returns-in-true-clause-placed : goal.returns-in-true-clause-placed
returns-in-true-clause-placed g c = λ t content left held kind within chain low off.
    let old : PageState = g.P.Pages.state c.args.pages.now in
    let file = keys_file old c.args.slot in
    (rw c.in-true.is at (c.in_ok-put.ensures.put t content held), ap (λ (m : Counts). m file) c.in_ok-put.ensures.counts)

pub returns-in_ok-divided-in-false-clause-placed : goal.returns-in_ok-divided-in-false-clause-placed
returns-in_ok-divided-in-false-clause-placed g c = λ t content left held kind within chain low off.
    let slot = c.args.slot in
    let old : PageState = g.P.Pages.state c.args.pages.now in
    let mid : PageState = g.P.Pages.state c.put.new.pages in
    let new : PageState = g.P.Pages.state c.place_in_half.new.pages in
    let file = keys_file old slot in
    let other = keys_file mid slot in
    let e = c.in_ok-put.ensures in
    let d = c.in_ok-divided-in-false.divided in
    let x : Item = record { entry = c.args.entry.now; to = c.args.to } in
    let same : keys_file mid slot ≡ file = λ i. table_file (e.slots.name i slot) Keys in
    let none = rw c.in-false.is at (e.put t content held) in
    let put = c.in_ok-divided-in-false.ensures.put t content left (held_then file other c.args.page content old.bodies mid.bodies same none.0 held) kind within (chain-then file other c.args.free left old mid same none.0 chain) (low-then file other c.args.page old mid same e.counts low) off in (
      taken-then file other left d.fresh d.free old mid same none.0 e.counts put.0,
      half-then file other c.args.page d.fresh content c.args.at x d.between old.bodies mid.bodies new.bodies same none.0 put.1,
      none.1,
      count-then file other (d.fresh + 1) mid new same c.in_ok-divided-in-false.ensures.counts ∙ ap (λ (m : Counts). max (m file) (d.fresh + 1)) e.counts,
    )
