use Rattle.std.proofs.Common.{◌≡◌}
use Rattle.std.proofs.lemmas.Result.{err_from_is_err_and}
use Rattle.aria_page.specs.declared.place.Part.TheVariants.{Keys}
use Rattle.aria_cache.specs.PageState.{PageState, table_file}
use Rattle.aria_keypage.specs.Item.{Item}
use Rattle.aria_key.specs.Taking.{HasSpare}
use Rattle.aria_key.specs.Ascent.{IsCramped}
use Rattle.aria_key.specs.Reading.{keys_file, OfTree, IsOverfull}
use Rattle.aria_key.proofs.Later.{Went, went}
use Rattle.aria_key.proofs.Sparing.{tree_later, some_then, held_then}
use Rattle.aria_key.proofs.Cramped.{cramped-overfull, half-then, fresh-apart}
use Rattle.aria_key.proofs.place.place_in_half.Goals as goal

pub returns-in_err-between-clause-cause : goal.returns-in_err-between-clause-cause
returns-in_err-between-clause-cause g c =
    let tells = g.P.Pages.tells in
    let logged = g.P.Pages.logged in
    let slot = c.args.slot in
    let old : PageState = g.P.Pages.state c.args.pages.now in
    let mid : PageState = g.P.Pages.state c.take_page.new.pages in
    let new : PageState = g.P.Pages.state c.put_in_half.new.pages in
    let file = keys_file old slot in
    let other = keys_file mid slot in
    let e = c.in_ok-taken.ensures in
    let fresh = c.in_ok-taken.taken.page in
    let x : Item = record { entry = c.args.entry.now; to = c.args.to } in
    let same : keys_file mid slot ≡ file = λ i. table_file (e.loads.slots.name i slot) Keys in
    let first : Went tells slot old mid = went tells slot (OfTree tells logged (HasSpare old file c.args.free) file old mid) old mid e.loads.slots e.answers e.cause e.loads.late in
    let p = err_from_is_err_and c.from_residual-in_err-between.result c.from_residual-in_err-between.ensures.1 in
    rw (p.1, p.2) (tree_later tells logged slot (IsOverfull mid other c.args.page fresh c.args.kind c.args.at) (IsCramped old file c.args.page c.args.kind c.args.at x c.args.free) old mid new _ first
    (λ t asked. cramped-overfull old mid file other c.args.page c.args.kind c.args.at x c.args.free fresh c.in_ok-taken.taken.free same (e.loads.bodies t) e.loads.counts asked (e.taken t asked.place.left asked.place.chain) (e.some t)) c.in_err-between.ensures.cause)

pub returns-clause-put : goal.returns-clause-put
returns-clause-put g c = λ t content left held kind within chain low off.
    let slot = c.args.slot in
    let old : PageState = g.P.Pages.state c.args.pages.now in
    let mid : PageState = g.P.Pages.state c.take_page.new.pages in
    let new : PageState = g.P.Pages.state c.put_in_half.new.pages in
    let file = keys_file old slot in
    let other = keys_file mid slot in
    let e = c.in_ok-taken.ensures in
    let fresh = c.in_ok-taken.taken.page in
    let x : Item = record { entry = c.args.entry.now; to = c.args.to } in
    let same : keys_file mid slot ≡ file = λ i. table_file (e.loads.slots.name i slot) Keys in
    let is = e.taken t left chain in
    let put = c.in_ok-between.ensures.put t content (held_then file other c.args.page content old.bodies mid.bodies same (e.loads.bodies t) held) kind within
    (some_then file other fresh old.bodies mid.bodies same (e.loads.bodies t) (e.some t)) (fresh-apart (old.bodies file) (old.counts file) c.args.page fresh c.in_ok-taken.taken.free left is low off) in
    (is, half-then file other c.args.page fresh content c.args.at x c.in_ok-between.between old.bodies mid.bodies new.bodies same (e.loads.bodies t) put)
