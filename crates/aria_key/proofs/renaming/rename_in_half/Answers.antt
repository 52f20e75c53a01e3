use Rattle.std.proofs.Common.{◌≡◌, ◌∙◌, ℕ, ap, sym, subst}
use Rattle.std.proofs.lemmas.Result.{err_from_is_err_and}
use Rattle.aria_page.specs.declared.place.Part.TheVariants.{Keys}
use Rattle.aria_host.specs.declared.file_name.FileName.{FileName}
use Rattle.aria_cache.specs.PageState.{PageState, Counts, table_file}
use Rattle.aria_keypage.specs.declared.kind.Kind.TheVariants.{Node}
use Rattle.aria_keypage.specs.Item.{Item}
use Rattle.aria_keypage.specs.Content.{Content}
use Rattle.aria_keypage.specs.Change.{without_item}
use Rattle.aria_key.specs.Held.{HasContent, Rewritten, IsPutInHalf}
use Rattle.aria_key.specs.IndexFile.{IsChain}
use Rattle.aria_key.specs.Taking.{IsTaken}
use Rattle.aria_key.specs.Ascent.{IsCramped}
use Rattle.aria_key.specs.Merging.{HasItem}
use Rattle.aria_key.specs.Exchanging.{IsTight}
use Rattle.aria_key.specs.Reading.{keys_file, OfKeyPage}
use Rattle.aria_key.proofs.Later.{Went, went}
use Rattle.aria_key.proofs.Sparing.{tree_later}
use Rattle.aria_key.proofs.Cramped.{low-then}
use Rattle.aria_key.proofs.Exchanged.{place-left}
use Rattle.aria_key.proofs.Renamed.{chain-off, taken-back, half-back, tight-cramped}
use Rattle.aria_key.proofs.renaming.rename_in_half.Goals as goal

pub returns-in_err-divided-clause-cause : goal.returns-in_err-divided-clause-cause
returns-in_err-divided-clause-cause g c =
    let tells = g.P.Pages.tells in
    let logged = g.P.Pages.logged in
    let slot = c.args.slot in
    let old : PageState = g.P.Pages.state c.args.pages.now in
    let mid : PageState = g.P.Pages.state c.take_out.new.pages in
    let new : PageState = g.P.Pages.state c.place_in_half.new.pages in
    let file = keys_file old slot in
    let other = keys_file mid slot in
    let e = c.in_ok-take_out.ensures in
    let x : Item = record { entry = c.args.entry.now; to = c.args.to } in
    let first : Went tells slot old mid = went tells slot (OfKeyPage tells logged (HasItem Node c.args.at) file c.args.page old mid) old mid e.slots e.answers e.cause e.late in
    let p = err_from_is_err_and c.from_residual-in_err-divided.result c.from_residual-in_err-divided.ensures.1 in
    rw (p.1, p.2) (tree_later tells logged slot (IsCramped mid other c.args.page Node c.args.at x c.args.free) (IsTight old file c.args.page c.args.at x c.args.free) old mid new _ first
    (λ t h. tight-cramped old mid file other c.args.page c.args.at x c.args.free first.file h (e.taken t h.place.content h.place.held h.place.has.0 h.place.has.1) e.counts) c.in_err-divided.ensures.cause)

pub returns-clause-put : goal.returns-clause-put
returns-clause-put g c = λ t content left held kind within chain low off.
    let slot = c.args.slot in
    let page : ℕ = c.args.page in
    let old : PageState = g.P.Pages.state c.args.pages.now in
    let mid : PageState = g.P.Pages.state c.take_out.new.pages in
    let new : PageState = g.P.Pages.state c.place_in_half.new.pages in
    let file : FileName = keys_file old slot in
    let other : FileName = keys_file mid slot in
    let rest : Content = without_item content c.args.at in
    let e = c.in_ok-take_out.ensures in
    let d = c.in_ok-divided.divided in
    let x : Item = record { entry = c.args.entry.now; to = c.args.to } in
    let same : other ≡ file = λ i. table_file (e.slots.name i slot) Keys in
    let count : mid.counts other ≡ old.counts file = ap (λ (n : Counts). n other) e.counts ∙ ap old.counts same in
    let w : Rewritten file page rest old.bodies mid.bodies = e.taken t content held kind within in
    let there : IsChain (mid.bodies other) c.args.free left = subst (λ (f : FileName). IsChain (mid.bodies f) c.args.free left) (sym same) (chain-off file page rest old.bodies mid.bodies c.args.free left w off chain) in
    let put = c.in_ok-divided.ensures.put t rest left (subst (λ (f : FileName). HasContent (mid.bodies f) page rest) (sym same) w.here) kind (place-left content c.args.at within) there (low-then file other page old mid same e.counts low) off in
    let taken : IsTaken (mid.bodies file) (old.counts file) left d.fresh d.free = subst (λ (n : ℕ). IsTaken (mid.bodies file) n left d.fresh d.free) count (subst (λ (f : FileName). IsTaken (mid.bodies f) (mid.counts other) left d.fresh d.free) same put.0) in
    let half : IsPutInHalf file page d.fresh rest c.args.at x d.between mid.bodies new.bodies = subst (λ (f : FileName). IsPutInHalf f page d.fresh rest c.args.at x d.between mid.bodies new.bodies) same put.1 in
    (taken-back file page rest old.bodies mid.bodies (old.counts file) d.fresh d.free left w off taken, half-back file page d.fresh rest rest c.args.at x d.between old.bodies mid.bodies new.bodies w half)
