use Rattle.std.proofs.Common.{◌≡◌, ◌∙◌, ap, ℕ, List}
use Rattle.std.proofs.lemmas.Result.{err_from_is_err_and}
use Rattle.aria_page.specs.declared.place.Part.TheVariants.{Keys}
use Rattle.aria_host.specs.declared.file_name.FileName.{FileName}
use Rattle.aria_cache.specs.PageState.{PageState, table_file}
use Rattle.aria_keypage.specs.Item.{Item}
use Rattle.aria_key.specs.Owned.{without_entry}
use Rattle.aria_key.specs.Removing.{CanWithdraw, CanLose}
use Rattle.aria_key.specs.Reading.{keys_file, OfTree}
use Rattle.aria_key.proofs.Later.{Went, went}
use Rattle.aria_key.proofs.Sparing.{more_cause, page_then}
use Rattle.aria_key.proofs.Adding.{some-there}
use Rattle.aria_key.proofs.Losing.{ready_has, lose_withdraw, less_there, same_removed, set_removed}
use Rattle.aria_key.proofs.removing.lose.Goals as goal

pub returns-in_err-less-clause-cause : goal.returns-in_err-less-clause-cause
returns-in_err-less-clause-cause g c =
    let old : PageState = g.P.Pages.state c.args.pages.now in
    let new : PageState = g.P.Pages.state c.withdraw.new.pages in
    let file = keys_file old c.args.slot in
    let p = err_from_is_err_and c.from_residual.result c.from_residual.ensures.1 in
    rw (p.1, p.2) (more_cause g.P.Pages.tells g.P.Pages.logged (CanWithdraw old file c.args.key c.args.head.root c.args.head.free c.args.entry.now) (CanLose old file c.args.key c.args.head.root c.args.head.free c.args.entry.now) file old new _
    (λ t a. lose_withdraw old file c.args.key c.args.head.root c.args.head.free c.args.entry.now a) c.in_err-less.ensures.cause)

pub returns-then-is_same-clause-removed : goal.returns-then-is_same-clause-removed
returns-then-is_same-clause-removed g c = λ t keys walks r.
    let old : PageState = g.P.Pages.state c.args.pages.now in
    let mid : PageState = g.P.Pages.state c.withdraw.new.pages in
    let file = keys_file old c.args.slot in
    let e = c.in_ok-less.ensures in
    let h = c.in_ok-less.less in
    let same = c.is_same.ensures c.if-is_same.true in
    same_removed file old.bodies mid.bodies keys (old.counts file) (mid.counts file) c.args.key c.args.head.root c.args.head.free h.root h.free walks c.args.entry.now r
    (e.withdrawn t (r.held.levels c.args.key) r.held.free (walks c.args.key) (ready_has keys (old.counts file) (old.bodies file) walks c.args.key c.args.head.root c.args.head.free c.args.entry.now r)) same.0 same.1 e.grows.rose

pub returns-clause-removed : goal.returns-clause-removed
returns-clause-removed g c = λ t keys walks r.
    let slot = c.args.slot in
    let old : PageState = g.P.Pages.state c.args.pages.now in
    let mid : PageState = g.P.Pages.state c.withdraw.new.pages in
    let new : PageState = g.P.Pages.state c.write_head.new.pages in
    let file = keys_file old slot in
    let other = keys_file mid slot in
    let e = c.in_ok-less.ensures in
    let h = c.in_ok-less.less in
    let same : keys_file mid slot ≡ file = λ i. table_file (e.slots.name i slot) Keys in
    set_removed c.write_head.result old mid new file other keys c.args.key c.args.head.root c.args.head.free h.root h.free walks c.args.entry.now same r
    (e.withdrawn t (r.held.levels c.args.key) r.held.free (walks c.args.key) (ready_has keys (old.counts file) (old.bodies file) walks c.args.key c.args.head.root c.args.head.free c.args.entry.now r)) e.grows.rose c.requires.key
    c.write_head.ensures.fits.0 c.write_head.ensures.fits.1 (c.write_head.ensures.written t) c.write_head.ensures.counts

pub returns-clause-cause : goal.returns-clause-cause
returns-clause-cause g c =
    let tells = g.P.Pages.tells in
    let logged = g.P.Pages.logged in
    let slot = c.args.slot in
    let old : PageState = g.P.Pages.state c.args.pages.now in
    let mid : PageState = g.P.Pages.state c.withdraw.new.pages in
    let new : PageState = g.P.Pages.state c.write_head.new.pages in
    let file = keys_file old slot in
    let other = keys_file mid slot in
    let e = c.in_ok-less.ensures in
    let h = c.in_ok-less.less in
    let same : keys_file mid slot ≡ file = λ i. table_file (e.slots.name i slot) Keys in
    let first : Went tells slot old mid = went tells slot (OfTree tells logged (CanWithdraw old file c.args.key c.args.head.root c.args.head.free c.args.entry.now) file old mid) old mid e.slots e.answers e.cause e.late in
    page_then tells logged slot 0 (CanLose old file c.args.key c.args.head.root c.args.head.free c.args.entry.now) old mid new _ first
    (λ t a.
    let r = a.ready in
    some-there (mid.bodies other 0) r.held.header (ap (λ (f : FileName). mid.bodies f 0) same
    ∙ less_there file old.bodies mid.bodies a.keys (old.counts file) (mid.counts file) c.args.key c.args.head.root c.args.head.free h.root h.free a.walks c.args.entry.now r
    (e.withdrawn t (r.held.levels c.args.key) r.held.free (a.walks c.args.key) (ready_has a.keys (old.counts file) (old.bodies file) a.walks c.args.key c.args.head.root c.args.head.free c.args.entry.now r)))) c.write_head.ensures.cause
