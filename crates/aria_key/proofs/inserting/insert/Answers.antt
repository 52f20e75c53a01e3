use Rattle.std.proofs.Common.{◌≡◌}
use Rattle.aria_page.specs.declared.place.Part.TheVariants.{Keys}
use Rattle.aria_cache.specs.PageState.{PageState, table_file}
use Rattle.aria_keypage.specs.Item.{Item}
use Rattle.aria_key.specs.Owned.{with_entry}
use Rattle.aria_key.specs.Header.{HasHeader}
use Rattle.aria_key.specs.IndexFile.{with_walk}
use Rattle.aria_key.specs.Inserting.{CanChange, CanInsert}
use Rattle.aria_key.specs.Reading.{keys_file, OfTree}
use Rattle.aria_key.proofs.Later.{Went, went}
use Rattle.aria_key.proofs.Sparing.{tree_later}
use Rattle.aria_key.proofs.Adding.{read-ready, insert-change, inserted-trees, inserted-header}
use Rattle.aria_key.proofs.Keeping.{holds-then, says-then, can-then, trees-back, header-back, one-header}
use Rattle.aria_key.proofs.inserting.insert.Goals as goal

pub returns-in-Ok-clause-trees : goal.returns-in-Ok-clause-trees
returns-in-Ok-clause-trees g c = λ t keys walks low held absent few.
    let slot = c.args.slot in
    let old : PageState = g.P.Pages.state c.args.pages.now in
    let mid : PageState = g.P.Pages.state c.read_head.new.pages in
    let new : PageState = g.P.Pages.state c.change.new.pages in
    let file = keys_file old slot in
    let other = keys_file mid slot in
    let e = c.in_ok-head.ensures in
    let h = c.in_ok-head.head in
    let x : Item = record { entry = c.args.entry.now; to = c.args.target } in
    let same : keys_file mid slot ≡ file = λ i. table_file (e.loads.slots.name i slot) Keys in
    let r = read-ready keys (mid.counts other) (mid.bodies other) walks c.args.key h.root h.free c.args.entry.now low (holds-then keys walks file other old mid same (e.loads.bodies t) e.loads.counts held) absent few (says-then c.args.key h.root h.free file other old mid same (e.loads.bodies t) (e.head t)) in
    trees-back keys (with_walk c.args.key (with_entry x (walks c.args.key)) walks) file other new same (inserted-trees keys (mid.counts other) (new.counts other) (new.bodies other) walks c.args.key x r.held.header (rw c.in-Ok.is at (c.change.ensures.inserted t keys walks r)))

pub returns-in-Ok-clause-header : goal.returns-in-Ok-clause-header
returns-in-Ok-clause-header g c = λ t keys walks header low held absent few there.
    let slot = c.args.slot in
    let old : PageState = g.P.Pages.state c.args.pages.now in
    let mid : PageState = g.P.Pages.state c.read_head.new.pages in
    let new : PageState = g.P.Pages.state c.change.new.pages in
    let file = keys_file old slot in
    let other = keys_file mid slot in
    let e = c.in_ok-head.ensures in
    let h = c.in_ok-head.head in
    let x : Item = record { entry = c.args.entry.now; to = c.args.target } in
    let same : keys_file mid slot ≡ file = λ i. table_file (e.loads.slots.name i slot) Keys in
    let r = read-ready keys (mid.counts other) (mid.bodies other) walks c.args.key h.root h.free c.args.entry.now low (holds-then keys walks file other old mid same (e.loads.bodies t) e.loads.counts held) absent few (says-then c.args.key h.root h.free file other old mid same (e.loads.bodies t) (e.head t)) in
    header-back c.args.key r.held.header header file other old mid new same e.loads.counts (one-header file other r.held.header header old mid same (e.loads.bodies t) r.held.file.there there)
    (inserted-header keys (mid.counts other) (new.counts other) (new.bodies other) walks c.args.key x r.held.header (rw c.in-Ok.is at (c.change.ensures.inserted t keys walks r)))

pub returns-in-Err-clause-cause : goal.returns-in-Err-clause-cause
returns-in-Err-clause-cause g c =
    let tells = g.P.Pages.tells in
    let logged = g.P.Pages.logged in
    let slot = c.args.slot in
    let old : PageState = g.P.Pages.state c.args.pages.now in
    let mid : PageState = g.P.Pages.state c.read_head.new.pages in
    let new : PageState = g.P.Pages.state c.change.new.pages in
    let file = keys_file old slot in
    let other = keys_file mid slot in
    let e = c.in_ok-head.ensures in
    let h = c.in_ok-head.head in
    let same : keys_file mid slot ≡ file = λ i. table_file (e.loads.slots.name i slot) Keys in
    let first : Went tells slot old mid = went tells slot (OfTree tells logged (HasHeader old file) file old mid) old mid e.loads.slots e.answers e.cause e.loads.late in
    tree_later tells logged slot (CanChange mid other c.args.key h.root h.free c.args.entry.now) (CanInsert old file c.args.key c.args.entry.now) old mid new _ first
    (λ t a. insert-change mid other c.args.key h.root h.free c.args.entry.now (says-then c.args.key h.root h.free file other old mid same (e.loads.bodies t) (e.head t)) (can-then c.args.key c.args.entry.now file other old mid same (e.loads.bodies t) e.loads.counts a)) (rw c.in-Err.is at c.change.ensures.cause)
