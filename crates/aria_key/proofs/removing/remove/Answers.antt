use Rattle.std.proofs.Common.{◌≡◌, ◌∙◌, ap, ℕ, List}
use Rattle.std.specs.Prelude.{OnOk, Result, Ok, Err}
use Rattle.aria_page.specs.declared.place.Part.TheVariants.{Keys}
use Rattle.aria_host.specs.declared.fault.Fault.{Fault}
use Rattle.aria_cache.specs.PageState.{PageState, table_file}
use Rattle.aria_keypage.specs.Item.{Item}
use Rattle.aria_key.specs.Owned.{without_entry}
use Rattle.aria_key.specs.Header.{HasHeader}
use Rattle.aria_key.specs.IndexFile.{HoldsTrees, with_walk}
use Rattle.aria_key.specs.Inserting.{HeaderKept}
use Rattle.aria_key.specs.Removing.{IsRemoved, CanLose, CanRemove}
use Rattle.aria_key.specs.Reading.{keys_file, OfTree}
use Rattle.aria_key.proofs.Later.{Went, went}
use Rattle.aria_key.proofs.Sparing.{tree_later}
use Rattle.aria_key.proofs.Keeping.{holds-then, says-then, trees-back, header-back, one-header}
use Rattle.aria_key.proofs.Losing.{ready_to_lose, remove_lose, remove_then, removed_trees, removed_header}
use Rattle.aria_key.proofs.removing.remove.Goals as goal

-- what follows from an answer's fact
on_ok_more : {T : Type 0} {A B : Type 0} (r : Result T Fault) → (A → B) → OnOk r A → OnOk r B
on_ok_more (Ok x) f a = f a
on_ok_more (Err e) f a = tt

pub returns-clause-trees : goal.returns-clause-trees
returns-clause-trees g c = λ t keys walks low held there few.
    let slot = c.args.slot in
    let old : PageState = g.P.Pages.state c.args.pages.now in
    let mid : PageState = g.P.Pages.state c.read_head.new.pages in
    let new : PageState = g.P.Pages.state c.lose.new.pages in
    let file = keys_file old slot in
    let other = keys_file mid slot in
    let e = c.in_ok-head.ensures in
    let h = c.in_ok-head.head in
    let same : keys_file mid slot ≡ file = λ i. table_file (e.loads.slots.name i slot) Keys in
    let r = ready_to_lose keys (mid.counts other) (mid.bodies other) walks c.args.key h.root h.free c.args.entry.now low (holds-then keys walks file other old mid same (e.loads.bodies t) e.loads.counts held) there few (says-then c.args.key h.root h.free file other old mid same (e.loads.bodies t) (e.head t)) in
    on_ok_more c.lose.result
    (λ is. trees-back keys (with_walk c.args.key (without_entry c.args.entry.now (walks c.args.key)) walks) file other new same (removed_trees keys (mid.counts other) (new.counts other) (new.bodies other) walks c.args.key c.args.entry.now r.held.header is))
    (c.lose.ensures.removed t keys walks r)

pub returns-clause-header : goal.returns-clause-header
returns-clause-header g c = λ t keys walks header low held here few there.
    let slot = c.args.slot in
    let old : PageState = g.P.Pages.state c.args.pages.now in
    let mid : PageState = g.P.Pages.state c.read_head.new.pages in
    let new : PageState = g.P.Pages.state c.lose.new.pages in
    let file = keys_file old slot in
    let other = keys_file mid slot in
    let e = c.in_ok-head.ensures in
    let h = c.in_ok-head.head in
    let same : keys_file mid slot ≡ file = λ i. table_file (e.loads.slots.name i slot) Keys in
    let r = ready_to_lose keys (mid.counts other) (mid.bodies other) walks c.args.key h.root h.free c.args.entry.now low (holds-then keys walks file other old mid same (e.loads.bodies t) e.loads.counts held) here few (says-then c.args.key h.root h.free file other old mid same (e.loads.bodies t) (e.head t)) in
    on_ok_more c.lose.result
    (λ is. header-back c.args.key r.held.header header file other old mid new same e.loads.counts (one-header file other r.held.header header old mid same (e.loads.bodies t) r.held.file.there there)
    (removed_header keys (mid.counts other) (new.counts other) (new.bodies other) walks c.args.key c.args.entry.now r.held.header is))
    (c.lose.ensures.removed t keys walks r)

pub returns-clause-cause : goal.returns-clause-cause
returns-clause-cause g c =
    let tells = g.P.Pages.tells in
    let logged = g.P.Pages.logged in
    let slot = c.args.slot in
    let old : PageState = g.P.Pages.state c.args.pages.now in
    let mid : PageState = g.P.Pages.state c.read_head.new.pages in
    let new : PageState = g.P.Pages.state c.lose.new.pages in
    let file = keys_file old slot in
    let other = keys_file mid slot in
    let e = c.in_ok-head.ensures in
    let h = c.in_ok-head.head in
    let same : keys_file mid slot ≡ file = λ i. table_file (e.loads.slots.name i slot) Keys in
    let first : Went tells slot old mid = went tells slot (OfTree tells logged (HasHeader old file) file old mid) old mid e.loads.slots e.answers e.cause e.loads.late in
    tree_later tells logged slot (CanLose mid other c.args.key h.root h.free c.args.entry.now) (CanRemove old file c.args.key c.args.entry.now) old mid new _ first
    (λ t a. remove_lose mid other c.args.key h.root h.free c.args.entry.now (says-then c.args.key h.root h.free file other old mid same (e.loads.bodies t) (e.head t)) (remove_then c.args.key c.args.entry.now file other old mid same (e.loads.bodies t) e.loads.counts a)) c.lose.ensures.cause
