use Rattle.std.proofs.Common.{◌≡◌, ◌∙◌, ◌+◌, ap, max}
use Rattle.aria_page.specs.declared.place.Part.TheVariants.{Keys}
use Rattle.aria_cache.specs.PageState.{PageState, Counts, table_file}
use Rattle.aria_keypage.specs.Item.{Item}
use Rattle.aria_keypage.specs.Change.{leaf_of_one}
use Rattle.aria_key.specs.Reading.{keys_file}
use Rattle.aria_key.proofs.Sparing.{written_then, some_then}
use Rattle.aria_key.proofs.Cramped.{count-then}
use Rattle.aria_key.proofs.Regrowing.{planted}
use Rattle.aria_key.proofs.inserting.plant.Goals as goal

pub returns-clause-planted : goal.returns-clause-planted
returns-clause-planted g c = λ t chain apart is.
    let slot = c.args.slot in
    let old : PageState = g.P.Pages.state c.args.pages.now in
    let mid : PageState = g.P.Pages.state c.take_page.new.pages in
    let new : PageState = g.P.Pages.state c.new_leaf.new.pages in
    let file = keys_file old slot in
    let e = c.in_ok-taken.ensures in
    let fresh = c.in_ok-taken.taken.page in
    let x : Item = record { entry = c.args.entry.now; to = c.args.target } in
    let same : keys_file mid slot ≡ file = λ i. table_file (e.loads.slots.name i slot) Keys in
    let wrote = c.in_ok-new_leaf.ensures.written t (some_then file (keys_file mid slot) fresh old.bodies mid.bodies same (e.loads.bodies t) (e.some t)) in
    planted file old.bodies new.bodies (old.counts file) (new.counts file) c.args.key chain x fresh c.in_ok-taken.taken.free apart (e.taken t chain is)
    (written_then file (keys_file mid slot) fresh (leaf_of_one c.args.key x) old.bodies mid.bodies new.bodies same (e.loads.bodies t) wrote)
    (count-then file (keys_file mid slot) (fresh + 1) mid new same c.in_ok-new_leaf.ensures.counts ∙ ap (λ (m : Counts). max (m file) (fresh + 1)) e.loads.counts)
