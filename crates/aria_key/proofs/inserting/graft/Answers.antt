use Rattle.std.proofs.Common.{◌≡◌, ◌∙◌, ℕ, List, ap, subst, sym, arith}
use Rattle.std.specs.Prelude.{IfOk, Some, None}
use Rattle.std.proofs.lemmas.Result.{err_from_is_err_and}
use Rattle.aria_page.specs.declared.place.Part.TheVariants.{Keys}
use Rattle.aria_host.specs.declared.file_name.FileName.{FileName}
use Rattle.aria_cache.specs.PageState.{PageState, Counts, table_file}
use Rattle.aria_keypage.specs.declared.kind.Kind.TheVariants.{Leaf}
use Rattle.aria_keypage.specs.Item.{Item}
use Rattle.aria_key.specs.Owned.{with_entry}
use Rattle.aria_key.specs.Path.{passed}
use Rattle.aria_key.specs.Ascent.{IsPlaceable, Ascent, Regrown, CanAscend}
use Rattle.aria_key.specs.Inserting.{CanAdd}
use Rattle.aria_key.specs.Reading.{keys_file, OfTree, HasRoot}
use Rattle.aria_key.proofs.Later.{Went, went, went_on, found_later}
use Rattle.aria_key.proofs.Sparing.{tree_later}
use Rattle.aria_key.proofs.Grafting.{clash, places-then, add-absent, add-few, add-place, add-next, open-ends, open-goes}
use Rattle.aria_key.proofs.inserting.graft.Goals as goal

pub returns-then-found-clause-cause : goal.returns-then-found-clause-cause
returns-then-found-clause-cause g c =
    let tells = g.P.Pages.tells in
    let slot = c.args.slot in
    let old : PageState = g.P.Pages.state c.args.pages.now in
    let mid : PageState = g.P.Pages.state c.find.new.pages in
    let new : PageState = g.P.Pages.state c.stop.new.self in
    let file = keys_file old slot in
    let e = c.in_ok-found.ensures in
    let f = c.in_ok-found.found in
    let asked = CanAdd old file c.args.key c.args.head.root c.args.head.free c.args.entry.now in
    let first : Went tells slot old mid = went tells slot (OfTree tells g.P.Pages.logged (HasRoot old file c.args.head.root) file old mid) old mid e.loads.slots e.answers e.cause e.loads.late in
    found_later tells slot (OfTree tells g.P.Pages.logged asked file old new) old mid new _ c.stop.result first c.stop.ensures.fault c.stop.ensures.stops (
      c.file-file.ensures,
      λ t a. clash f.same c.if-found.true (add-absent old file c.args.key c.args.head.root c.args.head.free c.args.entry.now f.page f.at f.same (passed f.path) c.requires.some a (e.found t)),
    )

pub returns-then-len-gt-STEPS_MAX-clause-cause : goal.returns-then-len-gt-STEPS_MAX-clause-cause
returns-then-len-gt-STEPS_MAX-clause-cause g c =
    let tells = g.P.Pages.tells in
    let slot = c.args.slot in
    let old : PageState = g.P.Pages.state c.args.pages.now in
    let mid : PageState = g.P.Pages.state c.find.new.pages in
    let new : PageState = g.P.Pages.state c.stop-then-len-gt-STEPS_MAX.new.self in
    let file = keys_file old slot in
    let e = c.in_ok-found.ensures in
    let f = c.in_ok-found.found in
    let asked = CanAdd old file c.args.key c.args.head.root c.args.head.free c.args.entry.now in
    let first : Went tells slot old mid = went tells slot (OfTree tells g.P.Pages.logged (HasRoot old file c.args.head.root) file old mid) old mid e.loads.slots e.answers e.cause e.loads.late in
    found_later tells slot (OfTree tells g.P.Pages.logged asked file old new) old mid new _ c.stop-then-len-gt-STEPS_MAX.result first c.stop-then-len-gt-STEPS_MAX.ensures.fault c.stop-then-len-gt-STEPS_MAX.ensures.stops (
      c.file-file.ensures,
      λ t a.
          let few = add-few old file c.args.key c.args.head.root c.args.head.free c.args.entry.now f.page f.at f.same (passed f.path) c.requires.some a (e.found t) in
          absurd (omega (arith, few, e.len, c.len.ensures, c.if-len-gt-STEPS_MAX.true)),
    )

pub returns-in_err-place-clause-cause : goal.returns-in_err-place-clause-cause
returns-in_err-place-clause-cause g c =
    let tells = g.P.Pages.tells in
    let logged = g.P.Pages.logged in
    let slot = c.args.slot in
    let old : PageState = g.P.Pages.state c.args.pages.now in
    let mid : PageState = g.P.Pages.state c.find.new.pages in
    let new : PageState = g.P.Pages.state c.place.new.pages in
    let file = keys_file old slot in
    let other = keys_file mid slot in
    let e = c.in_ok-found.ensures in
    let f = c.in_ok-found.found in
    let same : keys_file mid slot ≡ file = λ i. table_file (e.loads.slots.name i slot) Keys in
    let first : Went tells slot old mid = went tells slot (OfTree tells logged (HasRoot old file c.args.head.root) file old mid) old mid e.loads.slots e.answers e.cause e.loads.late in
    let p = err_from_is_err_and c.from_residual-in_err-place.result c.from_residual-in_err-place.ensures.1 in
    rw (p.1, p.2) (tree_later tells logged slot (IsPlaceable mid other f.page Leaf f.at c.args.entry.now c.args.head.free) (CanAdd old file c.args.key c.args.head.root c.args.head.free c.args.entry.now) old mid new _ first
    (λ t a. add-place old mid file other c.args.key c.args.head.root c.args.head.free c.args.entry.now c.args.target f.page f.at f.same (passed f.path) same (e.loads.bodies t) e.loads.counts c.requires.some c.requires.entry a (e.found t)) c.in_err-place.ensures.cause)

pub returns-in-None-clause-grafted : goal.returns-in-None-clause-grafted
returns-in-None-clause-grafted g c = λ t levels chain walk o.
    let slot = c.args.slot in
    let old : PageState = g.P.Pages.state c.args.pages.now in
    let mid : PageState = g.P.Pages.state c.find.new.pages in
    let new : PageState = g.P.Pages.state c.place.new.pages in
    let file = keys_file old slot in
    let other = keys_file mid slot in
    let e = c.in_ok-found.ensures in
    let f = c.in_ok-found.found in
    let x : Item = record { entry = c.args.entry.now; to = c.args.target } in
    let same : keys_file mid slot ≡ file = λ i. table_file (e.loads.slots.name i slot) Keys in
    let placed = places-then file other f.page f.at x c.args.head.free Leaf None new old mid same (e.loads.bodies t) e.loads.counts (λ content left held kind within is low off. rw c.in-None.is at (c.in_ok-place.ensures.placed t content left held kind within is low off)) in
    open-ends old new file c.args.key c.args.head.root c.args.head.free c.args.entry.now c.args.target f.page f.at f.same (passed f.path) levels chain walk c.requires.some o (e.found t) placed

pub returns-in-Some-clause-grafted : goal.returns-in-Some-clause-grafted
returns-in-Some-clause-grafted g c = λ t levels chain walk o.
    let slot = c.args.slot in
    let old : PageState = g.P.Pages.state c.args.pages.now in
    let mid : PageState = g.P.Pages.state c.find.new.pages in
    let now : PageState = g.P.Pages.state c.place.new.pages in
    let new : PageState = g.P.Pages.state c.settle.new.pages in
    let file = keys_file old slot in
    let other = keys_file mid slot in
    let third = keys_file now slot in
    let e = c.in_ok-found.ensures in
    let f = c.in_ok-found.found in
    let d = c.in-Some.divided in
    let x : Item = record { entry = c.args.entry.now; to = c.args.target } in
    let same : keys_file mid slot ≡ file = λ i. table_file (e.loads.slots.name i slot) Keys in
    let then_same : keys_file now slot ≡ file = (λ i. table_file (c.in_ok-place.ensures.slots.name i slot) Keys) ∙ same in
    let placed = places-then file other f.page f.at x c.args.head.free Leaf (Some d) now old mid same (e.loads.bodies t) e.loads.counts (λ content left held kind within is low off. rw c.in-Some.is at (c.in_ok-place.ensures.placed t content left held kind within is low off)) in
    let up = open-goes old now file third c.args.key c.args.head.root c.args.head.free c.args.entry.now c.args.target f.page f.at f.same (passed f.path) levels chain walk d then_same c.requires.some c.requires.entry o (e.found t) placed in
    let named = subst (λ (k : List ℕ). Ascent third old.bodies now.bodies (old.counts file) (now.counts third) c.args.key c.args.head.root levels chain (with_entry x walk) (passed f.path) (record { entry = k; to = d.fresh }) d.free) (sym c.as_slice.ensures) up.0 in
    subst (λ (h : FileName). IfOk c.settle.result (λ r. Regrown h old.bodies new.bodies (old.counts file) (new.counts h) c.args.key levels chain (with_entry x walk) r.root r.free)) then_same
    (c.settle.ensures.settled t old.bodies (old.counts file) levels chain (with_entry x walk) named up.1)

pub returns-in-Some-clause-cause : goal.returns-in-Some-clause-cause
returns-in-Some-clause-cause g c =
    let tells = g.P.Pages.tells in
    let logged = g.P.Pages.logged in
    let slot = c.args.slot in
    let old : PageState = g.P.Pages.state c.args.pages.now in
    let mid : PageState = g.P.Pages.state c.find.new.pages in
    let now : PageState = g.P.Pages.state c.place.new.pages in
    let new : PageState = g.P.Pages.state c.settle.new.pages in
    let file = keys_file old slot in
    let other = keys_file mid slot in
    let third = keys_file now slot in
    let e = c.in_ok-found.ensures in
    let q = c.in_ok-place.ensures in
    let f = c.in_ok-found.found in
    let d = c.in-Some.divided in
    let x : Item = record { entry = c.args.entry.now; to = c.args.target } in
    let y : Item = record { entry = c.as_slice.result.now; to = d.fresh } in
    let same : keys_file mid slot ≡ file = λ i. table_file (e.loads.slots.name i slot) Keys in
    let then_same : keys_file now slot ≡ file = (λ i. table_file (q.slots.name i slot) Keys) ∙ same in
    let first : Went tells slot old mid = went tells slot (OfTree tells logged (HasRoot old file c.args.head.root) file old mid) old mid e.loads.slots e.answers e.cause e.loads.late in
    let second : Went tells slot mid now = went tells slot (OfTree tells logged (IsPlaceable mid other f.page Leaf f.at c.args.entry.now c.args.head.free) other mid now) mid now q.slots q.answers q.cause q.late in
    let both : Went tells slot old now = went_on tells slot old mid now first second in
    let same_counts : mid.counts other ≡ old.counts file = ap (λ (n : Counts). n other) e.loads.counts ∙ ap old.counts same in
    let now_counts : now.counts other ≡ now.counts file = ap now.counts same in
    tree_later tells logged slot (CanAscend now third c.args.key c.args.head.root (passed f.path) y d.free) (CanAdd old file c.args.key c.args.head.root c.args.head.free c.args.entry.now) old now new _ both
    (λ t a. subst (λ (k : List ℕ). CanAscend now third c.args.key c.args.head.root (passed f.path) (record { entry = k; to = d.fresh }) d.free) (sym c.as_slice.ensures)
    (add-next old now file third c.args.key c.args.head.root c.args.head.free c.args.entry.now c.args.target f.page f.at f.same (passed f.path) d then_same c.requires.some c.requires.entry a (e.found t)
    (places-then file other f.page f.at x c.args.head.free Leaf (Some d) now old mid same (e.loads.bodies t) e.loads.counts (λ content left held kind within is low off. rw c.in-Some.is at (q.placed t content left held kind within is low off)))
    (omega (arith, q.grows.most_is, same_counts, now_counts)))) c.settle.ensures.cause
