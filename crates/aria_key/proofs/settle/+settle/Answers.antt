use Rattle.std.proofs.Common.{◌≡◌, ℕ, List, subst, sym}
use Rattle.std.specs.Prelude.{IfOk}
use Rattle.std.proofs.lemmas.Result.{err_from_is_err_and}
use Rattle.aria_page.specs.declared.place.Part.TheVariants.{Keys}
use Rattle.aria_host.specs.declared.file_name.FileName.{FileName}
use Rattle.aria_cache.specs.PageState.{PageState, table_file}
use Rattle.aria_keypage.specs.declared.kind.Kind.TheVariants.{Node}
use Rattle.aria_keypage.specs.Item.{Item}
use Rattle.aria_key.specs.Path.{passed}
use Rattle.aria_key.specs.Ascent.{IsPlaceable, Ascent, Regrown, CanAscend}
use Rattle.aria_key.specs.Reading.{keys_file, OfTree}
use Rattle.aria_key.proofs.Later.{Went, went}
use Rattle.aria_key.proofs.Sparing.{more_cause, tree_later}
use Rattle.aria_key.proofs.Ascending.{way-ends, way-goes, way-place, way-next}
use Rattle.aria_key.proofs.settle.+settle.Goals as goal

pub returns-in_err-place-in-Some-clause-cause : goal.returns-in_err-place-in-Some-clause-cause
returns-in_err-place-in-Some-clause-cause g m c =
    let old : PageState = g.P.Pages.state c.args.pages.now in
    let new : PageState = g.P.Pages.state c.place.new.pages in
    let file = keys_file old c.args.slot in
    let x : Item = record { entry = c.args.entry.now; to = c.args.child } in
    let p = err_from_is_err_and c.from_residual.result c.from_residual.ensures.1 in
    rw (p.1, p.2) (more_cause g.P.Pages.tells g.P.Pages.logged (IsPlaceable old file c.in-Some.step.page Node c.in-Some.step.at c.args.entry.now c.args.free) (CanAscend old file c.args.key c.args.root (passed c.args.path) x c.args.free) file old new _
    (λ t asked. way-place old file c.args.key c.args.root (passed c.args.path) (passed c.pop.new.self) c.in-Some.step x c.args.free c.in-Some.ensures.passed asked) c.in_err-place-in-Some.ensures.cause)

pub returns-in-None-2-clause-settled : goal.returns-in-None-2-clause-settled
returns-in-None-2-clause-settled g m c = λ t was before levels chain walk ascent few.
    let old : PageState = g.P.Pages.state c.args.pages.now in
    let new : PageState = g.P.Pages.state c.place.new.pages in
    let file = keys_file old c.args.slot in
    let x : Item = record { entry = c.args.entry.now; to = c.args.child } in
    way-ends file was old.bodies new.bodies before (old.counts file) (new.counts file) c.args.key c.args.root levels chain walk (passed c.args.path) (passed c.pop.new.self) c.in-Some.step x c.args.free c.in-Some.ensures.passed ascent few
    (λ content left held kind within is low off. rw c.in-None-2.is at (c.in_ok-place-in-Some.ensures.placed t content left held kind within is low off))

pub returns-in-Some-2-clause-settled : goal.returns-in-Some-2-clause-settled
returns-in-Some-2-clause-settled g m c = λ t was before levels chain walk ascent few.
    let slot = c.args.slot in
    let old : PageState = g.P.Pages.state c.args.pages.now in
    let mid : PageState = g.P.Pages.state c.place.new.pages in
    let new : PageState = g.P.Pages.state c.settle.new.pages in
    let file = keys_file old slot in
    let other = keys_file mid slot in
    let d = c.in-Some-2.divided in
    let x : Item = record { entry = c.args.entry.now; to = c.args.child } in
    let same : keys_file mid slot ≡ file = λ i. table_file (c.in_ok-place-in-Some.ensures.slots.name i slot) Keys in
    let up = way-goes file other was old.bodies mid before (old.counts file) c.args.key c.args.root levels chain walk (passed c.args.path) (passed c.pop.new.self) c.in-Some.step x c.args.free d same c.in-Some.ensures.passed ascent c.in_ok-place-in-Some.ensures.short
    (λ content left held kind within is low off. rw c.in-Some-2.is at (c.in_ok-place-in-Some.ensures.placed t content left held kind within is low off)) in
    let named = subst (λ (e : List ℕ). Ascent other was mid.bodies before (mid.counts other) c.args.key c.args.root levels chain walk (passed c.pop.new.self) (record { entry = e; to = d.fresh }) d.free) (sym c.as_slice.ensures) up in
    subst (λ (f : FileName). IfOk c.settle.result (λ r. Regrown f was new.bodies before (new.counts f) c.args.key levels chain walk r.root r.free)) same (c.settle.ensures.settled t was before levels chain walk named few)

pub returns-in-Some-2-clause-cause : goal.returns-in-Some-2-clause-cause
returns-in-Some-2-clause-cause g m c =
    let tells = g.P.Pages.tells in
    let logged = g.P.Pages.logged in
    let slot = c.args.slot in
    let old : PageState = g.P.Pages.state c.args.pages.now in
    let mid : PageState = g.P.Pages.state c.place.new.pages in
    let new : PageState = g.P.Pages.state c.settle.new.pages in
    let file = keys_file old slot in
    let other = keys_file mid slot in
    let d = c.in-Some-2.divided in
    let e = c.in_ok-place-in-Some.ensures in
    let x : Item = record { entry = c.args.entry.now; to = c.args.child } in
    let y : Item = record { entry = c.as_slice.result.now; to = d.fresh } in
    let same : keys_file mid slot ≡ file = λ i. table_file (e.slots.name i slot) Keys in
    let first : Went tells slot old mid = went tells slot (OfTree tells logged (IsPlaceable old file c.in-Some.step.page Node c.in-Some.step.at c.args.entry.now c.args.free) file old mid) old mid e.slots e.answers e.cause e.late in
    tree_later tells logged slot (CanAscend mid other c.args.key c.args.root (passed c.pop.new.self) y d.free) (CanAscend old file c.args.key c.args.root (passed c.args.path) x c.args.free) old mid new _ first
    (λ t asked. subst (λ (e : List ℕ). CanAscend mid other c.args.key c.args.root (passed c.pop.new.self) (record { entry = e; to = d.fresh }) d.free) (sym c.as_slice.ensures)
    (way-next old mid file other c.args.key c.args.root (passed c.args.path) (passed c.pop.new.self) c.in-Some.step x c.args.free d same c.in-Some.ensures.passed asked
    (λ content left held kind within is low off. rw c.in-Some-2.is at (e.placed t content left held kind within is low off)) e.grows.most_is)) c.settle.ensures.cause
