use Rattle.std.proofs.Common.{refl, ◌≡◌, ◌∙◌, ◌++◌, ◌∷◌, [], ℕ, ◌≤◌, ◌+◌, Bool, true, false, IsTrue, List, ap, subst, sym, arith}
use Rattle.std.specs.Prelude.{IfOk, ⊤, Some}
use Rattle.std.proofs.lemmas.Result.{err_from_is_err_and}
use Rattle.aria_page.specs.declared.place.Part.TheVariants.{Keys}
use Rattle.aria_host.specs.declared.file_name.FileName.{FileName}
use Rattle.aria_cache.specs.PageState.{PageState, Bodies, Counts, table_file}
use Rattle.aria_keypage.specs.Item.{Item}
use Rattle.aria_keypage.specs.Content.{Content}
use Rattle.aria_key.specs.declared.thickening.Lift.{Lift}
use Rattle.aria_key.specs.declared.thickening.Lift.TheVariants.{Stands, Thin, Parted}
use Rattle.aria_key.specs.declared.path.Passed.{Passed}
use Rattle.aria_key.specs.Path.{passed}
use Rattle.aria_key.specs.Tree.{Placed}
use Rattle.aria_key.specs.Held.{HasContent}
use Rattle.aria_key.specs.Ascent.{Ascent, Regrown, CanAscend}
use Rattle.aria_key.specs.Merging.{IsThin, IsWeighed}
use Rattle.aria_key.specs.Thinning.{Thinned, Reduced}
use Rattle.aria_key.specs.Lifting.{IsLifted, CanLift, CanThicken, Owing}
use Rattle.aria_key.specs.Reading.{keys_file, OfKeyPage, OfTree}
use Rattle.aria_key.proofs.Later.{Went, went, went_on}
use Rattle.aria_key.proofs.Sparing.{tree_later}
use Rattle.aria_key.proofs.Thick.{thin_page, thick_root, thick_enough}
use Rattle.aria_key.proofs.Lifted.{key_cause}
use Rattle.aria_key.proofs.Homeward.{thinned_then, reduced_then, thin_then, lifts, thickens, ascends, owed_ok}
use Rattle.aria_key.proofs.thickening.+thicken.Goals as goal

is_true : (b : Bool) → IsTrue b → b ≡ true
is_true true t = refl
is_true false t = absurd cc

pub returns-in_err-is_low_page-in-Some-clause-cause : goal.returns-in_err-is_low_page-in-Some-clause-cause
returns-in_err-is_low_page-in-Some-clause-cause g m c =
    let old : PageState = g.P.Pages.state c.args.pages.now in
    let new : PageState = g.P.Pages.state c.is_low_page.new.pages in
    let file = keys_file old c.args.slot in
    let p = err_from_is_err_and c.from_residual.result c.from_residual.ensures.1 in
    rw (p.1, p.2) (key_cause g.P.Pages.tells g.P.Pages.logged (λ k. ⊤) (CanThicken old file c.args.key c.args.root (passed c.args.path) c.args.page c.args.free) file c.args.page old new _
    (λ t a.
    let is = thin_page file a.was old.bodies a.before (old.counts file) c.args.key c.args.root a.levels a.chain a.walk (passed c.args.path) c.args.page c.args.free a.thinned in
    record { low = is.low; content = is.content; held = is.held; asked = tt }) c.in_err-is_low_page-in-Some.ensures.cause)

pub returns-then-not-branch-clause-thickened : goal.returns-then-not-branch-clause-thickened
returns-then-not-branch-clause-thickened g m c = λ t was before levels chain walk thin few.
    let old : PageState = g.P.Pages.state c.args.pages.now in
    let mid : PageState = g.P.Pages.state c.is_low_page.new.pages in
    let file = keys_file old c.args.slot in
    let e = c.in_ok-is_low_page-in-Some.ensures in
    reduced_then file file was old mid before c.args.key c.args.root levels chain walk c.args.free refl (e.loads.bodies t) e.loads.counts
    (thick_enough file was old.bodies before (old.counts file) c.args.key c.args.root levels chain walk (passed c.args.path) c.args.page c.args.free
    (λ k held. (e.low t k held).1 c.if-not-branch.true) (omega (arith, few)) thin)

pub returns-in_err-head-in-Some-clause-cause : goal.returns-in_err-head-in-Some-clause-cause
returns-in_err-head-in-Some-clause-cause g m c =
    let tells = g.P.Pages.tells in
    let logged = g.P.Pages.logged in
    let slot = c.args.slot in
    let old : PageState = g.P.Pages.state c.args.pages.now in
    let mid : PageState = g.P.Pages.state c.is_low_page.new.pages in
    let new : PageState = g.P.Pages.state c.step_up.new.pages in
    let file = keys_file old slot in
    let other = keys_file mid slot in
    let e = c.in_ok-is_low_page-in-Some.ensures in
    let same : keys_file mid slot ≡ file = λ i. table_file (e.loads.slots.name i slot) Keys in
    let first : Went tells slot old mid = went tells slot (OfKeyPage tells logged (λ k. ⊤) file c.args.page old mid) old mid e.loads.slots e.answers e.cause e.loads.late in
    let p = err_from_is_err_and c.from_residual-in_err-head-in-Some.result c.from_residual-in_err-head-in-Some.ensures.1 in
    rw (p.1, p.2) (tree_later tells logged slot (CanLift mid other c.args.key c.args.root c.in-Some.step c.is_empty.result c.args.page c.args.free) (CanThicken old file c.args.key c.args.root (passed c.args.path) c.args.page c.args.free) old mid new _ first
    (λ t a. lifts old mid file other c.args.key c.args.root (passed c.args.path) (passed c.pop.new.self) c.in-Some.step c.is_empty.result c.args.page c.args.free same (e.loads.bodies t) e.loads.counts c.in-Some.ensures.passed c.is_empty.ensures.empty
    (λ k held. (e.low t k held).0 c.if-not-branch.false) a) c.in_err-head-in-Some.ensures.cause)

pub returns-in-None-clause-thickened : goal.returns-in-None-clause-thickened
returns-in-None-clause-thickened g m c = λ t was before levels chain walk thin few.
    let old : PageState = g.P.Pages.state c.args.pages.now in
    let file = keys_file old c.args.slot in
    thick_root file was old.bodies before (old.counts file) c.args.key c.args.root levels chain walk (passed c.args.path) c.args.page c.args.free c.in-None.ensures.passed.0 (omega (arith, few)) thin

pub returns-in-Stands-clause-thickened : goal.returns-in-Stands-clause-thickened
returns-in-Stands-clause-thickened g m c = λ t was before levels chain walk thin few.
    let slot = c.args.slot in
    let old : PageState = g.P.Pages.state c.args.pages.now in
    let mid : PageState = g.P.Pages.state c.is_low_page.new.pages in
    let new : PageState = g.P.Pages.state c.step_up.new.pages in
    let file = keys_file old slot in
    let other = keys_file mid slot in
    let e = c.in_ok-is_low_page-in-Some.ensures in
    let same : keys_file mid slot ≡ file = λ i. table_file (e.loads.slots.name i slot) Keys in
    let given = c.in_ok-head-in-Some.ensures.lifted t was before levels chain walk (passed c.pop.new.self)
    (thinned_then file other was old mid before c.args.key c.args.root levels chain walk (passed c.args.path) (passed c.pop.new.self ++ c.in-Some.step ∷ []) c.args.page c.args.free same (e.loads.bodies t) e.loads.counts c.in-Some.ensures.passed thin) few
    (thin_then file other old.bodies mid.bodies c.args.page same (e.loads.bodies t) (λ k held. (e.low t k held).0 c.if-not-branch.false)) c.is_empty.ensures.empty in
    let at : Reduced other was new.bodies before (new.counts other) c.args.key levels chain walk c.in-Stands.head.root c.in-Stands.head.free =
    subst (λ (x : Lift). IsLifted other was new.bodies before (new.counts other) c.args.key c.args.root levels chain walk (passed c.pop.new.self) c.in-Some.step.page x) c.in-Stands.is given in
    subst (λ (f : FileName). Reduced f was new.bodies before (new.counts f) c.args.key levels chain walk c.in-Stands.head.root c.in-Stands.head.free) same at

pub returns-in-Thin-clause-thickened : goal.returns-in-Thin-clause-thickened
returns-in-Thin-clause-thickened g m c = λ t was before levels chain walk thin few.
    let slot = c.args.slot in
    let old : PageState = g.P.Pages.state c.args.pages.now in
    let mid : PageState = g.P.Pages.state c.is_low_page.new.pages in
    let now : PageState = g.P.Pages.state c.step_up.new.pages in
    let new : PageState = g.P.Pages.state c.thicken.new.pages in
    let file = keys_file old slot in
    let other = keys_file mid slot in
    let third = keys_file now slot in
    let e = c.in_ok-is_low_page-in-Some.ensures in
    let q = c.in_ok-head-in-Some.ensures in
    let same : keys_file mid slot ≡ file = λ i. table_file (e.loads.slots.name i slot) Keys in
    let then_same : keys_file now slot ≡ other = λ i. table_file (q.slots.name i slot) Keys in
    let given = q.lifted t was before levels chain walk (passed c.pop.new.self)
    (thinned_then file other was old mid before c.args.key c.args.root levels chain walk (passed c.args.path) (passed c.pop.new.self ++ c.in-Some.step ∷ []) c.args.page c.args.free same (e.loads.bodies t) e.loads.counts c.in-Some.ensures.passed thin) few
    (thin_then file other old.bodies mid.bodies c.args.page same (e.loads.bodies t) (λ k held. (e.low t k held).0 c.if-not-branch.false)) c.is_empty.ensures.empty in
    let at : Thinned other was now.bodies before (now.counts other) c.args.key c.args.root levels chain walk (passed c.pop.new.self) c.in-Some.step.page c.in-Thin.next =
    subst (λ (x : Lift). IsLifted other was now.bodies before (now.counts other) c.args.key c.args.root levels chain walk (passed c.pop.new.self) c.in-Some.step.page x) c.in-Thin.is given in
    subst (λ (f : FileName). IfOk c.thicken.result (λ r. Reduced f was new.bodies before (new.counts f) c.args.key levels chain walk r.root r.free)) (then_same ∙ same)
    (c.thicken.ensures.thickened t was before levels chain walk (subst (λ (f : FileName). Thinned f was now.bodies before (now.counts f) c.args.key c.args.root levels chain walk (passed c.pop.new.self) c.in-Some.step.page c.in-Thin.next) (sym then_same) at) few)

pub returns-in-Thin-clause-cause : goal.returns-in-Thin-clause-cause
returns-in-Thin-clause-cause g m c =
    let tells = g.P.Pages.tells in
    let logged = g.P.Pages.logged in
    let slot = c.args.slot in
    let old : PageState = g.P.Pages.state c.args.pages.now in
    let mid : PageState = g.P.Pages.state c.is_low_page.new.pages in
    let now : PageState = g.P.Pages.state c.step_up.new.pages in
    let new : PageState = g.P.Pages.state c.thicken.new.pages in
    let file = keys_file old slot in
    let other = keys_file mid slot in
    let third = keys_file now slot in
    let e = c.in_ok-is_low_page-in-Some.ensures in
    let q = c.in_ok-head-in-Some.ensures in
    let same : keys_file mid slot ≡ file = λ i. table_file (e.loads.slots.name i slot) Keys in
    let then_same : keys_file now slot ≡ other = λ i. table_file (q.slots.name i slot) Keys in
    let first : Went tells slot old mid = went tells slot (OfKeyPage tells logged (λ k. ⊤) file c.args.page old mid) old mid e.loads.slots e.answers e.cause e.loads.late in
    let second : Went tells slot mid now = went tells slot (OfTree tells logged (CanLift mid other c.args.key c.args.root c.in-Some.step c.is_empty.result c.args.page c.args.free) other mid now) mid now q.slots q.answers q.cause q.late in
    let grew : now.counts ≡ mid.counts = rw c.in-Thin.is at q.grows in
    let counts : now.counts third ≡ old.counts file = ap (λ (k : Counts). k third) grew ∙ ap mid.counts then_same ∙ ap (λ (k : Counts). k other) e.loads.counts ∙ ap old.counts same in
    tree_later tells logged slot (CanThicken now third c.args.key c.args.root (passed c.pop.new.self) c.in-Some.step.page c.in-Thin.next) (CanThicken old file c.args.key c.args.root (passed c.args.path) c.args.page c.args.free) old now new _ (went_on tells slot old mid now first second)
    (λ t a.
    let given = q.lifted t a.was a.before a.levels a.chain a.walk (passed c.pop.new.self)
    (thinned_then file other a.was old mid a.before c.args.key c.args.root a.levels a.chain a.walk (passed c.args.path) (passed c.pop.new.self ++ c.in-Some.step ∷ []) c.args.page c.args.free same (e.loads.bodies t) e.loads.counts c.in-Some.ensures.passed a.thinned) a.few
    (thin_then file other old.bodies mid.bodies c.args.page same (e.loads.bodies t) (λ k held. (e.low t k held).0 c.if-not-branch.false)) c.is_empty.ensures.empty in
    let at : Thinned other a.was now.bodies a.before (now.counts other) c.args.key c.args.root a.levels a.chain a.walk (passed c.pop.new.self) c.in-Some.step.page c.in-Thin.next =
    subst (λ (x : Lift). IsLifted other a.was now.bodies a.before (now.counts other) c.args.key c.args.root a.levels a.chain a.walk (passed c.pop.new.self) c.in-Some.step.page x) c.in-Thin.is given in
    thickens old now file third c.args.key c.args.root (passed c.args.path) (passed c.pop.new.self) c.in-Some.step c.args.page c.args.free c.in-Thin.next a c.in-Some.ensures.passed counts
    (subst (λ (f : FileName). Thinned f a.was now.bodies a.before (now.counts f) c.args.key c.args.root a.levels a.chain a.walk (passed c.pop.new.self) c.in-Some.step.page c.in-Thin.next) (sym then_same) at)) c.thicken.ensures.cause

pub returns-in-Parted-clause-thickened : goal.returns-in-Parted-clause-thickened
returns-in-Parted-clause-thickened g m c = λ t was before levels chain walk thin few.
    let slot = c.args.slot in
    let old : PageState = g.P.Pages.state c.args.pages.now in
    let mid : PageState = g.P.Pages.state c.is_low_page.new.pages in
    let now : PageState = g.P.Pages.state c.step_up.new.pages in
    let new : PageState = g.P.Pages.state c.settle.new.pages in
    let file = keys_file old slot in
    let other = keys_file mid slot in
    let third = keys_file now slot in
    let e = c.in_ok-is_low_page-in-Some.ensures in
    let q = c.in_ok-head-in-Some.ensures in
    let d = c.in-Parted.divided in
    let x : Item = record { entry = d.between; to = d.fresh } in
    let same : keys_file mid slot ≡ file = λ i. table_file (e.loads.slots.name i slot) Keys in
    let then_same : keys_file now slot ≡ other = λ i. table_file (q.slots.name i slot) Keys in
    let given = q.lifted t was before levels chain walk (passed c.pop.new.self)
    (thinned_then file other was old mid before c.args.key c.args.root levels chain walk (passed c.args.path) (passed c.pop.new.self ++ c.in-Some.step ∷ []) c.args.page c.args.free same (e.loads.bodies t) e.loads.counts c.in-Some.ensures.passed thin) few
    (thin_then file other old.bodies mid.bodies c.args.page same (e.loads.bodies t) (λ k held. (e.low t k held).0 c.if-not-branch.false)) c.is_empty.ensures.empty in
    let at : Owing other was now.bodies before (now.counts other) c.args.key c.args.root levels chain walk (passed c.pop.new.self) x d.free =
    subst (λ (y : Lift). IsLifted other was now.bodies before (now.counts other) c.args.key c.args.root levels chain walk (passed c.pop.new.self) c.in-Some.step.page y) c.in-Parted.is given in
    let o : Owing third was now.bodies before (now.counts third) c.args.key c.args.root levels chain walk (passed c.pop.new.self) x d.free =
    subst (λ (f : FileName). Owing f was now.bodies before (now.counts f) c.args.key c.args.root levels chain walk (passed c.pop.new.self) x d.free) (sym then_same) at in
    let named : Ascent third o.mid now.bodies o.since (now.counts third) c.args.key c.args.root o.own o.left walk (passed c.pop.new.self) (record { entry = c.as_slice.result.now; to = d.fresh }) d.free =
    subst (λ (k : List ℕ). Ascent third o.mid now.bodies o.since (now.counts third) c.args.key c.args.root o.own o.left walk (passed c.pop.new.self) (record { entry = k; to = d.fresh }) d.free) (sym c.as_slice.ensures) o.ascent in
    let own = o.few in
    subst (λ (f : FileName). IfOk c.settle.result (λ r. Reduced f was new.bodies before (new.counts f) c.args.key levels chain walk r.root r.free)) (then_same ∙ same)
    (owed_ok c.settle.result third was now.bodies new before (now.counts third) c.args.key c.args.root levels chain walk (passed c.pop.new.self) x d.free o
    (c.settle.ensures.settled t o.mid o.since o.own o.left walk named (omega (arith, few, own))))

pub returns-in-Parted-clause-cause : goal.returns-in-Parted-clause-cause
returns-in-Parted-clause-cause g m c =
    let tells = g.P.Pages.tells in
    let logged = g.P.Pages.logged in
    let slot = c.args.slot in
    let old : PageState = g.P.Pages.state c.args.pages.now in
    let mid : PageState = g.P.Pages.state c.is_low_page.new.pages in
    let now : PageState = g.P.Pages.state c.step_up.new.pages in
    let new : PageState = g.P.Pages.state c.settle.new.pages in
    let file = keys_file old slot in
    let other = keys_file mid slot in
    let third = keys_file now slot in
    let e = c.in_ok-is_low_page-in-Some.ensures in
    let q = c.in_ok-head-in-Some.ensures in
    let d = c.in-Parted.divided in
    let x : Item = record { entry = d.between; to = d.fresh } in
    let y : Item = record { entry = c.as_slice.result.now; to = d.fresh } in
    let same : keys_file mid slot ≡ file = λ i. table_file (e.loads.slots.name i slot) Keys in
    let then_same : keys_file now slot ≡ other = λ i. table_file (q.slots.name i slot) Keys in
    let first : Went tells slot old mid = went tells slot (OfKeyPage tells logged (λ k. ⊤) file c.args.page old mid) old mid e.loads.slots e.answers e.cause e.loads.late in
    let second : Went tells slot mid now = went tells slot (OfTree tells logged (CanLift mid other c.args.key c.args.root c.in-Some.step c.is_empty.result c.args.page c.args.free) other mid now) mid now q.slots q.answers q.cause q.late in
    let grew = rw c.in-Parted.is at q.grows in
    let at_third : now.counts third ≡ now.counts other = ap now.counts then_same in
    let at_mid : mid.counts other ≡ old.counts file = ap (λ (k : Counts). k other) e.loads.counts ∙ ap old.counts same in
    let most = grew.most_is in
    let counts : now.counts third ≤ old.counts file + 1 = omega (arith, most, at_third, at_mid) in
    tree_later tells logged slot (CanAscend now third c.args.key c.args.root (passed c.pop.new.self) y d.free) (CanThicken old file c.args.key c.args.root (passed c.args.path) c.args.page c.args.free) old now new _ (went_on tells slot old mid now first second)
    (λ t a.
    let given = q.lifted t a.was a.before a.levels a.chain a.walk (passed c.pop.new.self)
    (thinned_then file other a.was old mid a.before c.args.key c.args.root a.levels a.chain a.walk (passed c.args.path) (passed c.pop.new.self ++ c.in-Some.step ∷ []) c.args.page c.args.free same (e.loads.bodies t) e.loads.counts c.in-Some.ensures.passed a.thinned) a.few
    (thin_then file other old.bodies mid.bodies c.args.page same (e.loads.bodies t) (λ k held. (e.low t k held).0 c.if-not-branch.false)) c.is_empty.ensures.empty in
    let at : Owing other a.was now.bodies a.before (now.counts other) c.args.key c.args.root a.levels a.chain a.walk (passed c.pop.new.self) x d.free =
    subst (λ (k : Lift). IsLifted other a.was now.bodies a.before (now.counts other) c.args.key c.args.root a.levels a.chain a.walk (passed c.pop.new.self) c.in-Some.step.page k) c.in-Parted.is given in
    subst (λ (k : List ℕ). CanAscend now third c.args.key c.args.root (passed c.pop.new.self) (record { entry = k; to = d.fresh }) d.free) (sym c.as_slice.ensures)
    (ascends old now file third c.args.key c.args.root (passed c.args.path) (passed c.pop.new.self) c.in-Some.step c.args.page c.args.free d.free x a c.in-Some.ensures.passed counts
    (subst (λ (f : FileName). Owing f a.was now.bodies a.before (now.counts f) c.args.key c.args.root a.levels a.chain a.walk (passed c.pop.new.self) x d.free) (sym then_same) at))) c.settle.ensures.cause
