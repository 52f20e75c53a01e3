use Rattle.std.proofs.Common.{◌≡◌, ◌∙◌, ◌++◌, ◌∷◌, [], ap, subst, sym, ℕ, List, Bool, ◌&&◌}
use Rattle.std.specs.Prelude.{IsSome, Some, None}
use Rattle.std.proofs.lemmas.Result.{err_from_is_err_and}
use Rattle.aria_page.specs.declared.place.Part.TheVariants.{Keys}
use Rattle.aria_host.specs.declared.file_name.FileName.{FileName}
use Rattle.aria_cache.specs.PageState.{PageState, Counts, Bodies, table_file}
use Rattle.aria_keypage.specs.Item.{Item}
use Rattle.aria_key.specs.declared.thickening.Lift.{Lift}
use Rattle.aria_key.specs.Merging.{HasPair, AreMergeable, IsRenamable}
use Rattle.aria_key.specs.Lifting.{IsEmptied, IsLifted, CanEmpty, CanLift}
use Rattle.aria_key.specs.Held.{HasContent}
use Rattle.aria_key.specs.Reading.{keys_file, OfKeyPage, OfTree}
use Rattle.aria_key.specs.Thinning.{Thinned}
use Rattle.aria_key.proofs.Later.{Went, went, went_on}
use Rattle.aria_key.proofs.Sparing.{tree_later}
use Rattle.aria_key.proofs.Lifted.{At, SideAt, side_at, Merges, merges_then, merged_at, node_at, right_at, empties, Renames, renames_then, shared_at, parted_at, lift-pair, key_cause, lift-merge, lift-empty, lift-rename}
use Rattle.aria_key.proofs.thickening.step_up.Goals as goal

pub returns-in_err-near-clause-cause : goal.returns-in_err-near-clause-cause
returns-in_err-near-clause-cause g c =
    let old : PageState = g.P.Pages.state c.args.pages.now in
    let new : PageState = g.P.Pages.state c.neighbours.new.pages in
    let file = keys_file old c.args.slot in
    let p = err_from_is_err_and c.from_residual.result c.from_residual.ensures.1 in
    rw (p.1, p.2) (key_cause g.P.Pages.tells g.P.Pages.logged (HasPair c.args.step.at) (CanLift old file c.args.key c.args.root c.args.step c.args.top c.args.page c.args.free) file c.args.step.page old new _
    (λ t a. lift-pair old file c.args.key c.args.root c.args.step c.args.top c.args.page c.args.free a) c.in_err-near.ensures.cause)

pub returns-in_err-merge-clause-cause : goal.returns-in_err-merge-clause-cause
returns-in_err-merge-clause-cause g c =
    let tells = g.P.Pages.tells in
    let logged = g.P.Pages.logged in
    let slot = c.args.slot in
    let old : PageState = g.P.Pages.state c.args.pages.now in
    let mid : PageState = g.P.Pages.state c.neighbours.new.pages in
    let new : PageState = g.P.Pages.state c.merge.new.pages in
    let file = keys_file old slot in
    let other = keys_file mid slot in
    let e = c.in_ok-near.ensures in
    let r = c.in_ok-near.near in
    let same : keys_file mid slot ≡ file = λ i. table_file (e.loads.slots.name i slot) Keys in
    let first : Went tells slot old mid = went tells slot (OfKeyPage tells logged (HasPair c.args.step.at) file c.args.step.page old mid) old mid e.loads.slots e.answers e.cause e.loads.late in
    let p = err_from_is_err_and c.from_residual-in_err-merge.result c.from_residual-in_err-merge.ensures.1 in
    rw (p.1, p.2) (tree_later tells logged slot (AreMergeable mid other r.left r.right c.as_slice.result.now) (CanLift old file c.args.key c.args.root c.args.step c.args.top c.args.page c.args.free) old mid new _ first
    (λ t a. lift-merge old mid file other c.args.key c.args.root c.args.step c.args.top c.args.page c.args.free r c.as_slice.result.now same (e.loads.bodies t) e.loads.counts c.as_slice.ensures (e.found t) a) c.in_err-merge.ensures.cause)

pub returns-in-None-clause-lifted : goal.returns-in-None-clause-lifted
returns-in-None-clause-lifted g c = λ t was before levels chain walk path thin few low top.
    let slot = c.args.slot in
    let old : PageState = g.P.Pages.state c.args.pages.now in
    let mid : PageState = g.P.Pages.state c.neighbours.new.pages in
    let now : PageState = g.P.Pages.state c.merge.new.pages in
    let new : PageState = g.P.Pages.state c.empty.new.pages in
    let file = keys_file old slot in
    let other = keys_file mid slot in
    let third = keys_file now slot in
    let e = c.in_ok-near.ensures in
    let q = c.in_ok-merge.ensures in
    let r = c.in_ok-near.near in
    let same : keys_file mid slot ≡ file = λ i. table_file (e.loads.slots.name i slot) Keys in
    let then_same : keys_file now slot ≡ file = (λ i. table_file (q.slots.name i slot) Keys) ∙ same in
    let a : At = record { file = file; was = was; old = old.bodies; before = before; count = old.counts file; key = c.args.key; root = c.args.root; levels = levels; chain = chain; walk = walk; front = path; last = c.args.step; page = c.args.page; free = c.args.free } in
    let v : SideAt a r = side_at a r thin (e.found t) in
    let m = merged_at a r now.bodies None v low (merges_then file other r.left r.right c.as_slice.result.now r.between old.bodies mid.bodies now.bodies None same (e.loads.bodies t) c.as_slice.ensures (λ x y hx hy kind one apart. rw c.in-None.is at (q.merged t x y hx hy kind one apart))) in
    empties c.empty.result a r now new third c.args.top c.is_last.result v m few top then_same c.is_last.ensures.last (ap (λ (n : Counts). n file) (q.counts ∙ e.loads.counts)) c.empty.ensures.counts
    (c.empty.ensures.emptied t v.s.child.here.content (subst (λ (f : FileName). HasContent (now.bodies f) c.args.step.page v.s.child.here.content) (sym then_same) (node_at a r now.bodies v m)) v.n.kind v.nb.within (subst (λ (f : FileName). IsSome (now.bodies f r.right)) (sym then_same) (right_at a r now.bodies v m)) v.two.off_right)

pub returns-in-None-clause-cause : goal.returns-in-None-clause-cause
returns-in-None-clause-cause g c =
    let tells = g.P.Pages.tells in
    let logged = g.P.Pages.logged in
    let slot = c.args.slot in
    let old : PageState = g.P.Pages.state c.args.pages.now in
    let mid : PageState = g.P.Pages.state c.neighbours.new.pages in
    let now : PageState = g.P.Pages.state c.merge.new.pages in
    let new : PageState = g.P.Pages.state c.empty.new.pages in
    let file = keys_file old slot in
    let other = keys_file mid slot in
    let third = keys_file now slot in
    let e = c.in_ok-near.ensures in
    let q = c.in_ok-merge.ensures in
    let r = c.in_ok-near.near in
    let same : keys_file mid slot ≡ file = λ i. table_file (e.loads.slots.name i slot) Keys in
    let then_same : keys_file now slot ≡ file = (λ i. table_file (q.slots.name i slot) Keys) ∙ same in
    let first : Went tells slot old mid = went tells slot (OfKeyPage tells logged (HasPair c.args.step.at) file c.args.step.page old mid) old mid e.loads.slots e.answers e.cause e.loads.late in
    let second : Went tells slot mid now = went tells slot (OfTree tells logged (AreMergeable mid other r.left r.right c.as_slice.result.now) other mid now) mid now q.slots q.answers q.cause q.late in
    tree_later tells logged slot (CanEmpty now third c.args.step.page r.right r.at) (CanLift old file c.args.key c.args.root c.args.step c.args.top c.args.page c.args.free) old now new _ (went_on tells slot old mid now first second)
    (λ t a. lift-empty old now file third c.args.key c.args.root c.args.step c.args.top c.args.page c.args.free r then_same (q.counts ∙ e.loads.counts) (e.found t)
    (merges_then file other r.left r.right c.as_slice.result.now r.between old.bodies mid.bodies now.bodies None same (e.loads.bodies t) c.as_slice.ensures (λ x y hx hy kind one apart. rw c.in-None.is at (q.merged t x y hx hy kind one apart))) a) c.empty.ensures.cause

pub returns-in_err-rename-in-Some-clause-cause : goal.returns-in_err-rename-in-Some-clause-cause
returns-in_err-rename-in-Some-clause-cause g c =
    let tells = g.P.Pages.tells in
    let logged = g.P.Pages.logged in
    let slot = c.args.slot in
    let old : PageState = g.P.Pages.state c.args.pages.now in
    let mid : PageState = g.P.Pages.state c.neighbours.new.pages in
    let now : PageState = g.P.Pages.state c.merge.new.pages in
    let new : PageState = g.P.Pages.state c.rename.new.pages in
    let file = keys_file old slot in
    let other = keys_file mid slot in
    let third = keys_file now slot in
    let e = c.in_ok-near.ensures in
    let q = c.in_ok-merge.ensures in
    let r = c.in_ok-near.near in
    let same : keys_file mid slot ≡ file = λ i. table_file (e.loads.slots.name i slot) Keys in
    let then_same : keys_file now slot ≡ file = (λ i. table_file (q.slots.name i slot) Keys) ∙ same in
    let first : Went tells slot old mid = went tells slot (OfKeyPage tells logged (HasPair c.args.step.at) file c.args.step.page old mid) old mid e.loads.slots e.answers e.cause e.loads.late in
    let second : Went tells slot mid now = went tells slot (OfTree tells logged (AreMergeable mid other r.left r.right c.as_slice.result.now) other mid now) mid now q.slots q.answers q.cause q.late in
    let p = err_from_is_err_and c.from_residual-in_err-rename-in-Some.result c.from_residual-in_err-rename-in-Some.ensures.1 in
    rw (p.1, p.2) (tree_later tells logged slot (IsRenamable now third c.args.step.page r.at c.as_slice-in-Some.result.now c.args.free) (CanLift old file c.args.key c.args.root c.args.step c.args.top c.args.page c.args.free) old now new _ (went_on tells slot old mid now first second)
    (λ t a. lift-rename old now file third c.args.key c.args.root c.args.step c.args.top c.args.page c.args.free r c.in-Some.between c.as_slice-in-Some.result.now then_same (q.counts ∙ e.loads.counts) c.as_slice-in-Some.ensures (e.found t)
    (merges_then file other r.left r.right c.as_slice.result.now r.between old.bodies mid.bodies now.bodies (Some c.in-Some.between) same (e.loads.bodies t) c.as_slice.ensures (λ x y hx hy kind one apart. rw c.in-Some.is at (q.merged t x y hx hy kind one apart))) a) c.in_err-rename-in-Some.ensures.cause)

pub returns-in-None-2-clause-lifted : goal.returns-in-None-2-clause-lifted
returns-in-None-2-clause-lifted g c = λ t was before levels chain walk path thin few low top.
    let slot = c.args.slot in
    let old : PageState = g.P.Pages.state c.args.pages.now in
    let mid : PageState = g.P.Pages.state c.neighbours.new.pages in
    let now : PageState = g.P.Pages.state c.merge.new.pages in
    let new : PageState = g.P.Pages.state c.rename.new.pages in
    let file = keys_file old slot in
    let other = keys_file mid slot in
    let third = keys_file now slot in
    let e = c.in_ok-near.ensures in
    let q = c.in_ok-merge.ensures in
    let r = c.in_ok-near.near in
    let between : List ℕ = c.in-Some.between in
    let same : keys_file mid slot ≡ file = λ i. table_file (e.loads.slots.name i slot) Keys in
    let then_same : keys_file now slot ≡ file = (λ i. table_file (q.slots.name i slot) Keys) ∙ same in
    let a : At = record { file = file; was = was; old = old.bodies; before = before; count = old.counts file; key = c.args.key; root = c.args.root; levels = levels; chain = chain; walk = walk; front = path; last = c.args.step; page = c.args.page; free = c.args.free } in
    let v : SideAt a r = side_at a r thin (e.found t) in
    let m = merged_at a r now.bodies (Some between) v low (merges_then file other r.left r.right c.as_slice.result.now r.between old.bodies mid.bodies now.bodies (Some between) same (e.loads.bodies t) c.as_slice.ensures (λ x y hx hy kind one apart. rw c.in-Some.is at (q.merged t x y hx hy kind one apart))) in
    let x : Item = record { entry = c.as_slice-in-Some.result.now; to = r.right } in
    let y : Item = record { entry = between; to = r.right } in
    let name : x ≡ y = ap (λ (k : List ℕ). record { entry = k; to = r.right }) c.as_slice-in-Some.ensures in
    shared_at a r now.bodies new.bodies (new.counts file) between v m
    (renames_then file third c.args.step.page r.at x y c.args.free now new (old.counts file) None then_same name (ap (λ (n : Counts). n file) (q.counts ∙ e.loads.counts)) (λ content left held kind within is under off. rw c.in-None-2.is at (c.in_ok-rename-in-Some.ensures.renamed t content left held kind within is under off)))

pub returns-clause-lifted : goal.returns-clause-lifted
returns-clause-lifted g c = λ t was before levels chain walk path thin few low top.
    let slot = c.args.slot in
    let old : PageState = g.P.Pages.state c.args.pages.now in
    let mid : PageState = g.P.Pages.state c.neighbours.new.pages in
    let now : PageState = g.P.Pages.state c.merge.new.pages in
    let new : PageState = g.P.Pages.state c.rename.new.pages in
    let file = keys_file old slot in
    let other = keys_file mid slot in
    let third = keys_file now slot in
    let e = c.in_ok-near.ensures in
    let q = c.in_ok-merge.ensures in
    let r = c.in_ok-near.near in
    let between : List ℕ = c.in-Some.between in
    let same : keys_file mid slot ≡ file = λ i. table_file (e.loads.slots.name i slot) Keys in
    let then_same : keys_file now slot ≡ file = (λ i. table_file (q.slots.name i slot) Keys) ∙ same in
    let a : At = record { file = file; was = was; old = old.bodies; before = before; count = old.counts file; key = c.args.key; root = c.args.root; levels = levels; chain = chain; walk = walk; front = path; last = c.args.step; page = c.args.page; free = c.args.free } in
    let v : SideAt a r = side_at a r thin (e.found t) in
    let m = merged_at a r now.bodies (Some between) v low (merges_then file other r.left r.right c.as_slice.result.now r.between old.bodies mid.bodies now.bodies (Some between) same (e.loads.bodies t) c.as_slice.ensures (λ x y hx hy kind one apart. rw c.in-Some.is at (q.merged t x y hx hy kind one apart))) in
    let x : Item = record { entry = c.as_slice-in-Some.result.now; to = r.right } in
    let y : Item = record { entry = between; to = r.right } in
    let name : x ≡ y = ap (λ (k : List ℕ). record { entry = k; to = r.right }) c.as_slice-in-Some.ensures in
    parted_at a r now.bodies new.bodies (new.counts file) between c.in-Some-2.divided v m
    (renames_then file third c.args.step.page r.at x y c.args.free now new (old.counts file) (Some c.in-Some-2.divided) then_same name (ap (λ (n : Counts). n file) (q.counts ∙ e.loads.counts)) (λ content left held kind within is under off. rw c.in-Some-2.is at (c.in_ok-rename-in-Some.ensures.renamed t content left held kind within is under off)))
