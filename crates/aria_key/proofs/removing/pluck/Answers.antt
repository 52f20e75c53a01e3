use Rattle.std.proofs.Common.{refl, ◌≡◌, ◌∙◌, [], ℕ, Bool, true, false, List, length, ap, subst, sym, arith}
use Rattle.std.specs.Prelude.{IfOk, ⊤}
use Rattle.std.proofs.lemmas.Result.{err_from_is_err_and}
use Rattle.aria_page.specs.declared.place.Part.TheVariants.{Keys}
use Rattle.aria_host.specs.declared.file_name.FileName.{FileName}
use Rattle.aria_cache.specs.PageState.{PageState, Counts, table_file}
use Rattle.aria_keypage.specs.declared.kind.Kind.TheVariants.{Leaf}
use Rattle.aria_keypage.specs.Item.{Item}
use Rattle.aria_keypage.specs.Content.{Content}
use Rattle.aria_key.specs.declared.path.Passed.{Passed}
use Rattle.aria_key.specs.Path.{passed}
use Rattle.aria_key.specs.Tree.{Placed}
use Rattle.aria_key.specs.Owned.{without_entry}
use Rattle.aria_key.specs.Merging.{HasItem}
use Rattle.aria_key.specs.Thinning.{Thinned, Reduced}
use Rattle.aria_key.specs.Lifting.{IsPage, CanThicken}
use Rattle.aria_key.specs.Removing.{CanPluck}
use Rattle.aria_key.specs.Reading.{keys_file, OfKeyPage, OfTree}
use Rattle.aria_key.proofs.Later.{Went, went, went_on, cause_later, page_later}
use Rattle.aria_key.proofs.Sparing.{tree_later}
use Rattle.aria_key.proofs.Lifted.{key_cause}
use Rattle.aria_key.proofs.Plucking.{Plucks, plucks}
use Rattle.aria_key.proofs.Leaving.{leaf_of, held_then, page_there, has_item, ends_then, goes_then, leaf_thickens}
use Rattle.aria_key.proofs.removing.pluck.Goals as goal

pub returns-in_err-count-clause-cause : goal.returns-in_err-count-clause-cause
returns-in_err-count-clause-cause g c =
    let old : PageState = g.P.Pages.state c.args.pages.now in
    let new : PageState = g.P.Pages.state c.count_of.new.pages in
    let file = keys_file old c.args.slot in
    let p = err_from_is_err_and c.from_residual.result c.from_residual.ensures.1 in
    rw (p.1, p.2) (key_cause g.P.Pages.tells g.P.Pages.logged (λ k. ⊤) (CanPluck old file c.args.key c.args.root c.args.page c.args.at c.args.free (passed c.args.path)) file c.args.page old new _
    (λ t a. let v = leaf_of old file c.args.key c.args.root c.args.page c.args.at c.args.free (passed c.args.path) a in record { low = v.low; content = v.content; held = v.held; asked = tt }) c.in_err-count.ensures.cause)

pub returns-in_err-give_back-clause-cause : goal.returns-in_err-give_back-clause-cause
returns-in_err-give_back-clause-cause g c =
    let tells = g.P.Pages.tells in
    let logged = g.P.Pages.logged in
    let slot = c.args.slot in
    let old : PageState = g.P.Pages.state c.args.pages.now in
    let mid : PageState = g.P.Pages.state c.count_of.new.pages in
    let new : PageState = g.P.Pages.state c.give_back.new.pages in
    let file = keys_file old slot in
    let other = keys_file mid slot in
    let e = c.in_ok-count.ensures in
    let same : keys_file mid slot ≡ file = λ i. table_file (e.loads.slots.name i slot) Keys in
    let first : Went tells slot old mid = went tells slot (OfKeyPage tells logged (λ k. ⊤) file c.args.page old mid) old mid e.loads.slots e.answers e.cause e.loads.late in
    let p = err_from_is_err_and c.from_residual-in_err-give_back.result c.from_residual-in_err-give_back.ensures.1 in
    rw (p.1, p.2) (tree_later tells logged slot (IsPage mid other c.args.page) (CanPluck old file c.args.key c.args.root c.args.page c.args.at c.args.free (passed c.args.path)) old mid new _ first
    (λ t a. page_there old file c.args.key c.args.root c.args.page c.args.at c.args.free (passed c.args.path) a.entry a.levels a.chain a.walk (leaf_of old file c.args.key c.args.root c.args.page c.args.at c.args.free (passed c.args.path) a) other mid same (e.loads.bodies t) e.loads.counts)
    c.in_err-give_back.ensures.cause)

pub returns-then-count-eq1-clause-plucked : goal.returns-then-count-eq1-clause-plucked
returns-then-count-eq1-clause-plucked g c = λ t entry levels chain walk tree apart chain_is found few.
    let slot = c.args.slot in
    let old : PageState = g.P.Pages.state c.args.pages.now in
    let mid : PageState = g.P.Pages.state c.count_of.new.pages in
    let new : PageState = g.P.Pages.state c.give_back.new.pages in
    let file = keys_file old slot in
    let other = keys_file mid slot in
    let e = c.in_ok-count.ensures in
    let same : keys_file mid slot ≡ file = λ i. table_file (e.loads.slots.name i slot) Keys in
    let way : List Passed = passed c.args.path in
    let v : Plucks file old.bodies (old.counts file) c.args.key c.args.root entry levels chain walk c.args.page c.args.at way c.args.free =
    plucks file old.bodies (old.counts file) c.args.key c.args.root entry levels chain walk c.args.page c.args.at true way c.args.free refl tree apart chain_is found in
    let count = e.count t v.content v.held in
    let one : length v.content.items ≡ 1 = let is = c.if-count-eq1.true in sym count ∙ is in
    let there = page_there old file c.args.key c.args.root c.args.page c.args.at c.args.free way entry levels chain walk v other mid same (e.loads.bodies t) e.loads.counts in
    ends_then old file c.args.key c.args.root c.args.page c.args.at c.args.free way entry levels chain walk v other mid new same (e.loads.bodies t) (c.in_ok-give_back.ensures.counts ∙ e.loads.counts)
    (c.is_empty.ensures.empty.0 c.if-is_empty.true) one (c.in_ok-give_back.ensures.freed t there.some)

pub returns-in_err-take_out-clause-cause : goal.returns-in_err-take_out-clause-cause
returns-in_err-take_out-clause-cause g c =
    let tells = g.P.Pages.tells in
    let logged = g.P.Pages.logged in
    let slot = c.args.slot in
    let old : PageState = g.P.Pages.state c.args.pages.now in
    let mid : PageState = g.P.Pages.state c.count_of.new.pages in
    let new : PageState = g.P.Pages.state c.take_out.new.pages in
    let file = keys_file old slot in
    let other = keys_file mid slot in
    let e = c.in_ok-count.ensures in
    let same : keys_file mid slot ≡ file = λ i. table_file (e.loads.slots.name i slot) Keys in
    let first : Went tells slot old mid = went tells slot (OfKeyPage tells logged (λ k. ⊤) file c.args.page old mid) old mid e.loads.slots e.answers e.cause e.loads.late in
    let asked = CanPluck old file c.args.key c.args.root c.args.page c.args.at c.args.free (passed c.args.path) in
    let p = err_from_is_err_and c.from_residual-in_err-take_out.result c.from_residual-in_err-take_out.ensures.1 in
    rw (p.1, p.2) (cause_later tells slot (OfKeyPage tells logged (HasItem Leaf c.args.at) other c.args.page mid new) (OfTree tells logged asked file old new) old mid new _ first
    (page_later tells logged slot c.args.page (HasItem Leaf c.args.at) asked old mid new first
    (λ t a. has_item old file c.args.key c.args.root c.args.page c.args.at c.args.free (passed c.args.path) a.entry a.levels a.chain a.walk (leaf_of old file c.args.key c.args.root c.args.page c.args.at c.args.free (passed c.args.path) a) other mid same (e.loads.bodies t) e.loads.counts))
    c.in_err-take_out.ensures.cause)

pub returns-clause-plucked : goal.returns-clause-plucked
returns-clause-plucked g c = λ t entry levels chain walk tree apart chain_is found few.
    let slot = c.args.slot in
    let old : PageState = g.P.Pages.state c.args.pages.now in
    let mid : PageState = g.P.Pages.state c.count_of.new.pages in
    let now : PageState = g.P.Pages.state c.take_out.new.pages in
    let new : PageState = g.P.Pages.state c.thicken.new.pages in
    let file = keys_file old slot in
    let other = keys_file mid slot in
    let third = keys_file now slot in
    let e = c.in_ok-count.ensures in
    let q = c.in_ok-take_out.ensures in
    let same : keys_file mid slot ≡ file = λ i. table_file (e.loads.slots.name i slot) Keys in
    let then_same : keys_file now slot ≡ file = (λ i. table_file (q.slots.name i slot) Keys) ∙ same in
    let way : List Passed = passed c.args.path in
    let v : Plucks file old.bodies (old.counts file) c.args.key c.args.root entry levels chain walk c.args.page c.args.at way c.args.free =
    plucks file old.bodies (old.counts file) c.args.key c.args.root entry levels chain walk c.args.page c.args.at true way c.args.free refl tree apart chain_is found in
    let count = e.count t v.content v.held in
    let more : way ≡ [] → length v.content.items ≡ 1 → ⊥ = λ top one. elim c.else-is_empty.branch [
      | goal.else-is_empty-via-then-is_empty+else-count-eq1 w ↦ w.if-count-eq1.false (count ∙ one)
      | goal.else-is_empty-via-else-is_empty w ↦ c.is_empty.ensures.empty.1 w.if-is_empty.false top
    ] in
    let thin = goes_then old file c.args.key c.args.root c.args.page c.args.at c.args.free way entry levels chain walk v other third mid now same then_same (e.loads.bodies t) (q.counts ∙ e.loads.counts) more
    (q.taken t v.content (held_then old file c.args.key c.args.root c.args.page c.args.at c.args.free way entry levels chain walk v other mid same (e.loads.bodies t)) v.kind v.within) in
    subst (λ (f : FileName). IfOk c.thicken.result (λ r. Reduced f old.bodies new.bodies (old.counts file) (new.counts f) c.args.key levels chain (without_entry entry walk) r.root r.free)) then_same
    (c.thicken.ensures.thickened t old.bodies (old.counts file) levels chain (without_entry entry walk) thin few)

pub returns-clause-cause : goal.returns-clause-cause
returns-clause-cause g c =
    let tells = g.P.Pages.tells in
    let logged = g.P.Pages.logged in
    let slot = c.args.slot in
    let old : PageState = g.P.Pages.state c.args.pages.now in
    let mid : PageState = g.P.Pages.state c.count_of.new.pages in
    let now : PageState = g.P.Pages.state c.take_out.new.pages in
    let new : PageState = g.P.Pages.state c.thicken.new.pages in
    let file = keys_file old slot in
    let other = keys_file mid slot in
    let third = keys_file now slot in
    let e = c.in_ok-count.ensures in
    let q = c.in_ok-take_out.ensures in
    let same : keys_file mid slot ≡ file = λ i. table_file (e.loads.slots.name i slot) Keys in
    let then_same : keys_file now slot ≡ file = (λ i. table_file (q.slots.name i slot) Keys) ∙ same in
    let way : List Passed = passed c.args.path in
    let first : Went tells slot old mid = went tells slot (OfKeyPage tells logged (λ k. ⊤) file c.args.page old mid) old mid e.loads.slots e.answers e.cause e.loads.late in
    let second : Went tells slot mid now = went tells slot (OfKeyPage tells logged (HasItem Leaf c.args.at) other c.args.page mid now) mid now q.slots q.answers q.cause q.late in
    let counts : now.counts third ≡ old.counts file = ap (λ (k : Counts). k third) (q.counts ∙ e.loads.counts) ∙ ap old.counts then_same in
    tree_later tells logged slot (CanThicken now third c.args.key c.args.root way c.args.page c.args.free) (CanPluck old file c.args.key c.args.root c.args.page c.args.at c.args.free way) old now new _ (went_on tells slot old mid now first second)
    (λ t a.
    let v = leaf_of old file c.args.key c.args.root c.args.page c.args.at c.args.free way a in
    let count = e.count t v.content v.held in
    let more : way ≡ [] → length v.content.items ≡ 1 → ⊥ = λ top one. elim c.else-is_empty.branch [
      | goal.else-is_empty-via-then-is_empty+else-count-eq1 w ↦ w.if-count-eq1.false (count ∙ one)
      | goal.else-is_empty-via-else-is_empty w ↦ c.is_empty.ensures.empty.1 w.if-is_empty.false top
    ] in
    leaf_thickens old now file third c.args.key c.args.root c.args.page c.args.at c.args.free way a counts
    (goes_then old file c.args.key c.args.root c.args.page c.args.at c.args.free way a.entry a.levels a.chain a.walk v other third mid now same then_same (e.loads.bodies t) (q.counts ∙ e.loads.counts) more
    (q.taken t v.content (held_then old file c.args.key c.args.root c.args.page c.args.at c.args.free way a.entry a.levels a.chain a.walk v other mid same (e.loads.bodies t)) v.kind v.within))) c.thicken.ensures.cause
