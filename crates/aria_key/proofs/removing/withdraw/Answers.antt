use Rattle.std.proofs.Common.{refl, ◌≡◌, ◌∙◌, ◌≤◌, [], ℕ, Bool, true, false, List, length, ap, subst, sym, arith}
use Rattle.std.specs.Prelude.{IfOk, Option}
use Rattle.aria_page.specs.declared.place.Part.TheVariants.{Keys}
use Rattle.aria_host.specs.declared.file_name.FileName.{FileName}
use Rattle.aria_cache.specs.PageState.{PageState, Bodies, Counts, table_file}
use Rattle.aria_keypage.specs.Item.{Item}
use Rattle.aria_key.specs.declared.path.Passed.{Passed}
use Rattle.aria_key.specs.Path.{passed}
use Rattle.aria_key.specs.Tree.{Placed, IsTree}
use Rattle.aria_key.specs.Place.{IsFound}
use Rattle.aria_key.specs.IndexFile.{IsChain}
use Rattle.aria_key.specs.Taking.{AreApart}
use Rattle.aria_key.specs.Owned.{without_entry}
use Rattle.aria_key.specs.Removing.{CanWithdraw, CanPluck}
use Rattle.aria_key.specs.Reading.{keys_file, OfTree, HasRoot}
use Rattle.aria_key.proofs.Later.{Went, went, found_later}
use Rattle.aria_key.proofs.Sparing.{tree_later}
use Rattle.aria_key.proofs.Leaving.{tree_of, there_same, few_steps, few_levels, found_there, can_pluck, pluck_then, withdrawn_ok}
use Rattle.aria_key.proofs.removing.withdraw.Goals as goal

pub returns-then-not-found-clause-cause : goal.returns-then-not-found-clause-cause
returns-then-not-found-clause-cause g c =
    let tells = g.P.Pages.tells in
    let slot = c.args.slot in
    let old : PageState = g.P.Pages.state c.args.pages.now in
    let mid : PageState = g.P.Pages.state c.find.new.pages in
    let new : PageState = g.P.Pages.state c.stop-then-not-found.new.self in
    let file = keys_file old slot in
    let e = c.in_ok-found.ensures in
    let f = c.in_ok-found.found in
    let asked = CanWithdraw old file c.args.key c.args.head.root c.args.head.free c.args.entry.now in
    let first : Went tells slot old mid = went tells slot (OfTree tells g.P.Pages.logged (HasRoot old file c.args.head.root) file old mid) old mid e.loads.slots e.answers e.cause e.loads.late in
    found_later tells slot (OfTree tells g.P.Pages.logged asked file old new) old mid new _ c.stop-then-not-found.result first c.stop-then-not-found.ensures.fault c.stop-then-not-found.ensures.stops (
      c.file-file.ensures,
      λ t a.
          let is = there_same old file c.args.key c.args.head.root c.args.head.free c.args.entry.now f.page f.at f.same (passed f.path) c.if-head-eq0.false (e.found t) a.levels a.chain a.walk a.has in
          let not : f.same ≡ false = c.if-not-found.true in absurd cc,
    )

pub returns-then-len-gt-STEPS_MAX-clause-cause : goal.returns-then-len-gt-STEPS_MAX-clause-cause
returns-then-len-gt-STEPS_MAX-clause-cause g c =
    let tells = g.P.Pages.tells in
    let slot = c.args.slot in
    let old : PageState = g.P.Pages.state c.args.pages.now in
    let mid : PageState = g.P.Pages.state c.find.new.pages in
    let new : PageState = g.P.Pages.state c.stop-then-len-gt-STEPS_MAX.new.self in
    let file = keys_file old slot in
    let e = c.in_ok-found.ensures in
    let f = c.in_ok-found.found in
    let asked = CanWithdraw old file c.args.key c.args.head.root c.args.head.free c.args.entry.now in
    let first : Went tells slot old mid = went tells slot (OfTree tells g.P.Pages.logged (HasRoot old file c.args.head.root) file old mid) old mid e.loads.slots e.answers e.cause e.loads.late in
    found_later tells slot (OfTree tells g.P.Pages.logged asked file old new) old mid new _ c.stop-then-len-gt-STEPS_MAX.result first c.stop-then-len-gt-STEPS_MAX.ensures.fault c.stop-then-len-gt-STEPS_MAX.ensures.stops (
      c.file-file.ensures,
      λ t a.
          let few = few_steps old file c.args.key c.args.head.root c.args.head.free c.args.entry.now f.page f.at f.same (passed f.path) c.if-head-eq0.false (e.found t) a.levels a.chain a.walk a.has in
          absurd (omega (arith, few, e.len, c.len.ensures, c.if-len-gt-STEPS_MAX.true)),
    )

pub returns-clause-withdrawn : goal.returns-clause-withdrawn
returns-clause-withdrawn g c = λ t levels chain walk has.
    let slot = c.args.slot in
    let old : PageState = g.P.Pages.state c.args.pages.now in
    let mid : PageState = g.P.Pages.state c.find.new.pages in
    let new : PageState = g.P.Pages.state c.pluck.new.pages in
    let file = keys_file old slot in
    let other = keys_file mid slot in
    let e = c.in_ok-found.ensures in
    let f = c.in_ok-found.found in
    let same : keys_file mid slot ≡ file = λ i. table_file (e.loads.slots.name i slot) Keys in
    let some = c.if-head-eq0.false in
    let there : (P : (ℕ → Option (List ℕ)) → ℕ → Type 0) → P (old.bodies file) (old.counts file) → P (mid.bodies other) (mid.counts other) =
    λ P h. subst (λ (k : FileName). P (mid.bodies k) (mid.counts k)) (sym same) (subst (λ (n : Counts). P (mid.bodies file) (n file)) (sym e.loads.counts) (subst (λ (b : Bodies). P (b file) (old.counts file)) (sym (e.loads.bodies t)) h)) in
    let tree = tree_of old file c.args.key c.args.head.root c.args.head.free c.args.entry.now f.page f.at f.same (passed f.path) some (e.found t) levels chain walk has in
    let found = found_there old file c.args.key c.args.head.root c.args.head.free c.args.entry.now f.page f.at f.same (passed f.path) some (e.found t) levels chain walk has in
    let few = few_levels old file c.args.key c.args.head.root c.args.head.free c.args.entry.now f.page f.at f.same (passed f.path) some (e.found t) levels chain walk has in
    withdrawn_ok c.pluck.result file other old mid new c.args.key levels chain (without_entry c.args.entry.now walk) same (e.loads.bodies t) e.loads.counts
    (c.pluck.ensures.plucked t c.args.entry.now levels chain walk (there (λ b n. IsTree b n c.args.key c.args.head.root levels walk) tree) (there (λ b n. AreApart n levels chain) has.apart) (there (λ b n. IsChain b c.args.head.free chain) has.chain_is)
    (there (λ b n. IsFound b n c.args.key c.args.head.root c.args.entry.now levels walk f.page f.at true (passed f.path)) found) few)

pub returns-clause-cause : goal.returns-clause-cause
returns-clause-cause g c =
    let tells = g.P.Pages.tells in
    let logged = g.P.Pages.logged in
    let slot = c.args.slot in
    let old : PageState = g.P.Pages.state c.args.pages.now in
    let mid : PageState = g.P.Pages.state c.find.new.pages in
    let new : PageState = g.P.Pages.state c.pluck.new.pages in
    let file = keys_file old slot in
    let other = keys_file mid slot in
    let e = c.in_ok-found.ensures in
    let f = c.in_ok-found.found in
    let same : keys_file mid slot ≡ file = λ i. table_file (e.loads.slots.name i slot) Keys in
    let first : Went tells slot old mid = went tells slot (OfTree tells logged (HasRoot old file c.args.head.root) file old mid) old mid e.loads.slots e.answers e.cause e.loads.late in
    tree_later tells logged slot (CanPluck mid other c.args.key c.args.head.root f.page f.at c.args.head.free (passed f.path)) (CanWithdraw old file c.args.key c.args.head.root c.args.head.free c.args.entry.now) old mid new _ first
    (λ t a. pluck_then old mid file other c.args.key c.args.head.root f.page f.at c.args.head.free (passed f.path) same (e.loads.bodies t) e.loads.counts
    (can_pluck old file c.args.key c.args.head.root c.args.head.free c.args.entry.now f.page f.at f.same (passed f.path) c.if-head-eq0.false (e.found t) a)) c.pluck.ensures.cause
