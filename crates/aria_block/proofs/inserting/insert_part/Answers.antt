use Rattle.std.proofs.Common.{◌≡◌, ℕ, List, None, length, refl, sym, ap, ◌∙◌, subst, arith}
use Rattle.aria_host.specs.declared.fault.Fault.TheVariants.{PageDamaged}
use Rattle.aria_host.specs.declared.file_name.FileName.{FileName}
use Rattle.aria_host.specs.declared.file_name.FileName.TheVariants.{Rows}
use Rattle.aria_cache.specs.PageState.{PageState, Counts}
use Rattle.aria_block.specs.Causes.{rows_file, OfRows}
use Rattle.aria_block.specs.DataFile.{HoldsData}
use Rattle.aria_block.specs.Finding.{HasPromise}
use Rattle.aria_block.specs.Puts.{PartKept}
use Rattle.aria_block.proofs.Promising.{promise_kept}
use Rattle.aria_block.proofs.inserting.insert_part.Goals as goal

pub returns-in-Some-clause-holds : goal.returns-in-Some-clause-holds
returns-in-Some-clause-holds g c = λ told pieces holds.
    let old : PageState = g.P.Pages.state c.args.pages.now in
    let mid : PageState = g.P.Pages.state c.page_for.new.pages in
    let new : PageState = g.P.Pages.state c.place_part.new.pages in
    let file : FileName = rows_file old c.args.slot in
    let same : rows_file mid c.args.slot ≡ file = ap (λ (f : ℕ → List ℕ). Rows (f c.args.slot)) c.in_ok-page.ensures.slots.name in
    let here = subst (λ (f : FileName). HoldsData (mid.counts f) (mid.bodies f) pieces) (sym same) (c.in_ok-page.ensures.holds told pieces holds) in
    let kept = rw c.in-Some.is at (c.in_ok-nth.ensures.holds told pieces here) in
    subst (λ (n : Counts). PartKept c.args.kind (n file) (new.bodies file) c.in_ok-page.page None c.in-Some.nth c.args.bytes.now pieces) (sym c.in_ok-nth.ensures.counts)
    (subst (λ (f : FileName). PartKept c.args.kind (mid.counts f) (new.bodies f) c.in_ok-page.page None c.in-Some.nth c.args.bytes.now pieces) same kept)

pub returns-in-None-clause-cause : goal.returns-in-None-clause-cause
returns-in-None-clause-cause g c =
    let old : PageState = g.P.Pages.state c.args.pages.now in
    let mid : PageState = g.P.Pages.state c.page_for.new.pages in
    let put : PageState = g.P.Pages.state c.place_part.new.pages in
    let new : PageState = g.P.Pages.state c.stop.new.self in
    let file : FileName = rows_file old c.args.slot in
    let same : rows_file mid c.args.slot ≡ file = ap (λ (f : ℕ → List ℕ). Rows (f c.args.slot)) c.in_ok-page.ensures.slots.name in
    let named : c.file-file.result ≡ file = c.file-file.ensures ∙ ap (λ (f : ℕ → List ℕ). Rows (f c.args.slot)) c.in_ok-nth.ensures.slots.name ∙ same in
    let calm : put.kept ≡ None = c.in_ok-nth.ensures.answers.keeps in
    let is : PageDamaged c.file-file.result c.in_ok-page.page ≡ c.stop.result = sym (c.stop.ensures.fault ∙ rw calm refl) in
    let faults : new.faults ≡ old.faults = c.stop.ensures.stops.rests.faults ∙ c.in_ok-nth.ensures.cause.calm refl ∙ c.in_ok-page.ensures.cause.calm refl in
    record {
      cause = λ none. subst (OfRows g.P.Pages.tells g.P.Pages.logged file old new) is (
        named,
        λ told pieces holds.
            let here = subst (λ (f : FileName). HoldsData (mid.counts f) (mid.bodies f) pieces) (sym same) (c.in_ok-page.ensures.holds told pieces holds) in
            let promise = subst (λ (f : FileName). HasPromise c.args.kind (length c.args.bytes.now) c.in_ok-page.page (mid.bodies f)) (sym same) (c.in_ok-page.ensures.promise told pieces holds) in
            promise_kept c.args.kind (length c.args.bytes.now) (mid.counts (rows_file mid c.args.slot)) c.in_ok-page.page (rows_file mid c.args.slot) mid put pieces c.requires.some c.requires.few here promise
            (rw c.in-None.is at (c.in_ok-nth.ensures.holds told pieces here)),
      );
      calm = λ none. absurd (cc);
      later = omega (arith, faults);
    }
