use Rattle.std.proofs.Common.{◌≡◌, ◌∙◌, ℕ, Bool, true, false, List, ap, sym, refl}
use Rattle.std.specs.Prelude.{slice_get}
use Rattle.std.specs.List.{list_all}
use Rattle.std.proofs.lemmas.Cmp.{nat_cmp_total}
use Rattle.std.proofs.lemmas.Map.Entries.{btree_map_get_place}
use Rattle.std.proofs.lemmas.Result.{err_from_is_err_and}
use Rattle.aria_page.specs.declared.lsn.Lsn.{Lsn}
use Rattle.aria_host.proofs.Moments.{unchanged_after}
use Rattle.aria_host.specs.Folder.{Folder, page_count}
use Rattle.aria_recovery.specs.Tables.{file}
use Rattle.aria_pager.specs.Resting.{is_past}
use Rattle.aria_pager.proofs.Rested.{past_turn, left_turn, left_first, page_on, page_fine}
use Rattle.aria_pager.proofs.at_rest.are_past.Goals as goal

pub loop-page-init : goal.loop-page-init
loop-page-init g c =
    let pages = c.args.pages.now in
    let all : c.into_iter-page-iterator.result ≡ pages.entries = c.into_iter-page-iterator.ensures.into_iter_gives ∙ c.iter-page-items.ensures.rest in
    record {
      past = λ told. ap (list_all (is_past (g.H.Host.state c.args.host.now).folder c.args.name.now c.args.part)) all;
      left = λ i e at. btree_map_get_place nat_cmp_total pages i e.0 e.1 c.iter-page-items.ensures.ordered (ap (λ (l : List (ℕ × Lsn)). slice_get l i) (sym all) ∙ at);
      written = c.in_ok-written.ensures.count;
      same = c.in_ok-written.ensures.same;
      disk = c.in_ok-written.ensures.cause.calm;
      tell = c.in_ok-written.ensures.cause.tell;
    }

pub returns-in_err-is_past-clause-cause : goal.returns-in_err-is_past-clause-cause
returns-in_err-is_past-clause-cause g c = λ among covers.
    let e = err_from_is_err_and c.from_residual-in_err-is_past.result c.from_residual-in_err-is_past.ensures.1 in
    let edit : ℕ × Lsn = (c.in-Some.page.now, c.in-Some.edit.now) in
    page_on {T = Bool} g.H.Host.tells c.args.end among (g.H.Host.state c.args.host.now) (g.H.Host.state c.loop-page.host) (g.H.Host.state c.is_past.new.host) c.from_residual-in_err-is_past.result e.0 c.in_err-is_past.field-0.0 e.1 e.2
    (λ told. (c.loop-page.invariant.same told).folder) c.loop-page.invariant.disk c.loop-page.invariant.tell
    (c.in_err-is_past.ensures.cause among (covers edit.0 (left_first c.args.pages.now c.loop-page.page-iterator c.next.new.self edit c.in-Some.ensures.steps c.loop-page.invariant.left)))

pub returns-then-not-branch-clause-cause : goal.returns-then-not-branch-clause-cause
returns-then-not-branch-clause-cause g c = λ among covers.
    let fine = c.in_ok-is_past.ensures.cause (λ s. true) refl in
    page_fine g.H.Host.tells c.args.end among (g.H.Host.state c.args.host.now) (g.H.Host.state c.is_past.new.host) false (fine.calm ∙ c.loop-page.invariant.disk) (fine.tell ∙ c.loop-page.invariant.tell)

pub loop-page-preserved : goal.loop-page-preserved
loop-page-preserved g c =
    let s = g.H.Host.state c.args.host.now in
    let m = g.H.Host.state c.loop-page.host in
    let t = g.H.Host.state c.is_past.new.host in
    let edit : ℕ × Lsn = (c.in-Some.page.now, c.in-Some.edit.now) in
    let fine = c.in_ok-is_past.ensures.cause (λ s. true) refl in
    record {
      past = λ told. past_turn (is_past s.folder c.args.name.now c.args.part) c.loop-page.page-iterator c.next.new.self c.args.pages.now.entries edit c.in-Some.ensures.steps
          (ap (λ (d : Folder). is_past d c.args.name.now c.args.part edit) (sym (c.loop-page.invariant.same told).folder) ∙ sym (c.in_ok-is_past.ensures.past told) ∙ c.if-not-branch.false) (c.loop-page.invariant.past told);
      left = left_turn c.args.pages.now c.loop-page.page-iterator c.next.new.self edit c.in-Some.ensures.steps c.loop-page.invariant.left;
      written = λ told. ap (λ (d : Folder). page_count (file c.args.name.now c.args.part) d) (c.in_ok-is_past.ensures.same told).folder ∙ c.loop-page.invariant.written told;
      same = λ told. unchanged_after s m t (c.loop-page.invariant.same told) (c.in_ok-is_past.ensures.same told);
      disk = fine.calm ∙ c.loop-page.invariant.disk;
      tell = fine.tell ∙ c.loop-page.invariant.tell;
    }
