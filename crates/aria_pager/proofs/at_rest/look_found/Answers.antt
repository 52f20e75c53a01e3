use Rattle.std.proofs.Common.{◌≡◌, ◌∙◌, ℕ, Bool, true, false, List, [], length, ap, sym, subst}
use Rattle.std.specs.Prelude.{All}
use Rattle.std.specs.List.{list_all}
use Rattle.std.proofs.lemmas.Bool.{eqb-true}
use Rattle.std.proofs.lemmas.Result.{err_from_is_err_and}
use Rattle.aria_host.proofs.Moments.{unchanged_after}
use Rattle.aria_host.specs.Folder.{Folder}
use Rattle.aria_record.proofs.Writers.{written_is}
use Rattle.aria_recovery.specs.Frames.{all_of}
use Rattle.aria_pager.specs.Entered.{AreListed, HasEntered}
use Rattle.aria_pager.specs.Resting.{IsAtRest, IsRedone, has_settled, OfEditedPage}
use Rattle.aria_pager.proofs.Again.{if_err_at}
use Rattle.aria_pager.proofs.Entered.{entered}
use Rattle.aria_pager.proofs.Rested.{edited_look, look_page}
use Rattle.aria_pager.proofs.Stepping.{pager_look}
use Rattle.aria_pager.proofs.Unchanging.{none_pending, at_rest, rest_settled, rest_redone, found_ready, found_rises, entered_there, rest_pager}
use Rattle.aria_pager.proofs.at_rest.look_found.Goals as goal

pub returns-then-not-branch-clause-settled : goal.returns-then-not-branch-clause-settled
returns-then-not-branch-clause-settled g c = λ told checkpoint base groups found has low listed rest.
    let e : true ≡ false = sym (rest_settled (g.H.Host.state c.args.host.now).folder groups c.as_slice.result.now rest) ∙ sym (c.in_ok-have_settled.ensures.settled told checkpoint groups has) ∙ c.if-not-branch.true in (cc)

pub returns-in_err-have_redone-clause-same : goal.returns-in_err-have_redone-clause-same
returns-in_err-have_redone-clause-same g c = λ told.
    let s = g.H.Host.state c.args.host.now in
    let a = g.H.Host.state c.have_settled.new.host in
    let b = g.H.Host.state c.enter_tables.new.host in
    unchanged_after s b (g.H.Host.state c.have_redone.new.host) (unchanged_after s a b (c.in_ok-have_settled.ensures.same told) (c.in_ok-store.ensures.same told)) (c.in_err-have_redone.ensures.same told)

pub returns-in_err-have_redone-clause-edited : goal.returns-in_err-have_redone-clause-edited
returns-in_err-have_redone-clause-edited g c = λ checkpoint groups has.
    let s = g.H.Host.state c.args.host.now in
    let b = g.H.Host.state c.enter_tables.new.host in
    let e = err_from_is_err_and c.from_residual-in_err-have_redone.result c.from_residual-in_err-have_redone.ensures.1 in
    if_err_at c.from_residual-in_err-have_redone.result (OfEditedPage g.H.Host.tells c.args.log groups s.folder) e.0 c.in_err-have_redone.field-0.0 e.1 e.2
    (edited_look g.H.Host.tells c.args.log c.end-end.result groups s.folder b.folder c.end-end.ensures.is (λ told. (c.in_ok-store.ensures.same told).folder ∙ (c.in_ok-have_settled.ensures.same told).folder) c.in_err-have_redone.field-0.0
    (c.in_err-have_redone.ensures.edited checkpoint groups has))

pub returns-in_err-have_redone-clause-cause : goal.returns-in_err-have_redone-clause-cause
returns-in_err-have_redone-clause-cause g c =
    let s = g.H.Host.state c.args.host.now in
    let b = g.H.Host.state c.enter_tables.new.host in
    let e = err_from_is_err_and c.from_residual-in_err-have_redone.result c.from_residual-in_err-have_redone.ensures.1 in
    look_page {T = Bool} g.H.Host.tells c.args.log c.end-end.result s b (g.H.Host.state c.have_redone.new.host) c.from_residual-in_err-have_redone.result e.0 c.in_err-have_redone.field-0.0 e.1 e.2 c.end-end.ensures.is
    (λ told. (c.in_ok-store.ensures.same told).folder ∙ (c.in_ok-have_settled.ensures.same told).folder)
    (c.in_ok-store.ensures.cause.calm ∙ c.in_ok-have_settled.ensures.cause.calm) (c.in_ok-store.ensures.cause.tell ∙ c.in_ok-have_settled.ensures.cause.tell) c.in_err-have_redone.ensures.cause

pub returns-then-not-branch-2-clause-settled : goal.returns-then-not-branch-2-clause-settled
returns-then-not-branch-2-clause-settled g c = λ told checkpoint base groups found has low listed rest.
    let s = g.H.Host.state c.args.host.now in
    let store = c.in_ok-store.store in
    let names : List (List ℕ) = c.as_slice-2.result.now in
    let first = (c.in_ok-have_settled.ensures.same told).folder in
    let is : HasEntered c.args.log false s.folder groups store = subst (λ (d : Folder). HasEntered c.args.log false d groups store) first
    (c.in_ok-store.ensures.entered told checkpoint groups has low (subst (λ (d : Folder). AreListed c.args.files.now d groups) (sym first) listed)) in
    let fine = (c.in_ok-have_redone.ensures.redone told checkpoint groups has (found_rises c.args.log s base groups found)).1
    (subst (λ (d : Folder). All (IsRedone d groups) names) (sym ((c.in_ok-store.ensures.same told).folder ∙ first)) (rest_redone s.folder groups names (entered_there c.args.log false s.folder groups store is) rest)) in
    let e : true ≡ false = sym fine ∙ c.if-not-branch-2.true in (cc)

pub returns-then-not-branch-2-clause-same : goal.returns-then-not-branch-2-clause-same
returns-then-not-branch-2-clause-same g c = λ told.
    let s = g.H.Host.state c.args.host.now in
    let a = g.H.Host.state c.have_settled.new.host in
    let b = g.H.Host.state c.enter_tables.new.host in
    unchanged_after s b (g.H.Host.state c.have_redone.new.host) (unchanged_after s a b (c.in_ok-have_settled.ensures.same told) (c.in_ok-store.ensures.same told)) (c.in_ok-have_redone.ensures.same told)

pub returns-clause-settled : goal.returns-clause-settled
returns-clause-settled g c = λ told checkpoint base groups found has low listed.
    let s = g.H.Host.state c.args.host.now in
    let a = g.H.Host.state c.have_settled.new.host in
    let b = g.H.Host.state c.enter_tables.new.host in
    let t = g.H.Host.state c.have_redone.new.host in
    let store = c.in_ok-store.store in
    let names : List (List ℕ) = c.in_ok-names.names.items in
    let first = (c.in_ok-have_settled.ensures.same told).folder in
    let second = (c.in_ok-store.ensures.same told).folder ∙ first in
    let rises = found_rises c.args.log s base groups found in
    let is : HasEntered c.args.log false s.folder groups store = subst (λ (d : Folder). HasEntered c.args.log false d groups store) first
    (c.in_ok-store.ensures.entered told checkpoint groups has low (subst (λ (d : Folder). AreListed c.args.files.now d groups) (sym first) listed)) in
    let settled : list_all (has_settled s.folder groups) names ≡ true = sym (ap (list_all (has_settled s.folder groups)) c.as_slice.ensures.value) ∙ sym (c.in_ok-have_settled.ensures.settled told checkpoint groups has) ∙ c.if-not-branch.false in
    let redone : All (IsRedone s.folder groups) names = subst (All (IsRedone s.folder groups)) c.as_slice-2.ensures.value
    (subst (λ (d : Folder). All (IsRedone d groups) c.as_slice-2.result.now) second ((c.in_ok-have_redone.ensures.redone told checkpoint groups has rises).0 c.if-not-branch-2.false)) in
    let rest : IsAtRest s.folder groups = at_rest s.folder groups checkpoint c.args.analysis.now names has (c.in_ok-names.ensures.all checkpoint groups has) (none_pending groups c.pending.result.now (c.pending.ensures checkpoint groups has) (eqb-true (length c.pending.result.now) 0 (sym c.is_empty.ensures ∙ c.if-not-is_empty.false))) rises settled redone in
    record {
      rest = rest;
      pager = pager_look store s t (all_of groups) base s.folder groups (length groups) (unchanged_after s b t (unchanged_after s a b (c.in_ok-have_settled.ensures.same told) (c.in_ok-store.ensures.same told)) (c.in_ok-have_redone.ensures.same told))
          (rest_pager store s base s.folder groups (length groups) (written_is store.writer [] is.empty) rest (entered false c.args.log store s base s.folder groups (found_ready c.args.log s base groups found rest) is));
      started = is.started;
    }

pub returns-clause-same : goal.returns-clause-same
returns-clause-same g c = λ told.
    let s = g.H.Host.state c.args.host.now in
    let a = g.H.Host.state c.have_settled.new.host in
    let b = g.H.Host.state c.enter_tables.new.host in
    unchanged_after s b (g.H.Host.state c.have_redone.new.host) (unchanged_after s a b (c.in_ok-have_settled.ensures.same told) (c.in_ok-store.ensures.same told)) (c.in_ok-have_redone.ensures.same told)
