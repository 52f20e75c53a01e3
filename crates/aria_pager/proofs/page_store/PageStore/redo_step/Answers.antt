use Rattle.std.proofs.Common.{◌∙◌, List, ap, refl, sym, subst}
use Rattle.std.proofs.lemmas.Result.{err_from_is_err_and}
use Rattle.aria_record.specs.declared.record.Record.{Record}
use Rattle.aria_log.specs.Log.{place}
use Rattle.aria_log.specs.Pieces.{log_files}
use Rattle.aria_log.specs.Reading.{IsReader}
use Rattle.aria_log.specs.Stepping.{IsStep}
use Rattle.aria_pager.specs.Redone.{IsAtGroup, OfEdited}
use Rattle.aria_pager.proofs.Again.{cause_on, if_err_at}
use Rattle.aria_pager.proofs.Walk.{walks_failed, walks_end, walks_rest, walks_group, walks_fault, group_now}
use Rattle.aria_pager.proofs.page_store.PageStore.redo_step.Goals as goal

pub returns-in_err-step-clause-walks : goal.returns-in_err-step-clause-walks
returns-in_err-step-clause-walks g c = λ told before more base start groups forced is.
    let e = err_from_is_err_and c.from_residual.result c.from_residual.ensures.1 in
    walks_failed c.args.self.now (g.H.Host.state c.args.host.now) (g.H.Host.state c.next.new.host) c.args.analysis.now c.args.from before more base start groups forced c.from_residual.result e.0 e.1
    (λ f b left. g.met.H.Host.only_now c.args.host.now f b told left) (g.met.H.Host.reads_now c.next.new.host told) (c.in_err-step.ensures.same told) is

pub returns-in-End-clause-walks : goal.returns-in-End-clause-walks
returns-in-End-clause-walks g c = λ told before more base start groups forced is.
    walks_end c.args.self.now (g.H.Host.state c.args.host.now) (g.H.Host.state c.next.new.host) c.args.analysis.now c.args.from before more base start groups forced
    (λ f b left. g.met.H.Host.only_now c.args.host.now f b told left) (g.met.H.Host.reads_now c.next.new.host told) (c.in_ok-step.ensures.same told) is
    (subst (IsStep (place c.args.self.now.log) more) c.in-End.is (c.in_ok-step.ensures.step told is.here before more is.stands is.from_is))

pub returns-in-Rest-clause-walks : goal.returns-in-Rest-clause-walks
returns-in-Rest-clause-walks g c = λ told before more base start groups forced is.
    walks_rest c.args.self.now (g.H.Host.state c.args.host.now) (g.H.Host.state c.next.new.host) c.args.analysis.now c.args.from before more base start groups forced c.in-Rest.at c.in-Rest.bytes c.in-Rest.after
    (λ f b left. g.met.H.Host.only_now c.args.host.now f b told left) (g.met.H.Host.reads_now c.next.new.host told) (c.in_ok-step.ensures.same told) is
    (subst (IsStep (place c.args.self.now.log) more) c.in-Rest.is (c.in_ok-step.ensures.step told is.here before more is.stands is.from_is))

pub redo_group-requires-clause-pager : goal.redo_group-requires-clause-pager
redo_group-requires-clause-pager g c = λ told.
    let (before, more, base, start, groups, forced, is) = c.requires.walking told in
    let now = group_now c.args.self.now c.args.self.now (g.H.Host.state c.args.host.now) (g.H.Host.state c.next.new.host) (g.H.Host.state c.next.new.host) c.args.analysis.now c.args.from before base start groups forced c.in-Group.at c.in-Group.group c.in-Group.after
    (λ f b left. g.met.H.Host.only_now c.args.host.now f b told left) (g.met.H.Host.reads_now c.next.new.host told) (c.in_ok-step.ensures.same told) more is
    (subst (IsStep (place c.args.self.now.log) more) c.in-Group.is (c.in_ok-step.ensures.step told is.here before more is.stands is.from_is)) in
    (base, start, groups, now.3, now.0, now.1, now.2, (subst (λ (rs : List Record). IsAtGroup c.args.analysis.now c.in-Group.at rs groups now.0 now.1 now.2) (sym c.as_slice.ensures) now.4), now.5)

pub returns-in_err-redo_group-in-Group-clause-walks : goal.returns-in_err-redo_group-in-Group-clause-walks
returns-in_err-redo_group-in-Group-clause-walks g c = λ told before more base start groups forced is.
    let e = err_from_is_err_and c.from_residual-in_err-redo_group-in-Group.result c.from_residual-in_err-redo_group-in-Group.ensures.1 in
    walks_fault c.args.self.now c.redo_group.new.self (g.H.Host.state c.args.host.now) (g.H.Host.state c.next.new.host) (g.H.Host.state c.redo_group.new.host) c.args.analysis.now c.args.from before base start groups forced c.in-Group.at c.in-Group.group c.in-Group.after
    (λ f b left. g.met.H.Host.only_now c.args.host.now f b told left) (g.met.H.Host.reads_now c.next.new.host told) (c.in_ok-step.ensures.same told) more c.from_residual-in_err-redo_group-in-Group.result e.0 e.1 is
    (subst (IsStep (place c.args.self.now.log) more) c.in-Group.is (c.in_ok-step.ensures.step told is.here before more is.stands is.from_is))
    (λ b a n k at now. c.in_err-redo_group-in-Group.ensures.redoes told base start groups k b a n (subst (λ (rs : List Record). IsAtGroup c.args.analysis.now c.in-Group.at rs groups b a n) (sym c.as_slice.ensures) at) now)

pub returns-in_err-redo_group-in-Group-clause-cause : goal.returns-in_err-redo_group-in-Group-clause-cause
returns-in_err-redo_group-in-Group-clause-cause g c =
    let e = err_from_is_err_and c.from_residual-in_err-redo_group-in-Group.result c.from_residual-in_err-redo_group-in-Group.ensures.1 in
    cause_on {T = Unit {0}} g.H.Host.tells c.redo_group.new.self (g.H.Host.state c.args.host.now) (g.H.Host.state c.next.new.host) (g.H.Host.state c.redo_group.new.host) c.from_residual-in_err-redo_group-in-Group.result e.0 c.in_err-redo_group-in-Group.field-0.0 e.1 e.2
    c.in_ok-step.ensures.cause.calm c.in_ok-step.ensures.cause.tell c.in_err-redo_group-in-Group.ensures.cause

pub returns-in_ok-redo_group-in-Group-clause-walks : goal.returns-in_ok-redo_group-in-Group-clause-walks
returns-in_ok-redo_group-in-Group-clause-walks g c = λ told before more base start groups forced is.
    walks_group c.args.self.now c.redo_group.new.self (g.H.Host.state c.args.host.now) (g.H.Host.state c.next.new.host) (g.H.Host.state c.redo_group.new.host) c.args.analysis.now c.args.from before base start groups forced c.in-Group.at c.in-Group.group c.in-Group.after
    (λ f b left. g.met.H.Host.only_now c.args.host.now f b told left) (g.met.H.Host.reads_now c.next.new.host told) (c.in_ok-step.ensures.same told) more is
    (subst (IsStep (place c.args.self.now.log) more) c.in-Group.is (c.in_ok-step.ensures.step told is.here before more is.stands is.from_is))
    (λ b a n k at now. c.in_ok-redo_group-in-Group.ensures.redoes told base start groups k b a n (subst (λ (rs : List Record). IsAtGroup c.args.analysis.now c.in-Group.at rs groups b a n) (sym c.as_slice.ensures) at) now)

pub returns-in_ok-redo_group-in-Group-clause-reader : goal.returns-in_ok-redo_group-in-Group-clause-reader
returns-in_ok-redo_group-in-Group-clause-reader g c = λ told.
    let (before, more, base, start, groups, forced, is) = c.requires.walking told in
    let now = group_now c.args.self.now c.args.self.now (g.H.Host.state c.args.host.now) (g.H.Host.state c.next.new.host) (g.H.Host.state c.next.new.host) c.args.analysis.now c.args.from before base start groups forced c.in-Group.at c.in-Group.group c.in-Group.after
    (λ f b left. g.met.H.Host.only_now c.args.host.now f b told left) (g.met.H.Host.reads_now c.next.new.host told) (c.in_ok-step.ensures.same told) more is
    (subst (IsStep (place c.args.self.now.log) more) c.in-Group.is (c.in_ok-step.ensures.step told is.here before more is.stands is.from_is)) in
    let done = c.in_ok-redo_group-in-Group.ensures.redoes told base start groups now.3 now.0 now.1 now.2 (subst (λ (rs : List Record). IsAtGroup c.args.analysis.now c.in-Group.at rs groups now.0 now.1 now.2) (sym c.as_slice.ensures) now.4) now.5 in
    subst (IsReader c.next.new.reader) (sym ((done.log refl).files ∙ ap log_files (c.in_ok-step.ensures.same told).folder)) (c.in_ok-step.ensures.reader told)

pub returns-in_err-redo_group-in-Group-clause-edited : goal.returns-in_err-redo_group-in-Group-clause-edited
returns-in_err-redo_group-in-Group-clause-edited g c = λ told before more base start groups forced is.
    let e = err_from_is_err_and c.from_residual-in_err-redo_group-in-Group.result c.from_residual-in_err-redo_group-in-Group.ensures.1 in
    let now = group_now c.args.self.now c.args.self.now (g.H.Host.state c.args.host.now) (g.H.Host.state c.next.new.host) (g.H.Host.state c.next.new.host) c.args.analysis.now c.args.from before base start groups forced c.in-Group.at c.in-Group.group c.in-Group.after
    (λ f b left. g.met.H.Host.only_now c.args.host.now f b told left) (g.met.H.Host.reads_now c.next.new.host told) (c.in_ok-step.ensures.same told) more is
    (subst (IsStep (place c.args.self.now.log) more) c.in-Group.is (c.in_ok-step.ensures.step told is.here before more is.stands is.from_is)) in
    if_err_at c.from_residual-in_err-redo_group-in-Group.result (OfEdited c.args.self.now.log groups (g.H.Host.state c.redo_group.new.host).folder) e.0 c.in_err-redo_group-in-Group.field-0.0 e.1 e.2
    (c.in_err-redo_group-in-Group.ensures.edited told base start groups now.3 now.0 now.1 now.2 (subst (λ (rs : List Record). IsAtGroup c.args.analysis.now c.in-Group.at rs groups now.0 now.1 now.2) (sym c.as_slice.ensures) now.4) now.5)
