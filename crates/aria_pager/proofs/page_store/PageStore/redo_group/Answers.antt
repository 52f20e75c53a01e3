use Rattle.std.proofs.Common.{rules, refl, ◌∙◌, ◌∷◌, [], ◌++◌, ◌+◌, ℕ, suc, true, false, is_ok, List, length, take, drop, ap, sym, subst, arith}
use Rattle.std.proofs.lemmas.List.{take_all}
use Rattle.std.proofs.lemmas.Result.{err_from_is_err_and}
use Rattle.aria_record.specs.declared.record.Record.{Record}
use Rattle.aria_recovery.specs.Midway.{midway}
use Rattle.aria_pager.specs.PageStore.{spot_of}
use Rattle.aria_log.specs.declared.log.Log.{Log as LogValue}
use Rattle.aria_pager.specs.Redone.{Redoes, OfEdited}
use Rattle.aria_pager.proofs.Stepping.{same_after}
use Rattle.aria_pager.proofs.Again.{redoes_begun, redoes_ended, redoes_entry, here_now, around, one_more, cause_on, redoes_fault, if_err_at}
use Rattle.aria_pager.proofs.page_store.PageStore.redo_group.Goals as goal

pub loop-entry-init : goal.loop-entry-init
loop-entry-init g c = record {
  redoes = λ told base start groups forced before after place at is.
      redoes_begun c.args.self.now (g.H.Host.state c.args.host.now) base start groups forced (length before) (λ f b left. g.met.H.Host.only_now c.args.host.now f b told left) (g.met.H.Host.reads_now c.args.host.now told) is;
  same = search rules;
  aside = λ told f aside. refl;
  disk = refl;
  tell = refl;
}

pub redo_record-requires-clause-pager : goal.redo_record-requires-clause-pager
redo_record-requires-clause-pager g c = λ told.
    let (base, start, groups, forced, before, after, place, at, is) = c.requires.pager told in
    let first = c.loop-entry.invariant.redoes told base start groups forced before after place at is in
    let passed = take c.loop-entry.entry-index c.args.group.now in (
      midway groups (length before) passed (spot_of c.loop-entry.self),
      base,
      start,
      groups,
      first.steps.forced',
      (here_now c.args.self.now c.loop-entry.self (g.H.Host.state c.args.host.now) (g.H.Host.state c.loop-entry.host) base start groups forced (length before) passed is c.loop-entry.invariant.same first).pager,
    )

pub returns-in_err-redo_record-clause-redoes : goal.returns-in_err-redo_record-clause-redoes
returns-in_err-redo_record-clause-redoes g c = λ told base start groups forced before after place at is.
    let i : ℕ = c.loop-entry.entry-index in
    let group : List Record = c.args.group.now in
    let a = c.args.self.now in
    let l = c.loop-entry.self in
    let n = c.redo_record.new.self in
    let s = g.H.Host.state c.args.host.now in
    let t = g.H.Host.state c.loop-entry.host in
    let u = g.H.Host.state c.redo_record.new.host in
    let e = err_from_is_err_and c.from_residual.result c.from_residual.ensures.1 in
    let first = c.loop-entry.invariant.redoes told base start groups forced before after place at is in
    let both = redoes_entry a l n s t u base start groups forced (length before) (take i group) (take i group ++ c.entry-item.result ∷ []) false is c.loop-entry.invariant.same first
    (λ now. c.in_err-redo_record.ensures.redoes told base start groups first.steps.forced' before after place at (take i group) (drop (suc i) group) (around group i c.entry-item.result c.loop-entry-test.true c.entry-item.is) now) in
    redoes_fault a n n s u (midway groups (length before) (take i group ++ c.entry-item.result ∷ []) (spot_of a)) (λ k. length before + 1) base start groups forced false (is_ok c.from_residual.result) (ap is_ok e.1) both.steps

pub loop-entry-preserved : goal.loop-entry-preserved
loop-entry-preserved g c =
    let i : ℕ = c.loop-entry.entry-index in
    let group : List Record = c.args.group.now in
    let a = c.args.self.now in
    let l = c.loop-entry.self in
    let n = c.redo_record.new.self in
    let s = g.H.Host.state c.args.host.now in
    let t = g.H.Host.state c.loop-entry.host in
    let u = g.H.Host.state c.redo_record.new.host in
    record {
      redoes = λ told base start groups forced before after place at is.
          let first = c.loop-entry.invariant.redoes told base start groups forced before after place at is in
          subst (λ (rs : List Record). Redoes a n s u (midway groups (length before) rs (spot_of a)) base start groups forced true) (sym (one_more group i c.entry-item.result c.loop-entry-test.true c.entry-item.is))
          (redoes_entry a l n s t u base start groups forced (length before) (take i group) (take i group ++ c.entry-item.result ∷ []) true is c.loop-entry.invariant.same first
          (λ now. c.in_ok-redo_record.ensures.redoes told base start groups first.steps.forced' before after place at (take i group) (drop (suc i) group) (around group i c.entry-item.result c.loop-entry-test.true c.entry-item.is) now));
      same = same_after a l n c.loop-entry.invariant.same c.in_ok-redo_record.ensures.same;
      aside = λ told f aside. c.in_ok-redo_record.ensures.aside told f aside ∙ c.loop-entry.invariant.aside told f aside;
      disk = c.in_ok-redo_record.ensures.cause.calm ∙ c.loop-entry.invariant.disk;
      tell = c.in_ok-redo_record.ensures.cause.tell ∙ c.loop-entry.invariant.tell;
    }

pub returns-in_err-redo_record-clause-same : goal.returns-in_err-redo_record-clause-same
returns-in_err-redo_record-clause-same g c = same_after c.args.self.now c.loop-entry.self c.redo_record.new.self c.loop-entry.invariant.same c.in_err-redo_record.ensures.same

pub returns-in_err-redo_record-clause-cause : goal.returns-in_err-redo_record-clause-cause
returns-in_err-redo_record-clause-cause g c =
    let e = err_from_is_err_and c.from_residual.result c.from_residual.ensures.1 in
    cause_on {T = Unit {0}} g.H.Host.tells c.redo_record.new.self (g.H.Host.state c.args.host.now) (g.H.Host.state c.loop-entry.host) (g.H.Host.state c.redo_record.new.host) c.from_residual.result e.0 c.in_err-redo_record.field-0.0 e.1 e.2
    c.loop-entry.invariant.disk c.loop-entry.invariant.tell c.in_err-redo_record.ensures.cause

pub returns-clause-redoes : goal.returns-clause-redoes
returns-clause-redoes g c = λ told base start groups forced before after place at is.
    redoes_ended c.args.self.now c.loop-entry.self (g.H.Host.state c.args.host.now) (g.H.Host.state c.loop-entry.host) base start groups before after (record { at = place; group = c.args.group.now }) forced is c.loop-entry.invariant.same at.whole
    (subst (λ (rs : List Record). Redoes c.args.self.now c.loop-entry.self (g.H.Host.state c.args.host.now) (g.H.Host.state c.loop-entry.host) (midway groups (length before) rs (spot_of c.args.self.now)) base start groups forced true)
    (take_all c.loop-entry.entry-index c.args.group.now (omega arith)) (c.loop-entry.invariant.redoes told base start groups forced before after place at is))

pub returns-in_err-redo_record-clause-edited : goal.returns-in_err-redo_record-clause-edited
returns-in_err-redo_record-clause-edited g c = λ told base start groups forced before after place at is.
    let i : ℕ = c.loop-entry.entry-index in
    let group : List Record = c.args.group.now in
    let e = err_from_is_err_and c.from_residual.result c.from_residual.ensures.1 in
    let first = c.loop-entry.invariant.redoes told base start groups forced before after place at is in
    let d = (g.H.Host.state c.redo_record.new.host).folder in
    if_err_at c.from_residual.result (OfEdited c.args.self.now.log groups d) e.0 c.in_err-redo_record.field-0.0 e.1 e.2
    (subst (λ (l : LogValue). OfEdited l groups d c.in_err-redo_record.field-0.0) (first.log refl).log
    (c.in_err-redo_record.ensures.edited told base start groups first.steps.forced' before after place at (take i group) (drop (suc i) group) (around group i c.entry-item.result c.loop-entry-test.true c.entry-item.is)
    (here_now c.args.self.now c.loop-entry.self (g.H.Host.state c.args.host.now) (g.H.Host.state c.loop-entry.host) base start groups forced (length before) (take i group) is c.loop-entry.invariant.same first)))

pub returns-in_err-redo_record-clause-aside : goal.returns-in_err-redo_record-clause-aside
returns-in_err-redo_record-clause-aside g c = λ told f aside. c.in_err-redo_record.ensures.aside told f aside ∙ c.loop-entry.invariant.aside told f aside

pub returns-clause-aside : goal.returns-clause-aside
returns-clause-aside g c = c.loop-entry.invariant.aside
