use Rattle.std.proofs.Common.{◌∙◌, inl, List, length, ap, sym, subst}
use Rattle.std.specs.Prelude.{IsTrue, Bool}
use Rattle.std.proofs.lemmas.Result.{err_from_is_err_and}
use Rattle.aria_host.specs.Folder.{Folder}
use Rattle.aria_pager.proofs.Again.{if_err_at}
use Rattle.aria_pager.specs.Headers.{HaveHeaders, OfHeaders}
use Rattle.aria_pager.specs.Opening.{AtGroups, IsCleared, IsLateFault, IsReopenFault, OfReopened}
use Rattle.aria_pager.proofs.Opened.{look_behind, reopened_look, of_header, cause_passed, cause_behind, header_passed}
use Rattle.aria_pager.proofs.open.open_checked.Goals as goal

pub returns-in_err-store-clause-why : goal.returns-in_err-store-clause-why
returns-in_err-store-clause-why g c = λ told checkpoint base groups is.
    let e = err_from_is_err_and c.from_residual.result c.from_residual.ensures.1 in
    if_err_at c.from_residual.result (OfReopened base groups (g.H.Host.state c.args.host.now).folder (g.H.Host.state c.open_found.new.host).folder) e.0 c.in_err-store.field-0.0 e.1 e.2 (inl (c.in_err-store.ensures.why told checkpoint base groups is))

pub returns-in_err-store-clause-cause : goal.returns-in_err-store-clause-cause
returns-in_err-store-clause-cause g c =
    let e = err_from_is_err_and c.from_residual.result c.from_residual.ensures.1 in
    cause_passed (IsLateFault g.H.Host.tells) (IsReopenFault g.H.Host.tells) (g.H.Host.state c.args.host.now) (g.H.Host.state c.open_found.new.host) c.in_err-store.field-0.0 e.0 c.from_residual.result e.1 e.2 (λ f late. inl late) c.in_err-store.ensures.cause

pub check_tables-requires : goal.check_tables-requires
check_tables-requires g c = record {
  tidy = c.in_ok-store.ensures.tidy;
  pager = λ told.
      let (checkpoint, base, groups, is) = c.requires.found told in
      (base, (g.H.Host.state c.args.host.now).folder, groups, length groups, (c.in_ok-store.ensures.pager told checkpoint base groups is).pager);
  empty = c.in_ok-store.ensures.tidy.closed c.in_ok-store.ensures.in_group c.in_ok-store.ensures.kept;
}

pub returns-in_err-check_tables-clause-keeps : goal.returns-in_err-check_tables-clause-keeps
returns-in_err-check_tables-clause-keeps g c = λ told checkpoint base groups is.
    let s = g.H.Host.state c.args.host.now in
    look_behind s (g.H.Host.state c.open_found.new.host) (g.H.Host.state c.check_tables.new.host) (AtGroups s base groups) (λ t f le leaves. g.met.H.Host.counts_now c.open_found.new.host t f told le leaves)
    (c.in_ok-store.ensures.keeps told checkpoint base groups is) (c.in_err-check_tables.ensures.same told)

pub returns-in_err-check_tables-clause-why : goal.returns-in_err-check_tables-clause-why
returns-in_err-check_tables-clause-why g c = λ told checkpoint base groups is.
    let e = err_from_is_err_and c.from_residual-in_err-check_tables.result c.from_residual-in_err-check_tables.ensures.1 in
    let f = c.in_err-check_tables.field-0.0 in
    let s = g.H.Host.state c.args.host.now in
    let m = g.H.Host.state c.open_found.new.host in
    let t = g.H.Host.state c.check_tables.new.host in
    let store = c.in_ok-store.store in
    if_err_at c.from_residual-in_err-check_tables.result (OfReopened base groups s.folder t.folder) e.0 f e.1 e.2
    (of_header s m t c.args.found.log base groups _ store t.folder (g.met.H.Host.reads_now c.open_found.new.host told) is.found.log (c.in_ok-store.ensures.log told checkpoint base groups is)
    (c.in_ok-store.ensures.tidy.closed c.in_ok-store.ensures.in_group c.in_ok-store.ensures.kept)
    (c.in_ok-store.ensures.pager told checkpoint base groups is) (c.in_ok-store.ensures.told told checkpoint base groups is) f
    (subst (λ (b : Bool). OfHeaders b store m t f) told c.in_err-check_tables.ensures.cause.only))

pub returns-in_err-check_tables-clause-cause : goal.returns-in_err-check_tables-clause-cause
returns-in_err-check_tables-clause-cause g c =
    let e = err_from_is_err_and c.from_residual-in_err-check_tables.result c.from_residual-in_err-check_tables.ensures.1 in
    let s = g.H.Host.state c.args.host.now in
    let m = g.H.Host.state c.open_found.new.host in
    let t = g.H.Host.state c.check_tables.new.host in
    let first = c.in_ok-store.ensures.cause in
    cause_passed (IsReopenFault g.H.Host.tells) (IsReopenFault g.H.Host.tells) s t c.in_err-check_tables.field-0.0 e.0 c.from_residual-in_err-check_tables.result e.1 e.2 (λ f is. is)
    (header_passed g.H.Host.tells c.in_ok-store.store s m t _ first.calm first.tell c.in_err-check_tables.ensures.cause)

pub returns-clause-pager : goal.returns-clause-pager
returns-clause-pager g c = λ told checkpoint base groups is.
    reopened_look (g.H.Host.state c.args.host.now) (g.H.Host.state c.open_found.new.host) (g.H.Host.state c.check_tables.new.host) base groups c.in_ok-store.store (c.in_ok-check_tables.ensures.same told) (c.in_ok-store.ensures.pager told checkpoint base groups is)

pub returns-clause-headers : goal.returns-clause-headers
returns-clause-headers g c = λ told. subst (HaveHeaders c.in_ok-store.store) (sym (c.in_ok-check_tables.ensures.same told).folder) (c.in_ok-check_tables.ensures.headers told)

pub returns-clause-keeps : goal.returns-clause-keeps
returns-clause-keeps g c = λ told checkpoint base groups is.
    let s = g.H.Host.state c.args.host.now in
    look_behind s (g.H.Host.state c.open_found.new.host) (g.H.Host.state c.check_tables.new.host) (AtGroups s base groups) (λ t f le leaves. g.met.H.Host.counts_now c.open_found.new.host t f told le leaves)
    (c.in_ok-store.ensures.keeps told checkpoint base groups is) (c.in_ok-check_tables.ensures.same told)

pub returns-clause-cleared : goal.returns-clause-cleared
returns-clause-cleared g c = λ told checkpoint base groups is. subst IsCleared (sym (c.in_ok-check_tables.ensures.same told).folder) (c.in_ok-store.ensures.cleared told checkpoint base groups is)
