use Rattle.aria_log.specs.Log.{place}
use Rattle.std.proofs.Common.{◌∙◌, ap, false, true, List, length, refl, sym, subst}
use Rattle.aria_page.specs.declared.lsn.Lsn.{Lsn}
use Rattle.aria_host.specs.declared.file_name.FileName.{FileName}
use Rattle.aria_pager.specs.Entered.{AreListed}
use Rattle.aria_pager.specs.Prepared.{AreAllListed}
use Rattle.aria_pager.specs.Redone.{BeginsRedo}
use Rattle.aria_pager.specs.Opening.{OfGroups}
use Rattle.aria_pager.proofs.Again.{if_err_at}
use Rattle.aria_pager.proofs.Opened.{groups_prepared, entered_keeps, reopened_keeps, reopened, of_redo}
use Rattle.std.proofs.lemmas.Result.{err_from_is_err_and}
use Rattle.aria_pager.proofs.Heading.{told_same}
use Rattle.aria_pager.proofs.Viewing.{tidy_same}
use Rattle.aria_pager.proofs.open.open_found.Goals as goal

pub returns-in_err-log-clause-keeps : goal.returns-in_err-log-clause-keeps
returns-in_err-log-clause-keeps g c = λ told checkpoint base groups is.
    let s = g.H.Host.state c.args.host.now in
    groups_prepared s (g.H.Host.state c.prepare.new.host) base groups (c.in_err-log.ensures.keeps told checkpoint base groups is.found is.has (subst (λ (l : List FileName). AreAllListed l s.folder) (sym c.as_slice.ensures) is.listed))

pub returns-in_err-store-clause-keeps : goal.returns-in_err-store-clause-keeps
returns-in_err-store-clause-keeps g c = λ told checkpoint base groups is.
    let s = g.H.Host.state c.args.host.now in
    let listed = subst (λ (l : List FileName). AreAllListed l s.folder) (sym c.as_slice.ensures) is.listed in
    let p = c.in_ok-log.ensures in
    entered_keeps s (g.H.Host.state c.prepare.new.host) (g.H.Host.state c.enter.new.host) base groups (p.keeps told checkpoint base groups is.found is.has listed) (p.agrees told checkpoint base groups is.found is.has listed)
    (c.in_err-store.ensures.same told) (λ t f le leaves. g.met.H.Host.counts_now c.prepare.new.host t f told le leaves)

pub redo-requires : goal.redo-requires
redo-requires g c = record {
  begins = λ told.
      let (checkpoint, base, groups, is) = c.requires.found told in
      let s = g.H.Host.state c.args.host.now in
      let u = g.H.Host.state c.enter.new.host in
      let d = (g.H.Host.state c.prepare.new.host).folder in
      let listed = subst (λ (l : List FileName). AreAllListed l s.folder) (sym c.as_slice.ensures) is.listed in
      let p = c.in_ok-log.ensures.settled told checkpoint base groups is.found is.has listed in
      let here = subst (λ (l : List FileName). AreListed l d groups) (c.as_slice.ensures) p.1 in
      let begun = c.in_ok-store.ensures.begins told checkpoint base s.folder groups p.0 is.has is.low (subst (λ (l : List FileName). AreListed l d groups) (sym c.as_slice-2.ensures) here) in
      (base, s.folder, groups, length groups, subst (λ (l : Lsn). BeginsRedo c.in_ok-store.store u c.args.found.analysis l base s.folder groups (length groups)) (sym is.from_is) begun);
}

pub returns-in_err-redo-clause-keeps : goal.returns-in_err-redo-clause-keeps
returns-in_err-redo-clause-keeps g c = λ told checkpoint base groups is.
    let s = g.H.Host.state c.args.host.now in
    let d = (g.H.Host.state c.prepare.new.host).folder in
    let u = g.H.Host.state c.enter.new.host in
    let listed = subst (λ (l : List FileName). AreAllListed l s.folder) (sym c.as_slice.ensures) is.listed in
    let p = c.in_ok-log.ensures in
    let q = p.settled told checkpoint base groups is.found is.has listed in
    let here = subst (λ (l : List FileName). AreListed l d groups) (sym c.as_slice-2.ensures) (subst (λ (l : List FileName). AreListed l d groups) c.as_slice.ensures q.1) in
    let begun = subst (λ (l : Lsn). BeginsRedo c.in_ok-store.store u c.args.found.analysis l base s.folder groups (length groups)) (sym is.from_is) (c.in_ok-store.ensures.begins told checkpoint base s.folder groups q.0 is.has is.low here) in
    reopened_keeps s (g.H.Host.state c.prepare.new.host) u base groups (p.keeps told checkpoint base groups is.found is.has listed) (p.agrees told checkpoint base groups is.found is.has listed)
    (c.in_ok-store.ensures.same told) (λ t f le leaves. g.met.H.Host.counts_now c.prepare.new.host t f told le leaves)
    (g.H.Host.state c.redo.new.host) c.in_ok-store.store c.redo.new.self false (c.in_err-redo.ensures.redoes told base s.folder groups (length groups) begun)

pub returns-clause-log : goal.returns-clause-log
returns-clause-log g c = λ told checkpoint base groups is.
    let s = g.H.Host.state c.args.host.now in
    let d = (g.H.Host.state c.prepare.new.host).folder in
    let u = g.H.Host.state c.enter.new.host in
    let listed = subst (λ (l : List FileName). AreAllListed l s.folder) (sym c.as_slice.ensures) is.listed in
    let q = c.in_ok-log.ensures.settled told checkpoint base groups is.found is.has listed in
    let here = subst (λ (l : List FileName). AreListed l d groups) (sym c.as_slice-2.ensures) (subst (λ (l : List FileName). AreListed l d groups) c.as_slice.ensures q.1) in
    let begun = subst (λ (l : Lsn). BeginsRedo c.in_ok-store.store u c.args.found.analysis l base s.folder groups (length groups)) (sym is.from_is) (c.in_ok-store.ensures.begins told checkpoint base s.folder groups q.0 is.has is.low here) in
    ap place ((c.in_ok-redo.ensures.redoes told base s.folder groups (length groups) begun).log refl).log ∙ ap place c.in_ok-store.ensures.log ∙ c.in_ok-log.ensures.place

pub returns-clause-told : goal.returns-clause-told
returns-clause-told g c = λ told checkpoint base groups is. told_same c.in_ok-store.store c.redo.new.self groups c.in_ok-redo.ensures.same.slots (c.in_ok-store.ensures.told checkpoint groups is.has)

pub returns-clause-tidy : goal.returns-clause-tidy
returns-clause-tidy g c = tidy_same c.in_ok-store.store c.redo.new.self c.in_ok-redo.ensures.same c.in_ok-store.ensures.tidy

pub returns-clause-pager : goal.returns-clause-pager
returns-clause-pager g c = λ told checkpoint base groups is.
    let s = g.H.Host.state c.args.host.now in
    let d = (g.H.Host.state c.prepare.new.host).folder in
    let u = g.H.Host.state c.enter.new.host in
    let listed = subst (λ (l : List FileName). AreAllListed l s.folder) (sym c.as_slice.ensures) is.listed in
    let p = c.in_ok-log.ensures in
    let q = p.settled told checkpoint base groups is.found is.has listed in
    let here = subst (λ (l : List FileName). AreListed l d groups) (sym c.as_slice-2.ensures) (subst (λ (l : List FileName). AreListed l d groups) c.as_slice.ensures q.1) in
    let begun = subst (λ (l : Lsn). BeginsRedo c.in_ok-store.store u c.args.found.analysis l base s.folder groups (length groups)) (sym is.from_is) (c.in_ok-store.ensures.begins told checkpoint base s.folder groups q.0 is.has is.low here) in
    reopened s (g.H.Host.state c.prepare.new.host) u base groups (p.keeps told checkpoint base groups is.found is.has listed) (p.agrees told checkpoint base groups is.found is.has listed)
    (c.in_ok-store.ensures.same told) (λ t f le leaves. g.met.H.Host.counts_now c.prepare.new.host t f told le leaves)
    (g.H.Host.state c.redo.new.host) c.in_ok-store.store c.redo.new.self true refl (c.in_ok-redo.ensures.redoes told base s.folder groups (length groups) begun)

pub returns-clause-keeps : goal.returns-clause-keeps
returns-clause-keeps g c = λ told checkpoint base groups is.
    let s = g.H.Host.state c.args.host.now in
    let d = (g.H.Host.state c.prepare.new.host).folder in
    let u = g.H.Host.state c.enter.new.host in
    let listed = subst (λ (l : List FileName). AreAllListed l s.folder) (sym c.as_slice.ensures) is.listed in
    let p = c.in_ok-log.ensures in
    let q = p.settled told checkpoint base groups is.found is.has listed in
    let here = subst (λ (l : List FileName). AreListed l d groups) (sym c.as_slice-2.ensures) (subst (λ (l : List FileName). AreListed l d groups) c.as_slice.ensures q.1) in
    let begun = subst (λ (l : Lsn). BeginsRedo c.in_ok-store.store u c.args.found.analysis l base s.folder groups (length groups)) (sym is.from_is) (c.in_ok-store.ensures.begins told checkpoint base s.folder groups q.0 is.has is.low here) in
    reopened_keeps s (g.H.Host.state c.prepare.new.host) u base groups (p.keeps told checkpoint base groups is.found is.has listed) (p.agrees told checkpoint base groups is.found is.has listed)
    (c.in_ok-store.ensures.same told) (λ t f le leaves. g.met.H.Host.counts_now c.prepare.new.host t f told le leaves)
    (g.H.Host.state c.redo.new.host) c.in_ok-store.store c.redo.new.self true (c.in_ok-redo.ensures.redoes told base s.folder groups (length groups) begun)

pub returns-in_err-redo-clause-why : goal.returns-in_err-redo-clause-why
returns-in_err-redo-clause-why g c = λ told checkpoint base groups is.
    let s = g.H.Host.state c.args.host.now in
    let d = (g.H.Host.state c.prepare.new.host).folder in
    let u = g.H.Host.state c.enter.new.host in
    let listed = subst (λ (l : List FileName). AreAllListed l s.folder) (sym c.as_slice.ensures) is.listed in
    let q = c.in_ok-log.ensures.settled told checkpoint base groups is.found is.has listed in
    let here = subst (λ (l : List FileName). AreListed l d groups) (sym c.as_slice-2.ensures) (subst (λ (l : List FileName). AreListed l d groups) c.as_slice.ensures q.1) in
    let begun = subst (λ (l : Lsn). BeginsRedo c.in_ok-store.store u c.args.found.analysis l base s.folder groups (length groups)) (sym is.from_is) (c.in_ok-store.ensures.begins told checkpoint base s.folder groups q.0 is.has is.low here) in
    let e = err_from_is_err_and c.from_residual-in_err-redo.result c.from_residual-in_err-redo.ensures.1 in
    let f = c.in_err-redo.field-0.0 in
    let t = g.H.Host.state c.redo.new.host in
    if_err_at c.from_residual-in_err-redo.result (OfGroups base groups s.folder t.folder) e.0 f e.1 e.2
    (of_redo g.H.Host.tells c.redo.new.self c.args.found.log c.in_ok-store.store.log base groups _ s u t f told is.found.log (ap place c.in_ok-store.ensures.log ∙ c.in_ok-log.ensures.place) c.in_err-redo.ensures.cause.only (c.in_err-redo.ensures.edited told base s.folder groups (length groups) begun))
