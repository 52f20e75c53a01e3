use Rattle.std.proofs.Common.{◌≡◌, ℕ, true, List, length, subst}
use Rattle.std.specs.List.{list_any}
use Rattle.aria_value.specs.Named.{same_name}
use Rattle.aria_host.specs.Folder.{same_file}
use Rattle.aria_pager.specs.Turns.{is_aside}
use Rattle.aria_pager.specs.Prepared.{IsSettledName}
use Rattle.aria_recovery.proofs.Agreeing.{agrees_on}
use Rattle.aria_pager.proofs.Beginnings.{keeps_on, settled_all, still_listed, listed_on, all_cleared, and_false}
use Rattle.aria_pager.proofs.prepare.prepare.Goals as goal

pub returns-in_err-log-clause-keeps : goal.returns-in_err-log-clause-keeps
returns-in_err-log-clause-keeps g c = λ told checkpoint base groups is has listed. c.in_err-log.ensures.keeps told base groups is

pub returns-in_err-log-clause-agrees : goal.returns-in_err-log-clause-agrees
returns-in_err-log-clause-agrees g c = λ told checkpoint base groups is has listed. c.in_err-log.ensures.agrees told base groups is

pub returns-in_err-remove_new_files-clause-keeps : goal.returns-in_err-remove_new_files-clause-keeps
returns-in_err-remove_new_files-clause-keeps g c = λ told checkpoint base groups is has listed.
    let s = g.H.Host.state c.args.host.now in
    let a = g.H.Host.state c.start_log.new.host in
    let b = g.H.Host.state c.remove_new_files.new.host in
    let p = c.in_ok-log.ensures in
    let q = c.in_err-remove_new_files.ensures.prepares told c.in_ok-log.log base s.folder groups (p.tables told base groups is) in
    keeps_on s a b base groups (p.keeps told base groups is) (p.agrees told base groups is) q.moments

pub returns-in_err-remove_new_files-clause-agrees : goal.returns-in_err-remove_new_files-clause-agrees
returns-in_err-remove_new_files-clause-agrees g c = λ told checkpoint base groups is has listed.
    let s = g.H.Host.state c.args.host.now in
    let a = g.H.Host.state c.start_log.new.host in
    let b = g.H.Host.state c.remove_new_files.new.host in
    let p = c.in_ok-log.ensures in
    agrees_on groups (length groups) s.folder a.folder b.folder (p.agrees told base groups is) (c.in_err-remove_new_files.ensures.prepares told c.in_ok-log.log base s.folder groups (p.tables told base groups is)).agrees

pub returns-in_err-names-clause-keeps : goal.returns-in_err-names-clause-keeps
returns-in_err-names-clause-keeps g c = λ told checkpoint base groups is has listed.
    let s = g.H.Host.state c.args.host.now in
    let a = g.H.Host.state c.start_log.new.host in
    let b = g.H.Host.state c.remove_new_files.new.host in
    let p = c.in_ok-log.ensures in
    let q = c.in_ok-remove_new_files.ensures.prepares told c.in_ok-log.log base s.folder groups (p.tables told base groups is) in
    keeps_on s a b base groups (p.keeps told base groups is) (p.agrees told base groups is) q.moments

pub returns-in_err-names-clause-agrees : goal.returns-in_err-names-clause-agrees
returns-in_err-names-clause-agrees g c = λ told checkpoint base groups is has listed.
    let s = g.H.Host.state c.args.host.now in
    let a = g.H.Host.state c.start_log.new.host in
    let b = g.H.Host.state c.remove_new_files.new.host in
    let p = c.in_ok-log.ensures in
    agrees_on groups (length groups) s.folder a.folder b.folder (p.agrees told base groups is) (c.in_ok-remove_new_files.ensures.prepares told c.in_ok-log.log base s.folder groups (p.tables told base groups is)).agrees

pub settle_names-requires : goal.settle_names-requires
settle_names-requires g c = record {
  tables = λ told.
      let (checkpoint, base, groups, is, has, listed) = c.requires.found told in
      let s = g.H.Host.state c.args.host.now in
      let p = c.in_ok-log.ensures in
      let q = c.in_ok-remove_new_files.ensures.prepares told c.in_ok-log.log base s.folder groups (p.tables told base groups is) in
      (checkpoint, base, s.folder, groups, has, q.tables, c.in_ok-remove_new_files.ensures.files told (p.files told base groups is));
}

pub returns-in_err-settle_names-clause-keeps : goal.returns-in_err-settle_names-clause-keeps
returns-in_err-settle_names-clause-keeps g c = λ told checkpoint base groups is has listed.
    let s = g.H.Host.state c.args.host.now in
    let a = g.H.Host.state c.start_log.new.host in
    let b = g.H.Host.state c.remove_new_files.new.host in
    let u = g.H.Host.state c.settle_names.new.host in
    let p = c.in_ok-log.ensures in
    let q = c.in_ok-remove_new_files.ensures.prepares told c.in_ok-log.log base s.folder groups (p.tables told base groups is) in
    let r = c.in_err-settle_names.ensures.prepares told checkpoint base s.folder groups has q.tables (c.in_ok-remove_new_files.ensures.files told (p.files told base groups is)) in
    keeps_on s b u base groups (keeps_on s a b base groups (p.keeps told base groups is) (p.agrees told base groups is) q.moments) (agrees_on groups (length groups) s.folder a.folder b.folder (p.agrees told base groups is) q.agrees) r.moments

pub returns-in_err-settle_names-clause-agrees : goal.returns-in_err-settle_names-clause-agrees
returns-in_err-settle_names-clause-agrees g c = λ told checkpoint base groups is has listed.
    let s = g.H.Host.state c.args.host.now in
    let a = g.H.Host.state c.start_log.new.host in
    let b = g.H.Host.state c.remove_new_files.new.host in
    let u = g.H.Host.state c.settle_names.new.host in
    let p = c.in_ok-log.ensures in
    let q = c.in_ok-remove_new_files.ensures.prepares told c.in_ok-log.log base s.folder groups (p.tables told base groups is) in
    let r = c.in_err-settle_names.ensures.prepares told checkpoint base s.folder groups has q.tables (c.in_ok-remove_new_files.ensures.files told (p.files told base groups is)) in
    agrees_on groups (length groups) s.folder b.folder u.folder (agrees_on groups (length groups) s.folder a.folder b.folder (p.agrees told base groups is) q.agrees) r.agrees

pub returns-clause-keeps : goal.returns-clause-keeps
returns-clause-keeps g c = λ told checkpoint base groups is has listed.
    let s = g.H.Host.state c.args.host.now in
    let a = g.H.Host.state c.start_log.new.host in
    let b = g.H.Host.state c.remove_new_files.new.host in
    let u = g.H.Host.state c.settle_names.new.host in
    let p = c.in_ok-log.ensures in
    let q = c.in_ok-remove_new_files.ensures.prepares told c.in_ok-log.log base s.folder groups (p.tables told base groups is) in
    let r = c.in_ok-settle_names.ensures.prepares told checkpoint base s.folder groups has q.tables (c.in_ok-remove_new_files.ensures.files told (p.files told base groups is)) in
    keeps_on s b u base groups (keeps_on s a b base groups (p.keeps told base groups is) (p.agrees told base groups is) q.moments) (agrees_on groups (length groups) s.folder a.folder b.folder (p.agrees told base groups is) q.agrees) r.moments

pub returns-clause-agrees : goal.returns-clause-agrees
returns-clause-agrees g c = λ told checkpoint base groups is has listed.
    let s = g.H.Host.state c.args.host.now in
    let a = g.H.Host.state c.start_log.new.host in
    let b = g.H.Host.state c.remove_new_files.new.host in
    let u = g.H.Host.state c.settle_names.new.host in
    let p = c.in_ok-log.ensures in
    let q = c.in_ok-remove_new_files.ensures.prepares told c.in_ok-log.log base s.folder groups (p.tables told base groups is) in
    let r = c.in_ok-settle_names.ensures.prepares told checkpoint base s.folder groups has q.tables (c.in_ok-remove_new_files.ensures.files told (p.files told base groups is)) in
    agrees_on groups (length groups) s.folder b.folder u.folder (agrees_on groups (length groups) s.folder a.folder b.folder (p.agrees told base groups is) q.agrees) r.agrees

pub returns-clause-settled : goal.returns-clause-settled
returns-clause-settled g c = λ told checkpoint base groups is has listed.
    let s = g.H.Host.state c.args.host.now in
    let a = g.H.Host.state c.start_log.new.host in
    let b = g.H.Host.state c.remove_new_files.new.host in
    let u = g.H.Host.state c.settle_names.new.host in
    let p = c.in_ok-log.ensures in
    let q = c.in_ok-remove_new_files.ensures.prepares told c.in_ok-log.log base s.folder groups (p.tables told base groups is) in
    let here = c.in_ok-remove_new_files.ensures.files told (p.files told base groups is) in
    let n = c.in_ok-settle_names.ensures in
    let r = n.prepares told checkpoint base s.folder groups has q.tables here in
    let whole = keeps_on s b u base groups (keeps_on s a b base groups (p.keeps told base groups is) (p.agrees told base groups is) q.moments) (agrees_on groups (length groups) s.folder a.folder b.folder (p.agrees told base groups is) q.agrees) r.moments in
    let names : List (List ℕ) = c.in_ok-names.names.items in
    let each = subst (λ (l : List (List ℕ)). (name : List ℕ) → list_any (same_name name) l ≡ true → IsSettledName name groups u.folder) c.as_slice.ensures.value (n.settled told checkpoint base s.folder groups has q.tables here) in (
      settled_all c.in_ok-log.log u base s.folder groups checkpoint c.args.analysis.now names has (c.in_ok-names.ensures.all checkpoint groups has) r.tables (n.files told here) each,
      still_listed c.args.files.now s.folder u.folder groups listed whole.others.folder,
    )

pub returns-clause-cleared : goal.returns-clause-cleared
returns-clause-cleared g c = λ told listed.
    let s = g.H.Host.state c.args.host.now in
    let a = g.H.Host.state c.start_log.new.host in
    let b = g.H.Host.state c.remove_new_files.new.host in
    let u = g.H.Host.state c.settle_names.new.host in
    all_cleared c.args.files.now a.folder b.folder u.folder (listed_on c.args.files.now s.folder a.folder listed (c.in_ok-log.ensures.others told)) (c.in_ok-remove_new_files.ensures.gone told) (λ f off. c.in_ok-remove_new_files.ensures.others told f (and_false (is_aside f) (list_any (same_file f) c.args.files.now) off)) (c.in_ok-settle_names.ensures.aside told)
