use Rattle.aria_pager.proofs.Beginnings.{start_keeps, start_files, start_agrees, start_tables}
use Rattle.aria_pager.proofs.prepare.start_log.Goals as goal

pub returns-in_err-start-clause-files : goal.returns-in_err-start-clause-files
returns-in_err-start-clause-files g c = λ told base groups is. start_files c.args.log (g.H.Host.state c.args.host.now) (g.H.Host.state c.start.new.host) base groups is (c.in_err-start.ensures.moments told base groups is.log)

pub returns-in_err-start-clause-keeps : goal.returns-in_err-start-clause-keeps
returns-in_err-start-clause-keeps g c = λ told base groups is. start_keeps c.args.log (g.H.Host.state c.args.host.now) (g.H.Host.state c.start.new.host) base groups is (c.in_err-start.ensures.moments told base groups is.log)

pub returns-in_err-start-clause-agrees : goal.returns-in_err-start-clause-agrees
returns-in_err-start-clause-agrees g c = λ told base groups is. start_agrees c.args.log (g.H.Host.state c.args.host.now) (g.H.Host.state c.start.new.host) base groups is (c.in_err-start.ensures.moments told base groups is.log)

pub returns-in_err-start-clause-others : goal.returns-in_err-start-clause-others
returns-in_err-start-clause-others g c = λ told. let (base, groups, is) = c.requires.found told in (c.in_err-start.ensures.moments told base groups is.log).others.folder

pub returns-clause-tables : goal.returns-clause-tables
returns-clause-tables g c = λ told base groups is. start_tables c.args.log (g.H.Host.state c.args.host.now) (g.H.Host.state c.start.new.host) base groups is (c.in_ok-start.ensures.moments told base groups is.log) c.start.new.self (c.in_ok-start.ensures.started told base groups is.log)

pub returns-clause-files : goal.returns-clause-files
returns-clause-files g c = λ told base groups is. start_files c.args.log (g.H.Host.state c.args.host.now) (g.H.Host.state c.start.new.host) base groups is (c.in_ok-start.ensures.moments told base groups is.log)

pub returns-clause-keeps : goal.returns-clause-keeps
returns-clause-keeps g c = λ told base groups is. start_keeps c.args.log (g.H.Host.state c.args.host.now) (g.H.Host.state c.start.new.host) base groups is (c.in_ok-start.ensures.moments told base groups is.log)

pub returns-clause-agrees : goal.returns-clause-agrees
returns-clause-agrees g c = λ told base groups is. start_agrees c.args.log (g.H.Host.state c.args.host.now) (g.H.Host.state c.start.new.host) base groups is (c.in_ok-start.ensures.moments told base groups is.log)

pub returns-clause-others : goal.returns-clause-others
returns-clause-others g c = λ told. let (base, groups, is) = c.requires.found told in (c.in_ok-start.ensures.moments told base groups is.log).others.folder
