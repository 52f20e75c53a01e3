use Rattle.std.proofs.Common.{◌/◌, ◌%◌, ℕ, ap}
use Rattle.aria_host.specs.Folder.{Folder}
use Rattle.aria_log.specs.Pieces.{log_files}
use Rattle.aria_log.specs.Log.{HoldsAll}
use Rattle.aria_host.proofs.Moments.{one_after}
use Rattle.aria_log.proofs.Staying.{look_opened}
use Rattle.aria_log.proofs.Cutting.{look_keeps}
use Rattle.aria_log.proofs.Blank.{isnt_blank, cut_there, kept_end, cut_end}
use Rattle.aria_log.proofs.log.Log.end_pages.Goals as goal

pub returns-in_err-is_blank-clause-moments : goal.returns-in_err-is_blank-clause-moments
returns-in_err-is_blank-clause-moments g c = λ told base groups is.
    look_keeps c.args.self.now (g.H.Host.state c.args.host.now) (g.H.Host.state c.is_blank.new.host) base groups _ (λ f b left. g.met.H.Host.only_now c.args.host.now f b told left) (c.in_err-is_blank.ensures.same told) is

pub returns-then-branch-clause-ended : goal.returns-then-branch-clause-ended
returns-then-branch-clause-ended g c = λ told base groups is.
    kept_end c.args.self.now (g.H.Host.state c.args.host.now) (g.H.Host.state c.is_blank.new.host) base groups c.args.extent is (c.in_ok-is_blank.ensures.same told) (c.requires.found told) ((c.in_ok-is_blank.ensures.blank told).0 c.if-branch.true)

pub returns-then-branch-clause-moments : goal.returns-then-branch-clause-moments
returns-then-branch-clause-moments g c = λ told base groups is.
    look_keeps c.args.self.now (g.H.Host.state c.args.host.now) (g.H.Host.state c.is_blank.new.host) base groups _ (λ f b left. g.met.H.Host.only_now c.args.host.now f b told left) (c.in_ok-is_blank.ensures.same told) is

pub cut_end-requires-clause-opened : goal.cut_end-requires-clause-opened
cut_end-requires-clause-opened g c = λ told.
    let (base, groups, is) = c.requires.opened told in
    (base, groups, look_opened c.args.self.now (g.H.Host.state c.args.host.now) (g.H.Host.state c.is_blank.new.host) base groups _ (c.in_ok-is_blank.ensures.same told) is)

pub cut_end-requires-clause-pages : goal.cut_end-requires-clause-pages
cut_end-requires-clause-pages g c = λ told.
    let file : ℕ = c.args.self.now.number / 1024 in
    cut_there (log_files (g.H.Host.state c.args.host.now).folder file) (log_files (g.H.Host.state c.is_blank.new.host).folder file) c.args.extent (c.args.self.now.number % 1024)
    (ap (λ (x : Folder). log_files x file) (c.in_ok-is_blank.ensures.same told).folder) (c.requires.found told)
    (isnt_blank (log_files (g.H.Host.state c.args.host.now).folder file) (c.args.self.now.number % 1024) _ c.if-branch.false (c.in_ok-is_blank.ensures.blank told))

pub returns-in_err-cut_end-clause-moments : goal.returns-in_err-cut_end-clause-moments
returns-in_err-cut_end-clause-moments g c = λ told base groups is.
    let old = g.H.Host.state c.args.host.now in
    let mid = g.H.Host.state c.is_blank.new.host in
    one_after old mid (g.H.Host.state c.cut_end.new.host)
    (look_keeps c.args.self.now old mid base groups _ (λ f b left. g.met.H.Host.only_now c.args.host.now f b told left) (c.in_ok-is_blank.ensures.same told) is)
    (c.in_err-cut_end.ensures.moments told base groups (look_opened c.args.self.now old mid base groups _ (c.in_ok-is_blank.ensures.same told) is))

pub returns-clause-ended : goal.returns-clause-ended
returns-clause-ended g c = λ told base groups is.
    let old = g.H.Host.state c.args.host.now in
    let mid = g.H.Host.state c.is_blank.new.host in
    let file : ℕ = c.args.self.now.number / 1024 in
    cut_end c.args.self.now old mid (g.H.Host.state c.cut_end.new.host) base groups c.args.extent _
    (c.in_ok-cut_end.ensures.opened told base groups (look_opened c.args.self.now old mid base groups _ (c.in_ok-is_blank.ensures.same told) is)) (c.in_ok-is_blank.ensures.same told) (c.requires.found told)
    (isnt_blank (log_files old.folder file) (c.args.self.now.number % 1024) _ c.if-branch.false (c.in_ok-is_blank.ensures.blank told)) c.page_of.ensures.is (c.in_ok-cut_end.ensures.cut told)

pub returns-clause-moments : goal.returns-clause-moments
returns-clause-moments g c = λ told base groups is.
    let old = g.H.Host.state c.args.host.now in
    let mid = g.H.Host.state c.is_blank.new.host in
    one_after old mid (g.H.Host.state c.cut_end.new.host)
    (look_keeps c.args.self.now old mid base groups _ (λ f b left. g.met.H.Host.only_now c.args.host.now f b told left) (c.in_ok-is_blank.ensures.same told) is)
    (c.in_ok-cut_end.ensures.moments told base groups (look_opened c.args.self.now old mid base groups _ (c.in_ok-is_blank.ensures.same told) is))
