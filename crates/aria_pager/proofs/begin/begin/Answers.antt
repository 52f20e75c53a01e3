use Rattle.std.proofs.Common.{ap}
use Rattle.aria_control.specs.ControlPage.{control_page}
use Rattle.aria_host.proofs.Moments.{one_after}
use Rattle.aria_pager.proofs.Beginning.{put_moments, still_begun}
use Rattle.aria_pager.proofs.begin.begin.Goals as goal

pub returns-in_err-write-clause-begins : goal.returns-in_err-write-clause-begins
returns-in_err-write-clause-begins g c = λ told.
    let s = g.H.Host.state c.args.host.now in
    let m = g.H.Host.state c.make_file.new.host in
    let t = g.H.Host.state c.write.new.host in
    let first = c.in_ok-make_file.ensures.begins told in
    one_after s m t first
    (put_moments m t (control_page c.no_control-control.result) _ (ap control_page c.no_control-control.ensures.none)
    (still_begun s m (λ f left. g.met.H.Host.counts_now c.make_file.new.host s.moment f told first.moments.later left) first) (c.in_err-write.ensures.moments told) (c.in_err-write.ensures.puts told))

pub returns-clause-begins : goal.returns-clause-begins
returns-clause-begins g c = λ told.
    let s = g.H.Host.state c.args.host.now in
    let m = g.H.Host.state c.make_file.new.host in
    let t = g.H.Host.state c.write.new.host in
    let first = c.in_ok-make_file.ensures.begins told in
    one_after s m t first
    (put_moments m t (control_page c.no_control-control.result) _ (ap control_page c.no_control-control.ensures.none)
    (still_begun s m (λ f left. g.met.H.Host.counts_now c.make_file.new.host s.moment f told first.moments.later left) first) (c.in_ok-write.ensures.moments told) (c.in_ok-write.ensures.puts told))
