use Rattle.std.proofs.Common.{◌++◌, [], false}
use Rattle.std.specs.String.{string_bytes}
use Rattle.std.proofs.lemmas.Result.{on_err_weaker, on_ok_weaker}
use Rattle.aria_host.proofs.Moments.{looks}
use Rattle.aria_log.specs.Reading.{entries_of_runs}
use Rattle.aria_readlog.specs.Choice.{all_lines}
use Rattle.aria_readlog.proofs.Telling.{on_err, shows_after}
use Rattle.aria_log.proofs.Walking.{stands_same}
use Rattle.aria_readlog.proofs.Listed.{part_none, adds_after}
use Rattle.aria_readlog.proofs.displaying.list.Goals as goal

pub returns-in_err-at-clause-part : goal.returns-in_err-at-clause-part
returns-in_err-at-clause-part g c = λ told n front readable first_is.
    on_err c.from_residual.result
    (part_none (string_bytes c.args.listing.now.text ++ all_lines c.args.listing.now.choice (entries_of_runs n front)) (g.H.Host.state c.args.host.now) (g.H.Host.state c.first_run.new.host)
    (λ f b left. g.met.H.Host.only_now c.args.host.now f b told left) (c.in_err-at.ensures.same told))

pub returns-clause-adds : goal.returns-clause-adds
returns-clause-adds g c = λ told n front readable first_is.
    let s0 = g.H.Host.state c.args.host.now in
    let s1 = g.H.Host.state c.first_run.new.host in
    let entries = entries_of_runs n front in
    let same = c.in_ok-at.ensures.same told in
    let (here, stands, at_is) = c.in_ok-at.ensures.run told n front readable first_is in
    on_ok_weaker c.read.result
    (adds_after entries c.args.listing.now c.read.new.self s0 s1 (g.H.Host.state c.read.new.host) (λ f b left. g.met.H.Host.only_now c.args.host.now f b told left) same)
    (c.read.ensures.adds told here entries (stands_same c.args.log.now s0.folder s1.folder here [] entries same.folder stands) at_is)

pub returns-clause-part : goal.returns-clause-part
returns-clause-part g c = λ told n front readable first_is.
    let s0 = g.H.Host.state c.args.host.now in
    let s1 = g.H.Host.state c.first_run.new.host in
    let entries = entries_of_runs n front in
    let same = c.in_ok-at.ensures.same told in
    let (here, stands, at_is) = c.in_ok-at.ensures.run told n front readable first_is in
    on_err_weaker c.read.result
    (shows_after s0 s1 (g.H.Host.state c.read.new.host) (string_bytes c.args.listing.now.text ++ all_lines c.args.listing.now.choice entries) false
    (λ f b left. g.met.H.Host.only_now c.args.host.now f b told left) (looks s0 s1 same))
    (c.read.ensures.part told here entries (stands_same c.args.log.now s0.folder s1.folder here [] entries same.folder stands) at_is)
