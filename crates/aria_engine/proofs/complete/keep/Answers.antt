use Rattle.std.proofs.Common.{[], ◌∷◌, ◌++◌, length}
use Rattle.aria_host.proofs.Moments.{one_after}
use Rattle.aria_engine.proofs.complete.keep.Goals as goal

pub returns-in_err-append-clause-moments : goal.returns-in_err-append-clause-moments
returns-in_err-append-clause-moments g c = λ told lines is. c.in_err-append.ensures.moments told lines (length lines) is

pub force-requires : goal.force-requires
force-requires g c = λ told.
    let (lines, is) = c.requires.log told in
    (lines ++ c.args.line.now ∷ [], length lines, c.in_ok-append.ensures.appended told lines (length lines) is)

pub returns-clause-kept : goal.returns-clause-kept
returns-clause-kept g c = λ told lines is.
    c.force.ensures.forced told (lines ++ c.args.line.now ∷ []) (length lines) (c.in_ok-append.ensures.appended told lines (length lines) is)

pub returns-clause-moments : goal.returns-clause-moments
returns-clause-moments g c = λ told lines is.
    one_after (g.H.Host.state c.args.host.now) (g.H.Host.state c.append.new.host) (g.H.Host.state c.force.new.host)
    (c.in_ok-append.ensures.moments told lines (length lines) is)
    (c.force.ensures.moments told (lines ++ c.args.line.now ∷ []) (length lines) (c.in_ok-append.ensures.appended told lines (length lines) is))
