use Rattle.std.proofs.Common.{List, subst}
use Rattle.aria_host.specs.declared.file_name.FileName.{FileName}
use Rattle.aria_readlog.specs.Start.{IsLowestOf}
use Rattle.aria_readlog.proofs.start.start.Goals as goal

pub returns-clause-start : goal.returns-clause-start
returns-clause-start g c = λ told.
    c.start_at.ensures.start (g.H.Host.state c.args.host.now).folder c.in_ok-names.names (c.in_ok-names.ensures.names told)
    (subst (λ (names : List FileName). IsLowestOf c.lowest.result names) c.as_slice.ensures c.lowest.ensures.lowest)
