use Rattle.std.proofs.Common.{List, subst}
use Rattle.aria_host.specs.declared.file_name.FileName.{FileName}
use Rattle.aria_engine.specs.Opening.{IsFirst}
use Rattle.aria_engine.proofs.FirstOther.{found_of}
use Rattle.aria_engine.proofs.others.find_other.Goals as goal

pub returns-clause-found : goal.returns-clause-found
returns-clause-found g c = λ told.
    found_of (g.H.Host.state c.args.host.now).folder c.in_ok-files.files c.first_other.result (c.in_ok-files.ensures.names told)
    (subst (λ (names : List FileName). IsFirst c.first_other.result names) c.as_slice.ensures c.first_other.ensures)
