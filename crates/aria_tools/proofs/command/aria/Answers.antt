use Rattle.std.proofs.Common.{◌≡◌, ◌++◌, ℕ, Bool, List, IsTrue, subst}
use Rattle.aria_readlog.specs.Display.{IsDisplay, IsTold}
use Rattle.aria_tools.specs.LogEndings.{whole_log}
use Rattle.aria_tools.proofs.LogEnds.{log_others}
use Rattle.aria_tools.proofs.command.aria.Goals as goal

pub returns-in-Some-ReadLog-clause-others : goal.returns-in-Some-ReadLog-clause-others
returns-in-Some-ReadLog-clause-others g c to =
    log_others c.in-Some-ReadLog.silent (g.H.Host.state c.args.host.now) (g.H.Host.state c.read_log.new.host) (c.read_log.ensures.kept to)

pub returns-in-Some-ReadLog-clause-read_log_damaged_told : goal.returns-in-Some-ReadLog-clause-read_log_damaged_told
returns-in-Some-ReadLog-clause-read_log_damaged_told g c silent asks five to file page stands =
    let asked = (c.in-Some-ReadLog.ensures.read_log silent).1 asks in
    let same : c.in-Some-ReadLog.silent ≡ silent = cc in
    let old = g.H.Host.state c.args.host.now in
    subst (λ (s : Bool). (lines : List ℕ) × (last : List ℕ) × IsDisplay old.folder (whole_log s) lines last × ((g.H.Host.state c.read_log.new.host).out ≡ old.out ++ lines)) same
    (c.read_log.ensures.damaged_told five to file page stands)

pub returns-in-Some-ReadLog-clause-read_log_part : goal.returns-in-Some-ReadLog-clause-read_log_part
returns-in-Some-ReadLog-clause-read_log_part g c silent asks to =
    let asked = (c.in-Some-ReadLog.ensures.read_log silent).1 asks in
    let same : c.in-Some-ReadLog.silent ≡ silent = cc in
    let old = g.H.Host.state c.args.host.now in
    subst (λ (s : Bool). IsTold old.folder (whole_log s) old.out (g.H.Host.state c.read_log.new.host).out) same (c.read_log.ensures.part to)
