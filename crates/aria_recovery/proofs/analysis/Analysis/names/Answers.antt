use Rattle.std.proofs.Common.{List, ℕ}
use Rattle.std.specs.BTreeMap.{keys}
use Rattle.std.specs.List.{list_any}
use Rattle.aria_recovery.specs.Noted.{is_known, is_of}
use Rattle.aria_recovery.proofs.Noting.{names_all}
use Rattle.aria_recovery.proofs.analysis.Analysis.names.Goals as goal

pub returns-clause-all : goal.returns-clause-all
returns-clause-all c checkpoint gs has = names_all (λ names. names.items) c.names_of.result (keys c.args.self.now.lives) (is_known c.args.self.now.lives) (λ (q : List ℕ). list_any (is_of q) gs)
    c.names_of.ensures.names c.names_of.ensures.known has.lives.names
