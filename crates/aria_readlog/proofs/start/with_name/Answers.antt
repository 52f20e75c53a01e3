use Rattle.std.proofs.Common.{Some, [], ◌∷◌, ◌++◌, subst, sym}
use Rattle.aria_host.specs.declared.file_name.FileName.{FileName}
use Rattle.aria_readlog.specs.Start.{IsLowestOf}
use Rattle.aria_readlog.proofs.Names.{other_is, other_name}
use Rattle.aria_readlog.proofs.start.with_name.Goals as goal

pub returns-in-Log-clause-lowest : goal.returns-in-Log-clause-lowest
returns-in-Log-clause-lowest c = λ names is.
    subst (λ (name : FileName). IsLowestOf (Some c.lower.result) (names ++ name ∷ [])) (sym c.in-Log.is) (c.lower.ensures.lowest names is)

pub returns-in_default-clause-lowest : goal.returns-in_default-clause-lowest
returns-in_default-clause-lowest c = λ names is. other_is c.args.low names c.args.name.now (other_name c.args.name.now c.in_default.not-Log) is
