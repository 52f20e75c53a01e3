use Rattle.std.proofs.Common.{ℕ, Option, subst}
use Rattle.aria_readlog.specs.Start.{IsLowestOf}
use Rattle.aria_readlog.proofs.Names.{first_is, lower_is, not_lower}
use Rattle.aria_readlog.proofs.start.lower.Goals as goal

pub returns-in-Some-clause-lowest : goal.returns-in-Some-clause-lowest
returns-in-Some-clause-lowest c = λ names is.
    not_lower c.in-Some.low c.args.file names c.if-low-file.true (subst (λ (low : Option ℕ). IsLowestOf low names) c.in-Some.is is)

pub returns-in_default-clause-lowest : goal.returns-in_default-clause-lowest
returns-in_default-clause-lowest c = λ names is.
    lower_is c.in-Some.low c.args.file names c.if-low-file.false (subst (λ (low : Option ℕ). IsLowestOf low names) c.in-Some.is is)

pub returns-in_default-2-clause-lowest : goal.returns-in_default-2-clause-lowest
returns-in_default-2-clause-lowest c = λ names is. first_is c.args.file names (subst (λ (low : Option ℕ). IsLowestOf low names) c.in_default.is is)
