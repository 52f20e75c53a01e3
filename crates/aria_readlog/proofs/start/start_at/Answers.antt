use Rattle.std.proofs.Common.{ℕ, ◌^◌, ◌<◌, Option, subst, sym}
use Rattle.std.specs.Prelude.{IfSome}
use Rattle.aria_page.specs.declared.lsn.Lsn.{Lsn}
use Rattle.aria_log.specs.Pieces.{log_files}
use Rattle.aria_readlog.specs.Start.{IsStart, IsLowestOf}
use Rattle.aria_readlog.proofs.Names.{start_none, start_some}
use Rattle.aria_readlog.proofs.start.start_at.Goals as goal

pub returns-in-None-clause-start : goal.returns-in-None-clause-start
returns-in-None-clause-start c = λ folder names lists is.
    subst (λ (start : Lsn). IsStart c.args.found.now (log_files folder) start) (sym c.redo_of.ensures.value)
    (start_none c.args.found.now folder names lists (subst (λ (low : Option ℕ). IsLowestOf low names) c.in-None.is is))

pub returns-in-Some-clause-start : goal.returns-in-Some-clause-start
returns-in-Some-clause-start c = λ folder names lists is.
    start_some c.args.found.now folder names c.in-Some.file (subst (λ (low : Option ℕ). IfSome low (λ low. low < 2 ^ 24)) c.in-Some.is c.requires.form) lists
    (subst (λ (low : Option ℕ). IsLowestOf low names) c.in-Some.is is)
