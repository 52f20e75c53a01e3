use Rattle.std.proofs.Common.{◌∙◌, ap, min, sym, subst, ℕ, ◌∷◌, ◌++◌, []}
use Rattle.aria_log.specs.Purge.{IsLowest}
use Rattle.aria_log.proofs.Counting.{least}
use Rattle.aria_log.proofs.Purging.{lowest_more}
use Rattle.aria_log.proofs.purge.lower.Goals as goal

pub returns : goal.returns
returns c = λ names is.
    subst (λ (k : ℕ). IsLowest (names ++ c.args.file.now ∷ []) c.args.first c.args.end k) (sym (c.min.ensures ∙ least c.args.lowest c.number_from.result ∙ ap (λ (k : ℕ). min c.args.lowest k) c.number_from.ensures))
    (lowest_more names c.args.first c.args.end c.args.lowest c.args.file.now is)
