use Rattle.std.proofs.Common.{◌∙◌, List, [], ◌∷◌, ◌++◌, sym, ap, subst}
use Rattle.aria_record.specs.declared.record.Record.{Record}
use Rattle.aria_record.specs.declared.record.Record.TheVariants.{Commit}
use Rattle.aria_record.specs.Groups.{IsGroup}
use Rattle.aria_record.specs.Spelled.{group_bytes}
use Rattle.aria_log.proofs.Testing.{commit_is}
use Rattle.aria_log.proofs.tests.commit.Goals as goal

pub encode_group-requires : goal.encode_group-requires
encode_group-requires c = subst (λ (l : List Record). IsGroup l) (sym (c.in_ok-push.ensures.ok ∙ ap (λ (l : List Record). l ++ Commit ∷ []) c.new-group.ensures)) commit_is

pub returns : goal.returns
returns c = (Commit ∷ [], commit_is, c.in_ok-bytes.ensures.spelled ∙ ap group_bytes (c.in_ok-push.ensures.ok ∙ ap (λ (l : List Record). l ++ Commit ∷ []) c.new-group.ensures))
