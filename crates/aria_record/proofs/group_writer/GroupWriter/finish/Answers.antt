use Rattle.std.proofs.Common.{◌∙◌, ap, length, ℕ, List}
use Rattle.aria_record.proofs.Writers.{length-group}
use Rattle.aria_record.proofs.group_writer.GroupWriter.finish.Goals as goal

pub returns : goal.returns
returns c = record {
  spelled = λ records w shape. c.as_slice.ensures ∙ c.seal.ensures.sealed records w shape;
  group = c.seal.ensures.group;
  size = λ records w shape. ap (λ (l : List ℕ). length l) (c.as_slice.ensures ∙ c.seal.ensures.sealed records w shape) ∙ length-group c.args.self.now records w;
}
