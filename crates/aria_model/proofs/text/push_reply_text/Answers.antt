use Rattle.std.proofs.lemmas.Result.{on_ok_weaker}
use Rattle.aria_model.proofs.OneLine.{done_on_line, count_on_line}
use Rattle.aria_model.proofs.text.push_reply_text.Goals as goal

pub returns-in-Done-clause-one_line : goal.returns-in-Done-clause-one_line
returns-in-Done-clause-one_line c = rw c.in-Done.is (on_ok_weaker c.extend_from_slice.result (λ _. done_on_line) c.extend_from_slice.ensures.ok)

pub returns-in-Count-clause-one_line : goal.returns-in-Count-clause-one_line
returns-in-Count-clause-one_line c = rw c.in-Count.is (on_ok_weaker c.push_count.result (λ _. count_on_line c.in-Count.number) c.push_count.ensures)
