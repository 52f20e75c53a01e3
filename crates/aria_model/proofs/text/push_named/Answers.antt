use Rattle.aria_model.proofs.OneLine.{no_end-append, no_end-word}
use Rattle.aria_model.proofs.text.push_named.Goals as goal

pub returns-clause-on_line : goal.returns-clause-on_line
returns-clause-on_line c = λ what. no_end-append c.args.what.now c.args.name.now what (no_end-word c.args.name.now c.as_slice.ensures.word)
