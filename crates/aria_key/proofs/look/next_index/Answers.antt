use Rattle.aria_key.proofs.Children.{place-within}
use Rattle.aria_key.proofs.look.next_index.Goals as goal

pub returns-clause-within : goal.returns-clause-within
returns-clause-within c = place-within c.args.entry.now c.args.page.now.items c.args.at c.args.same c.requires
