use Rattle.std.proofs.Common.{ap, sym, Option}
use Rattle.std.specs.Prelude.{unwrap_or}
use Rattle.aria_host.specs.declared.fault.Fault.{Fault}
use Rattle.aria_pager.specs.PageStore.{with_rest}
use Rattle.aria_pager.proofs.Keeping.{tidy_rest}
use Rattle.aria_pager.proofs.page_store.PageStore.stop.Goals as goal

pub returns-in-Some-clause-fault : goal.returns-in-Some-clause-fault
returns-in-Some-clause-fault c = sym (ap (λ (o : Option Fault). unwrap_or o c.args.why) c.in-Some.is)

pub returns-in-Some-clause-rest : goal.returns-in-Some-clause-rest
returns-in-Some-clause-rest c = let store = c.args.self.now in ap (λ (o : Option Fault). with_rest store store.in_group store.made store.lent o) c.in-Some.is

pub returns-clause-tidy : goal.returns-clause-tidy
returns-clause-tidy c = let store = c.args.self.now in tidy_rest store store.in_group store.made store.lent c.kept-self.result (λ off none. c.requires.tidy.closed off c.in_default.is) (λ none. c.in_default.is) c.requires.tidy

pub returns-clause-fault : goal.returns-clause-fault
returns-clause-fault c = sym (ap (λ (o : Option Fault). unwrap_or o c.args.why) c.in_default.is)

pub returns-clause-rest : goal.returns-clause-rest
returns-clause-rest c = let store = c.args.self.now in ap (λ (o : Option Fault). with_rest store store.in_group store.made store.lent o) c.kept-self.ensures
