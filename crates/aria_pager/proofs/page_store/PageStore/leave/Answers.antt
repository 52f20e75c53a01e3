use Rattle.std.proofs.Common.{false}
use Rattle.aria_record.specs.Writing.{records_of}
use Rattle.aria_pager.proofs.Keeping.{tidy_rest, closed_left}
use Rattle.aria_pager.proofs.page_store.PageStore.leave.Goals as goal

pub returns-clause-tidy : goal.returns-clause-tidy
returns-clause-tidy c = let store = c.args.self.now in tidy_rest store false store.made store.lent store.kept (λ off none. closed_left (records_of store.writer) store.kept c.requires.nothing none) (λ none. none) c.requires.tidy
