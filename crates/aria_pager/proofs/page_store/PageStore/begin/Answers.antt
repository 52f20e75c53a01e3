use Rattle.aria_pager.proofs.Keeping.{tidy_begun}
use Rattle.aria_pager.proofs.page_store.PageStore.begin.Goals as goal

pub returns-clause-tidy : goal.returns-clause-tidy
returns-clause-tidy c = tidy_begun c.args.self.now c.unpin_all.new.self c.clear.new.self 0 c.clear.ensures.writes c.requires.tidy
