use Rattle.aria_pager.proofs.page_store.PageStore.group_at.Goals as goal

pub returns-clause-group : goal.returns-clause-group
returns-clause-group g c = λ told base start groups forced logged is there. c.group_in.ensures.group told c.args.self.now.started base groups forced logged is.log there
