use Rattle.aria_pager.proofs.Making.{knows_with}
use Rattle.std.proofs.Common.{◌∙◌, ℕ, Some, ap, cond}
use Rattle.aria_value.specs.Named.{same_name}
use Rattle.aria_pager.specs.Pager.{known}
use Rattle.aria_pager.proofs.page_store.PageStore.add_slot.Goals as goal

pub returns-clause-knows : goal.returns-clause-knows
returns-clause-knows c = λ q. knows_with c.args.name.now c.len-n.result c.args.self.now.tables c.insert.new.self c.in_ok-insert.ensures.updates q
    ∙ ap (λ (n : ℕ). cond (same_name c.args.name.now q) (Some (Some n)) (known c.args.self.now q)) c.len-n.ensures
