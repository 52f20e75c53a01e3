use Rattle.std.proofs.Common.{rules, ℕ, List, ap, ◌∙◌}
use Rattle.aria_page.specs.Page.{page_body}
use Rattle.aria_value.specs.Header.{new_page}
use Rattle.aria_value.proofs.Headers.{new_page_body}
use Rattle.aria_value.proofs.header.new_page.Goals as goal

pub returns-clause-page : goal.returns-clause-page
unfolding new_page
returns-clause-page c = search rules

pub returns-clause-body : goal.returns-clause-body
returns-clause-body c = ap (λ (l : List ℕ). page_body l) (returns-clause-page c) ∙ new_page_body c.args.bytes.now c.args.created
