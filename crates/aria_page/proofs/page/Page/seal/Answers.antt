use Rattle.std.proofs.Common.{◌≡◌, ap, ◌∙◌}
use Rattle.aria_page.specs.Page.{page_body, page_lsn, sealed}
use Rattle.aria_page.proofs.Pages.{page_body-sealed, page_lsn-sealed, sealed_is}
use Rattle.aria_page.proofs.page.Page.seal.Goals as goal

is_sealed : (c : goal.After-sum) → c.sum.new.self ≡ sealed c.args.lsn c.args.self.now
is_sealed c = c.sum.ensures.bytes ∙ sealed_is c.args.lsn c.args.self.now c.to_bytes.result c.put.new.self c.to_bytes.ensures c.put.ensures.bytes c.put.ensures.len

pub returns-clause-bytes : goal.returns-clause-bytes
returns-clause-bytes c = is_sealed c

pub returns-clause-lsn : goal.returns-clause-lsn
returns-clause-lsn c = λ fits. ap page_lsn (is_sealed c) ∙ page_lsn-sealed c.args.lsn c.args.self.now fits

pub returns-clause-body : goal.returns-clause-body
returns-clause-body c = ap page_body (is_sealed c) ∙ page_body-sealed c.args.lsn c.args.self.now
