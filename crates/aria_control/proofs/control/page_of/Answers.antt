use Rattle.std.proofs.Common.{◌≡◌, ◌∙◌, refl, ap}
use Rattle.aria_control.specs.ControlPage.{magic, control_page, named_by}
use Rattle.aria_control.proofs.Spelled.{page_spelled, named_again, one_page}
use Rattle.aria_control.proofs.Kept.{put_found}
use Rattle.aria_control.proofs.control.page_of.Goals as goal

pub returns-clause-page : goal.returns-clause-page
unfolding magic
returns-clause-page c =
    page_spelled c.zero-page.result c.put.new.self c.put-2.new.self c.put-3.new.self c.sum.new.self c.to_bytes.result c.to_bytes-2.result _ c.args.control.now
    c.zero-page.ensures c.put.ensures.len_before c.put.ensures.len c.put-2.ensures.len
    c.put.ensures.bytes c.to_bytes.ensures c.put-2.ensures.bytes c.to_bytes-2.ensures c.put-3.ensures.bytes refl c.sum.ensures.bytes

pub returns-clause-named : goal.returns-clause-named
returns-clause-named c = λ storable.
    let is : c.sum.new.self ≡ control_page c.args.control.now = returns-clause-page c in
    ap named_by is ∙ named_again c.args.control.now storable

pub returns-clause-one : goal.returns-clause-one
returns-clause-one c = λ other storable other_storable same. one_page c.args.control.now other storable other_storable same

pub returns-clause-found : goal.returns-clause-found
returns-clause-found c = put_found c.args.control.now c.sum.new.self (returns-clause-page c) c.sum.ensures.sums
