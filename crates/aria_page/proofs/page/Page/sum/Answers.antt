use Rattle.std.proofs.Common.{◌≡◌, ap, drop, ◌∙◌}
use Rattle.aria_page.specs.Number.{number}
use Rattle.aria_page.specs.Crc.{checksum}
use Rattle.aria_page.specs.Page.{with_bytes, summed}
use Rattle.aria_page.proofs.Pages.{summed_is, sums_once_put}
use Rattle.aria_page.proofs.page.Page.sum.Goals as goal

-- the checksum that was taken
taken : (c : goal.After-put) → c.checksum-sum.result ≡ checksum (drop 4 c.args.self.now)
taken c = c.checksum-sum.ensures ∙ ap checksum (c.bytes_from.ensures.value ∙ ap (drop 4) c.bytes.ensures.value)

is_summed : (c : goal.After-put) → c.put.new.self ≡ summed c.args.self.now
is_summed c =
    c.put.ensures.bytes ∙ ap (λ bytes. with_bytes 0 bytes c.args.self.now) (c.u32_bytes.ensures ∙ ap (number 4) (taken c))
    ∙ summed_is c.args.self.now

pub returns-clause-bytes : goal.returns-clause-bytes
returns-clause-bytes c = is_summed c

pub returns-clause-sums : goal.returns-clause-sums
returns-clause-sums c = sums_once_put c.args.self.now c.put.new.self c.checksum-sum.result (taken c) c.checksum-sum.type_inv (is_summed c)
