use Rattle.std.proofs.Common.{refl, ap, ◌∙◌}
use Rattle.aria_page.specs.Number.{number}
use Rattle.aria_log.proofs.Sealing.{sealed_page}
use Rattle.aria_log.proofs.log_page.seal.Goals as goal

pub returns-clause-page : goal.returns-clause-page
returns-clause-page c =
    sealed_page c.args.page.now c.put.new.self c.put-2.new.self c.put-3.new.self c.put-4.new.self c.sum.new.self c.u16_bytes.result _ c.u32_bytes.result c.u24_bytes.result
    c.args.number c.args.used c.flag.result c.args.begins c.put.ensures.len_before c.put.ensures.len c.put-2.ensures.len c.put-3.ensures.len
    c.put.ensures.bytes c.u16_bytes.ensures c.put-2.ensures.bytes refl c.flag.ensures c.put-3.ensures.bytes (c.u32_bytes.ensures ∙ ap (number 4) c.page_of.ensures.is) c.put-4.ensures.bytes
    (c.u24_bytes.ensures ∙ ap (number 3) c.file_of.ensures.is) c.sum.ensures.bytes
