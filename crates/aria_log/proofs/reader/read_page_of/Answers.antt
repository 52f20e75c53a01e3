use Rattle.std.proofs.Common.{◌≡◌, inl, inr, arith, refl}
use Rattle.aria_page.specs.Number.{number_of}
use Rattle.std.proofs.Common.{drop}
use Rattle.aria_log.proofs.Counting.{not_done}
use Rattle.aria_log.proofs.PageReads.{high_reads, fields_read, fields_other, counts_are, says_too_many}
use Rattle.aria_log.proofs.reader.read_page_of.Goals as goal
use Rattle.aria_log.proofs.reader.read_page_of.Goals.{then-used-lt1-via-then-used-lt1, then-used-lt1-via-else-used-lt1+then-used-gt-BODY_BYTES}

pub returns-then-number-ge-PAGES_END-clause-read : goal.returns-then-number-ge-PAGES_END-clause-read
returns-then-number-ge-PAGES_END-clause-read c = high_reads c.args.number c.args.page.now (omega arith)

pub returns-then-used-lt1-clause-read : goal.returns-then-used-lt1-clause-read
returns-then-used-lt1-clause-read c =
    let n : c.u16_of-used.result ≡ number_of 2 (drop 14 c.args.page.now) = counts_are c.bytes-bytes.result.now c.args.page.now c.u16_of-used.result c.bytes-bytes.ensures.value c.u16_of-used.ensures in
    elim c.then-used-lt1.branch [
      | then-used-lt1-via-then-used-lt1 w ↦ says_too_many c.args.number c.args.page.now (inl (omega (arith, n, w.if-used-lt1.true)))
      | then-used-lt1-via-else-used-lt1+then-used-gt-BODY_BYTES w ↦ says_too_many c.args.number c.args.page.now (inr (omega (arith, n, w.if-used-gt-BODY_BYTES.true)))
    ]

pub returns-then-is_page_of-clause-read : goal.returns-then-is_page_of-clause-read
returns-then-is_page_of-clause-read c = fields_read c.args.number c.args.page.now c.u16_of-used.result _ (c.is_page_of.ensures.0 c.if-is_page_of.true)

pub returns-else-is_page_of-clause-read : goal.returns-else-is_page_of-clause-read
returns-else-is_page_of-clause-read c =
    fields_other c.args.number c.bytes-bytes.result.now c.args.page.now c.u16_of-used.result _ c.bytes-bytes.ensures.value c.u16_of-used.ensures refl
    (λ is. not_done c.is_page_of.result c.if-is_page_of.false (c.is_page_of.ensures.1 is))
