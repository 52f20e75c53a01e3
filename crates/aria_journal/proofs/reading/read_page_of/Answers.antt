use Rattle.std.proofs.Common.{◌≡◌, refl, inl, inr, arith}
use Rattle.aria_journal.proofs.LogPages.{valid_reads}
use Rattle.aria_journal.proofs.PageReads.{begins_is, used_is, counts_are, fields_other, says_too_many}
use Rattle.aria_journal.proofs.Appending.{not_done}
use Rattle.aria_journal.proofs.reading.read_page_of.Goals as goal
use Rattle.aria_journal.proofs.reading.read_page_of.Goals.{then-used-ge1+then-used-le-LOG_BODY_BYTES+else-is_page_of, else-used-ge1, else-used-ge1-via-then-used-ge1+else-used-le-LOG_BODY_BYTES, else-used-ge1-via-else-used-ge1}

pub returns-then-is_page_of-clause-read : goal.returns-then-is_page_of-clause-read
returns-then-is_page_of-clause-read c = valid_reads c.args.number _ _ c.args.page.now (c.is_page_of.ensures.0 c.if-is_page_of.true)

pub returns-clause-read : goal.returns-clause-read
returns-clause-read c = elim c.if-used-ge1.branch [
  | then-used-ge1+then-used-le-LOG_BODY_BYTES+else-is_page_of w ↦
      fields_other c.args.number c.args.page.now _ _ (begins_is c.bytes-bytes.result.now c.args.page.now c.bytes-bytes.ensures.value)
      (used_is c.bytes-bytes.result.now c.args.page.now _ c.u16_of-used.result c.bytes-bytes.ensures.value c.u16_of-used.ensures refl)
      (λ is. not_done w.is_page_of.result w.if-is_page_of.false (w.is_page_of.ensures.1 is))
  | else-used-ge1 w ↦
      let n : c.u16_of-used.result ≡ _ = counts_are c.bytes-bytes.result.now c.args.page.now c.u16_of-used.result c.bytes-bytes.ensures.value c.u16_of-used.ensures in
      elim w.else-used-ge1.branch [
        | else-used-ge1-via-then-used-ge1+else-used-le-LOG_BODY_BYTES w' ↦ says_too_many c.args.number c.args.page.now (inr (omega (arith, n, w'.if-used-le-LOG_BODY_BYTES.false)))
        | else-used-ge1-via-else-used-ge1 w' ↦ says_too_many c.args.number c.args.page.now (inl (omega (arith, n, w'.if-used-ge1.false)))
      ]
]
