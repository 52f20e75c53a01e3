use Rattle.std.proofs.Common.{◌∙◌, rules, sym}
use Rattle.aria_page.specs.Field.{AreBytes}
use Rattle.aria_log.proofs.Counting.{not_done}
use Rattle.aria_log.proofs.PageReads.{passes_head, passes_rest, tests_pass}
use Rattle.aria_log.proofs.reader.is_page_of.Goals as goal
use Rattle.aria_log.proofs.reader.is_page_of.Goals.{then-same_bytes, else-same_bytes}

pub returns-then-is_blank : goal.returns-then-is_blank
returns-then-is_blank c =
    let are : AreBytes c.bytes-bytes.result.now = λ i. search rules in (
      λ sums. elim c.if-same_bytes.branch [
        | then-same_bytes w ↦
            tests_pass c.bytes-bytes.result.now c.args.page.now c.head_of-head.result c.args.number c.args.used c.args.begins c.bytes-bytes.ensures.value are c.bytes-bytes.ensures.len c.requires.low c.requires.some c.requires.fits
            c.head_of-head.ensures (c.same_bytes.ensures.0 w.if-same_bytes.true) (w.is_blank.ensures.0 (sym w.value-is ∙ c.if-is_blank.true)) (c.sums.ensures.0 sums)
        | else-same_bytes w ↦ absurd (not_done c.same_bytes.result w.if-same_bytes.false (sym w.value-is ∙ c.if-is_blank.true))
      ],
      λ is. c.sums.ensures.1 is.sums,
    )

pub returns-else-is_blank : goal.returns-else-is_blank
returns-else-is_blank c = (
  λ true. absurd (not_done c.if-same_bytes.value c.if-is_blank.false true),
  λ is. elim c.if-same_bytes.branch [
    | then-same_bytes w ↦ w.value-is ∙ w.is_blank.ensures.1 (passes_rest c.bytes-bytes.result.now c.args.page.now c.args.number c.args.used c.args.begins c.bytes-bytes.ensures.value c.bytes-bytes.ensures.len c.requires.fits is)
    | else-same_bytes w ↦
        absurd (not_done c.same_bytes.result w.if-same_bytes.false
        (c.same_bytes.ensures.1 (passes_head c.bytes-bytes.result.now c.args.page.now c.head_of-head.result c.args.number c.args.used c.args.begins c.bytes-bytes.ensures.value c.bytes-bytes.ensures.len c.requires.fits c.head_of-head.ensures is)))
  ],
)
