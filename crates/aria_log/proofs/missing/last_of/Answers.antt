use Rattle.std.proofs.Common.{◌≡◌, ◌∙◌, ℕ, ap, sym, subst, arith}
use Rattle.aria_page.specs.declared.lsn.Lsn.{Lsn}
use Rattle.aria_host.specs.declared.fault.Fault.TheVariants.{FileMissing}
use Rattle.aria_host.specs.declared.file_name.FileName.TheVariants.{Log}
use Rattle.aria_log.specs.Pieces.{log_files}
use Rattle.aria_log.specs.Finding.{start_of, IsLast}
use Rattle.aria_log.proofs.LogNames.{missing_before, none_missing, new_log, base_missing}
use Rattle.aria_log.proofs.missing.last_of.Goals as goal

pub returns-then-has_from-clause-last : goal.returns-then-has_from-clause-last
returns-then-has_from-clause-last c = λ folder lists.
    let low : c.start_of-low.result.file ≡ (start_of c.args.from).file = ap (λ (l : Lsn). l.file) c.start_of-low.ensures.is in (
      c.first_absent-first.result,
      c.missing.ensures,
      missing_before folder c.args.names.now c.args.from c.first_absent-first.result lists c.requires.forms (omega (arith, low, c.first_absent-first.ensures.from)) c.first_absent-first.ensures.within
          (λ f from less. c.first_absent-first.ensures.below f (omega (arith, low, from)) less) c.first_absent-first.ensures.absent (sym c.has_from.ensures ∙ c.if-has_from.true),
    )

pub returns-then-first-low-clause-last : goal.returns-then-first-low-clause-last
returns-then-first-low-clause-last c = λ folder lists.
    let low : c.start_of-low.result.file ≡ (start_of c.args.from).file = ap (λ (l : Lsn). l.file) c.start_of-low.ensures.is in
    none_missing folder c.args.names.now c.args.from c.first_absent-first.result lists c.requires.forms (omega (arith, low, c.if-first-low.true)) c.first_absent-first.ensures.within
    (λ f from less. c.first_absent-first.ensures.below f (omega (arith, low, from)) less) c.first_absent-first.ensures.absent (sym c.has_from.ensures ∙ c.if-has_from.false)

pub returns-then-is_new-clause-last : goal.returns-then-is_new-clause-last
returns-then-is_new-clause-last c = λ folder lists.
    let low : c.start_of-low.result.file ≡ (start_of c.args.from).file = ap (λ (l : Lsn). l.file) c.start_of-low.ensures.is in
    let new = new_log folder c.args.names.now c.args.from lists (sym c.is_new.ensures ∙ c.if-is_new.true) in
    (new.0, subst (λ (n : ℕ). IsLast (log_files folder) (start_of c.args.from).file n) (sym low) new.1)

pub returns-clause-last : goal.returns-clause-last
returns-clause-last c = λ folder lists.
    let low : c.start_of-low.result.file ≡ (start_of c.args.from).file = ap (λ (l : Lsn). l.file) c.start_of-low.ensures.is in
    let same : (start_of c.args.from).file ≡ c.first_absent-first.result = omega (arith, low, c.if-first-low.false, c.first_absent-first.ensures.from) in (
      (start_of c.args.from).file,
      c.missing-2.ensures ∙ ap (λ (f : ℕ). FileMissing (Log f)) low,
      base_missing folder c.args.names.now c.args.from c.first_absent-first.result lists c.requires.forms (omega (arith, low, c.start_of-low.ensures.fits.file)) same
          (c.first_absent-first.ensures.absent (omega (arith, same, low, c.start_of-low.ensures.fits.file))) (sym c.is_new.ensures ∙ c.if-is_new.false),
    )
