use Rattle.std.proofs.Common.{◌≡◌, ◌∙◌, sym, subst}
use Rattle.std.specs.declared.cmp.Ordering.TheVariants.{Less}
use Rattle.std.specs.Cmp.Lexicographic.{slice_cmp}
use Rattle.std.specs.Ordering.{nat_cmp}
use Rattle.aria_host.specs.declared.file_name.FileName.{FileName}
use Rattle.aria_host.specs.FileText.{file_text}
use Rattle.aria_engine.proofs.FirstOther.{first_new}
use Rattle.aria_engine.proofs.others.see.Goals as goal

pub returns-in-None : goal.returns-in-None
returns-in-None c = first_new c.args.first c.args.file.now c.requires (sym c.is_same.ensures ∙ c.if-is_same.false) (λ file some. absurd (cc))

pub returns-then-comes_before : goal.returns-then-comes_before
returns-then-comes_before c =
    let less : slice_cmp nat_cmp (file_text c.args.file.now) (file_text c.in-Some.found) ≡ Less = c.comes_before.ensures.0 c.if-comes_before.true in
    first_new c.args.first c.args.file.now c.requires (sym c.is_same.ensures ∙ c.if-is_same.false)
    (λ file some. let same : c.in-Some.found ≡ file = cc in subst (λ (f : FileName). slice_cmp nat_cmp (file_text c.args.file.now) (file_text f) ≡ Less) same less)
