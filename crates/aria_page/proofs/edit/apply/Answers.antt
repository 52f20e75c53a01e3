use Rattle.std.proofs.Common.{◌≡◌, ◌+◌, ◌∙◌, ap, arith, length, refl, subst}
use Rattle.aria_page.specs.declared.edit.Edit.{Edit}
use Rattle.aria_page.specs.Edit.{IsWithin, edited}
use Rattle.aria_page.specs.Page.{with_bytes}
use Rattle.aria_page.proofs.Edits.{put_in_body, shift_in_body, whole_in_body}
use Rattle.aria_page.proofs.edit.apply.Goals as goal

pub returns-in-Set-clause-ok : goal.returns-in-Set-clause-ok
unfolding edited
returns-in-Set-clause-ok c =
    rw c.in-Set.is (c.put.ensures.bytes ∙ ap (λ bytes. with_bytes (11 + c.in-Set.at) bytes c.args.page.now) c.as_slice.ensures ∙ put_in_body c.in-Set.at c.in-Set.bytes c.args.page.now)

pub returns-in-Shift-clause-ok : goal.returns-in-Shift-clause-ok
unfolding edited
returns-in-Shift-clause-ok c = rw c.in-Shift.is (c.copy_within.ensures.bytes ∙ shift_in_body c.in-Shift.at c.in-Shift.len c.in-Shift.to c.args.page.now)

pub returns-in-Whole-clause-ok : goal.returns-in-Whole-clause-ok
unfolding edited
returns-in-Whole-clause-ok c =
    let P : Edit → Type 0 = λ e. IsWithin e in
    let size : length c.in-Whole.body ≡ 8181 = subst P c.in-Whole.is (c.if-not-is_within.ensures.0 refl) in
    rw c.in-Whole.is (c.put-in-Whole.ensures.bytes ∙ ap (λ body. with_bytes 11 body c.args.page.now) c.as_slice-in-Whole.ensures ∙ whole_in_body c.in-Whole.body c.args.page.now (omega (arith, size, c.put-in-Whole.ensures.len_before)))
