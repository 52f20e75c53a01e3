use Rattle.std.proofs.Common.{◌≡◌, ◌∙◌, ap, arith, length, List, ℕ, subst, ◌≤◌}
use Rattle.aria_page.specs.Edit.{IsWithin, edited}
use Rattle.aria_page.specs.Page.{page_body, with_body}
use Rattle.aria_page.proofs.Edits.{put_in_body, shift_in_body, whole_in_body, page_body-with_body}
use Rattle.aria_page.specs.declared.change.Change.{Change}
use Rattle.aria_page.specs.Change.{edit_of}
use Rattle.aria_page.proofs.change.Change.apply.Goals as goal

-- what a page with another body is
record Made (text old new : List ℕ) : Type 0 where
  page : new ≡ with_body text old
  body : page_body new ≡ text

made : (body page new : List ℕ) → new ≡ with_body body page → 11 ≤ length page → Made body page new
made body page new is low = record { page = is; body = ap page_body is ∙ page_body-with_body body page low }

pub returns-in-Set : goal.returns-in-Set
unfolding edited
returns-in-Set c =
    let m = made _ c.args.page.now _ (c.put.ensures.bytes ∙ put_in_body c.in-Set.at c.in-Set.bytes.now c.args.page.now) (omega (arith, c.put.ensures.len_before)) in
    rw c.in-Set.is record { page = m.page; body = m.body }

pub returns-in-Shift : goal.returns-in-Shift
unfolding edited
returns-in-Shift c =
    let m = made _ c.args.page.now _ (c.copy_within.ensures.bytes ∙ shift_in_body c.in-Shift.at c.in-Shift.len c.in-Shift.to c.args.page.now) (omega (arith, c.copy_within.ensures.len_before)) in
    rw c.in-Shift.is record { page = m.page; body = m.body }

pub returns-in-Whole : goal.returns-in-Whole
unfolding edited
returns-in-Whole c =
    let P : Change → Type 0 = λ e. IsWithin (edit_of e) in
    let size : length c.in-Whole.body.now ≡ 8181 = subst P c.in-Whole.is c.requires in
    let m = made _ c.args.page.now _ (c.put-in-Whole.ensures.bytes ∙ whole_in_body c.in-Whole.body.now c.args.page.now (omega (arith, size, c.put-in-Whole.ensures.len_before))) (omega (arith, c.put-in-Whole.ensures.len_before)) in
    rw c.in-Whole.is record { page = m.page; body = m.body }
