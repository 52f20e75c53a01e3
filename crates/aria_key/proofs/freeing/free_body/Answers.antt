use Rattle.std.proofs.Common.{◌≡◌, ◌∙◌, ◌++◌, ◌∷◌, [], ap, arith, length, List, ℕ, vec_len}
use Rattle.std.proofs.lemmas.List.{length-append}
use Rattle.aria_page.specs.declared.page_kind.PageKind.TheVariants.{FreeIndex}
use Rattle.aria_page.specs.PageKind.{kind_byte}
use Rattle.aria_key.proofs.Freed.{free-bytes}
use Rattle.aria_key.proofs.freeing.free_body.Goals as goal

pub returns : goal.returns
returns c =
    let a : List ℕ = c.push.new.self.items in
    let e : List ℕ = c.extend_from_slice.new.self.items in
    let ea : a ≡ kind_byte FreeIndex ∷ [] = c.in_ok-push.ensures.items ∙ (λ i. c.new-body.ensures.items i ++ c.to_byte.ensures i ∷ []) in
    let counted : vec_len c.extend_from_slice.new.self ≡ length e =
    omega (arith, c.new-body.ensures.len, c.in_ok-push.ensures.len, c.in_ok-extend_from_slice.ensures.len, ap length c.in_ok-extend_from_slice.ensures.items, length-append a c.u32_bytes.result, ap length ea) in
    free-bytes c.args.next (vec_len c.extend_from_slice.new.self) a e c.from_vec.result c.u32_bytes.result c.ranges.next.fits ea c.u32_bytes.ensures c.in_ok-extend_from_slice.ensures.items counted (c.from_vec.ensures ∙ c.in_ok-resize.ensures.items)
