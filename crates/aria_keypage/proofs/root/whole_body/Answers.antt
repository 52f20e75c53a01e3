use Rattle.std.proofs.Common.{◌≡◌, ◌+◌, ◌∙◌, ◌++◌, ◌∷◌, [], ap, sym, arith, length, List, ℕ, vec_len}
use Rattle.std.proofs.lemmas.List.{length-append}
use Rattle.aria_page.proofs.Numbers.{length-number}
use Rattle.aria_keypage.specs.Content.{kind_byte}
use Rattle.aria_keypage.proofs.Whole.{whole-spells, filled}
use Rattle.aria_keypage.proofs.root.whole_body.Goals as goal

pub returns : goal.returns
returns c d is el ek eb =
    let a : List ℕ = c.push.new.self.items in
    let b : List ℕ = c.push-2.new.self.items in
    let n : List ℕ = c.extend_from_slice.new.self.items in
    let e : List ℕ = c.extend_from_slice-2.new.self.items in
    let ea : a ≡ c.byte.result ∷ [] = c.in_ok-push.ensures.items ∙ ap (λ (l : List ℕ). l ++ c.byte.result ∷ []) c.new-body.ensures.items in
    let long : length e ≡ 4 + length c.args.bytes.now = omega (arith, ap length ea, ap length c.in_ok-push-2.ensures.items, length-append a (c.args.key ∷ []), ap length c.in_ok-extend_from_slice.ensures.items, length-append b c.u16_bytes.result, ap length c.u16_bytes.ensures, length-number 2 (length c.args.bytes.now), ap length c.in_ok-extend_from_slice-2.ensures.items, length-append n c.args.bytes.now) in
    let counted : vec_len c.extend_from_slice-2.new.self ≡ length e = omega (arith, long, c.new-body.ensures.len, c.in_ok-push.ensures.len, c.in_ok-push-2.ensures.len, c.in_ok-extend_from_slice.ensures.len, c.in_ok-extend_from_slice-2.ensures.len, ap length c.u16_bytes.ensures, length-number 2 (length c.args.bytes.now)) in
    let full = filled 8181 (vec_len c.extend_from_slice-2.new.self) e c.resize.new.self.items counted (omega (arith, long, c.requires)) c.in_ok-resize.ensures.items in
    whole-spells d c.byte.result c.args.key a b n e c.from_vec.result c.u16_bytes.result c.args.bytes.now _ is (c.byte.ensures ∙ ap kind_byte (sym el)) (sym ek) (sym eb) c.u16_bytes.ensures
    ea c.in_ok-push-2.ensures.items c.in_ok-extend_from_slice.ensures.items c.in_ok-extend_from_slice-2.ensures.items (c.from_vec.ensures ∙ full.0) (ap length c.from_vec.ensures ∙ full.1)
