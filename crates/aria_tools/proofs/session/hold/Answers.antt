use Rattle.std.proofs.Common.{◌≡◌, List, ℕ, ◌-◌, ◌++◌, length, take, min, ap, ◌∙◌}
use Rattle.aria_tools.proofs.Holding.{clip_more, on_ok_where}
use Rattle.aria_tools.proofs.session.hold.Goals as goal

pub returns : goal.returns
returns c =
    let held = c.args.held.now.items in
    let bytes = c.args.bytes.now in
    let room : c.min.result ≡ min (1048577 - length held) (length bytes) = c.min.ensures ∙ ap (λ (n : ℕ). min n (length bytes)) (c.saturating_sub-room.ensures ∙ ap (λ (l : List ℕ). 1048577 - length l) c.as_slice.ensures.value) in
    on_ok_where c.extend_from_slice.result c.extend_from_slice.new.self.items (held ++ take c.min.result bytes) held c.extend_from_slice.ensures.items
    (λ new_is rest held_is. clip_more rest bytes held c.extend_from_slice.new.self.items held_is (new_is ∙ ap (λ (n : ℕ). held ++ take n bytes) room))
