use Rattle.std.proofs.Common.{◌∙◌, ap, refl, arith, length}
use Rattle.aria_keypage.specs.Item.{Item, IsItem}
use Rattle.aria_keypage.specs.Change.{node_of_one}
use Rattle.aria_keypage.proofs.Whole.{one-node}
use Rattle.aria_keypage.proofs.root.root_node.Goals as goal

pub whole_body-requires : goal.whole_body-requires
whole_body-requires c =
    let x : Item = record { entry = c.args.entry.now; to = c.args.child } in
    let fits : IsItem 4 x = record { entry = c.requires; to = omega arith } in
    let one = one-node c.args.key c.args.first x c.new-bytes.result.items c.extend_from_slice.new.self.items c.as_slice.result.now c.u32_bytes.result (omega arith) (omega arith) fits c.new-bytes.ensures.items c.u32_bytes.ensures c.in_ok-extend_from_slice.ensures.items (c.as_slice.ensures.value ∙ c.in_ok-push_item.ensures) in
    omega (arith, ap length one.1, one.0.size)

pub returns : goal.returns
returns c =
    let x : Item = record { entry = c.args.entry.now; to = c.args.child } in
    let fits : IsItem 4 x = record { entry = c.requires; to = omega arith } in
    let one = one-node c.args.key c.args.first x c.new-bytes.result.items c.extend_from_slice.new.self.items c.as_slice.result.now c.u32_bytes.result (omega arith) (omega arith) fits c.new-bytes.ensures.items c.u32_bytes.ensures c.in_ok-extend_from_slice.ensures.items (c.as_slice.ensures.value ∙ c.in_ok-push_item.ensures) in
    c.whole_body.ensures (node_of_one c.args.key c.args.first x) one.0 refl refl one.1
