use Rattle.std.proofs.Common.{◌∙◌, ap, refl, arith, length}
use Rattle.aria_keypage.specs.Item.{Item, IsItem}
use Rattle.aria_keypage.specs.Change.{leaf_of_one}
use Rattle.aria_keypage.proofs.Whole.{one-leaf}
use Rattle.aria_keypage.proofs.root.root_leaf.Goals as goal

pub whole_body-requires : goal.whole_body-requires
whole_body-requires c =
    let x : Item = record { entry = c.args.entry.now; to = c.args.target } in
    let fits : IsItem 5 x = record { entry = c.requires.entry; to = c.requires.target } in
    let one = one-leaf c.args.key x c.new-bytes.result.items c.as_slice.result.now (omega arith) fits c.new-bytes.ensures.items (c.as_slice.ensures.value ∙ c.in_ok-push_item.ensures) in
    omega (arith, ap length one.1, one.0.size)

pub returns : goal.returns
returns c =
    let x : Item = record { entry = c.args.entry.now; to = c.args.target } in
    let fits : IsItem 5 x = record { entry = c.requires.entry; to = c.requires.target } in
    let one = one-leaf c.args.key x c.new-bytes.result.items c.as_slice.result.now (omega arith) fits c.new-bytes.ensures.items (c.as_slice.ensures.value ∙ c.in_ok-push_item.ensures) in
    c.whole_body.ensures (leaf_of_one c.args.key x) one.0 refl refl one.1
