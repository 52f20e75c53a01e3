use Rattle.std.proofs.Common.{◌∙◌, refl}
use Rattle.aria_keypage.proofs.Options.{some-map, none-map}
use Rattle.aria_keypage.proofs.Read.{leaf-bytes, page-node}
use Rattle.aria_keypage.proofs.key_page.of_bytes.Goals as goal

pub returns-in-Leaf-clause-none : goal.returns-in-Leaf-clause-none
returns-in-Leaf-clause-none c =
    none-map c.of_items.result _ _ (λ none d is e eb. none d.items (leaf-bytes d c.args.bytes.now is (e ∙ c.in-Leaf.is) eb)) c.of_items.ensures.none

pub returns-in-Node-clause-found : goal.returns-in-Node-clause-found
returns-in-Node-clause-found c = some-map c.of_node.result _ _ (λ p is. page-node c.args.kind c.args.key c.args.bytes.now c.args.bytes.now p c.in-Node.is refl is) c.of_node.ensures.found

pub returns-in-Node-clause-none : goal.returns-in-Node-clause-none
returns-in-Node-clause-none c =
    none-map c.of_node.result _ _ (λ none d is e eb. none d is (e ∙ c.in-Node.is) eb) c.of_node.ensures.none
