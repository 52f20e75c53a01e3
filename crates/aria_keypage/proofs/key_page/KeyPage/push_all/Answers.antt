use Rattle.std.proofs.Common.{◌∙◌, ◌++◌, ap, sym, arith, List, ℕ, append_assoc}
use Rattle.aria_keypage.specs.Content.{Content, width}
use Rattle.aria_keypage.specs.Pieces.{first_packed, rest_packed}
use Rattle.aria_keypage.proofs.Spliced.{pieces}
use Rattle.aria_keypage.proofs.Divided.{own-packed}
use Rattle.aria_keypage.proofs.key_page.KeyPage.push_all.Goals as goal

pub push_next-requires-clause-rest : goal.push_next-requires-clause-rest
push_next-requires-clause-rest c = record {
  within = omega arith;
  is = own-packed c.self.inside.kind c.self.inside.key c.self.inside.first c.self.inside.count c.self.inside.items.now c.args.self.now c.self.invariant c.self.view_is;
}

pub returns : goal.returns
returns c =
    let d : Content = c.args.self.now in
    let w : ℕ = width d.kind in
    let out : List ℕ = c.args.out.now.items in
    let first : List ℕ = first_packed w c.args.entry.now d.items in
    let rest : List ℕ = rest_packed w d.items in
    c.in_ok-extend_from_slice.ensures.items ∙ (λ i. c.in_ok-behind.ensures.bytes i ++ c.in_ok-behind.ensures.behind i) ∙ append_assoc out first rest ∙ ap (λ (l : List ℕ). out ++ l) (sym (pieces w c.args.entry.now d.items))
