-- An item that was put into one of two halves.
use Rattle.std.proofs.Common.{◌≡◌, ℕ, ◌<◌, ◌≤◌, Bool, true, false, cond, List, length, sym, ◌∙◌, subst, arith, nat_le}
use Rattle.std.proofs.lemmas.List.{length-take}
use Rattle.std.proofs.lemmas.Bool.Decides.{nat_tests}
use Rattle.aria_host.specs.declared.file_name.FileName.{FileName}
use Rattle.aria_cache.specs.PageState.{Bodies}
use Rattle.aria_keypage.specs.Item.{Item}
use Rattle.aria_keypage.specs.Content.{Content}
use Rattle.aria_keypage.specs.Change.{with_item}
use Rattle.aria_keypage.specs.Split.{left_half, right_half}
use Rattle.aria_key.specs.Step.{in_right}
use Rattle.aria_key.specs.Held.{HasContent, Rewritten, IsDivided, IsPutInHalf}
use Rattle.aria_key.proofs.Holding.{still}

pub left-count : (c : Content) (k n : ℕ) → k ≤ length c.items → n ≡ length (left_half c k).items → n ≡ k
left-count c k n h e = omega (arith, e, length-take k c.items)

yes : (a b : ℕ) → a ≤ b → nat_le a b ≡ true
yes a b h = grind (arith, nat_tests)

no-more : (a b : ℕ) → b < a → nat_le a b ≡ false
no-more a b h = grind (arith, nat_tests)

pub into-left : (file : FileName) (page fresh : ℕ) (c : Content) (at : ℕ) (x : Item) (between : List ℕ) (old mid new : Bodies) → (d : IsDivided file page fresh c between old mid) → (page ≡ fresh → ⊥) → at ≤ d.at → Rewritten file page (with_item (left_half c d.at) at x) mid new
    → IsPutInHalf file page fresh c at x between old new
into-left file page fresh c at x between old mid new d apart le w =
    let test : nat_le at d.at ≡ true = yes at d.at le in
    record {
      k = d.at;
      middle = d.middle;
      sizes = d.sizes;
      left = subst (λ (b : Bool). HasContent (new file) page (cond b (with_item (left_half c d.at) at x) (left_half c d.at))) (sym test) w.here;
      right = subst (λ (b : Bool). HasContent (new file) fresh (cond b (right_half c d.at) (with_item (right_half c d.at) (in_right c.kind d.at at) x))) (sym test) (still file page fresh (with_item (left_half c d.at) at x) (right_half c d.at) mid new w (λ e. apart (sym e)) d.right);
      between_is = d.between_is;
      other = λ f n p q. w.other f n p ∙ d.other f n p q;
    }

pub into-right : (file : FileName) (page fresh : ℕ) (c : Content) (at : ℕ) (x : Item) (between : List ℕ) (old mid new : Bodies) → (d : IsDivided file page fresh c between old mid) → (page ≡ fresh → ⊥) → d.at < at → Rewritten file fresh (with_item (right_half c d.at) (in_right c.kind d.at at) x) mid new
    → IsPutInHalf file page fresh c at x between old new
into-right file page fresh c at x between old mid new d apart gt w =
    let test : nat_le at d.at ≡ false = no-more at d.at gt in
    record {
      k = d.at;
      middle = d.middle;
      sizes = d.sizes;
      left = subst (λ (b : Bool). HasContent (new file) page (cond b (with_item (left_half c d.at) at x) (left_half c d.at))) (sym test) (still file fresh page (with_item (right_half c d.at) (in_right c.kind d.at at) x) (left_half c d.at) mid new w apart d.left);
      right = subst (λ (b : Bool). HasContent (new file) fresh (cond b (right_half c d.at) (with_item (right_half c d.at) (in_right c.kind d.at at) x))) (sym test) w.here;
      between_is = d.between_is;
      other = λ f n p q. w.other f n q ∙ d.other f n p q;
    }
