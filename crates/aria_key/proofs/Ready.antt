-- The half of a divided page into which an item goes: it holds what it must, and has room.
use Rattle.std.proofs.Common.{◌≡◌, ℕ, ◌+◌, ◌≤◌, ◌<◌, Bool, true, false, cond, List, length, refl, sym, ◌∙◌, ap, subst, arith, nat_le, inl, inr}
use Rattle.std.proofs.lemmas.Bool.{cases_lt}
use Rattle.std.proofs.lemmas.Bool.Decides.{nat_tests}
use Rattle.std.proofs.lemmas.List.{length-take, length-drop}
use Rattle.aria_host.specs.declared.file_name.FileName.{FileName}
use Rattle.aria_cache.specs.PageState.{Bodies}
use Rattle.aria_keypage.specs.declared.key_page.TheConstants.{ITEM_BYTES_MAX}
use Rattle.aria_keypage.specs.declared.kind.Kind.{Kind}
use Rattle.aria_keypage.specs.declared.kind.Kind.TheVariants.{Leaf, Node}
use Rattle.aria_keypage.specs.Item.{Item, item_at, entry_before}
use Rattle.aria_keypage.specs.Packed.{shared}
use Rattle.aria_keypage.specs.Content.{Content, width, item_bytes}
use Rattle.aria_keypage.specs.Change.{with_item}
use Rattle.aria_keypage.specs.Split.{left_half, right_from, right_half}
use Rattle.aria_keypage.proofs.Spliced.{grown-none, grown-some}
use Rattle.aria_keypage.proofs.Stored.{shared-lt}
use Rattle.aria_key.specs.Step.{in_right}
use Rattle.aria_key.specs.Held.{HasContent, Takes, Rewritten, IsDivided, IsPutInHalf}
use Rattle.aria_key.proofs.Dividing.{right-kind}
use Rattle.aria_key.proofs.Halved.{into-left, into-right}

width-most : (kind : Kind) → width kind ≤ 5
width-most Leaf = omega arith
width-most Node = omega arith

-- wherever an item is put, the page grows by no more than this
pub grown-most : (c : Content) (at : ℕ) (x : Item) → at ≤ length c.items → length x.entry ≤ 1000 → length (item_bytes (with_item c at x)) ≤ length (item_bytes c) + 1263
grown-most c at x h short = elim (cases_lt at (length c.items)) as (λ _. length (item_bytes (with_item c at x)) ≤ length (item_bytes c) + 1263) [
  | inl lt ↦
      let p : List ℕ = entry_before c.items at in
      let y : List ℕ = (item_at c.items at).entry in
      omega (arith, grown-some c at (shared p x.entry) (shared x.entry y) (shared p y) x lt refl refl refl, shared-lt p y, width-most c.kind)
  | inr ge ↦ omega (arith, grown-none c at (shared (entry_before c.items at) x.entry) x (omega arith) refl, width-most c.kind)
]

pub le-of : (a b : ℕ) → nat_le a b ≡ true → a ≤ b
le-of a b h = grind (arith, nat_tests)

pub lt-of : (a b : ℕ) → nat_le a b ≡ false → b < a
lt-of a b h = grind (arith, nat_tests)

-- a position in the right half
pub right-within : (c : Content) (k at : ℕ) → k < length c.items → k < at → at ≤ length c.items → in_right c.kind k at ≤ length (right_half c k).items
right-within c k at some more within = by c.kind
  where
    by : (kind : Kind) → in_right kind k at ≤ length (right_from kind c k).items
    by Leaf = omega (arith, length-drop k c.items)
    by Node = omega (arith, length-drop (k + 1) c.items)

-- the half that takes the item
pub record IsReady (file : FileName) (page fresh : ℕ) (c : Content) (at : ℕ) (x : Item) (between : List ℕ) (old mid : Bodies) (kind : Kind) (half place : ℕ) : Type 0 where
  pub content : Content
  pub held : HasContent (mid file) half content
  pub takes : Takes kind place content
  pub room : length (item_bytes (with_item content place x)) ≤ ITEM_BYTES_MAX
  pub made : (new : Bodies) → Rewritten file half (with_item content place x) mid new → IsPutInHalf file page fresh c at x between old new

pub ready : (file : FileName) (page fresh : ℕ) (c : Content) (at : ℕ) (x : Item) (between : List ℕ) (old mid : Bodies) (kind : Kind) (k half place : ℕ) → HasContent (old file) page c → (d : IsDivided file page fresh c between old mid) → (page ≡ fresh → ⊥)
    → k ≡ d.at → c.kind ≡ kind → at ≤ length c.items → length x.entry ≤ 1000 → half ≡ cond (nat_le at k) page fresh → place ≡ cond (nat_le at k) at (in_right kind k at) → IsReady file page fresh c at x between old mid kind half place
ready file page fresh c at x between old mid kind k half place h d apart ek same within short eh ep = by (nat_le at k) refl
  where
    by : (b : Bool) → nat_le at k ≡ b → IsReady file page fresh c at x between old mid kind half place
    by true t =
        let le : at ≤ d.at = omega (arith, le-of at k t, ek) in
        let left : Content = left_half c d.at in
        let here : half ≡ page = eh ∙ ap (λ (b : Bool). cond b page fresh) t in
        let there : place ≡ at = ep ∙ ap (λ (b : Bool). cond b at (in_right kind k at)) t in
        let inside : at ≤ length left.items = omega (arith, le, within, length-take d.at c.items) in
        let fits : length (item_bytes (with_item left at x)) ≤ ITEM_BYTES_MAX = omega (arith, grown-most left at x inside short, d.sizes.left_most, h.spells.content.size) in
        record {
          content = left;
          held = subst (λ (n : ℕ). HasContent (mid file) n left) (sym here) d.left;
          takes = (same, omega (arith, there, inside));
          room = subst (λ (n : ℕ). length (item_bytes (with_item left n x)) ≤ ITEM_BYTES_MAX) (sym there) fits;
          made = λ new w. into-left file page fresh c at x between old mid new d apart le (subst (λ (n : ℕ). Rewritten file page (with_item left n x) mid new) there (subst (λ (n : ℕ). Rewritten file n (with_item left place x) mid new) here w));
        }
    by false t =
        let gt : d.at < at = omega (arith, lt-of at k t, ek) in
        let right : Content = right_half c d.at in
        let here : half ≡ fresh = eh ∙ ap (λ (b : Bool). cond b page fresh) t in
        let there : place ≡ in_right c.kind d.at at = ep ∙ ap (λ (b : Bool). cond b at (in_right kind k at)) t ∙ (λ i. in_right (sym same i) (ek i) at) in
        let inside : in_right c.kind d.at at ≤ length right.items = right-within c d.at at d.sizes.more gt within in
        let fits : length (item_bytes (with_item right (in_right c.kind d.at at) x)) ≤ ITEM_BYTES_MAX =
        omega (arith, grown-most right (in_right c.kind d.at at) x inside short, d.sizes.right_most, h.spells.content.size) in
        record {
          content = right;
          held = subst (λ (n : ℕ). HasContent (mid file) n right) (sym here) d.right;
          takes = (right-kind c d.at ∙ same, omega (arith, there, inside));
          room = subst (λ (n : ℕ). length (item_bytes (with_item right n x)) ≤ ITEM_BYTES_MAX) (sym there) fits;
          made = λ new w. into-right file page fresh c at x between old mid new d apart gt (subst (λ (n : ℕ). Rewritten file fresh (with_item right n x) mid new) there (subst (λ (n : ℕ). Rewritten file n (with_item right place x) mid new) here w));
        }
