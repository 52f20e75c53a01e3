-- A reader of a leaf's items goes on.
use Rattle.std.proofs.Common.{◌≡◌, ℕ, ◌+◌, ◌-◌, ◌<◌, ◌≤◌, ◌^◌, List, [], ◌++◌, length, take, drop, Some, sym, ap, subst, ◌∙◌, append_assoc, add-one, arith}
use Rattle.std.specs.List.{AllByRecursion}
use Rattle.std.proofs.lemmas.List.{drop_at, length-append}
use Rattle.std.proofs.lemmas.Option.{same_Some}
use Rattle.aria_page.specs.Number.{number}
use Rattle.aria_page.proofs.Numbers.{length-number}
use Rattle.aria_keypage.specs.declared.kind.Kind.{Kind}
use Rattle.aria_keypage.specs.declared.kind.Kind.TheVariants.{Leaf}
use Rattle.aria_keypage.specs.Item.{Item, IsItem, item_at, entry_before}
use Rattle.aria_keypage.specs.Packed.{packed, IsLeft}
use Rattle.aria_keypage.specs.StoredItem.{StoredItem, as_stored, stored_at}
use Rattle.aria_keypage.specs.Content.{Content, kind_byte, width, first_bytes, item_bytes, front, Spells}
use Rattle.aria_keypage.specs.declared.leaf_reader.LeafReader.{LeafReader}
use Rattle.aria_keypage.specs.LeafReading.{IsBefore, HasRead}
use Rattle.aria_keypage.proofs.Left.{packed-at, item_fits, left-entry}
use Rattle.aria_keypage.proofs.Spliced.{packed-cut}
use Rattle.aria_keypage.proofs.Stored.{item_again}

-- what a page begins with is as long as its item bytes and 4 bytes more
pub front-length : (c : Content) → length (front c) ≡ 4 + length (item_bytes c)
unfolding front
front-length c =
    omega (arith, length-append (number 1 (kind_byte c.kind)) (number 1 c.key ++ (number 2 (length (item_bytes c)) ++ item_bytes c)), length-append (number 1 c.key) (number 2 (length (item_bytes c)) ++ item_bytes c), length-append (number 2 (length (item_bytes c))) (item_bytes c), length-number 1 (kind_byte c.kind), length-number 1 c.key, length-number 2 (length (item_bytes c)))

-- of a leaf it ends with the items from a position on
record Ends (c : Content) (at : ℕ) : Type 0 where
  pub before : List ℕ
  pub parts : front c ≡ before ++ packed 5 (entry_before c.items at) (drop at c.items)

ends : (c : Content) (at : ℕ) → c.kind ≡ Leaf → at ≤ length c.items → Ends c at
unfolding front item_bytes
ends c at leaf h =
    let back : List ℕ = packed 5 (entry_before c.items at) (drop at c.items) in
    let ahead : List ℕ = packed 5 [] (take at c.items) in
    let a : List ℕ = number 1 (kind_byte c.kind) in
    let b : List ℕ = number 1 c.key in
    let d : List ℕ = number 2 (length (item_bytes c)) in
    let items : item_bytes c ≡ ahead ++ back = ap (λ (k : Kind). first_bytes k c.first ++ packed (width k) [] c.items) leaf ∙ packed-cut 5 c.items at h in
    record {
      before = a ++ (b ++ (d ++ ahead));
      parts = ap (λ (l : List ℕ). a ++ (b ++ (d ++ l))) items ∙ simp append_assoc;
    }

-- the bytes from a reader's place on are those of the items from its position on
pub from-byte : (body : List ℕ) (c : Content) (at : ℕ) (r : LeafReader) → (s : Spells body c) → c.kind ≡ Leaf → IsBefore c at r → drop r.byte body ≡ packed 5 (entry_before c.items at) (drop at c.items) ++ s.behind
from-byte body c at r s leaf b =
    let e = ends c at leaf b.within in
    let back : List ℕ = packed 5 (entry_before c.items at) (drop at c.items) in
    let size : length e.before ≡ r.byte = omega (arith, b.byte, ap length e.parts, length-append e.before back) in
    ap (drop r.byte) (s.parts ∙ ap (λ (l : List ℕ). l ++ s.behind) e.parts ∙ append_assoc e.before back s.behind) ∙ drop_at e.before (back ++ s.behind) r.byte size

-- where an item is left, it is read there
pub item-there : (body : List ℕ) (c : Content) (at : ℕ) (r : LeafReader) → (s : Spells body c) → c.kind ≡ Leaf → at < length c.items → IsBefore c at r
    → stored_at 5 (drop r.byte body) ≡ Some (as_stored 5 (entry_before c.items at) (item_at c.items at), packed 5 (item_at c.items at).entry (drop (at + 1) c.items) ++ s.behind)
item-there body c at r s leaf low b =
    let x : Item = item_at c.items at in
    let behind : List ℕ = packed 5 x.entry (drop (at + 1) c.items) in
    let all : AllByRecursion (IsItem 5) c.items = subst (λ (k : Kind). AllByRecursion (IsItem (width k)) c.items) leaf s.content.items in
    ap (stored_at 5) (from-byte body c at r s leaf b ∙ ap (λ (l : List ℕ). l ++ s.behind) (packed-at 5 c.items at low) ∙ append_assoc _ behind s.behind) ∙ item_again 5 (entry_before c.items at) x (behind ++ s.behind) (item_fits 5 c.items at all low)

-- and the reader then stands behind it
pub read-on : (body : List ℕ) (c : Content) (at to : ℕ) (r now : LeafReader) (x : StoredItem × List ℕ) → (s : Spells body c) → c.kind ≡ Leaf → at < length c.items → IsBefore c at r → stored_at 5 (drop r.byte body) ≡ Some x
    → now.byte ≡ length body - length x.1 → now.entry.items ≡ take x.0.shared r.entry.items ++ x.0.rest → ((n : ℕ) → n < 256 ^ 5 → x.0.to ≡ number 5 n → to ≡ n) → HasRead c at to now
read-on body c at to r now x s leaf low b read byte entry told =
    let item : Item = item_at c.items at in
    let behind : List ℕ = packed 5 item.entry (drop (at + 1) c.items) in
    let was : StoredItem = as_stored 5 (entry_before c.items at) item in
    let all : AllByRecursion (IsItem 5) c.items = subst (λ (k : Kind). AllByRecursion (IsItem (width k)) c.items) leaf s.content.items in
    let same : x ≡ (was, behind ++ s.behind) = same_Some x (was, behind ++ s.behind) (sym read ∙ item-there body c at r s leaf low b) in
    let stored : x.0 ≡ was = ap (λ (y : StoredItem × List ℕ). y.0) same in
    let rest : x.1 ≡ behind ++ s.behind = ap (λ (y : StoredItem × List ℕ). y.1) same in
    let before : now.entry.items ≡ entry_before c.items (at + 1) = entry ∙ left-entry 5 c.items at r.entry.items x.0 b.entry stored in
    let next : entry_before c.items (at + 1) ≡ item.entry = ap (entry_before c.items) (add-one at) in
    let tail : packed 5 (entry_before c.items (at + 1)) (drop (at + 1) c.items) ≡ behind = ap (λ (l : List ℕ). packed 5 l (drop (at + 1) c.items)) next in
    let small : length behind ≤ length (front c) = short (ends c (at + 1) leaf (omega (arith, low))) tail in
    record {
      to_is = told item.to (item_fits 5 c.items at all low).to (ap (λ (y : StoredItem). y.to) stored);
      entry_is = before ∙ next;
      behind = record {
        within = omega (arith, low);
        byte = omega (arith, byte, ap length rest, length-append behind s.behind, ap length s.parts, length-append (front c) s.behind, ap length tail, small);
        entry = before;
      };
    }
  where
    short : (e : Ends c (at + 1)) → packed 5 (entry_before c.items (at + 1)) (drop (at + 1) c.items) ≡ packed 5 (item_at c.items at).entry (drop (at + 1) c.items) → length (packed 5 (item_at c.items at).entry (drop (at + 1) c.items)) ≤ length (front c)
    short e tail = omega (arith, ap length e.parts, length-append e.before (packed 5 (entry_before c.items (at + 1)) (drop (at + 1) c.items)), ap length tail)

-- what is left of a leaf's items is no longer than all of them
pub left-short : (c : Content) (at : ℕ) (rest : List ℕ) → c.kind ≡ Leaf → IsLeft (width c.kind) c.items at rest → length rest ≤ length (item_bytes c)
unfolding item_bytes
left-short c at rest leaf left =
    let w : ℕ = width c.kind in
    omega (arith, length-append (first_bytes c.kind c.first) (packed w [] c.items), ap length (packed-cut w c.items at left.within), length-append (packed w [] (take at c.items)) (packed w (entry_before c.items at) (drop at c.items)), ap length left.is)

-- a reader before it
pub before-left : (c : Content) (at : ℕ) (rest : List ℕ) (r : LeafReader) → c.kind ≡ Leaf → IsLeft (width c.kind) c.items at rest → r.byte ≡ 4 + (length (item_bytes c) - length rest) → r.entry.items ≡ entry_before c.items at → IsBefore c at r
before-left c at rest r leaf left byte entry =
    let is : rest ≡ packed 5 (entry_before c.items at) (drop at c.items) = left.is ∙ ap (λ (k : Kind). packed (width k) (entry_before c.items at) (drop at c.items)) leaf in
    record { within = left.within; byte = omega (arith, byte, ap length is, front-length c, left-short c at rest leaf left); entry = entry }
