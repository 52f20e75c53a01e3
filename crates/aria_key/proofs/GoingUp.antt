-- The way back up from a leaf, node by node.
use Rattle.std.proofs.Common.{◌≡◌, ℕ, zero, suc, ◌+◌, ◌<◌, ◌≤◌, Bool, List, [], ◌∷◌, ◌++◌, length, IsTrue, Option, Some, None, refl, sym, ap, subst, ◌∙◌, arith, inl, inr, length-append}
use Rattle.std.specs.Prelude.{⊤}
use Rattle.std.proofs.lemmas.Bool.{cases_lt}
use Rattle.aria_host.specs.declared.fault.Fault.{Fault}
use Rattle.aria_cache.specs.PageState.{PageState}
use Rattle.aria_keypage.specs.Item.{Item, item_at}
use Rattle.aria_keypage.specs.Content.{Content}
use Rattle.aria_key.specs.declared.path.Passed.{Passed}
use Rattle.aria_key.specs.Held.{HasContent}
use Rattle.aria_key.specs.Cursor.{entry_in, IsWayTo}
use Rattle.aria_key.specs.Reading.{keys_file, Reads, OfKeyPage, OfTree}
use Rattle.aria_key.specs.WayUp.{IsOnWayUp, HasWay}
use Rattle.aria_key.proofs.Behind.{Lowest, lowest, way-up}
use Rattle.aria_key.proofs.Finding.{held_then}
use Rattle.aria_key.proofs.Later.{IsThere}
use Rattle.aria_key.proofs.Reading.{reads_none, reads_on}
use Rattle.aria_key.proofs.Then.{page_then}

-- the entry at a position of a list
pub entry-is : (xs : List Item) (n : ℕ) → n < length xs → entry_in xs n ≡ Some (item_at xs n).entry
entry-is [] n h = absurd (omega (arith, h))
entry-is (x ∷ xs) zero h = refl
entry-is (x ∷ xs) (suc n) h = entry-is xs n (omega (arith, h))

pub entry-none : (xs : List Item) (n : ℕ) → length xs ≤ n → entry_in xs n ≡ None
entry-none [] n h = refl
entry-none (x ∷ xs) zero h = absurd (omega (arith, h))
entry-none (x ∷ xs) (suc n) h = entry-none xs n (omega (arith, h))

-- the lowest node of a way is there
lowest-there : (bodies : ℕ → Option (List ℕ)) (count : ℕ) (front : List Passed) (last : Passed) (next : Option (List ℕ)) → (l : Lowest bodies count front last next) → HasContent bodies last.page l.here.content
lowest-there bodies count front last next l = record { body = l.held.body; there = ap bodies (sym l.page_is) ∙ l.held.there; size = l.held.size; spells = l.held.spells }

-- where it has a child behind the one of the way, the next page begins there
up-found : (bodies : ℕ → Option (List ℕ)) (count : ℕ) (front : List Passed) (last : Passed) (next found : Option (List ℕ)) (low : List ℕ) → (l : Lowest bodies count front last next) → found ≡ entry_in l.here.content.items last.at → found ≡ Some low → Some low ≡ next
up-found bodies count front last next found low l is e = elim (cases_lt last.at (length l.here.content.items)) [
  | inl lt ↦ sym e ∙ is ∙ entry-is l.here.content.items last.at lt ∙ sym (l.within lt)
  | inr ge ↦ absurd (let n = is ∙ entry-none l.here.content.items last.at ge in cc)
]

-- else it is the next one of the way above
up-left : (bodies : ℕ → Option (List ℕ)) (count : ℕ) (front : List Passed) (last : Passed) (next found : Option (List ℕ)) → (l : Lowest bodies count front last next) → found ≡ entry_in l.here.content.items last.at → found ≡ None → IsWayTo bodies count front next
up-left bodies count front last next found l is e = elim (cases_lt last.at (length l.here.content.items)) [
  | inl lt ↦ absurd (let n = is ∙ entry-is l.here.content.items last.at lt in cc)
  | inr ge ↦ l.over ge
]

-- at a leaf
pub up_begins : (tells : Bool) (slot : ℕ) (path : List Passed) (s : PageState) → length path ≤ 16 → IsOnWayUp tells slot 0 path path s s
up_begins tells slot path s h = record { reads = reads_none tells s; few = omega (arith, h); on = λ t next w. w }

-- what a page on the way tells
abbrev pub TellsEntry : Bool → ℕ → Passed → PageState → Option (List ℕ) → Type 0
TellsEntry tells slot last now found = IsTrue tells → (c : Content) → HasContent (now.bodies (keys_file now slot)) last.page c → found ≡ entry_in c.items last.at

told : (tells : Bool) (slot level : ℕ) (whole path front : List Passed) (last : Passed) (old now : PageState) (found next : Option (List ℕ)) → (w : IsOnWayUp tells slot level whole path old now) → path ≡ front ++ last ∷ [] → TellsEntry tells slot last now found → IsTrue tells
    → IsWayTo (old.bodies (keys_file old slot)) (old.counts (keys_file old slot)) whole next → (l : Lowest (old.bodies (keys_file old slot)) (old.counts (keys_file old slot)) front last next) × (found ≡ entry_in l.here.content.items last.at)
told tells slot level whole path front last old now found next w parts tell t h =
    let bodies = old.bodies (keys_file old slot) in
    let count = old.counts (keys_file old slot) in
    let l = lowest bodies count front last next (subst (λ (p : List Passed). IsWayTo bodies count p next) parts (w.on t next h)) in
    (l, tell t l.here.content (held_then tells slot level last.page l.here.content old now w.reads t (lowest-there bodies count front last next l)))

-- a level up
pub up_on : (tells : Bool) (slot level : ℕ) (whole path front : List Passed) (last : Passed) (old now new : PageState) (found : Option (List ℕ)) → IsOnWayUp tells slot level whole path old now → Reads tells 1 now new → path ≡ front ++ last ∷ [] → TellsEntry tells slot last now found → found ≡ None
    → IsOnWayUp tells slot (level + 1) whole front old new
up_on tells slot level whole path front last old now new found w reads parts tell e = record {
  reads = reads_on tells level 1 old now new w.reads reads;
  few = omega (arith, w.few, ap length parts, length-append front (last ∷ []));
  on = λ t next h.
      let k = told tells slot level whole path front last old now found next w parts tell t h in
      up-left (old.bodies (keys_file old slot)) (old.counts (keys_file old slot)) front last next found k.0 k.1 e;
}

-- where it ends
pub up_ends : (tells : Bool) (slot level : ℕ) (whole path front : List Passed) (last : Passed) (old now : PageState) (found : Option (List ℕ)) (low : List ℕ) → IsOnWayUp tells slot level whole path old now → path ≡ front ++ last ∷ [] → TellsEntry tells slot last now found → found ≡ Some low
    → IsTrue tells → (next : Option (List ℕ)) → IsWayTo (old.bodies (keys_file old slot)) (old.counts (keys_file old slot)) whole next → Some low ≡ next
up_ends tells slot level whole path front last old now found low w parts tell e t next h =
    let k = told tells slot level whole path front last old now found next w parts tell t h in
    up-found (old.bodies (keys_file old slot)) (old.counts (keys_file old slot)) front last next found low k.0 k.1 e

-- above the root
pub up_none : (tells : Bool) (slot level : ℕ) (whole path : List Passed) (old now : PageState) → IsOnWayUp tells slot level whole path old now → path ≡ [] → IsTrue tells → (next : Option (List ℕ)) → IsWayTo (old.bodies (keys_file old slot)) (old.counts (keys_file old slot)) whole next → None ≡ next
up_none tells slot level whole path old now w e t next h =
    let bodies = old.bodies (keys_file old slot) in
    let count = old.counts (keys_file old slot) in
    sym (way-up bodies count next (subst (λ (p : List Passed). IsWayTo bodies count p next) e (w.on t next h)))

-- why a page on the way can't be read
pub up_cause : (tells logged : Bool) (slot level : ℕ) (whole path front : List Passed) (last : Passed) (old now new : PageState) → IsOnWayUp tells slot level whole path old now → path ≡ front ++ last ∷ [] → (f : Fault) → OfKeyPage tells logged (λ c. ⊤) (keys_file now slot) last.page now new f
    → OfTree tells logged (HasWay old (keys_file old slot) whole) (keys_file old slot) old new f
up_cause tells logged slot level whole path front last old now new w parts f k =
    page_then tells logged (λ c. ⊤) (HasWay old (keys_file old slot) whole) slot level last.page old now new w.reads (λ t h. by t h (lowest (old.bodies (keys_file old slot)) (old.counts (keys_file old slot)) front last h.next (subst (λ (p : List Passed). IsWayTo (old.bodies (keys_file old slot)) (old.counts (keys_file old slot)) p h.next) parts (w.on t h.next h.way)))) f k
  where
    by : IsTrue tells → (h : HasWay old (keys_file old slot) whole) → Lowest (old.bodies (keys_file old slot)) (old.counts (keys_file old slot)) front last h.next → IsThere old (keys_file old slot) last.page (λ c. ⊤)
    by t h l = record {
      low = let same = l.page_is in omega (arith, l.held.low, same);
      content = l.here.content;
      held = lowest-there (old.bodies (keys_file old slot)) (old.counts (keys_file old slot)) front last h.next l;
      asked = tt;
    }
