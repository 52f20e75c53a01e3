-- A table is known no more, and its slot is unused.
use Rattle.std.proofs.Common.{◌≡◌, ◌∙◌, ◌⊎◌, inl, inr, ◌<◌, ℕ, zero, suc, Bool, true, false, cond, nat_eq, List, [], ◌∷◌, length, ap, sym, refl, subst, arith, Option, None, Some}
use Rattle.std.specs.Prelude.{IsTrue, slice_get}
use Rattle.std.specs.BTreeMap.{BTreeMap, get, UpdatesBy}
use Rattle.std.specs.Ordering.{nat_cmp, is_eq}
use Rattle.std.specs.Cmp.Lexicographic.{slice_cmp, texts_ties, bytes_decides}
use Rattle.std.specs.Option.{option_map, option_map_or, option_and_then}
use Rattle.std.proofs.lemmas.Bool.{eqb-true}
use Rattle.aria_value.specs.Named.{same_name}
use Rattle.aria_host.specs.Folder.{Folder}
use Rattle.aria_record.specs.Logged.{Logged}
use Rattle.aria_cache.specs.declared.frames.Frames.{Frames}
use Rattle.aria_cache.specs.Frames.{held, without_slot}
use Rattle.aria_pager.specs.declared.page_store.PageStore.{PageStore}
use Rattle.aria_pager.specs.declared.slot.Slot.{Slot}
use Rattle.aria_pager.specs.PageStore.{name_in, name_at, sizes_in, sizes_at, opened, set_at}
use Rattle.aria_pager.specs.Pager.{AreSlots, known}
use Rattle.aria_pager.specs.Filing.{unused, freed, LeavesSlot, Leaves, Forgets, FewerSlots, AreTidy}
use Rattle.aria_pager.proofs.Setting.{set_here, set_other}
use Rattle.aria_pager.proofs.Slots.{find, both_on, slot_open}

-- one slot is unused
pub freed_at : (slots : List Slot) (n : ℕ) (slot : Slot) → slice_get slots n ≡ Some slot → freed slots n ≡ set_at slots n (unused slot)
freed_at slots n slot there = ap (λ (o : Option Slot). option_map_or (λ slot. set_at slots n (unused slot)) o slots) there

-- a slot that is there has a place
pub place_of : (slots : List Slot) (n : ℕ) (slot : Slot) → slice_get slots n ≡ Some slot → n < length slots
place_of [] n slot there = absurd (cc)
place_of (x ∷ slots) zero slot there = omega arith
place_of (x ∷ slots) (suc n) slot there = let e = place_of slots n slot there in omega (arith, e)

-- the order of names tells them apart
pub by_order : (a b : List ℕ) → is_eq (slice_cmp nat_cmp a b) ≡ same_name a b
by_order a b = sym (texts_ties a b)

-- what is known without one name
pub knows_without : (name : List ℕ) (tables tables' : BTreeMap (List ℕ) (Option ℕ)) → UpdatesBy (slice_cmp nat_cmp) (slice_cmp nat_cmp name) tables tables' None → (q : List ℕ) → get (slice_cmp nat_cmp) tables' q ≡ cond (same_name name q) None (get (slice_cmp nat_cmp) tables q)
knows_without name tables tables' updates q = updates.0 q ∙ ap (λ (b : Bool). cond b None (get (slice_cmp nat_cmp) tables q)) (by_order name q)

-- ---- the slots

-- each slot is as it was, or unused
freed_or : (xs : List Slot) (n m : ℕ) → (slice_get (freed xs n) m ≡ slice_get xs m) ⊎ ((x : Slot) × (slice_get xs m ≡ Some x) × (slice_get (freed xs n) m ≡ Some (unused x)))
freed_or xs n m = by (slice_get xs n) refl
  where
    here : (slot : Slot) (b : Bool) → slice_get xs n ≡ Some slot → nat_eq n m ≡ b → (slice_get (set_at xs n (unused slot)) m ≡ slice_get xs m) ⊎ ((x : Slot) × (slice_get xs m ≡ Some x) × (slice_get (set_at xs n (unused slot)) m ≡ Some (unused x)))
    here slot false there off = inl (set_other xs n m (unused slot) off)
    here slot true there same = inr (slot, ap (slice_get xs) (sym (eqb-true n m same)) ∙ there, ap (slice_get (set_at xs n (unused slot))) (sym (eqb-true n m same)) ∙ set_here xs n slot (unused slot) there)

    by : (o : Option Slot) → slice_get xs n ≡ o → (slice_get (freed xs n) m ≡ slice_get xs m) ⊎ ((x : Slot) × (slice_get xs m ≡ Some x) × (slice_get (freed xs n) m ≡ Some (unused x)))
    by None none = inl (ap (λ (o : Option Slot). slice_get (option_map_or (λ slot. set_at xs n (unused slot)) o xs) m) none)
    by (Some slot) there = subst (λ (l : List Slot). (slice_get l m ≡ slice_get xs m) ⊎ ((x : Slot) × (slice_get xs m ≡ Some x) × (slice_get l m ≡ Some (unused x)))) (sym (freed_at xs n slot there)) (here slot (nat_eq n m) there refl)

freed_names : (xs : List Slot) (n m : ℕ) (name : List ℕ) → option_and_then name_in (slice_get (freed xs n) m) ≡ Some name → option_and_then name_in (slice_get xs m) ≡ Some name
freed_names xs n m name is = by (freed_or xs n m)
  where
    by : (slice_get (freed xs n) m ≡ slice_get xs m) ⊎ ((x : Slot) × (slice_get xs m ≡ Some x) × (slice_get (freed xs n) m ≡ Some (unused x))) → option_and_then name_in (slice_get xs m) ≡ Some name
    by (inl same) = ap (option_and_then name_in) (sym same) ∙ is
    by (inr (slot, there, now)) = absurd (let e : None ≡ Some name = sym (ap (option_and_then name_in) now) ∙ is in (cc))

freed_sizes : (xs : List Slot) (n m : ℕ) → option_map sizes_in (slice_get (freed xs n) m) ≡ option_map sizes_in (slice_get xs m)
freed_sizes xs n m = by (freed_or xs n m)
  where
    by : (slice_get (freed xs n) m ≡ slice_get xs m) ⊎ ((x : Slot) × (slice_get xs m ≡ Some x) × (slice_get (freed xs n) m ≡ Some (unused x))) → option_map sizes_in (slice_get (freed xs n) m) ≡ option_map sizes_in (slice_get xs m)
    by (inl same) = ap (option_map sizes_in) same
    by (inr (slot, there, now)) = ap (option_map sizes_in) now ∙ sym (ap (option_map sizes_in) there)

freed_none : (xs : List Slot) (n : ℕ) → option_and_then name_in (slice_get (freed xs n) n) ≡ None
freed_none xs n = by (slice_get xs n) refl
  where
    by : (o : Option Slot) → slice_get xs n ≡ o → option_and_then name_in (slice_get (freed xs n) n) ≡ None
    by None none = ap (λ (o : Option Slot). option_and_then name_in (slice_get (option_map_or (λ slot. set_at xs n (unused slot)) o xs) n)) none ∙ ap (option_and_then name_in) none
    by (Some slot) there = ap (λ (l : List Slot). option_and_then name_in (slice_get l n)) (freed_at xs n slot there) ∙ ap (option_and_then name_in) (set_here xs n slot (unused slot) there)

pub freed_other : (xs : List Slot) (n m : ℕ) → nat_eq n m ≡ false → slice_get (freed xs n) m ≡ slice_get xs m
freed_other xs n m off = by (slice_get xs n) refl
  where
    by : (o : Option Slot) → slice_get xs n ≡ o → slice_get (freed xs n) m ≡ slice_get xs m
    by None none = ap (λ (o : Option Slot). slice_get (option_map_or (λ slot. set_at xs n (unused slot)) o xs) m) none
    by (Some slot) there = ap (λ (l : List Slot). slice_get l m) (freed_at xs n slot there) ∙ set_other xs n m (unused slot) off

-- NO SLOT STANDS FOR A TABLE MORE
pub fewer_forgotten : (name : List ℕ) (store now : PageStore) → Forgets name store now → FewerSlots store now
fewer_forgotten name store now is = by (known store name) is.leaves
  where
    by : (o : Option (Option ℕ)) → Leaves o store now → FewerSlots store now
    by None same = record { names = λ m q at. ap (λ (l : List Slot). option_and_then name_in (slice_get l m)) (sym same.1) ∙ at; sizes = λ i m. option_map sizes_in (slice_get (same.1 i) m) }
    by (Some None) same = record { names = λ m q at. ap (λ (l : List Slot). option_and_then name_in (slice_get l m)) (sym same.1) ∙ at; sizes = λ i m. option_map sizes_in (slice_get (same.1 i) m) }
    by (Some (Some n)) left = record {
      names = λ m q at. freed_names store.slots n m q (ap (λ (l : List Slot). option_and_then name_in (slice_get l m)) (sym left.slots) ∙ at);
      sizes = λ i m. sized m i;
    }
      where
        sized : (m : ℕ) → sizes_at now m ≡ sizes_at store m
        sized m = ap (λ (l : List Slot). option_map sizes_in (slice_get l m)) left.slots ∙ freed_sizes store.slots n m

-- tables have slots that they had
pub opened_fewer : (store now : PageStore) → FewerSlots store now → (q : List ℕ) → IsTrue (opened now q) → IsTrue (opened store q)
opened_fewer store now fewer q on =
    let (m, slot, at, for) = find q now.slots on in
    let (used, same) = both_on slot.used (same_name slot.name q) for in
    let named : name_at now m ≡ Some q = ap (option_and_then name_in) at ∙ ap (λ (b : Bool). cond b (Some slot.name) None) used ∙ ap Some ((bytes_decides slot.name q).0 same) in
    was m (fewer.names m q named)
  where
    was : (m : ℕ) → name_at store m ≡ Some q → IsTrue (opened store q)
    was m at = by (slice_get store.slots m) refl
      where
        with_slot : (slot : Slot) (b : Bool) → slot.used ≡ b → slice_get store.slots m ≡ Some slot → IsTrue (opened store q)
        with_slot slot false off there = absurd (let e : None ≡ Some q = sym (ap (option_and_then name_in) there ∙ ap (λ (b : Bool). cond b (Some slot.name) None) off) ∙ at in (cc))
        with_slot slot true on there = subst (λ (n : List ℕ). IsTrue (opened store n)) (named (sym (ap (option_and_then name_in) there ∙ ap (λ (b : Bool). cond b (Some slot.name) None) on) ∙ at)) (slot_open store m slot there on)
          where
            named : Some slot.name ≡ Some q → slot.name ≡ q
            named e = cc

        by : (o : Option Slot) → slice_get store.slots m ≡ o → IsTrue (opened store q)
        by None none = absurd (let e : None ≡ Some q = sym (ap (option_and_then name_in) none) ∙ at in (cc))
        by (Some slot) there = with_slot slot slot.used refl there

-- what was forgotten is, where only the log and the open group are others
pub forgets_on : (name : List ℕ) (a b c d : PageStore) → c.frames ≡ a.frames → c.slots ≡ a.slots → c.tables ≡ a.tables → d.frames ≡ b.frames → d.slots ≡ b.slots → d.tables ≡ b.tables → Forgets name a b → Forgets name c d
forgets_on name a b c d frames slots tables frames' slots' tables' is = record {
  knows = λ q. ap (λ t. get (slice_cmp nat_cmp) t q) tables' ∙ is.knows q ∙ ap (λ t. cond (same_name name q) None (get (slice_cmp nat_cmp) t q)) (sym tables);
  leaves = subst (λ (o : Option (Option ℕ)). Leaves o c d) (ap (λ t. get (slice_cmp nat_cmp) t name) (sym tables)) (by (known a name) is.leaves);
}
  where
    by : (o : Option (Option ℕ)) → Leaves o a b → Leaves o c d
    by None same = (frames' ∙ same.0 ∙ sym frames, slots' ∙ same.1 ∙ sym slots)
    by (Some None) same = (frames' ∙ same.0 ∙ sym frames, slots' ∙ same.1 ∙ sym slots)
    by (Some (Some n)) left = record {
      held = ap held frames' ∙ left.held ∙ ap (λ (f : Frames). without_slot n (held f)) (sym frames);
      pins = ap (λ (f : Frames). f.pins) frames' ∙ left.pins ∙ ap (λ (f : Frames). f.pins) (sym frames);
      slots = slots' ∙ left.slots ∙ ap (λ (l : List Slot). freed l n) (sym slots);
    }

module _ (store now : PageStore) (folder : Folder) (groups : List Logged) (name : List ℕ) (are : AreSlots store folder groups) (forgets : Forgets name store now) where
  -- a slot that stood for the table is the one that was known
  pub number_known : (m : ℕ) → name_at store m ≡ Some name → known store name ≡ Some (Some m)
  number_known m at = by (slice_get store.slots m) refl
    where
      used : (slot : Slot) (b : Bool) → slot.used ≡ b → slice_get store.slots m ≡ Some slot → known store name ≡ Some (Some m)
      used slot false off there = absurd (let e : None ≡ Some name = sym (ap (option_and_then name_in) there ∙ ap (λ (b : Bool). cond b (Some slot.name) None) off) ∙ at in (cc))
      used slot true on there = ap (known store) (named (sym at ∙ ap (option_and_then name_in) there ∙ ap (λ (b : Bool). cond b (Some slot.name) None) on)) ∙ (are m slot there on).known
        where
          named : Some name ≡ Some slot.name → name ≡ slot.name
          named e = cc

      by : (o : Option Slot) → slice_get store.slots m ≡ o → known store name ≡ Some (Some m)
      by None none = absurd (let e : None ≡ Some name = sym (ap (option_and_then name_in) none) ∙ at in (cc))
      by (Some slot) there = used slot slot.used refl there

  -- IT IS UNUSED
  pub name_gone : (m : ℕ) → name_at store m ≡ Some name → name_at now m ≡ None
  name_gone m at = let left : LeavesSlot m store now = subst (λ (o : Option (Option ℕ)). Leaves o store now) (number_known m at) forgets.leaves in
      ap (λ (l : List Slot). option_and_then name_in (slice_get l m)) left.slots ∙ freed_none store.slots m

  -- NO SLOT STANDS FOR THE NAME
  pub closed_now : opened now name ≡ false
  closed_now = by (opened now name) refl
    where
      by : (b : Bool) → opened now name ≡ b → opened now name ≡ false
      by false off = off
      by true on =
          let (m, slot, at, for) = find name now.slots on in
          let (used, same) = both_on slot.used (same_name slot.name name) for in
          let named : name_at now m ≡ Some name = ap (option_and_then name_in) at ∙ ap (λ (b : Bool). cond b (Some slot.name) None) used ∙ ap Some ((bytes_decides slot.name name).0 same) in
          absurd (let e : None ≡ Some name = sym (name_gone m ((fewer_forgotten name store now forgets).names m name named)) ∙ named in (cc))

-- THE SLOTS ARE TIDY, whatever the host tells
pub tidy_forgotten : (name : List ℕ) (store now : PageStore) → Forgets name store now → AreTidy store → AreTidy now
tidy_forgotten name store now is tidy = record {
  known = λ n q at. by n q ((fewer_forgotten name store now is).names n q at) at (same_name name q) refl;
  few = λ n part sizes at. tidy.few n part sizes (ap (λ (f : ℕ → Option (ℕ × ℕ)). f n) (sym (fewer_forgotten name store now is).sizes) ∙ at);
}
  where
    by : (n : ℕ) (q : List ℕ) → name_at store n ≡ Some q → name_at now n ≡ Some q → (b : Bool) → same_name name q ≡ b → known now q ≡ Some (Some n)
    by n q was at false off = is.knows q ∙ ap (λ (b : Bool). cond b None (known store q)) off ∙ tidy.known n q was
    by n q was at true same =
        let left : LeavesSlot n store now = subst (λ (o : Option (Option ℕ)). Leaves o store now) (ap (known store) ((bytes_decides name q).0 same) ∙ tidy.known n q was) is.leaves in
        absurd (let e : None ≡ Some q = sym (ap (λ (l : List Slot). option_and_then name_in (slice_get l n)) left.slots ∙ freed_none store.slots n) ∙ at in (cc))
