-- The slots, and the pages that keys stand for.
use Rattle.std.proofs.Common.{◌≡◌, ◌∙◌, ◌==◌, ◌&&◌, ◌||◌, ℕ, zero, suc, ◌+◌, ◌*◌, ◌/◌, ◌%◌, ◌^◌, ◌<◌, ◌≤◌, Bool, true, false, cond, List, [], ◌∷◌, ap, sym, refl, subst, arith, Option, None, Some, inl, inr}
use Rattle.std.specs.Prelude.{IsTrue, is_some, slice_get}
use Rattle.std.specs.Option.{option_map, option_and_then}
use Rattle.std.specs.List.{list_any}
use Rattle.std.specs.Cmp.Lexicographic.{bytes_decides}
use Rattle.std.proofs.lemmas.Bool.{cases_lt, eqb-true, eq-eqb}
use Rattle.aria_page.specs.declared.place.Part.{Part}
use Rattle.aria_page.specs.declared.place.Part.TheVariants.{Keys, Rows}
use Rattle.aria_value.specs.Named.{same_name}
use Rattle.aria_host.specs.Folder.{Folder, IsFileName, same_file}
use Rattle.aria_host.proofs.Files.{same_file-true}
use Rattle.aria_record.specs.Logged.{Logged}
use Rattle.aria_cache.specs.Key.{part_key, key_of}
use Rattle.aria_cache.specs.declared.page_id.PageId.{PageId}
use Rattle.aria_recovery.specs.Frames.{Spot, AreApart}
use Rattle.aria_recovery.specs.Tables.{file}
use Rattle.aria_recovery.proofs.Comparing.{lt_true, lt_false}
use Rattle.aria_pager.specs.declared.page_store.PageStore.{PageStore}
use Rattle.aria_pager.specs.declared.slot.Slot.{Slot}
use Rattle.aria_pager.specs.PageStore.{name_in, stands_for, opened, part_of_key, spot_of, is_known}
use Rattle.aria_pager.specs.Pager.{AreSlots, known}

-- a table's file has a name that files may have
pub file_form : (name : List ℕ) (part : Part) → IsFileName (file name part)
file_form name Keys = tt
file_form name Rows = tt

-- one name and one part for each file
pub file_name : (a b : List ℕ) (p q : Part) → file a p ≡ file b q → (a ≡ b) × (p ≡ q)
file_name a b Keys Keys same = (cc, refl)
file_name a b Rows Rows same = (cc, refl)
file_name a b Keys Rows same = absurd (cc)
file_name a b Rows Keys same = absurd (cc)

-- what a key stands for
pub record Stands (store : PageStore) (k : ℕ) (s : Spot) : Type 0 where
  pub slot : Slot
  pub there : slice_get store.slots (k / 2 ^ 32) ≡ Some slot
  pub used : slot.used ≡ true
  pub name : s.name ≡ slot.name
  pub part : s.part ≡ part_of_key k
  pub page : s.page ≡ k % 2 ^ 31

abbrev spot_in : ℕ → Option (List ℕ) → Option Spot
spot_in k name = option_map (λ name. record { name = name; part = part_of_key k; page = k % 2 ^ 31 }) name

some_spot : (a b : Spot) → Some a ≡ Some b → a ≡ b
some_spot a b e = cc

pub stands : (store : PageStore) (k : ℕ) (s : Spot) → spot_of store k ≡ Some s → Stands store k s
stands store k s is = by (slice_get store.slots (k / 2 ^ 32)) refl is
  where
    by : (o : Option Slot) → slice_get store.slots (k / 2 ^ 32) ≡ o → spot_in k (option_and_then name_in o) ≡ Some s → Stands store k s
    by None at e = absurd (cc)
    by (Some slot) at e = used slot.used refl e
      where
        used : (b : Bool) → slot.used ≡ b → spot_in k (cond b (Some slot.name) None) ≡ Some s → Stands store k s
        used false off g = absurd (cc)
        used true on g =
            let same : record { name = slot.name; part = part_of_key k; page = k % 2 ^ 31 } ≡ s = some_spot (record { name = slot.name; part = part_of_key k; page = k % 2 ^ 31 }) s g in
            record { slot = slot; there = at; used = on; name = ap (λ (t : Spot). t.name) (sym same); part = ap (λ (t : Spot). t.part) (sym same); page = ap (λ (t : Spot). t.page) (sym same) }

-- a key that is known stands for a page
pub known_spot : (store : PageStore) (k : ℕ) → is_known store k ≡ true → (s : Spot) × (spot_of store k ≡ Some s)
known_spot store k on = by (spot_of store k) on
  where
    by : (o : Option Spot) → is_some o ≡ true → (s : Spot) × (o ≡ Some s)
    by None off = absurd (cc)
    by (Some s) some = (s, refl)

some_slot : (a b : Slot) → Some a ≡ Some b → a ≡ b
some_slot a b e = cc

pub any_at : (p : Slot → Bool) (xs : List Slot) (n : ℕ) (x : Slot) → slice_get xs n ≡ Some x → p x ≡ true → list_any p xs ≡ true
any_at p [] n x at on = absurd (cc)
any_at p (y ∷ ys) zero x at on = ap (λ (b : Bool). b || list_any p ys) (ap p (some_slot y x at) ∙ on)
any_at p (y ∷ ys) (suc n) x at on = or_true (p y) (list_any p ys) (any_at p ys n x at on)
  where
    or_true : (a b : Bool) → b ≡ true → (a || b) ≡ true
    or_true true b e = refl
    or_true false b e = e

-- the table of a used slot is open
pub slot_open : (store : PageStore) (n : ℕ) (slot : Slot) → slice_get store.slots n ≡ Some slot → slot.used ≡ true → IsTrue (opened store slot.name)
slot_open store n slot at used = any_at (stands_for slot.name) store.slots n slot at (ap (λ (b : Bool). b && same_name slot.name slot.name) used ∙ (bytes_decides slot.name slot.name).1 refl)

-- a slot that stands for the name, where one does
pub find : (name : List ℕ) (xs : List Slot) → list_any (stands_for name) xs ≡ true → (n : ℕ) × (slot : Slot) × (slice_get xs n ≡ Some slot) × (stands_for name slot ≡ true)
find name [] on = absurd (let e : false ≡ true = on in (cc))
find name (x ∷ xs) on = by (stands_for name x) refl (λ rest. find name xs rest) on
  where
    by : (b : Bool) → stands_for name x ≡ b → (list_any (stands_for name) xs ≡ true → (n : ℕ) × (slot : Slot) × (slice_get xs n ≡ Some slot) × (stands_for name slot ≡ true)) → (b || list_any (stands_for name) xs) ≡ true
        → (n : ℕ) × (slot : Slot) × (slice_get (x ∷ xs) n ≡ Some slot) × (stands_for name slot ≡ true)
    by true is later any = (zero, x, refl, is)
    by false off later any = let r = later any in (suc r.0, r.1, r.2, r.3)

pub both_on : (a b : Bool) → (a && b) ≡ true → (a ≡ true) × (b ≡ true)
both_on true b on = (refl, on)
both_on false b on = absurd (cc)

-- no slot stands for a name that isn't known to have one
pub closed_unless : (store : PageStore) (folder : Folder) (groups : List Logged) (name : List ℕ) → AreSlots store folder groups → ((n : ℕ) → known store name ≡ Some (Some n) → ⊥) → opened store name ≡ false
closed_unless store folder groups name are none = by (opened store name) refl
  where
    by : (b : Bool) → opened store name ≡ b → opened store name ≡ false
    by false off = off
    by true on =
        let (n, slot, at, for) = find name store.slots on in
        let (used, same) = both_on slot.used (same_name slot.name name) for in
        absurd (none n (ap (known store) (sym ((bytes_decides slot.name name).0 same)) ∙ (are n slot at used).known))

-- a name without a table
pub closed_name : (store : PageStore) (folder : Folder) (groups : List Logged) (name : List ℕ) → AreSlots store folder groups → known store name ≡ None → opened store name ≡ false
closed_name store folder groups name are unknown = closed_unless store folder groups name are (λ n knows. let e : None ≡ Some (Some n) = sym unknown ∙ knows in (cc))

-- a table without a slot
pub closed_table : (store : PageStore) (folder : Folder) (groups : List Logged) (name : List ℕ) → AreSlots store folder groups → known store name ≡ Some None → opened store name ≡ false
closed_table store folder groups name are closed = closed_unless store folder groups name are (λ n knows. let e : Some None ≡ Some (Some n) = sym closed ∙ knows in (cc))

-- two used slots don't stand for one name
pub slot_one : (store : PageStore) (folder : Folder) (groups : List Logged) (n m : ℕ) (a b : Slot) → AreSlots store folder groups → slice_get store.slots n ≡ Some a → a.used ≡ true → slice_get store.slots m ≡ Some b → b.used ≡ true → a.name ≡ b.name → n ≡ m
slot_one store folder groups n m a b are at used at' used' same = the n m (sym (are n a at used).known ∙ ap (known store) same ∙ (are m b at' used').known)
  where
    the : (i j : ℕ) → Some (Some i) ≡ Some (Some j) → i ≡ j
    the i j e = cc

-- the parts of a key
key_same : (k j : ℕ) → k / 2 ^ 32 ≡ j / 2 ^ 32 → part_of_key k ≡ part_of_key j → k % 2 ^ 31 ≡ j % 2 ^ 31 → k ≡ j
key_same k j slot part page = elim (cases_lt (k % 2 ^ 32) (2 ^ 31)) [
  | inl low ↦ elim (cases_lt (j % 2 ^ 32) (2 ^ 31)) [
    | inl also ↦ omega (arith, slot, page, low, also)
    | inr high ↦ absurd (let e : Keys ≡ Rows = sym (as_keys k low) ∙ part ∙ as_rows j high in (cc))
  ]
  | inr high ↦ elim (cases_lt (j % 2 ^ 32) (2 ^ 31)) [
    | inl low ↦ absurd (let e : Keys ≡ Rows = sym (as_keys j low) ∙ sym part ∙ as_rows k high in (cc))
    | inr also ↦ omega (arith, slot, page, high, also)
  ]
]
  where
    as_keys : (i : ℕ) → i % 2 ^ 32 < 2 ^ 31 → part_of_key i ≡ Keys
    as_keys i low = ap (λ (b : Bool). cond b Keys Rows) (lt_true (i % 2 ^ 32) (2 ^ 31) low)

    as_rows : (i : ℕ) → 2 ^ 31 ≤ i % 2 ^ 32 → part_of_key i ≡ Rows
    as_rows i high = ap (λ (b : Bool). cond b Keys Rows) (lt_false (i % 2 ^ 32) (2 ^ 31) high)

-- NO TWO KEYS STAND FOR ONE PAGE
pub keys_apart : (store : PageStore) (folder : Folder) (groups : List Logged) → AreSlots store folder groups → AreApart (spot_of store)
keys_apart store folder groups are k j s t at_k at_j same =
    let a = stands store k s at_k in
    let b = stands store j t at_j in
    let both = and_both (same_file (file s.name s.part) (file t.name t.part)) (s.page == t.page) same in
    let one = file_name s.name t.name s.part t.part (same_file-true (file s.name s.part) (file t.name t.part) both.0) in
    let slot = slot_one store folder groups (k / 2 ^ 32) (j / 2 ^ 32) a.slot b.slot are a.there a.used b.there b.used (sym a.name ∙ one.0 ∙ b.name) in
    eq-eqb k j (key_same k j slot (sym a.part ∙ one.1 ∙ b.part) (sym a.page ∙ eqb-true s.page t.page both.1 ∙ b.page))
  where
    and_both : (a b : Bool) → (a && b) ≡ true → (a ≡ true) × (b ≡ true)
    and_both true b on = (refl, on)
    and_both false b on = absurd (cc)

-- the number of a page names its slot, its part and its place
pub key_parts : (at : PageId) → at.page < 2 ^ 31 → (key_of at / 2 ^ 32 ≡ at.slot) × (part_of_key (key_of at) ≡ at.part) × (key_of at % 2 ^ 31 ≡ at.page)
key_parts at low = by at.part refl
  where
    by : (p : Part) → at.part ≡ p → (key_of at / 2 ^ 32 ≡ at.slot) × (part_of_key (key_of at) ≡ at.part) × (key_of at % 2 ^ 31 ≡ at.page)
    by Keys is =
        let k : key_of at ≡ at.slot * 2 ^ 32 + at.page = ap (λ (p : Part). at.slot * 2 ^ 32 + part_key p + at.page) is ∙ omega arith in
        (omega (arith, k, low), ap (λ (b : Bool). cond b Keys Rows) (lt_true (key_of at % 2 ^ 32) (2 ^ 31) (omega (arith, k, low))) ∙ sym is, omega (arith, k, low))
    by Rows is =
        let k : key_of at ≡ at.slot * 2 ^ 32 + (2 ^ 31 + at.page) = ap (λ (p : Part). at.slot * 2 ^ 32 + part_key p + at.page) is ∙ omega arith in
        (omega (arith, k, low), ap (λ (b : Bool). cond b Keys Rows) (lt_false (key_of at % 2 ^ 32) (2 ^ 31) (omega (arith, k, low))) ∙ sym is, omega (arith, k, low))

-- the page of a key whose slot is there, and used
pub record Here (store : PageStore) (key : ℕ) (at : PageId) (slot : Slot) : Type 0 where
  pub spot : spot_of store key ≡ Some (record { name = slot.name; part = at.part; page = at.page })
  pub there : slice_get store.slots (key / 2 ^ 32) ≡ Some slot
  pub used : slot.used ≡ true
  pub number : key / 2 ^ 32 ≡ at.slot

pub spot_here : (store : PageStore) (key : ℕ) (at : PageId) (slot : Slot) → at.page < 2 ^ 31 → key_of at ≡ key → slice_get store.slots at.slot ≡ Some slot → is_known store key ≡ true → Here store key at slot
spot_here store key at slot low is here known = by slot.used refl
  where
    parts : (key / 2 ^ 32 ≡ at.slot) × (part_of_key key ≡ at.part) × (key % 2 ^ 31 ≡ at.page)
    parts = subst (λ (k : ℕ). (k / 2 ^ 32 ≡ at.slot) × (part_of_key k ≡ at.part) × (k % 2 ^ 31 ≡ at.page)) is (key_parts at low)

    there : slice_get store.slots (key / 2 ^ 32) ≡ Some slot
    there = ap (slice_get store.slots) parts.0 ∙ here

    spot : spot_of store key ≡ spot_in key (name_in slot)
    spot = ap (λ (o : Option Slot). spot_in key (option_and_then name_in o)) there

    by : (b : Bool) → slot.used ≡ b → Here store key at slot
    by false off = absurd (let e : true ≡ false = sym known ∙ ap is_some spot ∙ ap (λ (b : Bool). is_some (spot_in key (cond b (Some slot.name) None))) off in (cc))
    by true on = record {
      spot = spot ∙ ap (λ (b : Bool). spot_in key (cond b (Some slot.name) None)) on ∙ (λ i. Some (record { name = slot.name; part = parts.1 i; page = parts.2 i }));
      there = there;
      used = on;
      number = parts.0;
    }
