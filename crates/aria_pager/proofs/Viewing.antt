-- The slot of a table, and how many pages its files have.
use Rattle.std.proofs.Common.{◌≡◌, ◌∙◌, ◌&&◌, ℕ, zero, suc, ◌+◌, Bool, true, false, cond, List, [], ◌∷◌, ap, sym, refl, subst, arith, Option, None, Some}
use Rattle.std.specs.Prelude.{All, is_some, slice_get}
use Rattle.std.specs.Global.{Vec}
use Rattle.std.specs.Option.{option_map_or, option_and_then}
use Rattle.std.specs.BTreeMap.{get}
use Rattle.std.specs.Ordering.{nat_cmp}
use Rattle.std.specs.Cmp.Lexicographic.{slice_cmp, bytes_decides}
use Rattle.aria_page.specs.declared.lsn.Lsn.{Lsn}
use Rattle.aria_page.specs.Lsn.{IsLsn}
use Rattle.aria_page.specs.declared.place.Part.{Part}
use Rattle.aria_page.specs.declared.place.Part.TheVariants as parts
use Rattle.aria_value.specs.Named.{same_name}
use Rattle.aria_host.specs.declared.file_name.FileName.{FileName}
use Rattle.aria_host.specs.declared.file_name.FileName.TheVariants.{Keys, Rows}
use Rattle.aria_record.specs.Writing.{records_of}
use Rattle.aria_pager.specs.declared.page_store.PageStore.{PageStore}
use Rattle.aria_pager.specs.declared.slot.Slot.{Slot}
use Rattle.aria_pager.specs.PageStore.{name_in, name_at, stands_for}
use Rattle.aria_pager.specs.Steps.{SameWork}
use Rattle.aria_pager.specs.View.{slot_from, slot_of, size_in, count_at, page_counts, HasEdits, IsTidy}

-- a slot stands for a table exactly where its name is that
named : (slot : Slot) (name : List ℕ) → stands_for name slot ≡ true → name_in slot ≡ Some name
named slot name = by slot.used refl
  where
    by : (b : Bool) → slot.used ≡ b → (b && same_name slot.name name) ≡ true → name_in slot ≡ Some name
    by false off on = absurd (cc)
    by true is on = ap (λ (b : Bool). cond b (Some slot.name) None) is ∙ ap Some ((bytes_decides slot.name name).0 on)

some_name : (a b : List ℕ) → Some a ≡ Some b → a ≡ b
some_name a b e = cc

stands_named : (slot : Slot) (name : List ℕ) → name_in slot ≡ Some name → stands_for name slot ≡ true
stands_named slot name = by slot.used refl
  where
    by : (b : Bool) → slot.used ≡ b → cond b (Some slot.name) None ≡ Some name → stands_for name slot ≡ true
    by false off e = absurd (cc)
    by true is e = ap (λ (b : Bool). b && same_name slot.name name) is ∙ (bytes_decides slot.name name).1 (some_name slot.name name e)

some_number : (a b : ℕ) → Some a ≡ Some b → a ≡ b
some_number a b e = cc

-- the slot that is found, from a number on
record Found (name : List ℕ) (k : ℕ) (slots : List Slot) (n : ℕ) : Type 0 where
  i : ℕ
  is : n ≡ k + i
  named : option_and_then name_in (slice_get slots i) ≡ Some name

found : (name : List ℕ) (k : ℕ) (slots : List Slot) (n : ℕ) → slot_from name k slots ≡ Some n → Found name k slots n
found name k [] n e = absurd (cc)
found name k (slot ∷ slots) n e = by (stands_for name slot) refl e (λ rest. found name (suc k) slots n rest)
  where
    by : (b : Bool) → stands_for name slot ≡ b → cond b (Some k) (slot_from name (suc k) slots) ≡ Some n → (slot_from name (suc k) slots ≡ Some n → Found name (suc k) slots n) → Found name k (slot ∷ slots) n
    by true on e rest = record { i = zero; is = omega (arith, some_number k n e); named = named slot name on }
    by false off e rest = let f = rest e in record { i = suc f.i; is = omega (arith, f.is); named = f.named }

-- THE SLOT THAT IS FOUND stands for the table
pub slot_named : (store : PageStore) (name : List ℕ) (n : ℕ) → slot_of store name ≡ Some n → name_at store n ≡ Some name
slot_named store name n e = let f = found name 0 store.slots n e in ap (name_at store) (let i : n ≡ f.i = omega (arith, f.is) in i) ∙ f.named

any_found : (name : List ℕ) (k : ℕ) (slots : List Slot) (i : ℕ) → option_and_then name_in (slice_get slots i) ≡ Some name → is_some (slot_from name k slots) ≡ true
any_found name k [] i e = absurd (cc)
any_found name k (slot ∷ slots) zero e = ap (λ (b : Bool). is_some (cond b (Some k) (slot_from name (suc k) slots))) (stands_named slot name e)
any_found name k (slot ∷ slots) (suc i) e = by (stands_for name slot) (any_found name (suc k) slots i e)
  where
    by : (b : Bool) → is_some (slot_from name (suc k) slots) ≡ true → is_some (cond b (Some k) (slot_from name (suc k) slots)) ≡ true
    by true rest = refl
    by false rest = rest

-- A SLOT IS FOUND by its table's name
pub slot_found : (store : PageStore) (n : ℕ) (name : List ℕ) → IsTidy store → name_at store n ≡ Some name → slot_of store name ≡ Some n
slot_found store n name tidy e = by (slot_of store name) refl (any_found name 0 store.slots n e)
  where
    by : (o : Option ℕ) → slot_of store name ≡ o → is_some o ≡ true → o ≡ Some n
    by None is off = absurd (cc)
    by (Some m) is on = ap Some (tidy.one m n name (slot_named store name m is) e)

-- the slots stand for the same tables
pub slot_same : (store store' : PageStore) (name : List ℕ) → IsTidy store → IsTidy store' → name_at store' ≡ name_at store → slot_of store' name ≡ slot_of store name
slot_same store store' name tidy tidy' same = by (slot_of store' name) refl
  where
    none : (o : Option ℕ) → slot_of store name ≡ o → slot_of store' name ≡ None → None ≡ slot_of store name
    none None is off = sym is
    none (Some m) is off = absurd (let e : Some m ≡ None = sym (slot_found store' m name tidy' (ap (λ (f : ℕ → Option (List ℕ)). f m) same ∙ slot_named store name m is)) ∙ off in (cc))

    by : (o : Option ℕ) → slot_of store' name ≡ o → o ≡ slot_of store name
    by (Some n) is = sym (slot_found store n name tidy (ap (λ (f : ℕ → Option (List ℕ)). f n) (sym same) ∙ slot_named store' name n is))
    by None is = none (slot_of store name) refl is

-- a step that keeps slots and group keeps this
pub tidy_same : (store store' : PageStore) → SameWork store store' → IsTidy store → IsTidy store'
tidy_same store store' same is = record {
  one = λ n m name a b. is.one n m name (ap (λ (f : ℕ → Option (List ℕ)). f n) (sym same.slots) ∙ a) (ap (λ (f : ℕ → Option (List ℕ)). f m) (sym same.slots) ∙ b);
  known = λ n name a. ap (λ t. get (slice_cmp nat_cmp) t name) same.tables ∙ is.known n name (ap (λ (f : ℕ → Option (List ℕ)). f n) (sym same.slots) ∙ a);
  few = λ n part sizes e. is.few n part sizes (ap (λ (f : ℕ → Option (ℕ × ℕ)). f n) (sym same.sizes) ∙ e);
  closed = λ off none. ap records_of same.writer ∙ is.closed (sym same.in_group ∙ off) (sym same.kept ∙ none);
  edits = λ none. subst HasEdits (sym same.writer) (is.edits (sym same.kept ∙ none));
  undo = subst (λ (v : Vec Lsn). All IsLsn v.items) (sym same.pending) is.undo;
}

-- THE COUNTS STAY
pub counts_same : (store store' : PageStore) → SameWork store store' → IsTidy store → page_counts store' ≡ page_counts store
counts_same store store' same is = λ i f. by f i
  where
    at : (part : Part) (name : List ℕ) → count_at store' part (slot_of store' name) ≡ count_at store part (slot_of store name)
    at part name = ap (count_at store' part) (slot_same store store' name is (tidy_same store store' same is) same.slots) ∙ sized (slot_of store name)
      where
        sized : (o : Option ℕ) → count_at store' part o ≡ count_at store part o
        sized None = refl
        sized (Some n) = ap (λ (f : ℕ → Option (ℕ × ℕ)). option_map_or (size_in part) (f n) 0) same.sizes

    by : (f : FileName) → page_counts store' f ≡ page_counts store f
    by (Keys name) = at parts.Keys name
    by (Rows name) = at parts.Rows name
    by _ = refl
