-- Tables are entered in memory, one after another.
use Rattle.std.proofs.Common.{◌≡◌, ◌∙◌, ◌⊎◌, ◌&&◌, ◌||◌, inl, inr, ℕ, zero, suc, ◌+◌, ◌-◌, ◌<◌, ◌≤◌, ◌^◌, max, Bool, true, false, not, cond, List, [], ◌∷◌, ◌++◌, length, take, take-suc, ap, sym, refl, subst, arith, Option, None, Some, Result, Ok, Err}
use Rattle.std.specs.Prelude.{IsTrue, IfErr, OnOk, is_some, get_or, slice_get}
use Rattle.std.specs.List.{list_any}
use Rattle.std.specs.Option.{option_map, option_and_then}
use Rattle.std.specs.BTreeMap.{BTreeMap, get, UpdatesBy}
use Rattle.std.specs.Ordering.{nat_cmp, eq_by_cmp}
use Rattle.std.specs.Set.{is_member}
use Rattle.std.specs.List.Sorted.{IsStrictlySortedBy}
use Rattle.std.specs.Cmp.Lexicographic.{slice_cmp, bytes_decides}
use Rattle.std.proofs.lemmas.List.Folds.{list_any-append}
use Rattle.aria_page.specs.declared.place.Part.{Part}
use Rattle.aria_page.specs.declared.place.Part.TheVariants.{Keys, Rows}
use Rattle.aria_value.specs.Named.{same_name}
use Rattle.aria_host.specs.Calls.{Unchanged}
use Rattle.aria_host.specs.Count.{Rose}
use Rattle.aria_host.specs.declared.fault.Fault.{Fault}
use Rattle.aria_host.specs.declared.fault.Fault.TheVariants.{FileMissing, TooManyTables}
use Rattle.aria_host.specs.declared.file_name.FileName.{FileName}
use Rattle.aria_host.specs.Folder.{Folder, same_file}
use Rattle.aria_host.specs.State.{State}
use Rattle.aria_record.specs.Logged.{Logged}
use Rattle.aria_record.specs.Writing.{records_of}
use Rattle.aria_recovery.specs.Redo.{reach_on}
use Rattle.aria_recovery.specs.Noted.{told_of, is_of}
use Rattle.aria_recovery.specs.Tables.{Maker, life_of, file, is_there, tables_of}
use Rattle.aria_pager.specs.declared.page_store.PageStore.{PageStore}
use Rattle.aria_pager.specs.declared.slot.Slot.{Slot}
use Rattle.aria_pager.specs.declared.slot.FilePages.{FilePages}
use Rattle.aria_pager.specs.PageStore.{name_in, name_at, sizes_in}
use Rattle.aria_pager.specs.Pager.{OnDisk, IsSlot, pages_in, known}
use Rattle.aria_pager.specs.View.{size_in}
use Rattle.aria_pager.specs.Filing.{AreTidy}
use Rattle.aria_pager.specs.Entered.{is_dropped, was_dropped, AreListed, is_told, reach_of, needs_slot, is_listed, HasPages, has_slot, used_slot, IsEntering, HasSlot, KeepSlots, HaveSlots, HasMany, AreMany, OfEnter, HasEnterCause}
use Rattle.aria_pager.specs.Headers.{AreToldOf}
use Rattle.aria_pager.proofs.Forgetting.{by_order}

pub next_of : {A : Type 0} (xs : List A) (i : ℕ) (x : A) → i < length xs → x ≡ get_or xs i x → take (i + 1) xs ≡ take i xs ++ x ∷ []
next_of {A} xs i x low is = ap (λ (n : ℕ). take n xs) (let e : i + 1 ≡ suc i = omega arith in e) ∙ take-suc xs i x low ∙ ap (λ (y : A). take i xs ++ y ∷ []) (sym is)

-- ---- names that are listed

-- one name more is known, without a slot
pub noted_one : (name : List ℕ) (tables tables' : BTreeMap (List ℕ) (Option ℕ)) (groups : List Logged) → UpdatesBy (slice_cmp nat_cmp) (slice_cmp nat_cmp name) tables tables' (Some None) → was_dropped name groups ≡ false
    → (q : List ℕ) → get (slice_cmp nat_cmp) tables' q ≡ cond (same_name q name && not (was_dropped q groups)) (Some None) (get (slice_cmp nat_cmp) tables q)
noted_one name tables tables' groups updates kept q = updates.0 q ∙ ap (λ (b : Bool). cond b (Some None) (get (slice_cmp nat_cmp) tables q)) (by_order name q ∙ by (same_name name q) (same_name q name) refl refl)
  where
    by : (a b : Bool) → same_name name q ≡ a → same_name q name ≡ b → same_name name q ≡ (same_name q name && not (was_dropped q groups))
    by true b on is =
        let e : name ≡ q = (bytes_decides name q).0 on in
        on ∙ sym (ap (λ (x : Bool). x && not (was_dropped q groups)) ((bytes_decides q name).1 (sym e)) ∙ ap (λ (n : List ℕ). not (was_dropped n groups)) (sym e) ∙ ap not kept)
    by false true off is = absurd (let e : false ≡ true = sym off ∙ (bytes_decides name q).1 (sym ((bytes_decides q name).0 is)) in (cc))
    by false false off is = off ∙ sym (ap (λ (x : Bool). x && not (was_dropped q groups)) is)

-- one file more was looked at
pub noted_more : (files : List FileName) (i : ℕ) (found : FileName) (groups : List Logged) (q : List ℕ) (old mid new : Option (Option ℕ)) → take (i + 1) files ≡ take i files ++ found ∷ []
    → mid ≡ cond (is_listed (take i files) groups q) (Some None) old → new ≡ cond (same_file (file q Keys) found && not (was_dropped q groups)) (Some None) mid → new ≡ cond (is_listed (take (i + 1) files) groups q) (Some None) old
noted_more files i found groups q old mid new more first second =
    second ∙ ap (cond (same_file (file q Keys) found && not (was_dropped q groups)) (Some None)) first
    ∙ by (list_any (same_file (file q Keys)) (take i files)) (same_file (file q Keys) found) (not (was_dropped q groups))
    ∙ ap (λ (b : Bool). cond (b && not (was_dropped q groups)) (Some None) old) (sym (ap (list_any (same_file (file q Keys))) more ∙ list_any-append (same_file (file q Keys)) (take i files) (found ∷ [])))
  where
    by : (a b d : Bool) → cond (b && d) (Some None) (cond (a && d) (Some None) old) ≡ cond ((a || (b || false)) && d) (Some None) old
    by true true true = refl
    by true true false = refl
    by true false true = refl
    by true false false = refl
    by false true true = refl
    by false true false = refl
    by false false d = refl

-- ---- a slot behind the others

-- the slot at a place is one of the old ones, or the new one
get_push : (xs : List Slot) (x : Slot) (n : ℕ) (y : Slot) → slice_get (xs ++ x ∷ []) n ≡ Some y → (slice_get xs n ≡ Some y) ⊎ ((n ≡ length xs) × (x ≡ y))
get_push [] x zero y at = inr (refl, some x y at)
  where
    some : (a b : Slot) → Some a ≡ Some b → a ≡ b
    some a b e = cc
get_push [] x (suc n) y at = absurd (let e : None ≡ Some y = at in (cc))
get_push (z ∷ xs) x zero y at = inl at
get_push (z ∷ xs) x (suc n) y at = by (get_push xs x n y at)
  where
    by : (slice_get xs n ≡ Some y) ⊎ ((n ≡ length xs) × (x ≡ y)) → (slice_get xs n ≡ Some y) ⊎ ((suc n ≡ suc (length xs)) × (x ≡ y))
    by (inl was) = inl was
    by (inr is) = inr (ap suc is.0, is.1)

name_front : (xs : List Slot) (x : Slot) (n : ℕ) (q : List ℕ) → option_and_then name_in (slice_get xs n) ≡ Some q → option_and_then name_in (slice_get (xs ++ x ∷ []) n) ≡ Some q
name_front [] x n q at = absurd (let e : None ≡ Some q = at in (cc))
name_front (z ∷ xs) x zero q at = at
name_front (z ∷ xs) x (suc n) q at = name_front xs x n q at

get_last : (xs : List Slot) (x : Slot) → slice_get (xs ++ x ∷ []) (length xs) ≡ Some x
get_last [] x = refl
get_last (z ∷ xs) x = get_last xs x

-- a name's slot, by its slot
name_push : (xs : List Slot) (x : Slot) (n : ℕ) (q : List ℕ) → option_and_then name_in (slice_get (xs ++ x ∷ []) n) ≡ Some q → (option_and_then name_in (slice_get xs n) ≡ Some q) ⊎ ((n ≡ length xs) × (name_in x ≡ Some q))
name_push xs x n q at = by (slice_get (xs ++ x ∷ []) n) refl at
  where
    by : (o : Option Slot) → slice_get (xs ++ x ∷ []) n ≡ o → option_and_then name_in o ≡ Some q → (option_and_then name_in (slice_get xs n) ≡ Some q) ⊎ ((n ≡ length xs) × (name_in x ≡ Some q))
    by None is e = absurd (cc)
    by (Some y) is e = which (get_push xs x n y is)
      where
        which : (slice_get xs n ≡ Some y) ⊎ ((n ≡ length xs) × (x ≡ y)) → (option_and_then name_in (slice_get xs n) ≡ Some q) ⊎ ((n ≡ length xs) × (name_in x ≡ Some q))
        which (inl was) = inl (ap (option_and_then name_in) was ∙ e)
        which (inr new) = inr (new.0, ap name_in new.1 ∙ e)

-- there is a table where its life and its index file say so
pub there_is : (folder : Folder) (groups : List Logged) (name : List ℕ) → is_some (tables_of folder groups name) ≡ is_there (life_of name groups).last (folder (file name Keys))
there_is folder groups name = by _ (is_there (life_of name groups).last (folder (file name Keys)))
  where
    by : {A : Type 0} (x : A) (b : Bool) → is_some (cond b (Some x) None) ≡ b
    by x true = refl
    by x false = refl

-- a table that needs a slot wasn't dropped
pub needed_kept : (name : List ℕ) (groups : List Logged) → (life_of name groups).last ≡ Some None → needs_slot name groups ≡ true → ⊥
needed_kept name groups dropped needs = let e : false ≡ true = sym (ap (λ (l : Option (Option Maker)). is_told (told_of l) (max (reach_of name Keys groups) (reach_of name Rows groups))) dropped) ∙ needs in (cc)

needed_there : (folder : Folder) (groups : List Logged) (name : List ℕ) (content : List (List ℕ)) → needs_slot name groups ≡ true → folder (file name Keys) ≡ Some content → IsTrue (is_some (tables_of folder groups name))
needed_there folder groups name content needs there = there_is folder groups name ∙ by (life_of name groups).last refl
  where
    by : (l : Option (Option Maker)) → (life_of name groups).last ≡ l → is_there (life_of name groups).last (folder (file name Keys)) ≡ true
    by None is = ap (λ (x : Option (Option Maker)). is_there x (folder (file name Keys))) is ∙ ap is_some there
    by (Some None) is = absurd (needed_kept name groups is needs)
    by (Some (Some m)) is = ap (λ (x : Option (Option Maker)). is_there x (folder (file name Keys))) is

module _ (store store' : PageStore) (name : List ℕ) (keys rows : FilePages) (slots : store'.slots ≡ store.slots ++ used_slot name keys rows ∷ []) (knows : (q : List ℕ) → known store' q ≡ cond (same_name name q) (Some (Some (length store.slots))) (known store q)) (free : has_slot (known store name) ≡ false) where
  -- another name than one that has a slot
  apart : (q : List ℕ) (n : ℕ) → known store q ≡ Some (Some n) → same_name name q ≡ false
  apart q n is = by (same_name name q) refl
    where
      by : (b : Bool) → same_name name q ≡ b → same_name name q ≡ false
      by false off = off
      by true on = absurd (let e : false ≡ true = sym free ∙ ap has_slot (ap (known store) ((bytes_decides name q).0 on) ∙ is) in (cc))

  known_here : known store' name ≡ Some (Some (length store.slots))
  known_here = knows name ∙ ap (λ (b : Bool). cond b (Some (Some (length store.slots))) (known store name)) ((bytes_decides name name).1 refl)

  known_else : (q : List ℕ) → same_name name q ≡ false → known store' q ≡ known store q
  known_else q off = knows q ∙ ap (λ (b : Bool). cond b (Some (Some (length store.slots))) (known store q)) off

  pub keeps_more : KeepSlots store store'
  keeps_more q n is = known_else q (apart q n is) ∙ is

  pub has_more : HasSlot store' name
  has_more = (length store.slots, known_here)

  at_push : (f : Slot → Option (List ℕ)) (n : ℕ) → option_and_then f (slice_get store'.slots n) ≡ option_and_then f (slice_get (store.slots ++ used_slot name keys rows ∷ []) n)
  at_push f n = ap (λ (l : List Slot). option_and_then f (slice_get l n)) slots

  -- the groups tell of the new one too
  pub told_more : (groups : List Logged) → needs_slot name groups ≡ true → AreToldOf store groups → AreToldOf store' groups
  told_more groups needs told n q at = by (name_push store.slots (used_slot name keys rows) n q (sym (at_push name_in n) ∙ at))
    where
      some : (a b : List ℕ) → Some a ≡ Some b → a ≡ b
      some a b e = cc

      by : (name_at store n ≡ Some q) ⊎ ((n ≡ length store.slots) × (Some name ≡ Some q)) → needs_slot q groups ≡ true
      by (inl was) = told n q was
      by (inr new) = subst (λ (p : List ℕ). needs_slot p groups ≡ true) (some name q new.1) needs

  pub tidy_more : keys.pages ≤ 2 ^ 31 → rows.pages ≤ 2 ^ 31 → AreTidy store → AreTidy store'
  tidy_more low_keys low_rows is = record { known = λ n q at. by_name n q (name_push store.slots (used_slot name keys rows) n q (sym (at_push name_in n) ∙ at)); few = few }
    where
      some : (a b : List ℕ) → Some a ≡ Some b → a ≡ b
      some a b e = cc

      by_name : (n : ℕ) (q : List ℕ) → (name_at store n ≡ Some q) ⊎ ((n ≡ length store.slots) × (Some name ≡ Some q)) → known store' q ≡ Some (Some n)
      by_name n q (inl was) = keeps_more q n (is.known n q was)
      by_name n q (inr new) = ap (known store') (sym (some name q new.1)) ∙ known_here ∙ ap (λ (m : ℕ). Some (Some m)) (sym new.0)

      here : (part : Part) → size_in part (keys.pages, rows.pages) ≤ 2 ^ 31
      here Keys = low_keys
      here Rows = low_rows

      few : (n : ℕ) (part : Part) (sizes : ℕ × ℕ) → option_map sizes_in (slice_get store'.slots n) ≡ Some sizes → size_in part sizes ≤ 2 ^ 31
      few n part sizes at = by (slice_get store'.slots n) refl at
        where
          by : (o : Option Slot) → slice_get store'.slots n ≡ o → option_map sizes_in o ≡ Some sizes → size_in part sizes ≤ 2 ^ 31
          by None none e = absurd (cc)
          by (Some y) there e = which (get_push store.slots (used_slot name keys rows) n y (ap (λ (l : List Slot). slice_get l n) (sym slots) ∙ there))
            where
              which : (slice_get store.slots n ≡ Some y) ⊎ ((n ≡ length store.slots) × (used_slot name keys rows ≡ y)) → size_in part sizes ≤ 2 ^ 31
              which (inl was) = is.few n part sizes (ap (option_map sizes_in) was ∙ e)
              which (inr new) = subst (λ (z : ℕ × ℕ). size_in part z ≤ 2 ^ 31) (pair (keys.pages, rows.pages) sizes (ap (λ (y : Slot). Some (sizes_in y)) new.1 ∙ e)) (here part)
                where
                  pair : (a b : ℕ × ℕ) → Some a ≡ Some b → a ≡ b
                  pair a b e = cc

  pub entering_more : (folder : Folder) (groups : List Logged) → store'.writer ≡ store.writer → records_of store.writer ≡ [] → needs_slot name groups ≡ true → HasPages folder groups name Keys keys → keys.pages ≤ 2 ^ 31 → HasPages folder groups name Rows rows → rows.pages ≤ 2 ^ 31
      → IsEntering store folder groups → IsEntering store' folder groups
  entering_more folder groups writer empty needs keys_are low_keys rows_are low_rows is = record {
    slots = λ n slot at used. slot_of n slot used (get_push store.slots (used_slot name keys rows) n slot (ap (λ (l : List Slot). slice_get l n) (sym slots) ∙ at));
    slot = slot;
    bare = bare;
    gone = gone;
  }
    where
      none : records_of store'.writer ≡ []
      none = ap records_of writer ∙ empty

      disk : (part : Part) (pages : FilePages) → HasPages folder groups name part pages → pages.pages ≤ 2 ^ 31 → OnDisk store' folder groups name part pages
      disk part pages has low = record {
        content = has.content;
        there = has.there;
        written = has.written;
        counts = has.counts ∙ (let e : max pages.written (reach_of name part groups) ≡ max (max pages.written (reach_of name part groups)) 0 = omega arith in e)
            ∙ ap (λ rs. max (max pages.written (reach_of name part groups)) (reach_on name part rs)) (sym none);
        few = low;
      }

      new_files : (part : Part) → OnDisk store' folder groups name part (pages_in (used_slot name keys rows) part)
      new_files Keys = disk Keys keys keys_are low_keys
      new_files Rows = disk Rows rows rows_are low_rows

      slot_of : (n : ℕ) (slot : Slot) → slot.used ≡ true → (slice_get store.slots n ≡ Some slot) ⊎ ((n ≡ length store.slots) × (used_slot name keys rows ≡ slot)) → IsSlot store' folder groups n slot
      slot_of n slot used (inl was) =
          let old = is.slots n slot was used in
          record {
            table = old.table;
            files = λ part. let d = old.files part in record { content = d.content; there = d.there; written = d.written; counts = d.counts ∙ ap (λ rs. max (max (pages_in slot part).written (reach_of slot.name part groups)) (reach_on slot.name part rs)) (sym (ap records_of writer)); few = d.few };
            known = keeps_more slot.name n old.known;
          }
      slot_of n slot used (inr new) =
          subst (λ (m : ℕ). IsSlot store' folder groups m slot) (sym new.0) (subst (IsSlot store' folder groups (length store.slots)) new.1
          (record { table = needed_there folder groups name keys_are.content needs keys_are.there; files = new_files; known = known_here }))

      one : (i j : ℕ) → Some (Some i) ≡ Some (Some j) → i ≡ j
      one i j e = cc

      slot : (q : List ℕ) (n : ℕ) → known store' q ≡ Some (Some n) → name_at store' n ≡ Some q
      slot q n e = by (same_name name q) refl
        where
          by : (b : Bool) → same_name name q ≡ b → name_at store' n ≡ Some q
          by false off = at_push name_in n ∙ name_front store.slots (used_slot name keys rows) n q (is.slot q n (sym (known_else q off) ∙ e))
          by true on =
              let same : name ≡ q = (bytes_decides name q).0 on in
              let here : length store.slots ≡ n = one (length store.slots) n (sym known_here ∙ ap (known store') same ∙ e) in
              ap (name_at store') (sym here) ∙ at_push name_in (length store.slots) ∙ ap (option_and_then name_in) (get_last store.slots (used_slot name keys rows)) ∙ ap Some same

      bare : (q : List ℕ) → (life_of q groups).last ≡ None → is_some (known store' q) ≡ is_some (folder (file q Keys))
      bare q last = by (same_name name q) refl
        where
          by : (b : Bool) → same_name name q ≡ b → is_some (known store' q) ≡ is_some (folder (file q Keys))
          by false off = ap is_some (known_else q off) ∙ is.bare q last
          by true on = let same : name ≡ q = (bytes_decides name q).0 on in subst (λ (p : List ℕ). is_some (known store' p) ≡ is_some (folder (file p Keys))) same (ap is_some known_here ∙ sym (ap is_some keys_are.there))

      gone : (q : List ℕ) → (life_of q groups).last ≡ Some None → known store' q ≡ None
      gone q last = by (same_name name q) refl
        where
          by : (b : Bool) → same_name name q ≡ b → known store' q ≡ None
          by false off = known_else q off ∙ is.gone q last
          by true on = absurd (needed_kept q groups last (subst (λ (p : List ℕ). needs_slot p groups ≡ true) ((bytes_decides name q).0 on) needs))

-- ---- before any slot is given

no_slots : (store : PageStore) (n : ℕ) → store.slots ≡ [] → slice_get store.slots n ≡ None
no_slots store n none = ap (λ (l : List Slot). slice_get l n) none

pub tidy_blank : (store : PageStore) → store.slots ≡ [] → AreTidy store
tidy_blank store none = record {
  known = λ n name at. absurd (let e : None ≡ Some name = sym (ap (option_and_then name_in) (no_slots store n none)) ∙ at in (cc));
  few = λ n part sizes at. absurd (let e : None ≡ Some sizes = sym (ap (option_map sizes_in) (no_slots store n none)) ∙ at in (cc));
}

pub told_none : (store : PageStore) (groups : List Logged) → store.slots ≡ [] → AreToldOf store groups
told_none store groups none n name at = absurd (let e : None ≡ Some name = sym (ap (option_and_then name_in) (no_slots store n none)) ∙ at in (cc))

pub entering_begun : (store : PageStore) (folder : Folder) (groups : List Logged) (files : List FileName) → store.slots ≡ [] → ((q : List ℕ) → known store q ≡ cond (is_listed files groups q) (Some None) None) → AreListed files folder groups → IsEntering store folder groups
entering_begun store folder groups files none knows listed = record {
  slots = λ n slot at used. absurd (let e : None ≡ Some slot = sym (no_slots store n none) ∙ at in (cc));
  slot = λ q n e. absurd (by (is_listed files groups q) n (sym (knows q) ∙ e));
  bare = λ q last. ap is_some (knows q) ∙ ap (λ (l : Option (Option Maker)). is_some (cond (list_any (same_file (file q Keys)) files && not (is_dropped (told_of l))) bare_one None)) last ∙ kept (list_any (same_file (file q Keys)) files) ∙ listed q last;
  gone = λ q last. knows q ∙ ap (λ (l : Option (Option Maker)). cond (list_any (same_file (file q Keys)) files && not (is_dropped (told_of l))) bare_one None) last ∙ dropped (list_any (same_file (file q Keys)) files);
}
  where
    by : (b : Bool) (n : ℕ) → cond b (Some None) None ≡ Some (Some n) → ⊥
    by true n e = (cc)
    by false n e = (cc)

    bare_one : Option (Option ℕ)
    bare_one = Some None

    kept : (b : Bool) → is_some (cond (b && true) bare_one None) ≡ b
    kept true = refl
    kept false = refl

    dropped : (b : Bool) → cond (b && false) bare_one None ≡ None
    dropped true = refl
    dropped false = refl

-- one name more was gone through
pub have_more : (store store' : PageStore) (groups : List Logged) (names : List (List ℕ)) (i : ℕ) (name : List ℕ) → take (i + 1) names ≡ take i names ++ name ∷ [] → KeepSlots store store' → (needs_slot name groups ≡ true → HasSlot store' name)
    → HaveSlots store groups (take i names) → HaveSlots store' groups (take (i + 1) names)
have_more store store' groups names i name more keeps given have q in_it needs =
    by (list_any (same_name q) (take i names)) (same_name q name) refl refl (sym (ap (list_any (same_name q)) more ∙ list_any-append (same_name q) (take i names) (name ∷ [])) ∙ in_it)
  where
    by : (a b : Bool) → list_any (same_name q) (take i names) ≡ a → same_name q name ≡ b → (a || (b || false)) ≡ true → HasSlot store' q
    by true b was is on = let h = have q was needs in (h.0, keeps q h.0 h.1)
    by false true was is on = let same : q ≡ name = (bytes_decides q name).0 is in subst (HasSlot store') (sym same) (given (subst (λ (p : List ℕ). needs_slot p groups ≡ true) same needs))
    by false false was is on = absurd (cc)

-- ---- faults

of_alike : (tells : Bool) (d e : Folder) → (IsTrue tells → e ≡ d) → (fault : Fault) → OfEnter tells e fault → OfEnter tells d fault
of_alike tells d e same (FileMissing f) is = λ on. let r = is on in (r.0, r.1, r.2, ap (λ (x : Folder). x f) (sym (same on)) ∙ r.3)
of_alike tells d e same fault is = is

-- a call behind others that only looked
pub cause_on : {T : Type 0} (tells : Bool) (s m t : State) (r : Result T Fault) → (IsTrue tells → Unchanged s m) → m.disk_faults ≡ s.disk_faults → m.tell_faults ≡ s.tell_faults → HasEnterCause tells m t r → HasEnterCause tells s t r
cause_on tells s m t r same disk tell is = record {
  only = by r is.only;
  counted = λ e. subst (λ (n : ℕ). Rose n t.disk_faults) disk (is.counted e);
  calm = subst (λ (n : ℕ). OnOk r (t.disk_faults ≡ n)) disk is.calm;
  later = subst (λ (n : ℕ). n ≤ t.disk_faults) disk is.later;
  tell = is.tell ∙ tell;
}
  where
    by : {T : Type 0} (r : Result T Fault) → IfErr r (OfEnter tells m.folder) → IfErr r (OfEnter tells s.folder)
    by (Ok x) is = tt
    by (Err f) is = of_alike tells s.folder m.folder (λ on. (same on).folder) f is

-- no slot was there before, and each name got one at most
pub are_many : (groups : List Logged) (slots : List Slot) (names : List (List ℕ)) (fault : Fault) → slots ≡ [] → IsStrictlySortedBy (slice_cmp nat_cmp) names → ((q : List ℕ) → is_member (eq_by_cmp (slice_cmp nat_cmp)) names q ≡ list_any (is_of q) groups)
    → HasMany (length slots + length names) fault → AreMany groups fault
are_many groups slots names TooManyTables none ordered all many = (let m : 2 ^ 32 - 1 ≤ length {A = Slot} [] + length names = subst (λ (l : List Slot). 2 ^ 32 - 1 ≤ length l + length names) none many in (names, ordered, all, omega (arith, m)))
are_many groups slots names fault none ordered all many = tt
