-- A table gets a slot.
use Rattle.std.proofs.Common.{◌≡◌, ◌∙◌, ◌⊎◌, ◌||◌, inr, ℕ, ◌/◌, ◌%◌, ◌^◌, ◌<◌, ◌≤◌, max, zero, suc, Bool, true, false, cond, nat_eq, List, [], ◌∷◌, length, ap, sym, refl, subst, arith, Option, None, Some, Result, Ok, Err}
use Rattle.std.specs.Prelude.{IsTrue, is_some, slice_get, slice_index, All, IfOk, OnOk, OnErr}
use Rattle.std.specs.BTreeMap.{BTreeMap, get, is_at}
use Rattle.std.specs.Map.{lookup}
use Rattle.std.specs.Ordering.{nat_cmp}
use Rattle.std.specs.Cmp.Lexicographic.{slice_cmp}
use Rattle.std.proofs.lemmas.Option.{slice_get_within}
use Rattle.std.specs.List.{list_any}
use Rattle.std.specs.Option.{option_map, option_map_or, option_and_then}
use Rattle.std.specs.Cmp.Lexicographic.{bytes_decides}
use Rattle.std.proofs.lemmas.Bool.{eqb-true}
use Rattle.aria_page.specs.declared.edit.Edit.{Edit}
use Rattle.aria_page.specs.declared.lsn.Lsn.{Lsn}
use Rattle.aria_page.specs.declared.page_kind.PageKind.TheVariants.{Header}
use Rattle.aria_page.specs.Lsn.{IsLsn, lsn_number}
use Rattle.aria_page.specs.Page.{IsSound, page_lsn, page_body}
use Rattle.aria_page.specs.PageKind.{kind_byte}
use Rattle.aria_page.specs.declared.place.Part.{Part}
use Rattle.aria_page.specs.declared.place.Part.TheVariants.{Keys, Rows}
use Rattle.aria_value.specs.Named.{same_name}
use Rattle.aria_host.specs.declared.fault.Fault.{Fault}
use Rattle.aria_host.specs.declared.fault.Fault.TheVariants.{Memory, Disk, Tell, Input, LogDamaged, LogSpent, ControlDamaged, NotOurs, PageDamaged, FileMissing, TooManyTables}
use Rattle.aria_host.specs.declared.file_name.FileName.{FileName}
use Rattle.aria_host.specs.Folder.{Folder, page_count}
use Rattle.aria_host.specs.Seen.{page_or_zero}
use Rattle.aria_host.specs.Calls.{HasDiskCause, Unchanged}
use Rattle.aria_host.specs.Count.{Rose}
use Rattle.aria_host.specs.State.{State}
use Rattle.aria_host.proofs.Moments.{OnlyNow}
use Rattle.aria_record.specs.declared.record.Record.{Record}
use Rattle.aria_record.specs.Logged.{Logged, lsn_at_place}
use Rattle.aria_record.specs.Writing.{records_of}
use Rattle.aria_log.specs.Log.{place}
use Rattle.aria_cache.specs.Calls.{fault_of}
use Rattle.aria_cache.specs.Frames.{Held, held, is_pinned}
use Rattle.aria_recovery.specs.Redo.{Seen, page_number, stepped, redo, edits_on, is_some_edit, touches, number_at, reach, reach_on}
use Rattle.aria_recovery.specs.Tables.{Maker, life_of, file, tables_of, IsCurrent}
use Rattle.aria_recovery.specs.Images.{AreImages}
use Rattle.aria_recovery.specs.Frames.{Spot, raw_at, redone_at, edits_of, dirty_of, PageOn, all_of}
use Rattle.aria_recovery.proofs.Behind.{redone_all, edits_begin}
use Rattle.aria_recovery.proofs.Calming.{image_opened, image_shut}
use Rattle.aria_recovery.proofs.Framing.{reach_touched}
use Rattle.aria_recovery.proofs.Holding.{page_none}
use Rattle.aria_pager.specs.declared.page_store.PageStore.{PageStore}
use Rattle.aria_pager.specs.declared.slot.Slot.{Slot}
use Rattle.aria_pager.specs.PageStore.{name_in, name_at, sizes_in, sizes_at, opened, stands_for, part_of_key, spot_of, set_at, with_rest}
use Rattle.aria_pager.specs.Pager.{HasFront, Standing, HoldsPages, AreInside, AreSilent, OnDisk, IsSlot, AreSlots, KnowsTables, IsPager, known, pages_in, next_number}
use Rattle.aria_pager.specs.Steps.{damaged_at}
use Rattle.aria_pager.specs.View.{size_in, HasEdits, IsTidy}
use Rattle.aria_pager.specs.Filing.{Reserves, with_slots, with_tables}
use Rattle.aria_pager.specs.Slotted.{given_slot, has_magic, IsHeaded, OfFirst, OfTable, HasTableCause, IsThere, Gives, IsReserved, Went, Opens}
use Rattle.aria_pager.specs.Going.{moves_seen}
use Rattle.aria_pager.proofs.Slots.{find, both_on, slot_open}
use Rattle.aria_pager.proofs.Stepping.{page_number_is, moves_look, pager_look}
use Rattle.aria_pager.proofs.Keeping.{pager_rest}
use Rattle.aria_pager.proofs.Bodies.{Open, open_at}
use Rattle.aria_pager.proofs.Reserving.{More, names_same, opens_same, pager_reserved, few_more, more_there}
use Rattle.aria_pager.proofs.Setting.{set_here, set_other}

-- groups that don't reach into a file leave its pages
no_edits : (name : List ℕ) (part : Part) (n : ℕ) (g : Logged) (gs : List Logged) → reach name part (g ∷ gs) ≡ 0 → edits_on name part n g.group ≡ []
no_edits name part n g gs none = by (edits_on name part n g.group) refl
  where
    by : (es : List Edit) → edits_on name part n g.group ≡ es → es ≡ []
    by [] is = refl
    by (e ∷ es) is = absurd (let low : n < reach name part (g ∷ gs) = reach_touched name part n [] gs g (ap is_some_edit is) in omega (arith, low, none))

rest_none : (a b : ℕ) → max a b ≡ 0 → b ≡ 0
rest_none a b e = omega (arith, e)

pub redo_still : (name : List ℕ) (part : Part) (n : ℕ) (gs : List Logged) (x : Seen) → reach name part gs ≡ 0 → redo name part n gs x ≡ x
redo_still name part n [] x none = refl
redo_still name part n (g ∷ gs) x none =
    ap (λ (es : List Edit). redo name part n gs (stepped (number_at g.at) es x)) (no_edits name part n g gs none)
    ∙ redo_still name part n gs x (rest_none (reach_on name part g.group) (reach name part gs) none)

abbrev spot_in : ℕ → Option (List ℕ) → Option Spot
spot_in k name = option_map (λ name. record { name = name; part = part_of_key k; page = k % 2 ^ 31 }) name

some_slot : (a b : Slot) → Some a ≡ Some b → a ≡ b
some_slot a b e = cc

any_here : (p : Slot → Bool) (xs : List Slot) (n : ℕ) (x : Slot) → slice_get xs n ≡ Some x → p x ≡ true → list_any p xs ≡ true
any_here p [] n x at on = absurd (cc)
any_here p (y ∷ ys) zero x at on = ap (λ (b : Bool). b || list_any p ys) (ap p (some_slot y x at) ∙ on)
any_here p (y ∷ ys) (suc n) x at on = or_true (p y) (list_any p ys) (any_here p ys n x at on)
  where
    or_true : (a b : Bool) → b ≡ true → (a || b) ≡ true
    or_true true b e = refl
    or_true false b e = e

module _ (store : PageStore) (name : List ℕ) (n keys rows : ℕ) (slots : List Slot) (tables : BTreeMap (List ℕ) (Option ℕ)) where
  abbrev now : PageStore
  now = with_tables store store.frames slots tables

  abbrev mine : Slot
  mine = given_slot name keys rows

  pub record Slots : Type 0 where
    pub free : name_at store n ≡ None
    pub here : slice_get slots n ≡ Some mine
    pub else : (m : ℕ) → nat_eq n m ≡ false → slice_get slots m ≡ slice_get store.slots m
    pub knows : (q : List ℕ) → known now q ≡ cond (same_name name q) (Some (Some n)) (known store q)

  module _ (c : Slots) where
    -- the other slots stand for their tables
    pub name_else : (m : ℕ) (q : List ℕ) → name_at store m ≡ Some q → name_at now m ≡ Some q
    name_else m q at = by (nat_eq n m) refl
      where
        by : (b : Bool) → nat_eq n m ≡ b → name_at now m ≡ Some q
        by false off = ap (option_and_then name_in) (c.else m off) ∙ at
        by true same = absurd (let f : None ≡ Some q = sym c.free ∙ ap (name_at store) (eqb-true n m same) ∙ at in (cc))

    pub name_here : name_at now n ≡ Some name
    name_here = ap (option_and_then name_in) c.here

    -- the tables of slots
    pub open_more : (q : List ℕ) → IsTrue (opened store q) → IsTrue (opened now q)
    open_more q on = let (m, slot, at, for) = find q store.slots on in by m slot at for (nat_eq n m) refl
      where
        by : (m : ℕ) (slot : Slot) → slice_get store.slots m ≡ Some slot → stands_for q slot ≡ true → (b : Bool) → nat_eq n m ≡ b → IsTrue (opened now q)
        by m slot at for false off = any_here (stands_for q) slots m slot (c.else m off ∙ at) for
        by m slot at for true same =
            let (used, is) = both_on slot.used (same_name slot.name q) for in
            absurd (let f : Some slot.name ≡ None = sym (ap (option_and_then name_in) at ∙ ap (λ (b : Bool). cond b (Some slot.name) None) used) ∙ sym (ap (name_at store) (eqb-true n m same)) ∙ c.free in (cc))

    pub open_only : (q : List ℕ) → IsTrue (opened now q) → IsTrue (same_name name q || opened store q)
    open_only q on = let (m, slot, at, for) = find q slots on in by m slot at for (nat_eq n m) refl
      where
        or_left : (a b : Bool) → a ≡ true → IsTrue (a || b)
        or_left true b e = refl
        or_left false b e = absurd (cc)

        or_right : (a b : Bool) → b ≡ true → IsTrue (a || b)
        or_right true b e = refl
        or_right false b e = e

        by : (m : ℕ) (slot : Slot) → slice_get slots m ≡ Some slot → stands_for q slot ≡ true → (b : Bool) → nat_eq n m ≡ b → IsTrue (same_name name q || opened store q)
        by m slot at for false off = or_right (same_name name q) (opened store q) (any_here (stands_for q) store.slots m slot (sym (c.else m off) ∙ at) for)
        by m slot at for true same =
            let (used, is) = both_on slot.used (same_name slot.name q) for in
            let e : mine ≡ slot = some_slot mine slot (sym c.here ∙ ap (slice_get slots) (eqb-true n m same) ∙ at) in
            or_left (same_name name q) (opened store q) (ap (λ (x : Slot). same_name x.name q) e ∙ is)

    module _ (s : State) (base : ℕ) (start : Folder) (groups : List Logged) (forced : ℕ) (is : IsPager store s base start groups forced) (closed : known store name ≡ Some None) (idle : records_of store.writer ≡ []) (there_keys : IsThere name Keys s.folder keys) (there_rows : IsThere name Rows s.folder rows) (few_keys : keys ≤ 2 ^ 31) (few_rows : rows ≤ 2 ^ 31) where
      silent_name : AreSilent name groups
      silent_name = is.tables.silent name closed

      there : (part : Part) → is_some (s.folder (file name part)) ≡ true
      there Keys = ap is_some there_keys.there
      there Rows = ap is_some there_rows.there

      images_now : AreImages (opened now) s groups forced
      images_now f leaves = image_shut (λ q. same_name name q || opened store q) groups forced (opened now) s.folder f open_only
          (image_opened (opened store) groups forced name s.folder f (λ part. subst (λ (l : Option (Option Maker)). IsCurrent l (f (file name part))) (sym silent_name.last) (is.names f leaves name part ∙ there part)) (is.images f leaves))

      -- names that have a slot are others
      apart : (q : List ℕ) (m : ℕ) → known store q ≡ Some (Some m) → same_name name q ≡ false
      apart q m knows = by (same_name name q) refl
        where
          by : (b : Bool) → same_name name q ≡ b → same_name name q ≡ false
          by false off = off
          by true same = absurd (let e : Some None ≡ Some (Some m) = sym closed ∙ ap (known store) ((bytes_decides name q).0 same) ∙ knows in (cc))

      spot_else : (k : ℕ) → nat_eq n (k / 2 ^ 32) ≡ false → spot_of now k ≡ spot_of store k
      spot_else k off = ap (λ (o : Option Slot). spot_in k (option_and_then name_in o)) (c.else (k / 2 ^ 32) off)

      spot_here : (k : ℕ) → nat_eq n (k / 2 ^ 32) ≡ true → spot_of now k ≡ Some (record { name = name; part = part_of_key k; page = k % 2 ^ 31 })
      spot_here k on = ap (λ (m : ℕ). spot_in k (option_and_then name_in (slice_get slots m))) (sym (eqb-true n (k / 2 ^ 32) on)) ∙ ap (λ (o : Option Slot). spot_in k (option_and_then name_in o)) c.here

      none_here : (k : ℕ) → nat_eq n (k / 2 ^ 32) ≡ true → spot_of store k ≡ None
      none_here k on = ap (λ (m : ℕ). spot_in k (name_at store m)) (sym (eqb-true n (k / 2 ^ 32) on)) ∙ ap (spot_in k) c.free

      no_frame : (k : ℕ) → spot_of store k ≡ None → held store.frames k ≡ None
      no_frame k none = by (held store.frames k) refl
        where
          by : (o : Option Held) → held store.frames k ≡ o → held store.frames k ≡ None
          by None e = e
          by (Some h) e = absurd (let f : true ≡ false = sym ((is.pages k).is_known h e) ∙ ap is_some none in (cc))

      untouched : (o : Option Spot) → option_map_or (λ sp. touches sp.name sp.part sp.page (records_of store.writer)) o false ≡ false
      untouched None = refl
      untouched (Some sp) = ap (touches sp.name sp.part sp.page) idle

      no_pin : (k : ℕ) → is_pinned store.frames k ≡ false
      no_pin k = is.pinned k ∙ untouched (spot_of store k)

      -- what is held of a page
      abbrev On : ℕ → Option Spot → Type 0
      On k o = PageOn (is_some o) (held store.frames k) (is_pinned store.frames k) (raw_at s.folder o) (redone_at groups (length groups) o (raw_at s.folder o)) (edits_of groups (length groups) (records_of store.writer) o) (next_number store) (next_number store)

      pages : HoldsPages now s.folder groups (all_of groups)
      pages k = by (nat_eq n (k / 2 ^ 32)) refl
        where
          by : (b : Bool) → nat_eq n (k / 2 ^ 32) ≡ b → On k (spot_of now k)
          by false off = subst (On k) (sym (spot_else k off)) (is.pages k)
          by true on = subst (On k) (sym (spot_here k on))
              (subst (λ (h : Option Held). PageOn true h (is_pinned store.frames k) raw made es (next_number store) (next_number store)) (sym (no_frame k (none_here k on)))
              (subst (λ (b : Bool). PageOn true None b raw made es (next_number store) (next_number store)) (sym (no_pin k))
              (subst (λ (x : Seen). PageOn true None false raw x es (next_number store) (next_number store)) (sym made_is)
              (subst (λ (l : List Edit). PageOn true None false raw raw l (next_number store) (next_number store)) (sym none)
              (page_none true raw (next_number store) (next_number store))))))
            where
              sp : Spot
              sp = record { name = name; part = part_of_key k; page = k % 2 ^ 31 }

              raw : Seen
              raw = raw_at s.folder (Some sp)

              made : Seen
              made = redone_at groups (length groups) (Some sp) raw

              es : List Edit
              es = edits_of groups (length groups) (records_of store.writer) (Some sp)

              made_is : made ≡ raw
              made_is = redone_all groups sp raw ∙ redo_still name (part_of_key k) (k % 2 ^ 31) (life_of name groups).since raw (silent_name.none (part_of_key k))

              none : es ≡ []
              none = ap (λ (rs : List Record). edits_of groups (length groups) rs (Some sp)) idle ∙ edits_begin groups (length groups) (Some sp)

      inside : AreInside now s.folder groups
      inside k sp at dirt free = by (nat_eq n (k / 2 ^ 32)) refl
        where
          by : (b : Bool) → nat_eq n (k / 2 ^ 32) ≡ b → sp.page < max (page_count (file sp.name sp.part) s.folder) (reach sp.name sp.part (life_of sp.name groups).since)
          by true on = absurd (let e : false ≡ true = sym (ap dirty_of (no_frame k (none_here k on))) ∙ dirt in (cc))
          by false off = is.inside k sp (sym (spot_else k off) ∙ at) dirt free

      disk : (part : Part) (count : ℕ) → IsThere name part s.folder count → count ≤ 2 ^ 31 → OnDisk now s.folder groups name part (record { written = count; pages = count })
      disk part count found low = record {
        content = found.content;
        there = found.there;
        written = found.long;
        counts = sym (most ∙ alone);
        few = low;
      }
        where
          most : max (max count (reach name part (life_of name groups).since)) (reach_on name part (records_of store.writer)) ≡ max (max count 0) 0
          most = ap (λ (r : ℕ). max (max count r) (reach_on name part (records_of store.writer))) (silent_name.none part) ∙ ap (λ (rs : List Record). max (max count 0) (reach_on name part rs)) idle

          alone : max (max count 0) 0 ≡ count
          alone = omega arith

      slot_here : IsSlot now s.folder groups n mine
      slot_here = record {
        table = is_table;
        files = files;
        known = c.knows name ∙ ap (λ (b : Bool). cond b (Some (Some n)) (known store name)) ((bytes_decides name name).1 refl);
      }
        where
          is_table : IsTrue (is_some (tables_of s.folder groups name))
          is_table = sym (is.tables.each name) ∙ ap is_some closed

          files : (q : Part) → OnDisk now s.folder groups name q (pages_in mine q)
          files Keys = disk Keys keys there_keys few_keys
          files Rows = disk Rows rows there_rows few_rows

      slot_there : (m : ℕ) (slot : Slot) → slice_get store.slots m ≡ Some slot → slot.used ≡ true → IsSlot now s.folder groups m slot
      slot_there m slot at used = let was = is.slots m slot at used in record {
        table = was.table;
        files = λ q. let d = was.files q in record { content = d.content; there = d.there; written = d.written; counts = d.counts; few = d.few };
        known = c.knows slot.name ∙ ap (λ (b : Bool). cond b (Some (Some n)) (known store slot.name)) (apart slot.name m was.known) ∙ was.known;
      }

      slots_now : AreSlots now s.folder groups
      slots_now m slot at used = by (nat_eq n m) refl
        where
          by : (b : Bool) → nat_eq n m ≡ b → IsSlot now s.folder groups m slot
          by false off = slot_there m slot (sym (c.else m off) ∙ at) used
          by true same =
              let e : n ≡ m = eqb-true n m same in
              let o : mine ≡ slot = some_slot mine slot (sym c.here ∙ ap (slice_get slots) e ∙ at) in
              subst (λ (k : ℕ). IsSlot now s.folder groups k slot) e (subst (IsSlot now s.folder groups n) o slot_here)

      tables_now : KnowsTables now s.folder groups
      tables_now = record { each = each; slot = at; silent = silent }
        where
          silent : (other : List ℕ) → known now other ≡ Some None → AreSilent other groups
          silent other off' = by (same_name name other) refl
            where
              by : (b : Bool) → same_name name other ≡ b → AreSilent other groups
              by true same = absurd (let e : Some (Some n) ≡ Some None = sym (c.knows other ∙ ap (λ (b : Bool). cond b (Some (Some n)) (known store other)) same) ∙ off' in (cc))
              by false off = is.tables.silent other (sym (c.knows other ∙ ap (λ (b : Bool). cond b (Some (Some n)) (known store other)) off) ∙ off')

          each : (other : List ℕ) → is_some (known now other) ≡ is_some (tables_of s.folder groups other)
          each other = by (same_name name other) refl
            where
              by : (b : Bool) → same_name name other ≡ b → is_some (known now other) ≡ is_some (tables_of s.folder groups other)
              by true same = ap is_some (c.knows other) ∙ ap (λ (b : Bool). is_some (cond b (Some (Some n)) (known store other))) same ∙ sym (ap is_some closed) ∙ is.tables.each name
                  ∙ ap (λ (q : List ℕ). is_some (tables_of s.folder groups q)) ((bytes_decides name other).0 same)
              by false off = ap is_some (c.knows other) ∙ ap (λ (b : Bool). is_some (cond b (Some (Some n)) (known store other))) off ∙ is.tables.each other

          at : (q : List ℕ) (m : ℕ) → known now q ≡ Some (Some m) → name_at now m ≡ Some q
          at q m e = by (same_name name q) refl
            where
              one : (i j : ℕ) → Some (Some i) ≡ Some (Some j) → i ≡ j
              one i j same = cc

              by : (b : Bool) → same_name name q ≡ b → name_at now m ≡ Some q
              by true same =
                  let f : n ≡ m = one n m (sym (ap (λ (b : Bool). cond b (Some (Some n)) (known store q)) same) ∙ sym (c.knows q) ∙ e) in
                  ap (name_at now) (sym f) ∙ name_here ∙ ap Some ((bytes_decides name q).0 same)
              by false off = name_else m q (is.tables.slot q m (sym (ap (λ (b : Bool). cond b (Some (Some n)) (known store q)) off) ∙ sym (c.knows q) ∙ e))

      -- A TABLE GOT A SLOT
      pub pager_slotted : IsPager now s base start groups forced
      pager_slotted = record {
        log = is.log;
        images = images_now;
        names = is.names;
        control = is.control;
        raises = is.raises;
        pages = pages;
        top = inr (λ k. refl);
        inside = inside;
        pinned = λ k. no_pin k ∙ sym (untouched (spot_of now k));
        own = λ other part k on. absurd (let e : true ≡ false = sym on ∙ ap (touches other part k) idle in (cc));
        named = λ other part off. ap (reach_on other part) idle;
        slots = slots_now;
        tables = tables_now;
        settled = is.settled;
        written = is.written;
        pending = is.pending;
      }

-- ---- memory

-- a slot that is there
pub slot_low : (slots : List Slot) (n : ℕ) → IsTrue (is_some (slice_get slots n)) → n < length slots
slot_low slots n on = by (slice_get slots n) refl on
  where
    by : (o : Option Slot) → slice_get slots n ≡ o → IsTrue (is_some o) → n < length slots
    by None at off = absurd (cc)
    by (Some slot) at some = slice_get_within slots n slot at

-- a map that is unchanged
pub unchanged_known : (tables tables' : BTreeMap (List ℕ) (Option ℕ)) → tables'.entries ≡ tables.entries → (q : List ℕ) → get (slice_cmp nat_cmp) tables' q ≡ get (slice_cmp nat_cmp) tables q
unchanged_known tables tables' same q = ap (λ (es : List (List ℕ × Option ℕ)). lookup (is_at (slice_cmp nat_cmp q)) es) same

-- ---- the first page of an index file

-- it is ahead of the log
pub first_late : (page : List ℕ) (file : FileName) (end lsn : Lsn) (fault : Fault) → fault ≡ damaged_at end → IsSound page → lsn ≡ page_lsn page → lsn_number end ≤ lsn_number lsn → OfFirst true page file end fault
first_late page file end lsn fault is sound at late = subst (OfFirst true page file end) (sym is)
    (refl, λ on. (sound, subst (λ (n : ℕ). lsn_number end ≤ n) (ap lsn_number at ∙ sym (page_number_is page)) late))

pub first_headed : (page body : List ℕ) (end lsn : Lsn) → body ≡ page_body page → IsSound page → has_magic body ≡ true → slice_index body 0 ≡ kind_byte Header → lsn ≡ page_lsn page → lsn_number lsn < lsn_number end → IsHeaded (lsn_number end) page
first_headed page body end lsn is sound magic kind at early = record {
  sound = sound;
  magic = ap has_magic (sym is) ∙ magic;
  kind = ap (λ (b : List ℕ). slice_index b 0) (sym is) ∙ kind;
  below = subst (λ (n : ℕ). n < lsn_number end) (ap lsn_number at ∙ sym (page_number_is page)) early;
}

-- what is wrong with the page, where the host tells of it
pub first_told : (tells : Bool) (page page' : List ℕ) (file : FileName) (end : Lsn) (fault : Fault) → (IsTrue tells → page ≡ page') → OfFirst true page file end fault → OfFirst tells page' file end fault
first_told tells page page' file end (NotOurs f) same is = (is.0, λ told. subst (λ (p : List ℕ). IsSound p × (has_magic (page_body p) ≡ false)) (same told) (is.1 refl))
first_told tells page page' file end (PageDamaged f n) same is = (is.0, is.1, λ told. subst (λ (p : List ℕ). (¬ IsSound p) ⊎ ((has_magic (page_body p) ≡ true) × (¬ (slice_index (page_body p) 0 ≡ kind_byte Header)))) (same told) (is.2 refl))
first_told tells page page' file end (LogDamaged f n) same is = (is.0, λ told. subst (λ (p : List ℕ). IsSound p × (lsn_number end ≤ page_number p)) (same told) (is.1 refl))
first_told tells page page' file end (Memory e) same is = absurd is
first_told tells page page' file end Disk same is = absurd is
first_told tells page page' file end Tell same is = absurd is
first_told tells page page' file end Input same is = absurd is
first_told tells page page' file end (LogSpent n) same is = absurd is
first_told tells page page' file end ControlDamaged same is = absurd is
first_told tells page page' file end (FileMissing f) same is = absurd is
first_told tells page page' file end TooManyTables same is = absurd is

-- so a table gets no slot
pub first_table : (tells : Bool) (store : PageStore) (name : List ℕ) (s t : State) (fault : Fault) → OfFirst tells (page_or_zero 0 (t.folder (file name Keys))) (file name Keys) (lsn_at_place (place store.log)) fault → OfTable tells store name s t fault
first_table tells store name s t (NotOurs f) is = is
first_table tells store name s t (PageDamaged f n) is = is
first_table tells store name s t (LogDamaged f n) is = is
first_table tells store name s t (Memory e) is = absurd is
first_table tells store name s t Disk is = absurd is
first_table tells store name s t Tell is = absurd is
first_table tells store name s t Input is = absurd is
first_table tells store name s t (LogSpent n) is = absurd is
first_table tells store name s t ControlDamaged is = absurd is
first_table tells store name s t (FileMissing f) is = absurd is
first_table tells store name s t TooManyTables is = absurd is

-- ---- causes

of_after : (tells : Bool) (store : PageStore) (name : List ℕ) (s0 s t : State) (fault : Fault) → s.disk_faults ≡ s0.disk_faults → OfTable tells store name s t fault → OfTable tells store name s0 t fault
of_after tells store name s0 s t (Memory e) same is = is
of_after tells store name s0 s t Disk same is = subst (λ (n : ℕ). Rose n t.disk_faults) same is
of_after tells store name s0 s t Tell same is = is
of_after tells store name s0 s t Input same is = is
of_after tells store name s0 s t (LogDamaged f n) same is = is
of_after tells store name s0 s t (LogSpent n) same is = is
of_after tells store name s0 s t ControlDamaged same is = is
of_after tells store name s0 s t (NotOurs f) same is = is
of_after tells store name s0 s t (PageDamaged f n) same is = is
of_after tells store name s0 s t (FileMissing f) same is = is
of_after tells store name s0 s t TooManyTables same is = is

-- a fault, behind calls that were done
pub table_err : {T U : Type 0} (tells : Bool) (store : PageStore) (name : List ℕ) (s0 s t : State) (f y : Fault) (r : Result U Fault) → r ≡ Err y → y ≡ f → s.disk_faults ≡ s0.disk_faults → s.tell_faults ≡ s0.tell_faults
    → HasTableCause {T = T} tells store name s t (Err f) → HasTableCause {T = U} tells store name s0 t r
table_err {T} {U} tells store name s0 s t f y r is e disk tell cause = subst (λ (q : Result U Fault). HasTableCause {T = U} tells store name s0 t q) (sym (is ∙ ap (λ (x : Fault). Err x) e)) record {
  only = of_after tells store name s0 s t f disk cause.only;
  calm = tt;
  later = omega (arith, cause.later, disk);
  tell = cause.tell ∙ tell;
}

-- the disk failed
pub table_disk : {T : Type 0} (tells : Bool) (store : PageStore) (name : List ℕ) (s t : State) (f : Fault) → HasDiskCause {T = T} s t (Err f) → HasTableCause {T = T} tells store name s t (Err f)
table_disk {T} tells store name s t f cause = record {
  only = subst (OfTable tells store name s t) (sym cause.only) (cause.counted (ap (λ (x : Fault). Err x) cause.only));
  calm = tt;
  later = cause.later;
  tell = cause.tell;
}

-- the first page isn't as it must be
pub table_first : (tells : Bool) (store : PageStore) (name : List ℕ) (t : State) (page : List ℕ) (file' : FileName) (end : Lsn) (f : Fault) → file' ≡ file name Keys → end ≡ lsn_at_place (place store.log) → (IsTrue tells → page ≡ page_or_zero 0 (t.folder (file name Keys)))
    → OfFirst true page file' end f → HasTableCause {T = ℕ} tells store name t t (Err f)
table_first tells store name t page file' end f named at same is = record {
  only = first_table tells store name t t f (first_told tells page (page_or_zero 0 (t.folder (file name Keys))) (file name Keys) (lsn_at_place (place store.log)) f same
      (subst (λ (g : FileName). OfFirst true page g (lsn_at_place (place store.log)) f) named (subst (λ (l : Lsn). OfFirst true page file' l f) at is)));
  calm = tt;
  later = omega arith;
  tell = refl;
}

-- ---- a slot is found or added, and taken

pub record Taken (store mid end : PageStore) (name : List ℕ) (n keys rows : ℕ) : Type 0 where
  pub reserved : mid ≡ with_slots store mid.slots
  pub more : Reserves store mid
  pub free : name_at store n ≡ None
  pub there : IsTrue (is_some (slice_get mid.slots n))
  pub taken : end ≡ with_tables mid mid.frames end.slots end.tables
  pub slots : end.slots ≡ set_at mid.slots n (given_slot name keys rows)
  pub knows : (q : List ℕ) → known end q ≡ cond (same_name name q) (Some (Some n)) (known mid q)

module _ (store mid end : PageStore) (name : List ℕ) (n keys rows : ℕ) (t : Taken store mid end name n keys rows) where
  abbrev first : PageStore
  first = with_slots store mid.slots

  whole : end ≡ with_tables store store.frames end.slots end.tables
  whole = t.taken ∙ ap (λ (v : PageStore). with_tables v v.frames end.slots end.tables) t.reserved

  here : slice_get end.slots n ≡ Some (given_slot name keys rows)
  here = ap (λ (l : List Slot). slice_get l n) t.slots ∙ by (slice_get mid.slots n) refl t.there
    where
      by : (o : Option Slot) → slice_get mid.slots n ≡ o → IsTrue (is_some o) → slice_get (set_at mid.slots n (given_slot name keys rows)) n ≡ Some (given_slot name keys rows)
      by None at off = absurd (let e : false ≡ true = off in (cc))
      by (Some x) at on = set_here mid.slots n x (given_slot name keys rows) at

  first_knows : (q : List ℕ) → known mid q ≡ known store q
  first_knows q = ap (λ (v : PageStore). known v q) t.reserved

  taken_slots : Slots first name n keys rows end.slots end.tables
  taken_slots = record {
    free = ap (λ (f : ℕ → Option (List ℕ)). f n) (names_same store mid.slots t.more.slots) ∙ t.free;
    here = here;
    else = λ m off. ap (λ (l : List Slot). slice_get l m) t.slots ∙ set_other mid.slots n m (given_slot name keys rows) off;
    knows = λ q. t.knows q ∙ ap (cond (same_name name q) (Some (Some n))) (first_knows q);
  }

  known_end : (q : List ℕ) → known end q ≡ cond (same_name name q) (Some (Some n)) (known store q)
  known_end q = t.knows q ∙ ap (cond (same_name name q) (Some (Some n))) (first_knows q)

  name_first : (m : ℕ) → name_at first m ≡ name_at store m
  name_first m = ap (λ (f : ℕ → Option (List ℕ)). f m) (names_same store mid.slots t.more.slots)

  else_end : (m : ℕ) → nat_eq n m ≡ false → name_at end m ≡ name_at store m
  else_end m off = ap (option_and_then name_in) (taken_slots.else m off) ∙ name_first m

  named_end : name_at end n ≡ Some name
  named_end = ap (option_and_then name_in) here

  sizes_else : (m : ℕ) (q : List ℕ) → name_at store m ≡ Some q → sizes_at end m ≡ sizes_at store m
  sizes_else m q at = by (nat_eq n m) refl
    where
      o : Open store m q
      o = open_at store m q at

      by : (b : Bool) → nat_eq n m ≡ b → sizes_at end m ≡ sizes_at store m
      by true same = absurd (let f : None ≡ Some q = sym t.free ∙ ap (name_at store) (eqb-true n m same) ∙ at in (cc))
      by false off = ap (option_map sizes_in) (taken_slots.else m off ∙ more_there store.slots mid.slots t.more.slots m o.slot o.there ∙ sym o.there)

  -- WHAT MEMORY KNOWS once a table got a slot
  pub gives : Gives name n store end
  gives = record { free = t.free; named = named_end; others = else_end; knows = known_end; sizes = sizes_else }

  pub sizes_end : sizes_at end n ≡ Some (keys, rows)
  sizes_end = ap (option_map sizes_in) here

  pub taken_pager : (s : State) (base : ℕ) (start : Folder) (groups : List Logged) (forced : ℕ) → known store name ≡ Some None → records_of store.writer ≡ [] → IsThere name Keys s.folder keys → IsThere name Rows s.folder rows → keys ≤ 2 ^ 31 → rows ≤ 2 ^ 31
      → IsPager store s base start groups forced → IsPager end s base start groups forced
  taken_pager s base start groups forced closed idle there_keys there_rows few_keys few_rows is = subst (λ (v : PageStore). IsPager v s base start groups forced) (sym whole)
      (pager_slotted first name n keys rows end.slots end.tables taken_slots s base start groups forced (pager_reserved store mid.slots t.more.slots s base start groups forced is) closed idle there_keys there_rows few_keys few_rows)

  pub taken_tidy : ((m : ℕ) → name_at store m ≡ Some name → ⊥) → keys ≤ 2 ^ 31 → rows ≤ 2 ^ 31 → IsTidy store → IsTidy end
  taken_tidy none few_keys few_rows is = record {
    one = one;
    known = known_at;
    few = few_at;
    closed = λ off clear. ap (λ (v : PageStore). records_of v.writer) whole ∙ is.closed (sym (ap (λ (v : PageStore). v.in_group) whole) ∙ off) (sym (ap (λ (v : PageStore). v.kept) whole) ∙ clear);
    edits = λ clear. subst (λ (v : PageStore). HasEdits v.writer) (sym whole) (is.edits (sym (ap (λ (v : PageStore). v.kept) whole) ∙ clear));
    undo = subst (λ (v : PageStore). All IsLsn v.pending.items) (sym whole) is.undo;
  }
    where
      some : (a b : List ℕ) → Some a ≡ Some b → a ≡ b
      some a b e = cc

      -- a slot of another number
      other : (m : ℕ) (q : List ℕ) → nat_eq n m ≡ false → name_at end m ≡ Some q → name_at store m ≡ Some q
      other m q off at = sym (else_end m off) ∙ at

      -- the slot itself
      mine_is : (m : ℕ) (q : List ℕ) → nat_eq n m ≡ true → name_at end m ≡ Some q → name ≡ q
      mine_is m q same at = some name q (sym named_end ∙ ap (name_at end) (eqb-true n m same) ∙ at)

      one : (i j : ℕ) (q : List ℕ) → name_at end i ≡ Some q → name_at end j ≡ Some q → i ≡ j
      one i j q a b = by (nat_eq n i) (nat_eq n j) refl refl
        where
          by : (x y : Bool) → nat_eq n i ≡ x → nat_eq n j ≡ y → i ≡ j
          by true true s u = sym (eqb-true n i s) ∙ eqb-true n j u
          by true false s u = absurd (none j (other j q u b ∙ ap Some (sym (mine_is i q s a))))
          by false true s u = absurd (none i (other i q s a ∙ ap Some (sym (mine_is j q u b))))
          by false false s u = is.one i j q (other i q s a) (other j q u b)

      known_at : (m : ℕ) (q : List ℕ) → name_at end m ≡ Some q → known end q ≡ Some (Some m)
      known_at m q at = by (nat_eq n m) refl
        where
          by : (x : Bool) → nat_eq n m ≡ x → known end q ≡ Some (Some m)
          by true s = known_end q ∙ ap (λ (b : Bool). cond b (Some (Some n)) (known store q)) ((bytes_decides name q).1 (mine_is m q s at)) ∙ ap (λ (i : ℕ). Some (Some i)) (eqb-true n m s)
          by false s = known_end q ∙ ap (λ (b : Bool). cond b (Some (Some n)) (known store q)) (apart (same_name name q) refl) ∙ is.known m q (other m q s at)
            where
              apart : (b : Bool) → same_name name q ≡ b → same_name name q ≡ false
              apart false off = off
              apart true same = absurd (none m (other m q s at ∙ ap Some (sym ((bytes_decides name q).0 same))))

      few_at : (m : ℕ) (part : Part) (sizes : ℕ × ℕ) → sizes_at end m ≡ Some sizes → size_in part sizes ≤ 2 ^ 31
      few_at m part sizes at = by (nat_eq n m) refl
        where
          pair : (a b : ℕ × ℕ) → Some a ≡ Some b → a ≡ b
          pair a b e = cc

          low : (p : Part) → size_in p (keys, rows) ≤ 2 ^ 31
          low Keys = few_keys
          low Rows = few_rows

          by : (x : Bool) → nat_eq n m ≡ x → size_in part sizes ≤ 2 ^ 31
          by true s = subst (λ (z : ℕ × ℕ). size_in part z ≤ 2 ^ 31) (pair (keys, rows) sizes (sym sizes_end ∙ ap (sizes_at end) (eqb-true n m s) ∙ at)) (low part)
          by false s = few_more store.slots mid.slots t.more.slots is.few m part sizes (sym (ap (option_map sizes_in) (taken_slots.else m s)) ∙ at)

-- ---- no slot was taken

pub reserved_tidy : (store end : PageStore) → IsReserved store end → IsTidy store → IsTidy end
reserved_tidy store end r is = record {
  one = λ i j q a b. is.one i j q (sym (names i) ∙ a) (sym (names j) ∙ b);
  known = λ m q at. r.knows q ∙ is.known m q (sym (names m) ∙ at);
  few = few_more store.slots end.slots r.more.slots is.few;
  closed = λ off clear. ap (λ (v : PageStore). records_of v.writer) r.rest ∙ is.closed (sym (ap (λ (v : PageStore). v.in_group) r.rest) ∙ off) (sym (ap (λ (v : PageStore). v.kept) r.rest) ∙ clear);
  edits = λ clear. subst (λ (v : PageStore). HasEdits v.writer) (sym r.rest) (is.edits (sym (ap (λ (v : PageStore). v.kept) r.rest) ∙ clear));
  undo = subst (λ (v : PageStore). All IsLsn v.pending.items) (sym r.rest) is.undo;
}
  where
    names : (m : ℕ) → name_at end m ≡ name_at store m
    names m = ap (λ (f : ℕ → Option (List ℕ)). f m) (names_same store end.slots r.more.slots)

-- a slot was found or added
pub reserved_of : (store mid : PageStore) → mid ≡ with_slots store mid.slots → Reserves store mid → IsReserved store mid
reserved_of store mid rest more = record {
  more = more;
  knows = λ q. ap (λ (v : PageStore). known v q) rest;
  rest = rest ∙ (λ i. with_tables store store.frames mid.slots (ap (λ (v : PageStore). v.tables) (sym rest) i));
}

-- and it wasn't taken
pub reserved_kept : (store mid end : PageStore) → mid ≡ with_slots store mid.slots → Reserves store mid → end ≡ with_tables mid mid.frames end.slots end.tables → end.slots ≡ mid.slots → ((q : List ℕ) → known end q ≡ known mid q) → IsReserved store end
reserved_kept store mid end rest more rest' slots knows = record {
  more = record { slots = subst (λ (l : List Slot). More store.slots l) (sym slots) more.slots };
  knows = λ q. knows q ∙ ap (λ (v : PageStore). known v q) rest;
  rest = rest' ∙ ap (λ (v : PageStore). with_tables v v.frames end.slots end.tables) rest;
}

-- how many pages a file has
pub there_count : (name : List ℕ) (part : Part) (folder : Folder) (pages : ℕ) → IsThere name part folder pages → pages ≡ page_count (file name part) folder
there_count name part folder pages is = sym (ap (λ (o : Option (List (List ℕ))). option_map_or length o 0) is.there ∙ is.long)

-- ---- between calls

-- the tables of slots are open
pub names_open : (store end : PageStore) → ((m : ℕ) (q : List ℕ) → name_at store m ≡ Some q → name_at end m ≡ Some q) → (q : List ℕ) → IsTrue (opened store q) → IsTrue (opened end q)
names_open store end names q on =
    let (m, slot, at, for) = find q store.slots on in
    let (used, same) = both_on slot.used (same_name slot.name q) for in
    let named : name_at store m ≡ Some q = ap (option_and_then name_in) at ∙ ap (λ (b : Bool). cond b (Some slot.name) None) used ∙ ap Some ((bytes_decides slot.name q).0 same) in
    let o = open_at end m q (names m q named) in
    subst (λ (w : List ℕ). IsTrue (opened end w)) o.named (slot_open end m o.slot o.there o.used)

gives_names : (name : List ℕ) (n : ℕ) (store end : PageStore) → Gives name n store end → (m : ℕ) (q : List ℕ) → name_at store m ≡ Some q → name_at end m ≡ Some q
gives_names name n store end is m q at = by (nat_eq n m) refl
  where
    by : (b : Bool) → nat_eq n m ≡ b → name_at end m ≡ Some q
    by false off = is.others m off ∙ at
    by true same = absurd (let f : None ≡ Some q = sym is.free ∙ ap (name_at store) (eqb-true n m same) ∙ at in (cc))

-- a table that the pager knows, and for which no slot stands
without_slot : (store : PageStore) (s : State) (base : ℕ) (start : Folder) (groups : List Logged) (forced : ℕ) (name : List ℕ) → IsTrue (is_some (known store name)) → ((n : ℕ) → known store name ≡ Some (Some n) → name_at store n ≡ Some name → ⊥)
    → IsPager store s base start groups forced → known store name ≡ Some None
without_slot store s base start groups forced name on none is = by (known store name) refl on
  where
    by : (o : Option (Option ℕ)) → known store name ≡ o → IsTrue (is_some o) → known store name ≡ Some None
    by None at off = absurd (let e : false ≡ true = off in (cc))
    by (Some None) at some = at
    by (Some (Some n)) at some = absurd (none n at (is.tables.slot name n at))

module _ (store mid : PageStore) (in_group : Bool) (made lent : ℕ) (kept : Option Fault) (s t : State) (only : OnlyNow s) (now : t.may_leave t.folder) (same : Unchanged s t) where
  abbrev then' : PageStore
  then' = with_rest mid in_group made lent kept

  -- a look, behind which a slot may stand for a table more
  went_look : (base : ℕ) (start : Folder) (groups : List Logged) (forced : ℕ) → IsPager store s base start groups forced → Standing store s base start groups forced → AreImages (opened mid) t groups forced → (kept ≡ None → IsPager mid t base start groups forced)
      → Went store then' s t base start groups groups forced
  went_look base start groups forced is stood images pager = record {
    forced' = forced;
    standing = record {
      within = stood.within;
      images = images;
      fronts = λ c left. stood.fronts c (same.images.no_more c left);
      pager = λ none. pager_rest mid in_group made lent kept t base start groups forced (pager none);
    };
    moves = moves_seen (HasFront base) (opened store) (opened mid) s t groups groups forced forced images (moves_look store s t (all_of groups) base start groups forced only now same is);
  }

  -- A SLOT WAS GIVEN, or none was
  pub table_opens : (name : List ℕ) (r : Result ℕ Fault) → store.kept ≡ None → kept ≡ fault_of r → IsTrue (is_some (known store name)) → ((n : ℕ) → known store name ≡ Some (Some n) → name_at store n ≡ Some name → ⊥) → records_of store.writer ≡ []
      → IfOk r (λ n. Gives name n store mid) → OnErr r (IsReserved store mid)
      → OnOk r ((base : ℕ) (start : Folder) (groups : List Logged) (forced : ℕ) → known store name ≡ Some None → records_of store.writer ≡ [] → IsPager store t base start groups forced → IsPager mid t base start groups forced)
      → Opens store then' s t
  table_opens name (Ok n) clear keeps on none idle given failed pager = record {
    slots = gives_names name n store mid given;
    opens = names_open store mid (gives_names name n store mid given);
    goes = λ base start groups forced stood.
        let is = stood.pager clear in
        let end = pager base start groups forced (without_slot store s base start groups forced name on none is) idle (pager_look store s t (all_of groups) base start groups forced same is) in
        went_look base start groups forced is stood end.images (λ off. end);
  }
  table_opens name (Err f) clear keeps on none idle given failed pager = record {
    slots = λ m q at. ap (λ (g : ℕ → Option (List ℕ)). g m) names ∙ at;
    opens = names_open store mid (λ m q at. ap (λ (g : ℕ → Option (List ℕ)). g m) names ∙ at);
    goes = λ base start groups forced stood.
        let is = stood.pager clear in
        let looked = pager_look store s t (all_of groups) base start groups forced same is in
        went_look base start groups forced is stood (subst (λ (o : List ℕ → Bool). AreImages o t groups forced) (sym (ap opened failed.rest ∙ opens_same store mid.slots failed.more.slots)) looked.images)
        (λ off. absurd (let e : Some f ≡ None = sym keeps ∙ off in (cc)));
  }
    where
      names : name_at mid ≡ name_at store
      names = ap name_at failed.rest ∙ names_same store mid.slots failed.more.slots
