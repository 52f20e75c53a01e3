-- A page that is held is edited, as part of the open group.
use Rattle.std.proofs.Common.{rules, ◌≡◌, ◌∙◌, ◌&&◌, ◌||◌, ℕ, ◌+◌, ◌/◌, ◌%◌, ◌^◌, ◌<◌, ◌≤◌, max, Bool, true, false, cond, nat_eq, List, [], ◌∷◌, ◌++◌, length, ap, sym, refl, subst, arith, Option, None, Some, Result, Ok, Err, inl, inr}
use Rattle.std.specs.Prelude.{IsTrue, is_some, slice_get, OnErr}
use Rattle.std.specs.Option.{option_map, option_map_or, option_and_then}
use Rattle.std.specs.List.{list_any}
use Rattle.std.specs.Map.{update}
use Rattle.std.specs.Cmp.Lexicographic.{bytes_decides}
use Rattle.std.proofs.lemmas.Bool.{cases_Bool, eqb-true, eq-eqb}
use Rattle.std.proofs.lemmas.List.Folds.{list_any-append}
use Rattle.aria_page.specs.declared.edit.Edit.{Edit}
use Rattle.aria_page.specs.declared.group.RedoKind.{RedoKind}
use Rattle.aria_page.specs.declared.place.Part.{Part}
use Rattle.aria_page.specs.declared.place.Part.TheVariants.{Keys, Rows}
use Rattle.aria_value.specs.Named.{same_name}
use Rattle.aria_host.specs.Folder.{Folder}
use Rattle.aria_host.specs.State.{State}
use Rattle.aria_record.specs.declared.group_writer.GroupWriter.{GroupWriter}
use Rattle.aria_record.specs.declared.record.Record.{Record}
use Rattle.aria_record.specs.declared.record.Record.TheVariants.{Redo}
use Rattle.aria_record.specs.Logged.{Logged}
use Rattle.aria_record.specs.Writing.{Writes, records_of}
use Rattle.aria_cache.specs.declared.frames.Frames.{Frames}
use Rattle.aria_cache.specs.declared.page_id.PageId.{PageId}
use Rattle.aria_cache.specs.Frames.{Held, held, is_pinned, edited_held}
use Rattle.aria_recovery.specs.Redo.{is_some_edit, same_part, edits_in, edits_at, edits_on, touches, reach_in, reach_on, reach}
use Rattle.aria_recovery.specs.Tables.{life_of, tables_of}
use Rattle.aria_recovery.specs.Images.{AreImages}
use Rattle.aria_recovery.specs.Frames.{Spot, edits_of, base_of, dirty_of, FramesOver, all_of}
use Rattle.aria_recovery.proofs.Comparing.{lt_false}
use Rattle.aria_recovery.proofs.Over.{over_edited}
use Rattle.aria_recovery.proofs.Stepping.{part_is}
use Rattle.aria_recovery.proofs.Behind.{edits_push}
use Rattle.aria_recovery.proofs.Placing.{edits_more, edits_apart}
use Rattle.aria_pager.specs.declared.page_store.PageStore.{PageStore}
use Rattle.aria_pager.specs.declared.slot.Slot.{Slot}
use Rattle.aria_pager.specs.declared.slot.FilePages.{FilePages}
use Rattle.aria_pager.specs.PageStore.{name_in, name_at, sizes_in, sizes_at, grown, sizes_after, stands_for, opened, part_of_key, set_at, spot_of, is_known}
use Rattle.aria_pager.specs.Pager.{HoldsPages, AreInside, AreOwn, AreNamed, OnDisk, IsSlot, AreSlots, is_touched, IsPager, known, pages_in, with_pages, next_number}
use Rattle.aria_pager.specs.Steps.{SameWork, SameTables, Steps, Adds, with_group}
use Rattle.aria_pager.proofs.Slots.{Here, slot_one, keys_apart, slot_open}
use Rattle.aria_pager.proofs.Setting.{set_here, set_other, set_names, set_any, pages_named, pages_stand}

abbrev spot_in : ℕ → Option (List ℕ) → Option Spot
spot_in k name = option_map (λ name. record { name = name; part = part_of_key k; page = k % 2 ^ 31 }) name

some_slot : (a b : Slot) → Some a ≡ Some b → a ≡ b
some_slot a b e = cc

-- ---- how far the open group's edits reach

reach_push : (name : List ℕ) (part : Part) (rs : List Record) (r : Record) → reach_on name part (rs ++ r ∷ []) ≡ max (reach_on name part rs) (reach_in (edits_in name part r))
reach_push name part [] r = omega arith
reach_push name part (q ∷ rs) r = ap (max (reach_in (edits_in name part q))) (reach_push name part rs r) ∙ omega arith

part_self : (p : Part) → same_part p p ≡ true
part_self Keys = refl
part_self Rows = refl

part_other : (p q : Part) → same_part p q ≡ false → same_part q p ≡ false
part_other Keys Keys off = off
part_other Keys Rows off = refl
part_other Rows Keys off = refl
part_other Rows Rows off = off

abbrev reach_by : ℕ → List Edit → Bool → ℕ
reach_by page es b = reach_in (cond b (Some (page, es)) None)

reach_here : (kind : RedoKind) (name : List ℕ) (part : Part) (page : ℕ) (es : List Edit) (rs : List Record) → reach_on name part (rs ++ Redo kind name part page es ∷ []) ≡ max (reach_on name part rs) (page + 1)
reach_here kind name part page es rs = reach_push name part rs (Redo kind name part page es)
    ∙ ap (λ (b : Bool). max (reach_on name part rs) (reach_by page es (b && same_part part part))) ((bytes_decides name name).1 refl)
    ∙ ap (λ (b : Bool). max (reach_on name part rs) (reach_by page es b)) (part_self part)

reach_else : (kind : RedoKind) (name other : List ℕ) (part q : Part) (page : ℕ) (es : List Edit) (rs : List Record) → (same_name other name && same_part q part) ≡ false → reach_on other q (rs ++ Redo kind name part page es ∷ []) ≡ reach_on other q rs
reach_else kind name other part q page es rs off = reach_push other q rs (Redo kind name part page es) ∙ ap (λ (b : Bool). max (reach_on other q rs) (reach_by page es b)) off ∙ omega arith

-- ---- pins

or_false : (b : Bool) → (b || false) ≡ b
or_false true = refl
or_false false = refl

or_turn : (a b : Bool) → (a || b) ≡ (b || a)
or_turn true true = refl
or_turn true false = refl
or_turn false true = refl
or_turn false false = refl

eq_turn : (n k : ℕ) → nat_eq k n ≡ nat_eq n k
eq_turn n k = by (nat_eq k n) refl (nat_eq n k) refl
  where
    by : (a : Bool) → nat_eq k n ≡ a → (b : Bool) → nat_eq n k ≡ b → nat_eq k n ≡ nat_eq n k
    by true e true f = e ∙ sym f
    by false e false f = e ∙ sym f
    by true e false f = absurd (let g : true ≡ false = sym (eq-eqb n k (sym (eqb-true k n e))) ∙ f in (cc))
    by false e true f = absurd (let g : true ≡ false = sym (eq-eqb k n (sym (eqb-true n k f))) ∙ e in (cc))

-- a page more is pinned
pub pins_more : (pins pins' : List ℕ) (n : ℕ) → pins' ≡ cond (list_any (nat_eq n) pins) pins (pins ++ n ∷ []) → (k : ℕ) → list_any (nat_eq k) pins' ≡ (nat_eq n k || list_any (nat_eq k) pins)
pins_more pins pins' n is k = ap (list_any (nat_eq k)) is ∙ by (list_any (nat_eq n) pins) refl ∙ or_turn (list_any (nat_eq k) pins) (nat_eq k n) ∙ ap (λ (b : Bool). b || list_any (nat_eq k) pins) (eq_turn n k)
  where
    by : (b : Bool) → list_any (nat_eq n) pins ≡ b → list_any (nat_eq k) (cond b pins (pins ++ n ∷ [])) ≡ (list_any (nat_eq k) pins || nat_eq k n)
    by false t = list_any-append (nat_eq k) (pins) (n ∷ []) ∙ ap (λ (b : Bool). list_any (nat_eq k) pins || b) (or_false (nat_eq k n))
    by true t = elim (cases_Bool (nat_eq k n)) [
      | inl same ↦ let all : list_any (nat_eq k) pins ≡ true = ap (λ (i : ℕ). list_any (nat_eq i) pins) (eqb-true k n same) ∙ t in all ∙ sym (ap (λ (b : Bool). b || nat_eq k n) all)
      | inr other ↦ sym (ap (λ (b : Bool). list_any (nat_eq k) pins || b) other ∙ or_false (list_any (nat_eq k) pins))
    ]

-- the records that touch a page
abbrev touched_by : List Record → Option Spot → Bool
touched_by rs spot = option_map_or (λ s. touches s.name s.part s.page rs) spot false

pub edits_touch : (groups : List Logged) (rs : List Record) (o : Option Spot) → is_some_edit (edits_of groups (length groups) rs o) ≡ touched_by rs o
edits_touch groups rs None = refl
edits_touch groups rs (Some sp) = ap (λ (b : Bool). is_some_edit (cond b [] (edits_on sp.name sp.part sp.page rs))) (lt_false (length groups) (base_of sp.name groups) (omega arith))

some_behind : (es fs : List Edit) → is_some_edit fs ≡ true → is_some_edit (es ++ fs) ≡ true
some_behind [] fs some = some
some_behind (e ∷ es) fs some = refl

-- one of a slot's files has other numbers of pages
slot_set : (store : PageStore) (c : Folder) (groups : List Logged) (n : ℕ) (slot : Slot) (p : Part) (pages : FilePages) → IsTrue (is_some (tables_of c groups slot.name)) → known store slot.name ≡ Some (Some n)
    → OnDisk store c groups slot.name p pages → ((q : Part) → same_part p q ≡ false → OnDisk store c groups slot.name q (pages_in slot q)) → IsSlot store c groups n (with_pages p pages slot)
slot_set store c groups n slot Keys pages table knows disk others = record { table = table; files = files; known = knows }
  where
    files : (q : Part) → OnDisk store c groups slot.name q (pages_in (with_pages Keys pages slot) q)
    files Keys = disk
    files Rows = others Rows refl
slot_set store c groups n slot Rows pages table knows disk others = record { table = table; files = files; known = knows }
  where
    files : (q : Part) → OnDisk store c groups slot.name q (pages_in (with_pages Rows pages slot) q)
    files Keys = others Keys refl
    files Rows = disk

module _ (store : PageStore) (frames' : Frames) (writer' : GroupWriter) (made' : ℕ) (s : State) (base : ℕ) (start : Folder) (groups : List Logged) (forced key : ℕ) (h : Held) (at : PageId) (slot : Slot) (kind : RedoKind) (es : List Edit) where
  abbrev spot : Spot
  spot = record { name = slot.name; part = at.part; page = at.page }

  abbrev entry : Record
  entry = Redo kind slot.name at.part at.page es

  abbrev rs : List Record
  rs = records_of store.writer

  abbrev pages : FilePages
  pages = record { written = (pages_in slot at.part).written; pages = max (pages_in slot at.part).pages (at.page + 1) }

  abbrev now : PageStore
  now = with_group store frames' writer' made' (set_at store.slots (key / 2 ^ 32) (with_pages at.part pages slot))

  pub record Edits : Type 0 where
    pub is : IsPager store s base start groups forced
    pub here : Here store key at slot
    pub there : held store.frames key ≡ Some h
    pub some : is_some_edit es ≡ true
    pub low : at.page < 2 ^ 31
    pub map : held frames' ≡ update nat_eq (held store.frames) key (option_map (edited_held es) (held store.frames key))
    pub pins : (k : ℕ) → is_pinned frames' k ≡ (nat_eq key k || is_pinned store.frames k)
    pub told : records_of writer' ≡ rs ++ entry ∷ []
    pub written : Writes writer' (records_of writer')

  opens : (e : Edits) → opened now ≡ opened store
  opens e = λ i name. set_any (stands_for name) store.slots (key / 2 ^ 32) slot (with_pages at.part pages slot) e.here.there (pages_stand at.part pages name slot) i

  names_at : (e : Edits) → name_at now ≡ name_at store
  names_at e = λ i m. set_names store.slots (key / 2 ^ 32) m slot (with_pages at.part pages slot) e.here.there (pages_named at.part pages slot) i

  spots : (e : Edits) → spot_of now ≡ spot_of store
  spots e = λ i k. spot_in k (names_at e i (k / 2 ^ 32))

  holds : (e : Edits) → HoldsPages now s.folder groups (all_of groups)
  holds e =
      subst (λ (sp : ℕ → Option Spot). FramesOver (λ k. is_some (sp k)) (held frames') (is_pinned frames') sp s.folder groups (all_of groups) (records_of writer') (next_number store) (next_number store)) (sym (spots e))
      (subst (λ (m : ℕ → Option Held). FramesOver (is_known store) m (is_pinned frames') (spot_of store) s.folder groups (all_of groups) (records_of writer') (next_number store) (next_number store)) (sym e.map)
      (subst (λ (l : List Record). FramesOver (is_known store) (update nat_eq (held store.frames) key (option_map (edited_held es) (held store.frames key))) (is_pinned frames') (spot_of store) s.folder groups (all_of groups) l (next_number store) (next_number store)) (sym e.told)
      (over_edited (is_known store) (held store.frames) (is_pinned store.frames) (spot_of store) s.folder groups (all_of groups) rs (next_number store) (next_number store) key h spot kind es (is_pinned frames')
      (keys_apart store s.folder groups e.is.slots) e.here.spot (omega arith) e.some e.there ((e.is.pages key).below h e.there) e.pins e.is.pages)))

  both_off : (a b : Bool) → (a || b) ≡ false → (a ≡ false) × (b ≡ false)
  both_off false false off = (refl, refl)
  both_off true b off = absurd (cc)
  both_off false true off = absurd (cc)

  within : (e : Edits) → AreInside now s.folder groups
  within e k sp place dirt free =
      let off = both_off (nat_eq key k) (is_pinned store.frames k) (sym (e.pins k) ∙ free) in
      e.is.inside k sp (ap (λ (f : ℕ → Option Spot). f k) (sym (spots e)) ∙ place)
      (sym (ap (λ (m : ℕ → Option Held). dirty_of (m k)) e.map ∙ ap (λ (b : Bool). dirty_of (cond b (option_map (edited_held es) (held store.frames key)) (held store.frames k))) off.0) ∙ dirt) off.1

  touched : (e : Edits) → (k : ℕ) → is_pinned frames' k ≡ is_touched now k
  touched e k = e.pins k ∙ by (nat_eq key k) refl ∙ sym (ap (λ (f : ℕ → Option Spot). touched_by (records_of writer') (f k)) (spots e) ∙ ap (λ (l : List Record). touched_by l (spot_of store k)) e.told)
    where
      by : (b : Bool) → nat_eq key k ≡ b → (nat_eq key k || is_pinned store.frames k) ≡ touched_by (rs ++ entry ∷ []) (spot_of store k)
      by true same = ap (λ (b : Bool). b || is_pinned store.frames k) same
          ∙ sym (ap (λ (j : ℕ). touched_by (rs ++ entry ∷ []) (spot_of store j)) (sym (eqb-true key k same))
          ∙ sym (edits_touch groups (rs ++ entry ∷ []) (spot_of store key))
          ∙ ap (λ (o : Option Spot). is_some_edit (edits_of groups (length groups) (rs ++ entry ∷ []) o)) e.here.spot
          ∙ ap is_some_edit (edits_more groups (length groups) rs spot kind es (omega arith))
          ∙ some_behind (edits_of groups (length groups) rs (Some spot)) es e.some)
      by false off = ap (λ (b : Bool). b || is_pinned store.frames k) off ∙ e.is.pinned k
          ∙ sym (edits_touch groups rs (spot_of store k))
          ∙ ap is_some_edit (sym (edits_apart groups (length groups) rs spot kind es (spot_of store) key (keys_apart store s.folder groups e.is.slots) e.here.spot k off))
          ∙ edits_touch groups (rs ++ entry ∷ []) (spot_of store k)

  -- a file that isn't edited
  disk_else : (e : Edits) (other : List ℕ) (q : Part) (p : FilePages) → (same_name other slot.name && same_part q at.part) ≡ false → OnDisk store s.folder groups other q p → OnDisk now s.folder groups other q p
  disk_else e other q p off d = record {
    content = d.content;
    there = d.there;
    written = d.written;
    counts = d.counts ∙ ap (max (max p.written (reach other q (life_of other groups).since))) (sym (ap (reach_on other q) e.told ∙ reach_else kind slot.name other at.part q at.page es rs off));
    few = d.few;
  }

  disk_here : (e : Edits) → OnDisk store s.folder groups slot.name at.part (pages_in slot at.part) → OnDisk now s.folder groups slot.name at.part pages
  disk_here e d = record {
    content = d.content;
    there = d.there;
    written = d.written;
    counts = more (pages_in slot at.part).pages (max (pages_in slot at.part).written (reach slot.name at.part (life_of slot.name groups).since)) (reach_on slot.name at.part rs) (reach_on slot.name at.part (records_of writer')) d.counts
        (ap (reach_on slot.name at.part) e.told ∙ reach_here kind slot.name at.part at.page es rs);
    few = small (pages_in slot at.part).pages d.few e.low;
  }
    where
      more : (all w ro ro' : ℕ) → all ≡ max w ro → ro' ≡ max ro (at.page + 1) → max all (at.page + 1) ≡ max w ro'
      more all w ro ro' is push = omega (arith, is, push)

      small : (all : ℕ) → all ≤ 2 ^ 31 → at.page < 2 ^ 31 → max all (at.page + 1) ≤ 2 ^ 31
      small all few low = omega (arith, few, low)

  slots : (e : Edits) → AreSlots now s.folder groups
  slots e m other place used = by (nat_eq (key / 2 ^ 32) m) refl
    where
      was : IsSlot store s.folder groups (key / 2 ^ 32) slot
      was = e.is.slots (key / 2 ^ 32) slot e.here.there e.here.used

      this : IsSlot now s.folder groups (key / 2 ^ 32) (with_pages at.part pages slot)
      this = slot_set now s.folder groups (key / 2 ^ 32) slot at.part pages was.table was.known (disk_here e (was.files at.part))
          (λ q off. disk_else e slot.name q (pages_in slot q) (ap (λ (b : Bool). same_name slot.name slot.name && b) (part_other at.part q off) ∙ and_false (same_name slot.name slot.name)) (was.files q))
        where
          and_false : (b : Bool) → (b && false) ≡ false
          and_false true = refl
          and_false false = refl

      by : (b : Bool) → nat_eq (key / 2 ^ 32) m ≡ b → IsSlot now s.folder groups m other
      by true same =
          let n : key / 2 ^ 32 ≡ m = eqb-true (key / 2 ^ 32) m same in
          let o : with_pages at.part pages slot ≡ other = some_slot (with_pages at.part pages slot) other (sym (set_here store.slots (key / 2 ^ 32) slot (with_pages at.part pages slot) e.here.there) ∙ ap (slice_get now.slots) n ∙ place) in
          subst (λ (k : ℕ). IsSlot now s.folder groups k other) n (subst (IsSlot now s.folder groups (key / 2 ^ 32)) o this)
      by false off = record { table = old.table; files = λ q. disk_else e other.name q (pages_in other q) (apart q (same_name other.name slot.name) refl) (old.files q); known = old.known }
        where
          there : slice_get store.slots m ≡ Some other
          there = sym (set_other store.slots (key / 2 ^ 32) m (with_pages at.part pages slot) off) ∙ place

          old : IsSlot store s.folder groups m other
          old = e.is.slots m other there used

          apart : (q : Part) (b : Bool) → same_name other.name slot.name ≡ b → (same_name other.name slot.name && same_part q at.part) ≡ false
          apart q false no_name = ap (λ (b : Bool). b && same_part q at.part) no_name
          apart q true one = absurd (
              let n : key / 2 ^ 32 ≡ m = slot_one store s.folder groups (key / 2 ^ 32) m slot other e.is.slots e.here.there e.here.used there used (sym ((bytes_decides other.name slot.name).0 one)) in
              let f : true ≡ false = sym (eq-eqb (key / 2 ^ 32) m n) ∙ off in (cc))

  -- the pages of the open group are those of used slots
  own : (e : Edits) → AreOwn now
  own e name part n on = elim (cases_Bool (touches name part n rs)) [
    | inl was ↦ let k = e.is.own name part n was in (k.0, ap (λ (f : ℕ → Option Spot). f k.0) (spots e) ∙ k.1)
    | inr off ↦
        let this : is_some_edit (edits_at n (edits_in name part entry)) ≡ true = behind_some (edits_on name part n rs) (edits_at n (edits_in name part entry)) off (sym (ap is_some_edit (ap (edits_on name part n) e.told ∙ edits_push name part n rs entry)) ∙ on) in
        (key, ap (λ (f : ℕ → Option Spot). f key) (spots e) ∙ e.here.spot ∙ ap Some (by (same_name name slot.name) refl (same_part part at.part) refl this))
  ]
    where
      behind_some : (es fs : List Edit) → is_some_edit es ≡ false → is_some_edit (es ++ fs) ≡ true → is_some_edit fs ≡ true
      behind_some [] fs none some = some
      behind_some (e ∷ es) fs none some = absurd (cc)

      by : (a : Bool) → same_name name slot.name ≡ a → (b : Bool) → same_part part at.part ≡ b → is_some_edit (edits_at n (edits_in name part entry)) ≡ true → spot ≡ record { name = name; part = part; page = n }
      by false a b p some = absurd (let f : true ≡ false = sym some ∙ ap (λ (c : Bool). is_some_edit (edits_at n (cond (c && same_part part at.part) (Some (at.page, es)) None))) a in (cc))
      by true a false p some = absurd (let f : true ≡ false = sym some ∙ ap (λ (c : Bool). is_some_edit (edits_at n (cond (c && same_part part at.part) (Some (at.page, es)) None))) a ∙ ap (λ (c : Bool). is_some_edit (edits_at n (cond c (Some (at.page, es)) None))) p in (cc))
      by true a true p some = page (nat_eq n at.page) refl
        where
          seen : true ≡ is_some_edit (cond (nat_eq n at.page) es [])
          seen = sym some ∙ ap (λ (c : Bool). is_some_edit (edits_at n (cond (c && same_part part at.part) (Some (at.page, es)) None))) a ∙ ap (λ (c : Bool). is_some_edit (edits_at n (cond c (Some (at.page, es)) None))) p

          page : (c : Bool) → nat_eq n at.page ≡ c → spot ≡ record { name = name; part = part; page = n }
          page false c = absurd (let f : true ≡ false = seen ∙ ap (λ (c : Bool). is_some_edit (cond c es [])) c in (cc))
          page true c = λ i. record { name = sym ((bytes_decides name slot.name).0 a) i; part = sym (part_is part at.part p) i; page = sym (eqb-true n at.page c) i }

  -- a table without a slot isn't edited
  named : (e : Edits) → AreNamed now
  named e name part off = ap (reach_on name part) e.told ∙ reach_else kind slot.name name at.part part at.page es rs (apart (same_name name slot.name) refl) ∙ e.is.named name part closed
    where
      closed : opened store name ≡ false
      closed = sym (ap (λ (f : List ℕ → Bool). f name) (opens e)) ∙ off

      apart : (b : Bool) → same_name name slot.name ≡ b → (same_name name slot.name && same_part part at.part) ≡ false
      apart false other = ap (λ (b : Bool). b && same_part part at.part) other
      apart true one = absurd (
          let on : opened store name ≡ true = subst (λ (n : List ℕ). opened store n ≡ true) (sym ((bytes_decides name slot.name).0 one)) (slot_open store (key / 2 ^ 32) slot e.here.there e.here.used) in
          let f : true ≡ false = sym on ∙ closed in (cc))

  -- A PAGE WAS EDITED
  pub pager_edited : (e : Edits) → IsPager now s base start groups forced
  pager_edited e = record {
    log = e.is.log;
    images = subst (λ (o : List ℕ → Bool). AreImages o s groups forced) (sym (opens e)) e.is.images;
    names = e.is.names;
    control = e.is.control;
    raises = e.is.raises;
    pages = holds e;
    top = inr (λ k. refl);
    inside = within e;
    pinned = touched e;
    own = own e;
    named = named e;
    slots = slots e;
    tables = record { each = e.is.tables.each; slot = λ name m k. ap (λ (f : ℕ → Option (List ℕ)). f m) (names_at e) ∙ e.is.tables.slot name m k; silent = e.is.tables.silent };
    settled = e.is.settled;
    written = e.written;
    pending = e.is.pending;
  }

-- ---- what an edit says of the open group, and what it leaves

-- nothing was edited
pub no_adds : (a b : PageStore) (s t : State) (base : ℕ) (start : Folder) (groups : List Logged) (forced : ℕ) (entry : Record) (c : PageStore) (done done' : Bool) → done' ≡ false → Steps a b s t base start groups forced done
    → Adds a c s t base start groups forced entry done'
no_adds a b s t base start groups forced entry c done done' off first = record {
  forced' = first.forced';
  moves = first.moves;
  fronts = first.fronts;
  entries = λ on. absurd (let e : true ≡ false = sym on ∙ off in (cc));
  pager = λ on. absurd (let e : true ≡ false = sym on ∙ off in (cc));
}

-- an entry more
pub adds_step : (a b c : PageStore) (s t : State) (base : ℕ) (start : Folder) (groups : List Logged) (forced : ℕ) (entry : Record) → (first : Steps a b s t base start groups forced true) → b.writer ≡ a.writer
    → records_of c.writer ≡ records_of b.writer ++ entry ∷ [] → (IsPager b t base start groups first.forced' → IsPager c t base start groups first.forced') → Adds a c s t base start groups forced entry true
adds_step a b c s t base start groups forced entry first writer told pager = record {
  forced' = first.forced';
  moves = first.moves;
  fronts = first.fronts;
  entries = λ on. told ∙ ap (λ (w : GroupWriter). records_of w ++ entry ∷ []) writer;
  pager = λ on. pager (first.pager refl);
}

pub the_held : (o : Option Held) → IsTrue (is_some o) → (h : Held) × (o ≡ Some h)
the_held None on = absurd (cc)
the_held (Some h) on = (h, refl)

pub the_slot : (o : Option Slot) → IsTrue (is_some o) → (slot : Slot) × (o ≡ Some slot)
the_slot None on = absurd (cc)
the_slot (Some slot) on = (slot, refl)

pub same_tables : (a b : PageStore) → SameWork a b → SameTables a b
same_tables a b is = record { slots = is.slots; opens = is.opens; tables = is.tables; pending = is.pending; started = is.started; in_group = is.in_group; lent = is.lent; kept = is.kept }

-- frames, slots and the open group changed
tables_with : (a b c : PageStore) (frames : Frames) (writer : GroupWriter) (made : ℕ) (slots : List Slot) → SameWork a b → c ≡ with_group b frames writer made slots → name_at c ≡ name_at b → opened c ≡ opened b → SameTables a c
tables_with a b c frames writer made slots first rest names opens = record {
  slots = names ∙ first.slots;
  opens = opens ∙ first.opens;
  tables = ap (λ (v : PageStore). v.tables) rest ∙ first.tables;
  pending = ap (λ (v : PageStore). v.pending) rest ∙ first.pending;
  started = ap (λ (v : PageStore). v.started) rest ∙ first.started;
  in_group = ap (λ (v : PageStore). v.in_group) rest ∙ first.in_group;
  lent = ap (λ (v : PageStore). v.lent) rest ∙ first.lent;
  kept = ap (λ (v : PageStore). v.kept) rest ∙ first.kept;
}

pub tables_edited : (a b c : PageStore) (n : ℕ) (slot : Slot) (part : Part) (pages : FilePages) → SameWork a b → c ≡ with_group b c.frames c.writer c.made c.slots → slice_get b.slots n ≡ Some slot → c.slots ≡ set_at b.slots n (with_pages part pages slot)
    → SameTables a c
tables_edited a b c n slot part pages first rest here is = tables_with a b c c.frames c.writer c.made c.slots first rest
    ((λ i m. option_and_then name_in (slice_get (is i) m)) ∙ (λ i m. set_names b.slots n m slot (with_pages part pages slot) here (pages_named part pages slot) i))
    ((λ i name. list_any (stands_for name) (is i)) ∙ (λ i name. set_any (stands_for name) b.slots n slot (with_pages part pages slot) here (pages_stand part pages name slot) i))

pub tables_failed : (a b c : PageStore) → SameWork a b → c ≡ with_group b c.frames c.writer c.made c.slots → c.slots ≡ b.slots → SameTables a c
tables_failed a b c first rest is = tables_with a b c c.frames c.writer c.made c.slots first rest (λ i m. option_and_then name_in (slice_get (is i) m)) (λ i name. list_any (stands_for name) (is i))

pages_grown : (part : Part) (n : ℕ) (slot : Slot) → sizes_in (with_pages part (record { written = (pages_in slot part).written; pages = max (pages_in slot part).pages n }) slot) ≡ grown part n (sizes_in slot)
pages_grown Keys n slot = refl
pages_grown Rows n slot = refl

-- the sizes after an edit
pub sizes_edited : (a b c : PageStore) (at : PageId) (slot : Slot) → sizes_at b ≡ sizes_at a → slice_get b.slots at.slot ≡ Some slot
    → c.slots ≡ set_at b.slots at.slot (with_pages at.part (record { written = (pages_in slot at.part).written; pages = max (pages_in slot at.part).pages (at.page + 1) }) slot) → sizes_at c ≡ sizes_after at (sizes_at a)
sizes_edited a b c at slot first here is = (λ i m. option_map sizes_in (slice_get (is i) m)) ∙ (λ i m. set m i) ∙ ap (sizes_after at) first
  where
    next : Slot
    next = with_pages at.part (record { written = (pages_in slot at.part).written; pages = max (pages_in slot at.part).pages (at.page + 1) }) slot

    set : (m : ℕ) → option_map sizes_in (slice_get (set_at b.slots at.slot next) m) ≡ sizes_after at (sizes_at b) m
    set m = by (nat_eq at.slot m) refl
      where
        by : (t : Bool) → nat_eq at.slot m ≡ t → option_map sizes_in (slice_get (set_at b.slots at.slot next) m) ≡ cond (nat_eq at.slot m) (option_map (grown at.part (at.page + 1)) (sizes_at b m)) (sizes_at b m)
        by true same =
            let e : at.slot ≡ m = eqb-true at.slot m same in
            ap (λ (k : ℕ). option_map sizes_in (slice_get (set_at b.slots at.slot next) k)) (sym e) ∙ ap (option_map sizes_in) (set_here b.slots at.slot slot next here) ∙ ap Some (pages_grown at.part (at.page + 1) slot)
            ∙ sym (ap (λ (t : Bool). cond t (option_map (grown at.part (at.page + 1)) (sizes_at b m)) (sizes_at b m)) same ∙ ap (λ (k : ℕ). option_map (grown at.part (at.page + 1)) (sizes_at b k)) (sym e)
            ∙ ap (λ (o : Option Slot). option_map (grown at.part (at.page + 1)) (option_map sizes_in o)) here)
        by false off = ap (option_map sizes_in) (set_other b.slots at.slot m next off) ∙ sym (ap (λ (t : Bool). cond t (option_map (grown at.part (at.page + 1)) (sizes_at b m)) (sizes_at b m)) off)

pub some_edits : (es : List Edit) → 1 ≤ length es → is_some_edit es ≡ true
some_edits [] few = absurd (let e : 1 ≤ 0 = few in omega (arith, e))
some_edits (e ∷ es) few = refl

some_name : (a b : List ℕ) → Some a ≡ Some b → a ≡ b
some_name a b e = cc

-- the name of a slot
pub named_slot : (store : PageStore) (n : ℕ) (slot : Slot) (name : List ℕ) → slice_get store.slots n ≡ Some slot → name_at store n ≡ Some name → slot.name ≡ name
named_slot store n slot name here named = by slot.used (sym (ap (option_and_then name_in) here) ∙ named)
  where
    by : (b : Bool) → cond b (Some slot.name) None ≡ Some name → slot.name ≡ name
    by true e = some_name slot.name name e
    by false e = absurd (cc)

pub sizes_failed : (a b c : PageStore) → sizes_at b ≡ sizes_at a → c.slots ≡ b.slots → sizes_at c ≡ sizes_at a
sizes_failed a b c first is = (λ i m. option_map sizes_in (slice_get (is i) m)) ∙ first

pub on_err : {T E P : Type 0} (r : Result T E) → P → OnErr r P
on_err (Ok x) is = search rules
on_err (Err e) is = is
