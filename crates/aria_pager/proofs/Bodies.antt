-- What contracts say of the bodies of pages.
use Rattle.std.proofs.Common.{◌≡◌, ◌∙◌, ℕ, ◌/◌, ◌%◌, ◌^◌, ◌<◌, ◌≤◌, Bool, true, false, cond, nat_lt, List, [], ◌∷◌, length, ap, sym, refl, subst, arith, Option, None, Some, inr}
use Rattle.std.specs.Prelude.{slice_get}
use Rattle.std.specs.Option.{option_map, option_map_or, option_and_then}
use Rattle.std.proofs.lemmas.Bool.Decides.{nat_tests}
use Rattle.aria_page.specs.declared.edit.Edit.{Edit}
use Rattle.aria_page.specs.Edit.{all_edited}
use Rattle.aria_page.specs.Page.{zero_page, page_body}
use Rattle.aria_page.specs.declared.place.Part.{Part}
use Rattle.aria_page.specs.declared.place.Part.TheVariants as parts
use Rattle.aria_host.specs.declared.file_name.FileName.{FileName}
use Rattle.aria_host.specs.declared.file_name.FileName.TheVariants.{Keys, Rows}
use Rattle.aria_host.specs.Folder.{Folder}
use Rattle.aria_host.specs.Seen.{page_or_zero}
use Rattle.aria_host.specs.State.{State}
use Rattle.aria_record.specs.declared.group_writer.GroupWriter.{GroupWriter}
use Rattle.aria_record.specs.Logged.{Logged}
use Rattle.aria_record.specs.Writing.{records_of}
use Rattle.aria_cache.specs.declared.page_id.PageId.{PageId}
use Rattle.aria_cache.specs.Frames.{Held, held, is_pinned}
use Rattle.aria_cache.specs.Key.{key_of}
use Rattle.aria_recovery.specs.Redo.{Seen, body_of, seen, edits_on, is_some_edit, is_before, topped, redo}
use Rattle.aria_recovery.specs.Tables.{Table, life_of, tables_of, body_in, page_in}
use Rattle.aria_recovery.specs.Images.{page_of}
use Rattle.aria_recovery.specs.Frames.{Spot, as_seen, raw_at, redone_at, edits_of, base_of, dirty_of, PageOn, all_of}
use Rattle.aria_recovery.proofs.Holding.{topped_same}
use Rattle.aria_recovery.proofs.Behind.{redone_all}
use Rattle.aria_recovery.proofs.Comparing.{lt_true, lt_false}
use Rattle.aria_recovery.proofs.Writing.{page_is}
use Rattle.aria_pager.specs.declared.page_store.PageStore.{PageStore}
use Rattle.aria_pager.specs.declared.slot.Slot.{Slot}
use Rattle.aria_pager.specs.PageStore.{name_in, name_at, sizes_at, part_of_key, spot_of, raw}
use Rattle.aria_pager.specs.Pager.{IsPager, next_number}
use Rattle.aria_pager.specs.Steps.{SameWork}
use Rattle.aria_pager.specs.View.{slot_of, size_in, count_at, frame_at, body_or, whole_body, body_at, page_bodies, IsTidy}
use Rattle.aria_pager.proofs.Slots.{key_parts, slot_open}
use Rattle.aria_pager.proofs.Stepping.{edits_all}
use Rattle.aria_pager.proofs.Viewing.{slot_named, slot_same, tidy_same}

-- ---- one page

made_held : (at : ℕ) (es : List Edit) (m : ℕ × List ℕ) (h : Held) → nat_lt m.0 at ≡ true → topped at es (Some m) ≡ Some (as_seen h) → Some h.body ≡ Some (all_edited es m.1)
made_held at es m h low is = ap body_of (sym is ∙ ap (λ (b : Bool). Some (cond b (m.0, all_edited es m.1) m)) low)

-- THE BODY OF A PAGE, as it is held or as its file has it, is that which groups make, with the open group's edits on top.
pub page_body_is : (known : Bool) (frame : Option Held) (pin : Bool) (raw made : Seen) (edits : List Edit) (at next : ℕ) → pin ≡ is_some_edit edits → PageOn known frame pin raw made edits at next
    → body_or raw frame ≡ option_map (all_edited edits) (body_of made)
page_body_is known frame pin raw made [] at next pins is = by frame refl ∙ plain made
  where
    plain : (x : Seen) → body_of x ≡ option_map (all_edited []) (body_of x)
    plain None = refl
    plain (Some s) = refl

    by : (o : Option Held) → frame ≡ o → body_or raw o ≡ body_of made
    by None none = sym (ap body_of (is.clean (ap dirty_of none)))
    by (Some h) there = ap body_of (sym (sym (topped_same at [] made refl) ∙ is.held h there))
page_body_is known frame pin raw made (e ∷ es) at next pins is = by frame refl made refl
  where
    by : (o : Option Held) → frame ≡ o → (x : Seen) → made ≡ x → body_or raw o ≡ option_map (all_edited (e ∷ es)) (body_of x)
    by None none x made_is = absurd (let f : false ≡ true = ap dirty_of (sym none) ∙ is.on_top pins in (cc))
    by (Some h) there None made_is = absurd (let f : true ≡ false = sym pins ∙ is.pinned ∙ ap (is_before at) made_is in (cc))
    by (Some h) there (Some m) made_is = made_held at (e ∷ es) m h (sym (ap (is_before at) made_is) ∙ sym is.pinned ∙ pins) (ap (topped at (e ∷ es)) (sym made_is) ∙ is.held h there)

-- ---- the pages of a slot

-- a slot that stands for a table
pub record Open (store : PageStore) (n : ℕ) (name : List ℕ) : Type 0 where
  pub slot : Slot
  pub there : slice_get store.slots n ≡ Some slot
  pub used : slot.used ≡ true
  pub named : slot.name ≡ name

pub open_at : (store : PageStore) (n : ℕ) (name : List ℕ) → name_at store n ≡ Some name → Open store n name
open_at store n name is = by (slice_get store.slots n) refl is
  where
    by : (o : Option Slot) → slice_get store.slots n ≡ o → option_and_then name_in o ≡ Some name → Open store n name
    by None none e = absurd (cc)
    by (Some slot) there e = on slot.used refl e
      where
        some : (a b : List ℕ) → Some a ≡ Some b → a ≡ b
        some a b e = cc

        on : (b : Bool) → slot.used ≡ b → cond b (Some slot.name) None ≡ Some name → Open store n name
        on false off f = absurd (cc)
        on true used f = record { slot = slot; there = there; used = used; named = some slot.name name f }

-- the place of a page's number
pub spot_open : (store : PageStore) (n : ℕ) (name : List ℕ) (part : Part) (page : ℕ) → name_at store n ≡ Some name → page < 2 ^ 31
    → spot_of store (key_of (record { slot = n; part = part; page = page })) ≡ Some (record { name = name; part = part; page = page })
spot_open store n name part page is low =
    ap (λ (k : ℕ). option_map spot (name_at store k)) p.0 ∙ ap (option_map spot) is ∙ (λ i. Some (record { name = name; part = p.1 i; page = p.2 i }))
  where
    at : PageId
    at = record { slot = n; part = part; page = page }

    spot : List ℕ → Spot
    spot name = record { name = name; part = part_of_key (key_of at); page = key_of at % 2 ^ 31 }

    p : (key_of at / 2 ^ 32 ≡ n) × (part_of_key (key_of at) ≡ part) × (key_of at % 2 ^ 31 ≡ page)
    p = key_parts at low

module _ (store : PageStore) (s : State) (base : ℕ) (start : Folder) (groups : List Logged) (forced : ℕ) (now : s.may_leave s.folder) (is : IsPager store s base start groups forced) where
  key_body : (key : ℕ) → body_or (raw store s.folder key) (held store.frames key) ≡ option_map (all_edited (edits_of groups (length groups) (records_of store.writer) (spot_of store key))) (body_of (redone_at groups (length groups) (spot_of store key) (raw store s.folder key)))
  key_body key = page_body_is _ (held store.frames key) (is_pinned store.frames key) (raw store s.folder key) (redone_at groups (length groups) (spot_of store key) (raw store s.folder key))
      (edits_of groups (length groups) (records_of store.writer) (spot_of store key)) (next_number store) (next_number store) (is.pinned key ∙ sym (edits_all groups (all_of groups) store key (inr (λ k. refl)))) (is.pages key)

  spot_body : (key : ℕ) (sp : Spot) → spot_of store key ≡ Some sp
      → body_or (page_of s.folder sp.name sp.part sp.page) (held store.frames key) ≡ option_map (all_edited (edits_on sp.name sp.part sp.page (records_of store.writer))) (body_of (redo sp.name sp.part sp.page (life_of sp.name groups).since (page_of s.folder sp.name sp.part sp.page)))
  spot_body key sp at =
      ap (λ (o : Option Spot). body_or (raw_at s.folder o) (held store.frames key)) (sym at)
      ∙ key_body key
      ∙ ap (λ (o : Option Spot). option_map (all_edited (edits_of groups (length groups) (records_of store.writer) o)) (body_of (redone_at groups (length groups) o (raw_at s.folder o)))) at
      ∙ ap (λ (b : Bool). option_map (all_edited (cond b [] (edits_on sp.name sp.part sp.page (records_of store.writer)))) (body_of (redone_at groups (length groups) (Some sp) (page_of s.folder sp.name sp.part sp.page)))) (lt_false (length groups) (base_of sp.name groups) (omega arith))
      ∙ ap (λ (x : Seen). option_map (all_edited (edits_on sp.name sp.part sp.page (records_of store.writer))) (body_of x)) (redone_all groups sp (page_of s.folder sp.name sp.part sp.page))

  -- a page of a table, as the groups make it
  pub table_page : (n : ℕ) (name : List ℕ) (part : Part) (page : ℕ) → name_at store n ≡ Some name → page_in (tables_of s.folder groups name) part page ≡ redo name part page (life_of name groups).since (page_of s.folder name part page)
  table_page n name part page named = subst (λ (m : List ℕ). page_in (tables_of s.folder groups m) part page ≡ redo m part page (life_of m groups).since (page_of s.folder m part page)) o.named by
    where
      o : Open store n name
      o = open_at store n name named

      by : page_in (tables_of s.folder groups o.slot.name) part page ≡ redo o.slot.name part page (life_of o.slot.name groups).since (page_of s.folder o.slot.name part page)
      by =
          let disk = (is.slots n o.slot o.there o.used).files part in
          page_is o.slot.name groups part s.folder disk.content disk.there ((is.images s.folder now).current o.slot.name (slot_open store n o.slot o.there o.used)) page
          ∙ ap (λ (c : Option (List (List ℕ))). redo o.slot.name part page (life_of o.slot.name groups).since (seen (page_or_zero page c))) (sym disk.there)

  -- THE BODIES ARE those of the tables, with the open group's edits on top.
  pub bodies_are : (n : ℕ) (name : List ℕ) (part : Part) (page : ℕ) → name_at store n ≡ Some name → page < 2 ^ 31
      → body_or (page_of s.folder name part page) (frame_at store n part page) ≡ option_map (all_edited (edits_on name part page (records_of store.writer))) (body_in (tables_of s.folder groups name) part page)
  bodies_are n name part page named low =
      ap (λ (b : Bool). body_or (page_of s.folder name part page) (cond b (held store.frames (key_of (record { slot = n; part = part; page = page }))) None)) (lt_true page (2 ^ 31) low)
      ∙ spot_body (key_of (record { slot = n; part = part; page = page })) (record { name = name; part = part; page = page }) (spot_open store n name part page named low)
      ∙ ap (λ (x : Seen). option_map (all_edited (edits_on name part page (records_of store.writer))) (body_of x)) (sym (table_page n name part page named))

-- ---- what stays

-- the pages below a slot's count have low numbers
pub count_low : (store : PageStore) (part : Part) (n : ℕ) → IsTidy store → count_at store part (Some n) ≤ 2 ^ 31
count_low store part n tidy = by (sizes_at store n) refl
  where
    by : (o : Option (ℕ × ℕ)) → sizes_at store n ≡ o → option_map_or (size_in part) o 0 ≤ 2 ^ 31
    by None none = omega arith
    by (Some sizes) is = tidy.few n part sizes is

below : (a b : ℕ) → nat_lt a b ≡ true → a < b
below a b low = grind (arith, nat_tests)

module _ (store store' : PageStore) (s t : State) (base : ℕ) (start : Folder) (groups : List Logged) (forced forced' : ℕ) (tidy : IsTidy store) (same : SameWork store store') (now : s.may_leave s.folder) (now' : t.may_leave t.folder) (is : IsPager store s base start groups forced) (is' : IsPager store' t base start groups forced') (tables : (name : List ℕ) → tables_of t.folder groups name ≡ tables_of s.folder groups name) where
  body_keeps : (n : ℕ) (name : List ℕ) (part : Part) (page : ℕ) → name_at store n ≡ Some name → page < 2 ^ 31
      → body_or (page_of t.folder name part page) (frame_at store' n part page) ≡ body_or (page_of s.folder name part page) (frame_at store n part page)
  body_keeps n name part page named low =
      bodies_are store' t base start groups forced' now' is' n name part page (ap (λ (f : ℕ → Option (List ℕ)). f n) same.slots ∙ named) low
      ∙ ap (λ (w : GroupWriter). option_map (all_edited (edits_on name part page (records_of w))) (body_in (tables_of t.folder groups name) part page)) same.writer
      ∙ ap (λ (o : Option Table). option_map (all_edited (edits_on name part page (records_of store.writer))) (body_in o part page)) (tables name)
      ∙ sym (bodies_are store s base start groups forced now is n name part page named low)

  at_slot : (name : List ℕ) (part : Part) (page : ℕ) (o : Option ℕ) → slot_of store name ≡ o → body_at store' t.folder name part page o ≡ body_at store s.folder name part page o
  at_slot name part page None none = refl
  at_slot name part page (Some n) found =
      ap (λ (f : ℕ → Option (ℕ × ℕ)). cond (nat_lt page (option_map_or (size_in part) (f n) 0)) (whole_body (body_or (page_of t.folder name part page) (frame_at store' n part page))) (Some (page_body zero_page))) same.sizes
      ∙ by (nat_lt page (count_at store part (Some n))) refl
    where
      by : (b : Bool) → nat_lt page (count_at store part (Some n)) ≡ b
          → cond b (whole_body (body_or (page_of t.folder name part page) (frame_at store' n part page))) (Some (page_body zero_page)) ≡ cond b (whole_body (body_or (page_of s.folder name part page) (frame_at store n part page))) (Some (page_body zero_page))
      by false off = refl
      by true on = ap whole_body (body_keeps n name part page (slot_named store name n found) (omega (arith, below page (count_at store part (Some n)) on, count_low store part n tidy)))

  -- A STEP LEAVES ALL BODIES, whatever it evicts.
  pub steps_bodies : page_bodies store' t.folder ≡ page_bodies store s.folder
  steps_bodies = λ i f n. by f n i
    where
      at : (name : List ℕ) (part : Part) (page : ℕ) → body_at store' t.folder name part page (slot_of store' name) ≡ body_at store s.folder name part page (slot_of store name)
      at name part page = ap (body_at store' t.folder name part page) (slot_same store store' name tidy (tidy_same store store' same tidy) same.slots) ∙ at_slot name part page (slot_of store name) refl

      by : (f : FileName) (n : ℕ) → page_bodies store' t.folder f n ≡ page_bodies store s.folder f n
      by (Keys name) n = at name parts.Keys n
      by (Rows name) n = at name parts.Rows n
      by _ n = refl
