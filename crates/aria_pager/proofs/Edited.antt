-- What callers see of pages behind an edit.
use Rattle.std.proofs.Common.{◌≡◌, ◌∙◌, ◌==◌, ◌&&◌, ℕ, ◌+◌, ◌/◌, ◌%◌, ◌^◌, ◌<◌, ◌≤◌, max, Bool, true, false, not, cond, nat_eq, nat_lt, List, [], ◌∷◌, ◌++◌, length, ap, sym, refl, subst, arith, Option, None, Some}
use Rattle.std.specs.Prelude.{is_some}
use Rattle.std.specs.Option.{option_map, option_map_or}
use Rattle.std.specs.Map.{update}
use Rattle.std.proofs.lemmas.Bool.{eqb-true, eq-eqb}
use Rattle.std.proofs.lemmas.Bool.Decides.{nat_tests}
use Rattle.aria_page.specs.declared.edit.Edit.{Edit}
use Rattle.aria_page.specs.Edit.{all_edited}
use Rattle.aria_page.specs.Page.{zero_page, page_body}
use Rattle.aria_page.specs.declared.place.Part.{Part}
use Rattle.aria_page.specs.declared.place.Part.TheVariants as parts
use Rattle.aria_host.specs.declared.file_name.FileName.{FileName}
use Rattle.aria_host.specs.declared.file_name.FileName.TheVariants.{Keys, Rows, Control, Log, NewKeys, NewRows}
use Rattle.aria_host.specs.Folder.{Folder, same_file}
use Rattle.aria_host.proofs.Files.{same_file-true, same_file-refl}
use Rattle.aria_host.specs.State.{State}
use Rattle.aria_record.specs.declared.record.Record.{Record}
use Rattle.aria_record.specs.Logged.{Logged}
use Rattle.aria_record.specs.Writing.{records_of}
use Rattle.aria_cache.proofs.Blank.{length-zero_body}
use Rattle.aria_cache.specs.declared.page_id.PageId.{PageId}
use Rattle.aria_cache.specs.Frames.{Held, held, edited_held}
use Rattle.aria_cache.specs.Key.{key_of}
use Rattle.aria_cache.specs.PageState.{table_file, with_edits, with_count}
use Rattle.aria_recovery.specs.Redo.{Seen, body_of, seen, page_seen, number_at, same_part, stepped, edits_on, is_some_edit, reach, reach_on, redo}
use Rattle.aria_recovery.specs.Tables.{life_of, tables_of, body_in}
use Rattle.aria_recovery.specs.Images.{page_of}
use Rattle.aria_recovery.proofs.Comparing.{lt_true}
use Rattle.aria_recovery.proofs.Framing.{reach_touched}
use Rattle.aria_recovery.proofs.Seeing.{seen_zero}
use Rattle.aria_recovery.proofs.Stepping.{part_is}
use Rattle.aria_recovery.proofs.Writing.{page_is}
use Rattle.aria_pager.specs.declared.page_store.PageStore.{PageStore}
use Rattle.aria_pager.specs.declared.slot.Slot.{Slot}
use Rattle.aria_pager.specs.PageStore.{name_at, sizes_in, sizes_at, grown, sizes_after, part_of_key, late_seen}
use Rattle.aria_pager.specs.Pager.{IsPager, next_number, pages_in}
use Rattle.aria_pager.specs.View.{slot_of, size_in, count_at, frame_at, body_or, whole_body, body_at, late_at, page_counts, page_bodies, page_late, IsTidy}
use Rattle.aria_pager.proofs.Slots.{key_parts, slot_open}
use Rattle.aria_pager.proofs.Viewing.{slot_named, slot_found, slot_same}
use Rattle.aria_pager.proofs.Loading.{zero_past}
use Rattle.aria_pager.proofs.Bodies.{Open, open_at, bodies_are}

-- ---- pages past a file's end

none_past : (name : List ℕ) (part : Part) (n : ℕ) (rs : List Record) → reach_on name part rs ≤ n → edits_on name part n rs ≡ []
none_past name part n rs past = by (edits_on name part n rs) refl
  where
    by : (es : List Edit) → edits_on name part n rs ≡ es → es ≡ []
    by [] is = refl
    by (e ∷ es) is = absurd (let low : n < reach name part ([] ++ record { at = 0; group = rs } ∷ []) = reach_touched name part n [] [] (record { at = 0; group = rs }) (ap is_some_edit is) in omega (arith, low, past))

redo_past : (name : List ℕ) (part : Part) (n : ℕ) (gs : List Logged) (x : Seen) → reach name part gs ≤ n → redo name part n gs x ≡ x
redo_past name part n [] x past = refl
redo_past name part n (g ∷ gs) x past =
    ap (λ (es : List Edit). redo name part n gs (stepped (number_at g.at) es x)) (none_past name part n g.group (omega (arith, past))) ∙ redo_past name part n gs x (omega (arith, past))

size_part : (slot : Slot) (part : Part) → size_in part (sizes_in slot) ≡ (pages_in slot part).pages
size_part slot parts.Keys = refl
size_part slot parts.Rows = refl

-- A PAGE PAST ITS FILE'S END is zeros, held or not.
pub past_zero : (store : PageStore) (s : State) (base : ℕ) (start : Folder) (groups : List Logged) (forced : ℕ) → s.may_leave s.folder → IsPager store s base start groups forced
    → (n : ℕ) (name : List ℕ) (part : Part) (page : ℕ) → name_at store n ≡ Some name → page < 2 ^ 31 → count_at store part (Some n) ≤ page → body_or (page_of s.folder name part page) (frame_at store n part page) ≡ Some (page_body zero_page)
past_zero store s base start groups forced now is n name part page named low past =
    bodies_are store s base start groups forced now is n name part page named low
    ∙ ap (λ (es : List Edit). option_map (all_edited es) (body_in (tables_of s.folder groups name) part page)) (none_past name part page (records_of store.writer) (subst (λ (m : List ℕ). reach_on m part (records_of store.writer) ≤ page) o.named edits))
    ∙ ap (option_map (all_edited [])) made
  where
    o : Open store n name
    o = open_at store n name named

    counted : (pages_in o.slot part).pages ≤ page
    counted = subst (λ (k : ℕ). k ≤ page) (ap (λ (x : Option Slot). option_map_or (size_in part) (option_map sizes_in x) 0) o.there ∙ size_part o.slot part) past

    edits : reach_on o.slot.name part (records_of store.writer) ≤ page
    edits = let d = (is.slots n o.slot o.there o.used).files part in omega (arith, d.counts, counted)

    made : body_in (tables_of s.folder groups name) part page ≡ Some (page_body zero_page)
    made = subst (λ (m : List ℕ). body_in (tables_of s.folder groups m) part page ≡ Some (page_body zero_page)) o.named by
      where
        by : body_in (tables_of s.folder groups o.slot.name) part page ≡ Some (page_body zero_page)
        by =
            let d = (is.slots n o.slot o.there o.used).files part in
            ap body_of (page_is o.slot.name groups part s.folder d.content d.there ((is.images s.folder now).current o.slot.name (slot_open store n o.slot o.there o.used)) page
            ∙ redo_past o.slot.name part page (life_of o.slot.name groups).since (page_seen d.content page) (omega (arith, d.counts, counted))
            ∙ ap seen (zero_past page (Some d.content) (omega (arith, d.written, d.counts, counted)))
            ∙ seen_zero)

-- ---- parts and files

below : (a b : ℕ) → nat_lt a b ≡ true → a < b
below a b low = grind (arith, nat_tests)

behind : (a b : ℕ) → nat_lt a b ≡ false → b ≤ a
behind a b high = grind (arith, nat_tests)

whole : (b : List ℕ) → length b ≡ 8181 → whole_body (Some b) ≡ Some b
whole b is = ap (λ (t : Bool). cond t (Some b) None) (eq-eqb (length b) 8181 is)

zeros_whole : whole_body (Some (page_body zero_page)) ≡ Some (page_body zero_page)
zeros_whole = whole (page_body zero_page) length-zero_body

part_self : (p : Part) → same_part p p ≡ true
part_self parts.Keys = refl
part_self parts.Rows = refl

grown_here : (p : Part) (k : ℕ) (sizes : ℕ × ℕ) → size_in p (grown p k sizes) ≡ max (size_in p sizes) k
grown_here parts.Keys k sizes = refl
grown_here parts.Rows k sizes = refl

grown_else : (p q : Part) (k : ℕ) (sizes : ℕ × ℕ) → same_part q p ≡ false → size_in q (grown p k sizes) ≡ size_in q sizes
grown_else parts.Keys parts.Keys k sizes off = absurd (cc)
grown_else parts.Keys parts.Rows k sizes off = refl
grown_else parts.Rows parts.Keys k sizes off = refl
grown_else parts.Rows parts.Rows k sizes off = absurd (cc)

-- a file that isn't a table's
abbrev is_table : FileName → Bool
is_table (Keys m) = true
is_table (Rows m) = true
is_table _ = false

not_table : (name : List ℕ) (part : Part) (f : FileName) → is_table f ≡ false → same_file (table_file name part) f ≡ false
not_table name parts.Keys Control off = refl
not_table name parts.Keys (Log n) off = refl
not_table name parts.Keys (NewKeys m) off = refl
not_table name parts.Keys (NewRows m) off = refl
not_table name parts.Rows Control off = refl
not_table name parts.Rows (Log n) off = refl
not_table name parts.Rows (NewKeys m) off = refl
not_table name parts.Rows (NewRows m) off = refl
not_table name part (Keys m) off = absurd (cc)
not_table name part (Rows m) off = absurd (cc)

-- ---- counts

module _ (store now : PageStore) (at : PageId) (name : List ℕ) where
  abbrev count : ℕ
  count = count_at store at.part (Some at.slot)

  -- a file of a slot has a page at least up to this one
  pub record Resized : Type 0 where
    pub tidy : IsTidy store
    pub tidied : IsTidy now
    pub named : name_at store at.slot ≡ Some name
    pub slots : name_at now ≡ name_at store
    pub sizes : sizes_at now ≡ sizes_after at (sizes_at store)

  module _ (e : Resized) where
    is_slot : slot_of store name ≡ Some at.slot
    is_slot = slot_found store at.slot name e.tidy e.named

    same_slot : (m : List ℕ) → slot_of now m ≡ slot_of store m
    same_slot m = slot_same store now m e.tidy e.tidied e.slots

    count_by : (part : Part) (n : ℕ) → count_at now part (Some n) ≡ option_map_or (size_in part) (cond (nat_eq at.slot n) (option_map (grown at.part (at.page + 1)) (sizes_at store n)) (sizes_at store n)) 0
    count_by part n = ap (λ (f : ℕ → Option (ℕ × ℕ)). option_map_or (size_in part) (f n) 0) e.sizes

    count_here : count_at now at.part (Some at.slot) ≡ max count (at.page + 1)
    count_here =
        count_by at.part at.slot
        ∙ ap (λ (b : Bool). option_map_or (size_in at.part) (cond b (option_map (grown at.part (at.page + 1)) (sizes_at store at.slot)) (sizes_at store at.slot)) 0) (eq-eqb at.slot at.slot refl)
        ∙ by (sizes_at store at.slot) some
      where
        some : is_some (sizes_at store at.slot) ≡ true
        some = ap (λ (x : Option Slot). is_some (option_map sizes_in x)) (open_at store at.slot name e.named).there

        by : (o : Option (ℕ × ℕ)) → is_some o ≡ true → option_map_or (size_in at.part) (option_map (grown at.part (at.page + 1)) o) 0 ≡ max (option_map_or (size_in at.part) o 0) (at.page + 1)
        by None off = absurd (cc)
        by (Some sizes) on = grown_here at.part (at.page + 1) sizes

    count_else : (part : Part) (n : ℕ) → (nat_eq at.slot n && same_part part at.part) ≡ false → count_at now part (Some n) ≡ count_at store part (Some n)
    count_else part n off = count_by part n ∙ by (nat_eq at.slot n) refl
      where
        other : (o : Option (ℕ × ℕ)) → same_part part at.part ≡ false → option_map_or (size_in part) (option_map (grown at.part (at.page + 1)) o) 0 ≡ option_map_or (size_in part) o 0
        other None apart = refl
        other (Some sizes) apart = grown_else at.part part (at.page + 1) sizes apart

        by : (b : Bool) → nat_eq at.slot n ≡ b → option_map_or (size_in part) (cond b (option_map (grown at.part (at.page + 1)) (sizes_at store n)) (sizes_at store n)) 0 ≡ count_at store part (Some n)
        by false apart = refl
        by true same = other (sizes_at store n) (sym (ap (λ (b : Bool). b && same_part part at.part) same) ∙ off)

    -- the slot and part of another file
    apart : (m : List ℕ) (part : Part) (n : ℕ) → slot_of store m ≡ Some n → same_file (table_file name at.part) (table_file m part) ≡ false → (nat_eq at.slot n && same_part part at.part) ≡ false
    apart m part n found off = by (nat_eq at.slot n) refl (same_part part at.part) refl
      where
        some : (a b : List ℕ) → Some a ≡ Some b → a ≡ b
        some a b is = cc

        by : (a : Bool) → nat_eq at.slot n ≡ a → (b : Bool) → same_part part at.part ≡ b → (a && b) ≡ false
        by false other b is = refl
        by true same false is = refl
        by true same true is = absurd (
            let slot : at.slot ≡ n = eqb-true at.slot n same in
            let one : name ≡ m = some name m (sym e.named ∙ ap (name_at store) slot ∙ slot_named store m n found) in
            let file_is : table_file name at.part ≡ table_file m part = ap (λ (x : List ℕ). table_file x at.part) one ∙ ap (table_file m) (sym (part_is part at.part is)) in
            let f : true ≡ false = sym (same_file-refl (table_file name at.part)) ∙ ap (same_file (table_file name at.part)) file_is ∙ off in (cc))

    table_file_is : (m : List ℕ) (part : Part) → table_file name at.part ≡ table_file m part → (name ≡ m) × (at.part ≡ part)
    table_file_is m part is = by at.part part is
      where
        by : (p q : Part) → table_file name p ≡ table_file m q → (name ≡ m) × (p ≡ q)
        by parts.Keys parts.Keys same = (cc, refl)
        by parts.Rows parts.Rows same = (cc, refl)
        by parts.Keys parts.Rows same = absurd (cc)
        by parts.Rows parts.Keys same = absurd (cc)

    -- HOW MANY PAGES FILES HAVE
    pub counts_edited : page_counts now ≡ with_count (table_file name at.part) (at.page + 1) (page_counts store)
    counts_edited = λ i f. by f i
      where
        count_page : (m : List ℕ) (part : Part) → count_at now part (slot_of now m) ≡ cond (same_file (table_file name at.part) (table_file m part)) (max (count_at store part (slot_of store m)) (at.page + 1)) (count_at store part (slot_of store m))
        count_page m part = ap (count_at now part) (same_slot m) ∙ by (same_file (table_file name at.part) (table_file m part)) refl
          where
            else : (o : Option ℕ) → slot_of store m ≡ o → same_file (table_file name at.part) (table_file m part) ≡ false → count_at now part o ≡ count_at store part o
            else None none off = refl
            else (Some n) found off = count_else part n (apart m part n found off)

            by : (b : Bool) → same_file (table_file name at.part) (table_file m part) ≡ b → count_at now part (slot_of store m) ≡ cond b (max (count_at store part (slot_of store m)) (at.page + 1)) (count_at store part (slot_of store m))
            by true same =
                let p = table_file_is m part (same_file-true (table_file name at.part) (table_file m part) same) in
                subst (λ (x : List ℕ). count_at now part (slot_of store x) ≡ max (count_at store part (slot_of store x)) (at.page + 1)) p.0
                (subst (λ (q : Part). count_at now q (slot_of store name) ≡ max (count_at store q (slot_of store name)) (at.page + 1)) p.1
                (subst (λ (o : Option ℕ). count_at now at.part o ≡ max (count_at store at.part o) (at.page + 1)) (sym is_slot) count_here))
            by false off = else (slot_of store m) refl off

        none : (p : Part) (f : FileName) → same_file (table_file name p) f ≡ false → 0 ≡ cond (same_file (table_file name p) f) (max 0 (at.page + 1)) 0
        none p f off = sym (ap (λ (b : Bool). cond b (max 0 (at.page + 1)) 0) off)

        by : (f : FileName) → page_counts now f ≡ with_count (table_file name at.part) (at.page + 1) (page_counts store) f
        by (Keys m) = count_page m parts.Keys
        by (Rows m) = count_page m parts.Rows
        by Control = none at.part Control (not_table name at.part Control refl)
        by (Log k) = none at.part (Log k) (not_table name at.part (Log k) refl)
        by (NewKeys m) = none at.part (NewKeys m) (not_table name at.part (NewKeys m) refl)
        by (NewRows m) = none at.part (NewRows m) (not_table name at.part (NewRows m) refl)

-- ---- one page of a slot

module _ (store now : PageStore) (d : Folder) (at : PageId) (name : List ℕ) (h : Held) (edits : List Edit) where
  abbrev key : ℕ
  key = key_of at

  abbrev count_was : ℕ
  count_was = count_at store at.part (Some at.slot)

  -- a page that is held was edited
  pub record Edited : Type 0 where
    pub resized : Resized store now at name
    pub low : at.page < 2 ^ 31
    pub there : held store.frames (key_of at) ≡ Some h
    pub map : held now.frames ≡ update nat_eq (held store.frames) (key_of at) (option_map (edited_held edits) (held store.frames (key_of at)))
    pub next : next_number now ≡ next_number store
    pub long : length h.body ≡ 8181
    pub within : (body : List ℕ) → length body ≡ 8181 → length (all_edited edits body) ≡ 8181
    pub past : (page : ℕ) → page < 2 ^ 31 → count_at store at.part (Some at.slot) ≤ page → body_or (page_of d name at.part page) (frame_at store at.slot at.part page) ≡ Some (page_body zero_page)

  module _ (e : Edited) where
    -- ---- frames

    frame_by : (k : ℕ) → held now.frames k ≡ cond (nat_eq key k) (Some (edited_held edits h)) (held store.frames k)
    frame_by k = ap (λ (m : ℕ → Option Held). m k) e.map ∙ ap (λ (o : Option Held). cond (nat_eq key k) (option_map (edited_held edits) o) (held store.frames k)) e.there

    -- a page of another number
    key_else : (n : ℕ) (part : Part) (page : ℕ) → page < 2 ^ 31 → (nat_eq at.slot n && same_part part at.part && nat_eq at.page page) ≡ false → nat_eq key (key_of (record { slot = n; part = part; page = page })) ≡ false
    key_else n part page low off = by (nat_eq key (key_of (record { slot = n; part = part; page = page }))) refl
      where
        all : (a b c : Bool) → a ≡ true → b ≡ true → c ≡ true → (a && b && c) ≡ true
        all true true true x y z = refl
        all true true false x y z = absurd (cc)
        all true false c x y z = absurd (cc)
        all false b c x y z = absurd (cc)

        by : (t : Bool) → nat_eq key (key_of (record { slot = n; part = part; page = page })) ≡ t → t ≡ false
        by false is = refl
        by true is = absurd (
            let k : key ≡ key_of (record { slot = n; part = part; page = page }) = eqb-true key (key_of (record { slot = n; part = part; page = page })) is in
            let a = key_parts at e.low in
            let b = key_parts (record { slot = n; part = part; page = page }) low in
            let slot : at.slot ≡ n = sym a.0 ∙ ap (λ (i : ℕ). i / 2 ^ 32) k ∙ b.0 in
            let same : at.part ≡ part = sym a.1 ∙ ap part_of_key k ∙ b.1 in
            let number : at.page ≡ page = sym a.2 ∙ ap (λ (i : ℕ). i % 2 ^ 31) k ∙ b.2 in
            let f : true ≡ false = sym (all (nat_eq at.slot n) (same_part part at.part) (nat_eq at.page page) (eq-eqb at.slot n slot) (ap (λ (p : Part). same_part p at.part) (sym same) ∙ part_self at.part) (eq-eqb at.page page number)) ∙ off in (cc))

    frame_else : (n : ℕ) (part : Part) (page : ℕ) → (nat_eq at.slot n && same_part part at.part && nat_eq at.page page) ≡ false → frame_at now n part page ≡ frame_at store n part page
    frame_else n part page off = by (nat_lt page (2 ^ 31)) refl
      where
        k : ℕ
        k = key_of (record { slot = n; part = part; page = page })

        by : (b : Bool) → nat_lt page (2 ^ 31) ≡ b → cond b (held now.frames k) None ≡ cond b (held store.frames k) None
        by false high = refl
        by true low = frame_by k ∙ ap (λ (b : Bool). cond b (Some (edited_held edits h)) (held store.frames k)) (key_else n part page (below page (2 ^ 31) low) off)

    frame_here : frame_at now at.slot at.part at.page ≡ Some (edited_held edits h)
    frame_here = ap (λ (b : Bool). cond b (held now.frames key) None) (lt_true at.page (2 ^ 31) e.low) ∙ frame_by key ∙ ap (λ (b : Bool). cond b (Some (edited_held edits h)) (held store.frames key)) (eq-eqb key key refl)

    frame_was : frame_at store at.slot at.part at.page ≡ Some h
    frame_was = ap (λ (b : Bool). cond b (held store.frames key) None) (lt_true at.page (2 ^ 31) e.low) ∙ e.there

    -- ---- bodies

    abbrev zeros : Option (List ℕ)
    zeros = Some (page_body zero_page)

    abbrev old_body : ℕ → Option (List ℕ)
    old_body page = body_at store d name at.part page (Some at.slot)

    -- the page that was edited
    body_here : body_at now d name at.part at.page (Some at.slot) ≡ option_map (all_edited edits) (old_body at.page)
    body_here =
        ap (λ (n : ℕ). cond (nat_lt at.page n) (whole_body (body_or (page_of d name at.part at.page) (frame_at now at.slot at.part at.page))) zeros) (count_here store now at name e.resized)
        ∙ ap (λ (b : Bool). cond b (whole_body (body_or (page_of d name at.part at.page) (frame_at now at.slot at.part at.page))) zeros) (lt_true at.page (max count_was (at.page + 1)) (omega arith))
        ∙ ap (λ (o : Option Held). whole_body (body_or (page_of d name at.part at.page) o)) frame_here
        ∙ whole (all_edited edits h.body) (e.within h.body e.long)
        ∙ sym (ap (option_map (all_edited edits)) (by (nat_lt at.page count_was) refl))
      where
        some : (a b : List ℕ) → Some a ≡ Some b → a ≡ b
        some a b is = cc

        by : (b : Bool) → nat_lt at.page count_was ≡ b → cond b (whole_body (body_or (page_of d name at.part at.page) (frame_at store at.slot at.part at.page))) zeros ≡ Some h.body
        by true on = ap (λ (o : Option Held). whole_body (body_or (page_of d name at.part at.page) o)) frame_was ∙ whole h.body e.long
        by false off = sym (sym (ap (λ (o : Option Held). body_or (page_of d name at.part at.page) o) frame_was) ∙ e.past at.page e.low (behind at.page count_was off))

    -- another page of that file
    body_beside : (page : ℕ) → nat_eq at.page page ≡ false → body_at now d name at.part page (Some at.slot) ≡ old_body page
    body_beside page off =
        ap (λ (n : ℕ). cond (nat_lt page n) (whole_body (body_or (page_of d name at.part page) (frame_at now at.slot at.part page))) zeros) (count_here store now at name e.resized)
        ∙ ap (λ (o : Option Held). cond (nat_lt page (max count_was (at.page + 1))) (whole_body (body_or (page_of d name at.part page) o)) zeros) (frame_else at.slot at.part page (last (nat_eq at.slot at.slot && same_part at.part at.part)))
        ∙ by (nat_lt page count_was) refl
      where
        last : (a : Bool) → (a && nat_eq at.page page) ≡ false
        last true = off
        last false = refl

        grew : (b : Bool) → nat_lt page (max count_was (at.page + 1)) ≡ b → nat_lt page count_was ≡ false → cond b (whole_body (body_or (page_of d name at.part page) (frame_at store at.slot at.part page))) zeros ≡ zeros
        grew false past high = refl
        grew true low high = let l = below page (max count_was (at.page + 1)) low in let b = behind page count_was high in let f = e.low in ap whole_body (e.past page (omega (arith, l, b, f)) b) ∙ zeros_whole

        by : (b : Bool) → nat_lt page count_was ≡ b
            → cond (nat_lt page (max count_was (at.page + 1))) (whole_body (body_or (page_of d name at.part page) (frame_at store at.slot at.part page))) zeros ≡ cond b (whole_body (body_or (page_of d name at.part page) (frame_at store at.slot at.part page))) zeros
        by true low = let l = below page count_was low in ap (λ (b : Bool). cond b (whole_body (body_or (page_of d name at.part page) (frame_at store at.slot at.part page))) zeros) (lt_true page (max count_was (at.page + 1)) (omega (arith, l)))
        by false high = grew (nat_lt page (max count_was (at.page + 1))) refl high

    -- a page of another file
    body_else : (m : List ℕ) (part : Part) (page n : ℕ) → (nat_eq at.slot n && same_part part at.part) ≡ false → body_at now d m part page (Some n) ≡ body_at store d m part page (Some n)
    body_else m part page n off =
        ap (λ (c : ℕ). cond (nat_lt page c) (whole_body (body_or (page_of d m part page) (frame_at now n part page))) zeros) (count_else store now at name e.resized part n off)
        ∙ ap (λ (o : Option Held). cond (nat_lt page (count_at store part (Some n))) (whole_body (body_or (page_of d m part page) o)) zeros) (frame_else n part page (ap (λ (b : Bool). b && nat_eq at.page page) off))

    body_page : (m : List ℕ) (part : Part) (page : ℕ) → body_at now d m part page (slot_of now m)
        ≡ cond (same_file (table_file name at.part) (table_file m part) && (at.page == page)) (option_map (all_edited edits) (body_at store d m part page (slot_of store m))) (body_at store d m part page (slot_of store m))
    body_page m part page = ap (body_at now d m part page) (same_slot store now at name e.resized m) ∙ by (same_file (table_file name at.part) (table_file m part)) refl
      where
        this : (b : Bool) → (at.page == page) ≡ b → body_at now d name at.part page (Some at.slot) ≡ cond b (option_map (all_edited edits) (old_body page)) (old_body page)
        this true same = subst (λ (n : ℕ). body_at now d name at.part n (Some at.slot) ≡ option_map (all_edited edits) (old_body n)) (eqb-true at.page page same) body_here
        this false off = body_beside page off

        else : (o : Option ℕ) → slot_of store m ≡ o → same_file (table_file name at.part) (table_file m part) ≡ false → body_at now d m part page o ≡ body_at store d m part page o
        else None none off = refl
        else (Some n) found off = body_else m part page n (apart store now at name e.resized m part n found off)

        by : (b : Bool) → same_file (table_file name at.part) (table_file m part) ≡ b → body_at now d m part page (slot_of store m)
            ≡ cond (b && (at.page == page)) (option_map (all_edited edits) (body_at store d m part page (slot_of store m))) (body_at store d m part page (slot_of store m))
        by true same =
            let p = table_file_is store now at name e.resized m part (same_file-true (table_file name at.part) (table_file m part) same) in
            subst (λ (x : List ℕ). body_at now d x part page (slot_of store x) ≡ cond (at.page == page) (option_map (all_edited edits) (body_at store d x part page (slot_of store x))) (body_at store d x part page (slot_of store x))) p.0
            (subst (λ (q : Part). body_at now d name q page (slot_of store name) ≡ cond (at.page == page) (option_map (all_edited edits) (body_at store d name q page (slot_of store name))) (body_at store d name q page (slot_of store name))) p.1
            (subst (λ (o : Option ℕ). body_at now d name at.part page o ≡ cond (at.page == page) (option_map (all_edited edits) (body_at store d name at.part page o)) (body_at store d name at.part page o)) (sym (is_slot store now at name e.resized))
            (this (at.page == page) refl)))
        by false off = else (slot_of store m) refl off

    -- THE BODIES BEHIND AN EDIT
    pub bodies_edited : page_bodies now d ≡ with_edits (table_file name at.part) at.page edits (page_bodies store d)
    bodies_edited = λ i f n. by f n i
      where
        none : (p : Part) (m : FileName) (b : Bool) → same_file (table_file name p) m ≡ false → cond (same_file (table_file name p) m && b) (option_map (all_edited edits) zeros) zeros ≡ zeros
        none p m b off = ap (λ (t : Bool). cond (t && b) (option_map (all_edited edits) zeros) zeros) off

        by : (f : FileName) (n : ℕ) → page_bodies now d f n ≡ with_edits (table_file name at.part) at.page edits (page_bodies store d) f n
        by (Keys m) n = body_page m parts.Keys n
        by (Rows m) n = body_page m parts.Rows n
        by Control n = sym (none at.part Control (at.page == n) (not_table name at.part Control refl))
        by (Log k) n = sym (none at.part (Log k) (at.page == n) (not_table name at.part (Log k) refl))
        by (NewKeys m) n = sym (none at.part (NewKeys m) (at.page == n) (not_table name at.part (NewKeys m) refl))
        by (NewRows m) n = sym (none at.part (NewRows m) (at.page == n) (not_table name at.part (NewRows m) refl))

    -- ---- pages behind the log's end

    held_same : (k : ℕ) → is_some (held now.frames k) ≡ is_some (held store.frames k)
    held_same k = ap is_some (frame_by k) ∙ by (nat_eq key k) refl
      where
        by : (b : Bool) → nat_eq key k ≡ b → is_some (cond b (Some (edited_held edits h)) (held store.frames k)) ≡ is_some (held store.frames k)
        by false off = refl
        by true same = sym (ap (λ (i : ℕ). is_some (held store.frames i)) (sym (eqb-true key k same)) ∙ ap is_some e.there)

    late_page : (m : List ℕ) (part : Part) (page : ℕ) (o : Option ℕ) → late_at now d m part page o ≡ late_at store d m part page o
    late_page m part page None = refl
    late_page m part page (Some n) =
        ap (λ (b : Bool). not b && late_seen (next_number now) (page_of d m part page)) (by (nat_lt page (2 ^ 31)))
        ∙ ap (λ (k : ℕ). not (is_some (frame_at store n part page)) && late_seen k (page_of d m part page)) e.next
      where
        by : (b : Bool) → is_some (cond b (held now.frames (key_of (record { slot = n; part = part; page = page }))) None) ≡ is_some (cond b (held store.frames (key_of (record { slot = n; part = part; page = page }))) None)
        by false = refl
        by true = held_same (key_of (record { slot = n; part = part; page = page }))

    -- the same pages are behind the log's end
    pub late_edited : page_late now d ≡ page_late store d
    late_edited = λ i f n. by f n i
      where
        at_name : (m : List ℕ) (part : Part) (page : ℕ) → late_at now d m part page (slot_of now m) ≡ late_at store d m part page (slot_of store m)
        at_name m part page = ap (late_at now d m part page) (same_slot store now at name e.resized m) ∙ late_page m part page (slot_of store m)

        by : (f : FileName) (n : ℕ) → page_late now d f n ≡ page_late store d f n
        by (Keys m) n = at_name m parts.Keys n
        by (Rows m) n = at_name m parts.Rows n
        by _ n = refl
