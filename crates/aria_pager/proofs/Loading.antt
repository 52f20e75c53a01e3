-- A page is read to be held.
use Rattle.std.proofs.Common.{◌≡◌, ◌∙◌, inl, inr, ℕ, ◌/◌, ◌%◌, ◌^◌, ◌<◌, ◌≤◌, Bool, true, false, List, length, ap, sym, refl, subst, arith, Option, None, Some, Err}
use Rattle.std.specs.Prelude.{IsTrue, is_some, slice_get}
use Rattle.std.specs.Option.{option_map, option_map_or, option_and_then}
use Rattle.std.proofs.lemmas.Bool.{cases_lt}
use Rattle.std.proofs.lemmas.List.{get_or_past}
use Rattle.std.proofs.lemmas.Option.{get_or_from_slice_get}
use Rattle.aria_page.specs.declared.lsn.Lsn.{Lsn}
use Rattle.aria_page.specs.declared.place.Part.{Part}
use Rattle.aria_page.specs.declared.place.Part.TheVariants.{Keys, Rows}
use Rattle.aria_page.specs.Lsn.{IsBefore, lsn_number}
use Rattle.aria_page.specs.Page.{IsSound, zero_page, page_lsn, page_body}
use Rattle.aria_host.specs.declared.fault.Fault.{Fault}
use Rattle.aria_host.specs.declared.fault.Fault.TheVariants.{PageDamaged}
use Rattle.aria_host.specs.declared.file_name.FileName.{FileName}
use Rattle.aria_host.specs.Folder.{Folder}
use Rattle.aria_host.specs.Seen.{page_or_zero}
use Rattle.aria_host.specs.State.{State}
use Rattle.aria_record.specs.Logged.{Logged, lsn_at_place}
use Rattle.aria_log.specs.Log.{place}
use Rattle.aria_cache.specs.declared.page_id.PageId.{PageId}
use Rattle.aria_cache.specs.Frames.{held}
use Rattle.aria_cache.specs.Key.{key_of}
use Rattle.aria_recovery.specs.Redo.{seen, page_number}
use Rattle.aria_recovery.specs.Tables.{file}
use Rattle.aria_recovery.specs.Frames.{Spot, Progress, raw_at}
use Rattle.aria_recovery.proofs.Seeing.{seen_sound, seen_zero}
use Rattle.aria_recovery.proofs.Comparing.{le_true}
use Rattle.aria_pager.specs.declared.page_store.PageStore.{PageStore}
use Rattle.aria_pager.specs.declared.slot.Slot.{Slot}
use Rattle.aria_pager.specs.PageStore.{name_at, sizes_in, part_of_key, is_known, raw, late_seen}
use Rattle.aria_pager.specs.Pager.{OnDisk, IsPagerAt, next_number, pages_in}
use Rattle.aria_pager.specs.Steps.{IsRead, IsDamaged, OfHold, HasHoldCause, damaged_at}
use Rattle.aria_pager.specs.View.{size_in, count_at}
use Rattle.aria_pager.proofs.Slots.{Here, spot_here, key_parts}
use Rattle.aria_pager.proofs.Stepping.{page_number_is}

-- ---- a page of a file

pub zero_past : (n : ℕ) (content : Option (List (List ℕ))) → option_map_or length content 0 ≤ n → page_or_zero n content ≡ zero_page
zero_past n None past = refl
zero_past n (Some pages) past = get_or_past pages n zero_page past

pub page_here : (n : ℕ) (content : Option (List (List ℕ))) (page : List ℕ) → option_and_then (λ pages. slice_get pages n) content ≡ Some page → page_or_zero n content ≡ page
page_here n None page is = absurd (cc)
page_here n (Some pages) page is = get_or_from_slice_get pages n page zero_page is

-- ---- the page of an open slot

abbrev spot_at : ℕ → List ℕ → Spot
spot_at k name = record { name = name; part = part_of_key k; page = k % 2 ^ 31 }

pub open_here : (store : PageStore) (at : PageId) (slot : Slot) → at.page < 2 ^ 31 → slice_get store.slots at.slot ≡ Some slot → IsTrue (is_some (name_at store at.slot)) → Here store (key_of at) at slot
open_here store at slot low here on = spot_here store (key_of at) at slot low refl here (some (name_at store (key_of at / 2 ^ 32)) (subst (λ (n : ℕ). IsTrue (is_some (name_at store n))) (sym (key_parts at low).0) on))
  where
    some : (o : Option (List ℕ)) → IsTrue (is_some o) → is_some (option_map (spot_at (key_of at)) o) ≡ true
    some None off = off
    some (Some name) is = refl

pub known_open : (store : PageStore) (at : PageId) → at.page < 2 ^ 31 → IsTrue (is_some (name_at store at.slot)) → is_known store (key_of at) ≡ true
known_open store at low on = some (name_at store (key_of at / 2 ^ 32)) (subst (λ (n : ℕ). IsTrue (is_some (name_at store n))) (sym (key_parts at low).0) on)
  where
    some : (o : Option (List ℕ)) → IsTrue (is_some o) → is_some (option_map (spot_at (key_of at)) o) ≡ true
    some None off = off
    some (Some name) is = refl

-- its page as the folder has it
pub raw_here : (store : PageStore) (folder : Folder) (at : PageId) (slot : Slot) (page : List ℕ) → Here store (key_of at) at slot → page ≡ page_or_zero at.page (folder (file slot.name at.part)) → raw store folder (key_of at) ≡ seen page
raw_here store folder at slot page here is = ap (raw_at folder) here.spot ∙ ap seen (sym is)

-- ---- log sequence numbers

pub before_number : (a b : Lsn) → IsBefore a b → a.offset < 2 ^ 32 → lsn_number a < lsn_number b
before_number a b (inl file) low = omega (arith, file, low)
before_number a b (inr (same, offset)) low = omega (arith, same, offset)

pub behind_number : (a b : Lsn) → ¬ IsBefore a b → b.offset < 2 ^ 32 → lsn_number b ≤ lsn_number a
behind_number a b not low = elim (cases_lt a.file b.file) [
  | inl file ↦ absurd (not (inl file))
  | inr high ↦ elim (cases_lt b.file a.file) [
    | inl file ↦ omega (arith, file, low)
    | inr also ↦ let same : a.file ≡ b.file = omega (arith, high, also) in elim (cases_lt a.offset b.offset) [
      | inl offset ↦ absurd (not (inr (same, offset)))
      | inr more ↦ omega (arith, same, more)
    ]
  ]
]

pub end_low : (place : ℕ) → (lsn_at_place place).offset < 2 ^ 32
end_low place = omega arith

-- A PAGE WAS READ that is sound and before the log's end
pub read_sound : (store : PageStore) (s : State) (at : PageId) (slot : Slot) (page : List ℕ) (lsn : Lsn) → Here store (key_of at) at slot → page ≡ page_or_zero at.page (s.folder (file slot.name at.part)) → IsSound page → lsn ≡ page_lsn page
    → lsn_number lsn < next_number store → IsRead store s (key_of at) (record { lsn = lsn_number lsn; body = page_body page; dirty = false })
read_sound store s at slot page lsn here is sound lsn_is low = record {
  page = raw_here store s.folder at slot page here is ∙ seen_sound page sound ∙ (λ i. Some ((page_number_is page ∙ ap lsn_number (sym lsn_is)) i, page_body page));
  below = low;
  clean = refl;
}

-- ---- causes

pub late_here : (store : PageStore) (folder : Folder) (at : PageId) (slot : Slot) (page : List ℕ) (lsn : Lsn) → Here store (key_of at) at slot → page ≡ page_or_zero at.page (folder (file slot.name at.part)) → IsSound page → lsn ≡ page_lsn page
    → next_number store ≤ lsn_number lsn → late_seen (next_number store) (raw store folder (key_of at)) ≡ true
late_here store folder at slot page lsn here is sound lsn_is high = ap (late_seen (next_number store)) (raw_here store folder at slot page here is ∙ seen_sound page sound)
    ∙ le_true (next_number store) (page_number page) (subst (λ (n : ℕ). next_number store ≤ n) (sym (page_number_is page ∙ ap lsn_number (sym lsn_is))) high)

size_part : (slot : Slot) (part : Part) → size_in part (sizes_in slot) ≡ (pages_in slot part).pages
size_part slot Keys = refl
size_part slot Rows = refl

-- A PAGE THAT ISN'T SOUND is one that its file has: past its end it is zeros.
pub damaged_here : (store : PageStore) (s : State) (redone : Progress) (base : ℕ) (start : Folder) (groups : List Logged) (forced : ℕ) (at : PageId) (slot : Slot) → IsPagerAt store s redone base start groups forced → Here store (key_of at) at slot
    → raw store s.folder (key_of at) ≡ None → IsDamaged store s.folder (key_of at) (record { name = slot.name; part = at.part; page = at.page })
damaged_here store s redone base start groups forced at slot is here none = record { none = none; below = below }
  where
    disk : OnDisk store s.folder groups slot.name at.part (pages_in slot at.part)
    disk = (is.slots (key_of at / 2 ^ 32) slot here.there here.used).files at.part

    count : count_at store at.part (Some (key_of at / 2 ^ 32)) ≡ (pages_in slot at.part).pages
    count = ap (λ (o : Option Slot). option_map_or (size_in at.part) (option_map sizes_in o) 0) here.there ∙ size_part slot at.part

    below : at.page < count_at store at.part (Some (key_of at / 2 ^ 32))
    below = elim (cases_lt at.page (count_at store at.part (Some (key_of at / 2 ^ 32)))) [
      | inl low ↦ low
      | inr past ↦ absurd (
          let zero : page_or_zero at.page (s.folder (file slot.name at.part)) ≡ zero_page = ap (page_or_zero at.page) disk.there ∙ zero_past at.page (Some disk.content) (omega (arith, past, count, disk.counts, disk.written)) in
          let f : None ≡ Some (0, page_body zero_page) = sym none ∙ raw_here store s.folder at slot zero_page here (sym zero) ∙ seen_zero in (cc))
    ]

-- the page isn't sound
pub damaged_cause : {T : Type 0} (tells : Bool) (store : PageStore) (old new : State) (at : PageId) (slot : Slot) (f : FileName) → Here store (key_of at) at slot → f ≡ file slot.name at.part → held store.frames (key_of at) ≡ None
    → (IsTrue tells → IsDamaged store new.folder (key_of at) (record { name = slot.name; part = at.part; page = at.page }))
    → new.disk_faults ≡ old.disk_faults → new.tell_faults ≡ old.tell_faults → HasHoldCause {T = T} tells store (key_of at) old new (Err (PageDamaged f at.page))
damaged_cause tells store old new at slot f here is free none disk told = record {
  only = (record { name = slot.name; part = at.part; page = at.page }, here.spot, is, refl, free, none);
  calm = tt;
  later = omega (arith, disk);
  tell = told;
}

-- the log is damaged at its end
pub ahead_cause : {T : Type 0} (tells : Bool) (store : PageStore) (old new : State) (key : ℕ) (fault : Fault) → fault ≡ damaged_at (lsn_at_place (place store.log)) → held store.frames key ≡ None
    → (IsTrue tells → late_seen (next_number store) (raw store new.folder key) ≡ true)
    → new.disk_faults ≡ old.disk_faults → new.tell_faults ≡ old.tell_faults → HasHoldCause {T = T} tells store key old new (Err fault)
ahead_cause tells store old new key fault is free late disk told = record {
  only = subst (OfHold tells store key old new) (sym is) (refl, free, late);
  calm = tt;
  later = omega (arith, disk);
  tell = told;
}
