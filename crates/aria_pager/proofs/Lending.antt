-- What a page that is held shows, and the numbers of a slot's files.
use Rattle.std.proofs.Common.{◌≡◌, ◌∙◌, ℕ, ◌^◌, ◌<◌, ◌≤◌, Bool, cond, List, [], length, ap, sym, refl, subst, arith, Option, None, Some}
use Rattle.std.specs.Prelude.{IsTrue, is_some, slice_get, unwrap_or}
use Rattle.std.specs.Option.{option_map, option_map_or, option_and_then}
use Rattle.std.proofs.lemmas.Bool.{eq-eqb}
use Rattle.aria_page.specs.Page.{zero_page, page_body}
use Rattle.aria_page.specs.declared.place.Part.{Part}
use Rattle.aria_page.specs.declared.place.Part.TheVariants.{Keys, Rows}
use Rattle.aria_host.specs.Folder.{Folder}
use Rattle.aria_cache.specs.Frames.{Held, held, front}
use Rattle.aria_cache.specs.Key.{key_of}
use Rattle.aria_cache.specs.PageState.{table_file}
use Rattle.aria_recovery.specs.Images.{page_of}
use Rattle.aria_recovery.specs.Tables.{file}
use Rattle.aria_recovery.proofs.Comparing.{lt_true}
use Rattle.aria_pager.specs.declared.page_store.PageStore.{PageStore}
use Rattle.aria_pager.specs.declared.slot.Slot.{Slot}
use Rattle.aria_pager.specs.PageStore.{name_in, name_at, sizes_in}
use Rattle.aria_pager.specs.Pager.{pages_in}
use Rattle.aria_pager.specs.View.{slot_of, size_in, count_at, frame_at, body_or, whole_body, body_at, page_counts, page_bodies, loaded_body, IsTidy}
use Rattle.aria_pager.proofs.Bodies.{open_at, count_low}
use Rattle.aria_pager.proofs.Viewing.{slot_found}

-- the name of a slot that is open
pub open_name : (store : PageStore) (n : ℕ) → IsTrue (is_some (name_at store n)) → name_at store n ≡ Some (unwrap_or (name_at store n) [])
open_name store n on = by (name_at store n) on
  where
    by : (o : Option (List ℕ)) → IsTrue (is_some o) → o ≡ Some (unwrap_or o [])
    by None off = absurd (cc)
    by (Some name) is = refl

pub count_file : (store : PageStore) (name : List ℕ) (part : Part) → page_counts store (table_file name part) ≡ count_at store part (slot_of store name)
count_file store name Keys = refl
count_file store name Rows = refl

body_file : (store : PageStore) (folder : Folder) (name : List ℕ) (part : Part) (page : ℕ) → page_bodies store folder (table_file name part) page ≡ body_at store folder name part page (slot_of store name)
body_file store folder name Keys page = refl
body_file store folder name Rows page = refl

pub file_table : (name : List ℕ) (part : Part) → file name part ≡ table_file name part
file_table name Keys = refl
file_table name Rows = refl

size_part : (slot : Slot) (part : Part) → size_in part (sizes_in slot) ≡ (pages_in slot part).pages
size_part slot Keys = refl
size_part slot Rows = refl

-- HOW MANY PAGES a slot's file has
pub count_slot : (store : PageStore) (n : ℕ) (part : Part) (slot : Slot) → IsTidy store → IsTrue (is_some (name_at store n)) → slice_get store.slots n ≡ Some slot
    → (pages_in slot part).pages ≡ page_counts store (table_file (unwrap_or (name_at store n) []) part)
count_slot store n part slot tidy on there =
    sym (size_part slot part)
    ∙ sym (ap (λ (o : Option Slot). option_map_or (size_in part) (option_map sizes_in o) 0) there)
    ∙ sym (ap (count_at store part) (slot_found store n (unwrap_or (name_at store n) []) tidy (open_name store n on)))
    ∙ sym (count_file store (unwrap_or (name_at store n) []) part)

pub count_most : (store : PageStore) (n : ℕ) (part : Part) (slot : Slot) → IsTidy store → slice_get store.slots n ≡ Some slot → (pages_in slot part).pages ≤ 2 ^ 31
count_most store n part slot tidy there =
    subst (λ (k : ℕ). k ≤ 2 ^ 31) (ap (λ (o : Option Slot). option_map_or (size_in part) (option_map sizes_in o) 0) there ∙ size_part slot part) (count_low store part n tidy)

-- the file of a slot
pub file_slot : (store : PageStore) (n : ℕ) (part : Part) (slot : Slot) → IsTrue (is_some (name_at store n)) → slice_get store.slots n ≡ Some slot → file slot.name part ≡ table_file (unwrap_or (name_at store n) []) part
file_slot store n part slot on there =
    let o = open_at store n (unwrap_or (name_at store n) []) (open_name store n on) in
    file_table slot.name part ∙ ap (λ (m : List ℕ). table_file m part) (ap (λ (s : Slot). s.name) (some slot o.slot (sym there ∙ o.there)) ∙ o.named)
  where
    some : (a b : Slot) → Some a ≡ Some b → a ≡ b
    some a b e = cc

-- a slot that is open is there
pub slot_there : (store : PageStore) (n : ℕ) → IsTrue (is_some (name_at store n)) → IsTrue (is_some (slice_get store.slots n))
slot_there store n on = by (slice_get store.slots n) on
  where
    by : (o : Option Slot) → IsTrue (is_some (option_and_then name_in o)) → IsTrue (is_some o)
    by None off = off
    by (Some slot) is = refl

-- a page that a slot's file has is one that keys tell apart
pub page_low : (store : PageStore) (n : ℕ) (part : Part) (page : ℕ) → IsTidy store → IsTrue (is_some (name_at store n)) → page < page_counts store (table_file (unwrap_or (name_at store n) []) part) → page < 2 ^ 31
page_low store n part page tidy on below =
    let is = count_file store (unwrap_or (name_at store n) []) part ∙ ap (count_at store part) (slot_found store n (unwrap_or (name_at store n) []) tidy (open_name store n on)) in
    omega (arith, below, is, count_low store part n tidy)

whole : (b : List ℕ) → length b ≡ 8181 → whole_body (Some b) ≡ Some b
whole b is = ap (λ (t : Bool). cond t (Some b) None) (eq-eqb (length b) 8181 is)

-- A PAGE THAT IS HELD, AND WAS USED LAST, is what is lent.
pub loaded_shown : (store : PageStore) (folder : Folder) (n : ℕ) (part : Part) (page : ℕ) → IsTidy store → IsTrue (is_some (name_at store n)) → page < page_counts store (table_file (unwrap_or (name_at store n) []) part)
    → IsTrue (is_some (held store.frames (key_of (record { slot = n; part = part; page = page })))) → front store.frames ≡ held store.frames (key_of (record { slot = n; part = part; page = page })) → length (loaded_body store) ≡ 8181
    → page_bodies store folder (table_file (unwrap_or (name_at store n) []) part) page ≡ Some (loaded_body store)
loaded_shown store folder n part page tidy on below there front_is long = by (held store.frames key) refl there
  where
    key : ℕ
    key = key_of (record { slot = n; part = part; page = page })

    name : List ℕ
    name = unwrap_or (name_at store n) []

    found : slot_of store name ≡ Some n
    found = slot_found store n name tidy (open_name store n on)

    counted : page < count_at store part (Some n)
    counted = subst (λ (k : ℕ). page < k) (count_file store name part ∙ ap (count_at store part) found) below

    by : (o : Option Held) → held store.frames key ≡ o → IsTrue (is_some o) → page_bodies store folder (table_file name part) page ≡ Some (loaded_body store)
    by None none off = absurd (cc)
    by (Some h) is some =
        let lent : loaded_body store ≡ h.body = ap (λ (o : Option Held). option_map_or (λ h. h.body) o (page_body store.blank)) (front_is ∙ is) in
        body_file store folder name part page
        ∙ ap (body_at store folder name part page) found
        ∙ ap (λ (b : Bool). cond b (whole_body (body_or (page_of folder name part page) (frame_at store n part page))) (Some (page_body zero_page))) (lt_true page (count_at store part (Some n)) counted)
        ∙ ap (λ (b : Bool). whole_body (body_or (page_of folder name part page) (cond b (held store.frames key) None))) (lt_true page (2 ^ 31) (page_low store n part page tidy on below))
        ∙ ap (λ (o : Option Held). whole_body (body_or (page_of folder name part page) o)) is
        ∙ whole h.body (sym (ap (λ (l : List ℕ). length l) lent) ∙ long)
        ∙ ap Some (sym lent)
