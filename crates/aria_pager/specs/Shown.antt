-- What pages show: bodies of one length, and zeros from the count on.
use Rattle.std.proofs.Common.{◌≡◌, ◌∙◌, ◌==◌, ℕ, ◌≤◌, Bool, true, false, cond, nat_lt, List, length, ap, sym, refl, Option, None, Some}
use Rattle.std.proofs.lemmas.Bool.{eqb-true}
use Rattle.aria_page.specs.Page.{zero_page, page_body}
use Rattle.aria_page.specs.declared.page.TheConstants.{BODY_BYTES}
use Rattle.aria_page.specs.declared.place.Part.{Part}
use Rattle.aria_page.specs.declared.place.Part.TheVariants as parts
use Rattle.aria_host.specs.declared.file_name.FileName.{FileName}
use Rattle.aria_host.specs.declared.file_name.FileName.TheVariants.{Keys, Rows}
use Rattle.aria_host.specs.Folder.{Folder}
use Rattle.aria_cache.proofs.Blank.{length-zero_body}
use Rattle.aria_recovery.specs.Images.{page_of}
use Rattle.aria_recovery.proofs.Comparing.{lt_false}
use Rattle.aria_pager.specs.declared.page_store.PageStore.{PageStore}
use Rattle.aria_pager.specs.View.{slot_of, count_at, frame_at, body_or, whole_body, body_at, page_counts, page_bodies}

abbrev zeros : Option (List ℕ)
zeros = Some (page_body zero_page)

past_at : (store : PageStore) (folder : Folder) (name : List ℕ) (part : Part) (n : ℕ) (o : Option ℕ) → count_at store part o ≤ n → body_at store folder name part n o ≡ zeros
past_at store folder name part n None behind = refl
past_at store folder name part n (Some k) behind = ap (λ (b : Bool). cond b (whole_body (body_or (page_of folder name part n) (frame_at store k part n))) zeros) (lt_false n (count_at store part (Some k)) behind)

-- PAGES BEHIND A FILE'S END are zeros
pub body_past : (store : PageStore) (folder : Folder) (f : FileName) (n : ℕ) → page_counts store f ≤ n → page_bodies store folder f n ≡ Some (page_body zero_page)
body_past store folder (Keys name) n behind = past_at store folder name parts.Keys n (slot_of store name) behind
body_past store folder (Rows name) n behind = past_at store folder name parts.Rows n (slot_of store name) behind
body_past store folder _ n behind = refl

some_body : (a b : List ℕ) → Some a ≡ Some b → a ≡ b
some_body a b e = cc

zero_long : (body : List ℕ) → zeros ≡ Some body → length body ≡ BODY_BYTES
zero_long body is = sym (ap (λ (l : List ℕ). length l) (some_body (page_body zero_page) body is)) ∙ length-zero_body

whole_long : (o : Option (List ℕ)) (body : List ℕ) → whole_body o ≡ Some body → length body ≡ BODY_BYTES
whole_long None body is = absurd (cc)
whole_long (Some b) body is = by (length b == BODY_BYTES) refl is
  where
    by : (t : Bool) → (length b == BODY_BYTES) ≡ t → cond t (Some b) None ≡ Some body → length body ≡ BODY_BYTES
    by false off e = absurd (cc)
    by true on e = sym (ap (λ (l : List ℕ). length l) (some_body b body e)) ∙ eqb-true (length b) BODY_BYTES on

long_at : (store : PageStore) (folder : Folder) (name : List ℕ) (part : Part) (n : ℕ) (body : List ℕ) (o : Option ℕ) → body_at store folder name part n o ≡ Some body → length body ≡ BODY_BYTES
long_at store folder name part n body None is = zero_long body is
long_at store folder name part n body (Some k) is = by (nat_lt n (count_at store part (Some k))) is
  where
    by : (t : Bool) → cond t (whole_body (body_or (page_of folder name part n) (frame_at store k part n))) zeros ≡ Some body → length body ≡ BODY_BYTES
    by true e = whole_long (body_or (page_of folder name part n) (frame_at store k part n)) body e
    by false e = zero_long body e

-- A BODY HAS ITS LENGTH
pub body_long : (store : PageStore) (folder : Folder) (f : FileName) (n : ℕ) (body : List ℕ) → page_bodies store folder f n ≡ Some body → length body ≡ BODY_BYTES
body_long store folder (Keys name) n body is = long_at store folder name parts.Keys n body (slot_of store name) is
body_long store folder (Rows name) n body is = long_at store folder name parts.Rows n body (slot_of store name) is
body_long store folder _ n body is = zero_long body is
