-- What the first pages of a table show once it is made.
use Rattle.std.proofs.Common.{◌≡◌, ◌∙◌, inl, ℕ, Bool, cond, nat_lt, List, [], ◌∷◌, length, ap, refl, Option, None, Some, Result, Ok, Err}
use Rattle.std.specs.Prelude.{IfOk, OnOk}
use Rattle.std.specs.Option.{option_map_or}
use Rattle.std.proofs.lemmas.Bool.{eq-eqb}
use Rattle.aria_page.specs.Page.{zero_page, page_body}
use Rattle.aria_page.specs.declared.place.Part.{Part}
use Rattle.aria_page.specs.declared.place.Part.TheVariants.{Keys, Rows}
use Rattle.aria_host.specs.declared.fault.Fault.{Fault}
use Rattle.aria_host.specs.Folder.{Folder}
use Rattle.aria_host.specs.Seen.{page_or_zero}
use Rattle.aria_cache.specs.Frames.{Held, held}
use Rattle.aria_cache.specs.Key.{key_of}
use Rattle.aria_cache.specs.PageState.{table_file}
use Rattle.aria_recovery.specs.Redo.{Seen, Content, seen}
use Rattle.aria_recovery.specs.Images.{page_of}
use Rattle.aria_recovery.specs.Tables.{file}
use Rattle.aria_recovery.proofs.Seeing.{seen_sound}
use Rattle.aria_pager.specs.declared.page_store.PageStore.{PageStore}
use Rattle.aria_pager.specs.PageStore.{name_at, sizes_at}
use Rattle.aria_pager.specs.View.{slot_of, size_in, count_at, frame_at, body_or, whole_body, body_at, page_bodies, IsTidy}
use Rattle.aria_pager.specs.Filing.{Enters, IsWhole}
use Rattle.aria_pager.proofs.Viewing.{slot_found}

body_in : (store : PageStore) (folder : Folder) (name : List ℕ) (part : Part) → page_bodies store folder (table_file name part) 0 ≡ body_at store folder name part 0 (slot_of store name)
body_in store folder name Keys = refl
body_in store folder name Rows = refl

one : (part : Part) → size_in part (1, 1) ≡ 1
one Keys = refl
one Rows = refl

-- THE FIRST PAGE of a file that has it alone
pub first_shown : (store : PageStore) (folder : Folder) (name : List ℕ) (n : ℕ) (part : Part) (page : List ℕ) → IsTidy store → name_at store n ≡ Some name → sizes_at store n ≡ Some (1, 1)
    → held store.frames (key_of (record { slot = n; part = part; page = 0 })) ≡ None → folder (file name part) ≡ Some (page ∷ []) → IsWhole page → page_bodies store folder (table_file name part) 0 ≡ Some (page_body page)
first_shown store folder name n part page tidy named sizes none made whole =
    body_in store folder name part
    ∙ ap (body_at store folder name part 0) (slot_found store n name tidy named)
    ∙ ap (λ (k : ℕ). cond (nat_lt 0 k) (whole_body (body_or (page_of folder name part 0) (frame_at store n part 0))) (Some (page_body zero_page))) count
    ∙ ap (λ (o : Option Held). whole_body (body_or (page_of folder name part 0) o)) none
    ∙ ap (λ (x : Seen). whole_body (body_or x None)) (ap (λ (c : Content). seen (page_or_zero 0 c)) made ∙ seen_sound page (inl whole.sums))
    ∙ ap (λ (t : Bool). cond t (Some (page_body page)) None) (eq-eqb (length (page_body page)) 8181 whole.long)
  where
    count : count_at store part (Some n) ≡ 1
    count = ap (λ (o : Option (ℕ × ℕ)). option_map_or (size_in part) o 0) sizes ∙ one part

-- so it is once a table is made
pub bodies_made : (old mid store : PageStore) (folder : Folder) (name : List ℕ) (pages : Part → List ℕ) (r : Result ℕ Fault) → name_at store ≡ name_at mid → sizes_at store ≡ sizes_at mid → IsTidy store → IfOk r (λ n. Enters name n old mid)
    → IfOk r (λ n. (part : Part) → held store.frames (key_of (record { slot = n; part = part; page = 0 })) ≡ None) → OnOk r ((part : Part) → folder (file name part) ≡ Some (pages part ∷ [])) → OnOk r ((part : Part) → IsWhole (pages part))
    → OnOk r ((part : Part) → page_bodies store folder (table_file name part) 0 ≡ Some (page_body (pages part)))
bodies_made old mid store folder name pages (Err e) names sizes tidy enters none made whole = tt
bodies_made old mid store folder name pages (Ok n) names sizes tidy enters none made whole = λ part. first_shown store folder name n part (pages part) tidy
    (ap (λ (f : ℕ → Option (List ℕ)). f n) names ∙ enters.names n ∙ ap (λ (b : Bool). cond b (Some name) (name_at old n)) (eq-eqb n n refl)) (ap (λ (f : ℕ → Option (ℕ × ℕ)). f n) sizes ∙ enters.size) (none part) (made part) (whole part)
