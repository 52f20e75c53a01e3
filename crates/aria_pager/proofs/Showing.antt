-- What callers see depends on slots, frames and the log's end alone.
use Rattle.std.proofs.Common.{◌≡◌, ◌∙◌, ◌&&◌, ℕ, ◌^◌, Bool, not, cond, nat_lt, List, ap, refl, subst, Option, None, Some}
use Rattle.std.specs.Prelude.{IsTrue, is_some, slice_get}
use Rattle.std.specs.Option.{option_map, option_map_or}
use Rattle.aria_page.specs.Page.{zero_page, page_body}
use Rattle.aria_page.specs.declared.place.Part.{Part}
use Rattle.aria_page.specs.declared.place.Part.TheVariants as parts
use Rattle.aria_host.specs.declared.fault.Fault.{Fault}
use Rattle.aria_host.specs.declared.file_name.FileName.{FileName}
use Rattle.aria_host.specs.declared.file_name.FileName.TheVariants.{Keys, Rows}
use Rattle.aria_host.specs.Folder.{Folder}
use Rattle.aria_log.specs.Log.{place}
use Rattle.aria_cache.specs.Frames.{held}
use Rattle.aria_cache.specs.Key.{key_of}
use Rattle.aria_recovery.specs.Redo.{number_at}
use Rattle.aria_recovery.specs.Images.{page_of}
use Rattle.aria_pager.specs.declared.page_store.PageStore.{PageStore}
use Rattle.aria_pager.specs.PageStore.{sizes_in, late_seen, with_rest}
use Rattle.aria_pager.specs.View.{slot_from, slot_of, size_in, count_at, body_or, whole_body, body_at, late_at, page_counts, page_bodies, page_late}
use Rattle.aria_pager.specs.Looks.{KeepsPages}

-- what callers see of the pages is the same
pub record SameView (a b : PageStore) (d : Folder) : Type 0 where
  pub counts : page_counts b ≡ page_counts a
  pub bodies : page_bodies b d ≡ page_bodies a d
  pub late : page_late b d ≡ page_late a d

pub view_same : (a b : PageStore) (d : Folder) → b.slots ≡ a.slots → held b.frames ≡ held a.frames → b.log ≡ a.log → SameView a b d
view_same a b d slots frames log = record { counts = λ i f. counts f i; bodies = λ i f n. bodies f n i; late = λ i f n. lates f n i }
  where
    count : (part : Part) (o : Option ℕ) → count_at b part o ≡ count_at a part o
    count part None = refl
    count part (Some n) = λ i. option_map_or (size_in part) (option_map sizes_in (slice_get (slots i) n)) 0

    body : (name : List ℕ) (part : Part) (page : ℕ) (o : Option ℕ) → body_at b d name part page o ≡ body_at a d name part page o
    body name part page None = refl
    body name part page (Some n) = λ i. cond (nat_lt page (option_map_or (size_in part) (option_map sizes_in (slice_get (slots i) n)) 0))
        (whole_body (body_or (page_of d name part page) (cond (nat_lt page (2 ^ 31)) (frames i (key_of (record { slot = n; part = part; page = page }))) None))) (Some (page_body zero_page))

    late : (name : List ℕ) (part : Part) (page : ℕ) (o : Option ℕ) → late_at b d name part page o ≡ late_at a d name part page o
    late name part page None = refl
    late name part page (Some n) = λ i. not (is_some (cond (nat_lt page (2 ^ 31)) (frames i (key_of (record { slot = n; part = part; page = page }))) None)) && late_seen (number_at (place (log i))) (page_of d name part page)

    found : (name : List ℕ) → slot_of b name ≡ slot_of a name
    found name = ap (slot_from name 0) slots

    counts : (f : FileName) → page_counts b f ≡ page_counts a f
    counts (Keys name) = ap (count_at b parts.Keys) (found name) ∙ count parts.Keys (slot_of a name)
    counts (Rows name) = ap (count_at b parts.Rows) (found name) ∙ count parts.Rows (slot_of a name)
    counts _ = refl

    bodies : (f : FileName) (n : ℕ) → page_bodies b d f n ≡ page_bodies a d f n
    bodies (Keys name) n = ap (body_at b d name parts.Keys n) (found name) ∙ body name parts.Keys n (slot_of a name)
    bodies (Rows name) n = ap (body_at b d name parts.Rows n) (found name) ∙ body name parts.Rows n (slot_of a name)
    bodies _ n = refl

    lates : (f : FileName) (n : ℕ) → page_late b d f n ≡ page_late a d f n
    lates (Keys name) n = ap (late_at b d name parts.Keys n) (found name) ∙ late name parts.Keys n (slot_of a name)
    lates (Rows name) n = ap (late_at b d name parts.Rows n) (found name) ∙ late name parts.Rows n (slot_of a name)
    lates _ n = refl

-- a view that is the same keeps the pages
pub looks_view : (a b : PageStore) (d : Folder) → SameView a b d → KeepsPages a b d d
looks_view a b d same = record { bodies = same.bodies; late = λ f n on. subst (λ (v : FileName → ℕ → Bool). IsTrue (v f n)) same.late on }

pub looks_rest : (store : PageStore) (in_group : Bool) (made lent : ℕ) (kept : Option Fault) (d : Folder) → KeepsPages store (with_rest store in_group made lent kept) d d
looks_rest store in_group made lent kept d = looks_view store (with_rest store in_group made lent kept) d (view_same store (with_rest store in_group made lent kept) d refl refl refl)
