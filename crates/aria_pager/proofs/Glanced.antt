-- Why a page can't be held, in the words of its file.
use Rattle.std.proofs.Common.{◌≡◌, ◌∙◌, ◌&&◌, ℕ, ◌^◌, ◌<◌, Bool, true, not, cond, List, [], ap, sym, refl, subst, Option, None, Some, Result, Ok, Err}
use Rattle.std.specs.Prelude.{IsTrue, is_some, unwrap_or}
use Rattle.aria_page.specs.Page.{zero_page, page_body}
use Rattle.aria_page.specs.declared.place.Part.{Part}
use Rattle.aria_page.specs.declared.place.Part.TheVariants as parts
use Rattle.aria_host.specs.declared.fault.Fault.{Fault}
use Rattle.aria_host.specs.declared.fault.Fault.TheVariants.{Memory, Disk, PageDamaged, LogDamaged}
use Rattle.aria_host.specs.declared.file_name.FileName.{FileName}
use Rattle.aria_host.specs.State.{State}
use Rattle.aria_cache.specs.declared.page_id.PageId.{PageId}
use Rattle.aria_cache.specs.Frames.{Held, held}
use Rattle.aria_cache.specs.Key.{key_of}
use Rattle.aria_cache.specs.PageState.{table_file}
use Rattle.aria_recovery.specs.Redo.{Seen}
use Rattle.aria_recovery.specs.Images.{page_of}
use Rattle.aria_recovery.specs.Tables.{file}
use Rattle.aria_recovery.specs.Frames.{Spot, raw_at}
use Rattle.aria_recovery.proofs.Comparing.{lt_true}
use Rattle.aria_pager.specs.declared.page_store.PageStore.{PageStore}
use Rattle.aria_pager.specs.PageStore.{name_at, spot_of, raw, late_seen}
use Rattle.aria_pager.specs.Pager.{next_number}
use Rattle.aria_pager.specs.Steps.{IsDamaged, OfHold, HasHoldCause}
use Rattle.aria_pager.specs.View.{slot_of, count_at, frame_at, body_or, whole_body, body_at, late_at, page_bodies, page_late, IsTidy}
use Rattle.aria_pager.specs.Looks.{KeepsPages}
use Rattle.aria_pager.specs.Shows.{OfLook, HasLookCause}
use Rattle.aria_pager.proofs.Slots.{key_parts}
use Rattle.aria_pager.proofs.Viewing.{slot_found}
use Rattle.aria_pager.proofs.Bodies.{spot_open}
use Rattle.aria_pager.proofs.Lending.{open_name, file_table}

module _ (tells : Bool) (store store' : PageStore) (old new : State) (at : PageId) (tidy : IsTidy store') (low : at.page < 2 ^ 31) (on : IsTrue (is_some (name_at store at.slot))) (names : name_at store' ≡ name_at store) (keeps : IsTrue tells → KeepsPages store store' old.folder new.folder) where
  abbrev name : List ℕ
  name = unwrap_or (name_at store at.slot) []

  abbrev key : ℕ
  key = key_of at

  named : name_at store' at.slot ≡ Some name
  named = ap (λ (f : ℕ → Option (List ℕ)). f at.slot) names ∙ open_name store at.slot on

  abbrev this : Spot
  this = record { name = name; part = at.part; page = at.page }

  spot : spot_of store' key ≡ Some this
  spot = spot_open store' at.slot name at.part at.page named low

  found : slot_of store' name ≡ Some at.slot
  found = slot_found store' at.slot name tidy named

  raw_is : raw store' new.folder key ≡ page_of new.folder name at.part at.page
  raw_is = ap (raw_at new.folder) spot

  absent : held store'.frames key ≡ None → frame_at store' at.slot at.part at.page ≡ None
  absent free = ap (λ (b : Bool). cond b (held store'.frames key) None) (lt_true at.page (2 ^ 31) low) ∙ free

  bodies_by : (p : Part) → at.part ≡ p → page_bodies store' new.folder (table_file name at.part) at.page ≡ body_at store' new.folder name at.part at.page (slot_of store' name)
  bodies_by parts.Keys is = ap (λ (p : Part). page_bodies store' new.folder (table_file name p) at.page) is ∙ sym (ap (λ (p : Part). body_at store' new.folder name p at.page (slot_of store' name)) is)
  bodies_by parts.Rows is = ap (λ (p : Part). page_bodies store' new.folder (table_file name p) at.page) is ∙ sym (ap (λ (p : Part). body_at store' new.folder name p at.page (slot_of store' name)) is)

  late_by : (p : Part) → at.part ≡ p → page_late store' new.folder (table_file name at.part) at.page ≡ late_at store' new.folder name at.part at.page (slot_of store' name)
  late_by parts.Keys is = ap (λ (p : Part). page_late store' new.folder (table_file name p) at.page) is ∙ sym (ap (λ (p : Part). late_at store' new.folder name p at.page (slot_of store' name)) is)
  late_by parts.Rows is = ap (λ (p : Part). page_late store' new.folder (table_file name p) at.page) is ∙ sym (ap (λ (p : Part). late_at store' new.folder name p at.page (slot_of store' name)) is)

  -- it shows no body
  no_body : held store'.frames key ≡ None → IsDamaged store' new.folder key this → page_bodies store' new.folder (table_file name at.part) at.page ≡ None
  no_body free is =
      bodies_by at.part refl ∙ ap (body_at store' new.folder name at.part at.page) found
      ∙ ap (λ (b : Bool). cond b (whole_body (body_or (page_of new.folder name at.part at.page) (frame_at store' at.slot at.part at.page))) (Some (page_body zero_page)))
      (lt_true at.page (count_at store' at.part (Some at.slot)) (subst (λ (n : ℕ). at.page < count_at store' at.part (Some n)) (key_parts at low).0 is.below))
      ∙ ap (λ (o : Option Held). whole_body (body_or (page_of new.folder name at.part at.page) o)) (absent free)
      ∙ ap (λ (x : Seen). whole_body (body_or x None)) (sym raw_is ∙ is.none)

  -- it is behind the log's end
  is_late : held store'.frames key ≡ None → late_seen (next_number store') (raw store' new.folder key) ≡ true → IsTrue (page_late store' new.folder (table_file name at.part) at.page)
  is_late free late =
      late_by at.part refl ∙ ap (late_at store' new.folder name at.part at.page) found
      ∙ ap (λ (o : Option Held). not (is_some o) && late_seen (next_number store') (page_of new.folder name at.part at.page)) (absent free)
      ∙ ap (late_seen (next_number store')) (sym raw_is) ∙ late

  same_spot : (s : Spot) → spot_of store' key ≡ Some s → this ≡ s
  same_spot s is = some this s (sym spot ∙ is)
    where
      some : (a b : Spot) → Some a ≡ Some b → a ≡ b
      some a b e = cc

  only : (fault : Fault) → OfHold tells store' key old new fault → OfLook tells (table_file name at.part) at.page store old new fault
  only (Memory e) is = is
  only Disk is = is
  only (PageDamaged f n) (s, at_key, file_is, page_is, free, damaged) =
      let same = same_spot s at_key in (
        file_is ∙ ap (λ (s : Spot). file s.name s.part) (sym same) ∙ file_table name at.part,
        page_is ∙ ap (λ (s : Spot). s.page) (sym same),
        λ told. ap (λ (b : FileName → ℕ → Option (List ℕ)). b (table_file name at.part) at.page) (sym (keeps told).bodies) ∙ no_body free (subst (λ (s : Spot). IsDamaged store' new.folder key s) (sym same) (damaged told)),
      )
  only (LogDamaged f n) (is, free, late) = λ told. (keeps told).late (table_file name at.part) at.page (is_late free (late told))
  only _ is = absurd is

  -- WHY IT CAN'T BE HELD
  pub look_cause : {T : Type 0} (result : Result T Fault) → HasHoldCause tells store' key old new result → HasLookCause tells (table_file name at.part) at.page store old new result
  look_cause (Ok x) is = record { only = tt; calm = is.calm; later = is.later; tell = is.tell }
  look_cause (Err fault) is = record { only = only fault is.only; calm = tt; later = is.later; tell = is.tell }
