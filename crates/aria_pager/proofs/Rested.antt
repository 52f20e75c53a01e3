-- Pages are looked at, one after another: whether redo leaves each as it is.
use Rattle.std.proofs.Common.{◌≡◌, ◌∙◌, ◌&&◌, ◌↔◌, inr, ℕ, suc, Bool, true, false, List, ◌∷◌, ap, sym, refl, subst, arith, Option, None, Some, Result, Ok, Err}
use Rattle.std.specs.Prelude.{IsTrue, IfOk, IsErrOf, is_some, slice_get}
use Rattle.std.specs.BTreeMap.{BTreeMap, get, IsOrdered}
use Rattle.std.specs.List.{list_all}
use Rattle.std.specs.Option.{option_map}
use Rattle.std.specs.Ordering.{nat_cmp}
use Rattle.aria_page.specs.declared.lsn.Lsn.{Lsn}
use Rattle.aria_page.specs.declared.place.Part.{Part}
use Rattle.aria_page.specs.declared.place.Part.TheVariants.{Keys, Rows}
use Rattle.aria_host.specs.Count.{Rose}
use Rattle.aria_host.specs.declared.fault.Fault.{Fault}
use Rattle.aria_host.specs.declared.fault.Fault.TheVariants.{Disk, PageDamaged, LogDamaged}
use Rattle.aria_host.specs.Folder.{Folder}
use Rattle.aria_host.specs.State.{State}
use Rattle.aria_record.specs.Logged.{Logged, lsn_at_place}
use Rattle.aria_page.specs.Lsn.{lsn_number}
use Rattle.aria_log.specs.declared.log.Log.{Log as LogValue}
use Rattle.aria_log.specs.Log.{place}
use Rattle.aria_recovery.specs.Redo.{Rises}
use Rattle.aria_recovery.specs.Images.{page_of}
use Rattle.aria_recovery.specs.Noted.{last_edit}
use Rattle.aria_recovery.specs.Frames.{Spot}
use Rattle.aria_pager.specs.PageStore.{late_seen}
use Rattle.aria_pager.specs.Entered.{needs_slot}
use Rattle.aria_pager.specs.Resting.{AreRedone, IsRedone, is_past, is_edited, OfPage, HasPageCause, OfEditedPage, HasLookCause}
use Rattle.aria_pager.proofs.Resting.{pages_redone, redone_pages}

-- ---- the entries of a map that are left

pub past_turn : (f : ℕ × Lsn → Bool) (s t all : List (ℕ × Lsn)) (e : ℕ × Lsn) → s ≡ e ∷ t → f e ≡ true → list_all f s ≡ list_all f all → list_all f t ≡ list_all f all
past_turn f s t all e step on was = sym (ap (list_all f) step ∙ ap (λ (b : Bool). b && list_all f t) on) ∙ was

abbrev pub AreOf : BTreeMap ℕ Lsn → List (ℕ × Lsn) → Type 0
AreOf pages s = (i : ℕ) (e : ℕ × Lsn) → slice_get s i ≡ Some e → get nat_cmp pages e.0 ≡ Some e.1

pub left_turn : (pages : BTreeMap ℕ Lsn) (s t : List (ℕ × Lsn)) (e : ℕ × Lsn) → s ≡ e ∷ t → AreOf pages s → AreOf pages t
left_turn pages s t e step left i x at = left (suc i) x (ap (λ (l : List (ℕ × Lsn)). slice_get l (suc i)) step ∙ at)

pub left_first : (pages : BTreeMap ℕ Lsn) (s t : List (ℕ × Lsn)) (e : ℕ × Lsn) → s ≡ e ∷ t → AreOf pages s → is_some (get nat_cmp pages e.0) ≡ true
left_first pages s t e step left = ap is_some (left 0 e (ap (λ (l : List (ℕ × Lsn)). slice_get l 0) step))

-- ---- causes

of_page : (tells : Bool) (end : Lsn) (d e : Folder) (among : Spot → Bool) → (IsTrue tells → e ≡ d) → (f : Fault) → OfPage tells end e among f → OfPage tells end d among f
of_page tells end d e among same Disk is = tt
of_page tells end d e among same (PageDamaged f n) (sp, on, file_is, page_is, none) = (sp, on, file_is, page_is, λ told. ap (λ (x : Folder). page_of x sp.name sp.part sp.page) (sym (same told)) ∙ none told)
of_page tells end d e among same (LogDamaged f n) (sp, on, at, late) = (sp, on, at, λ told. ap (λ (x : Folder). late_seen (lsn_number end) (page_of x sp.name sp.part sp.page)) (sym (same told)) ∙ late told)
of_page tells end d e among same f is = absurd is

same_fault : {T : Type 0} (a b : Fault) → IsErrOf {T = T} (Err a) b → a ≡ b
same_fault a b e = cc

-- a call that failed behind others, which only looked
pub page_on : {T S : Type 0} (tells : Bool) (end : Lsn) (among : Spot → Bool) (s m t : State) (r : Result S Fault) (y f : Fault) → r ≡ Err y → y ≡ f → (IsTrue tells → m.folder ≡ s.folder) → m.disk_faults ≡ s.disk_faults → m.tell_faults ≡ s.tell_faults
    → HasPageCause {T = T} tells end among m t (Err f) → HasPageCause {T = S} tells end among s t r
page_on {T} {S} tells end among s m t r y f r_is y_is same disk tell is = subst (HasPageCause {T = S} tells end among s t) (sym r_is) (subst (λ (x : Fault). HasPageCause {T = S} tells end among s t (Err x)) (sym y_is) (record {
  only = of_page tells end s.folder m.folder among same f is.only;
  counted = λ e. subst (λ (n : ℕ). Rose n t.disk_faults) disk (is.counted (ap (λ (x : Fault). Err x) (same_fault {T = S} f Disk e)));
  calm = tt;
  later = omega (arith, disk, is.later);
  tell = is.tell ∙ tell;
}))

pub page_fine : {T : Type 0} (tells : Bool) (end : Lsn) (among : Spot → Bool) (s t : State) (x : T) → t.disk_faults ≡ s.disk_faults → t.tell_faults ≡ s.tell_faults → HasPageCause tells end among s t (Ok x)
page_fine tells end among s t x disk tell = record { only = tt; counted = λ e. absurd (cc); calm = disk; later = omega (arith, disk); tell = tell }

-- an entry of the map tells of a page that the groups edit
pub edited_of : (o : Option ℕ) (p : Option Lsn) → p ≡ option_map lsn_at_place o → is_some p ≡ true → is_some o ≡ true
edited_of None p is there = absurd (let e : false ≡ true = sym (ap is_some is) ∙ there in (cc))
edited_of (Some at) p is there = refl

-- ---- whether redo leaves each page as it is

pub redone_by : {E : Type 0} (r : Result Bool E) (folder : Folder) (groups : List Logged) (name : List ℕ) (part : Part) (pages : BTreeMap ℕ Lsn) → Rises 0 groups → ((n : ℕ) → get nat_cmp pages n ≡ option_map lsn_at_place (last_edit name part n groups))
    → IfOk r (λ b. b ≡ list_all (is_past folder name part) pages.entries) → IfOk r (λ b. IsOrdered nat_cmp pages) → IfOk r (λ b. IsTrue b ↔ AreRedone folder groups name part)
redone_by (Ok b) folder groups name part pages rises are is ordered = (λ on. pages_redone folder groups name part rises pages are (sym is ∙ on), λ redone. is ∙ redone_pages folder groups name part rises pages are ordered redone)
redone_by (Err e) folder groups name part pages rises are is ordered = tt

pub both_redone : {E : Type 0} (r : Result Bool E) (d e : Folder) (groups : List Logged) (name : List ℕ) → e ≡ d → needs_slot name groups ≡ true → AreRedone d groups name Keys → IfOk r (λ b. IsTrue b ↔ AreRedone e groups name Rows) → IfOk r (λ b. IsTrue b ↔ IsRedone d groups name)
both_redone (Ok b) d e groups name same needs keys is = (λ on needs. each on, λ all. is.1 (subst (λ (x : Folder). AreRedone x groups name Rows) (sym same) (all needs Rows)))
  where
    each : IsTrue b → (part : Part) → AreRedone d groups name part
    each on Keys = keys
    each on Rows = subst (λ (x : Folder). AreRedone x groups name Rows) same (is.0 on)
both_redone (Err f) d e groups name same needs keys is = tt

-- ---- a look at a folder

-- the page that can't be looked at is one that the groups edit
pub edited_look : (tells : Bool) (log : LogValue) (end : Lsn) (groups : List Logged) (d e : Folder) → end ≡ lsn_at_place (place log) → (IsTrue tells → e ≡ d) → (f : Fault) → OfPage tells end e (is_edited groups) f → OfEditedPage tells log groups d f
edited_look tells log end groups d e end_is same (PageDamaged f n) is = subst (λ (l : Lsn). OfPage tells l d (is_edited groups) (PageDamaged f n)) end_is (of_page tells end d e (is_edited groups) same (PageDamaged f n) is)
edited_look tells log end groups d e end_is same (LogDamaged f n) is = subst (λ (l : Lsn). OfPage tells l d (is_edited groups) (LogDamaged f n)) end_is (of_page tells end d e (is_edited groups) same (LogDamaged f n) is)
edited_look tells log end groups d e end_is same f is = tt

pub look_page : {T S : Type 0} (tells : Bool) (log : LogValue) (end : Lsn) (s m t : State) (r : Result S Fault) (y f : Fault) → r ≡ Err y → y ≡ f → end ≡ lsn_at_place (place log) → (IsTrue tells → m.folder ≡ s.folder) → m.disk_faults ≡ s.disk_faults → m.tell_faults ≡ s.tell_faults
    → HasPageCause {T = T} tells end (λ x. true) m t (Err f) → HasLookCause {T = S} tells log s t r
look_page {T} {S} tells log end s m t r y f r_is y_is end_is same disk tell is = by (page_on {T = T} {S = S} tells end (λ x. true) s m t (Err f) f f refl refl same disk tell is)
  where
    by : HasPageCause {T = S} tells end (λ x. true) s t (Err f) → HasLookCause {T = S} tells log s t r
    by here = subst (HasLookCause {T = S} tells log s t) (sym r_is) (subst (λ (x : Fault). HasLookCause {T = S} tells log s t (Err x)) (sym y_is) (record {
      only = inr (subst (λ (l : Lsn). OfPage tells l s.folder (λ x. true) f) end_is here.only);
      counted = here.counted;
      calm = tt;
      later = here.later;
      tell = here.tell;
    }))
