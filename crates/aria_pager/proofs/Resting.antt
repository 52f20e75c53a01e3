-- Where redo changes nothing, by the tables' files and by the last edits of their pages.
use Rattle.std.proofs.Common.{◌≡◌, ◌∙◌, ◌&&◌, inl, inr, ℕ, suc, ◌≤◌, Bool, true, false, cond, not, nat_lt, List, [], ◌∷◌, ap, sym, refl, subst, arith, Option, None, Some, Err}
use Rattle.std.specs.Prelude.{IsTrue, slice_get}
use Rattle.std.specs.List.{list_all}
use Rattle.std.specs.Map.{lookup}
use Rattle.std.specs.Option.{option_map}
use Rattle.std.specs.BTreeMap.{BTreeMap, get, is_at, IsOrdered}
use Rattle.std.specs.declared.cmp.Ordering.{Ordering}
use Rattle.std.specs.declared.cmp.Ordering.TheVariants.{Less, Equal, Greater}
use Rattle.std.specs.Ordering.{nat_cmp, is_eq}
use Rattle.std.specs.FinMap.{nat_cmp-IsAntisymmetric}
use Rattle.std.proofs.lemmas.Bool.{cases_lt}
use Rattle.std.proofs.lemmas.Cmp.{nat_cmp_total}
use Rattle.std.proofs.lemmas.Map.Entries.{btree_map_get_place}
use Rattle.aria_page.specs.Lsn.{lsn_number}
use Rattle.aria_page.specs.declared.lsn.Lsn.{Lsn}
use Rattle.aria_page.specs.Page.{IsSound, page_lsn, page_body}
use Rattle.aria_page.specs.declared.place.Part.{Part}
use Rattle.aria_host.specs.declared.fault.Fault.{Fault}
use Rattle.aria_host.specs.declared.fault.Fault.TheVariants.{PageDamaged}
use Rattle.aria_host.specs.declared.file_name.FileName.{FileName}
use Rattle.aria_host.specs.Folder.{Folder}
use Rattle.aria_host.specs.Seen.{page_or_zero}
use Rattle.aria_host.specs.State.{State}
use Rattle.aria_record.specs.Logged.{Logged, lsn_at_place}
use Rattle.aria_recovery.specs.Redo.{Seen, Rises, number_at, is_before, reach, seen}
use Rattle.aria_recovery.specs.Tables.{life_of, file}
use Rattle.aria_recovery.specs.Frames.{Spot}
use Rattle.aria_recovery.specs.Images.{page_of}
use Rattle.aria_recovery.specs.Noted.{last_edit}
use Rattle.aria_recovery.proofs.Comparing.{lt_true, lt_false, le_true}
use Rattle.aria_recovery.proofs.Editing.{IsFresh, fresh_still, still_fresh, found_reach}
use Rattle.aria_recovery.proofs.Redoing.{IsFrom}
use Rattle.aria_recovery.proofs.Seeing.{seen_sound}
use Rattle.aria_pager.specs.PageStore.{late_seen}
use Rattle.aria_pager.specs.Steps.{damaged_at}
use Rattle.aria_pager.specs.Resting.{AreRedone, is_past, HasPageCause}
use Rattle.aria_pager.proofs.Stepping.{page_number_is}

-- ---- the entries of a map

-- a test that each entry passes
all_pass : {A : Type 0} (f : A → Bool) (xs : List A) → ((i : ℕ) (x : A) → slice_get xs i ≡ Some x → f x ≡ true) → list_all f xs ≡ true
all_pass f [] each = refl
all_pass f (x ∷ xs) each = ap (λ (b : Bool). b && list_all f xs) (each 0 x refl) ∙ all_pass f xs (λ i y at. each (suc i) y at)

both_true : (a b : Bool) → (a && b) ≡ true → (a ≡ true) × (b ≡ true)
both_true true b on = (refl, on)
both_true false b on = absurd (cc)

is_equal : (r : Ordering) → is_eq r ≡ true → r ≡ Equal
is_equal Less on = absurd (cc)
is_equal Equal on = refl
is_equal Greater on = absurd (cc)

-- the entry of a key passes it, where each does
found_passes : (f : ℕ × Lsn → Bool) (es : List (ℕ × Lsn)) (k : ℕ) (v : Lsn) → list_all f es ≡ true → lookup (is_at (nat_cmp k)) es ≡ Some v → f (k, v) ≡ true
found_passes f [] k v all found = absurd (cc)
found_passes f (e ∷ es) k v all found = by (is_eq (nat_cmp k e.0)) refl found (λ rest. found_passes f es k v (both_true (f e) (list_all f es) all).1 rest)
  where
    some : (a b : Lsn) → Some a ≡ Some b → a ≡ b
    some a b same = cc

    by : (b : Bool) → is_eq (nat_cmp k e.0) ≡ b → cond b (Some e.1) (lookup (is_at (nat_cmp k)) es) ≡ Some v → (lookup (is_at (nat_cmp k)) es ≡ Some v → f (k, v) ≡ true) → f (k, v) ≡ true
    by true on is more = ap f (λ i. (same i, sym (some e.1 v is) i)) ∙ (both_true (f e) (list_all f es) all).0
      where
        same : k ≡ e.0
        same = nat_cmp-IsAntisymmetric k e.0 (is_equal (nat_cmp k e.0) on)
    by false off is more = more is

-- ---- the pages of a file

past_from : (at : ℕ) (x : Seen) → not (is_before (number_at at) x) ≡ true → IsFrom (number_at at) x
past_from at None on = tt
past_from at (Some s) on = elim (cases_lt s.0 (number_at at)) [
  | inl low ↦ absurd (let e : false ≡ true = sym (ap not (lt_true s.0 (number_at at) low)) ∙ on in (cc))
  | inr high ↦ high
]

from_past : (at : ℕ) (x : Seen) → IsFrom (number_at at) x → not (is_before (number_at at) x) ≡ true
from_past at None from = refl
from_past at (Some s) from = ap not (lt_false s.0 (number_at at) from)

module _ (folder : Folder) (groups : List Logged) (name : List ℕ) (part : Part) (rises : Rises 0 groups) where
  -- a file of which no group edits a page
  pub untold_redone : ((n : ℕ) → None ≡ option_map lsn_at_place (last_edit name part n groups)) → AreRedone folder groups name part
  untold_redone none n = fresh_still name part n groups (page_of folder name part n) rises (by (last_edit name part n groups) (none n))
    where
      by : (o : Option ℕ) → None ≡ option_map lsn_at_place o → IsFresh o (page_of folder name part n)
      by None is = tt
      by (Some at) is = absurd (cc)

  pub silent_redone : reach name part (life_of name groups).since ≡ 0 → AreRedone folder groups name part
  silent_redone none n = fresh_still name part n groups (page_of folder name part n) rises (by (last_edit name part n groups) refl)
    where
      by : (o : Option ℕ) → last_edit name part n groups ≡ o → IsFresh o (page_of folder name part n)
      by None is = tt
      by (Some at) is = absurd (let low = found_reach name part n at (life_of name groups).since is in omega (arith, low, none))

  module _ (pages : BTreeMap ℕ Lsn) (are : (n : ℕ) → get nat_cmp pages n ≡ option_map lsn_at_place (last_edit name part n groups)) where
    -- REDO LEAVES EACH PAGE where none stands before its last edit
    pub pages_redone : list_all (is_past folder name part) pages.entries ≡ true → AreRedone folder groups name part
    pages_redone all n = fresh_still name part n groups (page_of folder name part n) rises (by (last_edit name part n groups) refl)
      where
        by : (o : Option ℕ) → last_edit name part n groups ≡ o → IsFresh o (page_of folder name part n)
        by None is = tt
        by (Some at) is = past_from at (page_of folder name part n)
            (found_passes (is_past folder name part) pages.entries n (lsn_at_place at) all (are n ∙ ap (option_map lsn_at_place) is))

    -- and only there
    pub redone_pages : IsOrdered nat_cmp pages → AreRedone folder groups name part → list_all (is_past folder name part) pages.entries ≡ true
    redone_pages ordered redone = all_pass (is_past folder name part) pages.entries each
      where
        each : (i : ℕ) (e : ℕ × Lsn) → slice_get pages.entries i ≡ Some e → is_past folder name part e ≡ true
        each i e at = by (last_edit name part e.0 groups) refl (sym (are e.0) ∙ btree_map_get_place nat_cmp_total pages i e.0 e.1 ordered at)
          where
            some : (a b : Lsn) → Some a ≡ Some b → a ≡ b
            some a b same = cc

            by : (o : Option ℕ) → last_edit name part e.0 groups ≡ o → option_map lsn_at_place o ≡ Some e.1 → is_past folder name part e ≡ true
            by None is found = absurd (cc)
            by (Some at) is found =
                let x : Seen = page_of folder name part e.0 in
                let from : IsFrom (number_at at) x = subst (λ (o : Option ℕ). IsFresh o x) is (still_fresh name part e.0 groups x (redone e.0)) in
                subst (λ (l : Lsn). not (is_before (lsn_number l) x) ≡ true) (some (lsn_at_place at) e.1 found) (from_past at x from)

-- ---- a page that was read

-- what it is seen as
seen_is : (folder : Folder) (name : List ℕ) (part : Part) (n : ℕ) (page : List ℕ) (lsn : Lsn) → page ≡ page_or_zero n (folder (file name part)) → IsSound page → lsn ≡ page_lsn page → page_of folder name part n ≡ Some (lsn_number lsn, page_body page)
seen_is folder name part n page lsn is sound lsn_is = ap seen (sym is) ∙ seen_sound page sound ∙ (λ i. Some ((page_number_is page ∙ ap lsn_number (sym lsn_is)) i, page_body page))

pub past_page : (folder : Folder) (name : List ℕ) (part : Part) (n : ℕ) (page : List ℕ) (lsn edit : Lsn) → page ≡ page_or_zero n (folder (file name part)) → IsSound page → lsn ≡ page_lsn page → not (nat_lt (lsn_number lsn) (lsn_number edit)) ≡ is_past folder name part (n, edit)
past_page folder name part n page lsn edit is sound lsn_is = sym (ap (λ (x : Seen). not (is_before (lsn_number edit) x)) (seen_is folder name part n page lsn is sound lsn_is))

pub late_page : (folder : Folder) (name : List ℕ) (part : Part) (n : ℕ) (page : List ℕ) (lsn end : Lsn) → page ≡ page_or_zero n (folder (file name part)) → IsSound page → lsn ≡ page_lsn page → lsn_number end ≤ lsn_number lsn → late_seen (lsn_number end) (page_of folder name part n) ≡ true
late_page folder name part n page lsn end is sound lsn_is late = ap (late_seen (lsn_number end)) (seen_is folder name part n page lsn is sound lsn_is) ∙ le_true (lsn_number end) (lsn_number lsn) late

module _ {T : Type 0} (tells : Bool) (end : Lsn) (among : Spot → Bool) (s t : State) (disk : t.disk_faults ≡ s.disk_faults) (tell : t.tell_faults ≡ s.tell_faults) where
  -- it isn't sound
  pub damaged_page : (sp : Spot) (f : FileName) → among sp ≡ true → f ≡ file sp.name sp.part → (IsTrue tells → page_of s.folder sp.name sp.part sp.page ≡ None) → HasPageCause {T = T} tells end among s t (Err (PageDamaged f sp.page))
  damaged_page sp f on is none = record { only = (sp, on, is, refl, none); counted = λ e. absurd (cc); calm = tt; later = omega (arith, disk); tell = tell }

  -- it is ahead of the log
  pub ahead_page : (sp : Spot) (fault : Fault) → among sp ≡ true → fault ≡ damaged_at end → (IsTrue tells → late_seen (lsn_number end) (page_of s.folder sp.name sp.part sp.page) ≡ true) → HasPageCause {T = T} tells end among s t (Err fault)
  ahead_page sp fault on is late = subst (λ (f : Fault). HasPageCause {T = T} tells end among s t (Err f)) (sym is) (record { only = (sp, on, refl, late); counted = λ e. absurd (cc); calm = tt; later = omega (arith, disk); tell = tell })
