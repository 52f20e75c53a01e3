-- Causes of calls on the pages of a file that come one after another.
use Rattle.std.proofs.Common.{◌≡◌, ℕ, ◌+◌, ap, ◌≤◌, ◌==◌, ◌&&◌, ◌⊎◌, inl, inr, Bool, true, false, cond, Option, None, Some, List, refl, sym, ◌∙◌, arith, subst}
use Rattle.std.specs.Prelude.{IsTrue, Result, Ok, Err, OnOk}
use Rattle.std.specs.Option.{option_map}
use Rattle.std.proofs.lemmas.Bool.{cases_Bool}
use Rattle.aria_page.specs.declared.edit.Edit.{Edit}
use Rattle.aria_page.specs.declared.group.RedoKind.{RedoKind}
use Rattle.aria_page.specs.declared.place.Part.TheVariants as of_part
use Rattle.aria_page.specs.Edit.{all_edited}
use Rattle.aria_host.specs.declared.fault.Fault.{Fault}
use Rattle.aria_host.specs.declared.fault.Fault.TheVariants.{Memory, Disk, Tell, Input, LogDamaged, LogSpent, ControlDamaged, NotOurs, PageDamaged, FileMissing, TooManyTables}
use Rattle.aria_host.specs.declared.file_name.FileName.{FileName}
use Rattle.aria_host.specs.declared.file_name.FileName.TheVariants.{Rows}
use Rattle.aria_host.specs.Count.{Rose}
use Rattle.aria_host.specs.Folder.{same_file}
use Rattle.aria_host.proofs.Files.{same_file-true}
use Rattle.aria_cache.specs.PageState.{PageState, Bodies, Counts, file_of, with_count}
use Rattle.aria_cache.specs.Calls.{Loads, Edits}
use Rattle.aria_cache.specs.Causes.{OfPage, HasPagesCause}
use Rattle.aria_cache.proofs.Growing.{fewer_on}
use Rattle.aria_cache.proofs.Causing.{cause_weaker, cause_on}
use Rattle.aria_block.specs.Causes.{rows_file, OfFile, OfRows, KeepsSound, HoldsStill}
use Rattle.aria_block.specs.Pieces.{Pieces}
use Rattle.aria_block.specs.DataFile.{HoldsData}

-- ---- what stays sound

pub keeps_loaded : (tells : Bool) (file : FileName) (n : ℕ) (old new : PageState) → Loads tells n old new → KeepsSound tells file old new
keeps_loaded tells file n old new loads = record {
  sound = λ told m none. subst (λ (b : Bodies). b file m ≡ None) (loads.bodies told) none;
  late = loads.late;
  others = λ f other. ap (λ (c : Counts). c f) loads.counts;
}

pub keeps_on : (tells : Bool) (file : FileName) (a b c : PageState) → KeepsSound tells file a b → KeepsSound tells file b c → KeepsSound tells file a c
keeps_on tells file a b c first second = record {
  sound = λ told m none. first.sound told m (second.sound told m none);
  late = λ told. fewer_on a b c (first.late told) (second.late told);
  others = λ f other. second.others f other ∙ first.others f other;
}

none_step : (b : Bool) (es : List Edit) (x : Option (List ℕ)) → cond b (option_map (all_edited es) x) x ≡ None → x ≡ None
none_step true es None is = refl
none_step true es (Some t) is = absurd (cc)
none_step false es x is = is

pub keeps_edited : (tells logged : Bool) (file : FileName) (kind : RedoKind) (slot page : ℕ) (es : List Edit) (old new : PageState) → (IsTrue tells → Edits logged kind slot of_part.Rows page es old new) → new.counts ≡ with_count file (page + 1) old.counts → KeepsSound tells file old new
keeps_edited tells logged file kind slot page es old new edits longer = record {
  sound = λ told m none. none_step (same_file (file_of old slot of_part.Rows) file && (page == m)) es (old.bodies file m) (subst (λ (b : Bodies). b file m ≡ None) (edits told).bodies none);
  late = λ told. (edits told).late;
  others = λ f other. ap (λ (c : Counts). c f) longer ∙ rw other refl;
}

-- ---- counts

same_counts : (file : FileName) (n : ℕ) (counts : Counts) → n ≤ counts file → with_count file n counts ≡ counts
same_counts file n counts low = λ i f. same f (cases_Bool (same_file file f)) i
  where
    same : (f : FileName) → (same_file file f ≡ true) ⊎ (same_file file f ≡ false) → with_count file n counts f ≡ counts f
    same f (inl here) =
        let at : n ≤ counts f = subst (λ (g : FileName). n ≤ counts g) (same_file-true file f here) low in
        rw here (omega (arith, at))
    same f (inr other) = rw other refl

-- an edit of a page of the file makes it no longer
pub edit_counts : {T : Type 0} (r : Result T Fault) (slot n : ℕ) (old mid new : PageState) → mid.counts ≡ old.counts → mid.name ≡ old.name → n ≤ old.counts (rows_file old slot)
    → OnOk r (new.counts ≡ with_count (rows_file mid slot) n mid.counts) → OnOk r (new.counts ≡ old.counts)
edit_counts (Err e) slot n old mid new same names low is = tt
edit_counts (Ok x) slot n old mid new same names low is =
    is ∙ same_counts (rows_file mid slot) n mid.counts (subst (λ (c : Counts). n ≤ c (rows_file mid slot)) (sym same) (subst (λ (f : ℕ → List ℕ). n ≤ old.counts (Rows (f slot))) (sym names) low)) ∙ same

-- ---- causes

of_page : (tells logged : Bool) (file : FileName) (n : ℕ) (old new : PageState) (fault : Fault) → OfPage tells logged file n old new fault → OfFile tells logged file old new fault
of_page tells logged file n old new (Memory e) is = is
of_page tells logged file n old new Disk is = is
of_page tells logged file n old new (PageDamaged f m) (same, at, none) = (same, λ told. subst (λ (k : ℕ). old.bodies file k ≡ None) (sym at) (none told))
of_page tells logged file n old new (LogDamaged f m) (log, late) = (log, λ told. (n, late told))
of_page tells logged file n old new Tell is = absurd is
of_page tells logged file n old new Input is = absurd is
of_page tells logged file n old new (LogSpent f) is = absurd is
of_page tells logged file n old new ControlDamaged is = absurd is
of_page tells logged file n old new (NotOurs f) is = absurd is
of_page tells logged file n old new (FileMissing f) is = absurd is
of_page tells logged file n old new TooManyTables is = absurd is

-- a call on one page
pub page_cause : (tells logged : Bool) (file : FileName) (n : ℕ) (old new : PageState) (fault : Option Fault) → HasPagesCause (OfPage tells logged file n old new) old new fault → HasPagesCause (OfFile tells logged file old new) old new fault
page_cause tells logged file n old new fault is = cause_weaker (OfPage tells logged file n old new) (OfFile tells logged file old new) old new fault (λ f. of_page tells logged file n old new f) is

behind : (tells logged : Bool) (file : FileName) (a b c : PageState) → KeepsSound tells file a b → b.faults ≡ a.faults → (fault : Fault) → OfFile tells logged file b c fault → OfFile tells logged file a c fault
behind tells logged file a b c keeps calm (Memory e) is = is
behind tells logged file a b c keeps calm Disk is = subst (λ (n : ℕ). Rose n c.faults) calm is
behind tells logged file a b c keeps calm (PageDamaged f n) (same, none) = (same, λ told. keeps.sound told n (none told))
behind tells logged file a b c keeps calm (LogDamaged f n) (log, late) = (log, λ told. at told (late told))
  where
    at : IsTrue tells → (m : ℕ) × IsTrue (b.late file m) → (m : ℕ) × IsTrue (a.late file m)
    at told (m, is) = (m, (keeps.late told).late file m is)
behind tells logged file a b c keeps calm Tell is = absurd is
behind tells logged file a b c keeps calm Input is = absurd is
behind tells logged file a b c keeps calm (LogSpent f) is = absurd is
behind tells logged file a b c keeps calm ControlDamaged is = absurd is
behind tells logged file a b c keeps calm (NotOurs f) is = absurd is
behind tells logged file a b c keeps calm (FileMissing f) is = absurd is
behind tells logged file a b c keeps calm TooManyTables is = absurd is

-- a call that answered no fault, and one behind it
pub cause_then : (tells logged : Bool) (file : FileName) (a b c : PageState) (fault : Option Fault) → KeepsSound tells file a b → HasPagesCause (OfFile tells logged file a b) a b None → b.kept ≡ None
    → HasPagesCause (OfFile tells logged file b c) b c fault → HasPagesCause (OfFile tells logged file a c) a c fault
cause_then tells logged file a b c fault keeps first kept second =
    cause_on (OfFile tells logged file a b) (OfFile tells logged file a c) a b c fault first kept
    (cause_weaker (OfFile tells logged file b c) (OfFile tells logged file a c) b c fault (λ f. behind tells logged file a b c keeps (first.calm refl) f) second)

-- ---- whole data files

of_file : (tells logged : Bool) (file : FileName) (old new : PageState) (fault : Fault) → OfFile tells logged file old new fault → OfRows tells logged file old new fault
of_file tells logged file old new (Memory e) is = is
of_file tells logged file old new Disk is = is
of_file tells logged file old new (PageDamaged f n) (same, none) = (same, λ told pieces holds. let some = holds.sound n in let no_page = none told in let clash = subst (λ (x : Option (List ℕ)). x ≡ None) some no_page in absurd (cc))
of_file tells logged file old new (LogDamaged f n) is = is
of_file tells logged file old new Tell is = absurd is
of_file tells logged file old new Input is = absurd is
of_file tells logged file old new (LogSpent f) is = absurd is
of_file tells logged file old new ControlDamaged is = absurd is
of_file tells logged file old new (NotOurs f) is = absurd is
of_file tells logged file old new (FileMissing f) is = absurd is
of_file tells logged file old new TooManyTables is = absurd is

pub rows_cause : (tells logged : Bool) (file : FileName) (old new : PageState) (fault : Option Fault) → HasPagesCause (OfFile tells logged file old new) old new fault → HasPagesCause (OfRows tells logged file old new) old new fault
rows_cause tells logged file old new fault is = cause_weaker (OfFile tells logged file old new) (OfRows tells logged file old new) old new fault (λ f. of_file tells logged file old new f) is

rows_behind : (tells logged : Bool) (file : FileName) (a b c : PageState) → KeepsSound tells file a b → HoldsStill tells file a b → b.faults ≡ a.faults → (fault : Fault) → OfRows tells logged file b c fault → OfRows tells logged file a c fault
rows_behind tells logged file a b c keeps still calm (Memory e) is = is
rows_behind tells logged file a b c keeps still calm Disk is = subst (λ (n : ℕ). Rose n c.faults) calm is
rows_behind tells logged file a b c keeps still calm (PageDamaged f n) (same, broken) = (same, λ told pieces holds. at told (still.data_file told pieces holds))
  where
    at : IsTrue tells → (kept : Pieces) × HoldsData (b.counts file) (b.bodies file) kept → ⊥
    at told (kept, holds) = broken told kept holds
rows_behind tells logged file a b c keeps still calm (LogDamaged f n) (log, late) = (log, λ told. at told (late told))
  where
    at : IsTrue tells → (m : ℕ) × IsTrue (b.late file m) → (m : ℕ) × IsTrue (a.late file m)
    at told (m, is) = (m, (keeps.late told).late file m is)
rows_behind tells logged file a b c keeps still calm Tell is = absurd is
rows_behind tells logged file a b c keeps still calm Input is = absurd is
rows_behind tells logged file a b c keeps still calm (LogSpent f) is = absurd is
rows_behind tells logged file a b c keeps still calm ControlDamaged is = absurd is
rows_behind tells logged file a b c keeps still calm (NotOurs f) is = absurd is
rows_behind tells logged file a b c keeps still calm (FileMissing f) is = absurd is
rows_behind tells logged file a b c keeps still calm TooManyTables is = absurd is

-- a call that answered no fault and kept the data file, and one behind it
pub rows_then : (tells logged : Bool) (file : FileName) (a b c : PageState) (fault : Option Fault) → KeepsSound tells file a b → HoldsStill tells file a b → HasPagesCause (OfRows tells logged file a b) a b None → b.kept ≡ None
    → HasPagesCause (OfRows tells logged file b c) b c fault → HasPagesCause (OfRows tells logged file a c) a c fault
rows_then tells logged file a b c fault keeps still first kept second =
    cause_on (OfRows tells logged file a b) (OfRows tells logged file a c) a b c fault first kept
    (cause_weaker (OfRows tells logged file b c) (OfRows tells logged file a c) b c fault (λ f. rows_behind tells logged file a b c keeps still (first.calm refl) f) second)
