-- The files of tables are settled name by name, and what a repair has left is removed.
use Rattle.std.proofs.Common.{◌≡◌, ◌∙◌, ◌&&◌, ◌||◌, ◌⊎◌, inl, inr, ℕ, ◌+◌, ◌<◌, ◌≤◌, Bool, true, false, List, [], ◌∷◌, length, take, get_or, ap, sym, refl, subst, Option, None, Some, Result, Ok, Err}
use Rattle.std.specs.Prelude.{IfErr, alloc_error}
use Rattle.std.specs.List.{list_any}
use Rattle.std.specs.Cmp.Lexicographic.{bytes_decides}
use Rattle.std.proofs.lemmas.Bool.{cases_Bool}
use Rattle.std.proofs.lemmas.Result.{on_ok_weaker}
use Rattle.std.proofs.lemmas.List.{take_more}
use Rattle.std.proofs.lemmas.List.Folds.{list_any-append}
use Rattle.aria_page.specs.declared.lsn.Lsn.{Lsn}
use Rattle.aria_page.specs.declared.place.Part.{Part}
use Rattle.aria_page.specs.declared.place.Part.TheVariants.{Keys, Rows}
use Rattle.aria_value.specs.Named.{same_name}
use Rattle.aria_host.specs.Calls.{HasDiskCause}
use Rattle.aria_host.specs.Count.{Rose}
use Rattle.aria_host.specs.declared.fault.Fault.{Fault}
use Rattle.aria_host.specs.declared.fault.Fault.TheVariants.{Memory, Disk, LogDamaged}
use Rattle.aria_host.specs.declared.file_name.FileName.{FileName}
use Rattle.aria_host.specs.declared.file_name.FileName.TheVariants as files
use Rattle.aria_host.specs.Folder.{Folder, same_file, with_file}
use Rattle.aria_host.specs.State.{State}
use Rattle.aria_host.proofs.Files.{same_file-refl, same_file-true}
use Rattle.aria_record.specs.Logged.{Logged}
use Rattle.aria_recovery.specs.declared.life.Told.TheVariants as told
use Rattle.aria_recovery.specs.Noted.{told_of}
use Rattle.aria_recovery.specs.Tables.{Maker, life_of, file}
use Rattle.aria_recovery.proofs.Stepping.{tables_same}
use Rattle.aria_pager.specs.Found.{HasCause, IsWalkFault, is_part}
use Rattle.aria_pager.specs.Grouped.{HasGroupCause}
use Rattle.aria_pager.specs.Prepared.{IsFree, IsSettledBy, IsSettledName, may_change, is_table_file}
use Rattle.aria_pager.specs.Turns.{is_aside}
use Rattle.aria_pager.proofs.Founding.{any_at}

-- ---- faults

pub walk_disk : {T : Type 0} (tells : Bool) (s t : State) (r : Result T Fault) → HasDiskCause s t r → HasCause (IsWalkFault tells) s t r
walk_disk {T} tells s t (Ok x) is = record { only = tt; counted = is.counted; calm = is.calm; later = is.later; tell = is.tell }
walk_disk {T} tells s t (Err fault) is = record { only = subst (IsWalkFault tells) (sym is.only) tt; counted = is.counted; calm = is.calm; later = is.later; tell = is.tell }

pub walk_group : {T : Type 0} (tells : Bool) (s t : State) (r : Result T Fault) → HasGroupCause tells s t r → HasCause (IsWalkFault tells) s t r
walk_group {T} tells s t (Ok x) is = record { only = tt; counted = is.counted; calm = is.calm; later = is.later; tell = is.tell }
walk_group {T} tells s t (Err fault) is = record { only = by is.only; counted = is.counted; calm = is.calm; later = is.later; tell = is.tell }
  where
    by : (fault ≡ Memory alloc_error) ⊎ ((fault ≡ Disk) ⊎ ((tells ≡ false) × (n : ℕ) × (page : ℕ) × (fault ≡ LogDamaged n page))) → IsWalkFault tells fault
    by (inl memory) = subst (IsWalkFault tells) (sym memory) tt
    by (inr (inl disk)) = subst (IsWalkFault tells) (sym disk) tt
    by (inr (inr (off, n, page, damaged))) = subst (IsWalkFault tells) (sym damaged) off

-- one of the disk, behind a group that was read
pub group_on : {T : Type 0} (tells : Bool) (s m t : State) (r : Result T Fault) → m.disk_faults ≡ s.disk_faults → m.tell_faults ≡ s.tell_faults → HasDiskCause m t r → HasGroupCause tells s t r
group_on {T} tells s m t r disk tell is = record {
  only = by r is.only;
  counted = λ e. subst (λ (n : ℕ). Rose n t.disk_faults) disk (is.counted e);
  calm = on_ok_weaker r (λ (x : t.disk_faults ≡ m.disk_faults). x ∙ disk) is.calm;
  later = subst (λ (n : ℕ). n ≤ t.disk_faults) disk is.later;
  tell = is.tell ∙ tell;
}
  where
    by : (q : Result T Fault) → IfErr q (λ fault. fault ≡ Disk) → IfErr q (λ fault. (fault ≡ Memory alloc_error) ⊎ ((fault ≡ Disk) ⊎ ((tells ≡ false) × (n : ℕ) × (page : ℕ) × (fault ≡ LogDamaged n page))))
    by (Ok x) e = tt
    by (Err fault) e = inr (inl e)

-- ---- what the groups told last

pub told_nothing : (last : Option (Option Maker)) → told.Nothing ≡ told_of last → last ≡ None
told_nothing None is = refl
told_nothing (Some None) is = absurd (cc)
told_nothing (Some (Some maker)) is = absurd (cc)

pub told_dropped : (last : Option (Option Maker)) → told.Dropped ≡ told_of last → last ≡ Some None
told_dropped None is = absurd (cc)
told_dropped (Some None) is = refl
told_dropped (Some (Some maker)) is = absurd (cc)

pub told_made : (last : Option (Option Maker)) (at : Lsn) → told.Made at ≡ told_of last → (maker : Maker) × (last ≡ Some (Some maker)) × (maker.at ≡ at)
told_made None at is = absurd (cc)
told_made (Some None) at is = absurd (cc)
told_made (Some (Some maker)) at is = (maker, refl, same at maker.at is)
  where
    same : (a b : Lsn) → told.Made a ≡ told.Made b → b ≡ a
    same a b e = cc

-- ---- a name's files

pub settled_as : (name : List ℕ) (groups : List Logged) (folder : Folder) (last : Option (Option Maker)) → (life_of name groups).last ≡ last → ((part : Part) → IsSettledBy last (folder (file name part))) → IsSettledName name groups folder
settled_as name groups folder last is by part = subst (λ (l : Option (Option Maker)). IsSettledBy l (folder (file name part))) (sym is) (by part)

-- the files of another name stay
pub other_name : (name q : List ℕ) (old new : Folder) → same_name name q ≡ false → ((f : FileName) → same_file (file name Keys) f ≡ false → same_file (file name Rows) f ≡ false → new f ≡ old f) → (part : Part) → new (file q part) ≡ old (file q part)
other_name name q old new off others Keys = others (files.Keys q) off refl
other_name name q old new off others Rows = others (files.Rows q) refl off

-- other files stay
pub other_kind : (name : List ℕ) (f : FileName) (old new : Folder) → is_part f ≡ false → ((g : FileName) → same_file (file name Keys) g ≡ false → same_file (file name Rows) g ≡ false → new g ≡ old g) → new f ≡ old f
other_kind name files.Control old new off others = others files.Control refl refl
other_kind name (files.Log n) old new off others = others (files.Log n) refl refl
other_kind name (files.Keys q) old new off others = absurd (let e : true ≡ false = off in (cc))
other_kind name (files.Rows q) old new off others = absurd (let e : true ≡ false = off in (cc))
other_kind name (files.NewKeys q) old new off others = others (files.NewKeys q) refl refl
other_kind name (files.NewRows q) old new off others = others (files.NewRows q) refl refl

pub aside_kind : (f : FileName) → is_aside f ≡ true → is_part f ≡ false
aside_kind files.Control on = refl
aside_kind (files.Log n) on = refl
aside_kind (files.Keys q) on = absurd (let e : false ≡ true = on in (cc))
aside_kind (files.Rows q) on = absurd (let e : false ≡ true = on in (cc))
aside_kind (files.NewKeys q) on = refl
aside_kind (files.NewRows q) on = refl

own : (b : Bool) → (b || false) ≡ true → b ≡ true
own true e = refl
own false e = e

before : (a b : Bool) → (a || (b || false)) ≡ true → b ≡ false → a ≡ true
before true b e off = refl
before false true e off = absurd (let f : true ≡ false = off in (cc))
before false false e off = absurd (let f : false ≡ true = e in (cc))

-- one name more is settled
pub settled_more : (names : List (List ℕ)) (i : ℕ) (name : List ℕ) (groups : List Logged) (old new : Folder) → i < length names → name ≡ get_or names i name → IsSettledName name groups new
    → ((f : FileName) → same_file (file name Keys) f ≡ false → same_file (file name Rows) f ≡ false → new f ≡ old f) → ((q : List ℕ) → list_any (same_name q) (take i names) ≡ true → IsSettledName q groups old)
    → (q : List ℕ) → list_any (same_name q) (take (i + 1) names) ≡ true → IsSettledName q groups new
settled_more names i name groups old new low at now others was q any = elim (cases_Bool (same_name name q)) [
  | inl same ↦ subst (λ (p : List ℕ). IsSettledName p groups new) ((bytes_decides name q).0 same) now
  | inr off ↦ λ part. subst (IsSettledBy (life_of q groups).last) (sym (other_name name q old new off others part)) (was q (before (list_any (same_name q) (take i names)) (same_name q name) all (turned off)) part)
]
  where
    all : (list_any (same_name q) (take i names) || (same_name q name || false)) ≡ true
    all = ap (λ (p : List ℕ). list_any (same_name q) (take i names) || (same_name q p || false)) at ∙ sym (ap (list_any (same_name q)) (take_more names i name low) ∙ list_any-append (same_name q) (take i names) (get_or names i name ∷ [])) ∙ any

    turned : same_name name q ≡ false → same_name q name ≡ false
    turned off = elim (cases_Bool (same_name q name)) [
      | inl same ↦ absurd (let e : false ≡ true = sym off ∙ (bytes_decides name q).1 (sym ((bytes_decides q name).0 same)) in (cc))
      | inr apart ↦ apart
    ]

-- a name that isn't among them isn't this one
pub unlisted_apart : (names : List (List ℕ)) (i : ℕ) (name q : List ℕ) → i < length names → name ≡ get_or names i name → list_any (same_name q) names ≡ false → same_name name q ≡ false
unlisted_apart names i name q low at none = elim (cases_Bool (same_name name q)) [
  | inl same ↦ absurd (let e : true ≡ false = sym (any_name names i name low (ap (same_name q) (sym at) ∙ (bytes_decides q name).1 (sym ((bytes_decides name q).0 same)))) ∙ none in (cc))
  | inr off ↦ off
]
  where
    any_name : (xs : List (List ℕ)) (k : ℕ) (z : List ℕ) → k < length xs → same_name q (get_or xs k z) ≡ true → list_any (same_name q) xs ≡ true
    any_name xs k z less is = any_at (same_name q) xs k z less is

-- ---- what a repair has left

aside_files : (f : FileName) (c : Folder) → is_aside f ≡ true → (name : List ℕ) (part : Part) → with_file f None c (file name part) ≡ c (file name part)
aside_files files.Control c on name part = absurd (let e : false ≡ true = on in (cc))
aside_files (files.Log n) c on name part = absurd (let e : false ≡ true = on in (cc))
aside_files (files.Keys q) c on name part = absurd (let e : false ≡ true = on in (cc))
aside_files (files.Rows q) c on name part = absurd (let e : false ≡ true = on in (cc))
aside_files (files.NewKeys q) c on name Keys = refl
aside_files (files.NewKeys q) c on name Rows = refl
aside_files (files.NewRows q) c on name Keys = refl
aside_files (files.NewRows q) c on name Rows = refl

aside_mine : (groups : List Logged) (f : FileName) → is_aside f ≡ true → may_change groups f ≡ true
aside_mine groups files.Control on = absurd (let e : false ≡ true = on in (cc))
aside_mine groups (files.Log n) on = refl
aside_mine groups (files.Keys q) on = absurd (let e : false ≡ true = on in (cc))
aside_mine groups (files.Rows q) on = absurd (let e : false ≡ true = on in (cc))
aside_mine groups (files.NewKeys q) on = refl
aside_mine groups (files.NewRows q) on = refl

aside_table : (f : FileName) → is_aside f ≡ true → is_table_file f ≡ true
aside_table files.Control on = on
aside_table (files.Log n) on = on
aside_table (files.Keys q) on = refl
aside_table (files.Rows q) on = refl
aside_table (files.NewKeys q) on = refl
aside_table (files.NewRows q) on = refl

-- it may be removed
pub aside_free : (f : FileName) (s : State) (groups : List Logged) → is_aside f ≡ true → IsFree f s groups
aside_free f s groups on = record {
  mine = aside_mine groups f on;
  table = aside_table f on;
  agrees = λ c leaves. record { tables = λ m from within name. sym (tables_same c (with_file f None c) (take m groups) name (aside_files f c on name)) };
}

pub aside_apart : (f g : FileName) → is_aside f ≡ true → (is_aside g && same_file f g) ≡ false → same_file f g ≡ false
aside_apart f g on off = elim (cases_Bool (same_file f g)) [
  | inl same ↦ absurd (let e : true ≡ false = sym (ap (λ (b : Bool). b && same_file f g) (ap is_aside (sym (same_file-true f g same)) ∙ on) ∙ same) ∙ off in (cc))
  | inr apart ↦ apart
]

false_and : (a b c : Bool) → (a && b) ≡ false → (c ≡ true → b ≡ true) → (a && c) ≡ false
false_and true b true off up = absurd (let e : true ≡ false = sym (up refl) ∙ off in (cc))
false_and true b false off up = refl
false_and false b c off up = refl

-- a file that isn't among them isn't this one
pub unlisted_aside : (names : List FileName) (i : ℕ) (item f : FileName) → i < length names → item ≡ get_or names i item → (is_aside f && list_any (same_file f) names) ≡ false → (is_aside f && same_file item f) ≡ false
unlisted_aside names i item f low at off = false_and (is_aside f) (list_any (same_file f) names) (same_file item f) off (λ same.
    any_at (same_file f) names i item low (ap (same_file f) (sym at ∙ same_file-true item f same) ∙ same_file-refl f))

-- one more is gone
pub gone_more : (names : List FileName) (i : ℕ) (item : FileName) (old new : Folder) → i < length names → item ≡ get_or names i item → (is_aside item ≡ true → new item ≡ None)
    → ((f : FileName) → (is_aside f && same_file item f) ≡ false → new f ≡ old f) → ((f : FileName) → is_aside f ≡ true → list_any (same_file f) (take i names) ≡ true → old f ≡ None)
    → (f : FileName) → is_aside f ≡ true → list_any (same_file f) (take (i + 1) names) ≡ true → new f ≡ None
gone_more names i item old new low at now others was f on any = elim (cases_Bool (same_file item f)) [
  | inl same ↦ let is : item ≡ f = same_file-true item f same in subst (λ (g : FileName). new g ≡ None) is (now (ap is_aside is ∙ on))
  | inr off ↦ others f (ap (λ (b : Bool). b && same_file item f) on ∙ off) ∙ was f on (before (list_any (same_file f) (take i names)) (same_file f item) all (turned off))
]
  where
    all : (list_any (same_file f) (take i names) || (same_file f item || false)) ≡ true
    all = ap (λ (g : FileName). list_any (same_file f) (take i names) || (same_file f g || false)) at ∙ sym (ap (list_any (same_file f)) (take_more names i item low) ∙ list_any-append (same_file f) (take i names) (get_or names i item ∷ [])) ∙ any

    turned : same_file item f ≡ false → same_file f item ≡ false
    turned off = elim (cases_Bool (same_file f item)) [
      | inl same ↦ absurd (let e : true ≡ false = sym (same_file-refl f) ∙ ap (λ (g : FileName). same_file g f) (same_file-true f item same) ∙ off in (cc))
      | inr apart ↦ apart
    ]
