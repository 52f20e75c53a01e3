-- The files of a folder are brought to the disk.
use Rattle.std.proofs.Common.{rules, ◌≡◌, ◌∙◌, ◌||◌, ℕ, zero, suc, ◌+◌, ◌<◌, ◌≤◌, Bool, true, false, List, [], ◌∷◌, length, take, get_or, ap, sym, refl, subst, arith, Option, None, Some, inl, inr}
use Rattle.std.specs.Prelude.{IsSome, is_some}
use Rattle.std.specs.List.{list_any}
use Rattle.std.proofs.lemmas.Bool.{cases_Bool}
use Rattle.std.proofs.lemmas.List.{take_more, take_all}
use Rattle.std.proofs.lemmas.List.Folds.{list_any-append}
use Rattle.aria_page.specs.declared.place.Part.{Part}
use Rattle.aria_page.specs.declared.place.Part.TheVariants.{Keys as KeysPart, Rows as RowsPart}
use Rattle.aria_host.specs.Calls.{HaveNames, Lists, Narrows}
use Rattle.aria_host.specs.declared.file_name.FileName.{FileName}
use Rattle.aria_host.specs.declared.file_name.FileName.TheVariants.{Control, Log, NewKeys, NewRows, Keys, Rows}
use Rattle.aria_host.specs.Moments.{SameBut}
use Rattle.aria_host.specs.Folder.{Folder, IsFileName, same_file}
use Rattle.aria_host.specs.State.{State}
use Rattle.aria_host.proofs.Files.{same_file-refl, same_file-true}
use Rattle.aria_recovery.specs.Tables.{file}
use Rattle.aria_control.specs.Found.{is_control}
use Rattle.aria_pager.specs.Found.{is_part, AreFiles, IsDurable}
use Rattle.aria_pager.proofs.Beginning.{none_durable}
use Rattle.aria_pager.proofs.Listed.{counted}

-- ---- behind calls that only look

pub still_names : (s t : State) → Narrows s t → HaveNames s → HaveNames t
still_names s t same names c leaves f form = names c (same.no_more c leaves) f form ∙ ap (λ (d : Folder). is_some (d f)) (sym same.folder)

pub still_durable : (s t : State) (f : FileName) → Narrows s t → IsDurable f s → IsDurable f t
still_durable s t f same durable c leaves = durable c (same.no_more c leaves) ∙ sym (ap (λ (d : Folder). d f) same.folder)

-- ---- files that are listed

-- a file is listed exactly where it is there
pub listed_is : (names : List FileName) (d : Folder) → Lists d names → AreFiles names d
listed_is names d lists f form other = counted (same_file f) names (is_some (d f)) (lists f form)

-- and where it is there in a folder that differs in the control file alone
pub listed_on : (names : List FileName) (d folder : Folder) → SameBut is_control d folder → AreFiles names d → AreFiles names folder
listed_on names d folder same listed f form other = listed f form other ∙ ap is_some (sym (same f other))

-- a file of a table isn't the control file
no_control_file : (f : FileName) → is_part f ≡ true → is_control f ≡ false
no_control_file (Keys name) part = refl
no_control_file (Rows name) part = refl
no_control_file Control part = absurd (let e : false ≡ true = part in (cc))
no_control_file (Log n) part = refl
no_control_file (NewKeys name) part = refl
no_control_file (NewRows name) part = refl

test_some : (o : Option (List (List ℕ))) → is_some o ≡ true → IsSome o
test_some None e = absurd (let f : false ≡ true = e in (cc))
test_some (Some pages) e = search rules

or_true : (b : Bool) → b || true ≡ true
or_true true = refl
or_true false = refl

pub any_at : {A : Type 0} (p : A → Bool) (names : List A) (i : ℕ) (z : A) → i < length names → p (get_or names i z) ≡ true → list_any p names ≡ true
any_at p [] i z low is = absurd (omega (arith, low))
any_at p (x ∷ names) zero z low is = ap (λ (b : Bool). b || list_any p names) is
any_at p (x ∷ names) (suc i) z low is = ap (λ (b : Bool). p x || b) (any_at p names i z (omega (arith, low)) is) ∙ or_true (p x)

-- one of the files that are listed is there
pub item_there : (names : List FileName) (s t : State) (i : ℕ) (f : FileName) → AreFiles names s.folder → Narrows s t → i < length names → f ≡ get_or names i f → IsFileName f → is_part f ≡ true → IsSome (t.folder f)
item_there names s t i f listed same low at form part =
    subst (λ (d : Folder). IsSome (d f)) (sym same.folder)
    (test_some (s.folder f) (sym (listed f form (no_control_file f part)) ∙ any_at (same_file f) names i f low (ap (same_file f) (sym at) ∙ same_file-refl f)))

-- ---- files are brought to the disk one after another

-- of the files that are listed, those of tables among so many are on the disk
abbrev pub AreSynced : List FileName → ℕ → State → Type 0
AreSynced names i s = (f : FileName) → is_part f ≡ true → list_any (same_file f) (take i names) ≡ true → IsDurable f s

-- one more
pub synced_more : (names : List FileName) (s t : State) (i : ℕ) (item : FileName) → i < length names → item ≡ get_or names i item → Narrows s t → (is_part item ≡ true → IsDurable item t) → AreSynced names i s → AreSynced names (i + 1) t
synced_more names s t i item low at same now is f part any = elim (cases_Bool (list_any (same_file f) (take i names))) [
  | inl before ↦ still_durable s t f same (is f part before)
  | inr not_before ↦
      let last : list_any (same_file f) (take (i + 1) names) ≡ (list_any (same_file f) (take i names) || (same_file f (get_or names i item) || false)) =
      ap (list_any (same_file f)) (take_more names i item low) ∙ list_any-append (same_file f) (take i names) (get_or names i item ∷ []) in
      let one : f ≡ item = same_file-true f item (own (same_file f item) (sym (ap (λ (b : Bool). b || (same_file f item || false)) not_before) ∙ ap (λ (g : FileName). list_any (same_file f) (take i names) || (same_file f g || false)) at ∙ sym last ∙ any)) in
      subst (λ (g : FileName). IsDurable g t) (sym one) (now (ap is_part (sym one) ∙ part))
]
  where
    own : (b : Bool) → (b || false) ≡ true → b ≡ true
    own true e = refl
    own false e = e

-- ALL OF THEM ARE
pub synced_all : (names : List FileName) (s t : State) (i : ℕ) → length names ≤ i → AreFiles names s.folder → HaveNames s → Narrows s t → AreSynced names i t → (name : List ℕ) (part : Part) → IsDurable (file name part) t
synced_all names s t i end listed have same is name part = elim (cases_Bool (is_some (s.folder (file name part)))) [
  | inl there ↦ is (file name part) (parts part) (ap (list_any (same_file (file name part))) (take_all i names end) ∙ listed (file name part) (form part) (no_control_file (file name part) (parts part)) ∙ there)
  | inr absent ↦ still_durable s t (file name part) same (none_durable s (file name part) (form part) have (none (s.folder (file name part)) absent))
]
  where
    parts : (p : Part) → is_part (file name p) ≡ true
    parts KeysPart = refl
    parts RowsPart = refl

    form : (p : Part) → IsFileName (file name p)
    form KeysPart = tt
    form RowsPart = tt

    none : (o : Option (List (List ℕ))) → is_some o ≡ false → o ≡ None
    none None e = refl
    none (Some pages) e = absurd (let no' : true ≡ false = e in (cc))
