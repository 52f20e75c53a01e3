-- Which files of the log are there, by the names that a folder lists, and which is missing.
use Rattle.std.proofs.Common.{◌≡◌, ◌&&◌, ◌||◌, inl, inr, ℕ, ◌+◌, ◌-◌, ◌^◌, ◌<◌, ◌≤◌, Bool, true, false, IsTrue, not, cond, Option, None, Some, List, [], ◌∷◌, refl, sym, ◌∙◌, ap, subst, arith, rules}
use Rattle.std.specs.Prelude.{IsSome, is_some, All, count_by}
use Rattle.std.specs.List.{list_any}
use Rattle.std.proofs.lemmas.Bool.{cases_lt}
use Rattle.std.proofs.lemmas.Bool.Decides.{nat_tests}
use Rattle.std.proofs.lemmas.List.Elements.{All-head, All-tail}
use Rattle.std.proofs.lemmas.List.Sums.{sum_by-cons}
use Rattle.aria_page.specs.declared.lsn.Lsn.{Lsn}
use Rattle.aria_host.specs.declared.file_name.FileName.{FileName}
use Rattle.aria_host.specs.declared.file_name.FileName.TheVariants.{Control, Log, Keys, Rows, NewKeys, NewRows}
use Rattle.aria_host.specs.Folder.{Folder, IsFileName, same_file}
use Rattle.aria_host.specs.Calls.{Lists}
use Rattle.aria_host.proofs.Files.{same_file-refl, same_file-true}
use Rattle.aria_log.specs.Pieces.{LogFiles, log_files}
use Rattle.aria_log.specs.Finding.{is_from, means_none, start_of, HasFrom, IsMissing, NoneMissing, IsLast}
use Rattle.aria_log.proofs.Counting.{not_done}
use Rattle.aria_log.proofs.PutPages.{none_isnt}

-- ---- names

-- one name more
count_cons : (p : FileName → Bool) (f : FileName) (names : List FileName) → count_by p (f ∷ names) ≡ cond (p f) 1 0 + count_by p names
count_cons p f names = sum_by-cons (λ (g : FileName). cond (p g) 1 0) f names

-- a name that is listed and passes a test
record Passes (p : FileName → Bool) (names : List FileName) : Type 0 where
  file : FileName
  form : IsFileName file
  passes : p file ≡ true
  counted : 1 ≤ count_by (same_file file) names

one_passes : (p : FileName → Bool) (names : List FileName) → All IsFileName names → list_any p names ≡ true → Passes p names
one_passes p [] forms e = absurd (cc)
one_passes p (f ∷ names) forms e = over (one_passes p names (All-tail IsFileName f names forms)) (p f) refl
  where
    over : (list_any p names ≡ true → Passes p names) → (b : Bool) → p f ≡ b → Passes p (f ∷ names)
    over next true is = record {
      file = f;
      form = All-head IsFileName f names forms;
      passes = is;
      counted = let one : ℕ = 1 in let own : cond (same_file f f) 1 0 ≡ one = ap (λ (b : Bool). cond b 1 0) (same_file-refl f) in omega (arith, count_cons (same_file f) f names, own);
    }
    over next false is =
        let rest = next (ap (λ (b : Bool). b || list_any p names) (sym is) ∙ e) in
        record { file = rest.file; form = rest.form; passes = rest.passes; counted = omega (arith, count_cons (same_file rest.file) f names, rest.counted) }

-- with no name that passes, none that does is listed
none_passes : (p : FileName → Bool) (names : List FileName) (file : FileName) → list_any p names ≡ false → p file ≡ true → count_by (same_file file) names ≡ 0
none_passes p [] file e passes = refl
none_passes p (f ∷ names) file e passes = over (none_passes p names file) (p f) refl
  where
    other : (b : Bool) → same_file file f ≡ b → p f ≡ false → same_file file f ≡ false
    other true same is = absurd (let e' : true ≡ false = sym passes ∙ ap p (same_file-true file f same) ∙ is in cc)
    other false same is = same

    over : (list_any p names ≡ false → p file ≡ true → count_by (same_file file) names ≡ 0) → (b : Bool) → p f ≡ b → count_by (same_file file) (f ∷ names) ≡ 0
    over next true is = absurd (let e' : true ≡ false = ap (λ (b : Bool). b || list_any p names) (sym is) ∙ e in cc)
    over next false is =
        let rest = next (ap (λ (b : Bool). b || list_any p names) (sym is) ∙ e) passes in
        let none : ℕ = 0 in
        let own : cond (same_file file f) 1 0 ≡ none = ap (λ (b : Bool). cond b 1 0) (other (same_file file f) refl is) in omega (arith, count_cons (same_file file) f names, own, rest)

-- ---- files

is_there : (content : Option (List (List ℕ))) (count : ℕ) → count ≡ cond (is_some content) 1 0 → 1 ≤ count → IsSome content
is_there None count is some = absurd (omega (arith, is, some))
is_there (Some pages) count is some = search rules

isnt_there : (content : Option (List (List ℕ))) (count : ℕ) → count ≡ cond (is_some content) 1 0 → count ≡ 0 → content ≡ None
isnt_there None count is none = refl
isnt_there (Some pages) count is none = absurd (omega (arith, is, none))

-- a file from a number on is there
some_from : (folder : Folder) (names : List FileName) (low : ℕ) → Lists folder names → All IsFileName names → list_any (is_from low) names ≡ true → HasFrom (log_files folder) low
some_from folder names low lists forms any =
    let one = one_passes (is_from low) names forms any in
    by one.file one.form one.passes (is_there (folder one.file) (count_by (same_file one.file) names) (lists one.file one.form) one.counted)
  where
    by : (file : FileName) → IsFileName file → is_from low file ≡ true → IsSome (folder file) → HasFrom (log_files folder) low
    by (Log f) form from there = (f, grind (arith, nat_tests, from), form, there)
    by Control form from there = absurd (cc)
    by (Keys name) form from there = absurd (cc)
    by (Rows name) form from there = absurd (cc)
    by (NewKeys name) form from there = absurd (cc)
    by (NewRows name) form from there = absurd (cc)

-- none is there
none_from : (folder : Folder) (names : List FileName) (low f : ℕ) → Lists folder names → list_any (is_from low) names ≡ false → low ≤ f → f < 2 ^ 24 → folder (Log f) ≡ None
none_from folder names low f lists none from form =
    isnt_there (folder (Log f)) (count_by (same_file (Log f)) names) (lists (Log f) form) (none_passes (is_from low) names (Log f) none (grind (arith, nat_tests, from)))

-- this file is there, or it isn't
log_there : (folder : Folder) (names : List FileName) (f : ℕ) → Lists folder names → All IsFileName names → f < 2 ^ 24 → list_any (same_file (Log f)) names ≡ true → IsSome (folder (Log f))
log_there folder names f lists forms form any =
    let one = one_passes (same_file (Log f)) names forms any in
    let same : one.file ≡ Log f = sym (same_file-true (Log f) one.file one.passes) in
    subst (λ (g : FileName). IsSome (folder g)) same (is_there (folder one.file) (count_by (same_file one.file) names) (lists one.file one.form) one.counted)

log_absent : (folder : Folder) (names : List FileName) (f : ℕ) → Lists folder names → f < 2 ^ 24 → list_any (same_file (Log f)) names ≡ false → folder (Log f) ≡ None
log_absent folder names f lists form none = isnt_there (folder (Log f)) (count_by (same_file (Log f)) names) (lists (Log f) form) (none_passes (same_file (Log f)) names (Log f) none (same_file-refl (Log f)))

-- ---- what is missing

-- The files stand from the base's up to this one, which is the first that isn't there.
record StandUpTo (from : Lsn) (files : LogFiles) (first : ℕ) : Type 0 where
  low : (start_of from).file ≤ first
  below : (f : ℕ) → (start_of from).file ≤ f → f < first → IsSome (files f)
  absent : first < 2 ^ 24 → files first ≡ None

stand_up_to : (folder : Folder) (names : List FileName) (from : Lsn) (first : ℕ) → Lists folder names → All IsFileName names → (start_of from).file ≤ first → first ≤ 2 ^ 24
    → ((f : ℕ) → (start_of from).file ≤ f → f < first → list_any (same_file (Log f)) names ≡ true) → (first < 2 ^ 24 → list_any (same_file (Log first)) names ≡ false) → StandUpTo from (log_files folder) first
stand_up_to folder names from first lists forms low within below absent = record {
  low = low;
  below = λ f from' less. log_there folder names f lists forms (omega (arith, less, within)) (below f from' less);
  absent = λ less. log_absent folder names first lists less (absent less);
}

-- a later file is there
pub missing_before : (folder : Folder) (names : List FileName) (from : Lsn) (first : ℕ) → Lists folder names → All IsFileName names → (start_of from).file ≤ first → first ≤ 2 ^ 24
    → ((f : ℕ) → (start_of from).file ≤ f → f < first → list_any (same_file (Log f)) names ≡ true) → (first < 2 ^ 24 → list_any (same_file (Log first)) names ≡ false)
    → list_any (is_from (first + 1)) names ≡ true → IsMissing from (log_files folder) first
missing_before folder names from first lists forms low within below absent later =
    let stand = stand_up_to folder names from first lists forms low within below absent in
    let (g, over, form, there) = some_from folder names (first + 1) lists forms later in
    record {
      absent = record { low = low; absent = stand.absent (omega (arith, over, form)); needed = inl (g, over, form, there) };
      lowest = λ f is. elim (cases_lt f first) [
        | inr le ↦ le
        | inl less ↦ absurd (none_isnt (log_files folder f) is.absent (stand.below f is.low less))
      ];
    }

-- no later file is there, and the base's own is
pub none_missing : (folder : Folder) (names : List FileName) (from : Lsn) (first : ℕ) → Lists folder names → All IsFileName names → (start_of from).file < first → first ≤ 2 ^ 24
    → ((f : ℕ) → (start_of from).file ≤ f → f < first → list_any (same_file (Log f)) names ≡ true) → (first < 2 ^ 24 → list_any (same_file (Log first)) names ≡ false)
    → list_any (is_from (first + 1)) names ≡ false → NoneMissing from (log_files folder) × IsLast (log_files folder) (start_of from).file (first - 1)
none_missing folder names from first lists forms some within below absent later =
    let stand = stand_up_to folder names from first lists forms (omega (arith, some)) within below absent in
    let none : (f : ℕ) → first ≤ f → f < 2 ^ 24 → folder (Log f) ≡ None = λ f over form. elim (cases_lt first f) [
      | inl less ↦ none_from folder names (first + 1) f lists later (omega (arith, less)) form
      | inr le ↦ let e : first ≡ f = omega (arith, over, le) in subst (λ (k : ℕ). folder (Log k) ≡ None) e (stand.absent (omega (arith, over, form)))
    ] in (
      λ f is. elim (cases_lt f first) [
        | inl less ↦ none_isnt (log_files folder f) is.absent (stand.below f is.low less)
        | inr over ↦ elim is.needed [
          | inl later' ↦ let (g, above, form, there) = later' in none_isnt (log_files folder g) (none g (omega (arith, over, above)) form) there
          | inr own ↦ omega (arith, own.0, over, some)
        ]
      ],
      record {
        from = omega (arith, some);
        there = λ less. stand.below (first - 1) (omega (arith, less)) (omega (arith, some));
        none = λ f over form. none f (omega (arith, over, some)) form;
      },
    )

-- no base is given, and there is no file of the log
pub new_log : (folder : Folder) (names : List FileName) (from : Lsn) → Lists folder names → (means_none from && not (list_any (is_from 0) names)) ≡ true
    → NoneMissing from (log_files folder) × IsLast (log_files folder) (start_of from).file (start_of from).file
new_log folder names from lists new =
    let tests = both (means_none from) (list_any (is_from 0) names) new in
    let none : (f : ℕ) → f < 2 ^ 24 → folder (Log f) ≡ None = λ f form. none_from folder names 0 f lists tests.1 (omega arith) form in (
      λ f is. elim is.needed [
        | inl later ↦ let (g, above, form, there) = later in none_isnt (log_files folder g) (none g form) there
        | inr own ↦ let (g, above, form, there) = own.1 tests.0 in none_isnt (log_files folder g) (none g form) there
      ],
      record { from = omega arith; there = λ less. absurd (omega (arith, less)); none = λ f over form. none f form },
    )
  where
    both : (a b : Bool) → (a && not b) ≡ true → IsTrue a × (b ≡ false)
    both true true e = absurd (cc)
    both true false e = (refl, refl)
    both false b e = absurd (cc)

-- the base's own file is missing
pub base_missing : (folder : Folder) (names : List FileName) (from : Lsn) (first : ℕ) → Lists folder names → All IsFileName names → (start_of from).file < 2 ^ 24 → (start_of from).file ≡ first
    → list_any (same_file (Log first)) names ≡ false → (means_none from && not (list_any (is_from 0) names)) ≡ false → IsMissing from (log_files folder) (start_of from).file
base_missing folder names from first lists forms form at absent old = record {
  absent = record {
    low = omega arith;
    absent = log_absent folder names (start_of from).file lists form (subst (λ (k : ℕ). list_any (same_file (Log k)) names ≡ false) (sym at) absent);
    needed = inr (refl, λ none. some_from folder names 0 lists forms (some (means_none from) (list_any (is_from 0) names) old none));
  };
  lowest = λ f is. is.low;
}
  where
    some : (a b : Bool) → (a && not b) ≡ false → IsTrue a → b ≡ true
    some true true e none = refl
    some true false e none = absurd (cc)
    some false b e none = absurd (not_done false refl none)
