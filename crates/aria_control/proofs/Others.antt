-- Whether a file other than the control file is there, by the names that a folder lists.
use Rattle.std.proofs.Common.{◌≡◌, ℕ, ◌+◌, ◌≤◌, Bool, true, false, cond, Option, None, Some, List, [], ◌∷◌, refl, sym, ◌∙◌, ap, arith, rules}
use Rattle.std.specs.Prelude.{◌||◌, IsSome, is_some, All, count_by, not}
use Rattle.std.specs.List.{list_any}
use Rattle.std.proofs.lemmas.List.Sums.{sum_by-cons}
use Rattle.std.proofs.lemmas.List.Elements.{All-head, All-tail}
use Rattle.aria_host.specs.declared.file_name.FileName.{FileName}
use Rattle.aria_host.specs.Folder.{Folder, IsFileName, same_file}
use Rattle.aria_host.specs.Calls.{Lists}
use Rattle.aria_host.proofs.Files.{same_file-refl, same_file-true}
use Rattle.aria_control.specs.Found.{is_control, HasOther}

-- a file other than the control file
abbrev is_other : FileName → Bool
is_other file = not (is_control file)

-- one name more
count_cons : (p : FileName → Bool) (f : FileName) (names : List FileName) → count_by p (f ∷ names) ≡ cond (p f) 1 0 + count_by p names
count_cons p f names = sum_by-cons (λ (g : FileName). cond (p g) 1 0) f names

-- a name other than the control file's, and it is listed
record Listed (names : List FileName) : Type 0 where
  file : FileName
  form : IsFileName file
  other : is_control file ≡ false
  counted : 1 ≤ count_by (same_file file) names

not_true : (b : Bool) → not b ≡ true → b ≡ false
not_true true e = absurd (cc)
not_true false e = refl

or_true : (b : Bool) → b || true ≡ true
or_true true = refl
or_true false = refl

-- where a name passes the test, one is listed
listed : (names : List FileName) → All IsFileName names → list_any is_other names ≡ true → Listed names
listed [] forms e = absurd (cc)
listed (f ∷ names) forms e = over (listed names (All-tail IsFileName f names forms)) (is_other f) refl
  where
    over : (list_any is_other names ≡ true → Listed names) → (b : Bool) → is_other f ≡ b → Listed (f ∷ names)
    over next true is = record {
      file = f;
      form = All-head IsFileName f names forms;
      other = not_true (is_control f) is;
      counted = let one : ℕ = 1 in let own : cond (same_file f f) 1 0 ≡ one = ap (λ (b : Bool). cond b 1 0) (same_file-refl f) in omega (arith, count_cons (same_file f) f names, own);
    }
    over next false is =
        let rest = next (ap (λ (b : Bool). b || list_any is_other names) (sym is) ∙ e) in
        record { file = rest.file; form = rest.form; other = rest.other; counted = omega (arith, count_cons (same_file rest.file) f names, rest.counted) }

-- a name that is listed passes the test where it isn't the control file's
passes : (names : List FileName) (file : FileName) → is_control file ≡ false → 1 ≤ count_by (same_file file) names → list_any is_other names ≡ true
passes [] file other counted = absurd (omega (arith, counted))
passes (f ∷ names) file other counted = over (passes names file other) (same_file file f) refl
  where
    over : (1 ≤ count_by (same_file file) names → list_any is_other names ≡ true) → (b : Bool) → same_file file f ≡ b → (is_other f || list_any is_other names) ≡ true
    over next true is =
        let same : file ≡ f = same_file-true file f is in
        ap (λ (g : FileName). is_other g || list_any is_other names) (sym same) ∙ ap (λ (b : Bool). not b || list_any is_other names) other
    over next false is =
        let none : ℕ = 0 in let no : cond (same_file file f) 1 0 ≡ none = ap (λ (b : Bool). cond b 1 0) is in
        ap (λ (b : Bool). is_other f || b) (next (omega (arith, count_cons (same_file file) f names, no, counted))) ∙ or_true (is_other f)

-- a file that is there passes the test for it
is_there : (content : Option (List (List ℕ))) → IsSome content → is_some content ≡ true
is_there None never = absurd (search rules)
is_there (Some pages) yes' = refl

-- a name that is listed is that of a file that is there
listed_there : (content : Option (List (List ℕ))) (count : ℕ) → count ≡ cond (is_some content) 1 0 → 1 ≤ count → IsSome content
listed_there None count is some = absurd (omega (arith, is, some))
listed_there (Some pages) count is some = search rules

-- the test finds another file
pub other_found : (folder : Folder) (names shown : List FileName) (found : Bool) → Lists folder names → All IsFileName names → shown ≡ names
    → found ≡ list_any (λ file. not (is_control file)) shown → found ≡ true → HasOther folder
other_found folder names shown found lists forms same is yes' =
    let one = listed names forms (ap (list_any is_other) (sym same) ∙ sym is ∙ yes') in
    record { file = one.file; form = one.form; other = one.other; there = listed_there (folder one.file) (count_by (same_file one.file) names) (lists one.file one.form) one.counted }

-- the test finds none
pub no_other_found : (folder : Folder) (names shown : List FileName) (found : Bool) → Lists folder names → shown ≡ names
    → found ≡ list_any (λ file. not (is_control file)) shown → found ≡ false → HasOther folder → ⊥
no_other_found folder names shown found lists same is no' one =
    let count : count_by (same_file one.file) names ≡ 1 = lists one.file one.form ∙ ap (λ (b : Bool). cond b 1 0) (is_there (folder one.file) one.there) in
    let yes' : false ≡ true = sym no' ∙ is ∙ ap (list_any is_other) same ∙ passes names one.file one.other (omega (arith, count)) in
    absurd (cc)
