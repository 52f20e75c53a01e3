-- That the names that are kept are those of the files that are there.
use Rattle.std.proofs.Common.{◌≡◌, ◌&&◌, inl, inr, ℕ, ◌+◌, ◌<◌, ◌≤◌, Bool, true, false, cond, not, Option, None, Some, is_some, List, [], ◌∷◌, ◌++◌, length, take, reverse, All, filter, count_by, get_or, refl, sym, ◌∙◌, ap, subst, rules, arith, zero-add, add-zero, unwrap_or, ◌||◌}
use Rattle.std.specs.List.{list_any}
use Rattle.std.specs.Option.{option_map}
use Rattle.std.proofs.lemmas.Bool.{cases_Bool, false_from_ne_true}
use Rattle.std.proofs.lemmas.Bool.Decides.{nat_tests}
use Rattle.std.proofs.lemmas.List.Elements.{All-push, All-filter}
use Rattle.std.proofs.lemmas.List.Sums.{sum_by-append}
use Rattle.aria_host.specs.declared.memory.effect.Effect.{Effect}
use Rattle.aria_host.specs.declared.memory.effect.Effect.TheVariants.{Wrote, Cut, Created, Removed, Synced, Set, Told}
use Rattle.aria_host.specs.declared.file_name.FileName.{FileName}
use Rattle.aria_host.specs.declared.file_name.FileName.TheVariants.{Control, Log, Keys, Rows, NewKeys, NewRows}
use Rattle.aria_host.specs.Folder.{Folder, IsFileName, is_form, same_file, put_page, with_file}
use Rattle.aria_host.specs.Effect.{no_files, after, reads}
use Rattle.aria_host.specs.Listing.{noted, names_after, IsListed}
use Rattle.aria_host.proofs.Files.{same_file-refl, same_file-true, still_there}
use Rattle.aria_host.proofs.OnePass.{reads_more}

-- the test of the forms
form_from : (f : FileName) → IsFileName f → is_form f ≡ true
form_from Control form = refl
form_from (Log n) form = grind (arith, nat_tests)
form_from (Keys name) form = refl
form_from (Rows name) form = refl
form_from (NewKeys name) form = refl
form_from (NewRows name) form = refl

form_true : (f : FileName) → is_form f ≡ true → IsFileName f
form_true Control form = search rules
form_true (Log n) form = grind (arith, nat_tests)
form_true (Keys name) form = search rules
form_true (Rows name) form = search rules
form_true (NewKeys name) form = search rules
form_true (NewRows name) form = search rules

-- another file is another file, the other way round too
other_too : (f g : FileName) → same_file f g ≡ false → same_file g f ≡ false
other_too f g other =
    false_from_ne_true (same_file g f) (λ (same : same_file g f ≡ true). let e : same_file f g ≡ true = subst (λ (h : FileName). same_file f h ≡ true) (sym (same_file-true g f same)) (same_file-refl f) in absurd (cc))

-- how often a file is among some names, among one more in front, and among one more at the end
abbrev times : FileName → List FileName → ℕ
times f names = count_by (same_file f) names

times-cons : (f n : FileName) (names : List FileName) → times f (n ∷ names) ≡ cond (same_file f n) 1 0 + times f names
times-cons f n names = sum_by-append (λ x. cond (same_file f x) 1 0) (n ∷ []) names ∙ omega arith

times-push : (f g : FileName) (names : List FileName) → times f (names ++ g ∷ []) ≡ times f names + cond (same_file f g) 1 0
times-push f g names = sum_by-append (λ n. cond (same_file f n) 1 0) names (g ∷ []) ∙ omega arith

-- one more that is the file, and one that is another
once_more : (f n : FileName) (names : List FileName) → same_file f n ≡ true → times f (n ∷ names) ≡ 1 + times f names
once_more f n names same = times-cons f n names ∙ ap (λ (b : Bool). cond b 1 0 + times f names) same

no_more : (f n : FileName) (names : List FileName) → same_file f n ≡ false → times f (n ∷ names) ≡ times f names
no_more f n names other = times-cons f n names ∙ ap (λ (b : Bool). cond b 1 0 + times f names) other ∙ zero-add (times f names)

-- a file that isn't among them
not_among : (f : FileName) (names : List FileName) → list_any (same_file f) names ≡ false → times f names ≡ 0
not_among f [] none = refl
not_among f (n ∷ names) none = elim (cases_Bool (same_file f n)) [
  | inl same ↦ let is : list_any (same_file f) (n ∷ names) ≡ true = ap (λ (b : Bool). b || list_any (same_file f) names) same in absurd (cc)
  | inr other ↦
      let rest : list_any (same_file f) names ≡ false = sym (ap (λ (b : Bool). b || list_any (same_file f) names) other) ∙ none in
      no_more f n names other ∙ not_among f names rest
]

-- a file that is
among : (f : FileName) (names : List FileName) → list_any (same_file f) names ≡ true → 1 ≤ times f names
among f [] some = absurd (cc)
among f (n ∷ names) some = elim (cases_Bool (same_file f n)) [
  | inl same ↦ let more = once_more f n names same in omega arith
  | inr other ↦
      let rest : list_any (same_file f) names ≡ true = sym (ap (λ (b : Bool). b || list_any (same_file f) names) other) ∙ some in
      let below = among f names rest in
      let more = no_more f n names other in
      omega arith
]

-- the names without a file
abbrev gone : FileName → List FileName → List FileName
gone g names = filter (λ name. not (same_file g name)) names

gone-same : (g n : FileName) (names : List FileName) → same_file g n ≡ true → gone g (n ∷ names) ≡ gone g names
gone-same g n names same = ap (λ (b : Bool). cond (not b) (n ∷ gone g names) (gone g names)) same

gone-other : (g n : FileName) (names : List FileName) → same_file g n ≡ false → gone g (n ∷ names) ≡ n ∷ gone g names
gone-other g n names other = ap (λ (b : Bool). cond (not b) (n ∷ gone g names) (gone g names)) other

times-gone : (g : FileName) (names : List FileName) → times g (gone g names) ≡ 0
times-gone g [] = refl
times-gone g (n ∷ names) = elim (cases_Bool (same_file g n)) [
  | inl same ↦ ap (times g) (gone-same g n names same) ∙ times-gone g names
  | inr other ↦ ap (times g) (gone-other g n names other) ∙ no_more g n (gone g names) other ∙ times-gone g names
]

times-others : (g f : FileName) → same_file g f ≡ false → (names : List FileName) → times f (gone g names) ≡ times f names
times-others g f away [] = refl
times-others g f away (n ∷ names) = elim (cases_Bool (same_file g n)) [
  | inl same ↦
      let here : same_file f n ≡ false = subst (λ (h : FileName). same_file f h ≡ false) (same_file-true g n same) (other_too g f away) in
      ap (times f) (gone-same g n names same) ∙ times-others g f away names ∙ sym (no_more f n names here)
  | inr other ↦
      ap (times f) (gone-other g n names other) ∙ times-cons f n (gone g names) ∙ ap (λ (k : ℕ). cond (same_file f n) 1 0 + k) (times-others g f away names)
      ∙ sym (times-cons f n names)
]

abbrev Content : Type 0
Content = Option (List (List ℕ))

-- the number that a file is to be among the names, where it is the one that changed and where it isn't
expected : (g f : FileName) (content : Content) (folder : Folder) (b : Bool) → same_file g f ≡ b
    → ◌≡◌ {A = ℕ} (cond (is_some (with_file g content folder f)) 1 0) (cond b (cond (is_some content) 1 0) (cond (is_some (folder f)) 1 0))
expected g f content folder true same = ap (λ (b : Bool). cond (is_some (cond b content (folder f))) 1 0) same
expected g f content folder false other = ap (λ (b : Bool). cond (is_some (cond b content (folder f))) 1 0) other

at_most_one : (b : Bool) → cond b 1 0 ≤ 1
at_most_one true = omega arith
at_most_one false = omega arith

-- names with one more
noted-is : (g : FileName) (names : List FileName) (form any : Bool) → is_form g ≡ form → list_any (same_file g) names ≡ any → noted g names ≡ cond (form && not any) (names ++ g ∷ []) names
noted-is g names form any is has = λ i. cond (is i && not (has i)) (names ++ g ∷ []) names

noted_forms : (g : FileName) (names : List FileName) (form any : Bool) → is_form g ≡ form → list_any (same_file g) names ≡ any → All IsFileName names → All IsFileName (noted g names)
noted_forms g names true false is has all = subst (All IsFileName) (sym (noted-is g names true false is has)) (All-push IsFileName names g all (form_true g is))
noted_forms g names true true is has all = subst (All IsFileName) (sym (noted-is g names true true is has)) all
noted_forms g names false any is has all = subst (All IsFileName) (sym (noted-is g names false any is has)) all

-- another file is among them as often as before
noted_others : (g f : FileName) (names : List FileName) (form any : Bool) → is_form g ≡ form → list_any (same_file g) names ≡ any → same_file g f ≡ false → times f (noted g names) ≡ times f names
noted_others g f names true false is has other =
    ap (times f) (noted-is g names true false is has) ∙ times-push f g names ∙ ap (λ (b : Bool). times f names + cond b 1 0) (other_too g f other) ∙ add-zero (times f names)
noted_others g f names true true is has other = ap (times f) (noted-is g names true true is has)
noted_others g f names false any is has other = ap (times f) (noted-is g names false any is has)

-- the file itself is among them once
noted_once : (g : FileName) (names : List FileName) (any : Bool) → is_form g ≡ true → list_any (same_file g) names ≡ any → times g names ≤ 1 → times g (noted g names) ≡ 1
noted_once g names false is has most =
    ap (times g) (noted-is g names true false is has) ∙ times-push g g names ∙ (λ i. not_among g names has i + cond (same_file-refl g i) 1 0)
noted_once g names true is has most =
    let least = among g names has in
    ap (times g) (noted-is g names true true is has) ∙ omega arith

-- a file that is made
listed_noted : (g : FileName) (pages : List (List ℕ)) (folder : Folder) (names : List FileName) → IsListed folder names → IsListed (with_file g (Some pages) folder) (noted g names)
listed_noted g pages folder names listed = record {
  forms = noted_forms g names (is_form g) (list_any (same_file g) names) refl refl listed.forms;
  once = λ f form.
      elim (cases_Bool (same_file g f)) [
        | inl same ↦
            let is : g ≡ f = same_file-true g f same in
            let form_g : is_form g ≡ true = ap is_form is ∙ form_from f form in
            let most : times g names ≤ 1 = subst (λ (k : ℕ). k ≤ 1) (sym (listed.once g (form_true g form_g))) (at_most_one (is_some (folder g))) in
            let once : times g (noted g names) ≡ 1 = noted_once g names (list_any (same_file g) names) form_g refl most in
            ap (λ (h : FileName). times h (noted g names)) (sym is) ∙ once ∙ sym (expected g f (Some pages) folder true same)
        | inr other ↦
            noted_others g f names (is_form g) (list_any (same_file g) names) refl refl other ∙ listed.once f form ∙ sym (expected g f (Some pages) folder false other)
      ];
}

-- a file that is removed
listed_gone : (g : FileName) (folder : Folder) (names : List FileName) → IsListed folder names → IsListed (with_file g None folder) (gone g names)
listed_gone g folder names listed = record {
  forms = All-filter (λ name. not (same_file g name)) IsFileName names listed.forms;
  once = λ f form.
      elim (cases_Bool (same_file g f)) [
        | inl same ↦
            ap (λ (h : FileName). times h (gone g names)) (sym (same_file-true g f same)) ∙ times-gone g names ∙ sym (expected g f None folder true same)
        | inr other ↦ times-others g f other names ∙ listed.once f form ∙ sym (expected g f None folder false other)
      ];
}

-- a file that is changed
listed_kept : (g : FileName) (F : List (List ℕ) → List (List ℕ)) (folder : Folder) (names : List FileName) → IsListed folder names → IsListed (with_file g (option_map F (folder g)) folder) names
listed_kept g F folder names listed = record {
  forms = listed.forms;
  once = λ f form.
      elim (cases_Bool (same_file g f)) [
        | inl same ↦
            let is : g ≡ f = same_file-true g f same in
            listed.once f form ∙ ap (λ (h : FileName). cond (is_some (folder h)) 1 0) (sym is) ∙ ap (λ (b : Bool). cond b 1 0) (sym (still_there F (folder g)))
            ∙ sym (expected g f (option_map F (folder g)) folder true same)
        | inr other ↦ listed.once f form ∙ sym (expected g f (option_map F (folder g)) folder false other)
      ];
}

-- any change
listed_after : (change : Effect) (folder : Folder) (names : List FileName) → IsListed folder names → IsListed (after change folder) (names_after change names)
listed_after (Wrote g at page) folder names listed = listed_kept g (put_page at page) folder names listed
listed_after (Cut g n) folder names listed = listed_kept g (take n) folder names listed
listed_after (Created g) folder names listed = listed_noted g [] folder names listed
listed_after (Removed g) folder names listed = listed_gone g folder names listed
listed_after (Synced g) folder names listed = listed
listed_after (Set g at page) folder names listed = listed_noted g (put_page at page (unwrap_or (folder g) [])) folder names listed
listed_after (Told stream n) folder names listed = listed

-- no file is listed where none is there
pub listed_none : IsListed no_files []
listed_none = record { forms = search rules; once = λ f form. refl }

-- one more change of a record
pub listed_more : (base : Folder) (changes : List Effect) (i : ℕ) (change : Effect) (names : List FileName) → i < length changes → change ≡ get_or changes i change
    → IsListed (reads base (reverse (take i changes))) names → IsListed (reads base (reverse (take (i + 1) changes))) (names_after change names)
listed_more base changes i change names below item listed =
    let before = reads base (reverse (take i changes)) in
    let then : reads base (reverse (take (i + 1) changes)) ≡ after change before = reads_more base changes i change below ∙ ap (λ (e : Effect). after e before) (sym item) in
    subst (λ (f : Folder). IsListed f (names_after change names)) (sym then) (listed_after change before names listed)
