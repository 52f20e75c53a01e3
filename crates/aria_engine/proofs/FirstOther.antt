-- The first of the files other than the log's.
use Rattle.std.proofs.Common.{◌≡◌, rules, ℕ, ◌+◌, ◌≤◌, Bool, true, false, ◌||◌, cond, Option, None, Some, List, [], ◌∷◌, ◌++◌, refl, sym, ◌∙◌, ap, subst, arith}
use Rattle.std.specs.Prelude.{count_by, is_some, IsSome, MatchOption}
use Rattle.std.specs.List.{All, list_any}
use Rattle.std.specs.declared.cmp.Ordering.TheVariants.{Less, Greater}
use Rattle.std.specs.Cmp.Lexicographic.{slice_cmp}
use Rattle.std.specs.Ordering.{nat_cmp, ordering_reverse}
use Rattle.std.proofs.lemmas.Cmp.{nat_list_cmp_total}
use Rattle.std.proofs.lemmas.List.Elements.{All-nil, All-cons, All-head, All-tail, All-append, All-weaker}
use Rattle.std.proofs.lemmas.List.Folds.{list_any-append}
use Rattle.std.proofs.lemmas.List.Sums.{sum_by-cons}
use Rattle.aria_host.specs.declared.file_name.FileName.{FileName}
use Rattle.aria_host.specs.FileText.{file_text}
use Rattle.aria_host.specs.Folder.{Folder, IsFileName, same_file}
use Rattle.aria_host.specs.Calls.{Lists}
use Rattle.aria_host.proofs.Files.{same_file-refl, same_file-true}
use Rattle.aria_journal.specs.Log.{log_file}
use Rattle.aria_engine.specs.Holds.{IsLogAlone, IsFirstOther}
use Rattle.aria_engine.specs.Opening.{IsFirst}

differ : {b : Bool} → b ≡ true → b ≡ false → ⊥
differ yes' no' = cc

-- no text comes before itself
not_before_itself : (text : List ℕ) → slice_cmp nat_cmp text text ≡ Less → ⊥
not_before_itself text is = never (sym is ∙ nat_list_cmp_total.antisymm text text ∙ ap ordering_reverse is)
  where
    never : Less ≡ Greater → ⊥
    never e = cc

-- what holds of each file that was seen holds of this one
of_seen : (P : FileName → Type 0) (f : FileName) (seen : List FileName) → All P seen → list_any (same_file f) seen ≡ true → P f
of_seen P f [] all among = absurd (differ among refl)
of_seen P f (g ∷ seen) all among = by (λ h. of_seen P f seen (All-tail P g seen all) h) (same_file f g) refl
  where
    by : (list_any (same_file f) seen ≡ true → P f) → (b : Bool) → same_file f g ≡ b → P f
    by rest true same = subst P (sym (same_file-true f g same)) (All-head P g seen all)
    by rest false other = rest (sym (ap (λ (b : Bool). b || list_any (same_file f) seen) other) ∙ among)

-- the file that was seen last was seen
seen_last : (f : FileName) (seen : List FileName) → list_any (same_file f) (seen ++ f ∷ []) ≡ true
seen_last f seen = list_any-append (same_file f) (seen) (f ∷ []) ∙ ap (λ (b : Bool). list_any (same_file f) seen || (b || false)) (same_file-refl f) ∙ or_true (list_any (same_file f) seen)
  where
    or_true : (b : Bool) → (b || true) ≡ true
    or_true true = refl
    or_true false = refl

-- and those before it still are
seen_before : (f g : FileName) (seen : List FileName) → list_any (same_file f) seen ≡ true → list_any (same_file f) (seen ++ g ∷ []) ≡ true
seen_before f g seen among = list_any-append (same_file f) (seen) (g ∷ []) ∙ ap (λ (b : Bool). b || list_any (same_file f) (g ∷ [])) among

-- nothing was seen
pub first_none : IsFirst None []
first_none = All-nil (λ (f : FileName). same_file log_file f ≡ true)

-- the log's file was seen
pub first_log : (first : Option FileName) (f : FileName) → same_file log_file f ≡ true → (seen : List FileName) → IsFirst first seen → IsFirst first (seen ++ f ∷ [])
first_log None f log seen is = All-append (λ (g : FileName). same_file log_file g ≡ true) seen (f ∷ []) is (All-cons (λ (g : FileName). same_file log_file g ≡ true) f [] log (All-nil (λ (g : FileName). same_file log_file g ≡ true)))
first_log (Some file) f log seen is =
    let P : FileName → Type 0 = λ g. same_file log_file g ≡ false → slice_cmp nat_cmp (file_text g) (file_text file) ≡ Less → ⊥ in
    record {
      form = is.form;
      among = seen_before file f seen is.among;
      other = is.other;
      least = All-append P seen (f ∷ []) is.least (All-cons P f [] (λ other less. differ log other) (All-nil P));
    }

-- a file came behind the first
pub first_stays : (file : FileName) (f : FileName) → (slice_cmp nat_cmp (file_text f) (file_text file) ≡ Less → ⊥) → (seen : List FileName) → IsFirst (Some file) seen → IsFirst (Some file) (seen ++ f ∷ [])
first_stays file f behind seen is =
    let P : FileName → Type 0 = λ g. same_file log_file g ≡ false → slice_cmp nat_cmp (file_text g) (file_text file) ≡ Less → ⊥ in
    record {
      form = is.form;
      among = seen_before file f seen is.among;
      other = is.other;
      least = All-append P seen (f ∷ []) is.least (All-cons P f [] (λ other less. behind less) (All-nil P));
    }

-- a file came before the first, or is the first other one
pub first_new : (first : Option FileName) (f : FileName) → IsFileName f → same_file log_file f ≡ false
    → ((file : FileName) → first ≡ Some file → slice_cmp nat_cmp (file_text f) (file_text file) ≡ Less) → (seen : List FileName) → IsFirst first seen → IsFirst (Some f) (seen ++ f ∷ [])
first_new first f form other before seen is =
    let P : FileName → Type 0 = λ g. same_file log_file g ≡ false → slice_cmp nat_cmp (file_text g) (file_text f) ≡ Less → ⊥ in
    record {
      form = form;
      among = seen_last f seen;
      other = other;
      least = All-append P seen (f ∷ []) (earlier first before is) (All-cons P f [] (λ o less. not_before_itself (file_text f) less) (All-nil P));
    }
  where
    earlier : (o : Option FileName) → ((file : FileName) → o ≡ Some file → slice_cmp nat_cmp (file_text f) (file_text file) ≡ Less) → IsFirst o seen
        → All (λ g. same_file log_file g ≡ false → slice_cmp nat_cmp (file_text g) (file_text f) ≡ Less → ⊥) seen
    earlier None less all = All-weaker (λ (g : FileName). same_file log_file g ≡ true) (λ (g : FileName). same_file log_file g ≡ false → slice_cmp nat_cmp (file_text g) (file_text f) ≡ Less → ⊥)
        (λ g log o l. differ log o) seen all
    earlier (Some file) less all = All-weaker (λ (g : FileName). same_file log_file g ≡ false → slice_cmp nat_cmp (file_text g) (file_text file) ≡ Less → ⊥)
        (λ (g : FileName). same_file log_file g ≡ false → slice_cmp nat_cmp (file_text g) (file_text f) ≡ Less → ⊥)
        (λ g none o l. none o (nat_list_cmp_total.trans (file_text g) (file_text f) (file_text file) l (less file refl))) seen all.least

-- one where it is so
abbrev one_if : Bool → ℕ
one_if b = cond b 1 0

-- a file that is listed is there
count_pos : {X : Type 0} (p : X → Bool) (xs : List X) → list_any p xs ≡ true → 1 ≤ count_by p xs
count_pos p [] any = absurd (differ any refl)
count_pos p (x ∷ xs) any = by (λ h. count_pos p xs h) (p x) refl
  where
    cons : count_by p (x ∷ xs) ≡ one_if (p x) + count_by p xs
    cons = sum_by-cons (λ y. cond (p y) 1 0) x xs

    by : (list_any p xs ≡ true → 1 ≤ count_by p xs) → (b : Bool) → p x ≡ b → 1 ≤ count_by p (x ∷ xs)
    by more true here = let one : one_if (p x) ≡ 1 = ap one_if here in omega (arith, cons, one)
    by more false here =
        let rest : 1 ≤ count_by p xs = more (sym (ap (λ (b : Bool). b || list_any p xs) here) ∙ any) in omega (arith, cons, rest)

count_zero : {X : Type 0} (p : X → Bool) (xs : List X) → list_any p xs ≡ false → count_by p xs ≡ 0
count_zero p [] none = refl
count_zero p (x ∷ xs) none = by (λ h. count_zero p xs h) (p x) refl
  where
    cons : count_by p (x ∷ xs) ≡ one_if (p x) + count_by p xs
    cons = sum_by-cons (λ y. cond (p y) 1 0) x xs

    by : (list_any p xs ≡ false → count_by p xs ≡ 0) → (b : Bool) → p x ≡ b → count_by p (x ∷ xs) ≡ 0
    by more true here = absurd (differ (ap (λ (b : Bool). b || list_any p xs) here) none)
    by more false here =
        let rest : count_by p xs ≡ 0 = more (sym (ap (λ (b : Bool). b || list_any p xs) here) ∙ none) in
        let zero' : one_if (p x) ≡ 0 = ap one_if here in omega (arith, cons, rest, zero')

-- a file that is there is listed
listed : (folder : Folder) (names : List FileName) (f : FileName) → Lists folder names → IsFileName f → is_some (folder f) ≡ true → list_any (same_file f) names ≡ true
listed folder names f lists form there = by (list_any (same_file f) names) refl
  where
    by : (b : Bool) → list_any (same_file f) names ≡ b → list_any (same_file f) names ≡ true
    by true any = any
    by false none =
        let zero' : count_by (same_file f) names ≡ 0 = count_zero (same_file f) names none in
        let one : count_by (same_file f) names ≡ 1 = lists f form ∙ ap one_if there in absurd (omega (arith, zero', one))

-- no other file is there
none_other : (folder : Folder) (names : List FileName) → Lists folder names → IsFirst None names → IsLogAlone folder
none_other folder names lists first f form other = by (folder f) refl
  where
    by : (o : Option (List (List ℕ))) → folder f ≡ o → folder f ≡ None
    by None is = is
    by (Some pages) is = absurd (differ (of_seen (λ g. same_file log_file g ≡ true) f names first (listed folder names f lists form (ap is_some is))) other)

-- this one is the first other that is there
first_there : (folder : Folder) (names : List FileName) (file : FileName) → Lists folder names → IsFirst (Some file) names → IsFirstOther file folder
first_there folder names file lists first = record {
  form = first.form;
  other = first.other;
  there = by (folder file) refl;
  first = λ f form other there less.
      of_seen (λ g. same_file log_file g ≡ false → slice_cmp nat_cmp (file_text g) (file_text file) ≡ Less → ⊥) f names first.least (listed folder names f lists form (some_of (folder f) there)) other less;
}
  where
    some_of : (o : Option (List (List ℕ))) → IsSome o → is_some o ≡ true
    some_of None never = absurd (search rules)
    some_of (Some pages) yes' = refl

    by : (o : Option (List (List ℕ))) → folder file ≡ o → IsSome (folder file)
    by None is =
        let pos : 1 ≤ count_by (same_file file) names = count_pos (same_file file) names first.among in
        let none : count_by (same_file file) names ≡ 0 = lists file first.form ∙ ap (λ (o : Option (List (List ℕ))). one_if (is_some o)) is in absurd (omega (arith, pos, none))
    by (Some pages) is = subst (λ (o : Option (List (List ℕ))). IsSome o) (sym is) (search rules)

-- what the listed files tell of the folder
pub found_of : (folder : Folder) (names : List FileName) (first : Option FileName) → Lists folder names → IsFirst first names
    → MatchOption first (IsLogAlone folder) (λ file. IsFirstOther file folder)
found_of folder names None lists first = none_other folder names lists first
found_of folder names (Some file) lists first = first_there folder names file lists first
