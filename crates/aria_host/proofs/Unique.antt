-- No two files have one name, so a folder's names list each file as often as the folder has it.
use Rattle.std.proofs.Common.{◌≡◌, ◌==◌, inl, inr, ℕ, ◌+◌, ◌<◌, ◌^◌, Bool, true, false, cond, List, [], ◌∷◌, ◌++◌, length, take, All, get_or, count_by, codes, refl, sym, ◌∙◌, ap, subst, arith, add-zero}
use Rattle.std.specs.Cmp.Lexicographic.{pointwise, bytes_decides}
use Rattle.std.proofs.lemmas.Bool.{cases_Bool, eq-eqb, false_from_ne_true}
use Rattle.std.proofs.lemmas.List.{append_cancel_left}
use Rattle.std.proofs.lemmas.List.Elements.{All-push}
use Rattle.std.proofs.lemmas.List.Sums.{sum_by-append, count_by_more_yes, count_by_more_no}
use Rattle.aria_host.specs.declared.file_name.FileName.{FileName}
use Rattle.aria_host.specs.declared.file_name.FileName.TheVariants.{Control, Log, Keys, Rows, NewKeys, NewRows}
use Rattle.aria_host.specs.FileText.{digit, eight_digits, file_text, log_text}
use Rattle.aria_host.specs.Form.{IsNamed, NamesNone, AreFiles, AddsFile}
use Rattle.aria_host.specs.Folder.{IsFileName, same_file}
use Rattle.aria_host.proofs.Files.{same_file-refl, same_file-true}
use Rattle.aria_host.proofs.Named.{same_parts}

-- the digits of a number tell it
digits_tell : (m n : ℕ) → m < 2 ^ 24 → n < 2 ^ 24 → eight_digits m ≡ eight_digits n → m ≡ n
digits_tell m n below less is =
    let d0 : digit m 10000000 ≡ digit n 10000000 = ap (λ (l : List ℕ). get_or l 0 0) is in
    let d1 : digit m 1000000 ≡ digit n 1000000 = ap (λ (l : List ℕ). get_or l 1 0) is in
    let d2 : digit m 100000 ≡ digit n 100000 = ap (λ (l : List ℕ). get_or l 2 0) is in
    let d3 : digit m 10000 ≡ digit n 10000 = ap (λ (l : List ℕ). get_or l 3 0) is in
    let d4 : digit m 1000 ≡ digit n 1000 = ap (λ (l : List ℕ). get_or l 4 0) is in
    let d5 : digit m 100 ≡ digit n 100 = ap (λ (l : List ℕ). get_or l 5 0) is in
    let d6 : digit m 10 ≡ digit n 10 = ap (λ (l : List ℕ). get_or l 6 0) is in
    let d7 : digit m 1 ≡ digit n 1 = ap (λ (l : List ℕ). get_or l 7 0) is in
    omega (arith, below, less, d0, d1, d2, d3, d4, d5, d6, d7)

-- the control file isn't named as one of the log
control_or_log : (n : ℕ) → codes "aria_log_control" ≡ log_text n → ⊥
control_or_log n is =
    let byte : 95 ≡ 46 = ap (λ (l : List ℕ). get_or l 8 0) is in
    omega (arith, byte)

-- nor does a name of the log end as a table's file
log_or_end : (n a b c : ℕ) (name : List ℕ) → log_text n ≡ name ++ 46 ∷ a ∷ b ∷ c ∷ [] → ⊥
log_or_end n a b c name is =
    let front : List ℕ = codes "aria_log." ++ digit n 10000000 ∷ digit n 1000000 ∷ digit n 100000 ∷ digit n 10000 ∷ [] in
    let back : List ℕ = digit n 1000 ∷ digit n 100 ∷ digit n 10 ∷ digit n 1 ∷ [] in
    let byte : digit n 1000 ≡ 46 = ap (λ (l : List ℕ). get_or l 0 0) (same_parts front name back (46 ∷ a ∷ b ∷ c ∷ []) refl is).1 in
    omega (arith, byte)

-- nor the control file's
control_or_end : (a b c : ℕ) (name : List ℕ) → codes "aria_log_control" ≡ name ++ 46 ∷ a ∷ b ∷ c ∷ [] → ⊥
control_or_end a b c name is =
    let byte : 116 ≡ 46 = ap (λ (l : List ℕ). get_or l 0 0) (same_parts (codes "aria_log_con") name (codes "trol") (46 ∷ a ∷ b ∷ c ∷ []) refl is).1 in
    omega (arith, byte)

-- two ends that differ in a byte
other_end : (m n u v : List ℕ) (i : ℕ) → length u ≡ length v → (get_or u i 0 == get_or v i 0) ≡ false → m ++ u ≡ n ++ v → ⊥
other_end m n u v i long differ is =
    let same : (get_or u i 0 == get_or v i 0) ≡ true = eq-eqb (get_or u i 0) (get_or v i 0) (ap (λ (l : List ℕ). get_or l i 0) (same_parts m n u v long is).1) in
    absurd (cc)

-- one end, and so one name
one_end : (m n end : List ℕ) → m ++ end ≡ n ++ end → m ≡ n
one_end m n end is = (same_parts m n end end refl is).0

-- two files with one name are one file
pub unique : (f g : FileName) → IsFileName f → IsFileName g → file_text f ≡ file_text g → f ≡ g
unique Control Control a b is = refl
unique Control (Log n) a b is = absurd (control_or_log n is)
unique Control (Keys n) a b is = absurd (control_or_end 77 65 73 n is)
unique Control (Rows n) a b is = absurd (control_or_end 77 65 68 n is)
unique Control (NewKeys n) a b is = absurd (control_or_end 84 77 73 n is)
unique Control (NewRows n) a b is = absurd (control_or_end 84 77 68 n is)
unique (Log m) Control a b is = absurd (control_or_log m (sym is))
unique (Log m) (Log n) a b is = ap Log (digits_tell m n a b (append_cancel_left (codes "aria_log.") (eight_digits m) (eight_digits n) is))
unique (Log m) (Keys n) a b is = absurd (log_or_end m 77 65 73 n is)
unique (Log m) (Rows n) a b is = absurd (log_or_end m 77 65 68 n is)
unique (Log m) (NewKeys n) a b is = absurd (log_or_end m 84 77 73 n is)
unique (Log m) (NewRows n) a b is = absurd (log_or_end m 84 77 68 n is)
unique (Keys m) Control a b is = absurd (control_or_end 77 65 73 m (sym is))
unique (Keys m) (Log n) a b is = absurd (log_or_end n 77 65 73 m (sym is))
unique (Keys m) (Keys n) a b is = ap Keys (one_end m n (codes ".MAI") is)
unique (Keys m) (Rows n) a b is = absurd (other_end m n (codes ".MAI") (codes ".MAD") 3 refl refl is)
unique (Keys m) (NewKeys n) a b is = absurd (other_end m n (codes ".MAI") (codes ".TMI") 1 refl refl is)
unique (Keys m) (NewRows n) a b is = absurd (other_end m n (codes ".MAI") (codes ".TMD") 1 refl refl is)
unique (Rows m) Control a b is = absurd (control_or_end 77 65 68 m (sym is))
unique (Rows m) (Log n) a b is = absurd (log_or_end n 77 65 68 m (sym is))
unique (Rows m) (Keys n) a b is = absurd (other_end m n (codes ".MAD") (codes ".MAI") 3 refl refl is)
unique (Rows m) (Rows n) a b is = ap Rows (one_end m n (codes ".MAD") is)
unique (Rows m) (NewKeys n) a b is = absurd (other_end m n (codes ".MAD") (codes ".TMI") 1 refl refl is)
unique (Rows m) (NewRows n) a b is = absurd (other_end m n (codes ".MAD") (codes ".TMD") 1 refl refl is)
unique (NewKeys m) Control a b is = absurd (control_or_end 84 77 73 m (sym is))
unique (NewKeys m) (Log n) a b is = absurd (log_or_end n 84 77 73 m (sym is))
unique (NewKeys m) (Keys n) a b is = absurd (other_end m n (codes ".TMI") (codes ".MAI") 1 refl refl is)
unique (NewKeys m) (Rows n) a b is = absurd (other_end m n (codes ".TMI") (codes ".MAD") 1 refl refl is)
unique (NewKeys m) (NewKeys n) a b is = ap NewKeys (one_end m n (codes ".TMI") is)
unique (NewKeys m) (NewRows n) a b is = absurd (other_end m n (codes ".TMI") (codes ".TMD") 3 refl refl is)
unique (NewRows m) Control a b is = absurd (control_or_end 84 77 68 m (sym is))
unique (NewRows m) (Log n) a b is = absurd (log_or_end n 84 77 68 m (sym is))
unique (NewRows m) (Keys n) a b is = absurd (other_end m n (codes ".TMD") (codes ".MAI") 1 refl refl is)
unique (NewRows m) (Rows n) a b is = absurd (other_end m n (codes ".TMD") (codes ".MAD") 1 refl refl is)
unique (NewRows m) (NewKeys n) a b is = absurd (other_end m n (codes ".TMD") (codes ".TMI") 3 refl refl is)
unique (NewRows m) (NewRows n) a b is = ap NewRows (one_end m n (codes ".TMD") is)

-- a file's name is a text exactly where it is the file of that name
named_same : (text : List ℕ) (f g : FileName) → IsFileName f → IsNamed text g → same_file f g ≡ true → pointwise ◌==◌ (file_text f) text ≡ true
named_same text f g form named same = (bytes_decides (file_text f) text).1 (ap file_text (same_file-true f g same) ∙ named.spelled)

named_other : (text : List ℕ) (f g : FileName) → IsFileName f → IsNamed text g → same_file f g ≡ false → pointwise ◌==◌ (file_text f) text ≡ false
named_other text f g form named other = false_from_ne_true (pointwise ◌==◌ (file_text f) text) (λ (is : pointwise ◌==◌ (file_text f) text ≡ true).
    let same : f ≡ g = unique f g form named.form ((bytes_decides (file_text f) text).0 is ∙ sym named.spelled) in
    let found : same_file f g ≡ true = subst (λ (h : FileName). same_file f h ≡ true) same (same_file-refl f) in
    absurd (cc))

push : (f g : FileName) (names : List FileName) → count_by (same_file f) (names ++ g ∷ []) ≡ count_by (same_file f) names + cond (same_file f g) 1 0
push f g names = sum_by-append (λ n. cond (same_file f n) 1 0) names (g ∷ []) ∙ omega arith

-- a text that names a file, and its file
named_more : (texts : List (List ℕ)) (names : List FileName) (i : ℕ) (text : List ℕ) (g : FileName) → i < length texts → text ≡ get_or texts i text → IsNamed text g
    → AreFiles (take i texts) names → AreFiles (take (i + 1) texts) (names ++ g ∷ [])
named_more texts names i text g within is named are f form word = elim (cases_Bool (same_file f g)) [
  | inl same ↦ push f g names ∙ ap (λ (b : Bool). count_by (same_file f) names + cond b 1 0) same ∙ ap (λ (n : ℕ). n + 1) (are f form word)
      ∙ sym (count_by_more_yes (pointwise ◌==◌ (file_text f)) texts i text within (subst (λ (t : List ℕ). pointwise ◌==◌ (file_text f) t ≡ true) is (named_same text f g form named same)))
  | inr other ↦ push f g names ∙ ap (λ (b : Bool). count_by (same_file f) names + cond b 1 0) other ∙ add-zero (count_by (same_file f) names) ∙ are f form word
      ∙ sym (count_by_more_no (pointwise ◌==◌ (file_text f)) texts i text within (subst (λ (t : List ℕ). pointwise ◌==◌ (file_text f) t ≡ false) is (named_other text f g form named other)))
]

-- a text that names none
none_more : (texts : List (List ℕ)) (names : List FileName) (i : ℕ) (text : List ℕ) → i < length texts → text ≡ get_or texts i text → NamesNone text
    → AreFiles (take i texts) names → AreFiles (take (i + 1) texts) names
none_more texts names i text within is none are f form word =
    let differs : pointwise ◌==◌ (file_text f) text ≡ false = false_from_ne_true (pointwise ◌==◌ (file_text f) text) (λ (e : pointwise ◌==◌ (file_text f) text ≡ true).
    none f (record { form = form; word = word; spelled = (bytes_decides (file_text f) text).0 e })) in
    are f form word ∙ sym (count_by_more_no (pointwise ◌==◌ (file_text f)) texts i text within (subst (λ (t : List ℕ). pointwise ◌==◌ (file_text f) t ≡ false) is differs))

-- one text more
pub files_more : (texts : List (List ℕ)) (old new : List FileName) (i : ℕ) (text : List ℕ) → i < length texts → text ≡ get_or texts i text → AddsFile text old new
    → All IsFileName old × AreFiles (take i texts) old → All IsFileName new × AreFiles (take (i + 1) texts) new
files_more texts old new i text within is (inl (none, same)) (forms, are) =
    subst (λ (l : List FileName). All IsFileName l × AreFiles (take (i + 1) texts) l) (sym same) (forms, none_more texts old i text within is none are)
files_more texts old new i text within is (inr (file, named, added)) (forms, are) =
    subst (λ (l : List FileName). All IsFileName l × AreFiles (take (i + 1) texts) l) (sym added) (All-push IsFileName old file forms named.form, named_more texts old i text file within is named are)
