-- A page of the log is put into its file, or a file is made: what the pages hold then.
use Rattle.std.proofs.Common.{◌≡◌, ◌==◌, ◌∙◌, ◌⊎◌, inl, inr, ℕ, ◌≤◌, ◌/◌, ◌%◌, Bool, true, false, cond, Option, None, Some, List, [], length, ap, sym, refl, subst, arith, rules}
use Rattle.std.specs.Prelude.{IsSome}
use Rattle.std.specs.Option.{option_map, option_map_or}
use Rattle.std.proofs.lemmas.Bool.{cases_Bool, eqb-true, eq-eqb, false_from_ne_true}
use Rattle.aria_host.specs.declared.file_name.FileName.{FileName}
use Rattle.aria_host.specs.declared.file_name.FileName.TheVariants.{Control, Log, Keys, Rows, NewKeys, NewRows}
use Rattle.aria_host.specs.Folder.{Folder, is_log, same_file, put_page, with_file, with_page}
use Rattle.aria_host.specs.Moments.{SameBut}
use Rattle.aria_host.specs.Steps.{MayWrite, MayMake}
use Rattle.aria_host.specs.Seen.{page_or_zero}
use Rattle.aria_host.proofs.Files.{get_or-put_page, length-put_page, with_file-same, with_file-other, set_others}
use Rattle.aria_log.specs.LogPage.{read_log_page}
use Rattle.aria_log.specs.Pieces.{Piece, log_files, pieces_of}
use Rattle.aria_log.proofs.LogPages.{torn_reads}

-- a file that isn't a log file is another than a log file
no_log : (f : ℕ) (g : FileName) → is_log g ≡ false → same_file (Log f) g ≡ false
no_log f Control other = refl
no_log f (Log n) other = absurd (cc)
no_log f (Keys name) other = refl
no_log f (Rows name) other = refl
no_log f (NewKeys name) other = refl
no_log f (NewRows name) other = refl

-- all other files stay where one of the log's is changed, or isn't
pub others_stay : (f : ℕ) (content : Option (List (List ℕ))) (d c : Folder) → (c ≡ d) ⊎ (c ≡ with_file (Log f) content d) → SameBut is_log d c
others_stay f content d c step g other = set_others (Log f) g content d c (no_log f g other) step

-- a file that is there has pages
pub there_is : {o : Option (List (List ℕ))} {pages : List (List ℕ)} → o ≡ Some pages → IsSome o
there_is {o} {pages} is = subst (λ (x : Option (List (List ℕ))). IsSome x) (sym is) (some_pages pages)
  where
    some_pages : (ps : List (List ℕ)) → IsSome (Some ps)
    some_pages ps = search rules

pub pages_of : (o : Option (List (List ℕ))) → IsSome o → (pages : List (List ℕ)) × (o ≡ Some pages)
pages_of (Some pages) some = (pages, refl)
pages_of None some = absurd (search rules)

-- and one that isn't there hasn't
pub none_isnt : (o : Option (List (List ℕ))) → o ≡ None → IsSome o → ⊥
none_isnt None e some = absurd (search rules)
none_isnt (Some pages) e some = absurd (cc)

-- numbers in one file
same_tests : (a b : ℕ) → a / 1024 ≡ b / 1024 → (a % 1024 == b % 1024) ≡ (a == b)
same_tests a b e = elim (cases_Bool (a == b)) [
  | inl yes' ↦ eq-eqb (a % 1024) (b % 1024) (ap (λ (m : ℕ). m % 1024) (eqb-true a b yes')) ∙ sym yes'
  | inr no' ↦ false_from_ne_true (a % 1024 == b % 1024) (λ (t : (a % 1024 == b % 1024) ≡ true). let m : a % 1024 ≡ b % 1024 = eqb-true (a % 1024) (b % 1024) t in
      let same : a ≡ b = omega (arith, e, m) in let t' : (a == b) ≡ true = eq-eqb a b same in absurd (cc)) ∙ sym no'
]

-- A page of a log file that is there is put: its piece is that page's, and all others stay.
pub piece_put : (k n : ℕ) (page : List ℕ) (d c : Folder) (pages : List (List ℕ)) → c ≡ with_page (Log (k / 1024)) (k % 1024) page d → d (Log (k / 1024)) ≡ Some pages
    → pieces_of (log_files c) n ≡ cond (k == n) (read_log_page n page) (pieces_of (log_files d) n)
unfolding pieces_of
piece_put k n page d c pages is was = elim (cases_Bool (k / 1024 == n / 1024)) [
  | inr other ↦
      let apart : (k == n) ≡ false = false_from_ne_true (k == n) (λ (e : (k == n) ≡ true). let same : k ≡ n = eqb-true k n e in let files : (k / 1024 == n / 1024) ≡ true = eq-eqb (k / 1024) (n / 1024) (ap (λ (m : ℕ). m / 1024) same) in absurd (cc)) in
      ap (λ (f : Folder). read_log_page n (page_or_zero (n % 1024) (f (Log (n / 1024))))) is
      ∙ ap (λ (x : Option (List (List ℕ))). read_log_page n (page_or_zero (n % 1024) x)) (with_file-other (Log (k / 1024)) (Log (n / 1024)) (option_map (put_page (k % 1024) page) (d (Log (k / 1024)))) d other)
      ∙ sym (ap (λ (b : Bool). cond b (read_log_page n page) (read_log_page n (page_or_zero (n % 1024) (d (Log (n / 1024)))))) apart)
  | inl same ↦
      let files : k / 1024 ≡ n / 1024 = eqb-true (k / 1024) (n / 1024) same in
      let there : d (Log (n / 1024)) ≡ Some pages = ap (λ (f : ℕ). d (Log f)) (sym files) ∙ was in
      let now : c (Log (n / 1024)) ≡ Some (put_page (k % 1024) page pages) =
      ap (λ (f : ℕ). c (Log f)) (sym files) ∙ ap (λ (g : Folder). g (Log (k / 1024))) is ∙ with_file-same (Log (k / 1024)) (option_map (put_page (k % 1024) page) (d (Log (k / 1024)))) d ∙ ap (option_map (put_page (k % 1024) page)) was in
      let tests : (k % 1024 == n % 1024) ≡ (k == n) = same_tests k n files in
      ap (λ (x : Option (List (List ℕ))). read_log_page n (page_or_zero (n % 1024) x)) now ∙ ap (read_log_page n) (get_or-put_page (k % 1024) (n % 1024) page pages)
      ∙ ap (λ (b : Bool). read_log_page n (cond b page (page_or_zero (n % 1024) (Some pages)))) tests
      ∙ by_test (k == n) (page_or_zero (n % 1024) (Some pages)) ∙ ap (λ (x : Option (List (List ℕ))). cond (k == n) (read_log_page n page) (read_log_page n (page_or_zero (n % 1024) x))) (sym there)
]
  where
    by_test : (b : Bool) (held : List ℕ) → read_log_page n (cond b page held) ≡ cond b (read_log_page n page) (read_log_page n held)
    by_test true held = refl
    by_test false held = refl

-- Page k was put, or wasn't: it holds this or nothing. All other pages and files are as they were.
pub record MayPut (k : ℕ) (found : Option Piece) (d c : Folder) : Type 0 where
  pub same : (n : ℕ) → (k == n) ≡ false → pieces_of (log_files c) n ≡ pieces_of (log_files d) n
  pub this : (pieces_of (log_files c) k ≡ found) ⊎ (pieces_of (log_files c) k ≡ None)
  pub files : (f : ℕ) → (k / 1024 == f) ≡ false → c (Log f) ≡ d (Log f)
  pub there : IsSome (c (Log (k / 1024)))
  pub few : option_map_or length (c (Log (k / 1024))) 0 ≤ 1024
  pub others : SameBut is_log d c

-- what a page that is put leaves
pub page_puts : (k : ℕ) (page : List ℕ) (found : Option Piece) (d c : Folder) (pages : List (List ℕ)) → c ≡ with_page (Log (k / 1024)) (k % 1024) page d → d (Log (k / 1024)) ≡ Some pages → length pages ≤ 1024
    → ((read_log_page k page ≡ found) ⊎ (read_log_page k page ≡ None)) → MayPut k found d c
page_puts k page found d c pages is was few reads =
    let content : Option (List (List ℕ)) = option_map (put_page (k % 1024) page) (d (Log (k / 1024))) in
    let here : c (Log (k / 1024)) ≡ Some (put_page (k % 1024) page pages) = ap (λ (g : Folder). g (Log (k / 1024))) is ∙ with_file-same (Log (k / 1024)) content d ∙ ap (option_map (put_page (k % 1024) page)) was in
    let at : pieces_of (log_files c) k ≡ read_log_page k page = piece_put k k page d c pages is was ∙ ap (λ (b : Bool). cond b (read_log_page k page) (pieces_of (log_files d) k)) (eq-eqb k k refl) in
    record {
      same = λ n other. piece_put k n page d c pages is was ∙ ap (λ (b : Bool). cond b (read_log_page n page) (pieces_of (log_files d) n)) other;
      this = elim reads [
        | inl e ↦ inl (at ∙ e)
        | inr e ↦ inr (at ∙ e)
      ];
      files = λ f other. ap (λ (x : Folder). x (Log f)) is ∙ with_file-other (Log (k / 1024)) (Log f) content d other;
      there = there_is (here);
      few = omega (arith, ap (λ (o : Option (List (List ℕ))). option_map_or length o 0) here, length-put_page (k % 1024) page pages, few);
      others = others_stay (k / 1024) content d c (inr is);
    }

-- what a write of a page behind the log's end may leave
pub write_puts : (k : ℕ) (page : List ℕ) (d c : Folder) (pages : List (List ℕ)) → MayWrite (Log (k / 1024)) (k % 1024) page d c → d (Log (k / 1024)) ≡ Some pages → length pages ≤ 1024
    → pieces_of (log_files d) k ≡ None → MayPut k (read_log_page k page) d c
write_puts k page d c pages (inl same) was few none = record {
  same = λ n other. ap (λ (x : Folder). pieces_of (log_files x) n) same;
  this = inr (ap (λ (x : Folder). pieces_of (log_files x) k) same ∙ none);
  files = λ f other. ap (λ (x : Folder). x (Log f)) same;
  there = there_is (ap (λ (x : Folder). x (Log (k / 1024))) same ∙ was);
  few = omega (arith, ap (λ (x : Folder). option_map_or length (x (Log (k / 1024))) 0) same, ap (λ (o : Option (List (List ℕ))). option_map_or length o 0) was, few);
  others = λ f other. ap (λ (x : Folder). x f) same;
}
write_puts k page d c pages (inr (inl kept)) was few none = page_puts k page (read_log_page k page) d c pages kept was few (inl refl)
write_puts k page d c pages (inr (inr (is, torn, size, broken, left))) was few none = page_puts k torn (read_log_page k page) d c pages left was few (inr (torn_reads k torn broken))

-- A log file is made: no page holds anything else.
pub make_keeps : (f : ℕ) (done : Bool) (d c : Folder) → MayMake (Log f) (Some []) done d c → d (Log f) ≡ None
    → ((n : ℕ) → pieces_of (log_files c) n ≡ pieces_of (log_files d) n) × ((g : ℕ) → (f == g) ≡ false → c (Log g) ≡ d (Log g)) × (option_map_or length (c (Log f)) 0 ≤ 1024)
    × (done ≡ true → IsSome (c (Log f))) × SameBut is_log d c
unfolding pieces_of
make_keeps f done d c (inr (undone, same)) absent = (
  λ n. ap (λ (x : Folder). read_log_page n (page_or_zero (n % 1024) (x (Log (n / 1024))))) same,
  λ g other. ap (λ (x : Folder). x (Log g)) same,
  omega (arith, ap (λ (x : Folder). option_map_or length (x (Log f)) 0) same, ap (λ (o : Option (List (List ℕ))). option_map_or length o 0) absent),
  λ finished. absurd (let e : true ≡ false = sym finished ∙ undone in (cc)),
  λ g other. ap (λ (x : Folder). x g) same,
)
make_keeps f done d c (inl made) absent =
    let here : c (Log f) ≡ Some [] = ap (λ (x : Folder). x (Log f)) made ∙ with_file-same (Log f) (Some []) d in (
      λ n. elim (cases_Bool (f == n / 1024)) [
        | inr other ↦ ap (λ (x : Folder). read_log_page n (page_or_zero (n % 1024) (x (Log (n / 1024))))) made
            ∙ ap (λ (o : Option (List (List ℕ))). read_log_page n (page_or_zero (n % 1024) o)) (with_file-other (Log f) (Log (n / 1024)) (Some []) d other)
        | inl same ↦
            let e : f ≡ n / 1024 = eqb-true f (n / 1024) same in
            ap (λ (o : Option (List (List ℕ))). read_log_page n (page_or_zero (n % 1024) o)) (ap (λ (g : ℕ). c (Log g)) (sym e) ∙ here)
            ∙ sym (ap (λ (o : Option (List (List ℕ))). read_log_page n (page_or_zero (n % 1024) o)) (ap (λ (g : ℕ). d (Log g)) (sym e) ∙ absent))
      ],
      λ g other. ap (λ (x : Folder). x (Log g)) made ∙ with_file-other (Log f) (Log g) (Some []) d other,
      omega (arith, ap (λ (o : Option (List (List ℕ))). option_map_or length o 0) here),
      λ finished. there_is (here),
      λ g other. ap (λ (x : Folder). x g) made ∙ with_file-other (Log f) g (Some []) d (no_log f g other),
    )
