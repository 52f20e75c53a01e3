-- That one pass over a record sees the file as it reads.
use Rattle.std.proofs.Common.{◌≡◌, ◌==◌, ◌&&◌, inl, inr, ℕ, ◌+◌, ◌<◌, max, min, Bool, true, false, cond, Option, None, Some, is_some, List, [], ◌∷◌, length, take, reverse, nat_le, get_or, unwrap_or, refl, sym, ◌∙◌, ap, arith}
use Rattle.std.specs.Option.{option_map, option_map_or}
use Rattle.std.specs.Prelude.{option_and_then, slice_get}
use Rattle.std.proofs.lemmas.Option.{slice_get-get_or}
use Rattle.std.proofs.lemmas.Bool.{cases_Bool, cases_lt}
use Rattle.std.proofs.lemmas.Bool.Decides.{nat_tests}
use Rattle.std.proofs.lemmas.List.{length-take, take_more, reverse-append, get_or-take, get_or_past}
use Rattle.aria_page.specs.Page.{zero_page}
use Rattle.aria_host.specs.declared.memory.effect.Effect.{Effect}
use Rattle.aria_host.specs.declared.memory.effect.Effect.TheVariants.{Wrote, Cut, Created, Removed, Synced, Set, Told}
use Rattle.aria_host.specs.declared.file_name.FileName.{FileName}
use Rattle.aria_host.specs.Folder.{Folder, same_file, put_page, with_file}
use Rattle.aria_host.specs.Effect.{after, reads}
use Rattle.aria_host.specs.Seen.{count_after, page_after, page_or_zero}
use Rattle.aria_host.proofs.Files.{same_file-true, length-put_page, get_or-put_page}

abbrev Pages : Type 0
Pages = List (List ℕ)

-- what a change of one file leaves of a file, by whether it is that one
of_file : {X : Type 0} (g file : FileName) (F : Option Pages → Option Pages) (x y : X) (m : Option Pages → X) (folder : Folder)
    → x ≡ m (F (folder file)) → y ≡ m (folder file) → cond (same_file g file) x y ≡ m (with_file g (F (folder g)) folder file)
of_file {X = X} g file F x y m folder here there = elim (cases_Bool (same_file g file)) [
  | inl same_name ↦
      let same : folder file ≡ folder g = ap folder (sym (same_file-true g file same_name)) in
      ap (λ (b : Bool). cond b x y) same_name ∙ here ∙ ap (λ (content : Option Pages). m (F content)) same
      ∙ sym (ap (λ (b : Bool). m (cond b (F (folder g)) (folder file))) same_name)
  | inr other ↦ ap (λ (b : Bool). cond b x y) other ∙ there ∙ sym (ap (λ (b : Bool). m (cond b (F (folder g)) (folder file))) other)
]

-- the number of pages after a write, after a cut, and after a page was set
wrote_count : (at : ℕ) (page : List ℕ) (content : Option Pages) → option_map (λ n. max n (at + 1)) (option_map length content) ≡ option_map length (option_map (put_page at page) content)
wrote_count at page None = refl
wrote_count at page (Some pages) = ap Some (sym (length-put_page at page pages))

cut_count : (n : ℕ) (content : Option Pages) → option_map (λ k. min n k) (option_map length content) ≡ option_map length (option_map (take n) content)
cut_count n None = refl
cut_count n (Some pages) = ap Some (sym (length-take n pages))

set_count : (at : ℕ) (page : List ℕ) (content : Option Pages) → Some (max (unwrap_or (option_map length content) 0) (at + 1)) ≡ option_map length (Some (put_page at page (unwrap_or content [])))
set_count at page None = ap Some (sym (length-put_page at page []))
set_count at page (Some pages) = ap Some (sym (length-put_page at page pages))

-- the number that is kept is that of the pages
pub count_after-is : (change : Effect) (file : FileName) (folder : Folder) → count_after change file (option_map length (folder file)) ≡ option_map length (after change folder file)
count_after-is (Wrote g at page) file folder =
    of_file g file (option_map (put_page at page)) (option_map (λ n. max n (at + 1)) (option_map length (folder file))) (option_map length (folder file)) (option_map length) folder (wrote_count at page (folder file)) refl
count_after-is (Cut g n) file folder =
    of_file g file (option_map (take n)) (option_map (λ k. min n k) (option_map length (folder file))) (option_map length (folder file)) (option_map length) folder (cut_count n (folder file)) refl
count_after-is (Created g) file folder = of_file g file (λ _. Some []) (Some 0) (option_map length (folder file)) (option_map length) folder refl refl
count_after-is (Removed g) file folder = of_file g file (λ _. None) None (option_map length (folder file)) (option_map length) folder refl refl
count_after-is (Synced g) file folder = refl
count_after-is (Set g at page) file folder =
    of_file g file (λ content. Some (put_page at page (unwrap_or content []))) (Some (max (unwrap_or (option_map length (folder file)) 0) (at + 1))) (option_map length (folder file)) (option_map length) folder (set_count at page (folder file)) refl
count_after-is (Told stream n) file folder = refl

-- two tests, one after the other
nested : (s t : Bool) (x y : List ℕ) → cond (s && t) x y ≡ cond s (cond t x y) y
nested true t x y = refl
nested false t x y = refl

-- a page after a write, after a cut, and after a page was set
wrote_page : (at n : ℕ) (page : List ℕ) (content : Option Pages) → cond (is_some content && (at == n)) page (page_or_zero n content) ≡ page_or_zero n (option_map (put_page at page) content)
wrote_page at n page None = refl
wrote_page at n page (Some pages) = sym (get_or-put_page at n page pages)

either_way : (b : Bool) (x : List ℕ) → cond b x x ≡ x
either_way true x = refl
either_way false x = refl

cut_page : (k n : ℕ) (content : Option Pages) → cond (nat_le k n) zero_page (page_or_zero n content) ≡ page_or_zero n (option_map (take k) content)
cut_page k n None = either_way (nat_le k n) zero_page
cut_page k n (Some pages) = elim (cases_lt n k) [
  | inl inside ↦
      let test : nat_le k n ≡ false = grind (arith, nat_tests) in
      ap (λ (b : Bool). cond b zero_page (get_or pages n zero_page)) test ∙ sym (get_or-take k pages n zero_page inside)
  | inr outside ↦
      let test : nat_le k n ≡ true = grind (arith, nat_tests) in
      ap (λ (b : Bool). cond b zero_page (get_or pages n zero_page)) test ∙ sym (get_or_past (take k pages) n zero_page (omega (arith, length-take k pages)))
]

set_page : (at n : ℕ) (page : List ℕ) (content : Option Pages) → cond (at == n) page (page_or_zero n content) ≡ page_or_zero n (Some (put_page at page (unwrap_or content [])))
set_page at n page None = sym (get_or-put_page at n page [])
set_page at n page (Some pages) = sym (get_or-put_page at n page pages)

-- the page that is held is that of the file
pub page_after-is : (change : Effect) (file : FileName) (n : ℕ) (folder : Folder)
    → page_after change file n (is_some (folder file)) (page_or_zero n (folder file)) ≡ page_or_zero n (after change folder file)
page_after-is (Wrote g at page) file n folder =
    let held = page_or_zero n (folder file) in
    nested (same_file g file) (is_some (folder file) && (at == n)) page held
    ∙ of_file g file (option_map (put_page at page)) (cond (is_some (folder file) && (at == n)) page held) held (page_or_zero n) folder (wrote_page at n page (folder file)) refl
page_after-is (Cut g k) file n folder =
    let held = page_or_zero n (folder file) in
    nested (same_file g file) (nat_le k n) zero_page held
    ∙ of_file g file (option_map (take k)) (cond (nat_le k n) zero_page held) held (page_or_zero n) folder (cut_page k n (folder file)) refl
page_after-is (Created g) file n folder = of_file g file (λ _. Some []) zero_page (page_or_zero n (folder file)) (page_or_zero n) folder refl refl
page_after-is (Removed g) file n folder = of_file g file (λ _. None) zero_page (page_or_zero n (folder file)) (page_or_zero n) folder refl refl
page_after-is (Synced g) file n folder = refl
page_after-is (Set g at page) file n folder =
    let held = page_or_zero n (folder file) in
    nested (same_file g file) (at == n) page held
    ∙ of_file g file (λ content. Some (put_page at page (unwrap_or content []))) (cond (at == n) page held) held (page_or_zero n) folder (set_page at n page (folder file)) refl
page_after-is (Told stream k) file n folder = refl

-- one more change of a record
pub reads_more : (base : Folder) (changes : List Effect) (i : ℕ) (d : Effect) → i < length changes
    → reads base (reverse (take (i + 1) changes)) ≡ after (get_or changes i d) (reads base (reverse (take i changes)))
reads_more base changes i d below =
    ap (λ (l : List Effect). reads base l) (ap reverse (take_more changes i d below) ∙ reverse-append (take i changes) (get_or changes i d ∷ []))

-- a file is there where its pages can be counted
pub is_some-count : (content : Option Pages) → is_some (option_map length content) ≡ is_some content
is_some-count None = refl
is_some-count (Some pages) = refl

-- what a pass has seen of a file after so many of the changes
pub record Sees (changes : List Effect) (i : ℕ) (file : FileName) (at : ℕ) (start : Option ℕ) (first : List ℕ) (count : Option ℕ) (held : List ℕ) : Type 0 where
  pub counts : (base : Folder) → start ≡ option_map length (base file) → count ≡ option_map length (reads base (reverse (take i changes)) file)
  pub holds : (base : Folder) → start ≡ option_map length (base file) → first ≡ page_or_zero at (base file)
      → held ≡ page_or_zero at (reads base (reverse (take i changes)) file)

-- a pass that begins
pub sees_none : (changes : List Effect) (file : FileName) (at : ℕ) (start : Option ℕ) (first : List ℕ) → Sees changes 0 file at start first start first
sees_none changes file at start first = record { counts = λ base is. is; holds = λ base is here. here }

-- one change more
pub sees_more : (changes : List Effect) (i : ℕ) (file : FileName) (at : ℕ) (start : Option ℕ) (first : List ℕ) (count new : Option ℕ) (held next : List ℕ) (change : Effect)
    → Sees changes i file at start first count held → i < length changes → change ≡ get_or changes i change
    → new ≡ count_after change file count → next ≡ page_after change file at (is_some count) held
    → Sees changes (i + 1) file at start first new next
sees_more changes i file at start first count new held next change so_far below item counted paged =
    let then : (base : Folder) → reads base (reverse (take (i + 1) changes)) ≡ after change (reads base (reverse (take i changes))) = λ base. reads_more base changes i change below ∙ ap (λ (e : Effect). after e (reads base (reverse (take i changes)))) (sym item) in
    record {
      counts = λ base is.
          let before = reads base (reverse (take i changes)) in
          counted ∙ ap (count_after change file) (so_far.counts base is) ∙ count_after-is change file before ∙ ap (λ (f : Folder). option_map length (f file)) (sym (then base));
      holds = λ base is here.
          let before = reads base (reverse (take i changes)) in
          let there : is_some count ≡ is_some (before file) = ap is_some (so_far.counts base is) ∙ is_some-count (before file) in
          paged ∙ ap (λ (b : Bool). page_after change file at b held) there ∙ ap (λ (l : List ℕ). page_after change file at (is_some (before file)) l) (so_far.holds base is here)
          ∙ page_after-is change file at before ∙ ap (λ (f : Folder). page_or_zero at (f file)) (sym (then base));
    }

-- a page before the end that is held is that page of the file
pub held_page : (at : ℕ) (page : List ℕ) (content : Option Pages) → at < option_map_or length content 0 → page ≡ page_or_zero at content
    → option_and_then (λ pages. slice_get pages at) content ≡ Some page
held_page at page None below held = absurd (omega arith)
held_page at page (Some pages) below held = slice_get-get_or pages at zero_page below ∙ ap Some (sym held)
