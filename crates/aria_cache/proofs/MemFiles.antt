-- Files in memory, by the names of their tables.
use Rattle.std.proofs.Common.{◌≡◌, ◌∙◌, ◌==◌, ◌&&◌, ℕ, ◌+◌, max, Bool, true, false, cond, List, Option, None, Some, refl, sym, ap, arith}
use Rattle.std.specs.Prelude.{unwrap_or}
use Rattle.std.specs.Map.{lookup}
use Rattle.std.specs.Cmp.{unsigned_ties}
use Rattle.std.specs.Cmp.Lexicographic.{slice_cmp, pointwise, lists_ties, bytes_decides}
use Rattle.std.specs.Ordering.{nat_cmp}
use Rattle.std.specs.BTreeMap.{is_at}
use Rattle.aria_page.specs.declared.edit.Edit.{Edit}
use Rattle.aria_page.specs.declared.place.Part.{Part}
use Rattle.aria_page.specs.Edit.{all_edited}
use Rattle.aria_cache.specs.declared.mem_file.MemFile.{MemFile}
use Rattle.aria_cache.specs.MemFile.{zero_body, blank_body, kept_body, file_body, file_count, EditsFile, SameFile}
use Rattle.aria_cache.specs.MemPages.{Files, file_in, EditsIn, SetsIn, SameIn}
use Rattle.aria_cache.proofs.Blank.{blank_behind}

-- the test of a map by names is equality
same_name : (a b : List ℕ) → is_at (slice_cmp nat_cmp a) b ≡ pointwise ◌==◌ a b
same_name a b = sym (lists_ties nat_cmp unsigned_ties a b)

-- a file without a page is as one that isn't there
empty_body : (part : Part) (file : MemFile) → file.set ≡ 0 → ((n : ℕ) → kept_body file n ≡ None) → (q : ℕ) → file_body part (Some file) q ≡ zero_body
empty_body part file set none q = ap (λ (o : Option (List ℕ)). unwrap_or o (blank_body part file.set q)) (none q) ∙ blank_behind part file.set q (omega (arith, set))

module _ (part : Part) (old new : Files) (name : List ℕ) (w : MemFile)
    (put : (m : List ℕ) → file_in new m ≡ cond (is_at (slice_cmp nat_cmp name) m) (Some w) (file_in old m)) where
  at : (m : List ℕ) → file_in new m ≡ cond (pointwise ◌==◌ name m) (Some w) (file_in old m)
  at m = put m ∙ ap (λ (b : Bool). cond b (Some w) (file_in old m)) (same_name name m)

  here : (o : Option MemFile) (m : List ℕ) → file_in old name ≡ o → pointwise ◌==◌ name m ≡ true → file_in old m ≡ o
  here o m was same = ap (λ (n : List ℕ). file_in old n) (sym ((bytes_decides name m).0 same)) ∙ was

  -- a file that is there is put in the place of itself, with a page edited
  pub put_edited : (number : ℕ) (edits : List Edit) (f : MemFile) → file_in old name ≡ Some f → EditsFile part number edits f w → EditsIn part name number edits old new
  put_edited number edits f was is = record {
    bodies = λ m q. ap (λ (o : Option MemFile). file_body part o q) (at m) ∙ body m q (pointwise ◌==◌ name m) (here (Some f) m was);
    counts = λ m. ap file_count (at m) ∙ count m (pointwise ◌==◌ name m) (here (Some f) m was);
  }
    where
      body : (m : List ℕ) (q : ℕ) (b : Bool) → (b ≡ true → file_in old m ≡ Some f)
          → file_body part (cond b (Some w) (file_in old m)) q ≡ cond (b && (number == q)) (all_edited edits (file_body part (file_in old m) q)) (file_body part (file_in old m) q)
      body m q true there = is.bodies q ∙ ap (λ (o : Option MemFile). cond (number == q) (all_edited edits (file_body part o q)) (file_body part o q)) (sym (there refl))
      body m q false there = refl

      count : (m : List ℕ) (b : Bool) → (b ≡ true → file_in old m ≡ Some f) → file_count (cond b (Some w) (file_in old m)) ≡ cond b (max (file_count (file_in old m)) (number + 1)) (file_count (file_in old m))
      count m true there = is.count ∙ ap (λ (o : Option MemFile). max (file_count o) (number + 1)) (sym (there refl))
      count m false there = refl

  -- the same, with nothing changed
  pub put_same : (f : MemFile) → file_in old name ≡ Some f → SameFile f w → SameIn part old new
  put_same f was is = record {
    bodies = λ m q. ap (λ (o : Option MemFile). file_body part o q) (at m) ∙ body m q (pointwise ◌==◌ name m) (here (Some f) m was);
    counts = λ m. ap file_count (at m) ∙ count m (pointwise ◌==◌ name m) (here (Some f) m was);
  }
    where
      body : (m : List ℕ) (q : ℕ) (b : Bool) → (b ≡ true → file_in old m ≡ Some f) → file_body part (cond b (Some w) (file_in old m)) q ≡ file_body part (file_in old m) q
      body m q true there = ap (λ (o : Option (List ℕ)). unwrap_or o (blank_body part w.set q)) (is.pages q) ∙ ap (λ (n : ℕ). unwrap_or (kept_body f q) (blank_body part n q)) is.set
          ∙ ap (λ (o : Option MemFile). file_body part o q) (sym (there refl))
      body m q false there = refl

      count : (m : List ℕ) (b : Bool) → (b ≡ true → file_in old m ≡ Some f) → file_count (cond b (Some w) (file_in old m)) ≡ file_count (file_in old m)
      count m true there = is.count ∙ ap file_count (sym (there refl))
      count m false there = refl

  -- a file without a page is put where there was none
  pub put_empty : file_in old name ≡ None → w.set ≡ 0 → w.count ≡ 0 → ((n : ℕ) → kept_body w n ≡ None) → SameIn part old new
  put_empty was set none empty = record {
    bodies = λ m q. ap (λ (o : Option MemFile). file_body part o q) (at m) ∙ body m q (pointwise ◌==◌ name m) (here None m was);
    counts = λ m. ap file_count (at m) ∙ count m (pointwise ◌==◌ name m) (here None m was);
  }
    where
      body : (m : List ℕ) (q : ℕ) (b : Bool) → (b ≡ true → file_in old m ≡ None) → file_body part (cond b (Some w) (file_in old m)) q ≡ file_body part (file_in old m) q
      body m q true there = empty_body part w set empty q ∙ ap (λ (o : Option MemFile). file_body part o q) (sym (there refl))
      body m q false there = refl

      count : (m : List ℕ) (b : Bool) → (b ≡ true → file_in old m ≡ None) → file_count (cond b (Some w) (file_in old m)) ≡ file_count (file_in old m)
      count m true there = none ∙ ap file_count (sym (there refl))
      count m false there = refl

pub same_entries : (part : Part) (old new : Files) → new.entries ≡ old.entries → SameIn part old new
same_entries part old new is = record {
  bodies = λ m q. ap (λ (es : List (List ℕ × MemFile)). file_body part (lookup (is_at (slice_cmp nat_cmp m)) es) q) is;
  counts = λ m. ap (λ (es : List (List ℕ × MemFile)). file_count (lookup (is_at (slice_cmp nat_cmp m)) es)) is;
}

-- the number of pages of a file is set
pub put_set : (part : Part) (old new : Files) (name : List ℕ) (w : MemFile) (pages : ℕ) → ((m : List ℕ) → file_in new m ≡ cond (is_at (slice_cmp nat_cmp name) m) (Some w) (file_in old m))
    → w.set ≡ pages → w.count ≡ pages → ((n : ℕ) → kept_body w n ≡ None) → SetsIn part name pages old new
put_set part old new name w pages put set count none = record {
  bodies = λ m q. ap (λ (o : Option MemFile). file_body part o q) (at m) ∙ body m q (pointwise ◌==◌ name m);
  counts = λ m. ap file_count (at m) ∙ number m (pointwise ◌==◌ name m);
}
  where
    at : (m : List ℕ) → file_in new m ≡ cond (pointwise ◌==◌ name m) (Some w) (file_in old m)
    at m = put m ∙ ap (λ (b : Bool). cond b (Some w) (file_in old m)) (same_name name m)

    body : (m : List ℕ) (q : ℕ) (b : Bool) → file_body part (cond b (Some w) (file_in old m)) q ≡ cond b (blank_body part pages q) (file_body part (file_in old m) q)
    body m q true = ap (λ (o : Option (List ℕ)). unwrap_or o (blank_body part w.set q)) (none q) ∙ ap (λ (n : ℕ). blank_body part n q) set
    body m q false = refl

    number : (m : List ℕ) (b : Bool) → file_count (cond b (Some w) (file_in old m)) ≡ cond b pages (file_count (file_in old m))
    number m true = count
    number m false = refl
