-- What calls make of pages in memory.
use Rattle.std.proofs.Common.{◌≡◌, ◌∙◌, ◌==◌, ◌&&◌, ℕ, ◌+◌, ◌≤◌, ◌<◌, ◌^◌, max, Bool, true, false, cond, List, [], ◌∷◌, length, Option, None, Some, refl, sym, ap, subst, arith, All}
use Rattle.std.specs.Option.{option_map}
use Rattle.std.specs.Prelude.{nat_lt}
use Rattle.std.specs.Map.{lookup}
use Rattle.std.specs.BTreeMap.{is_at}
use Rattle.std.specs.Ordering.{nat_cmp}
use Rattle.std.specs.Cmp.Lexicographic.{slice_cmp, pointwise}
use Rattle.std.proofs.lemmas.List.Elements.{All-head, All-tail}
use Rattle.std.proofs.lemmas.Bool.{ne_eqb}
use Rattle.aria_page.specs.declared.edit.Edit.{Edit}
use Rattle.aria_page.specs.declared.change.Change.{Change}
use Rattle.aria_page.specs.declared.place.Part.{Part}
use Rattle.aria_page.specs.declared.place.Part.TheVariants as parts
use Rattle.aria_page.specs.Change.{edit_of, edits_of}
use Rattle.aria_page.specs.Edit.{IsWithin, edited, all_edited}
use Rattle.aria_page.proofs.Edits.{length-edited}
use Rattle.aria_host.specs.declared.file_name.FileName.{FileName}
use Rattle.aria_host.specs.declared.file_name.FileName.TheVariants.{Control, Log, Keys, Rows, NewKeys, NewRows}
use Rattle.aria_host.specs.Folder.{same_file}
use Rattle.aria_cache.specs.MemFile.{zero_body, is_map, blank_body, file_body, file_count}
use Rattle.aria_cache.specs.MemPages.{Files, file_in, EditsIn, SetsIn, SameIn, bodies_in, counts_in, bodies_set, counts_set, AreFiles}
use Rattle.aria_cache.specs.declared.mem_file.MemFile.{MemFile}
use Rattle.aria_cache.proofs.Blank.{length-blank, blank_behind, length-zero_body}
use Rattle.aria_cache.specs.PageState.{Bodies, Counts, with_edits, with_count}

-- ---- bodies and numbers of all files, where one map changes

some_edited : (b : Bool) (edits : List Edit) (x : List ℕ) → Some (cond b (all_edited edits x) x) ≡ cond b (option_map (all_edited edits) (Some x)) (Some x)
some_edited true edits x = refl
some_edited false edits x = refl

some_set : (b : Bool) (x y : List ℕ) → Some (cond b x y) ≡ cond b (Some x) (Some y)
some_set true x y = refl
some_set false x y = refl

module _ (name : List ℕ) (number : ℕ) (edits : List Edit) where
  pub keys_bodies : (old new rows : Files) → EditsIn parts.Keys name number edits old new → bodies_in new rows ≡ with_edits (Keys name) number edits (bodies_in old rows)
  keys_bodies old new rows is = λ i f n. each f n i
    where
      each : (f : FileName) (n : ℕ) → bodies_in new rows f n ≡ with_edits (Keys name) number edits (bodies_in old rows) f n
      each (Keys m) n = ap Some (is.bodies m n) ∙ some_edited (pointwise ◌==◌ name m && (number == n)) edits (file_body parts.Keys (file_in old m) n)
      each (Rows m) n = refl
      each Control n = refl
      each (Log m) n = refl
      each (NewKeys m) n = refl
      each (NewRows m) n = refl

  pub keys_counts : (old new rows : Files) → EditsIn parts.Keys name number edits old new → counts_in new rows ≡ with_count (Keys name) (number + 1) (counts_in old rows)
  keys_counts old new rows is = λ i f. each f i
    where
      each : (f : FileName) → counts_in new rows f ≡ with_count (Keys name) (number + 1) (counts_in old rows) f
      each (Keys m) = is.counts m
      each (Rows m) = refl
      each Control = refl
      each (Log m) = refl
      each (NewKeys m) = refl
      each (NewRows m) = refl

  pub rows_bodies : (keys old new : Files) → EditsIn parts.Rows name number edits old new → bodies_in keys new ≡ with_edits (Rows name) number edits (bodies_in keys old)
  rows_bodies keys old new is = λ i f n. each f n i
    where
      each : (f : FileName) (n : ℕ) → bodies_in keys new f n ≡ with_edits (Rows name) number edits (bodies_in keys old) f n
      each (Rows m) n = ap Some (is.bodies m n) ∙ some_edited (pointwise ◌==◌ name m && (number == n)) edits (file_body parts.Rows (file_in old m) n)
      each (Keys m) n = refl
      each Control n = refl
      each (Log m) n = refl
      each (NewKeys m) n = refl
      each (NewRows m) n = refl

  pub rows_counts : (keys old new : Files) → EditsIn parts.Rows name number edits old new → counts_in keys new ≡ with_count (Rows name) (number + 1) (counts_in keys old)
  rows_counts keys old new is = λ i f. each f i
    where
      each : (f : FileName) → counts_in keys new f ≡ with_count (Rows name) (number + 1) (counts_in keys old) f
      each (Rows m) = is.counts m
      each (Keys m) = refl
      each Control = refl
      each (Log m) = refl
      each (NewKeys m) = refl
      each (NewRows m) = refl

module _ (name : List ℕ) (pages : ℕ) where
  pub keys_bodies_set : (old new rows : Files) → SetsIn parts.Keys name pages old new → bodies_in new rows ≡ bodies_set (Keys name) parts.Keys pages (bodies_in old rows)
  keys_bodies_set old new rows is = λ i f n. each f n i
    where
      each : (f : FileName) (n : ℕ) → bodies_in new rows f n ≡ bodies_set (Keys name) parts.Keys pages (bodies_in old rows) f n
      each (Keys m) n = ap Some (is.bodies m n) ∙ some_set (pointwise ◌==◌ name m) (blank_body parts.Keys pages n) (file_body parts.Keys (file_in old m) n)
      each (Rows m) n = refl
      each Control n = refl
      each (Log m) n = refl
      each (NewKeys m) n = refl
      each (NewRows m) n = refl

  pub keys_counts_set : (old new rows : Files) → SetsIn parts.Keys name pages old new → counts_in new rows ≡ counts_set (Keys name) pages (counts_in old rows)
  keys_counts_set old new rows is = λ i f. each f i
    where
      each : (f : FileName) → counts_in new rows f ≡ counts_set (Keys name) pages (counts_in old rows) f
      each (Keys m) = is.counts m
      each (Rows m) = refl
      each Control = refl
      each (Log m) = refl
      each (NewKeys m) = refl
      each (NewRows m) = refl

  pub rows_bodies_set : (keys old new : Files) → SetsIn parts.Rows name pages old new → bodies_in keys new ≡ bodies_set (Rows name) parts.Rows pages (bodies_in keys old)
  rows_bodies_set keys old new is = λ i f n. each f n i
    where
      each : (f : FileName) (n : ℕ) → bodies_in keys new f n ≡ bodies_set (Rows name) parts.Rows pages (bodies_in keys old) f n
      each (Rows m) n = ap Some (is.bodies m n) ∙ some_set (pointwise ◌==◌ name m) (blank_body parts.Rows pages n) (file_body parts.Rows (file_in old m) n)
      each (Keys m) n = refl
      each Control n = refl
      each (Log m) n = refl
      each (NewKeys m) n = refl
      each (NewRows m) n = refl

  pub rows_counts_set : (keys old new : Files) → SetsIn parts.Rows name pages old new → counts_in keys new ≡ counts_set (Rows name) pages (counts_in keys old)
  rows_counts_set keys old new is = λ i f. each f i
    where
      each : (f : FileName) → counts_in keys new f ≡ counts_set (Rows name) pages (counts_in keys old) f
      each (Rows m) = is.counts m
      each (Keys m) = refl
      each Control = refl
      each (Log m) = refl
      each (NewKeys m) = refl
      each (NewRows m) = refl

-- nothing changes
pub same_bodies : (keys rows keys' rows' : Files) → SameIn parts.Keys keys keys' → SameIn parts.Rows rows rows' → bodies_in keys' rows' ≡ bodies_in keys rows
same_bodies keys rows keys' rows' one other = λ i f n. each f n i
  where
    each : (f : FileName) (n : ℕ) → bodies_in keys' rows' f n ≡ bodies_in keys rows f n
    each (Keys m) n = ap Some (one.bodies m n)
    each (Rows m) n = ap Some (other.bodies m n)
    each Control n = refl
    each (Log m) n = refl
    each (NewKeys m) n = refl
    each (NewRows m) n = refl

pub same_counts : (keys rows keys' rows' : Files) → SameIn parts.Keys keys keys' → SameIn parts.Rows rows rows' → counts_in keys' rows' ≡ counts_in keys rows
same_counts keys rows keys' rows' one other = λ i f. each f i
  where
    each : (f : FileName) → counts_in keys' rows' f ≡ counts_in keys rows f
    each (Keys m) = one.counts m
    each (Rows m) = other.counts m
    each Control = refl
    each (Log m) = refl
    each (NewKeys m) = refl
    each (NewRows m) = refl

pub same_in : (files : Files) → SameIn parts.Keys files files × SameIn parts.Rows files files
same_in files = (record { bodies = λ m q. refl; counts = λ m. refl }, record { bodies = λ m q. refl; counts = λ m. refl })

-- ---- what files may have stays so

-- edits that stay within a body leave its length
pub long_edited : (edits : List Change) (body : List ℕ) → All (λ e. IsWithin (edit_of e)) edits → length body ≡ 8181 → length (all_edited (edits_of edits) body) ≡ 8181
long_edited [] body within long = long
long_edited (e ∷ es) body within long =
    let P : Change → Type 0 = λ e. IsWithin (edit_of e) in
    long_edited es (edited (edit_of e) body) (All-tail P e (es) within) (length-edited (edit_of e) body (All-head P e (es) within) long)

module _ (counts counts' : Counts) (bodies bodies' : Bodies) (file : FileName) where
  -- a page is edited
  pub files_edited : (page : ℕ) (edits : List Edit) → page < 2 ^ 31 → ((body : List ℕ) → length body ≡ 8181 → length (all_edited edits body) ≡ 8181) → AreFiles counts bodies
      → counts' ≡ with_count file (page + 1) counts → bodies' ≡ with_edits file page edits bodies → AreFiles counts' bodies'
  files_edited page edits small within are counts_is bodies_is = record {
    low = λ f. subst (λ (c : Counts). c f ≤ 2 ^ 31) (sym counts_is) (low (same_file file f) f);
    long = λ f n body is. long f n body (same_file file f && (page == n)) (bodies f n) refl (ap (λ (b : Bodies). b f n) (sym bodies_is) ∙ is);
    past = λ f n behind. ap (λ (b : Bodies). b f n) bodies_is ∙ past f n (same_file file f) (subst (λ (c : Counts). c f ≤ n) counts_is behind);
  }
    where
      low : (b : Bool) (f : FileName) → cond b (max (counts f) (page + 1)) (counts f) ≤ 2 ^ 31
      low true f = omega (arith, small, are.low f)
      low false f = are.low f

      long : (f : FileName) (n : ℕ) (body : List ℕ) (b : Bool) (o : Option (List ℕ)) → bodies f n ≡ o → cond b (option_map (all_edited edits) o) o ≡ Some body → length body ≡ 8181
      long f n body false o was is = are.long f n body (was ∙ is)
      long f n body true None was is = absurd (cc)
      long f n body true (Some x) was is = let same : all_edited edits x ≡ body = (cc) in subst (λ (l : List ℕ). length l ≡ 8181) same (within x (are.long f n x was))

      past : (f : FileName) (n : ℕ) (b : Bool) → cond b (max (counts f) (page + 1)) (counts f) ≤ n → cond (b && (page == n)) (option_map (all_edited edits) (bodies f n)) (bodies f n) ≡ Some zero_body
      past f n false behind = are.past f n behind
      past f n true behind = let apart : (page == n) ≡ false = ne_eqb page n (λ e. absurd (omega (arith, behind, e))) in
          ap (λ (b : Bool). cond b (option_map (all_edited edits) (bodies f n)) (bodies f n)) apart ∙ are.past f n (omega (arith, behind))

  -- the number of pages is set
  pub files_set : (part : Part) (pages : ℕ) → pages ≤ 2 ^ 31 → AreFiles counts bodies → counts' ≡ counts_set file pages counts → bodies' ≡ bodies_set file part pages bodies → AreFiles counts' bodies'
  files_set part pages few are counts_is bodies_is = record {
    low = λ f. subst (λ (c : Counts). c f ≤ 2 ^ 31) (sym counts_is) (low (same_file file f) f);
    long = λ f n body is. long f n body (same_file file f) (ap (λ (b : Bodies). b f n) (sym bodies_is) ∙ is);
    past = λ f n behind. ap (λ (b : Bodies). b f n) bodies_is ∙ past f n (same_file file f) (subst (λ (c : Counts). c f ≤ n) counts_is behind);
  }
    where
      low : (b : Bool) (f : FileName) → cond b pages (counts f) ≤ 2 ^ 31
      low true f = few
      low false f = are.low f

      long : (f : FileName) (n : ℕ) (body : List ℕ) (b : Bool) → cond b (Some (blank_body part pages n)) (bodies f n) ≡ Some body → length body ≡ 8181
      long f n body false is = are.long f n body is
      long f n body true is = let same : blank_body part pages n ≡ body = (cc) in subst (λ (l : List ℕ). length l ≡ 8181) same (length-blank (is_map part n && nat_lt n pages))

      past : (f : FileName) (n : ℕ) (b : Bool) → cond b pages (counts f) ≤ n → cond b (Some (blank_body part pages n)) (bodies f n) ≡ Some zero_body
      past f n false behind = are.past f n behind
      past f n true behind = ap Some (blank_behind part pages n behind)

pub files_same : (counts counts' : Counts) (bodies bodies' : Bodies) → AreFiles counts bodies → counts' ≡ counts → bodies' ≡ bodies → AreFiles counts' bodies'
files_same counts counts' bodies bodies' are counts_is bodies_is = record {
  low = λ f. subst (λ (c : Counts). c f ≤ 2 ^ 31) (sym counts_is) (are.low f);
  long = λ f n body is. are.long f n body (ap (λ (b : Bodies). b f n) (sym bodies_is) ∙ is);
  past = λ f n behind. ap (λ (b : Bodies). b f n) bodies_is ∙ are.past f n (subst (λ (c : Counts). c f ≤ n) counts_is behind);
}

-- no file has a page
pub files_none : (keys rows : Files) → keys.entries ≡ [] → rows.entries ≡ [] → AreFiles (counts_in keys rows) (bodies_in keys rows)
files_none keys rows no_keys no_rows = record {
  low = λ f. omega (arith, count f);
  long = λ f n body is. subst (λ (l : List ℕ). length l ≡ 8181) (some_inj (sym (zero f n) ∙ is)) length-zero_body;
  past = λ f n behind. zero f n;
}
  where
    some_inj : {x y : List ℕ} → Some x ≡ Some y → x ≡ y
    some_inj is = (cc)

    count : (f : FileName) → counts_in keys rows f ≡ 0
    count (Keys m) = ap (λ (es : List (List ℕ × MemFile)). file_count (lookup (is_at (slice_cmp nat_cmp m)) es)) no_keys
    count (Rows m) = ap (λ (es : List (List ℕ × MemFile)). file_count (lookup (is_at (slice_cmp nat_cmp m)) es)) no_rows
    count Control = refl
    count (Log m) = refl
    count (NewKeys m) = refl
    count (NewRows m) = refl

    zero : (f : FileName) (n : ℕ) → bodies_in keys rows f n ≡ Some zero_body
    zero (Keys m) n = ap (λ (es : List (List ℕ × MemFile)). Some (file_body parts.Keys (lookup (is_at (slice_cmp nat_cmp m)) es) n)) no_keys
    zero (Rows m) n = ap (λ (es : List (List ℕ × MemFile)). Some (file_body parts.Rows (lookup (is_at (slice_cmp nat_cmp m)) es) n)) no_rows
    zero Control n = refl
    zero (Log m) n = refl
    zero (NewKeys m) n = refl
    zero (NewRows m) n = refl
