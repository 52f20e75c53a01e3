-- What pages in memory stand for.
use Rattle.std.specs.Prelude.{◌≡◌, ◌==◌, ◌&&◌, if◌then◌else◌, ℕ, ◌+◌, ◌^◌, ◌≤◌, max, true, false, length, List, [], ◌++◌, Option, Some, codes, decimal}
use Rattle.std.specs.BTreeMap.{BTreeMap, get}
use Rattle.std.specs.Cmp.Lexicographic.{slice_cmp, pointwise}
use Rattle.std.specs.Ordering.{nat_cmp}
use Rattle.aria_page.specs.declared.edit.Edit.{Edit}
use Rattle.aria_page.specs.declared.page.TheConstants.{BODY_BYTES}
use Rattle.aria_page.specs.declared.place.Part.{Part}
use Rattle.aria_page.specs.declared.place.Part.TheVariants.{Keys as KeysPart, Rows as RowsPart}
use Rattle.aria_page.specs.Edit.{all_edited}
use Rattle.aria_page.specs.Page.{page_body}
use Rattle.aria_host.specs.declared.file_name.FileName.{FileName}
use Rattle.aria_host.specs.declared.file_name.FileName.TheVariants.{Control, Log, Keys, Rows, NewKeys, NewRows}
use Rattle.aria_host.specs.Folder.{same_file}
use Rattle.aria_cache.specs.declared.mem_file.MemFile.{MemFile}
use Rattle.aria_cache.specs.declared.mem_pages.MemPages.{MemPages}
use Rattle.aria_cache.specs.MemFile.{zero_body, blank_body, file_body, file_count}
use Rattle.aria_cache.specs.PageState.{Bodies, Counts, PageState}

-- the name of the table of a slot
abbrev pub mem_name : ℕ → List ℕ
mem_name slot = codes "m" ++ decimal slot

-- files by the names of their tables
abbrev pub Files : Type 0
Files = BTreeMap (List ℕ) MemFile

-- the file of that name, if it has pages
abbrev pub file_in : Files → List ℕ → Option MemFile
file_in files name = get (slice_cmp nat_cmp) files name

-- a page of a file is edited
pub record EditsIn (part : Part) (name : List ℕ) (number : ℕ) (edits : List Edit) (old new : Files) : Type 0 where
  pub bodies : (m : List ℕ) (q : ℕ) → file_body part (file_in new m) q ≡ (if pointwise ◌==◌ name m && (number == q) then all_edited edits (file_body part (file_in old m) q) else file_body part (file_in old m) q)
  pub counts : (m : List ℕ) → file_count (file_in new m) ≡ (if pointwise ◌==◌ name m then max (file_count (file_in old m)) (number + 1) else file_count (file_in old m))

-- the number of pages of a file is set, and none is edited
pub record SetsIn (part : Part) (name : List ℕ) (pages : ℕ) (old new : Files) : Type 0 where
  pub bodies : (m : List ℕ) (q : ℕ) → file_body part (file_in new m) q ≡ (if pointwise ◌==◌ name m then blank_body part pages q else file_body part (file_in old m) q)
  pub counts : (m : List ℕ) → file_count (file_in new m) ≡ (if pointwise ◌==◌ name m then pages else file_count (file_in old m))

-- no page is edited
pub record SameIn (part : Part) (old new : Files) : Type 0 where
  pub bodies : (m : List ℕ) (q : ℕ) → file_body part (file_in new m) q ≡ file_body part (file_in old m) q
  pub counts : (m : List ℕ) → file_count (file_in new m) ≡ file_count (file_in old m)

-- the bodies of index files and data files
abbrev pub bodies_in : Files → Files → Bodies
bodies_in keys rows (Keys name) number = Some (file_body KeysPart (file_in keys name) number)
bodies_in keys rows (Rows name) number = Some (file_body RowsPart (file_in rows name) number)
bodies_in keys rows Control number = Some zero_body
bodies_in keys rows (Log n) number = Some zero_body
bodies_in keys rows (NewKeys name) number = Some zero_body
bodies_in keys rows (NewRows name) number = Some zero_body

abbrev pub counts_in : Files → Files → Counts
counts_in keys rows (Keys name) = file_count (file_in keys name)
counts_in keys rows (Rows name) = file_count (file_in rows name)
counts_in keys rows Control = 0
counts_in keys rows (Log n) = 0
counts_in keys rows (NewKeys name) = 0
counts_in keys rows (NewRows name) = 0

abbrev pub mem_state : MemPages → PageState
mem_state pages = record {
  is_open = λ slot. true;
  name = mem_name;
  counts = counts_in pages.keys pages.rows;
  bodies = bodies_in pages.keys pages.rows;
  late = λ f n. false;
  in_group = pages.in_group;
  edited = pages.edited;
  edits = [];
  touched = 0;
  made = 0;
  bytes = 0;
  pending = [];
  reach = 0;
  kept = pages.fault;
  loaded = page_body pages.loaded;
  lent = pages.lent;
  faults = 0;
}

-- Bodies and numbers of pages that files may have.
pub record AreFiles (counts : Counts) (bodies : Bodies) : Type 0 where
  pub low : (f : FileName) → counts f ≤ 2 ^ 31
  pub long : (f : FileName) (n : ℕ) (body : List ℕ) → bodies f n ≡ Some body → length body ≡ BODY_BYTES
  pub past : (f : FileName) (n : ℕ) → counts f ≤ n → bodies f n ≡ Some zero_body

-- what holds of pages in memory
abbrev pub MemStands : MemPages → Type 0
MemStands pages = AreFiles (counts_in pages.keys pages.rows) (bodies_in pages.keys pages.rows)

-- a file's number of pages is set
abbrev pub counts_set : FileName → ℕ → Counts → Counts
counts_set file pages counts = λ f. if same_file file f then pages else counts f

-- its pages are as if they were never edited
abbrev pub bodies_set : FileName → Part → ℕ → Bodies → Bodies
bodies_set file part pages bodies = λ f n. if same_file file f then Some (blank_body part pages n) else bodies f n

-- all but the files is as it was
pub record SameRest (old new : MemPages) : Type 0 where
  pub in_group : new.in_group ≡ old.in_group
  pub edited : new.edited ≡ old.edited
  pub fault : new.fault ≡ old.fault
  pub loaded : new.loaded ≡ old.loaded
  pub lent : new.lent ≡ old.lent
