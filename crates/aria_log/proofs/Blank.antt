-- Zeros behind the log's end.
use Rattle.std.proofs.Common.{◌≡◌, ℕ, ◌+◌, ◌*◌, ◌/◌, ◌%◌, ◌<◌, ◌≤◌, Bool, true, false, IsTrue, Option, None, Some, List, length, take, refl, sym, ◌∙◌, ap, subst, arith, inl, inr, rules}
use Rattle.std.specs.Prelude.{slice_get, option_and_then, IsSome, unwrap_or, max, ◌↔◌}
use Rattle.std.specs.Option.{option_map, option_map_or}
use Rattle.std.proofs.lemmas.Bool.{cases_lt}
use Rattle.std.proofs.lemmas.List.{length-take, get_or_past}
use Rattle.std.proofs.lemmas.Option.{get_or_from_slice_get, same_Some}
use Rattle.aria_page.specs.Page.{zero_page}
use Rattle.aria_host.specs.declared.host.Extent.{Extent}
use Rattle.aria_host.specs.declared.file_name.FileName.TheVariants.{Log}
use Rattle.aria_host.specs.Folder.{Folder, page_count}
use Rattle.aria_host.specs.State.{State}
use Rattle.aria_host.specs.Calls.{Unchanged, extent_of, IsPage}
use Rattle.aria_host.specs.Seen.{page_or_zero}
use Rattle.aria_log.specs.declared.log.Log.{Log as LogValue}
use Rattle.aria_log.specs.LogPage.{read_log_page}
use Rattle.aria_log.specs.Pieces.{LogFiles, log_files, pieces_of}
use Rattle.aria_record.specs.Logged.{Logged}
use Rattle.aria_log.specs.Log.{IsThere, IsOpened, EndsAt, IsBlankFrom, EndsFile, IsEnded, KeepsRoom}
use Rattle.aria_log.proofs.Counting.{below_or_same}
use Rattle.aria_log.proofs.Staying.{look_opened}
use Rattle.aria_log.proofs.LogPages.{zero_reads}

-- a page that was read is the one that stands there
pub page_reads : (content : Option (List (List ℕ))) (at : ℕ) (page : List ℕ) → option_and_then (λ (pages : List (List ℕ)). slice_get pages at) content ≡ Some page → page_or_zero at content ≡ page
page_reads None at page is = absurd (cc)
page_reads (Some pages) at page is = get_or_from_slice_get pages at page zero_page is

-- what a look found is the number of the file's pages
pub extent_size : (content : Option (List (List ℕ))) (extent : Extent) → Some extent ≡ extent_of content → extent.pages ≡ option_map_or length content 0
extent_size None extent e = absurd (cc)
extent_size (Some pages) extent e = ap (λ (x : Extent). x.pages) (same_Some _ _ e)

-- a look finds whole pages
pub extent_even : (content : Option (List (List ℕ))) (extent : Extent) → Some extent ≡ extent_of content → extent.odd ≡ false
extent_even None extent e = absurd (cc)
extent_even (Some pages) extent e = ap (λ (x : Extent). x.odd) (same_Some _ _ e)

-- behind a file's last page there are zeros
pub past_blank : (content : Option (List (List ℕ))) (at : ℕ) → option_map_or length content 0 ≤ at → page_or_zero at content ≡ zero_page
past_blank None at past = refl
past_blank (Some pages) at past = get_or_past pages at zero_page past

-- one page more is zeros
pub blank_more : (content : Option (List (List ℕ))) (first at : ℕ) → ((page : ℕ) → first ≤ page → page < at → page_or_zero page content ≡ zero_page) → page_or_zero at content ≡ zero_page
    → (page : ℕ) → first ≤ page → page < at + 1 → page_or_zero page content ≡ zero_page
blank_more content first at so_far this page from below = elim (below_or_same page at (omega (arith, below))) [
  | inl less ↦ so_far page from less
  | inr same ↦ ap (λ (k : ℕ). page_or_zero k content) same ∙ this
]

-- all pages up to the file's last are zeros
pub blank_all : (content : Option (List (List ℕ))) (extent : Extent) (first at : ℕ) → Some extent ≡ extent_of content → extent.pages ≤ at → ((page : ℕ) → first ≤ page → page < at → page_or_zero page content ≡ zero_page) → IsBlankFrom first content
blank_all content extent first at is all zeros page from =
    let size = extent_size content extent is in
    elim (cases_lt page at) [
      | inl below ↦ zeros page from below
      | inr past ↦ past_blank content page (omega (arith, all, past, size))
    ]

-- no page of a file holds anything where only zeros stand
pub blank_ends : (files : LogFiles) (end : ℕ) (there : Bool) → IsThere there files end → IsBlankFrom (end % 1024) (files (end / 1024)) → EndsAt there files end
unfolding pieces_of
blank_ends files end there now blank = record { now = now; none = λ k from same. none k (omega (arith, from, same)) (subst (λ (f : ℕ). IsBlankFrom (end % 1024) (files f)) (sym same) blank) }
  where
    none : (k : ℕ) → end % 1024 ≤ k % 1024 → IsBlankFrom (end % 1024) (files (k / 1024)) → pieces_of files k ≡ None
    none k from blank' = ap (read_log_page k) (blank' (k % 1024) from) ∙ zero_reads k

-- a file that was cut has no page from there on
pub cut_blank : (at : ℕ) (content : Option (List (List ℕ))) → IsBlankFrom at (option_map (take at) content)
cut_blank at None page from = refl
cut_blank at (Some pages) page from = get_or_past (take at pages) page zero_page (omega (arith, length-take at pages, from))

-- a page that isn't zeros
pub not_blank : (content : Option (List (List ℕ))) (first at : ℕ) (page : List ℕ) (b : Bool) → first ≤ at → page_or_zero at content ≡ page → (IsTrue b ↔ (page ≡ zero_page)) → b ≡ false → IsTrue false ↔ IsBlankFrom first content
not_blank content first at page b from is zero isnt = (
  λ (t : IsTrue false). absurd (cc),
  λ blank. absurd (let yes' : IsTrue b = zero.1 (sym is ∙ blank at from) in (cc)),
)

-- nothing stands behind the end of a file that is no longer
pub short_blank : (content : Option (List (List ℕ))) (extent : Extent) (first : ℕ) → Some extent ≡ extent_of content → extent.pages ≤ first → IsTrue true ↔ IsBlankFrom first content
short_blank content extent first is short = (
  λ t page from. past_blank content page (omega (arith, extent_size content extent is, short, from)),
  λ blank. refl,
)

-- the page is there
pub read_there : (old now : Folder) (f file at : ℕ) (extent : Extent) → now ≡ old → file ≡ f → Some extent ≡ extent_of (log_files old f) → at < extent.pages → at < page_count (Log file) now
read_there old now f file at extent same file_is found below =
    omega (arith, extent_size (log_files old f) extent found, ap (λ (k : ℕ). page_count (Log k) old) file_is, ap (λ (x : Folder). page_count (Log file) x) same, below)

-- the page that was read stands in the file as it was
pub read_page : (old now : Folder) (f file at : ℕ) (page : List ℕ) → now ≡ old → file ≡ f → IsPage (Log file) at now page → page_or_zero at (log_files old f) ≡ page
read_page old now f file at page same file_is is =
    page_reads (log_files old f) at page (subst (λ (k : ℕ). IsPage (Log k) at old page) file_is (subst (λ (x : Folder). IsPage (Log file) at x page) same is))

-- pages that aren't all zeros reach behind that place
past_end : (content : Option (List (List ℕ))) (first : ℕ) → (IsBlankFrom first content → ⊥) → first ≤ option_map_or length content 0
past_end content first some = elim (cases_lt (option_map_or length content 0) first) [
  | inl short ↦ absurd (some (λ page from. past_blank content page (omega (arith, short, from))))
  | inr inside ↦ inside
]

-- a test that is false says that something else stands there
pub isnt_blank : (content : Option (List (List ℕ))) (first : ℕ) (b : Bool) → b ≡ false → (IsTrue b ↔ IsBlankFrom first content) → IsBlankFrom first content → ⊥
isnt_blank content first b is tests blank = let t : IsTrue b = tests.1 blank in absurd (cc)

-- the file that is cut is there, and reaches so far
pub cut_there : (content now : Option (List (List ℕ))) (extent : Extent) (first : ℕ) → now ≡ content → Some extent ≡ extent_of content → (IsBlankFrom first content → ⊥) → (pages : List (List ℕ)) × (now ≡ Some pages) × (first ≤ length pages)
cut_there None now extent first same found some = absurd (cc)
cut_there (Some pages) now extent first same found some = (pages, same, past_end (Some pages) first some)

-- a file that is there
there_still : (content : Option (List (List ℕ))) (extent : Extent) → Some extent ≡ extent_of content → IsSome content
there_still None extent found = absurd (cc)
there_still (Some pages) extent found = search rules

-- how many pages a look found
found_pages : (content : Option (List (List ℕ))) (extent : Extent) → Some extent ≡ extent_of content → Some extent.pages ≡ option_map length content
found_pages None extent found = absurd (cc)
found_pages (Some pages) extent found = ap (λ (x : Extent). Some x.pages) (same_Some _ _ found)

-- how many are left of a file that was cut
left_pages : (content : Option (List (List ℕ))) (extent : Extent) (first : ℕ) → Some extent ≡ extent_of content → (IsBlankFrom first content → ⊥) → Some first ≡ option_map length (option_map (take first) content)
left_pages None extent first found some = absurd (cc)
left_pages (Some pages) extent first found some =
    let size : length (take first pages) ≡ first = omega (arith, length-take first pages, past_end (Some pages) first some) in
    ap Some (sym size)

-- the log's last file stays, since only zeros stand behind the log's end
pub kept_end : (log : LogValue) (old new : State) (base : ℕ) (groups : List Logged) (extent : Extent) → IsOpened log old base groups (log.number / 1024) → Unchanged old new
    → Some extent ≡ extent_of (log_files old.folder (log.number / 1024)) → IsBlankFrom (log.number % 1024) (log_files old.folder (log.number / 1024)) → IsEnded log old new base groups (Some extent.pages)
kept_end log old new base groups extent is same found blank =
    let file : log_files new.folder (log.number / 1024) ≡ log_files old.folder (log.number / 1024) = ap (λ (x : Folder). log_files x (log.number / 1024)) same.folder in
    record {
      opened = look_opened log old new base groups (log.number / 1024) same is;
      ends = blank_ends (log_files new.folder) log.number true (there_still _ extent (found ∙ ap extent_of (sym file))) (subst (λ (o : Option (List (List ℕ))). IsBlankFrom (log.number % 1024) o) (sym file) blank);
      file = record { blank = λ b. file; cut = λ some. absurd (some blank) };
      size = found_pages _ extent (found ∙ ap extent_of (sym file));
    }

-- the log's last file was cut
pub cut_end : (log : LogValue) (old mid new : State) (base : ℕ) (groups : List Logged) (extent : Extent) (page : ℕ) → IsOpened log new base groups (log.number / 1024) → Unchanged old mid
    → Some extent ≡ extent_of (log_files old.folder (log.number / 1024)) → (IsBlankFrom (log.number % 1024) (log_files old.folder (log.number / 1024)) → ⊥) → page ≡ log.number % 1024
    → log_files new.folder (log.number / 1024) ≡ option_map (take (log.number % 1024)) (log_files mid.folder (log.number / 1024)) → IsEnded log old new base groups (Some page)
cut_end log old mid new base groups extent page is same found some page_is cut =
    let at : ℕ = log.number % 1024 in
    let was : Option (List (List ℕ)) = log_files old.folder (log.number / 1024) in
    let file : log_files new.folder (log.number / 1024) ≡ option_map (take at) was = cut ∙ ap (λ (x : Folder). option_map (take at) (log_files x (log.number / 1024))) same.folder in
    let size : Some page ≡ option_map length (log_files new.folder (log.number / 1024)) = ap Some page_is ∙ left_pages was extent at found some ∙ ap (option_map length) (sym file) in
    record {
      opened = is;
      ends = blank_ends (log_files new.folder) log.number true (some_left _ page size) (subst (λ (o : Option (List (List ℕ))). IsBlankFrom at o) (sym file) (cut_blank at was));
      file = record { blank = λ b. absurd (some b); cut = λ s. file };
      size = size;
    }
  where
    some_left : (o : Option (List (List ℕ))) (n : ℕ) → Some n ≡ option_map length o → IsSome o
    some_left None n e = absurd (cc)
    some_left (Some pages) n e = search rules

-- the log's last file isn't there
pub none_end : (log : LogValue) (old new : State) (base : ℕ) (groups : List Logged) → IsOpened log old base groups (log.number / 1024) → Unchanged old new → log_files old.folder (log.number / 1024) ≡ None → IsEnded log old new base groups None
none_end log old new base groups is same absent =
    let file : log_files new.folder (log.number / 1024) ≡ log_files old.folder (log.number / 1024) = ap (λ (x : Folder). log_files x (log.number / 1024)) same.folder in
    let blank : IsBlankFrom (log.number % 1024) None = λ page from. refl in
    record {
      opened = look_opened log old new base groups (log.number / 1024) same is;
      ends = blank_ends (log_files new.folder) log.number false (file ∙ absent) (subst (λ (o : Option (List (List ℕ))). IsBlankFrom (log.number % 1024) o) (sym (file ∙ absent)) blank);
      file = record { blank = λ b. file; cut = λ some. absurd (some (subst (λ (o : Option (List (List ℕ))). IsBlankFrom (log.number % 1024) o) (sym absent) blank)) };
      size = ap (option_map length) (sym (file ∙ absent));
    }

-- the file was looked at before it was ended
pub looked_end : (log : LogValue) (old mid new : State) (base : ℕ) (groups : List Logged) (pages : Option ℕ) → Unchanged old mid → IsEnded log mid new base groups pages → IsEnded log old new base groups pages
looked_end log old mid new base groups pages same is = record {
  opened = is.opened;
  ends = is.ends;
  file = subst (λ (x : Folder). EndsFile (log.number % 1024) (log_files x (log.number / 1024)) (log_files new.folder (log.number / 1024))) same.folder is.file;
  size = is.size;
}

-- a log that was started knows how far its last file goes
pub keeps_room : (log log' : LogValue) (old mid new : State) (base : ℕ) (groups : List Logged) (pages : Option ℕ) → log_files mid.folder (log.number / 1024) ≡ log_files old.folder (log.number / 1024) → IsEnded log mid new base groups pages
    → log'.made ≡ max log.number (1024 * (log.number / 1024) + unwrap_or pages 0) → KeepsRoom log log' (log_files old.folder) (log_files new.folder)
keeps_room log log' old mid new base groups pages same is made = record {
  file = subst (λ (o : Option (List (List ℕ))). EndsFile (log.number % 1024) o (log_files new.folder (log.number / 1024))) same is.file;
  made = made ∙ ap (λ (k : ℕ). max log.number (1024 * (log.number / 1024) + k)) (ap (λ (o : Option ℕ). unwrap_or o 0) is.size ∙ or_none (log_files new.folder (log.number / 1024)));
}
  where
    or_none : (o : Option (List (List ℕ))) → unwrap_or (option_map length o) 0 ≡ option_map_or length o 0
    or_none None = refl
    or_none (Some l) = refl
