-- The pages of the log's file are read one after the other, and nothing changes.
use Rattle.std.proofs.Common.{◌≡◌, ◌||◌, ℕ, zero, suc, ◌+◌, ◌≤◌, Bool, true, false, Option, None, Some, unwrap_or, List, [], ◌∷◌, ◌++◌, length, drop, map, refl, sym, ◌∙◌, ap, subst, arith}
use Rattle.std.specs.Prelude.{slice_get, option_and_then}
use Rattle.std.specs.Option.{option_map_or}
use Rattle.std.specs.Bool.{MatchBool}
use Rattle.std.proofs.lemmas.List.{drop_all, append-nil}
use Rattle.std.proofs.lemmas.Option.{same_Some}
use Rattle.aria_host.specs.Folder.{Folder, page_count}
use Rattle.aria_host.specs.Calls.{IsPage}
use Rattle.aria_journal.specs.LogPage.{read_log_page}
use Rattle.aria_journal.specs.Frames.{frames_in, frames_within}
use Rattle.aria_journal.specs.Front.{Piece, is_full, front, runs, run_rest, frames_of_runs, frames_of, end_of, begins_behind}
use Rattle.aria_journal.specs.declared.opened.Frame.{Frame}
use Rattle.aria_journal.specs.Places.{bytes_from, pages_from, frame_pages, frame_pages_of}
use Rattle.aria_journal.specs.Collected.{all_frames, all_pages}
use Rattle.aria_journal.specs.Log.{log_file, log_pages}
use Rattle.aria_journal.proofs.Fronts.{front_nil, front_some, front_none, piece_some, piece_none, piece_other, quiet_nil}

-- a page of a list that is there
get_drop : (n : ℕ) (pages : List (List ℕ)) (page : List ℕ) → slice_get pages n ≡ Some page → drop n pages ≡ page ∷ drop (n + 1) pages
get_drop n [] page e = absurd (cc)
get_drop zero (p ∷ pages) page e = ap (λ (q : List ℕ). q ∷ pages) (same_Some p page e)
get_drop (suc n) (p ∷ pages) page e =
    let next : suc n + 1 ≡ suc (n + 1) = omega arith in
    get_drop n pages page e ∙ ap (λ (k : ℕ). page ∷ drop k (p ∷ pages)) (sym next)

-- the page that was read is the next one
pub read_next : (n : ℕ) (folder : Folder) (page : List ℕ) → IsPage log_file n folder page → drop n (log_pages folder) ≡ page ∷ drop (n + 1) (log_pages folder)
read_next n folder page is = by_file (folder log_file) is
  where
    by_file : (o : Option (List (List ℕ))) → option_and_then (λ (pages : List (List ℕ)). slice_get pages n) o ≡ Some page → drop n (unwrap_or o []) ≡ page ∷ drop (n + 1) (unwrap_or o [])
    by_file None e = absurd (cc)
    by_file (Some pages) e = get_drop n pages page e

-- how many pages the file has
pub count_is : (folder : Folder) → length (log_pages folder) ≡ page_count log_file folder
count_is folder = by_file (folder log_file)
  where
    by_file : (o : Option (List (List ℕ))) → length (unwrap_or o []) ≡ option_map_or length o 0
    by_file None = refl
    by_file (Some pages) = refl

-- nothing more comes in front
pub all_collected : (frames : List (List ℕ)) (run : List ℕ) (pieces : List Piece) → pieces ≡ [] → all_frames frames run pieces ≡ frames ++ frames_in run
unfolding all_frames run_rest runs frames_of_runs
all_collected frames run [] e =
    ap (λ (l : List (List ℕ)). frames ++ l) (append-nil (frames_in (run ++ []))) ∙ ap (λ (l : List ℕ). frames ++ frames_in l) (append-nil run)
all_collected frames run (p ∷ pieces) e = absurd (cc)

all_placed : (starts : List ℕ) (first : ℕ) (run : List ℕ) (n : ℕ) (pieces : List Piece) → pieces ≡ [] → all_pages starts first run n pieces ≡ starts ++ pages_from first 0 (frames_in run)
unfolding all_pages run_rest frame_pages
all_placed starts first run n [] e =
    ap (λ (l : List ℕ). starts ++ l) (append-nil (pages_from first 0 (frames_in (run ++ [])))) ∙ ap (λ (l : List ℕ). starts ++ pages_from first 0 (frames_in l)) (append-nil run)
all_placed starts first run n (p ∷ pieces) e = absurd (cc)

-- the rest of a run before no page, and before one that begins a run
rest_nil : run_rest [] ≡ []
unfolding run_rest
rest_nil = refl

rest_of_beginning : (bytes : List ℕ) (pieces : List Piece) → run_rest ((true, bytes) ∷ pieces) ≡ []
unfolding run_rest
rest_of_beginning bytes pieces = refl

-- no byte holds a frame
frames_in_nil : frames_in [] ≡ []
unfolding frames_in frames_within
frames_in_nil = refl

-- a front that may not go on with a run begins with none's rest
first_begins : (n : ℕ) (pages : List (List ℕ)) → run_rest (front n false pages) ≡ []
first_begins n [] = ap run_rest (front_nil n false) ∙ rest_nil
first_begins n (page ∷ pages) = by_read (read_log_page n page) refl
  where
    by_read : (o : Option Piece) → read_log_page n page ≡ o → run_rest (front n false (page ∷ pages)) ≡ []
    by_read None none = ap run_rest (front_none n false page pages (piece_none n false page none)) ∙ rest_nil
    by_read (Some (true, bytes)) some = ap run_rest (front_some n false page pages (true, bytes) (piece_some n false page (true, bytes) some refl)) ∙ rest_of_beginning bytes (front (n + 1) (is_full (true, bytes)) pages)
    by_read (Some (false, bytes)) some = ap run_rest (front_none n false page pages (piece_other n false page (false, bytes) some refl)) ∙ rest_nil

-- What was read of the front: so many pages, with the frames collected and the pages in which they begin.
pub record IsRead (pages : List (List ℕ)) (number : ℕ) (frames : List (List ℕ)) (starts : List ℕ) (first : ℕ) (run : List ℕ) (full : Bool) : Type 0 where
  pub ends : end_of pages ≡ number + length (front number full (drop number pages))
  pub frames_are : frames_of pages ≡ all_frames frames run (front number full (drop number pages))
  pub starts_are : frame_pages_of pages ≡ all_pages starts first run number (front number full (drop number pages))

-- All that was read is all of the front.
pub record IsAll (pages : List (List ℕ)) (number : ℕ) (frames : List (List ℕ)) (starts : List ℕ) (first : ℕ) (run : List ℕ) : Type 0 where
  pub end : number ≡ end_of pages
  pub frames_are : frames_of pages ≡ frames ++ frames_in run
  pub starts_are : frame_pages_of pages ≡ starts ++ pages_from first 0 (frames_in run)

-- what a page that is in the front does to it
abbrev pub Goes : ℕ → List (List ℕ) → List (List ℕ) → List ℕ → List ℕ → ℕ → ℕ → List ℕ → List ℕ → Bool → Bool → List ℕ → List (List ℕ) → Type 0
Goes number frames frames' starts starts' first first' run run' full full' page pages =
    (length (front number full (page ∷ pages)) ≡ suc (length (front (number + 1) full' pages))) × (all_frames frames run (front number full (page ∷ pages)) ≡ all_frames frames' run' (front (number + 1) full' pages))
    × (all_pages starts first run number (front number full (page ∷ pages)) ≡ all_pages starts' first' run' (number + 1) (front (number + 1) full' pages))

-- one page on
pub read_on : (pages : List (List ℕ)) (number : ℕ) (frames frames' : List (List ℕ)) (starts starts' : List ℕ) (first first' : ℕ) (run run' : List ℕ) (full full' : Bool) (page : List ℕ) → IsRead pages number frames starts first run full
    → drop number pages ≡ page ∷ drop (number + 1) pages → Goes number frames frames' starts starts' first first' run run' full full' page (drop (number + 1) pages) → IsRead pages (number + 1) frames' starts' first' run' full'
read_on pages number frames frames' starts starts' first first' run run' full full' page is next taken = record {
  ends = is.ends ∙ ap (λ (l : List (List ℕ)). number + length (front number full l)) next ∙ ap (λ (k : ℕ). number + k) taken.0 ∙ omega arith;
  frames_are = is.frames_are ∙ ap (λ (l : List (List ℕ)). all_frames frames run (front number full l)) next ∙ taken.1;
  starts_are = is.starts_are ∙ ap (λ (l : List (List ℕ)). all_pages starts first run number (front number full l)) next ∙ taken.2;
}

-- the front ends here
pub read_ends : (pages : List (List ℕ)) (number : ℕ) (frames : List (List ℕ)) (starts : List ℕ) (first : ℕ) (run : List ℕ) (full : Bool) → IsRead pages number frames starts first run full → front number full (drop number pages) ≡ []
    → IsAll pages number frames starts first run
read_ends pages number frames starts first run full is none = record {
  end = sym (is.ends ∙ ap (λ (l : List Piece). number + length l) none ∙ omega arith);
  frames_are = is.frames_are ∙ all_collected frames run (front number full (drop number pages)) none;
  starts_are = is.starts_are ∙ all_placed starts first run number (front number full (drop number pages)) none;
}

-- before the first page nothing is collected
none_collected : (pages : List (List ℕ)) (full : Bool) → full ≡ false → all_frames [] [] (front 0 full pages) ≡ frames_of_runs (front 0 full pages)
unfolding all_frames
none_collected pages full e =
    ap (λ (l : List ℕ). frames_in l ++ frames_of_runs (front 0 full pages)) (ap (λ (b : Bool). run_rest (front 0 b pages)) e ∙ first_begins 0 pages) ∙ ap (λ (l : List (List ℕ)). l ++ frames_of_runs (front 0 full pages)) frames_in_nil

none_placed : (pages : List (List ℕ)) (full : Bool) → full ≡ false → all_pages [] 0 [] 0 (front 0 full pages) ≡ frame_pages 0 (front 0 full pages)
unfolding all_pages pages_from bytes_from
none_placed pages full e =
    ap (λ (l : List ℕ). pages_from 0 0 (frames_in l) ++ frame_pages 0 (front 0 full pages)) (ap (λ (b : Bool). run_rest (front 0 b pages)) e ∙ first_begins 0 pages)
    ∙ ap (λ (l : List (List ℕ)). pages_from 0 0 l ++ frame_pages 0 (front 0 full pages)) frames_in_nil

-- no page was read yet
pub read_none : (pages frames : List (List ℕ)) (starts : List ℕ) (first : ℕ) (run : List ℕ) (full : Bool) → frames ≡ [] → starts ≡ [] → first ≡ 0 → run ≡ [] → full ≡ false → IsRead pages 0 frames starts first run full
unfolding end_of frames_of frame_pages_of
read_none pages frames starts first run full f s o r e = record {
  ends = ap (λ (b : Bool). length (front 0 b pages)) (sym e) ∙ omega arith;
  frames_are = ap (λ (b : Bool). frames_of_runs (front 0 b pages)) (sym e) ∙ sym (ap (λ (l : List (List ℕ)). all_frames l run (front 0 full pages)) f ∙ ap (λ (l : List ℕ). all_frames [] l (front 0 full pages)) r ∙ none_collected pages full e);
  starts_are = ap (λ (b : Bool). frame_pages 0 (front 0 b pages)) (sym e)
      ∙ sym (ap (λ (l : List ℕ). all_pages l first run 0 (front 0 full pages)) s ∙ ap (λ (k : ℕ). all_pages [] k run 0 (front 0 full pages)) o ∙ ap (λ (l : List ℕ). all_pages [] 0 l 0 (front 0 full pages)) r ∙ none_placed pages full e);
}

-- the page that was read is the next one, where the folder is as it was
pub page_next : (n : ℕ) (folder now : Folder) (page : List ℕ) → now ≡ folder → IsPage log_file n now page → drop n (log_pages folder) ≡ page ∷ drop (n + 1) (log_pages folder)
page_next n folder now page same is = read_next n folder page (subst (λ (f : Folder). IsPage log_file n f page) same is)

-- what a choice gives
when_true : (b : Bool) (A B : Type 0) → MatchBool b A B → b ≡ true → A
when_true true A B h e = h
when_true false A B h e = absurd (cc)

when_false : (b : Bool) (A B : Type 0) → MatchBool b A B → b ≡ false → B
when_false true A B h e = absurd (cc)
when_false false A B h e = h

-- what a page that was looked at does to the front
abbrev pub Taken : Bool → ℕ → List Frame → List Frame → ℕ → ℕ → List ℕ → List ℕ → Bool → Bool → List ℕ → List (List ℕ) → Type 0
Taken taken number frames frames' first first' run run' full full' page pages = MatchBool taken
    (Goes number (map (λ f. f.bytes) frames) (map (λ f. f.bytes) frames') (map (λ f. f.page) frames) (map (λ f. f.page) frames') first first' run run' full full' page pages)
    ((front number full (page ∷ pages) ≡ []) × (frames' ≡ frames) × (first' ≡ first) × (run' ≡ run))

-- the same facts, of frames with their pages
abbrev pub IsReadTo : List (List ℕ) → ℕ → List Frame → ℕ → List ℕ → Bool → Type 0
IsReadTo pages number frames first run full = IsRead pages number (map (λ f. f.bytes) frames) (map (λ f. f.page) frames) first run full

abbrev pub IsAllTo : List (List ℕ) → ℕ → List Frame → ℕ → List ℕ → Type 0
IsAllTo pages number frames first run = IsAll pages number (map (λ f. f.bytes) frames) (map (λ f. f.page) frames) first run

-- the page is in the front
pub read_taken : (pages : List (List ℕ)) (number : ℕ) (frames frames' : List Frame) (first first' : ℕ) (run run' : List ℕ) (full full' : Bool) (page : List ℕ) (taken : Bool) → IsReadTo pages number frames first run full
    → drop number pages ≡ page ∷ drop (number + 1) pages → Taken taken number frames frames' first first' run run' full full' page (drop (number + 1) pages) → taken ≡ true → IsReadTo pages (number + 1) frames' first' run' full'
read_taken pages number frames frames' first first' run run' full full' page taken is next found yes' =
    read_on pages number (map (λ f. f.bytes) frames) (map (λ f. f.bytes) frames') (map (λ f. f.page) frames) (map (λ f. f.page) frames') first first' run run' full full' page is next (when_true taken _ _ found yes')

-- the page is not in the front, which ends before it
pub read_stops : (pages : List (List ℕ)) (number : ℕ) (frames frames' : List Frame) (first first' : ℕ) (run run' : List ℕ) (full full' : Bool) (page : List ℕ) (taken : Bool) → IsReadTo pages number frames first run full
    → drop number pages ≡ page ∷ drop (number + 1) pages → Taken taken number frames frames' first first' run run' full full' page (drop (number + 1) pages) → taken ≡ false → IsAllTo pages number frames' first' run'
read_stops pages number frames frames' first first' run run' full full' page taken is next found stopped =
    let (none, same_frames, same_first, same_run) = when_false taken _ _ found stopped in
    let all = read_ends pages number (map (λ f. f.bytes) frames) (map (λ f. f.page) frames) first run full is (ap (front number full) next ∙ none) in
    subst (λ (l : List Frame). IsAllTo pages number l first' run') (sym same_frames) (subst (λ (k : ℕ). IsAllTo pages number frames k run') (sym same_first) (subst (λ (l : List ℕ). IsAllTo pages number frames first l) (sym same_run) all))

-- all pages were read
pub read_past : (pages : List (List ℕ)) (number : ℕ) (frames : List (List ℕ)) (starts : List ℕ) (first : ℕ) (run : List ℕ) (full : Bool) → IsRead pages number frames starts first run full → length pages ≤ number → IsAll pages number frames starts first run
read_past pages number frames starts first run full is past = read_ends pages number frames starts first run full is (ap (front number full) (drop_all number pages past) ∙ front_nil number full)

-- a page that begins no run, one that does, and no page
pub not_begun : (n : ℕ) (pages : List (List ℕ)) (page : List ℕ) (r : Bool) → drop n pages ≡ page ∷ drop (n + 1) pages → r ≡ option_map_or (λ (piece : Piece). piece.0) (read_log_page n page) false → r ≡ false
    → begins_behind n (drop n pages) ≡ begins_behind (n + 1) (drop (n + 1) pages)
unfolding begins_behind
not_begun n pages page r next is none = ap (begins_behind n) next ∙ ap (λ (b : Bool). b || begins_behind (n + 1) (drop (n + 1) pages)) (sym is ∙ none)

pub begun : (n : ℕ) (pages : List (List ℕ)) (page : List ℕ) (r : Bool) → drop n pages ≡ page ∷ drop (n + 1) pages → r ≡ option_map_or (λ (piece : Piece). piece.0) (read_log_page n page) false → r ≡ true
    → begins_behind n (drop n pages) ≡ true
unfolding begins_behind
begun n pages page r next is some = ap (begins_behind n) next ∙ ap (λ (b : Bool). b || begins_behind (n + 1) (drop (n + 1) pages)) (sym is ∙ some)

pub none_begun : (n : ℕ) (pages : List (List ℕ)) → length pages ≤ n → begins_behind n (drop n pages) ≡ false
none_begun n pages past = ap (begins_behind n) (drop_all n pages past) ∙ quiet_nil n
