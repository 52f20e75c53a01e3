-- Frames that are appended, and frames that are forced.
use Rattle.std.proofs.Common.{◌≡◌, inl, ℕ, ◌+◌, ◌≤◌, Bool, true, false, IsTrue, Option, Some, List, [], ◌∷◌, ◌++◌, length, take, drop, refl, sym, ◌∙◌, ap, subst, arith, append_assoc, length-append}
use Rattle.std.specs.Prelude.{All}
use Rattle.std.specs.List.{flat_map}
use Rattle.std.proofs.lemmas.Grind.{flat_map-append}
use Rattle.std.proofs.lemmas.List.{append-nil, length_push, drop-append-le, take-append-le, take-append-drop, take_all, drop_all, length-drop, nil_from_length}
use Rattle.std.proofs.lemmas.List.Elements.{All-push, All-nil}
use Rattle.aria_page.specs.Number.{number}
use Rattle.aria_host.specs.Folder.{Folder}
use Rattle.aria_host.specs.State.{State}
use Rattle.aria_host.specs.Calls.{Syncs}
use Rattle.aria_host.proofs.Moments.{OnlyNow, nothing_moves, one_look, one_after, implied, sync_narrows}
use Rattle.aria_journal.specs.declared.log.Log.{Log as LogValue}
use Rattle.aria_journal.specs.LogPage.{log_body}
use Rattle.aria_journal.specs.Frames.{IsFrame, frame_bytes, frames_bytes, frames_in}
use Rattle.aria_journal.specs.Runs.{IsRun, IsWhole, HoldsFrom, begins_next}
use Rattle.aria_journal.specs.Log.{log_file, LogMoments, LogKeeps, IsImage, IsWriting, IsAt, IsLog, Wrote, Adds}
use Rattle.aria_journal.proofs.FrameLists.{all_found, length-frame_bytes}
use Rattle.aria_journal.proofs.Images.{image_from, whole_and_run}
use Rattle.aria_journal.proofs.Writing.{is_there}
use Rattle.aria_journal.proofs.Appending.{image_now}

-- a frame more, as it is stored
frames_push : (frames : List (List ℕ)) (frame : List ℕ) → frames_bytes (frames ++ frame ∷ []) ≡ (frames_bytes frames ++ number 4 (length frame)) ++ frame
unfolding frames_bytes frame_bytes
frames_push frames frame =
    flat_map-append (λ (f : List ℕ). number 4 (length f) ++ f) frames (frame ∷ [])
    ∙ ap (λ (l : List ℕ). flat_map (λ (f : List ℕ). number 4 (length f) ++ f) frames ++ l) (append-nil (number 4 (length frame) ++ frame))
    ∙ sym (append_assoc (flat_map (λ (f : List ℕ). number 4 (length f) ++ f) frames) (number 4 (length frame)) frame)

-- the bytes behind the forced frames, with a frame more
pub pushed_bytes : (frames : List (List ℕ)) (forced : ℕ) (frame : List ℕ) → forced ≤ length frames
    → (frames_bytes (drop forced frames) ++ number 4 (length frame)) ++ frame ≡ frames_bytes (drop forced (frames ++ frame ∷ []))
pushed_bytes frames forced frame few = sym (frames_push (drop forced frames) frame) ∙ ap frames_bytes (sym (drop-append-le forced frames (frame ∷ []) few))

-- what the log's file holds while bytes of the frames are written
pub keeps_frames : (old new : State) (base frames : List (List ℕ)) (forced : ℕ) (text ahead : List ℕ) → IsWhole base (take forced frames) → forced ≤ length frames → All IsFrame (drop forced frames)
    → text ++ ahead ≡ frames_bytes (drop forced frames) → LogMoments old new (IsImage base text) → LogKeeps old new frames forced
keeps_frames old new base frames forced text ahead whole few are spells run =
    implied old new run (λ c is.
    let all : is.before ++ (is.ahead ++ ahead) ≡ frames_bytes (drop forced frames) = sym (append_assoc is.before is.ahead ahead) ∙ ap (λ (l : List ℕ). l ++ ahead) is.text_is ∙ spells in
    subst (λ (o : Option (List (List ℕ))). HoldsFrom o frames forced) (sym is.content_is)
    (image_from true base is.written is.more frames forced is.before (is.ahead ++ ahead) whole few are is.run is.part all))

-- the conditions on the frames once a frame is pushed
pub whole_push : (base frames : List (List ℕ)) (forced : ℕ) (frame : List ℕ) → forced ≤ length frames → IsWhole base (take forced frames) → IsWhole base (take forced (frames ++ frame ∷ []))
whole_push base frames forced frame few whole = subst (λ (l : List (List ℕ)). IsWhole base l) (sym (take-append-le forced frames (frame ∷ []) few)) whole

pub few_push : (frames : List (List ℕ)) (forced : ℕ) (frame : List ℕ) → forced ≤ length frames → forced ≤ length (frames ++ frame ∷ [])
few_push frames forced frame few = omega (arith, length_push frames frame)

pub are_push : (frames : List (List ℕ)) (forced : ℕ) (frame : List ℕ) → forced ≤ length frames → IsFrame frame → All IsFrame (drop forced frames) → All IsFrame (drop forced (frames ++ frame ∷ []))
are_push frames forced frame few is are =
    subst (λ (l : List (List ℕ)). All IsFrame l) (sym (drop-append-le forced frames (frame ∷ []) few)) (All-push IsFrame (drop forced frames) frame are is)

-- a frame was appended, its length first and then its bytes
pub appended : (log log1 log2 : LogValue) (a b c : State) (frames : List (List ℕ)) (forced : ℕ) (frame head : List ℕ) (done : Bool) → (is : IsLog log a frames forced) → IsFrame frame → head ≡ number 4 (length frame)
    → Adds log1 a b is.base (frames_bytes (drop forced frames) ++ head) true
    → (IsAt log1 b is.base (frames_bytes (drop forced frames) ++ head) → Adds log2 b c is.base ((frames_bytes (drop forced frames) ++ head) ++ frame) done)
    → (IsTrue done → 1 ≤ log2.used) → (IsTrue done → IsLog log2 c (frames ++ frame ∷ []) forced) × LogKeeps a c (frames ++ frame ∷ []) forced
appended log log1 log2 a b c frames forced frame head done is fits head_is first next used =
    let text : List ℕ = frames_bytes (drop forced frames) ++ head in
    let second = next (first.at refl) in
    let spelled : text ++ frame ≡ frames_bytes (drop forced (frames ++ frame ∷ [])) = ap (λ (l : List ℕ). (frames_bytes (drop forced frames) ++ l) ++ frame) head_is ∙ pushed_bytes frames forced frame is.within in
    let whole = whole_push is.base frames forced frame is.within is.whole in
    let few = few_push frames forced frame is.within in
    let are = are_push frames forced frame is.within fits is.are in
    let run = keeps_frames a b is.base (frames ++ frame ∷ []) forced text frame whole few are spelled first.keeps in
    let more = keeps_frames b c is.base (frames ++ frame ∷ []) forced (text ++ frame) [] whole few are (append-nil (text ++ frame) ∙ spelled) second.keeps in (
      λ finished. record {
        base = is.base;
        whole = whole;
        within = few;
        are = are;
        at = subst (λ (l : List ℕ). IsAt log2 c is.base l) spelled (second.at finished);
        idle = λ none. let some : 1 ≤ log2.used = used finished in absurd (omega (arith, some, none));
      },
      one_after a b c run more,
    )

-- it failed while the length of a frame was appended
pub append_failed : (log log1 : LogValue) (a b : State) (frames : List (List ℕ)) (forced : ℕ) (frame head : List ℕ) (done : Bool) → (is : IsLog log a frames forced) → IsFrame frame → head ≡ number 4 (length frame)
    → Adds log1 a b is.base (frames_bytes (drop forced frames) ++ head) done → LogKeeps a b (frames ++ frame ∷ []) forced
append_failed log log1 a b frames forced frame head done is fits head_is first =
    let text : List ℕ = frames_bytes (drop forced frames) ++ head in
    let spelled : text ++ frame ≡ frames_bytes (drop forced (frames ++ frame ∷ [])) = ap (λ (l : List ℕ). (frames_bytes (drop forced frames) ++ l) ++ frame) head_is ∙ pushed_bytes frames forced frame is.within in
    keeps_frames a b is.base (frames ++ frame ∷ []) forced text frame (whole_push is.base frames forced frame is.within is.whole) (few_push frames forced frame is.within)
    (are_push frames forced frame is.within fits is.are) spelled first.keeps

-- the bytes of no frame are none, and of some frames some
no_frames : (frames : List (List ℕ)) → frames_bytes frames ≡ [] → frames ≡ []
unfolding frames_bytes
no_frames [] e = refl
no_frames (frame ∷ frames) e = absurd (omega (arith, ap length e, length-append (frame_bytes frame) (flat_map frame_bytes frames), length-frame_bytes frame))

-- a run that has begun isn't empty
none_written : (written : List (List ℕ)) → begins_next written ≡ true → written ≡ []
none_written [] e = refl
none_written (page ∷ pages) e = absurd (cc)

-- with nothing appended since the last force all frames are forced
pub idle_forced : (log : LogValue) (s : State) (frames : List (List ℕ)) (forced : ℕ) → IsLog log s frames forced → log.used ≡ 0 → IsLog log s frames (length frames)
idle_forced log s frames forced is none =
    let held_none : is.at.held ≡ [] = nil_from_length is.at.held (sym is.at.fills.used_is ∙ none) in
    let written_none : is.at.written ≡ [] = none_written is.at.written (sym is.at.fills.begins_is ∙ is.idle none) in
    let before_none : is.at.before ≡ [] = subst (λ (l : List (List ℕ)). IsRun false (length is.base) true l is.at.before) written_none is.at.writing.run in
    let empty : frames_bytes (drop forced frames) ≡ [] = sym is.at.text_is ∙ ap (λ (l : List ℕ). l ++ is.at.held) before_none ∙ held_none in
    let rest : drop forced frames ≡ [] = no_frames (drop forced frames) empty in
    let all : forced ≡ length frames = omega (arith, ap length rest, length-drop forced frames, is.within) in
    subst (λ (k : ℕ). IsLog log s frames k) all is

-- nothing is done, and the log keeps its frames
pub idle_keeps : (log : LogValue) (s : State) (frames : List (List ℕ)) (forced : ℕ) → OnlyNow s → IsLog log s frames forced → LogKeeps s s frames forced
idle_keeps log s frames forced only is =
    keeps_frames s s is.base frames forced (frames_bytes (drop forced frames)) [] is.whole is.within is.are (append-nil (frames_bytes (drop forced frames)))
    (nothing_moves s only (image_now log s is.base (frames_bytes (drop forced frames)) is.at))

-- what a crash leaves of the log's file while the run is closed
image_closed : (s : State) (base written : List (List ℕ)) (text : List ℕ) → IsWriting true s base written text → (c : Folder) → s.may_leave c → IsImage base text (c log_file)
image_closed s base written text is c leaves =
    let (more, content, part) = is.images c leaves in
    record { written = written; more = more; before = text; ahead = []; content_is = content; run = is.run; part = part; text_is = append-nil text }

-- the last page was written, and the file was brought to the disk or that failed
pub closed_keeps : (log log' : LogValue) (a b c : State) (frames : List (List ℕ)) (forced : ℕ) (synced : Bool) → OnlyNow b → (is : IsLog log a frames forced)
    → Wrote log' a b is.base is.at.written is.at.before is.at.held true → Syncs log_file b c synced → LogKeeps a c frames forced
closed_keeps log log' a b c frames forced synced only is wrote syncs =
    let text : List ℕ = is.at.before ++ is.at.held in
    let writing = wrote.writing refl true (inl refl) in
    keeps_frames a c is.base frames forced text [] is.whole is.within is.are (append-nil text ∙ is.at.text_is)
    (one_after a b c wrote.keeps (one_look b c only (sync_narrows b c syncs) (image_closed b is.base (is.at.written ++ wrote.page ∷ []) text writing)))

-- the last page was not written
pub unwritten_keeps : (log log' : LogValue) (a b : State) (frames : List (List ℕ)) (forced : ℕ) (done : Bool) → (is : IsLog log a frames forced)
    → Wrote log' a b is.base is.at.written is.at.before is.at.held done → LogKeeps a b frames forced
unwritten_keeps log log' a b frames forced done is wrote =
    keeps_frames a b is.base frames forced (is.at.before ++ is.at.held) [] is.whole is.within is.are (append-nil (is.at.before ++ is.at.held) ∙ is.at.text_is) wrote.keeps

-- no frame has no bytes
bytes_of_none : frames_bytes [] ≡ []
unfolding frames_bytes
bytes_of_none = refl

-- the log of whole pages that are on the disk, with an empty page that begins a run
pub settled_log : (log : LogValue) (s : State) (base frames : List (List ℕ)) → IsWhole base frames → s.folder log_file ≡ Some base → ((c : Folder) → s.may_leave c → c log_file ≡ Some base)
    → log.number ≡ length base → log.begins ≡ true → log.used ≡ 0 → drop 16 log.page ≡ log_body [] → IsLog log s frames (length frames)
settled_log log s base frames whole folder images number_is begins used body =
    let all : take (length frames) frames ≡ frames = take_all (length frames) frames (omega arith) in
    let none : drop (length frames) frames ≡ [] = drop_all (length frames) frames (omega arith) in
    let base_is : base ++ [] ≡ base = append-nil base in
    record {
      base = base;
      whole = subst (λ (l : List (List ℕ)). IsWhole base l) (sym all) whole;
      within = omega arith;
      are = subst (λ (l : List (List ℕ)). All IsFrame l) (sym none) (All-nil IsFrame);
      at = record {
        written = [];
        before = [];
        held = [];
        writing = record { folder = folder ∙ ap Some (sym base_is); images = λ c leaves. ([], images c leaves ∙ ap Some (sym base_is), tt); run = refl };
        fills = record { number_is = number_is ∙ omega arith; begins_is = begins; used_is = used; body_is = body };
        text_is = sym (empty_bytes (drop (length frames) frames) none);
      };
      idle = λ nothing. begins;
    }
  where
    empty_bytes : (l : List (List ℕ)) → l ≡ [] → frames_bytes l ≡ []
    empty_bytes l e = ap frames_bytes e ∙ bytes_of_none

-- the run was closed: all frames are on the disk
pub closed_forced : (log mid log' : LogValue) (a b c : State) (frames : List (List ℕ)) (forced : ℕ) → (is : IsLog log a frames forced) → Wrote mid a b is.base is.at.written is.at.before is.at.held true → Syncs log_file b c true
    → log'.number ≡ mid.number → log'.begins ≡ true → log'.used ≡ mid.used → log'.page ≡ mid.page → IsLog log' c frames (length frames)
closed_forced log mid log' a b c frames forced is wrote syncs number_is begins used page =
    let text : List ℕ = is.at.before ++ is.at.held in
    let writing = wrote.writing refl true (inl refl) in
    let filled = wrote.fills refl in
    let pages : List (List ℕ) = is.at.written ++ wrote.page ∷ [] in
    let found : frames_in text ≡ drop forced frames = ap frames_in is.at.text_is ∙ all_found (drop forced frames) is.are in
    let all : take forced frames ++ frames_in text ≡ frames = ap (λ (l : List (List ℕ)). take forced frames ++ l) found ∙ take-append-drop forced frames in
    let whole : IsWhole (is.base ++ pages) frames = subst (λ (l : List (List ℕ)). IsWhole (is.base ++ pages) l) all (whole_and_run true is.base pages (take forced frames) text is.whole writing.run) in
    let folder : c.folder log_file ≡ Some (is.base ++ pages) = ap (λ (g : Folder). g log_file) syncs.folder ∙ writing.folder in
    settled_log log' c (is.base ++ pages) frames whole folder
    (λ f leaves. let was = writing.images f (syncs.no_more f leaves) in syncs.durable refl f leaves (is_there (f log_file) (is.base ++ was.0) was.1) ∙ writing.folder)
    (number_is ∙ filled.number_is ∙ ap (λ (k : ℕ). length is.base + k) (sym (length_push is.at.written wrote.page)) ∙ sym (length-append is.base pages))
    begins (used ∙ filled.used_is) (ap (drop 16) page ∙ filled.body_is)
