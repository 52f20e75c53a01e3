-- Groups that are appended, and groups that are forced.
use Rattle.std.proofs.Common.{◌≡◌, ℕ, ◌+◌, ◌*◌, ◌/◌, ◌≤◌, Bool, true, false, List, [], ◌∷◌, ◌++◌, length, drop, refl, sym, ◌∙◌, ap, subst, arith, append_assoc, length-append}
use Rattle.std.specs.Prelude.{All, ◌||◌, ◌==◌}
use Rattle.std.specs.List.{flat_map}
use Rattle.std.proofs.lemmas.List.{append-nil}
use Rattle.std.proofs.lemmas.List.Elements.{All-push, All-nil, All-head, All-tail}
use Rattle.aria_record.specs.declared.record.Record.{Record}
use Rattle.aria_record.specs.Groups.{IsGroup}
use Rattle.aria_record.specs.Spelled.{group_bytes}
use Rattle.aria_host.specs.State.{State}
use Rattle.aria_host.proofs.Moments.{OnlyNow, nothing_moves, one_after, implied}
use Rattle.aria_log.specs.declared.log.Log.{Log as LogValue}
use Rattle.aria_log.specs.Pieces.{Piece, Pieces, LogFiles, log_files, pieces_of, Stand, may_behind}
use Rattle.aria_record.specs.Logged.{Logged}
use Rattle.aria_log.specs.Groups.{placed, groups_bytes, groups_at, groups_from}
use Rattle.aria_log.specs.Files.{HoldsFrom}
use Rattle.aria_log.specs.Log.{LogMoments, LogKeeps, HoldRun, AreFull, joined, file_of, behind, FilesStand, HoldsRun, IsImage, IsStrict, IsThere, IsAt, IsLog, IsBaseOf, place, Wrote, Synced}
use Rattle.aria_log.proofs.GroupLists.{all_found, length-group_bytes}
use Rattle.aria_log.proofs.Fronts.{stand-append, next_of, pieces_of_run, length-pieces_of_run, groups-append}
use Rattle.aria_log.proofs.Writing.{full_more, joined_push, behind_push, run_is_image}
use Rattle.aria_log.proofs.Appending.{image_now}
use Rattle.aria_log.proofs.Images.{no_bytes, placed-push, bytes-push, base_even, image_from, strict_from}

-- ---- appending

-- the bytes of full pages
joined_size : (parts : List (List ℕ)) → All (λ (bytes : List ℕ). length bytes ≡ 8176) parts → length (joined parts) ≡ 8176 * length parts
joined_size [] full = refl
joined_size (bytes ∷ parts) full =
    omega (arith, length-append bytes (joined parts), All-head (λ (b : List ℕ). length b ≡ 8176) bytes parts full, joined_size parts (All-tail (λ (b : List ℕ). length b ≡ 8176) bytes parts full))

-- the next byte is put behind the bytes that were appended
pub place_is : (log : LogValue) (s : State) (base : ℕ) (whole : List Piece) (text : List ℕ) → IsAt log s base whole text → place log ≡ 8176 * (base / 8176 + length whole) + length text
place_is log s base whole text is =
    omega (arith, is.fills.number_is, is.fills.used_is, joined_size is.parts is.full, ap length is.text_is, length-append (joined is.parts) is.held)

-- a group was appended
pub appended : (log log' : LogValue) (old new : State) (base : ℕ) (groups : List Logged) (forced : ℕ) (group : List Record) (bytes : List ℕ) → (is : IsLog log old base groups forced) → IsGroup group → bytes ≡ group_bytes group
    → IsAt log' new base is.whole (groups_bytes is.fresh ++ bytes) → 1 ≤ log'.used → IsLog log' new base (groups ++ record { at = place log; group = group } ∷ []) forced
appended log log' old new base groups forced group bytes is fits spelled at used =
    let whole : List Piece = is.whole in
    let start : ℕ = 8176 * (base / 8176 + length whole) in
    let here : start + length (groups_bytes is.fresh) ≡ place log = sym (place_is log old base whole (groups_bytes is.fresh) is.at) in
    record {
      whole = whole;
      based = is.based;
      fresh = is.fresh ++ group ∷ [];
      are = All-push IsGroup is.fresh group is.are fits;
      forced_are = is.forced_are;
      groups_are = ap (λ (l : List Logged). l ++ record { at = place log; group = group } ∷ []) is.groups_are
          ∙ append_assoc (groups_from base whole) (placed start is.fresh) (record { at = place log; group = group } ∷ [])
          ∙ ap (λ (k : ℕ). groups_from base whole ++ (placed start is.fresh ++ record { at = k; group = group } ∷ [])) (sym here)
          ∙ ap (λ (l : List Logged). groups_from base whole ++ l) (sym (placed-push start is.fresh group));
      at = subst (λ (l : List ℕ). IsAt log' new base whole l) (ap (λ (l : List ℕ). groups_bytes is.fresh ++ l) spelled ∙ sym (bytes-push is.fresh group)) at;
      idle = λ none. absurd (omega (arith, used, none));
    }

-- what a crash leaves while a group is appended
pub append_keeps : (log : LogValue) (s old new : State) (base : ℕ) (groups : List Logged) (forced : ℕ) (group : List Record) (bytes : List ℕ) → (is : IsLog log s base groups forced) → IsGroup group → bytes ≡ group_bytes group
    → LogMoments old new (IsStrict base is.whole (groups_bytes is.fresh ++ bytes)) → LogKeeps old new base groups forced
append_keeps log s old new base groups forced group bytes is fits spelled run =
    implied old new run
    (λ c strict. strict_from (log_files c) base is.whole is.fresh group groups forced is.based is.are fits is.forced_are is.groups_are
    (subst (λ (l : List ℕ). IsStrict base is.whole (groups_bytes is.fresh ++ l) (log_files c)) spelled strict))

-- a group has bytes
pub group_some : (group : List Record) (bytes : List ℕ) → bytes ≡ group_bytes group → 1 ≤ length bytes
group_some group bytes is = omega (arith, ap length is, length-group_bytes group)

-- ---- forcing

-- what a crash leaves while the bytes of the groups are written
pub image_keeps : (log : LogValue) (s old new : State) (base : ℕ) (groups : List Logged) (forced : ℕ) → (is : IsLog log s base groups forced) → LogMoments old new (IsImage base is.whole (groups_bytes is.fresh)) → LogKeeps old new base groups forced
image_keeps log s old new base groups forced is run =
    implied old new run (λ c image. image_from (log_files c) base is.whole is.fresh groups forced is.based is.are is.forced_are is.groups_are image)

-- nothing is done, and the log keeps its groups
pub idle_keeps : (log : LogValue) (s : State) (base : ℕ) (groups : List Logged) (forced : ℕ) → OnlyNow s → IsLog log s base groups forced → LogKeeps s s base groups forced
idle_keeps log s base groups forced only is =
    image_keeps log s s s base groups forced is (nothing_moves s only (image_now log s base is.whole (groups_bytes is.fresh) is.at))

-- the bytes of no group are none, and of some groups some
no_groups : (groups : List (List Record)) → length (groups_bytes groups) ≡ 0 → groups ≡ []
unfolding groups_bytes
no_groups [] e = refl
no_groups (group ∷ groups) e = absurd (omega (arith, e, length-append (group_bytes group) (flat_map group_bytes groups), length-group_bytes group))

-- with nothing appended since the last force all groups are forced
pub idle_forced : (log : LogValue) (s : State) (base : ℕ) (groups : List Logged) (forced : ℕ) → IsLog log s base groups forced → log.used ≡ 0 → IsLog log s base groups (length groups)
idle_forced log s base groups forced is none =
    let at = is.at in
    let size = joined_size at.parts at.full in
    let none_written : length at.parts ≡ 0 = omega (arith, is.idle none, at.first, at.fills.number_is) in
    let empty : length (groups_bytes is.fresh) ≡ 0 = omega (arith, sym (ap length at.text_is), length-append (joined at.parts) at.held, size, none_written, at.fills.used_is, none) in
    let fresh_none : is.fresh ≡ [] = no_groups is.fresh empty in
    let start : ℕ = 8176 * (base / 8176 + length is.whole) in
    let all : groups ≡ groups_from base is.whole = is.groups_are ∙ ap (λ (l : List (List Record)). groups_from base is.whole ++ placed start l) fresh_none ∙ append-nil (groups_from base is.whole) in
    subst (λ (k : ℕ). IsLog log s base groups k) (is.forced_are ∙ sym (ap length all)) is

-- a page of a run holds some bytes
pub run_stands : (pieces : Pieces) (n : ℕ) (begins may : Bool) (parts : List (List ℕ)) → HoldRun pieces n begins parts → AreFull parts → (begins || may) ≡ true → Stand pieces n may (pieces_of_run begins parts)
run_stands pieces n begins may [] run full goes = tt
run_stands pieces n begins may (bytes ∷ []) run full goes = (next_of pieces n may (begins, bytes) run.0 goes, tt)
run_stands pieces n begins may (bytes ∷ next ∷ parts) run full goes =
    (next_of pieces n may (begins, bytes) run.0 goes, run_stands pieces (n + 1) false (length bytes == 8176) (next ∷ parts) run.1 full.1 (grind (arith, full.0)))

-- files that hold a run behind a whole front hold a longer front
run_whole : (files : LogFiles) (base : ℕ) (whole : List Piece) (parts : List (List ℕ)) → HoldsRun base whole parts files → HoldRun (pieces_of files) (base / 8176 + length whole) true parts → AreFull parts
    → HoldsRun base (whole ++ pieces_of_run true parts) [] files
run_whole files base whole parts holds run full =
    let more : List Piece = pieces_of_run true parts in
    let size : behind base (whole ++ more) [] ≡ behind base whole parts = omega (arith, length-append whole more, length-pieces_of_run true parts) in
    record {
      stand = stand-append (pieces_of files) (base / 8176) (base / 8176 + length whole) true whole more holds.stand refl
          (run_stands (pieces_of files) (base / 8176 + length whole) true (may_behind true whole) parts run full refl);
      part = tt;
      none = λ n from. holds.none n (omega (arith, from, size));
      files = subst (λ (n : ℕ). FilesStand files (file_of base) n) (sym size) holds.files;
    }

-- the base stays in a longer front
base_longer : (base : ℕ) (whole : List Piece) (parts : List (List ℕ)) (held : List ℕ) → IsBaseOf base whole → 1 ≤ length held → All (λ (bytes : List ℕ). length bytes ≡ 8176) parts → IsBaseOf base (whole ++ pieces_of_run true (parts ++ held ∷ []))
base_longer base (p ∷ ps) parts held based some full = based
base_longer base [] [] held based some full = omega (arith, based, some)
base_longer base [] (bytes ∷ parts) held based some full = omega (arith, based, All-head (λ (b : List ℕ). length b ≡ 8176) bytes parts full)

-- the last page was written and the run was brought to the disk
pub closed : (log log1 log2 : LogValue) (old mid new : State) (base : ℕ) (groups : List Logged) (forced : ℕ) → (is : IsLog log old base groups forced) → 1 ≤ length is.at.held
    → Wrote log1 old mid base is.whole is.at.parts is.at.held true → Synced mid new base is.whole (is.at.parts ++ is.at.held ∷ []) log1.there true
    → log2.page ≡ log1.page → log2.number ≡ log1.number → log2.used ≡ log1.used → log2.there ≡ log1.there → log2.first ≡ log1.number → IsLog log2 new base groups (length groups)
closed log log1 log2 old mid new base groups forced is some wrote synced page number used there first =
    let whole : List Piece = is.whole in
    let parts : List (List ℕ) = is.at.parts ++ is.at.held ∷ [] in
    let more : List Piece = pieces_of_run true parts in
    let start : ℕ = base / 8176 + length whole in
    let full : AreFull parts = full_more is.at.parts is.at.held is.at.full in
    let size : behind base (whole ++ more) [] ≡ behind base whole parts = omega (arith, length-append whole more, length-pieces_of_run true parts) in
    let filled = wrote.fills refl in
    let text : joined parts ≡ groups_bytes is.fresh = joined_push is.at.parts is.at.held ∙ is.at.text_is in
    let all : groups ≡ groups_from base (whole ++ more) =
    is.groups_are ∙ ap (λ (l : List Logged). groups_from base whole ++ l) (sym (all_found is.fresh (8176 * start) is.are))
    ∙ ap (λ (l : List ℕ). groups_from base whole ++ groups_at (8176 * start) l) (sym text) ∙ sym (groups-append base start whole parts refl (base_even base whole is.based)) in
    let at_number : behind base whole parts ≡ log1.number = behind_push base whole is.at.parts is.at.held ∙ sym filled.number_is in
    record {
      whole = whole ++ more;
      based = base_longer base whole is.at.parts is.at.held is.based some is.at.full;
      fresh = [];
      are = All-nil IsGroup;
      forced_are = ap length all;
      groups_are = all ∙ sym (append-nil (groups_from base (whole ++ more)));
      at = record {
        parts = [];
        held = [];
        writing = record {
          run = tt;
          reads = run_whole (log_files new.folder) base whole parts (synced.writing refl).reads (synced.writing refl).run full;
          now = subst (λ (n : ℕ). IsThere log2.there (log_files new.folder) n) (sym size) (subst (λ (b : Bool). IsThere b (log_files new.folder) (behind base whole parts)) (sym there) (synced.writing refl).now);
          images = λ c leaves. run_whole (log_files c) base whole parts ((synced.writing refl).images c leaves) (synced.durable refl c leaves) full;
          each = λ c leaves. subst (λ (n : ℕ). IsThere log2.there (log_files c) n) (sym size) (subst (λ (b : Bool). IsThere b (log_files c) (behind base whole parts)) (sym there) ((synced.writing refl).each c leaves));
        };
        full = All-nil (λ (bytes : List ℕ). length bytes ≡ 8176);
        first = first ∙ omega (arith, at_number, size);
        fills = record { number_is = number ∙ sym at_number ∙ sym size; used_is = used ∙ filled.used_is; body_is = ap (drop 16) page ∙ filled.body_is };
        text_is = no_bytes;
      };
      idle = λ none. first ∙ sym number;
    }

-- what a crash leaves while the run is closed
pub closed_keeps : (log log1 : LogValue) (old mid new : State) (base : ℕ) (groups : List Logged) (forced : ℕ) (done : Bool) → (is : IsLog log old base groups forced)
    → Wrote log1 old mid base is.whole is.at.parts is.at.held true → Synced mid new base is.whole (is.at.parts ++ is.at.held ∷ []) log1.there done → LogKeeps old new base groups forced
closed_keeps log log1 old mid new base groups forced done is wrote synced =
    let parts : List (List ℕ) = is.at.parts ++ is.at.held ∷ [] in
    let text : joined parts ++ [] ≡ groups_bytes is.fresh = append-nil (joined parts) ∙ joined_push is.at.parts is.at.held ∙ is.at.text_is in
    image_keeps log old old new base groups forced is
    (one_after old mid new (subst (λ (l : List ℕ). LogMoments old mid (IsImage base is.whole l)) is.at.text_is wrote.keeps)
    (implied mid new synced.keeps
    (λ c run. run_is_image base is.whole parts [] (groups_bytes is.fresh) (log_files c) run (full_more is.at.parts is.at.held is.at.full) text)))

-- the last page wasn't written
pub unwritten_keeps : (log log1 : LogValue) (old new : State) (base : ℕ) (groups : List Logged) (forced : ℕ) (done : Bool) → (is : IsLog log old base groups forced)
    → Wrote log1 old new base is.whole is.at.parts is.at.held done → LogKeeps old new base groups forced
unwritten_keeps log log1 old new base groups forced done is wrote =
    image_keeps log old old new base groups forced is (subst (λ (l : List ℕ). LogMoments old new (IsImage base is.whole l)) is.at.text_is wrote.keeps)
