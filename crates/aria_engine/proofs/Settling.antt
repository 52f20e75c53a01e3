-- That the images of a folder hold their tables still as it is opened.
use Rattle.std.proofs.Common.{◌≡◌, inl, inr, ⊎_elim, ℕ, zero, suc, ◌+◌, ◌*◌, ◌≤◌, Bool, true, false, IsTrue, ◌==◌, cond, Option, None, Some, is_some, rules, lit<, unwrap_or, List, [], ◌++◌, length, take, refl, sym, ◌∙◌, ap, subst, arith}
use Rattle.std.specs.Option.{option_map_or}
use Rattle.std.proofs.lemmas.List.{append-nil}
use Rattle.std.proofs.lemmas.Bool.{eqb-true}
use Rattle.std.proofs.lemmas.Bool.Decides.{nat_tests}
use Rattle.std.specs.Prelude.{slice_get, IsSome}
use Rattle.aria_host.specs.declared.fault.Fault.{Fault}
use Rattle.aria_host.specs.declared.fault.Fault.TheVariants.{Memory, Disk, Tell, Input, NotOurs, LogDamaged, LogSpent, ControlDamaged, PageDamaged, FileMissing, TooManyTables}
use Rattle.aria_host.specs.Count.{Rose}
use Rattle.aria_journal.specs.Places.{frame_pages_of}
use Rattle.aria_host.specs.declared.host.Extent.{Extent}
use Rattle.aria_host.specs.Folder.{Folder, page_count}
use Rattle.aria_host.specs.State.{State, LeavesOnly}
use Rattle.aria_host.specs.Steps.{MayMake}
use Rattle.aria_host.specs.Calls.{Creates, Syncs, Unchanged, HaveNames, Narrows, TellsNothing, extent_of}
use Rattle.aria_host.proofs.Files.{with_file-same, with_file-other, set_others, make_others}
use Rattle.aria_host.proofs.Moments.{OnlyNow, started, goes_on, joined, weakened, one_call, one_after, implied, looks, sync_narrows, narrows_then}
use Rattle.aria_journal.specs.declared.log.Log.{Log as LogValue}
use Rattle.aria_journal.specs.Front.{front, frames_of_runs, runs, frames_of, end_of, begins_behind, damaged_at}
use Rattle.aria_journal.specs.Runs.{HoldsFrames}
use Rattle.aria_journal.specs.Log.{log_file, log_pages, log_of, SameOthers, AtLog, LogMoments, IsLog, IsLogAtRest, IsOpened, place}
use Rattle.aria_journal.proofs.Starting.{end_within}
use Rattle.aria_model.specs.World.{World, empty_world}
use Rattle.aria_model.specs.Journal.{first_no_change}
use Rattle.aria_engine.specs.declared.store.Store.{Store}
use Rattle.aria_engine.specs.Holds.{Holds, EachHolds, IsLogAlone, AreLogAlone, IsLineDamage}
use Rattle.aria_engine.specs.Store.{tables_of, IsRunning, StillHolds, HasOpenCause}
use Rattle.aria_engine.specs.Turns.{file_pages}
use Rattle.aria_engine.specs.Opening.{HasLogCause, HasReplayCause, Replays, Recovered, ChangesLogAlone, Keeps, SameLog, IsLogDamage, HoldsLog}
use Rattle.aria_engine.proofs.Running.{holds_lines}
use Rattle.aria_engine.proofs.Completing.{alone_after}

pub nothing_of : (n : ℕ) → take {A = ℕ} n [] ≡ []
nothing_of zero = refl
nothing_of (suc n) = refl

-- one call that tells nothing, after which each image holds what all held, and which changes at most the log's file
one_keeps : (old new : State) → OnlyNow old → TellsNothing old new → ((w : World) → EachHolds old w → EachHolds new w) → SameOthers old.folder new.folder
    → ((c : Folder) → new.may_leave c → (d : Folder) × old.may_leave d × SameOthers d c) → Keeps old new
one_keeps old new only tells each same others = record {
  moments = λ w holds.
      goes_on old old new [] (StillHolds w old.out)
      (started old (StillHolds w old.out) (λ c b left. let now = only c b left in (holds c now.0, now.1)))
      tells.time
      (λ c n leaves. (each w holds c leaves, ap (λ (l : List ℕ). old.out ++ l) (nothing_of n) ∙ append-nil old.out));
  each = each;
  silent = record { out = tells.out; err = tells.err };
  others = one_call old new only tells same (λ c leaves. tt) (λ c leaves. let from = others c leaves in (tt, from.0, from.1, from.2));
}

-- a call that changes nothing
pub narrows_keeps : (old new : State) → OnlyNow old → Narrows old new → Keeps old new
narrows_keeps old new only same =
    one_keeps old new only same.tells (λ w holds c leaves. holds c (same.no_more c leaves))
    (λ f other. ap (λ (g : Folder). g f) same.folder) (λ c leaves. (c, same.no_more c leaves, λ f other. refl))

-- a call that only looks
pub unchanged_keeps : (old new : State) → OnlyNow old → Unchanged old new → Keeps old new
unchanged_keeps old new only same = narrows_keeps old new only (looks old new same)

-- one after the other
pub keeps_then : (a b c : State) → Keeps a b → Keeps b c → Keeps a c
keeps_then a b c first then = record {
  moments = λ w holds.
      joined a b c (StillHolds w a.out) (StillHolds w b.out) (first.moments w holds) (then.moments w (first.each w holds))
      (λ f told left. (left.0, left.1 ∙ first.silent.out));
  each = λ w holds. then.each w (first.each w holds);
  silent = record { out = then.silent.out ∙ first.silent.out; err = then.silent.err ∙ first.silent.err };
  others = one_after a b c first.others then.others;
}

-- where other files are none and the log's pages are those of a folder that holds tables
pub same_log : (c d : Folder) (w : World) → IsLogAlone c → log_pages c ≡ log_pages d → Holds d w → Holds c w
same_log c d w alone same holds =
    holds_lines c (log_of d) w alone (ap frames_of same) (ap damaged_at same ∙ holds.sound) holds.changes holds.world_is

-- the log's file was made, which was not there
pub created_keeps : (old new : State) (done : Bool) → OnlyNow old → old.may_leave old.folder → old.folder log_file ≡ None → Creates log_file old new done → Keeps old new
created_keeps old new done only reads absent makes = one_keeps old new only makes.tells (λ w holds c leaves.
    let (d, was, step) = makes.images c leaves in by w c d (holds d was) (holds old.folder reads) step)
    (λ f other. set_others log_file f (Some []) old.folder new.folder other makes.either)
    (λ c leaves. let (d, was, step) = makes.images c leaves in (d, was, λ f other. make_others log_file f (Some []) done d c other step))
  where
    by : (w : World) (c d : Folder) → Holds d w → Holds old.folder w → MayMake log_file (Some []) done d c → Holds c w
    by w c d held now (inl made) =
        let none : log_pages old.folder ≡ [] = ap (λ (o : Option (List (List ℕ))). unwrap_or o []) absent in
        let empty : log_pages c ≡ [] = ap (λ (g : Folder). unwrap_or (g log_file) []) made ∙ ap (λ (o : Option (List (List ℕ))). unwrap_or o []) (with_file-same log_file (Some []) d) in
        same_log c old.folder w (λ f form other. ap (λ (g : Folder). g f) made ∙ with_file-other log_file f (Some []) d other ∙ held.alone f form other) (empty ∙ sym none) now
    by w c d held now (inr stays) = subst (λ (g : Folder). Holds g w) (sym stays.1) held

-- the log's file was brought to the disk
pub synced_keeps : (old new : State) (done : Bool) → OnlyNow old → Syncs log_file old new done → Keeps old new
synced_keeps old new done only syncs = narrows_keeps old new only (sync_narrows old new syncs)

-- each image has a file that was made, and one that is brought to the disk and had its name there
pub created_rest : (old new : State) (done : Bool) → IsTrue done → Creates log_file old new done → IsLogAtRest new
created_rest old new done is makes c leaves =
    let (d, was, step) = makes.images c leaves in
    let now : new.folder log_file ≡ Some [] = ap (λ (g : Folder). g log_file) (makes.whole is) ∙ with_file-same log_file (Some []) old.folder in
    by c d step ∙ sym now
  where
    by : (c d : Folder) → MayMake log_file (Some []) done d c → c log_file ≡ Some []
    by c d (inl made) = ap (λ (g : Folder). g log_file) made ∙ with_file-same log_file (Some []) d
    by c d (inr stays) = let never = stays.0 in absurd (cc)

pub synced_rest : (old new : State) (done : Bool) → IsTrue done → ((c : Folder) → old.may_leave c → IsSome (c log_file)) → Syncs log_file old new done → IsLogAtRest new
synced_rest old new done is there syncs c leaves = syncs.durable is c leaves (there c (syncs.no_more c leaves)) ∙ sym (ap (λ (g : Folder). g log_file) syncs.folder)

-- the log's file was found, so it is in each image where the folder's names are on the disk
pub image_there : (a b : State) (found : Option Extent) (extent : Extent) → HaveNames a → Unchanged a b → found ≡ extent_of (a.folder log_file) → found ≡ Some extent
    → (c : Folder) → b.may_leave c → IsSome (c log_file)
image_there a b found extent named same is some c leaves =
    by (c log_file) (named c (same.images.no_more c leaves) log_file (lit< tt) ∙ read (a.folder log_file) (sym is ∙ some))
  where
    read : (o : Option (List (List ℕ))) → extent_of o ≡ Some extent → is_some o ≡ true
    read None e = absurd (cc)
    read (Some pages) e = refl

    by : (o : Option (List (List ℕ))) → is_some o ≡ true → IsSome o
    by None never = absurd (cc)
    by (Some pages) yes' = search rules

-- no other file is in an image where none is in the folder, whose names are on the disk
pub names_alone : (a b : State) → IsLogAlone a.folder → Narrows a b → HaveNames b → AreLogAlone b
names_alone a b alone same named c leaves f form other =
    by (c f) (named c leaves f form ∙ ap is_some (ap (λ (g : Folder). g f) same.folder ∙ alone f form other))
  where
    by : (o : Option (List (List ℕ))) → is_some o ≡ false → o ≡ None
    by None e = refl
    by (Some pages) e = absurd (cc)

-- and so after a call that changes at most the log's file
pub still_alone : (a b : State) → AreLogAlone a → ChangesLogAlone a b → AreLogAlone b
still_alone a b alone changes c leaves =
    let (d, was, same) = changes.others.images c leaves in alone_after d c same (alone d was)

pub created_same : (old mid new : State) (done : Bool) → IsTrue done → Unchanged old mid → mid.folder log_file ≡ None → Creates log_file mid new done → SameLog old new
created_same old mid new done is same absent makes = inr (
  ap (λ (g : Folder). log_pages g) (sym same.folder) ∙ ap (λ (o : Option (List (List ℕ))). unwrap_or o []) absent,
  ap (λ (g : Folder). log_pages g) (makes.whole is) ∙ ap (λ (o : Option (List (List ℕ))). unwrap_or o []) (with_file-same log_file (Some []) mid.folder),
)

pub synced_same : (old mid new : State) (done : Bool) → ((t : ℕ) (f : Folder) → t ≤ old.moment → old.may_leave f → old.since t f old.out) → Unchanged old mid → Syncs log_file mid new done → SameLog old new
synced_same old mid new done counts same syncs = inl (narrows_then old mid new counts (looks old mid same) (sync_narrows mid new syncs))

-- a look finds no file
pub not_found : (folder : Folder) (found : Option Extent) → found ≡ extent_of (folder log_file) → found ≡ None → folder log_file ≡ None
not_found folder found is none = by (folder log_file) (sym is ∙ none)
  where
    by : (o : Option (List (List ℕ))) → extent_of o ≡ None → o ≡ None
    by None e = refl
    by (Some pages) e = absurd (cc)

-- the log was started
pub started_keeps : (old new : State) → old.may_leave old.folder → ((c : Folder) → new.may_leave c → new.since old.moment c new.out)
    → LogMoments old new (λ content. HoldsFrames content (log_of old.folder)) → Keeps old new
started_keeps old new reads counts starts = record {
  moments = moments;
  each = λ w holds c leaves. ((moments w holds).each c new.out (counts c leaves)).0;
  silent = record { out = starts.others.out; err = starts.others.err };
  others = implied old new starts (λ c holds. tt);
}
  where
    moments : (w : World) → EachHolds old w → LeavesOnly old new (StillHolds w old.out)
    moments w holds =
        weakened old new (AtLog old (λ content. HoldsFrames content (log_of old.folder))) (StillHolds w old.out) starts.moments (λ c b at.
        let (d, was, same) = at.others in
        let now = holds old.folder reads in
        (holds_lines c (log_of old.folder) w (alone_after d c same (holds d was).alone) at.has.frames_are at.has.sound now.changes now.world_is, at.told_is))

-- a store that was recovered runs once its log is started
pub recovered_runs : (before now : Store) (old new : State) → Recovered before old.folder → tables_of now ≡ tables_of before
    → IsLog now.log new (log_of old.folder) (length (log_of old.folder)) → IsRunning now new
recovered_runs before now old new is tables log = record {
  lines = log_of old.folder;
  log = log;
  changes = is.replays.changes;
  tables = tables ∙ is.replays.leaves;
}

-- a page that is filled counts
abbrev page_of : Bool → ℕ
page_of b = cond b 0 1

-- its log has no more pages than the file had
pub recovered_pages : (before now : LogValue) (folder : Folder) → IsOpened before folder → place now ≡ place before → file_pages now ≤ length (log_pages folder)
recovered_pages before now folder is same =
    let end : before.number ≡ end_of (log_pages folder) = is.fills.number_is in
    let used : before.used ≡ 0 = is.fills.used_is in
    let within : end_of (log_pages folder) ≤ length (log_pages folder) = end_within (log_pages folder) in
    by now.number now.used (end_of (log_pages folder)) (length (log_pages folder)) (omega (arith, same, end, used)) within
  where
    over : (number used end pages : ℕ) (b : Bool) → (used == 0) ≡ b → 8176 * number + used ≡ 8176 * end → end ≤ pages → number + page_of b ≤ pages
    over number used end pages true none is within = let zero' : used ≡ 0 = eqb-true used 0 none in omega (arith, is)
    over number used end pages false some is within = let pos : 1 ≤ used = grind (arith, nat_tests) in omega (arith, is, pos)

    by : (number used end pages : ℕ) → 8176 * number + used ≡ 8176 * end → end ≤ pages → number + page_of (used == 0) ≤ pages
    by number used end pages is within = over number used end pages (used == 0) refl is within

-- a log that is started has the pages up to its end
pub recovered_ends : (before now : LogValue) (folder : Folder) → IsOpened before folder → place now ≡ place before → file_pages now ≡ end_of (log_pages folder)
recovered_ends before now folder is same =
    let end : before.number ≡ end_of (log_pages folder) = is.fills.number_is in
    let used : before.used ≡ 0 = is.fills.used_is in
    by now.number now.used (end_of (log_pages folder)) now.within (omega (arith, same, end, used)) (now.used == 0) refl
  where
    by : (number used end : ℕ) → used ≤ 8176 → 8176 * number + used ≡ 8176 * end → (none : Bool) → (used == 0) ≡ none → number + page_of (used == 0) ≡ end
    by number used end within is true none =
        let zero' : used ≡ 0 = eqb-true used 0 none in
        let whole : number + 0 ≡ end = omega (arith, is, zero') in
        ap (λ (b : Bool). number + page_of b) none ∙ whole
    by number used end within is false some =
        let pos : 1 ≤ used = grind (arith, nat_tests) in
        let more : number + 1 ≡ end = omega (arith, is, within, pos) in
        ap (λ (b : Bool). number + page_of b) some ∙ more

-- the log's pages were as they are
pub same_ends : (old new : State) → SameLog old new → end_of (log_pages new.folder) ≡ end_of (log_pages old.folder)
same_ends old new (inl same) = ap (λ (f : Folder). end_of (log_pages f)) same.folder
same_ends old new (inr none) = ap end_of (none.1 ∙ sym none.0)

-- nothing is damaged in a log of no pages
empty_sound : damaged_at [] ≡ None
unfolding damaged_at end_of front begins_behind
empty_sound = refl

empty_log : frames_of [] ≡ []
unfolding frames_of front frames_of_runs runs
empty_log = refl

-- damage that was found once the log's file was settled was there before, and nothing was changed
pub settled_damage : (old new : State) (page : ℕ) → SameLog old new → IsLogDamage page new.folder → IsLogDamage page old.folder × Narrows old new
settled_damage old new page (inl same) damage = (subst (λ (g : Folder). IsLogDamage page g) same.folder damage, same)
settled_damage old new page (inr empty) damage = absurd (⊎_elim
    (λ (torn : damaged_at (log_pages new.folder) ≡ Some page). never page (damaged_at (log_pages new.folder)) torn (ap damaged_at empty.1 ∙ empty_sound))
    (λ (line : IsLineDamage page new.folder). never line.nth (first_no_change empty_world (log_of new.folder)) line.line (ap (λ (ps : List (List ℕ)). first_no_change empty_world (frames_of ps)) empty.1 ∙ ap (first_no_change empty_world) empty_log))
    damage)
  where
    never : (n : ℕ) (o : Option ℕ) → o ≡ Some n → o ≡ None → ⊥
    never n o some none = cc

-- and so were the tables
pub settled_pages : (old new : State) → SameLog old new → log_pages new.folder ≡ log_pages old.folder
settled_pages old new (inl same) = ap (λ (g : Folder). log_pages g) same.folder
settled_pages old new (inr empty) = empty.1 ∙ sym empty.0

pub settled_log : (old new : State) (w : World) → SameLog old new → HoldsLog new.folder w → HoldsLog old.folder w
settled_log old new w same holds =
    let pages = settled_pages old new same in
    record {
      sound = ap damaged_at (sym pages) ∙ holds.sound;
      replays = subst (λ (ps : List (List ℕ)). Replays (frames_of ps) w) pages holds.replays;
    }

-- a folder without other files holds the tables of its log
pub log_holds : (folder : Folder) (w : World) → IsLogAlone folder → HoldsLog folder w → Holds folder w
log_holds folder w alone is = record { alone = alone; sound = is.sound; changes = is.replays.changes; world_is = is.replays.leaves }

-- how many pages the log's file has
pub count_is : (folder : Folder) → page_count log_file folder ≡ length (log_pages folder)
count_is folder = by (folder log_file)
  where
    by : (o : Option (List (List ℕ))) → option_map_or length o 0 ≡ length (unwrap_or o [])
    by None = refl
    by (Some pages) = refl

-- a store was built from the log that was found
pub recovered_of : (folder : Folder) (log : LogValue) (lines : List (List ℕ)) (store : Store) → IsOpened log folder → lines ≡ log_of folder → store.log ≡ log → Replays lines (tables_of store) → Recovered store folder
recovered_of folder log lines store opened are same replays = record {
  opened = subst (λ (l : LogValue). IsOpened l folder) (sym same) opened;
  replays = subst (λ (ls : List (List ℕ)). Replays ls (tables_of store)) are replays;
}

-- or its lines gave no tables
pub recovered_cause : (tells : Bool) (fault : Fault) (old new : State) (lines : List (List ℕ)) (pages : List ℕ)
    → (IsTrue tells → (damaged_at (log_pages old.folder) ≡ None) × (lines ≡ log_of old.folder) × (pages ≡ frame_pages_of (log_pages old.folder)) × Narrows old new)
    → HasReplayCause fault lines pages → HasLogCause tells fault old new
recovered_cause tells (Memory error) old new lines pages found is = is
recovered_cause tells Disk old new lines pages found is = absurd is
recovered_cause tells Tell old new lines pages found is = absurd is
recovered_cause tells Input old new lines pages found is = absurd is
recovered_cause tells (LogDamaged file page) old new lines pages found is = λ told.
    let (sound, are, places, same) = found told in
    let fails = is.1 in (
      is.0,
      inr (record { sound = sound; nth = fails.nth; line = ap (first_no_change empty_world) (sym are) ∙ fails.line; begins = ap (λ (ps : List ℕ). slice_get ps fails.nth) (sym places) ∙ fails.begins }),
      same,
    )
recovered_cause tells (NotOurs file) old new lines pages found is = absurd is
recovered_cause tells (LogSpent file) old new lines pages found is = absurd is
recovered_cause tells ControlDamaged old new lines pages found is = absurd is
recovered_cause tells (PageDamaged file page) old new lines pages found is = absurd is
recovered_cause tells (FileMissing file) old new lines pages found is = absurd is
recovered_cause tells TooManyTables old new lines pages found is = absurd is

-- the cause of a fault after the log's file was settled
pub settled_cause : (tells : Bool) (fault : Fault) (old mid new : State) → mid.disk_faults ≡ old.disk_faults
    → (IsTrue tells → (t : ℕ) (f : Folder) → t ≤ old.moment → old.may_leave f → old.since t f old.out) → (IsTrue tells → SameLog old mid) → HasLogCause tells fault mid new → HasLogCause tells fault old new
settled_cause tells (Memory error) old mid new calm counts same is = is
settled_cause tells Disk old mid new calm counts same is = subst (λ (n : ℕ). Rose n new.disk_faults) calm is
settled_cause tells Tell old mid new calm counts same is = is
settled_cause tells Input old mid new calm counts same is = is
settled_cause tells (LogDamaged file page) old mid new calm counts same is = λ told.
    let was = settled_damage old mid page (same told) (is told).1 in ((is told).0, was.0, narrows_then old mid new (counts told) was.1 (is told).2)
settled_cause tells (NotOurs file) old mid new calm counts same is = is
settled_cause tells (LogSpent file) old mid new calm counts same is = is
settled_cause tells ControlDamaged old mid new calm counts same is = is
settled_cause tells (PageDamaged file page) old mid new calm counts same is = is
settled_cause tells (FileMissing file) old mid new calm counts same is = is
settled_cause tells TooManyTables old mid new calm counts same is = is

-- the cause of a fault behind the list of the folder's names
pub opened_cause : (tells : Bool) (fault : Fault) (old mid new : State) → mid.disk_faults ≡ old.disk_faults
    → (IsTrue tells → (t : ℕ) (f : Folder) → t ≤ old.moment → old.may_leave f → old.since t f old.out) → (IsTrue tells → IsLogAlone old.folder) → (IsTrue tells → Narrows old mid)
    → HasLogCause tells fault mid new → HasOpenCause tells fault old new
opened_cause tells (Memory error) old mid new calm counts alone same is = is
opened_cause tells Disk old mid new calm counts alone same is = subst (λ (n : ℕ). Rose n new.disk_faults) calm is
opened_cause tells Tell old mid new calm counts alone same is = absurd is
opened_cause tells Input old mid new calm counts alone same is = absurd is
opened_cause tells (LogDamaged file page) old mid new calm counts alone same is = λ told.
    let cause = is told in
    let first = same told in
    ((cause.0, alone told, subst (λ (g : Folder). IsLogDamage page g) first.folder cause.1), narrows_then old mid new (counts told) first cause.2)
opened_cause tells (NotOurs file) old mid new calm counts alone same is = absurd is
opened_cause tells (LogSpent file) old mid new calm counts alone same is = absurd is
opened_cause tells ControlDamaged old mid new calm counts alone same is = absurd is
opened_cause tells (PageDamaged file page) old mid new calm counts alone same is = absurd is
opened_cause tells (FileMissing file) old mid new calm counts alone same is = absurd is
opened_cause tells TooManyTables old mid new calm counts alone same is = absurd is
