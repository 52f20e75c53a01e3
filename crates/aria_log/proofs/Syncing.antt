-- The files of a run are brought to the disk, one after the other.
use Rattle.std.proofs.Common.{◌≡◌, inl, inr, ℕ, ◌+◌, ◌-◌, ◌/◌, ◌%◌, ◌<◌, ◌≤◌, Bool, true, false, IsTrue, Option, List, [], ◌∷◌, length, refl, sym, ◌∙◌, ap, subst, arith}
use Rattle.std.specs.Prelude.{IsSome}
use Rattle.std.proofs.lemmas.Bool.{cases_lt}
use Rattle.aria_host.specs.declared.file_name.FileName.TheVariants.{Log}
use Rattle.aria_host.specs.Folder.{Folder}
use Rattle.aria_host.specs.State.{State}
use Rattle.aria_host.specs.Calls.{Syncs}
use Rattle.aria_host.specs.Seen.{page_or_zero}
use Rattle.aria_host.proofs.Moments.{OnlyNow, nothing_moves, one_look, one_after, sync_narrows}
use Rattle.aria_log.specs.LogPage.{read_log_page}
use Rattle.aria_log.specs.Pieces.{Piece, Pieces, LogFiles, log_files, pieces_of}
use Rattle.aria_log.specs.Log.{LogMoments, HoldRun, behind, HoldsRun, IsThere, IsWriting, Synced, SyncedUpTo}
use Rattle.aria_log.proofs.Counting.{below_or_same, not_done}
use Rattle.aria_log.proofs.PutPages.{none_isnt}
use Rattle.aria_log.proofs.Staying.{narrows_leave, writing_stays}

-- a file is the same, so its pages are
file_same : (a b : LogFiles) (n : ℕ) → b (n / 1024) ≡ a (n / 1024) → pieces_of b n ≡ pieces_of a n
unfolding pieces_of
file_same a b n same = ap (λ (o : Option (List (List ℕ))). read_log_page n (page_or_zero (n % 1024) o)) same

-- each file of the run is there
run_there : (files : LogFiles) (base f : ℕ) (whole : List Piece) (parts : List (List ℕ)) (there : Bool) → HoldsRun base whole parts files → IsThere there files (behind base whole parts)
    → (base / 8176 + length whole) / 1024 ≤ f → f < (behind base whole parts - 1) / 1024 + 1 → base / 8176 + length whole < behind base whole parts → IsSome (files f)
run_there files base f whole parts true run now from below some = elim (below_or_same f (behind base whole parts / 1024) (omega (arith, below))) [
  | inl low ↦ run.files.stand f (omega (arith, from)) low
  | inr here ↦ subst (λ (g : ℕ). IsSome (files g)) (sym here) now
]
run_there files base f whole parts false run now from below some = elim run.files.here [
  | inl some' ↦ absurd (none_isnt (files (behind base whole parts / 1024)) now some')
  | inr last ↦ run.files.stand f (omega (arith, from)) (omega (arith, below, last, some))
]

-- nothing is synced yet
pub synced_none : (s : State) (base : ℕ) (whole : List Piece) (parts : List (List ℕ)) (there : Bool) → OnlyNow s → IsWriting s base whole parts there → SyncedUpTo s s base whole parts there ((base / 8176 + length whole) / 1024)
synced_none s base whole parts there only is = record {
  writing = is;
  durable = λ c leaves n from upto below. absurd (omega (arith, from, upto));
  keeps = nothing_moves s only is.images;
}

-- a file more was synced, or that failed
sync_keeps : (old new : State) (f base : ℕ) (whole : List Piece) (parts : List (List ℕ)) (there done : Bool) → OnlyNow old → IsWriting old base whole parts there → Syncs (Log f) old new done
    → IsWriting new base whole parts there × LogMoments old new (HoldsRun base whole parts)
sync_keeps old new f base whole parts there done only is syncs =
    let looks = sync_narrows old new syncs in (writing_stays old new base whole parts there (narrows_leave old new looks) is, one_look old new only looks is.images)

pub synced_more : (start old new : State) (f base : ℕ) (whole : List Piece) (parts : List (List ℕ)) (there : Bool) → OnlyNow old → SyncedUpTo start old base whole parts there f → Syncs (Log f) old new true
    → (base / 8176 + length whole) / 1024 ≤ f → f < (behind base whole parts - 1) / 1024 + 1 → base / 8176 + length whole < behind base whole parts → SyncedUpTo start new base whole parts there (f + 1)
synced_more start old new f base whole parts there only so_far syncs from below some =
    let is = so_far.writing in
    let next = sync_keeps old new f base whole parts there true only is syncs in
    record {
      writing = next.0;
      durable = λ c leaves n low upto high. elim (cases_lt (n / 1024) f) [
        | inl before ↦ so_far.durable c (syncs.no_more c leaves) n low before high ∙ ap (λ (g : Folder). pieces_of (log_files g) n) (sym syncs.folder)
        | inr here ↦
            let same : n / 1024 ≡ f = omega (arith, here, upto) in
            let some' : IsSome (c (Log f)) = run_there (log_files c) base f whole parts there (is.images c (syncs.no_more c leaves)) (is.each c (syncs.no_more c leaves)) from below some in
            let durable : c (Log f) ≡ old.folder (Log f) = syncs.durable refl c leaves some' in
            file_same (log_files old.folder) (log_files c) n (ap (λ (g : ℕ). c (Log g)) same ∙ durable ∙ ap (λ (g : ℕ). old.folder (Log g)) (sym same)) ∙ ap (λ (g : Folder). pieces_of (log_files g) n) (sym syncs.folder)
      ];
      keeps = one_after start old new so_far.keeps next.1;
    }

-- a sync failed
pub synced_failed : (start old new : State) (f base : ℕ) (whole : List Piece) (parts : List (List ℕ)) (there done failed : Bool) → OnlyNow old → SyncedUpTo start old base whole parts there f → Syncs (Log f) old new done → failed ≡ false
    → Synced start new base whole parts there failed
synced_failed start old new f base whole parts there done failed only so_far syncs is_failed =
    let next = sync_keeps old new f base whole parts there done only so_far.writing syncs in
    record {
      writing = λ finished. next.0;
      durable = λ finished. absurd (not_done failed is_failed finished);
      keeps = one_after start old new so_far.keeps next.1;
    }

-- pages that are the same hold the same run
pub same_run : (a b : Pieces) (n : ℕ) (begins : Bool) (parts : List (List ℕ)) → ((k : ℕ) → n ≤ k → k < n + length parts → b k ≡ a k) → HoldRun a n begins parts → HoldRun b n begins parts
same_run a b n begins [] same run = tt
same_run a b n begins (bytes ∷ parts) same run =
    (same n (omega arith) (omega arith) ∙ run.0, same_run a b (n + 1) false parts (λ k from below. same k (omega (arith, from)) (omega (arith, below))) run.1)

-- all files are synced
pub synced_all : (start new : State) (f base : ℕ) (whole : List Piece) (parts : List (List ℕ)) (there : Bool) → SyncedUpTo start new base whole parts there f → (behind base whole parts - 1) / 1024 + 1 ≤ f
    → Synced start new base whole parts there true
synced_all start new f base whole parts there is all = record {
  writing = λ finished. is.writing;
  durable = λ done c leaves. same_run (pieces_of (log_files new.folder)) (pieces_of (log_files c)) (base / 8176 + length whole) true parts
      (λ k from below. is.durable c leaves k from (omega (arith, all, below)) below) is.writing.run;
  keeps = is.keeps;
}

-- the next file of the run is there in the folder
pub file_there : (start now : State) (base f : ℕ) (whole : List Piece) (parts : List (List ℕ)) (there : Bool) → SyncedUpTo start now base whole parts there f
    → (base / 8176 + length whole) / 1024 ≤ f → f < (behind base whole parts - 1) / 1024 + 1 → base / 8176 + length whole < behind base whole parts → IsSome (now.folder (Log f))
file_there start now base f whole parts there is from below some = run_there (log_files now.folder) base f whole parts there is.writing.reads is.writing.now from below some
