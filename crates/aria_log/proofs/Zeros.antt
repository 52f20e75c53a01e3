-- Pages of zeros behind the log's end.
use Rattle.std.proofs.Common.{◌≡◌, ◌==◌, ◌∙◌, ◌⊎◌, inl, inr, ℕ, ◌+◌, ◌-◌, ◌*◌, ◌<◌, ◌≤◌, ◌/◌, ◌%◌, ◌^◌, Bool, true, false, IsTrue, Option, None, Some, List, length, ap, sym, refl, subst, arith}
use Rattle.std.specs.Prelude.{IsSome}
use Rattle.std.specs.Option.{option_map_or}
use Rattle.std.proofs.lemmas.Bool.{cases_Bool, eqb-true}
use Rattle.aria_page.specs.Page.{zero_page}
use Rattle.aria_host.specs.declared.file_name.FileName.TheVariants.{Log}
use Rattle.aria_host.specs.Folder.{Folder, is_log, with_page}
use Rattle.aria_host.specs.Moments.{SameBut}
use Rattle.aria_host.specs.State.{State}
use Rattle.aria_host.specs.Steps.{MayWrite}
use Rattle.aria_host.specs.Calls.{Writes}
use Rattle.aria_host.proofs.Moments.{OnlyNow, one_call, one_after, nothing_moves}
use Rattle.aria_log.specs.LogPage.{read_log_page}
use Rattle.aria_log.specs.Pieces.{Piece, Pieces, LogFiles, log_files, pieces_of}
use Rattle.aria_log.specs.Log.{LogMoments, HoldRun, HoldPart, file_of, behind, FilesStand, HoldsRun, IsThere, IsWriting, GoesAhead, Synced}
use Rattle.aria_log.proofs.Counting.{not_done}
use Rattle.aria_log.proofs.LogPages.{zero_reads}
use Rattle.aria_log.proofs.PutPages.{MayPut, write_puts, pages_of, others_stay}
use Rattle.aria_log.proofs.Writing.{run_same, run_same_pages, stand_ahead}

-- a page of zeros behind a run, in its last file, was written or wasn't: no page holds anything else
zero_image : (base k : ℕ) (whole : List Piece) (parts : List (List ℕ)) (d c : Folder) → behind base whole parts ≤ k → behind base whole parts / 1024 ≡ k / 1024 → HoldsRun base whole parts (log_files d)
    → IsThere true (log_files d) (behind base whole parts) → MayWrite (Log (k / 1024)) (k % 1024) zero_page d c
    → HoldsRun base whole parts (log_files c) × IsThere true (log_files c) (behind base whole parts) × SameBut is_log d c × ((n : ℕ) → pieces_of (log_files c) n ≡ pieces_of (log_files d) n)
zero_image base k whole parts d c from file holds now step =
    let (pages, was) = pages_of (d (Log (k / 1024))) (subst (λ (f : ℕ). IsSome (d (Log f))) file now) in
    let few : length pages ≤ 1024 = omega (arith, ap (λ (o : Option (List (List ℕ))). option_map_or length o 0) was, holds.files.few (k / 1024) (omega (arith, from)) (omega (arith, file))) in
    let put : MayPut k None d c = subst (λ (o : Option Piece). MayPut k o d c) (zero_reads k) (write_puts k zero_page d c pages step was few (holds.none k from)) in
    let same : (n : ℕ) → pieces_of (log_files c) n ≡ pieces_of (log_files d) n =
    λ n. elim (cases_Bool (k == n)) [
      | inr other ↦ put.same n other
      | inl this ↦
          let e : k ≡ n = eqb-true k n this in
          let none : pieces_of (log_files c) k ≡ None = elim put.this [
            | inl found ↦ found
            | inr lost ↦ lost
          ] in
          ap (λ (m : ℕ). pieces_of (log_files c) m) (sym e) ∙ none ∙ sym (holds.none k from) ∙ ap (λ (m : ℕ). pieces_of (log_files d) m) e
    ] in (
      run_same_pages base whole parts (log_files d) (log_files c) holds same (stand_ahead (file_of base) (behind base whole parts) k d c file holds.files put),
      subst (λ (f : ℕ). IsSome (c (Log f))) (sym file) put.there,
      put.others,
      same,
    )

-- a page of zeros was written behind a run, or that failed
pub zero_step : (old new : State) (done : Bool) (base k : ℕ) (whole : List Piece) (parts : List (List ℕ)) → OnlyNow old → behind base whole parts ≤ k → behind base whole parts / 1024 ≡ k / 1024 → IsWriting old base whole parts true
    → Writes (Log (k / 1024)) (k % 1024) zero_page old new done → (IsTrue done → IsWriting new base whole parts true) × LogMoments old new (HoldsRun base whole parts)
zero_step old new done base k whole parts only from file is writes =
    let after : (c : Folder) → new.may_leave c → HoldsRun base whole parts (log_files c) × IsThere true (log_files c) (behind base whole parts) × (d : Folder) × old.may_leave d × SameBut is_log d c =
    λ c leaves. let (d, was, step) = writes.images c leaves in let (run, now, others, same) = zero_image base k whole parts d c from file (is.images d was) (is.each d was) step in (run, now, d, was, others) in (
      λ finished.
          let (run, now, others, same) = zero_image base k whole parts old.folder new.folder from file is.reads is.now (inr (inl (writes.whole finished))) in
          record {
            run = run_same (pieces_of (log_files old.folder)) (pieces_of (log_files new.folder)) (base / 8176 + length whole) true parts (λ n less. same n) is.run;
            reads = run;
            now = now;
            images = λ c leaves. (after c leaves).0;
            each = λ c leaves. (after c leaves).1;
          },
      one_call old new only writes.tells (others_stay (k / 1024) _ old.folder new.folder writes.either) is.images
          (λ c leaves. let (run, now, d, was, others) = after c leaves in (run, d, was, others)),
    )

-- nothing was written yet
pub ahead_none : (s : State) (base : ℕ) (whole : List Piece) (parts : List (List ℕ)) → OnlyNow s → IsWriting s base whole parts true → GoesAhead s s base whole parts
ahead_none s base whole parts only is = record { writing = is; keeps = nothing_moves s only is.images }

-- the page of a file
page_is : (n p : ℕ) → p < 1024 → (1024 * (n / 1024) + p) / 1024 ≡ n / 1024
page_is n p low = omega (arith, low)

place_is : (n p : ℕ) → p < 1024 → (1024 * (n / 1024) + p) % 1024 ≡ p
place_is n p low = omega (arith, low)

-- one page more
zero_call : (old new : State) (done : Bool) (base number file page : ℕ) (whole : List Piece) (parts : List (List ℕ)) (zeros : List ℕ) → OnlyNow old → number ≡ behind base whole parts → file ≡ number / 1024 → number % 1024 ≤ page → page < 1024
    → zeros ≡ zero_page → IsWriting old base whole parts true → Writes (Log file) page zeros old new done → (IsTrue done → IsWriting new base whole parts true) × LogMoments old new (HoldsRun base whole parts)
zero_call old new done base number file page whole parts zeros only at file_is from low zeros_are is writes =
    let k : ℕ = 1024 * (number / 1024) + page in
    let same_file : k / 1024 ≡ number / 1024 = page_is number page low in
    zero_step old new done base k whole parts only (omega (arith, at, from)) (ap (λ (n : ℕ). n / 1024) (sym at) ∙ sym same_file) is
    (subst (λ (z : List ℕ). Writes (Log (k / 1024)) (k % 1024) z old new done) zeros_are
    (subst (λ (p : ℕ). Writes (Log (k / 1024)) p zeros old new done) (sym (place_is number page low))
    (subst (λ (f : ℕ). Writes (Log f) page zeros old new done) (file_is ∙ sym same_file) writes)))

pub ahead_more : (start old new : State) (base number file page : ℕ) (whole : List Piece) (parts : List (List ℕ)) (zeros : List ℕ) → OnlyNow old → number ≡ behind base whole parts → file ≡ number / 1024 → number % 1024 ≤ page → page < 1024
    → zeros ≡ zero_page → GoesAhead start old base whole parts → Writes (Log file) page zeros old new true → GoesAhead start new base whole parts
ahead_more start old new base number file page whole parts zeros only at file_is from low zeros_are so_far writes =
    let next = zero_call old new true base number file page whole parts zeros only at file_is from low zeros_are so_far.writing writes in
    record { writing = next.0 refl; keeps = one_after start old new so_far.keeps next.1 }

pub ahead_failed : (start old new : State) (done : Bool) (base number file page : ℕ) (whole : List Piece) (parts : List (List ℕ)) (zeros : List ℕ) → OnlyNow old → number ≡ behind base whole parts → file ≡ number / 1024 → number % 1024 ≤ page → page < 1024
    → zeros ≡ zero_page → GoesAhead start old base whole parts → Writes (Log file) page zeros old new done → LogMoments start new (HoldsRun base whole parts)
ahead_failed start old new done base number file page whole parts zeros only at file_is from low zeros_are so_far writes =
    one_after start old new so_far.keeps (zero_call old new done base number file page whole parts zeros only at file_is from low zeros_are so_far.writing writes).1

-- the file of the page behind a run is there
pub file_ahead : (s : State) (number file base : ℕ) (whole : List Piece) (parts : List (List ℕ)) → number ≡ behind base whole parts → file ≡ number / 1024 → IsWriting s base whole parts true → IsSome (s.folder (Log file))
file_ahead s number file base whole parts at file_is is = subst (λ (f : ℕ). IsSome (s.folder (Log f))) (sym (file_is ∙ ap (λ (n : ℕ). n / 1024) at)) is.now

-- the run was brought to the disk once room was made
pub synced_ahead : (a b c : State) (base : ℕ) (whole : List Piece) (parts : List (List ℕ)) (there done : Bool) → LogMoments a b (HoldsRun base whole parts) → Synced b c base whole parts there done → Synced a c base whole parts there done
synced_ahead a b c base whole parts there done first second = record {
  writing = second.writing;
  durable = second.durable;
  keeps = one_after a b c first second.keeps;
}

-- room could not be made
pub unsynced : (a b : State) (base : ℕ) (whole : List Piece) (parts : List (List ℕ)) (there done : Bool) → done ≡ false → LogMoments a b (HoldsRun base whole parts) → Synced a b base whole parts there done
unsynced a b base whole parts there done failed keeps = record { writing = λ finished. absurd (not_done done failed finished); durable = λ finished. absurd (not_done done failed finished); keeps = keeps }
