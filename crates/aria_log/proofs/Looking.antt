-- What was read of the log stays so while nothing changes, and the causes of calls one after another.
use Rattle.std.proofs.Common.{◌≡◌, inl, inr, ⊎_elim, ℕ, ◌≤◌, Bool, Result, List, [], ◌++◌, take, refl, sym, ◌∙◌, ap, subst, arith}
use Rattle.std.proofs.lemmas.Result.{on_ok_weaker}
use Rattle.aria_host.specs.declared.fault.Fault.{Fault}
use Rattle.aria_host.specs.Folder.{Folder}
use Rattle.aria_host.specs.State.{State}
use Rattle.aria_log.specs.declared.log.Log.{Log as LogValue}
use Rattle.aria_log.specs.declared.reader.Reader.{Reader as ReaderValue}
use Rattle.aria_log.specs.Pieces.{Piece, log_files}
use Rattle.aria_log.specs.Reading.{IsReader}
use Rattle.aria_log.specs.Stepping.{IsLeft, ReadsOn, HasPageCause, HasNextCause}

-- what was read of a folder was read of one that reads the same
pub reader_at : (reader : ReaderValue) (a b : State) → a.folder ≡ b.folder → IsReader reader (log_files a.folder) → IsReader reader (log_files b.folder)
reader_at reader a b same is = subst (λ (f : Folder). IsReader reader (log_files f)) same is

pub left_at : (log : LogValue) (a b : State) (read : ℕ) (rest : List Piece) → a.folder ≡ b.folder → IsLeft log (log_files a.folder) read rest → IsLeft log (log_files b.folder) read rest
left_at log a b read rest same is = subst (λ (f : Folder). IsLeft log (log_files f) read rest) same is

-- the causes of a call after one that met no fault
pub page_then : {T : Type 0} (tells : Bool) (end : ℕ) (a b c : State) (r : Result T Fault) → b.disk_faults ≡ a.disk_faults → b.tell_faults ≡ a.tell_faults → HasPageCause tells end b c r → HasPageCause tells end a c r
page_then tells end a b c r disk told cause = record {
  only = cause.only;
  counted = λ e. omega (arith, disk, cause.counted e);
  calm = on_ok_weaker r (λ (same : c.disk_faults ≡ b.disk_faults). same ∙ disk) cause.calm;
  later = omega (arith, disk, cause.later);
  tell = cause.tell ∙ told;
}

pub next_then : {T : Type 0} (tells : Bool) (end : ℕ) (a b c : State) (r : Result T Fault) → b.disk_faults ≡ a.disk_faults → b.tell_faults ≡ a.tell_faults → HasNextCause tells end b c r → HasNextCause tells end a c r
next_then tells end a b c r disk told cause = record {
  only = cause.only;
  counted = λ e. omega (arith, disk, cause.counted e);
  calm = on_ok_weaker r (λ (same : c.disk_faults ≡ b.disk_faults). same ∙ disk) cause.calm;
  later = omega (arith, disk, cause.later);
  tell = cause.tell ∙ told;
}

pub reads_at : (log : LogValue) (a b : State) (read now : ℕ) (rest last : List Piece) (bytes : List ℕ) → a.folder ≡ b.folder → ReadsOn log (log_files a.folder) read now rest last bytes → ReadsOn log (log_files b.folder) read now rest last bytes
reads_at log a b read now rest last bytes same on = subst (λ (f : Folder). ReadsOn log (log_files f) read now rest last bytes) same on
