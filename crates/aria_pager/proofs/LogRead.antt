-- The log of a folder is read, or it isn't.
use Rattle.std.proofs.Common.{◌≡◌, ◌∙◌, ◌⊎◌, ◌+◌, ◌*◌, ◌/◌, ◌<◌, inl, inr, ℕ, List, length, ap, sym, refl, subst, arith, Some}
use Rattle.aria_page.specs.declared.lsn.Lsn.{Lsn}
use Rattle.aria_page.specs.Lsn.{lsn_number}
use Rattle.aria_page.specs.declared.place.Part.{Part}
use Rattle.aria_host.specs.Calls.{Narrows}
use Rattle.aria_host.specs.declared.fault.Fault.{Fault}
use Rattle.aria_host.specs.declared.file_name.FileName.{FileName}
use Rattle.aria_host.specs.State.{State}
use Rattle.aria_control.specs.declared.control.Control.{Control}
use Rattle.aria_record.specs.Logged.{Logged, lsn_at_place}
use Rattle.aria_log.specs.declared.log.Log.{Log as LogValue}
use Rattle.aria_log.specs.Finding.{base_of, NoneMissing, Opens}
use Rattle.aria_log.specs.Files.{HoldsLog}
use Rattle.aria_log.specs.Log.{IsOpened, place}
use Rattle.aria_log.specs.Pieces.{LogFiles, log_files}
use Rattle.aria_log.specs.Reading.{Entry}
use Rattle.aria_log.specs.Stepping.{groups_of}
use Rattle.aria_log.proofs.Staying.{narrows_leave, opened_stays}
use Rattle.aria_recovery.specs.Redo.{number_at}
use Rattle.aria_recovery.specs.Analysed.{Has}
use Rattle.aria_recovery.specs.Pending.{Chained, unchained}
use Rattle.aria_recovery.specs.Tables.{file}
use Rattle.aria_pager.specs.declared.find.Found.{Found}
use Rattle.aria_pager.specs.Entered.{AreLow}
use Rattle.aria_pager.specs.Steps.{damaged_at}
use Rattle.aria_pager.specs.Found.{IsDurable, IsRead, RefusesLog}
use Rattle.aria_pager.proofs.Founding.{still_durable}

-- ---- where it ends

-- where a log that was opened ends
pub opened_end : (log : LogValue) (s : State) (base : ℕ) (groups : List Logged) (last : ℕ) → IsOpened log s base groups last → (end : ℕ) × HoldsLog (log_files s.folder) base groups end × (place log ≡ 8176 * end)
opened_end log s base groups last is =
    let end = base / 8176 + length is.whole in
    (end, record { pieces = is.whole; front = is.front; groups_are = is.groups_are; end_is = refl }, omega (arith, is.fills.number_is, is.fills.used_is))

-- ---- why it isn't

-- the chain of undo records fails
pub chain_refused : (control : Control) (files : LogFiles) (s : State) (log : LogValue) (base : ℕ) (groups : List Logged) (last : ℕ) (fault : Fault) → NoneMissing control.redo files → base_of control.redo ≡ Some base → log_files s.folder ≡ files
    → IsOpened log s base groups last → (at : ℕ) × (unchained control.checkpoint groups ≡ Some at) × (fault ≡ damaged_at (lsn_at_place at)) → RefusesLog control files fault
chain_refused control files s log base groups last fault none base_is same is (at, at_is, page) = subst (RefusesLog control files) (sym page) (subst (λ (f : LogFiles). RefusesLog control f (damaged_at (lsn_at_place at))) same (
  subst (NoneMissing control.redo) (sym same) none,
  inr (inr (record {
    base = base;
    base_is = base_is;
    groups = groups;
    end = base / 8176 + length is.whole;
    holds = record { pieces = is.whole; front = is.front; groups_are = is.groups_are; end_is = refl };
    sound = is.sound;
    at = at;
    at_is = at_is;
    page_is = refl;
  })),
))

-- it ends before the checkpoint
pub end_refused : (control : Control) (files : LogFiles) (s : State) (log : LogValue) (base : ℕ) (groups : List Logged) (last : ℕ) (fault : Fault) → NoneMissing control.redo files → base_of control.redo ≡ Some base → log_files s.folder ≡ files
    → IsOpened log s base groups last → (¬ (lsn_number control.checkpoint < number_at (place log))) × (fault ≡ damaged_at (lsn_at_place (place log))) → RefusesLog control files fault
end_refused control files s log base groups last fault none base_is same is (short, page) =
    let end : ℕ = base / 8176 + length is.whole in
    let at : place log ≡ 8176 * end = omega (arith, is.fills.number_is, is.fills.used_is) in
    subst (RefusesLog control files) (sym (page ∙ ap (λ (p : ℕ). damaged_at (lsn_at_place p)) at)) (subst (λ (f : LogFiles). RefusesLog control f (damaged_at (lsn_at_place (8176 * end)))) same (
      subst (NoneMissing control.redo) (sym same) none,
      inr (inl (record {
        base = base;
        base_is = base_is;
        groups = groups;
        end = end;
        holds = record { pieces = is.whole; front = is.front; groups_are = is.groups_are; end_is = refl };
        sound = is.sound;
        short = λ low. short (subst (λ (p : ℕ). lsn_number control.checkpoint < number_at p) (sym at) low);
        page_is = refl;
      })),
    ))

-- ---- it is read

pub opened_on : (log : LogValue) (s t : State) (base : ℕ) (groups : List Logged) (last : ℕ) → Narrows s t → IsOpened log s base groups last → IsOpened log t base groups last
opened_on log s t base groups last same is = opened_stays log s t base groups last (narrows_leave s t same) is

pub is_read : (control : Control) (names : List FileName) (s t : State) (found : Found) (base : ℕ) (groups : List Logged) (entries : List Entry) → base_of control.redo ≡ Some base → IsOpened found.log s base groups found.log.last
    → groups_of entries ≡ groups → Narrows s t → Has control.checkpoint found.analysis (groups_of entries) × AreLow (groups_of entries) → Chained control.checkpoint (groups_of entries)
    → ((name : List ℕ) (part : Part) → IsDurable (file name part) s) → found.files ≡ names → found.from ≡ lsn_at_place base → IsRead control names t found base groups
is_read control names s t found base groups entries base_is opened same_groups same (has, low) chained durable files from = record {
  base_is = base_is;
  log = opened_on found.log s t base groups found.log.last same opened;
  has = subst (Has control.checkpoint found.analysis) same_groups has;
  chained = subst (Chained control.checkpoint) same_groups chained;
  low = subst AreLow same_groups low;
  tables = λ name part. still_durable s t (file name part) same (durable name part);
  files_are = files;
  from_is = from;
}

-- the log was opened
pub was_opened : (from : Lsn) (files : LogFiles) (s : State) (log : LogValue) → ⊥ ⊎ (NoneMissing from files × Opens from s log) → NoneMissing from files × Opens from s log
was_opened from files s log (inl never) = absurd never
was_opened from files s log (inr is) = is
