-- Calls of a host that settle files of tables: the log and the tables stay.
use Rattle.std.proofs.Common.{◌≡◌, ℕ, true, false, List, length, ap, sym, refl, subst}
use Rattle.std.proofs.lemmas.List.{take_all}
use Rattle.aria_host.specs.declared.file_name.FileName.TheVariants as files
use Rattle.aria_host.specs.Calls.{Narrows, TellsNothing}
use Rattle.aria_host.specs.Folder.{Folder}
use Rattle.aria_host.specs.Moments.{SameBut}
use Rattle.aria_host.specs.State.{State}
use Rattle.aria_host.specs.Steps.{Follows}
use Rattle.aria_host.proofs.Moments.{OnlyNow, nothing_moves, one_call, one_after, implied}
use Rattle.aria_record.specs.Logged.{Logged}
use Rattle.aria_log.specs.declared.log.Log.{Log as LogValue}
use Rattle.aria_log.specs.Files.{HoldsLog, HoldsFrom}
use Rattle.aria_log.specs.Log.{IsLog, place}
use Rattle.aria_log.specs.Pieces.{log_files}
use Rattle.aria_log.proofs.Holding.{log_holds}
use Rattle.aria_log.proofs.Staying.{log_stays}
use Rattle.aria_recovery.specs.Redo.{number_at}
use Rattle.aria_recovery.specs.Tables.{Agrees}
use Rattle.aria_recovery.specs.Images.{IsImage, Calm, Raises}
use Rattle.aria_recovery.proofs.Agreeing.{agrees_self, agrees_on}
use Rattle.aria_recovery.proofs.Calming.{calm_call}
use Rattle.aria_recovery.proofs.Raising.{raises_none, raises_on}
use Rattle.aria_pager.specs.Pager.{NamesBase, HasFront}
use Rattle.aria_pager.specs.Prepared.{none_open, may_change, KeepsTables, HasTables, Prepares}
use Rattle.aria_pager.proofs.Fronting.{named_same}

-- all groups
front_all : (base : ℕ) (groups : List Logged) (log : LogValue) (s : State) → IsLog log s base groups (length groups) → (c : Folder) → s.may_leave c → NamesBase base c → HasFront base c groups
front_all base groups log s is c leaves named = record {
  end = h.end;
  holds = subst (λ (l : List Logged). HoldsLog (log_files c) base l h.end) (take_all h.count groups h.from) h.holds;
  sound = h.sound;
  named = named;
}
  where
    h : HoldsFrom base groups (length groups) (log_files c)
    h = log_holds log s base groups (length groups) is c leaves

-- the images of a log that is on the disk
pub images_agree : (groups : List Logged) (d c : Folder) → Agrees groups (length groups) d c → IsImage none_open groups (length groups) d c
images_agree groups d c is = record { agrees = is; current = λ name on. absurd (let e : false ≡ true = on in (cc)) }

-- What one call may do to an image: the tables stay, and so do the log and the files that may not change; no page comes ahead of the log.
pub record IsCalm (log : LogValue) (s : State) (groups : List Logged) (step : Folder → Folder → Type 0) : Type 0 where
  pub agrees : (d c : Folder) → s.may_leave d → step d c → Agrees groups (length groups) d c
  pub logs : (d c : Folder) → step d c → log_files c ≡ log_files d
  pub others : (d c : Folder) → step d c → SameBut (may_change groups) d c
  pub lower : (d c : Folder) → step d c → Raises (number_at (place log)) d c

module _ (log : LogValue) (s t : State) (base : ℕ) (start : Folder) (groups : List Logged) where
  keeps_now : HasTables log s base start groups → (c : Folder) → s.may_leave c → KeepsTables base groups s.folder c
  keeps_now is c leaves = record { log = front_all base groups log s is.log c leaves (is.control c leaves); agrees = (is.images c leaves).agrees }

  -- ONE CALL, done or not
  pub prepares_call : (step : Folder → Folder → Type 0) → OnlyNow s → t.may_leave t.folder → IsCalm log s groups step → log_files t.folder ≡ log_files s.folder → SameBut (may_change groups) s.folder t.folder
      → Follows step s t → TellsNothing s t → HasTables log s base start groups → Prepares log s t base start groups
  prepares_call step only now call logs same follows tells is = record {
    moments = one_call s t only tells same (keeps_now is) (λ c leaves. let to = follows c leaves in (keeps c leaves, to.0, to.1, call.others to.0 c to.2));
    agrees = calm.folder;
    tables = tables;
  }
    where
      calm : Calm none_open s t groups (length groups)
      calm = calm_call none_open s t groups (length groups) step only now is.images (λ d c left to. images_agree groups d c (call.agrees d c left to)) follows tells

      control : (c : Folder) → t.may_leave c → NamesBase base c
      control c leaves = let to = follows c leaves in named_same base to.0 c (call.others to.0 c to.2 files.Control refl) (is.control to.0 to.1)

      log_is : IsLog log t base groups (length groups)
      log_is = log_stays log s t base groups (length groups) (record { folder = logs; images = λ c leaves. let to = follows c leaves in (to.0, to.1, call.logs to.0 c to.2) }) is.log

      tables : HasTables log t base start groups
      tables = record {
        log = log_is;
        images = calm.images;
        control = control;
        raises = λ c leaves. let to = follows c leaves in raises_on (number_at (place log)) start to.0 c (is.raises to.0 to.1) (call.lower to.0 c to.2);
      }

      keeps : (c : Folder) → t.may_leave c → KeepsTables base groups s.folder c
      keeps c leaves = record { log = front_all base groups log t log_is c leaves (control c leaves); agrees = agrees_on groups (length groups) s.folder t.folder c calm.folder (calm.images c leaves).agrees }

  -- A CALL THAT ONLY LOOKS, or brings something to the disk
  pub prepares_look : OnlyNow s → t.may_leave t.folder → Narrows s t → HasTables log s base start groups → Prepares log s t base start groups
  prepares_look only now looks is = prepares_call (λ d c. c ≡ d) only now (record {
    agrees = λ d c left same. subst (λ (f : Folder). Agrees groups (length groups) d f) (sym same) (agrees_self groups (length groups) d);
    logs = λ d c same. ap log_files same;
    others = λ d c same f off. ap (λ (g : Folder). g f) same;
    lower = λ d c same. subst (Raises (number_at (place log)) d) (sym same) (raises_none (number_at (place log)) d);
  }) (ap log_files looks.folder) (λ f off. ap (λ (g : Folder). g f) looks.folder) (λ c leaves. (c, looks.no_more c leaves, refl)) looks.tells is

-- ONE AFTER ANOTHER
pub prepares_on : (log : LogValue) (a b c : State) (base : ℕ) (start : Folder) (groups : List Logged) → Prepares log a b base start groups → Prepares log b c base start groups → Prepares log a c base start groups
prepares_on log a b c base start groups first second = record {
  moments = one_after a b c first.moments (implied b c second.moments (λ d keeps. record { log = keeps.log; agrees = agrees_on groups (length groups) a.folder b.folder d first.agrees keeps.agrees }));
  agrees = agrees_on groups (length groups) a.folder b.folder c.folder first.agrees second.agrees;
  tables = second.tables;
}

-- nothing was done
pub prepares_none : (log : LogValue) (s : State) (base : ℕ) (start : Folder) (groups : List Logged) → OnlyNow s → HasTables log s base start groups → Prepares log s s base start groups
prepares_none log s base start groups only is = record {
  moments = nothing_moves s only (keeps_now log s s base start groups is);
  agrees = agrees_self groups (length groups) s.folder;
  tables = is;
}
