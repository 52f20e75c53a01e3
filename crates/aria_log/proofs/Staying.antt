-- Other files change, and the log stays.
use Rattle.std.proofs.Common.{◌≡◌, ℕ, ◌+◌, ◌/◌, Bool, true, false, List, length, refl, sym, ◌∙◌, ap, subst}
use Rattle.std.specs.Prelude.{IsSome}
use Rattle.aria_host.specs.declared.file_name.FileName.{FileName}
use Rattle.aria_host.specs.declared.file_name.FileName.TheVariants.{Log}
use Rattle.aria_host.specs.Calls.{Unchanged, Narrows}
use Rattle.aria_host.specs.Folder.{Folder}
use Rattle.aria_host.specs.Moments.{SameBut, LeavesOthers}
use Rattle.aria_host.specs.State.{State}
use Rattle.aria_host.proofs.Moments.{looks}
use Rattle.aria_log.specs.declared.log.Log.{Log as LogValue}
use Rattle.aria_log.specs.Pieces.{Piece, LogFiles, log_files, pieces_of, IsFront}
use Rattle.aria_record.specs.Logged.{Logged}
use Rattle.aria_log.specs.Files.{IsSoundLog}
use Rattle.aria_log.specs.Log.{HoldRun, HoldsRun, IsThere, IsWriting, IsLog, IsOpened, behind}

-- the log's files are as they were, in each image too
pub record LeavesLog (old new : State) : Type 0 where
  pub folder : log_files new.folder ≡ log_files old.folder
  pub images : (c : Folder) → new.may_leave c → (d : Folder) × old.may_leave d × (log_files c ≡ log_files d)

-- nothing was done
pub leaves_now : (s : State) → LeavesLog s s
leaves_now s = record { folder = refl; images = λ c leaves. (c, leaves, refl) }

-- one run of calls after another
pub leaves_after : (a b c : State) → LeavesLog a b → LeavesLog b c → LeavesLog a c
leaves_after a b c first second = record {
  folder = second.folder ∙ first.folder;
  images = λ f leaves. let (d, was, same) = second.images f leaves in let (e, before, also) = first.images d was in (e, before, same ∙ also);
}

-- folders that differ in other files have the same log
pub same_log : (mine : FileName → Bool) (d c : Folder) → ((n : ℕ) → mine (Log n) ≡ false) → SameBut mine d c → log_files c ≡ log_files d
same_log mine d c apart same = λ i n. same (Log n) (apart n) i

-- calls that touch some other files alone
pub others_leave : (mine : FileName → Bool) (old new : State) → ((n : ℕ) → mine (Log n) ≡ false) → LeavesOthers mine old new → LeavesLog old new
others_leave mine old new apart is = record {
  folder = same_log mine old.folder new.folder apart is.folder;
  images = λ c leaves. let (d, was, others) = is.images c leaves in (d, was, same_log mine d c apart others);
}

-- calls that change nothing, but that a crash may leave less
pub narrows_leave : (old new : State) → Narrows old new → LeavesLog old new
narrows_leave old new same = record { folder = ap log_files same.folder; images = λ c leaves. (c, same.no_more c leaves, refl) }

-- the log's files are as they were
pub same_files : (old new : State) → Unchanged old new → log_files new.folder ≡ log_files old.folder
same_files old new same = ap log_files same.folder

-- ---- the log

-- a run that is written stays
pub writing_stays : (s t : State) (base : ℕ) (whole : List Piece) (parts : List (List ℕ)) (there : Bool) → LeavesLog s t → IsWriting s base whole parts there → IsWriting t base whole parts there
writing_stays s t base whole parts there same is = record {
  run = subst (λ (f : LogFiles). HoldRun (pieces_of f) (base / 8176 + length whole) true parts) (sym same.folder) is.run;
  reads = subst (λ (f : LogFiles). HoldsRun base whole parts f) (sym same.folder) is.reads;
  now = subst (λ (f : LogFiles). IsThere there f (behind base whole parts)) (sym same.folder) is.now;
  images = λ c leaves. let (d, was, e) = same.images c leaves in subst (λ (f : LogFiles). HoldsRun base whole parts f) (sym e) (is.images d was);
  each = λ c leaves. let (d, was, e) = same.images c leaves in subst (λ (f : LogFiles). IsThere there f (behind base whole parts)) (sym e) (is.each d was);
}

-- the log stays with all its groups
pub log_stays : (log : LogValue) (s t : State) (base : ℕ) (groups : List Logged) (forced : ℕ) → LeavesLog s t → IsLog log s base groups forced → IsLog log t base groups forced
log_stays log s t base groups forced same is = record {
  whole = is.whole;
  based = is.based;
  fresh = is.fresh;
  are = is.are;
  forced_are = is.forced_are;
  groups_are = is.groups_are;
  at = record {
    parts = is.at.parts;
    held = is.at.held;
    writing = writing_stays s t base is.whole is.at.parts log.there same is.at.writing;
    full = is.at.full;
    first = is.at.first;
    fills = is.at.fills;
    text_is = is.at.text_is;
  };
  idle = is.idle;
}

-- and so does one that was opened
pub opened_stays : (log : LogValue) (s t : State) (base : ℕ) (groups : List Logged) (last : ℕ) → LeavesLog s t → IsOpened log s base groups last → IsOpened log t base groups last
opened_stays log s t base groups last same is =
    let now : log_files s.folder ≡ log_files t.folder = sym same.folder in
    let end : ℕ = base / 8176 + length is.whole in
    record {
      whole = is.whole;
      front = subst (λ (f : LogFiles). IsFront (pieces_of f) (base / 8176) true is.whole) now is.front;
      based = is.based;
      groups_are = is.groups_are;
      first = is.first;
      fills = is.fills;
      low = is.low;
      sound = subst (λ (f : LogFiles). IsSoundLog f base end) now is.sound;
      last_is = λ over. subst (λ (f : LogFiles). IsSome (f last)) now (is.last_is over);
      none = λ f behind' over form. ap (λ (files : LogFiles). files f) same.folder ∙ is.none f behind' over form;
      rest = λ c leaves f above form.
          let (d, was, e) = same.images c leaves in ap (λ (files : LogFiles). files f) e ∙ is.rest d was f above form ∙ ap (λ (files : LogFiles). files f) now;
    }

-- a look changes nothing of an opened log
pub look_opened : (log : LogValue) (old new : State) (base : ℕ) (groups : List Logged) (last : ℕ) → Unchanged old new → IsOpened log old base groups last → IsOpened log new base groups last
look_opened log old new base groups last same is = opened_stays log old new base groups last (narrows_leave old new (looks old new same)) is
