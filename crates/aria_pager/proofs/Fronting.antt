-- The log of each image, and calls of a host that leave the log and the control file alone.
use Rattle.std.proofs.Common.{◌≡◌, ◌⊎◌, inl, inr, ℕ, zero, suc, ◌+◌, ◌*◌, ◌/◌, ◌≤◌, Bool, true, false, List, [], length, take, length-append, refl, sym, ap, subst, arith, Option}
use Rattle.std.proofs.lemmas.List.{take_all}
use Rattle.aria_host.specs.declared.file_name.FileName.TheVariants.{Control}
use Rattle.aria_host.specs.Folder.{Folder, is_log}
use Rattle.aria_host.specs.Moments.{Left, Moments}
use Rattle.aria_host.specs.State.{State, LeavesOnly}
use Rattle.aria_host.specs.Steps.{Follows}
use Rattle.aria_host.specs.Calls.{TellsNothing}
use Rattle.aria_host.proofs.Moments.{OnlyNow, started, goes_on}
use Rattle.aria_control.specs.declared.found.Found.TheVariants.{Kept}
use Rattle.aria_control.specs.Found.{Finds}
use Rattle.aria_record.specs.Logged.{Logged}
use Rattle.aria_log.specs.declared.log.Log.{Log as LogValue}
use Rattle.aria_log.specs.Pieces.{LogFiles, log_files}
use Rattle.aria_log.specs.Groups.{groups_from, placed}
use Rattle.aria_log.specs.Files.{HoldsFrom, HoldsLog, IsSoundLog}
use Rattle.aria_log.specs.Log.{LogKeeps, HoldsAll}
use Rattle.aria_log.proofs.Holding.{log_holds}
use Rattle.aria_log.proofs.Starting.{rest_holds}
use Rattle.aria_log.proofs.Staying.{LeavesLog, log_stays, opened_stays}
use Rattle.aria_recovery.specs.Images.{IsImage, AreImages}
use Rattle.aria_recovery.specs.Moves.{HasFront as HasFrontOf, Moves}
use Rattle.aria_recovery.proofs.Calming.{calm_call}
use Rattle.aria_recovery.proofs.Moving.{moves_calm}
use Rattle.aria_pager.specs.Pager.{LogOf, NamesBase, HasFront, HaveFronts}

-- a folder's log is a front of these groups
abbrev pub FrontOf : ℕ → List Logged → ℕ → Folder → Type 0
FrontOf base groups forced c = HasFrontOf (HasFront base) groups forced c

-- the control file is the same
pub named_same : (base : ℕ) (d c : Folder) → c Control ≡ d Control → NamesBase base d → NamesBase base c
named_same base d c same is = record { control = is.control; found = found; base_is = is.base_is }
  where
    found : Finds (Kept is.control) c
    found = by (d Control) (c Control) same is.found
      where
        by : (x y : Option (List (List ℕ))) → y ≡ x → Finds (Kept is.control) (λ f. x) → Finds (Kept is.control) (λ f. y)
        by x y e found = subst (λ (o : Option (List (List ℕ))). Finds (Kept is.control) (λ f. o)) (sym e) found

-- the log's files and the control file are the same
pub front_same : (base : ℕ) (groups : List Logged) (forced : ℕ) (d c : Folder) → log_files c ≡ log_files d → c Control ≡ d Control → FrontOf base groups forced d → FrontOf base groups forced c
front_same base groups forced d c logs control is = record {
  count = is.count;
  from = is.from;
  within = is.within;
  log = record {
    end = is.log.end;
    holds = subst (λ (f : LogFiles). HoldsLog f base (take is.count groups) is.log.end) (sym logs) is.log.holds;
    sound = subst (λ (f : LogFiles). IsSoundLog f base is.log.end) (sym logs) is.log.sound;
    named = named_same base d c control is.log.named;
  };
}

pub front_of : (base : ℕ) (groups : List Logged) (forced : ℕ) (c : Folder) → HoldsFrom base groups forced (log_files c) → NamesBase base c → FrontOf base groups forced c
front_of base groups forced c is named = record { count = is.count; from = is.from; within = is.within; log = record { end = is.end; holds = is.holds; sound = is.sound; named = named } }

-- all of the groups are a front of them
pub front_whole : (base : ℕ) (groups : List Logged) (c : Folder) → HoldsAll base groups (log_files c) → NamesBase base c → FrontOf base groups (length groups) c
front_whole base groups c is named = record {
  count = length groups;
  from = omega arith;
  within = omega arith;
  log = record { end = is.end; holds = subst (λ (l : List Logged). HoldsLog (log_files c) base l is.end) (sym (take_all (length groups) groups (omega arith))) is.holds; sound = is.sound; named = named };
}

-- EACH IMAGE HAS A FRONT OF THE LOG
pub fronts : (started : Bool) (log : LogValue) (s : State) (base : ℕ) (groups : List Logged) (forced : ℕ) → LogOf started log s base groups forced → ((c : Folder) → s.may_leave c → NamesBase base c)
    → (c : Folder) → s.may_leave c → FrontOf base groups forced c
fronts true log s base groups forced is named c leaves = front_of base groups forced c (log_holds log s base groups forced is c leaves) (named c leaves)
fronts false log s base groups forced is named c leaves =
    subst (λ (n : ℕ). FrontOf base groups n c) (sym is.1) (front_whole base groups c (rest_holds log s base groups log.last is.0 c leaves) (named c leaves))

pub log_within : (started : Bool) (log : LogValue) (s : State) (base : ℕ) (groups : List Logged) (forced : ℕ) → LogOf started log s base groups forced → forced ≤ length groups
log_within true log s base groups forced is = omega (arith, is.forced_are, ap length is.groups_are, length-append (groups_from base is.whole) (placed (8176 * (base / 8176 + length is.whole)) is.fresh))
log_within false log s base groups forced is = omega (arith, is.1)

-- the log stays where its files do
pub log_of_stays : (started : Bool) (log : LogValue) (s t : State) (base : ℕ) (groups : List Logged) (forced : ℕ) → LeavesLog s t → LogOf started log s base groups forced → LogOf started log t base groups forced
log_of_stays true log s t base groups forced same is = log_stays log s t base groups forced same is
log_of_stays false log s t base groups forced same is = (opened_stays log s t base groups log.last same is.0, is.1)

-- at each moment while the log alone is written
pub moments_front : (s t : State) (base : ℕ) (groups : List Logged) (forced : ℕ) → ((c : Folder) → s.may_leave c → NamesBase base c) → LogKeeps s t base groups forced → Moments is_log s t (FrontOf base groups forced)
moments_front s t base groups forced named keeps = record {
  moments = record {
    later = keeps.moments.later;
    each = λ c b left. here c b (keeps.moments.each c b left);
    before = λ k c b le left. by k c b (keeps.moments.before k c b le left);
  };
  others = keeps.others;
}
  where
    here : (c : Folder) (b : List ℕ) → Left is_log s (λ f. HoldsFrom base groups forced (log_files f)) c b → Left is_log s (FrontOf base groups forced) c b
    here c b at = record {
      has = front_of base groups forced c at.has (named_same base at.others.0 c (at.others.2 Control refl) (named at.others.0 at.others.1));
      others = at.others;
      told_is = at.told_is;
    }

    by : (k : ℕ) (c : Folder) (b : List ℕ) → s.since k c b ⊎ Left is_log s (λ f. HoldsFrom base groups forced (log_files f)) c b → s.since k c b ⊎ Left is_log s (FrontOf base groups forced) c b
    by k c b (inl was) = inl was
    by k c b (inr at) = inr (here c b at)

-- so has each image afterwards
pub fronts_log : (s t : State) (base : ℕ) (groups : List Logged) (forced : ℕ) → ((c : Folder) → t.may_leave c → t.since s.moment c t.out) → ((c : Folder) → s.may_leave c → NamesBase base c) → LogKeeps s t base groups forced
    → HaveFronts base t groups forced
fronts_log s t base groups forced counts named keeps c left = ((moments_front s t base groups forced named keeps).moments.each c t.out (counts c left)).has

abbrev none_told : List ℕ
none_told = []

nothing : (n : ℕ) → take n none_told ≡ []
nothing zero = refl
nothing (suc n) = refl

-- the images now, and those of one call
pub fronts_call : (s t : State) (base : ℕ) (groups : List Logged) (forced : ℕ) (step : Folder → Folder → Type 0) → OnlyNow s → ((c : Folder) → s.may_leave c → FrontOf base groups forced c)
    → ((d c : Folder) → s.may_leave d → step d c → (log_files c ≡ log_files d) × (c Control ≡ d Control)) → Follows step s t → TellsNothing s t → LeavesOnly s t (λ c told. FrontOf base groups forced c)
fronts_call s t base groups forced step only front keeps follows tells =
    goes_on s s t none_told (λ c told. FrontOf base groups forced c) (started s (λ c told. FrontOf base groups forced c) (λ c b left. front c (only c b left).0)) tells.time
    (λ c n leaves. let to = follows c leaves in let same = keeps to.0 c to.1 to.2 in front_same base groups forced to.0 c same.0 same.1 (front to.0 to.1))

-- ONE CALL that is neutral, and leaves the log and the control file alone
pub moves_call : (opened : List ℕ → Bool) (s t : State) (base : ℕ) (groups : List Logged) (forced : ℕ) (step : Folder → Folder → Type 0) → forced ≤ length groups → OnlyNow s → t.may_leave t.folder → AreImages opened s groups forced
    → ((c : Folder) → s.may_leave c → FrontOf base groups forced c)
    → ((d c : Folder) → s.may_leave d → step d c → IsImage opened groups forced d c) → ((d c : Folder) → s.may_leave d → step d c → (log_files c ≡ log_files d) × (c Control ≡ d Control))
    → Follows step s t → TellsNothing s t → Moves (HasFront base) opened s t groups groups forced forced
moves_call opened s t base groups forced step within only now images front neutral keeps follows tells =
    moves_calm (HasFront base) opened s t groups forced within (calm_call opened s t groups forced step only now images neutral follows tells) (fronts_call s t base groups forced step only front keeps follows tells)
