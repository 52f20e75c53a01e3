-- What stays while groups are made again.
use Rattle.std.specs.Prelude.{⊤, is_some, ◌≡◌, ◌⊎◌, ◌≤◌, ℕ, Bool, true, false, nat_lt, IsTrue, Option, None, Some, Result, Ok, Err, IfErr, OnOk, List, [], ◌∷◌, ◌++◌, length}
use Rattle.std.specs.Option.{option_map_or}
use Rattle.aria_page.specs.declared.edit.Edit.{Edit}
use Rattle.aria_page.specs.declared.lsn.Lsn.{Lsn}
use Rattle.aria_host.specs.declared.fault.Fault.{Fault}
use Rattle.aria_host.specs.declared.fault.Fault.TheVariants.{PageDamaged, LogDamaged}
use Rattle.aria_host.specs.Folder.{Folder}
use Rattle.aria_host.specs.State.{State}
use Rattle.aria_record.specs.declared.record.Record.{Record}
use Rattle.aria_record.specs.Logged.{Logged, lsn_at_place}
use Rattle.aria_record.specs.Writing.{records_of}
use Rattle.aria_log.specs.Pieces.{log_files}
use Rattle.aria_log.specs.declared.log.Log.{Log as LogValue}
use Rattle.aria_log.specs.Log.{place}
use Rattle.aria_log.specs.Reading.{Entry, next_place, StandsAt}
use Rattle.aria_log.specs.Stepping.{groups_of}
use Rattle.aria_cache.specs.Frames.{Held, redone_held}
use Rattle.aria_recovery.specs.Redo.{number_at}
use Rattle.aria_recovery.specs.Frames.{Spot, Progress, all_of}
use Rattle.aria_recovery.specs.Tables.{file}
use Rattle.aria_recovery.specs.Images.{page_of}
use Rattle.aria_recovery.specs.Noted.{last_edit}
use Rattle.aria_recovery.specs.Analysed.{Has}
use Rattle.aria_recovery.specs.declared.analysis.Analysis.{Analysis}
use Rattle.aria_pager.specs.declared.page_store.PageStore.{PageStore}
use Rattle.aria_pager.specs.PageStore.{late_seen}
use Rattle.aria_pager.specs.Pager.{IsPagerAt}
use Rattle.aria_pager.specs.Steps.{StepsAt, OfHold, damaged_at}

-- the log stays, and its files do
pub record KeepsLog (store store' : PageStore) (d d' : Folder) : Type 0 where
  pub log : store'.log ≡ store.log
  pub files : log_files d' ≡ log_files d

-- ---- a page

-- a page after these edits of a group of that number, if there are any
abbrev pub redone_by : ℕ → List Edit → Held → Held
redone_by number [] h = h
redone_by number (e ∷ es) h = redone_held number (e ∷ es) h

-- it is held, and stands before that number
abbrev pub is_older : Option Held → ℕ → Bool
is_older frame number = option_map_or (λ h. nat_lt h.lsn number) frame false

-- ---- what a call that makes groups again needs, and does

-- So many groups are on each page, nothing is to be appended, and no group is open.
pub record IsRedoing (store : PageStore) (s : State) (redone : Progress) (base : ℕ) (start : Folder) (groups : List Logged) (forced : ℕ) : Type 0 where
  pub pager : IsPagerAt store s redone base start groups forced
  pub started : store.started ≡ true
  pub none : records_of store.writer ≡ []
  pub idle : store.log.used ≡ 0

-- Where it is done, so many groups are on each page. What a crash leaves comes to the same, and the log stays.
pub record Redoes (store store' : PageStore) (s s' : State) (redone : Progress) (base : ℕ) (start : Folder) (groups : List Logged) (forced : ℕ) (done : Bool) : Type 0 where
  pub steps : StepsAt store store' s s' redone base start groups forced done
  pub log : IsTrue done → KeepsLog store store' s.folder s'.folder

-- the one pass over the log's groups
pub record KnowsGroups (analysis : Analysis) (groups : List Logged) : Type 0 where
  pub checkpoint : Lsn
  pub has : Has checkpoint analysis groups

-- a group of the log, behind others
pub record IsAtGroup (analysis : Analysis) (lsn : Lsn) (group : List Record) (groups before after : List Logged) (place : ℕ) : Type 0 where
  pub lsn_is : lsn ≡ lsn_at_place place
  pub whole : groups ≡ before ++ record { at = place; group = group } ∷ after
  pub knows : KnowsGroups analysis groups

-- ---- faults

abbrev pub is_log_damage : Fault → Bool
is_log_damage (LogDamaged f n) = true
is_log_damage _ = false

-- Why groups can't be made again: as for a page that can't be held; or the log can't be read, where the host doesn't tell what its files hold.
abbrev pub OfRedo : Bool → PageStore → State → State → Fault → Type 0
OfRedo tells store old new fault = ((key : ℕ) × OfHold tells store key old new fault) ⊎ ((tells ≡ false) × (is_log_damage fault ≡ true))

-- the groups edit the page, behind the one that made its file last
abbrev pub IsEdited : List Logged → Spot → Type 0
IsEdited groups s = is_some (last_edit s.name s.part s.page groups) ≡ true

-- The page that the fault tells of is one that the groups edit: it isn't sound, or it is ahead of the log.
abbrev pub OfEdited : LogValue → List Logged → Folder → Fault → Type 0
OfEdited log groups folder (PageDamaged f n) = (s : Spot) × IsEdited groups s × (f ≡ file s.name s.part) × (n ≡ s.page) × (page_of folder s.name s.part s.page ≡ None)
OfEdited log groups folder (LogDamaged f n) = (s : Spot) × IsEdited groups s × (LogDamaged f n ≡ damaged_at (lsn_at_place (place log))) × (late_seen (number_at (place log)) (page_of folder s.name s.part s.page) ≡ true)
OfEdited log groups folder _ = ⊤

-- Groups are made again, or they aren't for one of these causes. Faults of the disk are counted, and come with no other answer.
pub record HasRedoCause {T : Type 0} (tells : Bool) (store : PageStore) (old new : State) (result : Result T Fault) : Type 0 where
  pub only : IfErr result (OfRedo tells store old new)
  pub calm : OnOk result (new.disk_faults ≡ old.disk_faults)
  pub later : old.disk_faults ≤ new.disk_faults
  pub tell : new.tell_faults ≡ old.tell_faults

-- ---- a walk over the log

-- A walk over the log has come to this place. The groups before it are made again, and these entries stand from there on.
pub record IsWalking (store : PageStore) (s : State) (analysis : Analysis) (from : Lsn) (before more : List Entry) (base : ℕ) (start : Folder) (groups : List Logged) (forced : ℕ) : Type 0 where
  pub here : ℕ
  pub stands : StandsAt store.log (log_files s.folder) here before more
  pub from_is : from ≡ lsn_at_place here
  pub groups_are : groups ≡ groups_of before ++ groups_of more
  pub knows : KnowsGroups analysis groups
  pub redoing : IsRedoing store s (λ k. length (groups_of before)) base start groups forced

-- The walk went on behind one entry, which is made again if it is a group.
pub record WalksOn (store store' : PageStore) (s s' : State) (before more : List Entry) (base : ℕ) (start : Folder) (groups : List Logged) (forced : ℕ) (after : Lsn) : Type 0 where
  pub entry : Entry
  pub rest : List Entry
  pub more_is : more ≡ entry ∷ rest
  pub after_is : after ≡ lsn_at_place (next_place (place store.log) rest)
  pub redoes : Redoes store store' s s' (λ k. length (groups_of (before ++ entry ∷ []))) base start groups forced true

-- it went on, or it ended; or a fault was answered
abbrev pub Walks : PageStore → PageStore → State → State → List Entry → List Entry → ℕ → Folder → List Logged → ℕ → Result (Option Lsn) Fault → Type 0
Walks store store' s s' before more base start groups forced (Ok (Some after)) = WalksOn store store' s s' before more base start groups forced after
Walks store store' s s' before more base start groups forced (Ok None) = (more ≡ []) × Redoes store store' s s' (λ k. length (groups_of before)) base start groups forced true
Walks store store' s s' before more base start groups forced (Err fault) = StepsAt store store' s s' (all_of groups) base start groups forced false

-- No group is made again yet, and the walk begins at the log's base.
pub record BeginsRedo (store : PageStore) (s : State) (analysis : Analysis) (from : Lsn) (base : ℕ) (start : Folder) (groups : List Logged) (forced : ℕ) : Type 0 where
  pub redoing : IsRedoing store s (λ k. 0) base start groups forced
  pub knows : KnowsGroups analysis groups
  pub from_is : from ≡ lsn_at_place base
