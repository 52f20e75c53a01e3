-- A walk over what stands in a log, one step after the other.
use Rattle.std.proofs.Common.{◌≡◌, ℕ, ◌+◌, ◌<◌, List, [], ◌∷◌, ◌++◌, length, refl, sym, ◌∙◌, ap, subst, arith, append_assoc}
use Rattle.std.proofs.lemmas.List.{append-nil, length-append}
use Rattle.aria_page.specs.declared.lsn.Lsn.{Lsn}
use Rattle.aria_host.specs.Folder.{Folder}
use Rattle.aria_host.specs.State.{State}
use Rattle.aria_record.specs.declared.record.Record.{Record}
use Rattle.aria_record.specs.Logged.{lsn_at_place}
use Rattle.aria_log.specs.declared.log.Log.{Log as LogValue}
use Rattle.aria_log.specs.declared.next.TheConstants.{MAX_ENTRIES}
use Rattle.aria_log.specs.declared.step.Step.TheVariants.{Group, Rest, End}
use Rattle.aria_log.specs.Log.{place}
use Rattle.aria_log.specs.Pieces.{LogFiles, log_files}
use Rattle.aria_log.specs.Reading.{Standing, Whole, Void, Entry, next_place, StandsAt}
use Rattle.aria_log.specs.Stepping.{IsEntry, IsStep}
use Rattle.aria_log.proofs.Few.{few_entries}

-- ---- places

-- what stands in the log stands there while the folder is as it was
pub stands_same : (log : LogValue) (old new : Folder) (here : ℕ) (before more : List Entry) → new ≡ old → StandsAt log (log_files old) here before more → StandsAt log (log_files new) here before more
stands_same log old new here before more same stands = subst (λ (f : Folder). StandsAt log (log_files f) here before more) (sym same) stands

-- what stands behind an entry
pub stands_next : (log : LogValue) (files : LogFiles) (at : ℕ) (before : List Entry) (entry : Entry) (more : List Entry) → StandsAt log files at before (entry ∷ more) → StandsAt log files (next_place (place log) more) (before ++ entry ∷ []) more
stands_next log files at before entry more stands =
    record { base = stands.base; front = stands.front; readable = stands.readable; entries = stands.entries ∙ sym (append_assoc before (entry ∷ []) more); here = refl }

-- Something stands in the log from this number on, or the log ends there.
pub record StandsBehind (log : LogValue) (files : LogFiles) (after : Lsn) : Type 0 where
  pub at : ℕ
  pub before : List Entry
  pub more : List Entry
  pub stands : StandsAt log files at before more
  pub after_is : after ≡ lsn_at_place at

behind_entry : (log : LogValue) (files : LogFiles) (at : ℕ) (before : List Entry) (entry : Entry) (more : List Entry) (after : Lsn) → StandsAt log files at before (entry ∷ more) → after ≡ lsn_at_place (next_place (place log) more) → StandsBehind log files after
behind_entry log files at before entry more after stands e =
    record { at = next_place (place log) more; before = before ++ entry ∷ []; more = more; stands = stands_next log files at before entry more stands; after_is = e }

-- behind a group
pub behind_group : (log : LogValue) (files : LogFiles) (at : ℕ) (before more : List Entry) (here : Lsn) (group : List Record) (after : Lsn) → StandsAt log files at before more → IsStep (place log) more (Group here group after)
    → StandsBehind log files after
behind_group log files at before [] here group after stands step = absurd step
behind_group log files at before (entry ∷ more) here group after stands step = behind_entry log files at before entry more after stands step.after_is

-- behind a void rest
pub behind_rest : (log : LogValue) (files : LogFiles) (at : ℕ) (before more : List Entry) (here : Lsn) (bytes : ℕ) (after : Lsn) → StandsAt log files at before more → IsStep (place log) more (Rest here bytes after) → StandsBehind log files after
behind_rest log files at before [] here bytes after stands step = absurd step
behind_rest log files at before (entry ∷ more) here bytes after stands step = behind_entry log files at before entry more after stands step.after_is

-- and in a folder that reads the same
pub behind_at : (log : LogValue) (a b : State) (after after' : Lsn) → a.folder ≡ b.folder → after ≡ after' → StandsBehind log (log_files a.folder) after → StandsBehind log (log_files b.folder) after'
behind_at log a b after after' folder same is = subst (λ (f : Folder). StandsBehind log (log_files f) after') folder (subst (λ (l : Lsn). StandsBehind log (log_files a.folder) l) same is)

-- ---- a walk

-- A walk over the entries of a log, from some place on, has passed these, which are so many. The others stand at this number.
pub record IsWalked (log : LogValue) (at : Lsn) (count : ℕ) (all passed left : List Entry) : Type 0 where
  pub whole : all ≡ passed ++ left
  pub count_is : length passed ≡ count
  pub at_is : at ≡ lsn_at_place (next_place (place log) left)

pub walk_begins : (log : LogValue) (files : LogFiles) (here : ℕ) (at : Lsn) (before all : List Entry) → StandsAt log files here before all → at ≡ lsn_at_place here → IsWalked log at 0 all [] all
walk_begins log files here at before all stands at_is = record { whole = refl; count_is = refl; at_is = at_is ∙ ap lsn_at_place stands.here }

-- the others stand in the log
pub walk_stands : (log : LogValue) (files : LogFiles) (here : ℕ) (at : Lsn) (count : ℕ) (before all passed left : List Entry) → StandsAt log files here before all → IsWalked log at count all passed left
    → StandsAt log files (next_place (place log) left) (before ++ passed) left
walk_stands log files here at count before all passed left stands walked = record {
  base = stands.base;
  front = stands.front;
  readable = stands.readable;
  entries = stands.entries ∙ ap (λ (es : List Entry). before ++ es) walked.whole ∙ sym (append_assoc before passed left);
  here = refl;
}

-- one more was passed
pub walk_next : (log : LogValue) (at after : Lsn) (count : ℕ) (all passed : List Entry) (entry : Entry) (left : List Entry) → IsWalked log at count all passed (entry ∷ left) → after ≡ lsn_at_place (next_place (place log) left)
    → IsWalked log after (count + 1) all (passed ++ entry ∷ []) left
walk_next log at after count all passed entry left walked after_is = record {
  whole = walked.whole ∙ sym (append_assoc passed (entry ∷ []) left);
  count_is = length-append passed (entry ∷ []) ∙ ap (λ (n : ℕ). n + 1) walked.count_is;
  at_is = after_is;
}

-- with none left all were passed
pub walk_ends : (log : LogValue) (at : Lsn) (count : ℕ) (all passed : List Entry) → IsWalked log at count all passed [] → all ≡ passed
walk_ends log at count all passed walked = walked.whole ∙ append-nil passed

-- a walk ends before it has passed so many
pub walk_few : (log : LogValue) (files : LogFiles) (here : ℕ) (at : Lsn) (count : ℕ) (before all passed left : List Entry) → StandsAt log files here before all → IsWalked log at count all passed left → count < MAX_ENTRIES
walk_few log files here at count before all passed left stands walked =
    omega (arith, few_entries log files here before all stands, ap (λ (es : List Entry). length es) walked.whole, length-append passed left, walked.count_is)

-- ---- a step of a walk

-- A step told the first entry that was left, and the walk goes on behind it.
pub record WalksOn (log : LogValue) (here after : Lsn) (count : ℕ) (all passed left : List Entry) (found : Standing) : Type 0 where
  pub entry : Entry
  pub rest : List Entry
  pub left_is : left ≡ entry ∷ rest
  pub is : IsEntry (place log) entry rest here after found
  pub walked : IsWalked log after (count + 1) all (passed ++ entry ∷ []) rest

-- a step that told a group
pub walk_group : (log : LogValue) (at : Lsn) (count : ℕ) (all passed left : List Entry) (here : Lsn) (group : List Record) (after : Lsn) → IsWalked log at count all passed left → IsStep (place log) left (Group here group after)
    → WalksOn log here after count all passed left (Whole group)
walk_group log at count all passed [] here group after walked step = absurd step
walk_group log at count all passed (entry ∷ rest) here group after walked step =
    record { entry = entry; rest = rest; left_is = refl; is = step; walked = walk_next log at after count all passed entry rest walked step.after_is }

-- one that told a void rest
pub walk_rest : (log : LogValue) (at : Lsn) (count : ℕ) (all passed left : List Entry) (here : Lsn) (bytes : ℕ) (after : Lsn) → IsWalked log at count all passed left → IsStep (place log) left (Rest here bytes after)
    → WalksOn log here after count all passed left (Void bytes)
walk_rest log at count all passed [] here bytes after walked step = absurd step
walk_rest log at count all passed (entry ∷ rest) here bytes after walked step =
    record { entry = entry; rest = rest; left_is = refl; is = step; walked = walk_next log at after count all passed entry rest walked step.after_is }

-- one that told the log's end
pub walk_end : (log : LogValue) (at : Lsn) (count : ℕ) (all passed left : List Entry) → IsWalked log at count all passed left → IsStep (place log) left End → all ≡ passed
walk_end log at count all passed [] walked step = walk_ends log at count all passed walked
walk_end log at count all passed (entry ∷ rest) walked step = absurd step
