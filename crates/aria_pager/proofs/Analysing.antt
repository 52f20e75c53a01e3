-- The groups of the log are analysed, one after another, by a walk over it.
use Rattle.std.proofs.Common.{rules, ◌≡◌, ◌∙◌, ◌+◌, ◌<◌, ℕ, List, [], ◌∷◌, ◌++◌, ap, sym, subst, None, Some}
use Rattle.std.specs.Prelude.{All}
use Rattle.std.proofs.lemmas.List.{append-nil}
use Rattle.std.proofs.lemmas.List.Elements.{All-append}
use Rattle.aria_page.specs.declared.lsn.Lsn.{Lsn}
use Rattle.aria_record.specs.Groups.{IsGroup}
use Rattle.aria_record.specs.Logged.{Logged, lsn_at_place}
use Rattle.aria_log.specs.declared.log.Log.{Log as LogValue}
use Rattle.aria_log.specs.declared.next.TheConstants.{MAX_ENTRIES}
use Rattle.aria_log.specs.Pieces.{LogFiles}
use Rattle.aria_log.specs.Log.{place}
use Rattle.aria_log.specs.Reading.{Entry, next_place, StandsAt}
use Rattle.aria_log.specs.Stepping.{group_of, groups_of}
use Rattle.aria_log.proofs.Entries.{groups_of-append}
use Rattle.aria_log.proofs.Walking.{IsWalked, walk_begins, walk_stands, walk_next, walk_ends, walk_few}
use Rattle.aria_recovery.specs.declared.analysis.Analysis.{Analysis}
use Rattle.aria_recovery.specs.Analysed.{Has}
use Rattle.aria_pager.specs.Entered.{AreLow}
use Rattle.aria_pager.specs.Found.{Takes}
use Rattle.aria_pager.proofs.Listed.{groups_low}

-- A walk has passed so many of these entries: their groups are analysed.
pub record IsAnalysed (log : LogValue) (at : Lsn) (count : ℕ) (all : List Entry) (checkpoint : Lsn) (analysis : Analysis) : Type 0 where
  pub passed : List Entry
  pub left : List Entry
  pub walked : IsWalked log at count all passed left
  pub has : Has checkpoint analysis (groups_of passed)
  pub fit : All (λ g. IsGroup g.group) (groups_of passed)

one_more : (passed : List Entry) (entry : Entry) → groups_of passed ++ group_of entry.at entry.found ≡ groups_of (passed ++ entry ∷ [])
one_more passed entry = ap (λ (l : List Logged). groups_of passed ++ l) (sym (append-nil (group_of entry.at entry.found))) ∙ sym (groups_of-append passed (entry ∷ []))

module _ (log : LogValue) (files : LogFiles) (here : ℕ) (all : List Entry) (checkpoint : Lsn) (stands : StandsAt log files here [] all) where
  -- no step yet
  pub analysed_none : (from : Lsn) (analysis : Analysis) → from ≡ lsn_at_place here → Has checkpoint analysis [] → IsAnalysed log from 0 all checkpoint analysis
  analysed_none from analysis from_is has = record { passed = []; left = all; walked = walk_begins log files here from [] all stands from_is; has = has; fit = search rules }

  module _ (at : Lsn) (count : ℕ) (analysis : Analysis) (is : IsAnalysed log at count all checkpoint analysis) where
    -- what is left stands in the log
    pub left_stands : StandsAt log files (next_place (place log) is.left) is.passed is.left
    left_stands = walk_stands log files here at count [] all is.passed is.left stands is.walked

    -- one step more
    pub analysed_more : (after : Lsn) (now : Analysis) → Takes (place log) is.left (Some after) checkpoint (groups_of is.passed) now → IsAnalysed log after (count + 1) all checkpoint now
    analysed_more after now takes = by is.left is.walked takes
      where
        by : (left : List Entry) → IsWalked log at count all is.passed left → Takes (place log) left (Some after) checkpoint (groups_of is.passed) now → IsAnalysed log after (count + 1) all checkpoint now
        by [] walked step = absurd step
        by (entry ∷ rest) walked (behind, has, fits) = record {
          passed = is.passed ++ entry ∷ [];
          left = rest;
          walked = walk_next log at after count all is.passed entry rest walked behind;
          has = subst (Has checkpoint now) (one_more is.passed entry) has;
          fit = subst (All (λ g. IsGroup g.group)) (one_more is.passed entry) (All-append (λ g. IsGroup g.group) (groups_of is.passed) (group_of entry.at entry.found) is.fit fits);
        }

    -- ALL GROUPS ARE ANALYSED
    pub analysed_all : (now : Analysis) → Takes (place log) is.left None checkpoint (groups_of is.passed) now → Has checkpoint now (groups_of all) × AreLow (groups_of all)
    analysed_all now takes = by is.left is.walked takes
      where
        by : (left : List Entry) → IsWalked log at count all is.passed left → Takes (place log) left None checkpoint (groups_of is.passed) now → Has checkpoint now (groups_of all) × AreLow (groups_of all)
        by [] walked has =
            let same : groups_of is.passed ≡ groups_of all = ap groups_of (sym (walk_ends log at count all is.passed walked)) in
            (subst (Has checkpoint now) same has, subst AreLow same (groups_low (groups_of is.passed) is.fit))
        by (entry ∷ rest) walked step = absurd step

    -- the log ends before the walk has gone so far
    pub analysed_few : count < MAX_ENTRIES
    analysed_few = walk_few log files here at count [] all is.passed is.left stands is.walked
