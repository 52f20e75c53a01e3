-- Groups are made again, one after another, by a walk over the log.
use Rattle.std.proofs.Common.{◌≡◌, ◌∙◌, ◌⊎◌, inl, inr, ℕ, ◌+◌, ◌<◌, Bool, true, false, List, [], ◌∷◌, ◌++◌, length, ap, sym, refl, subst, length-append, Option, None, Some, Result, Ok, Err}
use Rattle.std.specs.Prelude.{alloc_error}
use Rattle.std.proofs.lemmas.List.{append-nil}
use Rattle.aria_page.specs.declared.lsn.Lsn.{Lsn}
use Rattle.aria_host.specs.declared.fault.Fault.{Fault}
use Rattle.aria_host.specs.declared.fault.Fault.TheVariants.{Memory, Disk}
use Rattle.aria_host.specs.Folder.{Folder}
use Rattle.aria_host.specs.State.{State}
use Rattle.aria_host.specs.Calls.{Unchanged}
use Rattle.aria_host.proofs.Moments.{OnlyNow}
use Rattle.aria_record.specs.declared.record.Record.{Record}
use Rattle.aria_record.specs.Logged.{Logged, lsn_at_place}
use Rattle.aria_log.specs.declared.log.Log.{Log as LogValue}
use Rattle.aria_log.specs.declared.next.TheConstants.{MAX_ENTRIES}
use Rattle.aria_log.specs.declared.step.Step.TheVariants.{Group, Rest, End}
use Rattle.aria_log.specs.Pieces.{LogFiles, log_files}
use Rattle.aria_log.specs.Log.{place}
use Rattle.aria_log.specs.Reading.{Standing, Whole, Entry, entries_from, next_place, StandsAt}
use Rattle.aria_log.specs.Stepping.{IsEntry, IsStep, IsUntold, HasNextCause, group_of, groups_of}
use Rattle.aria_log.proofs.Entries.{groups_of-append}
use Rattle.aria_log.proofs.Readable.{running_readable, stands_first}
use Rattle.aria_log.proofs.Walking.{IsWalked as IsWalkedTo, walk_begins, walk_stands, walk_next, walk_ends, walk_few}
use Rattle.aria_recovery.specs.declared.analysis.Analysis.{Analysis}
use Rattle.aria_recovery.specs.Frames.{Progress, all_of}
use Rattle.aria_pager.specs.declared.page_store.PageStore.{PageStore}
use Rattle.aria_pager.specs.Steps.{SameWork}
use Rattle.aria_pager.specs.Redone.{IsRedoing, Redoes, IsAtGroup, IsWalking, Walks, BeginsRedo, OfRedo, HasRedoCause, is_log_damage}
use Rattle.aria_pager.proofs.Stepping.{look_step}
use Rattle.aria_pager.proofs.Again.{redoing_on, redoes_on, redoes_fault}
use Rattle.aria_pager.proofs.Redoing.{log_is}

-- ---- the log is read

-- nothing changed
looked : (store : PageStore) (s t : State) (redone : Progress) (base : ℕ) (start : Folder) (groups : List Logged) (forced : ℕ) → OnlyNow s → t.may_leave t.folder → Unchanged s t → IsRedoing store s redone base start groups forced
    → Redoes store store s t redone base start groups forced true
looked store s t redone base start groups forced only now same is = record {
  steps = look_step store store s t redone base start groups forced true only now same (λ on p. p) is.pager;
  log = λ on. record { log = refl; files = ap log_files same.folder };
}

same_self : (a : PageStore) → SameWork a a
same_self a = record { slots = refl; sizes = refl; opens = refl; tables = refl; writer = refl; pending = refl; started = refl; in_group = refl; made = refl; lent = refl; kept = refl }

-- it couldn't be
pub walks_failed : (store : PageStore) (s t : State) (analysis : Analysis) (from : Lsn) (before more : List Entry) (base : ℕ) (start : Folder) (groups : List Logged) (forced : ℕ) (r : Result (Option Lsn) Fault) (y : Fault) → r ≡ Err y → OnlyNow s → t.may_leave t.folder → Unchanged s t
    → IsWalking store s analysis from before more base start groups forced → Walks store store s t before more base start groups forced r
walks_failed store s t analysis from before more base start groups forced r y is_err only now same is = subst (Walks store store s t before more base start groups forced) (sym is_err)
    (redoes_fault store store store s t (λ k. length (groups_of before)) (all_of groups) base start groups forced true false refl (looked store s t (λ k. length (groups_of before)) base start groups forced only now same is.redoing).steps).steps

-- the log's end
pub walks_end : (store : PageStore) (s t : State) (analysis : Analysis) (from : Lsn) (before more : List Entry) (base : ℕ) (start : Folder) (groups : List Logged) (forced : ℕ) → OnlyNow s → t.may_leave t.folder → Unchanged s t
    → IsWalking store s analysis from before more base start groups forced → IsStep (place store.log) more End → Walks store store s t before more base start groups forced (Ok None)
walks_end store s t analysis from before [] base start groups forced only now same is step = (refl, looked store s t (λ k. length (groups_of before)) base start groups forced only now same is.redoing)
walks_end store s t analysis from before (entry ∷ more) base start groups forced only now same is step = absurd step

-- a void rest
pub walks_rest : (store : PageStore) (s t : State) (analysis : Analysis) (from : Lsn) (before more : List Entry) (base : ℕ) (start : Folder) (groups : List Logged) (forced : ℕ) (at : Lsn) (bytes : ℕ) (after : Lsn) → OnlyNow s → t.may_leave t.folder → Unchanged s t
    → IsWalking store s analysis from before more base start groups forced → IsStep (place store.log) more (Rest at bytes after) → Walks store store s t before more base start groups forced (Ok (Some after))
walks_rest store s t analysis from before [] base start groups forced at bytes after only now same is step = absurd step
walks_rest store s t analysis from before (entry ∷ rest) base start groups forced at bytes after only now same is step = record {
  entry = entry;
  rest = rest;
  more_is = refl;
  after_is = step.after_is;
  redoes = subst (λ (l : List Logged). Redoes store store s t (λ k. length l) base start groups forced true) (sym groups_are) (looked store s t (λ k. length (groups_of before)) base start groups forced only now same is.redoing);
}
  where
    groups_are : groups_of (before ++ entry ∷ []) ≡ groups_of before
    groups_are = groups_of-append before (entry ∷ []) ∙ ap (λ (f : Standing). groups_of before ++ (group_of entry.at f ++ [])) step.found_is ∙ append-nil (groups_of before)

-- ---- a group

-- the group of an entry, among the log's
pub entry_group : (store : PageStore) (s : State) (analysis : Analysis) (from : Lsn) (before : List Entry) (entry : Entry) (rest : List Entry) (base : ℕ) (start : Folder) (groups : List Logged) (forced : ℕ) (at : Lsn) (group : List Record) (after : Lsn)
    → IsWalking store s analysis from before (entry ∷ rest) base start groups forced → IsEntry (place store.log) entry rest at after (Whole group) → IsAtGroup analysis at group groups (groups_of before) (groups_of rest) entry.at
entry_group store s analysis from before entry rest base start groups forced at group after is step = record {
  lsn_is = step.at_is;
  whole = is.groups_are ∙ ap (λ (f : Standing). groups_of before ++ (group_of entry.at f ++ groups_of rest)) step.found_is;
  knows = is.knows;
}

module _ (store store' : PageStore) (s t u : State) (analysis : Analysis) (from : Lsn) (before : List Entry) (base : ℕ) (start : Folder) (groups : List Logged) (forced : ℕ) (at : Lsn) (group : List Record) (after : Lsn) (only : OnlyNow s) (now : t.may_leave t.folder) (same : Unchanged s t) where
  -- a call that makes the group again, behind the reading of it
  abbrev pub Makes : Bool → Type 0
  Makes done = (b a : List Logged) (n k : ℕ) → IsAtGroup analysis at group groups b a n → IsRedoing store t (λ i. length b) base start groups k → Redoes store store' t u (λ i. length b + 1) base start groups k done

  made : (entry : Entry) (rest : List Entry) (done : Bool) → IsWalking store s analysis from before (entry ∷ rest) base start groups forced → IsEntry (place store.log) entry rest at after (Whole group) → Makes done
      → Redoes store store' s u (λ i. length (groups_of before) + 1) base start groups forced done
  made entry rest done is step makes =
      let first = looked store s t (λ k. length (groups_of before)) base start groups forced only now same is.redoing in
      redoes_on store store store' s t u (λ k. length (groups_of before)) (λ k. length (groups_of before) + 1) base start groups forced done refl first
      (makes (groups_of before) (groups_of rest) entry.at first.steps.forced' (entry_group store s analysis from before entry rest base start groups forced at group after is step)
      (redoing_on store store s t (λ k. length (groups_of before)) (λ k. length (groups_of before)) base start groups forced is.redoing (same_self store) first))

  -- THE GROUP IS MADE AGAIN, and the walk goes on
  pub walks_group : (more : List Entry) → IsWalking store s analysis from before more base start groups forced → IsStep (place store.log) more (Group at group after) → Makes true → Walks store store' s u before more base start groups forced (Ok (Some after))
  walks_group [] is step makes = absurd step
  walks_group (entry ∷ rest) is step makes = record {
    entry = entry;
    rest = rest;
    more_is = refl;
    after_is = step.after_is;
    redoes = subst (λ (n : ℕ). Redoes store store' s u (λ k. n) base start groups forced true) (sym count) (made entry rest true is step makes);
  }
    where
      count : length (groups_of (before ++ entry ∷ [])) ≡ length (groups_of before) + 1
      count = ap length (groups_of-append before (entry ∷ []) ∙ ap (λ (f : Standing). groups_of before ++ (group_of entry.at f ++ [])) step.found_is) ∙ length-append (groups_of before) (record { at = entry.at; group = group } ∷ [])

  -- or it isn't
  pub walks_fault : (more : List Entry) (r : Result (Option Lsn) Fault) (y : Fault) → r ≡ Err y → IsWalking store s analysis from before more base start groups forced → IsStep (place store.log) more (Group at group after) → Makes false
      → Walks store store' s u before more base start groups forced r
  walks_fault [] r y is_err is step makes = absurd step
  walks_fault (entry ∷ rest) r y is_err is step makes = subst (Walks store store' s u before (entry ∷ rest) base start groups forced) (sym is_err)
      (redoes_fault store store' store' s u (λ k. length (groups_of before) + 1) (all_of groups) base start groups forced false false refl (made entry rest false is step makes).steps).steps

  -- what the call needs
  pub group_now : (more : List Entry) → IsWalking store s analysis from before more base start groups forced → IsStep (place store.log) more (Group at group after)
      → (b : List Logged) × (a : List Logged) × (n : ℕ) × (k : ℕ) × IsAtGroup analysis at group groups b a n × IsRedoing store t (λ i. length b) base start groups k
  group_now [] is step = absurd step
  group_now (entry ∷ rest) is step =
      let first = looked store s t (λ k. length (groups_of before)) base start groups forced only now same is.redoing in (
        groups_of before,
        groups_of rest,
        entry.at,
        first.steps.forced',
        entry_group store s analysis from before entry rest base start groups forced at group after is step,
        redoing_on store store s t (λ k. length (groups_of before)) (λ k. length (groups_of before)) base start groups forced is.redoing (same_self store) first,
      )

-- ---- the whole walk

-- A walk has passed so many entries: their groups are made again.
pub record IsWalked (store store' : PageStore) (s s' : State) (at : Lsn) (count base : ℕ) (start : Folder) (groups : List Logged) (forced : ℕ) : Type 0 where
  pub all : List Entry
  pub passed : List Entry
  pub left : List Entry
  pub stands : StandsAt store.log (log_files s.folder) base [] all
  pub groups_are : groups_of all ≡ groups
  pub walked : IsWalkedTo store.log at count all passed left
  pub redoes : Redoes store store' s s' (λ k. length (groups_of passed)) base start groups forced true

pub walked_none : (store : PageStore) (s : State) (analysis : Analysis) (from : Lsn) (base : ℕ) (start : Folder) (groups : List Logged) (forced : ℕ) → OnlyNow s → s.may_leave s.folder → Unchanged s s → BeginsRedo store s analysis from base start groups forced
    → IsWalked store store s s from 0 base start groups forced
walked_none store s analysis from base start groups forced only now same begins =
    let log = log_is store s (λ k. 0) base start groups forced begins.redoing in
    let whole = (running_readable store.log s base groups forced log).all in
    let stands = stands_first store.log (log_files s.folder) base _ whole.readable whole.empty in
    record {
      all = entries_from base _;
      passed = [];
      left = entries_from base _;
      stands = stands;
      groups_are = whole.groups_are;
      walked = walk_begins store.log (log_files s.folder) base from [] _ stands begins.from_is;
      redoes = looked store s s (λ k. 0) base start groups forced only now same begins.redoing;
    }

module _ (store l : PageStore) (s t : State) (analysis : Analysis) (from at : Lsn) (count base : ℕ) (start : Folder) (groups : List Logged) (forced : ℕ) (begins : BeginsRedo store s analysis from base start groups forced) (same : SameWork store l) (is : IsWalked store l s t at count base start groups forced) where
  log_same : l.log ≡ store.log
  log_same = (is.redoes.log refl).log

  files_same : log_files t.folder ≡ log_files s.folder
  files_same = (is.redoes.log refl).files

  -- it goes on
  pub walking : IsWalking l t analysis at is.passed is.left base start groups is.redoes.steps.forced'
  walking = record {
    here = next_place (place store.log) is.left;
    stands = subst (λ (v : LogValue). StandsAt v (log_files t.folder) (next_place (place store.log) is.left) is.passed is.left) (sym log_same)
        (subst (λ (f : LogFiles). StandsAt store.log f (next_place (place store.log) is.left) is.passed is.left) (sym files_same)
        (walk_stands store.log (log_files s.folder) base at count [] is.all is.passed is.left is.stands is.walked));
    from_is = is.walked.at_is;
    groups_are = sym is.groups_are ∙ ap groups_of is.walked.whole ∙ groups_of-append is.passed is.left;
    knows = begins.knows;
    redoing = redoing_on store l s t (λ k. 0) (λ k. length (groups_of is.passed)) base start groups forced begins.redoing same is.redoes;
  }

  -- ONE ENTRY MORE
  pub walked_more : (n : PageStore) (u : State) (after : Lsn) → Walks l n t u is.passed is.left base start groups is.redoes.steps.forced' (Ok (Some after)) → IsWalked store n s u after (count + 1) base start groups forced
  walked_more n u after on = record {
    all = is.all;
    passed = is.passed ++ on.entry ∷ [];
    left = on.rest;
    stands = is.stands;
    groups_are = is.groups_are;
    walked = walk_next store.log at after count is.all is.passed on.entry on.rest (subst (IsWalkedTo store.log at count is.all is.passed) on.more_is is.walked)
        (on.after_is ∙ ap (λ (v : LogValue). lsn_at_place (next_place (place v) on.rest)) log_same);
    redoes = redoes_on store l n s t u (λ k. length (groups_of is.passed)) (λ k. length (groups_of (is.passed ++ on.entry ∷ []))) base start groups forced true same.opens is.redoes on.redoes;
  }

  -- ALL GROUPS ARE MADE AGAIN
  pub walked_all : (n : PageStore) (u : State) → Walks l n t u is.passed is.left base start groups is.redoes.steps.forced' (Ok None) → Redoes store n s u (all_of groups) base start groups forced true
  walked_all n u (none, last) = subst (λ (m : ℕ). Redoes store n s u (λ k. m) base start groups forced true) count_is
      (redoes_on store l n s t u (λ k. length (groups_of is.passed)) (λ k. length (groups_of is.passed)) base start groups forced true same.opens is.redoes last)
    where
      count_is : length (groups_of is.passed) ≡ length groups
      count_is = ap length (ap groups_of (sym (walk_ends store.log at count is.all is.passed (subst (IsWalkedTo store.log at count is.all is.passed) none is.walked))) ∙ is.groups_are)

  -- it failed
  pub walked_failed : (n : PageStore) (u : State) (f : Fault) → Walks l n t u is.passed is.left base start groups is.redoes.steps.forced' (Err f) → Redoes store n s u (all_of groups) base start groups forced false
  walked_failed n u f last = redoes_on store l n s t u (λ k. length (groups_of is.passed)) (all_of groups) base start groups forced false same.opens is.redoes (record { steps = last; log = λ on. absurd (cc) })

  -- it ends before it has passed so many
  pub walked_few : count < MAX_ENTRIES
  walked_few = walk_few store.log (log_files s.folder) base at count [] is.all is.passed is.left is.stands is.walked

-- ---- faults

-- the log couldn't be read
pub next_cause : {T S : Type 0} (tells : Bool) (end : ℕ) (store : PageStore) (s t : State) (r : Result S Fault) (y f : Fault) → r ≡ Err y → y ≡ f → HasNextCause {T = T} tells end s t (Err f) → HasRedoCause {T = S} tells store s t r
next_cause {T} {S} tells end store s t r y f r_is y_is is = subst (HasRedoCause {T = S} tells store s t) (sym r_is) (subst (λ (x : Fault). HasRedoCause {T = S} tells store s t (Err x)) (sym y_is) (record {
  only = by is.only;
  calm = tt;
  later = is.later;
  tell = is.tell;
}))
  where
    by : (f ≡ Memory alloc_error) ⊎ ((f ≡ Disk) ⊎ IsUntold tells end f) → OfRedo tells store s t f
    by (inl memory) = subst (OfRedo tells store s t) (sym memory) (inl (0, tt))
    by (inr (inl disk)) = subst (OfRedo tells store s t) (sym disk) (inl (0, is.counted (ap Err disk)))
    by (inr (inr (untold, n, low, damaged))) = inr (untold, ap is_log_damage damaged)
