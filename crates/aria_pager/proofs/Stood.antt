-- The groups of a pager's log stand in it.
use Rattle.std.proofs.Common.{◌≡◌, ◌∙◌, inr, ℕ, ◌/◌, Bool, true, false, List, [], ◌∷◌, ◌++◌, ap, sym, refl, subst, Result, Ok, Err}
use Rattle.aria_page.specs.declared.lsn.Lsn.{Lsn}
use Rattle.aria_host.specs.State.{State}
use Rattle.aria_host.specs.declared.fault.Fault.{Fault}
use Rattle.aria_host.specs.declared.fault.Fault.TheVariants.{LogDamaged, Disk}
use Rattle.aria_record.specs.declared.record.Record.{Record}
use Rattle.aria_record.specs.Logged.{Logged}
use Rattle.aria_log.specs.declared.log.Log.{Log as LogValue}
use Rattle.aria_log.specs.declared.step.Step.{Step}
use Rattle.aria_log.specs.declared.step.Step.TheVariants.{Group, Rest, End}
use Rattle.aria_log.specs.Pieces.{Piece, LogFiles, log_files}
use Rattle.aria_log.specs.Reading.{Standing, Whole, Void, Entry, entries_from, StandsAt}
use Rattle.aria_log.specs.Stepping.{IsStep, group_of, groups_of, HasNextCause}
use Rattle.aria_log.proofs.Readable.{IsWhole, opened_readable, running_readable}
use Rattle.aria_pager.specs.Pager.{LogOf}
use Rattle.aria_pager.specs.Steps.{damaged_at}
use Rattle.aria_pager.specs.Grouped.{IsGroupAt, HasGroupCause}

-- a group as what stands in the log
abbrev pub entry_of : Logged → Entry
entry_of g = record { at = g.at; found = Whole g.group }

-- among what stands in a log a group is found
record Split (entries : List Entry) (g : Logged) : Type 0 where
  front : List Entry
  more : List Entry
  are : entries ≡ front ++ entry_of g ∷ more

split : (entries : List Entry) (before : List Logged) (g : Logged) (after : List Logged) → groups_of entries ≡ before ++ g ∷ after → Split entries g
split [] [] g after e = absurd (cc)
split [] (b ∷ before) g after e = absurd (cc)
split (entry ∷ entries) before g after e = by entry.found refl (λ bs rest. split entries bs g after rest)
  where
    behind : Split entries g → Split (entry ∷ entries) g
    behind s = record { front = entry ∷ s.front; more = s.more; are = ap (λ (l : List Entry). entry ∷ l) s.are }

    head : (a b : Logged) (xs ys : List Logged) → a ∷ xs ≡ b ∷ ys → a ≡ b
    head a b xs ys same = cc

    tail : (a b : Logged) (xs ys : List Logged) → a ∷ xs ≡ b ∷ ys → xs ≡ ys
    tail a b xs ys same = cc

    here : (group : List Record) → entry.found ≡ Whole group → (bs : List Logged) → record { at = entry.at; group = group } ∷ groups_of entries ≡ bs ++ g ∷ after → ((bs : List Logged) → groups_of entries ≡ bs ++ g ∷ after → Split entries g) → Split (entry ∷ entries) g
    here group is [] same later =
        let one : record { at = entry.at; group = group } ≡ g = head (record { at = entry.at; group = group }) g (groups_of entries) after same in
        record { front = []; more = entries; are = ap (λ (f : Standing). record { at = entry.at; found = f } ∷ entries) is ∙ ap (λ (x : Logged). entry_of x ∷ entries) one }
    here group is (b ∷ bs) same later = behind (later bs (tail (record { at = entry.at; group = group }) b (groups_of entries) (bs ++ g ∷ after) same))

    by : (f : Standing) → entry.found ≡ f → ((bs : List Logged) → groups_of entries ≡ bs ++ g ∷ after → Split entries g) → Split (entry ∷ entries) g
    by (Void bytes) is later = behind (later before (sym (ap (λ (f : Standing). group_of entry.at f ++ groups_of entries) is) ∙ e))
    by (Whole group) is later = here group is before (sym (ap (λ (f : Standing). group_of entry.at f ++ groups_of entries) is) ∙ e) later

-- THE GROUP STANDS THERE
pub record StandsGroup (log : LogValue) (files : LogFiles) (g : Logged) : Type 0 where
  pub before : List Entry
  pub more : List Entry
  pub stands : StandsAt log files g.at before (entry_of g ∷ more)

whole_stands : (log : LogValue) (files : LogFiles) (base : ℕ) (front : List Piece) (groups : List Logged) (at : Lsn) (g : Logged) → IsWhole log files base front groups → IsGroupAt groups at g → StandsGroup log files g
whole_stands log files base front groups at g is there =
    let s = split (entries_from base front) there.before g there.after (is.groups_are ∙ there.are) in
    record { before = s.front; more = s.more; stands = record { base = base; front = front; readable = is.readable; entries = s.are; here = refl } }

pub group_stands : (started : Bool) (log : LogValue) (s : State) (base : ℕ) (groups : List Logged) (forced : ℕ) (at : Lsn) (g : Logged) → LogOf started log s base groups forced → IsGroupAt groups at g → StandsGroup log (log_files s.folder) g
group_stands true log s base groups forced at g is there = let r = running_readable log s base groups forced is in whole_stands log (log_files s.folder) base _ groups at g r.all there
group_stands false log s base groups forced at g is there = let r = opened_readable log s base groups log.last is.0 in whole_stands log (log_files s.folder) base _ groups at g r there

-- ---- what a step tells of it

pub step_group : (end : ℕ) (g : Logged) (more : List Entry) (at after : Lsn) (group : List Record) (step : Step) → step ≡ Group at group after → IsStep end (entry_of g ∷ more) step → group ≡ g.group
step_group end g more at after group step is told = let t : IsStep end (entry_of g ∷ more) (Group at group after) = subst (IsStep end (entry_of g ∷ more)) is told in sym (whole g.group group t.found_is)
  where
    whole : (a b : List Record) → Whole a ≡ Whole b → a ≡ b
    whole a b same = cc

pub step_rest : (end : ℕ) (g : Logged) (more : List Entry) (at after : Lsn) (bytes : ℕ) (step : Step) → step ≡ Rest at bytes after → IsStep end (entry_of g ∷ more) step → ⊥
step_rest end g more at after bytes step is told = let t : IsStep end (entry_of g ∷ more) (Rest at bytes after) = subst (IsStep end (entry_of g ∷ more)) is told in absurd (let e : Whole g.group ≡ Void bytes = t.found_is in (cc))

pub step_end : (end : ℕ) (g : Logged) (more : List Entry) (step : Step) → step ≡ End → IsStep end (entry_of g ∷ more) step → ⊥
step_end end g more step is told = let t : IsStep end (entry_of g ∷ more) End = subst (IsStep end (entry_of g ∷ more)) is told in t

-- no group stands there, so the host doesn't tell
pub untold_cause : {T S : Type 0} (tells : Bool) (end : ℕ) (s t : State) (at : Lsn) (fault : Fault) (x : S) → fault ≡ damaged_at at → (tells ≡ true → ⊥) → HasNextCause {T = S} tells end s t (Ok x) → HasGroupCause {T = T} tells s t (Err fault)
untold_cause {T} {S} tells end s t at fault x is never cause = record {
  only = inr (inr (off tells never, at.file, at.offset / 8192, is));
  counted = λ e. absurd (let f : fault ≡ Disk = same fault Disk e in let h : LogDamaged at.file (at.offset / 8192) ≡ Disk = sym is ∙ f in (cc));
  calm = tt;
  later = cause.later;
  tell = cause.tell;
}
  where
    off : (b : Bool) → (b ≡ true → ⊥) → b ≡ false
    off true not = absurd (not refl)
    off false not = refl

    same : (a b : Fault) → ◌≡◌ {A = Result T Fault} (Err a) (Err b) → a ≡ b
    same a b e = cc
