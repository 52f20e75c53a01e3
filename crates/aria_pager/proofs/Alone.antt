-- A group of one entry is appended, and brought to the disk.
use Rattle.std.proofs.Common.{◌≡◌, ◌∙◌, ◌||◌, inl, ℕ, ◌*◌, ◌-◌, ◌^◌, ◌<◌, ◌≤◌, Bool, true, false, List, [], ◌∷◌, ◌++◌, length, ap, sym, refl, subst, arith, Result, Ok, Err}
use Rattle.std.specs.Prelude.{IsTrue}
use Rattle.std.proofs.lemmas.List.{take-append-le}
use Rattle.aria_host.specs.declared.fault.Fault.{Fault}
use Rattle.aria_host.specs.declared.fault.Fault.TheVariants.{Disk, LogSpent}
use Rattle.aria_host.specs.Calls.{HasDiskCause}
use Rattle.aria_host.specs.Count.{Rose}
use Rattle.aria_host.specs.State.{State}
use Rattle.aria_host.proofs.Moments.{implied, one_after}
use Rattle.aria_record.specs.declared.record.Record.{Record}
use Rattle.aria_record.specs.Groups.{is_edited, is_alone, is_group}
use Rattle.aria_record.specs.Logged.{Logged}
use Rattle.aria_log.specs.Pieces.{LogFiles, log_files}
use Rattle.aria_log.specs.Files.{HoldsFrom, HoldsLog}
use Rattle.aria_log.specs.Causes.{HasAppendCause}
use Rattle.aria_log.specs.Log.{LogKeeps}

longer : (gs hs : List Logged) → length gs ≤ length (gs ++ hs)
longer [] hs = omega arith
longer (g ∷ gs) hs = let e = longer gs hs in omega (arith, e)

-- a front of the groups is one of more of them
pub holds_more : (base : ℕ) (groups more : List Logged) (forced : ℕ) (files : LogFiles) → HoldsFrom base groups forced files → HoldsFrom base (groups ++ more) forced files
holds_more base groups more forced files is = record {
  count = is.count;
  from = is.from;
  within = within (length groups) (length (groups ++ more)) is.within (longer groups more);
  end = is.end;
  holds = subst (λ (l : List Logged). HoldsLog files base l is.end) (sym (take-append-le is.count groups more is.within)) is.holds;
  sound = is.sound;
}
  where
    within : (n m : ℕ) → is.count ≤ n → n ≤ m → is.count ≤ m
    within n m few more = omega (arith, few, more)

pub keeps_more : (s t : State) (base : ℕ) (groups more : List Logged) (forced : ℕ) → LogKeeps s t base groups forced → LogKeeps s t base (groups ++ more) forced
keeps_more s t base groups more forced keeps = implied s t keeps (λ c is. holds_more base groups more forced (log_files c) is)

-- a group is appended, and then forced
pub keeps_both : (s m t : State) (base : ℕ) (groups more : List Logged) (forced : ℕ) → LogKeeps s m base groups forced → LogKeeps m t base (groups ++ more) forced → LogKeeps s t base (groups ++ more) forced
keeps_both s m t base groups more forced first second = one_after s m t (keeps_more s m base groups more forced first) second

-- an entry that stands alone is a group
pub alone_group : (group : List Record) → IsTrue (is_alone group) → IsTrue (is_group group)
alone_group group is = by (is_edited group)
  where
    by : (b : Bool) → IsTrue (b || is_alone group)
    by true = refl
    by false = is

-- ---- causes

err_same : {T : Type 0} (f e : Fault) → ◌≡◌ {A = Result T Fault} (Err f) (Err e) → f ≡ e
err_same f e same = cc

-- the append failed
pub cause_err : {T S L H : Type 0} (end end' : ℕ) (log log' : L) (host host' : H) (s t : State) (f y : Fault) (r : Result S Fault) → end ≡ end' → r ≡ Err y → y ≡ f → HasAppendCause {T = T} end log log' host host' s t (Err f)
    → HasAppendCause {T = S} end' log log' host host' s t r
cause_err {T} {S} {L} {H} end end' log log' host host' s t f y r same is e cause =
    subst (λ (q : Result S Fault). HasAppendCause {T = S} end' log log' host host' s t q) (sym (is ∙ ap (λ (x : Fault). Err x) e))
    (subst (λ (n : ℕ). HasAppendCause {T = S} n log log' host host' s t (Err f)) same here)
  where
    turn : (x : Fault) → ◌≡◌ {A = Result S Fault} (Err f) (Err x) → ◌≡◌ {A = Result T Fault} (Err f) (Err x)
    turn x q = ap (λ (z : Fault). Err z) (err_same f x q)

    back : (x : Fault) → ◌≡◌ {A = Result T Fault} (Err f) (Err x) → ◌≡◌ {A = Result S Fault} (Err f) (Err x)
    back x q = ap (λ (z : Fault). Err z) (err_same f x q)

    here : HasAppendCause {T = S} end log log' host host' s t (Err f)
    here = record {
      only = cause.only;
      spent = ((λ q. cause.spent.0 (turn (LogSpent 16777215) q)), (λ low. back (LogSpent 16777215) (cause.spent.1 low)));
      still = λ q. cause.still (turn (LogSpent 16777215) q);
      counted = λ q. cause.counted (turn Disk q);
      calm = tt;
      later = cause.later;
      tell = cause.tell;
    }

-- it was done, and a force followed
pub cause_forced : {X T L H : Type 0} (end end' : ℕ) (log mid log' : L) (host on host' : H) (s m t : State) (x : X) (r : Result T Fault) → end ≡ end' → HasAppendCause {T = X} end log mid host on s m (Ok x) → HasDiskCause m t r
    → HasAppendCause {T = T} end' log log' host host' s t r
cause_forced {X} {T} {L} {H} end end' log mid log' host on host' s m t x r same cause disk = subst (λ (n : ℕ). HasAppendCause {T = T} n log log' host host' s t r) same (by r disk)
  where
    fits : 8176 * (2 ^ 34 - 1) < end → ⊥
    fits low = let e : ◌≡◌ {A = Result X Fault} (Ok x) (Err (LogSpent 16777215)) = cause.spent.1 low in absurd (cc)

    by : (r : Result T Fault) → HasDiskCause m t r → HasAppendCause {T = T} end log log' host host' s t r
    by (Ok y) disk = record {
      only = tt;
      spent = ((λ q. absurd (cc)), (λ low. absurd (fits low)));
      still = λ q. absurd (cc);
      counted = λ q. absurd (cc);
      calm = disk.calm ∙ cause.calm;
      later = omega (arith, cause.later, disk.later);
      tell = disk.tell ∙ cause.tell;
    }
    by (Err f) disk = record {
      only = inl disk.only;
      spent = ((λ q. absurd (other q)), (λ low. absurd (fits low)));
      still = λ q. absurd (other q);
      counted = λ q. subst (λ (n : ℕ). Rose n t.disk_faults) cause.calm (disk.counted q);
      calm = tt;
      later = omega (arith, cause.later, disk.later);
      tell = disk.tell ∙ cause.tell;
    }
      where
        other : ◌≡◌ {A = Result T Fault} (Err f) (Err (LogSpent 16777215)) → ⊥
        other q = let e : Disk ≡ LogSpent 16777215 = sym disk.only ∙ err_same f (LogSpent 16777215) q in absurd (cc)
