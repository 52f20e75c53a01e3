-- The group that drops a table is appended and brought to the disk.
use Rattle.std.proofs.Common.{◌≡◌, ◌∙◌, inl, inr, ℕ, ◌-◌, ◌*◌, ◌^◌, Bool, true, false, cond, List, [], ◌++◌, ap, sym, refl, subst, None, Some, Result, Ok, Err}
use Rattle.std.specs.Prelude.{IsTrue}
use Rattle.std.specs.Cmp.Lexicographic.{bytes_decides}
use Rattle.std.proofs.lemmas.Bool.{cases_lt}
use Rattle.std.proofs.lemmas.List.{append-nil}
use Rattle.aria_value.specs.Named.{same_name}
use Rattle.aria_host.specs.declared.fault.Fault.{Fault}
use Rattle.aria_host.specs.declared.fault.Fault.TheVariants.{LogSpent}
use Rattle.aria_host.specs.Folder.{Folder}
use Rattle.aria_host.specs.State.{State}
use Rattle.aria_host.proofs.Moments.{OnlyNow, unchanged_now}
use Rattle.aria_record.specs.declared.record.Record.TheVariants.{DropTable}
use Rattle.aria_record.specs.Logged.{Logged}
use Rattle.aria_log.specs.Causes.{HasAppendCause}
use Rattle.aria_recovery.specs.Frames.{all_of}
use Rattle.aria_recovery.specs.Moves.{Moves}
use Rattle.aria_recovery.specs.Tables.{Maker, told_by}
use Rattle.aria_pager.specs.declared.page_store.PageStore.{PageStore}
use Rattle.aria_pager.specs.PageStore.{opened}
use Rattle.aria_pager.specs.Pager.{HasFront, HaveFronts, IsPager}
use Rattle.aria_pager.specs.Turns.{alone}
use Rattle.aria_pager.specs.Filing.{Forgets, Logs, HasFileCause}
use Rattle.aria_pager.proofs.Fronting.{fronts}
use Rattle.aria_pager.proofs.Stepping.{moves_look}
use Rattle.aria_pager.proofs.Filed.{Follows}
use Rattle.aria_pager.proofs.Forgetting.{fewer_forgotten, closed_now, opened_fewer}

-- nothing was appended
pub logs_none : (store now : PageStore) (s : State) (base : ℕ) (start : Folder) (groups : List Logged) (forced : ℕ) (g : Logged) (done : Bool) → opened now ≡ opened store → done ≡ false → OnlyNow s → s.may_leave s.folder → IsPager store s base start groups forced
    → Logs store now s s base start groups forced g done
logs_none store now s base start groups forced g done same off only reads is = record {
  added = false;
  forced' = forced;
  moves = subst (λ (o : List ℕ → Bool). Moves (HasFront base) o s s groups (groups ++ []) forced forced) (sym same)
      (subst (λ (l : List Logged). Moves (HasFront base) (opened store) s s groups l forced forced) (sym (append-nil groups))
      (moves_look store s s (all_of groups) base start groups forced only reads (unchanged_now s) is));
  fronts = subst (λ (l : List Logged). HaveFronts base s l forced) (sym (append-nil groups)) (fronts store.started store.log s base groups forced is.log is.control);
  files = λ name part. refl;
  whole = λ on. absurd (let e : true ≡ false = sym on ∙ off in (cc));
  all = λ on. absurd (let e : true ≡ false = sym on ∙ off in (cc));
  logged = λ on. absurd (let e : true ≡ false = sym on ∙ off in (cc));
}

-- what the group says of a name
abbrev pub drop_of : List ℕ → PageStore → Logged
drop_of name store = alone store (DropTable name)

never : (b : Bool) (maker : Maker) → cond b (Some None) None ≡ Some (Some maker) → ⊥
never true maker e = (cc)
never false maker e = (cc)

-- THE GROUP MAY STAND BEHIND the others
pub drop_follows : (store now : PageStore) (s : State) (base : ℕ) (start : Folder) (groups : List Logged) (forced : ℕ) (name : List ℕ) → Forgets name store now → IsPager store s base start groups forced
    → Follows store now s groups (drop_of name store)
drop_follows store now s base start groups forced name forgets is = record {
  fewer = opened_fewer store now (fewer_forgotten name store now forgets);
  meets = λ q. record { under = λ none part n e. absurd (let f : false ≡ true = e in (cc)); older = λ maker told. absurd (never (same_name q name) maker told) };
  older = λ q maker d told left. absurd (never (same_name q name) maker told);
  shut = λ q on. by q on (same_name q name) refl;
}
  where
    by : (q : List ℕ) → IsTrue (opened now q) → (b : Bool) → same_name q name ≡ b → told_by q (drop_of name store) ≡ None
    by q on false off = ap (λ (b : Bool). cond b (Some None) None) off
    by q on true same = absurd (let e : true ≡ false = sym (subst (λ (n : List ℕ). IsTrue (opened now n)) ((bytes_decides q name).0 same) on) ∙ closed_now store now s.folder groups name is.slots forgets in (cc))

-- ---- its cause

-- the append's is one of a call that appends a group
pub file_cause : {T L H : Type 0} (end end' : ℕ) (log log' : L) (host host' : H) (s t : State) (r : Result T Fault) → end ≡ end' → HasAppendCause {T = T} end log log' host host' s t r → HasFileCause {T = T} end' s t r
file_cause {T} {L} {H} end end' log log' host host' s t r same cause = subst (λ (n : ℕ). HasFileCause {T = T} n s t r) same (by r cause)
  where
    by : (r : Result T Fault) → HasAppendCause {T = T} end log log' host host' s t r → HasFileCause {T = T} end s t r
    by (Ok x) cause = record {
      only = tt;
      spent = λ q. cause.spent.0 q;
      fits = elim (cases_lt (8176 * (2 ^ 34 - 1)) end) [
        | inl low ↦ absurd (let e : ◌≡◌ {A = Result T Fault} (Ok x) (Err (LogSpent 16777215)) = cause.spent.1 low in (cc))
        | inr fits ↦ fits
      ];
      counted = λ q. cause.counted q;
      calm = cause.calm;
      later = cause.later;
      tell = cause.tell;
    }
    by (Err f) cause = record {
      only = inr cause.only;
      spent = λ q. cause.spent.0 q;
      fits = tt;
      counted = λ q. cause.counted q;
      calm = tt;
      later = cause.later;
      tell = cause.tell;
    }
