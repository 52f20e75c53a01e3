-- A pager rests again after calls.
use Rattle.std.proofs.Common.{◌≡◌, false, List, ℕ, length, arith, Some, Result, Ok, Err}
use Rattle.std.specs.Prelude.{OnOk, OnErr}
use Rattle.aria_page.specs.declared.lsn.Lsn.{Lsn}
use Rattle.aria_host.specs.declared.fault.Fault.{Fault}
use Rattle.aria_pager.specs.PageStore.{name_at}
use Rattle.aria_host.specs.Folder.{Folder}
use Rattle.aria_host.specs.State.{State}
use Rattle.aria_record.specs.Logged.{Logged}
use Rattle.aria_pager.specs.declared.page_store.PageStore.{PageStore}
use Rattle.aria_pager.specs.Pager.{Standing, IsPager}
use Rattle.aria_pager.specs.Goes.{Stays, Ends, Stands}
use Rattle.aria_pager.specs.Laws.{stands_stays, stands_ends}
use Rattle.aria_pager.specs.Usable.{IsUsable}
use Rattle.aria_pager.proofs.Fronting.{fronts}
use Rattle.aria_pager.specs.Slotted.{Opens}
use Rattle.aria_pager.specs.View.{IsTidy}

pub rests_stays : (a b : PageStore) (s t : State) → IsUsable a s → Stays a b s t → IsTidy b → b.in_group ≡ false → IsUsable b t
rests_stays a b s t is go tidy off = record { tidy = tidy; stands = stands_stays a b s t is.stands go; idle = off }

pub rests_opens : (a b : PageStore) (s t : State) → IsUsable a s → Opens a b s t → IsTidy b → b.in_group ≡ false → IsUsable b t
rests_opens a b s t is go tidy off =
    let on = is.stands in
    let one = go.goes on.0 on.1 on.2 on.3 on.4 in
    record { tidy = tidy; stands = (on.0, on.1, on.2, one.forced', one.standing); idle = off }

pub rests_standing : (b : PageStore) (t : State) (base : ℕ) (start : Folder) (groups : List Logged) (forced : ℕ) → Standing b t base start groups forced → IsTidy b → b.in_group ≡ false → IsUsable b t
rests_standing b t base start groups forced is tidy off = record { tidy = tidy; stands = (base, start, groups, forced, is); idle = off }

pub rests_pager : (b : PageStore) (t : State) (base : ℕ) (start : Folder) (groups : List Logged) → IsPager b t base start groups (length groups) → IsTidy b → b.in_group ≡ false → IsUsable b t
rests_pager b t base start groups is tidy off = rests_standing b t base start groups (length groups) (record {
  within = omega arith;
  images = is.images;
  fronts = fronts b.started b.log t base groups (length groups) is.log is.control;
  pager = λ none. is;
}) tidy off

-- a group ended, or it didn't
pub rests_end : (a b : PageStore) (s t : State) (name : List ℕ) (n : ℕ) (added : List ℕ → List Logged) (r : Result Lsn Fault) → Stands a s → OnErr r (Stays a b s t) → OnOk r ((q : List ℕ) → name_at a n ≡ Some q → Ends a b s t (added q))
    → name_at a n ≡ Some name → IsTidy b → b.in_group ≡ false → IsUsable b t
rests_end a b s t name n added (Ok lsn) is stays ends named tidy off = record { tidy = tidy; stands = stands_ends a b s t (added name) is (ends name named); idle = off }
rests_end a b s t name n added (Err e) is stays ends named tidy off = record { tidy = tidy; stands = stands_stays a b s t is stays; idle = off }
