-- The laws of what calls do, where tables may get slots.
use Rattle.std.proofs.Common.{◌≡◌, ℕ, Bool, true, false, Option, Some, List, ◌++◌, sym, subst}
use Rattle.std.specs.Prelude.{IsTrue}
use Rattle.aria_host.specs.Folder.{Folder}
use Rattle.aria_host.specs.State.{State}
use Rattle.aria_host.proofs.Moments.{OnlyNow}
use Rattle.aria_record.specs.Logged.{Logged}
use Rattle.aria_recovery.specs.Images.{AreImages}
use Rattle.aria_recovery.specs.Moves.{Moves}
use Rattle.aria_recovery.proofs.Calming.{image_shut}
use Rattle.aria_recovery.proofs.Moving.{moves_on}
use Rattle.aria_pager.specs.declared.page_store.PageStore.{PageStore}
use Rattle.aria_pager.specs.PageStore.{opened}
use Rattle.aria_pager.specs.Pager.{HasFront, Standing}
use Rattle.aria_pager.specs.Goes.{Gone, Ends, Stays, Stands}
use Rattle.aria_pager.specs.Turns.{Turned, only}
use Rattle.aria_pager.specs.Slotted.{Went, Opens}
use Rattle.aria_pager.specs.Laws.{still_moves}

-- the same for other open tables, whose files are current in each image afterwards
pub moves_seen : (HoldsLog : Folder → List Logged → Type 0) (one other : List ℕ → Bool) (s t : State) (groups groups' : List Logged) (forced forced' : ℕ) → AreImages other t groups' forced' → Moves HoldsLog one s t groups groups' forced forced'
    → Moves HoldsLog other s t groups groups' forced forced'
moves_seen HoldsLog one other s t groups groups' forced forced' images is = record {
  more = is.more;
  grows = is.grows;
  forces = is.forces;
  within = is.within;
  tables = is.tables;
  starts = is.starts;
  ends = is.ends;
  applies = is.applies;
  moments = is.moments;
  images = images;
  out = is.out;
  err = is.err;
}

-- one after another, whichever tables are open
pub moves_after : (HoldsLog : Folder → List Logged → Type 0) (one other : List ℕ → Bool) (s t u : State) (ga gb gc : List Logged) (fa fb fc : ℕ) → Moves HoldsLog one s t ga gb fa fb → Moves HoldsLog other t u gb gc fb fc → Moves HoldsLog other s u ga gc fa fc
moves_after HoldsLog one other s t u ga gb gc fa fb fc first second = moves_seen HoldsLog none other s u ga gc fa fc second.images
    (moves_on HoldsLog none s t u ga gb gc fa fb fc
    (moves_seen HoldsLog one none s t ga gb fa fb (λ c left. image_shut one gb fb none t.folder c (off one) (first.images c left)) first)
    (moves_seen HoldsLog other none t u gb gc fb fc (λ c left. image_shut other gc fc none u.folder c (off other) (second.images c left)) second))
  where
    none : List ℕ → Bool
    none name = false

    off : (shown : List ℕ → Bool) (n : List ℕ) → IsTrue (none n) → IsTrue (shown n)
    off shown n on = absurd (let e : false ≡ true = on in (cc))

-- nothing is done
pub went_none : (store : PageStore) (s : State) (base : ℕ) (start : Folder) (groups : List Logged) (forced : ℕ) → OnlyNow s → Standing store s base start groups forced → Went store store s s base start groups groups forced
went_none store s base start groups forced only_now is = record { forced' = forced; standing = is; moves = still_moves store s base start groups forced only_now is }

-- ONE AFTER ANOTHER
pub went_on : (a b c : PageStore) (s t u : State) (base : ℕ) (start : Folder) (ga gb gc : List Logged) (forced : ℕ) → (one : Went a b s t base start ga gb forced) → Went b c t u base start gb gc one.forced' → Went a c s u base start ga gc forced
went_on a b c s t u base start ga gb gc forced one two = record {
  forced' = two.forced';
  standing = two.standing;
  moves = moves_after (HasFront base) (opened b) (opened c) s t u ga gb gc forced one.forced' two.forced' one.moves two.moves;
}

-- where no table is opened or shut
pub went_gone : (a b : PageStore) (s t : State) (base : ℕ) (start : Folder) (groups groups' : List Logged) (forced : ℕ) → Gone a b s t base start groups groups' forced → Went a b s t base start groups groups' forced
went_gone a b s t base start groups groups' forced is = record {
  forced' = is.forced';
  standing = is.standing;
  moves = moves_seen (HasFront base) (opened a) (opened b) s t groups groups' forced is.forced' is.standing.images is.moves;
}

-- where a group was appended, or wasn't
pub went_turned : (a b : PageStore) (s t : State) (base : ℕ) (start : Folder) (groups : List Logged) (forced : ℕ) (g : Logged) (done : Bool) → (is : Turned a b s t base start groups forced g done) → Went a b s t base start groups (groups ++ only is.added g) forced
went_turned a b s t base start groups forced g done is = record { forced' = is.forced'; standing = is.standing; moves = is.moves }

pub opens_none : (store : PageStore) (s : State) → OnlyNow s → Opens store store s s
opens_none store s only_now = record { slots = λ n name at. at; opens = λ name on. on; goes = λ base start groups forced is. went_none store s base start groups forced only_now is }

-- a call that gives no slot
pub opens_stays : (a b : PageStore) (s t : State) → Stays a b s t → Opens a b s t
opens_stays a b s t is = record {
  slots = λ n name at. subst (λ (f : ℕ → Option (List ℕ)). f n ≡ Some name) (sym is.slots) at;
  opens = λ name on. subst (λ (o : List ℕ → Bool). IsTrue (o name)) (sym is.opens) on;
  goes = λ base start groups forced on. went_gone a b s t base start groups groups forced (is.goes base start groups forced on);
}

pub opens_then : (a b c : PageStore) (s t u : State) → Opens a b s t → Opens b c t u → Opens a c s u
opens_then a b c s t u first second = record {
  slots = λ n name at. second.slots n name (first.slots n name at);
  opens = λ name on. second.opens name (first.opens name on);
  goes = λ base start groups forced is.
      let one = first.goes base start groups forced is in
      went_on a b c s t u base start groups groups groups forced one (second.goes base start groups one.forced' one.standing);
}

-- it stands afterwards
pub stands_opens : (a b : PageStore) (s t : State) → Stands a s → Opens a b s t → Stands b t
stands_opens a b s t is go = let one = go.goes is.0 is.1 is.2 is.3 is.4 in (is.0, is.1, is.2, one.forced', one.standing)

-- groups ended behind it
pub went_ends : (a b c : PageStore) (s t u : State) (base : ℕ) (start : Folder) (ga gb added : List Logged) (forced : ℕ) → Went a b s t base start ga gb forced → Ends b c t u added → Went a c s u base start ga (gb ++ added) forced
went_ends a b c s t u base start ga gb added forced one ends = went_on a b c s t u base start ga gb (gb ++ added) forced one (went_gone b c t u base start gb (gb ++ added) one.forced' (ends.goes base start gb one.forced' one.standing))
