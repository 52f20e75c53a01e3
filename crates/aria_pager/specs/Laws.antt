-- The laws of what calls of a pager may do.
use Rattle.std.proofs.Common.{◌≡◌, ◌∙◌, ℕ, Bool, List, [], ◌++◌, append_assoc, refl, sym, subst}
use Rattle.std.proofs.lemmas.List.{append-nil}
use Rattle.aria_host.specs.Folder.{Folder}
use Rattle.aria_host.specs.State.{State}
use Rattle.aria_host.proofs.Moments.{OnlyNow, started}
use Rattle.aria_record.specs.Logged.{Logged}
use Rattle.aria_recovery.specs.Moves.{HasFront as FrontOf, Moves}
use Rattle.aria_recovery.proofs.Moving.{moves_none, moves_on}
use Rattle.aria_pager.specs.declared.page_store.PageStore.{PageStore}
use Rattle.aria_pager.specs.PageStore.{opened}
use Rattle.aria_pager.specs.Pager.{HasFront, Standing}
use Rattle.aria_pager.specs.Goes.{Gone, Ends, Stays, Stands}

-- nothing is done
pub still_moves : (store : PageStore) (s : State) (base : ℕ) (start : Folder) (groups : List Logged) (forced : ℕ) → OnlyNow s → Standing store s base start groups forced → Moves (HasFront base) (opened store) s s groups groups forced forced
still_moves store s base start groups forced only is = moves_none (HasFront base) (opened store) s groups forced is.within only is.images
    (started s (λ c told. FrontOf (HasFront base) groups forced c) (λ c b left. is.fronts c (only c b left).0))

pub gone_none : (store : PageStore) (s : State) (base : ℕ) (start : Folder) (groups : List Logged) (forced : ℕ) → OnlyNow s → Standing store s base start groups forced → Gone store store s s base start groups groups forced
gone_none store s base start groups forced only is = record {
  forced' = forced;
  standing = is;
  moves = still_moves store s base start groups forced only is;
}

pub stays_none : (store : PageStore) (s : State) → OnlyNow s → Stays store store s s
stays_none store s only = record { slots = refl; opens = refl; goes = λ base start groups forced is. gone_none store s base start groups forced only is }

-- one after another
pub gone_on : (a b c : PageStore) (s t u : State) (base : ℕ) (start : Folder) (ga gb gc : List Logged) (forced : ℕ) → opened b ≡ opened a → (one : Gone a b s t base start ga gb forced) → Gone b c t u base start gb gc one.forced' → Gone a c s u base start ga gc forced
gone_on a b c s t u base start ga gb gc forced same one two = record {
  forced' = two.forced';
  standing = two.standing;
  moves = moves_on (HasFront base) (opened a) s t u ga gb gc forced one.forced' two.forced' one.moves
      (subst (λ (o : List ℕ → Bool). Moves (HasFront base) o t u gb gc one.forced' two.forced') same two.moves);
}

pub stays_then : (a b c : PageStore) (s t u : State) → Stays a b s t → Stays b c t u → Stays a c s u
stays_then a b c s t u first second = record {
  slots = second.slots ∙ first.slots;
  opens = second.opens ∙ first.opens;
  goes = λ base start groups forced is.
      let one = first.goes base start groups forced is in
      gone_on a b c s t u base start groups groups groups forced first.opens one (second.goes base start groups one.forced' one.standing);
}

pub ends_nothing : (a b : PageStore) (s t : State) → Stays a b s t → Ends a b s t []
ends_nothing a b s t is = record {
  slots = is.slots;
  opens = is.opens;
  goes = λ base start groups forced on. subst (λ (l : List Logged). Gone a b s t base start groups l forced) (sym (append-nil groups)) (is.goes base start groups forced on);
}

pub ends_then : (a b c : PageStore) (s t u : State) (added more : List Logged) → Ends a b s t added → Ends b c t u more → Ends a c s u (added ++ more)
ends_then a b c s t u added more first second = record {
  slots = second.slots ∙ first.slots;
  opens = second.opens ∙ first.opens;
  goes = λ base start groups forced is.
      let one = first.goes base start groups forced is in
      subst (λ (l : List Logged). Gone a c s u base start groups l forced) (append_assoc groups added more)
      (gone_on a b c s t u base start groups (groups ++ added) ((groups ++ added) ++ more) forced first.opens one (second.goes base start (groups ++ added) one.forced' one.standing));
}

pub stays_ends : (a b c : PageStore) (s t u : State) (added : List Logged) → Stays a b s t → Ends b c t u added → Ends a c s u added
stays_ends a b c s t u added first second = record {
  slots = second.slots ∙ first.slots;
  opens = second.opens ∙ first.opens;
  goes = λ base start groups forced is.
      let one = first.goes base start groups forced is in
      gone_on a b c s t u base start groups groups (groups ++ added) forced first.opens one (second.goes base start groups one.forced' one.standing);
}

pub ends_stays : (a b c : PageStore) (s t u : State) (added : List Logged) → Ends a b s t added → Stays b c t u → Ends a c s u added
ends_stays a b c s t u added first second = record {
  slots = second.slots ∙ first.slots;
  opens = second.opens ∙ first.opens;
  goes = λ base start groups forced is.
      let one = first.goes base start groups forced is in
      gone_on a b c s t u base start groups (groups ++ added) (groups ++ added) forced first.opens one (second.goes base start (groups ++ added) one.forced' one.standing);
}

-- it stands afterwards
pub stands_stays : (a b : PageStore) (s t : State) → Stands a s → Stays a b s t → Stands b t
stands_stays a b s t is go = let one = go.goes is.0 is.1 is.2 is.3 is.4 in (is.0, is.1, is.2, one.forced', one.standing)

pub stands_ends : (a b : PageStore) (s t : State) (added : List Logged) → Stands a s → Ends a b s t added → Stands b t
stands_ends a b s t added is go = let one = go.goes is.0 is.1 is.2 is.3 is.4 in (is.0, is.1, is.2 ++ added, one.forced', one.standing)
