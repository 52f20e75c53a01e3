-- A call that appends one group of its own, between calls.
use Rattle.std.proofs.Common.{◌≡◌, ◌∙◌, ℕ, Bool, true, false, List, [], ◌++◌, sym, subst, Option, None, Some}
use Rattle.std.specs.Prelude.{IsTrue, All}
use Rattle.std.proofs.lemmas.List.{append-nil}
use Rattle.aria_page.specs.Lsn.{IsLsn}
use Rattle.aria_host.specs.declared.fault.Fault.{Fault}
use Rattle.aria_host.specs.Folder.{Folder}
use Rattle.aria_host.specs.State.{State}
use Rattle.aria_host.proofs.Moments.{OnlyNow}
use Rattle.aria_record.specs.Logged.{Logged}
use Rattle.aria_record.specs.Writing.{Writes}
use Rattle.aria_record.proofs.Writers.{written_is}
use Rattle.aria_recovery.specs.Moves.{Moves}
use Rattle.aria_pager.specs.declared.page_store.PageStore.{PageStore}
use Rattle.aria_pager.specs.PageStore.{opened, with_rest}
use Rattle.aria_pager.specs.Pager.{HasFront, IsPager, Standing}
use Rattle.aria_pager.specs.Turns.{only}
use Rattle.aria_pager.specs.Filing.{AreTidy, TurnsAll, TurnedAll}
use Rattle.aria_pager.specs.Laws.{still_moves}
use Rattle.aria_pager.specs.View.{IsTidy}
use Rattle.aria_pager.proofs.Keeping.{pager_rest, no_edits}

-- nothing was done, since a fault is kept
pub turned_none : (store : PageStore) (s : State) (base : ℕ) (start : Folder) (groups : List Logged) (forced : ℕ) (g : Logged) → OnlyNow s → Standing store s base start groups forced → TurnedAll store store s s base start groups forced g false
turned_none store s base start groups forced g only is = record {
  turned = record {
    added = false;
    forced' = forced;
    standing = subst (λ (l : List Logged). Standing store s base start l forced) (sym (append-nil groups)) is;
    moves = subst (λ (l : List Logged). Moves (HasFront base) (opened store) s s groups l forced forced) (sym (append-nil groups)) (still_moves store s base start groups forced only is);
    whole = λ on. absurd (let e : false ≡ true = on in (cc));
  };
  all = λ on. absurd (let e : false ≡ true = on in (cc));
}

-- THE FAULT IS KEPT behind a call that was made
pub turned_step : (store mid : PageStore) (kept : Option Fault) (s t : State) (base : ℕ) (start : Folder) (groups : List Logged) (forced : ℕ) (g : Logged) (done : Bool) → (kept ≡ None → IsTrue done)
    → TurnsAll store mid s t base start groups forced g done → TurnedAll store (with_rest mid mid.in_group mid.made mid.lent kept) s t base start groups forced g done
turned_step store mid kept s t base start groups forced g done clear is = record {
  turned = record {
    added = is.turns.added;
    forced' = is.turns.forced';
    standing = record {
      within = is.turns.moves.within;
      images = is.turns.moves.images;
      fronts = is.turns.fronts;
      pager = λ none. pager_rest mid mid.in_group mid.made mid.lent kept t base start (groups ++ only is.turns.added g) is.turns.forced'
          (subst (λ (b : Bool). IsPager mid t base start (groups ++ only b g) is.turns.forced') (sym (is.turns.whole (clear none))) (is.turns.pager (clear none)));
    };
    moves = is.turns.moves;
    whole = is.turns.whole;
  };
  all = is.all;
}

-- the fault is kept, where slots are tidy and no group is open
pub tidy_kept : (mid : PageStore) (kept : Option Fault) → AreTidy mid → (kept ≡ None → Writes mid.writer []) → All IsLsn mid.pending.items → IsTidy (with_rest mid mid.in_group mid.made mid.lent kept)
tidy_kept mid kept is empty undo = record {
  one = λ n m name a b. the n m (sym (is.known n name a) ∙ is.known m name b);
  known = is.known;
  few = is.few;
  closed = λ off none. written_is mid.writer [] (empty none);
  edits = λ none. no_edits mid.writer (empty none);
  undo = undo;
}
  where
    the : (n m : ℕ) → Some (Some n) ≡ Some (Some m) → n ≡ m
    the n m e = cc

pub are_tidy : (store : PageStore) → IsTidy store → AreTidy store
are_tidy store is = record { known = is.known; few = is.few }
