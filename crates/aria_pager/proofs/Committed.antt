-- A group is appended behind a step, and a fault is kept.
use Rattle.std.proofs.Common.{◌≡◌, ◌∙◌, ℕ, Bool, true, false, List, [], ◌∷◌, ◌++◌, sym, subst, Option, None}
use Rattle.std.specs.Prelude.{IsTrue}
use Rattle.std.proofs.lemmas.List.{append-nil}
use Rattle.aria_host.specs.declared.fault.Fault.{Fault}
use Rattle.aria_host.specs.Folder.{Folder}
use Rattle.aria_host.specs.State.{State}
use Rattle.aria_host.proofs.Moments.{OnlyNow}
use Rattle.aria_record.specs.Logged.{Logged}
use Rattle.aria_recovery.specs.Frames.{all_of}
use Rattle.aria_recovery.specs.Images.{AreImages}
use Rattle.aria_recovery.specs.Moves.{Moves}
use Rattle.aria_recovery.proofs.Moving.{moves_on}
use Rattle.aria_pager.specs.declared.page_store.PageStore.{PageStore}
use Rattle.aria_pager.specs.PageStore.{opened, with_rest}
use Rattle.aria_pager.specs.Pager.{HasFront, HaveFronts, IsPager, Standing}
use Rattle.aria_pager.specs.Steps.{Steps, ForcesAt}
use Rattle.aria_pager.specs.Turns.{Turns, Turned, only}
use Rattle.aria_pager.specs.Committed.{Forced}
use Rattle.aria_pager.specs.Laws.{still_moves}
use Rattle.aria_pager.proofs.Keeping.{pager_rest}

module _ (base : ℕ) (start : Folder) (groups : List Logged) (forced : ℕ) (g : Logged) where
  -- A STEP, and then the group
  pub steps_turn : (a b c : PageStore) (s m t : State) (done : Bool) → opened b ≡ opened a → opened c ≡ opened b → (first : Steps a b s m base start groups forced true) → Turns b c m t base start groups first.forced' g done → Turns a c s t base start groups forced g done
  steps_turn a b c s m t done same same' first two = record {
    added = two.added;
    forced' = two.forced';
    moves = moves_on (HasFront base) (opened c) s m t groups groups (groups ++ only two.added g) forced first.forced' two.forced'
        (subst (λ (o : List ℕ → Bool). Moves (HasFront base) o s m groups groups forced first.forced') (sym same ∙ sym same') first.moves) two.moves;
    fronts = two.fronts;
    whole = two.whole;
    pager = two.pager;
  }

  -- the step failed
  pub steps_failed : (a b : PageStore) (s t : State) (done done' : Bool) → opened b ≡ opened a → done' ≡ false → Steps a b s t base start groups forced done → Turns a b s t base start groups forced g done'
  steps_failed a b s t done done' same off is = record {
    added = false;
    forced' = is.forced';
    moves = subst (λ (o : List ℕ → Bool). Moves (HasFront base) o s t groups (groups ++ []) forced is.forced') (sym same)
        (subst (λ (l : List Logged). Moves (HasFront base) (opened a) s t groups l forced is.forced') (sym (append-nil groups)) is.moves);
    fronts = subst (λ (l : List Logged). HaveFronts base t l is.forced') (sym (append-nil groups)) is.fronts;
    whole = λ on. absurd (let e : true ≡ false = sym on ∙ off in (cc));
    pager = λ on. absurd (let e : true ≡ false = sym on ∙ off in (cc));
  }

  -- the fault that is kept behind it
  pub turned_step : (store mid : PageStore) (in_group : Bool) (made lent : ℕ) (kept : Option Fault) (s t : State) (done : Bool) → (kept ≡ None → IsTrue done) → Turns store mid s t base start groups forced g done
      → Turned store (with_rest mid in_group made lent kept) s t base start groups forced g done
  turned_step store mid in_group made lent kept s t done clear is = record {
    added = is.added;
    forced' = is.forced';
    standing = record {
      within = is.moves.within;
      images = is.moves.images;
      fronts = is.fronts;
      pager = λ none. subst (λ (b : Bool). IsPager (with_rest mid in_group made lent kept) t base start (groups ++ only b g) is.forced') (sym (is.whole (clear none)))
          (pager_rest mid in_group made lent kept t base start (groups ++ g ∷ []) is.forced' (is.pager (clear none)));
    };
    moves = is.moves;
    whole = is.whole;
  }

  -- a fault was kept: nothing is done
  pub turned_still : (store : PageStore) (s : State) → OnlyNow s → Standing store s base start groups forced → Turned store store s s base start groups forced g false
  turned_still store s only_now is = record {
    added = false;
    forced' = forced;
    standing = subst (λ (l : List Logged). Standing store s base start l forced) (sym (append-nil groups)) is;
    moves = subst (λ (l : List Logged). Moves (HasFront base) (opened store) s s groups l forced forced) (sym (append-nil groups)) (still_moves store s base start groups forced only_now is);
    whole = λ on. absurd (let e : true ≡ false = sym on in (cc));
  }

-- all groups were brought to the disk
pub forced_step : (store mid : PageStore) (in_group : Bool) (made lent : ℕ) (kept : Option Fault) (s t : State) (base : ℕ) (start : Folder) (groups : List Logged) (forced : ℕ) (done : Bool) → opened mid ≡ opened store → IsTrue done
    → ForcesAt store mid s t (all_of groups) base start groups forced done → Forced store (with_rest mid in_group made lent kept) s t base start groups forced
forced_step store mid in_group made lent kept s t base start groups forced done same on is = record {
  gone = record {
    forced' = is.steps.forced';
    standing = record {
      within = is.steps.moves.within;
      images = subst (λ (o : List ℕ → Bool). AreImages o t groups is.steps.forced') (sym same) is.steps.moves.images;
      fronts = is.steps.fronts;
      pager = λ none. pager_rest mid in_group made lent kept t base start groups is.steps.forced' (is.steps.pager on);
    };
    moves = is.steps.moves;
  };
  all = is.all on;
}
