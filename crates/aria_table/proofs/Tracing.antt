-- What each front of the groups holds.
use Rattle.std.proofs.Common.{◌≡◌, ℕ, zero, suc, true, false, List, [], ◌∷◌, ◌++◌, refl, sym, ap, ◌∙◌, subst}
use Rattle.aria_record.specs.Logged.{Logged}
use Rattle.aria_table.specs.Content.{Content}
use Rattle.aria_table.specs.Trace.{Means, Did, Undid, Done, Filed, Nothing, means, Step, pend, pending, Contents, same_name, back, CanGoBack, Holds, Makes, applied, Trace, HoldsAt, is_within, AllWithin}

pub pending-append : (steps : List Step) (gs hs : List Logged) → pending steps (gs ++ hs) ≡ pending (pending steps gs) hs
pending-append steps [] hs = refl
pending-append steps (g ∷ gs) hs = pending-append (pend g.at (means g.group) steps) gs hs

module _ (keys : List ℕ → ℕ) (Sound : List ℕ → Content → Type 0) where
  -- a group of an operation, or one that undoes one, leaves the world as it was
  pub holds_on : (at : ℕ) (m : Means) (steps : List Step) (old new world : Contents) → is_within m ≡ true → Makes keys Sound at m steps old new → Holds keys Sound steps old world
      → Holds keys Sound (pend at m steps) new world
  holds_on at (Did table did) steps old new world w made was = record {
    can = (made.0, subst (CanGoBack keys Sound steps) (sym made.1) was.can);
    is = ap (back steps) made.1 ∙ was.is;
  }
  holds_on at (Undid table) [] old new world w made was = absurd made
  holds_on at (Undid table) (s ∷ steps) old new world w made was = record {
    can = subst (CanGoBack keys Sound steps) (sym made.1) was.can.1;
    is = ap (back steps) made.1 ∙ was.is;
  }
  holds_on at Done steps old new world w made was = absurd (cc)
  holds_on at (Filed table) steps old new world w made was = absurd (cc)
  holds_on at Nothing steps old new world w made was = record { can = subst (CanGoBack keys Sound steps) (sym made) was.can; is = ap (back steps) made ∙ was.is }

  -- where a unit ends, the world is what the tables hold
  pub holds_done : (at : ℕ) (steps : List Step) (new : Contents) → Holds keys Sound (pend at Done steps) new new
  holds_done at steps new = record { can = tt; is = refl }

  -- a change of a table's files changes the world of that table alone
  pub holds_filed : (at : ℕ) (table : List ℕ) (steps : List Step) (old new world : Contents) → Makes keys Sound at (Filed table) steps old new → Holds keys Sound steps old world
      → Holds keys Sound (pend at (Filed table) steps) new new × ((name : List ℕ) → same_name table name ≡ false → new name ≡ world name)
  holds_filed at table [] old new world made was = (record { can = tt; is = refl }, λ name other. made name other ∙ ap (λ (cs : Contents). cs name) was.is)
  holds_filed at table (s ∷ steps) old new world made was = absurd made

  module _ {P : Type 0} (apply : Logged → P → P) (Has : P → Contents → Type 0) where
    pub applied-append : (gs hs : List Logged) (pages : P) → applied keys Sound apply Has (gs ++ hs) pages ≡ applied keys Sound apply Has hs (applied keys Sound apply Has gs pages)
    applied-append [] hs pages = refl
    applied-append (g ∷ gs) hs pages = applied-append gs hs (apply g pages)

    -- one operation behind another
    pub trace_on : (steps : List Step) (gs hs : List Logged) (pages : P) (old mid new : Contents) → Trace keys Sound apply Has steps gs pages old mid
        → Trace keys Sound apply Has (pending steps gs) hs (applied keys Sound apply Has gs pages) mid new → Trace keys Sound apply Has steps (gs ++ hs) pages old new
    trace_on steps [] hs pages old mid new first second = subst (λ (cs : Contents). Trace keys Sound apply Has steps hs pages cs new) first second
    trace_on steps (g ∷ gs) hs pages old mid new (one, has, made, first) second =
        (one, has, made, trace_on (pend g.at (means g.group) steps) gs hs (apply g pages) one mid new first second)

    -- each front of the groups of operations and of undoing them holds the world from before
    pub holds_at : (steps : List Step) (gs : List Logged) (pages : P) (old new world : Contents) → AllWithin gs → Has pages old → Holds keys Sound steps old world
        → Trace keys Sound apply Has steps gs pages old new → (m : ℕ) → HoldsAt keys Sound apply Has steps gs pages world m
    holds_at steps gs pages old new world within has was trace zero = record { cs = old; has = has; holds = was }
    holds_at steps [] pages old new world within has was trace (suc m) = record { cs = old; has = has; holds = was }
    holds_at steps (g ∷ gs) pages old new world within has was trace (suc m) =
        let more = holds_at (pend g.at (means g.group) steps) gs (apply g pages) trace.0 new world within.1 trace.1 (holds_on g.at (means g.group) steps old trace.0 world within.0 trace.2 was) trace.3 m in
        record { cs = more.cs; has = more.has; holds = more.holds }
