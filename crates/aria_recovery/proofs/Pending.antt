-- Pending undo records and their chain, one group more and by fronts.
use Rattle.std.proofs.Common.{◌≡◌, ◌∙◌, ℕ, zero, suc, Bool, true, false, cond, List, [], ◌∷◌, ◌++◌, take, ap, refl, subst, append_assoc, Option, None, Some}
use Rattle.aria_page.specs.declared.lsn.Lsn.{Lsn}
use Rattle.aria_record.specs.Logged.{Logged}
use Rattle.aria_recovery.specs.Pending.{link_of, pended, pending_from, pending_of, fails, unchained_from, unchained, Chained}

pending_on : (places : List ℕ) (gs hs : List Logged) → pending_from places (gs ++ hs) ≡ pending_from (pending_from places gs) hs
pending_on places [] hs = refl
pending_on places (g ∷ gs) hs = pending_on (pended g.at (link_of g.group) places) gs hs

-- a group more
pub pending_push : (gs : List Logged) (g : Logged) → pending_of (gs ++ g ∷ []) ≡ pended g.at (link_of g.group) (pending_of gs)
pending_push gs g = pending_on [] gs (g ∷ [])

-- the first failure of these groups, or else of those that follow
abbrev pub first_failure : Option ℕ → Option ℕ → Option ℕ
first_failure None later = later
first_failure (Some at) later = Some at

unchained_on : (checkpoint : Lsn) (places : List ℕ) (gs hs : List Logged) → unchained_from checkpoint places (gs ++ hs) ≡ first_failure (unchained_from checkpoint places gs) (unchained_from checkpoint (pending_from places gs) hs)
unchained_on checkpoint places [] hs = refl
unchained_on checkpoint places (g ∷ gs) hs = by (fails checkpoint places g) (unchained_on checkpoint (pended g.at (link_of g.group) places) gs hs)
  where
    next : List ℕ
    next = pended g.at (link_of g.group) places

    by : (b : Bool) → unchained_from checkpoint next (gs ++ hs) ≡ first_failure (unchained_from checkpoint next gs) (unchained_from checkpoint (pending_from next gs) hs)
        → cond b (Some g.at) (unchained_from checkpoint next (gs ++ hs)) ≡ first_failure (cond b (Some g.at) (unchained_from checkpoint next gs)) (unchained_from checkpoint (pending_from next gs) hs)
    by true rest = refl
    by false rest = rest

pub unchained_push : (checkpoint : Lsn) (gs : List Logged) (g : Logged)
    → unchained checkpoint (gs ++ g ∷ []) ≡ first_failure (unchained checkpoint gs) (cond (fails checkpoint (pending_of gs) g) (Some g.at) None)
unchained_push checkpoint gs g = unchained_on checkpoint [] gs (g ∷ [])

-- a group more keeps the chain exactly where it doesn't fail there
pub chained_push : (checkpoint : Lsn) (gs : List Logged) (g : Logged) → Chained checkpoint gs → fails checkpoint (pending_of gs) g ≡ false → Chained checkpoint (gs ++ g ∷ [])
chained_push checkpoint gs g chain fits = unchained_push checkpoint gs g ∙ ap (λ (o : Option ℕ). first_failure o (cond (fails checkpoint (pending_of gs) g) (Some g.at) None)) chain ∙ ap (λ (b : Bool). cond b (Some g.at) None) fits

-- each front of a chain is one
chained_front_from : (checkpoint : Lsn) (places : List ℕ) (gs : List Logged) (n : ℕ) → unchained_from checkpoint places gs ≡ None → unchained_from checkpoint places (take n gs) ≡ None
chained_front_from checkpoint places gs zero chain = refl
chained_front_from checkpoint places [] (suc n) chain = refl
chained_front_from checkpoint places (g ∷ gs) (suc n) chain = by (fails checkpoint places g) chain (λ rest. chained_front_from checkpoint (pended g.at (link_of g.group) places) gs n rest)
  where
    next : List ℕ
    next = pended g.at (link_of g.group) places

    by : (b : Bool) → cond b (Some g.at) (unchained_from checkpoint next gs) ≡ None → (unchained_from checkpoint next gs ≡ None → unchained_from checkpoint next (take n gs) ≡ None) → cond b (Some g.at) (unchained_from checkpoint next (take n gs)) ≡ None
    by true broken rest = absurd (cc)
    by false whole rest = rest whole

pub chained_front : (checkpoint : Lsn) (gs : List Logged) (n : ℕ) → Chained checkpoint gs → Chained checkpoint (take n gs)
chained_front checkpoint gs n chain = chained_front_from checkpoint [] gs n chain

-- Where the chain fails first: it goes on up to there, and fails at that group.
pub record Broken (checkpoint : Lsn) (gs : List Logged) (at : ℕ) : Type 0 where
  pub before : List Logged
  pub group : Logged
  pub after : List Logged
  pub whole : gs ≡ before ++ group ∷ after
  pub at_is : group.at ≡ at
  pub chain : Chained checkpoint before
  pub broken : fails checkpoint (pending_of before) group ≡ true

broken_from : (checkpoint : Lsn) (at : ℕ) (before rest : List Logged) → Chained checkpoint before → unchained_from checkpoint (pending_of before) rest ≡ Some at → Broken checkpoint (before ++ rest) at
broken_from checkpoint at before [] chain is = absurd (cc)
broken_from checkpoint at before (g ∷ rest) chain is = by (fails checkpoint (pending_of before) g) refl is (λ fits rest_is. broken_from checkpoint at (before ++ g ∷ []) rest (chained_push checkpoint before g chain fits) rest_is)
  where
    number_of : Option ℕ → ℕ
    number_of None = at
    number_of (Some n) = n

    by : (b : Bool) → fails checkpoint (pending_of before) g ≡ b → cond b (Some g.at) (unchained_from checkpoint (pended g.at (link_of g.group) (pending_of before)) rest) ≡ Some at
        → (fails checkpoint (pending_of before) g ≡ false → unchained_from checkpoint (pending_of (before ++ g ∷ [])) rest ≡ Some at → Broken checkpoint ((before ++ g ∷ []) ++ rest) at) → Broken checkpoint (before ++ g ∷ rest) at
    by true broken same later = record { before = before; group = g; after = rest; whole = refl; at_is = ap number_of same; chain = chain; broken = broken }
    by false fits same later = subst (λ (l : List Logged). Broken checkpoint l at) (append_assoc before (g ∷ []) rest)
        (later fits (ap (λ (l : List ℕ). unchained_from checkpoint l rest) (pending_push before g) ∙ same))

pub broken_at : (checkpoint : Lsn) (gs : List Logged) (at : ℕ) → unchained checkpoint gs ≡ Some at → Broken checkpoint gs at
broken_at checkpoint gs at is = broken_from checkpoint at [] gs refl is
