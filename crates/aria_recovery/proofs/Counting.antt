-- Which groups count for a name, by their log sequence numbers.
use Rattle.std.proofs.Common.{◌≡◌, ◌∙◌, ℕ, zero, suc, ◌+◌, ◌<◌, ◌≤◌, true, false, List, [], ◌∷◌, ◌++◌, length, ap, sym, refl, subst, arith, length-append, append_assoc, Option, None, Some, ◌⊎◌, inl, inr}
use Rattle.std.proofs.lemmas.List.{append-nil}
use Rattle.std.specs.List.{slice_get}
use Rattle.std.proofs.lemmas.Bool.{cases_lt}
use Rattle.aria_page.specs.declared.lsn.Lsn.{Lsn}
use Rattle.aria_record.specs.Logged.{Logged, lsn_at_place}
use Rattle.aria_recovery.specs.Redo.{Rises}
use Rattle.aria_recovery.specs.Tables.{Maker, Life, lives, life_from, life_of, told_by}
use Rattle.aria_recovery.specs.Frames.{base_of}
use Rattle.aria_recovery.specs.Pending.{is_behind}
use Rattle.aria_recovery.proofs.Above.{said_at}
use Rattle.aria_recovery.proofs.Comparing.{lt_true, lt_false}
use Rattle.aria_recovery.proofs.Numbering.{number_rises, number_rises_not}

-- The last group that says something of the name's files, and the groups since.
pub record Said (name : List ℕ) (last : Option Maker) (since gs : List Logged) : Type 0 where
  pub front : List Logged
  pub group : Logged
  pub whole : gs ≡ front ++ group ∷ since
  pub told : told_by name group ≡ Some last

said_from : (name : List ℕ) (gs before : List Logged) (life : Life) → ((last : Option Maker) → life.last ≡ Some last → Said name last life.since before) → (last : Option Maker) → (life_from name life gs).last ≡ Some last
    → Said name last (life_from name life gs).since (before ++ gs)
said_from name [] before life said last is = let was = said last is in record { front = was.front; group = was.group; whole = append-nil before ∙ was.whole; told = was.told }
said_from name (g ∷ gs) before life said last is =
    let rest = said_from name gs (before ++ g ∷ []) (lives g life (told_by name g)) (by (told_by name g) refl) last is in
    record { front = rest.front; group = rest.group; whole = sym (append_assoc before (g ∷ []) gs) ∙ rest.whole; told = rest.told }
  where
    by : (s : Option (Option Maker)) → told_by name g ≡ s → (l : Option Maker) → (lives g life s).last ≡ Some l → Said name l (lives g life s).since (before ++ g ∷ [])
    by None quiet l e = let was = said l e in record { front = was.front; group = was.group; whole = ap (λ (k : List Logged). k ++ g ∷ []) was.whole ∙ append_assoc was.front (was.group ∷ life.since) (g ∷ []); told = was.told }
    by (Some m) says l e = record { front = before; group = g; whole = refl; told = says ∙ e }

pub said_last : (name : List ℕ) (gs : List Logged) (last : Option Maker) → (life_of name gs).last ≡ Some last → Said name last (life_of name gs).since gs
said_last name gs last is = said_from name gs [] (record { last = None; since = [] }) (λ l e. absurd (cc)) last is

-- where nothing is said all groups count
untold_from : (name : List ℕ) (gs : List Logged) (life : Life) → (life_from name life gs).last ≡ None → (life.last ≡ None) × ((life_from name life gs).since ≡ life.since ++ gs)
untold_from name [] life is = (is, sym (append-nil life.since))
untold_from name (g ∷ gs) life is = by (told_by name g) (untold_from name gs (lives g life (told_by name g)) is)
  where
    by : (s : Option (Option Maker)) → ((lives g life s).last ≡ None) × ((life_from name (lives g life s) gs).since ≡ (lives g life s).since ++ gs) → (life.last ≡ None) × ((life_from name (lives g life s) gs).since ≡ life.since ++ g ∷ gs)
    by None rest = (rest.0, rest.1 ∙ append_assoc life.since (g ∷ []) gs)
    by (Some l) rest = absurd (let e : Some l ≡ None = rest.0 in (cc))

pub counts_untold : (name : List ℕ) (gs : List Logged) → (life_of name gs).last ≡ None → base_of name gs ≡ 0
counts_untold name gs is = let all = untold_from name gs (record { last = None; since = [] }) is in omega (arith, ap length all.1)

-- a group behind another stands at a later place
rises_past : (low : ℕ) (front : List Logged) (g : Logged) (rest : List Logged) → Rises low (front ++ g ∷ rest) → low ≤ g.at
rises_past low [] g rest rises = rises.0
rises_past low (h ∷ front) g rest rises = let past = rises_past (h.at + 1) front g rest rises.1 in omega (arith, past, rises.0)

-- the group at an index
at_index : (gs : List Logged) (before after : List Logged) (g : Logged) → gs ≡ before ++ g ∷ after → slice_get gs (length before) ≡ Some g
at_index gs before after g is = ap (λ (l : List Logged). slice_get l (length before)) is ∙ here before
  where
    here : (front : List Logged) → slice_get (front ++ g ∷ after) (length front) ≡ Some g
    here [] = refl
    here (h ∷ front) = here front

rises_at : (low : ℕ) (gs : List Logged) (i : ℕ) (g : Logged) → Rises low gs → slice_get gs i ≡ Some g → low ≤ g.at
rises_at low [] i g rises is = absurd (cc)
rises_at low (h ∷ gs) zero g rises is = subst (λ (k : Logged). low ≤ k.at) (same is) rises.0
  where
    same : Some h ≡ Some g → h ≡ g
    same e = cc
rises_at low (h ∷ gs) (suc i) g rises is = let past = rises_at (h.at + 1) gs i g rises.1 is in omega (arith, past, rises.0)

-- indexes and places have one order
places_order : (low : ℕ) (gs : List Logged) (i j : ℕ) (g h : Logged) → Rises low gs → slice_get gs i ≡ Some g → slice_get gs j ≡ Some h → i < j → g.at < h.at
places_order low [] i j g h rises one other less = absurd (cc)
places_order low (k ∷ gs) zero zero g h rises one other less = absurd (omega (arith, less))
places_order low (k ∷ gs) zero (suc j) g h rises one other less =
    let past = rises_at (k.at + 1) gs j h rises.1 other in
    subst (λ (l : Logged). l.at < h.at) (same one) (omega (arith, past))
  where
    same : Some k ≡ Some g → k ≡ g
    same e = cc
places_order low (k ∷ gs) (suc i) zero g h rises one other less = absurd (omega (arith, less))
places_order low (k ∷ gs) (suc i) (suc j) g h rises one other less = places_order (k.at + 1) gs i j g h rises.1 one other (omega (arith, less))

-- A GROUP COUNTS for a table that was made exactly where it stands behind the group that made it.
pub counts_made : (name : List ℕ) (gs before after : List Logged) (g : Logged) (maker : Maker) → Rises 0 gs → (life_of name gs).last ≡ Some (Some maker) → gs ≡ before ++ g ∷ after
    → (is_behind maker.at (lsn_at_place g.at) ≡ true → base_of name gs ≤ length before) × (is_behind maker.at (lsn_at_place g.at) ≡ false → length before < base_of name gs)
counts_made name gs before after g maker rises last is = (on, off)
  where
    said : Said name (Some maker) (life_of name gs).since gs
    said = said_last name gs (Some maker) last

    base : base_of name gs ≡ length said.front + 1
    base = omega (arith, ap length said.whole, length-append said.front (said.group ∷ (life_of name gs).since))

    at_is : maker.at ≡ lsn_at_place said.group.at
    at_is = said_at name (lsn_at_place said.group.at) said.group.group maker said.told

    mine : slice_get gs (length said.front) ≡ Some said.group
    mine = at_index gs said.front (life_of name gs).since said.group said.whole

    this : slice_get gs (length before) ≡ Some g
    this = at_index gs before after g is

    past_at : length said.front < length before → is_behind maker.at (lsn_at_place g.at) ≡ true
    past_at more = ap (λ (l : Lsn). is_behind l (lsn_at_place g.at)) at_is ∙ lt_true _ _ (number_rises said.group.at g.at (places_order 0 gs (length said.front) (length before) said.group g rises mine this more))

    not_past : length before ≤ length said.front → is_behind maker.at (lsn_at_place g.at) ≡ false
    not_past less = ap (λ (l : Lsn). is_behind l (lsn_at_place g.at)) at_is ∙ lt_false _ _ (number_rises_not g.at said.group.at (up_to (cases_lt (length before) (length said.front))))
      where
        same_group : (h : Logged) → Some g ≡ Some h → g ≡ h
        same_group h e = cc

        up_to : (length before < length said.front) ⊎ (length said.front ≤ length before) → g.at ≤ said.group.at
        up_to (inl lower) = let order = places_order 0 gs (length before) (length said.front) g said.group rises this mine lower in omega (arith, order)
        up_to (inr upper) = let same : length before ≡ length said.front = omega (arith, upper, less) in
            let one : g ≡ said.group = same_group said.group (sym this ∙ ap (slice_get gs) same ∙ mine) in subst (λ (k : Logged). g.at ≤ k.at) one (omega arith)

    on : is_behind maker.at (lsn_at_place g.at) ≡ true → base_of name gs ≤ length before
    on behind = elim (cases_lt (length said.front) (length before)) [
      | inl more ↦ omega (arith, base, more)
      | inr less ↦ absurd (let e : true ≡ false = sym behind ∙ not_past less in (cc))
    ]

    off : is_behind maker.at (lsn_at_place g.at) ≡ false → length before < base_of name gs
    off ahead = elim (cases_lt (length said.front) (length before)) [
      | inl more ↦ absurd (let e : true ≡ false = sym (past_at more) ∙ ahead in (cc))
      | inr less ↦ omega (arith, base, less)
    ]
