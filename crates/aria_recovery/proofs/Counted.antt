-- The groups that count for a name, by what is told of its files last.
use Rattle.std.proofs.Common.{◌≡◌, ◌∙◌, ℕ, ◌+◌, ◌<◌, ◌≤◌, Bool, true, false, cond, nat_lt, List, [], ◌∷◌, ◌++◌, length, ap, sym, refl, subst, arith, length-append, append_assoc, Option, None, Some, inl, inr}
use Rattle.std.specs.Prelude.{filter}
use Rattle.std.proofs.lemmas.Bool.{cases_lt}
use Rattle.std.proofs.lemmas.List.{append-nil}
use Rattle.aria_page.specs.declared.lsn.Lsn.{Lsn}
use Rattle.aria_page.specs.Lsn.{lsn_number}
use Rattle.aria_record.specs.Logged.{Logged, lsn_at_place}
use Rattle.aria_recovery.specs.Redo.{number_at, Rises}
use Rattle.aria_recovery.specs.Tables.{Maker, Life, lives, life_from, life_of, told_by}
use Rattle.aria_recovery.specs.Frames.{base_of}
use Rattle.aria_recovery.specs.Noted.{told_of}
use Rattle.aria_recovery.specs.Pending.{above}
use Rattle.aria_recovery.specs.Midway.{is_counted}
use Rattle.aria_recovery.proofs.Above.{since_above}
use Rattle.aria_recovery.proofs.Comparing.{lt_true, lt_false}
use Rattle.aria_recovery.proofs.Numbering.{number_rises, number_rises_not}

-- where nothing is told, all groups count
since_all : (name : List ℕ) (life : Life) (gs : List Logged) → (life_from name life gs).last ≡ None → (life_from name life gs).since ≡ life.since ++ gs
since_all name life [] none = sym (append-nil life.since)
since_all name life (g ∷ gs) none = by (told_by name g) none (λ k e. since_all name k gs e) (λ k e. never k gs e)
  where
    never : (k : Life) (hs : List Logged) → (life_from name k hs).last ≡ None → k.last ≡ None
    never k [] e = e
    never k (h ∷ hs) e = back (told_by name h) (never (lives h k (told_by name h)) hs e)
      where
        back : (s : Option (Option Maker)) → (lives h k s).last ≡ None → k.last ≡ None
        back None f = f
        back (Some last) f = absurd (cc)

    by : (s : Option (Option Maker)) → (life_from name (lives g life s) gs).last ≡ None
        → ((k : Life) → (life_from name k gs).last ≡ None → (life_from name k gs).since ≡ k.since ++ gs) → ((k : Life) → (life_from name k gs).last ≡ None → k.last ≡ None)
        → (life_from name (lives g life s) gs).since ≡ life.since ++ g ∷ gs
    by None e all last = all (lives g life None) e ∙ append_assoc life.since (g ∷ []) gs
    by (Some m) e all last = absurd (let f : Some m ≡ None = last (lives g life (Some m)) e in (cc))

-- behind a group above, all are
all_above : (at : Lsn) (low : ℕ) (gs : List Logged) → lsn_number at < number_at low → Rises low gs → filter (above at) gs ≡ gs
all_above at low [] less rises = refl
all_above at low (g ∷ gs) less rises =
    let high : lsn_number at < number_at g.at = (let m = number_rises_not low g.at rises.0 in omega (arith, m, less)) in
    let next : lsn_number at < number_at (g.at + 1) = (let m = number_rises g.at (g.at + 1) (omega arith) in omega (arith, m, high)) in
    ap (λ (b : Bool). cond b (g ∷ filter (above at) gs) (filter (above at) gs)) (lt_true (lsn_number at) (number_at g.at) high) ∙ ap (λ (l : List Logged). g ∷ l) (all_above at (g.at + 1) gs next rises.1)

few_above : (at : Lsn) (gs : List Logged) → length (filter (above at) gs) ≤ length gs
few_above at [] = omega arith
few_above at (g ∷ gs) = by (above at g) (few_above at gs)
  where
    by : (b : Bool) → length (filter (above at) gs) ≤ length gs → length (cond b (g ∷ filter (above at) gs) (filter (above at) gs)) ≤ length (g ∷ gs)
    by true few = omega (arith, few)
    by false few = omega (arith, few)

module _ (at : Lsn) (g : Logged) (after : List Logged) where
  -- a group above, and those behind it
  many : (low : ℕ) (before : List Logged) → Rises low (before ++ g ∷ after) → lsn_number at < number_at g.at → length after + 1 ≤ length (filter (above at) (before ++ g ∷ after))
  many low [] rises high = subst (λ (l : List Logged). length after + 1 ≤ length l) (sym (all_above at g.at (g ∷ after) high (omega arith, rises.1))) (omega arith)
  many low (b ∷ before) rises high = by (above at b) (many (b.at + 1) before rises.1 high)
    where
      by : (t : Bool) → length after + 1 ≤ length (filter (above at) (before ++ g ∷ after)) → length after + 1 ≤ length (cond t (b ∷ filter (above at) (before ++ g ∷ after)) (filter (above at) (before ++ g ∷ after)))
      by true more = omega (arith, more)
      by false more = more

  -- one that isn't above, and those before it
  few : (low : ℕ) (before : List Logged) → Rises low (before ++ g ∷ after) → number_at g.at ≤ lsn_number at → (low ≤ g.at) × (length (filter (above at) (before ++ g ∷ after)) ≤ length after)
  few low [] rises under = (rises.0, subst (λ (b : Bool). length (cond b (g ∷ filter (above at) after) (filter (above at) after)) ≤ length after) (sym (lt_false (lsn_number at) (number_at g.at) under)) (few_above at after))
  few low (b ∷ before) rises under =
      let rest = few (b.at + 1) before rises.1 under in
      let below : number_at b.at ≤ lsn_number at = (let m = number_rises_not b.at g.at (omega (arith, rest.0)) in omega (arith, m, under)) in (
        omega (arith, rest.0, rises.0),
        subst (λ (t : Bool). length (cond t (b ∷ filter (above at) (before ++ g ∷ after)) (filter (above at) (before ++ g ∷ after))) ≤ length after) (sym (lt_false (lsn_number at) (number_at b.at) below)) rest.1,
      )

lt_of : (a b : ℕ) → nat_lt a b ≡ true → a < b
lt_of a b on = elim (cases_lt a b) [
  | inl less ↦ less
  | inr more ↦ absurd (let e : true ≡ false = sym on ∙ lt_false a b more in (cc))
]

le_of : (a b : ℕ) → nat_lt a b ≡ false → b ≤ a
le_of a b off = elim (cases_lt a b) [
  | inl less ↦ absurd (let e : true ≡ false = sym (lt_true a b less) ∙ off in (cc))
  | inr more ↦ more
]

sizes : (gs before after : List Logged) (g : Logged) → gs ≡ before ++ g ∷ after → length gs ≡ length before + (length after + 1)
sizes gs before after g whole = ap length whole ∙ length-append before (g ∷ after) ∙ omega arith

-- A GROUP COUNTS for a name by what is told last,
pub counted_behind : (name : List ℕ) (gs before after : List Logged) (g : Logged) → gs ≡ before ++ g ∷ after → Rises 0 gs → is_counted (told_of (life_of name gs).last) (lsn_at_place g.at) ≡ true → base_of name gs ≤ length before
counted_behind name gs before after g whole rises = by (life_of name gs).last refl
  where
    by : (last : Option (Option Maker)) → (life_of name gs).last ≡ last → is_counted (told_of last) (lsn_at_place g.at) ≡ true → base_of name gs ≤ length before
    by None is on = omega (arith, ap length (since_all name (record { last = None; since = [] }) gs is))
    by (Some None) is on = absurd (cc)
    by (Some (Some m)) is on = omega (
      arith,
      sizes gs before after g whole,
      ap length (since_above name gs m rises is ∙ ap (filter (above m.at)) whole),
      many m.at g after 0 before (subst (Rises 0) whole rises) (lt_of (lsn_number m.at) (number_at g.at) on),
    )

-- or it doesn't, where the files weren't dropped
pub counted_before : (name : List ℕ) (gs before after : List Logged) (g : Logged) → gs ≡ before ++ g ∷ after → Rises 0 gs → ((life_of name gs).last ≡ Some None → ⊥) → is_counted (told_of (life_of name gs).last) (lsn_at_place g.at) ≡ false → length before < base_of name gs
counted_before name gs before after g whole rises there = by (life_of name gs).last refl
  where
    by : (last : Option (Option Maker)) → (life_of name gs).last ≡ last → is_counted (told_of last) (lsn_at_place g.at) ≡ false → length before < base_of name gs
    by None is off = absurd (cc)
    by (Some None) is off = absurd (there is)
    by (Some (Some m)) is off =
        let rest = few m.at g after 0 before (subst (Rises 0) whole rises) (le_of (lsn_number m.at) (number_at g.at) off) in
        omega (arith, sizes gs before after g whole, ap length (since_above name gs m rises is ∙ ap (filter (above m.at)) whole), rest.1)
