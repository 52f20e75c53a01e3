-- What stands in the bytes of a run, one thing after the other, and the groups among it.
use Rattle.std.proofs.Common.{◌≡◌, inl, inr, ℕ, zero, suc, ◌+◌, ◌-◌, ◌*◌, ◌/◌, ◌%◌, ◌<◌, ◌≤◌, Bool, true, false, cond, Option, None, Some, List, [], ◌∷◌, ◌++◌, length, drop, refl, sym, ◌∙◌, ap, arith, append_assoc, length-append}
use Rattle.std.specs.Option.{option_map_or}
use Rattle.aria_record.specs.declared.record.Record.{Record}
use Rattle.aria_record.specs.Reading.{read_group}
use Rattle.aria_log.specs.Pieces.{Piece}
use Rattle.aria_record.specs.Logged.{Logged}
use Rattle.aria_log.specs.Groups.{groups_within, groups_at, run_rest, groups_of_runs, groups_from}
use Rattle.aria_log.specs.Reading.{Standing, Whole, Void, Entry, void_rest, entries_within, entries_at, entries_of_runs, entries_from}
use Rattle.aria_log.specs.Stepping.{group_of, groups_of}
use Rattle.aria_log.proofs.GroupReads.{group_left, none_of_none}

-- ---- one entry

-- with no group in front all of the bytes are void
within_none : (n place : ℕ) (bytes : List ℕ) → read_group bytes ≡ None → entries_within (suc n) place bytes ≡ void_rest place bytes
unfolding entries_within
within_none n place bytes none =
    ap (λ (o : Option (List Record × List ℕ)). option_map_or (λ found. record { at = place; found = Whole found.0 } ∷ entries_within n (place + (length bytes - length found.1)) found.1) o (void_rest place bytes)) none

-- a group in front comes first
within_some : (n place : ℕ) (bytes : List ℕ) (x : List Record × List ℕ) → read_group bytes ≡ Some x
    → entries_within (suc n) place bytes ≡ record { at = place; found = Whole x.0 } ∷ entries_within n (place + (length bytes - length x.1)) x.1
unfolding entries_within
within_some n place bytes x found =
    ap (λ (o : Option (List Record × List ℕ)). option_map_or (λ found. record { at = place; found = Whole found.0 } ∷ entries_within n (place + (length bytes - length found.1)) found.1) o (void_rest place bytes)) found

-- nothing stands in no bytes
within_nothing : (n place : ℕ) → entries_within n place [] ≡ []
unfolding entries_within
within_nothing zero place = refl
within_nothing (suc n) place = within_none n place [] none_of_none

-- as many steps as bytes are enough
within_enough : (n m place : ℕ) (bytes : List ℕ) → length bytes ≤ n → length bytes ≤ m → entries_within n place bytes ≡ entries_within m place bytes
within_enough n m place [] a b = within_nothing n place ∙ sym (within_nothing m place)
within_enough zero m place (c ∷ bytes) a b = absurd (omega (arith, a))
within_enough (suc n) zero place (c ∷ bytes) a b = absurd (omega (arith, b))
within_enough (suc n) (suc m) place (c ∷ bytes) a b = by_case (read_group (c ∷ bytes)) refl (within_enough n m)
  where
    by_case : (o : Option (List Record × List ℕ)) → read_group (c ∷ bytes) ≡ o → ((place : ℕ) (bytes : List ℕ) → length bytes ≤ n → length bytes ≤ m → entries_within n place bytes ≡ entries_within m place bytes)
        → entries_within (suc n) place (c ∷ bytes) ≡ entries_within (suc m) place (c ∷ bytes)
    by_case None e same = within_none n place (c ∷ bytes) e ∙ sym (within_none m place (c ∷ bytes) e)
    by_case (Some x) e same =
        let left = group_left (c ∷ bytes) x e in
        within_some n place (c ∷ bytes) x e
        ∙ ap (λ (l : List Entry). record { at = place; found = Whole x.0 } ∷ l) (same (place + (length (c ∷ bytes) - length x.1)) x.1 (omega (arith, left.0, a)) (omega (arith, left.0, b)))
        ∙ sym (within_some m place (c ∷ bytes) x e)

-- a step more changes nothing
at_is : (place : ℕ) (bytes : List ℕ) → entries_at place bytes ≡ entries_within (suc (length bytes)) place bytes
unfolding entries_at
at_is place bytes = within_enough (length bytes) (suc (length bytes)) place bytes (omega arith) (omega arith)

-- nothing stands in no bytes
pub at_nothing : (place : ℕ) → entries_at place [] ≡ []
unfolding entries_at
at_nothing place = within_nothing 0 place

-- a whole group, and what stands behind it
pub at_whole : (place : ℕ) (bytes : List ℕ) (x : List Record × List ℕ) → read_group bytes ≡ Some x
    → entries_at place bytes ≡ record { at = place; found = Whole x.0 } ∷ entries_at (place + (length bytes - length x.1)) x.1
unfolding entries_at
at_whole place bytes x found =
    let left = group_left bytes x found in
    at_is place bytes ∙ within_some (length bytes) place bytes x found
    ∙ ap (λ (l : List Entry). record { at = place; found = Whole x.0 } ∷ l) (behind (place + (length bytes - length x.1)) (omega (arith, left.0)))
  where
    behind : (next : ℕ) → length x.1 ≤ length bytes → entries_within (length bytes) next x.1 ≡ entries_at next x.1
    behind next le = within_enough (length bytes) (length x.1) next x.1 le (omega arith)

-- a void rest
pub at_void : (place : ℕ) (bytes : List ℕ) → read_group bytes ≡ None → entries_at place bytes ≡ void_rest place bytes
at_void place bytes none = at_is place bytes ∙ within_none (length bytes) place bytes none

-- where there is a byte, something stands there
pub at_some : (place : ℕ) (bytes : List ℕ) → 1 ≤ length bytes → (entry : Entry) × (more : List Entry) × (entries_at place bytes ≡ entry ∷ more) × (entry.at ≡ place)
at_some place [] some = absurd (omega (arith, some))
at_some place (b ∷ bytes) some = by_case (read_group (b ∷ bytes)) refl
  where
    by_case : (o : Option (List Record × List ℕ)) → read_group (b ∷ bytes) ≡ o → (entry : Entry) × (more : List Entry) × (entries_at place (b ∷ bytes) ≡ entry ∷ more) × (entry.at ≡ place)
    by_case None e = (record { at = place; found = Void (suc (length bytes)) }, [], at_void place (b ∷ bytes) e, refl)
    by_case (Some x) e = (record { at = place; found = Whole x.0 }, entries_at (place + (length (b ∷ bytes) - length x.1)) x.1, at_whole place (b ∷ bytes) x e, refl)

-- ---- the groups among what stands in the log

pub groups_of-append : (a b : List Entry) → groups_of (a ++ b) ≡ groups_of a ++ groups_of b
groups_of-append [] b = refl
groups_of-append (entry ∷ a) b =
    ap (λ (l : List Logged). group_of entry.at entry.found ++ l) (groups_of-append a b) ∙ sym (append_assoc (group_of entry.at entry.found) (groups_of a) (groups_of b))

groups_of-void : (place : ℕ) (bytes : List ℕ) → groups_of (void_rest place bytes) ≡ []
groups_of-void place [] = refl
groups_of-void place (b ∷ bytes) = refl

groups_of-within : (n place : ℕ) (bytes : List ℕ) → groups_of (entries_within n place bytes) ≡ groups_within n place bytes
unfolding entries_within groups_within
groups_of-within zero place bytes = refl
groups_of-within (suc n) place bytes = by_case (read_group bytes) (groups_of-within n)
  where
    by_case : (o : Option (List Record × List ℕ)) → ((place : ℕ) (bytes : List ℕ) → groups_of (entries_within n place bytes) ≡ groups_within n place bytes)
        → groups_of (option_map_or (λ found. record { at = place; found = Whole found.0 } ∷ entries_within n (place + (length bytes - length found.1)) found.1) o (void_rest place bytes))
        ≡ option_map_or (λ found. record { at = place; group = found.0 } ∷ groups_within n (place + (length bytes - length found.1)) found.1) o []
    by_case None same = groups_of-void place bytes
    by_case (Some x) same = ap (λ (l : List Logged). record { at = place; group = x.0 } ∷ l) (same (place + (length bytes - length x.1)) x.1)

groups_of-at : (place : ℕ) (bytes : List ℕ) → groups_of (entries_at place bytes) ≡ groups_at place bytes
unfolding entries_at groups_at
groups_of-at place bytes = groups_of-within (length bytes) place bytes

-- the groups among what stands in runs
pub groups_of-runs : (n : ℕ) (ps : List Piece) → groups_of (entries_of_runs n ps) ≡ groups_of_runs n ps
unfolding entries_of_runs groups_of_runs
groups_of-runs n [] = refl
groups_of-runs n (p ∷ ps) =
    groups_of-append (cond p.0 (entries_at (8176 * n) (p.1 ++ run_rest ps)) []) (entries_of_runs (n + 1) ps)
    ∙ ap (λ (l : List Logged). groups_of (cond p.0 (entries_at (8176 * n) (p.1 ++ run_rest ps)) []) ++ l) (groups_of-runs (n + 1) ps)
    ∙ ap (λ (l : List Logged). l ++ groups_of_runs (n + 1) ps) (by_case p.0)
  where
    by_case : (b : Bool) → groups_of (cond b (entries_at (8176 * n) (p.1 ++ run_rest ps)) []) ≡ cond b (groups_at (8176 * n) (p.1 ++ run_rest ps)) []
    by_case true = groups_of-at (8176 * n) (p.1 ++ run_rest ps)
    by_case false = refl

-- The groups among what stands in the log from a base on are those that the log has from there on.
pub groups_of-from : (base : ℕ) (ps : List Piece) → groups_of (entries_from base ps) ≡ groups_from base ps
unfolding entries_from groups_from
groups_of-from base [] = refl
groups_of-from base (p ∷ ps) =
    groups_of-append (entries_at base (drop (base % 8176) (p.1 ++ run_rest ps))) (entries_of_runs (base / 8176 + 1) ps)
    ∙ ap (λ (l : List Logged). groups_of (entries_at base (drop (base % 8176) (p.1 ++ run_rest ps))) ++ l) (groups_of-runs (base / 8176 + 1) ps)
    ∙ ap (λ (l : List Logged). l ++ groups_of_runs (base / 8176 + 1) ps) (groups_of-at base (drop (base % 8176) (p.1 ++ run_rest ps)))
