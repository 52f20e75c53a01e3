-- Behind a create, the groups since are those above its log sequence number, where the groups' places rise.
use Rattle.std.proofs.Common.{◌≡◌, ◌∙◌, ℕ, ◌+◌, ◌<◌, ◌≤◌, Bool, true, false, cond, List, [], ◌∷◌, ◌++◌, nat_lt, ap, sym, refl, arith, append_assoc, Option, None, Some}
use Rattle.std.specs.Prelude.{filter}
use Rattle.std.specs.List.{AllByRecursion}
use Rattle.std.proofs.lemmas.List.{append-nil}
use Rattle.aria_record.specs.declared.record.Record.{Record}
use Rattle.aria_record.specs.declared.record.Record.TheVariants.{CreateTable, DropTable}
use Rattle.aria_page.specs.Lsn.{lsn_number}
use Rattle.aria_page.specs.declared.lsn.Lsn.{Lsn}
use Rattle.aria_value.specs.Named.{same_name}
use Rattle.aria_record.specs.Logged.{Logged, lsn_at_place}
use Rattle.aria_recovery.specs.Redo.{number_at, Rises}
use Rattle.aria_recovery.specs.Pending.{above}
use Rattle.aria_recovery.specs.Tables.{Maker, Life, lives, life_from, life_of, says_group, told_by}
use Rattle.aria_recovery.proofs.Numbering.{number_rises, number_rises_not}
use Rattle.aria_recovery.proofs.Comparing.{lt_true, lt_false}

filter_push : (at : Lsn) (gs : List Logged) (g : Logged) → filter (above at) (gs ++ g ∷ []) ≡ filter (above at) gs ++ filter (above at) (g ∷ [])
filter_push at [] g = refl
filter_push at (h ∷ gs) g = by (above at h) (filter_push at gs g)
  where
    by : (b : Bool) → filter (above at) (gs ++ g ∷ []) ≡ filter (above at) gs ++ filter (above at) (g ∷ []) → cond b (h ∷ filter (above at) (gs ++ g ∷ [])) (filter (above at) (gs ++ g ∷ [])) ≡ cond b (h ∷ filter (above at) gs) (filter (above at) gs) ++ filter (above at) (g ∷ [])
    by true rest = ap (λ (l : List Logged). h ∷ l) rest
    by false rest = rest

none_above : (at : ℕ) (gs : List Logged) → AllByRecursion (λ (g : Logged). g.at ≤ at) gs → filter (above (lsn_at_place at)) gs ≡ []
none_above at [] low = refl
none_above at (g ∷ gs) low = ap (λ (b : Bool). cond b (g ∷ filter (above (lsn_at_place at)) gs) (filter (above (lsn_at_place at)) gs)) (lt_false (number_at at) (number_at g.at) (number_rises_not g.at at low.0)) ∙ none_above at gs low.1

all_below : (low high : ℕ) (gs : List Logged) (g : Logged) → AllByRecursion (λ (h : Logged). h.at < low) gs → low ≤ g.at → g.at ≤ high → AllByRecursion (λ (h : Logged). h.at ≤ high) (gs ++ g ∷ [])
all_below low high [] g is le last = (last, tt)
all_below low high (h ∷ gs) g is le last = (omega (arith, is.0, le, last), all_below low high gs g is.1 le last)

next_below : (low high : ℕ) (gs : List Logged) (g : Logged) → AllByRecursion (λ (h : Logged). h.at < low) gs → low ≤ g.at → g.at < high → AllByRecursion (λ (h : Logged). h.at < high) (gs ++ g ∷ [])
next_below low high [] g is le last = (last, tt)
next_below low high (h ∷ gs) g is le last = (omega (arith, is.0, le, last), next_below low high gs g is.1 le last)

-- a create bears its group's log sequence number
pub said_at : (name : List ℕ) (at : Lsn) (group : List Record) (m : Maker) → says_group name at group ≡ Some (Some m) → m.at ≡ at
said_at name at [] m is = absurd (cc)
said_at name at (CreateTable table plain definition format ∷ rs) m is = by (same_name name table) is
  where
    at_of : Option (Option Maker) → Lsn
    at_of None = at
    at_of (Some None) = at
    at_of (Some (Some k)) = k.at

    made : Maker
    made = record { at = at; plain = plain; definition = definition; format = format }

    by : (b : Bool) → cond b (Some (Some made)) None ≡ Some (Some m) → m.at ≡ at
    by true same = sym (ap at_of same)
    by false same = absurd (cc)
said_at name at (DropTable table ∷ rs) m is = by (same_name name table) is
  where
    is_made : Option (Option Maker) → Bool
    is_made None = false
    is_made (Some None) = false
    is_made (Some (Some k)) = true

    dropped : Option (Option Maker)
    dropped = Some None

    by : (b : Bool) → cond b dropped None ≡ Some (Some m) → m.at ≡ at
    by true same = absurd (let h : false ≡ true = ap is_made same in (cc))
    by false same = absurd (cc)
said_at name at (r ∷ rs) m is = absurd (cc)

-- what is so of a life behind the groups of before: what made the table stands at one of their places
record Counted (low : ℕ) (before : List Logged) (life : Life) (m : Maker) : Type 0 where
  place : ℕ
  at_is : m.at ≡ lsn_at_place place
  below : place < low
  since_is : life.since ≡ filter (above m.at) before

abbrev Counts : ℕ → List Logged → Life → Type 0
Counts low before life = (m : Maker) → life.last ≡ Some (Some m) → Counted low before life m

since_from : (name : List ℕ) (gs before : List Logged) (low : ℕ) (life : Life) → Rises low gs → AllByRecursion (λ (h : Logged). h.at < low) before → Counts low before life → (m : Maker) → (life_from name life gs).last ≡ Some (Some m)
    → (life_from name life gs).since ≡ filter (above m.at) (before ++ gs)
since_from name [] before low life rises below counts m is = (counts m is).since_is ∙ ap (filter (above m.at)) (sym (append-nil before))
since_from name (g ∷ gs) before low life rises below counts m is =
    since_from name gs (before ++ g ∷ []) (g.at + 1) (lives g life (told_by name g)) rises.1 (next_below low (g.at + 1) before g below rises.0 (omega arith)) (by (told_by name g) refl) m is
    ∙ ap (filter (above m.at)) (append_assoc before (g ∷ []) gs)
  where
    by : (s : Option (Option Maker)) → told_by name g ≡ s → Counts (g.at + 1) (before ++ g ∷ []) (lives g life s)
    by None quiet k last = let was = counts k last in record {
      place = was.place;
      at_is = was.at_is;
      below = omega (arith, was.below, rises.0);
      since_is = ap (λ (l : List Logged). l ++ g ∷ []) was.since_is
          ∙ ap (λ (b : Bool). filter (above k.at) before ++ cond b (g ∷ []) [])
          (sym (ap (λ (l : Lsn). nat_lt (lsn_number l) (number_at g.at)) was.at_is ∙ lt_true (number_at was.place) (number_at g.at) (number_rises was.place g.at (omega (arith, was.below, rises.0)))))
          ∙ sym (filter_push k.at before g);
    }
    by (Some None) quiet k last = absurd (cc)
    by (Some (Some j)) quiet k last =
        let at : k.at ≡ lsn_at_place g.at = sym (ap at_of last) ∙ said_at name (lsn_at_place g.at) g.group j quiet in record {
          place = g.at;
          at_is = at;
          below = omega arith;
          since_is = sym (ap (λ (l : Lsn). filter (above l) (before ++ g ∷ [])) at ∙ none_above g.at (before ++ g ∷ []) (all_below low g.at before g below rises.0 (omega arith)));
        }
      where
        at_of : Option (Option Maker) → Lsn
        at_of None = k.at
        at_of (Some None) = k.at
        at_of (Some (Some i)) = i.at

pub since_above : (name : List ℕ) (gs : List Logged) (m : Maker) → Rises 0 gs → (life_of name gs).last ≡ Some (Some m) → (life_of name gs).since ≡ filter (above m.at) gs
since_above name gs m rises is = since_from name gs [] 0 (record { last = None; since = [] }) rises tt (λ k last. absurd (cc)) m is
