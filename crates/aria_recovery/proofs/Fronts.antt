-- What the groups that aren't forced don't say.
use Rattle.std.proofs.Common.{◌≡◌, ◌∙◌, ℕ, zero, suc, ◌≤◌, List, [], ◌∷◌, ◌++◌, drop, ap, sym, refl, arith, append_assoc, Option, None, Some}
use Rattle.std.specs.Prelude.{All}
use Rattle.std.specs.Option.{option_map}
use Rattle.std.proofs.lemmas.List.{append-nil}
use Rattle.std.proofs.lemmas.List.Elements.{All-drop, All-head, All-tail}
use Rattle.std.specs.List.{AllByRecursion}
use Rattle.aria_host.specs.Folder.{Folder}
use Rattle.aria_record.specs.Logged.{Logged}
use Rattle.aria_recovery.specs.Tables.{Maker, Life, Table, lives, life_from, life_of, told_by, table_of, tables_of}
use Rattle.aria_recovery.proofs.Agreeing.{life_push, table_push, grown}

-- what holds of all groups from one on holds of those from a later one on
pub all_later : (P : Logged → Type 0) (forced m : ℕ) (gs : List Logged) → forced ≤ m → All P (drop forced gs) → All P (drop m gs)
all_later P zero m gs le all = All-drop P m gs all
all_later P (suc f) zero gs le all = absurd (let e : suc f ≤ 0 = le in omega (arith, e))
all_later P (suc f) (suc m) [] le all = all
all_later P (suc f) (suc m) (g ∷ gs) le all = all_later P f m gs (let e : suc f ≤ suc m = le in omega (arith, e)) all

pub each_of : (P : Logged → Type 0) (gs : List Logged) → All P gs → AllByRecursion P gs
each_of P [] all = tt
each_of P (g ∷ gs) all = (All-head P g gs all, each_of P gs (All-tail P g gs all))

life_append : (name : List ℕ) (a : Life) (gs hs : List Logged) → life_from name a (gs ++ hs) ≡ life_from name (life_from name a gs) hs
life_append name a [] hs = refl
life_append name a (g ∷ gs) hs = life_append name (lives g a (told_by name g)) gs hs

module _ (name : List ℕ) (c : Folder) where
  none_push : (gs : List Logged) (g : Logged) → told_by name g ≡ None → tables_of c (gs ++ g ∷ []) name ≡ None → tables_of c gs name ≡ None
  none_push gs g quiet none = was (tables_of c gs name)
      (sym (table_push name (life_of name gs) g c) ∙ sym (ap (λ (l : Life). table_of name l c) (life_push name (record { last = None; since = [] }) gs g ∙ ap (lives g (life_of name gs)) quiet)) ∙ none)
    where
      was : (t : Option Table) → option_map (grown name g) t ≡ None → t ≡ None
      was None is = refl
      was (Some t) is = absurd (cc)

  -- a name without a table by all groups has none by a front, behind which no group makes or drops its files
  pub none_before : (gs more : List Logged) → AllByRecursion (λ (g : Logged). told_by name g ≡ None) more → tables_of c (gs ++ more) name ≡ None → tables_of c gs name ≡ None
  none_before gs [] quiet none = ap (λ (l : List Logged). tables_of c l name) (sym (append-nil gs)) ∙ none
  none_before gs (g ∷ more) quiet none = none_push gs g quiet.0 (none_before (gs ++ g ∷ []) more quiet.1 (ap (λ (l : List Logged). tables_of c l name) (moved gs) ∙ none))
    where
      moved : (l : List Logged) → (l ++ g ∷ []) ++ more ≡ l ++ g ∷ more
      moved [] = refl
      moved (h ∷ l) = ap (λ (r : List Logged). h ∷ r) (moved l)

  -- lives that come to the same table, with more groups
  lives_alike : (a b : Life) (g : Logged) (s : Option (Option Maker)) → table_of name a c ≡ table_of name b c → table_of name (lives g a s) c ≡ table_of name (lives g b s) c
  lives_alike a b g None same = table_push name a g c ∙ ap (option_map (grown name g)) same ∙ sym (table_push name b g c)
  lives_alike a b g (Some last) same = refl

  lives_on : (a b : Life) (hs : List Logged) → table_of name a c ≡ table_of name b c → table_of name (life_from name a hs) c ≡ table_of name (life_from name b hs) c
  lives_on a b [] same = same
  lives_on a b (g ∷ hs) same = lives_on (lives g a (told_by name g)) (lives g b (told_by name g)) hs (lives_alike a b g (told_by name g) same)

  -- A CHECKPOINT: where the groups in front change nothing of the table, redo may begin behind them.
  pub later_base : (gs hs : List Logged) → tables_of c gs name ≡ tables_of c [] name → tables_of c (gs ++ hs) name ≡ tables_of c hs name
  later_base gs hs same = ap (λ (l : Life). table_of name l c) (life_append name (record { last = None; since = [] }) gs hs) ∙ lives_on (life_of name gs) (record { last = None; since = [] }) hs same

-- Groups that tell nothing of a name's files count for it, behind those that do.
quiet_from : (name : List ℕ) (life : Life) (more : List Logged) → AllByRecursion (λ (g : Logged). told_by name g ≡ None) more → life_from name life more ≡ record { last = life.last; since = life.since ++ more }
quiet_from name life [] quiet = λ i. record { last = life.last; since = sym (append-nil life.since) i }
quiet_from name life (g ∷ more) quiet =
    ap (λ (s : Option (Option Maker)). life_from name (lives g life s) more) quiet.0
    ∙ quiet_from name (record { last = life.last; since = life.since ++ g ∷ [] }) more quiet.1
    ∙ (λ i. record { last = life.last; since = append_assoc life.since (g ∷ []) more i })

pub life_quiet : (name : List ℕ) (gs more : List Logged) → AllByRecursion (λ (g : Logged). told_by name g ≡ None) more → life_of name (gs ++ more) ≡ record { last = (life_of name gs).last; since = (life_of name gs).since ++ more }
life_quiet name gs more quiet = life_append name (record { last = None; since = [] }) gs more ∙ quiet_from name (life_of name gs) more quiet
