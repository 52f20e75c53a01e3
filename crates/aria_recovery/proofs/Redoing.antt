-- Laws of redo on one page.
use Rattle.std.proofs.Common.{◌≡◌, ◌∙◌, ℕ, zero, suc, ◌<◌, ◌≤◌, Bool, cond, List, [], ◌∷◌, ◌++◌, length, take, drop, max, ap, sym, refl, subst, arith, None, Some, inl, inr}
use Rattle.std.specs.List.{AllByRecursion}
use Rattle.std.proofs.lemmas.Bool.{cases_lt}
use Rattle.std.proofs.lemmas.List.{take-take, take-append-drop, take_all}
use Rattle.aria_page.specs.declared.edit.Edit.{Edit}
use Rattle.aria_page.specs.declared.place.Part.{Part}
use Rattle.aria_record.specs.Logged.{Logged}
use Rattle.aria_page.specs.Edit.{all_edited}
use Rattle.aria_recovery.specs.Redo.{Seen, edits_on, stepped, redo, number_at}
use Rattle.aria_recovery.proofs.Comparing.{lt_true, lt_false}

-- the page has a log sequence number from there on, where it is sound
abbrev pub IsFrom : ℕ → Seen → Type 0
IsFrom at None = Unit {0}
IsFrom at (Some s) = at ≤ s.0

later : (k : ℕ) (es : List Edit) (at : ℕ) (x : Seen) → IsFrom at x → IsFrom at (stepped k es x)
later k [] at x from = from
later k (e ∷ es) at None from = tt
later k (e ∷ es) at (Some s) from = elim (cases_lt s.0 k) [
  | inl low ↦ subst (λ (b : Bool). IsFrom at (Some (cond b (k, all_edited (e ∷ es) s.1) s))) (sym (lt_true s.0 k low)) (omega (arith, low, from))
  | inr high ↦ subst (λ (b : Bool). IsFrom at (Some (cond b (k, all_edited (e ∷ es) s.1) s))) (sym (lt_false s.0 k high)) from
]

reached : (k : ℕ) (e : Edit) (es : List Edit) (x : Seen) → IsFrom k (stepped k (e ∷ es) x)
reached k e es None = tt
reached k e es (Some s) = elim (cases_lt s.0 k) [
  | inl low ↦ subst (λ (b : Bool). IsFrom k (Some (cond b (k, all_edited (e ∷ es) s.1) s))) (sym (lt_true s.0 k low)) (omega arith)
  | inr high ↦ subst (λ (b : Bool). IsFrom k (Some (cond b (k, all_edited (e ∷ es) s.1) s))) (sym (lt_false s.0 k high)) high
]

-- the page stands behind a group, if that edits it
abbrev Behind : ℕ → List Edit → Seen → Type 0
Behind k [] x = Unit {0}
Behind k (e ∷ es) x = IsFrom k x

rests : (k : ℕ) (es : List Edit) (x : Seen) → Behind k es x → stepped k es x ≡ x
rests k [] x past = refl
rests k (e ∷ es) None past = refl
rests k (e ∷ es) (Some s) past = ap (λ (b : Bool). Some (cond b (k, all_edited (e ∷ es) s.1) s)) (lt_false s.0 k past)

module _ (name : List ℕ) (part : Part) (n : ℕ) where
  -- redo goes on behind a front
  pub redo_append : (gs hs : List Logged) (x : Seen) → redo name part n (gs ++ hs) x ≡ redo name part n hs (redo name part n gs x)
  redo_append [] hs x = refl
  redo_append (g ∷ gs) hs x = redo_append gs hs (stepped (number_at g.at) (edits_on name part n g.group) x)

  pub redo_later : (gs : List Logged) (at : ℕ) (x : Seen) → IsFrom at x → IsFrom at (redo name part n gs x)
  redo_later [] at x from = from
  redo_later (g ∷ gs) at x from = redo_later gs at (stepped (number_at g.at) (edits_on name part n g.group) x) (later (number_at g.at) (edits_on name part n g.group) at x from)

  abbrev Past : List Logged → Seen → Type 0
  Past [] x = Unit {0}
  Past (g ∷ gs) x = Behind (number_at g.at) (edits_on name part n g.group) x × Past gs x

  past_redo : (gs : List Logged) (x : Seen) → Past gs (redo name part n gs x)
  past_redo [] x = tt
  past_redo (g ∷ gs) x = (by (edits_on name part n g.group), past_redo gs (stepped (number_at g.at) (edits_on name part n g.group) x))
    where
      by : (es : List Edit) → Behind (number_at g.at) es (redo name part n gs (stepped (number_at g.at) es x))
      by [] = tt
      by (e ∷ es) = redo_later gs (number_at g.at) (stepped (number_at g.at) (e ∷ es) x) (reached (number_at g.at) e es x)

  past_rests : (gs : List Logged) (x : Seen) → Past gs x → redo name part n gs x ≡ x
  past_rests [] x past = refl
  past_rests (g ∷ gs) x past = ap (redo name part n gs) (rests (number_at g.at) (edits_on name part n g.group) x past.0) ∙ past_rests gs x past.1

  -- redo twice is redo once
  pub redo_steady : (gs : List Logged) (x : Seen) → redo name part n gs (redo name part n gs x) ≡ redo name part n gs x
  redo_steady gs x = past_rests gs (redo name part n gs x) (past_redo gs x)

  past_take : (k : ℕ) (gs : List Logged) (x : Seen) → Past gs x → Past (take k gs) x
  past_take zero gs x past = tt
  past_take (suc k) [] x past = tt
  past_take (suc k) (g ∷ gs) x past = (past.0, past_take k gs x past.1)

  -- redo by a front, and then by another
  pub redo_max : (j k : ℕ) (gs : List Logged) (x : Seen) → redo name part n (take k gs) (redo name part n (take j gs) x) ≡ redo name part n (take (max j k) gs) x
  redo_max j k gs x = elim (cases_lt k j) [
    | inl less ↦
        let top : max j k ≡ j = omega (arith, less) in
        let short : take k (take j gs) ≡ take k gs = take-take k j gs (omega (arith, less)) in
        ap (λ (l : List Logged). redo name part n l (redo name part n (take j gs) x)) (sym short) ∙ past_rests (take k (take j gs)) (redo name part n (take j gs) x) (past_take k (take j gs) (redo name part n (take j gs) x) (past_redo (take j gs) x))
        ∙ ap (λ (i : ℕ). redo name part n (take i gs) x) (sym top)
    | inr more ↦
        let top : max j k ≡ k = omega (arith, more) in
        let short : take j (take k gs) ≡ take j gs = take-take j k gs more in
        let parts : take j gs ++ drop j (take k gs) ≡ take k gs = ap (λ (l : List Logged). l ++ drop j (take k gs)) (sym short) ∙ take-append-drop j (take k gs) in
        ap (λ (l : List Logged). redo name part n l (redo name part n (take j gs) x)) (sym parts) ∙ redo_append (take j gs) (drop j (take k gs)) (redo name part n (take j gs) x) ∙ ap (redo name part n (drop j (take k gs))) (redo_steady (take j gs) x)
        ∙ sym (redo_append (take j gs) (drop j (take k gs)) x) ∙ ap (λ (l : List Logged). redo name part n l x) parts ∙ ap (λ (i : ℕ). redo name part n (take i gs) x) (sym top)
  ]

  -- redo by all of a page that was redone by a front
  pub redo_front : (j : ℕ) (gs : List Logged) (x : Seen) → redo name part n gs (redo name part n (take j gs) x) ≡ redo name part n gs x
  redo_front j gs x =
      ap (λ (l : List Logged). redo name part n l (redo name part n (take j gs) x)) (sym (take_all (length gs) gs (omega arith)))
      ∙ redo_max j (length gs) gs x ∙ ap (λ (l : List Logged). redo name part n l x) (take_all (max j (length gs)) gs (omega arith))

  -- a page that bears an earlier number than these groups is as it was before them
  pub redo_before : (gs : List Logged) (x : Seen) (s : ℕ × List ℕ) → AllByRecursion (λ (g : Logged). s.0 < number_at g.at) gs → redo name part n gs x ≡ Some s → x ≡ Some s
  redo_before [] x s later is = is
  redo_before (g ∷ gs) x s later is = by (edits_on name part n g.group) (redo_before gs (stepped (number_at g.at) (edits_on name part n g.group) x) s later.1 is)
    where
      by : (es : List Edit) → stepped (number_at g.at) es x ≡ Some s → x ≡ Some s
      by [] same = same
      by (e ∷ es) same = absurd (let from : number_at g.at ≤ s.0 = subst (IsFrom (number_at g.at)) same (reached (number_at g.at) e es x) in omega (arith, from, later.0))

  take_each : (P : Logged → Type 0) (j : ℕ) (gs : List Logged) → AllByRecursion P gs → AllByRecursion P (take j gs)
  take_each P zero gs each = tt
  take_each P (suc j) [] each = tt
  take_each P (suc j) (g ∷ gs) each = (each.0, take_each P j gs each.1)

  -- a front of two lists of groups, of which the second ones have later numbers than the page: that front of the first ones makes it
  pub redo_fewer : (j : ℕ) (gs hs : List Logged) (x : Seen) (s : ℕ × List ℕ) → AllByRecursion (λ (g : Logged). s.0 < number_at g.at) hs → redo name part n (take j (gs ++ hs)) x ≡ Some s → redo name part n (take j gs) x ≡ Some s
  redo_fewer zero gs hs x s later is = is
  redo_fewer (suc j) [] hs x s later is = redo_before (take (suc j) hs) x s (take_each (λ (g : Logged). s.0 < number_at g.at) (suc j) hs later) is
  redo_fewer (suc j) (g ∷ gs) hs x s later is = redo_fewer j gs hs (stepped (number_at g.at) (edits_on name part n g.group) x) s later is

  -- the first ones make the same of that page as of what it came from
  pub redo_within : (j : ℕ) (gs hs : List Logged) (x : Seen) (s : ℕ × List ℕ) → AllByRecursion (λ (g : Logged). s.0 < number_at g.at) hs → redo name part n (take j (gs ++ hs)) x ≡ Some s
      → redo name part n gs (Some s) ≡ redo name part n gs x
  redo_within j gs hs x s later is = ap (redo name part n gs) (sym (redo_fewer j gs hs x s later is)) ∙ redo_front j gs x

  pub redo_none : (gs : List Logged) → redo name part n gs None ≡ None
  redo_none [] = refl
  redo_none (g ∷ gs) = ap (redo name part n gs) (none (edits_on name part n g.group)) ∙ redo_none gs
    where
      none : (es : List Edit) → stepped (number_at g.at) es None ≡ None
      none [] = refl
      none (e ∷ es) = refl
