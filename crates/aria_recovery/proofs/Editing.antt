-- What the last edit of a page tells of its redo.
use Rattle.std.proofs.Common.{◌≡◌, ◌∙◌, ◌&&◌, inl, inr, ℕ, zero, suc, ◌+◌, ◌<◌, ◌≤◌, max, Bool, true, false, cond, nat_lt, List, [], ◌∷◌, drop, ap, sym, refl, subst, arith, Option, None, Some}
use Rattle.std.proofs.lemmas.Bool.{cases_lt}
use Rattle.aria_page.specs.Edit.{all_edited}
use Rattle.aria_page.specs.declared.edit.Edit.{Edit}
use Rattle.aria_page.specs.declared.place.Part.{Part}
use Rattle.aria_record.specs.Logged.{Logged}
use Rattle.aria_recovery.specs.Redo.{Seen, Rises, number_at, edits_on, is_some_edit, is_before, touches, reach, reach_on, stepped, redo}
use Rattle.aria_recovery.specs.Noted.{last_edit_in, last_edit}
use Rattle.aria_recovery.specs.Tables.{life_of}
use Rattle.aria_recovery.specs.Frames.{base_of}
use Rattle.aria_recovery.proofs.Behind.{since_behind}
use Rattle.aria_recovery.proofs.Comparing.{lt_true, lt_false}
use Rattle.aria_recovery.proofs.Framing.{reach_touched}
use Rattle.aria_recovery.proofs.Holding.{stepped_same}
use Rattle.aria_recovery.proofs.Numbering.{number_rises_not}
use Rattle.aria_recovery.proofs.Redoing.{IsFrom, redo_later}

-- a page from a number on isn't before one up to it
not_before : (low at : ℕ) (x : Seen) → low ≤ at → IsFrom at x → is_before low x ≡ false
not_before low at None le from = refl
not_before low at (Some s) le from = lt_false s.0 low (omega (arith, le, from))

and_false : (b : Bool) → (b && false) ≡ false
and_false true = refl
and_false false = refl

module _ (name : List ℕ) (part : Part) (n : ℕ) where
  abbrev edits : Logged → List Edit
  edits g = edits_on name part n g.group

  -- an edit that was found stays found
  found_still : (k : ℕ) (gs : List Logged) → last_edit_in name part n (Some k) gs ≡ None → ⊥
  found_still k [] none = (cc)
  found_still k (g ∷ gs) none = by (is_some_edit (edits g)) (λ j. found_still j gs) none
    where
      by : (b : Bool) → ((j : ℕ) → last_edit_in name part n (Some j) gs ≡ None → ⊥) → last_edit_in name part n (cond b (Some g.at) (Some k)) gs ≡ None → ⊥
      by true rest is = rest g.at is
      by false rest is = rest k is

  -- A PAGE THAT NO GROUP EDITS stays as it is.
  pub untouched_still : (gs : List Logged) (x : Seen) → last_edit_in name part n None gs ≡ None → redo name part n gs x ≡ x
  untouched_still [] x none = refl
  untouched_still (g ∷ gs) x none = by (edits g) refl none (λ rest. untouched_still gs x rest)
    where
      by : (es : List Edit) → edits g ≡ es → last_edit_in name part n (cond (is_some_edit es) (Some g.at) None) gs ≡ None → (last_edit_in name part n None gs ≡ None → redo name part n gs x ≡ x) → redo name part n gs (stepped (number_at g.at) (edits g) x) ≡ x
      by [] is rest still = ap (λ (es : List Edit). redo name part n gs (stepped (number_at g.at) es x)) is ∙ still rest
      by (e ∷ es) is rest still = absurd (found_still g.at gs rest)

  -- the last edit stands at the place that was found, or behind it
  found_up : (low k at : ℕ) (gs : List Logged) → Rises low gs → k < low → last_edit_in name part n (Some k) gs ≡ Some at → k ≤ at
  found_up low k at [] rises less is = by is
    where
      number_in : Option ℕ → ℕ
      number_in None = k
      number_in (Some j) = j

      by : Some k ≡ Some at → k ≤ at
      by same = let e : k ≡ at = ap number_in same in omega (arith, e)
  found_up low k at (g ∷ gs) rises less is = by (is_some_edit (edits g)) is (λ j before rest. found_up (g.at + 1) j at gs rises.1 before rest)
    where
      by : (b : Bool) → last_edit_in name part n (cond b (Some g.at) (Some k)) gs ≡ Some at → ((j : ℕ) → j < g.at + 1 → last_edit_in name part n (Some j) gs ≡ Some at → j ≤ at) → k ≤ at
      by true rest up = let most = up g.at (omega arith) rest in omega (arith, most, less, rises.0)
      by false rest up = up k (omega (arith, less, rises.0)) rest

  -- A PAGE FROM ITS LAST EDIT ON stays as it is: redo has nothing to do.
  pub past_still : (low at : ℕ) (last : Option ℕ) (gs : List Logged) (x : Seen) → Rises low gs → last_edit_in name part n last gs ≡ Some at → IsFrom (number_at at) x → redo name part n gs x ≡ x
  past_still low at last [] x rises is from = refl
  past_still low at last (g ∷ gs) x rises is from = by (edits g) refl is (λ l rest. past_still (g.at + 1) at l gs x rises.1 rest from)
    where
      by : (es : List Edit) → edits g ≡ es → last_edit_in name part n (cond (is_some_edit es) (Some g.at) last) gs ≡ Some at → ((l : Option ℕ) → last_edit_in name part n l gs ≡ Some at → redo name part n gs x ≡ x)
          → redo name part n gs (stepped (number_at g.at) (edits g) x) ≡ x
      by [] same rest still = ap (λ (es : List Edit). redo name part n gs (stepped (number_at g.at) es x)) same ∙ still last rest
      by (e ∷ es) same rest still =
          let up = found_up (g.at + 1) g.at at gs rises.1 (omega arith) rest in
          ap (redo name part n gs) (stepped_same (number_at g.at) (edits g) x (ap (λ (b : Bool). is_some_edit (edits g) && b) (not_before (number_at g.at) (number_at at) x (number_rises_not g.at at up) from) ∙ and_false (is_some_edit (edits g))))
          ∙ still (Some g.at) rest

  -- the page has a log sequence number from this place on, if there is one
  abbrev IsPast : Option ℕ → ℕ × List ℕ → Type 0
  IsPast None x = Unit {0}
  IsPast (Some k) x = number_at k ≤ x.0

  -- A PAGE THAT REDO LEAVES AS IT IS has a log sequence number from its last edit on.
  pub still_past : (gs : List Logged) (last : Option ℕ) (at : ℕ) (x : ℕ × List ℕ) → IsPast last x → last_edit_in name part n last gs ≡ Some at → redo name part n gs (Some x) ≡ Some x → number_at at ≤ x.0
  still_past [] last at x past is still = subst (λ (o : Option ℕ). IsPast o x) is past
  still_past (g ∷ gs) last at x past is still = by (edits g) refl is still (λ l from rest left. still_past gs l at x from rest left)
    where
      moved : (es : List Edit) (e : Edit) → (b : Bool) → b ≡ true → x.0 < number_at g.at → redo name part n gs (Some (cond b (number_at g.at, all_edited (e ∷ es) x.1) x)) ≡ Some x → ⊥
      moved es e b on low same =
          let from : IsFrom (number_at g.at) (redo name part n gs (Some (cond b (number_at g.at, all_edited (e ∷ es) x.1) x))) =
          redo_later name part n gs (number_at g.at) (Some (cond b (number_at g.at, all_edited (e ∷ es) x.1) x)) (subst (λ (c : Bool). IsFrom (number_at g.at) (Some (cond c (number_at g.at, all_edited (e ∷ es) x.1) x))) (sym on) (omega arith)) in
          let high : number_at g.at ≤ x.0 = subst (IsFrom (number_at g.at)) same from in
          omega (arith, low, high)

      by : (es : List Edit) → edits g ≡ es → last_edit_in name part n (cond (is_some_edit es) (Some g.at) last) gs ≡ Some at → redo name part n gs (stepped (number_at g.at) (edits g) (Some x)) ≡ Some x
          → ((l : Option ℕ) → IsPast l x → last_edit_in name part n l gs ≡ Some at → redo name part n gs (Some x) ≡ Some x → number_at at ≤ x.0) → number_at at ≤ x.0
      by [] same rest left more = more last past rest (sym (ap (λ (es : List Edit). redo name part n gs (stepped (number_at g.at) es (Some x))) same) ∙ left)
      by (e ∷ es) same rest left more =
          let here = sym (ap (λ (es : List Edit). redo name part n gs (stepped (number_at g.at) es (Some x))) same) ∙ left in
          elim (cases_lt x.0 (number_at g.at)) [
            | inl low ↦ absurd (moved es e (nat_lt x.0 (number_at g.at)) (lt_true x.0 (number_at g.at) low) low here)
            | inr high ↦ more (Some g.at) high rest (sym (ap (λ (b : Bool). redo name part n gs (Some (cond b (number_at g.at, all_edited (e ∷ es) x.1) x))) (lt_false x.0 (number_at g.at) high)) ∙ here)
          ]

  -- a page that a group edits is one that the groups name
  pub found_reach : (at : ℕ) (gs : List Logged) → last_edit_in name part n None gs ≡ Some at → n < reach name part gs
  found_reach at [] is = absurd (cc)
  found_reach at (g ∷ gs) is = by (touches name part n g.group) refl is (λ rest. found_reach at gs rest)
    where
      by : (b : Bool) → touches name part n g.group ≡ b → last_edit_in name part n (cond b (Some g.at) None) gs ≡ Some at → (last_edit_in name part n None gs ≡ Some at → n < reach name part gs) → n < max (reach_on name part g.group) (reach name part gs)
      by true on rest more = reach_touched name part n [] gs g on
      by false off rest more = let low = more rest in omega (arith, low)

rises_lower : (low low' : ℕ) (gs : List Logged) → low' ≤ low → Rises low gs → Rises low' gs
rises_lower low low' [] le rises = tt
rises_lower low low' (g ∷ gs) le rises = (omega (arith, le, rises.0), rises.1)

rises_drop : (k : ℕ) (gs : List Logged) → Rises 0 gs → Rises 0 (drop k gs)
rises_drop zero gs rises = rises
rises_drop (suc k) [] rises = tt
rises_drop (suc k) (g ∷ gs) rises = rises_drop k gs (rises_lower (g.at + 1) 0 gs (omega arith) rises.1)

-- the groups that count for a name rise
pub rises_since : (name : List ℕ) (gs : List Logged) → Rises 0 gs → Rises 0 (life_of name gs).since
rises_since name gs rises = subst (Rises 0) (since_behind name gs) (rises_drop (base_of name gs) gs rises)

-- the page stands from its last edit on; one that no group edits, and one that isn't sound, does too
abbrev pub IsFresh : Option ℕ → Seen → Type 0
IsFresh None x = Unit {0}
IsFresh (Some at) x = IsFrom (number_at at) x

-- REDO LEAVES A PAGE AS IT IS exactly where that stands from its last edit on.
pub fresh_still : (name : List ℕ) (part : Part) (n : ℕ) (gs : List Logged) (x : Seen) → Rises 0 gs → IsFresh (last_edit name part n gs) x → redo name part n (life_of name gs).since x ≡ x
fresh_still name part n gs x rises fresh = by (last_edit name part n gs) refl fresh
  where
    by : (o : Option ℕ) → last_edit name part n gs ≡ o → IsFresh o x → redo name part n (life_of name gs).since x ≡ x
    by None is from = untouched_still name part n (life_of name gs).since x is
    by (Some at) is from = past_still name part n 0 at None (life_of name gs).since x (rises_since name gs rises) is from

pub still_fresh : (name : List ℕ) (part : Part) (n : ℕ) (gs : List Logged) (x : Seen) → redo name part n (life_of name gs).since x ≡ x → IsFresh (last_edit name part n gs) x
still_fresh name part n gs None still = by (last_edit name part n gs)
  where
    by : (o : Option ℕ) → IsFresh o None
    by None = tt
    by (Some at) = tt
still_fresh name part n gs (Some x) still = by (last_edit name part n gs) refl
  where
    by : (o : Option ℕ) → last_edit name part n gs ≡ o → IsFresh o (Some x)
    by None is = tt
    by (Some at) is = still_past name part n (life_of name gs).since None at x tt is still
