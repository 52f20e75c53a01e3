-- Redo goes once through the groups: what so many in front make of a page, and one more.
use Rattle.std.proofs.Common.{◌≡◌, ◌∙◌, ℕ, ◌+◌, ◌-◌, ◌≤◌, Bool, true, false, cond, List, [], ◌∷◌, ◌++◌, length, take, drop, nat_lt, ap, sym, refl, arith, length-append, append_assoc, Option, None, Some, inl, inr}
use Rattle.std.proofs.lemmas.Bool.{cases_lt}
use Rattle.std.proofs.lemmas.List.{append-nil, take_all, length-drop, drop-append-le}
use Rattle.std.proofs.Math.Seq.{drop-append_seam, take-append-add}
use Rattle.aria_page.specs.declared.edit.Edit.{Edit}
use Rattle.aria_page.specs.declared.place.Part.{Part}
use Rattle.aria_record.specs.declared.record.Record.{Record}
use Rattle.aria_record.specs.Logged.{Logged}
use Rattle.aria_recovery.specs.Redo.{Seen, number_at, edits_in, edits_at, edits_on, stepped, redo}
use Rattle.aria_recovery.specs.Tables.{Maker, Life, lives, life_from, life_of, told_by}
use Rattle.aria_recovery.specs.Frames.{Spot, base_of, front_of, redone_at, edits_of}
use Rattle.aria_recovery.proofs.Redoing.{redo_append, redo_steady, redo_none}
use Rattle.aria_recovery.proofs.Agreeing.{life_push}
use Rattle.aria_recovery.proofs.Comparing.{lt_true, lt_false}

-- the groups since are the last ones
record Ends (gs since : List Logged) : Type 0 where
  front : List Logged
  whole : gs ≡ front ++ since

ends_from : (name : List ℕ) (life : Life) (gs : List Logged) → Ends (life.since ++ gs) (life_from name life gs).since
ends_from name life [] = record { front = []; whole = append-nil life.since }
ends_from name life (g ∷ gs) = by (told_by name g) (ends_from name (lives g life (told_by name g)) gs)
  where
    by : (s : Option (Option Maker)) → Ends ((lives g life s).since ++ gs) (life_from name (lives g life s) gs).since → Ends (life.since ++ g ∷ gs) (life_from name (lives g life s) gs).since
    by None is = record { front = is.front; whole = sym (append_assoc life.since (g ∷ []) gs) ∙ is.whole }
    by (Some last) is = record { front = life.since ++ g ∷ is.front; whole = ap (λ (l : List Logged). life.since ++ g ∷ l) is.whole ∙ sym (append_assoc life.since (g ∷ is.front) (life_from name (lives g life (Some last)) gs).since) }

pub since_few : (name : List ℕ) (gs : List Logged) → length (life_of name gs).since ≤ length gs
since_few name gs = let is = ends_from name (record { last = None; since = [] }) gs in omega (arith, ap length is.whole, length-append is.front (life_of name gs).since)

-- they are those from the name's base on
pub since_behind : (name : List ℕ) (gs : List Logged) → drop (base_of name gs) gs ≡ (life_of name gs).since
since_behind name gs =
    let is = ends_from name (record { last = None; since = [] }) gs in
    let at : base_of name gs ≡ length is.front = omega (arith, ap length is.whole, length-append is.front (life_of name gs).since) in
    ap (λ (n : ℕ). drop n gs) at ∙ ap (drop (length is.front)) is.whole ∙ drop-append_seam is.front (life_of name gs).since

-- none of the groups count yet
pub front_none : (name : List ℕ) (gs : List Logged) (i : ℕ) → i ≤ base_of name gs → front_of name gs i ≡ []
front_none name gs i low = ap (λ (n : ℕ). take n (life_of name gs).since) (let e : i - base_of name gs ≡ 0 = omega (arith, low) in e)

pub front_zero : (name : List ℕ) (gs : List Logged) → front_of name gs 0 ≡ []
front_zero name gs = front_none name gs 0 (omega arith)

-- all that count
pub front_all : (name : List ℕ) (gs : List Logged) → front_of name gs (length gs) ≡ (life_of name gs).since
front_all name gs = take_all (length gs - base_of name gs) (life_of name gs).since (omega (arith, since_few name gs))

-- ONE GROUP MORE, where it counts for the name
pub front_next : (name : List ℕ) (before after : List Logged) (g : Logged) (gs : List Logged) → gs ≡ before ++ g ∷ after
    → front_of name gs (length before + 1) ≡ front_of name gs (length before) ++ cond (nat_lt (length before) (base_of name gs)) [] (g ∷ [])
front_next name before after g gs is = elim (cases_lt (length before) (base_of name gs)) [
  | inl early ↦
      front_none name gs (length before + 1) (omega (arith, early))
      ∙ sym (ap (λ (b : Bool). front_of name gs (length before) ++ cond b [] (g ∷ [])) (lt_true (length before) (base_of name gs) early) ∙ append-nil (front_of name gs (length before)) ∙ front_none name gs (length before) (omega (arith, early)))
  | inr late ↦
      let b : ℕ = base_of name gs in
      let rest : List Logged = drop b before in
      let since_is : (life_of name gs).since ≡ rest ++ g ∷ after = sym (since_behind name gs) ∙ ap (drop b) is ∙ drop-append-le b before (g ∷ after) late in
      let size : length rest ≡ length before - b = length-drop b before in
      ap (take (length before + 1 - b)) since_is ∙ ap (λ (n : ℕ). take n (rest ++ g ∷ after)) (let e : length before + 1 - b ≡ length rest + 1 = omega (arith, size, late) in e) ∙ take-append-add rest (g ∷ after) 1
      ∙ sym (ap (λ (t : Bool). front_of name gs (length before) ++ cond t [] (g ∷ [])) (lt_false (length before) b late)
      ∙ ap (λ (l : List Logged). take (length before - b) l ++ g ∷ []) since_is ∙ ap (λ (n : ℕ). take n (rest ++ g ∷ after) ++ g ∷ []) (let e : length before - b ≡ length rest + 0 = omega (arith, size) in e)
      ∙ ap (λ (l : List Logged). l ++ g ∷ []) (take-append-add rest (g ∷ after) 0 ∙ append-nil rest))
]

-- ---- a page

-- no group is redone yet
pub redone_zero : (gs : List Logged) (spot : Option Spot) (x : Seen) → redone_at gs 0 spot x ≡ x
redone_zero gs None x = refl
redone_zero gs (Some s) x = ap (λ (l : List Logged). redo s.name s.part s.page l x) (front_zero s.name gs)

-- all are
pub redone_all : (gs : List Logged) (s : Spot) (x : Seen) → redone_at gs (length gs) (Some s) x ≡ redo s.name s.part s.page (life_of s.name gs).since x
redone_all gs s x = ap (λ (l : List Logged). redo s.name s.part s.page l x) (front_all s.name gs)

-- redo twice is redo once
pub redone_steady : (gs : List Logged) (i : ℕ) (spot : Option Spot) (x : Seen) → redone_at gs i spot (redone_at gs i spot x) ≡ redone_at gs i spot x
redone_steady gs i None x = refl
redone_steady gs i (Some s) x = redo_steady s.name s.part s.page (front_of s.name gs i) x

-- ONE GROUP MORE is its edits that count, on the page as it was
pub redone_next : (before after : List Logged) (g : Logged) (gs : List Logged) → gs ≡ before ++ g ∷ after → (spot : Option Spot) (x : Seen)
    → redone_at gs (length before + 1) spot x ≡ stepped (number_at g.at) (edits_of gs (length before) g.group spot) (redone_at gs (length before) spot x)
redone_next before after g gs is None x = refl
redone_next before after g gs is (Some s) x = ap (λ (l : List Logged). redo s.name s.part s.page l x) (front_next s.name before after g gs is) ∙ by (nat_lt (length before) (base_of s.name gs))
  where
    front : List Logged
    front = front_of s.name gs (length before)

    by : (b : Bool) → redo s.name s.part s.page (front ++ cond b [] (g ∷ [])) x ≡ stepped (number_at g.at) (cond b [] (edits_on s.name s.part s.page g.group)) (redo s.name s.part s.page front x)
    by true = ap (λ (l : List Logged). redo s.name s.part s.page l x) (append-nil front)
    by false = redo_append s.name s.part s.page front (g ∷ []) x

-- A GROUP IS APPENDED, that says nothing of the files of the page's name
pub redone_push : (gs : List Logged) (g : Logged) (spot : Option Spot) (x : Seen) → ((s : Spot) → spot ≡ Some s → told_by s.name g ≡ None)
    → redone_at (gs ++ g ∷ []) (length (gs ++ g ∷ [])) spot x ≡ stepped (number_at g.at) (edits_of gs (length gs) g.group spot) (redone_at gs (length gs) spot x)
redone_push gs g None x quiet = refl
redone_push gs g (Some s) x quiet =
    redone_all (gs ++ g ∷ []) s x
    ∙ ap (λ (l : Life). redo s.name s.part s.page l.since x) (life_push s.name (record { last = None; since = [] }) gs g ∙ ap (lives g (life_of s.name gs)) (quiet s refl))
    ∙ redo_append s.name s.part s.page (life_of s.name gs).since (g ∷ []) x
    ∙ ap (stepped (number_at g.at) (edits_on s.name s.part s.page g.group)) (sym (redone_all gs s x))
    ∙ ap (λ (b : Bool). stepped (number_at g.at) (cond b [] (edits_on s.name s.part s.page g.group)) (redone_at gs (length gs) (Some s) x)) (sym (lt_false (length gs) (base_of s.name gs) (omega arith)))

-- a page that isn't sound stays so
pub redone_none : (gs : List Logged) (i : ℕ) (spot : Option Spot) → redone_at gs i spot None ≡ None
redone_none gs i None = refl
redone_none gs i (Some s) = redo_none s.name s.part s.page (front_of s.name gs i)

-- ---- the edits of a group, record by record

pub edits_push : (name : List ℕ) (part : Part) (n : ℕ) (rs : List Record) (r : Record) → edits_on name part n (rs ++ r ∷ []) ≡ edits_on name part n rs ++ edits_at n (edits_in name part r)
edits_push name part n [] r = append-nil (edits_at n (edits_in name part r))
edits_push name part n (q ∷ rs) r = ap (λ (es : List Edit). edits_at n (edits_in name part q) ++ es) (edits_push name part n rs r) ∙ sym (append_assoc (edits_at n (edits_in name part q)) (edits_on name part n rs) (edits_at n (edits_in name part r)))

-- no record yet
pub edits_begin : (gs : List Logged) (i : ℕ) (spot : Option Spot) → edits_of gs i [] spot ≡ []
edits_begin gs i None = refl
edits_begin gs i (Some s) = by (nat_lt i (base_of s.name gs))
  where
    none : List Edit
    none = []

    by : (b : Bool) → cond b none none ≡ none
    by true = refl
    by false = refl
