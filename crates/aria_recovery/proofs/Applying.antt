-- Redo applies a group that stands behind the pages that it edits.
use Rattle.std.proofs.Common.{◌≡◌, ◌∙◌, ℕ, ◌+◌, ◌-◌, ◌<◌, ◌≤◌, Bool, true, cond, List, [], ◌∷◌, ◌++◌, length, take, ap, sym, refl, subst, arith, length-append, Option, None, Some, inl, inr}
use Rattle.std.specs.Option.{option_map, option_map_or}
use Rattle.std.proofs.lemmas.Bool.{cases_lt}
use Rattle.std.proofs.lemmas.List.{take-append-le, take_all, length_push}
use Rattle.std.proofs.Math.Seq.{take-append-add}
use Rattle.aria_page.specs.Edit.{all_edited}
use Rattle.aria_page.specs.declared.edit.Edit.{Edit}
use Rattle.aria_page.specs.declared.place.Part.{Part}
use Rattle.aria_host.specs.Folder.{Folder}
use Rattle.aria_record.specs.Logged.{Logged}
use Rattle.aria_recovery.specs.Redo.{Seen, number_at, edits_on, is_some_edit, stepped, body_of}
use Rattle.aria_recovery.specs.Tables.{Maker, Life, Table, File, lives, life_of, told_by, file, file_of, table_of, tables_of, made_page, page_in, body_in}
use Rattle.aria_recovery.specs.Moves.{Versions, Bodies, bodies_of, body_after, after_group, applied, Applies}
use Rattle.aria_recovery.proofs.Agreeing.{AreOlder, life_push, table_push, grown, grown_file}
use Rattle.aria_recovery.proofs.Comparing.{lt_true}

-- the page stands before that number, where it is sound
abbrev pub IsUnder : ℕ → Seen → Type 0
IsUnder at None = Unit {0}
IsUnder at (Some s) = s.0 < at

-- a body after edits, where the group stands behind the page
pub stepped_body : (at : ℕ) (es : List Edit) (x : Seen) → (is_some_edit es ≡ true → IsUnder at x) → body_of (stepped at es x) ≡ option_map (all_edited es) (body_of x)
stepped_body at [] None under = refl
stepped_body at [] (Some s) under = refl
stepped_body at (e ∷ es) None under = refl
stepped_body at (e ∷ es) (Some s) under = ap (λ (b : Bool). body_of (Some (cond b (at, all_edited (e ∷ es) s.1) s))) (lt_true s.0 at (under refl))

-- a page of a table with a group more
page_grown : (name : List ℕ) (g : Logged) (t : Option Table) (part : Part) (n : ℕ) → page_in (option_map (grown name g) t) part n ≡ stepped (number_at g.at) (edits_on name part n g.group) (page_in t part n)
page_grown name g None part n = none (edits_on name part n g.group)
  where
    none : (es : List Edit) → None ≡ stepped (number_at g.at) es None
    none [] = refl
    none (e ∷ es) = refl
page_grown name g (Some t) part n = by (t.file part)
  where
    none : (es : List Edit) → None ≡ stepped (number_at g.at) es None
    none [] = refl
    none (e ∷ es) = refl

    by : (f : Option File) → option_map_or (λ (h : File). h.page n) (option_map (grown_file name part g) f) None ≡ stepped (number_at g.at) (edits_on name part n g.group) (option_map_or (λ (h : File). h.page n) f None)
    by None = none (edits_on name part n g.group)
    by (Some f) = refl

-- What the folder has to be for a group of a name: where it edits a page, the page stands before it, and where it makes the table, the files are older.
pub record Meets (d : Folder) (gs : List Logged) (g : Logged) (name : List ℕ) : Type 0 where
  pub under : told_by name g ≡ None → (part : Part) (n : ℕ) → is_some_edit (edits_on name part n g.group) ≡ true → IsUnder (number_at g.at) (page_in (tables_of d gs name) part n)
  pub older : (maker : Maker) → told_by name g ≡ Some (Some maker) → AreOlder name maker.at d

-- THE BODIES BEHIND A GROUP MORE
pub after_push : (d : Folder) (gs : List Logged) (g : Logged) (name : List ℕ) (part : Part) (n : ℕ) → Meets d gs g name
    → body_in (tables_of d (gs ++ g ∷ []) name) part n ≡ body_after (told_by name g) (edits_on name part n g.group) part n (body_in (tables_of d gs name) part n)
after_push d gs g name part n meets = ap (λ (l : Life). body_in (table_of name l d) part n) (life_push name (record { last = None; since = [] }) gs g) ∙ by (told_by name g) refl
  where
    by : (s : Option (Option Maker)) → told_by name g ≡ s → body_in (table_of name (lives g (life_of name gs) s) d) part n ≡ body_after s (edits_on name part n g.group) part n (body_in (tables_of d gs name) part n)
    by None is = ap (λ (t : Option Table). body_in t part n) (table_push name (life_of name gs) g d) ∙ ap body_of (page_grown name g (tables_of d gs name) part n)
        ∙ stepped_body (number_at g.at) (edits_on name part n g.group) (page_in (tables_of d gs name) part n) (meets.under is part n)
    by (Some None) is = refl
    by (Some (Some maker)) is = ap (λ (b : Bool). body_of (option_map_or (λ (h : File). h.page n) (file_of name part [] (cond b (d (file name part)) (Some (made_page maker part ∷ [])))) None)) (meets.older maker is part)

-- ---- by versions

pub applied_append : (gs hs : List Logged) (bodies : Bodies) → applied (gs ++ hs) bodies ≡ applied hs (applied gs bodies)
applied_append [] hs bodies = refl
applied_append (g ∷ gs) hs bodies = applied_append gs hs (after_group g bodies)

-- the bodies on which groups are applied, page by page
pub applied_same : (gs : List Logged) (one other : Bodies) → ((name : List ℕ) (part : Part) (n : ℕ) → one name part n ≡ other name part n) → (name : List ℕ) (part : Part) (n : ℕ) → applied gs one name part n ≡ applied gs other name part n
applied_same [] one other same name part n = same name part n
applied_same (g ∷ gs) one other same name part n = applied_same gs (after_group g one) (after_group g other) (λ na p k. ap (body_after (told_by na g) (edits_on na p k g.group) p k) (same na p k)) name part n

-- no group is added
pub applies_none : (tables : Versions) (count : ℕ) → Applies tables count []
applies_none tables count m few name part n = ap (λ (k : ℕ). bodies_of (tables k) name part n) (let e : count + m ≡ count = omega (arith, few) in e) ∙ sym (ap (λ (l : List Logged). applied l (bodies_of (tables count)) name part n) (take_all m [] (omega arith)))

-- one is added
pub applies_one : (d : Folder) (gs : List Logged) (g : Logged) → ((name : List ℕ) → Meets d gs g name) → Applies (λ m name. tables_of d (take m (gs ++ g ∷ [])) name) (length gs) (g ∷ [])
applies_one d gs g meets m few name part n = elim (cases_lt 0 m) [
  | inr none ↦
      let zero_is : m ≡ 0 = omega (arith, none) in
      subst (λ (k : ℕ). bodies_of (all (length gs + k)) name part n ≡ applied (take k (g ∷ [])) (bodies_of (all (length gs))) name part n) (sym zero_is)
      (ap (λ (k : ℕ). bodies_of (all k) name part n) (let e : length gs + 0 ≡ length gs = omega arith in e))
  | inl some ↦
      let one_is : m ≡ 1 = omega (arith, some, few) in
      subst (λ (k : ℕ). bodies_of (all (length gs + k)) name part n ≡ applied (take k (g ∷ [])) (bodies_of (all (length gs))) name part n) (sym one_is)
      (ap (λ (l : List Logged). body_in (tables_of d l name) part n) (take_all (length gs + 1) (gs ++ g ∷ []) (omega (arith, length_push gs g)))
      ∙ after_push d gs g name part n (meets name)
      ∙ ap (λ (l : List Logged). body_after (told_by name g) (edits_on name part n g.group) part n (body_in (tables_of d l name) part n)) (sym (take-append-le (length gs) gs (g ∷ []) (omega arith) ∙ take_all (length gs) gs (omega arith))))
]
  where
    all : Versions
    all m name = tables_of d (take m (gs ++ g ∷ [])) name

-- First these, and then those.
pub applies_on : (one other all : Versions) (count : ℕ) (first second : List Logged) → Applies one count first → Applies other (count + length first) second
    → ((m : ℕ) (name : List ℕ) → m ≤ count + length first → all m name ≡ one m name) → ((m : ℕ) (name : List ℕ) → count + length first ≤ m → m ≤ count + length first + length second → all m name ≡ other m name) → Applies all count (first ++ second)
applies_on one other all count first second front behind low high m few name part n = elim (cases_lt (length first) m) [
  | inr less ↦
      ap (λ (t : Option Table). body_in t part n) (low (count + m) name (omega (arith, less)))
      ∙ front m less name part n
      ∙ applied_same (take m first) (bodies_of (one count)) (bodies_of (all count)) (λ na p k. ap (λ (t : Option Table). body_in t p k) (sym (low count na (omega arith)))) name part n
      ∙ ap (λ (l : List Logged). applied l (bodies_of (all count)) name part n) (sym (take-append-le m first second less))
  | inl more ↦
      let rest : ℕ = m - length first in
      let at : length first + rest ≡ m = omega (arith, more) in
      let within : rest ≤ length second = omega (arith, more, few, length-append first second) in
      let front_is : take m (first ++ second) ≡ first ++ take rest second = ap (λ (k : ℕ). take k (first ++ second)) (sym at) ∙ take-append-add first second rest in
      let place : count + m ≡ count + length first + rest = omega (arith, at) in
      ap (λ (t : Option Table). body_in t part n) (ap (λ (k : ℕ). all k name) place ∙ high (count + length first + rest) name (omega arith) (omega (arith, within)))
      ∙ behind rest within name part n
      ∙ applied_same (take rest second) (bodies_of (other (count + length first))) (applied first (bodies_of (all count))) middle name part n
      ∙ ap (λ (b : Bodies). b name part n) (sym (applied_append first (take rest second) (bodies_of (all count))))
      ∙ ap (λ (l : List Logged). applied l (bodies_of (all count)) name part n) (sym front_is)
]
  where
    middle : (na : List ℕ) (p : Part) (k : ℕ) → bodies_of (other (count + length first)) na p k ≡ applied first (bodies_of (all count)) na p k
    middle na p k =
        ap (λ (t : Option Table). body_in t p k) (sym (high (count + length first) na (omega arith) (omega arith)) ∙ low (count + length first) na (omega arith))
        ∙ front (length first) (omega arith) na p k
        ∙ ap (λ (l : List Logged). applied l (bodies_of (one count)) na p k) (take_all (length first) first (omega arith))
        ∙ applied_same first (bodies_of (one count)) (bodies_of (all count)) (λ nb q j. ap (λ (t : Option Table). body_in t q j) (sym (low count nb (omega arith)))) na p k
