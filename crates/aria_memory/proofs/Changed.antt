-- Rows that an update changes, one after another, and changes taken back.
use Rattle.std.specs.Prelude.{◌≡◌, ℕ, ◌+◌, Bool, true, false, not, ◌&&◌, cond, nat_lt, List, [], ◌∷◌, ◌++◌, map, filter, Option, Some, None, refl}
use Rattle.std.specs.Option.{is_some, option_map}
use Rattle.std.specs.List.{list_any}
use Rattle.std.specs.List.Sorted.{IsStrictlySortedBy}
use Rattle.std.specs.BTreeMap.{is_at, insert_entry}
use Rattle.std.specs.Map.{keys_of, values_of, lookup, lookup_key, remove_entry}
use Rattle.std.specs.Ordering.{is_eq}
use Rattle.std.specs.Cmp.{tied_itself, eq_by_cmp_equiv}
use Rattle.std.proofs.Common.{sym, ap, ◌∙◌}
use Rattle.std.proofs.lemmas.Map.{lookup-remove_entry}
use Rattle.std.proofs.lemmas.Map.Keys.{IsDistinct-from_sorted}
use Rattle.aria_value.specs.declared.value.Value.{Value}
use Rattle.aria_value.specs.declared.definition.Definition.{Definition}
use Rattle.aria_value.specs.Order.{key_columns, key_cmp, put}
use Rattle.aria_value.specs.Stored.{row_length}
use Rattle.aria_model.specs.declared.refusal.Refusal.{Refusal}
use Rattle.aria_model.specs.declared.refusal.Refusal.TheVariants.{RowTooLong, Duplicate}
use Rattle.aria_model.specs.declared.statement.Setting.{Setting}
use Rattle.aria_model.specs.Step.{first_key_name, first_of, refused_where, set_row, set_refusal, Puts, set_all}
use Rattle.aria_memory.specs.declared.update.Change.{Change}
use Rattle.aria_memory.specs.declared.update.Done.{Done}
use Rattle.aria_memory.specs.Keyed.{values_cmp, values_in, has_key, are_keyed}
use Rattle.aria_memory.specs.Updated.{change_of, IsSet, put_back, taken_back}
use Rattle.aria_memory.proofs.Entries.{remove_absent, remove_inserted, removed_back, keyed_without, beside_removed}
use Rattle.aria_memory.proofs.Keyed.{values_total, keys_order, has_key_itself, twice_by_key, values-insert}

-- ---- one row

-- the rows beside one, by its key
pub beside_by_key : (d : Definition) (es : List (List Value × List Value)) (k row : List Value) → are_keyed d es ≡ true → k ≡ values_in (key_columns d.keys 0) row
    → IsStrictlySortedBy values_cmp (keys_of es) → filter (λ other. not (is_eq (key_cmp d 0 other row))) (values_of es) ≡ values_of (remove_entry (is_at (values_cmp k)) es)
beside_by_key d es k row keyed at rises =
    beside_removed values_total (key_cmp d 0) (has_key d) (keys_order d) k row es (has_key_itself d k row at) keyed rises

found_beside : {X : Type 0} (same : Bool) (found : Option X) → is_some (cond same None found) ≡ (not same && is_some found)
found_beside true found = refl
found_beside false found = refl

-- a key is among the others exactly if it is among the keys and isn't the one that is taken out
pub found_without : (es : List (List Value × List Value)) (old k : List Value) → IsStrictlySortedBy values_cmp (keys_of es)
    → is_some (lookup (is_at (values_cmp k)) (remove_entry (is_at (values_cmp old)) es)) ≡ (not (is_eq (values_cmp old k)) && is_some (lookup (is_at (values_cmp k)) es))
found_without es old k rises =
    ap is_some (lookup-remove_entry (eq_by_cmp_equiv values_total) (is_at (values_cmp old)) (λ x y at. (eq_by_cmp_equiv values_total).congr old x y at) k es (IsDistinct-from_sorted values_cmp (keys_of es) rises))
    ∙ found_beside (is_eq (values_cmp old k)) (lookup (is_at (values_cmp k)) es)

-- the refusal of a changed row by its two tests
pub set_refusal_by : (d : Definition) (es : List (List Value × List Value)) (old k row : List Value) (long twice : Bool) → are_keyed d es ≡ true → k ≡ values_in (key_columns d.keys 0) row
    → IsStrictlySortedBy values_cmp (keys_of es) → nat_lt 65536 (row_length row) ≡ long → (not (is_eq (values_cmp k old)) && is_some (lookup (is_at (values_cmp k)) es)) ≡ twice
    → set_refusal d None 1 (values_of (remove_entry (is_at (values_cmp old)) es)) row ≡ first_of (refused_where long RowTooLong ∷ refused_where twice (Duplicate (first_key_name d.keys)) ∷ None ∷ [])
set_refusal_by d es old k row long twice keyed at rises l t =
    let found = twice_by_key d (remove_entry (is_at (values_cmp old)) es) k row (keyed_without (has_key d) (is_at (values_cmp old)) es keyed) at ∙ found_without es old k rises
    ∙ ap (λ same. not same && is_some (lookup (is_at (values_cmp k)) es)) ((eq_by_cmp_equiv values_total).symm old k) ∙ t in
    λ i. first_of (refused_where (l i) RowTooLong ∷ refused_where (found i) (Duplicate (first_key_name d.keys)) ∷ None ∷ [])

second_passes : (long : Option Refusal) (twice : Bool) (why : Refusal) → first_of (long ∷ refused_where twice why ∷ None ∷ []) ≡ None → twice ≡ false
second_passes (Some x) twice why none = absurd (cc)
second_passes None true why none = absurd (cc)
second_passes None false why none = refl

not_found : {X : Type 0} (found : Option X) → is_some found ≡ false → found ≡ None
not_found None is = refl
not_found (Some x) is = absurd (cc)

-- the key of a row that isn't refused isn't among the others
pub fresh_beside : (d : Definition) (others : List (List Value × List Value)) (k row : List Value) → are_keyed d others ≡ true → k ≡ values_in (key_columns d.keys 0) row
    → set_refusal d None 1 (values_of others) row ≡ None → lookup (is_at (values_cmp k)) others ≡ None
fresh_beside d others k row keyed at fits =
    not_found (lookup (is_at (values_cmp k)) others)
    (sym (twice_by_key d others k row keyed at)
    ∙ second_passes (refused_where (nat_lt 65536 (row_length row)) RowTooLong) (list_any (λ other. is_eq (key_cmp d 0 other row)) (values_of others)) (Duplicate (first_key_name d.keys)) fits)

-- ---- rows one after another

-- the rows from one on, by its refusal
abbrev sets_from : Definition → List Setting → ℕ → List (List Value) → List (List Value) → List Value → List (List Value) → Option Refusal → Puts
sets_from d settings n rows beside row more refusal = elim refusal [
  | Some why ↦ record { rows = rows; refusal = Some why }
  | None ↦ set_all d settings None (n + 1) (put (key_cmp d 0) row beside) more
]

sets_alike : (d : Definition) (settings : List Setting) (m n : ℕ) (rows beside : List (List Value)) (row : List Value) (more : List (List Value)) (refusal : Option Refusal)
    → set_all d settings None (m + 1) (put (key_cmp d 0) row beside) more ≡ set_all d settings None (n + 1) (put (key_cmp d 0) row beside) more
    → sets_from d settings m rows beside row more refusal ≡ sets_from d settings n rows beside row more refusal
sets_alike d settings m n rows beside row more (Some why) same = refl
sets_alike d settings m n rows beside row more None same = same

-- without exceptions it doesn't matter from which number the rows are counted
set_all_from : (d : Definition) (settings : List Setting) (more rows : List (List Value)) (m n : ℕ) → set_all d settings None m rows more ≡ set_all d settings None n rows more
set_all_from d settings [] rows m n = refl
set_all_from d settings (old ∷ more) rows m n =
    let row = set_row d.columns settings old in
    let beside = filter (λ other. not (is_eq (key_cmp d 0 other old))) rows in
    sets_alike d settings m n rows beside row more (set_refusal d None 1 beside row) (set_all_from d settings more (put (key_cmp d 0) row beside) (m + 1) (n + 1))

-- a row that is set, beside these
set_all-fits : (d : Definition) (settings : List Setting) (rows beside : List (List Value)) (old : List Value) (more : List (List Value))
    → filter (λ other. not (is_eq (key_cmp d 0 other old))) rows ≡ beside → set_refusal d None 1 beside (set_row d.columns settings old) ≡ None
    → set_all d settings None 1 rows (old ∷ more) ≡ set_all d settings None 1 (put (key_cmp d 0) (set_row d.columns settings old) beside) more
set_all-fits d settings rows beside old more is fits =
    ap (λ b. sets_from d settings 1 rows b (set_row d.columns settings old) more (set_refusal d None 1 b (set_row d.columns settings old))) is
    ∙ ap (sets_from d settings 1 rows beside (set_row d.columns settings old) more) fits
    ∙ set_all_from d settings more (put (key_cmp d 0) (set_row d.columns settings old) beside) (1 + 1) 1

-- a row that is refused
set_all-refused : (d : Definition) (settings : List Setting) (rows beside : List (List Value)) (old : List Value) (more : List (List Value)) (why : Refusal)
    → filter (λ other. not (is_eq (key_cmp d 0 other old))) rows ≡ beside → set_refusal d None 1 beside (set_row d.columns settings old) ≡ Some why
    → set_all d settings None 1 rows (old ∷ more) ≡ record { rows = rows; refusal = Some why }
set_all-refused d settings rows beside old more why is refusal =
    ap (λ b. sets_from d settings 1 rows b (set_row d.columns settings old) more (set_refusal d None 1 b (set_row d.columns settings old))) is
    ∙ ap (sets_from d settings 1 rows beside (set_row d.columns settings old) more) refusal

-- For whatever rows and settings all the changes are: some of the rows are still to change, and lead from here to where all lead from the start.
abbrev pub Goes : Definition → List Change → List (List Value) → List Change → List (List Value) → Type 0
Goes d changes start left here = (settings : List Setting) (olds : List (List Value)) → changes ≡ map (change_of d settings) olds
    → (rest : List (List Value)) × (left ≡ map (change_of d settings) rest) × (set_all d settings None 1 here rest ≡ set_all d settings None 1 start olds)

-- the first of changes, by the rows that they change
first_change : (d : Definition) (settings : List Setting) (rest : List (List Value)) (change : Change) (left : List Change) → change ∷ left ≡ map (change_of d settings) rest
    → (old : List Value) × (more : List (List Value)) × (rest ≡ old ∷ more) × (change ≡ change_of d settings old) × (left ≡ map (change_of d settings) more)
first_change d settings [] change left is = absurd (cc)
first_change d settings (old ∷ more) change left is = (old, more, refl, cc, cc)

set_from_here : (d : Definition) (settings : List Setting) (here beside : List (List Value)) (old row : List Value) (more rest : List (List Value)) (puts : Puts)
    → filter (λ other. not (is_eq (key_cmp d 0 other old))) here ≡ beside → row ≡ set_row d.columns settings old → set_refusal d None 1 beside row ≡ None → rest ≡ old ∷ more
    → set_all d settings None 1 here rest ≡ puts → set_all d settings None 1 (put (key_cmp d 0) row beside) more ≡ puts
set_from_here d settings here beside old row more rest puts is made fits next leads =
    ap (λ r. set_all d settings None 1 (put (key_cmp d 0) r beside) more) made
    ∙ sym (set_all-fits d settings here beside old more is (ap (set_refusal d None 1 beside) (sym made) ∙ fits))
    ∙ ap (set_all d settings None 1 here) (sym next)
    ∙ leads

-- one change on
pub goes_next : (d : Definition) (changes : List Change) (start : List (List Value)) (change : Change) (left : List Change) (es : List (List Value × List Value)) (k : List Value)
    → are_keyed d es ≡ true → IsStrictlySortedBy values_cmp (keys_of es) → IsStrictlySortedBy values_cmp (keys_of (remove_entry (is_at (values_cmp change.key)) es))
    → k ≡ values_in (key_columns d.keys 0) change.row → set_refusal d None 1 (values_of (remove_entry (is_at (values_cmp change.key)) es)) change.row ≡ None
    → Goes d changes start (change ∷ left) (values_of es) → Goes d changes start left (values_of (insert_entry values_cmp (remove_entry (is_at (values_cmp change.key)) es) k change.row))
goes_next d changes start change left es k keyed rises still at fits goes = λ settings olds are.
    let went = goes settings olds are in
    let first = first_change d settings went.0 change left went.1 in
    let others = remove_entry (is_at (values_cmp change.key)) es in
    let kept : are_keyed d others ≡ true = keyed_without (has_key d) (is_at (values_cmp change.key)) es keyed in
    let put_there : values_of (insert_entry values_cmp others k change.row) ≡ put (key_cmp d 0) change.row (values_of others) =
    values-insert d others k change.row kept at still (fresh_beside d others k change.row kept at fits) in (
      first.1,
      first.4,
      ap (λ rows. set_all d settings None 1 rows first.1) put_there
          ∙ set_from_here d settings (values_of es) (values_of others) first.0 change.row first.1 went.0 (set_all d settings None 1 start olds)
          (beside_by_key d es change.key first.0 keyed (ap (λ (c : Change). c.key) first.3) rises) (ap (λ (c : Change). c.row) first.3) fits first.2 went.2,
    )

refused_here : (d : Definition) (settings : List Setting) (here beside : List (List Value)) (old row : List Value) (more rest : List (List Value)) (puts : Puts) (why : Refusal)
    → filter (λ other. not (is_eq (key_cmp d 0 other old))) here ≡ beside → row ≡ set_row d.columns settings old → set_refusal d None 1 beside row ≡ Some why → rest ≡ old ∷ more
    → set_all d settings None 1 here rest ≡ puts → record { rows = here; refusal = Some why } ≡ puts
refused_here d settings here beside old row more rest puts why is made refusal next leads =
    sym (set_all-refused d settings here beside old more why is (ap (set_refusal d None 1 beside) (sym made) ∙ refusal))
    ∙ ap (set_all d settings None 1 here) (sym next)
    ∙ leads

refused_puts : (d : Definition) (changes : List Change) (start : List (List Value)) (change : Change) (left : List Change) (es : List (List Value × List Value)) (why : Refusal)
    → are_keyed d es ≡ true → IsStrictlySortedBy values_cmp (keys_of es) → set_refusal d None 1 (values_of (remove_entry (is_at (values_cmp change.key)) es)) change.row ≡ Some why
    → Goes d changes start (change ∷ left) (values_of es) → (settings : List Setting) (olds : List (List Value)) → changes ≡ map (change_of d settings) olds
    → record { rows = values_of es; refusal = Some why } ≡ set_all d settings None 1 start olds
refused_puts d changes start change left es why keyed rises refusal goes settings olds are =
    let went = goes settings olds are in
    let first = first_change d settings went.0 change left went.1 in
    let others = remove_entry (is_at (values_cmp change.key)) es in
    refused_here d settings (values_of es) (values_of others) first.0 change.row first.1 went.0 (set_all d settings None 1 start olds) why
    (beside_by_key d es change.key first.0 keyed (ap (λ (c : Change). c.key) first.3) rises) (ap (λ (c : Change). c.row) first.3) refusal first.2 went.2

-- the rows up to a refused change
pub set_refused : (d : Definition) (changes : List Change) (start : List (List Value)) (change : Change) (left : List Change) (es : List (List Value × List Value)) (why : Refusal)
    → are_keyed d es ≡ true → IsStrictlySortedBy values_cmp (keys_of es) → set_refusal d None 1 (values_of (remove_entry (is_at (values_cmp change.key)) es)) change.row ≡ Some why
    → Goes d changes start (change ∷ left) (values_of es) → IsSet d changes start (values_of es) (Some why)
set_refused d changes start change left es why keyed rises refusal goes = record {
  rows = λ settings olds are. ap (λ (p : Puts). p.rows) (refused_puts d changes start change left es why keyed rises refusal goes settings olds are);
  refusal = λ settings olds are. ap (λ (p : Puts). p.refusal) (refused_puts d changes start change left es why keyed rises refusal goes settings olds are);
}

none_left : (d : Definition) (settings : List Setting) (rest : List (List Value)) → [] ≡ map (change_of d settings) rest → rest ≡ []
none_left d settings [] is = refl
none_left d settings (old ∷ more) is = absurd (cc)

ended_puts : (d : Definition) (changes left : List Change) (start here : List (List Value)) → left ≡ [] → Goes d changes start left here
    → (settings : List Setting) (olds : List (List Value)) → changes ≡ map (change_of d settings) olds → record { rows = here; refusal = None } ≡ set_all d settings None 1 start olds
ended_puts d changes left start here end goes settings olds are =
    let went = goes settings olds are in
    ap (set_all d settings None 1 here) (sym (none_left d settings went.0 (sym end ∙ went.1))) ∙ went.2

-- all rows
pub set_ended : (d : Definition) (changes left : List Change) (start here : List (List Value)) → left ≡ [] → Goes d changes start left here → IsSet d changes start here None
set_ended d changes left start here end goes = record {
  rows = λ settings olds are. ap (λ (p : Puts). p.rows) (ended_puts d changes left start here end goes settings olds are);
  refusal = λ settings olds are. ap (λ (p : Puts). p.refusal) (ended_puts d changes left start here end goes settings olds are);
}

-- ---- changes taken back

-- the last of the changes is the first that is taken back
pub taken_back-push : (steps : List Done) (step : Done) (es : List (List Value × List Value))
    → taken_back (steps ++ step ∷ []) es ≡ taken_back steps (put_back step.was (remove_entry (is_at (values_cmp step.key)) es))
taken_back-push [] step es = refl
taken_back-push (first ∷ steps) step es = ap (λ (rest : _). put_back first.was (remove_entry (is_at (values_cmp first.key)) rest)) (taken_back-push steps step es)

was_back : (es : List (List Value × List Value)) (old : List Value) (was : Option (List Value × List Value)) → IsStrictlySortedBy values_cmp (keys_of es)
    → option_map (λ p. p.0) was ≡ lookup_key (is_at (values_cmp old)) es → option_map (λ p. p.1) was ≡ lookup (is_at (values_cmp old)) es
    → put_back was (remove_entry (is_at (values_cmp old)) es) ≡ es
was_back es old None rises key row = remove_absent (is_at (values_cmp old)) es (sym row)
was_back es old (Some was) rises key row = removed_back values_total (is_at (values_cmp old)) es was.0 was.1 rises (sym key) (sym row)

-- a change that was made last
pub change_back : (es : List (List Value × List Value)) (old k row : List Value) (was : Option (List Value × List Value)) → IsStrictlySortedBy values_cmp (keys_of es)
    → option_map (λ p. p.0) was ≡ lookup_key (is_at (values_cmp old)) es → option_map (λ p. p.1) was ≡ lookup (is_at (values_cmp old)) es
    → lookup (is_at (values_cmp k)) (remove_entry (is_at (values_cmp old)) es) ≡ None
    → put_back was (remove_entry (is_at (values_cmp k)) (insert_entry values_cmp (remove_entry (is_at (values_cmp old)) es) k row)) ≡ es
change_back es old k row was rises key value fresh =
    ap (put_back was) (remove_inserted values_cmp k row (remove_entry (is_at (values_cmp old)) es) (tied_itself values_total k) fresh)
    ∙ was_back es old was rises key value
