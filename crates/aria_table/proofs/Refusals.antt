-- Refusals by the tests that were made.
use Rattle.std.proofs.Common.{◌≡◌, ℕ, Bool, true, false, Option, Some, None, List, [], ◌∷◌, nat_le, refl, sym, ap, ◌∙◌, length, map, nat_lt}
use Rattle.std.specs.Option.{is_some}
use Rattle.std.specs.List.{list_any, AllByRecursion}
use Rattle.std.specs.Map.{keys_of}
use Rattle.std.specs.Ordering.{is_eq}
use Rattle.aria_value.specs.declared.value.Value.{Value}
use Rattle.aria_value.specs.declared.definition.Definition.{Definition}
use Rattle.aria_value.specs.Order.{key_columns, key_cmp}
use Rattle.aria_value.specs.Rows.{Fits, IsRow}
use Rattle.aria_value.specs.Stored.{row_length}
use Rattle.aria_value.specs.Entry.{entry_bytes}
use Rattle.aria_model.specs.declared.refusal.Refusal.{Refusal}
use Rattle.aria_model.specs.declared.refusal.Refusal.TheVariants.{Duplicate, RowTooLong, RowsFull}
use Rattle.aria_model.specs.declared.refusal.Exception.{Exception}
use Rattle.aria_model.specs.Step.{bad_column, bad_value, first_key_name, first_of, full_at, refused_where, row_refusal}
use Rattle.aria_host.specs.declared.file_name.FileName.{FileName}
use Rattle.aria_cache.specs.PageState.{PageState, Counts}
use Rattle.aria_cache.specs.Calls.{SameSlots}
use Rattle.aria_block.specs.Causes.{rows_file}
use Rattle.aria_key.specs.Reading.{keys_file}
use Rattle.aria_table.specs.Content.{Content}
use Rattle.aria_table.specs.Refusing.{has_entry, unplaced, full, insert_refusal}
use Rattle.aria_table.proofs.Fitting.{is_fit}
use Rattle.aria_table.proofs.Matching.{entry_of_row}
use Rattle.aria_table.proofs.Placing.{same_keys, same_data}

refused_first : (fails : Bool) (why : Refusal) (more : List (Option Refusal)) → fails ≡ true → first_of (refused_where fails why ∷ more) ≡ Some why
refused_first true why more is = refl
refused_first false why more is = absurd (cc)

alone : (r : Option Refusal) → first_of (r ∷ []) ≡ r
alone (Some why) = refl
alone None = refl

refused_later : (fails : Bool) (why : Refusal) (r : Option Refusal) → fails ≡ false → first_of (refused_where fails why ∷ r ∷ []) ≡ r
refused_later true why r is = absurd (cc)
refused_later false why r is = alone r

-- another row has the entry
pub twice : (d : Definition) (c : Content) (entry : List ℕ) (found : Bool) → found ≡ has_entry entry (c.walks 0) → found ≡ true → unplaced d c entry ≡ Some (Duplicate (first_key_name d.keys))
twice d c entry found is there = refused_first (has_entry entry (c.walks 0)) (Duplicate (first_key_name d.keys)) (refused_where (nat_le d.max_rows c.rows) RowsFull ∷ []) (sym is ∙ there)

-- no other row has it
pub once : (d : Definition) (c : Content) (entry : List ℕ) (found : Bool) (rows : ℕ) (r : Option Refusal) → found ≡ has_entry entry (c.walks 0) → found ≡ false → rows ≡ c.rows → r ≡ refused_where (nat_le d.max_rows rows) RowsFull → r ≡ unplaced d c entry
once d c entry found rows r is absent count answer =
    answer ∙ ap (λ (n : ℕ). refused_where (nat_le d.max_rows n) RowsFull) count
    ∙ sym (refused_later (has_entry entry (c.walks 0)) (Duplicate (first_key_name d.keys)) (refused_where (nat_le d.max_rows c.rows) RowsFull) (sym is ∙ absent))

-- ---- three tests, one behind another

-- the first passes, and the second refuses
pub second_refuses : (a b f q r : Option Refusal) → q ≡ a → is_some q ≡ false → r ≡ b → is_some r ≡ true → r ≡ first_of (a ∷ b ∷ f ∷ [])
second_refuses (Some why) b f q r passes holds is refuses = absurd (cc)
second_refuses None (Some why) f q r passes holds is refuses = is
second_refuses None None f q r passes holds is refuses = absurd (cc)

-- the third decides
pub third_decides : (a b f p q r : Option Refusal) → p ≡ a → is_some p ≡ false → q ≡ b → is_some q ≡ false → r ≡ f → r ≡ first_of (a ∷ b ∷ f ∷ [])
third_decides (Some why) b f p q r passes holds again still is = absurd (cc)
third_decides None (Some why) f p q r passes holds again still is = absurd (cc)
third_decides None None f p q r passes holds again still is = is ∙ sym (alone f)

-- calls that change neither slots nor numbers of pages leave both files as full as they were
pub full_moved : (slot : ℕ) (a b : PageState) → SameSlots a b → b.counts ≡ a.counts → full (b.counts (keys_file b slot)) (b.counts (rows_file b slot)) ≡ full (a.counts (keys_file a slot)) (a.counts (rows_file a slot))
full_moved slot a b slots counts =
    ap (λ (f : FileName). full (b.counts f) (b.counts (rows_file b slot))) (same_keys slot a b slots)
    ∙ ap (λ (f : FileName). full (b.counts (keys_file a slot)) (b.counts f)) (same_data slot a b slots)
    ∙ ap (λ (k : Counts). full (k (keys_file a slot)) (k (rows_file a slot))) counts

-- ---- the model's refusals

as_one : (a b c d e : Option Refusal) → first_of (first_of (a ∷ b ∷ []) ∷ first_of (c ∷ d ∷ []) ∷ e ∷ []) ≡ first_of (a ∷ b ∷ c ∷ d ∷ e ∷ [])
as_one (Some why) b c d e = refl
as_one None (Some why) c d e = refl
as_one None None (Some why) d e = refl
as_one None None None (Some why) e = refl
as_one None None None None e = refl

same_where : (a b : Option Refusal) (x y : Bool) (why : Refusal) (d e : Option Refusal) → (first_of (a ∷ b ∷ []) ≡ None → x ≡ y) → first_of (a ∷ b ∷ refused_where x why ∷ d ∷ e ∷ []) ≡ first_of (a ∷ b ∷ refused_where y why ∷ d ∷ e ∷ [])
same_where (Some other) b x y why d e same = refl
same_where None (Some other) x y why d e same = refl
same_where None None x y why d e same = ap (λ (z : Bool). first_of (refused_where z why ∷ d ∷ e ∷ [])) (same refl)

-- Where the first key's walk has the entries of the rows, and these are counted, a row is refused as the model says.
pub refused_as_model : (d : Definition) (exception : Option Exception) (nth : ℕ) (old : List (List Value)) (row : List Value) (c : Content) (index rows : ℕ)
    → AllByRecursion Fits row → AllByRecursion (IsRow d) old → keys_of (c.walks 0) ≡ map (λ r. entry_bytes d 0 r) old → c.rows ≡ length old → full index rows ≡ full_at exception nth
    → insert_refusal d c index rows row ≡ row_refusal d exception nth old row
refused_as_model d exception nth old row c index rows fits all walk count room =
    let bad : Option Refusal = bad_value (bad_column (key_columns d.keys 0) 0 [] d.columns row) in
    let long : Option Refusal = refused_where (nat_lt 65536 (row_length row)) RowTooLong in
    let why : Refusal = Duplicate (first_key_name d.keys) in
    let has : Bool = has_entry (entry_bytes d 0 row) (c.walks 0) in
    let twice_there : Bool = list_any (λ other. is_eq (key_cmp d 0 other row)) old in
    as_one bad long (refused_where has why) (refused_where (nat_le d.max_rows c.rows) RowsFull) (full index rows)
    ∙ same_where bad long has twice_there why (refused_where (nat_le d.max_rows c.rows) RowsFull) (full index rows)
    (λ none. entry_of_row d row old (c.walks 0) (record { fits = fits; is = is_fit d row None (sym none) refl }) all walk)
    ∙ ap (λ (n : ℕ). first_of (bad ∷ long ∷ refused_where twice_there why ∷ refused_where (nat_le d.max_rows n) RowsFull ∷ full index rows ∷ [])) count
    ∙ ap (λ (r : Option Refusal). first_of (bad ∷ long ∷ refused_where twice_there why ∷ refused_where (nat_le d.max_rows (length old)) RowsFull ∷ r ∷ [])) room
