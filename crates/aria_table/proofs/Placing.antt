-- A row put into a table.
use Rattle.std.proofs.Common.{◌≡◌, ℕ, ◌+◌, ◌-◌, ◌<◌, ◌≤◌, ◌^◌, Bool, true, false, List, Option, Some, None, refl, sym, ap, subst, ◌∙◌, arith}
use Rattle.std.specs.Prelude.{IsTrue, Result, Ok, Err, IfOk, OnOk}
use Rattle.aria_page.specs.declared.place.Places.{Places}
use Rattle.aria_page.specs.declared.group.Last.TheVariants.{RowInsert}
use Rattle.aria_host.specs.declared.fault.Fault.{Fault}
use Rattle.aria_host.specs.declared.file_name.FileName.{FileName}
use Rattle.aria_host.specs.declared.file_name.FileName.TheVariants.{Keys, Rows}
use Rattle.aria_host.specs.Folder.{same_file}
use Rattle.aria_cache.specs.PageState.{PageState, Bodies}
use Rattle.aria_cache.specs.Calls.{SameSlots, StaysIn}
use Rattle.aria_keypage.specs.Item.{Item}
use Rattle.aria_block.specs.Causes.{rows_file, KeepsSound}
use Rattle.aria_block.specs.HoldsRows.{HoldsRows, PutsRow, TakesRow}
use Rattle.aria_key.specs.IndexFile.{IsIndexFile, HoldsTrees}
use Rattle.aria_key.specs.Reading.{keys_file}
use Rattle.aria_table.specs.Content.{Content, put_row, take_row}
use Rattle.aria_table.specs.Holds.{HasContent, rows_in}
use Rattle.aria_table.specs.Counting.{Counts}
use Rattle.aria_table.specs.Step.{HoldsContent, StepsTo}
use Rattle.aria_table.proofs.Undoing.{insert_row}
use Rattle.aria_table.proofs.Counted.{counted_pages}

-- the files of a slot have their names still
pub same_keys : (slot : ℕ) (old new : PageState) → SameSlots old new → keys_file new slot ≡ keys_file old slot
same_keys slot old new slots = ap (λ (f : ℕ → List ℕ). Keys (f slot)) slots.name

pub same_data : (slot : ℕ) (old new : PageState) → SameSlots old new → rows_file new slot ≡ rows_file old slot
same_data slot old new slots = ap (λ (f : ℕ → List ℕ). Rows (f slot)) slots.name

-- a call on the data file left the index file
pub index_kept : (tells logged : Bool) (keys slot : ℕ) (old new : PageState) (walks : ℕ → List Item) → StaysIn logged (rows_file old slot) old new → KeepsSound tells (rows_file old slot) old new
    → HoldsTrees keys (old.counts (keys_file old slot)) (old.bodies (keys_file old slot)) walks → HoldsTrees keys (new.counts (keys_file old slot)) (new.bodies (keys_file old slot)) walks
index_kept tells logged keys slot old new walks inside keeps h =
    let pages : new.bodies (keys_file old slot) ≡ old.bodies (keys_file old slot) = inside.others (keys_file old slot) refl in
    let count : new.counts (keys_file old slot) ≡ old.counts (keys_file old slot) = keeps.others (keys_file old slot) refl in
    record {
      header = h.header;
      levels = h.levels;
      free = h.free;
      file = subst (λ (n : ℕ). IsIndexFile keys n (new.bodies (keys_file old slot)) h.header h.levels h.free walks) (sym count)
          (subst (λ (b : ℕ → Option (List ℕ)). IsIndexFile keys (old.counts (keys_file old slot)) b h.header h.levels h.free walks) (sym pages) h.file);
    }

pub put_steps : (is_row : List ℕ → Bool) (keys slot : ℕ) (tells logged : Bool) (old mid new : PageState) (places : Places) (row : List ℕ) (c : Content) → HoldsContent is_row keys slot old c → IsTrue (is_row row) → c.rows + 1 < 2 ^ 32
    → SameSlots old mid → StaysIn logged (rows_file old slot) old mid → KeepsSound tells (rows_file old slot) old mid
    → PutsRow is_row places row (mid.counts (rows_file old slot)) (mid.bodies (rows_file old slot)) c.pieces c.kept
    → SameSlots mid new → StaysIn logged (keys_file mid slot) mid new → Counts (λ n. n + 1) (keys_file mid slot) mid new → new.counts ≡ mid.counts
    → StepsTo is_row keys slot (RowInsert places) c (put_row places row c) new
unfolding index_kept
put_steps is_row keys slot tells logged old mid new places row c h good low slots inside keeps puts slots_new inside_new counts same =
    let index : FileName = keys_file old slot in
    let data_file : FileName = rows_file old slot in
    let names : mid.name ≡ old.name = slots.name in
    let kept : HoldsTrees keys (mid.counts index) (mid.bodies index) h.walks = index_kept tells logged keys slot old mid h.walks inside keeps h.trees in
    let at_mid : keys_file mid slot ≡ index = same_keys slot old mid slots in
    let set : Counts (λ n. n + 1) index mid new = subst (λ (f : FileName). Counts (λ n. n + 1) f mid new) at_mid counts in
    let fits : rows_in h.trees.header + 1 < 2 ^ 32 = let n = h.number in omega (arith, low, n) in
    let more = counted_pages (λ n. n + 1) keys index mid new h.walks kept set same fits in
    let rows_at : new.bodies data_file ≡ mid.bodies data_file = (subst (λ (f : FileName). StaysIn logged f mid new) at_mid inside_new).others data_file refl in
    let rows_count : new.counts data_file ≡ mid.counts data_file = ap (λ (k : FileName → ℕ). k data_file) same in
    let rows : HoldsRows is_row (new.counts data_file) (new.bodies data_file) (put_row places row c).pieces (put_row places row c).kept =
    subst (λ (n : ℕ). HoldsRows is_row n (new.bodies data_file) (put_row places row c).pieces (put_row places row c).kept) (sym rows_count)
    (subst (λ (b : ℕ → Option (List ℕ)). HoldsRows is_row (mid.counts data_file) b (put_row places row c).pieces (put_row places row c).kept) (sym rows_at) puts.holds) in
    let held : HasContent is_row keys (new.counts index) (new.bodies index) (new.counts data_file) (new.bodies data_file) (put_row places row c) = record {
      walks = h.walks;
      trees = more.0;
      walk = h.walk;
      none = h.none;
      number = ap (λ (n : ℕ). n + 1) h.number ∙ sym more.1;
      data_file = rows;
    } in
    let last_keys : keys_file new slot ≡ index = same_keys slot mid new slots_new ∙ at_mid in
    let last_rows : rows_file new slot ≡ data_file = same_data slot mid new slots_new ∙ same_data slot old mid slots in
    record {
      held = subst (λ (f : FileName). HasContent is_row keys (new.counts f) (new.bodies f) (new.counts (rows_file new slot)) (new.bodies (rows_file new slot)) (put_row places row c)) (sym last_keys)
          (subst (λ (f : FileName). HasContent is_row keys (new.counts index) (new.bodies index) (new.counts f) (new.bodies f) (put_row places row c)) (sym last_rows) held);
      back = insert_row is_row keys (record { places = places; row = row }) c h.data_file.tiled puts.laid good puts.free;
    }

-- a row was taken, and then counted
pub taken : (is_row : List ℕ → Bool) (keys slot : ℕ) (tells logged : Bool) (old mid new : PageState) (places : Places) (row : List ℕ) (c : Content) → HoldsContent is_row keys slot old c → c.rows < 2 ^ 32
    → SameSlots old mid → StaysIn logged (rows_file old slot) old mid → KeepsSound tells (rows_file old slot) old mid
    → TakesRow is_row places row (mid.counts (rows_file old slot)) (mid.bodies (rows_file old slot)) c.pieces c.kept
    → SameSlots mid new → StaysIn logged (keys_file mid slot) mid new → Counts (λ n. n - 1) (keys_file mid slot) mid new → new.counts ≡ mid.counts → HoldsContent is_row keys slot new (take_row places c)
unfolding index_kept
taken is_row keys slot tells logged old mid new places row c h low slots inside keeps takes slots_new inside_new counts same =
    let index : FileName = keys_file old slot in
    let data_file : FileName = rows_file old slot in
    let kept : HoldsTrees keys (mid.counts index) (mid.bodies index) h.walks = index_kept tells logged keys slot old mid h.walks inside keeps h.trees in
    let at_mid : keys_file mid slot ≡ index = same_keys slot old mid slots in
    let set : Counts (λ n. n - 1) index mid new = subst (λ (f : FileName). Counts (λ n. n - 1) f mid new) at_mid counts in
    let fits : rows_in h.trees.header - 1 < 2 ^ 32 = let n = h.number in omega (arith, low, n) in
    let less = counted_pages (λ n. n - 1) keys index mid new h.walks kept set same fits in
    let rows_at : new.bodies data_file ≡ mid.bodies data_file = (subst (λ (f : FileName). StaysIn logged f mid new) at_mid inside_new).others data_file refl in
    let rows_count : new.counts data_file ≡ mid.counts data_file = ap (λ (k : FileName → ℕ). k data_file) same in
    let rows : HoldsRows is_row (new.counts data_file) (new.bodies data_file) (take_row places c).pieces (take_row places c).kept =
    subst (λ (n : ℕ). HoldsRows is_row n (new.bodies data_file) (take_row places c).pieces (take_row places c).kept) (sym rows_count)
    (subst (λ (b : ℕ → Option (List ℕ)). HoldsRows is_row (mid.counts data_file) b (take_row places c).pieces (take_row places c).kept) (sym rows_at) takes.holds) in
    let held : HasContent is_row keys (new.counts index) (new.bodies index) (new.counts data_file) (new.bodies data_file) (take_row places c) = record {
      walks = h.walks;
      trees = less.0;
      walk = h.walk;
      none = h.none;
      number = ap (λ (n : ℕ). n - 1) h.number ∙ sym less.1;
      data_file = rows;
    } in
    let last_keys : keys_file new slot ≡ index = same_keys slot mid new slots_new ∙ at_mid in
    let last_rows : rows_file new slot ≡ data_file = same_data slot mid new slots_new ∙ same_data slot old mid slots in
    subst (λ (f : FileName). HasContent is_row keys (new.counts f) (new.bodies f) (new.counts (rows_file new slot)) (new.bodies (rows_file new slot)) (take_row places c)) (sym last_keys)
    (subst (λ (f : FileName). HasContent is_row keys (new.counts index) (new.bodies index) (new.counts f) (new.bodies f) (take_row places c)) (sym last_rows) held)

pub taken_ok : {T : Type 0} (r : Result T Fault) (is_row : List ℕ → Bool) (keys slot : ℕ) (tells logged : Bool) (old mid new : PageState) (places : Places) (row : List ℕ) (c : Content) → HoldsContent is_row keys slot old c → c.rows < 2 ^ 32
    → SameSlots old mid → StaysIn logged (rows_file old slot) old mid → KeepsSound tells (rows_file old slot) old mid
    → TakesRow is_row places row (mid.counts (rows_file old slot)) (mid.bodies (rows_file old slot)) c.pieces c.kept
    → SameSlots mid new → OnOk r (StaysIn logged (keys_file mid slot) mid new) → OnOk r (Counts (λ n. n - 1) (keys_file mid slot) mid new) → OnOk r (new.counts ≡ mid.counts) → OnOk r (HoldsContent is_row keys slot new (take_row places c))
taken_ok (Ok x) is_row keys slot tells logged old mid new places row c h low slots inside keeps takes slots_new inside_new counts same = taken is_row keys slot tells logged old mid new places row c h low slots inside keeps takes slots_new inside_new counts same
taken_ok (Err e) is_row keys slot tells logged old mid new places row c h low slots inside keeps takes slots_new inside_new counts same = tt
