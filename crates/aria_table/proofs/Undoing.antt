-- Each of the four operations is taken back by its record.
use Rattle.std.proofs.Common.{◌≡◌, ℕ, ◌+◌, ◌-◌, ◌<◌, ◌≤◌, Bool, true, false, cond, ◌==◌, Some, None, List, refl, sym, ap, ◌∙◌, subst, arith, eq-eqb}
use Rattle.std.specs.declared.cmp.Ordering.TheVariants.{Equal}
use Rattle.std.specs.BTreeMap.{insert_entry}
use Rattle.std.specs.Map.{keys_of, lookup, remove_entry}
use Rattle.std.specs.List.Sorted.{IsStrictlySortedBy}
use Rattle.std.specs.Ordering.{nat_cmp}
use Rattle.std.specs.Cmp.Lexicographic.{slice_cmp, nat_list_cmp_total}
use Rattle.std.specs.Cmp.{tied_itself}
use Rattle.std.proofs.lemmas.Map.Lookups.{exact_bytes}
use Rattle.std.proofs.lemmas.Bool.{eqb-true}
use Rattle.aria_page.specs.declared.group.Last.TheVariants.{RowInsert, RowDelete, KeyInsert, KeyDelete}
use Rattle.aria_block.specs.Pieces.{is_one_of}
use Rattle.aria_table.specs.Content.{Content, Walk, with_walk, same_entry, put_row, take_row, put_entry, take_entry, TakesBack}
use Rattle.std.specs.Prelude.{IsTrue}
use Rattle.aria_block.specs.Rows.{Kept, IsLaid, IsTiled}
use Rattle.aria_block.proofs.Putting.{taken_put, put_taken_row, taken_kept, put_kept}
use Rattle.aria_block.proofs.Tiling.{no_head, at_head}
use Rattle.aria_table.proofs.Entries.{remove_inserted, taken_back, taken_gone, inserted_found}

-- ---- rows

-- a row put at free places
pub insert_row : (is_row : List ℕ → Bool) (keys : ℕ) (k : Kept) (old : Content) → IsTiled is_row old.pieces old.kept → IsLaid k → IsTrue (is_row k.row)
    → ((page slot : ℕ) → is_one_of k.places page slot ≡ true → old.pieces page slot ≡ None) → TakesBack keys (RowInsert k.places) old (put_row k.places k.row old)
insert_row is_row keys k old tiled laid good free = record {
  fits = (k.row, rw (eq-eqb k.places.head.page k.places.head.page refl, eq-eqb k.places.head.slot k.places.head.slot refl) refl, omega arith);
  back = λ i. record { pieces = taken_put k.places k.row old.pieces free i; kept = taken_kept k old.kept (no_head is_row old.pieces old.kept tiled k laid good free) i; walks = old.walks; rows = count i };
}
  where
    count : old.rows + 1 - 1 ≡ old.rows
    count = omega arith

-- a row taken
pub delete_row : (is_row : List ℕ → Bool) (keys : ℕ) (k : Kept) (old : Content) → IsTiled is_row old.pieces old.kept → old.kept k.places.head.page k.places.head.slot ≡ Some k → 1 ≤ old.rows
    → TakesBack keys (RowDelete k.places k.row) old (take_row k.places old)
delete_row is_row keys k old tiled there some = record {
  fits = λ page slot at. rw at refl;
  back = λ i. record { pieces = put_taken_row k.places k.row old.pieces (tiled.has k.places.head.page k.places.head.slot k there) i; kept = put_kept k old.kept (at_head is_row old.pieces old.kept tiled k there) i; walks = old.walks; rows = count i };
}
  where
    count : old.rows - 1 + 1 ≡ old.rows
    count = omega (arith, some)

-- ---- entries

walk_twice : (b : Bool) (new was : Walk) → (b ≡ true → new ≡ was) → (mid : Walk) → cond b new (cond b mid was) ≡ was
walk_twice true new was is mid = is refl
walk_twice false new was is mid = refl

-- a walk changed and changed back
walk_back : (key : ℕ) (mid new : Walk) (walks : ℕ → Walk) → new ≡ walks key → with_walk key new (with_walk key mid walks) ≡ walks
walk_back key mid new walks is = λ i k. walk_twice (key == k) new (walks k) (λ same. is ∙ ap walks (eqb-true key k same)) mid i

-- the walk that was put for a key
walk_there : (b : Bool) → b ≡ true → (new was : Walk) → cond b new was ≡ new
walk_there b is new was = rw is refl

pub insert_entry_back : (keys key : ℕ) (entry : List ℕ) (target : ℕ) (old : Content) → key < keys → lookup (same_entry entry) (old.walks key) ≡ None
    → TakesBack keys (KeyInsert key target entry) old (put_entry key entry target old)
insert_entry_back keys key entry target old known none =
    let itself : slice_cmp nat_cmp entry entry ≡ Equal = tied_itself nat_list_cmp_total entry in
    let put : Walk = insert_entry (slice_cmp nat_cmp) (old.walks key) entry target in
    let here : with_walk key put old.walks key ≡ put = walk_there (key == key) (eq-eqb key key refl) put (old.walks key) in
    record {
      fits = (known, subst (λ (w : Walk). lookup (same_entry entry) w ≡ Some target) (sym here) (inserted_found (slice_cmp nat_cmp) entry target (old.walks key) itself none));
      back = λ i. record {
        pieces = old.pieces;
        kept = old.kept;
        walks = walk_back key put (remove_entry (same_entry entry) (with_walk key put old.walks key)) old.walks
            (ap (remove_entry (same_entry entry)) here ∙ remove_inserted (slice_cmp nat_cmp) entry target (old.walks key) itself none) i;
        rows = old.rows;
      };
    }

pub remove_entry_back : (keys key : ℕ) (entry : List ℕ) (target : ℕ) (old : Content) → key < keys → lookup (same_entry entry) (old.walks key) ≡ Some target
    → IsStrictlySortedBy (slice_cmp nat_cmp) (keys_of (old.walks key)) → TakesBack keys (KeyDelete key target entry) old (take_entry key entry old)
remove_entry_back keys key entry target old known there rises =
    let rest : Walk = remove_entry (same_entry entry) (old.walks key) in
    let here : with_walk key rest old.walks key ≡ rest = walk_there (key == key) (eq-eqb key key refl) rest (old.walks key) in
    record {
      fits = (known, subst (λ (w : Walk). lookup (same_entry entry) w ≡ None) (sym here) (taken_gone exact_bytes nat_list_cmp_total entry target (old.walks key) rises there));
      back = λ i. record {
        pieces = old.pieces;
        kept = old.kept;
        walks = walk_back key rest (insert_entry (slice_cmp nat_cmp) (with_walk key rest old.walks key) entry target) old.walks
            (ap (λ (w : Walk). insert_entry (slice_cmp nat_cmp) w entry target) here ∙ taken_back exact_bytes nat_list_cmp_total entry target (old.walks key) rises there) i;
        rows = old.rows;
      };
    }
