-- An index file whose number of rows was set.
use Rattle.std.proofs.Common.{◌≡◌, ◌≢◌, ◌==◌, ◌&&◌, ◌⊎◌, inl, inr, ℕ, zero, suc, ◌+◌, ◌*◌, ◌-◌, ◌<◌, ◌≤◌, ◌^◌, Bool, true, false, cond, List, [], ◌∷◌, length, drop, refl, sym, ap, subst, ◌∙◌, arith}
use Rattle.std.specs.Prelude.{Option, Some, None, nat_lt}
use Rattle.std.proofs.lemmas.Bool.{ne_eqb, cases_lt}
use Rattle.std.proofs.lemmas.Bool.Decides.{nat_tests}
use Rattle.std.proofs.lemmas.List.{drop-take}
use Rattle.aria_page.specs.declared.page.TheConstants.{BODY_BYTES}
use Rattle.aria_page.specs.declared.edit.Edit.TheVariants.{Set}
use Rattle.aria_page.specs.Edit.{edited, all_edited}
use Rattle.aria_page.specs.Page.{with_bytes}
use Rattle.aria_page.specs.Number.{number, number_of}
use Rattle.aria_page.proofs.Numbers.{length-number, number_of-number, number_of-take}
use Rattle.aria_page.proofs.Pages.{length-with_bytes, take-with_bytes, drop-with_bytes, drop-with_bytes-behind}
use Rattle.aria_host.specs.declared.file_name.FileName.{FileName}
use Rattle.aria_host.proofs.Files.{same_file-refl}
use Rattle.aria_cache.specs.PageState.{PageState, Bodies, with_edits}
use Rattle.aria_keypage.specs.Item.{Item}
use Rattle.aria_key.specs.Tree.{Placed}
use Rattle.aria_key.specs.Owned.{times_in}
use Rattle.aria_key.specs.IndexFile.{root_in, free_in, IsFree, IsChain, IsTreeOf, times_free, times_all, IsIndexFile, HoldsTrees}
use Rattle.aria_key.proofs.Filing.{tree_of-still}
use Rattle.aria_key.proofs.Spare.{chain-still}
use Rattle.aria_table.specs.declared.layout.TheConstants.{ROWS_AT}
use Rattle.aria_table.specs.Holds.{rows_in}
use Rattle.aria_table.specs.Counting.{Counts}

-- ---- the header's numbers

pub apart : (a at : ℕ) (bytes body : List ℕ) → ((a + 4 ≤ at) ⊎ (at + length bytes ≤ a)) → at + length bytes ≤ length body → number_of 4 (drop a (with_bytes at bytes body)) ≡ number_of 4 (drop a body)
apart a at bytes body (inl ahead) fits =
    sym (number_of-take 4 (drop a (with_bytes at bytes body)))
    ∙ ap (number_of 4) (sym (drop-take a 4 (with_bytes at bytes body)) ∙ ap (drop a) (take-with_bytes (a + 4) at bytes body ahead (omega (arith, fits))) ∙ drop-take a 4 body)
    ∙ number_of-take 4 (drop a body)
apart a at bytes body (inr behind) fits = ap (number_of 4) (drop-with_bytes-behind a at bytes body behind (omega (arith, fits)))

here : (at x : ℕ) (body : List ℕ) → x < 256 ^ 4 → at + 4 ≤ length body → number_of 4 (drop at (with_bytes at (number 4 x) body)) ≡ x
here at x body low fits =
    ap (number_of 4) (drop-with_bytes at (at + 4) (number 4 x) body (omega (arith, fits)) (omega (arith, length-number 4 x))) ∙ number_of-number 4 x (drop (at + 4) body) low

-- ---- the file

module _ (keys count : ℕ) (old new : ℕ → Option (List ℕ)) (walks : ℕ → List Item) (h : HoldsTrees keys count old walks) (n : ℕ) (low : n < 2 ^ 32)
    (first : new 0 ≡ Some (with_bytes ROWS_AT (number 4 n) h.header)) (others : (m : ℕ) → 0 < m → new m ≡ old m) where
  abbrev set : List ℕ
  set = with_bytes ROWS_AT (number 4 n) h.header

  root_same : (key : ℕ) → root_in set key ≡ root_in h.header key
  root_same key = apart (32 + 4 * key) 19 (number 4 n) h.header (inr (omega (arith, length-number 4 n))) (omega (arith, length-number 4 n, h.file.size))

  free_same : free_in set ≡ free_in h.header
  free_same = apart 23 19 (number 4 n) h.header (inr (omega (arith, length-number 4 n))) (omega (arith, length-number 4 n, h.file.size))

  none_first : times_all 0 keys h.levels + times_free 0 h.free ≡ 0
  none_first = h.file.once 0

  part_of_all : (m key ks : ℕ) → key < ks → times_in m (h.levels key) ≤ times_all m ks h.levels
  part_of_all m key zero lt = absurd (omega (arith, lt))
  part_of_all m key (suc ks) lt = elim (cases_lt key ks) as (λ _. times_in m (h.levels key) ≤ times_in m (h.levels ks) + times_all m ks h.levels) [
    | inl below ↦ let rest = part_of_all m key ks below in omega (arith, rest)
    | inr above ↦ let same : key ≡ ks = omega (arith, lt, above) in omega (arith, ap (λ (k : ℕ). times_in m (h.levels k)) same)
  ]

  pub counted : HoldsTrees keys count new walks
  counted = record {
    header = set;
    levels = h.levels;
    free = h.free;
    file = record {
      there = first;
      size = length-with_bytes 19 (number 4 n) h.header (omega (arith, length-number 4 n, h.file.size)) ∙ h.file.size;
      some = h.file.some;
      few = h.file.few;
      trees = λ key lt. subst (λ (r : ℕ). IsTreeOf new count key r (h.levels key) (walks key)) (sym (root_same key))
          (tree_of-still old new count count key (root_in h.header key) (h.levels key) (walks key) (omega arith) (λ m some. others m (off_first key m lt some)) (h.file.trees key lt));
      chain = subst (λ (f : ℕ). IsChain new f h.free) (sym free_same) (chain-still old new (free_in h.header) h.free (λ m some. others m (off_chain m some)) h.file.chain);
      once = h.file.once;
    };
  }
    where
      off_first : (key m : ℕ) → key < keys → 0 < times_in m (h.levels key) → 0 < m
      off_first key zero lt some = let part = part_of_all 0 key keys lt in absurd (omega (arith, some, part, none_first))
      off_first key (suc m) lt some = omega arith

      off_chain : (m : ℕ) → 0 < times_free m h.free → 0 < m
      off_chain zero some = absurd (omega (arith, some, none_first))
      off_chain (suc m) some = omega arith

  pub counted_rows : rows_in counted.header ≡ n
  unfolding counted with_bytes
  counted_rows = here 19 n h.header (omega (arith, low)) (omega (arith, h.file.size))

-- the same of pages whose number was set
pub counted_pages : (change : ℕ → ℕ) (keys : ℕ) (file : FileName) (old new : PageState) (walks : ℕ → List Item) (h : HoldsTrees keys (old.counts file) (old.bodies file) walks) → Counts change file old new → new.counts ≡ old.counts
    → change (rows_in h.header) < 2 ^ 32 → (t : HoldsTrees keys (new.counts file) (new.bodies file) walks) × (rows_in t.header ≡ change (rows_in h.header))
unfolding edited
counted_pages change keys file old new walks h set same fits =
    let n : set.count ≡ change (rows_in h.header) = set.is h.header h.file.there fits in
    let first : new.bodies file 0 ≡ Some (with_bytes ROWS_AT (number 4 set.count) h.header) = ap (λ (b : Bodies). b file 0) set.bodies ∙ at_first (old.bodies file 0) h.file.there in
    let others : (m : ℕ) → 0 < m → new.bodies file m ≡ old.bodies file m = λ m some. ap (λ (b : Bodies). b file m) set.bodies ∙ away m some in
    let t : HoldsTrees keys (old.counts file) (new.bodies file) walks = counted keys (old.counts file) (old.bodies file) (new.bodies file) walks h set.count set.fits first others in
    let rows : rows_in t.header ≡ change (rows_in h.header) = counted_rows keys (old.counts file) (old.bodies file) (new.bodies file) walks h set.count set.fits first others ∙ n in
    subst (λ (k : FileName → ℕ). (t : HoldsTrees keys (k file) (new.bodies file) walks) × (rows_in t.header ≡ change (rows_in h.header))) (sym same) (t, rows)
  where
    at_first : (o : Option (List ℕ)) → o ≡ Some h.header → with_edits file 0 (Set ROWS_AT (number 4 set.count) ∷ []) old.bodies file 0 ≡ Some (with_bytes ROWS_AT (number 4 set.count) h.header)
    at_first o is = rw (same_file-refl file, h.file.there) refl

    away : (m : ℕ) → 0 < m → with_edits file 0 (Set ROWS_AT (number 4 set.count) ∷ []) old.bodies file m ≡ old.bodies file m
    away m some = rw (same_file-refl file, ne_eqb 0 m (λ same. omega (arith, same, some))) refl
