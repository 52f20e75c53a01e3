-- A page and its pattern changed: all other pages stay as they are.
use Rattle.std.proofs.Common.{◌≡◌, ◌≢◌, ℕ, ◌%◌, inl, inr, Option, List, length, refl, sym, ap, ◌∙◌, arith, subst, eq-eqb, get_or}
use Rattle.std.specs.Prelude.{slice_index}
use Rattle.std.proofs.lemmas.Bool.{cases_eq, ne_eqb}
use Rattle.std.proofs.lemmas.List.{get_or-take}
use Rattle.aria_bitmap.specs.Code.{code}
use Rattle.aria_bitmap.specs.Pattern.{pattern, SetsPattern}
use Rattle.aria_block.specs.Pieces.{Piece, Pieces}
use Rattle.aria_block.specs.DataFile.{HoldsPage, map_of, nth_of, IsDataFile, on_page}

-- one page of a file has become another, and its pattern that one's code
pub record PageChanged (n : ℕ) (text : List ℕ) (old new : ℕ → List ℕ) : Type 0 where
  pub here : new n ≡ text
  pub others : (m : ℕ) → m ≢ n → m ≢ map_of n → new m ≡ old m
  pub map : SetsPattern (nth_of n) (code text) (old (map_of n)) (new (map_of n))
  pub map_long : length (new (map_of n)) ≡ 8181

pub page_changed : (count n : ℕ) (text : List ℕ) (f : ℕ → Option Piece) (old new : ℕ → List ℕ) (pieces : Pieces) → n % 21809 ≢ 0 → IsDataFile count old pieces → PageChanged n text old new
    → length text ≡ 8181 → HoldsPage text f → IsDataFile count new (on_page n f pieces)
page_changed count n text f old new pieces data_page file changed long holds = record {
  long = λ m. elim (cases_eq m n) [
    | inl same ↦ subst (λ (k : ℕ). length (new k) ≡ 8181) (sym same) (ap length changed.here ∙ long)
    | inr other ↦ elim (cases_eq m (map_of n)) [
      | inl map ↦ subst (λ (k : ℕ). length (new k) ≡ 8181) (sym map) changed.map_long
      | inr apart ↦ ap length (changed.others m other apart) ∙ file.long m
    ]
  ];
  map = λ m is low. elim (cases_eq m (map_of n)) [
    | inl map ↦ subst (λ (k : ℕ). slice_index (new k) 0 ≡ 2) (sym map) (first_kept ∙ ap (λ (k : ℕ). slice_index (old k) 0) (sym map) ∙ file.map m is low)
    | inr apart ↦ ap (λ (t : List ℕ). slice_index t 0) (changed.others m (λ same. unlike m is (sym same)) apart) ∙ file.map m is low
  ];
  none = λ m slot map. rw (ne_eqb n m (unlike m map)) (file.none m slot map);
  page = λ m plain. elim (cases_eq n m) [
    | inl same ↦ subst (λ (k : ℕ). HoldsPage (new k) (on_page n f pieces k)) same (rw (eq-eqb n n refl) (subst (λ (t : List ℕ). HoldsPage t f) (sym changed.here) holds))
    | inr other ↦ rw (ne_eqb n m other) (subst (λ (t : List ℕ). HoldsPage t (pieces m)) (sym (stays m other plain)) (file.page m plain))
  ];
  code = λ m plain. elim (cases_eq n m) [
    | inl same ↦ subst (λ (k : ℕ). pattern (new (map_of k)) (nth_of k) ≡ code (new k)) same (changed.map.here ∙ ap code (sym changed.here))
    | inr other ↦ kept m other plain ∙ file.code m plain ∙ ap code (sym (stays m other plain))
  ];
}
  where
    first_kept : slice_index (new (map_of n)) 0 ≡ slice_index (old (map_of n)) 0
    first_kept = sym (get_or-take 1 (new (map_of n)) 0 0 (omega arith)) ∙ ap (λ (l : List ℕ). get_or l 0 0) changed.map.before ∙ get_or-take 1 (old (map_of n)) 0 0 (omega arith)

    unlike : (m : ℕ) → m % 21809 ≡ 0 → n ≢ m
    unlike m map same = data_page (ap (λ (k : ℕ). k % 21809) same ∙ map)

    -- a page that isn't a bitmap page isn't the one over n
    plain_map : (m : ℕ) → m % 21809 ≢ 0 → m ≢ map_of n
    plain_map m plain same = plain (ap (λ (k : ℕ). k % 21809) same ∙ whole)
      where
        whole : map_of n % 21809 ≡ 0
        whole = omega arith

    stays : (m : ℕ) → n ≢ m → m % 21809 ≢ 0 → new m ≡ old m
    stays m other plain = changed.others m (λ same. other (sym same)) (plain_map m plain)

    kept : (m : ℕ) → n ≢ m → m % 21809 ≢ 0 → pattern (new (map_of m)) (nth_of m) ≡ pattern (old (map_of m)) (nth_of m)
    kept m other plain = elim (cases_eq (map_of m) (map_of n)) [
      | inl same ↦
          ap (λ (k : ℕ). pattern (new k) (nth_of m)) same
          ∙ changed.map.others (nth_of m) (omega (arith, same, other, plain, data_page))
          ∙ ap (λ (k : ℕ). pattern (old k) (nth_of m)) (sym same)
      | inr apart ↦ ap (λ (t : List ℕ). pattern t (nth_of m)) (changed.others (map_of m) not_n apart)
    ]
      where
        not_n : map_of m ≢ n
        not_n same = data_page (ap (λ (k : ℕ). k % 21809) (sym same) ∙ whole)
          where
            whole : map_of m % 21809 ≡ 0
            whole = omega arith
