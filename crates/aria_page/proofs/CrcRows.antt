-- The table: row k holds for each byte what becomes of it 8 * (k + 1) bits on.
use Rattle.std.proofs.Common.{◌≡◌, ℕ, zero, suc, ◌+◌, ◌*◌, ◌<◌, Bool, true, false, cond, nat_eq, List, [], ◌∷◌, length, get_or, refl, sym, ap, ◌∙◌, arith, zero-add}
use Rattle.std.specs.Prelude.{IsTrue}
use Rattle.std.proofs.lemmas.Bool.{eqb-true}
use Rattle.aria_page.specs.Crc.{bits_on, bit_on}
use Rattle.aria_page.specs.declared.crc_table.TheConstants.{ROWS}
use Rattle.aria_page.proofs.CrcSteps.{bits_on-add}

-- n numbers in order, from x on
pub counted : ℕ → ℕ → List ℕ
counted zero x = []
counted (suc n) x = x ∷ counted n (suc x)

-- each number is eight bits on from the one in its place before
pub follows : List ℕ → List ℕ → Bool
follows [] [] = true
follows [] (b ∷ ys) = false
follows (a ∷ xs) [] = false
follows (a ∷ xs) (b ∷ ys) = cond (nat_eq b (bits_on 8 a)) (follows xs ys) false

-- each row follows the row before
pub rows_follow : List ℕ → List (List ℕ) → Bool
rows_follow row [] = true
rows_follow row (next ∷ rows) = cond (follows row next) (rows_follow next rows) false

table : IsTrue (rows_follow (counted 256 0) ROWS)
unfolding rows_follow follows counted bits_on bit_on
table = refl

-- both parts of a test that holds
both : (a b : Bool) → cond a b false ≡ true → (a ≡ true) × (b ≡ true)
both true b e = (refl, e)
both false b e = absurd cc

-- where a number of the row comes from
item : (xs ys : List ℕ) (i d : ℕ) → follows xs ys ≡ true → i < length xs → get_or ys i d ≡ bits_on 8 (get_or xs i 0)
unfolding follows
item [] ys i d e lt = absurd (omega arith)
item (a ∷ xs) [] i d e lt = absurd cc
item (a ∷ xs) (b ∷ ys) zero d e lt = eqb-true _ _ (both _ _ e).0
item (a ∷ xs) (b ∷ ys) (suc i) d e lt = item xs ys i d (both _ _ e).1 (omega arith)

length-follows : (xs ys : List ℕ) → follows xs ys ≡ true → length xs ≡ length ys
unfolding follows
length-follows [] [] e = refl
length-follows [] (b ∷ ys) e = absurd cc
length-follows (a ∷ xs) [] e = absurd cc
length-follows (a ∷ xs) (b ∷ ys) e = let same : length xs ≡ length ys = length-follows xs ys (both _ _ e).1 in ap suc same

row_item : (k : ℕ) (row : List ℕ) (rows : List (List ℕ)) (other : List ℕ) (i d : ℕ) → rows_follow row rows ≡ true → k < length rows → i < length row
    → get_or (get_or rows k other) i d ≡ bits_on (8 * (k + 1)) (get_or row i 0)
unfolding rows_follow
row_item k row [] other i d e lt below = absurd (omega arith)
row_item zero row (next ∷ rows) other i d e lt below = item row next i d (both _ _ e).0 below
row_item (suc k) row (next ∷ rows) other i d e lt below =
    let same = length-follows row next (both _ _ e).0 in
    let here = item row next i 0 (both _ _ e).0 below in
    let more : 8 * (suc k + 1) ≡ 8 + 8 * (k + 1) = omega arith in
    row_item k next rows other i d (both _ _ e).1 (omega arith) (omega (arith, same))
    ∙ ap (bits_on (8 * (k + 1))) here
    ∙ sym (bits_on-add 8 (8 * (k + 1)) (get_or row i 0)) ∙ ap (λ (n : ℕ). bits_on n (get_or row i 0)) (sym more)

-- the counted numbers, by place
get_or-counted : (n x i : ℕ) → i < n → get_or (counted n x) i 0 ≡ x + i
unfolding counted
get_or-counted zero x i lt = absurd (omega arith)
get_or-counted (suc n) x zero lt = omega arith
get_or-counted (suc n) x (suc i) lt = get_or-counted n (suc x) i (omega arith) ∙ omega arith

length-counted : (n x : ℕ) → length (counted n x) ≡ n
unfolding counted
length-counted zero x = refl
length-counted (suc n) x = ap suc (length-counted n (suc x))

-- each number of the table
pub table_item : (k i d : ℕ) (other : List ℕ) → k < 16 → i < 256 → get_or (get_or ROWS k other) i d ≡ bits_on (8 * (k + 1)) i
table_item k i d other low below =
    row_item k (counted 256 0) ROWS other i d table low (omega (arith, length-counted 256 0))
    ∙ ap (bits_on (8 * (k + 1))) (get_or-counted 256 0 i below ∙ zero-add i)
