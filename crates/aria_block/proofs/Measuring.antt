-- How many bytes of a row lie on its blob pages.
use Rattle.std.proofs.Common.{◌≡◌, ℕ, ◌+◌, ◌-◌, ◌*◌, ◌/◌, ◌%◌, ◌≤◌, min, Bool, true, false, cond, nat_le, inl, inr, List, ◌++◌, length, take, drop, refl, sym, ap, ◌∙◌, arith, subst, take-add}
use Rattle.std.specs.Prelude.{Result, Ok, Err, OnOk}
use Rattle.std.proofs.lemmas.Bool.{cases_Bool}
use Rattle.std.proofs.lemmas.Bool.Decides.{nat_tests}
use Rattle.std.proofs.lemmas.List.{length-take, length-drop, take-take, take-append-drop, take_all}
use Rattle.aria_block.specs.Pieces.{head_size, left_size, tail_size, blob_count, blob_of, tail_of}

piece_long : (row : List ℕ) (m at n : ℕ) → m ≤ length row → length (take n (drop at (take m row))) ≡ min (m - at) n
piece_long row m at n low = omega (arith, low, length-take n (drop at (take m row)), length-drop at (take m row), length-take m row)

pub blob_long : (row : List ℕ) (k : ℕ) → length (blob_of row k) ≡ min ((length row - tail_size (length row)) - (head_size (length row) + 8180 * k)) 8180
unfolding blob_of
blob_long row k = piece_long row (length row - tail_size (length row)) (head_size (length row) + 8180 * k) 8180 (omega arith)

-- a front of a list and the piece behind it
pub piece_behind : (row : List ℕ) (m at n : ℕ) → take at (take m row) ++ take n (drop at (take m row)) ≡ take (at + n) (take m row)
piece_behind row m at n = sym (take-add at n (take m row))

pub blob_behind : (row : List ℕ) (k : ℕ) → take (head_size (length row) + 8180 * k) (take (length row - tail_size (length row)) row) ++ blob_of row k
    ≡ take (head_size (length row) + 8180 * (k + 1)) (take (length row - tail_size (length row)) row)
unfolding blob_of
blob_behind row k =
    let front : List ℕ = take (length row - tail_size (length row)) row in
    let next : head_size (length row) + 8180 * k + 8180 ≡ head_size (length row) + 8180 * (k + 1) = next_at (head_size (length row)) in
    piece_behind row (length row - tail_size (length row)) (head_size (length row) + 8180 * k) 8180 ∙ ap (λ (a : ℕ). take a front) next
  where
    next_at : (h : ℕ) → h + 8180 * k + 8180 ≡ h + 8180 * (k + 1)
    next_at h = omega arith

-- ---- the sizes

pub head_within : (n : ℕ) → head_size n ≤ n
head_within n = elim (cases_Bool (nat_le n 5986)) [
  | inl whole ↦ rw whole (omega arith)
  | inr part ↦ rw part (grind (arith, nat_tests))
]

counted : (h n left tail count : ℕ) (small : Bool) → h ≤ n → left ≡ (n - h) % 8180 → tail ≡ cond small left 0 → count ≡ (n - h) / 8180 + cond small 0 1 → (h ≤ n - tail) × (n - tail ≤ h + 8180 * count)
counted h n left tail count true low l t c = (omega (arith, low, l, t, c), omega (arith, low, l, t, c))
counted h n left tail count false low l t c = (omega (arith, low, l, t, c), omega (arith, low, l, t, c))

-- the head's row bytes lie before the tail's, and the blob pages reach to the tail
pub sizes_meet : (n : ℕ) → (head_size n ≤ n - tail_size n) × (n - tail_size n ≤ head_size n + 8180 * blob_count n)
sizes_meet n = counted (head_size n) n (left_size n) (tail_size n) (blob_count n) (nat_le (left_size n) 4000) (head_within n) refl refl refl

few : (h n small : ℕ) → n ≤ 65540 → (n - h) / 8180 + small ≤ 8 + small
few h n small most = omega (arith, most)

pub blob_count-few : (n : ℕ) → n ≤ 65540 → blob_count n ≤ 9
blob_count-few n most = by (nat_le (left_size n) 4000)
  where
    by : (b : Bool) → (n - head_size n) / 8180 + cond b 0 1 ≤ 9
    by true = omega (arith, few (head_size n) n 0 most)
    by false = omega (arith, few (head_size n) n 1 most)

-- ---- a row from its front and its pieces

-- a front that reaches no further is one of the row
pub front_of : (row : List ℕ) (m at : ℕ) → at ≤ m → take at (take m row) ≡ take at row
front_of row m at le = take-take at m row le

take_past : (l : List ℕ) (at : ℕ) → length l ≤ at → take at l ≡ l
take_past l at le = take_all at l le

pub whole_front : (row : List ℕ) (m at : ℕ) → m ≤ at → m ≤ length row → take at (take m row) ≡ take m row
whole_front row m at le low = take_past (take m row) at (omega (arith, le, low, length-take m row))

pub tail_behind : (row : List ℕ) → take (length row - tail_size (length row)) row ++ tail_of row ≡ row
unfolding tail_of
tail_behind row = take-append-drop (length row - tail_size (length row)) row

-- ---- the row bytes that were read so far

pub text_first : (row out : List ℕ) → out ≡ take (head_size (length row)) row → out ≡ take (head_size (length row) + 8180 * 0) (take (length row - tail_size (length row)) row)
text_first row out is =
    let none : head_size (length row) + 8180 * 0 ≡ head_size (length row) = at (head_size (length row)) in
    is ∙ sym (ap (λ (n : ℕ). take n (take (length row - tail_size (length row)) row)) none ∙ front_of row (length row - tail_size (length row)) (head_size (length row)) (sizes_meet (length row)).0)
  where
    at : (h : ℕ) → h + 8180 * 0 ≡ h
    at h = omega arith

pub text_next : (row out new : List ℕ) (k : ℕ) → out ≡ take (head_size (length row) + 8180 * k) (take (length row - tail_size (length row)) row) → new ≡ out ++ blob_of row k
    → new ≡ take (head_size (length row) + 8180 * (k + 1)) (take (length row - tail_size (length row)) row)
text_next row out new k was is = is ∙ ap (λ (l : List ℕ). l ++ blob_of row k) was ∙ blob_behind row k

pub text_last : (row out : List ℕ) (k : ℕ) → k ≡ blob_count (length row) → out ≡ take (head_size (length row) + 8180 * k) (take (length row - tail_size (length row)) row) → out ≡ take (length row - tail_size (length row)) row
text_last row out k count is =
    is ∙ whole_front row (length row - tail_size (length row)) (head_size (length row) + 8180 * k)
    (subst (λ (n : ℕ). length row - tail_size (length row) ≤ head_size (length row) + 8180 * n) (sym count) (sizes_meet (length row)).1) (omega arith)

within : (n t left : ℕ) (small : Bool) → left ≤ n → t ≡ cond small left 0 → t ≤ n
within n t left true le is = omega (arith, le, is)
within n t left false le is = omega (arith, is)

tail_within : (n : ℕ) → tail_size n ≤ n
tail_within n = within n (tail_size n) (left_size n) (nat_le (left_size n) 4000) (least (head_size n)) refl
  where
    least : (h : ℕ) → (n - h) % 8180 ≤ n
    least h = omega arith

pub tail_long : (row : List ℕ) → length (tail_of row) ≡ tail_size (length row)
unfolding tail_of
tail_long row = let le = tail_within (length row) in let long = length-drop (length row - tail_size (length row)) row in omega (arith, le, long)

-- without a tail nothing is left
pub no_tail_left : (row out : List ℕ) → tail_size (length row) ≡ 0 → out ≡ take (length row - tail_size (length row)) row → out ≡ row
no_tail_left row out none is = is ∙ take_past row (length row - tail_size (length row)) (omega (arith, none))

-- a row of what was read before its tail, and the tail
pub rest_is : {T E : Type 0} (r : Result T E) (row mid out : List ℕ) → mid ≡ take (length row - tail_size (length row)) row → OnOk r (out ≡ mid ++ tail_of row) → OnOk r (out ≡ row)
rest_is (Ok x) row mid out was is = is ∙ ap (λ (l : List ℕ). l ++ tail_of row) was ∙ tail_behind row
rest_is (Err e) row mid out was is = tt
