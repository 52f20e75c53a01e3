-- How many bytes of a row go where.
use Rattle.std.proofs.Common.{◌≡◌, ℕ, ◌+◌, ◌*◌, ◌-◌, ◌/◌, ◌%◌, ◌<◌, ◌≤◌, ◌⊎◌, inl, inr, false, nat_le, refl, ◌∙◌, arith}
use Rattle.std.proofs.lemmas.Bool.{cases_Bool, leb-true, le-leb}
use Rattle.aria_block.specs.Pieces.{head_size, left_size, tail_size, blob_count}

not_below : (a b : ℕ) → b < a → nat_le a b ≡ false
not_below a b above = elim (cases_Bool (nat_le a b)) [
  | inl low ↦ let at : a ≤ b = leb-true a b low in absurd (omega (arith, at, above))
  | inr high ↦ high
]

head_short : (n : ℕ) → n ≤ 5986 → head_size n ≡ n
head_short n short = rw (le-leb n 5986 short) refl

pub head_long : (n : ℕ) → 5986 < n → head_size n ≡ 1986
head_long n long = rw (not_below n 5986 long) refl

tail_few : (n : ℕ) → left_size n ≤ 4000 → tail_size n ≡ left_size n
tail_few n few = rw (le-leb (left_size n) 4000 few) refl

tail_many : (n : ℕ) → 4000 < left_size n → tail_size n ≡ 0
tail_many n many = rw (not_below (left_size n) 4000 many) refl

blobs_few : (n : ℕ) → left_size n ≤ 4000 → blob_count n ≡ (n - head_size n) / 8180 + 0
blobs_few n few = rw (le-leb (left_size n) 4000 few) refl

blobs_many : (n : ℕ) → 4000 < left_size n → blob_count n ≡ (n - head_size n) / 8180 + 1
blobs_many n many = rw (not_below (left_size n) 4000 many) refl

cases : (a b : ℕ) → (a ≤ b) ⊎ (b < a)
cases a b = elim (cases_Bool (nat_le a b)) [
  | inl low ↦ inl (leb-true a b low)
  | inr high ↦ inr (above high)
]
  where
    above : nat_le a b ≡ false → b < a
    above high = grind (arith, le-leb a b)

-- A short row has its head alone.
pub short_row : (n : ℕ) → n ≤ 5986 → (blob_count n ≡ 0) × (tail_size n ≡ 0)
short_row n short =
    let head : head_size n ≡ n = head_short n short in
    let left : left_size n ≡ 0 = omega (arith, head) in
    let few : left_size n ≤ 4000 = omega (arith, left) in
    (blobs_few n few ∙ omega (arith, head), tail_few n few ∙ left)

-- how many blob pages a long row has, and how many bytes the pieces have together
pub record LongRow (n : ℕ) : Type 0 where
  pub some : 1 ≤ blob_count n
  pub many : blob_count n ≤ 8
  pub ends : (k : ℕ) → k < blob_count n → 1986 + 8180 * k ≤ n - tail_size n
  pub bytes : 8180 * blob_count n + tail_size n ≤ n + 2194
  pub tail : tail_size n ≤ n

pub long_row : (n : ℕ) → 5986 < n → n ≤ 65540 → LongRow n
long_row n long most =
    let head : head_size n ≡ 1986 = head_long n long in
    let left : left_size n ≡ (n - 1986) % 8180 = rw head refl in
    elim (cases (left_size n) 4000) [
      | inl few ↦
          let tail : tail_size n ≡ (n - 1986) % 8180 = tail_few n few ∙ left in
          let blobs : blob_count n ≡ (n - 1986) / 8180 + 0 = blobs_few n few ∙ rw head refl in
          let small : (n - 1986) % 8180 ≤ 4000 = omega (arith, left, few) in
          record {
            some = omega (arith, blobs, small, long);
            many = omega (arith, blobs, most);
            ends = λ k low. omega (arith, blobs, tail, low);
            bytes = omega (arith, blobs, tail, long);
            tail = omega (arith, tail);
          }
      | inr many ↦
          let tail : tail_size n ≡ 0 = tail_many n many in
          let blobs : blob_count n ≡ (n - 1986) / 8180 + 1 = blobs_many n many ∙ rw head refl in
          let large : 4000 < (n - 1986) % 8180 = omega (arith, left, many) in
          record {
            some = omega (arith, blobs);
            many = omega (arith, blobs, most);
            ends = λ k low. omega (arith, blobs, tail, low, long);
            bytes = omega (arith, blobs, tail, large, long);
            tail = omega (arith, tail);
          }
    ]

-- where the bytes of a blob page begin
pub blob_from : (n k : ℕ) → 5986 < n → n ≤ 65540 → k < blob_count n → head_size n + 8180 * k ≤ n - tail_size n
blob_from n k long most low = let row = long_row n long most in let ends = row.ends k low in let head = head_long n long in omega (arith, head, ends)

-- what a long row takes of the log
pub long_bytes : (n : ℕ) → 5986 < n → n ≤ 65540 → 1312 + 8351 * blob_count n + (347 + tail_size n) + (361 + head_size n) ≤ n + 10000
long_bytes n long most = let row = long_row n long most in let bytes = row.bytes in let many = row.many in let head = head_long n long in omega (arith, head, bytes, many)

-- and a short one
pub short_bytes : (n : ℕ) → n ≤ 5986 → 361 + head_size n ≤ n + 10000
short_bytes n short = let head = head_short n short in omega (arith, head)
