use Rattle.std.proofs.Common.{◌≡◌, ℕ, ◌<◌, ◌≤◌, List, length, take, sym, arith}
use Rattle.std.proofs.lemmas.List.{take_all, length-take-le}
use Rattle.aria_block.proofs.row_bytes.page_bytes.Goals as goal

cut : (n : ℕ) (bytes : List ℕ) → n < length bytes → length (take n bytes) ≡ n
cut n bytes long = length-take-le n bytes (omega (arith, long))

within : (n : ℕ) (bytes : List ℕ) → n < length bytes → length (take n bytes) ≤ n
within n bytes long = let same = cut n bytes long in omega (arith, same)

pub returns-then-bytes-le-BLOB_ROW-clause-is : goal.returns-then-bytes-le-BLOB_ROW-clause-is
returns-then-bytes-le-BLOB_ROW-clause-is c = sym (take_all 8180 c.args.bytes.now (omega (arith, c.if-bytes-le-BLOB_ROW.true)))

pub slice_bounds-result-end : goal.slice_bounds-result-end
slice_bounds-result-end c = sym (cut 8180 c.args.bytes.now (omega (arith, c.if-bytes-le-BLOB_ROW.false)))

pub returns-clause-few : goal.returns-clause-few
returns-clause-few c = within 8180 c.args.bytes.now (omega (arith, c.if-bytes-le-BLOB_ROW.false))
