-- The patterns of a bitmap page.
use Rattle.std.specs.Prelude.{◌≡◌, ◌≢◌, ℕ, zero, suc, ◌+◌, ◌*◌, ◌/◌, ◌%◌, List, take, drop, slice_index}
use Rattle.aria_bitmap.specs.declared.group.TheConstants.{GROUPS, GROUPS_AT, GROUP_BYTES, GROUP_PATTERNS}

-- octal digit k of a number, the lowest being digit 0
unfoldable pub digit : ℕ → ℕ → ℕ
digit zero n = n % 8
digit (suc k) n = digit k (n / 8)

-- three bytes of the body as one number, the lowest byte first
unfoldable pub group : List ℕ → ℕ → ℕ
group body g = slice_index body (GROUPS_AT + GROUP_BYTES * g) + 256 * slice_index body (GROUPS_AT + 1 + GROUP_BYTES * g) + 65536 * slice_index body (GROUPS_AT + 2 + GROUP_BYTES * g)

-- pattern n: a group has eight, its octal digits
unfoldable pub pattern : List ℕ → ℕ → ℕ
pattern body n = digit (n % GROUP_PATTERNS) (group body (n / GROUP_PATTERNS))

-- pattern n has become the code, and nothing else of the body has changed: no other pattern, and no byte around the patterns
pub record SetsPattern (n code : ℕ) (old new : List ℕ) : Type 0 where
  pub here : pattern new n ≡ code
  pub others : (m : ℕ) → m ≢ n → pattern new m ≡ pattern old m
  pub before : take GROUPS_AT new ≡ take GROUPS_AT old
  pub behind : drop (GROUPS_AT + GROUP_BYTES * GROUPS) new ≡ drop (GROUPS_AT + GROUP_BYTES * GROUPS) old
