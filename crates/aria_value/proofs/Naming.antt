-- The item of a name, sought from the front on.
use Rattle.std.proofs.Common.{ℕ, ◌+◌, Option, Some, None}

-- a number counted from a further place
abbrev pub further : ℕ → Option ℕ → Option ℕ
further i None = None
further i (Some n) = Some (i + n)
