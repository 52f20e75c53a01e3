-- When a page's last group is on the disk, while later groups may not be.
use Rattle.std.specs.Prelude.{◌≡◌, ◌⊎◌, ◌<◌, ◌≤◌, ℕ, List, length, drop, All}
use Rattle.aria_record.specs.Logged.{Logged}
use Rattle.aria_recovery.specs.Redo.{number_at}

-- So many groups are forced, and a page bears this number, as the last group that changed it has: all are forced, or the others
-- have later numbers. No group has the number 0.
abbrev pub IsForced : ℕ → List Logged → ℕ → Type 0
IsForced number groups forced = (forced ≡ length groups) ⊎ ((1 ≤ number) × All (λ g. number < number_at g.at) (drop forced groups))
