-- Which groups are on the disk.
use Rattle.std.specs.Prelude.{◌≡◌, ◌⊎◌, ◌<◌, ◌≤◌, ℕ, Bool, true, false, List, take, drop, All}
use Rattle.aria_page.specs.declared.lsn.Lsn.{Lsn}
use Rattle.aria_page.specs.Lsn.{lsn_number}
use Rattle.aria_record.specs.Logged.{Logged, lsn_at_place}

-- What is told of the group with this log sequence number, where so many are forced. It is on the disk: those that aren't forced
-- stand behind it. Or it isn't: those that are stand before it, or it is the one that means none.
abbrev pub TellsForced : Lsn → List Logged → ℕ → Bool → Type 0
TellsForced lsn groups forced true = (1 ≤ lsn_number lsn) × All (λ g. lsn_number lsn < lsn_number (lsn_at_place g.at)) (drop forced groups)
TellsForced lsn groups forced false = (lsn_number lsn ≡ 0) ⊎ All (λ g. lsn_number (lsn_at_place g.at) < lsn_number lsn) (take forced groups)
