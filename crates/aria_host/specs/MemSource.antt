-- Input in memory.
use Rattle.std.specs.Prelude.{◌≡◌, ◌==◌, ℕ, Bool, List, [], drop}
use Rattle.std.specs.List.{list_any}
use Rattle.aria_host.specs.declared.memory.mem_source.MemSource.{MemSource}

-- the bytes that are left
abbrev pub left_of : MemSource → List ℕ
left_of source = drop source.at source.bytes.items

-- the next read is planned to fail
abbrev pub read_will_fail : MemSource → Bool
read_will_fail source = list_any (λ call. call == source.calls) source.planned.items

-- all of these bytes are left, nothing has happened, and nothing is planned
pub record IsAtStart (bytes : List ℕ) (source : MemSource) : Type 0 where
  pub left : left_of source ≡ bytes
  pub taken : source.taken ≡ 0
  pub faults : source.faults ≡ 0
  pub calls : source.calls ≡ 0
  pub planned : source.planned.items ≡ []

-- the same bytes are left, and the counts of what was taken and of what failed are the same
pub record SameSource (old new : MemSource) : Type 0 where
  pub bytes : new.bytes.items ≡ old.bytes.items
  pub at : new.at ≡ old.at
  pub taken : new.taken ≡ old.taken
  pub faults : new.faults ≡ old.faults
