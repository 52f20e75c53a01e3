use Rattle.std.proofs.Common.{◌≡◌, filter, not, take}
use Rattle.aria_host.specs.Folder.{same_file}
use Rattle.aria_host.proofs.memory.listing.without.Given as goal

abbrev pub invariant-loop-name : goal.invariant-loop-name
invariant-loop-name l = l.list.items ≡ filter (λ name. not (same_file l.file name)) (take l.name-index l.names)
