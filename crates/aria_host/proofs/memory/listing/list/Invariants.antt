use Rattle.std.proofs.Common.{reverse, take}
use Rattle.aria_host.specs.Folder.{Folder}
use Rattle.aria_host.specs.Effect.{reads}
use Rattle.aria_host.specs.Listing.{IsListed}
use Rattle.aria_host.proofs.memory.listing.list.Given as goal

abbrev pub invariant-loop-change : goal.invariant-loop-change
invariant-loop-change l = (base : Folder) → IsListed base l.fn.names.items → IsListed (reads base (reverse (take l.change-index l.changes))) l.list.items
