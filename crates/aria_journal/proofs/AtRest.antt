-- Hosts in memory of which a crash leaves what they read.
use Rattle.std.proofs.Common.{◌≡◌, List, [], ap, subst, sym, ◌∙◌}
use Rattle.std.specs.Prelude.{reverse}
use Rattle.aria_host.specs.declared.memory.effect.Effect.{Effect}
use Rattle.aria_host.specs.declared.memory.mem_host.MemHost.{MemHost}
use Rattle.aria_host.specs.Folder.{Folder}
use Rattle.aria_host.specs.State.{State}
use Rattle.aria_host.specs.Calls.{Unchanged}
use Rattle.aria_host.specs.Effect.{MayLeave, reads}
use Rattle.aria_host.specs.MemHost.{mem_state, base_of}
use Rattle.aria_journal.specs.Log.{log_file, IsLogAtRest}

-- nothing was changed
pub unchanged_rests : (host : MemHost) → host.changes.items ≡ [] → IsLogAtRest (mem_state host)
unchanged_rests host none =
    let P : List Effect → Type 0 = λ l. (c : Folder) → MayLeave (base_of host) (reverse l) c → c log_file ≡ reads (base_of host) (reverse l) log_file in
    subst P (sym none) (λ c leaves. ap (λ (f : Folder). f log_file) leaves)

-- a look changes nothing
pub still_rests : (old new : State) → Unchanged old new → IsLogAtRest old → IsLogAtRest new
still_rests old new same rests = λ c leaves. rests c (same.images.no_more c leaves) ∙ sym (ap (λ (f : Folder). f log_file) same.folder)
