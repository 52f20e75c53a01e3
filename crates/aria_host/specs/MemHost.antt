-- A host in memory: the record of its changes tells what it stands for.
use Rattle.std.specs.Prelude.{◌≡◌, ◌==◌, ◌||◌, ℕ, nat_le, None, ◌+◌, ◌-◌, ◌^◌, ◌≤◌, min, Bool, true, false, IsTrue, List, [], ◌∷◌, ◌++◌, length, reverse, refl, vec_len, vec_capacity}
use Rattle.std.specs.List.{list_any}
use Rattle.std.specs.Option.{option_map_or}
use Rattle.std.proofs.Common.{inl, inr, arith}
use Rattle.aria_host.specs.declared.host.Stream.{Stream}
use Rattle.aria_host.specs.declared.host.Stream.TheVariants.{Out, Err}
use Rattle.aria_host.specs.declared.memory.effect.Effect.{Effect}
use Rattle.aria_host.specs.declared.memory.effect.Effect.TheVariants.{Told}
use Rattle.aria_host.specs.declared.memory.fate.Fate.{Fate}
use Rattle.aria_host.specs.declared.memory.mem_host.MemHost.{MemHost}
use Rattle.aria_host.specs.Calls.{told_on}
use Rattle.aria_host.specs.Crash.{Survive}
use Rattle.aria_host.specs.Effect.{no_files, reads, MayLeave, Since, reads_is_left, no_earlier}
use Rattle.aria_host.specs.State.{Folder, State}

-- the folder that its record began with
abbrev pub base_of : MemHost → Folder
base_of host = reads no_files (reverse host.base.items)

-- what it did since, newest first
abbrev pub past_of : MemHost → List Effect
past_of host = reverse host.changes.items

-- what a host in memory stands for; its clock is the number of its changes
abbrev pub mem_state : MemHost → State
mem_state host = record {
  folder = reads (base_of host) (past_of host);
  may_leave = MayLeave (base_of host) (past_of host);
  out = host.out.items;
  err = host.err.items;
  moment = length (past_of host);
  since = Since (base_of host) (past_of host) host.out.items;
  disk_faults = host.disk_faults;
  tell_faults = host.tell_faults;
}

-- the next call is planned to fail, by itself or because the host is stopped
abbrev pub will_fail : MemHost → Bool
will_fail host = list_any (λ call. call == host.calls) host.planned.items || option_map_or (λ stop. nat_le stop host.calls) host.stop false

-- so many further calls, which tell so many bytes together, find the room that they need
pub record HasRoom (host : MemHost) (calls told : ℕ) : Type 0 where
  pub changes : vec_len host.changes + calls ≤ vec_capacity host.changes
  pub out : vec_len host.out + told ≤ vec_capacity host.out
  pub err : vec_len host.err + told ≤ vec_capacity host.err

-- room is used up for so many calls, which tell so many bytes together, at most
pub record UsesRoom (calls told : ℕ) (old new : MemHost) : Type 0 where
  pub changes : vec_capacity old.changes + vec_len new.changes ≤ vec_capacity new.changes + vec_len old.changes + calls
  pub out : vec_capacity old.out + vec_len new.out ≤ vec_capacity new.out + vec_len old.out + told
  pub err : vec_capacity old.err + vec_len new.err ≤ vec_capacity new.err + vec_len old.err + told

-- the same changes, and the same bytes told
pub record SameRecord (old new : MemHost) : Type 0 where
  pub base : new.base.items ≡ old.base.items
  pub changes : new.changes.items ≡ old.changes.items
  pub out : new.out.items ≡ old.out.items
  pub err : new.err.items ≡ old.err.items

-- the same calls are planned to fail
pub record SamePlan (old new : MemHost) : Type 0 where
  pub planned : new.planned.items ≡ old.planned.items
  pub stop : new.stop ≡ old.stop

-- the same faults were counted
pub record SameFaults (old new : MemHost) : Type 0 where
  pub disk : new.disk_faults ≡ old.disk_faults
  pub tell : new.tell_faults ≡ old.tell_faults

-- A call that takes room for so many changes and told bytes. It fails where that is planned, and else only where no
-- room is left; then it changes nothing.
pub record IsMemCall (calls told : ℕ) (old new : MemHost) (done : Bool) : Type 0 where
  pub planned : will_fail old ≡ true → done ≡ false
  pub succeeds : will_fail old ≡ false → HasRoom old calls told → done ≡ true
  pub nothing : done ≡ false → SameRecord old new
  pub counted : new.calls ≡ min (old.calls + 1) (2 ^ 64 - 1)
  pub plan : SamePlan old new
  pub room : UsesRoom calls told old new

-- that is one more change, and nothing is told
pub record AddsChange (change : Effect) (old new : MemHost) : Type 0 where
  pub base : new.base.items ≡ old.base.items
  pub changes : new.changes.items ≡ old.changes.items ++ change ∷ []
  pub out : new.out.items ≡ old.out.items
  pub err : new.err.items ≡ old.err.items

-- these bytes are told, and that is one more change
pub record Adds (stream : Stream) (bytes : List ℕ) (old new : MemHost) : Type 0 where
  pub base : new.base.items ≡ old.base.items
  pub changes : new.changes.items ≡ old.changes.items ++ Told stream (length bytes) ∷ []
  pub out : new.out.items ≡ old.out.items ++ told_on Out stream bytes
  pub err : new.err.items ≡ old.err.items ++ told_on Err stream bytes

-- nothing has happened, and nothing is planned
pub record IsFresh (host : MemHost) : Type 0 where
  pub base : host.base.items ≡ []
  pub changes : host.changes.items ≡ []
  pub out : host.out.items ≡ []
  pub err : host.err.items ≡ []
  pub calls : host.calls ≡ 0
  pub planned : host.planned.items ≡ []
  pub stop : host.stop ≡ None
  pub disk_faults : host.disk_faults ≡ 0
  pub tell_faults : host.tell_faults ≡ 0

-- A crash came: the folder is what the fates pick of the images, and no other image is left. Nothing is planned any more.
pub record IsCrashed (fates : List Fate) (old new : MemHost) : Type 0 where
  pub picked : (left : List Effect) × Survive old.changes.items fates left × ((mem_state new).folder ≡ reads (base_of old) (reverse left))
  pub image : (mem_state old).may_leave (mem_state new).folder
  pub only : (c : Folder) → (mem_state new).may_leave c → c ≡ (mem_state new).folder
  pub out : new.out.items ≡ old.out.items
  pub err : new.err.items ≡ old.err.items
  pub calls : new.calls ≡ old.calls
  pub planned : new.planned.items ≡ []
  pub stop : new.stop ≡ None
  pub faults : SameFaults old new

pub mem_reads_now : (host : MemHost) → IsTrue true → (mem_state host).may_leave (mem_state host).folder
mem_reads_now host _ = reads_is_left (base_of host) (past_of host)

pub mem_counts_now : (host : MemHost) (t : ℕ) (c : Folder) → IsTrue true → t ≤ (mem_state host).moment → (mem_state host).may_leave c
    → (mem_state host).since t c (mem_state host).out
mem_counts_now host t c _ le leaves = inl (le, leaves, refl)

pub mem_only_now : (host : MemHost) (c : Folder) (b : List ℕ) → IsTrue true → (mem_state host).since (mem_state host).moment c b
    → (mem_state host).may_leave c × (b ≡ (mem_state host).out)
mem_only_now host c b _ (inl (le, leaves, is)) = (leaves, is)
mem_only_now host c b _ (inr earlier) =
    absurd (no_earlier (base_of host) (past_of host) host.out.items (length (past_of host)) c b (omega arith) earlier)
