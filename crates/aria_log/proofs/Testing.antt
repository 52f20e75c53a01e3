-- What the tests begin with.
use Rattle.std.proofs.Common.{◌≡◌, ◌∙◌, ◌<◌, ◌^◌, inl, inr, ℕ, List, [], ◌∷◌, None, Result, Err, ap, subst, sym, refl, arith}
use Rattle.std.specs.Prelude.{reverse}
use Rattle.aria_host.specs.declared.fault.Fault.{Fault}
use Rattle.aria_host.specs.declared.fault.Fault.TheVariants.{Disk, LogSpent}
use Rattle.aria_host.specs.declared.memory.effect.Effect.{Effect}
use Rattle.aria_host.specs.declared.memory.mem_host.MemHost.{MemHost}
use Rattle.aria_host.specs.declared.file_name.FileName.TheVariants.{Log}
use Rattle.aria_host.specs.Folder.{Folder}
use Rattle.aria_host.specs.Effect.{no_files, MayLeave, reads}
use Rattle.aria_host.specs.MemHost.{mem_state}
use Rattle.aria_page.specs.Number.{number}
use Rattle.aria_record.specs.declared.record.Record.TheVariants.{Commit}
use Rattle.aria_record.specs.Groups.{IsGroup}
use Rattle.aria_log.specs.declared.log.Log.{Log as LogValue}
use Rattle.aria_log.specs.Log.{HasNoLog, IsRunning}
use Rattle.aria_log.specs.Causes.{HasAppendCause}

-- a host in memory that nothing was done with has no log
pub no_log : (host : MemHost) → host.base.items ≡ [] → host.changes.items ≡ [] → HasNoLog (mem_state host)
no_log host base changes =
    let P : List Effect → List Effect → Type 0 = λ b l. (c : Folder) → MayLeave (reads no_files (reverse b)) (reverse l) c → (f : ℕ) → f < 2 ^ 24 → c (Log f) ≡ None in
    let Q : List Effect → List Effect → Type 0 = λ b l. (f : ℕ) → f < 2 ^ 24 → reads (reads no_files (reverse b)) (reverse l) (Log f) ≡ None in
    record {
      folder = subst (λ b. Q b host.changes.items) (sym base) (subst (λ l. Q [] l) (sym changes) (λ f low. refl));
      images = subst (λ b. P b host.changes.items) (sym base) (subst (λ l. P [] l) (sym changes) (λ c leaves f low. ap (λ (g : Folder). g (Log f)) leaves));
    }

-- one COMMIT is a group
pub commit_is : IsGroup (Commit ∷ [])
unfolding number
commit_is = record { shape = refl; few = omega arith; each = (record { body = tt; size = omega arith }, tt); size = omega arith }

-- a log that took no group since it is spent goes on running
pub still_running : {T : Type 0} (log log' : LogValue) (host host' : MemHost) (end n : ℕ) (fault : Fault) (result : Result T Fault) → result ≡ Err fault → fault ≡ LogSpent n → HasAppendCause end log log' host host' (mem_state host) (mem_state host') result
    → IsRunning log (mem_state host) → IsRunning log' (mem_state host')
still_running {T = T} log log' host host' end n fault result is spent cause running =
    let here : HasAppendCause {T = T} end log log' host host' (mem_state host) (mem_state host') (Err fault) = subst (λ (r : Result T Fault). HasAppendCause end log log' host host' (mem_state host) (mem_state host') r) is cause in
    elim here.only [
      | inl disk ↦ absurd (let e : Disk ≡ LogSpent n = sym disk ∙ spent in (cc))
      | inr last ↦
          let same = here.still (ap Err last) in
          subst (λ (l : LogValue). IsRunning l (mem_state host')) (sym same.0) (subst (λ (h : MemHost). IsRunning log (mem_state h)) (sym same.1) running)
    ]
