-- That a crash of the host in memory is what its contract says.
use Rattle.std.proofs.Common.{◌≡◌, List, [], ◌++◌, reverse, None, sym, ◌∙◌, ap, subst}
use Rattle.std.proofs.lemmas.List.{reverse-append}
use Rattle.aria_host.specs.declared.memory.effect.Effect.{Effect}
use Rattle.aria_host.specs.declared.memory.fate.Fate.{Fate}
use Rattle.aria_host.specs.declared.memory.mem_host.MemHost.{MemHost}
use Rattle.aria_host.specs.Crash.{Survive}
use Rattle.aria_host.specs.Effect.{no_files, reads, MayLeave}
use Rattle.aria_host.specs.Folder.{Folder}
use Rattle.aria_host.specs.MemHost.{mem_state, base_of, past_of, SameFaults, IsCrashed}
use Rattle.aria_host.proofs.AfterCrash.{reads-append, crash_is_image}

pub crashed : (fates : List Fate) (left : List Effect) (old new : MemHost) → Survive old.changes.items fates left → new.base.items ≡ old.base.items ++ left → new.changes.items ≡ []
    → new.out.items ≡ old.out.items → new.err.items ≡ old.err.items → new.calls ≡ old.calls → new.planned.items ≡ [] → new.stop ≡ None → SameFaults old new → IsCrashed fates old new
crashed fates left old new survive base none out err calls planned stop faults =
    let read : base_of new ≡ reads (base_of old) (reverse left) = ap (λ (l : List Effect). reads no_files (reverse l)) base ∙ ap (reads no_files) (reverse-append old.base.items left) ∙ reads-append no_files (reverse left) (reverse old.base.items) in
    let past : past_of new ≡ [] = ap reverse none in
    let here : (mem_state new).folder ≡ base_of new = ap (reads (base_of new)) past in
    record {
      picked = (left, survive, here ∙ read);
      image = subst (λ (c : Folder). MayLeave (base_of old) (past_of old) c) (sym (here ∙ read)) (crash_is_image (base_of old) old.changes.items fates left survive);
      only = λ c leaves. subst (λ (l : List Effect). MayLeave (base_of new) l c) past leaves ∙ sym here;
      out = out;
      err = err;
      calls = calls;
      planned = planned;
      stop = stop;
      faults = faults;
    }
