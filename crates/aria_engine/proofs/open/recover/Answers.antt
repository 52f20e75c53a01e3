use Rattle.std.proofs.Common.{◌≡◌, rules, List, ℕ, Result, Ok, Err, map, ap, ◌∙◌}
use Rattle.std.specs.Prelude.{IfOk}
use Rattle.std.proofs.lemmas.Result.{IfErr-weaker}
use Rattle.aria_host.specs.Folder.{Folder}
use Rattle.aria_journal.specs.declared.log.Log.{Log as LogValue}
use Rattle.aria_journal.specs.declared.opened.Opened.TheVariants.{Sound}
use Rattle.aria_journal.specs.Opened.{Finds}
use Rattle.aria_journal.specs.Log.{log_of, IsOpened}
use Rattle.aria_engine.specs.Opening.{Replays, Recovered}
use Rattle.aria_engine.specs.Store.{tables_of}
use Rattle.aria_journal.specs.declared.opened.Frame.{Frame}
use Rattle.aria_host.specs.declared.fault.Fault.{Fault}
use Rattle.aria_engine.specs.declared.store.Store.{Store}
use Rattle.aria_host.proofs.Moments.{looks}
use Rattle.aria_engine.proofs.Settling.{recovered_of, recovered_cause}
use Rattle.aria_engine.proofs.open.recover.Goals as goal

-- a store that was built from the log is recovered
built : (result : Result Store Fault) (folder : Folder) (log : LogValue) (lines : List (List ℕ)) → IsOpened log folder → lines ≡ log_of folder
    → IfOk result (λ store. store.log ≡ log) → IfOk result (λ store. Replays lines (tables_of store)) → IfOk result (λ store. Recovered store folder)
built (Ok store) folder log lines opened are same replays = recovered_of folder log lines store opened are same replays
built (Err fault) folder log lines opened are same replays = search rules

pub returns-in-Ok-Sound-clause-recovered : goal.returns-in-Ok-Sound-clause-recovered
returns-in-Ok-Sound-clause-recovered g c = λ told.
    let folder = (g.H.Host.state c.args.host.now).folder in
    let found : Finds (Sound c.in-Ok-Sound.log c.in-Ok-Sound.frames) folder = rw c.in-Ok-Sound.field-0-is at (c.in-Ok-Sound.ensures.found told) in
    built c.rebuild.result folder c.in-Ok-Sound.log (map (λ (f : Frame). f.bytes) c.as_slice.result.now) found.0
    (ap (map (λ (f : Frame). f.bytes)) c.as_slice.ensures ∙ found.1) c.rebuild.ensures.log c.rebuild.ensures.replays

pub returns-in-Ok-Sound-clause-cause : goal.returns-in-Ok-Sound-clause-cause
returns-in-Ok-Sound-clause-cause g c =
    IfErr-weaker c.rebuild.result _ _ (λ (fault : Fault) is.
    recovered_cause g.H.Host.tells fault (g.H.Host.state c.args.host.now) (g.H.Host.state c.open.new.host) (map (λ (f : Frame). f.bytes) c.as_slice.result.now) (map (λ (f : Frame). f.page) c.as_slice.result.now)
    (λ told.
    let folder = (g.H.Host.state c.args.host.now).folder in
    let found : Finds (Sound c.in-Ok-Sound.log c.in-Ok-Sound.frames) folder = rw c.in-Ok-Sound.field-0-is at (c.in-Ok-Sound.ensures.found told) in
    (found.0.sound, ap (map (λ (f : Frame). f.bytes)) c.as_slice.ensures ∙ found.1, ap (map (λ (f : Frame). f.page)) c.as_slice.ensures ∙ found.2, looks (g.H.Host.state c.args.host.now) (g.H.Host.state c.open.new.host) (c.in-Ok-Sound.ensures.same told))) is)
    c.rebuild.ensures.cause
