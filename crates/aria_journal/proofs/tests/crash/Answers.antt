use Rattle.std.proofs.Common.{ap}
use Rattle.aria_host.specs.Folder.{Folder}
use Rattle.aria_journal.specs.Log.{log_file}
use Rattle.aria_host.proofs.Answered.{on_ok, on_ok_of}
use Rattle.aria_journal.proofs.tests.crash.Goals as goal

pub returns : goal.returns
returns c = on_ok c.crash.result _ (λ done. λ f leaves. ap (λ (g : Folder). g log_file) ((on_ok_of c.crash.result _ c.crash.ensures.ok done).only f leaves))
