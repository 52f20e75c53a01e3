use Rattle.std.proofs.Common.{◌≡◌, ◌≤◌, ◌<◌, ℕ, true}
use Rattle.std.specs.List.{list_any}
use Rattle.aria_host.specs.declared.file_name.FileName.TheVariants.{Log as LogFile}
use Rattle.aria_host.specs.Folder.{same_file}
use Rattle.aria_log.proofs.missing.first_absent.Given as goal

abbrev pub invariant-loop-file : goal.invariant-loop-file
invariant-loop-file l = (f : ℕ) → l.low ≤ f → f < l.file → list_any (same_file (LogFile f)) l.names ≡ true
