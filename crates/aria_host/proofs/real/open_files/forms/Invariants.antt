use Rattle.std.proofs.Common.{All, take}
use Rattle.aria_host.specs.Folder.{IsFileName}
use Rattle.aria_host.specs.Form.{AreFiles}
use Rattle.aria_host.proofs.real.open_files.forms.Given as goal

abbrev pub invariant-loop-text : goal.invariant-loop-text
invariant-loop-text l = All IsFileName l.names × AreFiles (take l.text-index l.texts) l.names
