-- How the names of the files that are there follow the changes of a record.
use Rattle.std.specs.Prelude.{◌&&◌, if◌then◌else◌, List, [], ◌∷◌, ◌++◌, All, filter, not}
use Rattle.std.specs.List.{list_any}
use Rattle.aria_host.specs.declared.memory.effect.Effect.{Effect}
use Rattle.aria_host.specs.declared.memory.effect.Effect.TheVariants.{Wrote, Cut, Created, Removed, Synced, Set, Told}
use Rattle.aria_host.specs.declared.file_name.FileName.{FileName}
use Rattle.aria_host.specs.Calls.{Lists}
use Rattle.aria_host.specs.Folder.{Folder, IsFileName, is_form, same_file}

-- the names with that file, if it is of the forms and isn't among them
abbrev pub noted : FileName → List FileName → List FileName
noted file names = if is_form file && not (list_any (same_file file) names) then names ++ file ∷ [] else names

-- the names after a change
abbrev pub names_after : Effect → List FileName → List FileName
names_after (Created file) names = noted file names
names_after (Set file at page) names = noted file names
names_after (Removed file) names = filter (λ name. not (same_file file name)) names
names_after (Wrote file at page) names = names
names_after (Cut file pages) names = names
names_after (Synced file) names = names
names_after (Told stream n) names = names

-- the files that are there are listed, each once, and no others
pub record IsListed (folder : Folder) (names : List FileName) : Type 0 where
  pub forms : All IsFileName names
  pub once : Lists folder names
