-- How files are named in the folder.
use Rattle.std.specs.Prelude.{ℕ, ◌+◌, ◌/◌, ◌%◌, List, [], ◌∷◌, ◌++◌, codes}
use Rattle.aria_host.specs.declared.file_name.FileName.{FileName}
use Rattle.aria_host.specs.declared.file_name.FileName.TheVariants.{Control, Log, Keys, Rows, NewKeys, NewRows}

-- the decimal digit at that power of ten, as a character
abbrev pub digit : ℕ → ℕ → ℕ
digit number unit = 48 + number / unit % 10

-- the last eight decimal digits
abbrev pub eight_digits : ℕ → List ℕ
eight_digits n =
    digit n 10000000 ∷ digit n 1000000 ∷ digit n 100000 ∷ digit n 10000 ∷ digit n 1000 ∷ digit n 100 ∷ digit n 10 ∷ digit n 1 ∷ []

-- the name of a log file
abbrev pub log_text : ℕ → List ℕ
log_text number = codes "aria_log." ++ eight_digits number

-- the file's name in the folder
abbrev pub file_text : FileName → List ℕ
file_text Control = codes "aria_log_control"
file_text (Log number) = log_text number
file_text (Keys name) = name ++ codes ".MAI"
file_text (Rows name) = name ++ codes ".MAD"
file_text (NewKeys name) = name ++ codes ".TMI"
file_text (NewRows name) = name ++ codes ".TMD"
