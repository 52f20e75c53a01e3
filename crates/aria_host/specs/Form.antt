-- Which texts name a file of the program's forms.
use Rattle.std.specs.Prelude.{◌≡◌, ◌≢◌, ◌⊎◌, ◌==◌, Bool, true, false, IsTrue, List, [], ◌∷◌, ◌++◌, ℕ, count_by}
use Rattle.std.specs.Cmp.Lexicographic.{pointwise}
use Rattle.aria_page.specs.Word.{is_word}
use Rattle.aria_host.specs.declared.file_name.FileName.{FileName}
use Rattle.aria_host.specs.declared.file_name.FileName.TheVariants.{Control, Log, Keys, Rows, NewKeys, NewRows}
use Rattle.aria_host.specs.Folder.{IsFileName, same_file}
use Rattle.aria_host.specs.FileText.{file_text}

-- a table's file is named by a word
abbrev pub has_word : FileName → Bool
has_word Control = true
has_word (Log number) = true
has_word (Keys name) = is_word name
has_word (Rows name) = is_word name
has_word (NewKeys name) = is_word name
has_word (NewRows name) = is_word name

-- it is a table's file
abbrev pub is_table : FileName → Bool
is_table Control = false
is_table (Log number) = false
is_table _ = true

-- it is a file that the program may have, and this is its name in the folder
pub record IsNamed (text : List ℕ) (file : FileName) : Type 0 where
  pub form : IsFileName file
  pub word : IsTrue (has_word file)
  pub spelled : file_text file ≡ text

-- no file of a table is named so
abbrev pub NamesNoTable : List ℕ → Type 0
NamesNoTable text = (file : FileName) → IsTrue (is_table file) → IsTrue (has_word file) → file_text file ≢ text

-- no file that the program may have is named so
abbrev pub NamesNone : List ℕ → Type 0
NamesNone text = (file : FileName) → ¬ (IsNamed text file)

-- each file that the program may have is among the names as often as its text is among these texts
abbrev pub AreFiles : List (List ℕ) → List FileName → Type 0
AreFiles texts names = (f : FileName) → IsFileName f → IsTrue (has_word f) → count_by (same_file f) names ≡ count_by (pointwise ◌==◌ (file_text f)) texts

-- the file of that name is added, if there is one
abbrev pub AddsFile : List ℕ → List FileName → List FileName → Type 0
AddsFile text old new = (NamesNone text × (new ≡ old)) ⊎ ((file : FileName) × IsNamed text file × (new ≡ old ++ file ∷ []))
