-- What a folder's control file is.
use Rattle.std.specs.Prelude.{◌≡◌, ◌⊎◌, ◌≤◌, ⊤, ℕ, Bool, true, false, if◌then◌else◌, IsSome, Option, None, Some, List, [], ◌∷◌, length, Result, Ok, Err, IfErr, IsErrOf}
use Rattle.std.specs.Option.{option_map}
use Rattle.aria_page.specs.Page.{zero_page, Sums}
use Rattle.aria_host.specs.declared.fault.Fault.{Fault}
use Rattle.aria_host.specs.declared.fault.Fault.TheVariants.{Memory, Disk, NotOurs, FileMissing, ControlDamaged}
use Rattle.aria_host.specs.declared.file_name.FileName.{FileName}
use Rattle.aria_host.specs.declared.file_name.FileName.TheVariants.{Control as ControlFile}
use Rattle.aria_host.specs.declared.host.Extent.{Extent}
use Rattle.aria_host.specs.Count.{Rose}
use Rattle.aria_host.specs.Folder.{Folder, IsFileName}
use Rattle.aria_host.specs.State.{State}
use Rattle.aria_control.specs.declared.found.Found.{Found}
use Rattle.aria_control.specs.declared.found.Found.TheVariants.{Fresh, Kept}
use Rattle.aria_control.specs.ControlPage.{named_by, HasMagic, IsStorable}

-- the control file
abbrev pub control_file : FileName
control_file = ControlFile

-- it is the control file
abbrev pub is_control : FileName → Bool
is_control ControlFile = true
is_control _ = false

-- the file is absent, empty or one page of zeros
abbrev pub IsBlank : Option (List (List ℕ)) → Type 0
IsBlank content = (content ≡ None) ⊎ ((content ≡ Some []) ⊎ (content ≡ Some (zero_page ∷ [])))

-- the file is there with so many pages
abbrev pub HasPages : ℕ → Option (List (List ℕ)) → Type 0
HasPages pages content = option_map length content ≡ Some pages

-- this is its first page
abbrev pub BeginsWith : List ℕ → Option (List (List ℕ)) → Type 0
BeginsWith page content = (more : List (List ℕ)) × (content ≡ Some (page ∷ more))

-- it isn't blank, and this is its first page
pub record Begins (page : List ℕ) (content : Option (List (List ℕ))) : Type 0 where
  pub first : BeginsWith page content
  pub some : ¬ IsBlank content

-- another file of the program's is there
pub record HasOther (folder : Folder) : Type 0 where
  pub file : FileName
  pub form : IsFileName file
  pub other : is_control file ≡ false
  pub there : IsSome (folder file)

-- the first page of a file that isn't blank
abbrev pub IsFirst : Option (List ℕ) → Option (List (List ℕ)) → Type 0
IsFirst None content = IsBlank content
IsFirst (Some page) content = Begins page content

-- what is answered of a folder with a blank control file
abbrev pub OnBlank : Result Found Fault → Folder → Type 0
OnBlank (Ok Fresh) folder = ¬ HasOther folder
OnBlank (Ok (Kept control)) folder = ⊥
OnBlank (Err (FileMissing file)) folder = (file ≡ control_file) × HasOther folder
OnBlank (Err _) folder = ⊥

-- what is answered of a control file that isn't blank, by its first page
abbrev pub OnPage : Result Found Fault → List ℕ → Type 0
OnPage (Ok (Kept control)) page = HasMagic page × Sums page × (control ≡ named_by page)
OnPage (Ok Fresh) page = ⊥
OnPage (Err (NotOurs file)) page = (file ≡ control_file) × (¬ HasMagic page)
OnPage (Err ControlDamaged) page = HasMagic page × (¬ Sums page)
OnPage (Err _) page = ⊥

-- what is answered of a folder
abbrev pub Answers : Result Found Fault → Folder → Type 0
Answers result folder =
    (IsBlank (folder control_file) × OnBlank result folder)
    ⊎ ((page : List ℕ) × Begins page (folder control_file) × OnPage result page)

-- this is found in a folder
abbrev pub Finds : Found → Folder → Type 0
Finds found folder = Answers (Ok found) folder

-- the disk or memory failed
abbrev pub Fails : Result Found Fault → Type 0
Fails (Err Disk) = ⊤
Fails (Err (Memory error)) = ⊤
Fails _ = ⊥

-- how many pages a look found; none where the file's length is no multiple of a page's
abbrev pub whole_pages : Option Extent → Option ℕ
whole_pages None = Some 0
whole_pages (Some extent) = if extent.odd then None else Some extent.pages

-- a file whose length is no multiple of a page's isn't the program's
abbrev pub FitsLength : Option Extent → Result Found Fault → Type 0
FitsLength looked result = whole_pages looked ≡ None → result ≡ Err (NotOurs control_file)

-- the faults that reading answers: the disk or memory failed, or the control file is missing, foreign or damaged
abbrev pub IsReadFault : Fault → Type 0
IsReadFault Disk = ⊤
IsReadFault (Memory error) = ⊤
IsReadFault (FileMissing file) = file ≡ control_file
IsReadFault (NotOurs file) = file ≡ control_file
IsReadFault ControlDamaged = ⊤
IsReadFault _ = ⊥

-- No other fault is answered, and that of the disk only where one was counted; none was unless the disk or memory failed.
pub record HasReadCause (old new : State) (result : Result Found Fault) : Type 0 where
  pub only : IfErr result IsReadFault
  pub counted : IsErrOf result Disk → Rose old.disk_faults new.disk_faults
  pub calm : Fails result ⊎ (new.disk_faults ≡ old.disk_faults)
  pub later : old.disk_faults ≤ new.disk_faults
  pub tell : new.tell_faults ≡ old.tell_faults

-- what it names can be stored
abbrev pub IsFoundStorable : Found → Type 0
IsFoundStorable (Kept control) = IsStorable control
IsFoundStorable Fresh = ⊤
