-- What each call of a host does.
use Rattle.std.specs.Prelude.{◌≡◌, ◌⊎◌, ◌≤◌, ℕ, if◌then◌else◌, Bool, false, IsTrue, Option, None, Some, is_some, IsSome, List, [], ◌++◌, length, take, count_by, Result, IfErr, IsErrOf, OnOk, alloc_error}
use Rattle.std.specs.Option.{option_map}
use Rattle.aria_host.specs.declared.fault.Fault.{Fault}
use Rattle.aria_host.specs.declared.fault.Fault.TheVariants.{Memory, Disk, Tell}
use Rattle.aria_host.specs.declared.file_name.FileName.{FileName}
use Rattle.aria_host.specs.declared.host.Extent.{Extent}
use Rattle.aria_host.specs.declared.host.Stream.{Stream}
use Rattle.aria_host.specs.declared.host.Stream.TheVariants.{Out, Err}
use Rattle.aria_host.specs.Count.{Rose}
use Rattle.aria_host.specs.Folder.{Folder, IsFileName, same_file, with_file, with_page, with_cut, page_at}
use Rattle.aria_host.specs.State.{State, told, Elapses}
use Rattle.aria_host.specs.Steps.{Follows, MayWrite, MayCut, MayMake}

-- the other stream
abbrev pub other_stream : Stream → Stream
other_stream Out = Err
other_stream Err = Out

-- what telling these bytes on the second stream adds to the first
abbrev pub told_on : Stream → Stream → List ℕ → List ℕ
told_on Out Out bytes = bytes
told_on Err Err bytes = bytes
told_on Out Err bytes = []
told_on Err Out bytes = []

-- the images are the same
pub record SameImages (old new : State) : Type 0 where
  pub no_more : (c : Folder) → new.may_leave c → old.may_leave c
  pub no_fewer : (c : Folder) → old.may_leave c → new.may_leave c

-- nothing is told
pub record TellsNothing (old new : State) : Type 0 where
  pub out : new.out ≡ old.out
  pub err : new.err ≡ old.err
  pub time : Elapses old new []

-- Bytes are told: all of them where it is done, and else a part from their front.
pub record Tells (stream : Stream) (bytes : List ℕ) (old new : State) (done : Bool) : Type 0 where
  pub whole : IsTrue done → told stream new ≡ told stream old ++ bytes
  pub part : (n : ℕ) × (told stream new ≡ told stream old ++ take n bytes)
  pub other : told (other_stream stream) new ≡ told (other_stream stream) old
  pub folder : new.folder ≡ old.folder
  pub images : SameImages old new
  pub time : Elapses old new (told_on Out stream bytes)

-- a call that only looks
pub record Unchanged (old new : State) : Type 0 where
  pub folder : new.folder ≡ old.folder
  pub images : SameImages old new
  pub tells : TellsNothing old new

-- A call that changes the folder in one way: that is done where it is said, and else it is done or it isn't.
pub record Changes (change : Folder → Folder) (step : Folder → Folder → Type 0) (old new : State) (done : Bool) : Type 0 where
  pub whole : IsTrue done → new.folder ≡ change old.folder
  pub either : (new.folder ≡ old.folder) ⊎ (new.folder ≡ change old.folder)
  pub images : Follows step old new
  pub tells : TellsNothing old new

-- a page is written
abbrev pub Writes : FileName → ℕ → List ℕ → State → State → Bool → Type 0
Writes file at page old new done = Changes (with_page file at page) (MayWrite file at page) old new done

-- the pages from a number on are cut off
abbrev pub Cuts : FileName → ℕ → State → State → Bool → Type 0
Cuts file pages old new done = Changes (with_cut file pages) (MayCut file pages) old new done

-- an empty file is made
abbrev pub Creates : FileName → State → State → Bool → Type 0
Creates file old new done = Changes (with_file file (Some [])) (MayMake file (Some []) done) old new done

-- a file is removed
abbrev pub Removes : FileName → State → State → Bool → Type 0
Removes file old new done = Changes (with_file file None) (MayMake file None done) old new done

-- every image has the names of the folder as it reads
abbrev pub HaveNames : State → Type 0
HaveNames s = (c : Folder) → s.may_leave c → (f : FileName) → IsFileName f → is_some (c f) ≡ is_some (s.folder f)

-- A call that only looks, but may bring names to the disk: a crash now leaves what one before might have left.
pub record Narrows (old new : State) : Type 0 where
  pub folder : new.folder ≡ old.folder
  pub no_more : (c : Folder) → new.may_leave c → old.may_leave c
  pub tells : TellsNothing old new

-- A file is brought to the disk: where that is done, a crash leaves what a read gives, or takes the file with its name.
pub record Syncs (file : FileName) (old new : State) (done : Bool) : Type 0 where
  pub durable : IsTrue done → (c : Folder) → new.may_leave c → IsSome (c file) → c file ≡ old.folder file
  pub no_more : (c : Folder) → new.may_leave c → old.may_leave c
  pub folder : new.folder ≡ old.folder
  pub tells : TellsNothing old new

-- each file that is there is listed, once, and no other
abbrev pub Lists : Folder → List FileName → Type 0
Lists folder names = (f : FileName) → IsFileName f → count_by (same_file f) names ≡ (if is_some (folder f) then 1 else 0)

-- what a look at a file of these pages finds
abbrev pub extent_of : Option (List (List ℕ)) → Option Extent
extent_of content = option_map (λ pages. record { pages = length pages; odd = false }) content

-- the page that was read
abbrev pub IsPage : FileName → ℕ → Folder → List ℕ → Type 0
IsPage file at folder page = page_at file at folder ≡ Some page

-- It answers no fault but that a stream failed, and that one only where such a fault was counted; at Ok none was.
pub record HasTellCause {T : Type 0} (old new : State) (result : Result T Fault) : Type 0 where
  pub only : IfErr result (λ fault. fault ≡ Tell)
  pub counted : IsErrOf result Tell → Rose old.tell_faults new.tell_faults
  pub calm : OnOk result (new.tell_faults ≡ old.tell_faults)
  pub later : old.tell_faults ≤ new.tell_faults
  pub disk : new.disk_faults ≡ old.disk_faults

-- It answers no fault but that the disk failed, and that one only where such a fault was counted; at Ok none was.
pub record HasDiskCause {T : Type 0} (old new : State) (result : Result T Fault) : Type 0 where
  pub only : IfErr result (λ fault. fault ≡ Disk)
  pub counted : IsErrOf result Disk → Rose old.disk_faults new.disk_faults
  pub calm : OnOk result (new.disk_faults ≡ old.disk_faults)
  pub later : old.disk_faults ≤ new.disk_faults
  pub tell : new.tell_faults ≡ old.tell_faults

-- the same, or want of memory
pub record HasDiskOrMemoryCause {T : Type 0} (old new : State) (result : Result T Fault) : Type 0 where
  pub only : IfErr result (λ fault. (fault ≡ Disk) ⊎ (fault ≡ Memory alloc_error))
  pub counted : IsErrOf result Disk → Rose old.disk_faults new.disk_faults
  pub calm : OnOk result (new.disk_faults ≡ old.disk_faults)
  pub later : old.disk_faults ≤ new.disk_faults
  pub tell : new.tell_faults ≡ old.tell_faults
