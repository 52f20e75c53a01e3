-- Calls that read key pages.
use Rattle.std.specs.Prelude.{◌≡◌, ⊤, ℕ, ◌<◌, ◌≤◌, ◌^◌, Bool, IsTrue, IsSome, List}
use Rattle.aria_page.specs.declared.place.Part.TheVariants.{Keys}
use Rattle.aria_host.specs.declared.fault.Fault.{Fault}
use Rattle.aria_host.specs.declared.fault.Fault.TheVariants.{Memory, Disk, PageDamaged, LogDamaged}
use Rattle.aria_host.specs.declared.file_name.FileName.{FileName}
use Rattle.aria_host.specs.Count.{Rose}
use Rattle.aria_cache.specs.PageState.{PageState, file_of}
use Rattle.aria_cache.specs.Calls.{Rests, Loads}
use Rattle.aria_keypage.specs.declared.kind.Kind.{Kind}
use Rattle.aria_keypage.specs.declared.kind.Kind.TheVariants.{Node}
use Rattle.aria_keypage.specs.Item.{Item, IsPosition}
use Rattle.aria_keypage.specs.Child.{child_at}
use Rattle.aria_keypage.specs.Content.{Content}
use Rattle.aria_key.specs.declared.look.Looked.{Looked}
use Rattle.aria_key.specs.Held.{HasContent, IsFull, Takes}
use Rattle.aria_key.specs.Place.{child_index}
use Rattle.aria_key.specs.Tree.{Placed, IsTree}

-- the index file of a slot
abbrev pub keys_file : PageState → ℕ → FileName
keys_file s slot = file_of s slot Keys

-- what a search finds in a page: where the entry stands or belongs, and in a node the child to go on with
pub record IsLooked (entry : List ℕ) (c : Content) (r : Looked) : Type 0 where
  pub kind_is : r.kind ≡ c.kind
  pub position : IsPosition entry c.items r.at r.same
  pub next : c.kind ≡ Node → r.next ≡ child_index r.at r.same
  pub child : c.kind ≡ Node → r.child ≡ child_at c r.next

-- So many pages at most were loaded, with no fault, and nothing else was changed.
pub record Reads (tells : Bool) (pages : ℕ) (old new : PageState) : Type 0 where
  pub loads : Loads tells pages old new
  pub kept : new.kept ≡ old.kept
  pub faults : new.faults ≡ old.faults
  pub still : IsSome old.kept → Rests old new

-- A key page is read: the disk fails, or that page is damaged or holds nothing that is asked of it, or it is ahead of
-- the log.
abbrev pub OfKeyPage : Bool → Bool → (Content → Type 0) → FileName → ℕ → PageState → PageState → Fault → Type 0
OfKeyPage tells logged Asked file page old new (Memory e) = ⊤
OfKeyPage tells logged Asked file page old new Disk = Rose old.faults new.faults
OfKeyPage tells logged Asked file page old new (PageDamaged f n) =
    (f ≡ file) × (n ≡ page) × (IsTrue tells → page < old.counts file → (c : Content) → HasContent (old.bodies file) page c → Asked c → ⊥)
OfKeyPage tells logged Asked file page old new (LogDamaged f n) = IsTrue logged × (IsTrue tells → IsTrue (old.late file page))
OfKeyPage tells logged Asked file page old new _ = ⊥

-- The pages of a tree are read or edited: the disk fails, or the file doesn't hold what is asked of it, or one of its
-- pages is ahead of the log.
abbrev pub OfTree : Bool → Bool → Type 0 → FileName → PageState → PageState → Fault → Type 0
OfTree tells logged Asked file old new (Memory e) = ⊤
OfTree tells logged Asked file old new Disk = Rose old.faults new.faults
OfTree tells logged Asked file old new (PageDamaged f n) = (f ≡ file) × (IsTrue tells → Asked → ⊥)
OfTree tells logged Asked file old new (LogDamaged f n) = IsTrue logged × (IsTrue tells → (page : ℕ) × IsTrue (old.late file page))
OfTree tells logged Asked file old new _ = ⊥

-- a tree of some key has this root
pub record HasRoot (s : PageState) (file : FileName) (root : ℕ) : Type 0 where
  pub key : ℕ
  pub levels : List (List Placed)
  pub walk : List Item
  pub tree : IsTree (s.bodies file) (s.counts file) key root levels walk

-- a page that can be divided, and another for its right half
pub record IsDivisible (s : PageState) (file : FileName) (page fresh : ℕ) : Type 0 where
  pub low : page < s.counts file
  pub content : Content
  pub held : HasContent (s.bodies file) page content
  pub full : IsFull content
  pub some : IsSome (s.bodies file fresh)
  pub apart : page ≡ fresh → ⊥

-- and takes an item at a position into one of its halves
pub record IsOverfull (s : PageState) (file : FileName) (page fresh : ℕ) (kind : Kind) (at : ℕ) : Type 0 where
  pub divisible : IsDivisible s file page fresh
  pub takes : Takes kind at divisible.content

-- The file has all the pages that can be numbered, which its header page is named for.
abbrev pub OfFullFile : FileName → PageState → Fault → Type 0
OfFullFile file s (PageDamaged f n) = (f ≡ file) × (n ≡ 0) × (2 ^ 31 ≤ s.counts file)
OfFullFile file s _ = ⊥
