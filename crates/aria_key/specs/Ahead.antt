-- What a cursor has ahead: the entries of a tree that it hasn't read yet.
use Rattle.std.specs.Prelude.{◌≡◌, ◌⊎◌, ℕ, ◌+◌, ◌<◌, Bool, true, false, List, [], ◌∷◌, length, Option, Some, None, IsSome}
use Rattle.aria_host.specs.declared.file_name.FileName.{FileName}
use Rattle.aria_cache.specs.PageState.{PageState}
use Rattle.aria_keypage.specs.declared.kind.Kind.TheVariants.{Leaf}
use Rattle.aria_keypage.specs.Item.{Item}
use Rattle.aria_keypage.specs.Content.{Content}
use Rattle.aria_keypage.specs.LeafReading.{last_read, IsBefore}
use Rattle.aria_key.specs.declared.cursor.Cursor.{Cursor}
use Rattle.aria_key.specs.declared.entering.Entered.{Entered}
use Rattle.aria_key.specs.declared.path.Passed.{Passed}
use Rattle.aria_key.specs.Held.{HasContent, Takes}
use Rattle.aria_key.specs.Tree.{Placed}
use Rattle.aria_key.specs.Place.{IsFound}
use Rattle.aria_key.specs.Rest.{next_low}
use Rattle.aria_key.specs.Cursor.{HasRest}
use Rattle.aria_key.specs.IndexFile.{HoldsTrees}
use Rattle.aria_key.specs.Reading.{keys_file}

-- a reader stands before the item at a position of a leaf, and so many of its items are left from there on
pub record HasEntered (c : Content) (at : ℕ) (e : Entered) : Type 0 where
  pub leaf : c.kind ≡ Leaf
  pub reader : IsBefore c at e.reader
  pub left : e.left + at ≡ length c.items

-- a leaf was entered, or the page is none, or hasn't so many items
abbrev pub IsEntered : Content → ℕ → Option Entered → Type 0
IsEntered c at (Some e) = HasEntered c at e
IsEntered c at None = Takes Leaf at c → ⊥

-- a cursor came to where an entry stands or belongs in a tree
pub record HasSought (bodies : ℕ → Option (List ℕ)) (count key root : ℕ) (entry : List ℕ) (levels : List (List Placed)) (walk : List Item) (c : Cursor) : Type 0 where
  pub at : ℕ
  pub same : Bool
  pub path : List Passed
  pub found : IsFound bodies count key root entry levels walk c.page at same path
  pub root_is : c.root ≡ root
  pub next_is : c.next ≡ next_low found.on.behind
  pub entered : HasEntered found.on.here.content at (record { left = c.left; reader = c.reader })

-- a cursor in a tree, with these entries ahead
pub record IsInTree (bodies : ℕ → Option (List ℕ)) (count : ℕ) (c : Cursor) (rest : List Item) : Type 0 where
  pub low : c.page < count
  pub content : Content
  pub held : HasContent bodies c.page content
  pub at : ℕ
  pub entered : HasEntered content at (record { left = c.left; reader = c.reader })
  pub rest_is : HasRest bodies count c.root c.page at c.next rest

-- a cursor in an empty tree, at a page that is there
pub record IsInNone (bodies : ℕ → Option (List ℕ)) (count : ℕ) (c : Cursor) : Type 0 where
  pub low : c.page < count
  pub there : IsSome (bodies c.page)
  pub left : c.left ≡ 0
  pub next_is : c.next ≡ None

-- THE ENTRIES AHEAD of a cursor in the pages as they are
abbrev pub IsAheadIn : (ℕ → Option (List ℕ)) → ℕ → Cursor → List Item → Type 0
IsAheadIn bodies count c rest = (IsInNone bodies count c × (rest ≡ [])) ⊎ IsInTree bodies count c rest

abbrev pub IsAhead : PageState → Cursor → List Item → Type 0
IsAhead s c rest = IsAheadIn (s.bodies (keys_file s c.slot)) (s.counts (keys_file s c.slot)) c rest

-- the cursor's entries are known
pub record HasAhead (s : PageState) (c : Cursor) : Type 0 where
  pub rest : List Item
  pub ahead : IsAhead s c rest

-- The cursor gave the first of the entries that were ahead, and those behind it are ahead now.
pub record HasNext (s : PageState) (rest : List Item) (c : Cursor) : Type 0 where
  pub item : Item
  pub more : List Item
  pub parts : rest ≡ item ∷ more
  pub entry_is : last_read c.reader ≡ item.entry
  pub target_is : c.target ≡ item.to
  pub ahead : IsAhead s c more

-- it did, or none was ahead
abbrev pub IsNext : PageState → List Item → Cursor → Bool → Type 0
IsNext s rest c true = HasNext s rest c
IsNext s rest c false = (rest ≡ []) × IsAhead s c []

-- a cursor with an item of its leaf ahead
pub record IsReady (s : PageState) (c : Cursor) (rest : List Item) : Type 0 where
  pub some : 0 < c.left
  pub ahead : IsInTree (s.bodies (keys_file s c.slot)) (s.counts (keys_file s c.slot)) c rest

-- the cursor came to the next leaf, or there is none
abbrev pub GoesOn : PageState → List Item → Cursor → Bool → Type 0
GoesOn s rest c true = IsReady s c rest
GoesOn s rest c false = (rest ≡ []) × IsAhead s c []

-- a cursor that has no more items ahead in its leaf
pub record IsSpent (s : PageState) (c : Cursor) : Type 0 where
  pub none : c.left ≡ 0
  pub rest : List Item
  pub ahead : IsAhead s c rest

-- one that has
pub record IsSet (s : PageState) (c : Cursor) : Type 0 where
  pub rest : List Item
  pub ready : IsReady s c rest

-- the file holds the tree of this key
pub record HasKey (s : PageState) (file : FileName) (key : ℕ) : Type 0 where
  pub keys : ℕ
  pub walks : ℕ → List Item
  pub holds : HoldsTrees keys (s.counts file) (s.bodies file) walks
  pub low : key < keys
