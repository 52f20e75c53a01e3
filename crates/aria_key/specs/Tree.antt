-- The tree of a key, level by level: the highest level is the root alone, the items of each level name the pages of
-- the level below it, and those of the lowest level, the leaves, are the tree's entries.
use Rattle.std.specs.Prelude.{◌≡◌, ℕ, ◌<◌, ◌≤◌, Bool, true, false, List, [], ◌∷◌, ◌++◌, length, map, Option, Some, ⊤}
use Rattle.std.specs.List.{AllByRecursion}
use Rattle.aria_page.specs.declared.page.TheConstants.{BODY_BYTES}
use Rattle.aria_keypage.specs.declared.key_page.TheConstants.{ITEM_BYTES_LOW}
use Rattle.aria_keypage.specs.declared.kind.Kind.{Kind}
use Rattle.aria_keypage.specs.declared.kind.Kind.TheVariants.{Leaf, Node}
use Rattle.aria_keypage.specs.Item.{Item, is_below}
use Rattle.aria_keypage.specs.Merge.{taken_over}
use Rattle.aria_keypage.specs.Content.{Content, item_bytes, Spells}
use Rattle.aria_key.specs.declared.path.TheConstants.{MAX_LEVELS}

-- a key page at its place in a tree, where no entry may be below `low`
pub record Placed : Type 0 where
  pub low : List ℕ
  pub page : ℕ
  pub content : Content

-- its items; a node's first child counts as one whose entry is `low`
abbrev pub items_of : Placed → List Item
items_of p = taken_over p.content.kind p.low p.content.first p.content.items

-- the item that names it
abbrev pub name_of : Placed → Item
name_of p = record { entry = p.low; to = p.page }

-- the items of a level, and the items that name its pages
abbrev pub items_on : List Placed → List Item
items_on [] = []
items_on (p ∷ l) = items_of p ++ items_on l

abbrev pub names : List Placed → List Item
names l = map name_of l

-- the entries rise strictly
abbrev pub Rising : List Item → Type 0
Rising [] = ⊤
Rising (x ∷ xs) = AllByRecursion (λ y. is_below x.entry y.entry ≡ true) xs × Rising xs

-- no entry of a page is below its `low`, and each is below that of every page to its right
abbrev pub Bounded : List Placed → Type 0
Bounded [] = ⊤
Bounded (p ∷ l) =
    AllByRecursion (λ x. is_below x.entry p.low ≡ false) (items_of p)
    × AllByRecursion (λ q. AllByRecursion (λ x. is_below x.entry q.low ≡ true) (items_of p)) l × Bounded l

-- a page of a level of leaves or of nodes
pub record IsOf (kind : Kind) (key : ℕ) (p : Placed) : Type 0 where
  pub kind_is : p.content.kind ≡ kind
  pub key_is : p.content.key ≡ key
  pub some : 0 < length p.content.items

-- a level whose pages these items name
pub record IsLevel (kind : Kind) (key : ℕ) (xs : List Item) (l : List Placed) : Type 0 where
  pub named : names l ≡ xs
  pub kinds : AllByRecursion (IsOf kind key) l
  pub rising : Rising (items_on l)
  pub bounded : Bounded l

-- the pages are full enough
abbrev pub Filled : List Placed → Type 0
Filled l = AllByRecursion (λ p. ITEM_BYTES_LOW ≤ length (item_bytes p.content)) l

-- the kind of the pages above these levels
abbrev pub kind_over : List (List Placed) → Kind
kind_over [] = Leaf
kind_over (l ∷ ls) = Node

-- no level is above
abbrev pub is_top : List (List Placed) → Bool
is_top [] = true
is_top (l ∷ ls) = false

-- the levels from one that these items name down to the leaves, and the entries there
abbrev pub Under : Bool → ℕ → List Item → List (List Placed) → List Item → Type 0
Under root key xs [] walk = walk ≡ xs
Under root key xs (l ∷ ls) walk = IsLevel (kind_over ls) key xs l × (root ≡ false → Filled l) × Under false key (items_on l) ls walk

-- the page holds this
pub record Holds (bodies : ℕ → Option (List ℕ)) (count : ℕ) (p : Placed) : Type 0 where
  pub low : p.page < count
  pub body : List ℕ
  pub there : bodies p.page ≡ Some body
  pub size : length body ≡ BODY_BYTES
  pub spells : Spells body p.content

abbrev pub HoldAll : (ℕ → Option (List ℕ)) → ℕ → List (List Placed) → Type 0
HoldAll bodies count ls = AllByRecursion (AllByRecursion (Holds bodies count)) ls

-- the item that names the root
abbrev pub top : ℕ → List Item
top root = record { entry = []; to = root } ∷ []

-- a tree that isn't empty
pub record IsTree (bodies : ℕ → Option (List ℕ)) (count key root : ℕ) (levels : List (List Placed)) (walk : List Item) : Type 0 where
  pub some : 0 < length levels
  pub few : length levels ≤ MAX_LEVELS
  pub under : Under true key (top root) levels walk
  pub hold : HoldAll bodies count levels

-- there is a tree with this root and these entries
pub record HasTree (bodies : ℕ → Option (List ℕ)) (count key root : ℕ) (walk : List Item) : Type 0 where
  pub levels : List (List Placed)
  pub tree : IsTree bodies count key root levels walk
