-- A cursor's steps in pages as they are.
use Rattle.std.proofs.Common.{◌≡◌, ℕ, ◌+◌, ◌<◌, Bool, List, [], length, IsTrue, Option, Some, None, sym, ap, subst, arith, rules, inl, inr}
use Rattle.std.specs.Prelude.{IsSome}
use Rattle.aria_host.specs.declared.file_name.FileName.{FileName}
use Rattle.aria_page.specs.declared.place.Part.TheVariants.{Keys}
use Rattle.aria_cache.specs.PageState.{PageState, Bodies, Counts, table_file}
use Rattle.aria_cache.specs.Calls.{Loads}
use Rattle.aria_keypage.specs.declared.leaf_reader.LeafReader.{LeafReader}
use Rattle.aria_keypage.specs.declared.kind.Kind.TheVariants.{Leaf}
use Rattle.aria_keypage.specs.Item.{Item, item_at}
use Rattle.aria_keypage.specs.Content.{Content, Spells}
use Rattle.aria_keypage.specs.LeafReading.{IsBefore, HasRead}
use Rattle.aria_key.specs.declared.cursor.Cursor.{Cursor}
use Rattle.aria_key.specs.IndexFile.{HoldsTrees, IsTreeOf, root_in}
use Rattle.aria_key.specs.Tree.{Placed, IsTree}
use Rattle.aria_key.specs.Rest.{from}
use Rattle.aria_key.specs.Reading.{keys_file, Reads, HasRoot}
use Rattle.aria_key.specs.WayUp.{IsPresent}
use Rattle.aria_key.specs.Ahead.{HasSought, IsInTree, IsInNone, IsAheadIn, IsAhead, HasNext, IsReady, IsSpent, HasKey}
use Rattle.aria_key.proofs.Holding.{held-spells}
use Rattle.aria_key.proofs.Stepping.{sought-in, read-in, in-tree, on-leaf, last-leaf, present, left-in}
use Rattle.aria_key.proofs.Then.{moved}

-- where a search came to
abbrev pub Sought : ℕ → ℕ → List ℕ → PageState → Cursor → ℕ → List (List Placed) → List Item → Type 0
Sought slot root low s on key levels walk = HasSought (s.bodies (keys_file s slot)) (s.counts (keys_file s slot)) key root low levels walk on

-- what a search for a leaf's low tells, for each tree with this root
abbrev pub TellsSought : ℕ → ℕ → List ℕ → PageState → Cursor → Type 0
TellsSought slot root low s on = (key : ℕ) (levels : List (List Placed)) (walk : List Item) → IsTree (s.bodies (keys_file s slot)) (s.counts (keys_file s slot)) key root levels walk
    → HasSought (s.bodies (keys_file s slot)) (s.counts (keys_file s slot)) key root low levels walk on

-- a cursor that knows where the next leaf begins is in a tree
pub has_root : (s : PageState) (c : Cursor) (rest : List Item) (low : List ℕ) → IsAhead s c rest → c.next ≡ Some low → HasRoot s (keys_file s c.slot) c.root
has_root s c rest low h e =
    let i = in-tree (s.bodies (keys_file s c.slot)) (s.counts (keys_file s c.slot)) c rest low h e in
    record { key = i.rest_is.key; levels = i.rest_is.levels; walk = i.rest_is.walk; tree = i.rest_is.tree }

found_on : (s : PageState) (c on : Cursor) (rest : List Item) (low : List ℕ) → IsAhead s c rest → c.left ≡ 0 → c.next ≡ Some low → TellsSought c.slot c.root low s on → (0 < on.left) × IsInTree (s.bodies (keys_file s c.slot)) (s.counts (keys_file s c.slot)) on rest
found_on s c on rest low h none e told =
    let bodies = s.bodies (keys_file s c.slot) in
    let count = s.counts (keys_file s c.slot) in
    let i = in-tree bodies count c rest low h e in
    on-leaf bodies count c on rest low i none e (told i.rest_is.key i.rest_is.levels i.rest_is.walk i.rest_is.tree)

-- it goes on there
pub goes_on : (tells : Bool) (n : ℕ) (c on : Cursor) (rest : List Item) (low : List ℕ) (old new : PageState) → Reads tells n old new → IsTrue tells → on.slot ≡ c.slot → IsAhead old c rest → c.left ≡ 0 → c.next ≡ Some low → TellsSought c.slot c.root low old on → IsReady new on rest
goes_on tells n c on rest low old new reads t same h none e told =
    let k = found_on old c on rest low h none e told in
    record {
      some = k.0;
      ahead = subst (λ (m : ℕ). IsInTree (new.bodies (keys_file new m)) (new.counts (keys_file new m)) on rest) (sym same) (moved (λ b m. IsInTree b m on rest) tells c.slot n old new reads t k.1);
    }

-- there is an item
pub has_item : (c on : Cursor) (low : List ℕ) (s : PageState) → (h : IsSpent s c) → c.next ≡ Some low → TellsSought c.slot c.root low s on → on.left ≡ 0 → ⊥
has_item c on low s h e told none =
    let k = found_on s c on h.rest low h.ahead h.none e told in
    let some = k.0 in
    omega (arith, some, none)

-- or none is left
pub goes_out : (tells : Bool) (n : ℕ) (c : Cursor) (rest : List Item) (old new : PageState) → Reads tells n old new → IsTrue tells → IsAhead old c rest → c.left ≡ 0 → c.next ≡ None → (rest ≡ []) × IsAhead new c []
goes_out tells n c rest old new reads t h none e =
    let bodies = old.bodies (keys_file old c.slot) in
    let count = old.counts (keys_file old c.slot) in
    let is : rest ≡ [] = last-leaf bodies count c rest h none e in
    (is, moved (λ b m. IsAheadIn b m c []) tells c.slot n old new reads t (subst (IsAheadIn bodies count c) is h))

-- the page of a cursor is there
pub is_present : (s : PageState) (c : Cursor) (rest : List Item) → IsAhead s c rest → IsPresent s (keys_file s c.slot) c.page
is_present s c rest h = let k = present (s.bodies (keys_file s c.slot)) (s.counts (keys_file s c.slot)) c rest h in record { low = k.0; there = k.1 }

-- a cursor with items left in its leaf can read one
pub is_ready : (s : PageState) (c : Cursor) (rest : List Item) → IsAhead s c rest → 0 < c.left → IsReady s c rest
is_ready s c rest h low = record { some = low; ahead = left-in (s.bodies (keys_file s c.slot)) (s.counts (keys_file s c.slot)) c rest h low }

-- what its reader is asked
pub asked : (s : PageState) (c : Cursor) (rest : List Item) (body : List ℕ) (P : Content → ℕ → Type 0) → (r : IsReady s c rest) → s.bodies (keys_file s c.slot) c.page ≡ Some body
    → ((d : Content) → (at : ℕ) → Spells body d → d.kind ≡ Leaf → at < length d.items → IsBefore d at c.reader → P d at) → P r.ahead.content r.ahead.at
asked s c rest body P r there told =
    let i = r.ahead in
    let low : i.at < length i.content.items = let some = r.some in omega (arith, some, i.entered.left) in
    told i.content i.at (held-spells (s.bodies (keys_file s c.slot)) c.page i.content body i.held there) i.entered.leaf low i.entered.reader

-- it was read
pub has_next : (tells : Bool) (n : ℕ) (c : Cursor) (rest : List Item) (reader : LeafReader) (target left : ℕ) (old new : PageState) → Reads tells n old new → IsTrue tells → (r : IsReady old c rest) → left + 1 ≡ c.left → HasRead r.ahead.content r.ahead.at target reader
    → HasNext new rest (record c { reader = reader; target = target; left = left })
has_next tells n c rest reader target left old new reads t r less read =
    let k = read-in (old.bodies (keys_file old c.slot)) (old.counts (keys_file old c.slot)) c rest reader target left r.ahead less read in
    record {
      item = item_at r.ahead.content.items r.ahead.at;
      more = k.0;
      parts = k.1;
      entry_is = read.entry_is;
      target_is = read.to_is;
      ahead = inr (moved (λ b m. IsInTree b m (record c { reader = reader; target = target; left = left }) k.0) tells c.slot n old new reads t k.2);
    }

-- a key's tree by its root
pub record IsRooted (bodies : ℕ → Option (List ℕ)) (count key root : ℕ) (walk : List Item) : Type 0 where
  pub none : root ≡ 0 → walk ≡ []
  pub tree : (root ≡ 0 → ⊥) → (levels : List (List Placed)) × IsTree bodies count key root levels walk

rooted : (bodies : ℕ → Option (List ℕ)) (count key root : ℕ) (levels : List (List Placed)) (walk : List Item) → IsTreeOf bodies count key root levels walk → IsRooted bodies count key root walk
rooted bodies count key root levels walk (inl k) = record { none = λ e. k.2; tree = λ n. absurd (n k.0) }
rooted bodies count key root levels walk (inr k) = record { none = λ e. absurd (k.0 e); tree = λ n. (levels, k.1) }

-- of a file that holds trees
pub key_rooted : (bodies : ℕ → Option (List ℕ)) (count keys key root : ℕ) (walks : ℕ → List Item) → (h : HoldsTrees keys count bodies walks) → key < keys → root ≡ root_in h.header key → IsRooted bodies count key root (walks key)
key_rooted bodies count keys key root walks h low e =
    subst (λ (r : ℕ). IsRooted bodies count key r (walks key)) (sym e) (rooted bodies count key (root_in h.header key) (h.levels key) (walks key) (h.file.trees key low))

-- its header is there
pub header_present : (s : PageState) (file : FileName) (keys : ℕ) (walks : ℕ → List Item) → HoldsTrees keys (s.counts file) (s.bodies file) walks → IsPresent s file 0
header_present s file keys walks h = record { low = h.file.some; there = subst (λ (b : Option (List ℕ)). IsSome b) (sym h.file.there) (search rules) }

-- a cursor in an empty tree
pub none_ahead : (tells : Bool) (n : ℕ) (c : Cursor) (keys key : ℕ) (walks : ℕ → List Item) (entry : List ℕ) (old new : PageState) → Reads tells n old new → IsTrue tells → HoldsTrees keys (old.counts (keys_file old c.slot)) (old.bodies (keys_file old c.slot)) walks → walks key ≡ []
    → c.page ≡ 0 → c.left ≡ 0 → c.next ≡ None → IsAhead new c (from entry (walks key))
none_ahead tells n c keys key walks entry old new reads t h none page left next =
    let p = header_present old (keys_file old c.slot) keys walks h in
    inl (moved (λ b m. IsInNone b m c) tells c.slot n old new reads t (record { low = subst (λ (k : ℕ). k < old.counts (keys_file old c.slot)) (sym page) p.low; there = subst (λ (k : ℕ). IsSome (old.bodies (keys_file old c.slot) k)) (sym page) p.there; left = left; next_is = next }), ap (from entry) none)

-- a cursor in another one
pub sought_ahead : (tells : Bool) (n slot root key : ℕ) (c : Cursor) (entry : List ℕ) (levels : List (List Placed)) (walk : List Item) (old new : PageState) → Reads tells n old new → IsTrue tells → c.slot ≡ slot → IsTree (old.bodies (keys_file old slot)) (old.counts (keys_file old slot)) key root levels walk
    → TellsSought slot root entry old c → IsAhead new c (from entry walk)
sought_ahead tells n slot root key c entry levels walk old new reads t same tree told =
    let bodies = old.bodies (keys_file old slot) in
    let count = old.counts (keys_file old slot) in
    let i = sought-in bodies count key root entry levels walk c tree (told key levels walk tree) in
    inr (subst (λ (m : ℕ). IsInTree (new.bodies (keys_file new m)) (new.counts (keys_file new m)) c (from entry walk)) (sym same) (moved (λ b k. IsInTree b k c (from entry walk)) tells slot n old new reads t i))

-- a key's tree is there then, where its root is not 0
pub key_root : (tells : Bool) (n slot key root : ℕ) (old now : PageState) → Reads tells n old now → IsTrue tells → (h : HasKey old (keys_file old slot) key) → root ≡ root_in h.holds.header key → (root ≡ 0 → ⊥) → HasRoot now (keys_file now slot) root
key_root tells n slot key root old now reads t h is some =
    let r = (key_rooted (old.bodies (keys_file old slot)) (old.counts (keys_file old slot)) h.keys key root h.walks h.holds h.low is).tree some in
    record { key = key; levels = r.0; walk = h.walks key; tree = moved (λ b k. IsTree b k key root r.0 (h.walks key)) tells slot n old now reads t r.1 }

-- and a cursor in it
pub key_ahead : (tells : Bool) (n m slot keys key root : ℕ) (walks : ℕ → List Item) (c : Cursor) (entry : List ℕ) (old now new : PageState) → Reads tells n old now → Reads tells m now new → IsTrue tells → (h : HoldsTrees keys (old.counts (keys_file old slot)) (old.bodies (keys_file old slot)) walks) → key < keys → root ≡ root_in h.header key → (root ≡ 0 → ⊥)
    → c.slot ≡ slot → TellsSought slot root entry now c → IsAhead new c (from entry (walks key))
key_ahead tells n m slot keys key root walks c entry old now new first second t h low is some same told =
    let r = (key_rooted (old.bodies (keys_file old slot)) (old.counts (keys_file old slot)) keys key root walks h low is).tree some in
    sought_ahead tells m slot root key c entry r.0 (walks key) now new second t same (moved (λ b k. IsTree b k key root r.0 (walks key)) tells slot n old now first t r.1) told

-- what is ahead of a cursor is ahead of it after any pages were loaded
pub ahead_later : (tells : Bool) (n : ℕ) (c : Cursor) (rest : List Item) (old now : PageState) → Loads tells n old now → IsTrue tells → IsAhead old c rest → IsAhead now c rest
ahead_later tells n c rest old now loads t h =
    subst (λ (f : FileName). IsAheadIn (now.bodies f) (now.counts f) c rest) (ap (λ (name : ℕ → List ℕ). table_file (name c.slot) Keys) (sym loads.slots.name))
    (subst (λ (b : Bodies). IsAheadIn (b (keys_file old c.slot)) (now.counts (keys_file old c.slot)) c rest) (sym (loads.bodies t)) (subst (λ (k : Counts). IsAheadIn (old.bodies (keys_file old c.slot)) (k (keys_file old c.slot)) c rest) (sym loads.counts) h))
