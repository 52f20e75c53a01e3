-- A search from the root down, page by page.
use Rattle.std.proofs.Common.{None, Some, ◌≡◌, ℕ, ◌+◌, ◌<◌, Bool, List, [], ◌∷◌, ◌++◌, length, IsTrue, Option, sym, ap, ◌∙◌, arith, subst, length-append}
use Rattle.aria_page.specs.declared.place.Part.TheVariants.{Keys}
use Rattle.aria_host.specs.declared.fault.Fault.{Fault}
use Rattle.aria_host.specs.declared.fault.Fault.TheVariants.{Memory, Disk, PageDamaged, LogDamaged}
use Rattle.aria_host.specs.declared.file_name.FileName.{FileName}
use Rattle.aria_host.specs.Count.{Rose}
use Rattle.std.specs.Prelude.{⊤}
use Rattle.aria_cache.specs.PageState.{PageState, Bodies, Counts, table_file}
use Rattle.aria_keypage.specs.declared.kind.Kind.TheVariants.{Leaf, Node}
use Rattle.aria_keypage.specs.Item.{Item}
use Rattle.aria_keypage.specs.Child.{child_at}
use Rattle.aria_keypage.specs.Content.{Content}
use Rattle.aria_key.specs.declared.look.Looked.{Looked}
use Rattle.aria_key.specs.declared.path.Passed.{Passed}
use Rattle.aria_key.specs.declared.path.Path.{Path}
use Rattle.aria_key.specs.Path.{passed}
use Rattle.aria_key.specs.Tree.{Placed, Holds, IsTree}
use Rattle.aria_key.specs.Held.{HasContent}
use Rattle.aria_key.specs.Place.{child_index, Descent, IsFound}
use Rattle.aria_key.specs.Reading.{keys_file, IsLooked, Reads, OfKeyPage, OfTree, HasRoot}
use Rattle.aria_key.specs.Way.{IsOnWay}
use Rattle.aria_cache.specs.Causes.{OfPage}
use Rattle.aria_key.proofs.Lists.{all-at}
use Rattle.aria_key.proofs.Descending.{at-root, descend, at-leaf}
use Rattle.aria_key.proofs.Reading.{reads_none, reads_on}

-- what the page holds that a search has come to
held_here : (bodies : ℕ → Option (List ℕ)) (count key root : ℕ) (entry : List ℕ) (all : List (List Placed)) (walk : List Item) (page : ℕ) (path : List Passed) → (d : Descent bodies count key root entry all walk page path) → HasContent bodies page d.on.here.content
held_here bodies count key root entry all walk page path d =
    let h : Holds bodies count d.on.here = all-at (Holds bodies count) d.on.before d.on.here d.on.behind d.level d.on.parts d.hold.0 in
    record { body = h.body; there = ap bodies (sym d.on.page_is) ∙ h.there; size = h.size; spells = h.spells }

low_here : (bodies : ℕ → Option (List ℕ)) (count key root : ℕ) (entry : List ℕ) (all : List (List Placed)) (walk : List Item) (page : ℕ) (path : List Passed) → Descent bodies count key root entry all walk page path → page < count
low_here bodies count key root entry all walk page path d =
    let h : Holds bodies count d.on.here = all-at (Holds bodies count) d.on.before d.on.here d.on.behind d.level d.on.parts d.hold.0 in
    omega (arith, h.low, d.on.page_is)

-- in a node it goes on with the child
go_down : (bodies : ℕ → Option (List ℕ)) (count key root : ℕ) (entry : List ℕ) (all : List (List Placed)) (walk : List Item) (page : ℕ) (path : List Passed) (r : Looked) → (d : Descent bodies count key root entry all walk page path)
    → IsLooked entry d.on.here.content r → r.kind ≡ Node → Descent bodies count key root entry all walk r.child (path ++ record { page = page; at = r.next } ∷ [])
go_down bodies count key root entry all walk page path r d l node =
    let c : Content = d.on.here.content in
    let h = held_here bodies count key root entry all walk page path d in
    let kind : c.kind ≡ Node = sym l.kind_is ∙ node in
    let next : child_index r.at r.same ≡ r.next = sym (l.next kind) in
    let child : child_at c (child_index r.at r.same) ≡ r.child = ap (child_at c) next ∙ sym (l.child kind) in
    let down = descend bodies count key root entry all walk page r.at r.same path h.body c d h.there h.spells kind l.position in
    subst (λ (n : ℕ). Descent bodies count key root entry all walk r.child (path ++ record { page = page; at = n } ∷ [])) next
    (subst (λ (n : ℕ). Descent bodies count key root entry all walk n (path ++ record { page = page; at = child_index r.at r.same } ∷ [])) child down)

-- in a leaf it ends
end_here : (bodies : ℕ → Option (List ℕ)) (count key root : ℕ) (entry : List ℕ) (all : List (List Placed)) (walk : List Item) (page : ℕ) (path : List Passed) (r : Looked) → (d : Descent bodies count key root entry all walk page path)
    → IsLooked entry d.on.here.content r → r.kind ≡ Leaf → IsFound bodies count key root entry all walk page r.at r.same path
end_here bodies count key root entry all walk page path r d l leaf =
    let h = held_here bodies count key root entry all walk page path d in
    at-leaf bodies count key root entry all walk page r.at r.same path h.body d.on.here.content d h.there h.spells (sym l.kind_is ∙ leaf) l.position

-- the file of a slot after pages were read
pub same_keys : (tells : Bool) (slot n : ℕ) (old now : PageState) → Reads tells n old now → keys_file now slot ≡ keys_file old slot
same_keys tells slot n old now reads = ap (λ (name : ℕ → List ℕ). table_file (name slot) Keys) reads.loads.slots.name

-- what a page holds is what it held
pub held_then : (tells : Bool) (slot n page : ℕ) (c : Content) (old now : PageState) → Reads tells n old now → IsTrue tells → HasContent (old.bodies (keys_file old slot)) page c → HasContent (now.bodies (keys_file now slot)) page c
held_then tells slot n page c old now reads t h =
    subst (λ (f : FileName). HasContent (now.bodies f) page c) (sym (same_keys tells slot n old now reads)) (subst (λ (b : Bodies). HasContent (b (keys_file old slot)) page c) (sym (reads.loads.bodies t)) h)

-- at the root
pub way_begins : (tells : Bool) (slot root : ℕ) (entry : List ℕ) (path : Path) (s : PageState) → passed path ≡ [] → path.len ≡ 0 → IsOnWay tells slot root entry 0 root path s s
way_begins tells slot root entry path s none len = record {
  reads = reads_none tells s;
  len = len;
  count = ap length none;
  on = λ t key levels walk tree.
      subst (λ (p : List Passed). Descent (s.bodies (keys_file s slot)) (s.counts (keys_file s slot)) key root entry levels walk root p) (sym none) (at-root (s.bodies (keys_file s slot)) (s.counts (keys_file s slot)) key root entry levels walk tree);
}

-- what a search finds in a page, where it tells
abbrev pub Tells : Bool → ℕ → ℕ → List ℕ → PageState → Looked → Type 0
Tells tells slot page entry now r = IsTrue tells → (c : Content) → HasContent (now.bodies (keys_file now slot)) page c → IsLooked entry c r

-- a level down
pub way_on : (tells : Bool) (slot root : ℕ) (entry : List ℕ) (level page : ℕ) (path more : Path) (old now new : PageState) (r : Looked) → IsOnWay tells slot root entry level page path old now → Reads tells 1 now new → Tells tells slot page entry now r → r.kind ≡ Node
    → passed more ≡ passed path ++ record { page = page; at = r.next } ∷ [] → more.len ≡ path.len + 1 → IsOnWay tells slot root entry (level + 1) r.child more old new
way_on tells slot root entry level page path more old now new r way reads looked node on len = record {
  reads = reads_on tells level 1 old now new way.reads reads;
  len = omega (arith, len, way.len);
  count = omega (arith, ap length on, length-append (passed path) (record { page = page; at = r.next } ∷ []), way.count);
  on = λ t key levels walk tree.
      let bodies = old.bodies (keys_file old slot) in
      let count = old.counts (keys_file old slot) in
      let d = way.on t key levels walk tree in
      let l = looked t d.on.here.content (held_then tells slot level page d.on.here.content old now way.reads t (held_here bodies count key root entry levels walk page (passed path) d)) in
      subst (λ (p : List Passed). Descent bodies count key root entry levels walk r.child p) (sym on) (go_down bodies count key root entry levels walk page (passed path) r d l node);
}

-- at a leaf
pub way_ends : (tells : Bool) (slot root : ℕ) (entry : List ℕ) (level page : ℕ) (path : Path) (old now : PageState) (r : Looked) → IsOnWay tells slot root entry level page path old now → Tells tells slot page entry now r → r.kind ≡ Leaf
    → IsTrue tells → (key : ℕ) (levels : List (List Placed)) (walk : List Item) → IsTree (old.bodies (keys_file old slot)) (old.counts (keys_file old slot)) key root levels walk
    → IsFound (old.bodies (keys_file old slot)) (old.counts (keys_file old slot)) key root entry levels walk page r.at r.same (passed path)
way_ends tells slot root entry level page path old now r way looked leaf t key levels walk tree =
    let bodies = old.bodies (keys_file old slot) in
    let count = old.counts (keys_file old slot) in
    let d = way.on t key levels walk tree in
    let l = looked t d.on.here.content (held_then tells slot level page d.on.here.content old now way.reads t (held_here bodies count key root entry levels walk page (passed path) d)) in
    end_here bodies count key root entry levels walk page (passed path) r d l leaf

-- why a page on the way can't be read
pub way_cause : (tells logged : Bool) (slot root : ℕ) (entry : List ℕ) (level page : ℕ) (path : Path) (old now new : PageState) → IsOnWay tells slot root entry level page path old now → (f : Fault) → OfKeyPage tells logged (λ c. ⊤) (keys_file now slot) page now new f
    → OfTree tells logged (HasRoot old (keys_file old slot) root) (keys_file old slot) old new f
way_cause tells logged slot root entry level page path old now new way (Memory e) k = k
way_cause tells logged slot root entry level page path old now new way Disk k = subst (λ (n : ℕ). Rose n new.faults) way.reads.faults k
way_cause tells logged slot root entry level page path old now new way (PageDamaged f n) k = (
  k.0 ∙ same_keys tells slot level old now way.reads,
  λ t asked.
      let bodies = old.bodies (keys_file old slot) in
      let count = old.counts (keys_file old slot) in
      let d = way.on t asked.key asked.levels asked.walk asked.tree in
      let low : now.counts (keys_file now slot) ≡ count = ap (λ (c : Counts). c (keys_file now slot)) way.reads.loads.counts ∙ ap old.counts (same_keys tells slot level old now way.reads) in
      k.2 t (omega (arith, low, low_here bodies count asked.key root entry asked.levels asked.walk page (passed path) d)) d.on.here.content
      (held_then tells slot level page d.on.here.content old now way.reads t (held_here bodies count asked.key root entry asked.levels asked.walk page (passed path) d)) tt,
)
way_cause tells logged slot root entry level page path old now new way (LogDamaged f n) k = (
  k.0,
  λ t. (page, subst (λ (g : FileName). IsTrue (old.late g page)) (same_keys tells slot level old now way.reads) ((way.reads.loads.late t).late (keys_file now slot) page (k.1 t))),
)
way_cause tells logged slot root entry level page path old now new way _ k = absurd k

-- why a page that was read can't be edited
pub edit_cause : (tells logged : Bool) (Asked : Content → Type 0) (slot n page : ℕ) (old now new : PageState) → Reads tells n old now → (f : Fault) → OfPage tells logged (keys_file now slot) page now new f → OfKeyPage tells logged Asked (keys_file old slot) page old new f
edit_cause tells logged Asked slot n page old now new reads (Memory e) k = k
edit_cause tells logged Asked slot n page old now new reads Disk k = subst (λ (m : ℕ). Rose m new.faults) reads.faults k
edit_cause tells logged Asked slot n page old now new reads (PageDamaged f m) k = (
  k.0 ∙ same_keys tells slot n old now reads,
  k.1,
  λ t low c held asked.
      let there = held_then tells slot n page c old now reads t held in
      let none : None ≡ Some there.body = sym (k.2 t) ∙ there.there in
      absurd cc,
)
edit_cause tells logged Asked slot n page old now new reads (LogDamaged f m) k = (
  k.0,
  λ t. subst (λ (g : FileName). IsTrue (old.late g page)) (same_keys tells slot n old now reads) ((reads.loads.late t).late (keys_file now slot) page (k.1 t)),
)
edit_cause tells logged Asked slot n page old now new reads _ k = absurd k
