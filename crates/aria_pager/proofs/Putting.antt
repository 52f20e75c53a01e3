-- A held page is written to its file, while its own last group is on the disk.
use Rattle.std.proofs.Common.{rules, ◌≡◌, ◌∙◌, inl, inr, ℕ, ◌+◌, ◌/◌, ◌%◌, ◌^◌, ◌<◌, ◌≤◌, max, Bool, true, false, cond, nat_eq, List, length, take, ap, sym, refl, subst, arith, Option, None, Some}
use Rattle.std.specs.Prelude.{IsTrue, IsSome, is_some, slice_get}
use Rattle.std.specs.Option.{option_map, option_map_or}
use Rattle.std.specs.Map.{update}
use Rattle.std.proofs.lemmas.Bool.{eqb-true, eq-eqb}
use Rattle.std.proofs.lemmas.List.{take_all}
use Rattle.aria_page.specs.declared.place.Part.{Part}
use Rattle.aria_page.specs.declared.place.Part.TheVariants.{Keys, Rows}
use Rattle.aria_host.specs.declared.file_name.FileName.{FileName}
use Rattle.aria_host.specs.declared.file_name.FileName.TheVariants.{Log, Control}
use Rattle.aria_host.specs.Folder.{Folder, same_file, put_page, with_page, page_count}
use Rattle.aria_host.specs.State.{State}
use Rattle.aria_host.specs.Steps.{MayWrite}
use Rattle.aria_host.specs.Calls.{Writes}
use Rattle.aria_host.proofs.Files.{with_file-same, with_file-other, same_file-true, length-put_page}
use Rattle.aria_host.proofs.Moments.{OnlyNow}
use Rattle.aria_record.specs.Logged.{Logged}
use Rattle.aria_record.specs.declared.group_writer.GroupWriter.{GroupWriter}
use Rattle.aria_record.specs.Writing.{records_of}
use Rattle.aria_log.specs.Pieces.{log_files}
use Rattle.aria_log.proofs.Staying.{LeavesLog}
use Rattle.aria_cache.specs.Frames.{Held, held, is_pinned, cleaned}
use Rattle.aria_cache.specs.declared.frames.Frames.{Frames}
use Rattle.aria_cache.specs.declared.page_id.PageId.{PageId}
use Rattle.aria_cache.specs.Key.{key_of}
use Rattle.aria_recovery.specs.Redo.{seen, same_part, touches, reach, reach_on}
use Rattle.aria_recovery.specs.Tables.{life_of, file, Table, tables_of}
use Rattle.aria_recovery.specs.Images.{AreImages, IsNeutral, IsBelow, SameNames}
use Rattle.aria_recovery.specs.Forced.{IsForced}
use Rattle.aria_recovery.specs.Frames.{Spot, as_seen, dirty_of, is_dirty, FramesOver, Progress}
use Rattle.aria_recovery.specs.Moves.{Moves}
use Rattle.aria_recovery.proofs.Stepping.{not_torn, apart_part}
use Rattle.aria_recovery.proofs.Over.{over_written, over_neutral}
use Rattle.aria_recovery.proofs.Raising.{raises_on, raises_write}
use Rattle.aria_recovery.proofs.Naming.{names_write, names_page}
use Rattle.aria_pager.specs.declared.page_store.PageStore.{PageStore}
use Rattle.aria_pager.specs.declared.slot.Slot.{Slot}
use Rattle.aria_pager.specs.declared.slot.FilePages.{FilePages}
use Rattle.aria_pager.specs.PageStore.{name_at, stands_for, opened, set_at, part_of_key, spot_of, is_known}
use Rattle.aria_pager.specs.Pager.{HasFront, HaveFronts, HoldsPages, AreInside, OnDisk, IsSlot, AreSlots, IsPagerAt, pages_in, with_pages, next_number, known}
use Rattle.aria_pager.specs.Steps.{SameWork, StepsAt}
use Rattle.aria_pager.proofs.Fronting.{fronts, log_within, front_same, log_of_stays, named_same, moves_call}
use Rattle.aria_pager.proofs.Slots.{Here, spot_here, stands, slot_open, slot_one, keys_apart, file_name}
use Rattle.aria_pager.proofs.Setting.{set_here, set_other, set_names, set_sizes, pages_sized, set_any, pages_named, pages_stand}

-- a file of a table isn't one of the log, nor the control file
apart_log : (name : List ℕ) (part : Part) (n : ℕ) → same_file (file name part) (Log n) ≡ false
apart_log name Keys n = refl
apart_log name Rows n = refl

apart_control : (name : List ℕ) (part : Part) → same_file (file name part) Control ≡ false
apart_control name Keys = refl
apart_control name Rows = refl

-- a page of a table's file is written: the log and the control file stay
pub write_keeps : (name : List ℕ) (part : Part) (n : ℕ) (page : List ℕ) (d c : Folder) → MayWrite (file name part) n page d c → (log_files c ≡ log_files d) × (c Control ≡ d Control)
write_keeps name part n page d c (inl same) = (ap log_files same, ap (λ (f : Folder). f Control) same)
write_keeps name part n page d c (inr (inr torn)) = absurd (not_torn name part torn.0)
write_keeps name part n page d c (inr (inl put)) = (
  ap log_files put ∙ (λ i k. with_file-other (file name part) (Log k) (option_map (put_page n page) (d (file name part))) d (apart_log name part k) i),
  ap (λ (f : Folder). f Control) put ∙ with_file-other (file name part) Control (option_map (put_page n page) (d (file name part))) d (apart_control name part),
)

-- the tables stay where no group is added
pub tables_stay : (store : PageStore) (s t : State) (base : ℕ) (groups : List Logged) (forced forced' : ℕ) → Moves (HasFront base) (opened store) s t groups groups forced forced' → (name : List ℕ) → tables_of t.folder groups name ≡ tables_of s.folder groups name
tables_stay store s t base groups forced forced' moves name =
    let all : take (length groups) groups ≡ groups = take_all (length groups) groups (omega arith) in
    ap (λ (l : List Logged). tables_of t.folder l name) (sym all)
    ∙ sym (moves.ends (length groups) moves.within (omega arith) name)
    ∙ moves.starts (length groups) (omega (arith, moves.forces, moves.within)) (omega arith) name
    ∙ ap (λ (l : List Logged). tables_of s.folder l name) all

-- a page more, or another one: no file has fewer pages
count_put : (f g : FileName) (n : ℕ) (page : List ℕ) (d : Folder) → page_count f d ≤ page_count f (with_page g n page d)
count_put f g n page d = by (same_file g f) refl
  where
    more : (o : Option (List (List ℕ))) → option_map_or length o 0 ≤ option_map_or length (option_map (put_page n page) o) 0
    more None = omega arith
    more (Some pages) = omega (arith, length-put_page n page pages)

    by : (b : Bool) → same_file g f ≡ b → page_count f d ≤ page_count f (with_page g n page d)
    by false off = subst (λ (o : Option (List (List ℕ))). page_count f d ≤ option_map_or length o 0) (sym (with_file-other g f (option_map (put_page n page) (d g)) d off)) (omega arith)
    by true on = subst (λ (k : FileName). page_count k d ≤ page_count k (with_page g n page d)) (same_file-true g f on)
        (subst (λ (o : Option (List (List ℕ))). page_count g d ≤ option_map_or length o 0) (sym (with_file-same g (option_map (put_page n page) (d g)) d)) (more (d g)))

some_slot : (a b : Slot) → Some a ≡ Some b → a ≡ b
some_slot a b e = cc

abbrev spot_in : ℕ → Option (List ℕ) → Option Spot
spot_in k name = option_map (λ name. record { name = name; part = part_of_key k; page = k % 2 ^ 31 }) name

abbrev touched_in : GroupWriter → Option Spot → Bool
touched_in writer spot = option_map_or (λ s. touches s.name s.part s.page (records_of writer)) spot false

-- the file is as it was
pub disk_same : (store store' : PageStore) (d c : Folder) (groups : List Logged) (name : List ℕ) (part : Part) (pages : FilePages) → store'.writer ≡ store.writer → c (file name part) ≡ d (file name part)
    → OnDisk store d groups name part pages → OnDisk store' c groups name part pages
disk_same store store' d c groups name part pages writer same is = record {
  content = is.content;
  there = same ∙ is.there;
  written = is.written;
  counts = is.counts ∙ ap (λ (w : GroupWriter). max (max pages.written (reach name part (life_of name groups).since)) (reach_on name part (records_of w))) (sym writer);
  few = is.few;
}

-- one of its files has other numbers of pages
slot_put : (store store' : PageStore) (d c : Folder) (groups : List Logged) (n : ℕ) (slot : Slot) (p : Part) (pages : FilePages) → store'.writer ≡ store.writer → known store' slot.name ≡ known store slot.name → IsSlot store d groups n slot
    → tables_of c groups slot.name ≡ tables_of d groups slot.name
    → OnDisk store' c groups slot.name p pages → ((q : Part) → same_part p q ≡ false → c (file slot.name q) ≡ d (file slot.name q)) → IsSlot store' c groups n (with_pages p pages slot)
slot_put store store' d c groups n slot Keys pages writer knows is tables disk others = record {
  table = subst (λ (o : Option Table). IsTrue (is_some o)) (sym tables) is.table;
  files = files;
  known = knows ∙ is.known;
}
  where
    files : (q : Part) → OnDisk store' c groups slot.name q (pages_in (with_pages Keys pages slot) q)
    files Keys = disk
    files Rows = disk_same store store' d c groups slot.name Rows slot.rows writer (others Rows refl) (is.files Rows)
slot_put store store' d c groups n slot Rows pages writer knows is tables disk others = record {
  table = subst (λ (o : Option Table). IsTrue (is_some o)) (sym tables) is.table;
  files = files;
  known = knows ∙ is.known;
}
  where
    files : (q : Part) → OnDisk store' c groups slot.name q (pages_in (with_pages Rows pages slot) q)
    files Keys = disk_same store store' d c groups slot.name Keys slot.keys writer (others Keys refl) (is.files Keys)
    files Rows = disk

module _ (store : PageStore) (s t : State) (redone : Progress) (base : ℕ) (start : Folder) (groups : List Logged) (forced : ℕ) (key : ℕ) (h : Held) (spot : Spot) (page : List ℕ) (done : Bool) where
  -- the page of the key is written as it is held
  pub record Puts : Type 0 where
    pub only : OnlyNow s
    pub before : s.may_leave s.folder
    pub after : t.may_leave t.folder
    pub is : IsPagerAt store s redone base start groups forced
    pub there : held store.frames key ≡ Some h
    pub free : is_pinned store.frames key ≡ false
    pub dirty : h.dirty ≡ true
    pub place : spot_of store key ≡ Some spot
    pub sealed : seen page ≡ Some (as_seen h)
    pub ahead : IsForced h.lsn groups forced
    pub wrote : Writes (file spot.name spot.part) spot.page page s t done

  abbrev mine : FileName
  mine = file spot.name spot.part

  abbrev since : List Logged
  since = (life_of spot.name groups).since

  disk_of : (p : Puts) → (slot : Slot) × (slice_get store.slots (key / 2 ^ 32) ≡ Some slot) × (slot.used ≡ true) × (spot.name ≡ slot.name) × OnDisk store s.folder groups spot.name spot.part (pages_in slot spot.part)
  disk_of p =
      let at = stands store key spot p.place in
      (at.slot, at.there, at.used, at.name, subst (λ (n : List ℕ). OnDisk store s.folder groups n spot.part (pages_in at.slot spot.part)) (sym at.name) ((p.is.slots (key / 2 ^ 32) at.slot at.there at.used).files spot.part))

  is_open : (p : Puts) → IsTrue (opened store spot.name)
  is_open p = let at = stands store key spot p.place in subst (λ (n : List ℕ). IsTrue (opened store n)) (sym at.name) (slot_open store (key / 2 ^ 32) at.slot at.there at.used)

  within_of : (p : Puts) (content : List (List ℕ)) → s.folder mine ≡ Some content → spot.page < max (length content) (reach spot.name spot.part since)
  within_of p content there = subst (λ (o : Option (List (List ℕ))). spot.page < max (option_map_or length o 0) (reach spot.name spot.part since)) there
      (p.is.inside key spot p.place (ap dirty_of p.there ∙ p.dirty) p.free)

  neutral_of : (p : Puts) → IsNeutral (opened store) groups forced s.folder (MayWrite mine spot.page page)
  neutral_of p =
      let on = is_open p in
      let disk = (disk_of p).4 in
      over_neutral (opened store) (is_known store) (held store.frames) (is_pinned store.frames) (spot_of store) s.folder groups forced redone (records_of store.writer) (next_number store) (next_number store) key h spot page disk.content
      p.place p.there p.free p.sealed on ((p.is.images s.folder p.before).current spot.name on) disk.there (within_of p disk.content disk.there) (p.is.settled spot.name) p.ahead p.is.pages

  pub put_moves : Puts → Moves (HasFront base) (opened store) s t groups groups forced forced
  put_moves p = moves_call (opened store) s t base groups forced (MayWrite mine spot.page page) (log_within store.started store.log s base groups forced p.is.log) p.only p.after p.is.images
      (fronts store.started store.log s base groups forced p.is.log p.is.control)
      (λ d c left step. neutral_of p d c (p.is.images d left) step) (λ d c left step. write_keeps spot.name spot.part spot.page page d c step) p.wrote.images p.wrote.tells

  put_fronts : Puts → HaveFronts base t groups forced
  put_fronts p c left = let to = p.wrote.images c left in let same = write_keeps spot.name spot.part spot.page page to.0 c to.2 in
      front_same base groups forced to.0 c same.0 same.1 (fronts store.started store.log s base groups forced p.is.log p.is.control to.0 to.1)

  -- it failed
  pub put_failed : Puts → done ≡ false → StepsAt store store s t redone base start groups forced done
  put_failed p off = record { forced' = forced; moves = put_moves p; fronts = put_fronts p; pager = λ on. absurd (let e : true ≡ false = sym on ∙ off in (cc)) }

  abbrev pub new_pages : Slot → FilePages
  new_pages slot = record { written = max (pages_in slot spot.part).written (spot.page + 1); pages = (pages_in slot spot.part).pages }

  abbrev pub new_slot : Slot → Slot
  new_slot slot = with_pages spot.part (new_pages slot) slot

  abbrev put_store : Slot → Frames → PageStore
  put_store slot frames' = record {
    log = store.log;
    started = store.started;
    frames = frames';
    writer = store.writer;
    in_group = store.in_group;
    made = store.made;
    slots = set_at store.slots (key / 2 ^ 32) (new_slot slot);
    tables = store.tables;
    pending = store.pending;
    lent = store.lent;
    kept = store.kept;
    blank = store.blank;
  }

  module _ (p : Puts) (on : IsTrue done) (slot : Slot) (here : slice_get store.slots (key / 2 ^ 32) ≡ Some slot) (frames' : Frames) (map : held frames' ≡ update nat_eq (held store.frames) key (option_map cleaned (held store.frames key))) (pins : is_pinned frames' ≡ is_pinned store.frames) where
    abbrev now : PageStore
    now = put_store slot frames'

    t_is : t.folder ≡ with_page mine spot.page page s.folder
    t_is = p.wrote.whole on

    opens : opened now ≡ opened store
    opens = λ i name. set_any (stands_for name) store.slots (key / 2 ^ 32) slot (new_slot slot) here (pages_stand spot.part (new_pages slot) name slot) i

    names_at : name_at now ≡ name_at store
    names_at = λ i m. set_names store.slots (key / 2 ^ 32) m slot (new_slot slot) here (pages_named spot.part (new_pages slot) slot) i

    spots : spot_of now ≡ spot_of store
    spots = λ i k. spot_in k (names_at i (k / 2 ^ 32))

    leaves : LeavesLog s t
    leaves = record {
      folder = (write_keeps spot.name spot.part spot.page page s.folder t.folder (inr (inl t_is))).0;
      images = λ c left. let to = p.wrote.images c left in (to.0, to.1, (write_keeps spot.name spot.part spot.page page to.0 c to.2).0);
    }

    names : (c : Folder) → t.may_leave c → SameNames t.folder c
    names c left name part =
        let to = p.wrote.images c left in
        names_write spot.name spot.part spot.page page to.0 c to.2 name part ∙ p.is.names to.0 to.1 name part ∙ sym (names_page spot.name spot.part spot.page page s.folder name part) ∙ sym (ap (λ (f : Folder). is_some (f (file name part))) t_is)

    below : IsBelow (next_number store) (seen page)
    below = subst (IsBelow (next_number store)) (sym p.sealed) ((p.is.pages key).below h p.there)

    pages_now : FramesOver (is_known store) (update nat_eq (held store.frames) key (option_map cleaned (held store.frames key))) (is_pinned store.frames) (spot_of store) (with_page mine spot.page page s.folder) groups redone (records_of store.writer) (next_number store) (next_number store)
    pages_now =
        let disk = (disk_of p).4 in
        over_written (is_known store) (held store.frames) (is_pinned store.frames) (spot_of store) s.folder groups redone (records_of store.writer) (next_number store) (next_number store) key h spot page disk.content
        (keys_apart store s.folder groups p.is.slots) p.place disk.there p.there p.free p.sealed p.is.pages

    pages : HoldsPages now t.folder groups redone
    pages =
        subst (λ (sp : ℕ → Option Spot). FramesOver (λ k. is_some (sp k)) (held frames') (is_pinned frames') sp t.folder groups redone (records_of store.writer) (next_number store) (next_number store)) (sym spots)
        (subst (λ (m : ℕ → Option Held). FramesOver (is_known store) m (is_pinned frames') (spot_of store) t.folder groups redone (records_of store.writer) (next_number store) (next_number store)) (sym map)
        (subst (λ (q : ℕ → Bool). FramesOver (is_known store) (update nat_eq (held store.frames) key (option_map cleaned (held store.frames key))) q (spot_of store) t.folder groups redone (records_of store.writer) (next_number store) (next_number store)) (sym pins)
        (subst (λ (f : Folder). FramesOver (is_known store) (update nat_eq (held store.frames) key (option_map cleaned (held store.frames key))) (is_pinned store.frames) (spot_of store) f groups redone (records_of store.writer) (next_number store) (next_number store)) (sym t_is)
        pages_now)))

    was_dirty : (k : ℕ) → is_dirty (held frames') k ≡ true → is_dirty (held store.frames) k ≡ true
    was_dirty k on = by (nat_eq key k) refl (ap (λ (m : ℕ → Option Held). dirty_of (m k)) (sym map) ∙ on)
      where
        clean : (o : Option Held) → dirty_of (option_map cleaned o) ≡ true → true ≡ false
        clean None e = sym e
        clean (Some h) e = sym e

        by : (b : Bool) → nat_eq key k ≡ b → dirty_of (cond (nat_eq key k) (option_map cleaned (held store.frames key)) (held store.frames k)) ≡ true → is_dirty (held store.frames) k ≡ true
        by true same e = absurd (let f : true ≡ false = clean (held store.frames key) (sym (ap (λ (b : Bool). dirty_of (cond b (option_map cleaned (held store.frames key)) (held store.frames k))) same) ∙ e) in (cc))
        by false off e = sym (ap (λ (b : Bool). dirty_of (cond b (option_map cleaned (held store.frames key)) (held store.frames k))) off) ∙ e

    inside : AreInside now t.folder groups
    inside k sp at dirt free =
        let low = p.is.inside k sp (ap (λ (f : ℕ → Option Spot). f k) (sym spots) ∙ at) (was_dirty k dirt) (ap (λ (f : ℕ → Bool). f k) (sym pins) ∙ free) in
        let more : page_count (file sp.name sp.part) s.folder ≤ page_count (file sp.name sp.part) t.folder = subst (λ (f : Folder). page_count (file sp.name sp.part) s.folder ≤ page_count (file sp.name sp.part) f) (sym t_is) (count_put (file sp.name sp.part) mine spot.page page s.folder) in
        omega (arith, low, more)

    moved : Moves (HasFront base) (opened store) s t groups groups forced forced
    moved = put_moves p

    tables : (name : List ℕ) → tables_of t.folder groups name ≡ tables_of s.folder groups name
    tables name = tables_stay store s t base groups forced forced moved name

    slot_is : slot.used ≡ true
    slot_is = let at = disk_of p in ap (λ (o : Slot). o.used) (some_slot slot at.0 (sym here ∙ at.1)) ∙ at.2

    name_is : spot.name ≡ slot.name
    name_is = let at = disk_of p in at.3 ∙ sym (ap (λ (o : Slot). o.name) (some_slot slot at.0 (sym here ∙ at.1)))

    -- the slot of the page
    slot_here : IsSlot now t.folder groups (key / 2 ^ 32) (new_slot slot)
    slot_here = slot_put store now s.folder t.folder groups (key / 2 ^ 32) slot spot.part (new_pages slot) refl refl was (tables slot.name) disk (λ q off. at_other q off)
      where
        was : IsSlot store s.folder groups (key / 2 ^ 32) slot
        was = p.is.slots (key / 2 ^ 32) slot here slot_is

        disk : OnDisk now t.folder groups slot.name spot.part (new_pages slot)
        disk = subst (λ (n : List ℕ). OnDisk now t.folder groups n spot.part (new_pages slot)) name_is (by (subst (λ (n : List ℕ). OnDisk store s.folder groups n spot.part (pages_in slot spot.part)) (sym name_is) (was.files spot.part)))
          where
            more : (w r ro all : ℕ) → all ≡ max (max w r) ro → spot.page < max w r → all ≡ max (max (max w (spot.page + 1)) r) ro
            more w r ro all is low = omega (arith, is, low)

            by : OnDisk store s.folder groups spot.name spot.part (pages_in slot spot.part) → OnDisk now t.folder groups spot.name spot.part (new_pages slot)
            by d = record {
              content = put_page spot.page page d.content;
              there = ap (λ (f : Folder). f mine) t_is ∙ with_file-same mine (option_map (put_page spot.page page) (s.folder mine)) s.folder ∙ ap (option_map (put_page spot.page page)) d.there;
              written = length-put_page spot.page page d.content ∙ ap (λ (w : ℕ). max w (spot.page + 1)) d.written;
              counts = more (pages_in slot spot.part).written (reach spot.name spot.part since) (reach_on spot.name spot.part (records_of store.writer)) (pages_in slot spot.part).pages d.counts
                  (subst (λ (w : ℕ). spot.page < max w (reach spot.name spot.part since)) d.written (within_of p d.content d.there));
              few = d.few;
            }

        at_other : (q : Part) → same_part spot.part q ≡ false → t.folder (file slot.name q) ≡ s.folder (file slot.name q)
        at_other q off = ap (λ (f : Folder). f (file slot.name q)) t_is ∙ with_file-other mine (file slot.name q) (option_map (put_page spot.page page) (s.folder mine)) s.folder
            (ap (λ (n : List ℕ). same_file (file n spot.part) (file slot.name q)) name_is ∙ apart_part slot.name spot.part q off)

    -- each other slot
    slot_there : (m : ℕ) (other : Slot) → nat_eq (key / 2 ^ 32) m ≡ false → slice_get store.slots m ≡ Some other → other.used ≡ true → IsSlot now t.folder groups m other
    slot_there m other off at used = record {
      table = subst (λ (o : Option Table). IsTrue (is_some o)) (sym (tables other.name)) was.table;
      files = λ q. disk_same store now s.folder t.folder groups other.name q (pages_in other q) refl (same q) (was.files q);
      known = was.known;
    }
      where
        was : IsSlot store s.folder groups m other
        was = p.is.slots m other at used

        same : (q : Part) → t.folder (file other.name q) ≡ s.folder (file other.name q)
        same q = ap (λ (f : Folder). f (file other.name q)) t_is ∙ with_file-other mine (file other.name q) (option_map (put_page spot.page page) (s.folder mine)) s.folder (apart (same_file mine (file other.name q)) refl)
          where
            apart : (b : Bool) → same_file mine (file other.name q) ≡ b → same_file mine (file other.name q) ≡ false
            apart false no_file = no_file
            apart true one = absurd (
                let named = (file_name spot.name other.name spot.part q (same_file-true mine (file other.name q) one)).0 in
                let e : key / 2 ^ 32 ≡ m = slot_one store s.folder groups (key / 2 ^ 32) m slot other p.is.slots here slot_is at used (sym name_is ∙ named) in
                let f : true ≡ false = sym (eq-eqb (key / 2 ^ 32) m e) ∙ off in (cc))

    slots : AreSlots now t.folder groups
    slots m other at used = by (nat_eq (key / 2 ^ 32) m) refl
      where
        by : (b : Bool) → nat_eq (key / 2 ^ 32) m ≡ b → IsSlot now t.folder groups m other
        by true same =
            let e : key / 2 ^ 32 ≡ m = eqb-true (key / 2 ^ 32) m same in
            let o : new_slot slot ≡ other = some_slot (new_slot slot) other (sym (set_here store.slots (key / 2 ^ 32) slot (new_slot slot) here) ∙ ap (slice_get now.slots) e ∙ at) in
            subst (λ (k : ℕ). IsSlot now t.folder groups k other) e (subst (IsSlot now t.folder groups (key / 2 ^ 32)) o slot_here)
        by false off = slot_there m other off (sym (set_other store.slots (key / 2 ^ 32) m (new_slot slot) off) ∙ at) used

    pager : IsPagerAt now t redone base start groups forced
    pager = record {
      log = log_of_stays store.started store.log s t base groups forced leaves p.is.log;
      images = subst (λ (o : List ℕ → Bool). AreImages o t groups forced) (sym opens) moved.images;
      names = names;
      control = λ c left. let to = p.wrote.images c left in named_same base to.0 c (write_keeps spot.name spot.part spot.page page to.0 c to.2).1 (p.is.control to.0 to.1);
      raises = λ c left. let to = p.wrote.images c left in raises_on (next_number store) start to.0 c (p.is.raises to.0 to.1) (raises_write (next_number store) spot.name spot.part spot.page page to.0 c below to.2);
      pages = pages;
      top = p.is.top;
      inside = inside;
      pinned = λ k. ap (λ (f : ℕ → Bool). f k) pins ∙ p.is.pinned k ∙ ap (λ (f : ℕ → Option Spot). touched_in store.writer (f k)) (sym spots);
      own = λ name part n on. let k = p.is.own name part n on in (k.0, ap (λ (f : ℕ → Option Spot). f k.0) spots ∙ k.1);
      named = λ name part off. p.is.named name part (sym (ap (λ (f : List ℕ → Bool). f name) opens) ∙ off);
      slots = slots;
      tables = record {
        each = λ name. p.is.tables.each name ∙ ap is_some (sym (tables name));
        slot = λ name m e. ap (λ (f : ℕ → Option (List ℕ)). f m) names_at ∙ p.is.tables.slot name m e;
        silent = p.is.tables.silent;
      };
      settled = p.is.settled;
      written = p.is.written;
      pending = p.is.pending;
    }

    -- A PAGE WAS WRITTEN
    pub put_done : StepsAt store now s t redone base start groups forced done
    put_done = record { forced' = forced; moves = moved; fronts = put_fronts p; pager = λ done. pager }

-- the same with other slots and frames
abbrev pub with_slots : PageStore → List Slot → Frames → PageStore
with_slots store slots frames = record {
  log = store.log;
  started = store.started;
  frames = frames;
  writer = store.writer;
  in_group = store.in_group;
  made = store.made;
  slots = slots;
  tables = store.tables;
  pending = store.pending;
  lent = store.lent;
  kept = store.kept;
  blank = store.blank;
}

-- the slots stand for the same tables
pub same_slots : (store : PageStore) (frames : Frames) (slots : List Slot) (n : ℕ) (slot : Slot) (part : Part) (pages : FilePages) → pages.pages ≡ (pages_in slot part).pages → slice_get store.slots n ≡ Some slot → slots ≡ set_at store.slots n (with_pages part pages slot)
    → SameWork store (with_slots store slots frames)
same_slots store frames new n slot part pages sized here is = subst (λ (l : List Slot). SameWork store (with_slots store l frames)) (sym is) record {
  slots = λ i m. set_names store.slots n m slot (with_pages part pages slot) here (pages_named part pages slot) i;
  sizes = λ i m. set_sizes store.slots n m slot (with_pages part pages slot) here (pages_sized part pages slot sized) i;
  opens = λ i name. set_any (stands_for name) store.slots n slot (with_pages part pages slot) here (pages_stand part pages name slot) i;
  tables = refl;
  writer = refl;
  pending = refl;
  started = refl;
  in_group = refl;
  made = refl;
  lent = refl;
  kept = refl;
}

pub clean_now : (o : Option Held) → dirty_of (option_map cleaned o) ≡ false
clean_now None = refl
clean_now (Some h) = refl

-- a page that was cleaned isn't dirty
pub cleaned_now : (map map' : ℕ → Option Held) (n : ℕ) → map' ≡ update nat_eq map n (option_map cleaned (map n)) → is_dirty map' n ≡ false
cleaned_now map map' n is = ap (λ (m : ℕ → Option Held). is_dirty m n) is ∙ ap (λ (b : Bool). dirty_of (cond b (option_map cleaned (map n)) (map n))) (eq-eqb n n refl) ∙ clean_now (map n)

-- the file of a held page is there
pub put_there : (store : PageStore) (s : State) (redone : Progress) (base : ℕ) (start : Folder) (groups : List Logged) (forced key : ℕ) (at : PageId) (slot : Slot) → IsPagerAt store s redone base start groups forced → Here store key at slot → IsSome (s.folder (file slot.name at.part))
put_there store s redone base start groups forced key at slot is here = let d = (is.slots (key / 2 ^ 32) slot here.there here.used).files at.part in subst IsSome (sym d.there) (search rules)

-- what a page's key says of its place
pub here_of : (store : PageStore) (s : State) (redone : Progress) (base : ℕ) (start : Folder) (groups : List Logged) (forced key : ℕ) (h : Held) (at : PageId) (slot : Slot) → at.page < 2 ^ 31 → key_of at ≡ key → slice_get store.slots at.slot ≡ Some slot
    → IsPagerAt store s redone base start groups forced → held store.frames key ≡ Some h → Here store key at slot
here_of store s redone base start groups forced key h at slot low is here pager there = spot_here store key at slot low is here ((pager.pages key).is_known h there)
