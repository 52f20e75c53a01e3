-- A table was made: its group is on the disk, its files are there, and a slot stands for it.
use Rattle.std.proofs.Common.{◌≡◌, ◌∙◌, ℕ, ◌/◌, ◌%◌, ◌^◌, ◌<◌, ◌≤◌, max, Bool, true, false, cond, nat_eq, nat_lt, List, [], ◌∷◌, ◌++◌, length, map, reverse, ap, sym, refl, subst, arith, Option, None, Some, inr}
use Rattle.std.specs.Prelude.{IsTrue, is_some, slice_get}
use Rattle.std.specs.Global.{Vec}
use Rattle.std.specs.Option.{option_map, option_map_or, option_and_then}
use Rattle.std.specs.Cmp.Lexicographic.{bytes_decides}
use Rattle.std.proofs.lemmas.Bool.{eqb-true}
use Rattle.std.proofs.lemmas.List.{drop_all}
use Rattle.std.proofs.lemmas.List.Elements.{All-nil}
use Rattle.aria_page.specs.declared.edit.Edit.{Edit}
use Rattle.aria_page.specs.declared.lsn.Lsn.{Lsn}
use Rattle.aria_page.specs.declared.place.Part.{Part}
use Rattle.aria_page.specs.declared.place.Part.TheVariants.{Keys, Rows}
use Rattle.aria_value.specs.Named.{same_name}
use Rattle.aria_host.specs.Folder.{Folder, page_count}
use Rattle.aria_host.specs.Seen.{page_or_zero}
use Rattle.aria_host.specs.State.{State}
use Rattle.aria_record.specs.declared.record.Record.{Record}
use Rattle.aria_record.specs.Logged.{Logged, lsn_at_place}
use Rattle.aria_record.specs.Writing.{Writes, records_of}
use Rattle.aria_cache.specs.declared.frames.Frames.{Frames}
use Rattle.aria_cache.specs.Frames.{Held, held, is_pinned}
use Rattle.aria_recovery.specs.Redo.{Seen, seen, number_at, stepped, redo, edits_on, touches, reach, reach_on}
use Rattle.aria_recovery.specs.Tables.{Maker, Life, lives, life_of, told_by, file, made_page, Table, table_of, tables_of}
use Rattle.aria_recovery.specs.Images.{AreImages, SameNames, Raises}
use Rattle.aria_recovery.specs.Frames.{Spot, raw_at, redone_at, edits_of, base_of, dirty_of, is_dirty, PageOn, all_of}
use Rattle.aria_recovery.specs.Pending.{link_of, pended, pending_of}
use Rattle.aria_recovery.proofs.Agreeing.{life_push, table_push, grown}
use Rattle.aria_recovery.proofs.Behind.{redone_push, redone_all, edits_begin}
use Rattle.aria_recovery.proofs.Holding.{page_none}
use Rattle.aria_recovery.proofs.Pending.{pending_push}
use Rattle.aria_recovery.proofs.Stepping.{tables_same}
use Rattle.aria_pager.specs.declared.page_store.PageStore.{PageStore}
use Rattle.aria_pager.specs.declared.slot.Slot.{Slot}
use Rattle.aria_pager.specs.declared.slot.FilePages.{FilePages}
use Rattle.aria_pager.specs.PageStore.{name_in, name_at, opened, part_of_key, spot_of, is_known}
use Rattle.aria_pager.specs.Pager.{LogOf, NoFiles, NamesBase, HoldsPages, AreInside, AreSilent, OnDisk, IsSlot, AreSlots, KnowsTables, IsPager, known, pages_in, next_number}
use Rattle.aria_pager.proofs.Committing.{page_pushed}
use Rattle.aria_pager.proofs.Slots.{stands}

abbrev one_page : FilePages
one_page = record { written = 1; pages = 1 }

abbrev spot_in : ℕ → Option (List ℕ) → Option Spot
spot_in k name = option_map (λ name. record { name = name; part = part_of_key k; page = k % 2 ^ 31 }) name

some_slot : (a b : Slot) → Some a ≡ Some b → a ≡ b
some_slot a b e = cc

module _ (store now : PageStore) (s t : State) (base : ℕ) (start : Folder) (groups : List Logged) (forced : ℕ) (name : List ℕ) (n : ℕ) (maker : Maker) (g : Logged) where
  abbrev all : List Logged
  all = groups ++ g ∷ []

  -- the slot of a table that was made
  abbrev pub made_slot : Slot
  made_slot = record { name = name; used = true; keys = one_page; rows = one_page }

  pub record Created : Type 0 where
    pub is : IsPager store s base start groups forced
    pub idle : records_of store.writer ≡ []
    pub unknown : known store name ≡ None
    -- the group makes the table, and says nothing else
    pub told : told_by name g ≡ Some (Some maker)
    pub quiet : (other : List ℕ) → same_name name other ≡ false → told_by other g ≡ None
    pub edits : (other : List ℕ) (p : Part) (k : ℕ) → edits_on other p k g.group ≡ []
    pub reaches : (other : List ℕ) (p : Part) → reach_on other p g.group ≡ 0
    pub loose : (pending : List ℕ) → pended g.at (link_of g.group) pending ≡ pending
    -- what the calls left
    pub log : LogOf now.started now.log t base all (length all)
    pub images : AreImages (opened now) t all (length all)
    pub names : (c : Folder) → t.may_leave c → SameNames t.folder c
    pub control : (c : Folder) → t.may_leave c → NamesBase base c
    pub raises : (c : Folder) → t.may_leave c → Raises (next_number now) start c
    pub files : (part : Part) → t.folder (file name part) ≡ Some (made_page maker part ∷ [])
    pub others : (other : List ℕ) (q : Part) → same_name name other ≡ false → t.folder (file other q) ≡ s.folder (file other q)
    pub later : next_number store ≤ next_number now
    -- what the pager keeps
    pub frames : now.frames ≡ store.frames
    pub free : name_at store n ≡ None
    pub here : slice_get now.slots n ≡ Some made_slot
    pub else : (m : ℕ) → nat_eq n m ≡ false → slice_get now.slots m ≡ slice_get store.slots m
    pub empty : records_of now.writer ≡ []
    pub written : Writes now.writer (records_of now.writer)
    pub pending : now.pending ≡ store.pending
    pub knows : (q : List ℕ) → known now q ≡ cond (same_name name q) (Some (Some n)) (known store q)

  -- names that the pager knows are others
  apart : (c : Created) → (other : List ℕ) → is_some (known store other) ≡ true → same_name name other ≡ false
  apart c other on = by (same_name name other) refl
    where
      by : (b : Bool) → same_name name other ≡ b → same_name name other ≡ false
      by false off = off
      by true same = absurd (let e : false ≡ true = sym (ap is_some c.unknown) ∙ ap (λ (q : List ℕ). is_some (known store q)) ((bytes_decides name other).0 same) ∙ on in (cc))

  spot_else : (c : Created) → (k : ℕ) → nat_eq n (k / 2 ^ 32) ≡ false → spot_of now k ≡ spot_of store k
  spot_else c k off = ap (λ (o : Option Slot). spot_in k (option_and_then name_in o)) (c.else (k / 2 ^ 32) off)

  spot_here : (c : Created) → (k : ℕ) → nat_eq n (k / 2 ^ 32) ≡ true → spot_of now k ≡ Some (record { name = name; part = part_of_key k; page = k % 2 ^ 31 })
  spot_here c k on = ap (λ (m : ℕ). spot_in k (option_and_then name_in (slice_get now.slots m))) (sym (eqb-true n (k / 2 ^ 32) on)) ∙ ap (λ (o : Option Slot). spot_in k (option_and_then name_in o)) c.here

  none_here : (c : Created) → (k : ℕ) → nat_eq n (k / 2 ^ 32) ≡ true → spot_of store k ≡ None
  none_here c k on = ap (λ (m : ℕ). spot_in k (name_at store m)) (sym (eqb-true n (k / 2 ^ 32) on)) ∙ ap (spot_in k) c.free

  spot_known : (c : Created) → (k : ℕ) (sp : Spot) → spot_of store k ≡ Some sp → same_name name sp.name ≡ false
  spot_known c k sp at = let here = stands store k sp at in apart c sp.name (ap is_some (ap (known store) here.name ∙ (c.is.slots (k / 2 ^ 32) here.slot here.there here.used).known))

  life_else : (c : Created) → (other : List ℕ) → same_name name other ≡ false → life_of other all ≡ record { last = (life_of other groups).last; since = (life_of other groups).since ++ g ∷ [] }
  life_else c other off = life_push other (record { last = None; since = [] }) groups g ∙ ap (lives g (life_of other groups)) (c.quiet other off)

  life_here : (c : Created) → life_of name all ≡ record { last = Some (Some maker); since = [] }
  life_here c = life_push name (record { last = None; since = [] }) groups g ∙ ap (lives g (life_of name groups)) c.told

  reach_since : (c : Created) → (other : List ℕ) (part : Part) (gs : List Logged) → reach other part (gs ++ g ∷ []) ≡ reach other part gs
  reach_since c other part [] = ap (λ (r : ℕ). max r 0) (c.reaches other part)
  reach_since c other part (h ∷ gs) = ap (max (reach_on other part h.group)) (reach_since c other part gs)

  reach_else : (c : Created) → (other : List ℕ) (part : Part) → same_name name other ≡ false → reach other part (life_of other all).since ≡ reach other part (life_of other groups).since
  reach_else c other part off = ap (λ (l : Life). reach other part l.since) (life_else c other off) ∙ reach_since c other part (life_of other groups).since

  table_else : (c : Created) → (other : List ℕ) → same_name name other ≡ false → is_some (tables_of t.folder all other) ≡ is_some (tables_of s.folder groups other)
  table_else c other off = ap (λ (l : Life). is_some (table_of other l t.folder)) (life_else c other off) ∙ ap is_some (table_push other (life_of other groups) g t.folder) ∙ by (tables_of t.folder groups other)
      ∙ ap is_some (tables_same s.folder t.folder groups other (λ q. c.others other q off))
    where
      by : (o : Option Table) → is_some (option_map (grown other g) o) ≡ is_some o
      by None = refl
      by (Some x) = refl

  table_here : (c : Created) → is_some (tables_of t.folder all name) ≡ true
  table_here c = ap (λ (l : Life). is_some (table_of name l t.folder)) (life_here c)

  edits_none : (c : Created) → (o : Option Spot) → edits_of groups (length groups) g.group o ≡ []
  edits_none c None = refl
  edits_none c (Some sp) = ap (λ (es : List Edit). cond (nat_lt (length groups) (base_of sp.name groups)) [] es) (c.edits sp.name sp.part sp.page) ∙ by (nat_lt (length groups) (base_of sp.name groups))
    where
      none : List Edit
      none = []

      by : (b : Bool) → cond b none none ≡ none
      by true = refl
      by false = refl

  redone_else : (c : Created) → (k : ℕ) (x : Seen) → redone_at all (length all) (spot_of store k) x ≡ redone_at groups (length groups) (spot_of store k) x
  redone_else c k x = redone_push groups g (spot_of store k) x (λ sp at. c.quiet sp.name (spot_known c k sp at))
      ∙ ap (λ (es : List Edit). stepped (number_at g.at) es (redone_at groups (length groups) (spot_of store k) x)) (edits_none c (spot_of store k))

  raw_else : (c : Created) → (k : ℕ) → raw_at t.folder (spot_of store k) ≡ raw_at s.folder (spot_of store k)
  raw_else c k = by (spot_of store k) refl
    where
      by : (o : Option Spot) → spot_of store k ≡ o → raw_at t.folder o ≡ raw_at s.folder o
      by None at = refl
      by (Some sp) at = ap (λ (o : Option (List (List ℕ))). seen (page_or_zero sp.page o)) (c.others sp.name sp.part (spot_known c k sp at))

  -- what is held of a page
  abbrev On : PageStore → Folder → List Logged → ℕ → Frames → List Record → Option Spot → Type 0
  On st d gs k frames rs o = PageOn (is_some o) (held frames k) (is_pinned frames k) (raw_at d o) (redone_at gs (length gs) o (raw_at d o)) (edits_of gs (length gs) rs o) (next_number st) (next_number st)

  no_frame : (c : Created) → (k : ℕ) → spot_of store k ≡ None → held store.frames k ≡ None
  no_frame c k none = by (held store.frames k) refl
    where
      by : (o : Option Held) → held store.frames k ≡ o → held store.frames k ≡ None
      by None e = e
      by (Some h) e = absurd (let f : true ≡ false = sym ((c.is.pages k).is_known h e) ∙ ap is_some none in (cc))

  untouched : (rs : List Record) (o : Option Spot) → rs ≡ [] → option_map_or (λ sp. touches sp.name sp.part sp.page rs) o false ≡ false
  untouched rs None none = refl
  untouched rs (Some sp) none = ap (touches sp.name sp.part sp.page) none

  no_pin : (c : Created) → (k : ℕ) → is_pinned store.frames k ≡ false
  no_pin c k = c.is.pinned k ∙ untouched (records_of store.writer) (spot_of store k) c.idle

  pages : (c : Created) → HoldsPages now t.folder all (all_of all)
  pages c k = by (nat_eq n (k / 2 ^ 32)) refl
    where
      by : (b : Bool) → nat_eq n (k / 2 ^ 32) ≡ b → On now t.folder all k now.frames (records_of now.writer) (spot_of now k)
      by false off = subst (On now t.folder all k now.frames (records_of now.writer)) (sym (spot_else c k off))
          (subst (λ (f : Frames). On now t.folder all k f (records_of now.writer) (spot_of store k)) (sym c.frames)
          (page_pushed (is_known store k) (held store.frames k) (is_pinned store.frames k) (raw_at s.folder (spot_of store k)) (raw_at t.folder (spot_of store k))
          (redone_at groups (length groups) (spot_of store k) (raw_at s.folder (spot_of store k))) (redone_at all (length all) (spot_of store k) (raw_at t.folder (spot_of store k)))
          (edits_of groups (length groups) (records_of store.writer) (spot_of store k)) (edits_of all (length all) (records_of now.writer) (spot_of store k)) (next_number store) (next_number now) (next_number store) (next_number now)
          (raw_else c k) (redone_else c k (raw_at t.folder (spot_of store k)) ∙ ap (redone_at groups (length groups) (spot_of store k)) (raw_else c k))
          (ap (λ (rs : List Record). edits_of groups (length groups) rs (spot_of store k)) c.idle ∙ edits_begin groups (length groups) (spot_of store k))
          (ap (λ (rs : List Record). edits_of all (length all) rs (spot_of store k)) c.empty ∙ edits_begin all (length all) (spot_of store k))
          c.later (c.is.pages k)))
      by true on = subst (On now t.folder all k now.frames (records_of now.writer)) (sym (spot_here c k on))
          (subst (λ (f : Frames). On now t.folder all k f (records_of now.writer) (Some sp)) (sym c.frames)
          (subst (λ (h : Option Held). PageOn true h (is_pinned store.frames k) raw made es (next_number now) (next_number now)) (sym (no_frame c k (none_here c k on)))
          (subst (λ (b : Bool). PageOn true None b raw made es (next_number now) (next_number now)) (sym (no_pin c k))
          (subst (λ (x : Seen). PageOn true None false raw x es (next_number now) (next_number now)) (sym made_is)
          (subst (λ (l : List Edit). PageOn true None false raw raw l (next_number now) (next_number now)) (sym none)
          (page_none true raw (next_number now) (next_number now)))))))
        where
          sp : Spot
          sp = record { name = name; part = part_of_key k; page = k % 2 ^ 31 }

          raw : Seen
          raw = raw_at t.folder (Some sp)

          made : Seen
          made = redone_at all (length all) (Some sp) raw

          es : List Edit
          es = edits_of all (length all) (records_of now.writer) (Some sp)

          made_is : made ≡ raw
          made_is = redone_all all sp raw ∙ ap (λ (l : Life). redo name (part_of_key k) (k % 2 ^ 31) l.since raw) (life_here c)

          none : es ≡ []
          none = ap (λ (rs : List Record). edits_of all (length all) rs (Some sp)) c.empty ∙ edits_begin all (length all) (Some sp)

  inside : (c : Created) → AreInside now t.folder all
  inside c k sp at dirt free = by (nat_eq n (k / 2 ^ 32)) refl
    where
      dirty : is_dirty (held store.frames) k ≡ true
      dirty = ap (λ (f : Frames). is_dirty (held f) k) (sym c.frames) ∙ dirt

      by : (b : Bool) → nat_eq n (k / 2 ^ 32) ≡ b → sp.page < max (page_count (file sp.name sp.part) t.folder) (reach sp.name sp.part (life_of sp.name all).since)
      by true on = absurd (let e : false ≡ true = sym (ap dirty_of (no_frame c k (none_here c k on))) ∙ dirty in (cc))
      by false off =
          let was : spot_of store k ≡ Some sp = sym (spot_else c k off) ∙ at in
          let other = spot_known c k sp was in
          subst (λ (r : ℕ). sp.page < max (page_count (file sp.name sp.part) t.folder) r) (sym (reach_else c sp.name sp.part other))
          (subst (λ (o : Option (List (List ℕ))). sp.page < max (option_map_or length o 0) (reach sp.name sp.part (life_of sp.name groups).since)) (sym (c.others sp.name sp.part other))
          (c.is.inside k sp was dirty (ap (λ (f : Frames). is_pinned f k) (sym c.frames) ∙ free)))

  slot_here : (c : Created) → IsSlot now t.folder all n made_slot
  slot_here c = record {
    table = subst IsTrue (sym (table_here c)) refl;
    files = files;
    known = c.knows name ∙ ap (λ (b : Bool). cond b (Some (Some n)) (known store name)) ((bytes_decides name name).1 refl);
  }
    where
      counts : (q : Part) → 1 ≡ max (max 1 (reach name q (life_of name all).since)) (reach_on name q (records_of now.writer))
      counts q = sym (ap (λ (l : Life). max (max 1 (reach name q l.since)) (reach_on name q (records_of now.writer))) (life_here c) ∙ ap (λ (rs : List Record). max 1 (reach_on name q rs)) c.empty)

      disk : (q : Part) → OnDisk now t.folder all name q one_page
      disk q = record { content = made_page maker q ∷ []; there = c.files q; written = refl; counts = counts q; few = omega arith }

      files : (q : Part) → OnDisk now t.folder all name q (pages_in made_slot q)
      files Keys = disk Keys
      files Rows = disk Rows

  slot_there : (c : Created) → (m : ℕ) (slot : Slot) → slice_get store.slots m ≡ Some slot → slot.used ≡ true → IsSlot now t.folder all m slot
  slot_there c m slot at used = record {
    table = subst IsTrue (sym (table_else c slot.name other)) was.table;
    files = λ q. let d = was.files q in record {
      content = d.content;
      there = c.others slot.name q other ∙ d.there;
      written = d.written;
      counts = d.counts ∙ ap (λ (rs : List Record). max (max (pages_in slot q).written (reach slot.name q (life_of slot.name groups).since)) (reach_on slot.name q rs)) (c.idle ∙ sym c.empty)
          ∙ ap (λ (r : ℕ). max (max (pages_in slot q).written r) (reach_on slot.name q (records_of now.writer))) (sym (reach_else c slot.name q other));
      few = d.few;
    };
    known = c.knows slot.name ∙ ap (λ (b : Bool). cond b (Some (Some n)) (known store slot.name)) other ∙ was.known;
  }
    where
      was : IsSlot store s.folder groups m slot
      was = c.is.slots m slot at used

      other : same_name name slot.name ≡ false
      other = apart c slot.name (ap is_some was.known)

  slots : (c : Created) → AreSlots now t.folder all
  slots c m slot at used = by (nat_eq n m) refl
    where
      by : (b : Bool) → nat_eq n m ≡ b → IsSlot now t.folder all m slot
      by false off = slot_there c m slot (sym (c.else m off) ∙ at) used
      by true same =
          let e : n ≡ m = eqb-true n m same in
          let o : made_slot ≡ slot = some_slot made_slot slot (sym c.here ∙ ap (slice_get now.slots) e ∙ at) in
          subst (λ (k : ℕ). IsSlot now t.folder all k slot) e (subst (IsSlot now t.folder all n) o (slot_here c))

  tables : (c : Created) → KnowsTables now t.folder all
  tables c = record { each = each; slot = at; silent = silent }
    where
      silent : (other : List ℕ) → known now other ≡ Some None → AreSilent other all
      silent other closed = by (same_name name other) refl
        where
          by : (b : Bool) → same_name name other ≡ b → AreSilent other all
          by true same = absurd (let e : Some (Some n) ≡ Some None = sym (c.knows other ∙ ap (λ (b : Bool). cond b (Some (Some n)) (known store other)) same) ∙ closed in (cc))
          by false off =
              let was = c.is.tables.silent other (sym (c.knows other ∙ ap (λ (b : Bool). cond b (Some (Some n)) (known store other)) off) ∙ closed) in
              record { last = ap (λ (l : Life). l.last) (life_else c other off) ∙ was.last; none = λ part. reach_else c other part off ∙ was.none part }

      each : (other : List ℕ) → is_some (known now other) ≡ is_some (tables_of t.folder all other)
      each other = by (same_name name other) refl
        where
          by : (b : Bool) → same_name name other ≡ b → is_some (known now other) ≡ is_some (tables_of t.folder all other)
          by true same = ap is_some (c.knows other) ∙ ap (λ (b : Bool). is_some (cond b (Some (Some n)) (known store other))) same ∙ sym (table_here c) ∙ ap (λ (q : List ℕ). is_some (tables_of t.folder all q)) ((bytes_decides name other).0 same)
          by false off = ap is_some (c.knows other) ∙ ap (λ (b : Bool). is_some (cond b (Some (Some n)) (known store other))) off ∙ c.is.tables.each other ∙ sym (table_else c other off)

      at : (q : List ℕ) (m : ℕ) → known now q ≡ Some (Some m) → name_at now m ≡ Some q
      at q m e = by (same_name name q) refl
        where
          one : (i j : ℕ) → Some (Some i) ≡ Some (Some j) → i ≡ j
          one i j same = cc

          by : (b : Bool) → same_name name q ≡ b → name_at now m ≡ Some q
          by true same =
              let f : n ≡ m = one n m (sym (ap (λ (b : Bool). cond b (Some (Some n)) (known store q)) same) ∙ sym (c.knows q) ∙ e) in
              ap (name_at now) (sym f) ∙ ap (option_and_then name_in) c.here ∙ ap Some ((bytes_decides name q).0 same)
          by false off =
              let was : name_at store m ≡ Some q = c.is.tables.slot q m (sym (ap (λ (b : Bool). cond b (Some (Some n)) (known store q)) off) ∙ sym (c.knows q) ∙ e) in
              ap (option_and_then name_in) (c.else m (other was (nat_eq n m) refl)) ∙ was
            where
              other : name_at store m ≡ Some q → (b : Bool) → nat_eq n m ≡ b → nat_eq n m ≡ false
              other was false off = off
              other was true same = absurd (let f : None ≡ Some q = sym c.free ∙ ap (name_at store) (eqb-true n m same) ∙ was in (cc))

  -- A TABLE WAS MADE
  pub pager_created : Created → IsPager now t base start all (length all)
  pager_created c = record {
    log = c.log;
    images = c.images;
    names = c.names;
    control = c.control;
    raises = c.raises;
    pages = pages c;
    top = inr (λ k. refl);
    inside = inside c;
    pinned = λ k. ap (λ (f : Frames). is_pinned f k) c.frames ∙ no_pin c k ∙ sym (untouched (records_of now.writer) (spot_of now k) c.empty);
    own = λ other part k on. absurd (let e : true ≡ false = sym on ∙ ap (touches other part k) c.empty in (cc));
    named = λ other part off. ap (reach_on other part) c.empty;
    slots = slots c;
    tables = tables c;
    settled = subst NoFiles (sym (drop_all (length all) all (omega arith))) (λ other. All-nil (λ h. told_by other h ≡ None));
    written = c.written;
    pending = ap (λ (v : Vec Lsn). v.items) c.pending ∙ c.is.pending ∙ ap (λ (l : List ℕ). reverse (map lsn_at_place l)) (sym (pending_push groups g ∙ c.loose (pending_of groups)));
  }
