-- A table was dropped: its group is on the disk, and nothing of it is held.
use Rattle.std.proofs.Common.{◌≡◌, ◌∙◌, ℕ, ◌/◌, ◌%◌, ◌^◌, ◌<◌, ◌≤◌, max, Bool, true, false, cond, nat_lt, List, [], ◌∷◌, ◌++◌, length, map, reverse, ap, sym, refl, subst, arith, Option, None, Some, inr}
use Rattle.std.specs.Prelude.{IsTrue, is_some, slice_get}
use Rattle.std.specs.Global.{Vec}
use Rattle.std.specs.Option.{option_map, option_map_or, option_and_then}
use Rattle.std.specs.Cmp.Lexicographic.{bytes_decides}
use Rattle.std.proofs.lemmas.List.{drop_all}
use Rattle.std.proofs.lemmas.List.Elements.{All-nil}
use Rattle.aria_page.specs.declared.edit.Edit.{Edit}
use Rattle.aria_page.specs.declared.lsn.Lsn.{Lsn}
use Rattle.aria_page.specs.declared.place.Part.{Part}
use Rattle.aria_value.specs.Named.{same_name}
use Rattle.aria_host.specs.Folder.{Folder, page_count}
use Rattle.aria_host.specs.Seen.{page_or_zero}
use Rattle.aria_host.specs.State.{State}
use Rattle.aria_record.specs.declared.record.Record.{Record}
use Rattle.aria_record.specs.Logged.{Logged, lsn_at_place}
use Rattle.aria_record.specs.Writing.{Writes, records_of}
use Rattle.aria_cache.specs.Frames.{Held, held, is_pinned}
use Rattle.aria_recovery.specs.Redo.{Seen, seen, number_at, stepped, edits_on, touches, reach, reach_on}
use Rattle.aria_recovery.specs.Tables.{Life, lives, life_of, told_by, file, Table, table_of, tables_of}
use Rattle.aria_recovery.specs.Images.{AreImages, SameNames, Raises}
use Rattle.aria_recovery.specs.Frames.{Spot, raw_at, redone_at, edits_of, base_of, dirty_of, PageOn, all_of}
use Rattle.aria_recovery.specs.Pending.{link_of, pended, pending_of}
use Rattle.aria_recovery.proofs.Agreeing.{life_push, table_push, grown}
use Rattle.aria_recovery.proofs.Behind.{redone_push, edits_begin}
use Rattle.aria_recovery.proofs.Holding.{page_none}
use Rattle.aria_recovery.proofs.Pending.{pending_push}
use Rattle.aria_recovery.proofs.Stepping.{tables_same}
use Rattle.aria_pager.specs.declared.page_store.PageStore.{PageStore}
use Rattle.aria_pager.specs.declared.slot.Slot.{Slot}
use Rattle.aria_pager.specs.PageStore.{name_in, name_at, opened, part_of_key, spot_of, is_known}
use Rattle.aria_pager.specs.Pager.{LogOf, NoFiles, NamesBase, HoldsPages, AreInside, AreSilent, IsSlot, AreSlots, KnowsTables, IsPager, known, pages_in, next_number}
use Rattle.aria_pager.proofs.Committing.{page_pushed}

abbrev spot_in : ℕ → Option (List ℕ) → Option Spot
spot_in k name = option_map (λ name. record { name = name; part = part_of_key k; page = k % 2 ^ 31 }) name

module _ (store now : PageStore) (s t : State) (base : ℕ) (start : Folder) (groups : List Logged) (forced : ℕ) (name : List ℕ) (g : Logged) where
  abbrev all : List Logged
  all = groups ++ g ∷ []

  -- the slot stood for the table
  abbrev pub gone_at : ℕ → Bool
  gone_at m = option_map_or (same_name name) (name_at store m) false

  pub record Dropped : Type 0 where
    pub is : IsPager store s base start groups forced
    pub idle : records_of store.writer ≡ []
    -- the group drops the table, and says nothing else
    pub told : told_by name g ≡ Some None
    pub quiet : (other : List ℕ) → same_name name other ≡ false → told_by other g ≡ None
    pub edits : (other : List ℕ) (p : Part) (k : ℕ) → edits_on other p k g.group ≡ []
    pub reaches : (other : List ℕ) (p : Part) → reach_on other p g.group ≡ 0
    pub loose : (pending : List ℕ) → pended g.at (link_of g.group) pending ≡ pending
    -- what the calls left
    pub log : LogOf now.started now.log t base all (length all)
    pub images : AreImages (opened now) t all (length all)
    pub names : (c : Folder) → t.may_leave c → SameNames t.folder c
    pub control : (c : Folder) → t.may_leave c → NamesBase base c
    pub raises : (c : Folder) → t.may_leave c → Raises (next_number now) start c
    pub others : (other : List ℕ) (q : Part) → same_name name other ≡ false → t.folder (file other q) ≡ s.folder (file other q)
    pub later : next_number store ≤ next_number now
    -- what the pager keeps
    pub frames : (k : ℕ) → held now.frames k ≡ cond (gone_at (k / 2 ^ 32)) None (held store.frames k)
    pub pins : (k : ℕ) → is_pinned now.frames k ≡ is_pinned store.frames k
    pub free : (m : ℕ) → gone_at m ≡ true → name_at now m ≡ None
    pub else : (m : ℕ) → gone_at m ≡ false → slice_get now.slots m ≡ slice_get store.slots m
    pub empty : records_of now.writer ≡ []
    pub written : Writes now.writer (records_of now.writer)
    pub pending : now.pending ≡ store.pending
    pub knows : (q : List ℕ) → known now q ≡ cond (same_name name q) None (known store q)

  spot_else : (c : Dropped) → (k : ℕ) → gone_at (k / 2 ^ 32) ≡ false → spot_of now k ≡ spot_of store k
  spot_else c k off = ap (λ (o : Option Slot). spot_in k (option_and_then name_in o)) (c.else (k / 2 ^ 32) off)

  spot_gone : (c : Dropped) → (k : ℕ) → gone_at (k / 2 ^ 32) ≡ true → spot_of now k ≡ None
  spot_gone c k on = ap (spot_in k) (c.free (k / 2 ^ 32) on)

  -- a page that isn't the table's is of another name
  spot_other : (k : ℕ) (sp : Spot) → gone_at (k / 2 ^ 32) ≡ false → spot_of store k ≡ Some sp → same_name name sp.name ≡ false
  spot_other k sp off at = by (name_at store (k / 2 ^ 32)) refl
    where
      by : (o : Option (List ℕ)) → name_at store (k / 2 ^ 32) ≡ o → same_name name sp.name ≡ false
      by None is = absurd (let e : None ≡ Some sp = sym (ap (spot_in k) is) ∙ at in (cc))
      by (Some other) is =
          let same : Some (record { name = other; part = part_of_key k; page = k % 2 ^ 31 }) ≡ Some sp = sym (ap (spot_in k) is) ∙ at in
          ap (λ (o : Option Spot). option_map_or (λ sp. same_name name sp.name) o false) (sym same) ∙ sym (ap (λ (o : Option (List ℕ)). option_map_or (same_name name) o false) is) ∙ off

  life_else : (c : Dropped) → (other : List ℕ) → same_name name other ≡ false → life_of other all ≡ record { last = (life_of other groups).last; since = (life_of other groups).since ++ g ∷ [] }
  life_else c other off = life_push other (record { last = None; since = [] }) groups g ∙ ap (lives g (life_of other groups)) (c.quiet other off)

  life_here : (c : Dropped) → life_of name all ≡ record { last = Some None; since = [] }
  life_here c = life_push name (record { last = None; since = [] }) groups g ∙ ap (lives g (life_of name groups)) c.told

  reach_since : (c : Dropped) → (other : List ℕ) (part : Part) (gs : List Logged) → reach other part (gs ++ g ∷ []) ≡ reach other part gs
  reach_since c other part [] = ap (λ (r : ℕ). max r 0) (c.reaches other part)
  reach_since c other part (h ∷ gs) = ap (max (reach_on other part h.group)) (reach_since c other part gs)

  reach_else : (c : Dropped) → (other : List ℕ) (part : Part) → same_name name other ≡ false → reach other part (life_of other all).since ≡ reach other part (life_of other groups).since
  reach_else c other part off = ap (λ (l : Life). reach other part l.since) (life_else c other off) ∙ reach_since c other part (life_of other groups).since

  table_else : (c : Dropped) → (other : List ℕ) → same_name name other ≡ false → is_some (tables_of t.folder all other) ≡ is_some (tables_of s.folder groups other)
  table_else c other off = ap (λ (l : Life). is_some (table_of other l t.folder)) (life_else c other off) ∙ ap is_some (table_push other (life_of other groups) g t.folder) ∙ by (tables_of t.folder groups other)
      ∙ ap is_some (tables_same s.folder t.folder groups other (λ q. c.others other q off))
    where
      by : (o : Option Table) → is_some (option_map (grown other g) o) ≡ is_some o
      by None = refl
      by (Some x) = refl

  table_here : (c : Dropped) → is_some (tables_of t.folder all name) ≡ false
  table_here c = ap (λ (l : Life). is_some (table_of name l t.folder)) (life_here c)

  edits_none : (c : Dropped) → (o : Option Spot) → edits_of groups (length groups) g.group o ≡ []
  edits_none c None = refl
  edits_none c (Some sp) = ap (λ (es : List Edit). cond (nat_lt (length groups) (base_of sp.name groups)) [] es) (c.edits sp.name sp.part sp.page) ∙ by (nat_lt (length groups) (base_of sp.name groups))
    where
      none : List Edit
      none = []

      by : (b : Bool) → cond b none none ≡ none
      by true = refl
      by false = refl

  redone_else : (c : Dropped) → (k : ℕ) (x : Seen) → gone_at (k / 2 ^ 32) ≡ false → redone_at all (length all) (spot_of store k) x ≡ redone_at groups (length groups) (spot_of store k) x
  redone_else c k x off = redone_push groups g (spot_of store k) x (λ sp at. c.quiet sp.name (spot_other k sp off at))
      ∙ ap (λ (es : List Edit). stepped (number_at g.at) es (redone_at groups (length groups) (spot_of store k) x)) (edits_none c (spot_of store k))

  raw_else : (c : Dropped) → (k : ℕ) → gone_at (k / 2 ^ 32) ≡ false → raw_at t.folder (spot_of store k) ≡ raw_at s.folder (spot_of store k)
  raw_else c k off = by (spot_of store k) refl
    where
      by : (o : Option Spot) → spot_of store k ≡ o → raw_at t.folder o ≡ raw_at s.folder o
      by None at = refl
      by (Some sp) at = ap (λ (o : Option (List (List ℕ))). seen (page_or_zero sp.page o)) (c.others sp.name sp.part (spot_other k sp off at))

  -- what is held of a page
  abbrev On : Option Held → Bool → Option Spot → Type 0
  On frame pin o = PageOn (is_some o) frame pin (raw_at t.folder o) (redone_at all (length all) o (raw_at t.folder o)) (edits_of all (length all) (records_of now.writer) o) (next_number now) (next_number now)

  untouched : (rs : List Record) (o : Option Spot) → rs ≡ [] → option_map_or (λ sp. touches sp.name sp.part sp.page rs) o false ≡ false
  untouched rs None none = refl
  untouched rs (Some sp) none = ap (touches sp.name sp.part sp.page) none

  no_pin : (c : Dropped) → (k : ℕ) → is_pinned now.frames k ≡ false
  no_pin c k = c.pins k ∙ c.is.pinned k ∙ untouched (records_of store.writer) (spot_of store k) c.idle

  frame_by : (c : Dropped) → (k : ℕ) (b : Bool) → gone_at (k / 2 ^ 32) ≡ b → held now.frames k ≡ cond b None (held store.frames k)
  frame_by c k b is = c.frames k ∙ ap (λ (b : Bool). cond b None (held store.frames k)) is

  pages : (c : Dropped) → HoldsPages now t.folder all (all_of all)
  pages c k = by (gone_at (k / 2 ^ 32)) refl
    where
      by : (b : Bool) → gone_at (k / 2 ^ 32) ≡ b → On (held now.frames k) (is_pinned now.frames k) (spot_of now k)
      by true on = subst (On (held now.frames k) (is_pinned now.frames k)) (sym (spot_gone c k on))
          (subst (λ (h : Option Held). On h (is_pinned now.frames k) None) (sym (frame_by c k true on))
          (subst (λ (b : Bool). On None b None) (sym (no_pin c k)) (page_none false None (next_number now) (next_number now))))
      by false off = subst (On (held now.frames k) (is_pinned now.frames k)) (sym (spot_else c k off))
          (subst (λ (h : Option Held). On h (is_pinned now.frames k) (spot_of store k)) (sym (frame_by c k false off))
          (subst (λ (b : Bool). On (held store.frames k) b (spot_of store k)) (sym (c.pins k))
          (page_pushed (is_known store k) (held store.frames k) (is_pinned store.frames k) (raw_at s.folder (spot_of store k)) (raw_at t.folder (spot_of store k))
          (redone_at groups (length groups) (spot_of store k) (raw_at s.folder (spot_of store k))) (redone_at all (length all) (spot_of store k) (raw_at t.folder (spot_of store k)))
          (edits_of groups (length groups) (records_of store.writer) (spot_of store k)) (edits_of all (length all) (records_of now.writer) (spot_of store k)) (next_number store) (next_number now) (next_number store) (next_number now)
          (raw_else c k off) (redone_else c k (raw_at t.folder (spot_of store k)) off ∙ ap (redone_at groups (length groups) (spot_of store k)) (raw_else c k off))
          (ap (λ (rs : List Record). edits_of groups (length groups) rs (spot_of store k)) c.idle ∙ edits_begin groups (length groups) (spot_of store k))
          (ap (λ (rs : List Record). edits_of all (length all) rs (spot_of store k)) c.empty ∙ edits_begin all (length all) (spot_of store k))
          c.later (c.is.pages k))))

  inside : (c : Dropped) → AreInside now t.folder all
  inside c k sp at dirt free = by (gone_at (k / 2 ^ 32)) refl
    where
      by : (b : Bool) → gone_at (k / 2 ^ 32) ≡ b → sp.page < max (page_count (file sp.name sp.part) t.folder) (reach sp.name sp.part (life_of sp.name all).since)
      by true on = absurd (let e : None ≡ Some sp = sym (spot_gone c k on) ∙ at in (cc))
      by false off =
          let was : spot_of store k ≡ Some sp = sym (spot_else c k off) ∙ at in
          let other = spot_other k sp off was in
          subst (λ (r : ℕ). sp.page < max (page_count (file sp.name sp.part) t.folder) r) (sym (reach_else c sp.name sp.part other))
          (subst (λ (o : Option (List (List ℕ))). sp.page < max (option_map_or length o 0) (reach sp.name sp.part (life_of sp.name groups).since)) (sym (c.others sp.name sp.part other))
          (c.is.inside k sp was (ap dirty_of (sym (frame_by c k false off)) ∙ dirt) (sym (c.pins k) ∙ free)))

  slot_there : (c : Dropped) → (m : ℕ) (slot : Slot) → same_name name slot.name ≡ false → slice_get store.slots m ≡ Some slot → slot.used ≡ true → IsSlot now t.folder all m slot
  slot_there c m slot other at used = record {
    table = subst IsTrue (sym (table_else c slot.name other)) was.table;
    files = λ q. let d = was.files q in record {
      content = d.content;
      there = c.others slot.name q other ∙ d.there;
      written = d.written;
      counts = d.counts ∙ ap (λ (rs : List Record). max (max (pages_in slot q).written (reach slot.name q (life_of slot.name groups).since)) (reach_on slot.name q rs)) (c.idle ∙ sym c.empty)
          ∙ ap (λ (r : ℕ). max (max (pages_in slot q).written r) (reach_on slot.name q (records_of now.writer))) (sym (reach_else c slot.name q other));
      few = d.few;
    };
    known = c.knows slot.name ∙ ap (λ (b : Bool). cond b None (known store slot.name)) other ∙ was.known;
  }
    where
      was : IsSlot store s.folder groups m slot
      was = c.is.slots m slot at used

  slots : (c : Dropped) → AreSlots now t.folder all
  slots c m slot at used = by (gone_at m) refl
    where
      named : name_at now m ≡ Some slot.name
      named = ap (option_and_then name_in) at ∙ ap (λ (b : Bool). cond b (Some slot.name) None) used

      by : (b : Bool) → gone_at m ≡ b → IsSlot now t.folder all m slot
      by true on = absurd (let e : None ≡ Some slot.name = sym (c.free m on) ∙ named in (cc))
      by false off =
          let same : name_at now m ≡ name_at store m = ap (option_and_then name_in) (c.else m off) in
          slot_there c m slot (sym (ap (λ (o : Option (List ℕ)). option_map_or (same_name name) o false) (sym same ∙ named)) ∙ off) (sym (c.else m off) ∙ at) used

  tables : (c : Dropped) → KnowsTables now t.folder all
  tables c = record { each = each; slot = at; silent = silent }
    where
      silent : (other : List ℕ) → known now other ≡ Some None → AreSilent other all
      silent other closed = by (same_name name other) refl
        where
          by : (b : Bool) → same_name name other ≡ b → AreSilent other all
          by true same = absurd (let e : None ≡ Some None = sym (c.knows other ∙ ap (λ (b : Bool). cond b (None) (known store other)) same) ∙ closed in (cc))
          by false off =
              let was = c.is.tables.silent other (sym (c.knows other ∙ ap (λ (b : Bool). cond b (None) (known store other)) off) ∙ closed) in
              record { last = ap (λ (l : Life). l.last) (life_else c other off) ∙ was.last; none = λ part. reach_else c other part off ∙ was.none part }

      each : (other : List ℕ) → is_some (known now other) ≡ is_some (tables_of t.folder all other)
      each other = by (same_name name other) refl
        where
          by : (b : Bool) → same_name name other ≡ b → is_some (known now other) ≡ is_some (tables_of t.folder all other)
          by true same = ap is_some (c.knows other) ∙ ap (λ (b : Bool). is_some (cond b None (known store other))) same ∙ sym (table_here c) ∙ ap (λ (q : List ℕ). is_some (tables_of t.folder all q)) ((bytes_decides name other).0 same)
          by false off = ap is_some (c.knows other) ∙ ap (λ (b : Bool). is_some (cond b None (known store other))) off ∙ c.is.tables.each other ∙ sym (table_else c other off)

      at : (q : List ℕ) (m : ℕ) → known now q ≡ Some (Some m) → name_at now m ≡ Some q
      at q m e = by (same_name name q) refl
        where
          by : (b : Bool) → same_name name q ≡ b → name_at now m ≡ Some q
          by true same = absurd (let f : None ≡ Some (Some m) = sym (c.knows q ∙ ap (λ (b : Bool). cond b None (known store q)) same) ∙ e in (cc))
          by false off =
              let was : name_at store m ≡ Some q = c.is.tables.slot q m (sym (ap (λ (b : Bool). cond b None (known store q)) off) ∙ sym (c.knows q) ∙ e) in
              ap (option_and_then name_in) (c.else m (ap (λ (o : Option (List ℕ)). option_map_or (same_name name) o false) was ∙ off)) ∙ was

  -- A TABLE WAS DROPPED
  pub pager_dropped : Dropped → IsPager now t base start all (length all)
  pager_dropped c = record {
    log = c.log;
    images = c.images;
    names = c.names;
    control = c.control;
    raises = c.raises;
    pages = pages c;
    top = inr (λ k. refl);
    inside = inside c;
    pinned = λ k. no_pin c k ∙ sym (untouched (records_of now.writer) (spot_of now k) c.empty);
    own = λ other part k on. absurd (let e : true ≡ false = sym on ∙ ap (touches other part k) c.empty in (cc));
    named = λ other part off. ap (reach_on other part) c.empty;
    slots = slots c;
    tables = tables c;
    settled = subst NoFiles (sym (drop_all (length all) all (omega arith))) (λ other. All-nil (λ h. told_by other h ≡ None));
    written = c.written;
    pending = ap (λ (v : Vec Lsn). v.items) c.pending ∙ c.is.pending ∙ ap (λ (l : List ℕ). reverse (map lsn_at_place l)) (sym (pending_push groups g ∙ c.loose (pending_of groups)));
  }
