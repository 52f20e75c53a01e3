-- The tables were entered in memory: the pager's condition, before groups are made again.
use Rattle.std.proofs.Common.{◌≡◌, ◌∙◌, inl, ℕ, zero, suc, ◌+◌, ◌<◌, ◌≤◌, max, Bool, true, false, nat_eq, nat_lt, List, [], ◌∷◌, length, map, ap, sym, refl, subst, arith, Option, None, Some}
use Rattle.std.specs.Prelude.{IsTrue, is_some, All}
use Rattle.std.specs.List.{list_any}
use Rattle.std.specs.Option.{option_map_or}
use Rattle.std.specs.Set.{is_member}
use Rattle.std.specs.Ordering.{nat_cmp, eq_by_cmp}
use Rattle.std.specs.Cmp.Lexicographic.{slice_cmp, bytes_decides}
use Rattle.std.proofs.lemmas.List.{drop_all}
use Rattle.std.proofs.lemmas.List.Elements.{All-nil, All-cons, All-drop, All-head, All-tail}
use Rattle.aria_page.specs.Lsn.{IsLsn}
use Rattle.aria_page.specs.declared.lsn.Lsn.{Lsn}
use Rattle.aria_page.specs.declared.place.Part.{Part}
use Rattle.aria_page.specs.declared.place.Part.TheVariants.{Keys, Rows}
use Rattle.aria_value.specs.Named.{same_name}
use Rattle.aria_host.specs.Calls.{Unchanged}
use Rattle.aria_host.specs.Folder.{Folder}
use Rattle.aria_host.specs.State.{State}
use Rattle.aria_record.specs.declared.record.Record.{Record}
use Rattle.aria_record.specs.declared.record.Record.TheVariants.{Redo, UndoRowInsert, UndoRowDelete, UndoKeyInsert, UndoKeyDelete, ClrEnd, Commit, Checkpoint, CreateTable, DropTable, RepairTable}
use Rattle.aria_record.specs.Logged.{Logged, lsn_at_place}
use Rattle.aria_record.specs.Writing.{Writes, records_of}
use Rattle.aria_record.proofs.Writers.{written_is}
use Rattle.aria_log.specs.declared.log.Log.{Log as LogValue}
use Rattle.aria_log.specs.Log.{IsLog, place}
use Rattle.aria_log.proofs.Places.{AreRising, log_rising}
use Rattle.aria_cache.specs.Frames.{Held, held, is_pinned}
use Rattle.aria_recovery.specs.Redo.{number_at, reach_on, touches}
use Rattle.aria_recovery.specs.Noted.{told_of, told_at, reach_at, life_at, is_of}
use Rattle.aria_recovery.specs.Analysed.{Has}
use Rattle.aria_recovery.specs.declared.analysis.Analysis.{Analysis}
use Rattle.aria_recovery.specs.declared.life.Told.{Told}
use Rattle.aria_recovery.specs.declared.life.Life.{Life as LifeValue}
use Rattle.aria_recovery.specs.Pending.{link_in, link_of, pended, pending_from, pending_of, oldest}
use Rattle.aria_recovery.specs.Tables.{Maker, life_of, file, is_there, tables_of, told_by, Agrees, IsCurrent, AreCurrent}
use Rattle.aria_recovery.specs.Images.{Raises, SameNames}
use Rattle.aria_recovery.specs.Frames.{Spot, FramesOver, dirty_of}
use Rattle.aria_recovery.proofs.Comparing.{lt_true}
use Rattle.aria_recovery.proofs.Over.{over_none}
use Rattle.aria_pager.specs.declared.page_store.PageStore.{PageStore}
use Rattle.aria_pager.specs.PageStore.{name_at, opened, spot_of, is_known as is_known_key}
use Rattle.aria_pager.specs.Pager.{LogOf, NamesBase, NoFiles, AreSilent, KnowsTables, HoldsPages, IsPagerAt, known, next_number}
use Rattle.aria_pager.specs.Filing.{AreTidy}
use Rattle.aria_pager.specs.View.{IsTidy}
use Rattle.aria_pager.specs.Settled.{IsSettled}
use Rattle.aria_pager.specs.Redone.{BeginsRedo}
use Rattle.aria_pager.specs.Entered.{is_told, reach_of, needs_slot, HasSlot, HaveSlots, IsEntering, HasEntered}
use Rattle.aria_pager.proofs.Stepping.{pager_look}
use Rattle.aria_pager.proofs.Forgetting.{by_order}
use Rattle.aria_pager.proofs.Keeping.{no_edits}
use Rattle.aria_pager.proofs.Lasting.{all_reverse}
use Rattle.aria_pager.proofs.Slots.{find, both_on}
use Rattle.aria_pager.proofs.Given.{there_is}

-- ---- the pending numbers can be stored

all_pended : (P : ℕ → Type 0) (at : ℕ) (group : List Record) (places : List ℕ) → P at → All P places → All P (pended at (link_of group) places)
all_pended P at [] places here all = all
all_pended P at (r ∷ []) places here all = by r
  where
    by : (r : Record) → All P (pended at (link_in r) places)
    by (Redo kind table part page edits) = all
    by (UndoRowInsert table prev slots) = All-cons P at places here all
    by (UndoRowDelete table prev slots row) = All-cons P at places here all
    by (UndoKeyInsert table prev key target entry) = All-cons P at places here all
    by (UndoKeyDelete table prev key target entry) = All-cons P at places here all
    by (ClrEnd table undone next) = All-drop P 1 places all
    by Commit = All-nil P
    by (Checkpoint redo dirty) = all
    by (CreateTable table plain definition format) = all
    by (DropTable table) = all
    by (RepairTable table) = all
all_pended P at (r ∷ q ∷ group) places here all = all_pended P at (q ∷ group) places here all

all_low : (low : ℕ) (places : List ℕ) (groups : List Logged) (end : ℕ) → AreRising low groups end → All (λ n. n < end) places → All (λ n. n < end) (pending_from places groups)
all_low low places [] end is all = all
all_low low places (g ∷ groups) end is all = all_low (g.at + 1) (pended g.at (link_of g.group) places) groups end is.1 (all_pended (λ n. n < end) g.at g.group places (ends (g.at + 1) groups is.1 (omega arith)) all)
  where
    ends : (low : ℕ) (gs : List Logged) → AreRising low gs end → g.at + 1 ≤ low → g.at < end
    ends low [] rises le = omega (arith, rises, le)
    ends low (h ∷ gs) rises le = ends (h.at + 1) gs rises.1 (omega (arith, rises.0, le))

all_lsns : (log : LogValue) (places : List ℕ) → All (λ n. n < place log) places → All IsLsn (map lsn_at_place places)
all_lsns log [] all = All-nil IsLsn
all_lsns log (n ∷ places) all = All-cons IsLsn (lsn_at_place n) (map lsn_at_place places) (fits n (All-head (λ n. n < place log) n places all)) (all_lsns log places (All-tail (λ n. n < place log) n places all))
  where
    fits : (n : ℕ) → n < place log → IsLsn (lsn_at_place n)
    fits n low = record { file = omega (arith, log.room, log.within, low); offset = omega arith }

pub oldest_fit : (log : LogValue) (s : State) (base : ℕ) (groups : List Logged) (forced : ℕ) → IsLog log s base groups forced → All IsLsn (oldest (pending_of groups))
oldest_fit log s base groups forced is = all_reverse IsLsn (map lsn_at_place (pending_of groups)) (all_lsns log (pending_of groups) (all_low base [] groups (place log) (log_rising log s base groups forced is) (All-nil (λ n. n < place log))))

-- ---- what holds whatever the host tells

pub tidy_entered : (store : PageStore) → AreTidy store → Writes store.writer [] → All IsLsn store.pending.items → IsTidy store
tidy_entered store is empty undo = record {
  one = one;
  known = is.known;
  few = is.few;
  closed = λ off none. written_is store.writer [] empty;
  edits = λ none. no_edits store.writer empty;
  undo = undo;
}
  where
    same : (i j : ℕ) → Some (Some i) ≡ Some (Some j) → i ≡ j
    same i j e = cc

    one : (n m : ℕ) (name : List ℕ) → name_at store n ≡ Some name → name_at store m ≡ Some name → n ≡ m
    one n m name at other = same n m (sym (is.known n name at) ∙ is.known m name other)

-- ---- each name that needs a slot has one

-- something is told of a name that needs one
told_some : (o : Option LifeValue) → is_told (told_at o) (max (reach_at o Keys) (reach_at o Rows)) ≡ true → is_some o ≡ true
told_some None needs = absurd (let e : false ≡ true = needs in (cc))
told_some (Some l) needs = refl

pub needs_known : (checkpoint : Lsn) (analysis : Analysis) (groups : List Logged) (name : List ℕ) → Has checkpoint analysis groups → needs_slot name groups ≡ true → list_any (is_of name) groups ≡ true
needs_known checkpoint analysis groups name has needs =
    sym (has.lives.names name) ∙ told_some (life_at analysis.lives name)
    (ap (λ (t : Told). is_told t (max (reach_at (life_at analysis.lives name) Keys) (reach_at (life_at analysis.lives name) Rows))) (has.lives.told name)
    ∙ ap (λ (n : ℕ). is_told (told_of (life_of name groups).last) (max n (reach_at (life_at analysis.lives name) Rows))) (has.lives.reach name Keys)
    ∙ ap (λ (n : ℕ). is_told (told_of (life_of name groups).last) (max (reach_of name Keys groups) n)) (has.lives.reach name Rows) ∙ needs)

-- each of them is among the names that the groups tell of
pub covered : (store : PageStore) (groups : List Logged) (checkpoint : Lsn) (analysis : Analysis) (names : List (List ℕ)) → Has checkpoint analysis groups → HaveSlots store groups names → ((q : List ℕ) → is_member (eq_by_cmp (slice_cmp nat_cmp)) names q ≡ list_any (is_of q) groups)
    → (name : List ℕ) → needs_slot name groups ≡ true → HasSlot store name
covered store groups checkpoint analysis names has have all name needs = have name (sym (λ i. list_any (λ x. by_order name x i) names) ∙ all name ∙ needs_known checkpoint analysis groups name has needs) needs

-- ---- the log, and the files behind it

-- The tables' files are those that the groups made or left last, in each image, behind a log that was started, or was opened alone.
pub record IsReady (started : Bool) (value : LogValue) (s : State) (base : ℕ) (start : Folder) (groups : List Logged) : Type 0 where
  pub log : LogOf started value s base groups (length groups)
  pub fits : All IsLsn (oldest (pending_of groups))
  pub names : (c : Folder) → s.may_leave c → SameNames s.folder c
  pub control : (c : Folder) → s.may_leave c → NamesBase base c
  pub agrees : (c : Folder) → s.may_leave c → Agrees groups (length groups) s.folder c
  pub made : (name : List ℕ) (m : Maker) → (life_of name groups).last ≡ Some (Some m) → (c : Folder) → s.may_leave c → AreCurrent name groups c
  pub raises : (c : Folder) → s.may_leave c → Raises (number_at (place value)) start c

pub settled_ready : (value : LogValue) (s : State) (base : ℕ) (start : Folder) (groups : List Logged) → IsSettled value s base start groups → IsReady true value s base start groups
settled_ready value s base start groups is = record {
  log = is.log;
  fits = oldest_fit value s base groups (length groups) is.log;
  names = is.names;
  control = is.control;
  agrees = is.agrees;
  made = is.made;
  raises = is.raises;
}

module _ (started : Bool) (value : LogValue) (store : PageStore) (s : State) (base : ℕ) (start : Folder) (groups : List Logged) (ready : IsReady started value s base start groups) (was : HasEntered value started s.folder groups store) where
  is : IsEntering store s.folder groups
  is = was.entering

  needed : (name : List ℕ) (m : Maker) → (life_of name groups).last ≡ Some (Some m) → needs_slot name groups ≡ true
  needed name m last = ap (λ (l : Option (Option Maker)). is_told (told_of l) (max (reach_of name Keys groups) (reach_of name Rows groups))) last

  told_there : (name : List ℕ) (l : Option (Option Maker)) → (life_of name groups).last ≡ l → is_some (tables_of s.folder groups name) ≡ is_there l (s.folder (file name Keys))
  told_there name l last = there_is s.folder groups name ∙ ap (λ (x : Option (Option Maker)). is_there x (s.folder (file name Keys))) last

  tables : KnowsTables store s.folder groups
  tables = record { each = each; slot = is.slot; silent = silent }
    where
      each : (name : List ℕ) → is_some (known store name) ≡ is_some (tables_of s.folder groups name)
      each name = by (life_of name groups).last refl
        where
          by : (l : Option (Option Maker)) → (life_of name groups).last ≡ l → is_some (known store name) ≡ is_some (tables_of s.folder groups name)
          by None last = is.bare name last ∙ sym (told_there name None last)
          by (Some None) last = ap is_some (is.gone name last) ∙ sym (told_there name (Some None) last)
          by (Some (Some m)) last = ap is_some (was.have name (needed name m last)).1 ∙ sym (told_there name (Some (Some m)) last)

      silent : (name : List ℕ) → known store name ≡ Some None → AreSilent name groups
      silent name closed = by (life_of name groups).last refl
        where
          no_slot : needs_slot name groups ≡ true → ⊥
          no_slot needs = let h = was.have name needs in let e : Some None ≡ Some (Some h.0) = sym closed ∙ h.1 in (cc)

          by : (l : Option (Option Maker)) → (life_of name groups).last ≡ l → AreSilent name groups
          by (Some None) last = absurd (let e : None ≡ Some None = sym (is.gone name last) ∙ closed in (cc))
          by (Some (Some m)) last = absurd (no_slot (needed name m last))
          by None last = record { last = last; none = none }
            where
              top : ℕ
              top = max (reach_of name Keys groups) (reach_of name Rows groups)

              low : (b : Bool) → nat_lt 0 top ≡ b → top ≤ 0
              low true on = absurd (no_slot (ap (λ (l : Option (Option Maker)). is_told (told_of l) top) last ∙ on))
              low false off = not_lt top off
                where
                  not_lt : (n : ℕ) → nat_lt 0 n ≡ false → n ≤ 0
                  not_lt zero off = omega arith
                  not_lt (suc n) off = absurd (let e : true ≡ false = sym (lt_true 0 (suc n) (omega arith)) ∙ off in (cc))

              none : (part : Part) → reach_of name part groups ≡ 0
              none Keys = let le = low (nat_lt 0 top) refl in omega (arith, le)
              none Rows = let le = low (nat_lt 0 top) refl in omega (arith, le)

  -- the files of tables that have a slot are there in each image, and aren't older than their tables
  current : (c : Folder) → s.may_leave c → (name : List ℕ) → IsTrue (opened store name) → (part : Part) → IsCurrent (life_of name groups).last (c (file name part))
  current c left name has_one =
      let f = find name store.slots has_one in
      let on = both_on f.1.used (same_name f.1.name name) f.3 in
      let slot = is.slots f.0 f.1 f.2 on.0 in
      let same : f.1.name ≡ name = (bytes_decides f.1.name name).0 on.1 in
      by (life_of name groups).last refl (ap (known store) (sym same) ∙ slot.known) (λ part. ap (λ (q : List ℕ). is_some (s.folder (file q part))) (sym same) ∙ ap is_some (slot.files part).there)
    where
      by : {n : ℕ} → (l : Option (Option Maker)) → (life_of name groups).last ≡ l → known store name ≡ Some (Some n) → ((part : Part) → is_some (s.folder (file name part)) ≡ true) → (part : Part) → IsCurrent (life_of name groups).last (c (file name part))
      by None last knows there part = subst (λ (l : Option (Option Maker)). IsCurrent l (c (file name part))) (sym last) (ready.names c left name part ∙ there part)
      by {n} (Some None) last knows there part = absurd (let e : None ≡ Some (Some n) = sym (is.gone name last) ∙ knows in (cc))
      by (Some (Some m)) last knows there part = ready.made name m last c left part

  no_records : records_of store.writer ≡ []
  no_records = written_is store.writer [] was.empty

  no_pin : (k : ℕ) → is_pinned store.frames k ≡ false
  no_pin k = ap (list_any (nat_eq k)) was.pins

  log_is : LogOf store.started store.log s base groups (length groups)
  log_is = subst (λ (b : Bool). LogOf b store.log s base groups (length groups)) (sym was.started) (subst (λ (l : LogValue). LogOf started l s base groups (length groups)) (sym was.log) ready.log)

  pages : HoldsPages store s.folder groups (λ k. 0)
  pages = subst (λ (rs : List Record). FramesOver (is_known_key store) (held store.frames) (is_pinned store.frames) (spot_of store) s.folder groups (λ k. 0) rs (next_number store) (next_number store)) (sym no_records)
      (subst (λ (f : ℕ → Option Held). FramesOver (is_known_key store) f (is_pinned store.frames) (spot_of store) s.folder groups (λ k. 0) [] (next_number store) (next_number store)) (λ i k. sym (was.none k) i)
      (subst (λ (p : ℕ → Bool). FramesOver (is_known_key store) (λ k. None) p (spot_of store) s.folder groups (λ k. 0) [] (next_number store) (next_number store)) (λ i k. sym (no_pin k) i)
      (over_none (is_known_key store) (spot_of store) s.folder groups (next_number store) (next_number store))))

  untouched : (o : Option Spot) → option_map_or (λ sp. touches sp.name sp.part sp.page (records_of store.writer)) o false ≡ false
  untouched None = refl
  untouched (Some sp) = ap (touches sp.name sp.part sp.page) no_records

  -- THE TABLES ARE ENTERED
  pub entered : IsPagerAt store s (λ k. 0) base start groups (length groups)
  entered = record {
    log = log_is;
    images = λ c left. record { agrees = ready.agrees c left; current = λ name has_one. current c left name has_one };
    names = ready.names;
    control = ready.control;
    raises = subst (λ (l : LogValue). (c : Folder) → s.may_leave c → Raises (number_at (place l)) start c) (sym was.log) ready.raises;
    pages = pages;
    top = inl no_records;
    inside = λ k sp at dirty free. absurd (let e : false ≡ true = sym (ap dirty_of (was.none k)) ∙ dirty in (cc));
    pinned = λ k. no_pin k ∙ sym (untouched (spot_of store k));
    own = λ name part k on. absurd (let e : true ≡ false = sym on ∙ ap (touches name part k) no_records in (cc));
    named = λ name part off. ap (reach_on name part) no_records;
    slots = is.slots;
    tables = tables;
    settled = subst NoFiles (sym (drop_all (length groups) groups (omega arith))) (λ name. All-nil (λ g. told_by name g ≡ None));
    written = subst (Writes store.writer) (sym no_records) was.empty;
    pending = was.pending ready.fits;
  }

-- NO GROUP IS MADE AGAIN YET, and the log was started
pub begins : (value : LogValue) (store : PageStore) (s t : State) (base : ℕ) (start : Folder) (groups : List Logged) (checkpoint : Lsn) (analysis : Analysis) → IsSettled value s base start groups → Has checkpoint analysis groups → Unchanged s t → HasEntered value true s.folder groups store
    → BeginsRedo store t analysis (lsn_at_place base) base start groups (length groups)
begins value store s t base start groups checkpoint analysis settled has same is = record {
  redoing = record {
    pager = pager_look store s t (λ k. 0) base start groups (length groups) same (entered true value store s base start groups (settled_ready value s base start groups settled) is);
    started = is.started;
    none = written_is store.writer [] is.empty;
    idle = ap (λ (l : LogValue). l.used) is.log ∙ settled.idle;
  };
  knows = record { checkpoint = checkpoint; has = has };
  from_is = refl;
}
