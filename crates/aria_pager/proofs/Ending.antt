-- The open group is appended to the log.
use Rattle.std.proofs.Common.{rules, ◌≡◌, ◌∙◌, ◌&&◌, ℕ, ◌/◌, ◌^◌, ◌<◌, ◌≤◌, max, Bool, true, false, cond, nat_eq, nat_lt, List, [], ◌∷◌, ◌++◌, length, drop, map, reverse, ap, sym, refl, subst, arith, Option, None, Some, inl, inr}
use Rattle.std.specs.Prelude.{IsTrue, is_some, All}
use Rattle.std.specs.Global.{Vec}
use Rattle.std.specs.Option.{option_map, option_map_or}
use Rattle.std.specs.List.{list_any}
use Rattle.std.proofs.lemmas.Bool.{cases_Bool}
use Rattle.std.proofs.lemmas.Bool.Decides.{nat_tests}
use Rattle.std.proofs.lemmas.List.{take-append-le, drop-append-le, length_push}
use Rattle.std.proofs.lemmas.List.Elements.{All-append, All-cons}
use Rattle.aria_page.specs.declared.lsn.Lsn.{Lsn}
use Rattle.aria_page.specs.declared.place.Part.{Part}
use Rattle.aria_host.specs.declared.file_name.FileName.TheVariants.{Control}
use Rattle.aria_host.specs.Folder.{Folder, page_count}
use Rattle.aria_host.specs.Seen.{page_or_zero}
use Rattle.aria_host.specs.State.{State}
use Rattle.aria_host.proofs.Moments.{implied}
use Rattle.aria_record.specs.declared.group_writer.GroupWriter.{GroupWriter}
use Rattle.aria_record.specs.declared.record.Record.{Record}
use Rattle.aria_record.specs.Logged.{Logged, lsn_at_place}
use Rattle.aria_record.specs.Writing.{Writes, records_of}
use Rattle.aria_log.specs.declared.log.Log.{Log as LogValue}
use Rattle.aria_log.specs.Log.{IsLog, LogKeeps, place}
use Rattle.aria_cache.specs.declared.frames.Frames.{Frames}
use Rattle.aria_cache.specs.Frames.{Held, held, is_pinned, stamped, stamp_all}
use Rattle.aria_recovery.specs.Redo.{Seen, seen, is_some_edit, is_before, touches, edits_on, reach_on, reach, redo, number_at}
use Rattle.aria_recovery.specs.Tables.{Maker, Life, Table, file, lives, life_of, told_by, table_of, tables_of, page_in}
use Rattle.aria_recovery.specs.Pending.{pending_of}
use Rattle.aria_recovery.specs.Moves.{Moves}
use Rattle.aria_recovery.specs.Frames.{Spot, edits_of, raw_at, redone_at, dirty_of, is_dirty, PageOn, FramesOver, all_of}
use Rattle.aria_recovery.proofs.Agreeing.{life_push, table_push, grown}
use Rattle.aria_recovery.proofs.Applying.{IsUnder}
use Rattle.aria_recovery.proofs.Behind.{front_all}
use Rattle.aria_recovery.proofs.Framing.{reach_touched}
use Rattle.aria_recovery.proofs.Moving.{moves_append}
use Rattle.aria_recovery.proofs.Numbering.{number_rises}
use Rattle.aria_recovery.proofs.Over.{over_pushed}
use Rattle.aria_recovery.proofs.Raising.{raises_on, raises_more}
use Rattle.aria_recovery.proofs.Stepping.{no_log, tables_same}
use Rattle.aria_recovery.proofs.Writing.{page_is}
use Rattle.aria_pager.specs.declared.page_store.PageStore.{PageStore}
use Rattle.aria_pager.specs.PageStore.{opened, spot_of, is_known}
use Rattle.aria_pager.specs.Pager.{LogOf, NoFiles, HasFront, HoldsPages, AreInside, AreSilent, IsSlot, AreSlots, IsPager, known, pages_in, next_number}
use Rattle.aria_pager.specs.Grouping.{SameBodies}
use Rattle.aria_pager.specs.Steps.{IsQuiet, Appends, with_end}
use Rattle.aria_pager.proofs.Fronting.{FrontOf, fronts, log_within, named_same, moments_front}
use Rattle.aria_pager.proofs.Slots.{stands, slot_open, closed_table}

-- a front of some groups is one of more
front_more : (base : ℕ) (groups : List Logged) (g : Logged) (forced : ℕ) (c : Folder) → FrontOf base groups forced c → FrontOf base (groups ++ g ∷ []) forced c
front_more base groups g forced c is = record {
  count = is.count;
  from = is.from;
  within = omega (arith, is.within, length_push groups g);
  log = subst (HasFront base c) (sym (take-append-le is.count groups (g ∷ []) is.within)) is.log;
}

reach_more : (name : List ℕ) (part : Part) (gs : List Logged) (g : Logged) → reach name part (gs ++ g ∷ []) ≡ max (reach name part gs) (reach_on name part g.group)
reach_more name part [] g = omega arith
reach_more name part (h ∷ gs) g = ap (max (reach_on name part h.group)) (reach_more name part gs g) ∙ omega arith

under_of : (at : ℕ) (x : Seen) → is_before at x ≡ true → IsUnder at x
under_of at None on = absurd (cc)
under_of at (Some s) on = low s.0 on
  where
    low : (n : ℕ) → nat_lt n at ≡ true → n < at
    low n is = grind (arith, nat_tests)

and_both : (a b : Bool) → (a && b) ≡ true → (a ≡ true) × (b ≡ true)
and_both true b on = (refl, on)
and_both false b on = absurd (cc)

grown_some : (name : List ℕ) (g : Logged) (t : Option Table) → is_some (option_map (grown name g) t) ≡ is_some t
grown_some name g None = refl
grown_some name g (Some t) = refl

stamp_dirty : (b : Bool) (lsn : ℕ) (o : Option Held) → dirty_of (cond b (option_map (stamped lsn) o) o) ≡ dirty_of o
stamp_dirty true lsn None = refl
stamp_dirty true lsn (Some h) = refl
stamp_dirty false lsn o = refl

abbrev touched_by : List Record → Option Spot → Bool
touched_by rs spot = option_map_or (λ s. touches s.name s.part s.page rs) spot false

touched_none : (o : Option Spot) → touched_by [] o ≡ false
touched_none None = refl
touched_none (Some s) = refl

-- pages that get a log sequence number keep their bodies
pub stamped_alike : (frames frames' : Frames) (pins : List ℕ) (lsn : ℕ) → held frames' ≡ stamp_all pins lsn (held frames) → SameBodies frames frames'
stamped_alike frames frames' pins lsn is k = ap (λ (m : ℕ → Option Held). option_map (λ (h : Held). h.body) (m k)) is ∙ by (list_any (nat_eq k) pins) (held frames k)
  where
    by : (b : Bool) (o : Option Held) → option_map (λ (h : Held). h.body) (cond b (option_map (stamped lsn) o) o) ≡ option_map (λ (h : Held). h.body) o
    by true None = refl
    by true (Some h) = refl
    by false o = refl

module _ (store : PageStore) (log' : LogValue) (frames' : Frames) (writer' : GroupWriter) (pending' : Vec Lsn) (s t : State) (base : ℕ) (start : Folder) (groups : List Logged) (forced : ℕ) where
  abbrev rs : List Record
  rs = records_of store.writer

  abbrev g : Logged
  g = record { at = place store.log; group = rs }

  abbrev more : List Logged
  more = groups ++ g ∷ []

  abbrev now : PageStore
  now = with_end store log' frames' writer' pending'

  pub record Ends : Type 0 where
    pub is : IsPager store s base start groups forced
    pub here : s.may_leave s.folder
    pub started : store.started ≡ true
    pub quiet : IsQuiet rs
    pub keeps : LogKeeps s t base groups forced
    pub log : IsLog log' t base more forced
    pub rises : place store.log < place log'
    pub frames_are : held frames' ≡ stamp_all store.frames.pins.items (next_number store) (held store.frames)
    pub pins : frames'.pins.items ≡ []
    pub none : records_of writer' ≡ []
    pub written : Writes writer' (records_of writer')
    pub pended : pending'.items ≡ reverse (map lsn_at_place (pending_of more))

  quiet_of : (e : Ends) → (name : List ℕ) → told_by name g ≡ None
  quiet_of e name = e.quiet name (lsn_at_place (place store.log))

  same : (e : Ends) → (name : List ℕ) (part : Part) → t.folder (file name part) ≡ s.folder (file name part)
  same e name part = e.keeps.others.folder (file name part) (no_log name part)

  within : (e : Ends) → forced ≤ length groups
  within e = log_within store.started store.log s base groups forced e.is.log

  -- the pages that the group edits stand before it
  under : (e : Ends) (name : List ℕ) (part : Part) (n : ℕ) → is_some_edit (edits_on name part n rs) ≡ true → IsUnder (number_at (place store.log)) (page_in (tables_of s.folder groups name) part n)
  under e name part n on =
      let k = e.is.own name part n on in
      let at = stands store k.0 (record { name = name; part = part; page = n }) k.1 in
      let disk = (e.is.slots (k.0 / 2 ^ 32) at.slot at.there at.used).files part in
      let there : s.folder (file name part) ≡ Some disk.content = ap (λ (m : List ℕ). s.folder (file m part)) at.name ∙ disk.there in
      let current = (e.is.images s.folder e.here).current name (subst (λ (m : List ℕ). IsTrue (opened store m)) (sym at.name) (slot_open store (k.0 / 2 ^ 32) at.slot at.there at.used)) in
      let pin : is_pinned store.frames k.0 ≡ true = e.is.pinned k.0 ∙ ap (touched_by rs) k.1 ∙ on in
      let before = (and_both (is_some_edit (edits_of groups (length groups) rs (spot_of store k.0))) (is_before (next_number store) (redone_at groups (length groups) (spot_of store k.0) (raw_at s.folder (spot_of store k.0)))) (sym (e.is.pages k.0).pinned ∙ pin)).1 in
      let made : redone_at groups (length groups) (spot_of store k.0) (raw_at s.folder (spot_of store k.0)) ≡ page_in (tables_of s.folder groups name) part n
      = ap (λ (o : Option Spot). redone_at groups (length groups) o (raw_at s.folder o)) k.1
      ∙ ap (λ (l : List Logged). redo name part n l (raw_in n (s.folder (file name part)))) (front_all name groups)
      ∙ ap (λ (o : Option (List (List ℕ))). redo name part n (life_of name groups).since (raw_in n o)) there
      ∙ sym (page_is name groups part s.folder disk.content there current n) in
      under_of (number_at (place store.log)) (page_in (tables_of s.folder groups name) part n) (sym (ap (is_before (next_number store)) made) ∙ before)
    where
      raw_in : ℕ → Option (List (List ℕ)) → Seen
      raw_in n o = seen (page_or_zero n o)

  pub end_moves : Ends → Moves (HasFront base) (opened store) s t groups more forced forced
  end_moves e = moves_append (HasFront base) (opened store) s t groups g forced (within e) e.is.images
      (λ name. record { under = λ told part n on. under e name part n on; older = λ maker told. absurd (let f : Some (Some maker) ≡ None = sym told ∙ quiet_of e name in (cc)) })
      (λ name maker d told left. absurd (let f : Some (Some maker) ≡ None = sym told ∙ quiet_of e name in (cc)))
      (λ name on. quiet_of e name)
      (implied s t (moments_front s t base groups forced e.is.control e.keeps) (λ c is. front_more base groups g forced c is))

  rises : (e : Ends) → next_number store < next_number now
  rises e = number_rises (place store.log) (place log') e.rises

  raw_same : (e : Ends) (o : Option Spot) → raw_at s.folder o ≡ raw_at t.folder o
  raw_same e None = refl
  raw_same e (Some sp) = ap (λ (o : Option (List (List ℕ))). seen (page_or_zero sp.page o)) (sym (same e sp.name sp.part))

  holds : (e : Ends) → HoldsPages now t.folder more (all_of more)
  holds e =
      subst (λ (m : ℕ → Option Held). FramesOver (is_known store) m (is_pinned frames') (spot_of store) t.folder more (all_of more) (records_of writer') (next_number now) (next_number now)) (sym e.frames_are)
      (subst (λ (q : ℕ → Bool). FramesOver (is_known store) (stamp_all store.frames.pins.items (next_number store) (held store.frames)) q (spot_of store) t.folder more (all_of more) (records_of writer') (next_number now) (next_number now)) (λ i k. list_any (nat_eq k) (sym e.pins i))
      (subst (λ (l : List Record). FramesOver (is_known store) (stamp_all store.frames.pins.items (next_number store) (held store.frames)) (λ k. false) (spot_of store) t.folder more (all_of more) l (next_number now) (next_number now)) (sym e.none)
      (over_pushed (is_known store) (held store.frames) (is_pinned store.frames) (spot_of store) t.folder groups g (next_number now) (next_number store) (next_number now) (rises e) (let low = rises e in omega (arith, low)) (λ k sp at. quiet_of e sp.name)
      (λ k. subst (λ (x : Seen). PageOn (is_known store k) (held store.frames k) (is_pinned store.frames k) x (redone_at groups (length groups) (spot_of store k) x) (edits_of groups (length groups) rs (spot_of store k)) (next_number store) (next_number store))
      (raw_same e (spot_of store k)) (e.is.pages k)))))

  since_more : (e : Ends) (name : List ℕ) → (life_of name more).since ≡ (life_of name groups).since ++ g ∷ []
  since_more e name = ap (λ (l : Life). l.since) (life_push name (record { last = None; since = [] }) groups g) ∙ ap (λ (q : Option (Option Maker)). (lives g (life_of name groups) q).since) (quiet_of e name)

  reach_is : (e : Ends) (name : List ℕ) (part : Part) → reach name part (life_of name more).since ≡ max (reach name part (life_of name groups).since) (reach_on name part rs)
  reach_is e name part = ap (reach name part) (since_more e name) ∙ reach_more name part (life_of name groups).since g

  inside : (e : Ends) → AreInside now t.folder more
  inside e k sp at dirt free = elim (cases_Bool (is_pinned store.frames k)) [
    | inl pin ↦
        let on : touches sp.name sp.part sp.page rs ≡ true = ap (touched_by rs) (sym at) ∙ sym (e.is.pinned k) ∙ pin in
        let low : sp.page < reach sp.name sp.part ((life_of sp.name groups).since ++ g ∷ []) = reach_touched sp.name sp.part sp.page (life_of sp.name groups).since [] g on in
        let high : reach sp.name sp.part (life_of sp.name more).since ≡ reach sp.name sp.part ((life_of sp.name groups).since ++ g ∷ []) = ap (reach sp.name sp.part) (since_more e sp.name) in
        omega (arith, low, high)
    | inr off ↦
        let was : is_dirty (held store.frames) k ≡ true = sym (stamp_dirty (list_any (nat_eq k) store.frames.pins.items) (next_number store) (held store.frames k)) ∙ ap (λ (m : ℕ → Option Held). is_dirty m k) (sym e.frames_are) ∙ dirt in
        let low = e.is.inside k sp at was off in
        let count : page_count (file sp.name sp.part) t.folder ≡ page_count (file sp.name sp.part) s.folder = ap (λ (o : Option (List (List ℕ))). option_map_or length o 0) (same e sp.name sp.part) in
        omega (arith, low, count, reach_is e sp.name sp.part)
  ]

  tables_more : (e : Ends) (name : List ℕ) → is_some (tables_of t.folder more name) ≡ is_some (tables_of s.folder groups name)
  tables_more e name =
      ap (λ (l : Life). is_some (table_of name l t.folder)) (life_push name (record { last = None; since = [] }) groups g ∙ ap (lives g (life_of name groups)) (quiet_of e name))
      ∙ ap is_some (table_push name (life_of name groups) g t.folder) ∙ grown_some name g (table_of name (life_of name groups) t.folder) ∙ ap is_some (tables_same s.folder t.folder groups name (same e name))

  slots : (e : Ends) → AreSlots now t.folder more
  slots e n slot at used = record {
    table = subst (λ (b : Bool). IsTrue b) (sym (tables_more e slot.name)) was.table;
    files = λ q. let d = was.files q in record {
      content = d.content;
      there = same e slot.name q ∙ d.there;
      written = d.written;
      counts = counts (pages_in slot q).pages (pages_in slot q).written (reach slot.name q (life_of slot.name groups).since) (reach_on slot.name q rs) (reach slot.name q (life_of slot.name more).since) (reach_on slot.name q (records_of writer')) d.counts
          (reach_is e slot.name q) (ap (reach_on slot.name q) e.none);
      few = d.few;
    };
    known = was.known;
  }
    where
      was : IsSlot store s.folder groups n slot
      was = e.is.slots n slot at used

      counts : (all w r ro r' ro' : ℕ) → all ≡ max (max w r) ro → r' ≡ max r ro → ro' ≡ 0 → all ≡ max (max w r') ro'
      counts all w r ro r' ro' is reach none = omega (arith, is, reach, none)

  settled : (e : Ends) → NoFiles (drop forced more)
  settled e name = subst (All (λ h. told_by name h ≡ None)) (sym (drop-append-le forced groups (g ∷ []) (within e)))
      (All-append (λ h. told_by name h ≡ None) (drop forced groups) (g ∷ []) (e.is.settled name) (All-cons (λ h. told_by name h ≡ None) g [] (quiet_of e name) (search rules)))

  -- THE GROUP IS IN THE LOG
  silent : (e : Ends) (name : List ℕ) → known store name ≡ Some None → AreSilent name more
  silent e name closed = record {
    last = ap (λ (l : Life). l.last) (life_push name (record { last = None; since = [] }) groups g) ∙ ap (λ (q : Option (Option Maker)). (lives g (life_of name groups) q).last) (quiet_of e name) ∙ was.last;
    none = λ part. reach_is e name part ∙ both (reach name part (life_of name groups).since) (reach_on name part rs) (was.none part) (e.is.named name part (closed_table store s.folder groups name e.is.slots closed));
  }
    where
      was : AreSilent name groups
      was = e.is.tables.silent name closed

      both : (a b : ℕ) → a ≡ 0 → b ≡ 0 → max a b ≡ 0
      both a b none too = omega (arith, none, too)

  pub pager_ended : Ends → IsPager now t base start more forced
  pager_ended e = record {
    log = subst (λ (b : Bool). LogOf b log' t base more forced) (sym e.started) e.log;
    images = (end_moves e).images;
    names = λ c left name part. let to = e.keeps.others.images c left in
        ap is_some (to.2 (file name part) (no_log name part)) ∙ e.is.names to.0 to.1 name part ∙ sym (ap is_some (same e name part));
    control = λ c left. let to = e.keeps.others.images c left in named_same base to.0 c (to.2 Control refl) (e.is.control to.0 to.1);
    raises = λ c left. let to = e.keeps.others.images c left in raises_on (next_number now) start to.0 c (raises_more (next_number store) (next_number now) start to.0 (let low = rises e in omega (arith, low)) (e.is.raises to.0 to.1))
        (λ name part n. inl (ap (λ (o : Option (List (List ℕ))). seen (page_or_zero n o)) (to.2 (file name part) (no_log name part))));
    pages = holds e;
    top = inr (λ k. refl);
    inside = inside e;
    pinned = λ k. ap (list_any (nat_eq k)) e.pins ∙ sym (ap (λ (l : List Record). touched_by l (spot_of store k)) e.none ∙ touched_none (spot_of store k));
    own = λ name part n on. absurd (let f : true ≡ false = sym on ∙ ap (touches name part n) e.none in (cc));
    named = λ name part off. ap (reach_on name part) e.none;
    slots = slots e;
    tables = record { each = λ name. e.is.tables.each name ∙ sym (tables_more e name); slot = e.is.tables.slot; silent = silent e };
    settled = settled e;
    written = e.written;
    pending = e.pended;
  }

  pub end_step : Ends → Appends store now s t base start groups forced rs
  end_step e = record { moves = end_moves e; fronts = fronts now.started log' t base more forced (pager_ended e).log (pager_ended e).control; entries = e.none; pager = pager_ended e }
