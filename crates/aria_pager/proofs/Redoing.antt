-- Groups are made again on the pages that lack them.
use Rattle.std.proofs.Common.{◌≡◌, ◌∙◌, inl, ℕ, ◌+◌, ◌<◌, ◌≤◌, max, Bool, true, false, cond, nat_eq, List, [], ◌∷◌, ◌++◌, length, ap, sym, refl, subst, arith, Option, None, Some}
use Rattle.std.specs.Option.{option_map, option_map_or}
use Rattle.std.specs.Map.{update}
use Rattle.std.proofs.lemmas.Bool.{eqb-true, eq-eqb}
use Rattle.aria_page.specs.declared.edit.Edit.{Edit}
use Rattle.aria_host.specs.Folder.{Folder, page_count}
use Rattle.aria_host.specs.State.{State}
use Rattle.aria_record.specs.declared.record.Record.{Record}
use Rattle.aria_record.specs.Logged.{Logged}
use Rattle.aria_record.specs.Writing.{records_of}
use Rattle.aria_log.specs.Log.{IsLog, place}
use Rattle.aria_log.proofs.Places.{AreRising, log_rising}
use Rattle.aria_cache.specs.Frames.{Held, held, is_pinned, redone_held}
use Rattle.aria_cache.specs.declared.frames.Frames.{Frames}
use Rattle.aria_recovery.specs.Redo.{number_at, is_some_edit, edits_on, touches, reach, Rises}
use Rattle.aria_recovery.specs.Tables.{life_of, file}
use Rattle.aria_recovery.specs.Frames.{Spot, Progress, redone_at, raw_at, is_dirty, dirty_of, FramesOver}
use Rattle.aria_recovery.specs.Midway.{raised, EditsPage}
use Rattle.aria_recovery.proofs.Holding.{all_edited_append}
use Rattle.aria_recovery.proofs.Numbering.{number_rises}
use Rattle.aria_recovery.proofs.Groupwise.{over_alike, over_redone, over_past, edited_reach}
use Rattle.aria_pager.specs.declared.page_store.PageStore.{PageStore}
use Rattle.aria_pager.specs.PageStore.{spot_of, is_known, with_frames}
use Rattle.aria_pager.specs.Pager.{HoldsPages, AreInside, IsPagerAt, next_number}
use Rattle.aria_pager.specs.Redone.{redone_by, IsRedoing}
use Rattle.aria_pager.proofs.Stepping.{log_running}

abbrev touched_by : List Record → Option Spot → Bool
touched_by rs spot = option_map_or (λ s. touches s.name s.part s.page rs) spot false

-- ---- what is held

update_same : (m : ℕ → Option Held) (key : ℕ) (frame : Option Held) → m key ≡ frame → update nat_eq m key frame ≡ m
update_same m key frame is = λ i k. by k (nat_eq key k) refl i
  where
    by : (k : ℕ) → (b : Bool) → nat_eq key k ≡ b → cond (nat_eq key k) frame (m k) ≡ m k
    by k true on = ap (λ (b : Bool). cond b frame (m k)) on ∙ sym is ∙ ap m (eqb-true key k on)
    by k false off = ap (λ (b : Bool). cond b frame (m k)) off

-- no edit was made
pub redone_none : (m : ℕ → Option Held) (key number : ℕ) → m ≡ update nat_eq m key (option_map (redone_by number []) (m key))
redone_none m key number = sym (update_same m key (option_map (redone_by number []) (m key)) (by (m key)))
  where
    by : (frame : Option Held) → frame ≡ option_map (redone_by number []) frame
    by None = refl
    by (Some h) = refl

by_both : (number : ℕ) (es fs : List Edit) (h : Held) → redone_by number fs (redone_by number es h) ≡ redone_by number (es ++ fs) h
by_both number [] fs h = refl
by_both number (e ∷ es) [] h = ap (λ (body : List ℕ). record { lsn = number; body = body; dirty = true }) (sym (all_edited_append (e ∷ es) [] h.body))
by_both number (e ∷ es) (f ∷ fs) h = ap (λ (body : List ℕ). record { lsn = number; body = body; dirty = true }) (sym (all_edited_append (e ∷ es) (f ∷ fs) h.body))

-- more edits were made
pub redone_more : (m m' m'' : ℕ → Option Held) (key number : ℕ) (es fs : List Edit) → m' ≡ update nat_eq m key (option_map (redone_by number es) (m key)) → m'' ≡ update nat_eq m' key (option_map (redone_by number fs) (m' key))
    → m'' ≡ update nat_eq m key (option_map (redone_by number (es ++ fs)) (m key))
redone_more m m' m'' key number es fs first second = second ∙ ap (λ (x : ℕ → Option Held). update nat_eq x key (option_map (redone_by number fs) (x key))) first ∙ (λ i k. by k (nat_eq key k) i)
  where
    both : (frame : Option Held) → option_map (redone_by number fs) (option_map (redone_by number es) frame) ≡ option_map (redone_by number (es ++ fs)) frame
    both None = refl
    both (Some h) = ap Some (by_both number es fs h)

    here : cond (nat_eq key key) (option_map (redone_by number es) (m key)) (m key) ≡ option_map (redone_by number es) (m key)
    here = ap (λ (b : Bool). cond b (option_map (redone_by number es) (m key)) (m key)) (eq-eqb key key refl)

    by : (k : ℕ) (b : Bool) → cond b (option_map (redone_by number fs) (cond (nat_eq key key) (option_map (redone_by number es) (m key)) (m key))) (cond b (option_map (redone_by number es) (m key)) (m k)) ≡ cond b (option_map (redone_by number (es ++ fs)) (m key)) (m k)
    by k true = ap (option_map (redone_by number fs)) here ∙ both (m key)
    by k false = refl

-- ---- the log

-- a group of the log stands before its end
pub rising_below : (low : ℕ) (before after : List Logged) (g : Logged) (end : ℕ) → AreRising low (before ++ g ∷ after) end → g.at < end
rising_below low [] after g end is = ends (g.at + 1) after is.1 (omega arith)
  where
    ends : (low : ℕ) (gs : List Logged) → AreRising low gs end → g.at + 1 ≤ low → g.at < end
    ends low [] is le = omega (arith, is, le)
    ends low (h ∷ gs) is le = ends (h.at + 1) gs is.1 (omega (arith, is.0, le))
rising_below low (b ∷ before) after g end is = rising_below (b.at + 1) before after g end is.1

pub rises_of : (low low' : ℕ) (gs : List Logged) (end : ℕ) → low' ≤ low → AreRising low gs end → Rises low' gs
rises_of low low' [] end le is = tt
rises_of low low' (g ∷ gs) end le is = (omega (arith, le, is.0), rises_of (g.at + 1) (g.at + 1) gs end (omega arith) is.1)

module _ (store : PageStore) (s : State) (redone : Progress) (base : ℕ) (start : Folder) (groups : List Logged) (forced : ℕ) (is : IsRedoing store s redone base start groups forced) where
  pub log_is : IsLog store.log s base groups forced
  log_is = log_running store.started store.log s base groups forced is.started is.pager.log

  pub rises : Rises 0 groups
  rises = rises_of base 0 groups (place store.log) (omega arith) (log_rising store.log s base groups forced log_is)

  pub group_below : (before after : List Logged) (g : Logged) → groups ≡ before ++ g ∷ after → number_at g.at < next_number store
  group_below before after g whole = number_rises g.at (place store.log) (rising_below base before after g (place store.log) (subst (λ (l : List Logged). AreRising base l (place store.log)) whole (log_rising store.log s base groups forced log_is)))

  -- no page is pinned
  pub free : (key : ℕ) → is_pinned store.frames key ≡ false
  free key = is.pager.pinned key ∙ by (spot_of store key)
    where
      by : (o : Option Spot) → touched_by (records_of store.writer) o ≡ false
      by None = refl
      by (Some sp) = ap (touches sp.name sp.part sp.page) is.none

-- ---- the pager's condition, with another progress

pub redone_fit : (store : PageStore) (frames' : Frames) (s : State) (redone redone' : Progress) (base : ℕ) (start : Folder) (groups : List Logged) (forced : ℕ) → IsRedoing store s redone base start groups forced
    → HoldsPages (with_frames store frames') s.folder groups redone' → AreInside (with_frames store frames') s.folder groups → is_pinned frames' ≡ is_pinned store.frames → IsPagerAt (with_frames store frames') s redone' base start groups forced
redone_fit store frames' s redone redone' base start groups forced is pages inside pins = record {
  log = is.pager.log;
  images = is.pager.images;
  names = is.pager.names;
  control = is.pager.control;
  raises = is.pager.raises;
  pages = pages;
  top = inl is.none;
  inside = inside;
  pinned = λ k. ap (λ (f : ℕ → Bool). f k) pins ∙ is.pager.pinned k;
  own = is.pager.own;
  named = is.pager.named;
  slots = λ n slot at used. let was = is.pager.slots n slot at used in record {
    table = was.table;
    files = λ q. let d = was.files q in record { content = d.content; there = d.there; written = d.written; counts = d.counts; few = d.few };
    known = was.known;
  };
  tables = record { each = is.pager.tables.each; slot = is.pager.tables.slot; silent = is.pager.tables.silent };
  settled = is.pager.settled;
  written = is.pager.written;
  pending = is.pager.pending;
}

-- The same page is made of each by another progress.
pub redone_alike : (store : PageStore) (s : State) (redone redone' : Progress) (base : ℕ) (start : Folder) (groups : List Logged) (forced : ℕ)
    → ((k : ℕ) → redone_at groups (redone' k) (spot_of store k) (raw_at s.folder (spot_of store k)) ≡ redone_at groups (redone k) (spot_of store k) (raw_at s.folder (spot_of store k)))
    → IsRedoing store s redone base start groups forced → IsPagerAt store s redone' base start groups forced
redone_alike store s redone redone' base start groups forced same is =
    subst (λ (f : Frames). IsPagerAt (with_frames store f) s redone' base start groups forced) refl
    (redone_fit store store.frames s redone redone' base start groups forced is
    (subst (λ (rs : List Record). FramesOver (is_known store) (held store.frames) (is_pinned store.frames) (spot_of store) s.folder groups redone' rs (next_number store) (next_number store)) (sym is.none)
    (over_alike (is_known store) (held store.frames) (is_pinned store.frames) (spot_of store) s.folder groups redone redone' (next_number store) (next_number store) same
    (subst (λ (rs : List Record). FramesOver (is_known store) (held store.frames) (is_pinned store.frames) (spot_of store) s.folder groups redone rs (next_number store) (next_number store)) is.none is.pager.pages)))
    is.pager.inside refl)

module _ (store : PageStore) (s : State) (redone : Progress) (base : ℕ) (start : Folder) (groups before after : List Logged) (g : Logged) (forced key : ℕ) (sp : Spot) (h : Held) (is : IsRedoing store s redone base start groups forced) (page : EditsPage (spot_of store) redone groups before after g key sp) where
  abbrev Over : (ℕ → Option Held) → Progress → List Record → Type 0
  Over map progress rs = FramesOver (is_known store) map (is_pinned store.frames) (spot_of store) s.folder groups progress rs (next_number store) (next_number store)

  abbrev next : Progress
  next = raised key (length before + 1) redone

  abbrev mine : List Edit
  mine = edits_on sp.name sp.part sp.page g.group

  was : Over (held store.frames) redone []
  was = subst (Over (held store.frames) redone) is.none is.pager.pages

  some_redone : (es : List Edit) → is_some_edit es ≡ true → redone_by (number_at g.at) es h ≡ redone_held (number_at g.at) es h
  some_redone [] some = absurd (cc)
  some_redone (e ∷ es) some = refl

  -- THE GROUP IS MADE AGAIN ON A PAGE that lacks it
  pub redone_step : (frames' : Frames) → held store.frames key ≡ Some h → h.lsn < number_at g.at → is_pinned frames' ≡ is_pinned store.frames → held frames' ≡ update nat_eq (held store.frames) key (option_map (redone_by (number_at g.at) mine) (held store.frames key))
      → IsPagerAt (with_frames store frames') s next base start groups forced
  redone_step frames' there low pins map = redone_fit store frames' s redone next base start groups forced is
      (subst (λ (m : ℕ → Option Held). FramesOver (is_known store) m (is_pinned frames') (spot_of store) s.folder groups next (records_of store.writer) (next_number store) (next_number store)) (sym map_is)
      (subst (λ (q : ℕ → Bool). FramesOver (is_known store) changed q (spot_of store) s.folder groups next (records_of store.writer) (next_number store) (next_number store)) (sym pins)
      (subst (Over changed next) (sym is.none)
      (over_redone (is_known store) (held store.frames) (is_pinned store.frames) (spot_of store) s.folder groups before after g redone key sp h (next_number store) (next_number store) page
      there (free store s redone base start groups forced is key) low (group_below store s redone base start groups forced is before after g page.whole) was))))
      inside pins
    where
      changed : ℕ → Option Held
      changed = update nat_eq (held store.frames) key (Some (redone_held (number_at g.at) mine h))

      map_is : held frames' ≡ changed
      map_is = map ∙ ap (λ (o : Option Held). update nat_eq (held store.frames) key (option_map (redone_by (number_at g.at) mine) o)) there ∙ ap (λ (x : Held). update nat_eq (held store.frames) key (Some x)) (some_redone mine page.edits)

      some_spot : (a b : Spot) → Some a ≡ Some b → a ≡ b
      some_spot a b e = cc

      inside : AreInside (with_frames store frames') s.folder groups
      inside k t at dirt loose = by (nat_eq key k) refl
        where
          by : (b : Bool) → nat_eq key k ≡ b → t.page < max (page_count (file t.name t.part) s.folder) (reach t.name t.part (life_of t.name groups).since)
          by true on =
              let same : sp ≡ t = some_spot sp t (sym page.here ∙ ap (spot_of store) (eqb-true key k on) ∙ at) in
              let low : sp.page < reach sp.name sp.part (life_of sp.name groups).since = edited_reach (spot_of store) redone groups before after g key sp page in
              subst (λ (x : Spot). x.page < max (page_count (file x.name x.part) s.folder) (reach x.name x.part (life_of x.name groups).since)) same
              (more (page_count (file sp.name sp.part) s.folder) (reach sp.name sp.part (life_of sp.name groups).since) low)
            where
              more : (a b : ℕ) → sp.page < b → sp.page < max a b
              more a b low = omega (arith, low)
          by false off = is.pager.inside k t at (sym (ap (λ (m : ℕ → Option Held). is_dirty m k) map_is ∙ ap (λ (b : Bool). dirty_of (cond b (Some (redone_held (number_at g.at) mine h)) (held store.frames k))) off) ∙ dirt) (free store s redone base start groups forced is k)

  -- a page that has it stays
  pub past_step : held store.frames key ≡ Some h → number_at g.at ≤ h.lsn → IsPagerAt store s next base start groups forced
  past_step there past = redone_fit store store.frames s redone next base start groups forced is
      (subst (Over (held store.frames) next) (sym is.none)
      (subst (λ (m : ℕ → Option Held). Over m next []) (update_same (held store.frames) key (Some h) there)
      (over_past (is_known store) (held store.frames) (is_pinned store.frames) (spot_of store) s.folder groups before after g redone key sp h (next_number store) (next_number store) page
      there (free store s redone base start groups forced is key) past was)))
      is.pager.inside refl
