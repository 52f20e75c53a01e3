-- The pager's condition after each of its steps.
use Rattle.std.proofs.Common.{rules, ◌≡◌, ◌∙◌, ◌⊎◌, ℕ, ◌-◌, ◌*◌, ◌^◌, ◌<◌, ◌≤◌, max, Bool, true, false, cond, nat_eq, nat_lt, List, [], ◌∷◌, length, drop, ap, sym, refl, subst, arith, Option, None, Some, inl, inr}
use Rattle.std.specs.Prelude.{IsTrue, is_some}
use Rattle.std.specs.Option.{option_map_or}
use Rattle.std.specs.Map.{update}
use Rattle.std.proofs.lemmas.Bool.Decides.{nat_tests}
use Rattle.std.proofs.lemmas.List.{drop_all}
use Rattle.aria_page.specs.declared.edit.Edit.{Edit}
use Rattle.aria_page.specs.declared.lsn.Lsn.{Lsn}
use Rattle.aria_page.specs.Lsn.{IsLsn, lsn_number}
use Rattle.aria_page.specs.Page.{Sums, page_lsn, page_body}
use Rattle.aria_page.specs.Edit.{all_edited}
use Rattle.aria_page.specs.declared.place.Part.{Part}
use Rattle.aria_host.specs.declared.file_name.FileName.TheVariants.{Control}
use Rattle.aria_host.specs.Folder.{Folder, is_log}
use Rattle.aria_host.specs.Seen.{page_or_zero}
use Rattle.aria_host.specs.Moments.{Left, Moments, LeavesOthers}
use Rattle.aria_host.specs.State.{State}
use Rattle.aria_host.specs.Calls.{Unchanged}
use Rattle.aria_host.proofs.Moments.{OnlyNow, looks, unchanged_now}
use Rattle.aria_record.specs.declared.record.Record.{Record}
use Rattle.aria_record.specs.Logged.{Logged}
use Rattle.aria_record.specs.Writing.{records_of}
use Rattle.aria_log.specs.declared.log.Log.{Log as LogValue}
use Rattle.aria_log.specs.Pieces.{log_files}
use Rattle.aria_log.specs.Log.{IsLog, IsOpened, LogMoments, LogKeeps, HoldsAll, place}
use Rattle.aria_log.proofs.Staying.{narrows_leave}
use Rattle.aria_cache.specs.Frames.{Held, shown, held, is_pinned}
use Rattle.aria_cache.specs.declared.frames.Frame.{Frame}
use Rattle.aria_cache.specs.declared.frames.Frames.{Frames}
use Rattle.aria_recovery.specs.Redo.{Seen, seen, page_number, number_at, is_some_edit, touches, edits_on, reach}
use Rattle.aria_recovery.specs.Tables.{life_of, file, Table, Agrees, tables_of, IsCurrent}
use Rattle.aria_recovery.specs.Images.{IsImage, AreImages, SameNames}
use Rattle.aria_recovery.specs.Frames.{Spot, as_seen, raw_at, redone_at, edits_of, base_of, dirty_of, is_dirty, PageOn, FramesOver, Progress}
use Rattle.aria_recovery.specs.Moves.{Moves}
use Rattle.aria_recovery.proofs.Comparing.{lt_true, lt_false}
use Rattle.aria_recovery.proofs.Numbering.{number_rises_not, number_fits}
use Rattle.aria_recovery.proofs.Seeing.{seen_sound}
use Rattle.aria_recovery.proofs.Stepping.{no_log}
use Rattle.aria_recovery.proofs.Behind.{edits_begin}
use Rattle.aria_recovery.proofs.Holding.{page_begun, page_later}
use Rattle.aria_recovery.proofs.Frames.{frame_loaded, frame_taken}
use Rattle.aria_recovery.proofs.Agreeing.{agrees_self}
use Rattle.aria_recovery.proofs.Moving.{moves_on, moves_force}
use Rattle.aria_recovery.proofs.Raising.{raises_on, raises_more}
use Rattle.aria_pager.specs.declared.page_store.PageStore.{PageStore}
use Rattle.aria_pager.specs.PageStore.{opened, spot_of, is_known}
pub use Rattle.aria_pager.specs.PageStore.{with_frames}
use Rattle.aria_pager.specs.Pager.{LogOf, NoFiles, NamesBase, HasFront, HoldsPages, AreInside, AreOnTop, AreSlots, KnowsTables, is_touched, IsPagerAt, next_number}
use Rattle.aria_pager.specs.Steps.{SameWork, StepsAt, ForcesAt, IsRead, with_start}
use Rattle.aria_pager.proofs.Fronting.{FrontOf, fronts, fronts_log, log_within, log_of_stays, named_same, moments_front, front_whole, moves_call}
use Rattle.aria_pager.proofs.Putting.{tables_stay}

-- the same with another log
abbrev pub with_log : PageStore → LogValue → PageStore
with_log store log = record {
  log = log;
  started = store.started;
  frames = store.frames;
  writer = store.writer;
  in_group = store.in_group;
  made = store.made;
  slots = store.slots;
  tables = store.tables;
  pending = store.pending;
  lent = store.lent;
  kept = store.kept;
  blank = store.blank;
}

-- ---- a step that only looks, or does nothing

pub moves_look : (store : PageStore) (s t : State) (redone : Progress) (base : ℕ) (start : Folder) (groups : List Logged) (forced : ℕ) → OnlyNow s → t.may_leave t.folder → Unchanged s t → IsPagerAt store s redone base start groups forced
    → Moves (HasFront base) (opened store) s t groups groups forced forced
moves_look store s t redone base start groups forced only now same is =
    moves_call (opened store) s t base groups forced (λ d c. c ≡ d) (log_within store.started store.log s base groups forced is.log) only now is.images (fronts store.started store.log s base groups forced is.log is.control)
    (λ d c left e. record {
      agrees = subst (λ (f : Folder). Agrees groups forced d f) (sym e) (agrees_self groups forced d);
      current = λ name on part. subst (λ (f : Folder). IsCurrent (life_of name groups).last (f (file name part))) (sym e) ((is.images d left).current name on part);
    })
    (λ d c left e. (ap log_files e, ap (λ (f : Folder). f Control) e)) (λ c leaves. (c, same.images.no_more c leaves, refl)) same.tells

pub pager_look : (store : PageStore) (s t : State) (redone : Progress) (base : ℕ) (start : Folder) (groups : List Logged) (forced : ℕ) → Unchanged s t → IsPagerAt store s redone base start groups forced → IsPagerAt store t redone base start groups forced
pager_look store s t redone base start groups forced same is = record {
  log = log_of_stays store.started store.log s t base groups forced (narrows_leave s t (looks s t same)) is.log;
  images = λ c leaves. subst (λ (f : Folder). IsImage (opened store) groups forced f c) (sym same.folder) (is.images c (same.images.no_more c leaves));
  names = λ c leaves. subst (λ (f : Folder). SameNames f c) (sym same.folder) (is.names c (same.images.no_more c leaves));
  control = λ c leaves. is.control c (same.images.no_more c leaves);
  raises = λ c leaves. is.raises c (same.images.no_more c leaves);
  pages = subst (λ (f : Folder). HoldsPages store f groups redone) (sym same.folder) is.pages;
  top = is.top;
  inside = subst (λ (f : Folder). AreInside store f groups) (sym same.folder) is.inside;
  pinned = is.pinned;
  own = is.own;
  named = is.named;
  slots = subst (λ (f : Folder). AreSlots store f groups) (sym same.folder) is.slots;
  tables = subst (λ (f : Folder). KnowsTables store f groups) (sym same.folder) is.tables;
  settled = is.settled;
  written = is.written;
  pending = is.pending;
}

-- A STEP THAT ONLY LOOKS
pub look_step : (store store' : PageStore) (s t : State) (redone : Progress) (base : ℕ) (start : Folder) (groups : List Logged) (forced : ℕ) (done : Bool) → OnlyNow s → t.may_leave t.folder → Unchanged s t
    → (IsTrue done → IsPagerAt store t redone base start groups forced → IsPagerAt store' t redone base start groups forced) → IsPagerAt store s redone base start groups forced → StepsAt store store' s t redone base start groups forced done
look_step store store' s t redone base start groups forced done only now same fits is = record {
  forced' = forced;
  moves = moves_look store s t redone base start groups forced only now same is;
  fronts = λ c leaves. fronts store.started store.log s base groups forced is.log is.control c (same.images.no_more c leaves);
  pager = λ on. fits on (pager_look store s t redone base start groups forced same is);
}

-- nothing was asked of the host
pub still_step : (store store' : PageStore) (s : State) (redone : Progress) (base : ℕ) (start : Folder) (groups : List Logged) (forced : ℕ) (done : Bool) → OnlyNow s → s.may_leave s.folder
    → (IsTrue done → IsPagerAt store s redone base start groups forced → IsPagerAt store' s redone base start groups forced) → IsPagerAt store s redone base start groups forced → StepsAt store store' s s redone base start groups forced done
still_step store store' s redone base start groups forced done only now fits is = look_step store store' s s redone base start groups forced done only now (unchanged_now s) fits is

-- one step after another
pub steps_on : (a b c : PageStore) (s t u : State) (redone : Progress) (base : ℕ) (start : Folder) (groups : List Logged) (forced : ℕ) (done : Bool) → opened b ≡ opened a → (first : StepsAt a b s t redone base start groups forced true)
    → StepsAt b c t u redone base start groups first.forced' done → StepsAt a c s u redone base start groups forced done
steps_on a b c s t u redone base start groups forced done same first second = record {
  forced' = second.forced';
  moves = moves_on (HasFront base) (opened a) s t u groups groups groups forced first.forced' second.forced' first.moves
      (subst (λ (o : List ℕ → Bool). Moves (HasFront base) o t u groups groups first.forced' second.forced') same second.moves);
  fronts = second.fronts;
  pager = second.pager;
}

-- a step, behind which a fault is answered
pub fault_on : (a b c : PageStore) (s t : State) (redone : Progress) (base : ℕ) (start : Folder) (groups : List Logged) (forced : ℕ) (done done' : Bool) → done' ≡ false → StepsAt a b s t redone base start groups forced done → StepsAt a c s t redone base start groups forced done'
fault_on a b c s t redone base start groups forced done done' off first = record { forced' = first.forced'; moves = first.moves; fronts = first.fronts; pager = λ on. absurd (let e : true ≡ false = sym on ∙ off in (cc)) }

-- ---- frames change

pub frames_fit : (store : PageStore) (frames' : Frames) (s : State) (redone : Progress) (base : ℕ) (start : Folder) (groups : List Logged) (forced : ℕ)
    → HoldsPages (with_frames store frames') s.folder groups redone → AreInside (with_frames store frames') s.folder groups → is_pinned frames' ≡ is_pinned store.frames
    → IsPagerAt store s redone base start groups forced → IsPagerAt (with_frames store frames') s redone base start groups forced
frames_fit store frames' s redone base start groups forced pages inside pins is = record {
  log = is.log;
  images = is.images;
  names = is.names;
  control = is.control;
  raises = is.raises;
  pages = pages;
  top = is.top;
  inside = inside;
  pinned = λ k. ap (λ (f : ℕ → Bool). f k) pins ∙ is.pinned k;
  own = is.own;
  named = is.named;
  slots = λ n slot at used. let was = is.slots n slot at used in record {
    table = was.table;
    files = λ q. let d = was.files q in record { content = d.content; there = d.there; written = d.written; counts = d.counts; few = d.few };
    known = was.known;
  };
  tables = record { each = is.tables.each; slot = is.tables.slot; silent = is.tables.silent };
  settled = is.settled;
  written = is.written;
  pending = is.pending;
}

module _ (store : PageStore) (frames' : Frames) (s : State) (redone : Progress) (base : ℕ) (start : Folder) (groups : List Logged) (forced : ℕ) (pins : is_pinned frames' ≡ is_pinned store.frames) (is : IsPagerAt store s redone base start groups forced) where
  abbrev Over : (ℕ → Option Held) → (ℕ → Bool) → Type 0
  Over map pins = FramesOver (is_known store) map pins (spot_of store) s.folder groups redone (records_of store.writer) (next_number store) (next_number store)

  -- these are the frames, and the pages that were dirty still are
  fits : (map : ℕ → Option Held) → held frames' ≡ map → Over map (is_pinned store.frames) → ((k : ℕ) → is_dirty map k ≡ true → is_dirty (held store.frames) k ≡ true) → IsPagerAt (with_frames store frames') s redone base start groups forced
  fits map held_is over dirty = frames_fit store frames' s redone base start groups forced
      (subst (λ (m : ℕ → Option Held). Over m (is_pinned frames')) (sym held_is) (subst (λ (q : ℕ → Bool). Over map q) (sym pins) over))
      (λ k sp at dirt free. is.inside k sp at (dirty k (ap (λ (m : ℕ → Option Held). is_dirty m k) (sym held_is) ∙ dirt)) (ap (λ (f : ℕ → Bool). f k) (sym pins) ∙ free))
      pins is

  -- one frame that isn't dirty takes the place of another
  dirty_else : (n : ℕ) (o : Option Held) → dirty_of o ≡ false → (k : ℕ) → is_dirty (update nat_eq (held store.frames) n o) k ≡ true → is_dirty (held store.frames) k ≡ true
  dirty_else n o clean k = by (nat_eq n k)
    where
      by : (b : Bool) → dirty_of (cond b o (held store.frames k)) ≡ true → is_dirty (held store.frames) k ≡ true
      by true e = absurd (let f : true ≡ false = sym e ∙ clean in (cc))
      by false e = e

  -- THE SAME PAGES ARE HELD
  pub same_step : held frames' ≡ held store.frames → IsPagerAt (with_frames store frames') s redone base start groups forced
  same_step map = fits (held store.frames) map is.pages (λ k e. e)

  -- A CLEAN PAGE LEAVES
  pub taken_step : (n : ℕ) → held frames' ≡ update nat_eq (held store.frames) n None → is_dirty (held store.frames) n ≡ false → IsPagerAt (with_frames store frames') s redone base start groups forced
  taken_step n map off = fits (update nat_eq (held store.frames) n None) map
      (frame_taken (is_known store) (held store.frames) (is_pinned store.frames) (λ k. raw_at s.folder (spot_of store k)) (λ k. redone_at groups (redone k) (spot_of store k) (raw_at s.folder (spot_of store k)))
      (λ k. edits_of groups (redone k) (records_of store.writer) (spot_of store k)) (next_number store) (next_number store) n off is.pages)
      (dirty_else n None refl)

  -- A PAGE THAT WAS READ IS HELD
  pub inserted_step : (n : ℕ) (h : Held) → is_known store n ≡ true → held store.frames n ≡ None → held frames' ≡ update nat_eq (held store.frames) n (Some h) → IsRead store s n h → IsPagerAt (with_frames store frames') s redone base start groups forced
  inserted_step n h known none map read = fits (update nat_eq (held store.frames) n (Some h)) map
      (frame_loaded (is_known store) (held store.frames) (is_pinned store.frames) (λ k. raw_at s.folder (spot_of store k)) (λ k. redone_at groups (redone k) (spot_of store k) (raw_at s.folder (spot_of store k)))
      (λ k. edits_of groups (redone k) (records_of store.writer) (spot_of store k)) (next_number store) (next_number store) n h known none read.page read.below read.clean is.pages)
      (dirty_else n (Some h) read.clean)

-- ---- the log is forced

lt_of : (a b : ℕ) → nat_lt a b ≡ true → a < b
lt_of a b low = grind (arith, nat_tests)

-- the open group gets a later number: its pages are pinned
later_group : (known : Bool) (frame : Option Held) (pin : Bool) (raw made : Seen) (edits : List Edit) (at at' next : ℕ) → pin ≡ is_some_edit edits → at ≤ at' → PageOn known frame pin raw made edits at next → PageOn known frame pin raw made edits at' next
later_group known frame pin raw made [] at at' next pins le is = page_begun known frame pin raw made at at' next is
later_group known frame pin raw None (e ∷ es) at at' next pins le is = absurd (let f : true ≡ false = sym pins ∙ is.pinned in (cc))
later_group known frame pin raw (Some m) (e ∷ es) at at' next pins le is = record {
  held = λ h there. ap (λ (b : Bool). Some (cond b (m.0, all_edited (e ∷ es) m.1) m)) (then_on ∙ sym on) ∙ is.held h there;
  is_known = is.is_known;
  below = is.below;
  clean = is.clean;
  pinned = pins ∙ sym then_on;
  on_top = is.on_top;
}
  where
    on : nat_lt m.0 at ≡ true
    on = sym is.pinned ∙ pins

    low : m.0 < at
    low = lt_of m.0 at on

    then_on : nat_lt m.0 at' ≡ true
    then_on = lt_true m.0 at' (omega (arith, low, le))

abbrev touched_by : List Record → Option Spot → Bool
touched_by rs spot = option_map_or (λ s. touches s.name s.part s.page rs) spot false

-- the edits of the open group on a key's page
pub edits_all : (groups : List Logged) (redone : Progress) (store : PageStore) (k : ℕ) → AreOnTop store groups redone → is_some_edit (edits_of groups (redone k) (records_of store.writer) (spot_of store k)) ≡ is_touched store k
edits_all groups redone store k (inl none) = ap (λ (rs : List Record). is_some_edit (edits_of groups (redone k) rs (spot_of store k))) none ∙ ap is_some_edit (edits_begin groups (redone k) (spot_of store k))
    ∙ sym (ap (λ (rs : List Record). touched_by rs (spot_of store k)) none ∙ untouched (spot_of store k))
  where
    untouched : (o : Option Spot) → touched_by [] o ≡ false
    untouched None = refl
    untouched (Some sp) = refl
edits_all groups redone store k (inr all) = ap (λ (i : ℕ). is_some_edit (edits_of groups i (records_of store.writer) (spot_of store k))) (all k) ∙ by (spot_of store k)
  where
    by : (o : Option Spot) → is_some_edit (edits_of groups (length groups) (records_of store.writer) o) ≡ touched_by (records_of store.writer) o
    by None = refl
    by (Some sp) = ap (λ (b : Bool). is_some_edit (cond b [] (edits_on sp.name sp.part sp.page (records_of store.writer)))) (lt_false (length groups) (base_of sp.name groups) (omega arith))

-- THE LOG'S FILES ALONE ARE WRITTEN, all groups or none are forced by it
pub log_moves : (store : PageStore) (s t : State) (redone : Progress) (base : ℕ) (start : Folder) (groups : List Logged) (forced forced' : ℕ) → forced ≤ forced' → forced' ≤ length groups → LogKeeps s t base groups forced → IsPagerAt store s redone base start groups forced
    → Moves (HasFront base) (opened store) s t groups groups forced forced'
log_moves store s t redone base start groups forced forced' more few keeps is = moves_force (HasFront base) (opened store) s t groups forced forced' more few is.images (moments_front s t base groups forced is.control keeps)

pub force_failed : (store store' : PageStore) (s t : State) (redone : Progress) (base : ℕ) (start : Folder) (groups : List Logged) (forced : ℕ) (done : Bool) → done ≡ false → ((c : Folder) → t.may_leave c → t.since s.moment c t.out) → LogKeeps s t base groups forced
    → IsPagerAt store s redone base start groups forced → ForcesAt store store' s t redone base start groups forced done
force_failed store store' s t redone base start groups forced done off counts keeps is = record {
  steps = record {
    forced' = forced;
    moves = log_moves store s t redone base start groups forced forced (omega arith) (log_within store.started store.log s base groups forced is.log) keeps is;
    fronts = fronts_log s t base groups forced counts is.control keeps;
    pager = λ on. absurd (let e : true ≡ false = sym on ∙ off in (cc));
  };
  all = λ on. absurd (let e : true ≡ false = sym on ∙ off in (cc));
}

-- the log's files alone changed, and its end isn't before
pub pager_logged : (store : PageStore) (started' : Bool) (log' : LogValue) (s t : State) (redone : Progress) (base : ℕ) (start : Folder) (groups : List Logged) (forced forced' : ℕ) → Moves (HasFront base) (opened store) s t groups groups forced forced' → LeavesOthers is_log s t
    → LogOf started' log' t base groups forced' → NoFiles (drop forced' groups) → place store.log ≤ place log' → IsPagerAt store s redone base start groups forced → IsPagerAt (with_start store started' log') t redone base start groups forced'
pager_logged store started' log' s t redone base start groups forced forced' moves others log settled later is = record {
  log = log;
  images = moves.images;
  names = λ c left name part. let to = others.images c left in
      ap is_some (to.2 (file name part) (no_log name part)) ∙ is.names to.0 to.1 name part ∙ sym (ap is_some (others.folder (file name part) (no_log name part)));
  control = λ c left. let to = others.images c left in named_same base to.0 c (to.2 Control refl) (is.control to.0 to.1);
  raises = λ c left. let to = others.images c left in raises_on (next_number (with_start store started' log')) start to.0 c (raises_more (next_number store) (next_number (with_start store started' log')) start to.0 rises (is.raises to.0 to.1))
      (λ name part n. inl (ap (λ (o : Option (List (List ℕ))). seen (page_or_zero n o)) (to.2 (file name part) (no_log name part))));
  pages = λ k. page_later (is_known store k) (held store.frames k) (is_pinned store.frames k) (raw_at t.folder (spot_of store k)) (redone_at groups (redone k) (spot_of store k) (raw_at t.folder (spot_of store k)))
      (edits_of groups (redone k) (records_of store.writer) (spot_of store k)) (next_number (with_start store started' log')) (next_number store) (next_number (with_start store started' log')) rises
      (later_group (is_known store k) (held store.frames k) (is_pinned store.frames k) (raw_at t.folder (spot_of store k)) (redone_at groups (redone k) (spot_of store k) (raw_at t.folder (spot_of store k)))
      (edits_of groups (redone k) (records_of store.writer) (spot_of store k)) (next_number store) (next_number (with_start store started' log')) (next_number store) (is.pinned k ∙ sym (edits_all groups redone store k is.top)) rises
      (subst (λ (x : Seen). PageOn (is_known store k) (held store.frames k) (is_pinned store.frames k) x (redone_at groups (redone k) (spot_of store k) x) (edits_of groups (redone k) (records_of store.writer) (spot_of store k)) (next_number store) (next_number store))
      (raw_same (spot_of store k)) (is.pages k)));
  top = is.top;
  inside = λ k sp at dirt free. subst (λ (o : Option (List (List ℕ))). sp.page < max (option_map_or length o 0) (reach sp.name sp.part (life_of sp.name groups).since)) (sym (same sp.name sp.part)) (is.inside k sp at dirt free);
  pinned = is.pinned;
  own = is.own;
  named = is.named;
  slots = λ n slot at used. let was = is.slots n slot at used in record {
    table = subst (λ (o : Option Table). IsTrue (is_some o)) (sym (tables slot.name)) was.table;
    files = λ q. let d = was.files q in record { content = d.content; there = same slot.name q ∙ d.there; written = d.written; counts = d.counts; few = d.few };
    known = was.known;
  };
  tables = record { each = λ name. is.tables.each name ∙ ap is_some (sym (tables name)); slot = is.tables.slot; silent = is.tables.silent };
  settled = settled;
  written = is.written;
  pending = is.pending;
}
  where
    rises : next_number store ≤ next_number (with_start store started' log')
    rises = number_rises_not (place store.log) (place log') later

    same : (name : List ℕ) (part : Part) → t.folder (file name part) ≡ s.folder (file name part)
    same name part = others.folder (file name part) (no_log name part)

    tables : (name : List ℕ) → tables_of t.folder groups name ≡ tables_of s.folder groups name
    tables name = tables_stay store s t base groups forced forced' moves name

    raw_same : (o : Option Spot) → raw_at s.folder o ≡ raw_at t.folder o
    raw_same None = refl
    raw_same (Some sp) = ap (λ (o : Option (List (List ℕ))). seen (page_or_zero sp.page o)) (sym (same sp.name sp.part))

no_files : (groups : List Logged) → NoFiles (drop (length groups) groups)
no_files groups = subst NoFiles (sym (drop_all (length groups) groups (omega arith))) (λ name. none name)
  where
    none : NoFiles []
    none name = search rules

pub pager_forced : (store : PageStore) (log' : LogValue) (s t : State) (redone : Progress) (base : ℕ) (start : Folder) (groups : List Logged) (forced : ℕ) → store.started ≡ true → LogKeeps s t base groups forced → IsLog log' t base groups (length groups)
    → place store.log ≤ place log' → IsPagerAt store s redone base start groups forced → IsPagerAt (with_log store log') t redone base start groups (length groups)
pager_forced store log' s t redone base start groups forced started keeps log later is =
    pager_logged store store.started log' s t redone base start groups forced (length groups)
    (log_moves store s t redone base start groups forced (length groups) (log_within store.started store.log s base groups forced is.log) (omega arith) keeps is) keeps.others
    (subst (λ (b : Bool). LogOf b log' t base groups (length groups)) (sym started) log) (no_files groups) later is

-- ALL GROUPS ARE FORCED, or it failed
pub force_step : (store : PageStore) (log' : LogValue) (s t : State) (redone : Progress) (base : ℕ) (start : Folder) (groups : List Logged) (forced : ℕ) (done : Bool) → store.started ≡ true → ((c : Folder) → t.may_leave c → t.since s.moment c t.out) → LogKeeps s t base groups forced
    → (IsTrue done → IsLog log' t base groups (length groups) × (place store.log ≤ place log')) → IsPagerAt store s redone base start groups forced → ForcesAt store (with_log store log') s t redone base start groups forced done
force_step store log' s t redone base start groups forced false started counts keeps got is = force_failed store (with_log store log') s t redone base start groups forced false refl counts keeps is
force_step store log' s t redone base start groups forced true started counts keeps got is = record {
  steps = record {
    forced' = length groups;
    moves = log_moves store s t redone base start groups forced (length groups) (log_within store.started store.log s base groups forced is.log) (omega arith) keeps is;
    fronts = fronts (with_log store log').started log' t base groups (length groups) pager.log pager.control;
    pager = λ on. pager;
  };
  all = λ on. refl;
}
  where
    pager : IsPagerAt (with_log store log') t redone base start groups (length groups)
    pager = let g = got refl in pager_forced store log' s t redone base start groups forced started keeps g.0 g.1 is

-- the log isn't started: all groups are forced
pub force_none : (store : PageStore) (s : State) (redone : Progress) (base : ℕ) (start : Folder) (groups : List Logged) (forced : ℕ) → store.started ≡ false → OnlyNow s → s.may_leave s.folder → IsPagerAt store s redone base start groups forced
    → ForcesAt store store s s redone base start groups forced true
force_none store s redone base start groups forced off only now is = record {
  steps = record {
    forced' = forced;
    moves = moves_look store s s redone base start groups forced only now (unchanged_now s) is;
    fronts = fronts store.started store.log s base groups forced is.log is.control;
    pager = λ on. is;
  };
  all = λ on. opened_all store.started off is.log;
}
  where
    opened_all : (b : Bool) → b ≡ false → LogOf b store.log s base groups forced → forced ≡ length groups
    opened_all false e log = log.1
    opened_all true e log = absurd (cc)

-- a log that was started
pub log_running : (started : Bool) (log : LogValue) (s : State) (base : ℕ) (groups : List Logged) (forced : ℕ) → started ≡ true → LogOf started log s base groups forced → IsLog log s base groups forced
log_running true log s base groups forced on is = is
log_running false log s base groups forced on is = absurd (cc)

-- ---- what is held, as it is written

-- a number below that of a place of the log is that of a log sequence number that can be stored
pub lsn_fits : (lsn : Lsn) (place : ℕ) → lsn_number lsn < number_at place → place ≤ 8176 * (2 ^ 34 - 1) → lsn.offset < 2 ^ 32 → IsLsn lsn
lsn_fits lsn place low end small = record { file = file (number_fits place end); offset = small }
  where
    file : number_at place < 2 ^ 56 → lsn.file < 2 ^ 24
    file fits = omega (arith, low, fits)

pub page_number_is : (page : List ℕ) → page_number page ≡ lsn_number (page_lsn page)
unfolding page_number
page_number_is page = refl

-- a frame's page after it was sealed
pub seen_held : (frame : Frame) (page : List ℕ) (lsn : Lsn) → lsn ≡ frame.lsn → Sums page → page_lsn page ≡ lsn → page_body page ≡ page_body frame.page.value → seen page ≡ Some (as_seen (shown frame))
seen_held frame page lsn same sums is body = seen_sound page (inl sums) ∙ (λ i. Some (number i, body i))
  where
    number : page_number page ≡ lsn_number frame.lsn
    number = page_number_is page ∙ ap lsn_number (is ∙ same)

-- slots, the open group and what is pending stay, over two steps
pub same_after : (a b c : PageStore) → SameWork a b → SameWork b c → SameWork a c
same_after a b c first second = record {
  slots = second.slots ∙ first.slots;
  sizes = second.sizes ∙ first.sizes;
  opens = second.opens ∙ first.opens;
  tables = second.tables ∙ first.tables;
  writer = second.writer ∙ first.writer;
  pending = second.pending ∙ first.pending;
  started = second.started ∙ first.started;
  in_group = second.in_group ∙ first.in_group;
  made = second.made ∙ first.made;
  lent = second.lent ∙ first.lent;
  kept = second.kept ∙ first.kept;
}

-- what follows a change of frames alone
pub same_frames : (a b : PageStore) (frames : Frames) → SameWork (with_frames a frames) b → SameWork a b
same_frames a b frames is = record {
  slots = is.slots;
  sizes = is.sizes;
  opens = is.opens;
  tables = is.tables;
  writer = is.writer;
  pending = is.pending;
  started = is.started;
  in_group = is.in_group;
  made = is.made;
  lent = is.lent;
  kept = is.kept;
}

-- ---- the log is started

-- what the log's images hold while it is started
start_front : (s t : State) (base : ℕ) (groups : List Logged) → ((c : Folder) → s.may_leave c → NamesBase base c) → LogMoments s t (HoldsAll base groups) → Moments is_log s t (FrontOf base groups (length groups))
start_front s t base groups named keeps = record {
  moments = record {
    later = keeps.moments.later;
    each = λ c b left. here c b (keeps.moments.each c b left);
    before = λ k c b le left. by k c b (keeps.moments.before k c b le left);
  };
  others = keeps.others;
}
  where
    here : (c : Folder) (b : List ℕ) → Left is_log s (λ f. HoldsAll base groups (log_files f)) c b → Left is_log s (FrontOf base groups (length groups)) c b
    here c b at = record {
      has = front_whole base groups c at.has (named_same base at.others.0 c (at.others.2 Control refl) (named at.others.0 at.others.1));
      others = at.others;
      told_is = at.told_is;
    }

    by : (k : ℕ) (c : Folder) (b : List ℕ) → s.since k c b ⊎ Left is_log s (λ f. HoldsAll base groups (log_files f)) c b → s.since k c b ⊎ Left is_log s (FrontOf base groups (length groups)) c b
    by k c b (inl was) = inl was
    by k c b (inr at) = inr (here c b at)

-- a log that isn't started
pub log_opened : (started : Bool) (log : LogValue) (s : State) (base : ℕ) (groups : List Logged) (forced : ℕ) → started ≡ false → LogOf started log s base groups forced → IsOpened log s base groups log.last × (forced ≡ length groups)
log_opened false log s base groups forced off is = is
log_opened true log s base groups forced off is = absurd (cc)

-- THE LOG IS STARTED, or it failed
pub start_step : (store store' : PageStore) (log' : LogValue) (s t : State) (redone : Progress) (base : ℕ) (start : Folder) (groups : List Logged) (forced : ℕ) (done : Bool) → (IsTrue done → store' ≡ with_start store true log') → store.started ≡ false → ((c : Folder) → t.may_leave c → t.since s.moment c t.out) → LogMoments s t (HoldsAll base groups)
    → (IsTrue done → IsLog log' t base groups (length groups)) → place log' ≡ place store.log → IsPagerAt store s redone base start groups forced → StepsAt store store' s t redone base start groups forced done
start_step store store' log' s t redone base start groups forced done now off counts keeps got same is = record {
  forced' = length groups;
  moves = moves;
  fronts = λ c left. ((start_front s t base groups is.control keeps).moments.each c t.out (counts c left)).has;
  pager = λ on. subst (λ (v : PageStore). IsPagerAt v t redone base start groups (length groups)) (sym (now on))
      (pager_logged store true log' s t redone base start groups forced (length groups) moves keeps.others (got on) (no_files groups) (omega (arith, same)) is);
}
  where
    all : forced ≡ length groups
    all = (log_opened store.started store.log s base groups forced off is.log).1

    moves : Moves (HasFront base) (opened store) s t groups groups forced (length groups)
    moves = subst (λ (k : ℕ). Moves (HasFront base) (opened store) s t groups groups k (length groups)) (sym all)
        (moves_force (HasFront base) (opened store) s t groups (length groups) (length groups) (omega arith) (omega arith) (subst (AreImages (opened store) s groups) all is.images) (start_front s t base groups is.control keeps))
