-- Between calls: a fault is kept, a group begins or is left.
use Rattle.std.proofs.Common.{◌≡◌, ◌∙◌, ◌⊎◌, inl, inr, ℕ, max, Bool, true, false, nat_eq, List, [], length, ap, sym, refl, subst, Option, None, Some, Result, Ok, Err}
use Rattle.std.specs.Prelude.{IsTrue, IsSome, is_ok, is_some}
use Rattle.std.specs.Option.{option_map_or}
use Rattle.std.specs.List.{list_any, AllByRecursion}
use Rattle.aria_host.specs.declared.fault.Fault.{Fault}
use Rattle.aria_host.specs.Folder.{Folder}
use Rattle.aria_host.specs.State.{State}
use Rattle.aria_host.proofs.Moments.{OnlyNow}
use Rattle.aria_record.specs.declared.group_writer.GroupWriter.{GroupWriter}
use Rattle.aria_record.specs.declared.record.Record.{Record}
use Rattle.aria_record.specs.Groups.{is_redo}
use Rattle.aria_record.specs.Logged.{Logged}
use Rattle.aria_record.specs.Writing.{Writes, records_of}
use Rattle.aria_record.proofs.Writers.{written_is, is_writing}
use Rattle.aria_cache.specs.Calls.{fault_of}
use Rattle.aria_cache.specs.Frames.{held, is_pinned}
use Rattle.aria_cache.specs.declared.frames.Frames.{Frames}
use Rattle.aria_recovery.specs.Redo.{reach, reach_on, touches}
use Rattle.aria_recovery.specs.Tables.{life_of}
use Rattle.aria_recovery.specs.Frames.{Spot, redone_at, raw_at, edits_of, PageOn, all_of}
use Rattle.aria_recovery.specs.Images.{AreImages}
use Rattle.aria_pager.specs.declared.page_store.PageStore.{PageStore}
use Rattle.aria_pager.specs.PageStore.{name_at, opened, spot_of, is_known, with_frames, with_writer, with_rest}
use Rattle.aria_pager.specs.Pager.{IsPager, Standing, next_number, pages_in}
use Rattle.aria_pager.specs.Goes.{Gone, Stands, Stays}
use Rattle.aria_pager.specs.Steps.{SameWork, Steps}
use Rattle.aria_pager.specs.View.{HasEdits, IsTidy, page_bodies}
use Rattle.aria_pager.specs.Laws.{still_moves}
use Rattle.aria_pager.proofs.Stepping.{same_step}
use Rattle.aria_pager.proofs.Putting.{tables_stay}
use Rattle.aria_pager.proofs.Bodies.{steps_bodies}

pub was_ok : {T : Type 0} (r : Result T Fault) → fault_of r ≡ None → IsTrue (is_ok r)
was_ok (Ok x) none = refl
was_ok (Err e) none = absurd (cc)

-- the condition doesn't speak of the rest
pub pager_rest : (store : PageStore) (in_group : Bool) (made lent : ℕ) (kept : Option Fault) (s : State) (base : ℕ) (start : Folder) (groups : List Logged) (forced : ℕ)
    → IsPager store s base start groups forced → IsPager (with_rest store in_group made lent kept) s base start groups forced
pager_rest store in_group made lent kept s base start groups forced is = record {
  log = is.log;
  images = is.images;
  names = is.names;
  control = is.control;
  raises = is.raises;
  pages = is.pages;
  inside = is.inside;
  pinned = is.pinned;
  top = inr (λ k. refl);
  own = is.own;
  named = is.named;
  slots = λ n slot at used. let was = is.slots n slot at used in record {
    table = was.table;
    files = λ q. let d = was.files q in record { content = d.content; there = d.there; written = d.written; counts = d.counts; few = d.few };
    known = was.known;
  };
  tables = record { each = is.tables.each; slot = is.tables.slot; silent = is.tables.silent };
  settled = is.settled;
  written = is.written;
  pending = is.pending;
}

-- A STEP, behind which a fault is kept where it failed
pub gone_step : (store mid : PageStore) (in_group : Bool) (made lent : ℕ) (kept : Option Fault) (s t : State) (base : ℕ) (start : Folder) (groups : List Logged) (forced : ℕ) (done : Bool) → opened mid ≡ opened store
    → Steps store mid s t base start groups forced done → (kept ≡ None → IsTrue done) → Gone store (with_rest mid in_group made lent kept) s t base start groups groups forced
gone_step store mid in_group made lent kept s t base start groups forced done same st only = record {
  forced' = st.forced';
  standing = record {
    within = st.moves.within;
    images = subst (λ (o : List ℕ → Bool). AreImages o t groups st.forced') (sym same) st.moves.images;
    fronts = st.fronts;
    pager = λ none. pager_rest mid in_group made lent kept t base start groups st.forced' (st.pager (only none));
  };
  moves = st.moves;
}

-- the writer has the same entries
pub pager_writer : (store : PageStore) (writer : GroupWriter) (s : State) (base : ℕ) (start : Folder) (groups : List Logged) (forced : ℕ) → records_of writer ≡ records_of store.writer → Writes writer (records_of writer)
    → IsPager store s base start groups forced → IsPager (with_writer store writer) s base start groups forced
pager_writer store writer s base start groups forced same writes is = record {
  log = is.log;
  images = is.images;
  names = is.names;
  control = is.control;
  raises = is.raises;
  pages = λ k. subst (λ (rs : List Record). PageOn (is_known store k) (held store.frames k) (is_pinned store.frames k) (raw_at s.folder (spot_of store k)) (redone_at groups (length groups) (spot_of store k) (raw_at s.folder (spot_of store k)))
      (edits_of groups (length groups) rs (spot_of store k)) (next_number store) (next_number store)) (sym same) (is.pages k);
  inside = is.inside;
  pinned = λ k. is.pinned k ∙ ap (λ (rs : List Record). option_map_or (λ s. touches s.name s.part s.page rs) (spot_of store k) false) (sym same);
  top = inr (λ k. refl);
  own = λ name part n on. is.own name part n (ap (touches name part n) (sym same) ∙ on);
  named = λ name part off. ap (reach_on name part) same ∙ is.named name part off;
  slots = λ n slot at used. let was = is.slots n slot at used in record {
    table = was.table;
    files = λ q. let d = was.files q in record {
      content = d.content;
      there = d.there;
      written = d.written;
      counts = d.counts ∙ ap (λ (rs : List Record). max (max (pages_in slot q).written (reach slot.name q (life_of slot.name groups).since)) (reach_on slot.name q rs)) (sym same);
      few = d.few;
    };
    known = was.known;
  };
  tables = record { each = is.tables.each; slot = is.tables.slot; silent = is.tables.silent };
  settled = is.settled;
  written = writes;
  pending = is.pending;
}

pub none_touched : (spot : Option Spot) → option_map_or (λ s. touches s.name s.part s.page []) spot false ≡ false
none_touched None = refl
none_touched (Some s) = refl

-- a pager whose open group has no entry begins one anew
pub pager_begun : (store : PageStore) (frames : Frames) (writer : GroupWriter) (s : State) (base : ℕ) (start : Folder) (groups : List Logged) (forced : ℕ) → records_of store.writer ≡ [] → Writes writer [] → frames.cache ≡ store.frames.cache → frames.pins.items ≡ []
    → IsPager store s base start groups forced → IsPager (with_writer (with_frames store frames) writer) s base start groups forced
pager_begun store frames writer s base start groups forced none writes cache pins is =
    pager_writer (with_frames store frames) writer s base start groups forced (told ∙ sym none) (subst (Writes writer) (sym told) writes)
    (same_step store frames s (all_of groups) base start groups forced (λ i k. free k i) is (ap (λ c. held (record { cache = c; pins = frames.pins })) cache))
  where
    told : records_of writer ≡ []
    told = written_is writer [] writes

    free : (k : ℕ) → is_pinned frames k ≡ is_pinned store.frames k
    free k = ap (λ (l : List ℕ). list_any (nat_eq k) l) pins ∙ sym (is.pinned k ∙ ap (λ (rs : List Record). option_map_or (λ s. touches s.name s.part s.page rs) (spot_of store k) false) none ∙ none_touched (spot_of store k))

-- ---- calls that ask nothing of the host

-- the condition is kept, where no fault is
pub stays_still : (store store' : PageStore) (s : State) → OnlyNow s → name_at store' ≡ name_at store → opened store' ≡ opened store
    → ((base : ℕ) (start : Folder) (groups : List Logged) (forced : ℕ) → store'.kept ≡ None → Standing store s base start groups forced → IsPager store' s base start groups forced) → Stays store store' s s
stays_still store store' s only slots opens keeps = record {
  slots = slots;
  opens = opens;
  goes = λ base start groups forced is. record {
    forced' = forced;
    standing = record {
      within = is.within;
      images = subst (λ (o : List ℕ → Bool). AreImages o s groups forced) (sym opens) is.images;
      fronts = is.fronts;
      pager = λ none. keeps base start groups forced none is;
    };
    moves = still_moves store s base start groups forced only is;
  };
}

-- slots and the open group don't change
pub tidy_rest : (store : PageStore) (in_group : Bool) (made lent : ℕ) (kept : Option Fault) → (in_group ≡ false → kept ≡ None → records_of store.writer ≡ []) → (kept ≡ None → store.kept ≡ None) → IsTidy store
    → IsTidy (with_rest store in_group made lent kept)
tidy_rest store in_group made lent kept closed clear is = record { one = is.one; known = is.known; few = is.few; closed = closed; edits = λ none. is.edits (clear none); undo = is.undo }

-- a writer without entries
pub no_edits : (writer : GroupWriter) → Writes writer [] → HasEdits writer
no_edits writer writes = record { writing = is_writing writer [] writes; redo = subst (λ (rs : List Record). AllByRecursion (λ r. is_redo r ≡ true) rs) (sym (written_is writer [] writes)) tt }

-- a group is begun
pub tidy_begun : (store : PageStore) (frames : Frames) (writer : GroupWriter) (made : ℕ) → Writes writer [] → IsTidy store → IsTidy (with_writer (with_frames (with_rest store true made store.lent store.kept) frames) writer)
tidy_begun store frames writer made writes is = record {
  one = is.one;
  known = is.known;
  few = is.few;
  closed = λ off none. absurd (let e : true ≡ false = off in (cc));
  edits = λ none. no_edits writer writes;
  undo = is.undo;
}

pub stays_rest : (store : PageStore) (in_group : Bool) (made lent : ℕ) (kept : Option Fault) (s : State) → OnlyNow s → (kept ≡ None → store.kept ≡ None) → Stays store (with_rest store in_group made lent kept) s s
stays_rest store in_group made lent kept s only clear = stays_still store (with_rest store in_group made lent kept) s only refl refl
    (λ base start groups forced none is. pager_rest store in_group made lent kept s base start groups forced (is.pager (clear none)))

pub stays_begun : (store : PageStore) (frames : Frames) (writer : GroupWriter) (made : ℕ) (s : State) → OnlyNow s → IsTidy store → store.in_group ≡ false → Writes writer [] → frames.cache ≡ store.frames.cache → frames.pins.items ≡ []
    → Stays store (with_writer (with_frames (with_rest store true made store.lent store.kept) frames) writer) s s
stays_begun store frames writer made s only tidy off writes cache pins = stays_still store (with_writer (with_frames (with_rest store true made store.lent store.kept) frames) writer) s only refl refl
    (λ base start groups forced none is. pager_begun (with_rest store true made store.lent store.kept) frames writer s base start groups forced (tidy.closed off none) writes cache pins
    (pager_rest store true made store.lent store.kept s base start groups forced (is.pager none)))

-- the fault that is kept behind a step
pub stays_step : (store mid : PageStore) (in_group : Bool) (made lent : ℕ) (kept : Option Fault) (s t : State) (done : Bool) → SameWork store mid → store.kept ≡ None → (kept ≡ None → IsTrue done)
    → ((base : ℕ) (start : Folder) (groups : List Logged) (forced : ℕ) → IsPager store s base start groups forced → Steps store mid s t base start groups forced done) → Stays store (with_rest mid in_group made lent kept) s t
stays_step store mid in_group made lent kept s t done same none only steps = record {
  slots = same.slots;
  opens = same.opens;
  goes = λ base start groups forced is. gone_step store mid in_group made lent kept s t base start groups forced done same.opens (steps base start groups forced (is.pager none)) only;
}

-- BEHIND A STEP that was done the bodies are the same.
pub bodies_step : (store mid : PageStore) (s t : State) (done : Bool) → IsTidy store → SameWork store mid → store.kept ≡ None → s.may_leave s.folder → t.may_leave t.folder → Stands store s
    → ((base : ℕ) (start : Folder) (groups : List Logged) (forced : ℕ) → IsPager store s base start groups forced → Steps store mid s t base start groups forced done) → IsTrue done → page_bodies mid t.folder ≡ page_bodies store s.folder
bodies_step store mid s t done tidy same none now now' is steps on =
    let pager = is.4.pager none in
    let st = steps is.0 is.1 is.2 is.3 pager in
    steps_bodies store mid s t is.0 is.1 is.2 is.3 st.forced' tidy same now now' pager (st.pager on) (tables_stay store s t is.0 is.2 is.3 st.forced' st.moves)

-- a group that is left has no entry, or a fault is kept
pub closed_left : (rs : List Record) (kept : Option Fault) → (rs ≡ []) ⊎ IsSome kept → kept ≡ None → rs ≡ []
closed_left rs kept (inl none) clear = none
closed_left rs kept (inr some) clear = absurd (let e : true ≡ false = sym some ∙ ap is_some clear in (cc))

pub same_rest : (store mid : PageStore) (lent : ℕ) (kept : Option Fault) → SameWork store mid → SameWork store (with_rest (with_rest mid mid.in_group mid.made lent kept) mid.in_group mid.made store.lent store.kept)
same_rest store mid lent kept same = record {
  slots = same.slots;
  sizes = same.sizes;
  opens = same.opens;
  tables = same.tables;
  writer = same.writer;
  pending = same.pending;
  started = same.started;
  in_group = same.in_group;
  made = same.made;
  lent = refl;
  kept = refl;
}
