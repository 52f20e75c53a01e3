-- The record that ends the open group.
use Rattle.std.proofs.Common.{◌≡◌, ◌∙◌, ◌&&◌, ◌||◌, inr, ℕ, max, Bool, true, false, cond, nat_lt, List, [], ◌∷◌, ◌++◌, length, drop, map, reverse, ap, sym, refl, subst, arith, Option, None, Some}
use Rattle.std.specs.Prelude.{IsTrue, All, is_some, option_to_list}
use Rattle.std.specs.Option.{option_map_or}
use Rattle.std.specs.Global.{Vec}
use Rattle.std.proofs.lemmas.List.{append-nil, reverse-append, reverse-reverse}
use Rattle.std.proofs.lemmas.List.Elements.{All-head, All-tail, All-drop, All-push}
use Rattle.aria_page.specs.declared.edit.Edit.{Edit}
use Rattle.aria_page.specs.declared.group.Last.{Last}
use Rattle.aria_page.specs.declared.group.Last.TheVariants.{RowInsert, RowDelete, KeyInsert, KeyDelete, Clr}
use Rattle.aria_page.specs.declared.lsn.Lsn.{Lsn}
use Rattle.aria_page.specs.Lsn.{IsLsn}
use Rattle.aria_page.specs.declared.place.Part.{Part}
use Rattle.aria_host.specs.Folder.{Folder}
use Rattle.aria_host.specs.State.{State}
use Rattle.aria_record.specs.declared.group_writer.GroupWriter.{GroupWriter}
use Rattle.aria_record.specs.declared.record.Record.{Record}
use Rattle.aria_record.specs.declared.record.Record.TheVariants.{Redo, UndoRowInsert, UndoRowDelete, UndoKeyInsert, UndoKeyDelete, ClrEnd, Commit, Checkpoint, CreateTable, DropTable, RepairTable}
use Rattle.aria_record.specs.Groups.{is_redo, is_last, is_edited, is_alone, is_group}
use Rattle.aria_record.specs.Logged.{Logged, lsn_at_place}
use Rattle.aria_record.specs.Writing.{Writes, IsWriting, Pushes, LastFits, last_record, records_of}
use Rattle.aria_cache.specs.Ending.{newest, pending_after, EndFits, UndoesNewest}
use Rattle.aria_cache.specs.Frames.{held, is_pinned}
use Rattle.aria_recovery.specs.Redo.{is_some_edit, edits_in, edits_at, edits_on, touches, reach_in, reach_on, reach}
use Rattle.aria_recovery.specs.Tables.{life_of, says}
use Rattle.aria_recovery.specs.Frames.{Spot, FramesOver, edits_of, base_of, all_of}
use Rattle.aria_recovery.specs.Pending.{link_in, link_of, pended, pending_of}
use Rattle.aria_recovery.proofs.Behind.{edits_push}
use Rattle.aria_recovery.proofs.Over.{over_aside}
use Rattle.aria_recovery.proofs.Pending.{pending_push}
use Rattle.aria_pager.specs.declared.page_store.PageStore.{PageStore}
use Rattle.aria_log.specs.Log.{place}
use Rattle.aria_recovery.specs.Moves.{Moves}
use Rattle.aria_recovery.proofs.Moving.{moves_on}
use Rattle.aria_pager.specs.PageStore.{name_at, opened, spot_of, is_known}
use Rattle.aria_pager.specs.Grouping.{AreEdits, with_last}
use Rattle.aria_pager.specs.Pager.{HasFront, HaveFronts, IsPager, next_number, pages_in}
use Rattle.aria_pager.specs.Steps.{IsQuiet, Steps, Appends, with_start, with_end}
use Rattle.aria_pager.specs.Turns.{Turns}

-- ---- its shape

pub last_is_last : (table : List ℕ) (prev : Lsn) (last : Last) → is_last (last_record table prev last) ≡ true
last_is_last table prev (RowInsert places) = refl
last_is_last table prev (RowDelete places row) = refl
last_is_last table prev (KeyInsert key target entry) = refl
last_is_last table prev (KeyDelete key target entry) = refl
last_is_last table prev (Clr undone next) = refl

both : (a b : Bool) → a ≡ true → b ≡ true → (a && b) ≡ true
both true b on also = also
both false b on also = absurd (cc)

edited_by : (rs : List Record) (r : Record) → AreEdits rs → is_last r ≡ true → is_edited (rs ++ r ∷ []) ≡ true
edited_by [] r are last = last
edited_by (x ∷ []) r are last = both (is_redo x) (is_last r) are.0 last
edited_by (x ∷ y ∷ rs) r are last = both (is_redo x) (is_edited (y ∷ (rs ++ r ∷ []))) are.0 (edited_by (y ∷ rs) r are.1 last)

-- EDITS AND A LAST RECORD are a group
pub edited_group : (rs : List Record) (r : Record) → AreEdits rs → is_last r ≡ true → IsTrue (is_group (rs ++ r ∷ []))
edited_group rs r are last = ap (λ (b : Bool). b || is_alone (rs ++ r ∷ [])) (edited_by rs r are last)

last_says : (table : List ℕ) (prev : Lsn) (last : Last) (name : List ℕ) (at : Lsn) → says at name (last_record table prev last) ≡ None
last_says table prev (RowInsert places) name at = refl
last_says table prev (RowDelete places row) name at = refl
last_says table prev (KeyInsert key target entry) name at = refl
last_says table prev (KeyDelete key target entry) name at = refl
last_says table prev (Clr undone next) name at = refl

edit_says : (r : Record) (name : List ℕ) (at : Lsn) → is_redo r ≡ true → says at name r ≡ None
edit_says (Redo kind table part page edits) name at on = refl
edit_says (UndoRowInsert table prev places) name at on = absurd (cc)
edit_says (UndoRowDelete table prev places row) name at on = absurd (cc)
edit_says (UndoKeyInsert table prev key target entry) name at on = absurd (cc)
edit_says (UndoKeyDelete table prev key target entry) name at on = absurd (cc)
edit_says (ClrEnd table undone next) name at on = absurd (cc)
edit_says Commit name at on = absurd (cc)
edit_says (Checkpoint redo dirty) name at on = absurd (cc)
edit_says (CreateTable table plain definition format) name at on = absurd (cc)
edit_says (DropTable table) name at on = absurd (cc)
edit_says (RepairTable table) name at on = absurd (cc)

-- it says nothing of the files of tables
pub edited_quiet : (rs : List Record) (table : List ℕ) (prev : Lsn) (last : Last) → AreEdits rs → IsQuiet (rs ++ last_record table prev last ∷ [])
edited_quiet [] table prev last are name at = last_says table prev last name at
edited_quiet (r ∷ rs) table prev last are name at = edit_says r name at are.0

-- ---- it edits no page

pub last_edits : (table : List ℕ) (prev : Lsn) (last : Last) (name : List ℕ) (part : Part) → edits_in name part (last_record table prev last) ≡ None
last_edits table prev (RowInsert places) name part = refl
last_edits table prev (RowDelete places row) name part = refl
last_edits table prev (KeyInsert key target entry) name part = refl
last_edits table prev (KeyDelete key target entry) name part = refl
last_edits table prev (Clr undone next) name part = refl

module _ (rs : List Record) (r : Record) (none : (name : List ℕ) (part : Part) → edits_in name part r ≡ None) where
  pub edits_same : (name : List ℕ) (part : Part) (n : ℕ) → edits_on name part n (rs ++ r ∷ []) ≡ edits_on name part n rs
  edits_same name part n = edits_push name part n rs r ∙ ap (λ (o : Option (ℕ × List Edit)). edits_on name part n rs ++ edits_at n o) (none name part) ∙ append-nil (edits_on name part n rs)

  pub reach_same : (name : List ℕ) (part : Part) → reach_on name part (rs ++ r ∷ []) ≡ reach_on name part rs
  reach_same name part = by rs
    where
      by : (l : List Record) → reach_on name part (l ++ r ∷ []) ≡ reach_on name part l
      by [] = ap (λ (o : Option (ℕ × List Edit)). max (reach_in o) 0) (none name part)
      by (x ∷ l) = ap (max (reach_in (edits_in name part x))) (by l)

  pub of_same : (gs : List Logged) (i : ℕ) (spot : Option Spot) → edits_of gs i (rs ++ r ∷ []) spot ≡ edits_of gs i rs spot
  of_same gs i None = refl
  of_same gs i (Some s) = ap (λ (es : List Edit). cond (nat_lt i (base_of s.name gs)) [] es) (edits_same s.name s.part s.page)

-- THE OPEN GROUP HAS ITS LAST RECORD: the pager's condition stands.
pub pager_lasted : (store : PageStore) (writer : GroupWriter) (pending : Vec Lsn) (r : Record) (s : State) (base : ℕ) (start : Folder) (groups : List Logged) (forced : ℕ) → ((name : List ℕ) (part : Part) → edits_in name part r ≡ None)
    → records_of writer ≡ records_of store.writer ++ r ∷ [] → Writes writer (records_of writer) → pending.items ≡ store.pending.items → IsPager store s base start groups forced → IsPager (with_last store writer pending) s base start groups forced
pager_lasted store writer pending r s base start groups forced none told writes same is = record {
  log = is.log;
  images = is.images;
  names = is.names;
  control = is.control;
  raises = is.raises;
  pages = subst (λ (l : List Record). Over l) (sym told) (over_aside (is_known store) (held store.frames) (is_pinned store.frames) (spot_of store) s.folder groups (all_of groups) rs (next_number store) (next_number store) r
      (λ k. of_same rs r none groups (length groups) (spot_of store k)) is.pages);
  top = inr (λ k. refl);
  inside = is.inside;
  pinned = λ k. is.pinned k ∙ sym (touched k);
  own = λ name part n on. is.own name part n (sym (ap (λ (l : List Record). touches name part n l) told ∙ edits_touch name part n) ∙ on);
  named = λ name part off. reach_now name part ∙ is.named name part off;
  slots = λ n slot at used. let was = is.slots n slot at used in record {
    table = was.table;
    files = λ q. let d = was.files q in record {
      content = d.content;
      there = d.there;
      written = d.written;
      counts = d.counts ∙ ap (max (max (pages_in slot q).written (reach slot.name q (life_of slot.name groups).since))) (sym (reach_now slot.name q));
      few = d.few;
    };
    known = was.known;
  };
  tables = record { each = is.tables.each; slot = is.tables.slot; silent = is.tables.silent };
  settled = is.settled;
  written = writes;
  pending = same ∙ is.pending;
}
  where
    rs : List Record
    rs = records_of store.writer

    Over : List Record → Type 0
    Over l = FramesOver (is_known store) (held store.frames) (is_pinned store.frames) (spot_of store) s.folder groups (all_of groups) l (next_number store) (next_number store)

    edits_touch : (name : List ℕ) (part : Part) (n : ℕ) → touches name part n (rs ++ r ∷ []) ≡ touches name part n rs
    edits_touch name part n = ap is_some_edit (edits_same rs r none name part n)

    reach_now : (name : List ℕ) (part : Part) → reach_on name part (records_of writer) ≡ reach_on name part rs
    reach_now name part = ap (reach_on name part) told ∙ reach_same rs r none name part

    touched : (k : ℕ) → option_map_or (λ s. touches s.name s.part s.page (records_of writer)) (spot_of store k) false ≡ option_map_or (λ s. touches s.name s.part s.page rs) (spot_of store k) false
    touched k = by (spot_of store k)
      where
        by : (o : Option Spot) → option_map_or (λ s. touches s.name s.part s.page (records_of writer)) o false ≡ option_map_or (λ s. touches s.name s.part s.page rs) o false
        by None = refl
        by (Some sp) = ap (touches sp.name sp.part sp.page) told ∙ edits_touch sp.name sp.part sp.page

-- ---- what is pending

pub all_reverse : (P : Lsn → Type 0) (xs : List Lsn) → All P xs → All P (reverse xs)
all_reverse P [] all = all
all_reverse P (x ∷ xs) all = subst (All P) (sym (reverse-append (x ∷ []) xs)) (All-push P (reverse xs) x (all_reverse P xs (All-tail P x xs all)) (All-head P x xs all))

newest_fits : (xs : List Lsn) → All IsLsn xs → IsLsn (newest xs)
newest_fits [] are = record { file = omega arith; offset = omega arith }
newest_fits (x ∷ xs) are = All-head IsLsn x xs are

-- THE NUMBERS OF A LAST RECORD can be stored.
pub last_fits : (last : Last) (pending : List Lsn) → All IsLsn pending → EndFits last → UndoesNewest last (reverse pending) → LastFits last
last_fits (RowInsert places) pending are fits undoes = fits
last_fits (RowDelete places row) pending are fits undoes = (fits.0, omega (arith, fits.1))
last_fits (KeyInsert key target entry) pending are fits undoes = (fits.0, fits.1, omega (arith, fits.2))
last_fits (KeyDelete key target entry) pending are fits undoes = (fits.0, fits.1, omega (arith, fits.2))
last_fits (Clr undone next) pending are fits undoes =
    let all : All IsLsn (reverse pending) = all_reverse IsLsn pending are in
    (subst IsLsn (sym undoes.1) (newest_fits (reverse pending) all), subst IsLsn (sym undoes.2) (newest_fits (drop 1 (reverse pending)) (All-drop IsLsn 1 (reverse pending) all)))

pended_link : (rs : List Record) (r : Record) (at : ℕ) (places : List ℕ) → pended at (link_of (rs ++ r ∷ [])) places ≡ pended at (link_in r) places
pended_link [] r at places = refl
pended_link (x ∷ []) r at places = refl
pended_link (x ∷ y ∷ rs) r at places = pended_link (y ∷ rs) r at places

drop_map : (places : List ℕ) → map lsn_at_place (drop 1 places) ≡ drop 1 (map lsn_at_place places)
drop_map [] = refl
drop_map (p ∷ places) = refl

pended_last : (table : List ℕ) (prev : Lsn) (last : Last) (at : ℕ) (places : List ℕ) → map lsn_at_place (pended at (link_in (last_record table prev last)) places) ≡ pending_after (lsn_at_place at) last (map lsn_at_place places)
pended_last table prev (RowInsert places) at ps = refl
pended_last table prev (RowDelete places row) at ps = refl
pended_last table prev (KeyInsert key target entry) at ps = refl
pended_last table prev (KeyDelete key target entry) at ps = refl
pended_last table prev (Clr undone next) at ps = drop_map ps

-- WHAT IS PENDING behind a group that was ended
pub pending_ended : (rs : List Record) (table : List ℕ) (prev : Lsn) (last : Last) (at : ℕ) (groups : List Logged) (was now : List Lsn) → was ≡ reverse (map lsn_at_place (pending_of groups)) → reverse now ≡ pending_after (lsn_at_place at) last (reverse was)
    → now ≡ reverse (map lsn_at_place (pending_of (groups ++ record { at = at; group = rs ++ last_record table prev last ∷ [] } ∷ [])))
pending_ended rs table prev last at groups was now was_is now_is =
    sym (reverse-reverse now)
    ∙ ap reverse (now_is ∙ ap (pending_after (lsn_at_place at) last) (ap reverse was_is ∙ reverse-reverse (map lsn_at_place (pending_of groups)))
    ∙ sym (pended_last table prev last at (pending_of groups))
    ∙ ap (map lsn_at_place) (sym (pending_push groups (record { at = at; group = rs ++ last_record table prev last ∷ [] }) ∙ pended_link rs (last_record table prev last) at (pending_of groups))))

-- one taken away, or one put behind
pub popped : (old new : List Lsn) (top : Option Lsn) → old ≡ new ++ option_to_list top → (top ≡ None → length old ≡ 0) → reverse new ≡ drop 1 (reverse old)
popped old new None is none = ap reverse (empty new (sym (ap (λ (l : List Lsn). length l) (is ∙ append-nil new)) ∙ none refl)) ∙ sym (ap (λ (l : List Lsn). drop 1 (reverse l)) (empty old (none refl)))
  where
    empty : (l : List Lsn) → length l ≡ 0 → l ≡ []
    empty [] e = refl
    empty (x ∷ l) e = absurd (cc)
popped old new (Some x) is none = sym (ap (λ (l : List Lsn). drop 1 l) (ap reverse is ∙ reverse-append new (x ∷ [])))

pub pushed : (old new : List Lsn) (x : Lsn) → new ≡ old ++ x ∷ [] → reverse new ≡ x ∷ reverse old
pushed old new x is = ap reverse is ∙ reverse-append old (x ∷ [])

-- ---- the calls that end a group

-- The log was started, and then the last record was put into the open group.
pub record Lasts (a b m : PageStore) (slot most : ℕ) (last : Last) : Type 0 where
  pub start : b ≡ with_start a b.started b.log
  pub rest : m ≡ with_last b m.writer m.pending
  pub pending : m.pending.items ≡ b.pending.items
  pub entry : (name : List ℕ) → name_at b slot ≡ Some name → Pushes b.writer m.writer (last_record name (newest (reverse b.pending.items)) last) most
  pub writing : IsWriting a.writer
  pub edits : AreEdits (records_of a.writer)
  pub slot_open : IsTrue (is_some (name_at a slot))

the_name : (o : Option (List ℕ)) → IsTrue (is_some o) → (name : List ℕ) × (o ≡ Some name)
the_name None on = absurd (let e : false ≡ true = on in (cc))
the_name (Some name) on = (name, refl)

module _ (a b m : PageStore) (slot most : ℕ) (last : Last) (is : Lasts a b m slot most last) where
  abbrev prev : Lsn
  prev = newest (reverse a.pending.items)

  pub told : (name : List ℕ) → name_at a slot ≡ Some name → records_of m.writer ≡ records_of a.writer ++ last_record name prev last ∷ []
  told name named =
      (is.entry name (ap (λ (v : PageStore). name_at v slot) is.start ∙ named)).told (subst IsWriting (sym (ap (λ (v : PageStore). v.writer) is.start)) is.writing)
      ∙ ap (λ (v : PageStore). records_of v.writer ++ last_record name (newest (reverse v.pending.items)) last ∷ []) is.start

  pub writes_now : IsWriting m.writer
  writes_now =
      let (name, named) = the_name (name_at a slot) is.slot_open in
      let pushes = is.entry name (ap (λ (v : PageStore). name_at v slot) is.start ∙ named) in
      let before : IsWriting b.writer = subst IsWriting (sym (ap (λ (v : PageStore). v.writer) is.start)) is.writing in
      subst (Writes m.writer) (sym (pushes.told before)) (pushes.pushed (records_of b.writer) before)

  pub group_now : IsTrue (is_group (records_of m.writer))
  group_now =
      let (name, named) = the_name (name_at a slot) is.slot_open in
      subst (λ (l : List Record). IsTrue (is_group l)) (sym (told name named)) (edited_group (records_of a.writer) (last_record name prev last) is.edits (last_is_last name prev last))

  pub quiet_now : IsQuiet (records_of m.writer)
  quiet_now =
      let (name, named) = the_name (name_at a slot) is.slot_open in
      subst IsQuiet (sym (told name named)) (edited_quiet (records_of a.writer) name prev last is.edits)

  pub pager_now : (t : State) (base : ℕ) (start : Folder) (groups : List Logged) (forced : ℕ) → IsPager b t base start groups forced → IsPager m t base start groups forced
  pager_now t base start groups forced pager =
      let (name, named) = the_name (name_at a slot) is.slot_open in
      let named_b = ap (λ (v : PageStore). name_at v slot) is.start ∙ named in
      let before : IsWriting b.writer = subst IsWriting (sym (ap (λ (v : PageStore). v.writer) is.start)) is.writing in
      subst (λ (v : PageStore). IsPager v t base start groups forced) (sym is.rest)
      (pager_lasted b m.writer m.pending (last_record name (newest (reverse b.pending.items)) last) t base start groups forced (last_edits name (newest (reverse b.pending.items)) last)
      ((is.entry name named_b).told before) writes_now is.pending pager)

  -- a step, behind which the group has its last record
  pub steps_lasted : (s t : State) (base : ℕ) (start : Folder) (groups : List Logged) (forced : ℕ) → Steps a b s t base start groups forced true → Steps a m s t base start groups forced true
  steps_lasted s t base start groups forced st = record { forced' = st.forced'; moves = st.moves; fronts = st.fronts; pager = λ on. pager_now t base start groups st.forced' (st.pager on) }

  -- THE GROUP WAS APPENDED, and is in order what is pending
  pub turns_ended : (n p : PageStore) (s t u : State) (base : ℕ) (start : Folder) (groups : List Logged) (forced : ℕ) (name : List ℕ) → name_at a slot ≡ Some name → place b.log ≡ place a.log
      → (st : Steps a b s t base start groups forced true) → n ≡ with_end m n.log n.frames n.writer m.pending → p ≡ with_last n n.writer p.pending → reverse p.pending.items ≡ pending_after (lsn_at_place (place m.log)) last (reverse n.pending.items)
      → ((pending : Vec Lsn) → pending.items ≡ reverse (map lsn_at_place (pending_of (groups ++ record { at = place m.log; group = records_of m.writer } ∷ [])))
      → Appends m (with_end n n.log n.frames n.writer pending) t u base start groups st.forced' (records_of m.writer))
      → Turns a p s u base start groups forced (record { at = place a.log; group = records_of a.writer ++ last_record name prev last ∷ [] }) true
  turns_ended n p s t u base start groups forced name named placed st ended rest pends appended = record {
    added = true;
    forced' = st.forced';
    moves = subst (λ (o : List ℕ → Bool). Moves (HasFront base) o s u groups (groups ++ g ∷ []) forced st.forced') opened_p
        (moves_on (HasFront base) (opened a) s t u groups groups (groups ++ g ∷ []) forced st.forced' st.forced' st.moves
        (subst (λ (x : Logged). Moves (HasFront base) (opened a) t u groups (groups ++ x ∷ []) st.forced' st.forced') same (subst (λ (o : List ℕ → Bool). Moves (HasFront base) o t u groups (groups ++ record { at = place m.log; group = records_of m.writer } ∷ []) st.forced' st.forced') opened_m app.moves)));
    fronts = subst (λ (x : Logged). HaveFronts base u (groups ++ x ∷ []) st.forced') same app.fronts;
    whole = λ on. refl;
    pager = λ on. subst (λ (x : Logged). IsPager p u base start (groups ++ x ∷ []) st.forced') same (subst (λ (v : PageStore). IsPager v u base start (groups ++ record { at = place m.log; group = records_of m.writer } ∷ []) st.forced') (sym p_is) app.pager);
  }
    where
      g : Logged
      g = record { at = place a.log; group = records_of a.writer ++ last_record name prev last ∷ [] }

      same : record { at = place m.log; group = records_of m.writer } ≡ g
      same = λ i. record { at = (ap (λ (v : PageStore). place v.log) is.rest ∙ placed) i; group = told name named i }

      mid : IsPager b t base start groups st.forced'
      mid = st.pager refl

      p_is : p ≡ with_end n n.log n.frames n.writer p.pending
      p_is = rest

      opened_m : opened m ≡ opened a
      opened_m = ap opened is.rest ∙ ap opened is.start

      opened_p : opened a ≡ opened p
      opened_p = sym (ap opened rest ∙ ap opened ended ∙ opened_m)

      pended_now : p.pending.items ≡ reverse (map lsn_at_place (pending_of (groups ++ record { at = place m.log; group = records_of m.writer } ∷ [])))
      pended_now =
          pending_ended (records_of a.writer) name prev last (place m.log) groups b.pending.items p.pending.items mid.pending (pends ∙ ap (λ (v : PageStore). pending_after (lsn_at_place (place m.log)) last (reverse v.pending.items)) ended ∙ ap (λ (l : List Lsn). pending_after (lsn_at_place (place m.log)) last (reverse l)) is.pending)
          ∙ ap (λ (l : List Record). reverse (map lsn_at_place (pending_of (groups ++ record { at = place m.log; group = l } ∷ [])))) (sym (told name named))

      app : Appends m (with_end n n.log n.frames n.writer p.pending) t u base start groups st.forced' (records_of m.writer)
      app = appended p.pending pended_now
