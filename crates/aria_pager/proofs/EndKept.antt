-- A group ends between calls, where a fault may be kept.
use Rattle.std.proofs.Common.{◌≡◌, ◌∙◌, ℕ, ◌≤◌, Bool, true, false, List, [], ◌∷◌, ◌++◌, reverse, ap, sym, refl, subst, arith, Option, None, Some}
use Rattle.std.specs.Prelude.{IsSome, All, is_some, Result, Ok, Err, IfOk, OnOk, OnErr}
use Rattle.std.specs.Global.{Vec}
use Rattle.std.proofs.lemmas.List.{reverse-reverse}
use Rattle.std.proofs.lemmas.List.Elements.{All-cons, All-drop}
use Rattle.aria_page.specs.declared.group.Last.{Last}
use Rattle.aria_page.specs.declared.group.Last.TheVariants.{RowInsert, RowDelete, KeyInsert, KeyDelete, Clr}
use Rattle.aria_page.specs.declared.lsn.Lsn.{Lsn}
use Rattle.aria_page.specs.Lsn.{IsLsn}
use Rattle.aria_host.specs.declared.fault.Fault.{Fault}
use Rattle.aria_host.specs.Folder.{Folder, is_log}
use Rattle.aria_host.specs.Moments.{SameBut}
use Rattle.aria_host.specs.State.{State}
use Rattle.aria_host.proofs.Moments.{OnlyNow}
use Rattle.aria_record.specs.declared.group_writer.GroupWriter.{GroupWriter}
use Rattle.aria_record.specs.Logged.{Logged, lsn_at_place}
use Rattle.aria_record.specs.Writing.{Writes, records_of}
use Rattle.aria_record.proofs.Writers.{written_is, is_writing}
use Rattle.aria_log.specs.declared.log.Log.{Log as LogValue}
use Rattle.aria_log.specs.Log.{place}
use Rattle.aria_cache.specs.declared.frames.Frames.{Frames}
use Rattle.aria_cache.specs.Calls.{fault_of}
use Rattle.aria_cache.specs.Ending.{pending_after}
use Rattle.aria_recovery.specs.Moves.{Moves}
use Rattle.aria_pager.specs.declared.page_store.PageStore.{PageStore}
use Rattle.aria_pager.specs.PageStore.{name_at, opened, with_writer, with_rest}
use Rattle.aria_pager.specs.Pager.{HasFront, HaveFronts, IsPager}
use Rattle.aria_pager.specs.Goes.{Stays, Ends}
use Rattle.aria_pager.specs.Grouping.{SameBodies, with_ended}
use Rattle.aria_pager.specs.Steps.{Steps}
use Rattle.aria_pager.specs.Turns.{Turns, only}
use Rattle.aria_pager.specs.View.{IsTidy}
use Rattle.aria_pager.specs.Looks.{KeepsPages}
use Rattle.aria_pager.proofs.Keeping.{pager_rest, pager_writer, gone_step, stays_still, no_edits}
use Rattle.aria_pager.proofs.Lasting.{all_reverse}
use Rattle.aria_pager.proofs.Looking.{looks_alike}

-- a store after the call
abbrev closed : PageStore → GroupWriter → Option Fault → PageStore
closed mid writer kept = with_rest (with_writer mid writer) false mid.made mid.lent kept

-- IT FAILED: no group ended
pub stays_failed : (store mid : PageStore) (writer : GroupWriter) (kept : Option Fault) (s t : State) → name_at mid ≡ name_at store → opened mid ≡ opened store → (kept ≡ None → ⊥)
    → ((base : ℕ) (start : Folder) (groups : List Logged) (forced : ℕ) → IsPager store s base start groups forced → Steps store mid s t base start groups forced false) → store.kept ≡ None → Stays store (closed mid writer kept) s t
stays_failed store mid writer kept s t slots opens fault steps none = record {
  slots = slots;
  opens = opens;
  goes = λ base start groups forced is.
      let st = steps base start groups forced (is.pager none) in
      gone_step store (with_writer mid writer) false mid.made mid.lent kept s t base start groups forced false opens
      (record { forced' = st.forced'; moves = st.moves; fronts = st.fronts; pager = λ on. absurd (let e : false ≡ true = on in (cc)) }) (λ clear. absurd (fault clear));
}

-- IT WAS DONE: exactly this group ended
pub ends_done : (store mid : PageStore) (writer : GroupWriter) (s t : State) (g : Logged) → name_at mid ≡ name_at store → opened mid ≡ opened store → records_of mid.writer ≡ [] → Writes writer []
    → ((base : ℕ) (start : Folder) (groups : List Logged) (forced : ℕ) → IsPager store s base start groups forced → Turns store mid s t base start groups forced g true) → store.kept ≡ None → Ends store (closed mid writer None) s t (g ∷ [])
ends_done store mid writer s t g slots opens empty writes turns none = record {
  slots = slots;
  opens = opens;
  goes = λ base start groups forced is.
      let turn = turns base start groups forced (is.pager none) in
      let moves : Moves (HasFront base) (opened mid) s t groups (groups ++ g ∷ []) forced turn.forced' = subst (λ (b : Bool). Moves (HasFront base) (opened mid) s t groups (groups ++ only b g) forced turn.forced') (turn.whole refl) turn.moves in
      record {
        forced' = turn.forced';
        standing = record {
          within = moves.within;
          images = moves.images;
          fronts = subst (λ (b : Bool). HaveFronts base t (groups ++ only b g) turn.forced') (turn.whole refl) turn.fronts;
          pager = λ clear. pager_rest (with_writer mid writer) false mid.made mid.lent None t base start (groups ++ g ∷ []) turn.forced'
              (pager_writer mid writer t base start (groups ++ g ∷ []) turn.forced' (written_is writer [] writes ∙ sym empty) (is_writing writer [] writes) (turn.pager refl));
        };
        moves = subst (λ (o : List ℕ → Bool). Moves (HasFront base) o s t groups (groups ++ g ∷ []) forced turn.forced') opens moves;
      };
}

-- a fault was kept
pub stays_kept : (store : PageStore) (writer : GroupWriter) (s : State) → OnlyNow s → IsSome store.kept → Stays store (closed store writer store.kept) s s
stays_kept store writer s only some = stays_still store (closed store writer store.kept) s only refl refl (λ base start groups forced none is. absurd (let e : true ≡ false = sym some ∙ ap is_some none in (cc)))

-- ---- what holds whatever the host tells

place_fits : (log : LogValue) → IsLsn (lsn_at_place (place log))
place_fits log = record { file = omega (arith, log.room, log.within); offset = omega arith }

after_fits : (lsn : Lsn) (last : Last) (pending : List Lsn) → IsLsn lsn → All IsLsn pending → All IsLsn (pending_after lsn last pending)
after_fits lsn (Clr undone next) pending fits all = All-drop IsLsn 1 pending all
after_fits lsn (RowInsert places) pending fits all = All-cons IsLsn lsn pending fits all
after_fits lsn (RowDelete places row) pending fits all = All-cons IsLsn lsn pending fits all
after_fits lsn (KeyInsert key target entry) pending fits all = All-cons IsLsn lsn pending fits all
after_fits lsn (KeyDelete key target entry) pending fits all = All-cons IsLsn lsn pending fits all

pub undo_ended : (log : LogValue) (lsn : Lsn) (last : Last) (was now : List Lsn) → lsn ≡ lsn_at_place (place log) → All IsLsn was → reverse now ≡ pending_after lsn last (reverse was) → All IsLsn now
undo_ended log lsn last was now is all now_is =
    subst (All IsLsn) (reverse-reverse now) (all_reverse IsLsn (reverse now) (subst (All IsLsn) (sym now_is) (after_fits lsn last (reverse was) (subst IsLsn (sym is) (place_fits log)) (all_reverse IsLsn was all))))

pub tidy_ended : (store : PageStore) (log : LogValue) (started : Bool) (frames : Frames) (writer : GroupWriter) (pending : Vec Lsn) (kept : Option Fault) → Writes writer [] → All IsLsn pending.items → IsTidy store
    → IsTidy (with_rest (with_ended store log started frames writer pending) false store.made store.lent kept)
tidy_ended store log started frames writer pending kept writes undo is = record {
  one = is.one;
  known = is.known;
  few = is.few;
  closed = λ off none. written_is writer [] writes;
  edits = λ none. no_edits writer writes;
  undo = undo;
}

pub undo_by : (r : Result Lsn Fault) (log : LogValue) (last : Last) (was now : List Lsn) → All IsLsn was → IfOk r (λ lsn. reverse now ≡ pending_after lsn last (reverse was)) → OnErr r (now ≡ was) → IfOk r (λ lsn. lsn ≡ lsn_at_place (place log)) → All IsLsn now
undo_by (Ok lsn) log last was now all done failed is = undo_ended log lsn last was now is all done
undo_by (Err fault) log last was now all done failed is = subst (All IsLsn) (sym failed) all

pub stays_by : (r : Result Lsn Fault) (store mid : PageStore) (writer : GroupWriter) (kept : Option Fault) (s t : State) → kept ≡ fault_of r → name_at mid ≡ name_at store → opened mid ≡ opened store
    → OnErr r ((base : ℕ) (start : Folder) (groups : List Logged) (forced : ℕ) → IsPager store s base start groups forced → Steps store mid s t base start groups forced false) → store.kept ≡ None → OnErr r (Stays store (closed mid writer kept) s t)
stays_by (Ok lsn) store mid writer kept s t is slots opens steps none = tt
stays_by (Err fault) store mid writer kept s t is slots opens steps none = stays_failed store mid writer kept s t slots opens (λ clear. let e : None ≡ Some fault = sym clear ∙ is in (cc)) steps none

pub ends_by : (r : Result Lsn Fault) (store mid : PageStore) (writer : GroupWriter) (kept : Option Fault) (s t : State) (slot : ℕ) (g : List ℕ → Logged) → kept ≡ fault_of r → name_at mid ≡ name_at store → opened mid ≡ opened store → OnOk r (records_of mid.writer ≡ []) → Writes writer []
    → OnOk r ((base : ℕ) (start : Folder) (groups : List Logged) (forced : ℕ) → IsPager store s base start groups forced → (name : List ℕ) → name_at store slot ≡ Some name → Turns store mid s t base start groups forced (g name) true)
    → store.kept ≡ None → OnOk r ((name : List ℕ) → name_at store slot ≡ Some name → Ends store (closed mid writer kept) s t (g name ∷ []))
ends_by (Ok lsn) store mid writer kept s t slot g is slots opens empty writes turns none = λ name named.
    subst (λ (k : Option Fault). Ends store (closed mid writer k) s t (g name ∷ [])) (sym is) (ends_done store mid writer s t (g name) slots opens empty writes (λ base start groups forced on. turns base start groups forced on name named) none)
ends_by (Err fault) store mid writer kept s t slot g is slots opens empty writes turns none = tt

-- callers see the same pages
pub looks_ended : (store mid : PageStore) (writer : GroupWriter) (kept : Option Fault) (s t : State) → mid ≡ with_ended store mid.log mid.started mid.frames mid.writer mid.pending → IsTidy store → SameBodies store.frames mid.frames → SameBut is_log s.folder t.folder → place store.log ≤ place mid.log
    → KeepsPages store (closed mid writer kept) s.folder t.folder
looks_ended store mid writer kept s t rest tidy alike others later =
    let k = looks_alike store mid.log mid.frames s t tidy alike others later in
    subst (λ (v : PageStore). KeepsPages store (closed v writer kept) s.folder t.folder) (sym rest) (record { bodies = k.bodies; late = k.late })
