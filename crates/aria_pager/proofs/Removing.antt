-- A left-over of a name that has no table is removed.
use Rattle.std.proofs.Common.{rules, ◌≡◌, ◌∙◌, inl, ℕ, ◌/◌, ◌^◌, ◌<◌, ◌≤◌, max, Bool, true, false, List, [], ◌∷◌, length, take, drop, ap, sym, refl, subst, arith, Option, None, Some}
use Rattle.std.specs.Prelude.{IsTrue, IsSome, is_some, All}
use Rattle.std.specs.Option.{option_map_or}
use Rattle.std.specs.Cmp.Lexicographic.{bytes_decides}
use Rattle.std.proofs.lemmas.List.{take-append-drop}
use Rattle.aria_page.specs.Page.{zero_page}
use Rattle.aria_page.specs.declared.place.Part.{Part}
use Rattle.aria_page.specs.declared.place.Part.TheVariants.{Keys, Rows}
use Rattle.aria_value.specs.Named.{same_name}
use Rattle.aria_host.specs.declared.file_name.FileName.{FileName}
use Rattle.aria_host.specs.declared.file_name.FileName.TheVariants.{Log, Control}
use Rattle.aria_host.specs.Calls.{Removes, extent_of}
use Rattle.aria_host.specs.Folder.{Folder, same_file, with_file}
use Rattle.aria_host.specs.Seen.{page_or_zero}
use Rattle.aria_host.specs.State.{State}
use Rattle.aria_host.specs.Steps.{MayMake}
use Rattle.aria_host.proofs.Files.{make_others, with_file-other}
use Rattle.aria_host.proofs.Moments.{OnlyNow}
use Rattle.aria_record.specs.Logged.{Logged}
use Rattle.aria_record.specs.Writing.{records_of}
use Rattle.aria_log.specs.Pieces.{log_files}
use Rattle.aria_log.proofs.Staying.{LeavesLog}
use Rattle.aria_cache.specs.Frames.{held, is_pinned}
use Rattle.aria_recovery.specs.Redo.{Seen, seen, reach}
use Rattle.aria_recovery.specs.Tables.{told_by, life_of, file, Table, tables_of, IsCurrent}
use Rattle.aria_recovery.specs.Images.{IsImage, IsBelow, Raises, SameNames}
use Rattle.aria_recovery.specs.Frames.{Spot, raw_at, redone_at, edits_of, PageOn}
use Rattle.aria_recovery.specs.Moves.{Moves}
use Rattle.aria_recovery.proofs.Fronts.{none_before, all_later, each_of}
use Rattle.aria_recovery.proofs.Imaging.{removed_step}
use Rattle.aria_recovery.proofs.Naming.{names_make}
use Rattle.aria_recovery.proofs.Raising.{raises_on, raises_make}
use Rattle.aria_recovery.proofs.Seeing.{seen_zero}
use Rattle.aria_recovery.proofs.Stepping.{apart_name, tables_same}
use Rattle.aria_pager.specs.declared.page_store.PageStore.{PageStore}
use Rattle.aria_pager.specs.PageStore.{opened, spot_of, is_known}
use Rattle.aria_pager.specs.Pager.{HasFront, IsPager, NoFiles, KnowsTables, known, pages_in, next_number}
use Rattle.aria_pager.specs.Steps.{Steps}
use Rattle.aria_pager.specs.Turns.{new_file}
use Rattle.aria_pager.proofs.Fronting.{fronts, front_same, log_within, log_of_stays, named_same, moves_call}
use Rattle.aria_pager.proofs.Putting.{tables_stay, disk_same}
use Rattle.aria_pager.proofs.Slots.{stands, closed_name}

-- ---- a name without a table

-- it has none by any front that has the forced groups
pub none_by : (folder : Folder) (groups : List Logged) (forced : ℕ) (name : List ℕ) → NoFiles (drop forced groups) → tables_of folder groups name ≡ None → (m : ℕ) → forced ≤ m → m ≤ length groups → tables_of folder (take m groups) name ≡ None
none_by folder groups forced name settled none m lo hi =
    none_before name folder (take m groups) (drop m groups) (each_of (λ g. told_by name g ≡ None) (drop m groups) (all_later (λ g. told_by name g ≡ None) forced m groups lo (settled name)))
    (ap (λ (l : List Logged). tables_of folder l name) (take-append-drop m groups) ∙ none)

none_of : (o : Option Table) → is_some o ≡ false → o ≡ None
none_of None e = refl
none_of (Some x) e = absurd (let f : true ≡ false = e in (cc))

pub no_table : (store : PageStore) (folder : Folder) (groups : List Logged) (name : List ℕ) → KnowsTables store folder groups → known store name ≡ None → tables_of folder groups name ≡ None
no_table store folder groups name knows unknown = none_of (tables_of folder groups name) (sym (knows.each name) ∙ ap is_some unknown)

-- ---- a file is removed

-- The file is no table's: it isn't the log's either, nor the control file, and its removal is neutral.
pub record IsLeft (store : PageStore) (s : State) (groups : List Logged) (forced : ℕ) (f : FileName) (done : Bool) : Type 0 where
  pub log : (n : ℕ) → same_file f (Log n) ≡ false
  pub control : same_file f Control ≡ false
  pub others : (other : List ℕ) (q : Part) (n : ℕ) → known store other ≡ Some (Some n) → same_file f (file other q) ≡ false
  pub neutral : (d c : Folder) → s.may_leave d → MayMake f None done d c → IsImage (opened store) groups forced d c
  pub lower : (d c : Folder) → MayMake f None done d c → Raises (next_number store) d c

module _ (store : PageStore) (s t : State) (base : ℕ) (start : Folder) (groups : List Logged) (forced : ℕ) (f : FileName) where
  make_keeps : (done : Bool) → IsLeft store s groups forced f done → (d c : Folder) → MayMake f None done d c → (log_files c ≡ log_files d) × (c Control ≡ d Control)
  make_keeps done is d c step = ((λ i n. make_others f (Log n) None done d c (is.log n) step i), make_others f Control None done d c is.control step)

  pub left_moves : (done : Bool) → OnlyNow s → t.may_leave t.folder → IsLeft store s groups forced f done → Removes f s t done → IsPager store s base start groups forced → Moves (HasFront base) (opened store) s t groups groups forced forced
  left_moves done only after left gone is = moves_call (opened store) s t base groups forced (MayMake f None done) (log_within store.started store.log s base groups forced is.log) only after is.images
      (fronts store.started store.log s base groups forced is.log is.control) left.neutral (λ d c leaves step. make_keeps done left d c step) gone.images gone.tells

  pub left_pager : OnlyNow s → t.may_leave t.folder → IsLeft store s groups forced f true → Removes f s t true → IsPager store s base start groups forced → IsPager store t base start groups forced
  left_pager only after left gone is = record {
    log = log_of_stays store.started store.log s t base groups forced leaves is.log;
    images = moves.images;
    names = λ c leaves. let to = gone.images c leaves in subst (λ (d : Folder). SameNames d c) (sym t_is) (names_make f None s.folder to.0 c (is.names to.0 to.1) to.2);
    control = λ c leaves. let to = gone.images c leaves in named_same base to.0 c (make_keeps true left to.0 c to.2).1 (is.control to.0 to.1);
    raises = λ c leaves. let to = gone.images c leaves in raises_on (next_number store) start to.0 c (is.raises to.0 to.1) (left.lower to.0 c to.2);
    pages = λ k. subst (λ (x : Seen). PageOn (is_known store k) (held store.frames k) (is_pinned store.frames k) x (redone_at groups (length groups) (spot_of store k) x) (edits_of groups (length groups) (records_of store.writer) (spot_of store k)) (next_number store) (next_number store))
        (raw_same k) (is.pages k);
    inside = λ k sp at dirt free. subst (λ (o : Option (List (List ℕ))). sp.page < max (option_map_or length o 0) (reach sp.name sp.part (life_of sp.name groups).since)) (sym (at_spot k sp at)) (is.inside k sp at dirt free);
    pinned = is.pinned;
    top = is.top;
    own = is.own;
    named = is.named;
    slots = λ n slot at used. let was = is.slots n slot at used in record {
      table = subst (λ (o : Option Table). IsTrue (is_some o)) (sym (tables slot.name)) was.table;
      files = λ q. disk_same store store s.folder t.folder groups slot.name q (pages_in slot q) refl (same slot.name q n was.known) (was.files q);
      known = was.known;
    };
    tables = record { each = λ name. is.tables.each name ∙ ap is_some (sym (tables name)); slot = is.tables.slot; silent = is.tables.silent };
    settled = is.settled;
    written = is.written;
    pending = is.pending;
  }
    where
      moves : Moves (HasFront base) (opened store) s t groups groups forced forced
      moves = left_moves true only after left gone is

      tables : (name : List ℕ) → tables_of t.folder groups name ≡ tables_of s.folder groups name
      tables name = tables_stay store s t base groups forced forced moves name

      t_is : t.folder ≡ with_file f None s.folder
      t_is = gone.whole (cc)

      leaves : LeavesLog s t
      leaves = record {
        folder = (make_keeps true left s.folder t.folder (inl t_is)).0;
        images = λ c leaves. let to = gone.images c leaves in (to.0, to.1, (make_keeps true left to.0 c to.2).0);
      }

      same : (other : List ℕ) (q : Part) (n : ℕ) → known store other ≡ Some (Some n) → t.folder (file other q) ≡ s.folder (file other q)
      same other q n knows = ap (λ (d : Folder). d (file other q)) t_is ∙ with_file-other f (file other q) None s.folder (left.others other q n knows)

      at_spot : (k : ℕ) (sp : Spot) → spot_of store k ≡ Some sp → t.folder (file sp.name sp.part) ≡ s.folder (file sp.name sp.part)
      at_spot k sp at = let here = stands store k sp at in same sp.name sp.part (k / 2 ^ 32) (ap (known store) here.name ∙ (is.slots (k / 2 ^ 32) here.slot here.there here.used).known)

      raw_same : (k : ℕ) → raw_at s.folder (spot_of store k) ≡ raw_at t.folder (spot_of store k)
      raw_same k = by (spot_of store k) refl
        where
          by : (o : Option Spot) → spot_of store k ≡ o → raw_at s.folder o ≡ raw_at t.folder o
          by None at = refl
          by (Some sp) at = ap (λ (o : Option (List (List ℕ))). seen (page_or_zero sp.page o)) (sym (at_spot k sp at))

  -- A LEFT-OVER WAS REMOVED, or that failed
  pub left_step : (done : Bool) → OnlyNow s → t.may_leave t.folder → IsLeft store s groups forced f done → Removes f s t done → IsPager store s base start groups forced → Steps store store s t base start groups forced done
  left_step done only after left gone is = record {
    forced' = forced;
    moves = left_moves done only after left gone is;
    fronts = λ c leaves. let to = gone.images c leaves in let same = make_keeps done left to.0 c to.2 in
        front_same base groups forced to.0 c same.0 same.1 (fronts store.started store.log s base groups forced is.log is.control to.0 to.1);
    pager = λ on. by done on left gone;
  }
    where
      by : (b : Bool) → IsTrue b → IsLeft store s groups forced f b → Removes f s t b → IsPager store t base start groups forced
      by true on left gone = left_pager only after left gone is
      by false on left gone = absurd (let e : false ≡ true = on in (cc))

-- ---- which files these are

pub zero_below : (store : PageStore) → IsBelow (next_number store) (seen zero_page)
zero_below store = subst (IsBelow (next_number store)) (sym seen_zero) (omega arith)

pub apart_log : (name : List ℕ) (part : Part) (n : ℕ) → same_file (file name part) (Log n) ≡ false
apart_log name Keys n = refl
apart_log name Rows n = refl

pub apart_control : (name : List ℕ) (part : Part) → same_file (file name part) Control ≡ false
apart_control name Keys = refl
apart_control name Rows = refl

-- a file of a name without a table
pub left_table : (store : PageStore) (s : State) (base : ℕ) (start : Folder) (groups : List Logged) (forced : ℕ) (name : List ℕ) (p : Part) (done : Bool) → known store name ≡ None → IsPager store s base start groups forced → IsLeft store s groups forced (file name p) done
left_table store s base start groups forced name p done unknown is = record {
  log = apart_log name p;
  control = apart_control name p;
  others = λ other q n knows. apart_name name other p q (apart other n knows (same_name name other) refl);
  neutral = λ d c leaves step. removed_step (opened store) groups name p forced s.folder done (closed_name store s.folder groups name is.slots unknown)
      (none_by s.folder groups forced name is.settled (no_table store s.folder groups name is.tables unknown)) d c (is.images d leaves) step;
  lower = λ d c step. raises_make (next_number store) name p None done d c (zero_below store) (λ n. refl) step;
}
  where
    apart : (other : List ℕ) (n : ℕ) → known store other ≡ Some (Some n) → (b : Bool) → same_name name other ≡ b → same_name name other ≡ false
    apart other n knows false off = off
    apart other n knows true same = absurd (let e : None ≡ Some (Some n) = sym unknown ∙ ap (known store) ((bytes_decides name other).0 same) ∙ knows in (cc))

-- ---- what a look at a file finds

pub both_gone : (name : List ℕ) (d : Folder) → d (file name Keys) ≡ None → d (file name Rows) ≡ None → (part : Part) → d (file name part) ≡ None
both_gone name d keys rows Keys = keys
both_gone name d keys rows Rows = rows

pub absent_of : (content : Option (List (List ℕ))) → is_some (extent_of content) ≡ false → content ≡ None
absent_of None e = refl
absent_of (Some pages) e = absurd (let f : true ≡ false = e in (cc))

pub present_of : (content : Option (List (List ℕ))) → is_some (extent_of content) ≡ true → IsSome content
present_of None e = absurd (let f : false ≡ true = e in (cc))
present_of (Some pages) e = search rules

-- a file that a repair has left
apart_new : (name other : List ℕ) (p q : Part) → same_file (new_file name p) (file other q) ≡ false
apart_new name other Keys Keys = refl
apart_new name other Keys Rows = refl
apart_new name other Rows Keys = refl
apart_new name other Rows Rows = refl

new_log : (name : List ℕ) (part : Part) (n : ℕ) → same_file (new_file name part) (Log n) ≡ false
new_log name Keys n = refl
new_log name Rows n = refl

new_control : (name : List ℕ) (part : Part) → same_file (new_file name part) Control ≡ false
new_control name Keys = refl
new_control name Rows = refl

pub left_new : (store : PageStore) (s : State) (base : ℕ) (start : Folder) (groups : List Logged) (forced : ℕ) (name : List ℕ) (p : Part) (done : Bool) → IsPager store s base start groups forced → IsLeft store s groups forced (new_file name p) done
left_new store s base start groups forced name p done is = record {
  log = new_log name p;
  control = new_control name p;
  others = λ other q n knows. apart_new name other p q;
  neutral = λ d c leaves step. record {
    agrees = record { tables = λ m lo hi other. sym (tables_same d c (take m groups) other (λ q. same d c other q step)) };
    current = λ other on q. subst (IsCurrent (life_of other groups).last) (sym (same d c other q step)) ((is.images d leaves).current other on q);
  };
  lower = λ d c step other q n. inl (ap (λ (o : Option (List (List ℕ))). seen (page_or_zero n o)) (same d c other q step));
}
  where
    same : (d c : Folder) (other : List ℕ) (q : Part) → MayMake (new_file name p) None done d c → c (file other q) ≡ d (file other q)
    same d c other q step = make_others (new_file name p) (file other q) None done d c (apart_new name other p q) step
