-- Whatever is moved, callers see the same of the pages.
use Rattle.std.proofs.Common.{◌≡◌, ◌∙◌, ◌==◌, ◌&&◌, ◌⊎◌, ℕ, ◌/◌, ◌^◌, ◌<◌, ◌≤◌, Bool, true, false, not, cond, nat_eq, nat_le, nat_lt, List, ap, sym, refl, subst, arith, Option, None, Some, Result, Ok, Err, inl, inr}
use Rattle.std.specs.Prelude.{IsTrue, OnErr, is_some}
use Rattle.std.specs.Option.{option_map, option_map_or}
use Rattle.std.specs.Map.{update}
use Rattle.std.proofs.lemmas.Bool.{eqb-true, ne_eqb}
use Rattle.std.proofs.lemmas.Bool.Decides.{nat_tests}
use Rattle.aria_page.specs.declared.edit.Edit.{Edit}
use Rattle.aria_page.specs.Page.{zero_page, page_body}
use Rattle.aria_page.specs.declared.place.Part.{Part}
use Rattle.aria_page.specs.declared.place.Part.TheVariants as parts
use Rattle.aria_host.specs.declared.file_name.FileName.{FileName}
use Rattle.aria_host.specs.declared.file_name.FileName.TheVariants.{Keys, Rows}
use Rattle.aria_host.specs.Calls.{Writes}
use Rattle.aria_host.specs.Folder.{Folder, with_page, same_file, is_log}
use Rattle.aria_host.specs.Moments.{SameBut}
use Rattle.aria_host.specs.Seen.{page_or_zero}
use Rattle.aria_host.specs.State.{State}
use Rattle.aria_record.specs.Logged.{Logged}
use Rattle.aria_record.specs.Writing.{records_of}
use Rattle.aria_log.specs.declared.log.Log.{Log as LogValue}
use Rattle.aria_log.specs.Log.{place}
use Rattle.aria_cache.specs.declared.frames.Frames.{Frames}
use Rattle.aria_cache.specs.declared.page_id.PageId.{PageId}
use Rattle.aria_cache.specs.Frames.{Held, held, is_pinned, cleaned}
use Rattle.aria_cache.specs.Key.{key_of}
use Rattle.aria_recovery.specs.Redo.{Seen, seen, body_of}
use Rattle.aria_recovery.specs.Tables.{file}
use Rattle.aria_recovery.specs.Images.{page_of}
use Rattle.aria_recovery.specs.Frames.{Spot, as_seen, raw_at, redone_at, edits_of, dirty_of, is_dirty, PageOn, Progress}
use Rattle.aria_recovery.proofs.Comparing.{lt_true, le_true, le_false}
use Rattle.aria_recovery.proofs.Holding.{page_free}
use Rattle.aria_recovery.proofs.Numbering.{number_rises_not}
use Rattle.aria_recovery.proofs.Placing.{raw_put, raw_others}
use Rattle.aria_recovery.proofs.Stepping.{no_log}
use Rattle.aria_pager.specs.declared.page_store.PageStore.{PageStore}
use Rattle.aria_pager.specs.declared.slot.Slot.{Slot}
use Rattle.aria_pager.specs.PageStore.{name_at, spot_of, is_known, raw, late_seen, with_frames}
use Rattle.aria_pager.specs.Pager.{IsPagerAt, next_number}
use Rattle.aria_pager.specs.Steps.{SameWork, IsRead}
use Rattle.aria_pager.specs.View.{slot_of, size_in, count_at, frame_at, body_or, whole_body, body_at, late_at, page_bodies, page_late, IsTidy}
use Rattle.aria_pager.specs.Grouping.{SameBodies}
use Rattle.aria_pager.specs.Looks.{KeepsPages}
use Rattle.aria_pager.proofs.Slots.{Here, keys_apart}
use Rattle.aria_pager.proofs.Stepping.{with_log}
use Rattle.aria_pager.proofs.Viewing.{slot_named, slot_same, tidy_same}
use Rattle.aria_pager.proofs.Bodies.{spot_open, count_low}

-- a fact that holds whatever was answered
pub on_err : {T E : Type 0} {P : Type 0} (r : Result T E) → P → OnErr r P
on_err (Ok x) p = tt
on_err (Err e) p = p

-- ---- over the pages of keys

-- it isn't held, and it is behind the log's end
abbrev is_late : ℕ → Seen → Option Held → Bool
is_late next x frame = not (is_some frame) && late_seen next x

-- each key's page shows what it did
record ByKeys (store store' : PageStore) (d d' : Folder) : Type 0 where
  rises : next_number store ≤ next_number store'
  body : (k : ℕ) (sp : Spot) → spot_of store k ≡ Some sp → body_or (page_of d' sp.name sp.part sp.page) (held store'.frames k) ≡ body_or (page_of d sp.name sp.part sp.page) (held store.frames k)
  late : (k : ℕ) (sp : Spot) → spot_of store k ≡ Some sp → IsTrue (is_late (next_number store') (page_of d' sp.name sp.part sp.page) (held store'.frames k)) → IsTrue (is_late (next_number store) (page_of d sp.name sp.part sp.page) (held store.frames k))
  high : (name : List ℕ) (part : Part) (page : ℕ) → 2 ^ 31 ≤ page → page_of d' name part page ≡ page_of d name part page

below : (a b : ℕ) → nat_lt a b ≡ true → a < b
below a b low = grind (arith, nat_tests)

behind : (a b : ℕ) → nat_lt a b ≡ false → b ≤ a
behind a b high = grind (arith, nat_tests)

most : (a b : ℕ) → nat_le a b ≡ true → a ≤ b
most a b low = grind (arith, nat_tests)

-- the log's end is later
late_fewer : (next next' : ℕ) (x : Seen) → next ≤ next' → IsTrue (late_seen next' x) → IsTrue (late_seen next x)
late_fewer next next' None le on = on
late_fewer next next' (Some s) le on = le_true next s.0 (let m = most next' s.0 on in omega (arith, le, m))

late_and : (b : Bool) (next next' : ℕ) (x : Seen) → next ≤ next' → IsTrue (b && late_seen next' x) → IsTrue (b && late_seen next x)
late_and true next next' x le on = late_fewer next next' x le on
late_and false next next' x le on = on

module _ (store store' : PageStore) (d d' : Folder) (tidy : IsTidy store) (same : SameWork store store') (keys : ByKeys store store' d d') where
  key_at : ℕ → Part → ℕ → ℕ
  key_at n part page = key_of (record { slot = n; part = part; page = page })

  slots : (name : List ℕ) → slot_of store' name ≡ slot_of store name
  slots name = slot_same store store' name tidy (tidy_same store store' same tidy) same.slots

  page_body_stays : (n : ℕ) (name : List ℕ) (part : Part) (page : ℕ) → name_at store n ≡ Some name → page < 2 ^ 31
      → body_or (page_of d' name part page) (frame_at store' n part page) ≡ body_or (page_of d name part page) (frame_at store n part page)
  page_body_stays n name part page named low =
      ap (λ (b : Bool). body_or (page_of d' name part page) (cond b (held store'.frames (key_of (record { slot = n; part = part; page = page }))) None)) (lt_true page (2 ^ 31) low)
      ∙ keys.body (key_of (record { slot = n; part = part; page = page })) (record { name = name; part = part; page = page }) (spot_open store n name part page named low)
      ∙ sym (ap (λ (b : Bool). body_or (page_of d name part page) (cond b (held store.frames (key_of (record { slot = n; part = part; page = page }))) None)) (lt_true page (2 ^ 31) low))

  body_stays : (name : List ℕ) (part : Part) (page : ℕ) (o : Option ℕ) → slot_of store name ≡ o → body_at store' d' name part page o ≡ body_at store d name part page o
  body_stays name part page None none = refl
  body_stays name part page (Some n) found =
      ap (λ (f : ℕ → Option (ℕ × ℕ)). cond (nat_lt page (option_map_or (size_in part) (f n) 0)) (whole_body (body_or (page_of d' name part page) (frame_at store' n part page))) (Some (page_body zero_page))) same.sizes
      ∙ by (nat_lt page (count_at store part (Some n))) refl
    where
      by : (b : Bool) → nat_lt page (count_at store part (Some n)) ≡ b
          → cond b (whole_body (body_or (page_of d' name part page) (frame_at store' n part page))) (Some (page_body zero_page)) ≡ cond b (whole_body (body_or (page_of d name part page) (frame_at store n part page))) (Some (page_body zero_page))
      by false off = refl
      by true on = ap whole_body (page_body_stays n name part page (slot_named store name n found) (omega (arith, below page (count_at store part (Some n)) on, count_low store part n tidy)))

  late_stays : (name : List ℕ) (part : Part) (page : ℕ) (o : Option ℕ) → slot_of store name ≡ o → IsTrue (late_at store' d' name part page o) → IsTrue (late_at store d name part page o)
  late_stays name part page None none on = on
  late_stays name part page (Some n) found on = by (nat_lt page (2 ^ 31)) refl on
    where
      by : (b : Bool) → nat_lt page (2 ^ 31) ≡ b → IsTrue (is_late (next_number store') (page_of d' name part page) (cond b (held store'.frames (key_of (record { slot = n; part = part; page = page }))) None))
          → IsTrue (is_late (next_number store) (page_of d name part page) (frame_at store n part page))
      by true low e = subst (λ (b : Bool). IsTrue (is_late (next_number store) (page_of d name part page) (cond b (held store.frames (key_of (record { slot = n; part = part; page = page }))) None))) (sym low)
          (keys.late (key_of (record { slot = n; part = part; page = page })) (record { name = name; part = part; page = page }) (spot_open store n name part page (slot_named store name n found) (below page (2 ^ 31) low)) e)
      by false high e = subst (λ (b : Bool). IsTrue (is_late (next_number store) (page_of d name part page) (cond b (held store.frames (key_of (record { slot = n; part = part; page = page }))) None))) (sym high)
          (late_fewer (next_number store) (next_number store') (page_of d name part page) keys.rises (subst (λ (x : Seen). IsTrue (late_seen (next_number store') x)) (keys.high name part page (behind page (2 ^ 31) high)) e))

  looks : KeepsPages store store' d d'
  looks = record { bodies = λ i f n. bodies f n i; late = late }
    where
      body : (name : List ℕ) (part : Part) (page : ℕ) → body_at store' d' name part page (slot_of store' name) ≡ body_at store d name part page (slot_of store name)
      body name part page = ap (body_at store' d' name part page) (slots name) ∙ body_stays name part page (slot_of store name) refl

      bodies : (f : FileName) (n : ℕ) → page_bodies store' d' f n ≡ page_bodies store d f n
      bodies (Keys name) n = body name parts.Keys n
      bodies (Rows name) n = body name parts.Rows n
      bodies _ n = refl

      lates : (name : List ℕ) (part : Part) (page : ℕ) → IsTrue (late_at store' d' name part page (slot_of store' name)) → IsTrue (late_at store d name part page (slot_of store name))
      lates name part page on = late_stays name part page (slot_of store name) refl (subst (λ (o : Option ℕ). IsTrue (late_at store' d' name part page o)) (slots name) on)

      late : (f : FileName) (n : ℕ) → IsTrue (page_late store' d' f n) → IsTrue (page_late store d f n)
      late (Keys name) n on = lates name parts.Keys n on
      late (Rows name) n on = lates name parts.Rows n on
      late _ n on = on

-- ---- steps

-- nothing is done
pub looks_none : (store : PageStore) (d : Folder) → KeepsPages store store d d
looks_none store d = record { bodies = refl; late = λ f n on. on }

-- one step after another
pub looks_on : (a b c : PageStore) (d e f : Folder) → KeepsPages a b d e → KeepsPages b c e f → KeepsPages a c d f
looks_on a b c d e f first second = record { bodies = second.bodies ∙ first.bodies; late = λ file n on. first.late file n (second.late file n on) }

-- the files of tables stay, and the log's end is no earlier
pub looks_logged : (store store' : PageStore) (s t : State) → IsTidy store → SameWork store store' → store'.frames ≡ store.frames → SameBut is_log s.folder t.folder → place store.log ≤ place store'.log → KeepsPages store store' s.folder t.folder
looks_logged store store' s t tidy same frames others later = looks store store' s.folder t.folder tidy same record {
  rises = rises;
  body = λ k sp at. ap (λ (x : Seen). body_or x (held store'.frames k)) (page sp.name sp.part sp.page) ∙ ap (λ (v : Frames). body_or (page_of s.folder sp.name sp.part sp.page) (held v k)) frames;
  late = λ k sp at on. late_and (not (is_some (held store.frames k))) (next_number store) (next_number store') (page_of s.folder sp.name sp.part sp.page) rises
      (subst (λ (v : Frames). IsTrue (is_late (next_number store') (page_of s.folder sp.name sp.part sp.page) (held v k))) frames
      (subst (λ (x : Seen). IsTrue (is_late (next_number store') x (held store'.frames k))) (page sp.name sp.part sp.page) on));
  high = λ name part n high. page name part n;
}
  where
    rises : next_number store ≤ next_number store'
    rises = number_rises_not (place store.log) (place store'.log) later

    page : (name : List ℕ) (part : Part) (n : ℕ) → page_of t.folder name part n ≡ page_of s.folder name part n
    page name part n = ap (λ (o : Option (List (List ℕ))). seen (page_or_zero n o)) (others (file name part) (no_log name part))

pub same_work : (store : PageStore) (frames : Frames) → SameWork store (with_frames store frames)
same_work store frames = record {
  slots = refl;
  sizes = refl;
  opens = refl;
  tables = refl;
  writer = refl;
  pending = refl;
  started = refl;
  in_group = refl;
  made = refl;
  lent = refl;
  kept = refl;
}

pub same_logged : (store : PageStore) (log : LogValue) → SameWork store (with_log store log)
same_logged store log = record {
  slots = refl;
  sizes = refl;
  opens = refl;
  tables = refl;
  writer = refl;
  pending = refl;
  started = refl;
  in_group = refl;
  made = refl;
  lent = refl;
  kept = refl;
}

-- the same pages are held
pub looks_frames : (store : PageStore) (frames : Frames) (d : Folder) → IsTidy store → held frames ≡ held store.frames → KeepsPages store (with_frames store frames) d d
looks_frames store frames d tidy map = looks store (with_frames store frames) d d tidy (same_work store frames) record {
  rises = omega arith;
  body = λ k sp at. ap (λ (m : ℕ → Option Held). body_or (page_of d sp.name sp.part sp.page) (m k)) map;
  late = λ k sp at on. subst (λ (m : ℕ → Option Held). IsTrue (is_late (next_number store) (page_of d sp.name sp.part sp.page) (m k))) map on;
  high = λ name part n high. refl;
}

-- ONE FRAME CHANGES, and its page shows what it did
looks_one : (store : PageStore) (frames : Frames) (d : Folder) (key : ℕ) (new : Option Held) → IsTidy store → held frames ≡ update nat_eq (held store.frames) key new
    → ((sp : Spot) → spot_of store key ≡ Some sp → body_or (page_of d sp.name sp.part sp.page) new ≡ body_or (page_of d sp.name sp.part sp.page) (held store.frames key))
    → ((sp : Spot) → spot_of store key ≡ Some sp → is_late (next_number store) (page_of d sp.name sp.part sp.page) new ≡ false) → KeepsPages store (with_frames store frames) d d
looks_one store frames d key new tidy map body late = looks store (with_frames store frames) d d tidy (same_work store frames) record {
  rises = omega arith;
  body = λ k sp at. ap (λ (m : ℕ → Option Held). body_or (page_of d sp.name sp.part sp.page) (m k)) map ∙ bodies k sp at (nat_eq key k) refl;
  late = λ k sp at on. lates k sp at (nat_eq key k) refl (subst (λ (m : ℕ → Option Held). IsTrue (is_late (next_number store) (page_of d sp.name sp.part sp.page) (m k))) map on);
  high = λ name part n high. refl;
}
  where
    bodies : (k : ℕ) (sp : Spot) → spot_of store k ≡ Some sp → (b : Bool) → nat_eq key k ≡ b → body_or (page_of d sp.name sp.part sp.page) (cond b new (held store.frames k)) ≡ body_or (page_of d sp.name sp.part sp.page) (held store.frames k)
    bodies k sp at false off = refl
    bodies k sp at true is = let e : key ≡ k = eqb-true key k is in body sp (ap (spot_of store) e ∙ at) ∙ ap (λ (j : ℕ). body_or (page_of d sp.name sp.part sp.page) (held store.frames j)) e

    lates : (k : ℕ) (sp : Spot) → spot_of store k ≡ Some sp → (b : Bool) → nat_eq key k ≡ b → IsTrue (is_late (next_number store) (page_of d sp.name sp.part sp.page) (cond b new (held store.frames k))) → IsTrue (is_late (next_number store) (page_of d sp.name sp.part sp.page) (held store.frames k))
    lates k sp at false off on = on
    lates k sp at true is on = let e : key ≡ k = eqb-true key k is in absurd (let f : true ≡ false = sym on ∙ late sp (ap (spot_of store) e ∙ at) in (cc))

-- a page that isn't held is taken out
pub looks_gone : (store : PageStore) (frames : Frames) (d : Folder) (key : ℕ) → IsTidy store → held frames ≡ update nat_eq (held store.frames) key None → held store.frames key ≡ None → KeepsPages store (with_frames store frames) d d
looks_gone store frames d key tidy map none = looks_frames store frames d tidy (map ∙ (λ i k. by k (nat_eq key k) refl i))
  where
    by : (k : ℕ) (b : Bool) → nat_eq key k ≡ b → cond b None (held store.frames k) ≡ held store.frames k
    by k false off = refl
    by k true on = sym none ∙ ap (held store.frames) (eqb-true key k on)

-- A PAGE THAT WAS READ IS HELD
pub looks_inserted : (store : PageStore) (frames : Frames) (s : State) (key : ℕ) (h : Held) → IsTidy store → held frames ≡ update nat_eq (held store.frames) key (Some h) → held store.frames key ≡ None → IsRead store s key h → KeepsPages store (with_frames store frames) s.folder s.folder
looks_inserted store frames s key h tidy map none read = looks_one store frames s.folder key (Some h) tidy map
    (λ sp at. sym (ap body_of (sym (ap (raw_at s.folder) at) ∙ read.page)) ∙ sym (ap (body_or (page_of s.folder sp.name sp.part sp.page)) none))
    (λ sp at. refl)

-- what is held clean, and isn't the open group's, is what its file has
free_raw : (known : Bool) (frame : Option Held) (pin : Bool) (raw made : Seen) (edits : List Edit) (at next : ℕ) → pin ≡ false → dirty_of frame ≡ false → PageOn known frame pin raw made edits at next → (h : Held) → frame ≡ Some h → raw ≡ Some (as_seen h)
free_raw known frame pin raw made edits at next free clean is h there = sym (is.clean clean)
    ∙ page_free known h raw made edits at next (subst (λ (b : Bool). PageOn known (Some h) b raw made edits at next) free (subst (λ (o : Option Held). PageOn known o pin raw made edits at next) there is))

-- A CLEAN PAGE LEAVES
pub looks_taken : (store : PageStore) (frames : Frames) (s : State) (redone : Progress) (base : ℕ) (start : Folder) (groups : List Logged) (forced key : ℕ) → IsTidy store → IsPagerAt store s redone base start groups forced
    → held frames ≡ update nat_eq (held store.frames) key None → is_dirty (held store.frames) key ≡ false → is_pinned store.frames key ≡ false → (h : Held) → held store.frames key ≡ Some h → KeepsPages store (with_frames store frames) s.folder s.folder
looks_taken store frames s redone base start groups forced key tidy is map clean free h there = looks_one store frames s.folder key None tidy map
    (λ sp at. ap body_of (page sp at) ∙ sym (ap (body_or (page_of s.folder sp.name sp.part sp.page)) there))
    (λ sp at. ap (late_seen (next_number store)) (page sp at) ∙ le_false (next_number store) h.lsn ((is.pages key).below h there))
  where
    page : (sp : Spot) → spot_of store key ≡ Some sp → page_of s.folder sp.name sp.part sp.page ≡ Some (as_seen h)
    page sp at = sym (ap (raw_at s.folder) at) ∙ free_raw (is_known store key) (held store.frames key) (is_pinned store.frames key) (raw_at s.folder (spot_of store key)) (redone_at groups (redone key) (spot_of store key) (raw_at s.folder (spot_of store key)))
        (edits_of groups (redone key) (records_of store.writer) (spot_of store key)) (next_number store) (next_number store) free clean (is.pages key) h there

-- ---- a page is written

abbrev body_in : Option Held → Option (List ℕ)
body_in frame = option_map (λ h. h.body) frame

or_alike : (x : Seen) (f g : Option Held) → body_in f ≡ body_in g → body_or x f ≡ body_or x g
or_alike x None None e = refl
or_alike x None (Some g) e = absurd (cc)
or_alike x (Some f) None e = absurd (cc)
or_alike x (Some f) (Some g) e = e

late_alike : (next : ℕ) (x : Seen) (f g : Option Held) → body_in f ≡ body_in g → is_late next x f ≡ is_late next x g
late_alike next x None None e = refl
late_alike next x None (Some g) e = absurd (cc)
late_alike next x (Some f) None e = absurd (cc)
late_alike next x (Some f) (Some g) e = refl

and_off : (a b : Bool) → b ≡ false → (a && b) ≡ false
and_off true b off = off
and_off false b off = refl

module _ (store store' : PageStore) (d d' : Folder) (key : ℕ) (h : Held) (tidy : IsTidy store) (same : SameWork store store') (log : store'.log ≡ store.log) (alike : (k : ℕ) → body_in (held store'.frames k) ≡ body_in (held store.frames k)) (there : held store.frames key ≡ Some h)
    (others : (k : ℕ) (sp : Spot) → spot_of store k ≡ Some sp → nat_eq key k ≡ false → page_of d' sp.name sp.part sp.page ≡ page_of d sp.name sp.part sp.page)
    (high : (name : List ℕ) (part : Part) (page : ℕ) → 2 ^ 31 ≤ page → page_of d' name part page ≡ page_of d name part page) where
  next : next_number store' ≡ next_number store
  next = ap (λ (l : LogValue). next_number (record {
    log = l;
    started = store.started;
    frames = store.frames;
    writer = store.writer;
    in_group = store.in_group;
    made = store.made;
    slots = store.slots;
    tables = store.tables;
    pending = store.pending;
    lent = store.lent;
    kept = store.kept;
    blank = store.blank;
  })) log

  -- THE PAGE OF A HELD FRAME is written, and others stay.
  looks_held : KeepsPages store store' d d'
  looks_held = looks store store' d d' tidy same record {
    rises = omega (arith, next);
    body = λ k sp at. or_alike (page_of d' sp.name sp.part sp.page) (held store'.frames k) (held store.frames k) (alike k) ∙ bodies k sp at (nat_eq key k) refl;
    late = λ k sp at on. lates k sp at (nat_eq key k) refl (subst (λ (b : Bool). IsTrue b) (ap (λ (i : ℕ). is_late i (page_of d' sp.name sp.part sp.page) (held store'.frames k)) next ∙ late_alike (next_number store) (page_of d' sp.name sp.part sp.page) (held store'.frames k) (held store.frames k) (alike k)) on);
    high = high;
  }
    where
      bodies : (k : ℕ) (sp : Spot) → spot_of store k ≡ Some sp → (b : Bool) → nat_eq key k ≡ b → body_or (page_of d' sp.name sp.part sp.page) (held store.frames k) ≡ body_or (page_of d sp.name sp.part sp.page) (held store.frames k)
      bodies k sp at false off = ap (λ (x : Seen). body_or x (held store.frames k)) (others k sp at off)
      bodies k sp at true is = let here : held store.frames k ≡ Some h = sym (ap (held store.frames) (eqb-true key k is)) ∙ there in ap (body_or (page_of d' sp.name sp.part sp.page)) here ∙ sym (ap (body_or (page_of d sp.name sp.part sp.page)) here)

      lates : (k : ℕ) (sp : Spot) → spot_of store k ≡ Some sp → (b : Bool) → nat_eq key k ≡ b → IsTrue (is_late (next_number store) (page_of d' sp.name sp.part sp.page) (held store.frames k)) → IsTrue (is_late (next_number store) (page_of d sp.name sp.part sp.page) (held store.frames k))
      lates k sp at false off on = subst (λ (x : Seen). IsTrue (is_late (next_number store) x (held store.frames k))) (others k sp at off) on
      lates k sp at true is on = let here : held store.frames k ≡ Some h = sym (ap (held store.frames) (eqb-true key k is)) ∙ there in absurd (let e : true ≡ false = sym on ∙ ap (is_late (next_number store) (page_of d' sp.name sp.part sp.page)) here in (cc))

-- A HELD PAGE WAS WRITTEN to its file, or it failed.
pub looks_put : (store store' : PageStore) (s t : State) (redone : Progress) (base : ℕ) (start : Folder) (groups : List Logged) (forced key : ℕ) (h : Held) (at : PageId) (slot : Slot) (page : List ℕ) (done : Bool) → IsTidy store → SameWork store store' → store'.log ≡ store.log
    → ((k : ℕ) → body_in (held store'.frames k) ≡ body_in (held store.frames k)) → at.page < 2 ^ 31 → IsPagerAt store s redone base start groups forced → Here store key at slot → held store.frames key ≡ Some h
    → Writes (file slot.name at.part) at.page page s t done → KeepsPages store store' s.folder t.folder
looks_put store store' s t redone base start groups forced key h at slot page done tidy same log alike low is here there wrote = by wrote.either
  where
    spot : Spot
    spot = record { name = slot.name; part = at.part; page = at.page }

    content : List (List ℕ)
    content = ((is.slots (key / 2 ^ 32) slot here.there here.used).files at.part).content

    file_there : s.folder (file slot.name at.part) ≡ Some content
    file_there = ((is.slots (key / 2 ^ 32) slot here.there here.used).files at.part).there

    put : Folder
    put = with_page (file slot.name at.part) at.page page s.folder

    other : (k : ℕ) (sp : Spot) → spot_of store k ≡ Some sp → nat_eq key k ≡ false → page_of put sp.name sp.part sp.page ≡ page_of s.folder sp.name sp.part sp.page
    other k sp is_at off = ap (raw_at put) (sym is_at) ∙ raw_others s.folder spot page content file_there (spot_of store) key (keys_apart store s.folder groups is.slots) here.spot k off ∙ ap (raw_at s.folder) is_at

    past : (name : List ℕ) (part : Part) (n : ℕ) → 2 ^ 31 ≤ n → page_of put name part n ≡ page_of s.folder name part n
    past name part n far = raw_put s.folder spot page content file_there (record { name = name; part = part; page = n })
        ∙ ap (λ (b : Bool). cond b (seen page) (page_of s.folder name part n)) (and_off (same_file (file slot.name at.part) (file name part)) (at.page == n) (ne_eqb at.page n (omega (arith, low, far))))

    by : (t.folder ≡ s.folder) ⊎ (t.folder ≡ put) → KeepsPages store store' s.folder t.folder
    by (inl stays) = looks_held store store' s.folder t.folder key h tidy same log alike there
        (λ k sp is_at off. ap (λ (f : Folder). page_of f sp.name sp.part sp.page) stays) (λ name part n far. ap (λ (f : Folder). page_of f name part n) stays)
    by (inr put_is) = looks_held store store' s.folder t.folder key h tidy same log alike there
        (λ k sp is_at off. ap (λ (f : Folder). page_of f sp.name sp.part sp.page) put_is ∙ other k sp is_at off) (λ name part n far. ap (λ (f : Folder). page_of f name part n) put_is ∙ past name part n far)

-- a page that was cleaned has its body
pub cleaned_alike : (map map' : ℕ → Option Held) (n : ℕ) → map' ≡ update nat_eq map n (option_map cleaned (map n)) → (k : ℕ) → option_map (λ (h : Held). h.body) (map' k) ≡ option_map (λ (h : Held). h.body) (map k)
cleaned_alike map map' n is k = ap (λ (m : ℕ → Option Held). body_in (m k)) is ∙ by (nat_eq n k) refl
  where
    clean : (o : Option Held) → body_in (option_map cleaned o) ≡ body_in o
    clean None = refl
    clean (Some h) = refl

    by : (b : Bool) → nat_eq n k ≡ b → body_in (cond b (option_map cleaned (map n)) (map k)) ≡ body_in (map k)
    by false off = refl
    by true on = clean (map n) ∙ ap (λ (j : ℕ). body_in (map j)) (eqb-true n k on)

-- no other page is held then
pub cleaned_none : (map map' : ℕ → Option Held) (n : ℕ) → map' ≡ update nat_eq map n (option_map cleaned (map n)) → (k : ℕ) → map k ≡ None → map' k ≡ None
cleaned_none map map' n is k none = ap (λ (m : ℕ → Option Held). m k) is ∙ by (nat_eq n k) refl
  where
    by : (b : Bool) → nat_eq n k ≡ b → cond b (option_map cleaned (map n)) (map k) ≡ None
    by false off = none
    by true on = ap (λ (j : ℕ). option_map cleaned (map j)) (eqb-true n k on) ∙ ap (option_map cleaned) none

pub taken_none : (map map' : ℕ → Option Held) (n : ℕ) → map' ≡ update nat_eq map n None → (k : ℕ) → map k ≡ None → map' k ≡ None
taken_none map map' n is k none = ap (λ (m : ℕ → Option Held). m k) is ∙ by (nat_eq n k)
  where
    by : (b : Bool) → cond b None (map k) ≡ None
    by false = none
    by true = refl

-- THE LOG WAS WRITTEN, and pages may have got another log sequence number
pub looks_alike : (store : PageStore) (log : LogValue) (frames : Frames) (s t : State) → IsTidy store → SameBodies store.frames frames → SameBut is_log s.folder t.folder → place store.log ≤ place log → KeepsPages store (with_frames (with_log store log) frames) s.folder t.folder
looks_alike store log frames s t tidy alike others later = looks store (with_frames (with_log store log) frames) s.folder t.folder tidy same record {
  rises = rises;
  body = λ k sp at. or_alike (page_of t.folder sp.name sp.part sp.page) (held frames k) (held store.frames k) (alike k) ∙ ap (λ (x : Seen). body_or x (held store.frames k)) (page sp.name sp.part sp.page);
  late = λ k sp at on. late_and (not (is_some (held store.frames k))) (next_number store) (next_number (with_log store log)) (page_of s.folder sp.name sp.part sp.page) rises
      (subst (λ (x : Seen). IsTrue (is_late (next_number (with_log store log)) x (held store.frames k))) (page sp.name sp.part sp.page)
      (subst (λ (b : Bool). IsTrue b) (late_alike (next_number (with_log store log)) (page_of t.folder sp.name sp.part sp.page) (held frames k) (held store.frames k) (alike k)) on));
  high = λ name part n high. page name part n;
}
  where
    same : SameWork store (with_frames (with_log store log) frames)
    same = record {
      slots = refl;
      sizes = refl;
      opens = refl;
      tables = refl;
      writer = refl;
      pending = refl;
      started = refl;
      in_group = refl;
      made = refl;
      lent = refl;
      kept = refl;
    }

    rises : next_number store ≤ next_number (with_log store log)
    rises = number_rises_not (place store.log) (place log) later

    page : (name : List ℕ) (part : Part) (n : ℕ) → page_of t.folder name part n ≡ page_of s.folder name part n
    page name part n = ap (λ (o : Option (List (List ℕ))). seen (page_or_zero n o)) (others (file name part) (no_log name part))
