-- A folder in which redo changes nothing: the pager's condition holds as it stands.
use Rattle.std.proofs.Common.{◌≡◌, ◌∙◌, ◌&&◌, ◌||◌, inl, ℕ, zero, suc, ◌+◌, ◌*◌, ◌/◌, ◌^◌, cond, ◌≤◌, max, Bool, true, false, not, nat_lt, List, [], ◌∷◌, length, map, take, get_or, ap, sym, refl, subst, arith, Option, None, Some}
use Rattle.std.specs.Prelude.{IsTrue, is_some, slice_get, All}
use Rattle.std.specs.Option.{option_and_then}
use Rattle.std.specs.List.{AllByRecursion, list_all, list_any}
use Rattle.std.specs.Ordering.{nat_cmp, eq_by_cmp}
use Rattle.std.specs.Set.{is_member}
use Rattle.std.specs.Cmp.Lexicographic.{slice_cmp, bytes_decides}
use Rattle.std.proofs.lemmas.List.{length-reverse, length-map}
use Rattle.std.proofs.lemmas.List.Elements.{All-nil, recursion_from_All}
use Rattle.aria_page.specs.Lsn.{IsLsn}
use Rattle.aria_page.specs.declared.lsn.Lsn.{Lsn}
use Rattle.aria_page.specs.declared.place.Part.{Part}
use Rattle.aria_page.specs.declared.place.Part.TheVariants.{Keys, Rows}
use Rattle.aria_value.specs.Named.{same_name}
use Rattle.aria_host.specs.Folder.{Folder}
use Rattle.aria_host.specs.Seen.{page_or_zero}
use Rattle.aria_host.specs.State.{State}
use Rattle.aria_record.specs.declared.record.Record.{Record}
use Rattle.aria_record.specs.Logged.{Logged, lsn_at_place}
use Rattle.aria_record.specs.Writing.{records_of}
use Rattle.aria_log.specs.declared.log.Log.{Log as LogValue}
use Rattle.aria_log.proofs.Places.{opened_rising}
use Rattle.aria_cache.specs.Frames.{held, is_pinned}
use Rattle.aria_recovery.specs.Redo.{Rises, seen}
use Rattle.aria_recovery.specs.Tables.{Maker, life_of, file, table_of, tables_of, IsCurrent}
use Rattle.aria_recovery.specs.Pending.{pending_of, oldest}
use Rattle.aria_recovery.specs.Noted.{told_of, told_at, life_at, is_of}
use Rattle.aria_recovery.specs.Analysed.{Has}
use Rattle.aria_recovery.specs.declared.analysis.Analysis.{Analysis}
use Rattle.aria_recovery.specs.declared.life.Told.{Told}
use Rattle.aria_recovery.specs.declared.life.Told.TheVariants.{Nothing}
use Rattle.aria_recovery.specs.declared.life.Life.{Life as LifeValue}
use Rattle.aria_recovery.specs.Frames.{Spot, FramesOver, all_of, redone_at, raw_at}
use Rattle.aria_recovery.proofs.Behind.{redone_zero, redone_all}
use Rattle.aria_recovery.proofs.Comparing.{lt_true}
use Rattle.aria_recovery.proofs.Groupwise.{over_alike}
use Rattle.aria_recovery.proofs.Stepping.{tables_same}
use Rattle.aria_pager.specs.declared.page_store.PageStore.{PageStore}
use Rattle.aria_pager.specs.declared.slot.Slot.{Slot}
use Rattle.aria_pager.specs.PageStore.{name_in, name_at, spot_of, is_known}
use Rattle.aria_pager.specs.Pager.{AreSlots, IsPagerAt, IsPager, next_number, HoldsPages}
use Rattle.aria_pager.specs.Settled.{IsFound}
use Rattle.aria_pager.specs.Entered.{is_told, reach_of, needs_slot, HasEntered}
use Rattle.aria_pager.specs.Resting.{AreRedone, IsAtRest, IsRedone, is_settled, has_settled}
use Rattle.aria_pager.proofs.Entered.{IsReady, needs_known}
use Rattle.aria_pager.proofs.Forgetting.{by_order}
use Rattle.aria_pager.proofs.Redoing.{rises_of}
use Rattle.aria_pager.proofs.Resting.{silent_redone}
use Rattle.aria_pager.proofs.Slots.{stands, both_on}

-- ---- the names that the groups tell of

-- what holds of each name of a list
name_of_all : (P : List ℕ → Type 0) (names : List (List ℕ)) (q : List ℕ) → AllByRecursion P names → list_any (same_name q) names ≡ true → P q
name_of_all P [] q all in_it = absurd (cc)
name_of_all P (x ∷ names) q all in_it = by (same_name q x) refl in_it (λ rest. name_of_all P names q all.1 rest)
  where
    by : (b : Bool) → same_name q x ≡ b → (b || list_any (same_name q) names) ≡ true → (list_any (same_name q) names ≡ true → P q) → P q
    by true same on more = subst P (sym ((bytes_decides q x).0 same)) all.0
    by false off on more = more on

all_settled : (f : List ℕ → Bool) (names : List (List ℕ)) → list_all f names ≡ true → AllByRecursion (λ q. f q ≡ true) names
all_settled f [] on = tt
all_settled f (x ∷ names) on = let two = both_on (f x) (list_all f names) on in (two.0, all_settled f names two.1)

settled_all : (f : List ℕ → Bool) (names : List (List ℕ)) → ((q : List ℕ) → f q ≡ true) → list_all f names ≡ true
settled_all f [] each = refl
settled_all f (x ∷ names) each = ap (λ (b : Bool). b && list_all f names) (each x) ∙ settled_all f names each

module _ (folder : Folder) (groups : List Logged) (checkpoint : Lsn) (analysis : Analysis) (names : List (List ℕ)) (has : Has checkpoint analysis groups)
    (all : (q : List ℕ) → is_member (eq_by_cmp (slice_cmp nat_cmp)) names q ≡ list_any (is_of q) groups) where
  named : (q : List ℕ) → list_any (same_name q) names ≡ list_any (is_of q) groups
  named q = sym (λ i. list_any (λ x. by_order q x i) names) ∙ all q

  -- of a name that isn't among them nothing is told
  untold : (q : List ℕ) → list_any (is_of q) groups ≡ false → told_of (life_of q groups).last ≡ Nothing
  untold q off = sym (has.lives.told q) ∙ by (life_at analysis.lives q) (has.lives.names q ∙ off)
    where
      by : (o : Option LifeValue) → is_some o ≡ false → told_at o ≡ Nothing
      by None none = refl
      by (Some l) none = absurd (cc)

  -- each name's files are as the groups made or left them
  settled_each : list_all (has_settled folder groups) names ≡ true → (q : List ℕ) → has_settled folder groups q ≡ true
  settled_each on q = by (list_any (is_of q) groups) refl
    where
      by : (b : Bool) → list_any (is_of q) groups ≡ b → has_settled folder groups q ≡ true
      by true is = name_of_all (λ x. has_settled folder groups x ≡ true) names q (all_settled (has_settled folder groups) names on) (named q ∙ is)
      by false off = ap (λ (t : Told). is_settled t (folder (file q Keys)) && is_settled t (folder (file q Rows))) (untold q off)

  file_settled : list_all (has_settled folder groups) names ≡ true → (q : List ℕ) (part : Part) (l : Option (Option Maker)) → (life_of q groups).last ≡ l → is_settled (told_of l) (folder (file q part)) ≡ true
  file_settled on q part l last = subst (λ (x : Option (Option Maker)). is_settled (told_of x) (folder (file q part)) ≡ true) last (by part)
    where
      two : (is_settled (told_of (life_of q groups).last) (folder (file q Keys)) ≡ true) × (is_settled (told_of (life_of q groups).last) (folder (file q Rows)) ≡ true)
      two = both_on (is_settled (told_of (life_of q groups).last) (folder (file q Keys))) (is_settled (told_of (life_of q groups).last) (folder (file q Rows))) (settled_each on q)

      by : (p : Part) → is_settled (told_of (life_of q groups).last) (folder (file q p)) ≡ true
      by Keys = two.0
      by Rows = two.1

  -- REDO CHANGES NOTHING
  pub at_rest : pending_of groups ≡ [] → Rises 0 groups → list_all (has_settled folder groups) names ≡ true → All (IsRedone folder groups) names → IsAtRest folder groups
  at_rest none rises settled redone = record {
    none = none;
    gone = λ q last part. no_file (folder (file q part)) (file_settled settled q part (Some None) last);
    made = λ q m last part. subst (λ (l : Option (Option Maker)). IsCurrent l (folder (file q part))) (sym last) (file_settled settled q part (Some (Some m)) last);
    pages = λ q there part. pages q there part;
  }
    where
      no_file : (o : Option (List (List ℕ))) → not (is_some o) ≡ true → o ≡ None
      no_file None on = refl
      no_file (Some x) on = absurd (cc)

      none_told : (q : List ℕ) → (life_of q groups).last ≡ Some None → is_some (tables_of folder groups q) ≡ false
      none_told q last = ap (λ (l : Option (Option Maker)). is_some (table_of q (record { last = l; since = (life_of q groups).since }) folder)) last

      pages : (q : List ℕ) → IsTrue (is_some (tables_of folder groups q)) → (part : Part) → AreRedone folder groups q part
      pages q there part = by (needs_slot q groups) refl
        where
          top : ℕ
          top = max (reach_of q Keys groups) (reach_of q Rows groups)

          needed : (l : Option (Option Maker)) → (life_of q groups).last ≡ l → is_told (told_of l) top ≡ true → needs_slot q groups ≡ true
          needed l last on = ap (λ (x : Option (Option Maker)). is_told (told_of x) top) last ∙ on

          not_lt : (n : ℕ) → nat_lt 0 n ≡ false → n ≤ 0
          not_lt zero off = omega arith
          not_lt (suc n) off = absurd (let e : true ≡ false = sym (lt_true 0 (suc n) (omega arith)) ∙ off in (cc))

          low : top ≤ 0 → (p : Part) → reach_of q p groups ≡ 0
          low le Keys = omega (arith, le)
          low le Rows = omega (arith, le)

          bare : needs_slot q groups ≡ false → (l : Option (Option Maker)) → (life_of q groups).last ≡ l → AreRedone folder groups q part
          bare off None last = silent_redone folder groups q part rises (low (not_lt top (sym (ap (λ (x : Option (Option Maker)). is_told (told_of x) top) last) ∙ off)) part)
          bare off (Some None) last = absurd (let e : true ≡ false = sym there ∙ none_told q last in (cc))
          bare off (Some (Some m)) last = absurd (let e : true ≡ false = sym (needed (Some (Some m)) last refl) ∙ off in (cc))

          by : (b : Bool) → needs_slot q groups ≡ b → AreRedone folder groups q part
          by true needs = which (list_any (is_of q) groups) refl
            where
              which : (b : Bool) → list_any (is_of q) groups ≡ b → AreRedone folder groups q part
              which true is = name_of_all (IsRedone folder groups) names q (recursion_from_All (IsRedone folder groups) names redone) (named q ∙ is) needs part
              which false off = absurd (let e : true ≡ false = sym (needs_known checkpoint analysis groups q has needs) ∙ off in (cc))
          by false off = bare off (life_of q groups).last refl

-- and each part of it holds where it is so
pub rest_settled : (folder : Folder) (groups : List Logged) (names : List (List ℕ)) → IsAtRest folder groups → list_all (has_settled folder groups) names ≡ true
rest_settled folder groups names rest = settled_all (has_settled folder groups) names (λ q. both q (each q Keys (life_of q groups).last refl) (each q Rows (life_of q groups).last refl))
  where
    both : (q : List ℕ) → is_settled (told_of (life_of q groups).last) (folder (file q Keys)) ≡ true → is_settled (told_of (life_of q groups).last) (folder (file q Rows)) ≡ true → has_settled folder groups q ≡ true
    both q one other = ap (λ (b : Bool). b && is_settled (told_of (life_of q groups).last) (folder (file q Rows))) one ∙ other

    each : (q : List ℕ) (part : Part) (l : Option (Option Maker)) → (life_of q groups).last ≡ l → is_settled (told_of (life_of q groups).last) (folder (file q part)) ≡ true
    each q part None last = ap (λ (x : Option (Option Maker)). is_settled (told_of x) (folder (file q part))) last
    each q part (Some None) last = ap (λ (x : Option (Option Maker)). is_settled (told_of x) (folder (file q part))) last ∙ ap (λ (o : Option (List (List ℕ))). not (is_some o)) (rest.gone q last part)
    each q part (Some (Some m)) last = ap (λ (x : Option (Option Maker)). is_settled (told_of x) (folder (file q part))) last ∙ subst (λ (x : Option (Option Maker)). IsCurrent x (folder (file q part))) last (rest.made q m last part)

pub rest_redone : (folder : Folder) (groups : List Logged) (names : List (List ℕ)) → ((q : List ℕ) → needs_slot q groups ≡ true → IsTrue (is_some (tables_of folder groups q))) → IsAtRest folder groups → All (IsRedone folder groups) names
rest_redone folder groups names there rest = λ k d low needs. rest.pages (get_or names k d) (there (get_or names k d) needs)

-- ---- the pager

-- the log was opened alone, and the files behind it are as its groups made or left them
pub found_ready : (value : LogValue) (s : State) (base : ℕ) (groups : List Logged) → IsFound value s base groups → IsAtRest s.folder groups → IsReady false value s base s.folder groups
found_ready value s base groups is rest = record {
  log = (is.log, refl);
  fits = subst (λ (l : List ℕ). All IsLsn (oldest l)) (sym rest.none) (All-nil IsLsn);
  names = is.names;
  control = is.control;
  agrees = λ c left. record { tables = λ m from within q. sym (tables_same s.folder c (take m groups) q (is.tables c left q)) };
  made = λ q m last c left part. subst (IsCurrent (life_of q groups).last) (sym (is.tables c left q part)) (rest.made q m last part);
  raises = λ c left q part n. inl (ap (λ (o : Option (List (List ℕ))). seen (page_or_zero n o)) (is.tables c left q part));
}

pub found_rises : (value : LogValue) (s : State) (base : ℕ) (groups : List Logged) → IsFound value s base groups → Rises 0 groups
found_rises value s base groups is = rises_of base 0 groups (8176 * (base / 8176 + length is.log.whole)) (omega arith) (opened_rising value s base groups value.last is.log)

slot_there : (store : PageStore) (folder : Folder) (groups : List Logged) (n : ℕ) (q : List ℕ) → AreSlots store folder groups → name_at store n ≡ Some q → IsTrue (is_some (tables_of folder groups q))
slot_there store folder groups n q slots named = by (slice_get store.slots n) refl named
  where
    some : (a b : List ℕ) → Some a ≡ Some b → a ≡ b
    some a b same = cc

    used : (slot : Slot) → slice_get store.slots n ≡ Some slot → (b : Bool) → slot.used ≡ b → cond b (Some slot.name) None ≡ Some q → IsTrue (is_some (tables_of folder groups q))
    used slot at true on is = subst (λ (x : List ℕ). IsTrue (is_some (tables_of folder groups x))) (some slot.name q is) (slots n slot at on).table
    used slot at false off is = absurd (cc)

    by : (o : Option Slot) → slice_get store.slots n ≡ o → option_and_then name_in o ≡ Some q → IsTrue (is_some (tables_of folder groups q))
    by None at is = absurd (cc)
    by (Some slot) at is = used slot at slot.used refl is

-- a table that has a slot is there
pub entered_there : (value : LogValue) (started : Bool) (folder : Folder) (groups : List Logged) (store : PageStore) → HasEntered value started folder groups store → (q : List ℕ) → needs_slot q groups ≡ true → IsTrue (is_some (tables_of folder groups q))
entered_there value started folder groups store is q needs = let h = is.have q needs in slot_there store folder groups h.0 q is.entering.slots (is.entering.slot q h.0 h.1)

-- ALL GROUPS ARE ON EACH PAGE as it is
pub rest_pager : (store : PageStore) (s : State) (base : ℕ) (start : Folder) (groups : List Logged) (forced : ℕ) → records_of store.writer ≡ [] → IsAtRest s.folder groups → IsPagerAt store s (λ k. 0) base start groups forced → IsPager store s base start groups forced
rest_pager store s base start groups forced none rest is = record {
  log = is.log;
  images = is.images;
  names = is.names;
  control = is.control;
  raises = is.raises;
  pages = pages;
  top = inl none;
  inside = is.inside;
  pinned = is.pinned;
  own = is.own;
  named = is.named;
  slots = is.slots;
  tables = is.tables;
  settled = is.settled;
  written = is.written;
  pending = is.pending;
}
  where
    same : (k : ℕ) (o : Option Spot) → spot_of store k ≡ o → redone_at groups (length groups) o (raw_at s.folder o) ≡ redone_at groups 0 o (raw_at s.folder o)
    same k None at = refl
    same k (Some sp) at =
        let here = stands store k sp at in
        let there : IsTrue (is_some (tables_of s.folder groups sp.name)) = subst (λ (q : List ℕ). IsTrue (is_some (tables_of s.folder groups q))) (sym here.name) (is.slots (k / 2 ^ 32) here.slot here.there here.used).table in
        redone_all groups sp (raw_at s.folder (Some sp)) ∙ rest.pages sp.name there sp.part sp.page ∙ sym (redone_zero groups (Some sp) (raw_at s.folder (Some sp)))

    pages : HoldsPages store s.folder groups (all_of groups)
    pages = subst (λ (rs : List Record). FramesOver (is_known store) (held store.frames) (is_pinned store.frames) (spot_of store) s.folder groups (all_of groups) rs (next_number store) (next_number store)) (sym none)
        (over_alike (is_known store) (held store.frames) (is_pinned store.frames) (spot_of store) s.folder groups (λ k. 0) (all_of groups) (next_number store) (next_number store) (λ k. same k (spot_of store k) refl)
        (subst (λ (rs : List Record). FramesOver (is_known store) (held store.frames) (is_pinned store.frames) (spot_of store) s.folder groups (λ k. 0) rs (next_number store) (next_number store)) none is.pages))

-- no undo record is pending
pub none_pending : (groups : List Logged) (pending : List Lsn) → pending ≡ oldest (pending_of groups) → length pending ≡ 0 → pending_of groups ≡ []
none_pending groups pending is none = by (pending_of groups) (sym (length-reverse (map lsn_at_place (pending_of groups)) ∙ length-map (pending_of groups) lsn_at_place) ∙ ap length (sym is) ∙ none)
  where
    by : (l : List ℕ) → length l ≡ 0 → l ≡ []
    by [] empty = refl
    by (x ∷ l) empty = absurd (omega (arith, empty))
