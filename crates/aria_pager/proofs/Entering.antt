-- A table is made: what follows from its steps.
use Rattle.std.proofs.Common.{◌≡◌, ◌∙◌, ◌||◌, ℕ, ◌-◌, ◌<◌, ◌≤◌, ◌^◌, Bool, true, false, cond, nat_eq, nat_le, List, [], ◌∷◌, ◌++◌, length, ap, sym, refl, subst, arith, Option, None, Some}
use Rattle.std.specs.Prelude.{IsTrue, is_some, slice_get}
use Rattle.std.specs.BTreeMap.{get}
use Rattle.std.specs.Ordering.{nat_cmp}
use Rattle.std.specs.Cmp.Lexicographic.{slice_cmp, bytes_decides}
use Rattle.std.specs.Option.{option_map, option_and_then}
use Rattle.std.proofs.lemmas.Bool.{eqb-true}
use Rattle.std.proofs.lemmas.Bool.Decides.{nat_tests}
use Rattle.aria_page.specs.Lsn.{lsn_number}
use Rattle.aria_page.specs.declared.place.Part.{Part}
use Rattle.aria_page.specs.declared.place.Part.TheVariants.{Keys, Rows}
use Rattle.aria_value.specs.Named.{same_name}
use Rattle.aria_host.specs.Folder.{Folder}
use Rattle.aria_host.specs.State.{State}
use Rattle.aria_record.specs.Logged.{Logged}
use Rattle.aria_record.specs.Writing.{Writes, records_of}
use Rattle.aria_record.proofs.Writers.{written_is}
use Rattle.aria_log.specs.declared.log.Log.{Log as LogValue}
use Rattle.aria_log.specs.Log.{IsLog, place}
use Rattle.aria_recovery.specs.Redo.{page_number, number_at}
use Rattle.aria_recovery.specs.Tables.{Maker, Life, lives, life_of, file, is_from, made_page, IsCurrent, AreCurrent}
use Rattle.aria_recovery.specs.Images.{AreImages, Raises}
use Rattle.aria_recovery.specs.Moves.{Moves}
use Rattle.aria_recovery.proofs.Agreeing.{life_push}
use Rattle.aria_recovery.proofs.Calming.{image_opened, image_shut}
use Rattle.aria_recovery.proofs.Moving.{moves_on}
use Rattle.aria_recovery.proofs.Numbering.{number_rises, number_rises_not}
use Rattle.aria_pager.specs.declared.page_store.PageStore.{PageStore}
use Rattle.aria_pager.specs.declared.slot.Slot.{Slot}
use Rattle.aria_pager.specs.PageStore.{name_in, name_at, sizes_in, sizes_at, stands_for, opened, set_at}
use Rattle.aria_pager.specs.Pager.{LogOf, HasFront, IsPager, known, next_number}
use Rattle.aria_pager.specs.Steps.{Steps}
use Rattle.aria_pager.specs.Turns.{only}
use Rattle.aria_pager.specs.View.{size_in}
use Rattle.aria_pager.specs.Filing.{first_slot, Enters, Reserves, AreTidy, IsLogged, IsMaking, Logs, FileSteps, TurnsAll}
use Rattle.aria_pager.proofs.Created.{pager_created}
use Rattle.aria_pager.proofs.Dropping.{moves_shut, other_way}
use Rattle.aria_pager.proofs.Forgetting.{place_of}
use Rattle.aria_pager.proofs.Making.{create_of, maker_at}
use Rattle.aria_pager.proofs.Reserving.{names_reserved, there_more}
use Rattle.aria_pager.proofs.Setting.{set_here, set_other}
use Rattle.aria_pager.proofs.Slots.{any_at, find, closed_name}

-- the group is the last that says something of the table's files
pub create_last : (b : PageStore) (groups : List Logged) (name stored : List ℕ) → (life_of name (groups ++ create_of name stored b ∷ [])).last ≡ Some (Some (maker_at stored b))
create_last b groups name stored = ap (λ (l : Life). l.last) (life_push name (record { last = None; since = [] }) groups (create_of name stored b)
    ∙ ap (lives (create_of name stored b) (life_of name groups)) (ap (λ (t : Bool). cond t (Some (Some (maker_at stored b))) None) ((bytes_decides name name).1 refl)))

-- ITS FILES MAY BE MADE
pub making_now : (b d : PageStore) (u v : State) (base : ℕ) (start : Folder) (groups : List Logged) (forced : ℕ) (name stored : List ℕ) (maker : Maker) → opened d ≡ opened b → known b name ≡ None → place b.log < place d.log → maker_at stored b ≡ maker
    → IsPager b u base start groups forced → IsLogged d v base start (groups ++ create_of name stored b ∷ []) → IsMaking d v base start (groups ++ create_of name stored b ∷ []) name maker
making_now b d u v base start groups forced name stored maker same unknown later made is logged = record {
  logged = logged;
  last = create_last b groups name stored ∙ ap (λ (m : Maker). Some (Some m)) made;
  closed = ap (λ (o : List ℕ → Bool). o name) same ∙ closed_name b u.folder groups name is.slots unknown;
  low = subst (λ (m : Maker). lsn_number m.at < next_number d) made (number_rises (place b.log) (place d.log) later);
}

-- ---- the slot

some_slot : (slots : List Slot) (n : ℕ) → IsTrue (is_some (slice_get slots n)) → (slot : Slot) × (slice_get slots n ≡ Some slot)
some_slot slots n there = by (slice_get slots n) refl there
  where
    by : (o : Option Slot) → slice_get slots n ≡ o → IsTrue (is_some o) → (slot : Slot) × (slice_get slots n ≡ Some slot)
    by None none off = absurd (cc)
    by (Some slot) is on = (slot, is)

pub enter_here : (slots : List Slot) (n : ℕ) (name : List ℕ) → IsTrue (is_some (slice_get slots n)) → slice_get (set_at slots n (first_slot name)) n ≡ Some (first_slot name)
enter_here slots n name there = let s = some_slot slots n there in set_here slots n s.0 (first_slot name) s.1

-- the tables that slots stand for then
enter_name : (slots : List Slot) (n m : ℕ) (name : List ℕ) → IsTrue (is_some (slice_get slots n)) → option_and_then name_in (slice_get (set_at slots n (first_slot name)) m) ≡ cond (nat_eq n m) (Some name) (option_and_then name_in (slice_get slots m))
enter_name slots n m name there = by (nat_eq n m) refl
  where
    by : (b : Bool) → nat_eq n m ≡ b → option_and_then name_in (slice_get (set_at slots n (first_slot name)) m) ≡ cond (nat_eq n m) (Some name) (option_and_then name_in (slice_get slots m))
    by true on = ap (λ (k : ℕ). option_and_then name_in (slice_get (set_at slots n (first_slot name)) k)) (sym (eqb-true n m on)) ∙ ap (option_and_then name_in) (enter_here slots n name there)
        ∙ sym (ap (λ (b : Bool). cond b (Some name) (option_and_then name_in (slice_get slots m))) on)
    by false off = ap (option_and_then name_in) (set_other slots n m (first_slot name) off) ∙ sym (ap (λ (b : Bool). cond b (Some name) (option_and_then name_in (slice_get slots m))) off)

-- the tables that are open then
pub enter_opened : (d e : PageStore) (n : ℕ) (name : List ℕ) → IsTrue (is_some (slice_get d.slots n)) → e.slots ≡ set_at d.slots n (first_slot name) → (q : List ℕ) → IsTrue (opened e q) → IsTrue (same_name name q || opened d q)
enter_opened d e n name there is q on =
    let (m, slot, at, for) = find q e.slots on in
    by m slot (ap (λ (l : List Slot). slice_get l m) (sym is) ∙ at) for (nat_eq n m) refl
  where
    or_true : (a b : Bool) → b ≡ true → IsTrue (a || b)
    or_true true b t = refl
    or_true false b t = t

    true_or : (a b : Bool) → a ≡ true → IsTrue (a || b)
    true_or true b t = refl
    true_or false b t = absurd (cc)

    some : (x y : Slot) → Some x ≡ Some y → x ≡ y
    some x y same = cc

    by : (m : ℕ) (slot : Slot) → slice_get (set_at d.slots n (first_slot name)) m ≡ Some slot → stands_for q slot ≡ true → (b : Bool) → nat_eq n m ≡ b → IsTrue (same_name name q || opened d q)
    by m slot at for true here =
        let same : slot ≡ first_slot name = some slot (first_slot name) (sym at ∙ ap (slice_get (set_at d.slots n (first_slot name))) (sym (eqb-true n m here)) ∙ enter_here d.slots n name there) in
        true_or (same_name name q) (opened d q) (sym (ap (stands_for q) same) ∙ for)
    by m slot at for false off = or_true (same_name name q) (opened d q) (any_at (stands_for q) d.slots m slot (sym (set_other d.slots n m (first_slot name) off) ∙ at) for)

-- ---- the images

le_self : (n : ℕ) → nat_le n n ≡ true
le_self n = grind (arith, nat_tests)

-- each image has the files as they were made
pub made_images : (d e : PageStore) (w : State) (base : ℕ) (start : Folder) (groups : List Logged) (name : List ℕ) (maker : Maker) → IsMaking d w base start groups name maker → ((q : List ℕ) → IsTrue (opened e q) → IsTrue (same_name name q || opened d q))
    → ((part : Part) → page_number (made_page maker part) ≡ lsn_number maker.at) → ((part : Part) → w.folder (file name part) ≡ Some (made_page maker part ∷ [])) → ((c : Folder) → w.may_leave c → (part : Part) → c (file name part) ≡ w.folder (file name part))
    → AreImages (opened e) w groups (length groups)
made_images d e w base start groups name maker is opens number made durable c leaves =
    image_shut (λ q. same_name name q || opened d q) groups (length groups) (opened e) w.folder c opens
    (image_opened (opened d) groups (length groups) name w.folder c current (is.logged.images c leaves))
  where
    current : AreCurrent name groups c
    current part = subst (λ (l : Option (Option Maker)). IsCurrent l (c (file name part))) (sym is.last)
        (ap (is_from maker.at) (durable c leaves part ∙ made part) ∙ ap (nat_le (lsn_number maker.at)) (number part) ∙ le_self (lsn_number maker.at))

-- the same with the table open
pub logged_on : (d e : PageStore) (w : State) (base : ℕ) (start : Folder) (groups : List Logged) → e.log ≡ d.log → AreImages (opened e) w groups (length groups) → IsLogged d w base start groups → IsLogged e w base start groups
logged_on d e w base start groups same images is = record {
  log = subst (λ (l : LogValue). IsLog l w base groups (length groups)) (sym same) is.log;
  images = images;
  names = is.names;
  control = is.control;
  raises = subst (λ (l : LogValue). (c : Folder) → w.may_leave c → Raises (number_at (place l)) start c) (sym same) is.raises;
}

-- ---- steps

moves_images : (base : ℕ) (one other : List ℕ → Bool) (s t : State) (ga gb : List Logged) (fa fb : ℕ) → AreImages other t gb fb → Moves (HasFront base) one s t ga gb fa fb → Moves (HasFront base) other s t ga gb fa fb
moves_images base one other s t ga gb fa fb images is = record {
  more = is.more;
  grows = is.grows;
  forces = is.forces;
  within = is.within;
  tables = is.tables;
  starts = is.starts;
  ends = is.ends;
  applies = is.applies;
  moments = is.moments;
  images = images;
  out = is.out;
  err = is.err;
}

-- THE GROUP WAS APPENDED, and the table is open
pub turns_made : (a b d e : PageStore) (s u v w : State) (base : ℕ) (start : Folder) (groups : List Logged) (forced : ℕ) (g : Logged) → ((name : List ℕ) → IsTrue (opened d name) → IsTrue (opened a name)) → (first : Steps a b s u base start groups forced true)
    → Logs b d u v base start groups first.forced' g true → FileSteps d v w base start (groups ++ g ∷ []) true → AreImages (opened e) w (groups ++ g ∷ []) (length (groups ++ g ∷ [])) → IsPager e w base start (groups ++ g ∷ []) (length (groups ++ g ∷ []))
    → TurnsAll a e s w base start groups forced g true
turns_made a b d e s u v w base start groups forced g fewer first logs files images pager = record {
  turns = record {
    added = true;
    forced' = length all;
    moves = moves_images base (opened d) (opened e) s w groups all forced (length all) images
        (moves_on (HasFront base) (opened d) s v w groups all all forced (length all) (length all)
        (moves_on (HasFront base) (opened d) s u v groups groups all forced first.forced' (length all) (moves_shut base (opened a) (opened d) s u groups groups forced first.forced' fewer first.moves) grown) files.moves);
    fronts = files.fronts;
    whole = λ on. refl;
    pager = λ on. pager;
  };
  all = λ on. refl;
}
  where
    all : List Logged
    all = groups ++ g ∷ []

    grown : Moves (HasFront base) (opened d) u v groups all first.forced' (length all)
    grown = subst (λ (n : ℕ). Moves (HasFront base) (opened d) u v groups all first.forced' n) (logs.all refl)
        (subst (λ (b : Bool). Moves (HasFront base) (opened d) u v groups (groups ++ only b g) first.forced' logs.forced') (logs.whole refl) logs.moves)

-- ---- the condition, once a table is made

-- what the store keeps: as it was made ready, but for the log, the writer, the table's name and its slot
pub record IsEntered (b e : PageStore) (name : List ℕ) (n : ℕ) : Type 0 where
  pub free : name_at b n ≡ None
  pub there : IsTrue (is_some (slice_get b.slots n))
  pub frames : e.frames ≡ b.frames
  pub slots : e.slots ≡ set_at b.slots n (first_slot name)
  pub pending : e.pending ≡ b.pending
  pub started : e.started ≡ true
  pub empty : Writes e.writer []
  pub later : place b.log ≤ place e.log
  pub knows : (q : List ℕ) → known e q ≡ cond (same_name name q) (Some (Some n)) (known b q)

pub create_done : (b e : PageStore) (u w : State) (base : ℕ) (start : Folder) (groups : List Logged) (forced : ℕ) (name stored : List ℕ) (n : ℕ) → IsPager b u base start groups forced → IsEntered b e name n → known b name ≡ None → records_of b.writer ≡ []
    → ((part : Part) → w.folder (file name part) ≡ Some (made_page (maker_at stored b) part ∷ [])) → ((other : List ℕ) (q : Part) → same_name name other ≡ false → w.folder (file other q) ≡ u.folder (file other q))
    → IsLogged e w base start (groups ++ create_of name stored b ∷ []) → IsPager e w base start (groups ++ create_of name stored b ∷ []) (length (groups ++ create_of name stored b ∷ []))
create_done b e u w base start groups forced name stored n is entered unknown idle files others logged = pager_created b e u w base start groups forced name n (maker_at stored b) (create_of name stored b) (record {
  is = is;
  idle = idle;
  unknown = unknown;
  told = ap (λ (b : Bool). cond b (Some (Some maker)) None) ((bytes_decides name name).1 refl);
  quiet = λ other off. ap (λ (b : Bool). cond b (Some (Some maker)) None) (other_way name other off);
  edits = λ other p k. refl;
  reaches = λ other p. refl;
  loose = λ pending. refl;
  log = subst (λ (t : Bool). LogOf t e.log w base all (length all)) (sym entered.started) logged.log;
  images = logged.images;
  names = logged.names;
  control = logged.control;
  raises = logged.raises;
  files = files;
  others = others;
  later = number_rises_not (place b.log) (place e.log) entered.later;
  frames = entered.frames;
  free = entered.free;
  here = ap (λ (l : List Slot). slice_get l n) entered.slots ∙ enter_here b.slots n name entered.there;
  else = λ m off. ap (λ (l : List Slot). slice_get l m) entered.slots ∙ set_other b.slots n m (first_slot name) off;
  empty = written_is e.writer [] entered.empty;
  written = subst (Writes e.writer) (sym (written_is e.writer [] entered.empty)) entered.empty;
  pending = entered.pending;
  knows = entered.knows;
})
  where
    maker : Maker
    maker = maker_at stored b

    all : List Logged
    all = groups ++ create_of name stored b ∷ []

-- a slot that is there has a place
pub slot_low : (slots : List Slot) (n : ℕ) → IsTrue (is_some (slice_get slots n)) → n < length slots
slot_low slots n there = let s = some_slot slots n there in place_of slots n s.0 s.1

-- ---- what callers see of the slots

some_name : (a b : List ℕ) → Some a ≡ Some b → a ≡ b
some_name a b e = cc

-- THE SLOTS ARE TIDY, whatever the host tells
pub tidy_entered : (d e : PageStore) (n : ℕ) (name : List ℕ) → IsTrue (is_some (slice_get d.slots n)) → e.slots ≡ set_at d.slots n (first_slot name) → e.tables ≡ d.tables → known d name ≡ Some (Some n) → AreTidy d → AreTidy e
tidy_entered d e n name there slots tables knows is = record { known = λ m q at. by m q at (nat_eq n m) refl; few = λ m part sizes at. few m part sizes at (nat_eq n m) refl }
  where
    named : (m : ℕ) → name_at e m ≡ cond (nat_eq n m) (Some name) (name_at d m)
    named m = ap (λ (l : List Slot). option_and_then name_in (slice_get l m)) slots ∙ enter_name d.slots n m name there

    same : (q : List ℕ) → known e q ≡ known d q
    same q = ap (λ t. get (slice_cmp nat_cmp) t q) tables

    by : (m : ℕ) (q : List ℕ) → name_at e m ≡ Some q → (b : Bool) → nat_eq n m ≡ b → known e q ≡ Some (Some m)
    by m q at true on = same q ∙ ap (known d) (some_name q name (sym at ∙ named m ∙ ap (λ (b : Bool). cond b (Some name) (name_at d m)) on)) ∙ knows ∙ ap (λ (k : ℕ). Some (Some k)) (eqb-true n m on)
    by m q at false off = same q ∙ is.known m q (sym (ap (λ (b : Bool). cond b (Some name) (name_at d m)) off) ∙ sym (named m) ∙ at)

    some : (x y : ℕ × ℕ) → Some x ≡ Some y → x ≡ y
    some x y e = cc

    one : (part : Part) → size_in part (1, 1) ≤ 2 ^ 31
    one Keys = omega arith
    one Rows = omega arith

    few : (m : ℕ) (part : Part) (sizes : ℕ × ℕ) → sizes_at e m ≡ Some sizes → (b : Bool) → nat_eq n m ≡ b → size_in part sizes ≤ 2 ^ 31
    few m part sizes at true on = subst (λ (z : ℕ × ℕ). size_in part z ≤ 2 ^ 31)
        (some (1, 1) sizes (sym (ap (option_map sizes_in) (ap (slice_get (set_at d.slots n (first_slot name))) (sym (eqb-true n m on)) ∙ enter_here d.slots n name there)) ∙ sym (ap (λ (l : List Slot). option_map sizes_in (slice_get l m)) slots) ∙ at)) (one part)
    few m part sizes at false off = is.few m part sizes (ap (option_map sizes_in) (sym (set_other d.slots n m (first_slot name) off)) ∙ sym (ap (λ (l : List Slot). option_map sizes_in (slice_get l m)) slots) ∙ at)

-- A SLOT STANDS FOR THE TABLE
pub enters_done : (a b e : PageStore) (n : ℕ) (name : List ℕ) → Reserves a b → name_at a n ≡ None → n < 2 ^ 32 - 1 → IsTrue (is_some (slice_get b.slots n)) → e.slots ≡ set_at b.slots n (first_slot name)
    → ((q : List ℕ) → known e q ≡ cond (same_name name q) (Some (Some n)) (known a q)) → Enters name n a e
enters_done a b e n name reserves free low there slots knows = record {
  free = free;
  low = low;
  names = λ m. ap (λ (l : List Slot). option_and_then name_in (slice_get l m)) slots ∙ enter_name b.slots n m name there ∙ ap (λ (f : ℕ → Option (List ℕ)). cond (nat_eq n m) (Some name) (f m)) (names_reserved a b reserves);
  size = ap (λ (l : List Slot). option_map sizes_in (slice_get l n)) slots ∙ ap (option_map sizes_in) (enter_here b.slots n name there);
  sizes = λ m on. by m (slice_get a.slots m) refl on;
  knows = knows;
}
  where
    apart : (m : ℕ) → IsTrue (is_some (name_at a m)) → (b : Bool) → nat_eq n m ≡ b → nat_eq n m ≡ false
    apart m on false off = off
    apart m on true same = absurd (let e : true ≡ false = sym on ∙ ap (λ (k : ℕ). is_some (name_at a k)) (sym (eqb-true n m same)) ∙ ap is_some free in (cc))

    by : (m : ℕ) (o : Option Slot) → slice_get a.slots m ≡ o → IsTrue (is_some (name_at a m)) → sizes_at e m ≡ sizes_at a m
    by m None none on = absurd (let f : true ≡ false = sym on ∙ ap (λ (o : Option Slot). is_some (option_and_then name_in o)) none in (cc))
    by m (Some slot) at on = ap (λ (l : List Slot). option_map sizes_in (slice_get l m)) slots ∙ ap (option_map sizes_in) (set_other b.slots n m (first_slot name) (apart m on (nat_eq n m) refl) ∙ there_more a b reserves m slot at ∙ sym at)
