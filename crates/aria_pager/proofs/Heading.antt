-- The first pages of tables' index files, as memory and the files have them and as the groups make them.
use Rattle.std.proofs.Common.{◌≡◌, ◌∙◌, ◌&&◌, ◌⊎◌, inl, inr, ℕ, ◌*◌, ◌^◌, ◌<◌, ◌≤◌, max, Bool, true, false, not, cond, nat_lt, List, [], ◌∷◌, length, ap, sym, refl, subst, arith, Option, None, Some, Result, Ok, Err}
use Rattle.std.specs.Prelude.{All, IsTrue, IfErr, OnOk, is_some, slice_get, slice_index}
use Rattle.std.specs.Option.{option_map, option_map_or}
use Rattle.std.proofs.lemmas.Bool.{eq-eqb}
use Rattle.std.proofs.lemmas.Bool.Decides.{nat_tests}
use Rattle.std.proofs.lemmas.List.Elements.{All-get_or}
use Rattle.std.proofs.lemmas.Option.{get_or_from_slice_get, slice_get_within}
use Rattle.aria_page.specs.declared.lsn.Lsn.{Lsn}
use Rattle.aria_page.specs.Lsn.{lsn_number}
use Rattle.aria_page.specs.declared.page_kind.PageKind.TheVariants.{Header}
use Rattle.aria_page.specs.declared.place.Part.TheVariants.{Keys}
use Rattle.aria_page.specs.Page.{IsSound, zero_page, page_body}
use Rattle.aria_page.specs.PageKind.{kind_byte}
use Rattle.aria_host.specs.Calls.{HasDiskCause}
use Rattle.aria_host.specs.Count.{Rose}
use Rattle.aria_host.specs.declared.fault.Fault.{Fault}
use Rattle.aria_host.specs.declared.fault.Fault.TheVariants.{Memory, Disk, Tell, Input, PageDamaged, LogDamaged, LogSpent, ControlDamaged, NotOurs, FileMissing, TooManyTables}
use Rattle.aria_host.specs.declared.file_name.FileName.{FileName}
use Rattle.aria_host.specs.Folder.{Folder, page_count}
use Rattle.aria_host.specs.Seen.{page_or_zero}
use Rattle.aria_host.specs.State.{State}
use Rattle.aria_record.specs.Logged.{Logged, lsn_at_place}
use Rattle.aria_record.specs.declared.record.Record.{Record}
use Rattle.aria_record.specs.Writing.{records_of}
use Rattle.aria_log.specs.Files.{HoldsLog}
use Rattle.aria_log.specs.Log.{place}
use Rattle.aria_log.specs.Pieces.{log_files}
use Rattle.aria_cache.specs.Frames.{Held, held, is_pinned}
use Rattle.aria_recovery.specs.Redo.{Seen, number_at, is_sound, page_number, seen, body_of, reach, redo, touches}
use Rattle.aria_recovery.specs.Images.{page_of}
use Rattle.aria_recovery.specs.Tables.{Table, file, life_of, page_in, tables_of}
use Rattle.aria_recovery.specs.Frames.{Spot, PageOn, as_seen, dirty_of, edits_of, raw_at, redone_at}
use Rattle.aria_recovery.proofs.Behind.{redone_all}
use Rattle.aria_recovery.proofs.Comparing.{le_true, le_false}
use Rattle.aria_recovery.proofs.Holding.{topped_same}
use Rattle.aria_recovery.proofs.Seeing.{seen_sound, seen_none, seen_zero}
use Rattle.aria_pager.specs.declared.page_store.PageStore.{PageStore}
use Rattle.aria_pager.specs.declared.slot.Slot.{Slot}
use Rattle.aria_pager.specs.PageStore.{name_at, sizes_in, spot_of, raw, late_seen}
use Rattle.aria_pager.specs.Pager.{OnDisk, IsPager, next_number, pages_in}
use Rattle.aria_pager.specs.Headers.{IsHeader, HasHeader, HaveHeaders, BeginsIn, HasOtherMagic, IsNoHeader, OfBody, first_key, seen_at, OfHeader, OfHeaders, HasHeaderCause, AreToldOf, header_of, OfRedoneHeader}
use Rattle.aria_pager.specs.Slotted.{has_magic, IsHeaded, OfFirst}
use Rattle.aria_pager.specs.Steps.{damaged_at}
use Rattle.aria_pager.specs.View.{size_in, count_at, frame_at, body_or, whole_body, body_at, late_at, page_bodies, IsTidy}
use Rattle.aria_pager.proofs.Bodies.{Open, open_at, spot_open, table_page}
use Rattle.aria_pager.proofs.Loading.{zero_past}
use Rattle.aria_pager.proofs.Slotting.{redo_still}
use Rattle.aria_pager.proofs.Viewing.{slot_found}

-- ---- what is wrong with a first page

-- its body isn't a header's
pub first_body : (page body : List ℕ) (file : FileName) (end : Lsn) (fault : Fault) → body ≡ page_body page → IsSound page → OfBody body file fault → OfFirst true page file end fault
first_body page body file end (NotOurs f) is sound (same, none) = (same, λ on. (sound, ap has_magic (sym is) ∙ none))
first_body page body file end (PageDamaged f n) is sound (same, zero, magic, kind) = (same, zero, λ on. inr (ap has_magic (sym is) ∙ magic, λ k. kind (ap (λ (b : List ℕ). slice_index b 0) is ∙ k)))
first_body page body file end (LogDamaged f n) is sound why = absurd why
first_body page body file end (Memory e) is sound why = absurd why
first_body page body file end Disk is sound why = absurd why
first_body page body file end Tell is sound why = absurd why
first_body page body file end Input is sound why = absurd why
first_body page body file end (LogSpent n) is sound why = absurd why
first_body page body file end ControlDamaged is sound why = absurd why
first_body page body file end (FileMissing f) is sound why = absurd why
first_body page body file end TooManyTables is sound why = absurd why

no_header : (page : List ℕ) → (¬ IsSound page) ⊎ ((has_magic (page_body page) ≡ true) × (¬ (slice_index (page_body page) 0 ≡ kind_byte Header))) → IsNoHeader (seen page)
no_header page (inl not) = subst IsNoHeader (sym (seen_none page not)) tt
no_header page (inr is) = by (is_sound page)
  where
    by : (b : Bool) → IsNoHeader (cond b (Some (page_number page, page_body page)) None)
    by true = is
    by false = tt

-- it was read of its file
pub of_file : (tells : Bool) (store : PageStore) (n : ℕ) (name : List ℕ) (s t : State) (page : List ℕ) (file' : FileName) (end : Lsn) (fault : Fault) → file' ≡ file name Keys → end ≡ lsn_at_place (place store.log) → (IsTrue tells → seen_at store s.folder (first_key n) ≡ seen page)
    → OfFirst true page file' end fault → OfHeader tells store n name s t fault
of_file tells store n name s t page file' end (NotOurs f) named at shown (same, why) = (same ∙ named, λ told. subst HasOtherMagic (sym (shown told ∙ seen_sound page (why refl).0)) (why refl).1)
of_file tells store n name s t page file' end (PageDamaged f m) named at shown (same, zero, why) = (same ∙ named, zero, λ told. subst IsNoHeader (sym (shown told)) (no_header page (why refl)))
of_file tells store n name s t page file' end (LogDamaged f m) named at shown (is, why) = (
  is ∙ ap damaged_at at,
  λ told.
      ap (late_seen (next_number store)) (shown told ∙ seen_sound page (why refl).0) ∙ le_true (next_number store) (page_number page) (subst (λ (l : Lsn). lsn_number l ≤ page_number page) at (why refl).1),
)
of_file tells store n name s t page file' end (Memory e) named at shown why = absurd why
of_file tells store n name s t page file' end Disk named at shown why = absurd why
of_file tells store n name s t page file' end Tell named at shown why = absurd why
of_file tells store n name s t page file' end Input named at shown why = absurd why
of_file tells store n name s t page file' end (LogSpent m) named at shown why = absurd why
of_file tells store n name s t page file' end ControlDamaged named at shown why = absurd why
of_file tells store n name s t page file' end (FileMissing f) named at shown why = absurd why
of_file tells store n name s t page file' end TooManyTables named at shown why = absurd why

pub seen_held : (store : PageStore) (folder : Folder) (key : ℕ) (h : Held) → held store.frames key ≡ Some h → seen_at store folder key ≡ Some (as_seen h)
seen_held store folder key h is = ap (λ (o : Option Held). option_map_or (λ h. Some (as_seen h)) o (raw store folder key)) is

pub seen_raw : (store : PageStore) (folder : Folder) (key : ℕ) → held store.frames key ≡ None → seen_at store folder key ≡ raw store folder key
seen_raw store folder key none = ap (λ (o : Option Held). option_map_or (λ h. Some (as_seen h)) o (raw store folder key)) none

-- it is held
pub of_held : (tells : Bool) (store : PageStore) (n : ℕ) (name : List ℕ) (s t : State) (h : Held) (body : List ℕ) (file' : FileName) (fault : Fault) → file' ≡ file name Keys → held store.frames (first_key n) ≡ Some h → body ≡ h.body
    → OfBody body file' fault → OfHeader tells store n name s t fault
of_held tells store n name s t h body file' (NotOurs f) named there is (same, none) = (same ∙ named, λ told. subst HasOtherMagic (sym (seen_held store s.folder (first_key n) h there)) (ap has_magic (sym is) ∙ none))
of_held tells store n name s t h body file' (PageDamaged f m) named there is (same, zero, magic, kind) =
    (same ∙ named, zero, λ told. subst IsNoHeader (sym (seen_held store s.folder (first_key n) h there)) (ap has_magic (sym is) ∙ magic, λ k. kind (ap (λ (b : List ℕ). slice_index b 0) is ∙ k)))
of_held tells store n name s t h body file' (LogDamaged f m) named there is why = absurd why
of_held tells store n name s t h body file' (Memory e) named there is why = absurd why
of_held tells store n name s t h body file' Disk named there is why = absurd why
of_held tells store n name s t h body file' Tell named there is why = absurd why
of_held tells store n name s t h body file' Input named there is why = absurd why
of_held tells store n name s t h body file' (LogSpent m) named there is why = absurd why
of_held tells store n name s t h body file' ControlDamaged named there is why = absurd why
of_held tells store n name s t h body file' (FileMissing f) named there is why = absurd why
of_held tells store n name s t h body file' TooManyTables named there is why = absurd why

-- ---- causes

-- no fault of the disk was met
pub header_cause : {T : Type 0} (tells : Bool) (store : PageStore) (n : ℕ) (name : List ℕ) (s t : State) (r : Result T Fault) → name_at store n ≡ Some name → t.disk_faults ≡ s.disk_faults → t.tell_faults ≡ s.tell_faults → IfErr r (OfHeader tells store n name s t) → HasHeaderCause tells store s t r
header_cause {T} tells store n name s t r named disk tell why = record { only = only r why; calm = calm r; later = omega (arith, disk); tell = tell }
  where
    only : (q : Result T Fault) → IfErr q (OfHeader tells store n name s t) → IfErr q (OfHeaders tells store s t)
    only (Ok x) is = tt
    only (Err f) is = record { slot = n; name = name; named = named; why = is }

    calm : (q : Result T Fault) → OnOk q (t.disk_faults ≡ s.disk_faults)
    calm (Ok x) = disk
    calm (Err f) = tt

-- the disk failed
pub header_disk : {T U : Type 0} (tells : Bool) (store : PageStore) (n : ℕ) (name : List ℕ) (s t : State) (f y : Fault) (r : Result U Fault) → r ≡ Err y → y ≡ f → name_at store n ≡ Some name → HasDiskCause {T = T} s t (Err f) → HasHeaderCause {T = U} tells store s t r
header_disk {T} {U} tells store n name s t f y r is e named cause = subst (λ (q : Result U Fault). HasHeaderCause {T = U} tells store s t q) (sym (is ∙ ap (λ (x : Fault). Err x) e)) record {
  only = record { slot = n; name = name; named = named; why = subst (OfHeader tells store n name s t) (sym cause.only) (cause.counted (ap (λ (x : Fault). Err x) cause.only)) };
  calm = tt;
  later = cause.later;
  tell = cause.tell;
}

of_later : (tells : Bool) (store : PageStore) (n : ℕ) (name : List ℕ) (s m t : State) (fault : Fault) → (IsTrue tells → m.folder ≡ s.folder) → m.disk_faults ≡ s.disk_faults → OfHeader tells store n name m t fault → OfHeader tells store n name s t fault
of_later tells store n name s m t Disk same disk why = subst (λ (k : ℕ). Rose k t.disk_faults) disk why
of_later tells store n name s m t (NotOurs f) same disk (is, why) = (is, λ told. subst (λ (d : Folder). HasOtherMagic (seen_at store d (first_key n))) (same told) (why told))
of_later tells store n name s m t (PageDamaged f p) same disk (is, zero, why) = (is, zero, λ told. subst (λ (d : Folder). IsNoHeader (seen_at store d (first_key n))) (same told) (why told))
of_later tells store n name s m t (LogDamaged f p) same disk (is, why) = (is, λ told. subst (λ (d : Folder). late_seen (next_number store) (seen_at store d (first_key n)) ≡ true) (same told) (why told))
of_later tells store n name s m t (Memory e) same disk why = absurd why
of_later tells store n name s m t Tell same disk why = absurd why
of_later tells store n name s m t Input same disk why = absurd why
of_later tells store n name s m t (LogSpent p) same disk why = absurd why
of_later tells store n name s m t ControlDamaged same disk why = absurd why
of_later tells store n name s m t (FileMissing f) same disk why = absurd why
of_later tells store n name s m t TooManyTables same disk why = absurd why

-- a fault, behind calls that only looked
pub header_later : {T U : Type 0} (tells : Bool) (store : PageStore) (s m t : State) (f y : Fault) (r : Result U Fault) → r ≡ Err y → y ≡ f → (IsTrue tells → m.folder ≡ s.folder) → m.disk_faults ≡ s.disk_faults → m.tell_faults ≡ s.tell_faults
    → HasHeaderCause {T = T} tells store m t (Err f) → HasHeaderCause {T = U} tells store s t r
header_later {T} {U} tells store s m t f y r is e same disk tell cause = subst (λ (q : Result U Fault). HasHeaderCause {T = U} tells store s t q) (sym (is ∙ ap (λ (x : Fault). Err x) e)) record {
  only = (let o = cause.only in record { slot = o.slot; name = o.name; named = o.named; why = of_later tells store o.slot o.name s m t f same disk o.why });
  calm = tt;
  later = omega (arith, cause.later, disk);
  tell = cause.tell ∙ tell;
}

-- ---- what the groups make

whole : (b : List ℕ) → length b ≡ 8181 → whole_body (Some b) ≡ Some b
whole b is = ap (λ (t : Bool). cond t (Some b) None) (eq-eqb (length b) 8181 is)

body_seen : (o : Option Held) (x : Seen) → body_or x o ≡ body_of (option_map_or (λ h. Some (as_seen h)) o x)
body_seen None x = refl
body_seen (Some h) x = refl

not_less : (n : ℕ) → nat_lt 0 n ≡ false → n ≡ 0
not_less n off = grind (arith, nat_tests)

module _ (store : PageStore) (s : State) (base : ℕ) (start : Folder) (groups : List Logged) (forced : ℕ) (now : s.may_leave s.folder) (empty : records_of store.writer ≡ []) (is : IsPager store s base start groups forced) (n : ℕ) (name : List ℕ) (named : name_at store n ≡ Some name) where
  abbrev key : ℕ
  key = first_key n

  pub first_spot : spot_of store key ≡ Some (record { name = name; part = Keys; page = 0 })
  first_spot = spot_open store n name Keys 0 named (omega arith)

  pub first_raw : raw store s.folder key ≡ page_of s.folder name Keys 0
  first_raw = ap (raw_at s.folder) first_spot

  -- how many pages its file has
  pub first_written : (slot : Slot) → slice_get store.slots n ≡ Some slot → page_count (file name Keys) s.folder ≡ slot.keys.written
  first_written slot there = subst (λ (q : List ℕ). page_count (file q Keys) s.folder ≡ o.slot.keys.written) o.named (ap (λ (c : Option (List (List ℕ))). option_map_or (λ l. length l) c 0) disk.there ∙ disk.written)
      ∙ ap (λ (x : Slot). x.keys.written) (some o.slot slot (sym o.there ∙ there))
    where
      o : Open store n name
      o = open_at store n name named

      disk : OnDisk store s.folder groups o.slot.name Keys (pages_in o.slot Keys)
      disk = (is.slots n o.slot o.there o.used).files Keys

      some : (a b : Slot) → Some a ≡ Some b → a ≡ b
      some a b e = cc

  free : is_pinned store.frames key ≡ false
  free = is.pinned key ∙ ap (λ (rs : List Record). option_map_or (λ s. touches s.name s.part s.page rs) (spot_of store key) false) empty ∙ by (spot_of store key)
    where
      by : (o : Option Spot) → option_map_or (λ s. touches s.name s.part s.page []) o false ≡ false
      by None = refl
      by (Some sp) = refl

  abbrev made : Seen
  made = redone_at groups (length groups) (spot_of store key) (raw store s.folder key)

  seen_made : seen_at store s.folder key ≡ made
  seen_made = by (held store.frames key) refl
    where
      by : (o : Option Held) → held store.frames key ≡ o → seen_at store s.folder key ≡ made
      by None none = seen_raw store s.folder key none ∙ sym ((is.pages key).clean (ap dirty_of none))
      by (Some h) there = seen_held store s.folder key h there
          ∙ sym (sym (topped_same (next_number store) (edits_of groups (length groups) (records_of store.writer) (spot_of store key)) made (sym (is.pages key).pinned ∙ free)) ∙ (is.pages key).held h there)

  made_is : made ≡ header_of s.folder groups name
  made_is = ap (λ (o : Option Spot). redone_at groups (length groups) o (raw_at s.folder o)) first_spot
      ∙ redone_all groups (record { name = name; part = Keys; page = 0 }) (page_of s.folder name Keys 0)
      ∙ sym (table_page store s base start groups forced now is n name Keys 0 named)

  -- THE FIRST PAGE, as memory and its file have it, is that which the groups make.
  pub first_is : seen_at store s.folder key ≡ header_of s.folder groups name
  first_is = seen_made ∙ made_is

  -- a file without pages shows zeros
  none_shown : count_at store Keys (Some n) ≡ 0 → header_of s.folder groups name ≡ Some (0, page_body zero_page)
  none_shown none = table_page store s base start groups forced now is n name Keys 0 named ∙ redo_still name Keys 0 (life_of name groups).since (page_of s.folder name Keys 0) still ∙ ap seen zeros ∙ seen_zero
    where
      o : Open store n name
      o = open_at store n name named

      disk : OnDisk store s.folder groups o.slot.name Keys (pages_in o.slot Keys)
      disk = (is.slots n o.slot o.there o.used).files Keys

      count : count_at store Keys (Some n) ≡ (pages_in o.slot Keys).pages
      count = ap (λ (x : Option Slot). option_map_or (size_in Keys) (option_map sizes_in x) 0) o.there

      still : reach name Keys (life_of name groups).since ≡ 0
      still = subst (λ (q : List ℕ). reach q Keys (life_of q groups).since ≡ 0) o.named (omega (arith, none, count, disk.counts))

      zeros : page_or_zero 0 (s.folder (file name Keys)) ≡ zero_page
      zeros = subst (λ (q : List ℕ). page_or_zero 0 (s.folder (file q Keys)) ≡ zero_page) o.named (ap (page_or_zero 0) disk.there ∙ zero_past 0 (Some disk.content) (omega (arith, none, count, disk.counts, disk.written)))

  module _ (tidy : IsTidy store) (lsn : ℕ) (body : List ℕ) (at : seen_at store s.folder key ≡ Some (lsn, body)) (long : length body ≡ 8181) where
    here : body_or (page_of s.folder name Keys 0) (frame_at store n Keys 0) ≡ Some body
    here = body_seen (held store.frames key) (page_of s.folder name Keys 0)
        ∙ ap (λ (x : Seen). body_of (option_map_or (λ h. Some (as_seen h)) (held store.frames key) x)) (sym first_raw)
        ∙ ap body_of at

    shown : page_bodies store s.folder (file name Keys) 0 ≡ Some body
    shown = ap (body_at store s.folder name Keys 0) (slot_found store n name tidy named) ∙ by (nat_lt 0 (count_at store Keys (Some n))) refl
      where
        by : (b : Bool) → nat_lt 0 (count_at store Keys (Some n)) ≡ b → cond b (whole_body (body_or (page_of s.folder name Keys 0) (frame_at store n Keys 0))) (Some (page_body zero_page)) ≡ Some body
        by true on = ap whole_body here ∙ whole body long
        by false off = ap body_of (sym (none_shown (not_less (count_at store Keys (Some n)) off)) ∙ sym first_is ∙ at)

    -- IT IS A HEADER
    pub header_shown : IsHeader body → (not (is_some (held store.frames key)) && late_seen (next_number store) (raw store s.folder key)) ≡ false → HasHeader store s.folder name
    header_shown header early = record {
      body = body;
      shown = shown;
      header = header;
      early = ap (late_at store s.folder name Keys 0) (slot_found store n name tidy named) ∙ ap (λ (x : Seen). not (is_some (held store.frames key)) && late_seen (next_number store) x) (sym first_raw) ∙ early;
    }

-- it is held
pub early_held : (store : PageStore) (folder : Folder) (key : ℕ) (h : Held) → held store.frames key ≡ Some h → (not (is_some (held store.frames key)) && late_seen (next_number store) (raw store folder key)) ≡ false
early_held store folder key h there = ap (λ (o : Option Held). not (is_some o) && late_seen (next_number store) (raw store folder key)) there

-- it was read, and isn't ahead of the log
pub early_read : (store : PageStore) (folder : Folder) (key k : ℕ) (body : List ℕ) → held store.frames key ≡ None → seen_at store folder key ≡ Some (k, body) → k < next_number store → (not (is_some (held store.frames key)) && late_seen (next_number store) (raw store folder key)) ≡ false
early_read store folder key k body none at low = ap (λ (o : Option Held). not (is_some o) && late_seen (next_number store) (raw store folder key)) none
    ∙ ap (late_seen (next_number store)) (sym (seen_raw store folder key none) ∙ at) ∙ le_false (next_number store) k low

-- the first page of an index file
pub header_headed : (end : ℕ) (page : List ℕ) → IsHeaded end page → IsHeader (page_body page)
header_headed end page is = record { magic = is.magic; kind = is.kind }

-- a slot that stands for a table is one of the slots
pub headers_all : (store : PageStore) (folder : Folder) → All (λ slot. BeginsIn store folder slot.name) store.slots → HaveHeaders store folder
headers_all store folder all n name named =
    let o = open_at store n name named in
    let low = slice_get_within store.slots n o.slot o.there in
    let begins : BeginsIn store folder o.slot.name = subst (λ (x : Slot). BeginsIn store folder x.name) (get_or_from_slice_get store.slots n o.slot o.slot o.there) (All-get_or (λ (x : Slot). BeginsIn store folder x.name) store.slots n o.slot low all) in
    subst (BeginsIn store folder) o.named begins n named

-- slots stay the tables' own
pub told_same : (store store' : PageStore) (groups : List Logged) → name_at store' ≡ name_at store → AreToldOf store groups → AreToldOf store' groups
told_same store store' groups same told n name at = told n name (sym (ap (λ (f : ℕ → Option (List ℕ)). f n) same) ∙ at)

-- ---- at opening

module _ (store : PageStore) (s t : State) (base : ℕ) (start : Folder) (groups : List Logged) (now : s.may_leave s.folder) (empty : records_of store.writer ≡ []) (is : IsPager store s base start groups (length groups)) (told_of : AreToldOf store groups)
    (old : Folder) (tables : (name : List ℕ) → tables_of s.folder groups name ≡ tables_of old groups name) (end : ℕ) (holds : HoldsLog (log_files old) base groups end) (at : place store.log ≡ 8176 * end) where
  -- as the groups make it of the folder as it was
  redone_is : (n : ℕ) (name : List ℕ) → name_at store n ≡ Some name → seen_at store s.folder (first_key n) ≡ header_of old groups name
  redone_is n name named = first_is store s base start groups (length groups) now empty is n name named ∙ ap (λ (o : Option Table). page_in o Keys 0) (tables name)

  pub redone_header : (n : ℕ) (name : List ℕ) (fault : Fault) → name_at store n ≡ Some name → OfHeader true store n name s t fault → (fault ≡ Disk) ⊎ OfRedoneHeader base groups old fault
  redone_header n name Disk named why = inl refl
  redone_header n name (NotOurs f) named (same, why) = inr (name, told_of n name named, same, subst HasOtherMagic (redone_is n name named) (why refl))
  redone_header n name (PageDamaged f p) named (same, zero, why) = inr (name, told_of n name named, same, zero, subst IsNoHeader (redone_is n name named) (why refl))
  redone_header n name (LogDamaged f p) named (same, why) = inr (
    name,
    told_of n name named,
    end,
    holds,
    same ∙ ap (λ (p : ℕ). damaged_at (lsn_at_place p)) at,
    sym (ap (λ (p : ℕ). late_seen (number_at p) (header_of old groups name)) at) ∙ ap (late_seen (next_number store)) (sym (redone_is n name named)) ∙ why refl,
  )
  redone_header n name (Memory e) named why = absurd why
  redone_header n name Tell named why = absurd why
  redone_header n name Input named why = absurd why
  redone_header n name (LogSpent p) named why = absurd why
  redone_header n name ControlDamaged named why = absurd why
  redone_header n name (FileMissing f) named why = absurd why
  redone_header n name TooManyTables named why = absurd why
