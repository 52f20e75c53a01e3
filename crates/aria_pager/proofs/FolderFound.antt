-- A folder is found, by one call after another.
use Rattle.std.proofs.Common.{rules, ◌≡◌, ◌∙◌, ◌+◌, ◌*◌, ◌/◌, ◌<◌, ◌≤◌, ◌^◌, inl, inr, ℕ, true, false, List, [], ◌++◌, length, ap, sym, refl, subst, Option, None, Some, Result, Ok, Err}
use Rattle.std.specs.Prelude.{IsSome, is_some, IfOk, IfErr}
use Rattle.std.proofs.Math.Seq.{take-nil}
use Rattle.std.proofs.lemmas.List.{append-nil}
use Rattle.std.proofs.lemmas.Option.{same_Some}
use Rattle.aria_page.specs.declared.lsn.Lsn.{Lsn}
use Rattle.aria_page.specs.declared.place.Part.{Part}
use Rattle.aria_page.specs.declared.place.Part.TheVariants.{Keys, Rows}
use Rattle.aria_host.specs.Calls.{HaveNames, Narrows}
use Rattle.aria_host.specs.declared.file_name.FileName.{FileName}
use Rattle.aria_host.specs.declared.file_name.FileName.TheVariants.{Log}
use Rattle.aria_host.specs.declared.fault.Fault.{Fault}
use Rattle.aria_host.specs.Folder.{Folder, IsFileName}
use Rattle.aria_host.specs.Moments.{SameBut}
use Rattle.aria_host.specs.State.{State}
use Rattle.aria_host.proofs.Moments.{OnlyNow, started, goes_on, joined, narrows_then}
use Rattle.aria_control.specs.declared.control.Control.{Control}
use Rattle.aria_control.specs.Found.{is_control}
use Rattle.aria_record.specs.Logged.{Logged}
use Rattle.aria_log.specs.declared.log.Log.{Log as LogValue}
use Rattle.aria_log.specs.Files.{HoldsLog, IsSoundLog}
use Rattle.aria_log.specs.Finding.{base_of, means_none}
use Rattle.aria_log.specs.Groups.{groups_from}
use Rattle.aria_log.specs.Log.{HasNoLog, IsOpened}
use Rattle.aria_log.specs.Pieces.{LogFiles, log_files, pieces_of}
use Rattle.aria_log.proofs.Founds.{first_place}
use Rattle.aria_log.proofs.Fronts.{front_unique}
use Rattle.aria_log.proofs.Opening.{opened_fresh}
use Rattle.aria_log.proofs.Staying.{same_log}
use Rattle.aria_recovery.specs.Tables.{file}
use Rattle.aria_pager.specs.declared.find.Found.{Found}
use Rattle.aria_pager.specs.Found.{no_control, AreFiles, AreKept, AtBegin, Holds, IsFoundAs, IsFresh, IsRead, MayBegin, Names, Refuses, RefusesLog}
use Rattle.aria_pager.proofs.Founding.{still_names}

-- ---- moments

-- calls that only look, and then the control file may be made
pub begins_behind : (a b c : State) → OnlyNow a → ((t : ℕ) (f : Folder) → t ≤ a.moment → a.may_leave f → a.since t f a.out) → Narrows a b → MayBegin b c → MayBegin a c
begins_behind a b c only counts first (inl same) = inl (narrows_then a b c counts first same)
begins_behind a b c only counts first (inr begins) = inr (record {
  fresh = subst IsFresh first.folder begins.fresh;
  moments = joined a b c (AtBegin a) (AtBegin b)
      (goes_on a a b [] (AtBegin a) (started a (AtBegin a) (λ f told left. let now = only f told left in record { image = (f, now.0, inl refl); told_is = now.1 })) first.tells.time
      (λ f n leaves. record { image = (f, first.no_more f leaves, inl refl); told_is = ap (λ (l : List ℕ). a.out ++ l) (take-nil n) ∙ append-nil a.out }))
      begins.moments
      (λ f told left. let (d, was, is) = left.image in record { image = (d, first.no_more d was, is); told_is = left.told_is ∙ first.tells.out });
  others = λ f other. begins.others f other ∙ ap (λ (g : Folder). g f) first.folder;
  out = begins.out ∙ first.tells.out;
  err = begins.err ∙ first.tells.err;
})

-- it may be made, and then calls only look
pub begins_before : (a b c : State) → ((t : ℕ) (f : Folder) → t ≤ a.moment → a.may_leave f → a.since t f a.out) → ((t : ℕ) (f : Folder) → t ≤ b.moment → b.may_leave f → b.since t f b.out) → MayBegin a b → Narrows b c → MayBegin a c
begins_before a b c counts counts' (inl first) same = inl (narrows_then a b c counts first same)
begins_before a b c counts counts' (inr begins) same = inr (record {
  fresh = begins.fresh;
  moments = goes_on a b c [] (AtBegin a) begins.moments same.tells.time
      (λ f n leaves. let at = begins.moments.each f b.out (counts' a.moment f begins.moments.later (same.no_more f leaves)) in
      record { image = at.image; told_is = ap (λ (l : List ℕ). b.out ++ l) (take-nil n) ∙ append-nil b.out ∙ begins.out });
  others = λ f other. ap (λ (g : Folder). g f) same.folder ∙ begins.others f other;
  out = same.tells.out ∙ begins.out;
  err = same.tells.err ∙ begins.err;
})

-- other files are as they were
pub begins_others : (a b : State) → MayBegin a b → SameBut is_control a.folder b.folder
begins_others a b (inl same) f other = ap (λ (g : Folder). g f) same.folder
begins_others a b (inr begins) f other = begins.others f other

-- ---- a fresh folder has no groups

fresh_none : (d : Folder) → IsFresh d → (f : FileName) → IsFileName f → is_control f ≡ false → d f ≡ None
fresh_none d (inl (blank, none)) f form other = by (d f) refl
  where
    by : (o : Option (List (List ℕ))) → d f ≡ o → d f ≡ None
    by None is = is
    by (Some pages) is = absurd (none (record { file = f; form = form; other = other; there = subst IsSome (sym is) (search rules) }))
fresh_none d (inr (page, begins, never)) f form other = absurd never

image_none : (s : State) (c : Folder) (f : FileName) → IsFileName f → HaveNames s → s.may_leave c → s.folder f ≡ None → c f ≡ None
image_none s c f form names leaves none = by (c f) (names c leaves f form ∙ ap is_some none)
  where
    by : (o : Option (List (List ℕ))) → is_some o ≡ false → o ≡ None
    by None e = refl
    by (Some pages) e = absurd (let no' : true ≡ false = e in (cc))

no_log : (d : Folder) (s : State) → IsFresh d → SameBut is_control d s.folder → HaveNames s → HasNoLog s
no_log d s fresh same names = record {
  folder = gone;
  images = λ c leaves f form. image_none s c (Log f) form names leaves (gone f form);
}
  where
    gone : (f : ℕ) → f < 2 ^ 24 → s.folder (Log f) ≡ None
    gone f form = same (Log f) refl ∙ fresh_none d fresh (Log f) form refl

fresh_groups : (from : Lsn) (s : State) (log : LogValue) (base : ℕ) (groups : List Logged) → base_of from ≡ Some base → from ≡ no_control.redo → IsOpened log s base groups log.last → HasNoLog s → (base ≡ 8176 * 1024) × (groups ≡ [])
fresh_groups from s log base groups base_is none opened no_log' =
    let at : base ≡ 8176 * 1024 = same_Some base (8176 * 1024) (sym base_is ∙ first_place from (ap (λ (l : Lsn). means_none l) none)) in
    let fresh = opened_fresh from s s log (record { base = base; base_is = base_is; groups = groups; opened = opened }) (ap (λ (l : Lsn). means_none l) none) no_log' refl in
    let here : IsOpened log s (8176 * 1024) groups log.last = subst (λ (b : ℕ). IsOpened log s b groups log.last) at opened in
    let same = front_unique (pieces_of (log_files s.folder)) (8176 * 1024 / 8176) true here.whole fresh.whole here.front fresh.front in
    (at, here.groups_are ∙ ap (groups_from (8176 * 1024)) same ∙ sym fresh.groups_are)

-- ---- all of it

part_form : (name : List ℕ) (part : Part) → IsFileName (file name part)
part_form name Keys = tt
part_form name Rows = tt

own : (d : Folder) (u : State) (control : Control) (log : LogValue) (base : ℕ) (groups : List Logged) → SameBut is_control d u.folder → HaveNames u → Names d control → base_of control.redo ≡ Some base → IsOpened log u base groups log.last
    → Holds d control.checkpoint base groups
own d u control log base groups same names (inl kept) base_is opened =
    let end : ℕ = base / 8176 + length opened.whole in
    let files : log_files u.folder ≡ log_files d = same_log is_control d u.folder (λ n. refl) same in
    inl (record {
      front = record {
        end = end;
        holds = subst (λ (f : LogFiles). HoldsLog f base groups end) files (record { pieces = opened.whole; front = opened.front; groups_are = opened.groups_are; end_is = refl });
        sound = subst (λ (f : LogFiles). IsSoundLog f base end) files opened.sound;
        named = record { control = control; found = kept; base_is = base_is };
      };
      checkpoint_is = refl;
    })
own d u control log base groups same names (inr (fresh, is)) base_is opened =
    let (at, none) = fresh_groups control.redo u log base groups base_is (ap (λ (k : Control). k.redo) is) opened (no_log d u fresh same names) in
    inr (fresh, ap (λ (k : Control). k.checkpoint) is, at, none)

-- THE FOLDER IS FOUND
pub found_as : (s t u : State) (found : Found) (control : Control) (names : List FileName) (base : ℕ) (groups : List Logged) → SameBut is_control s.folder t.folder → Names s.folder control → AreKept control t → HaveNames t → AreFiles names t.folder → Narrows t u
    → IsRead control names u found base groups → IsFoundAs found s u control.checkpoint base groups
found_as s t u found control names base groups same named kept have listed narrows is = record {
  found = record {
    log = is.log;
    names = λ c leaves name part. here c leaves (file name part) (part_form name part);
    tables = λ c leaves name part. is.tables name part c leaves;
    control = λ c leaves. record { control = control; found = kept c (narrows.no_more c leaves); base_is = is.base_is };
  };
  has = is.has;
  chained = is.chained;
  low = is.low;
  listed = subst (λ (l : List FileName). AreFiles l u.folder) (sym is.files_are) (subst (AreFiles names) (sym narrows.folder) listed);
  from_is = is.from_is;
  own = own s.folder u control found.log base groups others here named is.base_is is.log;
  others = others;
}
  where
    here : HaveNames u
    here = still_names t u narrows have

    others : SameBut is_control s.folder u.folder
    others f other = ap (λ (g : Folder). g f) narrows.folder ∙ same f other

pub all_found : (s t u : State) (r : Result Found Fault) (control : Control) (names : List FileName) → SameBut is_control s.folder t.folder → Names s.folder control → AreKept control t → HaveNames t → AreFiles names t.folder → Narrows t u
    → IfOk r (λ found. (base : ℕ) × (groups : List Logged) × IsRead control names u found base groups) → IfOk r (λ found. (checkpoint : Lsn) × (base : ℕ) × (groups : List Logged) × IsFoundAs found s u checkpoint base groups)
all_found s t u (Ok found) control names same named kept have listed narrows (base, groups, is) = (control.checkpoint, base, groups, found_as s t u found control names base groups same named kept have listed narrows is)
all_found s t u (Err fault) control names same named kept have listed narrows is = search rules

-- IT ISN'T, and the log is why
pub log_refuses : (s t : State) (r : Result Found Fault) (control : Control) → SameBut is_control s.folder t.folder → Names s.folder control → IfErr r (RefusesLog control (log_files t.folder)) → IfErr r (Refuses s.folder)
log_refuses s t (Ok found) control same named is = search rules
log_refuses s t (Err fault) control same named is = inr (control, named, subst (λ (f : LogFiles). RefusesLog control f fault) (same_log is_control s.folder t.folder (λ n. refl) same) is)
