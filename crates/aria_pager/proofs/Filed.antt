-- A group that makes or drops files is appended and brought to the disk, and files change behind it.
use Rattle.std.proofs.Common.{◌≡◌, ◌∙◌, inl, ℕ, ◌≤◌, Bool, true, false, List, [], ◌∷◌, ◌++◌, length, ap, sym, refl, subst, arith, Option, None, Some}
use Rattle.std.specs.Prelude.{IsTrue, is_some}
use Rattle.aria_page.specs.declared.place.Part.{Part}
use Rattle.aria_page.specs.Page.{zero_page}
use Rattle.aria_host.specs.declared.file_name.FileName.TheVariants.{Log, Control}
use Rattle.aria_host.specs.Calls.{Changes, Narrows, Removes, TellsNothing}
use Rattle.aria_host.specs.Folder.{Folder, with_file}
use Rattle.aria_host.specs.Seen.{page_or_zero}
use Rattle.aria_host.specs.State.{State}
use Rattle.aria_host.specs.Steps.{MayMake}
use Rattle.aria_host.specs.Steps.{Follows as HostFollows}
use Rattle.aria_host.proofs.Files.{make_others}
use Rattle.aria_host.proofs.Moments.{OnlyNow, nothing_moves}
use Rattle.aria_record.specs.Logged.{Logged}
use Rattle.aria_log.specs.Log.{IsLog, LogKeeps, place}
use Rattle.aria_log.specs.Pieces.{log_files}
use Rattle.aria_log.proofs.Staying.{log_stays}
use Rattle.aria_recovery.specs.Redo.{Content, seen}
use Rattle.aria_recovery.specs.Tables.{Maker, life_of, told_by, file, Agrees, IsCurrent}
use Rattle.aria_recovery.specs.Images.{IsImage, AreImages, Raises, SameNames}
use Rattle.aria_recovery.specs.Moves.{Moves}
use Rattle.aria_recovery.proofs.Agreeing.{AreOlder, agrees_self}
use Rattle.aria_recovery.proofs.Applying.{Meets}
use Rattle.aria_recovery.proofs.Calming.{image_shut}
use Rattle.aria_recovery.proofs.Imaging.{dropped_step}
use Rattle.aria_recovery.proofs.Moving.{moves_append, moves_force, moves_on}
use Rattle.aria_recovery.proofs.Naming.{names_make}
use Rattle.aria_recovery.proofs.Numbering.{number_rises_not}
use Rattle.aria_recovery.proofs.Raising.{raises_none, raises_on, raises_more, raises_make}
use Rattle.aria_recovery.proofs.Stepping.{no_log}
use Rattle.aria_pager.specs.declared.page_store.PageStore.{PageStore}
use Rattle.aria_pager.specs.PageStore.{opened}
use Rattle.aria_pager.specs.Pager.{HasFront, HaveFronts, NamesBase, IsPager, next_number}
use Rattle.aria_pager.specs.Filing.{IsLogged, Logs, FileSteps}
use Rattle.aria_pager.proofs.Fronting.{fronts, front_same, fronts_log, log_within, named_same, moments_front, moves_call}
use Rattle.aria_pager.proofs.Removing.{zero_below, apart_log, apart_control}

-- The group may stand behind these: a table that it makes has no files that are as new, and it says nothing of open tables.
pub record Follows (store now : PageStore) (s : State) (groups : List Logged) (g : Logged) : Type 0 where
  pub fewer : (name : List ℕ) → IsTrue (opened now name) → IsTrue (opened store name)
  pub meets : (name : List ℕ) → Meets s.folder groups g name
  pub older : (name : List ℕ) (maker : Maker) (d : Folder) → told_by name g ≡ Some (Some maker) → s.may_leave d → AreOlder name maker.at d
  pub shut : (name : List ℕ) → IsTrue (opened now name) → told_by name g ≡ None

module _ (store now : PageStore) (s t : State) (base : ℕ) (start : Folder) (groups : List Logged) (forced : ℕ) (g : Logged) where
  abbrev all : List Logged
  all = groups ++ g ∷ []

  longer : (gs : List Logged) → length gs ≤ length (gs ++ g ∷ [])
  longer [] = omega arith
  longer (h ∷ gs) = let e = longer gs in omega (arith, e)

  append_moves : Follows store now s groups g → LogKeeps s t base all forced → IsPager store s base start groups forced → Moves (HasFront base) (opened now) s t groups all forced forced
  append_moves fits keeps is = moves_append (HasFront base) (opened now) s t groups g forced (log_within store.started store.log s base groups forced is.log)
      (λ c leaves. image_shut (opened store) groups forced (opened now) s.folder c fits.fewer (is.images c leaves)) fits.meets fits.older fits.shut (moments_front s t base all forced is.control keeps)

  -- all groups are on the disk
  force_moves : OnlyNow t → AreImages (opened now) t all forced → HaveFronts base t all (length all) → forced ≤ length all → Moves (HasFront base) (opened now) t t all all forced (length all)
  force_moves only images fronts few = moves_force (HasFront base) (opened now) t t all forced (length all) few (omega arith) images
      (nothing_moves t only (λ c leaves. let f = fronts c leaves in record { count = f.count; from = omega (arith, f.from, few); within = f.within; log = f.log }))

  named : LogKeeps s t base all forced → IsPager store s base start groups forced → (c : Folder) → t.may_leave c → NamesBase base c
  named keeps is c left = let to = keeps.others.images c left in named_same base to.0 c (to.2 Control refl) (is.control to.0 to.1)

  logged : LogKeeps s t base all forced → AreImages (opened now) t all (length all) → IsLog now.log t base all (length all) → place store.log ≤ place now.log → IsPager store s base start groups forced → IsLogged now t base start all
  logged keeps images log later is = record {
    log = log;
    images = images;
    names = λ c left name part. let to = keeps.others.images c left in
        ap is_some (to.2 (file name part) (no_log name part)) ∙ is.names to.0 to.1 name part ∙ sym (ap is_some (keeps.others.folder (file name part) (no_log name part)));
    control = named keeps is;
    raises = λ c left. let to = keeps.others.images c left in raises_on (next_number now) start to.0 c
        (raises_more (next_number store) (next_number now) start to.0 (number_rises_not (place store.log) (place now.log) later) (is.raises to.0 to.1))
        (λ name part n. inl (ap (λ (o : Option (List (List ℕ))). seen (page_or_zero n o)) (to.2 (file name part) (no_log name part))));
  }

  -- THE GROUP IS ON THE DISK, or it may have been appended
  pub group_step : (done : Bool) → Follows store now s groups g → OnlyNow t → ((c : Folder) → t.may_leave c → t.since s.moment c t.out) → LogKeeps s t base all forced → (IsTrue done → IsLog now.log t base all (length all) × (place store.log ≤ place now.log))
      → IsPager store s base start groups forced → Logs store now s t base start groups forced g done
  group_step false fits only counts keeps got is = record {
    added = true;
    forced' = forced;
    moves = append_moves fits keeps is;
    fronts = fronts_log s t base all forced counts is.control keeps;
    files = λ name part. keeps.others.folder (file name part) (no_log name part);
    whole = λ on. refl;
    all = λ on. absurd (let e : false ≡ true = on in (cc));
    logged = λ on. absurd (let e : false ≡ true = on in (cc));
  }
  group_step true fits only counts keeps got is = record {
    added = true;
    forced' = length all;
    moves = moves;
    fronts = front;
    files = λ name part. keeps.others.folder (file name part) (no_log name part);
    whole = λ on. refl;
    all = λ on. refl;
    logged = λ on. logged keeps moves.images (got refl).0 (got refl).1 is;
  }
    where
      front : HaveFronts base t all (length all)
      front = fronts true now.log t base all (length all) (got refl).0 (named keeps is)

      first : Moves (HasFront base) (opened now) s t groups all forced forced
      first = append_moves fits keeps is

      few : forced ≤ length all
      few = let le = log_within store.started store.log s base groups forced is.log in omega (arith, le, longer groups)

      moves : Moves (HasFront base) (opened now) s t groups all forced (length all)
      moves = moves_on (HasFront base) (opened now) s t t groups all all forced forced (length all) first (force_moves only first.images front few)

-- ---- files change behind it

module _ (store : PageStore) (s t : State) (base : ℕ) (start : Folder) (groups : List Logged) where
  all_fronts : IsLogged store s base start groups → HaveFronts base s groups (length groups)
  all_fronts is = fronts true store.log s base groups (length groups) is.log is.control

  -- What one call may do to an image: that is neutral, leaves the log and the control file alone, and puts no page ahead of the log.
  pub record IsNeutralCall (step : Folder → Folder → Type 0) (done : Bool) : Type 0 where
    pub neutral : (d c : Folder) → s.may_leave d → step d c → IsImage (opened store) groups (length groups) d c
    pub keeps : (d c : Folder) → step d c → (log_files c ≡ log_files d) × (c Control ≡ d Control)
    pub lower : (d c : Folder) → step d c → Raises (next_number store) d c
    pub whole : IsTrue done → step s.folder t.folder
    pub names : IsTrue done → (d c : Folder) → SameNames s.folder d → step d c → SameNames t.folder c

  -- ONE CALL, done or not
  pub file_step : (step : Folder → Folder → Type 0) (done : Bool) → OnlyNow s → t.may_leave t.folder → IsNeutralCall step done → HostFollows step s t → TellsNothing s t → IsLogged store s base start groups → FileSteps store s t base start groups done
  file_step step done only reads call follows tells is = record {
    moves = moves;
    fronts = λ c leaves. let to = follows c leaves in let same = call.keeps to.0 c to.2 in front_same base groups (length groups) to.0 c same.0 same.1 (all_fronts is to.0 to.1);
    logged = λ on. record {
      log = log_stays store.log s t base groups (length groups) (record {
        folder = (call.keeps s.folder t.folder (call.whole on)).0;
        images = λ c leaves. let to = follows c leaves in (to.0, to.1, (call.keeps to.0 c to.2).0);
      }) is.log;
      images = moves.images;
      names = λ c leaves. let to = follows c leaves in call.names on to.0 c (is.names to.0 to.1) to.2;
      control = λ c leaves. let to = follows c leaves in named_same base to.0 c (call.keeps to.0 c to.2).1 (is.control to.0 to.1);
      raises = λ c leaves. let to = follows c leaves in raises_on (next_number store) start to.0 c (is.raises to.0 to.1) (call.lower to.0 c to.2);
    };
  }
    where
      moves : Moves (HasFront base) (opened store) s t groups groups (length groups) (length groups)
      moves = moves_call (opened store) s t base groups (length groups) step (omega arith) only reads is.images (all_fronts is) call.neutral (λ d c left to. call.keeps d c to) follows tells

  -- A CALL THAT ONLY LOOKS, or brings something to the disk
  pub look_file : (done : Bool) → OnlyNow s → t.may_leave t.folder → Narrows s t → IsLogged store s base start groups → FileSteps store s t base start groups done
  look_file done only reads same is = file_step (λ d c. c ≡ d) done only reads (record {
    neutral = λ d c left e. record {
      agrees = subst (λ (f : Folder). Agrees groups (length groups) d f) (sym e) (agrees_self groups (length groups) d);
      current = λ name on part. subst (λ (f : Folder). IsCurrent (life_of name groups).last (f (file name part))) (sym e) ((is.images d left).current name on part);
    };
    keeps = λ d c e. (ap log_files e, ap (λ (f : Folder). f Control) e);
    lower = λ d c e. subst (Raises (next_number store) d) (sym e) (raises_none (next_number store) d);
    whole = λ on. same.folder;
    names = λ on d c names e. subst (λ (f : Folder). SameNames f c) (sym same.folder) (subst (SameNames s.folder) (sym e) names);
  }) (λ c leaves. (c, same.no_more c leaves, refl)) same.tells is

  -- A FILE IS MADE EMPTY, OR REMOVED
  pub make_file_step : (name : List ℕ) (p : Part) (content : Content) (done : Bool) → ((n : ℕ) → page_or_zero n content ≡ zero_page) → OnlyNow s → t.may_leave t.folder
      → ((d c : Folder) → s.may_leave d → MayMake (file name p) content done d c → IsImage (opened store) groups (length groups) d c)
      → Changes (with_file (file name p) content) (MayMake (file name p) content done) s t done → IsLogged store s base start groups → FileSteps store s t base start groups done
  make_file_step name p content done empty only reads neutral made is = file_step (MayMake (file name p) content done) done only reads (record {
    neutral = neutral;
    keeps = λ d c step. ((λ i n. make_others (file name p) (Log n) content done d c (apart_log name p n) step i), make_others (file name p) Control content done d c (apart_control name p) step);
    lower = λ d c step. raises_make (next_number store) name p content done d c (zero_below store) empty step;
    whole = λ on. inl (made.whole on);
    names = λ on d c names step. subst (λ (f : Folder). SameNames f c) (sym (made.whole on)) (names_make (file name p) content s.folder d c names (as_done done on d c step));
  }) made.images made.tells is
    where
      as_done : (b : Bool) → IsTrue b → (d c : Folder) → MayMake (file name p) content b d c → MayMake (file name p) content true d c
      as_done true on d c step = step
      as_done false on d c step = absurd (let e : false ≡ true = on in (cc))

  -- A FILE OF A TABLE THAT WAS DROPPED is removed
  pub dropped_file : (name : List ℕ) (p : Part) (done : Bool) → opened store name ≡ false → (life_of name groups).last ≡ Some None → OnlyNow s → t.may_leave t.folder → Removes (file name p) s t done
      → IsLogged store s base start groups → FileSteps store s t base start groups done
  dropped_file name p done closed dropped only reads gone is = make_file_step name p None done (λ n. refl) only reads
      (λ d c left step. dropped_step (opened store) groups name p s.folder None done closed dropped d c (is.images d left) step) gone is

-- one after another
pub files_on : (store : PageStore) (s t u : State) (base : ℕ) (start : Folder) (groups : List Logged) (done : Bool) → FileSteps store s t base start groups true → FileSteps store t u base start groups done → FileSteps store s u base start groups done
files_on store s t u base start groups done first second = record {
  moves = moves_on (HasFront base) (opened store) s t u groups groups groups (length groups) (length groups) (length groups) first.moves second.moves;
  fronts = second.fronts;
  logged = second.logged;
}

-- a step, behind which a fault is answered
pub files_fault : (store : PageStore) (s t : State) (base : ℕ) (start : Folder) (groups : List Logged) (done done' : Bool) → done' ≡ false → FileSteps store s t base start groups done → FileSteps store s t base start groups done'
files_fault store s t base start groups done done' off first = record { moves = first.moves; fronts = first.fronts; logged = λ on. absurd (let e : true ≡ false = sym on ∙ off in (cc)) }
