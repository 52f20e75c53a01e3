-- The log of a folder that was found is started.
use Rattle.std.proofs.Common.{◌≡◌, ◌∙◌, ◌&&◌, inl, ℕ, ◌+◌, ◌*◌, ◌/◌, true, false, Bool, List, [], ◌∷◌, ◌++◌, length, take, ap, sym, refl, subst, arith, length-append}
use Rattle.std.specs.Prelude.{Option, None, Some, is_some}
use Rattle.std.specs.List.{list_any}
use Rattle.std.specs.Set.{is_member}
use Rattle.std.specs.Ordering.{nat_cmp, eq_by_cmp}
use Rattle.std.specs.Cmp.Lexicographic.{slice_cmp}
use Rattle.aria_page.specs.declared.lsn.Lsn.{Lsn}
use Rattle.aria_page.specs.declared.place.Part.{Part}
use Rattle.aria_page.specs.declared.place.Part.TheVariants.{Keys, Rows}
use Rattle.aria_host.specs.declared.file_name.FileName.{FileName}
use Rattle.aria_host.specs.declared.file_name.FileName.TheVariants as files
use Rattle.aria_host.specs.Folder.{Folder, is_log, same_file}
use Rattle.aria_host.specs.Moments.{SameBut, Left, Moments}
use Rattle.aria_host.specs.Seen.{page_or_zero}
use Rattle.aria_host.specs.State.{State}
use Rattle.aria_host.proofs.Moments.{one_after, implied, weakened}
use Rattle.aria_value.specs.Named.{same_name}
use Rattle.aria_record.specs.declared.record.Record.{Record}
use Rattle.aria_record.specs.Logged.{Logged}
use Rattle.aria_log.specs.declared.log.Log.{Log as LogValue}
use Rattle.aria_log.specs.Groups.{placed, groups_bytes, groups_from}
use Rattle.aria_log.specs.Log.{IsLog, HoldsAll, LogMoments, place}
use Rattle.aria_log.specs.Pieces.{log_files}
use Rattle.aria_log.proofs.Images.{no_bytes}
use Rattle.aria_recovery.specs.Redo.{Content, seen}
use Rattle.aria_recovery.specs.Tables.{Agrees, Maker, IsCurrent, life_of, file, is_from}
use Rattle.aria_recovery.specs.Noted.{told_of, told_at, life_at, is_of}
use Rattle.aria_recovery.specs.Analysed.{Has}
use Rattle.aria_recovery.specs.declared.analysis.Analysis.{Analysis}
use Rattle.aria_recovery.specs.declared.life.Life.{Life as LifeValue}
use Rattle.aria_recovery.proofs.Agreeing.{agrees_on}
use Rattle.aria_recovery.proofs.Stepping.{tables_same}
use Rattle.aria_pager.specs.Settled.{IsFound, IsSettled}
use Rattle.aria_pager.specs.Entered.{AreListed}
use Rattle.aria_pager.specs.Turns.{is_aside, KeepsAside}
use Rattle.aria_pager.proofs.Forgetting.{by_order}
use Rattle.aria_pager.specs.Prepared.{is_table_file, AreAllListed, may_change, KeepsTables, HasTables, HasFiles, IsSettledBy, IsSettledName}
use Rattle.aria_pager.proofs.Fronting.{named_same}
use Rattle.aria_pager.proofs.Preparing.{images_agree}

file_no_log : (name : List ℕ) (part : Part) → is_log (file name part) ≡ false
file_no_log name Keys = refl
file_no_log name Rows = refl

-- the log's files may change
log_mine : (groups : List Logged) (d c : Folder) → SameBut is_log d c → SameBut (may_change groups) d c
log_mine groups d c same files.Control other = same files.Control refl
log_mine groups d c same (files.Log n) other = absurd (let e : true ≡ false = other in (cc))
log_mine groups d c same (files.Keys name) other = same (files.Keys name) refl
log_mine groups d c same (files.Rows name) other = same (files.Rows name) refl
log_mine groups d c same (files.NewKeys name) other = same (files.NewKeys name) refl
log_mine groups d c same (files.NewRows name) other = same (files.NewRows name) refl

-- the same tables' files come to the same tables
agrees_files : (groups : List Logged) (d c : Folder) → ((name : List ℕ) (part : Part) → c (file name part) ≡ d (file name part)) → Agrees groups (length groups) d c
agrees_files groups d c same = record { tables = λ m from within name. sym (tables_same d c (take m groups) name (same name)) }

module _ (log : LogValue) (old new : State) (base : ℕ) (groups : List Logged) (is : IsFound log old base groups) (keeps : LogMoments old new (HoldsAll base groups)) where
  -- what an image before has, the folder had
  files_of : (d c : Folder) → old.may_leave d → SameBut is_log d c → (name : List ℕ) (part : Part) → c (file name part) ≡ old.folder (file name part)
  files_of d c left same name part = same (file name part) (file_no_log name part) ∙ is.tables d left name part

  files_now : (name : List ℕ) (part : Part) → new.folder (file name part) ≡ old.folder (file name part)
  files_now name part = keeps.others.folder (file name part) (file_no_log name part)

  files_left : (c : Folder) → new.may_leave c → (name : List ℕ) (part : Part) → c (file name part) ≡ old.folder (file name part)
  files_left c left = let (d, was, same) = keeps.others.images c left in files_of d c was same

  pub start_keeps : Moments (may_change groups) old new (KeepsTables base groups old.folder)
  start_keeps = record {
    moments = weakened old new (Left is_log old (λ c. HoldsAll base groups (log_files c))) (Left (may_change groups) old (KeepsTables base groups old.folder)) keeps.moments (λ c told left.
        let (d, was, same) = left.others in
        record {
          has = record {
            log = record { end = left.has.end; holds = left.has.holds; sound = left.has.sound; named = named_same base d c (same files.Control refl) (is.control d was) };
            agrees = agrees_files groups old.folder c (files_of d c was same);
          };
          others = (d, was, log_mine groups d c same);
          told_is = left.told_is;
        });
    others = record {
      folder = log_mine groups old.folder new.folder keeps.others.folder;
      images = λ c left. let (d, was, same) = keeps.others.images c left in (d, was, log_mine groups d c same);
      out = keeps.others.out;
      err = keeps.others.err;
    };
  }

  pub start_files : HasFiles new
  start_files c left name part = files_left c left name part ∙ sym (files_now name part)

  pub start_agrees : Agrees groups (length groups) old.folder new.folder
  start_agrees = agrees_files groups old.folder new.folder files_now

  pub start_tables : (log' : LogValue) → IsLog log' new base groups (length groups) → HasTables log' new base old.folder groups
  start_tables log' started = record {
    log = started;
    images = λ c left. images_agree groups new.folder c (agrees_files groups new.folder c (start_files c left));
    control = λ c left. let (d, was, same) = keeps.others.images c left in named_same base d c (same files.Control refl) (is.control d was);
    raises = λ c left name part n. inl (ap (λ (content : Content). seen (page_or_zero n content)) (files_left c left name part));
  }

-- ---- nothing is to be forced

none_fresh : (place : ℕ) (fresh : List (List Record)) → length (placed place fresh) ≡ 0 → fresh ≡ []
none_fresh place [] none = refl
none_fresh place (g ∷ gs) none = absurd (omega (arith, none))

none_held : (front held : List ℕ) → front ++ held ≡ [] → length held ≡ 0
none_held [] [] is = refl
none_held [] (b ∷ held) is = absurd (cc)
none_held (b ∷ front) held is = absurd (cc)

-- a log that is all on the disk has nothing in the page that is filled
pub started_idle : (log : LogValue) (s : State) (base : ℕ) (groups : List Logged) → IsLog log s base groups (length groups) → log.used ≡ 0
started_idle log s base groups is = is.at.fills.used_is ∙ none_held _ is.at.held (is.at.text_is ∙ ap groups_bytes none ∙ sym no_bytes)
  where
    from : ℕ
    from = 8176 * (base / 8176 + length is.whole)

    none : is.fresh ≡ []
    none = none_fresh from is.fresh (omega (arith, ap (λ (l : List Logged). length l) is.groups_are, length-append (groups_from base is.whole) (placed from is.fresh), is.forced_are))

-- ---- the tables' files are settled

-- one run of settling after another
pub keeps_on : (a b c : State) (base : ℕ) (groups : List Logged) → Moments (may_change groups) a b (KeepsTables base groups a.folder) → Agrees groups (length groups) a.folder b.folder → Moments (may_change groups) b c (KeepsTables base groups b.folder)
    → Moments (may_change groups) a c (KeepsTables base groups a.folder)
keeps_on a b c base groups first agrees next = one_after a b c first (implied b c next (λ f keeps. record { log = keeps.log; agrees = agrees_on groups (length groups) a.folder b.folder f agrees keeps.agrees }))

-- something is told of a name whose files are made or dropped
told_there : (o : Option LifeValue) (last : Option Maker) → told_at o ≡ told_of (Some last) → is_some o ≡ true
told_there None None is = absurd (cc)
told_there None (Some m) is = absurd (cc)
told_there (Some l) last is = refl

-- such a name is among those that the groups tell of
told_known : (checkpoint : Lsn) (analysis : Analysis) (groups : List Logged) (names : List (List ℕ)) → Has checkpoint analysis groups → ((q : List ℕ) → is_member (eq_by_cmp (slice_cmp nat_cmp)) names q ≡ list_any (is_of q) groups)
    → (name : List ℕ) (last : Option Maker) → (life_of name groups).last ≡ Some last → list_any (same_name name) names ≡ true
told_known checkpoint analysis groups names has all name last is =
    sym (λ i. list_any (λ x. by_order name x i) names) ∙ all name ∙ sym (has.lives.names name) ∙ told_there (life_at analysis.lives name) last (has.lives.told name ∙ ap told_of is)

-- all names are settled where those are that the groups tell of
all_settled : (checkpoint : Lsn) (analysis : Analysis) (groups : List Logged) (names : List (List ℕ)) (folder : Folder) → Has checkpoint analysis groups → ((q : List ℕ) → is_member (eq_by_cmp (slice_cmp nat_cmp)) names q ≡ list_any (is_of q) groups)
    → ((name : List ℕ) → list_any (same_name name) names ≡ true → IsSettledName name groups folder) → (name : List ℕ) → IsSettledName name groups folder
all_settled checkpoint analysis groups names folder has all each name = by (life_of name groups).last refl
  where
    by : (last : Option (Option Maker)) → (life_of name groups).last ≡ last → IsSettledName name groups folder
    by None is = λ part. subst (λ (o : Option (Option Maker)). IsSettledBy o (folder (file name part))) (sym is) tt
    by (Some last) is = each name (told_known checkpoint analysis groups names has all name last is)

-- THE FILES ARE SETTLED
pub settled_all : (log : LogValue) (s : State) (base : ℕ) (start : Folder) (groups : List Logged) (checkpoint : Lsn) (analysis : Analysis) (names : List (List ℕ)) → Has checkpoint analysis groups
    → ((q : List ℕ) → is_member (eq_by_cmp (slice_cmp nat_cmp)) names q ≡ list_any (is_of q) groups) → HasTables log s base start groups → HasFiles s → ((name : List ℕ) → list_any (same_name name) names ≡ true → IsSettledName name groups s.folder)
    → IsSettled log s base start groups
settled_all log s base start groups checkpoint analysis names has all is files each = record {
  log = is.log;
  idle = started_idle log s base groups is.log;
  names = λ c left name part. ap is_some (files c left name part);
  control = is.control;
  agrees = λ c left. (is.images c left).agrees;
  made = λ name m last c left part. subst (λ (o : Option (Option Maker)). IsCurrent o (c (file name part))) (sym last)
      (ap (is_from m.at) (files c left name part) ∙ subst (λ (o : Option (Option Maker)). IsSettledBy o (s.folder (file name part))) last (settled name part));
  gone = λ name last part. subst (λ (o : Option (Option Maker)). IsSettledBy o (s.folder (file name part))) last (settled name part);
  raises = is.raises;
}
  where
    settled : (name : List ℕ) → IsSettledName name groups s.folder
    settled = all_settled checkpoint analysis groups names s.folder has all each

-- The files of tables of which nothing is told stay, and so they are listed as they are.
pub still_listed : (names : List FileName) (old new : Folder) (groups : List Logged) → AreAllListed names old → SameBut (may_change groups) old new → AreListed names new groups
still_listed names old new groups listed same name last = listed (files.Keys name) refl ∙ ap is_some (sym (same (files.Keys name) (ap is_some last)))

-- each file that a repair has left is gone
pub all_cleared : (names : List FileName) (old mid new : Folder) → AreAllListed names old → ((f : FileName) → is_aside f ≡ true → list_any (same_file f) names ≡ true → mid f ≡ None) → ((f : FileName) → list_any (same_file f) names ≡ false → mid f ≡ old f) → KeepsAside mid new
    → (f : FileName) → is_aside f ≡ true → new f ≡ None
all_cleared names old mid new listed gone others keeps f aside = keeps f aside ∙ by (list_any (same_file f) names) refl
  where
    aside_table : (g : FileName) → is_aside g ≡ true → is_table_file g ≡ true
    aside_table files.Control on = absurd (let e : false ≡ true = on in (cc))
    aside_table (files.Log n) on = absurd (let e : false ≡ true = on in (cc))
    aside_table (files.Keys name) on = absurd (let e : false ≡ true = on in (cc))
    aside_table (files.Rows name) on = absurd (let e : false ≡ true = on in (cc))
    aside_table (files.NewKeys name) on = refl
    aside_table (files.NewRows name) on = refl

    absent : (o : Content) → is_some o ≡ false → o ≡ None
    absent None off = refl
    absent (Some pages) off = absurd (let e : true ≡ false = off in (cc))

    by : (b : Bool) → list_any (same_file f) names ≡ b → mid f ≡ None
    by true is = gone f aside is
    by false is = others f is ∙ absent (old f) (sym (listed f (aside_table f aside)) ∙ is)

-- the files of tables are listed still once the log is started
pub listed_on : (names : List FileName) (old new : Folder) → AreAllListed names old → SameBut is_log old new → AreAllListed names new
listed_on names old new listed same f on = listed f on ∙ ap is_some (sym (same f (by f on)))
  where
    by : (g : FileName) → is_table_file g ≡ true → is_log g ≡ false
    by files.Control is = refl
    by (files.Log n) is = absurd (let e : false ≡ true = is in (cc))
    by (files.Keys name) is = refl
    by (files.Rows name) is = refl
    by (files.NewKeys name) is = refl
    by (files.NewRows name) is = refl

pub and_false : (a b : Bool) → b ≡ false → (a && b) ≡ false
and_false true b off = off
and_false false b off = refl
