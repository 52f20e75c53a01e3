-- A file of a table is removed, or made anew with its first page.
use Rattle.std.proofs.Common.{rules, ◌≡◌, ◌∙◌, ◌⊎◌, inl, inr, ℕ, Bool, true, false, cond, nat_le, nat_lt, List, [], length, ap, sym, refl, subst, arith, Option, None, Some, Result, Ok, Err}
use Rattle.std.specs.Prelude.{OnOk, IsSome, is_some, not, option_and_then, slice_get}
use Rattle.std.specs.Option.{option_map, option_map_or}
use Rattle.std.proofs.lemmas.Bool.{cases_Bool}
use Rattle.std.proofs.lemmas.Bool.Decides.{nat_tests}
use Rattle.aria_page.specs.Lsn.{lsn_number}
use Rattle.aria_page.specs.Page.{zero_page, page_lsn}
use Rattle.aria_page.specs.declared.lsn.Lsn.{Lsn}
use Rattle.aria_page.specs.declared.place.Part.{Part}
use Rattle.aria_page.specs.declared.place.Part.TheVariants.{Keys, Rows}
use Rattle.aria_host.specs.declared.file_name.FileName.{FileName}
use Rattle.aria_host.specs.declared.file_name.FileName.TheVariants as files
use Rattle.aria_host.specs.Calls.{Changes, Narrows, Removes, Creates, Writes, Syncs}
use Rattle.aria_host.specs.Folder.{Folder, put_page, same_file, with_file}
use Rattle.aria_host.specs.Seen.{page_or_zero}
use Rattle.aria_host.specs.State.{State}
use Rattle.aria_host.specs.Steps.{MayMake, MayWrite}
use Rattle.aria_host.proofs.Files.{same_file-true, make_others, write_others, with_file-same, with_file-other, set_others}
use Rattle.aria_host.proofs.Moments.{OnlyNow}
use Rattle.aria_record.specs.Logged.{Logged}
use Rattle.aria_log.specs.declared.log.Log.{Log as LogValue}
use Rattle.aria_log.specs.Log.{place}
use Rattle.aria_recovery.specs.Redo.{Content, number_at, page_number, seen}
use Rattle.aria_recovery.specs.Tables.{Maker, life_of, is_from, file, Agrees}
use Rattle.aria_recovery.specs.Images.{IsBelow, Raises, page_of}
use Rattle.aria_recovery.proofs.Agreeing.{agrees_self}
use Rattle.aria_recovery.proofs.Imaging.{create_step, dropped_step, first_step}
use Rattle.aria_recovery.proofs.Naming.{names_write}
use Rattle.aria_recovery.proofs.Raising.{raises_none, raises_write}
use Rattle.aria_recovery.proofs.Seeing.{seen_zero}
use Rattle.aria_pager.specs.Prepared.{none_open, is_table_file, may_change, HasTables, HasFiles, Prepares, IsFree, IsFirst}
use Rattle.aria_pager.proofs.Preparing.{prepares_call, prepares_look, prepares_on, images_agree}
use Rattle.aria_pager.proofs.Removing.{apart_log}

-- ---- files apart

table_no_log : (f : FileName) → is_table_file f ≡ true → (n : ℕ) → same_file f (files.Log n) ≡ false
table_no_log files.Control is n = refl
table_no_log (files.Log m) is n = absurd (let e : false ≡ true = is in (cc))
table_no_log (files.Keys name) is n = refl
table_no_log (files.Rows name) is n = refl
table_no_log (files.NewKeys name) is n = refl
table_no_log (files.NewRows name) is n = refl

pub apart_mine : (groups : List Logged) (f g : FileName) → may_change groups f ≡ true → may_change groups g ≡ false → same_file f g ≡ false
apart_mine groups f g on off = elim (cases_Bool (same_file f g)) [
  | inl same ↦ absurd (let e : true ≡ false = sym on ∙ ap (may_change groups) (same_file-true f g same) ∙ off in (cc))
  | inr apart ↦ apart
]

pub file_changes : (groups : List Logged) (name : List ℕ) (p : Part) → is_some (life_of name groups).last ≡ true → may_change groups (file name p) ≡ true
file_changes groups name Keys on = on
file_changes groups name Rows on = on

pub file_is_table : (name : List ℕ) (p : Part) → is_table_file (file name p) ≡ true
file_is_table name Keys = refl
file_is_table name Rows = refl

zero_low : (n : ℕ) → IsBelow (number_at n) (seen zero_page)
zero_low n = subst (IsBelow (number_at n)) (sym seen_zero) (omega arith)

made_lower : (bound : ℕ) (f : FileName) (content : Content) (done : Bool) (d c : Folder) → IsBelow bound (seen zero_page) → ((n : ℕ) → page_or_zero n content ≡ zero_page) → MayMake f content done d c → Raises bound d c
made_lower bound f content done d c low empty (inr (failed, same)) = subst (Raises bound d) (sym same) (raises_none bound d)
made_lower bound f content done d c low empty (inl same) = subst (Raises bound d) (sym same) (λ name part n. by name part n (same_file f (file name part)))
  where
    by : (name : List ℕ) (part : Part) (n : ℕ) (b : Bool) → (seen (page_or_zero n (cond b content (d (file name part)))) ≡ page_of d name part n) ⊎ IsBelow bound (seen (page_or_zero n (cond b content (d (file name part)))))
    by name part n true = inr (subst (λ (q : List ℕ). IsBelow bound (seen q)) (sym (empty n)) low)
    by name part n false = inl refl

-- ---- one call

module _ (log : LogValue) (s t : State) (base : ℕ) (start : Folder) (groups : List Logged) where
  -- A FILE IS MADE EMPTY, OR REMOVED
  pub make_prepares : (f : FileName) (content : Content) (done : Bool) → may_change groups f ≡ true → is_table_file f ≡ true → ((n : ℕ) → page_or_zero n content ≡ zero_page) → OnlyNow s → t.may_leave t.folder
      → ((c : Folder) → s.may_leave c → Agrees groups (length groups) c (with_file f content c)) → Changes (with_file f content) (MayMake f content done) s t done → HasTables log s base start groups → Prepares log s t base start groups
  make_prepares f content done mine table empty only now agrees made is = prepares_call log s t base start groups (MayMake f content done) only now (record {
    agrees = λ d c left step. by d c left step;
    logs = λ d c step. (λ i n. make_others f (files.Log n) content done d c (table_no_log f table n) step i);
    others = λ d c step g off. make_others f g content done d c (apart_mine groups f g mine off) step;
    lower = λ d c step. made_lower (number_at (place log)) f content done d c (zero_low (place log)) empty step;
  }) (λ i n. set_others f (files.Log n) content s.folder t.folder (table_no_log f table n) made.either i) (λ g off. set_others f g content s.folder t.folder (apart_mine groups f g mine off) made.either) made.images made.tells is
    where
      by : (d c : Folder) → s.may_leave d → MayMake f content done d c → Agrees groups (length groups) d c
      by d c left (inl same) = subst (λ (g : Folder). Agrees groups (length groups) d g) (sym same) (agrees d left)
      by d c left (inr (failed, same)) = subst (λ (g : Folder). Agrees groups (length groups) d g) (sym same) (agrees_self groups (length groups) d)

  -- its first page is written
  pub first_prepares : (name : List ℕ) (p : Part) (maker : Maker) (page : List ℕ) (done : Bool) → IsFirst name p groups maker page (number_at (place log)) → OnlyNow s → t.may_leave t.folder
      → ((c : Folder) → s.may_leave c → c (file name p) ≡ Some []) → Writes (file name p) 0 page s t done → HasTables log s base start groups → Prepares log s t base start groups
  first_prepares name p maker page done first only now empty wrote is = prepares_call log s t base start groups (MayWrite (file name p) 0 page) only now (record {
    agrees = λ d c left step. (first_step none_open groups name p s.folder d c maker refl first.last (empty d left) (is.images d left) (subst (λ (q : List ℕ). MayWrite (file name p) 0 q d c) first.page_is step)).agrees;
    logs = λ d c step. (λ i n. write_others (file name p) (files.Log n) 0 page d c (apart_log name p n) step i);
    others = λ d c step g off. write_others (file name p) g 0 page d c (apart_mine groups (file name p) g mine off) step;
    lower = λ d c step. raises_write (number_at (place log)) name p 0 page d c first.low step;
  }) (λ i n. set_others (file name p) (files.Log n) (option_map (put_page 0 page) (s.folder (file name p))) s.folder t.folder (apart_log name p n) wrote.either i)
      (λ g off. set_others (file name p) g (option_map (put_page 0 page) (s.folder (file name p))) s.folder t.folder (apart_mine groups (file name p) g mine off) wrote.either) wrote.images wrote.tells is
    where
      mine : may_change groups (file name p) ≡ true
      mine = file_changes groups name p (ap is_some first.last)

-- ---- each image has the files as they read

pub files_look : (s t : State) → Narrows s t → HasFiles s → HasFiles t
files_look s t same is c leaves name part = is c (same.no_more c leaves) name part ∙ sym (ap (λ (f : Folder). f (file name part)) same.folder)

pub files_made : (f : FileName) (content : Content) (s t : State) → Changes (with_file f content) (MayMake f content true) s t true → HasFiles s → HasFiles t
files_made f content s t made is c leaves name part = let to = made.images c leaves in by to.0 (is to.0 to.1 name part) to.2
  where
    both : (b : Bool) (x y : Content) → x ≡ y → cond b content x ≡ cond b content y
    both true x y e = refl
    both false x y e = e

    by : (d : Folder) → d (file name part) ≡ s.folder (file name part) → MayMake f content true d c → c (file name part) ≡ t.folder (file name part)
    by d same (inr (failed, e)) = absurd (cc)
    by d same (inl e) = ap (λ (g : Folder). g (file name part)) e ∙ both (same_file f (file name part)) (d (file name part)) (s.folder (file name part)) same ∙ sym (ap (λ (g : Folder). g (file name part)) (made.whole (cc)))

there_some : (o : Content) → is_some o ≡ true → IsSome o
there_some None e = absurd (let f : false ≡ true = e in (cc))
there_some (Some pages) e = search rules

-- a first page was written and synced
pub files_first : (name page : List ℕ) (p : Part) (s t u : State) → HasFiles s → s.folder (file name p) ≡ Some [] → Writes (file name p) 0 page s t true → Syncs (file name p) t u true → HasFiles u
files_first name page p s t u is empty wrote synced c leaves other part = by (same_file (file name p) (file other part)) refl
  where
    back : (d : Folder) × s.may_leave d × MayWrite (file name p) 0 page d c
    back = wrote.images c (synced.no_more c leaves)

    by : (b : Bool) → same_file (file name p) (file other part) ≡ b → c (file other part) ≡ u.folder (file other part)
    by false off = write_others (file name p) (file other part) 0 page back.0 c off back.2 ∙ is back.0 back.1 other part
        ∙ sym (ap (λ (f : Folder). f (file other part)) (synced.folder ∙ wrote.whole (cc)) ∙ with_file-other (file name p) (file other part) (option_map (put_page 0 page) (s.folder (file name p))) s.folder off)
    by true on = subst (λ (f : FileName). c f ≡ u.folder f) (same_file-true (file name p) (file other part) on)
        (synced.durable (cc) c leaves (there_some (c (file name p)) (names_write name p 0 page back.0 c back.2 name p ∙ ap is_some (is back.0 back.1 name p ∙ empty))) ∙ sym (ap (λ (f : Folder). f (file name p)) synced.folder))

-- ---- what callers know of the tables

-- a file that isn't as new as its table may be made empty, or removed
pub older_agrees : (s : State) (groups : List Logged) (name : List ℕ) (p : Part) (maker : Maker) (content : Content) → (life_of name groups).last ≡ Some (Some maker) → is_from maker.at (s.folder (file name p)) ≡ false → is_from maker.at content ≡ false → HasFiles s
    → (c : Folder) → s.may_leave c → Agrees groups (length groups) c (with_file (file name p) content c)
older_agrees s groups name p maker content last older empty is c leaves =
    (create_step none_open groups name p c c (with_file (file name p) content c) content true maker refl last (ap (is_from maker.at) (is c leaves name p) ∙ older) empty (images_agree groups c c (agrees_self groups (length groups) c)) (inl refl)).agrees

-- an empty file is made where there is none
pub empty_prepares : (log : LogValue) (s a : State) (base : ℕ) (start : Folder) (groups : List Logged) (name : List ℕ) (p : Part) (maker : Maker) (page : List ℕ) (done : Bool) → IsFirst name p groups maker page (number_at (place log)) → OnlyNow s → a.may_leave a.folder
    → s.folder (file name p) ≡ None → HasFiles s → Creates (file name p) s a done → HasTables log s base start groups → Prepares log s a base start groups
empty_prepares log s a base start groups name p maker page done first only now absent is made tables =
    make_prepares log s a base start groups (file name p) (Some []) done (file_changes groups name p (ap is_some first.last)) (file_is_table name p) (λ n. refl) only now
    (older_agrees s groups name p maker (Some []) first.last (ap (is_from maker.at) absent) refl is) made tables

-- it is there then, as each image has it
pub empty_there : (s a : State) (name : List ℕ) (p : Part) → Creates (file name p) s a true → a.folder (file name p) ≡ Some []
empty_there s a name p made = ap (λ (f : Folder). f (file name p)) (made.whole (cc)) ∙ with_file-same (file name p) (Some []) s.folder

-- its first page is written, too
pub written_prepares : (log : LogValue) (s a b : State) (base : ℕ) (start : Folder) (groups : List Logged) (name : List ℕ) (p : Part) (maker : Maker) (page : List ℕ) (done : Bool) → IsFirst name p groups maker page (number_at (place log)) → OnlyNow s → OnlyNow a
    → a.may_leave a.folder → b.may_leave b.folder → s.folder (file name p) ≡ None → HasFiles s → Creates (file name p) s a true → Writes (file name p) 0 page a b done → HasTables log s base start groups → Prepares log s b base start groups
written_prepares log s a b base start groups name p maker page done first only only' now now' absent is made wrote tables =
    let one = empty_prepares log s a base start groups name p maker page true first only now absent is made tables in
    prepares_on log s a b base start groups one (first_prepares log a b base start groups name p maker page done first only' now'
    (λ c leaves. files_made (file name p) (Some []) s a made is c leaves name p ∙ empty_there s a name p made) wrote one.tables)

-- a look at a host that leaves what a file may become
pub free_look : (f : FileName) (s t : State) (groups : List Logged) → Narrows s t → IsFree f s groups → IsFree f t groups
free_look f s t groups same is = record { mine = is.mine; table = is.table; agrees = λ c leaves. is.agrees c (same.no_more c leaves) }

-- a file that may be removed is removed
pub free_prepares : (log : LogValue) (s m t : State) (base : ℕ) (start : Folder) (groups : List Logged) (f : FileName) (done : Bool) → OnlyNow s → OnlyNow m → m.may_leave m.folder → t.may_leave t.folder → Narrows s m → IsFree f s groups → Removes f m t done
    → HasTables log s base start groups → Prepares log s t base start groups
free_prepares log s m t base start groups f done only only' now now' same free gone is =
    let first = prepares_look log s m base start groups only now same is in
    prepares_on log s m t base start groups first (make_prepares log m t base start groups f None done free.mine free.table (λ n. refl) only' now' (free_look f s m groups same free).agrees gone first.tables)

-- what is found of a first page
pub from_page : (at : Lsn) (content : Content) (page : List ℕ) (lsn : Lsn) (before : Bool) → option_and_then (λ (pages : List (List ℕ)). slice_get pages 0) content ≡ Some page → lsn ≡ page_lsn page → before ≡ nat_lt (lsn_number lsn) (lsn_number at)
    → not before ≡ is_from at content
unfolding page_number
from_page at content page lsn before there lsn_is before_is =
    ap not (before_is ∙ ap (λ (l : Lsn). nat_lt (lsn_number l) (lsn_number at)) lsn_is) ∙ tests (lsn_number (page_lsn page)) (lsn_number at)
    ∙ sym (ap (λ (o : Option (List ℕ)). option_map_or (λ (p : List ℕ). nat_le (lsn_number at) (lsn_number (page_lsn p))) o false) there)
  where
    tests : (a b : ℕ) → not (nat_lt a b) ≡ nat_le b a
    tests a b = grind (arith, nat_tests)

-- one of a table that was dropped may be removed
pub dropped_free : (s : State) (groups : List Logged) (name : List ℕ) (p : Part) → (life_of name groups).last ≡ Some None → IsFree (file name p) s groups
dropped_free s groups name p last = record {
  mine = file_changes groups name p (ap is_some last);
  table = file_is_table name p;
  agrees = λ c leaves. (dropped_step none_open groups name p c None true refl last c (with_file (file name p) None c) (images_agree groups c c (agrees_self groups (length groups) c)) (inl refl)).agrees;
}

-- and one that is older than its table
pub made_free : (s m : State) (groups : List Logged) (name : List ℕ) (p : Part) (maker : Maker) → (life_of name groups).last ≡ Some (Some maker) → Narrows s m → is_from maker.at (s.folder (file name p)) ≡ false → HasFiles s → IsFree (file name p) m groups
made_free s m groups name p maker last same older is = free_look (file name p) s m groups same (record {
  mine = file_changes groups name p (ap is_some last);
  table = file_is_table name p;
  agrees = older_agrees s groups name p maker None last older refl is;
})

-- both files were settled, one after the other
pub both_from : {E : Type 0} (r : Result (Unit {0}) E) (at : Lsn) (name : List ℕ) (m t : Folder) → is_from at (m (file name Keys)) ≡ true → t (file name Keys) ≡ m (file name Keys) → OnOk r (is_from at (t (file name Rows)) ≡ true)
    → OnOk r ((part : Part) → is_from at (t (file name part)) ≡ true)
both_from (Err e) at name m t first same second = tt
both_from (Ok u) at name m t first same second = by
  where
    by : (part : Part) → is_from at (t (file name part)) ≡ true
    by Keys = ap (is_from at) same ∙ first
    by Rows = second
