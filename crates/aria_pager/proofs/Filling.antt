-- The files of a table are made, behind its group.
use Rattle.std.proofs.Common.{rules, ◌≡◌, ◌∙◌, inl, inr, ℕ, ◌<◌, Bool, true, false, List, [], ◌∷◌, ap, sym, refl, subst, None, Some}
use Rattle.std.specs.Prelude.{IsNone, IsSome, is_some}
use Rattle.std.specs.Option.{option_map}
use Rattle.aria_page.specs.Lsn.{lsn_number}
use Rattle.aria_page.specs.Page.{Sums}
use Rattle.aria_page.specs.declared.place.Part.{Part}
use Rattle.aria_page.specs.declared.place.Part.TheVariants.{Keys, Rows}
use Rattle.aria_host.specs.Calls.{Creates, Writes}
use Rattle.aria_host.specs.declared.file_name.FileName.TheVariants.{Log, Control}
use Rattle.aria_host.specs.Folder.{Folder, with_page, put_page}
use Rattle.aria_host.specs.State.{State}
use Rattle.aria_host.specs.Steps.{MayWrite}
use Rattle.aria_host.proofs.Files.{with_file-same, with_file-other, write_others}
use Rattle.aria_host.proofs.Moments.{OnlyNow}
use Rattle.aria_record.specs.Logged.{Logged}
use Rattle.aria_recovery.specs.Redo.{Content, seen, page_number}
use Rattle.aria_recovery.specs.Tables.{Maker, file, is_from, made_page}
use Rattle.aria_recovery.specs.Images.{IsBelow}
use Rattle.aria_recovery.proofs.Creating.{InAll}
use Rattle.aria_recovery.proofs.Imaging.{create_step, first_step}
use Rattle.aria_recovery.proofs.Naming.{names_write, names_page, names_older}
use Rattle.aria_recovery.proofs.Raising.{raises_write}
use Rattle.aria_recovery.proofs.Seeing.{seen_sound}
use Rattle.aria_pager.specs.declared.page_store.PageStore.{PageStore}
use Rattle.aria_pager.specs.PageStore.{opened}
use Rattle.aria_pager.specs.Pager.{next_number}
use Rattle.aria_pager.specs.Filing.{IsMaking, FileSteps}
use Rattle.aria_pager.proofs.Filed.{file_step, make_file_step}
use Rattle.aria_pager.proofs.Removing.{apart_log, apart_control}

module _ (store : PageStore) (s t : State) (base : ℕ) (start : Folder) (groups : List Logged) (name : List ℕ) (maker : Maker) (is : IsMaking store s base start groups name maker) where
  -- a file is made empty, where it isn't there or is older
  pub empty_step : (p : Part) (done : Bool) → OnlyNow s → t.may_leave t.folder → ((c : Folder) → s.may_leave c → is_from maker.at (c (file name p)) ≡ false) → Creates (file name p) s t done → FileSteps store s t base start groups done
  empty_step p done only reads older made = make_file_step store s t base start groups name p (Some []) done (λ n. refl) only reads
      (λ d c left step. create_step (opened store) groups name p s.folder d c (Some []) done maker is.closed is.last (older d left) refl (is.logged.images d left) step) made is.logged

  -- what isn't there as the folder reads is older, in each image
  pub absent_older : (p : Part) → s.folder (file name p) ≡ None → (c : Folder) → s.may_leave c → is_from maker.at (c (file name p)) ≡ false
  absent_older p none c left = names_older s.folder c name p maker.at (is.logged.names c left) none

  below : (p : Part) → page_number (made_page maker p) ≡ lsn_number maker.at → Sums (made_page maker p) → IsBelow (next_number store) (seen (made_page maker p))
  below p number sums = subst (IsBelow (next_number store)) (sym (seen_sound (made_page maker p) (inl sums))) (subst (λ (n : ℕ). n < next_number store) (sym number) is.low)

  -- its first page is written
  pub first_write : (p : Part) (done : Bool) → OnlyNow s → t.may_leave t.folder → InAll s name p (Some []) → page_number (made_page maker p) ≡ lsn_number maker.at → Sums (made_page maker p) → Writes (file name p) 0 (made_page maker p) s t done
      → FileSteps store s t base start groups done
  first_write p done only reads empty number sums wrote = file_step store s t base start groups (MayWrite (file name p) 0 (made_page maker p)) done only reads (record {
    neutral = λ d c left step. first_step (opened store) groups name p s.folder d c maker is.closed is.last (empty d left) (is.logged.images d left) step;
    keeps = λ d c step. ((λ i n. write_others (file name p) (Log n) 0 (made_page maker p) d c (apart_log name p n) step i), write_others (file name p) Control 0 (made_page maker p) d c (apart_control name p) step);
    lower = λ d c step. raises_write (next_number store) name p 0 (made_page maker p) d c (below p number sums) step;
    whole = λ on. inr (inl (wrote.whole on));
    names = λ on d c names step other q. names_write name p 0 (made_page maker p) d c step other q ∙ names other q
        ∙ sym (ap (λ (f : Folder). is_some (f (file other q))) (wrote.whole on) ∙ names_page name p 0 (made_page maker p) s.folder other q);
  }) wrote.images wrote.tells is.logged

-- it goes on behind a step
pub making_on : (store : PageStore) (s t : State) (base : ℕ) (start : Folder) (groups : List Logged) (name : List ℕ) (maker : Maker) → IsMaking store s base start groups name maker → FileSteps store s t base start groups true → IsMaking store t base start groups name maker
making_on store s t base start groups name maker is step = record { logged = step.logged refl; last = is.last; closed = is.closed; low = is.low }

-- a file that isn't there
pub none_is : (o : Content) → o ≡ None → IsNone o
none_is None e = search rules
none_is (Some pages) e = absurd (cc)

pub some_is : (o : Content) (pages : List (List ℕ)) → o ≡ Some pages → IsSome o
some_is None pages e = absurd (cc)
some_is (Some x) pages e = search rules

put_first : (page : List ℕ) → put_page 0 page [] ≡ page ∷ []
unfolding put_page
put_first page = refl

-- an empty file has one page then
pub first_there : (name : List ℕ) (p : Part) (page : List ℕ) (d c : Folder) → d (file name p) ≡ Some [] → c ≡ with_page (file name p) 0 page d → c (file name p) ≡ Some (page ∷ [])
first_there name p page d c empty is = ap (λ (f : Folder). f (file name p)) is ∙ with_file-same (file name p) (option_map (put_page 0 page) (d (file name p))) d ∙ ap (option_map (put_page 0 page)) empty ∙ ap Some (put_first page)

-- the other file stays empty in each image
pub rows_empty : (name page : List ℕ) (s t : State) (done : Bool) → Writes (file name Keys) 0 page s t done → InAll s name Rows (Some []) → InAll t name Rows (Some [])
rows_empty name page s t done wrote empty c left = let to = wrote.images c left in write_others (file name Keys) (file name Rows) 0 page to.0 c refl to.2 ∙ empty to.0 to.1

-- both files have their first pages
pub both_made : (name keys rows : List ℕ) (maker : Maker) (s m t : State) → s.folder (file name Keys) ≡ Some [] → m.folder (file name Rows) ≡ Some [] → keys ≡ made_page maker Keys → rows ≡ made_page maker Rows
    → m.folder ≡ with_page (file name Keys) 0 keys s.folder → t.folder ≡ with_page (file name Rows) 0 rows m.folder → (part : Part) → t.folder (file name part) ≡ Some (made_page maker part ∷ [])
both_made name keys rows maker s m t first second keys_is rows_is one two Keys = ap (λ (f : Folder). f (file name Keys)) two ∙ with_file-other (file name Rows) (file name Keys) (option_map (put_page 0 rows) (m.folder (file name Rows))) m.folder refl
    ∙ first_there name Keys keys s.folder m.folder first one ∙ ap (λ (p : List ℕ). Some (p ∷ [])) keys_is
both_made name keys rows maker s m t first second keys_is rows_is one two Rows = first_there name Rows rows m.folder t.folder second two ∙ ap (λ (p : List ℕ). Some (p ∷ [])) rows_is
