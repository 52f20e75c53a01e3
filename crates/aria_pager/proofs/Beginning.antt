-- The control file of a fresh folder is made.
use Rattle.std.proofs.Common.{◌≡◌, ◌∙◌, inl, inr, ℕ, Bool, true, false, List, [], ◌++◌, ap, sym, refl, subst, Option, None, Some}
use Rattle.std.specs.Prelude.{is_some}
use Rattle.std.proofs.Math.Seq.{take-nil}
use Rattle.std.proofs.lemmas.List.{append-nil}
use Rattle.std.specs.Option.{option_map}
use Rattle.aria_host.specs.Calls.{HaveNames, Narrows}
use Rattle.aria_host.specs.declared.file_name.FileName.{FileName}
use Rattle.aria_host.specs.declared.file_name.FileName.TheVariants.{Control, Log, Keys, Rows, NewKeys, NewRows}
use Rattle.aria_host.specs.Folder.{Folder, IsFileName, same_file, put_page}
use Rattle.aria_host.specs.Moments.{SameBut, Left}
use Rattle.aria_host.specs.State.{State, LeavesOnly}
use Rattle.aria_host.proofs.Files.{with_file-same, with_file-other}
use Rattle.aria_host.proofs.Moments.{OnlyNow, started, goes_on, joined, weakened}
use Rattle.aria_control.specs.ControlPage.{control_page}
use Rattle.aria_control.specs.Found.{control_file, is_control}
use Rattle.aria_control.specs.Written.{MayPut, AtControl, Puts}
use Rattle.aria_pager.specs.Found.{IsFresh, no_control, IsBegun, HaveBegun, IsDurable, BeginsControl, AtBegin, Begins}

-- ---- files

-- each other file
pub other_file : (f : FileName) → is_control f ≡ false → same_file control_file f ≡ false
other_file Control other = absurd (cc)
other_file (Log n) other = refl
other_file (Keys name) other = refl
other_file (Rows name) other = refl
other_file (NewKeys name) other = refl
other_file (NewRows name) other = refl

-- a file that isn't there has no image
pub none_durable : (s : State) (f : FileName) → IsFileName f → HaveNames s → s.folder f ≡ None → IsDurable f s
none_durable s f form names none c leaves = by (c f) (names c leaves f form ∙ ap is_some none) ∙ sym none
  where
    by : (o : Option (List (List ℕ))) → is_some o ≡ false → o ≡ None
    by None e = refl
    by (Some pages) e = absurd (let no' : true ≡ false = e in (cc))

-- ---- the page is put

module _ (page : List ℕ) (d c : Folder) where
  put_others : MayPut page d c → SameBut is_control d c
  put_others (inl same) f other = ap (λ (g : Folder). g f) same
  put_others (inr put) f other = ap (λ (g : Folder). g f) put ∙ with_file-other control_file f (option_map (put_page 0 page) (d control_file)) d (other_file f other)

put_begun : (o : Option (List (List ℕ))) → IsBegun o → IsBegun (option_map (put_page 0 (control_page no_control)) o)
unfolding put_page
put_begun o (inl (inl none)) = inl (inl (ap (option_map (put_page 0 (control_page no_control))) none))
put_begun o (inl (inr (inl empty))) = inr (ap (option_map (put_page 0 (control_page no_control))) empty)
put_begun o (inl (inr (inr zeros))) = inr (ap (option_map (put_page 0 (control_page no_control))) zeros)
put_begun o (inr begun) = inr (ap (option_map (put_page 0 (control_page no_control))) begun)

begun_put : (d c : Folder) → IsBegun (d control_file) → MayPut (control_page no_control) d c → IsBegun (c control_file)
begun_put d c begun (inl same) = subst (λ (g : Folder). IsBegun (g control_file)) (sym same) begun
begun_put d c begun (inr put) =
    subst IsBegun (sym (ap (λ (g : Folder). g control_file) put ∙ with_file-same control_file (option_map (put_page 0 (control_page no_control)) (d control_file)) d)) (put_begun (d control_file) begun)

-- THE PAGE IS PUT, or it may be
pub put_moments : (old new : State) (page : List ℕ) (done : Bool) → page ≡ control_page no_control → HaveBegun old → LeavesOnly old new (AtControl page old) → Puts page old new done → BeginsControl old new
put_moments old new page done is begun moments puts = record {
  moments = weakened old new (AtControl page old) (Left is_control old (λ c. IsBegun (c control_file))) moments (λ c told at.
      let (d, was, put) = at.image in
      record { has = here d c was put; others = (d, was, put_others page d c put); told_is = at.told_is });
  others = record {
    folder = put_others page old.folder new.folder puts.either;
    images = λ c leaves. let (d, was, put) = puts.images c leaves in (d, was, put_others page d c put);
    out = puts.out;
    err = puts.err;
  };
}
  where
    here : (d c : Folder) → old.may_leave d → MayPut page d c → IsBegun (c control_file)
    here d c was put = begun_put d c (begun d was) (subst (λ (p : List ℕ). MayPut p d c) is put)

-- ---- the whole call

-- a control file that is on the disk, and blank
pub durable_begun : (s : State) → IsFresh s.folder → IsDurable control_file s → HaveBegun s
durable_begun s (inl blank) durable c leaves = subst IsBegun (sym (durable c leaves)) (inl blank.0)
durable_begun s (inr (page, begins, never)) durable c leaves = absurd never

-- each image is as some moment left it
pub still_begun : (s t : State) → ((c : Folder) → t.may_leave c → t.since s.moment c t.out) → BeginsControl s t → HaveBegun t
still_begun s t counts begins c leaves = (begins.moments.each c t.out (counts c leaves)).has

-- behind calls that only look the control file was begun
pub begins_of : (a b c : State) → OnlyNow a → IsFresh a.folder → Narrows a b → BeginsControl b c → Begins a c
begins_of a b c only fresh first begins = record {
  fresh = fresh;
  moments = joined a b c (AtBegin a) (Left is_control b (λ f. IsBegun (f control_file)))
      (goes_on a a b [] (AtBegin a) (started a (AtBegin a) (λ f told left. let now = only f told left in record { image = (f, now.0, inl refl); told_is = now.1 })) first.tells.time
      (λ f n leaves. record { image = (f, first.no_more f leaves, inl refl); told_is = ap (λ (l : List ℕ). a.out ++ l) (take-nil n) ∙ append-nil a.out }))
      begins.moments
      (λ f told left. let (d, was, same) = left.others in record { image = (d, first.no_more d was, inr (same, left.has)); told_is = left.told_is ∙ first.tells.out });
  others = λ f other. begins.others.folder f other ∙ ap (λ (g : Folder). g f) first.folder;
  out = begins.others.out ∙ first.tells.out;
  err = begins.others.err ∙ first.tells.err;
}
