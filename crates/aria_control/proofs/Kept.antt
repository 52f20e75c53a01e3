-- What stands in the control file, before and after its page is put.
use Rattle.std.proofs.Common.{◌≡◌, inl, inr, ℕ, ◌-◌, Option, None, Some, List, [], ◌∷◌, ◌++◌, length, drop, take, replicate, refl, sym, ◌∙◌, ap, subst, arith, rules}
use Rattle.std.specs.Prelude.{IsSome, slice_get, option_and_then}
use Rattle.std.specs.Option.{option_map, option_map_or}
use Rattle.std.proofs.lemmas.Option.{same_Some}
use Rattle.aria_page.specs.Page.{zero_page, Sums}
use Rattle.aria_host.specs.Folder.{Folder, put_page, with_page}
use Rattle.aria_host.specs.State.{State}
use Rattle.aria_host.specs.Steps.{Follows, MayWrite}
use Rattle.aria_host.proofs.Files.{with_file-same}
use Rattle.aria_control.specs.declared.control.Control.{Control}
use Rattle.aria_control.specs.declared.found.Found.TheVariants.{Kept}
use Rattle.aria_control.specs.ControlPage.{control_page, named_by, HasMagic, IsStorable}
use Rattle.aria_control.specs.Found.{control_file, Begins, BeginsWith, HasPages, IsBlank, Finds}
use Rattle.aria_control.specs.Written.{IsNamed, Keeps}
use Rattle.aria_control.proofs.Spelled.{named_again, magic_there, magic_not_zero}

-- the page that is read at the front is the first one
pub first_page : (content : Option (List (List ℕ))) (page : List ℕ) → option_and_then (λ pages. slice_get pages 0) content ≡ Some page → BeginsWith page content
first_page None page e = absurd (cc)
first_page (Some []) page e = absurd (cc)
first_page (Some (p ∷ more)) page e = (more, ap (λ (q : List ℕ). Some (q ∷ more)) (same_Some p page e))

-- a page put at the front
put_first : (page : List ℕ) (pages : List (List ℕ)) → put_page 0 page pages ≡ page ∷ drop 1 pages
unfolding put_page
put_first page pages =
    let none : 0 - length pages ≡ 0 = omega arith in
    ap (λ (k : ℕ). take 0 pages ++ (replicate k zero_page ++ page ∷ drop 1 pages)) none

-- a file whose first page has the magic isn't blank
not_blank : (page : List ℕ) (content : Option (List (List ℕ))) → HasMagic page → BeginsWith page content → IsBlank content → ⊥
not_blank page content magic (more, is) (inl absent) = let no : None ≡ Some (page ∷ more) = sym absent ∙ is in absurd (cc)
not_blank page content magic (more, is) (inr (inl empty)) = let no : [] ≡ page ∷ more = same_Some [] (page ∷ more) (sym empty ∙ is) in absurd (cc)
not_blank page content magic (more, is) (inr (inr zeros)) =
    let same : page ∷ more ≡ zero_page ∷ [] = same_Some (page ∷ more) (zero_page ∷ []) (sym is ∙ zeros) in
    magic_not_zero page magic (cc)

-- the control is found where the file has its page in front
found_kept : (control : Control) (page : List ℕ) (folder : Folder) → IsStorable control → page ≡ control_page control → Sums page → BeginsWith page (folder control_file) → Finds (Kept control) folder
found_kept control page folder storable is sums first =
    let magic : HasMagic page = subst (λ (l : List ℕ). HasMagic l) (sym is) (magic_there control) in
    inr (page, record { first = first; some = not_blank page (folder control_file) magic first }, (magic, sums, sym (ap named_by is ∙ named_again control storable)))

-- a file in which a page was put begins with it
begins_put : (page : List ℕ) (content : Option (List (List ℕ))) → IsSome content → BeginsWith page (option_map (put_page 0 page) content)
begins_put page None never = absurd (search rules)
begins_put page (Some pages) yes' = (drop 1 pages, ap Some (put_first page pages))

-- the control is found once its page is put on a file that is there
pub put_found : (control : Control) (page : List ℕ) → page ≡ control_page control → Sums page → IsStorable control → (folder : Folder) → IsSome (folder control_file)
    → Finds (Kept control) (with_page control_file 0 (control_page control) folder)
put_found control page is sums storable folder some =
    let put : Folder = with_page control_file 0 (control_page control) folder in
    let now : put control_file ≡ option_map (put_page 0 page) (folder control_file) =
    with_file-same control_file (option_map (put_page 0 (control_page control)) (folder control_file)) folder ∙ ap (λ (l : List ℕ). option_map (put_page 0 l) (folder control_file)) (sym is) in
    found_kept control page put storable is sums (subst (λ (o : Option (List (List ℕ))). BeginsWith page o) (sym now) (begins_put page (folder control_file) some))

-- what is found depends on the control file alone where its page is good
found_same : (control : Control) (a b : Folder) → b control_file ≡ a control_file → Finds (Kept control) a → Finds (Kept control) b
found_same control a b same (inl blank) = absurd blank.1
found_same control a b same (inr (page, begins, says)) = inr (page, subst (λ (o : Option (List (List ℕ))). Begins page o) (sym same) begins, says)

-- the control is found in the folder and in each image once its page was put and synced
pub kept_everywhere : (control : Control) (old new : State) → Finds (Kept control) (with_page control_file 0 (control_page control) old.folder)
    → new.folder ≡ with_page control_file 0 (control_page control) old.folder → ((c : Folder) → new.may_leave c → IsSome (c control_file) → c control_file ≡ new.folder control_file) → Keeps control new
kept_everywhere control old new found folder durable =
    let now : Finds (Kept control) new.folder = subst (λ (g : Folder). Finds (Kept control) g) (sym folder) found in
    record { now = now; images = λ c leaves there. found_same control new.folder c (durable c leaves there) now }

-- a file of no pages is blank
pub none_blank : (content : Option (List (List ℕ))) (n : ℕ) → option_map_or length content 0 ≡ n → n ≡ 0 → IsBlank content
none_blank None n is none = inl refl
none_blank (Some []) n is none = inr (inl refl)
none_blank (Some (p ∷ more)) n is none = absurd (omega (arith, is, none))

-- a file of some pages is there
pub pages_there : (content : Option (List (List ℕ))) (n : ℕ) → option_map_or length content 0 ≡ n → (n ≡ 0 → ⊥) → HasPages n content
pages_there None n is some = absurd (some (sym is))
pages_there (Some pages) n is some = ap Some is

-- each image has the file once a page was written where each had it before
pub still_named : (old new : State) (at : ℕ) (page : List ℕ) → Follows (MayWrite control_file at page) old new → IsNamed old → IsNamed new
still_named old new at page follows named c leaves = let (d, was, step) = follows c leaves in by d (named d was) step
  where
    kept : (d : Folder) (put : List ℕ) → IsSome (d control_file) → c ≡ with_page control_file at put d → IsSome (c control_file)
    kept d put was is =
        subst (λ (o : Option (List (List ℕ))). IsSome o) (sym (ap (λ (g : Folder). g control_file) is ∙ with_file-same control_file (option_map (put_page at put) (d control_file)) d)) (some put (d control_file) was)
      where
        some : (put : List ℕ) (content : Option (List (List ℕ))) → IsSome content → IsSome (option_map (put_page at put) content)
        some put None never = absurd (search rules)
        some put (Some pages) yes' = search rules

    by : (d : Folder) → IsSome (d control_file) → MayWrite control_file at page d c → IsSome (c control_file)
    by d was (inl lost) = subst (λ (g : Folder). IsSome (g control_file)) (sym lost) was
    by d was (inr (inl is)) = kept d page was is
    by d was (inr (inr (log, torn, long, sums, is))) = kept d torn was is
