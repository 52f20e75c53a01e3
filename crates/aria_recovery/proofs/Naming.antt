-- Each image has the names of the folder as it reads, as long as no call fails.
use Rattle.std.proofs.Common.{◌≡◌, ◌∙◌, ℕ, Bool, true, false, cond, List, ap, refl, None, Some, inl, inr}
use Rattle.std.specs.Prelude.{is_some}
use Rattle.std.specs.Option.{option_map}
use Rattle.aria_page.specs.declared.lsn.Lsn.{Lsn}
use Rattle.aria_page.specs.declared.place.Part.{Part}
use Rattle.aria_page.specs.declared.place.Part.TheVariants.{Keys, Rows}
use Rattle.aria_host.specs.declared.file_name.FileName.{FileName}
use Rattle.aria_host.specs.Folder.{Folder, with_file, with_page, put_page, same_file}
use Rattle.aria_host.specs.Calls.{HaveNames}
use Rattle.aria_host.specs.State.{State}
use Rattle.aria_host.specs.Steps.{MayMake, MayWrite}
use Rattle.aria_host.proofs.Files.{same_file-true}
use Rattle.aria_recovery.specs.Redo.{Content}
use Rattle.aria_recovery.specs.Tables.{file, is_from}
use Rattle.aria_recovery.specs.Images.{SameNames}
use Rattle.aria_recovery.proofs.Stepping.{not_torn}

pub names_make : (f : FileName) (content : Content) (now d c : Folder) → SameNames now d → MayMake f content true d c → SameNames (with_file f content now) c
names_make f content now d c is (inr (failed, same)) = absurd (cc)
names_make f content now d c is (inl same) = λ name part. ap (λ (g : Folder). is_some (g (file name part))) same ∙ by name part (same_file f (file name part))
  where
    by : (name : List ℕ) (part : Part) (b : Bool) → is_some (cond b content (d (file name part))) ≡ is_some (cond b content (now (file name part)))
    by name part true = refl
    by name part false = is name part

mapped : (n : ℕ) (page : List ℕ) (content : Content) → is_some (option_map (put_page n page) content) ≡ is_some content
mapped n page None = refl
mapped n page (Some pages) = refl

-- a page that is written makes and removes no file
pub names_page : (name : List ℕ) (p : Part) (n : ℕ) (page : List ℕ) (d : Folder) → SameNames d (with_page (file name p) n page d)
names_page name p n page d other part = by (same_file (file name p) (file other part)) refl
  where
    by : (b : Bool) → same_file (file name p) (file other part) ≡ b → is_some (with_page (file name p) n page d (file other part)) ≡ is_some (d (file other part))
    by true on = ap (λ (b : Bool). is_some (cond b (option_map (put_page n page) (d (file name p))) (d (file other part)))) on ∙ mapped n page (d (file name p)) ∙ ap (λ f. is_some (d f)) (same_file-true (file name p) (file other part) on)
    by false off = ap (λ (b : Bool). is_some (cond b (option_map (put_page n page) (d (file name p))) (d (file other part)))) off

-- so does one whose write may be lost
pub names_write : (name : List ℕ) (p : Part) (n : ℕ) (page : List ℕ) (d c : Folder) → MayWrite (file name p) n page d c → SameNames d c
names_write name p n page d c (inl same) = λ other part. ap (λ (f : Folder). is_some (f (file other part))) same
names_write name p n page d c (inr (inl same)) = λ other part. ap (λ (f : Folder). is_some (f (file other part))) same ∙ names_page name p n page d other part
names_write name p n page d c (inr (inr torn)) = absurd (not_torn name p torn.0)

-- what isn't there as the folder reads is older than any table, in each image
pub names_older : (now c : Folder) (name : List ℕ) (part : Part) (at : Lsn) → SameNames now c → now (file name part) ≡ None → is_from at (c (file name part)) ≡ false
names_older now c name part at is none = by (c (file name part)) (is name part ∙ ap is_some none)
  where
    by : (content : Content) → is_some content ≡ false → is_from at content ≡ false
    by None gone = refl
    by (Some pages) gone = absurd (cc)

-- every image has the names as they were listed
pub names_listed : (s : State) (c : Folder) → HaveNames s → s.may_leave c → SameNames s.folder c
names_listed s c listed leaves name Keys = listed c leaves (file name Keys) tt
names_listed s c listed leaves name Rows = listed c leaves (file name Rows) tt
