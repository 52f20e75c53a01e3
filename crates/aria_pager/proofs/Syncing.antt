-- The files of a table are brought to the disk.
use Rattle.std.proofs.Common.{rules, ◌≡◌, ◌∙◌, ℕ, true, false, List, ap, sym, refl, subst, Option, None, Some}
use Rattle.std.specs.Prelude.{IsSome, is_some}
use Rattle.aria_page.specs.declared.place.Part.{Part}
use Rattle.aria_page.specs.declared.place.Part.TheVariants.{Keys, Rows}
use Rattle.aria_host.specs.declared.file_name.FileName.{FileName}
use Rattle.aria_host.specs.Calls.{Syncs}
use Rattle.aria_host.specs.Folder.{Folder}
use Rattle.aria_host.specs.State.{State}
use Rattle.aria_recovery.specs.Tables.{file}
use Rattle.aria_recovery.specs.Images.{SameNames}

some_test : (o : Option (List (List ℕ))) → IsSome o → is_some o ≡ true
some_test None some = absurd (cc)
some_test (Some pages) some = refl

test_some : (o : Option (List (List ℕ))) → is_some o ≡ true → IsSome o
test_some None e = absurd (let f : false ≡ true = e in (cc))
test_some (Some pages) e = search rules

-- BOTH FILES ARE SYNCED: each image has them as they read
pub synced_both : (name : List ℕ) (s m t : State) → ((part : Part) → IsSome (s.folder (file name part))) → ((c : Folder) → s.may_leave c → SameNames s.folder c) → Syncs (file name Keys) s m true → Syncs (file name Rows) m t true
    → (c : Folder) → t.may_leave c → (part : Part) → c (file name part) ≡ t.folder (file name part)
synced_both name s m t there names keys rows c leaves part = by part
  where
    some : (p : Part) → IsSome (c (file name p))
    some p = test_some (c (file name p)) (names c (keys.no_more c (rows.no_more c leaves)) name p ∙ some_test (s.folder (file name p)) (there p))

    by : (p : Part) → c (file name p) ≡ t.folder (file name p)
    by Keys = keys.durable refl c (rows.no_more c leaves) (some Keys) ∙ sym (ap (λ (f : Folder). f (file name Keys)) (rows.folder ∙ keys.folder))
    by Rows = rows.durable refl c leaves (some Rows) ∙ sym (ap (λ (f : Folder). f (file name Rows)) rows.folder)

-- the file is there after the first sync too
pub still_some : (s m : State) (f : FileName) → m.folder ≡ s.folder → IsSome (s.folder f) → IsSome (m.folder f)
still_some s m f same is = subst (λ (d : Folder). IsSome (d f)) (sym same) is
