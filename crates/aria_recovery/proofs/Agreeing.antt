-- Folders that come to the same tables: more is forced, and a group is added.
use Rattle.std.proofs.Common.{◌≡◌, ◌∙◌, ℕ, ◌≤◌, Bool, true, false, cond, List, [], ◌∷◌, ◌++◌, length, take, max, ap, sym, refl, subst, arith, Option, None, Some, inl, inr}
use Rattle.std.specs.Option.{option_map}
use Rattle.std.proofs.lemmas.Bool.{cases_lt}
use Rattle.std.proofs.lemmas.List.{take-append-le, take_all, length_push}
use Rattle.aria_page.specs.declared.lsn.Lsn.{Lsn}
use Rattle.aria_page.specs.declared.place.Part.{Part}
use Rattle.aria_page.specs.declared.place.Part.TheVariants.{Keys}
use Rattle.aria_host.specs.Folder.{Folder}
use Rattle.aria_record.specs.Logged.{Logged}
use Rattle.aria_recovery.specs.Redo.{Content, edits_on, stepped, page_seen, reach, reach_on, number_at}
use Rattle.aria_recovery.specs.Tables.{Maker, Life, lives, life_from, life_of, told_by, is_from, begun, file, File, Table, file_of, is_there, table_of, tables_of, Agrees, made_page}
use Rattle.aria_recovery.proofs.Redoing.{redo_append}

pub life_push : (name : List ℕ) (life : Life) (gs : List Logged) (g : Logged) → life_from name life (gs ++ g ∷ []) ≡ lives g (life_from name life gs) (told_by name g)
life_push name life [] g = refl
life_push name life (h ∷ gs) g = life_push name (lives h life (told_by name h)) gs g

pub reach_push : (name : List ℕ) (part : Part) (gs : List Logged) (g : Logged) → reach name part (gs ++ g ∷ []) ≡ max (reach name part gs) (reach_on name part g.group)
reach_push name part [] g = omega arith
reach_push name part (h ∷ gs) g = ap (max (reach_on name part h.group)) (reach_push name part gs g) ∙ omega arith

-- a file and a table with a group more
abbrev pub grown_file : List ℕ → Part → Logged → File → File
grown_file name part g f = record { count = max f.count (reach_on name part g.group); page = λ n. stepped (number_at g.at) (edits_on name part n g.group) (f.page n) }

abbrev pub grown : List ℕ → Logged → Table → Table
grown name g t = record { file = λ part. option_map (grown_file name part g) (t.file part) }

file_push : (name : List ℕ) (part : Part) (since : List Logged) (g : Logged) (c : Content) → file_of name part (since ++ g ∷ []) c ≡ option_map (grown_file name part g) (file_of name part since c)
file_push name part since g None = refl
file_push name part since g (Some pages) = λ i. Some (record { count = count i; page = λ n. redo_append name part n since (g ∷ []) (page_seen pages n) i })
  where
    count : max (length pages) (reach name part (since ++ g ∷ [])) ≡ max (max (length pages) (reach name part since)) (reach_on name part g.group)
    count = ap (max (length pages)) (reach_push name part since g) ∙ omega arith

-- a group that makes or drops no files of the name
pub table_push : (name : List ℕ) (life : Life) (g : Logged) (c : Folder) → table_of name (lives g life None) c ≡ option_map (grown name g) (table_of name life c)
table_push name life g c = by (is_there life.last (c (file name Keys)))
  where
    at : (part : Part) → Content
    at part = begun part life.last (c (file name part))

    by : (b : Bool) → cond b (Some (record { file = λ part. file_of name part (life.since ++ g ∷ []) (at part) })) None ≡ option_map (grown name g) (cond b (Some (record { file = λ part. file_of name part life.since (at part) })) None)
    by true = λ i. Some (record { file = λ part. file_push name part life.since g (at part) i })
    by false = refl

-- the table's files are older than that in the folder, or aren't there
abbrev pub AreOlder : List ℕ → Lsn → Folder → Type 0
AreOlder name at c = (part : Part) → is_from at (c (file name part)) ≡ false

-- Behind one group more both come to the same, if a group that makes the table finds older files or none.
pub next_same : (name : List ℕ) (gs : List Logged) (g : Logged) (a b : Folder)
    → ((maker : Maker) → told_by name g ≡ Some (Some maker) → AreOlder name maker.at a × AreOlder name maker.at b)
    → tables_of a gs name ≡ tables_of b gs name → tables_of a (gs ++ g ∷ []) name ≡ tables_of b (gs ++ g ∷ []) name
next_same name gs g a b older same =
    ap (λ (l : Life). table_of name l a) (life_push name (record { last = None; since = [] }) gs g) ∙ by (told_by name g) refl ∙ sym (ap (λ (l : Life). table_of name l b) (life_push name (record { last = None; since = [] }) gs g))
  where
    life : Life
    life = life_of name gs

    by : (s : Option (Option Maker)) → told_by name g ≡ s → table_of name (lives g life s) a ≡ table_of name (lives g life s) b
    by None is = table_push name life g a ∙ ap (option_map (grown name g)) same ∙ sym (table_push name life g b)
    by (Some None) is = refl
    by (Some (Some maker)) is = λ i. Some (record { file = λ part. file_of name part [] (made part i) })
      where
        as_made : (part : Part) (c : Folder) → is_from maker.at (c (file name part)) ≡ false → begun part (Some (Some maker)) (c (file name part)) ≡ Some (made_page maker part ∷ [])
        as_made part c older = ap (λ (t : Bool). cond t (c (file name part)) (Some (made_page maker part ∷ []))) older

        made : (part : Part) → begun part (Some (Some maker)) (a (file name part)) ≡ begun part (Some (Some maker)) (b (file name part))
        made part = as_made part a ((older maker is).0 part) ∙ sym (as_made part b ((older maker is).1 part))

pub agrees_self : (gs : List Logged) (forced : ℕ) (c : Folder) → Agrees gs forced c c
agrees_self gs forced c = record { tables = λ m lo hi name. refl }

pub agrees_sym : (gs : List Logged) (forced : ℕ) (a b : Folder) → Agrees gs forced a b → Agrees gs forced b a
agrees_sym gs forced a b is = record { tables = λ m lo hi name. sym (is.tables m lo hi name) }

pub agrees_on : (gs : List Logged) (forced : ℕ) (a b c : Folder) → Agrees gs forced a b → Agrees gs forced b c → Agrees gs forced a c
agrees_on gs forced a b c first second = record { tables = λ m lo hi name. first.tables m lo hi name ∙ second.tables m lo hi name }

-- more groups are forced
pub agrees_forced : (gs : List Logged) (forced more : ℕ) (a b : Folder) → forced ≤ more → Agrees gs forced a b → Agrees gs more a b
agrees_forced gs forced more a b le is = record { tables = λ m lo hi name. is.tables m (omega (arith, le, lo)) hi name }

-- a group more was added
pub agrees_push : (gs : List Logged) (g : Logged) (forced : ℕ) (a b : Folder) → forced ≤ length gs
    → ((name : List ℕ) (maker : Maker) → told_by name g ≡ Some (Some maker) → AreOlder name maker.at a × AreOlder name maker.at b)
    → Agrees gs forced a b → Agrees (gs ++ g ∷ []) forced a b
agrees_push gs g forced a b few older is = record { tables = each }
  where
    each : (m : ℕ) → forced ≤ m → m ≤ length (gs ++ g ∷ []) → (name : List ℕ) → tables_of a (take m (gs ++ g ∷ [])) name ≡ tables_of b (take m (gs ++ g ∷ [])) name
    each m lo hi name = elim (cases_lt (length gs) m) [
      | inr low ↦ subst (λ (l : List Logged). tables_of a l name ≡ tables_of b l name) (sym (take-append-le m gs (g ∷ []) low)) (is.tables m lo low name)
      | inl more ↦ subst (λ (l : List Logged). tables_of a l name ≡ tables_of b l name) (sym (take_all m (gs ++ g ∷ []) (omega (arith, more, length_push gs g))))
          (next_same name gs g a b (older name) (subst (λ (l : List Logged). tables_of a l name ≡ tables_of b l name) (take_all (length gs) gs (omega arith)) (is.tables (length gs) few (omega arith) name)))
    ]
