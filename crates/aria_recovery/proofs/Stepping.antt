-- Steps of one table's files that leave the tables alone.
use Rattle.std.proofs.Common.{◌≡◌, ◌∙◌, ℕ, Bool, true, false, cond, List, [], ◌∷◌, ap, sym, refl, subst, Option, None, Some, inl, inr}
use Rattle.std.specs.Prelude.{is_some, IsTrue}
use Rattle.std.specs.Cmp.Lexicographic.{bytes_decides}
use Rattle.std.proofs.lemmas.Bool.{cases_Bool}
use Rattle.aria_page.specs.declared.place.Part.{Part}
use Rattle.aria_page.specs.declared.place.Part.TheVariants.{Keys, Rows}
use Rattle.aria_host.specs.Folder.{Folder, is_log, same_file, with_file}
use Rattle.aria_host.proofs.Files.{with_file-same, with_file-other}
use Rattle.aria_record.specs.Logged.{Logged}
use Rattle.aria_value.specs.Named.{same_name}
use Rattle.aria_recovery.specs.Redo.{Content, same_part}
use Rattle.aria_recovery.specs.Tables.{Maker, Life, life_of, is_from, begun, file, Table, file_of, is_there, table_of, tables_of, made_page}

-- a file of another name, or the other file of the name, is another file
pub apart_name : (name other : List ℕ) (p q : Part) → same_name name other ≡ false → same_file (file name p) (file other q) ≡ false
apart_name name other Keys Keys off = off
apart_name name other Keys Rows off = refl
apart_name name other Rows Keys off = refl
apart_name name other Rows Rows off = off

pub apart_part : (name : List ℕ) (p q : Part) → same_part p q ≡ false → same_file (file name p) (file name q) ≡ false
apart_part name Keys Keys off = absurd (cc)
apart_part name Keys Rows off = refl
apart_part name Rows Keys off = refl
apart_part name Rows Rows off = absurd (cc)

pub part_is : (p q : Part) → same_part p q ≡ true → p ≡ q
part_is Keys Keys on = refl
part_is Keys Rows on = absurd (cc)
part_is Rows Keys on = absurd (cc)
part_is Rows Rows on = refl

-- the files of other names are as they were
abbrev pub Aside : List ℕ → Folder → Folder → Type 0
Aside name d c = (other : List ℕ) (part : Part) → same_name name other ≡ false → c (file other part) ≡ d (file other part)

pub aside : (name : List ℕ) (p : Part) (content : Content) (d : Folder) → Aside name d (with_file (file name p) content d)
aside name p content d other part off = with_file-other (file name p) (file other part) content d (apart_name name other p part off)

pub table_alike : (name : List ℕ) (life : Life) (d c : Folder) → is_there life.last (d (file name Keys)) ≡ is_there life.last (c (file name Keys))
    → ((part : Part) → file_of name part life.since (begun part life.last (d (file name part))) ≡ file_of name part life.since (begun part life.last (c (file name part))))
    → table_of name life d ≡ table_of name life c
table_alike name life d c there alike = λ i. cond (there i) (Some (record { file = λ part. alike part i })) None

-- what one name's files do says what the folder does
pub one_name : (name : List ℕ) (gs : List Logged) (d c : Folder) → Aside name d c → tables_of d gs name ≡ tables_of c gs name → (other : List ℕ) → tables_of d gs other ≡ tables_of c gs other
one_name name gs d c apart here other = elim (cases_Bool (same_name name other)) [
  | inl on ↦ subst (λ (n : List ℕ). tables_of d gs n ≡ tables_of c gs n) ((bytes_decides name other).0 on) here
  | inr off ↦ table_alike other (life_of other gs) d c (ap (is_there (life_of other gs).last) (sym (apart other Keys off))) (λ part. ap (λ (f : Content). file_of other part (life_of other gs).since (begun part (life_of other gs).last f)) (sym (apart other part off)))
]

-- one file of the name is another than it was
pub one_file : (name : List ℕ) (life : Life) (p : Part) (d : Folder) (content : Content)
    → is_there life.last (d (file name p)) ≡ is_there life.last content
    → file_of name p life.since (begun p life.last (d (file name p))) ≡ file_of name p life.since (begun p life.last content)
    → table_of name life d ≡ table_of name life (with_file (file name p) content d)
one_file name life p d content there alike = table_alike name life d (with_file (file name p) content d) (by_there (same_part p Keys) refl) (λ part. by_file part (same_part p part) refl)
  where
    now : Folder
    now = with_file (file name p) content d

    by_there : (b : Bool) → same_part p Keys ≡ b → is_there life.last (d (file name Keys)) ≡ is_there life.last (with_file (file name p) content d (file name Keys))
    by_there true is = subst (λ (q : Part). is_there life.last (d (file name q)) ≡ is_there life.last (with_file (file name p) content d (file name q))) (part_is p Keys is) (there ∙ ap (is_there life.last) (sym (with_file-same (file name p) content d)))
    by_there false is = ap (is_there life.last) (sym (with_file-other (file name p) (file name Keys) content d (apart_part name p Keys is)))

    by_file : (part : Part) (b : Bool) → same_part p part ≡ b → file_of name part life.since (begun part life.last (d (file name part))) ≡ file_of name part life.since (begun part life.last (with_file (file name p) content d (file name part)))
    by_file part true is = subst (λ (q : Part). file_of name q life.since (begun q life.last (d (file name q))) ≡ file_of name q life.since (begun q life.last (with_file (file name p) content d (file name q)))) (part_is p part is)
        (alike ∙ ap (λ (f : Content). file_of name p life.since (begun p life.last f)) (sym (with_file-same (file name p) content d)))
    by_file part false is = ap (λ (f : Content). file_of name part life.since (begun part life.last f)) (sym (with_file-other (file name p) (file name part) content d (apart_part name p part is)))

-- Behind a drop nothing is said of the files.
pub dropped_alike : (name : List ℕ) (gs : List Logged) (d c : Folder) → (life_of name gs).last ≡ Some None → tables_of d gs name ≡ tables_of c gs name
dropped_alike name gs d c is = gone d ∙ sym (gone c)
  where
    gone : (f : Folder) → tables_of f gs name ≡ None
    gone f = ap (λ (t : Bool). cond t (Some (record { file = λ part. file_of name part (life_of name gs).since (begun part (life_of name gs).last (f (file name part))) })) None) (ap (λ (l : Option (Option Maker)). is_there l (f (file name Keys))) is)

-- A file of a name without a table is removed: there is none still.
pub removed_none : (name : List ℕ) (gs : List Logged) (p : Part) (d : Folder) → tables_of d gs name ≡ None → tables_of (with_file (file name p) None d) gs name ≡ None
removed_none name gs p d none = ap (λ (t : Bool). cond t (Some (record { file = λ part. file_of name part (life_of name gs).since (begun part (life_of name gs).last (with_file (file name p) None d (file name part))) })) None)
    (by p (life_of name gs).last (was _ (is_there (life_of name gs).last (d (file name Keys))) none))
  where
    was : (T : Table) (b : Bool) → cond b (Some T) None ≡ None → b ≡ false
    was T true is = absurd (cc)
    was T false is = refl

    by : (q : Part) (last : Option (Option Maker)) → is_there last (d (file name Keys)) ≡ false → is_there last (with_file (file name q) None d (file name Keys)) ≡ false
    by q (Some None) is = refl
    by q (Some (Some m)) is = is
    by Keys None is = ap is_some (with_file-same (file name Keys) None d)
    by Rows None is = is

-- A file older than its table becomes another that is older, or its first page as made, alone.
pub older_alike : (name : List ℕ) (gs : List Logged) (p : Part) (d : Folder) (content : Content) (maker : Maker) → (life_of name gs).last ≡ Some (Some maker) → is_from maker.at (d (file name p)) ≡ false
    → begun p (Some (Some maker)) content ≡ Some (made_page maker p ∷ []) → tables_of d gs name ≡ tables_of (with_file (file name p) content d) gs name
older_alike name gs p d content maker is old made = one_file name (life_of name gs) p d content (ap (λ (l : Option (Option Maker)). is_there l (d (file name p))) is ∙ ap (λ (l : Option (Option Maker)). is_there l content) (sym is))
    (ap (file_of name p (life_of name gs).since) (ap (λ (l : Option (Option Maker)). begun p l (d (file name p))) is ∙ ap (λ (b : Bool). cond b (d (file name p)) (Some (made_page maker p ∷ []))) old ∙ sym made ∙ ap (λ (l : Option (Option Maker)). begun p l content) (sym is)))

-- the first page is written
pub made_alike : (p : Part) (maker : Maker) → begun p (Some (Some maker)) (Some (made_page maker p ∷ [])) ≡ Some (made_page maker p ∷ [])
made_alike p maker = by (is_from maker.at (Some (made_page maker p ∷ [])))
  where
    by : (b : Bool) → cond b (Some (made_page maker p ∷ [])) (Some (made_page maker p ∷ [])) ≡ Some (made_page maker p ∷ [])
    by true = refl
    by false = refl

pub begun_older : (p : Part) (maker : Maker) (content : Content) → is_from maker.at content ≡ false → begun p (Some (Some maker)) content ≡ Some (made_page maker p ∷ [])
begun_older p maker content old = ap (λ (b : Bool). cond b content (Some (made_page maker p ∷ []))) old

pub begun_current : (p : Part) (maker : Maker) (content : Content) → is_from maker.at content ≡ true → begun p (Some (Some maker)) content ≡ content
begun_current p maker content new = ap (λ (b : Bool). cond b content (Some (made_page maker p ∷ []))) new

-- folders with the same files of tables
pub tables_same : (d c : Folder) (gs : List Logged) (name : List ℕ) → ((part : Part) → c (file name part) ≡ d (file name part)) → tables_of c gs name ≡ tables_of d gs name
tables_same d c gs name same = table_alike name (life_of name gs) c d (ap (is_there (life_of name gs).last) (same Keys)) (λ part. ap (λ (f : Content). file_of name part (life_of name gs).since (begun part (life_of name gs).last f)) (same part))

-- no table's file is one of the log's
pub no_log : (name : List ℕ) (part : Part) → is_log (file name part) ≡ false
no_log name Keys = refl
no_log name Rows = refl

pub not_torn : (name : List ℕ) (p : Part) → IsTrue (is_log (file name p)) → ⊥
not_torn name Keys log = (cc)
not_torn name Rows log = (cc)
