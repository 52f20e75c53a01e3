-- A page of a table is written.
use Rattle.std.proofs.Common.{◌≡◌, ◌==◌, ◌∙◌, ℕ, zero, suc, ◌-◌, ◌<◌, ◌≤◌, Bool, true, false, cond, List, [], ◌∷◌, ◌++◌, length, replicate, max, ap, sym, refl, subst, arith, Option, None, Some}
use Rattle.std.specs.Option.{option_map_or}
use Rattle.std.proofs.lemmas.Bool.{eqb-true}
use Rattle.aria_page.specs.declared.lsn.Lsn.{Lsn}
use Rattle.aria_page.specs.Lsn.{lsn_number}
use Rattle.aria_page.specs.Page.{zero_page}
use Rattle.aria_page.specs.declared.place.Part.{Part}
use Rattle.aria_page.specs.declared.place.Part.TheVariants.{Keys}
use Rattle.aria_host.specs.Folder.{Folder, put_page, with_file}
use Rattle.aria_host.specs.Seen.{page_or_zero}
use Rattle.aria_host.proofs.Files.{length-put_page, get_or-put_page}
use Rattle.aria_record.specs.Logged.{Logged}
use Rattle.aria_recovery.specs.Redo.{Content, redo, page_seen, page_number, seen, reach}
use Rattle.aria_recovery.specs.Tables.{Maker, life_of, is_from, begun, file, File, Table, file_of, is_there, tables_of, IsCurrent, AreCurrent, made_page, page_in, count_in}
use Rattle.aria_recovery.proofs.Stepping.{one_file}
use Rattle.aria_recovery.proofs.Comparing.{le_true}

cond_seen : (b : Bool) (p q : List ℕ) → seen (cond b p q) ≡ cond b (seen p) (seen q)
cond_seen true p q = refl
cond_seen false p q = refl

-- the pages after one was put
pub seen_put : (n k : ℕ) (page : List ℕ) (pages : List (List ℕ)) → page_seen (put_page n page pages) k ≡ cond (n == k) (seen page) (page_seen pages k)
seen_put n k page pages = ap seen (get_or-put_page n k page pages) ∙ cond_seen (n == k) page (page_or_zero k (Some pages))

-- a file whose first page is written anew, or stays, isn't older than it was
from_put : (at : Lsn) (n : ℕ) (page : List ℕ) (pages : List (List ℕ)) → is_from at (Some pages) ≡ true → (n ≡ 0 → lsn_number at ≤ page_number page) → is_from at (Some (put_page n page pages)) ≡ true
unfolding put_page
from_put at n page [] from first = absurd (cc)
from_put at zero page (p ∷ ps) from first = ap (λ (k : ℕ). is_from at (Some (replicate k zero_page ++ page ∷ ps))) none ∙ le_true (lsn_number at) (page_number page) (first refl)
  where
    none : 0 - length (p ∷ ps) ≡ 0
    none = omega arith
from_put at (suc n) page (p ∷ ps) from first = from

pub current_put : (last : Option (Option Maker)) (n : ℕ) (page : List ℕ) (pages : List (List ℕ)) → IsCurrent last (Some pages)
    → (n ≡ 0 → (maker : Maker) → last ≡ Some (Some maker) → lsn_number maker.at ≤ page_number page) → IsCurrent last (Some (put_page n page pages))
current_put None n page pages is first = refl
current_put (Some None) n page pages is first = is
current_put (Some (Some maker)) n page pages is first = from_put maker.at n page pages is (λ e. first e maker refl)

begun_is : (p : Part) (last : Option (Option Maker)) (content : Content) → IsCurrent last content → begun p last content ≡ content
begun_is p None content is = refl
begun_is p (Some None) content is = absurd is
begun_is p (Some (Some maker)) content is = ap (λ (b : Bool). cond b content (Some (made_page maker p ∷ []))) is

there : (last : Option (Option Maker)) (content : Content) → IsCurrent last content → is_there last content ≡ true
there None content is = is
there (Some None) content is = absurd is
there (Some (Some maker)) content is = refl

module _ (name : List ℕ) (gs : List Logged) (p : Part) (d : Folder) (pages : List (List ℕ)) (is : d (file name p) ≡ Some pages) (current : AreCurrent name gs d) where
  abbrev since : List Logged
  since = (life_of name gs).since

  opened : tables_of d gs name ≡ Some (record { file = λ part. file_of name part since (begun part (life_of name gs).last (d (file name part))) })
  opened = ap (λ (t : Bool). cond t (Some (record { file = λ part. file_of name part since (begun part (life_of name gs).last (d (file name part))) })) None) (there (life_of name gs).last (d (file name Keys)) (current Keys))

  as_it_is : file_of name p since (begun p (life_of name gs).last (d (file name p))) ≡ file_of name p since (Some pages)
  as_it_is = ap (file_of name p since) (begun_is p (life_of name gs).last (d (file name p)) (current p) ∙ is)

  -- the table's pages are redone from the folder's
  pub page_is : (n : ℕ) → page_in (tables_of d gs name) p n ≡ redo name p n since (page_seen pages n)
  page_is n = ap (λ (t : Option Table). page_in t p n) opened ∙ ap (λ (f : Option File). option_map_or (λ (f : File). f.page n) f None) as_it_is

  pub count_is : count_in (tables_of d gs name) p ≡ max (length pages) (reach name p since)
  count_is = ap (λ (t : Option Table). count_in t p) opened ∙ ap (λ (f : Option File). option_map_or (λ (f : File). f.count) f 0) as_it_is

  -- A page of the table is written of which all groups make the same: the tables stay.
  pub written_alike : (n : ℕ) (page : List ℕ) → redo name p n since (seen page) ≡ page_in (tables_of d gs name) p n → n < count_in (tables_of d gs name) p
      → IsCurrent (life_of name gs).last (Some (put_page n page pages))
      → tables_of d gs name ≡ tables_of (with_file (file name p) (Some (put_page n page pages)) d) gs name
  written_alike n page made within after = one_file name (life_of name gs) p d (Some (put_page n page pages))
      (there (life_of name gs).last (d (file name p)) (current p) ∙ sym (there (life_of name gs).last (Some (put_page n page pages)) after))
      (as_it_is ∙ (λ i. Some (record { count = counted i; page = λ k. at k i })) ∙ sym (ap (file_of name p since) (begun_is p (life_of name gs).last (Some (put_page n page pages)) after)))
    where
      counted : max (length pages) (reach name p since) ≡ max (length (put_page n page pages)) (reach name p since)
      counted = omega (arith, length-put_page n page pages, subst (λ (k : ℕ). n < k) count_is within)

      steady : redo name p n since (page_seen pages n) ≡ redo name p n since (seen page)
      steady = sym (page_is n) ∙ sym made

      by : (k : ℕ) (b : Bool) → (b ≡ true → n ≡ k) → redo name p k since (page_seen pages k) ≡ redo name p k since (cond b (seen page) (page_seen pages k))
      by k true same = subst (λ (j : ℕ). redo name p j since (page_seen pages j) ≡ redo name p j since (seen page)) (same refl) steady
      by k false same = refl

      at : (k : ℕ) → redo name p k since (page_seen pages k) ≡ redo name p k since (page_seen (put_page n page pages) k)
      at k = by k (n == k) (λ t. eqb-true n k t) ∙ ap (redo name p k since) (sym (seen_put n k page pages))
