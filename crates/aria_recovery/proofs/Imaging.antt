-- Steps of a host on the images: each is neutral, at its moment.
use Rattle.std.proofs.Common.{◌≡◌, ◌∙◌, ℕ, ◌<◌, ◌≤◌, Bool, true, false, List, [], ◌∷◌, length, take, ap, sym, refl, subst, arith, Option, None, Some, inl, inr}
use Rattle.std.specs.Prelude.{IsTrue}
use Rattle.std.specs.Option.{option_map}
use Rattle.std.specs.Cmp.Lexicographic.{bytes_decides}
use Rattle.std.proofs.lemmas.Bool.{cases_Bool}
use Rattle.std.proofs.lemmas.List.{take_all}
use Rattle.aria_page.specs.Lsn.{lsn_number}
use Rattle.aria_page.specs.declared.place.Part.{Part}
use Rattle.aria_page.specs.declared.place.Part.TheVariants.{Keys}
use Rattle.aria_host.specs.declared.file_name.FileName.{FileName}
use Rattle.aria_host.specs.Folder.{Folder, put_page, with_file, is_log}
use Rattle.aria_host.specs.State.{State}
use Rattle.aria_host.specs.Steps.{Follows, MayWrite, MayMake}
use Rattle.aria_host.proofs.Files.{with_file-same, with_file-other}
use Rattle.aria_record.specs.Logged.{Logged}
use Rattle.aria_value.specs.Named.{same_name}
use Rattle.aria_recovery.specs.Redo.{Content, page_number, seen, same_part, redo}
use Rattle.aria_recovery.specs.Tables.{Maker, life_of, is_from, begun, file, File, Table, is_there, file_of, tables_of, Agrees, IsCurrent, AreCurrent, made_page, page_in, count_in}
use Rattle.aria_recovery.specs.Images.{IsImage, AreImages, IsNeutral}
use Rattle.aria_recovery.proofs.Agreeing.{agrees_self, agrees_sym, agrees_on}
use Rattle.aria_recovery.proofs.Stepping.{no_log, not_torn, apart_part, part_is, Aside, aside, one_name, table_alike, dropped_alike, removed_none, older_alike, begun_older, made_alike}
use Rattle.aria_recovery.proofs.Writing.{written_alike, current_put}

module _ (opened : List ℕ → Bool) (gs : List Logged) where
  -- After a neutral step the images are images of the folder as it reads then.
  pub images_after : (forced : ℕ) (s t : State) (step : Folder → Folder → Type 0) → AreImages opened s gs forced → ((d c : Folder) → s.may_leave d → step d c → IsImage opened gs forced d c) → Follows step s t
      → t.may_leave t.folder → AreImages opened t gs forced
  images_after forced s t step images neutral follows now c leaves =
      let to = follows c leaves in
      let here = follows t.folder now in
      let is = neutral to.0 c to.1 to.2 in
      let at = neutral here.0 t.folder here.1 here.2 in
      record {
        agrees = agrees_on gs forced t.folder here.0 c (agrees_sym gs forced here.0 t.folder at.agrees)
            (agrees_on gs forced here.0 s.folder c (agrees_sym gs forced s.folder here.0 (images here.0 here.1).agrees) (agrees_on gs forced s.folder to.0 c (images to.0 to.1).agrees is.agrees));
        current = is.current;
      }

  -- nothing was done
  none_done : (forced : ℕ) (now d c : Folder) → IsImage opened gs forced now d → c ≡ d → IsImage opened gs forced d c
  none_done forced now d c is same = record {
    agrees = subst (λ (f : Folder). Agrees gs forced d f) (sym same) (agrees_self gs forced d);
    current = λ name on part. subst (λ (f : Folder). IsCurrent (life_of name gs).last (f (file name part))) (sym same) (is.current name on part);
  }

  -- all groups are forced, so there is one front
  all_forced : (d c : Folder) → ((name : List ℕ) → tables_of d gs name ≡ tables_of c gs name) → Agrees gs (length gs) d c
  all_forced d c same = record { tables = λ m lo hi name. subst (λ (l : List Logged). tables_of d l name ≡ tables_of c l name) (sym (take_all m gs (omega (arith, lo)))) (same name) }

  -- the log's files alone change
  pub log_step : (forced : ℕ) (now d c : Folder) → ((f : FileName) → is_log f ≡ false → c f ≡ d f) → IsImage opened gs forced now d → IsImage opened gs forced d c
  log_step forced now d c others is = record {
    agrees = record { tables = λ m lo hi name. table_alike name (life_of name (take m gs)) d c (ap (λ (f : Content). is_there_of name m f) (sym (others (file name Keys) refl))) (λ part. ap (file_at name m part) (sym (others (file name part) (no_log name part)))) };
    current = λ name on part. subst (λ (f : Content). IsCurrent (life_of name gs).last f) (sym (others (file name part) (no_log name part))) (is.current name on part);
  }
    where
      is_there_of : (name : List ℕ) (m : ℕ) (f : Content) → Bool
      is_there_of name m f = is_there (life_of name (take m gs)).last f

      file_at : (name : List ℕ) (m : ℕ) (part : Part) (f : Content) → Option File
      file_at name m part f = file_of name part (life_of name (take m gs)).since (begun part (life_of name (take m gs)).last f)

  -- files of a name that isn't open change alone
  current_aside : (name : List ℕ) (forced : ℕ) (now d c : Folder) → opened name ≡ false → Aside name d c → IsImage opened gs forced now d → (other : List ℕ) → IsTrue (opened other) → AreCurrent other gs c
  current_aside name forced now d c closed apart is other on part = elim (cases_Bool (same_name name other)) [
    | inl same ↦ absurd (let there : IsTrue (opened name) = subst (λ (n : List ℕ). IsTrue (opened n)) (sym ((bytes_decides name other).0 same)) on in let gone : IsTrue false = subst IsTrue closed there in (cc))
    | inr off ↦ subst (λ (f : Content). IsCurrent (life_of other gs).last f) (sym (apart other part off)) (is.current other on part)
  ]

  -- A left-over file is removed, of a name that has no table by any front.
  pub removed_step : (name : List ℕ) (p : Part) (forced : ℕ) (now : Folder) (done : Bool) → opened name ≡ false → ((m : ℕ) → forced ≤ m → m ≤ length gs → tables_of now (take m gs) name ≡ None)
      → IsNeutral opened gs forced now (MayMake (file name p) None done)
  removed_step name p forced now done closed none d c is (inr (failed, same)) = none_done forced now d c is same
  removed_step name p forced now done closed none d c is (inl same) = subst (IsImage opened gs forced d) (sym same) (record {
    agrees = record {
      tables = λ m lo hi other. one_name name (take m gs) d (with_file (file name p) None d) (aside name p None d)
          (was m lo hi ∙ sym (removed_none name (take m gs) p d (was m lo hi))) other;
    };
    current = current_aside name forced now d (with_file (file name p) None d) closed (aside name p None d) is;
  })
    where
      was : (m : ℕ) → forced ≤ m → m ≤ length gs → tables_of d (take m gs) name ≡ None
      was m lo hi = sym (is.agrees.tables m lo hi name) ∙ none m lo hi

  -- Behind a forced drop, anything may become of the name's files.
  pub dropped_step : (name : List ℕ) (p : Part) (now : Folder) (content : Content) (done : Bool) → opened name ≡ false → (life_of name gs).last ≡ Some None → IsNeutral opened gs (length gs) now (MayMake (file name p) content done)
  dropped_step name p now content done closed dropped d c is (inr (failed, same)) = none_done (length gs) now d c is same
  dropped_step name p now content done closed dropped d c is (inl same) = subst (IsImage opened gs (length gs) d) (sym same) (record {
    agrees = all_forced d (with_file (file name p) content d) (one_name name gs d (with_file (file name p) content d) (aside name p content d) (dropped_alike name gs d (with_file (file name p) content d) dropped));
    current = current_aside name (length gs) now d (with_file (file name p) content d) closed (aside name p content d) is;
  })

  -- Behind a forced create, a file that is older is removed or made, or becomes its first page alone.
  made_step : (name : List ℕ) (p : Part) (now d : Folder) (content : Content) (maker : Maker) → opened name ≡ false → (life_of name gs).last ≡ Some (Some maker) → is_from maker.at (d (file name p)) ≡ false
      → begun p (Some (Some maker)) content ≡ Some (made_page maker p ∷ []) → IsImage opened gs (length gs) now d → IsImage opened gs (length gs) d (with_file (file name p) content d)
  made_step name p now d content maker closed made old becomes is = record {
    agrees = all_forced d (with_file (file name p) content d) (one_name name gs d (with_file (file name p) content d) (aside name p content d) (older_alike name gs p d content maker made old becomes));
    current = current_aside name (length gs) now d (with_file (file name p) content d) closed (aside name p content d) is;
  }

  pub create_step : (name : List ℕ) (p : Part) (now d c : Folder) (content : Content) (done : Bool) (maker : Maker) → opened name ≡ false → (life_of name gs).last ≡ Some (Some maker) → is_from maker.at (d (file name p)) ≡ false
      → is_from maker.at content ≡ false → IsImage opened gs (length gs) now d → MayMake (file name p) content done d c → IsImage opened gs (length gs) d c
  create_step name p now d c content done maker closed made old empty is (inr (failed, same)) = none_done (length gs) now d c is same
  create_step name p now d c content done maker closed made old empty is (inl same) = subst (IsImage opened gs (length gs) d) (sym same)
      (made_step name p now d content maker closed made old (begun_older p maker content empty) is)

  pub put_empty : (page : List ℕ) → put_page 0 page [] ≡ page ∷ []
  unfolding put_page
  put_empty page = refl

  -- its first page is written, into an empty file
  pub first_step : (name : List ℕ) (p : Part) (now d c : Folder) (maker : Maker) → opened name ≡ false → (life_of name gs).last ≡ Some (Some maker) → d (file name p) ≡ Some []
      → IsImage opened gs (length gs) now d → MayWrite (file name p) 0 (made_page maker p) d c → IsImage opened gs (length gs) d c
  first_step name p now d c maker closed made empty is (inl same) = none_done (length gs) now d c is same
  first_step name p now d c maker closed made empty is (inr (inl same)) = subst (IsImage opened gs (length gs) d) (sym (same ∙ ap (λ (f : Content). with_file (file name p) f d) put))
      (made_step name p now d (Some (made_page maker p ∷ [])) maker closed made (ap (is_from maker.at) empty) (made_alike p maker) is)
    where
      put : option_map (put_page 0 (made_page maker p)) (d (file name p)) ≡ Some (made_page maker p ∷ [])
      put = ap (option_map (put_page 0 (made_page maker p))) empty ∙ ap Some (put_empty (made_page maker p))
  first_step name p now d c maker closed made empty is (inr (inr torn)) = absurd (not_torn name p torn.0)

  no_file : (last : Option (Option Maker)) → IsCurrent last None → ⊥
  no_file None is = (cc)
  no_file (Some None) is = is
  no_file (Some (Some maker)) is = (cc)

  -- A page of an open table is written of which each front that has the forced groups makes the same, and that it has.
  pub write_step : (forced : ℕ) (name : List ℕ) (p : Part) (n : ℕ) (page : List ℕ) (now : Folder) → IsTrue (opened name)
      → ((m : ℕ) → forced ≤ m → m ≤ length gs → (life_of name (take m gs)).last ≡ (life_of name gs).last)
      → ((m : ℕ) → forced ≤ m → m ≤ length gs → redo name p n (life_of name (take m gs)).since (seen page) ≡ page_in (tables_of now (take m gs) name) p n)
      → ((m : ℕ) → forced ≤ m → m ≤ length gs → n < count_in (tables_of now (take m gs) name) p)
      → (n ≡ 0 → (maker : Maker) → (life_of name gs).last ≡ Some (Some maker) → lsn_number maker.at ≤ page_number page) → IsNeutral opened gs forced now (MayWrite (file name p) n page)
  write_step forced name p n page now on lasts made within first d c is (inl same) = none_done forced now d c is same
  write_step forced name p n page now on lasts made within first d c is (inr (inr torn)) = absurd (not_torn name p torn.0)
  write_step forced name p n page now on lasts made within first d c is (inr (inl same)) = by (d (file name p)) refl
    where
      by : (content : Content) → d (file name p) ≡ content → IsImage opened gs forced d c
      by None none = absurd (no_file (life_of name gs).last (subst (IsCurrent (life_of name gs).last) none (is.current name on p)))
      by (Some pages) some = subst (IsImage opened gs forced d) (sym (same ∙ ap (λ (f : Content). with_file (file name p) (option_map (put_page n page) f) d) some)) (record {
        agrees = record {
          tables = λ m lo hi. one_name name (take m gs) d put (aside name p (Some (put_page n page pages)) d)
              (written_alike name (take m gs) p d pages some (λ part. subst (λ (l : Option (Option Maker)). IsCurrent l (d (file name part))) (sym (lasts m lo hi)) (is.current name on part)) n page
              (made m lo hi ∙ ap (λ (t : Option Table). page_in t p n) (is.agrees.tables m lo hi name)) (subst (λ (t : Option Table). n < count_in t p) (is.agrees.tables m lo hi name) (within m lo hi))
              (subst (λ (l : Option (Option Maker)). IsCurrent l (Some (put_page n page pages))) (sym (lasts m lo hi)) after));
        };
        current = λ other lit part. now_current other part lit (same_name name other) refl;
      })
        where
          put : Folder
          put = with_file (file name p) (Some (put_page n page pages)) d

          after : IsCurrent (life_of name gs).last (Some (put_page n page pages))
          after = current_put (life_of name gs).last n page pages (subst (IsCurrent (life_of name gs).last) some (is.current name on p)) first

          mine : (part : Part) (b : Bool) → same_part p part ≡ b → IsCurrent (life_of name gs).last (put (file name part))
          mine part true here = subst (λ (q : Part). IsCurrent (life_of name gs).last (put (file name q))) (part_is p part here) (subst (IsCurrent (life_of name gs).last) (sym (with_file-same (file name p) (Some (put_page n page pages)) d)) after)
          mine part false else = subst (IsCurrent (life_of name gs).last) (sym (with_file-other (file name p) (file name part) (Some (put_page n page pages)) d (apart_part name p part else))) (is.current name on part)

          now_current : (other : List ℕ) (part : Part) → IsTrue (opened other) → (b : Bool) → same_name name other ≡ b → IsCurrent (life_of other gs).last (put (file other part))
          now_current other part lit true here = subst (λ (k : List ℕ). IsCurrent (life_of k gs).last (put (file k part))) ((bytes_decides name other).0 here) (mine part (same_part p part) refl)
          now_current other part lit false else = subst (IsCurrent (life_of other gs).last) (sym (aside name p (Some (put_page n page pages)) d other part else)) (is.current other lit part)
