-- Calls of a host that leave the tables alone, and one after another; groups between.
use Rattle.std.proofs.Common.{◌≡◌, ◌∙◌, ◌||◌, ℕ, zero, suc, ◌≤◌, Bool, true, false, List, [], ◌∷◌, ◌++◌, length, take, ap, sym, refl, subst, Option, None, Some}
use Rattle.std.specs.Prelude.{IsTrue}
use Rattle.std.specs.Cmp.Lexicographic.{bytes_decides}
use Rattle.std.proofs.lemmas.List.{append-nil}
use Rattle.aria_page.specs.declared.place.Part.{Part}
use Rattle.aria_host.specs.Folder.{Folder}
use Rattle.aria_host.specs.State.{State}
use Rattle.aria_host.specs.Steps.{Follows}
use Rattle.aria_host.specs.Calls.{TellsNothing, Narrows, Syncs}
use Rattle.aria_host.specs.Moments.{LeavesOthers}
use Rattle.aria_host.specs.Folder.{is_log}
use Rattle.aria_host.proofs.Moments.{OnlyNow, started, goes_on, joined, sync_narrows}
use Rattle.aria_record.specs.Logged.{Logged}
use Rattle.aria_value.specs.Named.{same_name}
use Rattle.aria_recovery.specs.Tables.{Maker, Life, life_of, lives, told_by, file, Agrees, IsCurrent, AreCurrent}
use Rattle.aria_recovery.specs.Images.{IsImage, AreImages, AtTables, Calm}
use Rattle.aria_recovery.proofs.Agreeing.{AreOlder, life_push, agrees_self, agrees_on, agrees_forced, agrees_push}
use Rattle.aria_recovery.proofs.Imaging.{images_after, log_step}
use Rattle.aria_recovery.proofs.Stepping.{tables_same, no_log}

abbrev none_told : List ℕ
none_told = []

nothing : (n : ℕ) → take n none_told ≡ []
nothing zero = refl
nothing (suc n) = refl

module _ (opened : List ℕ → Bool) where
  pub calm_none : (s : State) (gs : List Logged) (forced : ℕ) → OnlyNow s → AreImages opened s gs forced → Calm opened s s gs forced
  calm_none s gs forced only images = record {
    moments = started s (AtTables s gs forced) (λ c b left. let now = only c b left in record { agrees = (images c now.0).agrees; told_is = now.1 });
    images = images;
    folder = agrees_self gs forced s.folder;
    out = refl;
    err = refl;
  }

  -- one call
  pub calm_call : (s t : State) (gs : List Logged) (forced : ℕ) (step : Folder → Folder → Type 0) → OnlyNow s → t.may_leave t.folder → AreImages opened s gs forced
      → ((d c : Folder) → s.may_leave d → step d c → IsImage opened gs forced d c) → Follows step s t → TellsNothing s t → Calm opened s t gs forced
  calm_call s t gs forced step only now images neutral follows tells = record {
    moments = goes_on s s t none_told (AtTables s gs forced) (calm_none s gs forced only images).moments tells.time
        (λ c n leaves. record { agrees = agrees_on gs forced s.folder t.folder c folder (after c leaves).agrees; told_is = ap (λ (l : List ℕ). s.out ++ l) (nothing n) ∙ append-nil s.out });
    images = after;
    folder = folder;
    out = tells.out;
    err = tells.err;
  }
    where
      after : AreImages opened t gs forced
      after = images_after opened gs forced s t step images neutral follows now

      folder : Agrees gs forced s.folder t.folder
      folder = let here = follows t.folder now in agrees_on gs forced s.folder here.0 t.folder (images here.0 here.1).agrees (neutral here.0 t.folder here.1 here.2).agrees

  -- one after another
  pub calm_on : (a b c : State) (gs : List Logged) (forced : ℕ) → Calm opened a b gs forced → Calm opened b c gs forced → Calm opened a c gs forced
  calm_on a b c gs forced first second = record {
    moments = joined a b c (AtTables a gs forced) (AtTables b gs forced) first.moments second.moments (λ f told at. record { agrees = agrees_on gs forced a.folder b.folder f first.folder at.agrees; told_is = at.told_is ∙ first.out });
    images = second.images;
    folder = agrees_on gs forced a.folder b.folder c.folder first.folder second.folder;
    out = second.out ∙ first.out;
    err = second.err ∙ first.err;
  }

  -- a call that only looks, and may bring something to the disk
  pub calm_look : (s t : State) (gs : List Logged) (forced : ℕ) → OnlyNow s → t.may_leave t.folder → AreImages opened s gs forced → Narrows s t → Calm opened s t gs forced
  calm_look s t gs forced only now images looks = calm_call s t gs forced (λ d c. c ≡ d) only now images
      (λ d c left same. record {
        agrees = subst (λ (f : Folder). Agrees gs forced d f) (sym same) (agrees_self gs forced d);
        current = λ other on part. subst (λ (f : Folder). IsCurrent (life_of other gs).last (f (file other part))) (sym same) ((images d left).current other on part);
      })
      (λ c leaves. (c, looks.no_more c leaves, refl)) looks.tells

  -- a sync
  pub calm_sync : (s t : State) (gs : List Logged) (forced : ℕ) (name : List ℕ) (p : Part) (done : Bool) → OnlyNow s → t.may_leave t.folder → AreImages opened s gs forced → Syncs (file name p) s t done → Calm opened s t gs forced
  calm_sync s t gs forced name p done only now images synced = calm_look s t gs forced only now images (sync_narrows s t synced)

  -- the log's files alone are written
  pub images_log : (s t : State) (gs : List Logged) (forced : ℕ) → AreImages opened s gs forced → LeavesOthers is_log s t → AreImages opened t gs forced
  images_log s t gs forced images others c leaves =
      let to = others.images c leaves in
      let after = log_step opened gs forced s.folder to.0 c to.2 (images to.0 to.1) in record {
        agrees = agrees_on gs forced t.folder s.folder c
            (record { tables = λ m lo hi name. tables_same s.folder t.folder (take m gs) name (λ part. others.folder (file name part) (no_log name part)) })
            (agrees_on gs forced s.folder to.0 c (images to.0 to.1).agrees after.agrees);
        current = after.current;
      }

  -- A group more: a group that makes files finds older ones or none, and one that makes or drops files is of no open table.
  pub image_push : (gs : List Logged) (g : Logged) (forced : ℕ) (d c : Folder) → forced ≤ length gs
      → ((name : List ℕ) (maker : Maker) → told_by name g ≡ Some (Some maker) → AreOlder name maker.at d × AreOlder name maker.at c)
      → ((name : List ℕ) → IsTrue (opened name) → told_by name g ≡ None) → IsImage opened gs forced d c → IsImage opened (gs ++ g ∷ []) forced d c
  image_push gs g forced d c few older shut is = record {
    agrees = agrees_push gs g forced d c few older is.agrees;
    current = λ name on part. subst (λ (l : Option (Option Maker)). IsCurrent l (c (file name part)))
        (sym (ap (λ (l : Life). l.last) (life_push name (record { last = None; since = [] }) gs g) ∙ ap (λ (s : Option (Option Maker)). (lives g (life_of name gs) s).last) (shut name on))) (is.current name on part);
  }

  pub image_forced : (gs : List Logged) (forced more : ℕ) (d c : Folder) → forced ≤ more → IsImage opened gs forced d c → IsImage opened gs more d c
  image_forced gs forced more d c le is = record { agrees = agrees_forced gs forced more d c le is.agrees; current = is.current }

  -- a table is opened, or shut
  pub image_opened : (gs : List Logged) (forced : ℕ) (name : List ℕ) (d c : Folder) → AreCurrent name gs c → IsImage opened gs forced d c → IsImage (λ n. same_name name n || opened n) gs forced d c
  image_opened gs forced name d c now is = record { agrees = is.agrees; current = λ other on part. by other part (same_name name other) refl on }
    where
      by : (other : List ℕ) (part : Part) (b : Bool) → same_name name other ≡ b → IsTrue (b || opened other) → IsCurrent (life_of other gs).last (c (file other part))
      by other part true same on = subst (λ (k : List ℕ). IsCurrent (life_of k gs).last (c (file k part))) ((bytes_decides name other).0 same) (now part)
      by other part false off on = is.current other on part

  pub image_shut : (gs : List Logged) (forced : ℕ) (less : List ℕ → Bool) (d c : Folder) → ((n : List ℕ) → IsTrue (less n) → IsTrue (opened n)) → IsImage opened gs forced d c → IsImage less gs forced d c
  image_shut gs forced less d c fewer is = record { agrees = is.agrees; current = λ n on part. is.current n (fewer n on) part }
