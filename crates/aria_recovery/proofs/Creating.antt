-- The calls of create, behind its group, and those of drop.
use Rattle.std.proofs.Common.{◌≡◌, ◌∙◌, ◌||◌, ℕ, ◌≤◌, Bool, true, false, List, [], ◌∷◌, length, take, nat_le, ap, sym, refl, subst, arith, Option, None, Some, inl, inr}
use Rattle.std.specs.Prelude.{is_some}
use Rattle.std.specs.Option.{option_map}
use Rattle.std.proofs.lemmas.Bool.Decides.{nat_tests}
use Rattle.aria_page.specs.Lsn.{lsn_number}
use Rattle.aria_page.specs.declared.place.Part.{Part}
use Rattle.aria_page.specs.declared.place.Part.TheVariants.{Keys, Rows}
use Rattle.aria_host.specs.Folder.{Folder, put_page}
use Rattle.aria_host.specs.State.{State}
use Rattle.aria_host.specs.Steps.{Follows, MayMake, MayWrite}
use Rattle.aria_host.specs.Calls.{Creates, Removes, Writes, Syncs, TellsNothing}
use Rattle.aria_host.proofs.Files.{with_file-same, make_others, write_others, with_file-other}
use Rattle.aria_record.specs.Logged.{Logged}
use Rattle.aria_value.specs.Named.{same_name}
use Rattle.aria_recovery.specs.Redo.{Content, same_part, page_number}
use Rattle.aria_recovery.specs.Tables.{Maker, life_of, is_from, file, tables_of, IsCurrent, AreCurrent, made_page}
use Rattle.aria_recovery.specs.Images.{AreImages, Calm}
use Rattle.aria_recovery.proofs.Stepping.{apart_part}
use Rattle.aria_recovery.proofs.Imaging.{create_step, first_step, removed_step, dropped_step, put_empty}
use Rattle.aria_recovery.proofs.Naming.{names_write}
use Rattle.aria_recovery.proofs.Calming.{calm_call, calm_on, calm_sync, image_opened}
use Rattle.aria_host.proofs.Moments.{OnlyNow}

-- the file as it is in each image
abbrev pub InAll : State → List ℕ → Part → Content → Type 0
InAll s name p content = (c : Folder) → s.may_leave c → c (file name p) ≡ content

-- what every host's state has: this moment alone, and the folder as it reads
pub record IsSteady (s : State) : Type 0 where
  pub only : OnlyNow s
  pub now : s.may_leave s.folder

-- A file was made or removed for good: so it is in each image.
pub made_in_all : (name : List ℕ) (p : Part) (content : Content) (s t : State) → Follows (MayMake (file name p) content true) s t → InAll t name p content
made_in_all name p content s t follows c leaves = let to = follows c leaves in by to.0 to.2
  where
    by : (d : Folder) → MayMake (file name p) content true d c → c (file name p) ≡ content
    by d (inl same) = ap (λ (f : Folder). f (file name p)) same ∙ with_file-same (file name p) content d
    by d (inr (failed, same)) = absurd (cc)

-- the other file of the name stays
pub made_aside : (name : List ℕ) (p q : Part) (content was : Content) (done : Bool) (s t : State) → same_part p q ≡ false → Follows (MayMake (file name p) content done) s t → InAll s name q was → InAll t name q was
made_aside name p q content was done s t off follows is c leaves = let to = follows c leaves in make_others (file name p) (file name q) content done to.0 c (apart_part name p q off) to.2 ∙ is to.0 to.1

written_aside : (name : List ℕ) (p q : Part) (page : List ℕ) (was : Content) (s t : State) → same_part p q ≡ false → Follows (MayWrite (file name p) 0 page) s t → InAll s name q was → InAll t name q was
written_aside name p q page was s t off follows is c leaves = let to = follows c leaves in write_others (file name p) (file name q) 0 page to.0 c (apart_part name p q off) to.2 ∙ is to.0 to.1

-- a file is there in each image
abbrev pub IsInAll : State → List ℕ → Part → Type 0
IsInAll s name p = (c : Folder) → s.may_leave c → is_some (c (file name p)) ≡ true

pub all_there : (name : List ℕ) (p : Part) (pages : List (List ℕ)) (s : State) → InAll s name p (Some pages) → IsInAll s name p
all_there name p pages s is c leaves = ap is_some (is c leaves)

-- it stays when a page of a table is written
pub written_there : (name : List ℕ) (p q : Part) (n : ℕ) (page : List ℕ) (s t : State) → Follows (MayWrite (file name p) n page) s t → IsInAll s name q → IsInAll t name q
written_there name p q n page s t follows is c leaves = let to = follows c leaves in names_write name p n page to.0 c to.2 name q ∙ is to.0 to.1

module _ (opened : List ℕ → Bool) (gs : List Logged) (name : List ℕ) (closed : opened name ≡ false) where
  module _ (maker : Maker) (made : (life_of name gs).last ≡ Some (Some maker)) where
    -- an empty file in the place of one that is older or isn't there; content None: such a file is removed
    pub calm_make : (p : Part) (s t : State) (content : Content) (done : Bool) → is_from maker.at content ≡ false → IsSteady s → IsSteady t → AreImages opened s gs (length gs) → ((c : Folder) → s.may_leave c → is_from maker.at (c (file name p)) ≡ false)
        → Follows (MayMake (file name p) content done) s t → TellsNothing s t → Calm opened s t gs (length gs)
    calm_make p s t content done empty at to images older follows tells = calm_call opened s t gs (length gs) (MayMake (file name p) content done) at.only to.now images
        (λ d c left step. create_step opened gs name p s.folder d c content done maker closed made (older d left) empty (images d left) step) follows tells

    -- its first page
    pub calm_first : (p : Part) (s t : State) (done : Bool) → IsSteady s → IsSteady t → AreImages opened s gs (length gs) → InAll s name p (Some []) → Writes (file name p) 0 (made_page maker p) s t done → Calm opened s t gs (length gs)
    calm_first p s t done at to images empty call = calm_call opened s t gs (length gs) (MayWrite (file name p) 0 (made_page maker p)) at.only to.now images
        (λ d c left step. first_step opened gs name p s.folder d c maker closed made (empty d left) (images d left) step) call.images call.tells

    first_reads : (p : Part) (s t : State) → s.folder (file name p) ≡ Some [] → Writes (file name p) 0 (made_page maker p) s t true → t.folder (file name p) ≡ Some (made_page maker p ∷ [])
    first_reads p s t empty call = ap (λ (f : Folder). f (file name p)) (call.whole (cc)) ∙ with_file-same (file name p) (option_map (put_page 0 (made_page maker p)) (s.folder (file name p))) s.folder
        ∙ ap (option_map (put_page 0 (made_page maker p))) empty ∙ ap Some (put_empty opened gs (made_page maker p))

    -- CREATE: behind its group, all forced, from files that are older or aren't there in any image
    pub created : (s0 s1 s2 s3 s4 s5 s6 : State) → IsSteady s0 → IsSteady s1 → IsSteady s2 → IsSteady s3 → IsSteady s4 → IsSteady s5 → IsSteady s6
        → ((p : Part) → page_number (made_page maker p) ≡ lsn_number maker.at) → AreImages opened s0 gs (length gs) → ((p : Part) (c : Folder) → s0.may_leave c → is_from maker.at (c (file name p)) ≡ false)
        → Creates (file name Keys) s0 s1 true → Creates (file name Rows) s1 s2 true → Writes (file name Keys) 0 (made_page maker Keys) s2 s3 true → Writes (file name Rows) 0 (made_page maker Rows) s3 s4 true
        → Syncs (file name Keys) s4 s5 true → Syncs (file name Rows) s5 s6 true
        → Calm opened s0 s6 gs (length gs) × AreImages (λ n. same_name name n || opened n) s6 gs (length gs)
    created s0 s1 s2 s3 s4 s5 s6 h0 h1 h2 h3 h4 h5 h6 number images older keys rows keys_page rows_page keys_sync rows_sync = (whole, after)
      where
        c1 : Calm opened s0 s1 gs (length gs)
        c1 = calm_make Keys s0 s1 (Some []) true refl h0 h1 images (older Keys) keys.images keys.tells

        rows_older : (c : Folder) → s1.may_leave c → is_from maker.at (c (file name Rows)) ≡ false
        rows_older c leaves = let to = keys.images c leaves in ap (is_from maker.at) (make_others (file name Keys) (file name Rows) (Some []) true to.0 c refl to.2) ∙ older Rows to.0 to.1

        c2 : Calm opened s1 s2 gs (length gs)
        c2 = calm_make Rows s1 s2 (Some []) true refl h1 h2 c1.images rows_older rows.images rows.tells

        keys2 : InAll s2 name Keys (Some [])
        keys2 = made_aside name Rows Keys (Some []) (Some []) true s1 s2 refl rows.images (made_in_all name Keys (Some []) s0 s1 keys.images)

        rows2 : InAll s2 name Rows (Some [])
        rows2 = made_in_all name Rows (Some []) s1 s2 rows.images

        c3 : Calm opened s2 s3 gs (length gs)
        c3 = calm_first Keys s2 s3 true h2 h3 c2.images keys2 keys_page

        rows3 : InAll s3 name Rows (Some [])
        rows3 = written_aside name Keys Rows (made_page maker Keys) (Some []) s2 s3 refl keys_page.images rows2

        c4 : Calm opened s3 s4 gs (length gs)
        c4 = calm_first Rows s3 s4 true h3 h4 c3.images rows3 rows_page

        keys4 : s4.folder (file name Keys) ≡ Some (made_page maker Keys ∷ [])
        keys4 = ap (λ (f : Folder). f (file name Keys)) (rows_page.whole (cc)) ∙ with_file-other (file name Rows) (file name Keys) (option_map (put_page 0 (made_page maker Rows)) (s3.folder (file name Rows))) s3.folder refl
            ∙ first_reads Keys s2 s3 (keys2 s2.folder h2.now) keys_page

        rows4 : s4.folder (file name Rows) ≡ Some (made_page maker Rows ∷ [])
        rows4 = first_reads Rows s3 s4 (rows3 s3.folder h3.now) rows_page

        c5 : Calm opened s4 s5 gs (length gs)
        c5 = calm_sync opened s4 s5 gs (length gs) name Keys true h4.only h5.now c4.images keys_sync

        c6 : Calm opened s5 s6 gs (length gs)
        c6 = calm_sync opened s5 s6 gs (length gs) name Rows true h5.only h6.now c5.images rows_sync

        whole : Calm opened s0 s6 gs (length gs)
        whole = calm_on opened s0 s1 s6 gs (length gs) c1 (calm_on opened s1 s2 s6 gs (length gs) c2 (calm_on opened s2 s3 s6 gs (length gs) c3
            (calm_on opened s3 s4 s6 gs (length gs) c4 (calm_on opened s4 s5 s6 gs (length gs) c5 c6))))

        first_in : (p : Part) (content : Content) → content ≡ Some (made_page maker p ∷ []) → IsCurrent (life_of name gs).last content
        first_in p content is = subst (λ (l : Option (Option Maker)). IsCurrent l content) (sym made) (ap (is_from maker.at) is ∙ ap (nat_le (lsn_number maker.at)) (number p) ∙ le_self (lsn_number maker.at))
          where
            le_self : (n : ℕ) → nat_le n n ≡ true
            le_self n = grind (arith, nat_tests)

        keys_there : IsInAll s4 name Keys
        keys_there = written_there name Rows Keys 0 (made_page maker Rows) s3 s4 rows_page.images (written_there name Keys Keys 0 (made_page maker Keys) s2 s3 keys_page.images (all_there name Keys [] s2 keys2))

        rows_there : IsInAll s4 name Rows
        rows_there = written_there name Rows Rows 0 (made_page maker Rows) s3 s4 rows_page.images (all_there name Rows [] s3 rows3)

        now_in : (c : Folder) → s6.may_leave c → AreCurrent name gs c
        now_in c leaves Keys = first_in Keys (c (file name Keys)) (keys_sync.durable (cc) c (rows_sync.no_more c leaves) (keys_there c (keys_sync.no_more c (rows_sync.no_more c leaves))) ∙ keys4)
        now_in c leaves Rows = first_in Rows (c (file name Rows)) (rows_sync.durable (cc) c leaves (rows_there c (keys_sync.no_more c (rows_sync.no_more c leaves))) ∙ ap (λ (f : Folder). f (file name Rows)) keys_sync.folder ∙ rows4)

        after : AreImages (λ n. same_name name n || opened n) s6 gs (length gs)
        after c leaves = image_opened opened gs (length gs) name s6.folder c (now_in c leaves) (whole.images c leaves)

    -- MADE ANEW: at opening, one file that is older than its table, or isn't there
    pub anew : (p : Part) (s0 s1 s2 s3 s4 : State) → IsSteady s0 → IsSteady s1 → IsSteady s2 → IsSteady s3 → IsSteady s4 → AreImages opened s0 gs (length gs)
        → ((c : Folder) → s0.may_leave c → is_from maker.at (c (file name p)) ≡ false) → Removes (file name p) s0 s1 true → Creates (file name p) s1 s2 true → Writes (file name p) 0 (made_page maker p) s2 s3 true → Syncs (file name p) s3 s4 true
        → Calm opened s0 s4 gs (length gs) × InAll s4 name p (Some (made_page maker p ∷ []))
    anew p s0 s1 s2 s3 s4 h0 h1 h2 h3 h4 images older removed empty page synced = (
      calm_on opened s0 s1 s4 gs (length gs) c1 (calm_on opened s1 s2 s4 gs (length gs) c2 (calm_on opened s2 s3 s4 gs (length gs) c3 c4)),
      λ c leaves. synced.durable (cc) c leaves (written_there name p p 0 (made_page maker p) s2 s3 page.images (all_there name p [] s2 empty2) c (synced.no_more c leaves)) ∙ first_reads p s2 s3 (empty2 s2.folder h2.now) page,
    )
      where
        c1 : Calm opened s0 s1 gs (length gs)
        c1 = calm_make p s0 s1 None true refl h0 h1 images older removed.images removed.tells

        c2 : Calm opened s1 s2 gs (length gs)
        c2 = calm_make p s1 s2 (Some []) true refl h1 h2 c1.images (λ c leaves. ap (is_from maker.at) (made_in_all name p None s0 s1 removed.images c leaves)) empty.images empty.tells

        empty2 : InAll s2 name p (Some [])
        empty2 = made_in_all name p (Some []) s1 s2 empty.images

        c3 : Calm opened s2 s3 gs (length gs)
        c3 = calm_first p s2 s3 true h2 h3 c2.images empty2 page

        c4 : Calm opened s3 s4 gs (length gs)
        c4 = calm_sync opened s3 s4 gs (length gs) name p true h3.only h4.now c3.images synced

  -- DROP: behind its group, all forced, a file is removed
  pub calm_dropped : (p : Part) (s t : State) (done : Bool) → (life_of name gs).last ≡ Some None → IsSteady s → IsSteady t → AreImages opened s gs (length gs) → Removes (file name p) s t done → Calm opened s t gs (length gs)
  calm_dropped p s t done dropped at to images call = calm_call opened s t gs (length gs) (MayMake (file name p) None done) at.only to.now images
      (λ d c left step. dropped_step opened gs name p s.folder None done closed dropped d c (images d left) step) call.images call.tells

  -- DROP: both files, the index file first
  pub dropped : (s0 s1 s2 : State) (done : Bool) → (life_of name gs).last ≡ Some None → IsSteady s0 → IsSteady s1 → IsSteady s2 → AreImages opened s0 gs (length gs) → Removes (file name Keys) s0 s1 true → Removes (file name Rows) s1 s2 done
      → Calm opened s0 s2 gs (length gs)
  dropped s0 s1 s2 done last h0 h1 h2 images keys rows =
      let c1 = calm_dropped Keys s0 s1 true last h0 h1 images keys in
      calm_on opened s0 s1 s2 gs (length gs) c1 (calm_dropped Rows s1 s2 done last h1 h2 c1.images rows)

  -- a left-over of a name that has no table by any front
  pub calm_left_over : (p : Part) (s t : State) (forced : ℕ) (done : Bool) → ((m : ℕ) → forced ≤ m → m ≤ length gs → tables_of s.folder (take m gs) name ≡ None) → IsSteady s → IsSteady t
      → AreImages opened s gs forced → Removes (file name p) s t done → Calm opened s t gs forced
  calm_left_over p s t forced done none at to images call = calm_call opened s t gs forced (MayMake (file name p) None done) at.only to.now images
      (λ d c left step. removed_step opened gs name p forced s.folder done closed none d c (images d left) step) call.images call.tells
