-- One group more is redone, page by page.
use Rattle.std.proofs.Common.{◌≡◌, ◌∙◌, ◌&&◌, ◌⊎◌, inl, inr, ℕ, ◌+◌, ◌<◌, ◌≤◌, Bool, true, false, cond, nat_eq, nat_lt, List, [], ◌∷◌, ◌++◌, length, drop, ap, sym, refl, subst, arith, append_assoc, Option, None, Some}
use Rattle.std.specs.Prelude.{is_some}
use Rattle.std.specs.Option.{option_map}
use Rattle.std.specs.Map.{update}
use Rattle.std.proofs.lemmas.Bool.{cases_Bool, cases_lt, eqb-true, eq-eqb}
use Rattle.std.proofs.lemmas.List.{drop-append-le}
use Rattle.aria_page.specs.declared.edit.Edit.{Edit}
use Rattle.aria_page.specs.declared.group.RedoKind.{RedoKind}
use Rattle.aria_page.specs.declared.place.Part.{Part}
use Rattle.aria_page.specs.Edit.{all_edited}
use Rattle.aria_host.specs.Folder.{Folder}
use Rattle.aria_record.specs.declared.record.Record.{Record}
use Rattle.aria_record.specs.declared.record.Record.TheVariants.{Redo}
use Rattle.aria_record.specs.Logged.{Logged}
use Rattle.aria_cache.specs.Frames.{Held, redone_held}
use Rattle.aria_recovery.specs.Redo.{Seen, number_at, is_some_edit, stepped, edits_in, edits_at, edits_on, touches, reach}
use Rattle.aria_recovery.specs.Tables.{life_of}
use Rattle.aria_recovery.specs.Noted.{last_edit_in, last_edit}
use Rattle.aria_recovery.specs.Frames.{Frames, Spot, Spots, Progress, AreApart, as_seen, raw_at, redone_at, edits_of, base_of, PageOn, FramesOver}
use Rattle.aria_recovery.specs.Midway.{raised, midway, EditsPage}
use Rattle.aria_recovery.proofs.Comparing.{lt_true, lt_false}
use Rattle.aria_recovery.proofs.Holding.{topped_same, stepped_same, is_changed, page_free}
use Rattle.aria_recovery.proofs.Frames.{frame_one}
use Rattle.aria_recovery.proofs.Behind.{redone_next, edits_begin, since_behind}
use Rattle.aria_recovery.proofs.Framing.{reach_touched}
use Rattle.aria_recovery.proofs.Placing.{edits_more, edits_apart}

-- ---- one page

-- A PAGE GETS A GROUP that it lacks
page_redone : (known : Bool) (raw made : Seen) (es : List Edit) (g at next : ℕ) (h : Held) → is_some_edit es ≡ true → h.lsn < g → g < next → PageOn known (Some h) false raw made [] at next
    → PageOn known (Some (redone_held g es h)) false raw (stepped g es made) [] at next
page_redone known raw made [] g at next h some low below is = absurd (cc)
page_redone known raw made (e ∷ es) g at next h some low below is = record {
  held = λ k there. topped_same at [] (stepped g (e ∷ es) made) refl ∙ ap (stepped g (e ∷ es)) (page_free known h raw made [] at next is) ∙ ap (λ (b : Bool). Some (cond b (g, all_edited (e ∷ es) h.body) (h.lsn, h.body))) (lt_true h.lsn g low) ∙ ap (option_map as_seen) there;
  is_known = λ k there. is.is_known h refl;
  below = λ k there. subst (λ (n : ℕ). n < next) (ap lsn_in there) below;
  clean = λ off. absurd (cc);
  pinned = refl;
  on_top = λ on. absurd (cc);
}
  where
    lsn_in : Option Held → ℕ
    lsn_in None = g
    lsn_in (Some k) = k.lsn

-- a page that has it stays
page_past : (known : Bool) (raw made : Seen) (es : List Edit) (g at next : ℕ) (h : Held) → g ≤ h.lsn → PageOn known (Some h) false raw made [] at next → PageOn known (Some h) false raw (stepped g es made) [] at next
page_past known raw made es g at next h past is = subst (λ (x : Seen). PageOn known (Some h) false raw x [] at next) (sym same) is
  where
    off : is_changed g es made ≡ false
    off = ap (is_changed g es) (page_free known h raw made [] at next is) ∙ ap (λ (b : Bool). is_some_edit es && b) (lt_false h.lsn g past) ∙ none (is_some_edit es)
      where
        none : (b : Bool) → (b && false) ≡ false
        none true = refl
        none false = refl

    same : stepped g es made ≡ made
    same = stepped_same g es made off

-- a page that had the group doesn't stand before it
stepped_past : (known : Bool) (raw made : Seen) (es : List Edit) (g at next : ℕ) (h : Held) → is_some_edit es ≡ true → PageOn known (Some h) false raw (stepped g es made) [] at next → g ≤ h.lsn
stepped_past known raw made [] g at next h some is = absurd (cc)
stepped_past known raw made (e ∷ es) g at next h some is = by made (page_free known h raw (stepped g (e ∷ es) made) [] at next is)
  where
    first_of : Seen → ℕ
    first_of None = 0
    first_of (Some p) = p.0

    by : (x : Seen) → stepped g (e ∷ es) x ≡ Some (as_seen h) → g ≤ h.lsn
    by None same = absurd (cc)
    by (Some s) same = elim (cases_Bool (nat_lt s.0 g)) [
      | inl low ↦ let n : g ≡ h.lsn = ap first_of (sym (ap (λ (b : Bool). Some (cond b (g, all_edited (e ∷ es) s.1) s)) low) ∙ same) in omega (arith, n)
      | inr high ↦
          let n : s.0 ≡ h.lsn = ap first_of (sym (ap (λ (b : Bool). Some (cond b (g, all_edited (e ∷ es) s.1) s)) high) ∙ same) in
          let past : g ≤ s.0 = not_low s.0 g high in omega (arith, n, past)
    ]
      where
        not_low : (a b : ℕ) → nat_lt a b ≡ false → b ≤ a
        not_low a b off = elim (cases_lt a b) [
          | inl less ↦ absurd (let f : true ≡ false = sym (lt_true a b less) ∙ off in (cc))
          | inr more ↦ more
        ]

-- ---- frames, where the open group has no entry

-- the same page is made of each by another progress
pub over_alike : (known : ℕ → Bool) (frames : Frames) (pins : ℕ → Bool) (place : Spots) (d : Folder) (gs : List Logged) (redone redone' : Progress) (at next : ℕ)
    → ((k : ℕ) → redone_at gs (redone' k) (place k) (raw_at d (place k)) ≡ redone_at gs (redone k) (place k) (raw_at d (place k))) → FramesOver known frames pins place d gs redone [] at next → FramesOver known frames pins place d gs redone' [] at next
over_alike known frames pins place d gs redone redone' at next same is k =
    subst (λ (es : List Edit). PageOn (known k) (frames k) (pins k) (raw_at d (place k)) (redone_at gs (redone' k) (place k) (raw_at d (place k))) es at next) (edits_begin gs (redone k) (place k) ∙ sym (edits_begin gs (redone' k) (place k)))
    (subst (λ (x : Seen). PageOn (known k) (frames k) (pins k) (raw_at d (place k)) x (edits_of gs (redone k) [] (place k)) at next) (sym (same k)) (is k))

module _ (known : ℕ → Bool) (frames : Frames) (pins : ℕ → Bool) (place : Spots) (d : Folder) (gs before after : List Logged) (g : Logged) (redone : Progress) (n : ℕ) (s : Spot) (h : Held) (at next : ℕ) (page : EditsPage place redone gs before after g n s) where
  abbrev i : ℕ
  i = length before

  abbrev mine : List Edit
  mine = edits_on s.name s.part s.page g.group

  abbrev raw : Seen
  raw = raw_at d (place n)

  abbrev Over : (ℕ → Option Held) → Progress → Type 0
  Over map progress = FramesOver known map pins place d gs progress [] at next

  -- the page with the group
  next_is : redone_at gs (i + 1) (place n) raw ≡ stepped (number_at g.at) mine (redone_at gs i (place n) raw)
  next_is =
      redone_next before after g gs page.whole (place n) raw
      ∙ ap (λ (o : Option Spot). stepped (number_at g.at) (edits_of gs i g.group o) (redone_at gs i (place n) raw)) page.here
      ∙ ap (λ (b : Bool). stepped (number_at g.at) (cond b [] mine) (redone_at gs i (place n) raw)) (lt_false i (base_of s.name gs) page.counts)

  here_is : (j : ℕ) → redone n ≡ j → frames n ≡ Some h → pins n ≡ false → Over frames redone → PageOn (known n) (Some h) false raw (redone_at gs j (place n) raw) [] at next
  here_is j same there free is =
      subst (λ (l : List Edit). PageOn (known n) (Some h) false raw (redone_at gs j (place n) raw) l at next) (edits_begin gs (redone n) (place n))
      (subst (λ (m : ℕ). PageOn (known n) (Some h) false raw (redone_at gs m (place n) raw) (edits_of gs (redone n) [] (place n)) at next) same
      (subst (λ (b : Bool). PageOn (known n) (Some h) b raw (redone_at gs (redone n) (place n) raw) (edits_of gs (redone n) [] (place n)) at next) free
      (subst (λ (f : Option Held). PageOn (known n) f (pins n) raw (redone_at gs (redone n) (place n) raw) (edits_of gs (redone n) [] (place n)) at next) there (is n))))

  -- the page of the key changed, with the group redone on it
  changed : (frame' : Option Held) → pins n ≡ false → PageOn (known n) frame' false raw (redone_at gs (i + 1) (place n) raw) [] at next → Over frames redone → Over (update nat_eq frames n frame') (raised n (i + 1) redone)
  changed frame' free here is =
      frame_one known frames pins (λ k. raw_at d (place k)) (λ k. redone_at gs (redone k) (place k) (raw_at d (place k))) (λ k. edits_of gs (redone k) [] (place k)) at next n frame' pins
      (λ k. raw_at d (place k)) (λ k. redone_at gs (raised n (i + 1) redone k) (place k) (raw_at d (place k))) (λ k. edits_of gs (raised n (i + 1) redone k) [] (place k))
      (λ k off. refl) (λ k off. refl) (λ k off. ap (λ (b : Bool). redone_at gs (cond b (i + 1) (redone k)) (place k) (raw_at d (place k))) off) (λ k off. ap (λ (b : Bool). edits_of gs (cond b (i + 1) (redone k)) [] (place k)) off)
      (subst (λ (b : Bool). PageOn (known n) frame' (pins n) raw (redone_at gs (cond b (i + 1) (redone n)) (place n) raw) (edits_of gs (cond b (i + 1) (redone n)) [] (place n)) at next) (sym (eq-eqb n n refl))
      (subst (λ (l : List Edit). PageOn (known n) frame' (pins n) raw (redone_at gs (i + 1) (place n) raw) l at next) (sym (edits_begin gs (i + 1) (place n)))
      (subst (λ (b : Bool). PageOn (known n) frame' b raw (redone_at gs (i + 1) (place n) raw) [] at next) (sym free) here))) is

  -- THE GROUP IS REDONE ON A PAGE that lacks it
  pub over_redone : frames n ≡ Some h → pins n ≡ false → h.lsn < number_at g.at → number_at g.at < next → Over frames redone → Over (update nat_eq frames n (Some (redone_held (number_at g.at) mine h))) (raised n (i + 1) redone)
  over_redone there free low below is = changed (Some (redone_held (number_at g.at) mine h)) free
      (subst (λ (x : Seen). PageOn (known n) (Some (redone_held (number_at g.at) mine h)) false raw x [] at next) (sym next_is)
      (page_redone (known n) raw (redone_at gs i (place n) raw) mine (number_at g.at) at next h page.edits low below (by page.near)))
      is
    where
      by : (redone n ≡ i) ⊎ (redone n ≡ i + 1) → PageOn (known n) (Some h) false raw (redone_at gs i (place n) raw) [] at next
      by (inl first) = here_is i first there free is
      by (inr done) = absurd (
          let past : number_at g.at ≤ h.lsn = stepped_past (known n) raw (redone_at gs i (place n) raw) mine (number_at g.at) at next h page.edits
          (subst (λ (x : Seen). PageOn (known n) (Some h) false raw x [] at next) next_is (here_is (i + 1) done there free is)) in
          omega (arith, past, low))

  -- a page that has it stays
  pub over_past : frames n ≡ Some h → pins n ≡ false → number_at g.at ≤ h.lsn → Over frames redone → Over (update nat_eq frames n (Some h)) (raised n (i + 1) redone)
  over_past there free past is = changed (Some h) free (by page.near) is
    where
      by : (redone n ≡ i) ⊎ (redone n ≡ i + 1) → PageOn (known n) (Some h) false raw (redone_at gs (i + 1) (place n) raw) [] at next
      by (inl first) = subst (λ (x : Seen). PageOn (known n) (Some h) false raw x [] at next) (sym next_is)
          (page_past (known n) raw (redone_at gs i (place n) raw) mine (number_at g.at) at next h past (here_is i first there free is))
      by (inr done) = here_is (i + 1) done there free is

-- ---- a group, record by record

edits_both : (name : List ℕ) (part : Part) (n : ℕ) (rs qs : List Record) → edits_on name part n (rs ++ qs) ≡ edits_on name part n rs ++ edits_on name part n qs
edits_both name part n [] qs = refl
edits_both name part n (r ∷ rs) qs = ap (λ (l : List Edit). edits_at n (edits_in name part r) ++ l) (edits_both name part n rs qs) ∙ sym (append_assoc (edits_at n (edits_in name part r)) (edits_on name part n rs) (edits_on name part n qs))

pub some_front : (es fs : List Edit) → is_some_edit es ≡ true → is_some_edit (es ++ fs) ≡ true
some_front [] fs some = absurd (cc)
some_front (e ∷ es) fs some = refl

pub some_behind : (es fs : List Edit) → is_some_edit fs ≡ true → is_some_edit (es ++ fs) ≡ true
some_behind [] fs some = some
some_behind (e ∷ es) fs some = refl

-- a group edits the page of each of its records
pub touched_here : (s : Spot) (kind : RedoKind) (es : List Edit) (rs more : List Record) → edits_at s.page (edits_in s.name s.part (Redo kind s.name s.part s.page es)) ≡ es → is_some_edit es ≡ true → touches s.name s.part s.page (rs ++ Redo kind s.name s.part s.page es ∷ more) ≡ true
touched_here s kind es rs more here some =
    ap is_some_edit (edits_both s.name s.part s.page rs (Redo kind s.name s.part s.page es ∷ more))
    ∙ some_behind (edits_on s.name s.part s.page rs) (edits_at s.page (edits_in s.name s.part (Redo kind s.name s.part s.page es)) ++ edits_on s.name s.part s.page more)
    (some_front (edits_at s.page (edits_in s.name s.part (Redo kind s.name s.part s.page es))) (edits_on s.name s.part s.page more) (ap is_some_edit here ∙ some))

-- no record was gone through
pub midway_none : (gs : List Logged) (i : ℕ) (place : Spots) (k : ℕ) → midway gs i [] place k ≡ i
midway_none gs i place k = ap (λ (es : List Edit). cond (is_some_edit es) (i + 1) i) (edits_begin gs i (place k))

-- the group before is redone on a page, or this one too
pub midway_near : (gs : List Logged) (i : ℕ) (rs : List Record) (place : Spots) (k : ℕ) → (midway gs i rs place k ≡ i) ⊎ (midway gs i rs place k ≡ i + 1)
midway_near gs i rs place k = by (is_some_edit (edits_of gs i rs (place k)))
  where
    by : (b : Bool) → (cond b (i + 1) i ≡ i) ⊎ (cond b (i + 1) i ≡ i + 1)
    by true = inr refl
    by false = inl refl

-- ALL RECORDS WERE GONE THROUGH: the group is redone on each page
pub midway_all : (gs before after : List Logged) (g : Logged) (place : Spots) (k : ℕ) (x : Seen) → gs ≡ before ++ g ∷ after → redone_at gs (midway gs (length before) g.group place k) (place k) x ≡ redone_at gs (length before + 1) (place k) x
midway_all gs before after g place k x whole = by (edits_of gs (length before) g.group (place k)) refl
  where
    by : (es : List Edit) → edits_of gs (length before) g.group (place k) ≡ es → redone_at gs (midway gs (length before) g.group place k) (place k) x ≡ redone_at gs (length before + 1) (place k) x
    by (e ∷ es) is = ap (λ (l : List Edit). redone_at gs (cond (is_some_edit l) (length before + 1) (length before)) (place k) x) is
    by [] is = ap (λ (l : List Edit). redone_at gs (cond (is_some_edit l) (length before + 1) (length before)) (place k) x) is
        ∙ sym (redone_next before after g gs whole (place k) x ∙ ap (λ (l : List Edit). stepped (number_at g.at) l (redone_at gs (length before) (place k) x)) is)

-- a record that edits no page of a key
pub midway_same : (gs : List Logged) (i : ℕ) (rs rs' : List Record) (place : Spots) (k : ℕ) → edits_of gs i rs' (place k) ≡ edits_of gs i rs (place k) → midway gs i rs' place k ≡ midway gs i rs place k
midway_same gs i rs rs' place k same = ap (λ (es : List Edit). cond (is_some_edit es) (i + 1) i) same

-- a record of a page of a key
pub midway_more : (gs : List Logged) (i : ℕ) (rs : List Record) (place : Spots) (n : ℕ) (s : Spot) (kind : RedoKind) (es : List Edit) → AreApart place → place n ≡ Some s → base_of s.name gs ≤ i → is_some_edit es ≡ true
    → (k : ℕ) → midway gs i (rs ++ Redo kind s.name s.part s.page es ∷ []) place k ≡ raised n (i + 1) (midway gs i rs place) k
midway_more gs i rs place n s kind es apart here counts some k = by (nat_eq n k) refl
  where
    by : (b : Bool) → nat_eq n k ≡ b → midway gs i (rs ++ Redo kind s.name s.part s.page es ∷ []) place k ≡ cond (nat_eq n k) (i + 1) (midway gs i rs place k)
    by false off = midway_same gs i rs (rs ++ Redo kind s.name s.part s.page es ∷ []) place k (edits_apart gs i rs s kind es place n apart here k off) ∙ sym (ap (λ (b : Bool). cond b (i + 1) (midway gs i rs place k)) off)
    by true on =
        ap (λ (j : ℕ). midway gs i (rs ++ Redo kind s.name s.part s.page es ∷ []) place j) (sym (eqb-true n k on))
        ∙ ap (λ (o : Option Spot). cond (is_some_edit (edits_of gs i (rs ++ Redo kind s.name s.part s.page es ∷ []) o)) (i + 1) i) here
        ∙ ap (λ (l : List Edit). cond (is_some_edit l) (i + 1) i) (edits_more gs i rs s kind es counts)
        ∙ ap (λ (b : Bool). cond b (i + 1) i) (some_behind (edits_of gs i rs (Some s)) es some)
        ∙ sym (ap (λ (b : Bool). cond b (i + 1) (midway gs i rs place k)) on)

-- a page that the group edits is one that the groups make
pub edited_reach : (place : Spots) (redone : Progress) (gs before after : List Logged) (g : Logged) (n : ℕ) (s : Spot) → EditsPage place redone gs before after g n s → s.page < reach s.name s.part (life_of s.name gs).since
edited_reach place redone gs before after g n s page =
    let b : ℕ = base_of s.name gs in
    let since : drop b before ++ g ∷ after ≡ (life_of s.name gs).since = sym (drop-append-le b before (g ∷ after) page.counts) ∙ ap (drop b) (sym page.whole) ∙ since_behind s.name gs in
    subst (λ (l : List Logged). s.page < reach s.name s.part l) since (reach_touched s.name s.part s.page (drop b before) after g page.edits)

-- it has a last edit
pub edited_last : (place : Spots) (redone : Progress) (gs before after : List Logged) (g : Logged) (n : ℕ) (s : Spot) → EditsPage place redone gs before after g n s → is_some (last_edit s.name s.part s.page gs) ≡ true
edited_last place redone gs before after g n s page =
    let b : ℕ = base_of s.name gs in
    let since : drop b before ++ g ∷ after ≡ (life_of s.name gs).since = sym (drop-append-le b before (g ∷ after) page.counts) ∙ ap (drop b) (sym page.whole) ∙ since_behind s.name gs in
    subst (λ (l : List Logged). is_some (last_edit_in s.name s.part s.page None l) ≡ true) since (found None (drop b before))
  where
    still : (k : ℕ) (l : List Logged) → is_some (last_edit_in s.name s.part s.page (Some k) l) ≡ true
    still k [] = refl
    still k (h ∷ l) = by (touches s.name s.part s.page h.group) (λ j. still j l)
      where
        by : (b : Bool) → ((j : ℕ) → is_some (last_edit_in s.name s.part s.page (Some j) l) ≡ true) → is_some (last_edit_in s.name s.part s.page (cond b (Some h.at) (Some k)) l) ≡ true
        by true rest = rest h.at
        by false rest = rest k

    found : (last : Option ℕ) (front : List Logged) → is_some (last_edit_in s.name s.part s.page last (front ++ g ∷ after)) ≡ true
    found last [] = ap (λ (b : Bool). is_some (last_edit_in s.name s.part s.page (cond b (Some g.at) last) after)) page.edits ∙ still g.at after
    found last (h ∷ front) = found (cond (touches s.name s.part s.page h.group) (Some h.at) last) front
