-- Pages of many files by keys: a write and a record change the page of one key alone.
use Rattle.std.proofs.Common.{◌≡◌, ◌==◌, ◌∙◌, ◌&&◌, ℕ, ◌<◌, ◌≤◌, Bool, true, false, cond, List, [], ◌∷◌, ◌++◌, nat_eq, nat_lt, ap, sym, refl, Option, None, Some}
use Rattle.std.specs.Option.{option_map}
use Rattle.std.specs.Cmp.Lexicographic.{bytes_decides}
use Rattle.std.proofs.lemmas.Bool.{eqb-true, eq-eqb}
use Rattle.std.proofs.lemmas.List.{append-nil}
use Rattle.aria_page.specs.declared.edit.Edit.{Edit}
use Rattle.aria_page.specs.declared.group.RedoKind.{RedoKind}
use Rattle.aria_page.specs.declared.place.Part.{Part}
use Rattle.aria_page.specs.declared.place.Part.TheVariants.{Keys, Rows}
use Rattle.aria_value.specs.Named.{same_name}
use Rattle.aria_host.specs.Folder.{Folder, put_page, with_page, same_file}
use Rattle.aria_host.specs.Seen.{page_or_zero}
use Rattle.aria_host.proofs.Files.{with_file-other, same_file-true, same_file-refl}
use Rattle.aria_record.specs.declared.record.Record.{Record}
use Rattle.aria_record.specs.declared.record.Record.TheVariants.{Redo}
use Rattle.aria_record.specs.Logged.{Logged}
use Rattle.aria_recovery.specs.Redo.{Content, seen, same_part, edits_in, edits_at, edits_on}
use Rattle.aria_recovery.specs.Tables.{file}
use Rattle.aria_recovery.specs.Frames.{Spot, Spots, same_spot, raw_at, base_of, edits_of, AreApart}
use Rattle.aria_recovery.proofs.Stepping.{part_is}
use Rattle.aria_recovery.proofs.Writing.{seen_put}
use Rattle.aria_recovery.proofs.Behind.{edits_push}
use Rattle.aria_recovery.proofs.Comparing.{lt_true, lt_false}

spot_self : (s : Spot) → same_spot s s ≡ true
spot_self s = ap (λ (b : Bool). b && (s.page == s.page)) (same_file-refl (file s.name s.part)) ∙ eq-eqb s.page s.page refl

module _ (d : Folder) (s : Spot) (page : List ℕ) (pages : List (List ℕ)) (is : d (file s.name s.part) ≡ Some pages) where
  abbrev now : Folder
  now = with_page (file s.name s.part) s.page page d

  pub raw_put : (k : Spot) → raw_at now (Some k) ≡ cond (same_spot s k) (seen page) (raw_at d (Some k))
  raw_put k = by (same_file (file s.name s.part) (file k.name k.part)) refl
    where
      content : Option (List (List ℕ))
      content = option_map (put_page s.page page) (d (file s.name s.part))

      by : (b : Bool) → same_file (file s.name s.part) (file k.name k.part) ≡ b → raw_at now (Some k) ≡ cond (same_file (file s.name s.part) (file k.name k.part) && (s.page == k.page)) (seen page) (raw_at d (Some k))
      by false off = ap (λ (f : Content). seen (page_or_zero k.page f)) (with_file-other (file s.name s.part) (file k.name k.part) content d off) ∙ sym (ap (λ (b : Bool). cond (b && (s.page == k.page)) (seen page) (raw_at d (Some k))) off)
      by true on =
          ap (λ (b : Bool). seen (page_or_zero k.page (cond b content (d (file k.name k.part))))) on ∙ ap (λ (f : Content). seen (page_or_zero k.page (option_map (put_page s.page page) f))) is ∙ seen_put s.page k.page page pages
          ∙ ap (λ (f : Content). cond (s.page == k.page) (seen page) (seen (page_or_zero k.page f))) (sym is ∙ ap (λ f. d f) (same_file-true (file s.name s.part) (file k.name k.part) on))
          ∙ sym (ap (λ (b : Bool). cond (b && (s.page == k.page)) (seen page) (raw_at d (Some k))) on)

  -- the page that was written
  pub raw_here : raw_at now (Some s) ≡ seen page
  raw_here = raw_put s ∙ ap (λ (b : Bool). cond b (seen page) (raw_at d (Some s))) (spot_self s)

  -- the pages of other keys stay
  pub raw_others : (place : Spots) (k : ℕ) → AreApart place → place k ≡ Some s → (j : ℕ) → nat_eq k j ≡ false → raw_at now (place j) ≡ raw_at d (place j)
  raw_others place k apart here j off = by (place j) refl
    where
      by : (spot : Option Spot) → place j ≡ spot → raw_at now spot ≡ raw_at d spot
      by None there = refl
      by (Some t) there = raw_put t ∙ ap (λ (b : Bool). cond b (seen page) (raw_at d (Some t))) (other (same_spot s t) refl)
        where
          other : (b : Bool) → same_spot s t ≡ b → same_spot s t ≡ false
          other false no_spot = no_spot
          other true same = absurd (let h : true ≡ false = sym (apart k j s t here there same) ∙ off in (cc))

-- ---- a record of the next group

-- it edits its page
pub edits_here : (s : Spot) (kind : RedoKind) (es : List Edit) → edits_at s.page (edits_in s.name s.part (Redo kind s.name s.part s.page es)) ≡ es
edits_here s kind es =
    ap (λ (b : Bool). edits_at s.page (cond (b && same_part s.part s.part) (Some (s.page, es)) None)) ((bytes_decides s.name s.name).1 refl)
    ∙ ap (λ (b : Bool). edits_at s.page (cond b (Some (s.page, es)) None)) (part_self s.part)
    ∙ ap (λ (b : Bool). cond b es []) (eq-eqb s.page s.page refl)
  where
    part_self : (p : Part) → same_part p p ≡ true
    part_self Keys = refl
    part_self Rows = refl

-- and no other
edits_aside : (s t : Spot) (kind : RedoKind) (es : List Edit) → same_spot s t ≡ false → edits_at t.page (edits_in t.name t.part (Redo kind s.name s.part s.page es)) ≡ []
edits_aside s t kind es off = by (same_name t.name s.name) refl (same_part t.part s.part) refl
  where
    page_by : ℕ → Bool → List Edit
    page_by n b = edits_at n (cond b (Some (s.page, es)) None)

    at_page : (n : ℕ) → (t.name ≡ s.name) → (t.part ≡ s.part) → (b : Bool) → nat_eq t.page s.page ≡ b → cond b es [] ≡ []
    at_page n name part false other = refl
    at_page n name part true same = absurd (let here : s ≡ t = λ i. record { name = sym name i; part = sym part i; page = sym (eqb-true t.page s.page same) i } in
        let h : true ≡ false = sym (spot_self s) ∙ ap (same_spot s) here ∙ off in (cc))

    by : (b : Bool) → same_name t.name s.name ≡ b → (c : Bool) → same_part t.part s.part ≡ c → edits_at t.page (edits_in t.name t.part (Redo kind s.name s.part s.page es)) ≡ []
    by false name c part = ap (λ (b : Bool). page_by t.page (b && same_part t.part s.part)) name
    by true name false part = ap (λ (b : Bool). page_by t.page (b && same_part t.part s.part)) name ∙ ap (page_by t.page) part
    by true name true part = ap (λ (b : Bool). page_by t.page (b && same_part t.part s.part)) name ∙ ap (page_by t.page) part
        ∙ at_page t.page ((bytes_decides t.name s.name).0 name) (part_is t.part s.part part) (nat_eq t.page s.page) refl

module _ (gs : List Logged) (i : ℕ) (rs : List Record) (s : Spot) (kind : RedoKind) (es : List Edit) where
  -- where the group counts for the name, the record's edits are put behind those of before
  pub edits_more : base_of s.name gs ≤ i → edits_of gs i (rs ++ Redo kind s.name s.part s.page es ∷ []) (Some s) ≡ edits_of gs i rs (Some s) ++ es
  edits_more counts =
      ap (λ (b : Bool). cond b [] (edits_on s.name s.part s.page (rs ++ Redo kind s.name s.part s.page es ∷ []))) low
      ∙ edits_push s.name s.part s.page rs (Redo kind s.name s.part s.page es) ∙ ap (λ (l : List Edit). edits_on s.name s.part s.page rs ++ l) (edits_here s kind es)
      ∙ ap (λ (b : Bool). cond b [] (edits_on s.name s.part s.page rs) ++ es) (sym low)
    where
      low : nat_lt i (base_of s.name gs) ≡ false
      low = lt_false i (base_of s.name gs) counts

  -- of other pages they are the same
  pub edits_others : (t : Spot) → same_spot s t ≡ false → edits_of gs i (rs ++ Redo kind s.name s.part s.page es ∷ []) (Some t) ≡ edits_of gs i rs (Some t)
  edits_others t off = ap (λ (l : List Edit). cond (nat_lt i (base_of t.name gs)) [] l)
      (edits_push t.name t.part t.page rs (Redo kind s.name s.part s.page es) ∙ ap (λ (l : List Edit). edits_on t.name t.part t.page rs ++ l) (edits_aside s t kind es off) ∙ append-nil (edits_on t.name t.part t.page rs))

  pub edits_apart : (place : Spots) (k : ℕ) → AreApart place → place k ≡ Some s → (j : ℕ) → nat_eq k j ≡ false → edits_of gs i (rs ++ Redo kind s.name s.part s.page es ∷ []) (place j) ≡ edits_of gs i rs (place j)
  edits_apart place k apart here j off = by (place j) refl
    where
      by : (spot : Option Spot) → place j ≡ spot → edits_of gs i (rs ++ Redo kind s.name s.part s.page es ∷ []) spot ≡ edits_of gs i rs spot
      by None there = refl
      by (Some t) there = edits_others t (other (same_spot s t) refl)
        where
          other : (b : Bool) → same_spot s t ≡ b → same_spot s t ≡ false
          other false no_spot = no_spot
          other true same = absurd (let h : true ≡ false = sym (apart k j s t here there same) ∙ off in (cc))

-- a group that doesn't count for a name changes no page of it, whatever its records
pub edits_early : (gs : List Logged) (i : ℕ) (rs : List Record) (s : Spot) → i < base_of s.name gs → edits_of gs i rs (Some s) ≡ []
edits_early gs i rs s early = ap (λ (b : Bool). cond b [] (edits_on s.name s.part s.page rs)) (lt_true i (base_of s.name gs) early)
