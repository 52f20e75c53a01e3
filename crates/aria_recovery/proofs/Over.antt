-- Frames over a folder: each step of redo and of a running pager.
use Rattle.std.proofs.Common.{◌≡◌, ◌∙◌, ◌||◌, ℕ, ◌+◌, ◌<◌, ◌≤◌, Bool, true, false, cond, List, [], ◌∷◌, ◌++◌, length, nat_eq, ap, sym, refl, subst, arith, Option, None, Some, ◌-◌, max, drop, IsTrue}
use Rattle.std.specs.Prelude.{All}
use Rattle.std.specs.Option.{option_map}
use Rattle.std.specs.Map.{update}
use Rattle.aria_page.specs.declared.edit.Edit.{Edit}
use Rattle.aria_page.specs.declared.group.RedoKind.{RedoKind}
use Rattle.aria_host.specs.Folder.{Folder, with_page}
use Rattle.aria_record.specs.declared.record.Record.{Record}
use Rattle.aria_record.specs.declared.record.Record.TheVariants.{Redo}
use Rattle.aria_record.specs.Logged.{Logged}
use Rattle.aria_recovery.specs.Redo.{Seen, number_at, seen, is_some_edit, redo, reach, Content}
use Rattle.aria_recovery.specs.Tables.{file, told_by, AreCurrent, life_of}
use Rattle.aria_cache.specs.Frames.{Held, edited_held, stamped, cleaned}
use Rattle.aria_recovery.specs.Frames.{Frames, Spot, Spots, as_seen, raw_at, redone_at, edits_of, base_of, AreApart, FrameOn, FramesOver, Progress, all_of, front_of}
use Rattle.aria_host.specs.Steps.{MayWrite}
use Rattle.aria_host.specs.Seen.{page_or_zero}
use Rattle.aria_recovery.specs.Images.{IsNeutral}
use Rattle.aria_recovery.specs.Forced.{IsForced}
use Rattle.aria_recovery.proofs.Framing.{front_step}
use Rattle.aria_recovery.proofs.Frames.{frame_none, frame_alike, frame_washed, frame_free, frame_edited, frame_passed, frame_ended, frame_begun}
use Rattle.aria_recovery.proofs.Behind.{redone_zero, redone_steady, redone_next, redone_push, edits_begin}
use Rattle.aria_recovery.proofs.Placing.{raw_here, raw_others, edits_more, edits_apart}

-- no group is redone yet, and nothing is held
pub over_none : (known : ℕ → Bool) (place : Spots) (d : Folder) (gs : List Logged) (at next : ℕ) → FramesOver known (λ k. None) (λ k. false) place d gs (λ k. 0) [] at next
over_none known place d gs at next =
    subst (λ (es : ℕ → List Edit). FrameOn known (λ k. None) (λ k. false) (λ k. raw_at d (place k)) (λ k. redone_at gs 0 (place k) (raw_at d (place k))) es at next) (λ i k. sym (edits_begin gs 0 (place k)) i)
    (frame_alike known (λ k. None) (λ k. false) (λ k. raw_at d (place k)) (λ k. raw_at d (place k)) (λ k. []) at next known (λ k. raw_at d (place k)) (λ k. redone_at gs 0 (place k) (raw_at d (place k)))
    (λ k. refl) (λ k. refl) (λ k. redone_zero gs (place k) (raw_at d (place k))) (frame_none known (λ k. raw_at d (place k)) at next))

module _ (known : ℕ → Bool) (frames : Frames) (pins : ℕ → Bool) (place : Spots) (d : Folder) (gs : List Logged) (redone : Progress) (rs : List Record) (at next : ℕ) where
  abbrev raw : ℕ → Seen
  raw k = raw_at d (place k)

  abbrev made : ℕ → Seen
  made k = redone_at gs (redone k) (place k) (raw_at d (place k))

  abbrev edits : ℕ → List Edit
  edits k = edits_of gs (redone k) rs (place k)

  -- A page that isn't pinned is written, as it is held.
  pub over_written : (n : ℕ) (h : Held) (s : Spot) (page : List ℕ) (pages : List (List ℕ)) → AreApart place → place n ≡ Some s → d (file s.name s.part) ≡ Some pages → frames n ≡ Some h → pins n ≡ false → seen page ≡ Some (as_seen h)
      → FramesOver known frames pins place d gs redone rs at next → FramesOver known (update nat_eq frames n (option_map cleaned (frames n))) pins place (with_page (file s.name s.part) s.page page d) gs redone rs at next
  over_written n h s page pages apart here is there free sealed frame =
      frame_washed known frames pins raw made edits at next n h (λ k. raw_at put (place k)) (λ k. redone_at gs (redone k) (place k) (raw_at put (place k))) there free
      (λ k off. raw_others d s page pages is place n apart here k off) (λ k off. ap (redone_at gs (redone k) (place k)) (raw_others d s page pages is place n apart here k off))
      wrote (ap (redone_at gs (redone n) (place n)) (wrote ∙ sym as_made) ∙ redone_steady gs (redone n) (place n) (raw n) ∙ as_made) frame
    where
      put : Folder
      put = with_page (file s.name s.part) s.page page d

      as_made : made n ≡ Some (as_seen h)
      as_made = frame_free known frames pins raw made edits at next n h there free frame

      wrote : raw_at put (place n) ≡ Some (as_seen h)
      wrote = ap (raw_at put) here ∙ raw_here d s page pages is ∙ sealed

  -- A record's edits are put on its page, which stands before the group,
  pub over_edited : (n : ℕ) (h : Held) (s : Spot) (kind : RedoKind) (es : List Edit) (pins' : ℕ → Bool) → AreApart place → place n ≡ Some s → base_of s.name gs ≤ redone n → is_some_edit es ≡ true → frames n ≡ Some h → h.lsn < at
      → ((k : ℕ) → pins' k ≡ (nat_eq n k || pins k)) → FramesOver known frames pins place d gs redone rs at next
      → FramesOver known (update nat_eq frames n (option_map (edited_held es) (frames n))) pins' place d gs redone (rs ++ Redo kind s.name s.part s.page es ∷ []) at next
  over_edited n h s kind es pins' apart here counts some there low pins_are frame =
      frame_edited known frames pins raw made edits at next n h es pins' (λ k. edits_of gs (redone k) (rs ++ Redo kind s.name s.part s.page es ∷ []) (place k)) some there low pins_are
      (mine n s kind es here counts) (λ k off. edits_apart gs (redone k) rs s kind es place n apart here k off) frame
    where
      mine : (n : ℕ) (s : Spot) (kind : RedoKind) (es : List Edit) → place n ≡ Some s → base_of s.name gs ≤ redone n → edits_of gs (redone n) (rs ++ Redo kind s.name s.part s.page es ∷ []) (place n) ≡ edits_of gs (redone n) rs (place n) ++ es
      mine n s kind es here counts = ap (edits_of gs (redone n) (rs ++ Redo kind s.name s.part s.page es ∷ [])) here ∙ edits_more gs (redone n) rs s kind es counts ∙ ap (λ (p : Option Spot). edits_of gs (redone n) rs p ++ es) (sym here)

  -- or its page has them already.
  pub over_passed : (n : ℕ) (h : Held) (s : Spot) (kind : RedoKind) (es : List Edit) → AreApart place → place n ≡ Some s → base_of s.name gs ≤ redone n → frames n ≡ Some h → at ≤ h.lsn
      → FramesOver known frames pins place d gs redone rs at next → FramesOver known frames pins place d gs redone (rs ++ Redo kind s.name s.part s.page es ∷ []) at next
  over_passed n h s kind es apart here counts there past frame =
      frame_passed known frames pins raw made edits at next n h es (λ k. edits_of gs (redone k) (rs ++ Redo kind s.name s.part s.page es ∷ []) (place k)) there past
      (ap (edits_of gs (redone n) (rs ++ Redo kind s.name s.part s.page es ∷ [])) here ∙ edits_more gs (redone n) rs s kind es counts ∙ ap (λ (p : Option Spot). edits_of gs (redone n) rs p ++ es) (sym here))
      (λ k off. edits_apart gs (redone k) rs s kind es place n apart here k off) frame

  -- A record that changes no page of a key that is known here is passed over.
  pub over_aside : (r : Record) → ((k : ℕ) → edits_of gs (redone k) (rs ++ r ∷ []) (place k) ≡ edits_of gs (redone k) rs (place k)) → FramesOver known frames pins place d gs redone rs at next → FramesOver known frames pins place d gs redone (rs ++ r ∷ []) at next
  over_aside r same frame = subst (λ (es : ℕ → List Edit). FrameOn known frames pins raw made es at next) (λ j k. sym (same k) j) frame

-- between groups the number of the next is free
pub over_begun : (known : ℕ → Bool) (frames : Frames) (pins : ℕ → Bool) (place : Spots) (d : Folder) (gs : List Logged) (redone : Progress) (at at' next : ℕ) → FramesOver known frames pins place d gs redone [] at next → FramesOver known frames pins place d gs redone [] at' next
over_begun known frames pins place d gs redone at at' next = frame_begun known frames pins (λ k. raw_at d (place k)) (λ k. redone_at gs (redone k) (place k) (raw_at d (place k))) (λ k. edits_of gs (redone k) [] (place k)) at next at' (λ k. edits_begin gs (redone k) (place k))

ends_empty : (known : ℕ → Bool) (frames : Frames) (pins : ℕ → Bool) (place : Spots) (d : Folder) (gs : List Logged) (redone : Progress) (at next : ℕ)
    → FrameOn known frames pins (λ k. raw_at d (place k)) (λ k. redone_at gs (redone k) (place k) (raw_at d (place k))) (λ k. []) at next → FramesOver known frames pins place d gs redone [] at next
ends_empty known frames pins place d gs redone at next = subst (λ (es : ℕ → List Edit). FrameOn known frames pins (λ k. raw_at d (place k)) (λ k. redone_at gs (redone k) (place k) (raw_at d (place k))) es at next) (λ j k. sym (edits_begin gs (redone k) (place k)) j)

-- ONE GROUP MORE IS REDONE: the pages that are pinned get its number.
pub over_next : (known : ℕ → Bool) (frames : Frames) (pins : ℕ → Bool) (place : Spots) (d : Folder) (gs before after : List Logged) (g : Logged) (at' next : ℕ) → gs ≡ before ++ g ∷ after → number_at g.at < next
    → FramesOver known frames pins place d gs (λ k. length before) g.group (number_at g.at) next
    → FramesOver known (λ k. cond (pins k) (option_map (stamped (number_at g.at)) (frames k)) (frames k)) (λ k. false) place d gs (λ k. length before + 1) [] at' next
over_next known frames pins place d gs before after g at' next is low frame =
    ends_empty known (λ k. cond (pins k) (option_map (stamped (number_at g.at)) (frames k)) (frames k)) (λ k. false) place d gs (λ k. length before + 1) at' next
    (frame_ended known frames pins (λ k. raw_at d (place k)) (λ k. redone_at gs (length before) (place k) (raw_at d (place k))) (λ k. edits_of gs (length before) g.group (place k)) (number_at g.at) next
    (λ k. redone_at gs (length before + 1) (place k) (raw_at d (place k))) at' next low (omega arith) (λ k. redone_next before after g gs is (place k) (raw_at d (place k))) frame)

-- THE OPEN GROUP IS APPENDED, by a pager that has redone all
pub over_pushed : (known : ℕ → Bool) (frames : Frames) (pins : ℕ → Bool) (place : Spots) (d : Folder) (gs : List Logged) (g : Logged) (at' next next' : ℕ) → number_at g.at < next' → next ≤ next' → ((k : ℕ) (s : Spot) → place k ≡ Some s → told_by s.name g ≡ None)
    → FramesOver known frames pins place d gs (all_of gs) g.group (number_at g.at) next
    → FramesOver known (λ k. cond (pins k) (option_map (stamped (number_at g.at)) (frames k)) (frames k)) (λ k. false) place d (gs ++ g ∷ []) (all_of (gs ++ g ∷ [])) [] at' next'
over_pushed known frames pins place d gs g at' next next' low le quiet frame =
    ends_empty known (λ k. cond (pins k) (option_map (stamped (number_at g.at)) (frames k)) (frames k)) (λ k. false) place d (gs ++ g ∷ []) (all_of (gs ++ g ∷ [])) at' next'
    (frame_ended known frames pins (λ k. raw_at d (place k)) (λ k. redone_at gs (length gs) (place k) (raw_at d (place k))) (λ k. edits_of gs (length gs) g.group (place k)) (number_at g.at) next
    (λ k. redone_at (gs ++ g ∷ []) (length (gs ++ g ∷ [])) (place k) (raw_at d (place k))) at' next' low le (λ k. redone_push gs g (place k) (raw_at d (place k)) (quiet k)) frame)

-- A HELD PAGE MAY BE WRITTEN once its own last group is forced, where it isn't pinned, also while redo is at some group.
pub over_neutral : (opened : List ℕ → Bool) (known : ℕ → Bool) (frames : Frames) (pins : ℕ → Bool) (place : Spots) (d : Folder) (gs : List Logged) (forced : ℕ) (redone : Progress) (rs : List Record) (at next : ℕ) (n : ℕ) (h : Held) (s : Spot) (page : List ℕ) (pages : List (List ℕ))
    → place n ≡ Some s → frames n ≡ Some h → pins n ≡ false → seen page ≡ Some (as_seen h) → IsTrue (opened s.name) → AreCurrent s.name gs d → d (file s.name s.part) ≡ Some pages
    → s.page < max (length pages) (reach s.name s.part (life_of s.name gs).since) → All (λ g. told_by s.name g ≡ None) (drop forced gs) → IsForced h.lsn gs forced → FramesOver known frames pins place d gs redone rs at next
    → IsNeutral opened gs forced d (MayWrite (file s.name s.part) s.page page)
over_neutral opened known frames pins place d gs forced redone rs at next n h s page pages here there free sealed on current is within quiet ahead frame =
    front_step opened gs s.name s.part s.page page d pages h.lsn h.body forced (redone n - base_of s.name gs) on current is
    (ap (redo s.name s.part s.page (front_of s.name gs (redone n))) (ap (λ (c : Content). seen (page_or_zero s.page c)) (sym is))
    ∙ ap (λ (spot : Option Spot). redone_at gs (redone n) spot (raw_at d spot)) (sym here)
    ∙ frame_free known frames pins (λ k. raw_at d (place k)) (λ k. redone_at gs (redone k) (place k) (raw_at d (place k))) (λ k. edits_of gs (redone k) rs (place k)) at next n h there free frame)
    sealed within quiet ahead
