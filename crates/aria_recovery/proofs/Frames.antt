-- What each step does to all frames: it changes those of one key, and the others stay.
use Rattle.std.proofs.Common.{◌≡◌, ◌∙◌, ◌||◌, ℕ, ◌<◌, ◌≤◌, Bool, true, false, cond, List, [], ◌++◌, nat_eq, ap, sym, refl, subst, Option, None, Some}
use Rattle.std.specs.Option.{option_map}
use Rattle.std.specs.Map.{update}
use Rattle.std.proofs.lemmas.Bool.{eqb-true, eq-eqb}
use Rattle.aria_page.specs.declared.edit.Edit.{Edit}
use Rattle.aria_recovery.specs.Redo.{Seen, is_some_edit, stepped}
use Rattle.aria_cache.specs.Frames.{Held, edited_held, stamped, cleaned}
use Rattle.aria_recovery.specs.Frames.{Frames, as_seen, is_dirty, PageOn, FrameOn}
use Rattle.aria_recovery.proofs.Holding.{page_none, page_later, page_begun, page_loaded, page_washed, page_taken, page_edited, page_passed, page_ended, page_free, is_changed}

-- the same page by equal parts
page_same : (known known' : Bool) (frame frame' : Option Held) (pin pin' : Bool) (raw raw' made made' : Seen) (edits edits' : List Edit) (at next : ℕ)
    → known' ≡ known → frame' ≡ frame → pin' ≡ pin → raw' ≡ raw → made' ≡ made → edits' ≡ edits → PageOn known frame pin raw made edits at next → PageOn known' frame' pin' raw' made' edits' at next
page_same known known' frame frame' pin pin' raw raw' made made' edits edits' at next e1 e2 e3 e4 e5 e6 is =
    subst (λ (b : Bool). PageOn b frame' pin' raw' made' edits' at next) (sym e1)
    (subst (λ (f : Option Held). PageOn known f pin' raw' made' edits' at next) (sym e2)
    (subst (λ (b : Bool). PageOn known frame b raw' made' edits' at next) (sym e3)
    (subst (λ (x : Seen). PageOn known frame pin x made' edits' at next) (sym e4)
    (subst (λ (x : Seen). PageOn known frame pin raw x edits' at next) (sym e5)
    (subst (λ (es : List Edit). PageOn known frame pin raw made es at next) (sym e6) is)))))

-- nothing is held, and no group changes anything
pub frame_none : (known : ℕ → Bool) (raw : ℕ → Seen) (at next : ℕ) → FrameOn known (λ k. None) (λ k. false) raw raw (λ k. []) at next
frame_none known raw at next k = page_none (known k) (raw k) at next

module _ (known : ℕ → Bool) (frames : Frames) (pins : ℕ → Bool) (raw made : ℕ → Seen) (edits : ℕ → List Edit) (at next : ℕ) where
  abbrev pub Holds : Type 0
  Holds = FrameOn known frames pins raw made edits at next

  -- the log's end is later
  pub frame_later : (next' : ℕ) → next ≤ next' → Holds → FrameOn known frames pins raw made edits at next'
  frame_later next' le is k = page_later (known k) (frames k) (pins k) (raw k) (made k) (edits k) at next next' le (is k)

  -- Where each page is the same, all is: other files are known, or groups are added that make the same of it.
  pub frame_alike : (known' : ℕ → Bool) (raw' made' : ℕ → Seen) → ((k : ℕ) → known' k ≡ known k) → ((k : ℕ) → raw' k ≡ raw k) → ((k : ℕ) → made' k ≡ made k) → Holds → FrameOn known' frames pins raw' made' edits at next
  frame_alike known' raw' made' same_known same_raw same_made is k =
      page_same (known k) (known' k) (frames k) (frames k) (pins k) (pins k) (raw k) (raw' k) (made k) (made' k) (edits k) (edits k) at next (same_known k) refl refl (same_raw k) (same_made k) refl (is k)

  -- one key changes, and the others stay
  pub frame_one : (n : ℕ) (frame' : Option Held) (pins' : ℕ → Bool) (raw' made' : ℕ → Seen) (edits' : ℕ → List Edit) → ((k : ℕ) → nat_eq n k ≡ false → pins' k ≡ pins k) → ((k : ℕ) → nat_eq n k ≡ false → raw' k ≡ raw k)
      → ((k : ℕ) → nat_eq n k ≡ false → made' k ≡ made k) → ((k : ℕ) → nat_eq n k ≡ false → edits' k ≡ edits k)
      → PageOn (known n) frame' (pins' n) (raw' n) (made' n) (edits' n) at next → Holds → FrameOn known (update nat_eq frames n frame') pins' raw' made' edits' at next
  frame_one n frame' pins' raw' made' edits' same_pins same_raw same_made same_edits here is k = by (nat_eq n k) refl
    where
      by : (b : Bool) → nat_eq n k ≡ b → PageOn (known k) (update nat_eq frames n frame' k) (pins' k) (raw' k) (made' k) (edits' k) at next
      by true on = subst (λ (b : Bool). PageOn (known k) (cond b frame' (frames k)) (pins' k) (raw' k) (made' k) (edits' k) at next) (sym on)
          (subst (λ (j : ℕ). PageOn (known j) frame' (pins' j) (raw' j) (made' j) (edits' j) at next) (eqb-true n k on) here)
      by false off = page_same (known k) (known k) (frames k) (update nat_eq frames n frame' k) (pins k) (pins' k) (raw k) (raw' k) (made k) (made' k) (edits k) (edits' k) at next
          refl (ap (λ (b : Bool). cond b frame' (frames k)) off) (same_pins k off) (same_raw k off) (same_made k off) (same_edits k off) (is k)

  here_is : (n : ℕ) (h : Option Held) → frames n ≡ h → Holds → PageOn (known n) h (pins n) (raw n) (made n) (edits n) at next
  here_is n h is frame = subst (λ (f : Option Held). PageOn (known n) f (pins n) (raw n) (made n) (edits n) at next) is (frame n)

  -- A PAGE IS READ that isn't held
  pub frame_loaded : (n : ℕ) (h : Held) → known n ≡ true → frames n ≡ None → raw n ≡ Some (as_seen h) → h.lsn < next → h.dirty ≡ false → Holds → FrameOn known (update nat_eq frames n (Some h)) pins raw made edits at next
  frame_loaded n h fits none read low plain is = frame_one n (Some h) pins raw made edits (λ k off. refl) (λ k off. refl) (λ k off. refl) (λ k off. refl)
      (page_loaded (known n) (pins n) (raw n) (made n) (edits n) at next h fits read low plain (here_is n None none is)) is

  -- A CLEAN PAGE LEAVES
  pub frame_taken : (n : ℕ) → is_dirty frames n ≡ false → Holds → FrameOn known (update nat_eq frames n None) pins raw made edits at next
  frame_taken n off is = frame_one n None pins raw made edits (λ k else. refl) (λ k else. refl) (λ k else. refl) (λ k else. refl) (page_taken (known n) (frames n) (pins n) (raw n) (made n) (edits n) at next off (is n)) is

  -- A PAGE IS WRITTEN that isn't pinned, as it is held
  pub frame_washed : (n : ℕ) (h : Held) (raw' made' : ℕ → Seen) → frames n ≡ Some h → pins n ≡ false → ((k : ℕ) → nat_eq n k ≡ false → raw' k ≡ raw k) → ((k : ℕ) → nat_eq n k ≡ false → made' k ≡ made k)
      → raw' n ≡ Some (as_seen h) → made' n ≡ Some (as_seen h) → Holds → FrameOn known (update nat_eq frames n (option_map cleaned (frames n))) pins raw' made' edits at next
  frame_washed n h raw' made' there free others_raw others_made wrote makes is = subst (λ (f : Option Held). FrameOn known (update nat_eq frames n f) pins raw' made' edits at next) (sym (ap (option_map cleaned) there))
      (frame_one n (Some (cleaned h)) pins raw' made' edits (λ k off. refl) others_raw others_made (λ k off. refl)
      (page_same (known n) (known n) (Some (cleaned h)) (Some (cleaned h)) false (pins n) (Some (as_seen h)) (raw' n) (Some (as_seen h)) (made' n) (edits n) (edits n) at next refl refl free wrote makes refl
      (page_washed (known n) (raw n) (made n) (edits n) at next h (subst (λ (b : Bool). PageOn (known n) (Some h) b (raw n) (made n) (edits n) at next) free (here_is n (Some h) there is)))) is)

  -- what a page that isn't pinned is
  pub frame_free : (n : ℕ) (h : Held) → frames n ≡ Some h → pins n ≡ false → Holds → made n ≡ Some (as_seen h)
  frame_free n h there free is = page_free (known n) h (raw n) (made n) (edits n) at next (subst (λ (b : Bool). PageOn (known n) (Some h) b (raw n) (made n) (edits n) at next) free (here_is n (Some h) there is))

  -- EDITS ARE PUT ON a page that stands before the open group
  pub frame_edited : (n : ℕ) (h : Held) (es : List Edit) (pins' : ℕ → Bool) (edits' : ℕ → List Edit) → is_some_edit es ≡ true → frames n ≡ Some h → h.lsn < at → ((k : ℕ) → pins' k ≡ (nat_eq n k || pins k))
      → edits' n ≡ edits n ++ es → ((k : ℕ) → nat_eq n k ≡ false → edits' k ≡ edits k) → Holds → FrameOn known (update nat_eq frames n (option_map (edited_held es) (frames n))) pins' raw made edits' at next
  frame_edited n h es pins' edits' some there low pins_are mine others is = subst (λ (f : Option Held). FrameOn known (update nat_eq frames n f) pins' raw made edits' at next) (sym (ap (option_map (edited_held es)) there))
      (frame_one n (Some (edited_held es h)) pins' raw made edits' (λ k off. pins_are k ∙ ap (λ (b : Bool). b || pins k) off) (λ k off. refl) (λ k off. refl) others
      (page_same (known n) (known n) (Some (edited_held es h)) (Some (edited_held es h)) true (pins' n) (raw n) (raw n) (made n) (made n) (edits n ++ es) (edits' n) at next refl refl
      (pins_are n ∙ ap (λ (b : Bool). b || pins n) (eq-eqb n n refl)) refl refl mine
      (page_edited (known n) (pins n) (raw n) (made n) (edits n) es at next h some low (here_is n (Some h) there is))) is)

  -- a page has the edits already
  pub frame_passed : (n : ℕ) (h : Held) (es : List Edit) (edits' : ℕ → List Edit) → frames n ≡ Some h → at ≤ h.lsn → edits' n ≡ edits n ++ es → ((k : ℕ) → nat_eq n k ≡ false → edits' k ≡ edits k) → Holds → FrameOn known frames pins raw made edits' at next
  frame_passed n h es edits' there past mine others is k = by (nat_eq n k) refl
    where
      by : (b : Bool) → nat_eq n k ≡ b → PageOn (known k) (frames k) (pins k) (raw k) (made k) (edits' k) at next
      by true on = subst (λ (j : ℕ). PageOn (known j) (frames j) (pins j) (raw j) (made j) (edits' j) at next) (eqb-true n k on)
          (page_same (known n) (known n) (Some h) (frames n) (pins n) (pins n) (raw n) (raw n) (made n) (made n) (edits n ++ es) (edits' n) at next refl there refl refl refl mine
          (page_passed (known n) (pins n) (raw n) (made n) (edits n) es at next h past (here_is n (Some h) there is)))
      by false off = subst (λ (es : List Edit). PageOn (known k) (frames k) (pins k) (raw k) (made k) es at next) (sym (others k off)) (is k)

  -- THE GROUP ENDS: the pinned pages get its number, and it counts among the groups
  pub frame_ended : (made' : ℕ → Seen) (at' next' : ℕ) → at < next' → next ≤ next' → ((k : ℕ) → made' k ≡ stepped at (edits k) (made k)) → Holds
      → FrameOn known (λ k. cond (pins k) (option_map (stamped at) (frames k)) (frames k)) (λ k. false) raw made' (λ k. []) at' next'
  frame_ended made' at' next' low le makes is k = subst (λ (x : Seen). PageOn (known k) (cond (pins k) (option_map (stamped at) (frames k)) (frames k)) false (raw k) x [] at' next') (sym (makes k))
      (page_ended (known k) (frames k) (pins k) (raw k) (made k) (edits k) at at' next next' low le (is k))

  -- a group with another number is begun
  pub frame_begun : (at' : ℕ) → ((k : ℕ) → edits k ≡ []) → Holds → FrameOn known frames pins raw made edits at' next
  frame_begun at' none is k = subst (λ (es : List Edit). PageOn (known k) (frames k) (pins k) (raw k) (made k) es at' next) (sym (none k))
      (page_begun (known k) (frames k) (pins k) (raw k) (made k) at at' next (subst (λ (es : List Edit). PageOn (known k) (frames k) (pins k) (raw k) (made k) es at next) (none k) (is k)))

  -- The pages of some keys are given up, as those of a table that is dropped or comes anew: there is nothing left to do for them.
  pub frame_left : (gone : ℕ → Bool) (known' : ℕ → Bool) (raw' made' : ℕ → Seen) → ((k : ℕ) → edits k ≡ []) → ((k : ℕ) → gone k ≡ true → made' k ≡ raw' k)
      → ((k : ℕ) → gone k ≡ false → known' k ≡ known k) → ((k : ℕ) → gone k ≡ false → raw' k ≡ raw k) → ((k : ℕ) → gone k ≡ false → made' k ≡ made k) → Holds
      → FrameOn known' (λ k. cond (gone k) None (frames k)) pins raw' made' edits at next
  frame_left gone known' raw' made' none done same_known same_raw same_made is k = by (gone k) refl
    where
      free : pins k ≡ false
      free = (is k).pinned ∙ ap (λ (es : List Edit). is_changed at es (made k)) (none k)

      by : (b : Bool) → gone k ≡ b → PageOn (known' k) (cond (gone k) None (frames k)) (pins k) (raw' k) (made' k) (edits k) at next
      by true on = page_same (known' k) (known' k) None (cond (gone k) None (frames k)) false (pins k) (raw' k) (raw' k) (raw' k) (made' k) [] (edits k) at next refl (ap (λ (b : Bool). cond b None (frames k)) on) free refl (done k on) (none k) (page_none (known' k) (raw' k) at next)
      by false off = page_same (known k) (known' k) (frames k) (cond (gone k) None (frames k)) (pins k) (pins k) (raw k) (raw' k) (made k) (made' k) (edits k) (edits k) at next
          (same_known k off) (ap (λ (b : Bool). cond b None (frames k)) off) refl (same_raw k off) (same_made k off) refl (is k)
