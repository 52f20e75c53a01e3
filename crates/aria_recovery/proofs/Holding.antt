-- What each step does to a page that is held, or isn't.
use Rattle.std.proofs.Common.{◌≡◌, ◌∙◌, ◌&&◌, ℕ, ◌<◌, ◌≤◌, Bool, true, false, cond, List, [], ◌∷◌, ◌++◌, nat_lt, ap, sym, refl, subst, arith, Option, None, Some}
use Rattle.std.specs.Option.{option_map}
use Rattle.aria_page.specs.Edit.{all_edited, edited}
use Rattle.aria_page.specs.declared.edit.Edit.{Edit}
use Rattle.aria_recovery.specs.Redo.{Seen, is_some_edit, is_before, stepped, topped}
use Rattle.aria_cache.specs.Frames.{Held, edited_held, stamped, cleaned}
use Rattle.aria_recovery.specs.Frames.{as_seen, dirty_of, PageOn}
use Rattle.aria_recovery.proofs.Comparing.{lt_true, lt_false}

pub all_edited_append : (es fs : List Edit) (body : List ℕ) → all_edited (es ++ fs) body ≡ all_edited fs (all_edited es body)
all_edited_append [] fs body = refl
all_edited_append (e ∷ es) fs body = all_edited_append es fs (edited e body)

some_edit_append : (es fs : List Edit) → is_some_edit fs ≡ true → is_some_edit (es ++ fs) ≡ true
some_edit_append [] fs some = some
some_edit_append (e ∷ es) fs some = refl

-- ---- edits on top

-- the open group changes the page
abbrev pub is_changed : ℕ → List Edit → Seen → Bool
is_changed at es x = is_some_edit es && is_before at x

pub topped_same : (at : ℕ) (es : List Edit) (x : Seen) → is_changed at es x ≡ false → topped at es x ≡ x
topped_same at es None off = refl
topped_same at [] (Some s) off = by (nat_lt s.0 at)
  where
    by : (b : Bool) → Some (cond b (s.0, s.1) s) ≡ Some s
    by true = refl
    by false = refl
topped_same at (e ∷ es) (Some s) off = ap (λ (b : Bool). Some (cond b (s.0, all_edited (e ∷ es) s.1) s)) off

pub stepped_same : (at : ℕ) (es : List Edit) (x : Seen) → is_changed at es x ≡ false → stepped at es x ≡ x
stepped_same at [] x off = refl
stepped_same at (e ∷ es) None off = refl
stepped_same at (e ∷ es) (Some s) off = ap (λ (b : Bool). Some (cond b (at, all_edited (e ∷ es) s.1) s)) off

-- a page with edits on top becomes, with its group, that page with the group's number
pub stepped_topped : (at : ℕ) (es : List Edit) (x : Seen) (lsn : ℕ) (body : List ℕ) → is_changed at es x ≡ true → topped at es x ≡ Some (lsn, body) → stepped at es x ≡ Some (at, body)
stepped_topped at [] x lsn body on is = absurd (cc)
stepped_topped at (e ∷ es) None lsn body on is = absurd (cc)
stepped_topped at (e ∷ es) (Some s) lsn body on is =
    ap (λ (b : Bool). Some (cond b (at, all_edited (e ∷ es) s.1) s)) on
    ∙ ap (λ (b : List ℕ). Some (at, b)) (ap second_of (sym (ap (λ (b : Bool). Some (cond b (s.0, all_edited (e ∷ es) s.1) s)) on) ∙ is))
  where
    second_of : Seen → List ℕ
    second_of None = []
    second_of (Some p) = p.1

-- the page keeps its log sequence number
topped_before : (at : ℕ) (es : List Edit) (x : Seen) (lsn : ℕ) (body : List ℕ) → topped at es x ≡ Some (lsn, body) → is_before at x ≡ nat_lt lsn at
topped_before at es None lsn body is = absurd (cc)
topped_before at es (Some s) lsn body is = ap (λ (k : ℕ). nat_lt k at) (by (nat_lt s.0 at) is)
  where
    first_of : Seen → ℕ
    first_of None = 0
    first_of (Some p) = p.0

    by : (b : Bool) → Some (cond b (s.0, all_edited es s.1) s) ≡ Some (lsn, body) → s.0 ≡ lsn
    by true same = ap first_of same
    by false same = ap first_of same

-- more edits on top
topped_more : (at : ℕ) (es fs : List Edit) (x : Seen) (lsn : ℕ) (body : List ℕ) → is_before at x ≡ true → topped at es x ≡ Some (lsn, body) → topped at (es ++ fs) x ≡ Some (lsn, all_edited fs body)
topped_more at es fs None lsn body on is = absurd (cc)
topped_more at es fs (Some s) lsn body on is =
    let was : Some (s.0, all_edited es s.1) ≡ Some (lsn, body) = sym (ap (λ (b : Bool). Some (cond b (s.0, all_edited es s.1) s)) on) ∙ is in
    ap (λ (b : Bool). Some (cond b (s.0, all_edited (es ++ fs) s.1) s)) on
    ∙ ap (λ (b : List ℕ). Some (s.0, b)) (all_edited_append es fs s.1)
    ∙ ap (option_map (λ (p : ℕ × List ℕ). (p.0, all_edited fs p.1))) was

topped_past : (at : ℕ) (es : List Edit) (x : Seen) → is_before at x ≡ false → topped at es x ≡ x
topped_past at es None off = refl
topped_past at es (Some s) off = ap (λ (b : Bool). Some (cond b (s.0, all_edited es s.1) s)) off

and_false : (b : Bool) → (b && false) ≡ false
and_false true = refl
and_false false = refl

some_held : (a b : Held) → Some a ≡ Some b → a ≡ b
some_held a b e = cc

-- ---- one page

-- it isn't held, and no group changes it
pub page_none : (known : Bool) (raw : Seen) (at next : ℕ) → PageOn known None false raw raw [] at next
page_none known raw at next = record { held = λ h is. absurd (cc); is_known = λ h is. absurd (cc); below = λ h is. absurd (cc); clean = λ off. refl; pinned = refl; on_top = λ on. on }

-- the log's end is later
pub page_later : (known : Bool) (frame : Option Held) (pin : Bool) (raw made : Seen) (edits : List Edit) (at next next' : ℕ) → next ≤ next' → PageOn known frame pin raw made edits at next → PageOn known frame pin raw made edits at next'
page_later known frame pin raw made edits at next next' le is = record { held = is.held; is_known = is.is_known; below = λ h e. let low = is.below h e in omega (arith, low, le); clean = is.clean; pinned = is.pinned; on_top = is.on_top }

-- another group is begun
pub page_begun : (known : Bool) (frame : Option Held) (pin : Bool) (raw made : Seen) (at at' next : ℕ) → PageOn known frame pin raw made [] at next → PageOn known frame pin raw made [] at' next
page_begun known frame pin raw made at at' next is =
    record { held = λ h e. topped_same at' [] made refl ∙ sym (topped_same at [] made refl) ∙ is.held h e; is_known = is.is_known; below = is.below; clean = is.clean; pinned = is.pinned; on_top = is.on_top }

-- a page that isn't pinned is as groups make it
pub page_free : (known : Bool) (h : Held) (raw made : Seen) (edits : List Edit) (at next : ℕ) → PageOn known (Some h) false raw made edits at next → made ≡ Some (as_seen h)
page_free known h raw made edits at next is = sym (topped_same at edits made (sym is.pinned)) ∙ is.held h refl

-- what isn't dirty isn't pinned
not_pinned : (known : Bool) (frame : Option Held) (pin : Bool) (raw made : Seen) (edits : List Edit) (at next : ℕ) → PageOn known frame pin raw made edits at next → dirty_of frame ≡ false → pin ≡ false
not_pinned known frame true raw made edits at next is off = absurd (let e : true ≡ false = sym (is.on_top refl) ∙ off in (cc))
not_pinned known frame false raw made edits at next is off = refl

-- it is read
pub page_loaded : (known pin : Bool) (raw made : Seen) (edits : List Edit) (at next : ℕ) (h : Held) → known ≡ true → raw ≡ Some (as_seen h) → h.lsn < next → h.dirty ≡ false
    → PageOn known None pin raw made edits at next → PageOn known (Some h) pin raw made edits at next
page_loaded known pin raw made edits at next h fits read low plain is = record {
  held = λ j e. topped_same at edits made (sym is.pinned ∙ off) ∙ is.clean refl ∙ read ∙ ap (λ (i : Held). Some (as_seen i)) (some_held h j e);
  is_known = λ j e. fits;
  below = λ j e. subst (λ (i : Held). i.lsn < next) (some_held h j e) low;
  clean = λ d. is.clean refl;
  pinned = is.pinned;
  on_top = λ on. absurd (let e : true ≡ false = sym on ∙ off in (cc));
}
  where
    off : pin ≡ false
    off = not_pinned known None pin raw made edits at next is refl

-- it was written, as it is held
pub page_washed : (known : Bool) (raw made : Seen) (edits : List Edit) (at next : ℕ) (h : Held) → PageOn known (Some h) false raw made edits at next → PageOn known (Some (cleaned h)) false (Some (as_seen h)) (Some (as_seen h)) edits at next
page_washed known raw made edits at next h is = record {
  held = λ j e. topped_same at edits (Some (as_seen h)) (sym free) ∙ ap (λ (i : Held). Some (as_seen i)) (some_held (cleaned h) j e);
  is_known = λ j e. is.is_known h refl;
  below = λ j e. subst (λ (i : Held). i.lsn < next) (some_held (cleaned h) j e) (is.below h refl);
  clean = λ d. refl;
  pinned = free;
  on_top = λ on. absurd (cc);
}
  where
    free : false ≡ is_changed at edits (Some (as_seen h))
    free = is.pinned ∙ ap (is_changed at edits) (page_free known h raw made edits at next is)

-- a clean one leaves
pub page_taken : (known : Bool) (frame : Option Held) (pin : Bool) (raw made : Seen) (edits : List Edit) (at next : ℕ) → dirty_of frame ≡ false → PageOn known frame pin raw made edits at next → PageOn known None pin raw made edits at next
page_taken known frame pin raw made edits at next off is = record {
  held = λ h e. absurd (cc);
  is_known = λ h e. absurd (cc);
  below = λ h e. absurd (cc);
  clean = λ d. is.clean off;
  pinned = is.pinned;
  on_top = λ on. sym off ∙ is.on_top on;
}

-- edits behind its log sequence number are put on it
pub page_edited : (known pin : Bool) (raw made : Seen) (edits es : List Edit) (at next : ℕ) (h : Held) → is_some_edit es ≡ true → h.lsn < at → PageOn known (Some h) pin raw made edits at next
    → PageOn known (Some (edited_held es h)) true raw made (edits ++ es) at next
page_edited known pin raw made edits es at next h some low is = record {
  held = λ j e. topped_more at edits es made h.lsn h.body before (is.held h refl) ∙ ap (λ (i : Held). Some (as_seen i)) (some_held (edited_held es h) j e);
  is_known = λ j e. is.is_known h refl;
  below = λ j e. subst (λ (i : Held). i.lsn < next) (some_held (edited_held es h) j e) (is.below h refl);
  clean = λ d. absurd (cc);
  pinned = sym (ap (λ (b : Bool). b && is_before at made) (some_edit_append edits es some) ∙ before);
  on_top = λ on. refl;
}
  where
    before : is_before at made ≡ true
    before = topped_before at edits made h.lsn h.body (is.held h refl) ∙ lt_true h.lsn at low

-- edits that it has already aren't
pub page_passed : (known pin : Bool) (raw made : Seen) (edits es : List Edit) (at next : ℕ) (h : Held) → at ≤ h.lsn → PageOn known (Some h) pin raw made edits at next → PageOn known (Some h) pin raw made (edits ++ es) at next
page_passed known pin raw made edits es at next h past is = record {
  held = λ j e. topped_past at (edits ++ es) made before ∙ sym (topped_past at edits made before) ∙ is.held j e;
  is_known = is.is_known;
  below = is.below;
  clean = is.clean;
  pinned = is.pinned ∙ ap (λ (b : Bool). is_some_edit edits && b) before ∙ and_false (is_some_edit edits) ∙ sym (ap (λ (b : Bool). is_some_edit (edits ++ es) && b) before ∙ and_false (is_some_edit (edits ++ es)));
  on_top = is.on_top;
}
  where
    before : is_before at made ≡ false
    before = topped_before at edits made h.lsn h.body (is.held h refl) ∙ lt_false h.lsn at past

-- The group ends: a pinned page gets its number.
pub page_ended : (known : Bool) (frame : Option Held) (pin : Bool) (raw made : Seen) (edits : List Edit) (at at' next next' : ℕ) → at < next' → next ≤ next' → PageOn known frame pin raw made edits at next
    → PageOn known (cond pin (option_map (stamped at) frame) frame) false raw (stepped at edits made) [] at' next'
page_ended known frame true raw made edits at at' next next' low le is = record {
  held = λ j e. topped_same at' [] (stepped at edits made) refl ∙ held_by frame refl j e;
  is_known = λ j e. known_by frame refl j e;
  below = λ j e. below_by frame j e;
  clean = λ d. absurd (let e : true ≡ false = sym (is.on_top refl) ∙ sym (same_dirt frame) ∙ d in (cc));
  pinned = refl;
  on_top = λ on. absurd (cc);
}
  where
    same_dirt : (f : Option Held) → dirty_of (option_map (stamped at) f) ≡ dirty_of f
    same_dirt None = refl
    same_dirt (Some h) = refl

    held_by : (f : Option Held) → frame ≡ f → (j : Held) → option_map (stamped at) f ≡ Some j → stepped at edits made ≡ Some (as_seen j)
    held_by None f_is j e = absurd (cc)
    held_by (Some h) f_is j e = stepped_topped at edits made h.lsn h.body (sym is.pinned) (is.held h f_is) ∙ ap (λ (i : Held). Some (as_seen i)) (some_held (stamped at h) j e)

    known_by : (f : Option Held) → frame ≡ f → (j : Held) → option_map (stamped at) f ≡ Some j → known ≡ true
    known_by None f_is j e = absurd (cc)
    known_by (Some h) f_is j e = is.is_known h f_is

    below_by : (f : Option Held) (j : Held) → option_map (stamped at) f ≡ Some j → j.lsn < next'
    below_by None j e = absurd (cc)
    below_by (Some h) j e = subst (λ (i : Held). i.lsn < next') (some_held (stamped at h) j e) low
page_ended known frame false raw made edits at at' next next' low le is = record {
  held = λ j e. topped_same at' [] (stepped at edits made) refl ∙ step ∙ sym (topped_same at edits made (sym is.pinned)) ∙ is.held j e;
  is_known = is.is_known;
  below = λ j e. let less = is.below j e in omega (arith, less, le);
  clean = λ d. step ∙ is.clean d;
  pinned = refl;
  on_top = λ on. absurd (cc);
}
  where
    step : stepped at edits made ≡ made
    step = stepped_same at edits made (sym is.pinned)
