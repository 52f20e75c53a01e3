-- A slot that stands for no table is added behind the others.
use Rattle.std.proofs.Common.{◌≡◌, ◌∙◌, ◌⊎◌, ◌&&◌, ◌||◌, inl, inr, ◌/◌, ◌%◌, ◌^◌, ◌≤◌, ℕ, zero, suc, Bool, true, false, cond, List, [], ◌∷◌, ◌++◌, ap, sym, refl, subst, arith, Option, None, Some}
use Rattle.std.specs.Prelude.{is_some, slice_get}
use Rattle.std.specs.List.{list_any}
use Rattle.std.specs.BTreeMap.{get}
use Rattle.std.specs.Ordering.{nat_cmp}
use Rattle.std.specs.Cmp.Lexicographic.{slice_cmp}
use Rattle.std.specs.Option.{option_map, option_map_or, option_and_then}
use Rattle.aria_page.specs.declared.place.Part.{Part}
use Rattle.aria_page.specs.declared.place.Part.TheVariants.{Keys, Rows}
use Rattle.aria_value.specs.Named.{same_name}
use Rattle.aria_host.specs.Folder.{Folder}
use Rattle.aria_host.specs.State.{State}
use Rattle.aria_host.proofs.Moments.{OnlyNow}
use Rattle.aria_record.specs.Logged.{Logged}
use Rattle.aria_record.specs.Writing.{records_of}
use Rattle.aria_cache.specs.Frames.{held, is_pinned}
use Rattle.aria_recovery.specs.Frames.{Spot, FramesOver, all_of}
use Rattle.aria_recovery.specs.Images.{AreImages}
use Rattle.aria_recovery.specs.Redo.{touches}
use Rattle.aria_pager.specs.declared.page_store.PageStore.{PageStore}
use Rattle.aria_pager.specs.declared.slot.Slot.{Slot}
use Rattle.aria_pager.specs.PageStore.{name_in, name_at, sizes_in, opened, stands_for, part_of_key, spot_of}
use Rattle.aria_pager.specs.Pager.{IsPager, next_number}
use Rattle.aria_pager.specs.Steps.{Steps}
use Rattle.aria_pager.specs.View.{size_in}
use Rattle.aria_pager.specs.Filing.{empty_slot, Reserves, AreTidy, with_slots}
use Rattle.aria_pager.proofs.Stepping.{still_step}

abbrev pub More : List Slot → List Slot → Type 0
More xs ys = (ys ≡ xs) ⊎ ((name : List ℕ) × (ys ≡ xs ++ empty_slot name ∷ []))

-- the slots stand for the same tables
name_push : (xs : List Slot) (x : Slot) (n : ℕ) → x.used ≡ false → option_and_then name_in (slice_get (xs ++ x ∷ []) n) ≡ option_and_then name_in (slice_get xs n)
name_push [] x zero off = ap (λ (b : Bool). cond b (Some x.name) None) off
name_push [] x (suc n) off = refl
name_push (y ∷ xs) x zero off = refl
name_push (y ∷ xs) x (suc n) off = name_push xs x n off

names_more : (xs ys : List Slot) → More xs ys → (n : ℕ) → option_and_then name_in (slice_get ys n) ≡ option_and_then name_in (slice_get xs n)
names_more xs ys (inl same) n = ap (λ (l : List Slot). option_and_then name_in (slice_get l n)) same
names_more xs ys (inr (name, same)) n = ap (λ (l : List Slot). option_and_then name_in (slice_get l n)) same ∙ name_push xs (empty_slot name) n refl

any_push : (name : List ℕ) (xs : List Slot) (x : Slot) → x.used ≡ false → list_any (stands_for name) (xs ++ x ∷ []) ≡ list_any (stands_for name) xs
any_push name [] x off = ap (λ (b : Bool). (b && same_name x.name name) || false) off
any_push name (y ∷ xs) x off = ap (λ (b : Bool). stands_for name y || b) (any_push name xs x off)

any_more : (name : List ℕ) (xs ys : List Slot) → More xs ys → list_any (stands_for name) ys ≡ list_any (stands_for name) xs
any_more name xs ys (inl same) = ap (list_any (stands_for name)) same
any_more name xs ys (inr (other, same)) = ap (list_any (stands_for name)) same ∙ any_push name xs (empty_slot other) refl

-- a slot that is used was there
used_push : (xs : List Slot) (x : Slot) (n : ℕ) (slot : Slot) → x.used ≡ false → slice_get (xs ++ x ∷ []) n ≡ Some slot → slot.used ≡ true → slice_get xs n ≡ Some slot
used_push [] x zero slot off at on = absurd (let e : Some x ≡ Some slot = at in used x slot e off on)
  where
    used : (a b : Slot) → Some a ≡ Some b → a.used ≡ false → b.used ≡ true → ⊥
    used a b e off on = let s : a ≡ b = cc in let f : false ≡ true = sym off ∙ ap (λ (s : Slot). s.used) s ∙ on in (cc)
used_push [] x (suc n) slot off at on = absurd (let e : None ≡ Some slot = at in (cc))
used_push (y ∷ xs) x zero slot off at on = at
used_push (y ∷ xs) x (suc n) slot off at on = used_push xs x n slot off at on

used_more : (xs ys : List Slot) → More xs ys → (n : ℕ) (slot : Slot) → slice_get ys n ≡ Some slot → slot.used ≡ true → slice_get xs n ≡ Some slot
used_more xs ys (inl same) n slot at on = ap (λ (l : List Slot). slice_get l n) (sym same) ∙ at
used_more xs ys (inr (name, same)) n slot at on = used_push xs (empty_slot name) n slot refl (ap (λ (l : List Slot). slice_get l n) (sym same) ∙ at) on

-- a slot that was there is there still
there_push : (xs : List Slot) (x : Slot) (n : ℕ) (slot : Slot) → slice_get xs n ≡ Some slot → slice_get (xs ++ x ∷ []) n ≡ Some slot
there_push [] x n slot at = absurd (let e : None ≡ Some slot = at in (cc))
there_push (y ∷ xs) x zero slot at = at
there_push (y ∷ xs) x (suc n) slot at = there_push xs x n slot at

pub more_there : (xs ys : List Slot) → More xs ys → (n : ℕ) (slot : Slot) → slice_get xs n ≡ Some slot → slice_get ys n ≡ Some slot
more_there xs ys (inl same) n slot at = ap (λ (l : List Slot). slice_get l n) same ∙ at
more_there xs ys (inr (name, same)) n slot at = ap (λ (l : List Slot). slice_get l n) same ∙ there_push xs (empty_slot name) n slot at

-- the files have as many pages as they had, or none
sizes_push : (xs : List Slot) (x : Slot) (n : ℕ) (sizes : ℕ × ℕ) → option_map sizes_in (slice_get (xs ++ x ∷ []) n) ≡ Some sizes → (option_map sizes_in (slice_get xs n) ≡ Some sizes) ⊎ (sizes_in x ≡ sizes)
sizes_push [] x zero sizes at = inr (some (sizes_in x) sizes at)
  where
    some : (a b : ℕ × ℕ) → Some a ≡ Some b → a ≡ b
    some a b e = cc
sizes_push [] x (suc n) sizes at = inl at
sizes_push (y ∷ xs) x zero sizes at = inl at
sizes_push (y ∷ xs) x (suc n) sizes at = sizes_push xs x n sizes at

pub few_more : (xs ys : List Slot) → More xs ys → ((n : ℕ) (part : Part) (sizes : ℕ × ℕ) → option_map sizes_in (slice_get xs n) ≡ Some sizes → size_in part sizes ≤ 2 ^ 31)
    → (n : ℕ) (part : Part) (sizes : ℕ × ℕ) → option_map sizes_in (slice_get ys n) ≡ Some sizes → size_in part sizes ≤ 2 ^ 31
few_more xs ys (inl same) few n part sizes at = few n part sizes (ap (λ (l : List Slot). option_map sizes_in (slice_get l n)) (sym same) ∙ at)
few_more xs ys (inr (name, same)) few n part sizes at = by (sizes_push xs (empty_slot name) n sizes (ap (λ (l : List Slot). option_map sizes_in (slice_get l n)) (sym same) ∙ at))
  where
    none : (p : Part) → size_in p (sizes_in (empty_slot name)) ≤ 2 ^ 31
    none Keys = omega arith
    none Rows = omega arith

    by : (option_map sizes_in (slice_get xs n) ≡ Some sizes) ⊎ (sizes_in (empty_slot name) ≡ sizes) → size_in part sizes ≤ 2 ^ 31
    by (inl was) = few n part sizes was
    by (inr is) = subst (λ (z : ℕ × ℕ). size_in part z ≤ 2 ^ 31) is (none part)

abbrev spots : (ℕ → Option (List ℕ)) → ℕ → Option Spot
spots names key = option_map (λ name. record { name = name; part = part_of_key key; page = key % 2 ^ 31 }) (names (key / 2 ^ 32))

module _ (store : PageStore) (slots : List Slot) (more : More store.slots slots) where
  pub names_same : name_at (with_slots store slots) ≡ name_at store
  names_same = λ i n. names_more store.slots slots more n i

  pub opens_same : opened (with_slots store slots) ≡ opened store
  opens_same = λ i name. any_more name store.slots slots more i

  spots_same : spot_of (with_slots store slots) ≡ spot_of store
  spots_same = λ i key. spots (names_same i) key

  pub pager_reserved : (s : State) (base : ℕ) (start : Folder) (groups : List Logged) (forced : ℕ) → IsPager store s base start groups forced → IsPager (with_slots store slots) s base start groups forced
  pager_reserved s base start groups forced is = record {
    log = is.log;
    images = subst (λ (o : List ℕ → Bool). AreImages o s groups forced) (sym opens_same) is.images;
    names = is.names;
    control = is.control;
    raises = is.raises;
    pages = subst (λ (sp : ℕ → Option Spot). FramesOver (λ k. is_some (sp k)) (held store.frames) (is_pinned store.frames) sp s.folder groups (all_of groups) (records_of store.writer) (next_number store) (next_number store)) (sym spots_same) is.pages;
    top = inr (λ k. refl);
    inside = λ k sp at. is.inside k sp (ap (λ (f : ℕ → Option Spot). f k) (sym spots_same) ∙ at);
    pinned = λ key. is.pinned key ∙ ap (λ (f : ℕ → Option Spot). option_map_or (λ s. touches s.name s.part s.page (records_of store.writer)) (f key) false) (sym spots_same);
    own = λ name part n on. let o = is.own name part n on in (o.0, ap (λ (f : ℕ → Option Spot). f o.0) spots_same ∙ o.1);
    named = λ name part off. is.named name part (ap (λ (f : List ℕ → Bool). f name) (sym opens_same) ∙ off);
    slots = λ n slot at used. let was = is.slots n slot (used_more store.slots slots more n slot at used) used in record {
      table = was.table;
      files = λ q. let d = was.files q in record { content = d.content; there = d.there; written = d.written; counts = d.counts; few = d.few };
      known = was.known;
    };
    tables = record { each = is.tables.each; slot = λ name n e. ap (λ (f : ℕ → Option (List ℕ)). f n) names_same ∙ is.tables.slot name n e; silent = is.tables.silent };
    settled = is.settled;
    written = is.written;
    pending = is.pending;
  }

  -- A SLOT WAS RESERVED
  pub reserve_step : (s : State) (base : ℕ) (start : Folder) (groups : List Logged) (forced : ℕ) (done : Bool) → OnlyNow s → s.may_leave s.folder → IsPager store s base start groups forced → Steps store (with_slots store slots) s s base start groups forced done
  reserve_step s base start groups forced done only reads is = still_step store (with_slots store slots) s (all_of groups) base start groups forced done only reads (λ on p. pager_reserved s base start groups forced p) is

  -- the slots are tidy still
  pub tidy_reserved : AreTidy store → AreTidy (with_slots store slots)
  tidy_reserved is = record {
    known = λ n name at. is.known n name (ap (λ (f : ℕ → Option (List ℕ)). f n) (sym names_same) ∙ at);
    few = few_more store.slots slots more is.few;
  }

-- the slots stand for the same tables
pub names_reserved : (a b : PageStore) → Reserves a b → name_at b ≡ name_at a
names_reserved a b is = λ i n. names_more a.slots b.slots is.slots n i

pub opens_reserved : (a b : PageStore) → Reserves a b → opened b ≡ opened a
opens_reserved a b is = λ i name. any_more name a.slots b.slots is.slots i

-- a slot that was there is
pub there_more : (a b : PageStore) → Reserves a b → (n : ℕ) (slot : Slot) → slice_get a.slots n ≡ Some slot → slice_get b.slots n ≡ Some slot
there_more a b is = more_there a.slots b.slots is.slots

-- the slots are tidy still, where the tables that are known stay
pub tidy_ready : (a b : PageStore) → b.tables ≡ a.tables → Reserves a b → AreTidy a → AreTidy b
tidy_ready a b tables reserves is = record {
  known = λ n name at. ap (λ t. get (slice_cmp nat_cmp) t name) tables ∙ is.known n name (ap (λ (f : ℕ → Option (List ℕ)). f n) (sym (names_reserved a b reserves)) ∙ at);
  few = few_more a.slots b.slots reserves.slots is.few;
}
