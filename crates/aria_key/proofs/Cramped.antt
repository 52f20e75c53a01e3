-- A page that takes an item, with or without room, seen from calls before.
use Rattle.std.proofs.Common.{◌≡◌, ℕ, ◌+◌, ◌<◌, max, Bool, cond, List, [], ◌∷◌, length, sym, ap, subst, ◌∙◌, arith}
use Rattle.std.specs.Prelude.{Option, IsSome}
use Rattle.std.specs.List.{AllByRecursion}
use Rattle.std.proofs.lemmas.Bool.{eq-eqb}
use Rattle.aria_host.specs.declared.file_name.FileName.{FileName}
use Rattle.aria_host.proofs.Files.{same_file-refl}
use Rattle.aria_cache.specs.PageState.{PageState, Bodies, Counts, with_count}
use Rattle.aria_keypage.specs.declared.key_page.TheConstants.{ITEM_BYTES_MAX}
use Rattle.aria_keypage.specs.declared.kind.Kind.{Kind}
use Rattle.aria_keypage.specs.Item.{Item}
use Rattle.aria_keypage.specs.Content.{Content, item_bytes}
use Rattle.aria_keypage.specs.Change.{with_item}
use Rattle.aria_key.specs.Held.{HasContent, IsPutInHalf, Takes}
use Rattle.aria_key.specs.IndexFile.{IsChain, times_free}
use Rattle.aria_key.specs.Taking.{IsTaken, HasSpare}
use Rattle.aria_key.specs.Ascent.{IsPlaceable, IsCramped}
use Rattle.aria_key.specs.Reading.{IsOverfull}
use Rattle.aria_key.proofs.Later.{IsThere}
use Rattle.aria_key.proofs.Ready.{grown-most}

-- a page that is taken is another
pub fresh-apart : (bodies : ℕ → Option (List ℕ)) (count page fresh next : ℕ) (left : List ℕ) → IsTaken bodies count left fresh next → page < count → times_free page left ≡ 0 → page ≡ fresh → ⊥
fresh-apart bodies count page fresh next [] is low off e = absurd (omega (arith, is.0, low, e))
fresh-apart bodies count page fresh next (p ∷ ps) is low off e =
    let self : times_free page (p ∷ ps) ≡ 1 + times_free page ps = ap (λ (t : Bool). cond t 1 0 + times_free page ps) (eq-eqb page p (e ∙ is.0)) in
    absurd (omega (arith, off, self))

-- pages can be taken for it
pub placeable-spare : (s : PageState) (file : FileName) (page : ℕ) (kind : Kind) (at : ℕ) (entry : List ℕ) (free : ℕ) → IsPlaceable s file page kind at entry free → HasSpare s file free
placeable-spare s file page kind at entry free h = record { left = h.left; chain = h.chain; low = h.lows; room = h.room }

pub placeable-there : (s : PageState) (file : FileName) (page : ℕ) (kind : Kind) (at : ℕ) (entry : List ℕ) (free : ℕ) → IsPlaceable s file page kind at entry free → IsThere s file page (Takes kind at)
placeable-there s file page kind at entry free h = record { low = h.low; content = h.content; held = h.held; asked = h.takes }

-- where no page was changed
pub cramped-then : (s mid : PageState) (file other : FileName) (page : ℕ) (kind : Kind) (at : ℕ) (x : Item) (free : ℕ) → other ≡ file → mid.bodies ≡ s.bodies → mid.counts ≡ s.counts → (h : IsPlaceable s file page kind at x.entry free) → ITEM_BYTES_MAX < length (item_bytes (with_item h.content at x)) → IsCramped mid other page kind at x free
cramped-then s mid file other page kind at x free same bodies counts h full =
    let b : mid.bodies other ≡ s.bodies file = ap (λ (b : Bodies). b other) bodies ∙ ap s.bodies same in
    let n : mid.counts other ≡ s.counts file = ap (λ (c : Counts). c other) counts ∙ ap s.counts same in
    record {
      place = record {
        low = omega (arith, n, h.low);
        content = h.content;
        held = subst (λ (b : ℕ → Option (List ℕ)). HasContent b page h.content) (sym b) h.held;
        takes = h.takes;
        short = h.short;
        left = h.left;
        chain = subst (λ (b : ℕ → Option (List ℕ)). IsChain b free h.left) (sym b) h.chain;
        off = h.off;
        lows = subst (λ (m : ℕ). AllByRecursion (λ p. p < m) h.left) (sym n) h.lows;
        room = omega (arith, n, h.room);
      };
      full = full;
    }

pub cramped-overfull : (s mid : PageState) (file other : FileName) (page : ℕ) (kind : Kind) (at : ℕ) (x : Item) (free fresh next : ℕ) → other ≡ file → mid.bodies ≡ s.bodies → mid.counts ≡ s.counts → (h : IsCramped s file page kind at x free) → IsTaken (s.bodies file) (s.counts file) h.place.left fresh next → IsSome (s.bodies file fresh)
    → IsOverfull mid other page fresh kind at
cramped-overfull s mid file other page kind at x free fresh next same bodies counts h is some =
    let b : mid.bodies other ≡ s.bodies file = ap (λ (b : Bodies). b other) bodies ∙ ap s.bodies same in
    let n : mid.counts other ≡ s.counts file = ap (λ (c : Counts). c other) counts ∙ ap s.counts same in
    record {
      divisible = record {
        low = omega (arith, n, h.place.low);
        content = h.place.content;
        held = subst (λ (b : ℕ → Option (List ℕ)). HasContent b page h.place.content) (sym b) h.place.held;
        full = omega (arith, h.full, grown-most h.place.content at x h.place.takes.1 h.place.short);
        some = subst (λ (b : ℕ → Option (List ℕ)). IsSome (b fresh)) (sym b) some;
        apart = fresh-apart (s.bodies file) (s.counts file) page fresh next h.place.left is h.place.low h.place.off;
      };
      takes = h.place.takes;
    }

-- a page was put in half, seen from before the read
pub half-then : (file other : FileName) (page fresh : ℕ) (c : Content) (at : ℕ) (x : Item) (between : List ℕ) (old mid new : Bodies) → other ≡ file → mid ≡ old → IsPutInHalf other page fresh c at x between mid new → IsPutInHalf file page fresh c at x between old new
half-then file other page fresh c at x between old mid new same bodies h = subst (λ (b : Bodies). IsPutInHalf file page fresh c at x between b new) bodies (subst (λ (f : FileName). IsPutInHalf f page fresh c at x between mid new) same h)

-- how many pages the file has then
pub count-then : (file other : FileName) (pages : ℕ) (old new : PageState) → other ≡ file → new.counts ≡ with_count other pages old.counts → new.counts file ≡ max (old.counts file) pages
count-then file other pages old new same is =
    ap (λ (c : Counts). c file) is ∙ ap (λ (f : FileName). with_count f pages old.counts file) same ∙ ap (λ (b : Bool). cond b (max (old.counts file) pages) (old.counts file)) (same_file-refl file)

-- the same of what a page needs that is placed
pub chain-then : (file other : FileName) (free : ℕ) (left : List ℕ) (old mid : PageState) → other ≡ file → mid.bodies ≡ old.bodies → IsChain (old.bodies file) free left → IsChain (mid.bodies other) free left
chain-then file other free left old mid same bodies h = let b : mid.bodies other ≡ old.bodies file = ap (λ (b : Bodies). b other) bodies ∙ ap old.bodies same in subst (λ (b : ℕ → Option (List ℕ)). IsChain b free left) (sym b) h

pub low-then : (file other : FileName) (page : ℕ) (old mid : PageState) → other ≡ file → mid.counts ≡ old.counts → page < old.counts file → page < mid.counts other
low-then file other page old mid same counts h = let n : mid.counts other ≡ old.counts file = ap (λ (c : Counts). c other) counts ∙ ap old.counts same in omega (arith, n, h)

pub taken-then : (file other : FileName) (left : List ℕ) (page next : ℕ) (old mid : PageState) → other ≡ file → mid.bodies ≡ old.bodies → mid.counts ≡ old.counts → IsTaken (mid.bodies other) (mid.counts other) left page next → IsTaken (old.bodies file) (old.counts file) left page next
taken-then file other left page next old mid same bodies counts h =
    let b : mid.bodies other ≡ old.bodies file = ap (λ (b : Bodies). b other) bodies ∙ ap old.bodies same in
    let n : mid.counts other ≡ old.counts file = ap (λ (c : Counts). c other) counts ∙ ap old.counts same in
    subst (λ (b : ℕ → Option (List ℕ)). IsTaken b (old.counts file) left page next) b (subst (λ (m : ℕ). IsTaken (mid.bodies other) m left page next) n h)

pub placeable-then : (s mid : PageState) (file other : FileName) (page : ℕ) (kind : Kind) (at : ℕ) (entry : List ℕ) (free : ℕ) → other ≡ file → mid.bodies ≡ s.bodies → mid.counts ≡ s.counts → IsPlaceable s file page kind at entry free → IsPlaceable mid other page kind at entry free
placeable-then s mid file other page kind at entry free same bodies counts h =
    let b : mid.bodies other ≡ s.bodies file = ap (λ (b : Bodies). b other) bodies ∙ ap s.bodies same in
    let n : mid.counts other ≡ s.counts file = ap (λ (c : Counts). c other) counts ∙ ap s.counts same in
    record {
      low = omega (arith, n, h.low);
      content = h.content;
      held = subst (λ (b : ℕ → Option (List ℕ)). HasContent b page h.content) (sym b) h.held;
      takes = h.takes;
      short = h.short;
      left = h.left;
      chain = subst (λ (b : ℕ → Option (List ℕ)). IsChain b free h.left) (sym b) h.chain;
      off = h.off;
      lows = subst (λ (m : ℕ). AllByRecursion (λ p. p < m) h.left) (sym n) h.lows;
      room = omega (arith, n, h.room);
    }
