-- A node that has no room for another item in the place of one, which was taken out.
use Rattle.std.proofs.Common.{◌≡◌, ◌==◌, ◌&&◌, ℕ, ◌<◌, false, List, [], ◌∷◌, length, sym, ap, subst, ◌∙◌, arith}
use Rattle.std.specs.List.{AllByRecursion}
use Rattle.std.proofs.lemmas.Bool.{ne_eqb}
use Rattle.aria_host.specs.declared.file_name.FileName.{FileName}
use Rattle.aria_host.specs.Folder.{same_file}
use Rattle.aria_host.proofs.Files.{same_file-refl}
use Rattle.aria_cache.specs.PageState.{PageState, Bodies, Counts}
use Rattle.aria_keypage.specs.declared.key_page.TheConstants.{ITEM_BYTES_MAX}
use Rattle.aria_keypage.specs.declared.kind.Kind.TheVariants.{Node}
use Rattle.aria_keypage.specs.Item.{Item}
use Rattle.aria_keypage.specs.Content.{Content, item_bytes}
use Rattle.aria_keypage.specs.Change.{without_item}
use Rattle.aria_key.specs.Held.{Rewritten, IsPutInHalf}
use Rattle.aria_key.specs.IndexFile.{IsChain, times_free}
use Rattle.aria_key.specs.Taking.{IsTaken}
use Rattle.aria_key.specs.Ascent.{IsCramped}
use Rattle.aria_key.specs.Merging.{IsRenamable}
use Rattle.aria_key.specs.Exchanging.{exchanged, IsTight}
use Rattle.aria_key.proofs.Spare.{chain-still}
use Rattle.aria_key.proofs.Sparing.{held_then}
use Rattle.aria_key.proofs.Cramped.{chain-then, low-then}
use Rattle.aria_key.proofs.Exchanged.{place-left}

-- the free pages weren't written
off-same : (file : FileName) (page : ℕ) (c : Content) (old new : Bodies) (left : List ℕ) → Rewritten file page c old new → times_free page left ≡ 0 → (n : ℕ) → 0 < times_free n left → new file n ≡ old file n
off-same file page c old new left w off n some =
    let test : (same_file file file && (page == n)) ≡ false = (λ i. same_file-refl file i && ne_eqb page n (λ e. let same : times_free page left ≡ times_free n left = ap (λ (m : ℕ). times_free m left) e in omega (arith, off, some, same)) i) in
    w.other file n test

pub chain-off : (file : FileName) (page : ℕ) (c : Content) (old new : Bodies) (free : ℕ) (left : List ℕ) → Rewritten file page c old new → times_free page left ≡ 0 → IsChain (old file) free left → IsChain (new file) free left
chain-off file page c old new free left w off chain = chain-still (old file) (new file) free left (off-same file page c old new left w off) chain

-- the page that was taken, seen from before the item was taken out
pub taken-back : (file : FileName) (page : ℕ) (c : Content) (old mid : Bodies) (count fresh next : ℕ) (left : List ℕ) → Rewritten file page c old mid → times_free page left ≡ 0 → IsTaken (mid file) count left fresh next → IsTaken (old file) count left fresh next
taken-back file page c old mid count fresh next [] w off is = is
taken-back file page c old mid count fresh next (p ∷ ps) w off is =
    let rest : times_free page ps ≡ 0 = omega (arith, off) in
    (is.0, chain-still (mid file) (old file) next ps (λ n some. sym (off-same file page c old mid ps w rest n some)) is.1)

pub half-back : (file : FileName) (page fresh : ℕ) (b c : Content) (at : ℕ) (x : Item) (between : List ℕ) (old mid new : Bodies) → Rewritten file page b old mid → IsPutInHalf file page fresh c at x between mid new → IsPutInHalf file page fresh c at x between old new
half-back file page fresh b c at x between old mid new w h = record {
  k = h.k;
  middle = h.middle;
  sizes = h.sizes;
  left = h.left;
  right = h.right;
  between_is = h.between_is;
  other = λ f n p q. h.other f n p q ∙ w.other f n p;
}

-- it can be divided then
pub tight-cramped : (s mid : PageState) (file other : FileName) (page at : ℕ) (x : Item) (free : ℕ) → other ≡ file → (h : IsTight s file page at x free) → Rewritten file page (without_item h.place.content at) s.bodies mid.bodies → mid.counts ≡ s.counts → IsCramped mid other page Node at x free
tight-cramped s mid file other page at x free same h w counts =
    let n : mid.counts file ≡ s.counts file = ap (λ (c : Counts). c file) counts in
    let whole : IsCramped mid file page Node at x free = record {
      place = record {
        low = omega (arith, n, h.place.low);
        content = without_item h.place.content at;
        held = w.here;
        takes = (h.place.has.0, place-left h.place.content at h.place.has.1);
        short = h.place.short;
        left = h.place.left;
        chain = chain-off file page (without_item h.place.content at) s.bodies mid.bodies free h.place.left w h.place.off h.place.chain;
        off = h.place.off;
        lows = subst (λ (m : ℕ). AllByRecursion (λ p. p < m) h.place.left) (sym n) h.place.lows;
        room = omega (arith, n, h.place.room);
      };
      full = h.full;
    } in
    subst (λ (f : FileName). IsCramped mid f page Node at x free) (sym same) whole

-- the same after it was read
pub tight-then : (s mid : PageState) (file other : FileName) (page at : ℕ) (x : Item) (free : ℕ) → other ≡ file → mid.bodies ≡ s.bodies → mid.counts ≡ s.counts → (h : IsRenamable s file page at x.entry free) → ITEM_BYTES_MAX < length (item_bytes (exchanged h.content at x)) → IsTight mid other page at x free
tight-then s mid file other page at x free same bodies counts h full =
    let n : mid.counts other ≡ s.counts file = ap (λ (c : Counts). c other) counts ∙ ap s.counts same in
    record {
      place = record {
        low = low-then file other page s mid same counts h.low;
        content = h.content;
        held = held_then file other page h.content s.bodies mid.bodies same bodies h.held;
        has = h.has;
        short = h.short;
        left = h.left;
        chain = chain-then file other free h.left s mid same bodies h.chain;
        off = h.off;
        lows = subst (λ (m : ℕ). AllByRecursion (λ p. p < m) h.left) (sym n) h.lows;
        room = omega (arith, n, h.room);
      };
      full = full;
    }
