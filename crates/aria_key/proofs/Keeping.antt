-- What an index file holds, seen from before the header was read.
use Rattle.std.proofs.Common.{◌≡◌, ℕ, List, sym, ap, subst, ◌∙◌, arith}
use Rattle.std.specs.Prelude.{Option, Some}
use Rattle.std.proofs.lemmas.Option.{same_Some}
use Rattle.aria_host.specs.declared.file_name.FileName.{FileName}
use Rattle.aria_cache.specs.PageState.{PageState, Bodies, Counts}
use Rattle.aria_keypage.specs.Item.{Item}
use Rattle.aria_key.specs.IndexFile.{root_in, free_in, HoldsTrees}
use Rattle.aria_key.specs.Inserting.{HeaderKept, CanInsert}

same-bodies : (file other : FileName) (old mid : PageState) → other ≡ file → mid.bodies ≡ old.bodies → mid.bodies other ≡ old.bodies file
same-bodies file other old mid same bodies = ap (λ (b : Bodies). b other) bodies ∙ ap old.bodies same

same-counts : (file other : FileName) (old mid : PageState) → other ≡ file → mid.counts ≡ old.counts → mid.counts other ≡ old.counts file
same-counts file other old mid same counts = ap (λ (n : Counts). n other) counts ∙ ap old.counts same

pub holds-then : (keys : ℕ) (walks : ℕ → List Item) (file other : FileName) (old mid : PageState) → other ≡ file → mid.bodies ≡ old.bodies → mid.counts ≡ old.counts → HoldsTrees keys (old.counts file) (old.bodies file) walks → HoldsTrees keys (mid.counts other) (mid.bodies other) walks
holds-then keys walks file other old mid same bodies counts h =
    subst (λ (n : ℕ). HoldsTrees keys n (mid.bodies other) walks) (sym (same-counts file other old mid same counts))
    (subst (λ (b : ℕ → Option (List ℕ)). HoldsTrees keys (old.counts file) b walks) (sym (same-bodies file other old mid same bodies)) h)

pub says-then : (key root free : ℕ) (file other : FileName) (old mid : PageState) → other ≡ file → mid.bodies ≡ old.bodies → ((header : List ℕ) → old.bodies file 0 ≡ Some header → (root ≡ root_in header key) × (free ≡ free_in header)) → (header : List ℕ) → mid.bodies other 0 ≡ Some header → (root ≡ root_in header key) × (free ≡ free_in header)
says-then key root free file other old mid same bodies says header there = says header (sym (ap (λ (b : ℕ → Option (List ℕ)). b 0) (same-bodies file other old mid same bodies)) ∙ there)

pub can-then : (key : ℕ) (entry : List ℕ) (file other : FileName) (old mid : PageState) → other ≡ file → mid.bodies ≡ old.bodies → mid.counts ≡ old.counts → CanInsert old file key entry → CanInsert mid other key entry
can-then key entry file other old mid same bodies counts c = record {
  keys = c.keys;
  walks = c.walks;
  low = c.low;
  held = holds-then c.keys c.walks file other old mid same bodies counts c.held;
  absent = c.absent;
  few = c.few;
  room = omega (arith, c.room, same-counts file other old mid same counts);
}

pub trees-back : (keys : ℕ) (walks : ℕ → List Item) (file other : FileName) (new : PageState) → other ≡ file → HoldsTrees keys (new.counts other) (new.bodies other) walks → HoldsTrees keys (new.counts file) (new.bodies file) walks
trees-back keys walks file other new same h = subst (λ (f : FileName). HoldsTrees keys (new.counts f) (new.bodies f) walks) same h

pub one-header : (file other : FileName) (one two : List ℕ) (old mid : PageState) → other ≡ file → mid.bodies ≡ old.bodies → mid.bodies other 0 ≡ Some one → old.bodies file 0 ≡ Some two → one ≡ two
one-header file other one two old mid same bodies a b = same_Some one two (sym a ∙ ap (λ (b : ℕ → Option (List ℕ)). b 0) (same-bodies file other old mid same bodies) ∙ b)

pub header-back : (key : ℕ) (one two : List ℕ) (file other : FileName) (old mid new : PageState) → other ≡ file → mid.counts ≡ old.counts → one ≡ two → HeaderKept key (mid.counts other) (new.counts other) one (new.bodies other) → HeaderKept key (old.counts file) (new.counts file) two (new.bodies file)
header-back key one two file other old mid new same counts is h =
    subst (λ (n : ℕ). HeaderKept key n (new.counts file) two (new.bodies file)) (same-counts file other old mid same counts)
    (subst (λ (f : FileName). HeaderKept key (mid.counts other) (new.counts f) two (new.bodies f)) same (subst (λ (l : List ℕ). HeaderKept key (mid.counts other) (new.counts other) l (new.bodies other)) is h))
