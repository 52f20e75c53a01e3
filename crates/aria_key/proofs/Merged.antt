-- Pages that were merged, seen from before they were read.
use Rattle.std.proofs.Common.{◌≡◌, ℕ, Option, Some, List, sym, subst, rules}
use Rattle.std.specs.Prelude.{IsSome}
use Rattle.aria_host.specs.declared.file_name.FileName.{FileName}
use Rattle.aria_cache.specs.PageState.{PageState, Bodies}
use Rattle.aria_keypage.specs.Content.{Content}
use Rattle.aria_key.specs.Held.{HasContent, IsDivided}
use Rattle.aria_key.specs.Merging.{IsBeside, AreMergeable}
use Rattle.aria_key.proofs.Holding.{held-spells}
use Rattle.aria_key.proofs.Later.{IsThere}
use Rattle.aria_key.proofs.Sparing.{held_then}
use Rattle.aria_key.proofs.Cramped.{low-then}

pub held-some : (bodies : ℕ → Option (List ℕ)) (page : ℕ) (c : Content) → HasContent bodies page c → IsSome (bodies page)
held-some bodies page c h = subst (λ (o : Option (List ℕ)). IsSome o) (sym h.there) (search rules)

pub divided-then : (file other : FileName) (page fresh : ℕ) (c : Content) (between : List ℕ) (old mid new : Bodies) → other ≡ file → mid ≡ old → IsDivided other page fresh c between mid new → IsDivided file page fresh c between old new
divided-then file other page fresh c between old mid new same bodies h = subst (λ (b : Bodies). IsDivided file page fresh c between b new) bodies (subst (λ (f : FileName). IsDivided f page fresh c between mid new) same h)

-- the left one is there, beside a copy of the other
pub beside-then : (s mid : PageState) (file other : FileName) (left right : ℕ) (between body : List ℕ) → other ≡ file → mid.bodies ≡ s.bodies → mid.counts ≡ s.counts → s.bodies file right ≡ Some body → AreMergeable s file left right between → IsThere mid other left (IsBeside body)
beside-then s mid file other left right between body same bodies counts copy h = record {
  low = low-then file other left s mid same counts h.low_left;
  content = h.left_content;
  held = held_then file other left h.left_content s.bodies mid.bodies same bodies h.left_held;
  asked = record { content = h.right_content; spells = held-spells (s.bodies file) right h.right_content body h.right_held copy; same = h.same; thin = h.thin };
}
