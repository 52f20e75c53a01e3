-- Pages that are looked at, one after another.
use Rattle.std.proofs.Common.{◌≡◌, ap, ℕ, ◌+◌, ◌%◌, ◌≤◌, Bool, Option, Some, None, List, refl, ◌∙◌, arith, subst, inl, inr}
use Rattle.std.specs.Prelude.{IfSome}
use Rattle.std.proofs.lemmas.Bool.{cases_eq}
use Rattle.aria_host.specs.declared.file_name.FileName.{FileName}
use Rattle.aria_cache.specs.PageState.{PageState, Bodies, Counts}
use Rattle.aria_cache.specs.Calls.{Loads}
use Rattle.aria_cache.proofs.Growing.{fewer_on}
use Rattle.aria_block.specs.Causes.{KeepsSound}
use Rattle.aria_block.specs.declared.part_kind.PartKind.{PartKind}
use Rattle.aria_block.specs.DataFile.{map_of}
use Rattle.aria_block.specs.Finding.{Looks, FindsUnder, NoneBefore, FindsPage}

pub looks_loaded : (tells : Bool) (n : ℕ) (old new : PageState) → Loads tells n old new → Looks tells old new
looks_loaded tells n old new loads = record { slots = loads.slots; group = loads.group; log = loads.log; counts = loads.counts; bodies = loads.bodies; late = loads.late }

pub looks_on : (tells : Bool) (a b c : PageState) → Looks tells a b → Looks tells b c → Looks tells a c
looks_on tells a b c first second = record {
  slots = record { is_open = second.slots.is_open ∙ first.slots.is_open; name = second.slots.name ∙ first.slots.name };
  group = record {
    in_group = second.group.in_group ∙ first.group.in_group;
    edited = second.group.edited ∙ first.group.edited;
    edits = second.group.edits ∙ first.group.edits;
    touched = second.group.touched ∙ first.group.touched;
    made = second.group.made ∙ first.group.made;
    bytes = second.group.bytes ∙ first.group.bytes;
  };
  log = record { pending = second.log.pending ∙ first.log.pending; reach = second.log.reach ∙ first.log.reach };
  counts = second.counts ∙ first.counts;
  bodies = λ told. second.bodies told ∙ first.bodies told;
  late = λ told. fewer_on a b c (first.late told) (second.late told);
}

pub keeps_looked : (tells : Bool) (file : FileName) (old new : PageState) → Looks tells old new → KeepsSound tells file old new
keeps_looked tells file old new looks = record {
  sound = λ told m none. subst (λ (b : Bodies). b file m ≡ None) (looks.bodies told) none;
  late = looks.late;
  others = λ f other. ap (λ (c : Counts). c f) looks.counts;
}

-- no page is promised before the next bitmap page
pub none_next : (kind : PartKind) (len count at : ℕ) (bodies : ℕ → Option (List ℕ)) → at % 21809 ≡ 0 → NoneBefore kind len count bodies at
    → ((map : List ℕ) → bodies at ≡ Some map → FindsUnder kind len count at map None) → NoneBefore kind len count bodies (at + 21809)
none_next kind len count at bodies even before here n plain low inside map is promised = elim (cases_eq (map_of n) at) [
  | inl same ↦ here map (subst (λ (k : ℕ). bodies k ≡ Some map) same is) n plain same inside promised
  | inr other ↦ before n plain (omega (arith, even, low, other)) inside map is promised
]

-- the answer of the last bitmap page that was asked
pub found_page : (kind : PartKind) (len count at : ℕ) (bodies : ℕ → Option (List ℕ)) (o : Option ℕ) → at % 21809 ≡ 0 → NoneBefore kind len count bodies at
    → ((map : List ℕ) → bodies at ≡ Some map → FindsUnder kind len count at map o) → IfSome o (λ n. map_of n ≡ at) → (o ≡ None → count ≤ at + 21809) → FindsPage kind len count bodies o
found_page kind len count at bodies (Some n) even before here same last = λ map is. (here map (subst (λ (k : ℕ). bodies k ≡ Some map) same is)).3
found_page kind len count at bodies None even before here same last = λ n plain low inside map is promised.
    none_next kind len count at bodies even before here n plain (omega (arith, low, last refl)) inside map is promised
