-- Causes of calls that come one after another.
use Rattle.std.proofs.Common.{◌≡◌, ◌∙◌, Option, None, Some, refl, arith}
use Rattle.std.specs.Prelude.{IfSome}
use Rattle.aria_host.specs.declared.fault.Fault.{Fault}
use Rattle.aria_cache.specs.PageState.{PageState}
use Rattle.aria_cache.specs.Causes.{HasPagesCause}

weaker : (C D : Fault → Type 0) → ((f : Fault) → C f → D f) → (fault : Option Fault) → IfSome fault C → IfSome fault D
weaker C D more None is = is
weaker C D more (Some f) is = more f is

pub cause_weaker : (C D : Fault → Type 0) (old new : PageState) (fault : Option Fault) → ((f : Fault) → C f → D f) → HasPagesCause C old new fault → HasPagesCause D old new fault
cause_weaker C D old new fault more is = record { cause = λ none. weaker C D more fault (is.cause none); calm = is.calm; later = is.later }

-- a call that answered no fault, and one behind it
pub cause_on : (C D : Fault → Type 0) (a b c : PageState) (fault : Option Fault) → HasPagesCause C a b None → b.kept ≡ None → HasPagesCause D b c fault → HasPagesCause D a c fault
cause_on C D a b c fault first kept second = record {
  cause = λ none. second.cause kept;
  calm = λ none. second.calm none ∙ first.calm refl;
  later = let same = first.calm refl in omega (arith, same, second.later);
}
