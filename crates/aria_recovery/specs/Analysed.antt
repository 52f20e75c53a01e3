-- What one pass over the groups knows of them.
use Rattle.std.specs.Prelude.{◌≡◌, List}
use Rattle.std.specs.Option.{option_map}
use Rattle.aria_page.specs.declared.lsn.Lsn.{Lsn}
use Rattle.aria_record.specs.Logged.{Logged, lsn_at_place}
use Rattle.aria_recovery.specs.Noted.{HasLives}
use Rattle.aria_recovery.specs.Pending.{pending_of, oldest, unchained}
use Rattle.aria_recovery.specs.declared.analysis.Analysis.{Analysis}
use Rattle.aria_recovery.specs.declared.chain.Chain.{Chain}

-- the pending undo records of these groups, and the first failure of their chain behind the checkpoint
pub record HasChain (checkpoint : Lsn) (chain : Chain) (gs : List Logged) : Type 0 where
  pub checkpoint_is : chain.checkpoint ≡ checkpoint
  pub pending : chain.pending.items ≡ oldest (pending_of gs)
  pub unchained : chain.unchained ≡ option_map lsn_at_place (unchained checkpoint gs)

-- THE ANALYSIS OF THESE GROUPS
pub record Has (checkpoint : Lsn) (analysis : Analysis) (gs : List Logged) : Type 0 where
  pub chain : HasChain checkpoint analysis.chain gs
  pub lives : HasLives analysis.lives gs
