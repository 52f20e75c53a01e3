use Rattle.aria_cache.proofs.MemStates.{files_none}
use Rattle.aria_cache.proofs.mem_pages.MemPages.new.Goals as goal

pub returns-clause-stands : goal.returns-clause-stands
returns-clause-stands c = files_none c.new.result c.new-2.result c.new.ensures.empty c.new-2.ensures.empty
