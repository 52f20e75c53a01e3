use Rattle.aria_cache.proofs.MemFiles.{put_set}
use Rattle.aria_cache.proofs.mem_pages.set_in.Goals as goal

pub returns-clause-ok : goal.returns-clause-ok
returns-clause-ok c = put_set c.args.part c.args.files.now c.insert.new.self c.args.name c.new.result c.args.pages c.in_ok-insert.ensures.updates.0 c.new.ensures.set c.new.ensures.count c.new.ensures.none
