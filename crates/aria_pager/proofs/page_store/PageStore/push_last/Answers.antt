use Rattle.aria_host.proofs.Answered.{on_ok, on_ok_of}
use Rattle.aria_record.specs.Writing.{records_of}
use Rattle.aria_pager.proofs.Lasting.{last_fits}
use Rattle.aria_pager.proofs.LastSizes.{last_bytes}
use Rattle.aria_pager.proofs.page_store.PageStore.push_last.Goals as goal

pub push_last-requires-clause-last : goal.push_last-requires-clause-last
push_last-requires-clause-last c = last_fits c.args.last.now c.args.self.now.pending.items c.requires.undo c.requires.fits c.requires.undoes

pub returns-clause-bytes : goal.returns-clause-bytes
returns-clause-bytes c = on_ok c.push_last.result _ (λ on.
    let writer = c.args.self.now.writer in
    last_bytes writer c.push_last.new.self c.in-Some.slot.name c.last_undo-prev.result c.args.last.now c.requires.writing ((on_ok_of c.push_last.result _ c.push_last.ensures on).pushed (records_of writer) c.requires.writing))
