use Rattle.std.proofs.Common.{List, ◌+◌, reverse, take, sym, subst}
use Rattle.std.proofs.lemmas.List.{take_all}
use Rattle.aria_host.specs.declared.memory.effect.Effect.{Effect}
use Rattle.aria_host.specs.declared.file_name.FileName.{FileName}
use Rattle.aria_host.specs.Effect.{reads}
use Rattle.aria_host.specs.Listing.{IsListed}
use Rattle.aria_host.proofs.NameLists.{listed_more}
use Rattle.aria_host.proofs.memory.listing.list.Goals as goal

pub loop-change-preserved : goal.loop-change-preserved
loop-change-preserved c = λ base start.
    let l = c.loop-change in
    let more = listed_more base c.args.changes.now l.change-index c.change-item.result l.list.items c.loop-change-test.true c.change-item.is (l.invariant base start) in
    subst (λ (names : List FileName). IsListed (reads base (reverse (take (l.change-index + 1) c.args.changes.now))) names) (sym c.in_ok-list.ensures) more

pub returns : goal.returns
returns c = λ base start.
    let l = c.loop-change in
    subst (λ (changes : List Effect). IsListed (reads base (reverse changes)) l.list.items) (take_all l.change-index c.args.changes.now c.loop-change-test.false) (l.invariant base start)
