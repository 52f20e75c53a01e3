use Rattle.std.proofs.Common.{List, reverse, IfOk, sym, subst}
use Rattle.aria_host.specs.declared.memory.effect.Effect.{Effect}
use Rattle.aria_host.specs.declared.file_name.FileName.{FileName}
use Rattle.aria_host.specs.Effect.{no_files, reads}
use Rattle.aria_host.specs.Listing.{IsListed}
use Rattle.aria_host.specs.MemHost.{base_of}
use Rattle.aria_host.proofs.NameLists.{listed_none}
use Rattle.aria_host.proofs.memory.mem_host.MemHost.listed.Goals as goal

pub returns : goal.returns
returns c =
    let self = c.args.self.now in
    let start = subst (λ (names : List FileName). IsListed no_files names) (sym c.new.ensures.items) listed_none in
    let names = c.in_ok-names.ensures no_files start in
    let base = subst (λ (changes : List Effect). IsListed (reads no_files (reverse changes)) c.in_ok-names.names.items) c.deref.ensures.value names in
    let all = c.list-2.ensures (base_of self) base in
    subst (λ (changes : List Effect). IfOk c.list-2.result (λ names. IsListed (reads (base_of self) (reverse changes)) names.items)) c.deref-2.ensures.value all
