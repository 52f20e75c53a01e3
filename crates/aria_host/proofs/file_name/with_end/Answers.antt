use Rattle.std.specs.Prelude.{codes}
use Rattle.aria_host.proofs.Named.{no_end, other}
use Rattle.aria_host.proofs.file_name.with_end.Goals as goal

pub returns-else-eq-4-clause-none : goal.returns-else-eq-4-clause-none
returns-else-eq-4-clause-none c = λ _.
    let back = c.args.end.now in
    no_end c.args.name back c.requires (other back (codes ".MAI") c.if-eq.ensures) (other back (codes ".MAD") c.if-eq-2.ensures) (other back (codes ".TMI") c.if-eq-3.ensures) (other back (codes ".TMD") c.if-eq-4.ensures)
