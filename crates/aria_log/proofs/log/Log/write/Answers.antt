use Rattle.std.proofs.Common.{◌∙◌, is_ok, ap, refl, List, ℕ, drop}
use Rattle.std.proofs.lemmas.Result.{err_from_is_err_and}
use Rattle.aria_log.specs.Log.{Fills, behind}
use Rattle.aria_log.proofs.Appending.{wrote_after, wrote_nothing}
use Rattle.aria_log.proofs.log.Log.write.Goals as goal

pub put_page-requires-clause-at : goal.put_page-requires-clause-at
put_page-requires-clause-at g c = λ told.
    let (base, whole, parts, is, at) = c.requires.at told in
    (base, whole, parts, (c.in_ok-make_file.ensures.made told base whole parts is at).writing refl, c.in_ok-make_file.ensures.number ∙ at)

pub returns-in_err-make_file-clause-wrote : goal.returns-in_err-make_file-clause-wrote
returns-in_err-make_file-clause-wrote g c = λ told base whole parts held is full first fills some.
    let p = err_from_is_err_and c.from_residual.result c.from_residual.ensures.1 in
    wrote_nothing _ (g.H.Host.state c.args.host.now) (g.H.Host.state c.make_file.new.host) base whole parts held _ (is_ok c.from_residual.result) full
    (c.in_err-make_file.ensures.made told base whole parts is fills.number_is) (ap is_ok p.1)

pub returns-clause-wrote : goal.returns-clause-wrote
returns-clause-wrote g c = λ told base whole parts held is full first fills some.
    let made = c.in_ok-make_file.ensures in
    let filled : Fills c.make_file.new.self (behind base whole parts) held = record { number_is = made.number ∙ fills.number_is; used_is = made.used ∙ fills.used_is; body_is = ap (λ (l : List ℕ). drop 16 l) made.page ∙ fills.body_is } in
    wrote_after _ (g.H.Host.state c.args.host.now) (g.H.Host.state c.make_file.new.host) (g.H.Host.state c.put_page.new.host) base whole parts held _ full
    (made.made told base whole parts is fills.number_is)
    (c.put_page.ensures.wrote told base whole parts held ((made.made told base whole parts is fills.number_is).writing refl) full (made.first ∙ first) filled some)
