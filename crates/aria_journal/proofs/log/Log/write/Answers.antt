use Rattle.std.proofs.Common.{ℕ, ◌≡◌, ◌+◌, false, true, Bool, IsTrue, List, is_ok, subst, drop, refl, sym, ◌∙◌, ap, arith}
use Rattle.std.proofs.lemmas.Result.{err_from_is_err_and}
use Rattle.aria_host.specs.Calls.{Writes}
use Rattle.aria_journal.specs.Log.{log_file}
use Rattle.aria_journal.proofs.Filled.{written_reads, zero_fills}
use Rattle.aria_journal.proofs.Writing.{write_step}
use Rattle.aria_journal.proofs.log.Log.write.Goals as goal

-- what isn't done isn't done
not_done : (b : Bool) → b ≡ false → IsTrue b → ⊥
not_done true e done = absurd (cc)
not_done false e done = absurd (cc)

pub returns-in_err-write_page-clause-wrote : goal.returns-in_err-write_page-clause-wrote
returns-in_err-write_page-clause-wrote g c = λ told base written before held is fills some.
    let p = err_from_is_err_and c.from_residual.result c.from_residual.ensures.1 in
    let failed : is_ok c.from_residual.result ≡ false = ap is_ok p.1 in
    let reads = written_reads c.args.self.now c.seal.new.page _ _ held fills c.args.self.now.within some c.seal.ensures.sums c.seal.ensures.page in
    let old = g.H.Host.state c.args.host.now in
    let new = g.H.Host.state c.write_page.new.self in
    write_step _ old new (is_ok c.from_residual.result) c.args.self.now.number c.seal.new.page base written before held
    (λ f b left. g.met.H.Host.only_now c.args.host.now f b told left) fills.number_is reads is
    (subst (λ (b : Bool). Writes log_file c.args.self.now.number c.seal.new.page old new b) (sym failed) (c.in_err-write_page.ensures.written told))
    (λ done. absurd (not_done (is_ok c.from_residual.result) failed done))

pub returns-clause-wrote : goal.returns-clause-wrote
returns-clause-wrote g c = λ told base written before held is fills some.
    let reads = written_reads c.args.self.now c.seal.new.page _ _ held fills c.args.self.now.within some c.seal.ensures.sums c.seal.ensures.page in
    write_step _ (g.H.Host.state c.args.host.now) (g.H.Host.state c.write_page.new.self) _ c.args.self.now.number c.seal.new.page base written before held
    (λ f b left. g.met.H.Host.only_now c.args.host.now f b told left) fills.number_is reads is (c.in_ok-write_page.ensures.written told)
    (λ done. record { number_is = ap (λ (k : ℕ). k + 1) fills.number_is ∙ omega arith; begins_is = refl; used_is = refl; body_is = ap (λ (l : List ℕ). drop 16 l) c.zero-self.ensures ∙ zero_fills })
