use Rattle.std.proofs.Common.{ℕ, ◌≡◌, ◌==◌, ◌+◌, ◌/◌, ◌%◌, false, true, not, Bool, List, Some, is_ok, subst, drop, refl, sym, ◌∙◌, ap}
use Rattle.std.proofs.lemmas.Result.{err_from_is_err_and}
use Rattle.aria_host.specs.declared.file_name.FileName.TheVariants.{Log}
use Rattle.aria_host.specs.Calls.{Writes}
use Rattle.aria_log.specs.LogPage.{read_log_page}
use Rattle.aria_log.proofs.Filled.{written_reads, zero_fills}
use Rattle.aria_log.proofs.Writing.{write_step, present_file, begins_test, begins_after}
use Rattle.aria_log.proofs.Counting.{not_done}
use Rattle.aria_log.proofs.log.Log.put_page.Goals as goal

pub write_page-requires-clause-there : goal.write_page-requires-clause-there
write_page-requires-clause-there g c = λ told.
    let (base, whole, parts, is, at) = c.requires.at told in
    present_file (g.H.Host.state c.args.host.now) c.args.self.now.number _ base whole parts at c.file_of.ensures.is is

pub returns-in_err-write_page-clause-wrote : goal.returns-in_err-write_page-clause-wrote
returns-in_err-write_page-clause-wrote g c = λ told base whole parts held is full first fills some.
    let p = err_from_is_err_and c.from_residual.result c.from_residual.ensures.1 in
    let failed : is_ok c.from_residual.result ≡ false = ap is_ok p.1 in
    let n : ℕ = c.args.self.now.number in
    let reads = written_reads c.args.self.now c.seal.new.page _ _ held fills c.args.self.now.within some c.requires.room c.seal.ensures.sums c.seal.ensures.page in
    let begins : read_log_page n c.seal.new.page ≡ Some (begins_after true parts, held) = reads ∙ ap (λ (b : Bool). Some (b, held)) (begins_test n c.args.self.now.first base whole parts fills.number_is first) in
    let old = g.H.Host.state c.args.host.now in
    let new = g.H.Host.state c.write_page.new.self in
    write_step _ old new (is_ok c.from_residual.result) n c.seal.new.page base whole parts held
    (λ f b left. g.met.H.Host.only_now c.args.host.now f b told left) fills.number_is c.requires.room begins is full
    (subst (λ (b : Bool). Writes (Log (n / 1024)) (n % 1024) c.seal.new.page old new b) (sym failed)
    (subst (λ (f : ℕ). Writes (Log f) (n % 1024) c.seal.new.page old new false) c.file_of.ensures.is
    (subst (λ (k : ℕ). Writes (Log c.file_of.result) k c.seal.new.page old new false) c.page_of.ensures.is (c.in_err-write_page.ensures.written told))))
    (λ done. absurd (not_done (is_ok c.from_residual.result) failed done))
    (λ done. absurd (not_done (is_ok c.from_residual.result) failed done))

pub returns-clause-wrote : goal.returns-clause-wrote
returns-clause-wrote g c = λ told base whole parts held is full first fills some.
    let n : ℕ = c.args.self.now.number in
    let reads = written_reads c.args.self.now c.seal.new.page _ _ held fills c.args.self.now.within some c.requires.room c.seal.ensures.sums c.seal.ensures.page in
    let begins : read_log_page n c.seal.new.page ≡ Some (begins_after true parts, held) = reads ∙ ap (λ (b : Bool). Some (b, held)) (begins_test n c.args.self.now.first base whole parts fills.number_is first) in
    let old = g.H.Host.state c.args.host.now in
    let new = g.H.Host.state c.write_page.new.self in
    write_step _ old new true n c.seal.new.page base whole parts held
    (λ f b left. g.met.H.Host.only_now c.args.host.now f b told left) fills.number_is c.requires.room begins is full
    (subst (λ (f : ℕ). Writes (Log f) (n % 1024) c.seal.new.page old new true) c.file_of.ensures.is
    (subst (λ (k : ℕ). Writes (Log c.file_of.result) k c.seal.new.page old new true) c.page_of.ensures.is (c.in_ok-write_page.ensures.written told)))
    (λ done. ap (λ (k : ℕ). not (k == 0)) c.page_of-2.ensures.is)
    (λ done. record { number_is = ap (λ (k : ℕ). k + 1) fills.number_is; used_is = refl; body_is = ap (λ (l : List ℕ). drop 16 l) c.zero-self.ensures ∙ zero_fills })
