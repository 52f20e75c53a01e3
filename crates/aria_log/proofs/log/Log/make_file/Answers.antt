use Rattle.std.proofs.Common.{Bool, true, false, is_ok, sym, ap, subst, ℕ, ◌/◌}
use Rattle.std.proofs.lemmas.Result.{err_from_is_err_and}
use Rattle.aria_host.specs.declared.file_name.FileName.TheVariants.{Log}
use Rattle.aria_host.specs.Calls.{Creates}
use Rattle.aria_log.specs.Log.{IsWriting}
use Rattle.aria_log.proofs.Writing.{make_step, made_already, absent_file}
use Rattle.aria_log.proofs.log.Log.make_file.Goals as goal

pub returns-then-self-clause-made : goal.returns-then-self-clause-made
returns-then-self-clause-made g c = λ told base whole parts is at.
    made_already (g.H.Host.state c.args.host.now) base whole parts (λ f b left. g.met.H.Host.only_now c.args.host.now f b told left)
    (subst (λ (b : Bool). IsWriting (g.H.Host.state c.args.host.now) base whole parts b) c.if-self.true is)

pub create-requires-clause-absent : goal.create-requires-clause-absent
create-requires-clause-absent g c = λ told.
    let (base, whole, parts, is, at) = c.requires.at told in
    absent_file (g.H.Host.state c.args.host.now) c.args.self.now.number _ base whole parts at c.file_of.ensures.is (subst (λ (b : Bool). IsWriting (g.H.Host.state c.args.host.now) base whole parts b) c.if-self.false is)

pub returns-in_err-create-clause-made : goal.returns-in_err-create-clause-made
returns-in_err-create-clause-made g c = λ told base whole parts is at.
    let p = err_from_is_err_and c.from_residual.result c.from_residual.ensures.1 in
    let old = g.H.Host.state c.args.host.now in
    let new = g.H.Host.state c.create.new.self in
    make_step old new (is_ok c.from_residual.result) c.args.self.now.number base whole parts (λ f b left. g.met.H.Host.only_now c.args.host.now f b told left) at
    (subst (λ (b : Bool). IsWriting old base whole parts b) c.if-self.false is)
    (subst (λ (b : Bool). Creates (Log (c.args.self.now.number / 1024)) old new b) (sym (ap is_ok p.1)) (subst (λ (f : ℕ). Creates (Log f) old new false) c.file_of.ensures.is (c.in_err-create.ensures.created told)))

pub returns-clause-made : goal.returns-clause-made
returns-clause-made g c = λ told base whole parts is at.
    let old = g.H.Host.state c.args.host.now in
    let new = g.H.Host.state c.create.new.self in
    make_step old new true c.args.self.now.number base whole parts (λ f b left. g.met.H.Host.only_now c.args.host.now f b told left) at
    (subst (λ (b : Bool). IsWriting old base whole parts b) c.if-self.false is)
    (subst (λ (f : ℕ). Creates (Log f) old new true) c.file_of.ensures.is (c.in_ok-create.ensures.created told))
