use Rattle.std.proofs.Common.{◌∙◌, refl, arith, is_ok, ap}
use Rattle.std.proofs.lemmas.Result.{err_from_is_err_and}
use Rattle.aria_log.proofs.Counting.{not_done}
use Rattle.aria_log.proofs.Cutting.{opened_lower, starts_none, starts_more, last_there, removed}
use Rattle.aria_log.proofs.log.Log.remove_later.Goals as goal

pub loop-file-init : goal.loop-file-init
loop-file-init g c = record {
  low = c.args.self.now.files;
  end_is = c.file_of-end.ensures.is;
  starts = λ told base groups is. starts_none c.args.self.now (g.H.Host.state c.args.host.now) base groups c.args.self.now.last (λ f b left. g.met.H.Host.only_now c.args.host.now f b told left) is;
  disk = refl;
  tell = refl;
}

pub remove-requires-clause-there : goal.remove-requires-clause-there
remove-requires-clause-there g c = λ told.
    let (base, groups, is) = c.requires.opened told in
    last_there c.args.self.now (g.H.Host.state c.loop-file.host) base groups c.loop-file.file ((c.loop-file.invariant.starts told base groups is).opened refl)
    (omega (arith, c.loop-file-test.true, c.file_of-end.ensures.is))

pub returns-in_err-remove-clause-starts : goal.returns-in_err-remove-clause-starts
returns-in_err-remove-clause-starts g c = λ told base groups is.
    let p = err_from_is_err_and c.from_residual.result c.from_residual.ensures.1 in
    let so_far = c.loop-file.invariant.starts told base groups is in
    let last = starts_more c.args.self.now (g.H.Host.state c.args.host.now) (g.H.Host.state c.loop-file.host) (g.H.Host.state c.remove.new.self) base groups c.loop-file.file _ _ so_far
    (removed c.args.self.now (g.H.Host.state c.loop-file.host) (g.H.Host.state c.remove.new.self) _ base groups c.loop-file.file (λ f b left. g.met.H.Host.only_now c.loop-file.host f b told left) (so_far.opened refl)
    (omega (arith, c.loop-file-test.true, c.file_of-end.ensures.is)) c.loop-file.invariant.low (c.in_err-remove.ensures.removed told)) in
    record { opened = λ finished. absurd (not_done _ (ap is_ok p.1) finished); same = λ finished. absurd (not_done _ (ap is_ok p.1) finished); keeps = last.keeps }

pub loop-file-preserved : goal.loop-file-preserved
loop-file-preserved g c = record {
  low = omega (arith, c.loop-file.invariant.low);
  end_is = c.loop-file.invariant.end_is;
  starts = λ told base groups is.
      let so_far = c.loop-file.invariant.starts told base groups is in
      starts_more c.args.self.now (g.H.Host.state c.args.host.now) (g.H.Host.state c.loop-file.host) (g.H.Host.state c.remove.new.self) base groups c.loop-file.file _ _ so_far
      (removed c.args.self.now (g.H.Host.state c.loop-file.host) (g.H.Host.state c.remove.new.self) _ base groups c.loop-file.file (λ f b left. g.met.H.Host.only_now c.loop-file.host f b told left) (so_far.opened refl)
      (omega (arith, c.loop-file-test.true, c.file_of-end.ensures.is)) c.loop-file.invariant.low (c.in_ok-remove.ensures.removed told));
  disk = c.in_ok-remove.ensures.cause.calm ∙ c.loop-file.invariant.disk;
  tell = c.in_ok-remove.ensures.cause.tell ∙ c.loop-file.invariant.tell;
}

pub returns-clause-starts : goal.returns-clause-starts
returns-clause-starts g c = λ told base groups is.
    let so_far = c.loop-file.invariant.starts told base groups is in
    record {
      opened = λ finished. opened_lower c.args.self.now (g.H.Host.state c.loop-file.host) base groups c.loop-file.file (so_far.opened refl) (omega (arith, c.loop-file-test.false, c.file_of-end.ensures.is));
      same = λ finished f upto. so_far.same refl f upto;
      keeps = so_far.keeps;
    }
