use Rattle.std.proofs.Common.{◌≤◌, ◌∙◌, inl, inr, refl, ap, is_ok, arith, count_by}
use Rattle.aria_host.specs.declared.file_name.FileName.TheVariants.{Log}
use Rattle.aria_host.specs.Folder.{same_file}
use Rattle.std.proofs.lemmas.Result.{err_from_is_err_and}
use Rattle.aria_log.proofs.Purging.{purged_first, purged_next, purged_failed, listed_there}
use Rattle.aria_log.proofs.purge.remove_files.Goals as goal

pub loop-number-init : goal.loop-number-init
loop-number-init g c = record {
  upto = c.lowest-number.ensures.upto;
  here = c.lowest-number.ensures.here;
  purged = λ told.
      purged_first (g.H.Host.state c.args.host.now) c.args.names.now c.args.end c.lowest-number.result (λ f b left. g.met.H.Host.only_now c.args.host.now f b told left) (c.requires.synced told) (c.requires.lists told) c.requires.low
      c.lowest-number.ensures;
  disk = refl;
  tell = refl;
}

pub remove-requires-clause-there : goal.remove-requires-clause-there
remove-requires-clause-there g c = λ told.
    let some : 1 ≤ count_by (same_file (Log c.loop-number.number)) c.args.names.now =
    elim c.loop-number.invariant.here [
      | inl last ↦ absurd (omega (arith, last, c.loop-number-test.true))
      | inr some ↦ some
    ] in
    listed_there (g.H.Host.state c.args.host.now) (g.H.Host.state c.loop-number.host) c.args.names.now c.loop-number.number (c.requires.lists told) (omega (arith, c.loop-number-test.true, c.requires.low)) (c.loop-number.invariant.purged told) some

pub returns-in_err-remove-clause-purged : goal.returns-in_err-remove-clause-purged
returns-in_err-remove-clause-purged g c = λ told.
    let p = err_from_is_err_and c.from_residual.result c.from_residual.ensures.1 in
    purged_failed (g.H.Host.state c.args.host.now) (g.H.Host.state c.loop-number.host) (g.H.Host.state c.remove.new.self) c.loop-number.number c.args.end _ _ c.loop-number-test.true (ap is_ok p.1)
    (c.loop-number.invariant.purged told) (c.in_err-remove.ensures.removed told)

pub loop-number-preserved : goal.loop-number-preserved
loop-number-preserved g c = record {
  upto = c.lowest-number-in-loop-number.ensures.upto;
  here = c.lowest-number-in-loop-number.ensures.here;
  purged = λ told.
      purged_next (g.H.Host.state c.args.host.now) (g.H.Host.state c.loop-number.host) (g.H.Host.state c.remove.new.self) c.args.names.now c.args.end c.loop-number.number _ (c.requires.synced told) (c.requires.lists told) c.requires.low
      c.lowest-number-in-loop-number.ensures (c.loop-number.invariant.purged told) (c.in_ok-remove.ensures.removed told);
  disk = c.in_ok-remove.ensures.cause.calm ∙ c.loop-number.invariant.disk;
  tell = c.in_ok-remove.ensures.cause.tell ∙ c.loop-number.invariant.tell;
}
