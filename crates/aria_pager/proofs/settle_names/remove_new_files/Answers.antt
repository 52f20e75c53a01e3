use Rattle.std.proofs.Common.{◌≡◌, ◌∙◌, true, false, List, refl, sym, subst}
use Rattle.std.specs.List.{list_any}
use Rattle.std.proofs.lemmas.List.{take_all}
use Rattle.aria_host.specs.declared.file_name.FileName.{FileName}
use Rattle.aria_host.specs.Folder.{same_file}
use Rattle.aria_pager.proofs.Preparing.{prepares_none, prepares_on}
use Rattle.aria_pager.proofs.SettlingNames.{unlisted_aside, gone_more}
use Rattle.aria_pager.proofs.settle_names.remove_new_files.Goals as goal

pub loop-file-init : goal.loop-file-init
loop-file-init g c = record {
  prepares = λ told log base start groups is. prepares_none log (g.H.Host.state c.args.host.now) base start groups (λ f b left. g.met.H.Host.only_now c.args.host.now f b told left) is;
  kept = λ told is. is;
  gone = λ told f on any. absurd (let e : false ≡ true = any in (cc));
  others = λ told f off. refl;
  disk = refl;
  tell = refl;
}

pub loop-file-preserved : goal.loop-file-preserved
loop-file-preserved g c = record {
  prepares = λ told log base start groups is.
      let one = c.loop-file.invariant.prepares told log base start groups is in
      prepares_on log (g.H.Host.state c.args.host.now) (g.H.Host.state c.loop-file.host) (g.H.Host.state c.remove_new_file.new.host) base start groups one (c.in_ok-remove_new_file.ensures.prepares told log base start groups one.tables);
  kept = λ told is. c.in_ok-remove_new_file.ensures.files told (c.loop-file.invariant.kept told is);
  gone = λ told. gone_more c.args.files.now c.loop-file.file-index c.file-item.result (g.H.Host.state c.loop-file.host).folder (g.H.Host.state c.remove_new_file.new.host).folder c.loop-file-test.true c.file-item.is
      (c.in_ok-remove_new_file.ensures.gone told) (c.in_ok-remove_new_file.ensures.others told) (c.loop-file.invariant.gone told);
  others = λ told f off. c.in_ok-remove_new_file.ensures.others told f (unlisted_aside c.args.files.now c.loop-file.file-index c.file-item.result f c.loop-file-test.true c.file-item.is off) ∙ c.loop-file.invariant.others told f off;
  disk = c.in_ok-remove_new_file.ensures.cause.calm ∙ c.loop-file.invariant.disk;
  tell = c.in_ok-remove_new_file.ensures.cause.tell ∙ c.loop-file.invariant.tell;
}

pub returns-in_err-remove_new_file-clause-prepares : goal.returns-in_err-remove_new_file-clause-prepares
returns-in_err-remove_new_file-clause-prepares g c = λ told log base start groups is.
    let one = c.loop-file.invariant.prepares told log base start groups is in
    prepares_on log (g.H.Host.state c.args.host.now) (g.H.Host.state c.loop-file.host) (g.H.Host.state c.remove_new_file.new.host) base start groups one (c.in_err-remove_new_file.ensures.prepares told log base start groups one.tables)

pub returns-in_err-remove_new_file-clause-others : goal.returns-in_err-remove_new_file-clause-others
returns-in_err-remove_new_file-clause-others g c = λ told f off.
    c.in_err-remove_new_file.ensures.others told f (unlisted_aside c.args.files.now c.loop-file.file-index c.file-item.result f c.loop-file-test.true c.file-item.is off) ∙ c.loop-file.invariant.others told f off

pub returns-clause-gone : goal.returns-clause-gone
returns-clause-gone g c = λ told f on any. c.loop-file.invariant.gone told f on (subst (λ (l : List FileName). list_any (same_file f) l ≡ true) (sym (take_all c.loop-file.file-index c.args.files.now c.loop-file-test.false)) any)
