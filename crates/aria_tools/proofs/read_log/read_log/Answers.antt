use Rattle.std.proofs.Common.{◌≡◌, ◌⊎◌, ◌++◌, ℕ, List, Bool, Result, Ok, Err, OnOk, sym, subst, ap, ◌∙◌, arith}
use Rattle.aria_host.specs.declared.fault.Fault.TheVariants.{LogDamaged}
use Rattle.aria_readlog.specs.Display.{IsTold}
use Rattle.aria_tools.specs.declared.stop.Stop.{Stop}
use Rattle.aria_tools.specs.Endings.{IsEnd, IsEndText}
use Rattle.aria_tools.specs.LogEndings.{whole_log}
use Rattle.aria_tools.proofs.Commands.{text_after}
use Rattle.aria_tools.proofs.LogEnds.{log_statuses, log_whole, zero_answers, zero_of, zero_calm, fault_no_zero, sound_no_five, five_damaged, log_disk, log_tell, log_completes, log_text, log_kept}
use Rattle.aria_tools.proofs.read_log.read_log.Goals as goal

pub returns-clause-statuses : goal.returns-clause-statuses
returns-clause-statuses g c = log_statuses c.display-shown.result c.end.result c.display-shown.ensures.cause.only (subst (λ (o : Result Bool Stop). IsEnd o c.end.result) c.as_run-outcome.ensures c.end.ensures.status)

pub returns-clause-sound : goal.returns-clause-sound
returns-clause-sound g c zero to =
    zero_answers c.display-shown.result c.end.result (g.H.Host.state c.args.host.now).folder (subst (λ (o : Result Bool Stop). IsEnd o c.end.result) c.as_run-outcome.ensures c.end.ensures.status) zero (c.display-shown.ensures.answer to)

pub returns-clause-told : goal.returns-clause-told
returns-clause-told g c zero to =
    let (lines, last, is, out) = zero_of c.display-shown.result c.end.result (subst (λ (o : Result Bool Stop). IsEnd o c.end.result) c.as_run-outcome.ensures c.end.ensures.status) zero (c.display-shown.ensures.told to) in
    (lines, last, is, (c.end.ensures.only to).out ∙ out)

pub returns-clause-told_only : goal.returns-clause-told_only
returns-clause-told_only g c zero to lines last is =
    (c.end.ensures.only to).out ∙ log_whole c.display-shown.result c.end.result (subst (λ (o : Result Bool Stop). IsEnd o c.end.result) c.as_run-outcome.ensures c.end.ensures.status) zero (lines ++ last) (g.H.Host.state c.args.host.now) (g.H.Host.state c.display-shown.new.host) (c.display-shown.ensures.shows to lines last is)

pub returns-clause-calm : goal.returns-clause-calm
returns-clause-calm g c zero =
    zero_calm c.display-shown.result c.end.result (g.H.Host.state c.args.host.now) (g.H.Host.state c.display-shown.new.host) (g.H.Host.state c.end.new.host) (subst (λ (o : Result Bool Stop). IsEnd o c.end.result) c.as_run-outcome.ensures c.end.ensures.status) zero c.display-shown.ensures.cause
    (ap g.H.Host.state (c.end.ensures.calm (omega (arith, zero))))

pub returns-clause-damage : goal.returns-clause-damage
returns-clause-damage g c to fault stands zero =
    fault_no_zero c.display-shown.result c.end.result fault (subst (λ (o : Result Bool Stop). IsEnd o c.end.result) c.as_run-outcome.ensures c.end.ensures.status) (c.display-shown.ensures.only to (Err fault) stands) zero

pub returns-clause-no_damage : goal.returns-clause-no_damage
returns-clause-no_damage g c to sound five =
    sound_no_five c.display-shown.result c.end.result (subst (λ (o : Result Bool Stop). IsEnd o c.end.result) c.as_run-outcome.ensures c.end.ensures.status) (c.display-shown.ensures.only to (Ok tt) sound) five

pub returns-clause-damaged_told : goal.returns-clause-damaged_told
returns-clause-damaged_told g c five to file page stands =
    let damaged = five_damaged c.display-shown.result c.end.result file page (subst (λ (o : Result Bool Stop). IsEnd o c.end.result) c.as_run-outcome.ensures c.end.ensures.status) five (c.display-shown.ensures.only to (Err (LogDamaged file page)) stands) in
    let (lines, last, is, out) = c.display-shown.ensures.damaged to damaged in
    (lines, last, is, (c.end.ensures.only to).out ∙ out)

pub returns-clause-part : goal.returns-clause-part
returns-clause-part g c to =
    let old = g.H.Host.state c.args.host.now in
    subst (λ (o : List ℕ). IsTold old.folder (whole_log c.args.silent) old.out o) (sym (c.end.ensures.only to).out) (c.display-shown.ensures.part to)

pub returns-clause-kept : goal.returns-clause-kept
returns-clause-kept g c to =
    let old = g.H.Host.state c.args.host.now in
    log_kept c.args.silent old (g.H.Host.state c.display-shown.new.host) (g.H.Host.state c.end.new.host)
    (λ f low leaves. g.met.H.Host.counts_now c.display-shown.new.host old.moment f to low leaves)
    (c.display-shown.ensures.kept to) (c.display-shown.ensures.moments to) (c.end.ensures.only to)

pub returns-clause-disk_fault : goal.returns-clause-disk_fault
returns-clause-disk_fault g c four =
    log_disk c.display-shown.result c.end.result (g.H.Host.state c.args.host.now) (g.H.Host.state c.display-shown.new.host) (g.H.Host.state c.end.new.host)
    c.display-shown.ensures.cause (subst (λ (o : Result Bool Stop). IsEnd o c.end.result) c.as_run-outcome.ensures c.end.ensures.status) (omega (arith, c.end.ensures.disk)) four

pub returns-clause-tell_fault : goal.returns-clause-tell_fault
returns-clause-tell_fault g c seven =
    log_tell c.display-shown.result c.end.result (g.H.Host.state c.args.host.now) (g.H.Host.state c.display-shown.new.host) (g.H.Host.state c.end.new.host)
    c.display-shown.ensures.cause (subst (λ (o : Result Bool Stop). IsEnd o c.end.result) c.as_run-outcome.ensures c.end.ensures.status) c.end.ensures.later seven

pub returns-clause-complete : goal.returns-clause-complete
returns-clause-complete g c disk tell =
    log_completes c.display-shown.result c.end.result (g.H.Host.state c.args.host.now) (g.H.Host.state c.display-shown.new.host) (g.H.Host.state c.end.new.host)
    c.display-shown.ensures.cause (subst (λ (o : Result Bool Stop). IsEnd o c.end.result) c.as_run-outcome.ensures c.end.ensures.status) (omega (arith, c.end.ensures.disk)) c.end.ensures.later disk tell

pub returns-clause-error_text : goal.returns-clause-error_text
returns-clause-error_text g c to =
    let old = g.H.Host.state c.args.host.now in
    let mid = g.H.Host.state c.display-shown.new.host in
    let (text, is, tells) = c.end.ensures.told to in (
      text,
      log_text c.display-shown.result c.end.result text old.folder (c.display-shown.ensures.answer to) (subst (λ (o : Result Bool Stop). IsEndText o c.end.result text) c.as_run-outcome.ensures is),
      text_after text old mid (g.H.Host.state c.end.new.host) (c.display-shown.ensures.kept to).err c.display-shown.ensures.cause.later_too tells,
    )
