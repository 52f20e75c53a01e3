use Rattle.std.proofs.Common.{◌∙◌, ◌⊎◌, sym, ap, subst, arith}
use Rattle.aria_host.specs.Folder.{Folder}
use Rattle.aria_model.specs.Script.{lines_of, statements, world_after}
use Rattle.aria_model.specs.Journal.{met_at}
use Rattle.aria_host.specs.State.{State}
use Rattle.aria_engine.specs.Holds.{Holds, HoldsSome, AtRest, IsSettled}
use Rattle.aria_engine.specs.Done.{Leaves}
use Rattle.aria_host.proofs.Moments.{weakened}
use Rattle.aria_engine.proofs.Opening.{each_reads, some_reads}
use Rattle.aria_tools.specs.Endings.{Began, Prefix, BeganOrPrefix}
use Rattle.aria_tools.specs.Pieces.{supply}
use Rattle.aria_tools.proofs.Commands.{began_or_prefix, each_prefix, each_some, moments_after, meets_due, meets_all_due, refused_is, all_answered, ended_ok, ended_answered, full_answered, front_told, text_is, text_after, completes, sound_where, run_statuses}
use Rattle.aria_tools.proofs.Others.{others_after, told_nothing, nothing_others, damage_nothing, ended_five, ended_damage}
use Rattle.aria_tools.proofs.run_script.run_script.Goals as goal

pub returns-clause-any_moment : goal.returns-clause-any_moment
returns-clause-any_moment g c to ti world each =
    let old = g.H.Host.state c.args.host.now in
    let mid = g.H.Host.state c.run-ran.new.host in
    let now = g.H.Host.state c.end.new.host in
    let lines = lines_of (g.S.Source.left c.args.input.now) in
    let xs = met_at c.run-ran.result.met in
    let reads = each_reads old world (g.met.H.Host.reads_now c.args.host.now to) each in
    moments_after (Prefix world lines xs old.out) old mid now
    (λ f low leaves. g.met.H.Host.counts_now c.run-ran.new.host old.moment f to low leaves)
    (weakened old mid (λ f t. Began old f t ⊎ Leaves world lines xs old.out f t) (Prefix world lines xs old.out)
    (c.run-ran.ensures.runs ti to world reads).moments (each_prefix old world lines xs each))
    (c.end.ensures.only to)

pub returns-clause-any_moment_read : goal.returns-clause-any_moment_read
returns-clause-any_moment_read g c to ti world reads =
    let old = g.H.Host.state c.args.host.now in
    let mid = g.H.Host.state c.run-ran.new.host in
    let now = g.H.Host.state c.end.new.host in
    let lines = lines_of (g.S.Source.left c.args.input.now) in
    let xs = met_at c.run-ran.result.met in
    moments_after (BeganOrPrefix old world lines xs) old mid now
    (λ f low leaves. g.met.H.Host.counts_now c.run-ran.new.host old.moment f to low leaves)
    (weakened old mid (λ f t. Began old f t ⊎ Leaves world lines xs old.out f t) (BeganOrPrefix old world lines xs)
    (c.run-ran.ensures.runs ti to world reads).moments (began_or_prefix old world lines xs))
    (c.end.ensures.only to)

pub returns-clause-any_moment_held : goal.returns-clause-any_moment_held
returns-clause-any_moment_held g c to ti each =
    let old = g.H.Host.state c.args.host.now in
    let mid = g.H.Host.state c.run-ran.new.host in
    let now = g.H.Host.state c.end.new.host in
    let lines = lines_of (g.S.Source.left c.args.input.now) in
    let xs = met_at c.run-ran.result.met in
    let reads_now = g.met.H.Host.reads_now c.args.host.now to in
    let world = (each old.folder reads_now).0 in
    moments_after (λ f t. HoldsSome f) old mid now
    (λ f low leaves. g.met.H.Host.counts_now c.run-ran.new.host old.moment f to low leaves)
    (weakened old mid (λ f t. Began old f t ⊎ Leaves world lines xs old.out f t) (λ f t. HoldsSome f)
    (c.run-ran.ensures.runs ti to world (some_reads old reads_now each)).moments (each_some old world lines xs each))
    (c.end.ensures.only to)

pub returns-clause-done_refused : goal.returns-clause-done_refused
returns-clause-done_refused g c low ti to world reads =
    refused_is (supply (g.S.Source.left c.args.input.now) (g.S.Source.taken c.args.input.now) (g.S.Source.faults c.args.input.now))
    (supply (g.S.Source.left c.run-ran.new.input) (g.S.Source.taken c.run-ran.new.input) (g.S.Source.faults c.run-ran.new.input))
    world c.run-ran.result.met c.run-ran.result.outcome c.end.result (g.H.Host.state c.args.host.now) (g.H.Host.state c.run-ran.new.host)
    c.end.ensures.status low (c.run-ran.ensures.runs ti to world reads)

pub returns-clause-done_told : goal.returns-clause-done_told
returns-clause-done_told g c low ti to world reads =
    let ok = ended_ok c.run-ran.result.outcome c.end.result c.end.ensures.status low in
    let all = all_answered (supply (g.S.Source.left c.args.input.now) (g.S.Source.taken c.args.input.now) (g.S.Source.faults c.args.input.now))
    (supply (g.S.Source.left c.run-ran.new.input) (g.S.Source.taken c.run-ran.new.input) (g.S.Source.faults c.run-ran.new.input))
    world c.run-ran.result.met c.run-ran.result.outcome ok.0 (g.H.Host.state c.args.host.now) (g.H.Host.state c.run-ran.new.host) ok.1 (c.run-ran.ensures.runs ti to world reads) in
    (c.end.ensures.only to).out ∙ all.out

pub returns-clause-done_rest : goal.returns-clause-done_rest
returns-clause-done_rest g c low ti to world reads =
    let ok = ended_ok c.run-ran.result.outcome c.end.result c.end.ensures.status low in
    let all = all_answered (supply (g.S.Source.left c.args.input.now) (g.S.Source.taken c.args.input.now) (g.S.Source.faults c.args.input.now))
    (supply (g.S.Source.left c.run-ran.new.input) (g.S.Source.taken c.run-ran.new.input) (g.S.Source.faults c.run-ran.new.input))
    world c.run-ran.result.met c.run-ran.result.outcome ok.0 (g.H.Host.state c.args.host.now) (g.H.Host.state c.run-ran.new.host) ok.1 (c.run-ran.ensures.runs ti to world reads) in
    subst (λ (s : State). AtRest s) (sym (ap g.H.Host.state (c.end.ensures.calm low))) all.rest

pub returns-clause-done_settled : goal.returns-clause-done_settled
returns-clause-done_settled g c low ti to world reads =
    let ok = ended_ok c.run-ran.result.outcome c.end.result c.end.ensures.status low in
    let all = all_answered (supply (g.S.Source.left c.args.input.now) (g.S.Source.taken c.args.input.now) (g.S.Source.faults c.args.input.now))
    (supply (g.S.Source.left c.run-ran.new.input) (g.S.Source.taken c.run-ran.new.input) (g.S.Source.faults c.run-ran.new.input))
    world c.run-ran.result.met c.run-ran.result.outcome ok.0 (g.H.Host.state c.args.host.now) (g.H.Host.state c.run-ran.new.host) ok.1 (c.run-ran.ensures.runs ti to world reads) in
    subst (λ (s : State). IsSettled s.folder) (sym (ap g.H.Host.state (c.end.ensures.calm low))) all.settled

pub returns-clause-done_holds : goal.returns-clause-done_holds
returns-clause-done_holds g c low ti to world reads =
    let ok = ended_ok c.run-ran.result.outcome c.end.result c.end.ensures.status low in
    let all = all_answered (supply (g.S.Source.left c.args.input.now) (g.S.Source.taken c.args.input.now) (g.S.Source.faults c.args.input.now))
    (supply (g.S.Source.left c.run-ran.new.input) (g.S.Source.taken c.run-ran.new.input) (g.S.Source.faults c.run-ran.new.input))
    world c.run-ran.result.met c.run-ran.result.outcome ok.0 (g.H.Host.state c.args.host.now) (g.H.Host.state c.run-ran.new.host) ok.1 (c.run-ran.ensures.runs ti to world reads) in
    let same = (c.end.ensures.only to).folder in
    subst (λ (f : Folder). Holds f (world_after world (statements (lines_of (g.S.Source.left c.args.input.now))) (met_at c.run-ran.result.met))) (sym same) all.holds

pub returns-clause-input_fault_told : goal.returns-clause-input_fault_told
returns-clause-input_fault_told g c six ti to world reads =
    ended_answered (supply (g.S.Source.left c.args.input.now) (g.S.Source.taken c.args.input.now) (g.S.Source.faults c.args.input.now))
    (supply (g.S.Source.left c.run-ran.new.input) (g.S.Source.taken c.run-ran.new.input) (g.S.Source.faults c.run-ran.new.input))
    world c.run-ran.result.met c.run-ran.result.outcome c.end.result (g.H.Host.state c.args.host.now) (g.H.Host.state c.run-ran.new.host) (g.H.Host.state c.end.new.host)
    c.end.ensures.status six (c.run-ran.ensures.runs ti to world reads) (c.end.ensures.only to).out

pub returns-clause-too_long_told : goal.returns-clause-too_long_told
returns-clause-too_long_told g c eight ti to world reads =
    full_answered (supply (g.S.Source.left c.args.input.now) (g.S.Source.taken c.args.input.now) (g.S.Source.faults c.args.input.now))
    (supply (g.S.Source.left c.run-ran.new.input) (g.S.Source.taken c.run-ran.new.input) (g.S.Source.faults c.run-ran.new.input))
    world c.run-ran.result.met c.run-ran.result.outcome c.end.result (g.H.Host.state c.args.host.now) (g.H.Host.state c.run-ran.new.host) (g.H.Host.state c.end.new.host)
    c.end.ensures.status eight (c.run-ran.ensures.runs ti to world reads) (c.end.ensures.only to).out

pub returns-clause-error_text : goal.returns-clause-error_text
returns-clause-error_text g c to =
    let old = g.H.Host.state c.args.host.now in
    let mid = g.H.Host.state c.run-ran.new.host in
    let now = g.H.Host.state c.end.new.host in
    let told = c.end.ensures.told to in (
      told.0,
      text_is g.S.Source.tells g.H.Host.tells (supply (g.S.Source.left c.args.input.now) (g.S.Source.taken c.args.input.now) (g.S.Source.faults c.args.input.now))
          (supply (g.S.Source.left c.run-ran.new.input) (g.S.Source.taken c.run-ran.new.input) (g.S.Source.faults c.run-ran.new.input))
          c.run-ran.result.outcome c.end.result told.0 old mid c.run-ran.ensures.ends to told.1,
      text_after told.0 old mid now (c.run-ran.ensures.silent to) c.run-ran.ensures.later.tell told.2,
    )

pub returns-clause-part_told : goal.returns-clause-part_told
returns-clause-part_told g c not_2 ti to world reads =
    let front = front_told (supply (g.S.Source.left c.args.input.now) (g.S.Source.taken c.args.input.now) (g.S.Source.faults c.args.input.now))
    (supply (g.S.Source.left c.run-ran.new.input) (g.S.Source.taken c.run-ran.new.input) (g.S.Source.faults c.run-ran.new.input))
    world c.run-ran.result.met c.run-ran.result.outcome (g.H.Host.state c.args.host.now) (g.H.Host.state c.run-ran.new.host) (c.run-ran.ensures.runs ti to world reads) in
    (front.0, (c.end.ensures.only to).out ∙ front.1)

pub returns-clause-complete : goal.returns-clause-complete
returns-clause-complete g c run ti to world reads short disk tell input =
    completes g.H.Host.tells g.S.Source.tells (supply (g.S.Source.left c.args.input.now) (g.S.Source.taken c.args.input.now) (g.S.Source.faults c.args.input.now))
    (supply (g.S.Source.left c.run-ran.new.input) (g.S.Source.taken c.run-ran.new.input) (g.S.Source.faults c.run-ran.new.input))
    world c.run-ran.result.met c.run-ran.result.outcome c.end.result
    (g.H.Host.state c.args.host.now) (g.H.Host.state c.run-ran.new.host) (g.H.Host.state c.end.new.host) to
    reads.holds
    c.run-ran.ensures.ends (c.run-ran.ensures.runs ti to world reads) c.end.ensures.status short disk tell input
    (omega (arith, c.end.ensures.disk)) c.end.ensures.later

pub returns-clause-sound : goal.returns-clause-sound
returns-clause-sound g c which to =
    sound_where c.run-ran.result.outcome (g.H.Host.state c.args.host.now).folder c.end.result (c.run-ran.ensures.sound to) c.end.ensures.status which

pub returns-clause-statuses : goal.returns-clause-statuses
returns-clause-statuses g c =
    run_statuses g.S.Source.tells g.H.Host.tells (supply (g.S.Source.left c.args.input.now) (g.S.Source.taken c.args.input.now) (g.S.Source.faults c.args.input.now))
    (supply (g.S.Source.left c.run-ran.new.input) (g.S.Source.taken c.run-ran.new.input) (g.S.Source.faults c.run-ran.new.input))
    c.run-ran.result.outcome c.end.result (g.H.Host.state c.args.host.now) (g.H.Host.state c.run-ran.new.host) c.run-ran.ensures.ends c.end.ensures.status

pub returns-clause-met_due : goal.returns-clause-met_due
returns-clause-met_due g c not_2 ti to world reads =
    meets_due (supply (g.S.Source.left c.args.input.now) (g.S.Source.taken c.args.input.now) (g.S.Source.faults c.args.input.now))
    (supply (g.S.Source.left c.run-ran.new.input) (g.S.Source.taken c.run-ran.new.input) (g.S.Source.faults c.run-ran.new.input))
    world c.run-ran.result.met c.run-ran.result.outcome (g.H.Host.state c.args.host.now) (g.H.Host.state c.run-ran.new.host) (g.H.Host.state c.end.new.host)
    (c.run-ran.ensures.runs ti to world reads) (c.end.ensures.only to).out

pub returns-clause-done_met : goal.returns-clause-done_met
returns-clause-done_met g c low ti to world reads =
    meets_all_due (supply (g.S.Source.left c.args.input.now) (g.S.Source.taken c.args.input.now) (g.S.Source.faults c.args.input.now))
    (supply (g.S.Source.left c.run-ran.new.input) (g.S.Source.taken c.run-ran.new.input) (g.S.Source.faults c.run-ran.new.input))
    world c.run-ran.result.met c.run-ran.result.outcome c.end.result (g.H.Host.state c.args.host.now) (g.H.Host.state c.run-ran.new.host) (g.H.Host.state c.end.new.host)
    c.end.ensures.status low (c.run-ran.ensures.runs ti to world reads) (c.end.ensures.only to).folder

pub returns-clause-others : goal.returns-clause-others
returns-clause-others g c to =
    let old = g.H.Host.state c.args.host.now in
    others_after old (g.H.Host.state c.run-ran.new.host) (g.H.Host.state c.end.new.host)
    (λ f low leaves. g.met.H.Host.counts_now c.run-ran.new.host old.moment f to low leaves) (c.run-ran.ensures.others to) (c.end.ensures.only to)

pub returns-clause-damage_read : goal.returns-clause-damage_read
returns-clause-damage_read g c five = c.run-ran.ensures.untouched (ended_five c.run-ran.result.outcome c.end.result c.end.ensures.status five)

pub returns-clause-damage_kept : goal.returns-clause-damage_kept
returns-clause-damage_kept g c five to =
    let old = g.H.Host.state c.args.host.now in
    let mid = g.H.Host.state c.run-ran.new.host in
    damage_nothing old mid (g.H.Host.state c.end.new.host) (λ f t left. g.met.H.Host.only_now c.args.host.now f t to left)
    (λ f low leaves. g.met.H.Host.counts_now c.run-ran.new.host old.moment f to low leaves)
    (ended_damage g.S.Source.tells g.H.Host.tells (supply (g.S.Source.left c.args.input.now) (g.S.Source.taken c.args.input.now) (g.S.Source.faults c.args.input.now))
    (supply (g.S.Source.left c.run-ran.new.input) (g.S.Source.taken c.run-ran.new.input) (g.S.Source.faults c.run-ran.new.input))
    c.run-ran.result.outcome old mid c.run-ran.ensures.ends (ended_five c.run-ran.result.outcome c.end.result c.end.ensures.status five) to)
    (c.end.ensures.only to)

pub returns-in_default-clause-bad_words_kept : goal.returns-in_default-clause-bad_words_kept
returns-in_default-clause-bad_words_kept g c two to =
    let old = g.H.Host.state c.args.host.now in
    told_nothing old (g.H.Host.state c.end_with.new.host) (λ f t left. g.met.H.Host.only_now c.args.host.now f t to left)
    (λ f low leaves. g.met.H.Host.counts_now c.args.host.now old.moment f to low leaves) (c.end_with.ensures.only to)

pub returns-in_default-clause-others : goal.returns-in_default-clause-others
returns-in_default-clause-others g c to =
    let old = g.H.Host.state c.args.host.now in
    let now = g.H.Host.state c.end_with.new.host in
    nothing_others old now (told_nothing old now (λ f t left. g.met.H.Host.only_now c.args.host.now f t to left)
    (λ f low leaves. g.met.H.Host.counts_now c.args.host.now old.moment f to low leaves) (c.end_with.ensures.only to))
