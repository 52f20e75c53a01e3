use Rattle.std.proofs.Common.{◌∙◌, ◌+◌, ◌/◌, ap, sym, subst, arith}
use Rattle.std.specs.Prelude.{MatchOption}
use Rattle.aria_log.specs.Pieces.{LogFiles, log_files, pieces_of}
use Rattle.aria_log.specs.Finding.{EndsFront, IsNoted, IsUndamaged, IsDamageBehind}
use Rattle.aria_log.proofs.Counting.{not_done}
use Rattle.aria_host.proofs.Moments.{unchanged_after}
use Rattle.aria_log.proofs.Staying.{same_files}
use Rattle.aria_log.proofs.Damages.{end_apart}
use Rattle.aria_log.proofs.Founds.{ends_at, finds_inside, finds_outside}
use Rattle.aria_log.proofs.find.find_from.Goals as goal

pub returns-then-not-branch-clause-found : goal.returns-then-not-branch-clause-found
returns-then-not-branch-clause-found g c = λ told from missing is.
    let files = log_files (g.H.Host.state c.args.host.now).folder in
    finds_outside from files c.args.base c.log_at.result c.damage_at.result missing is
    (λ based. not_done c.in_ok-has_base.field-0 c.if-not-branch.true ((c.in_ok-has_base.ensures.based told).1 based))
    (ends_at c.log_at.result files c.args.base c.args.last _ c.log_at.ensures.number c.log_at.ensures.first c.log_at.ensures.fills c.log_at.ensures.last (omega (arith, c.requires.low)) (c.requires.last told))
    c.damage_at.ensures.file c.damage_at.ensures.page

pub damage_behind-requires-clause-apart : goal.damage_behind-requires-clause-apart
damage_behind-requires-clause-apart g c = λ told piece valid.
    let s1 = g.H.Host.state c.has_base.new.host in
    let s2 = g.H.Host.state c.read_front.new.host in
    end_apart (log_files s1.folder) (c.args.base / 8176) c.in_ok-end.end (c.in_ok-end.ensures.end told) piece
    (sym (ap (λ (f : LogFiles). pieces_of f c.in_ok-end.end) (same_files s1 s2 (c.in_ok-end.ensures.same told))) ∙ valid)

pub returns-clause-found : goal.returns-clause-found
returns-clause-found g c = λ told from missing is.
    let s0 = g.H.Host.state c.args.host.now in
    let s1 = g.H.Host.state c.has_base.new.host in
    let s2 = g.H.Host.state c.read_front.new.host in
    let same1 = same_files s0 s1 (c.in_ok-has_base.ensures.same told) in
    let same2 = same_files s0 s2 (unchanged_after s0 s1 s2 (c.in_ok-has_base.ensures.same told) (c.in_ok-end.ensures.same told)) in
    let files = log_files s0.folder in
    let first = c.args.base / 8176 in
    let end = c.in_ok-end.end in
    let front : EndsFront files first end = subst (λ (f : LogFiles). EndsFront f first end) same1 (c.in_ok-end.ensures.end told) in
    let noted : IsNoted (log_files s2.folder) first (end + 1) c.read_front.new.scan.long = subst (λ (f : LogFiles). IsNoted f first (end + 1) c.read_front.new.scan.long) (sym (same_files s1 s2 (c.in_ok-end.ensures.same told))) (c.in_ok-end.ensures.noted told) in
    let P : LogFiles → Type 0 = λ f. MatchOption c.in_ok-damage.damage (IsUndamaged f (first / 1024) end) (λ d. IsDamageBehind f (first / 1024) end d.file d.page) in
    let damage : P files = subst P same2 (c.in_ok-damage.ensures.damage told first c.in_ok-end.ensures.from.0 (c.requires.last told).from noted) in
    finds_inside from files c.args.base end (record { log = c.log_at-2.result; damage = c.in_ok-damage.damage }) missing is
    ((c.in_ok-has_base.ensures.based told).0 c.if-not-branch.false) front
    (ends_at c.log_at-2.result files c.args.base c.args.last _ c.log_at-2.ensures.number c.log_at-2.ensures.first c.log_at-2.ensures.fills c.log_at-2.ensures.last c.in_ok-end.ensures.from.1
    (c.requires.last told))
    damage
