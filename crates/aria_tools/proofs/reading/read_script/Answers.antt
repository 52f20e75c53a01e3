use Rattle.std.proofs.lemmas.Result.{err_from_is_err_and}
use Rattle.std.specs.Prelude.{Result, IfErr}
use Rattle.aria_tools.specs.declared.stop.Stop.{Stop}
use Rattle.aria_tools.specs.Sessions.{LineStops}
use Rattle.aria_tools.proofs.Pieces.{no_piece_stops, line_stops}
use Rattle.aria_tools.proofs.Runs.{part_silent, does_silent, part_alone, does_alone}
use Rattle.aria_engine.proofs.Doing.{does_then_part}
use Rattle.std.proofs.Common.{Err, subst, ◌^◌, ◌≤◌, ℕ, [], ◌++◌, List, length, ◌+◌, take, refl, sym, ap, ◌∙◌, arith}
use Rattle.std.proofs.lemmas.List.{append_assoc, length-append, length-take-le}
use Rattle.aria_tools.proofs.Ready.{ready_now}
use Rattle.aria_tools.specs.Pieces.{supply}
use Rattle.aria_tools.proofs.Holding.{on_err}
use Rattle.aria_tools.proofs.Pieces.{counts_none, took_more, fed_more, part_of_all, fed_of_all, same_faults_more}
use Rattle.aria_tools.proofs.Feeding.{fed_none}
use Rattle.aria_tools.proofs.reading.read_script.Goals as goal

pub pieces-init : goal.pieces-init
pieces-init g c = (
  [],
  [],
  c.requires.fresh,
  c.requires.ready,
  record {
    size = refl;
    few = omega arith;
    took = record { bytes_left = λ h. refl; number = counts_none (g.S.Source.taken c.args.input.now) };
    fed = fed_none g.H.Host.tells [] c.args.session.now.store c.args.session.now.refused (g.H.Host.state c.args.host.now)
        (ready_now g.H.Host.tells c.args.session.now.store (g.H.Host.state c.args.host.now) c.requires.ready (λ f t told since. g.met.H.Host.only_now c.args.host.now f t told since)) refl;
    faults = refl;
    calm = record { disk = refl; tell = refl };
  },
)

pub returns-in_err-n-clause-part : goal.returns-in_err-n-clause-part
returns-in_err-n-clause-part g c = on_err c.from_residual.result (λ h. let reached = c.pieces.invariant.4 in
    fed_of_all g.H.Host.tells c.pieces.invariant.0 c.pieces.invariant.1 (g.S.Source.left c.pieces.input) (g.S.Source.left c.args.input.now)
    c.args.session.now.store c.pieces.session.store c.args.session.now.refused c.pieces.session.refused (g.H.Host.state c.args.host.now) (g.H.Host.state c.pieces.host)
    reached.fed (reached.took.bytes_left h))

pub pieces-preserved : goal.pieces-preserved
pieces-preserved g c =
    let reached = c.pieces.invariant.4 in
    let read = c.pieces.invariant.0 in
    let rest = c.pieces.invariant.1 in
    let n = c.in_ok-n.n in
    let piece = c.read_piece.new.piece in
    let more = c.in_ok-feed.ensures.done rest reached.fed.splits.no_lf c.pieces.invariant.2 in
    let supply0 = supply (g.S.Source.left c.args.input.now) (g.S.Source.taken c.args.input.now) (g.S.Source.faults c.args.input.now) in
    let supply1 = supply (g.S.Source.left c.pieces.input) (g.S.Source.taken c.pieces.input) (g.S.Source.faults c.pieces.input) in
    let supply2 = supply (g.S.Source.left c.read_piece.new.input) (g.S.Source.taken c.read_piece.new.input) (g.S.Source.faults c.read_piece.new.input) in (
      read ++ take n piece,
      more.0,
      more.2,
      c.in_ok-feed.ensures.ready,
      record {
        size = length-append read (take n piece) ∙ ap (λ (k : ℕ). length read + k) (length-take-le n piece c.in_ok-n.ensures.ok.within) ∙ ap (λ (k : ℕ). k + n) reached.size;
        few = c.in_ok-n.ensures.ok.few;
        took = took_more g.S.Source.tells n c.pieces.taken read piece supply0 supply1 supply2 reached.took c.in_ok-n.ensures.ok;
        fed = fed_more g.H.Host.tells read rest (take n piece) more.0 c.args.session.now.store c.pieces.session.store c.feed.new.self.store
            c.args.session.now.refused c.pieces.session.refused c.feed.new.self.refused (g.H.Host.state c.args.host.now) (g.H.Host.state c.pieces.host) (g.H.Host.state c.feed.new.host)
            reached.fed more.1 more.3;
        faults = c.in_ok-n.ensures.ok.calm ∙ reached.faults;
        calm = same_faults_more (g.H.Host.state c.args.host.now) (g.H.Host.state c.pieces.host) (g.H.Host.state c.feed.new.host) reached.calm c.in_ok-feed.ensures.calm;
      },
    )

pub returns-in_err-feed-clause-part : goal.returns-in_err-feed-clause-part
returns-in_err-feed-clause-part g c = on_err c.from_residual-in_err-feed.result (λ h.
    let reached = c.pieces.invariant.4 in
    let read = c.pieces.invariant.0 in
    let rest = c.pieces.invariant.1 in
    let n = c.in_ok-n.n in
    let piece = c.read_piece.new.piece in
    part_of_all g.H.Host.tells read rest (take n piece) (g.S.Source.left c.read_piece.new.input) (g.S.Source.left c.args.input.now)
    c.args.session.now.store c.pieces.session.store c.feed.new.self.store c.args.session.now.refused c.pieces.session.refused
    (g.H.Host.state c.args.host.now) (g.H.Host.state c.pieces.host) (g.H.Host.state c.feed.new.host)
    reached.fed
    (reached.took.bytes_left h ∙ ap (λ (l : List ℕ). read ++ l) (c.in_ok-n.ensures.ok.bytes h) ∙ sym (append_assoc read (take n piece) (g.S.Source.left c.read_piece.new.input)))
    (c.in_err-feed.ensures.part rest reached.fed.splits.no_lf c.pieces.invariant.2))

pub returns-in_err-n-clause-cause : goal.returns-in_err-n-clause-cause
returns-in_err-n-clause-cause g c =
    let p = err_from_is_err_and c.from_residual.result c.from_residual.ensures.1 in
    let reached = c.pieces.invariant.4 in
    let supply0 = supply (g.S.Source.left c.args.input.now) (g.S.Source.taken c.args.input.now) (g.S.Source.faults c.args.input.now) in
    let supply1 = supply (g.S.Source.left c.pieces.input) (g.S.Source.taken c.pieces.input) (g.S.Source.faults c.pieces.input) in
    let supply2 = supply (g.S.Source.left c.read_piece.new.input) (g.S.Source.taken c.read_piece.new.input) (g.S.Source.faults c.read_piece.new.input) in
    subst (λ (o : Result Unit Stop). IfErr o (λ stop. LineStops g.S.Source.tells g.H.Host.tells stop supply0 supply2 c.args.session.now.store c.pieces.session.store (g.H.Host.state c.args.host.now) (g.H.Host.state c.pieces.host)))
    (sym (p.1 ∙ ap Err p.2))
    (no_piece_stops g.S.Source.tells g.H.Host.tells c.in_err-n.field-0.0 c.pieces.taken c.pieces.invariant.0 c.pieces.invariant.1 c.args.session.now.store c.pieces.session.store
    c.args.session.now.refused c.pieces.session.refused (g.H.Host.state c.args.host.now) (g.H.Host.state c.pieces.host) supply0 supply1 supply2 reached c.in_err-n.ensures.err)

pub returns-in_err-feed-clause-cause : goal.returns-in_err-feed-clause-cause
returns-in_err-feed-clause-cause g c =
    let p = err_from_is_err_and c.from_residual-in_err-feed.result c.from_residual-in_err-feed.ensures.1 in
    let reached = c.pieces.invariant.4 in
    let supply0 = supply (g.S.Source.left c.args.input.now) (g.S.Source.taken c.args.input.now) (g.S.Source.faults c.args.input.now) in
    let supply2 = supply (g.S.Source.left c.read_piece.new.input) (g.S.Source.taken c.read_piece.new.input) (g.S.Source.faults c.read_piece.new.input) in
    let few : g.S.Source.taken c.read_piece.new.input ≤ g.S.Source.taken c.args.input.now + 2 ^ 40 =
    omega (arith, reached.took.number.no_more, reached.size, c.in_ok-n.ensures.ok.number.no_more, c.in_ok-n.ensures.ok.few) in
    subst (λ (o : Result Unit Stop). IfErr o (λ stop. LineStops g.S.Source.tells g.H.Host.tells stop supply0 supply2 c.args.session.now.store c.feed.new.self.store (g.H.Host.state c.args.host.now) (g.H.Host.state c.feed.new.host)))
    (sym (p.1 ∙ ap Err p.2))
    (line_stops g.S.Source.tells g.H.Host.tells c.in_err-feed.field-0.0 supply0 supply2 c.args.session.now.store c.feed.new.self.store
    (g.H.Host.state c.args.host.now) (g.H.Host.state c.pieces.host) (g.H.Host.state c.feed.new.host) few reached.calm c.in_err-feed.ensures.cause)

pub returns-in_err-n-clause-silent : goal.returns-in_err-n-clause-silent
returns-in_err-n-clause-silent g c told =
    does_silent g.H.Host.tells _ c.args.session.now.store c.pieces.session.store c.args.session.now.refused c.pieces.session.refused (g.H.Host.state c.args.host.now) (g.H.Host.state c.pieces.host) c.pieces.invariant.4.fed.does told

pub returns-in_err-feed-clause-silent : goal.returns-in_err-feed-clause-silent
returns-in_err-feed-clause-silent g c told =
    let reached = c.pieces.invariant.4 in
    part_silent g.H.Host.tells _ c.pieces.session.store c.feed.new.self.store (g.H.Host.state c.pieces.host) (g.H.Host.state c.feed.new.host)
    (c.in_err-feed.ensures.part c.pieces.invariant.1 reached.fed.splits.no_lf c.pieces.invariant.2) told
    ∙ does_silent g.H.Host.tells _ c.args.session.now.store c.pieces.session.store c.args.session.now.refused c.pieces.session.refused (g.H.Host.state c.args.host.now) (g.H.Host.state c.pieces.host) reached.fed.does told

pub returns-then-n-eq0-clause-silent : goal.returns-then-n-eq0-clause-silent
returns-then-n-eq0-clause-silent g c told =
    does_silent g.H.Host.tells _ c.args.session.now.store c.pieces.session.store c.args.session.now.refused c.pieces.session.refused (g.H.Host.state c.args.host.now) (g.H.Host.state c.pieces.host) c.pieces.invariant.4.fed.does told

pub returns-in_err-n-clause-alone : goal.returns-in_err-n-clause-alone
returns-in_err-n-clause-alone g c told =
    does_alone g.H.Host.tells _ c.args.session.now.store c.pieces.session.store c.args.session.now.refused c.pieces.session.refused (g.H.Host.state c.args.host.now) (g.H.Host.state c.pieces.host) c.pieces.invariant.4.fed.does told

pub returns-in_err-feed-clause-alone : goal.returns-in_err-feed-clause-alone
returns-in_err-feed-clause-alone g c told =
    let reached = c.pieces.invariant.4 in
    part_alone g.H.Host.tells _ c.args.session.now.store c.feed.new.self.store (g.H.Host.state c.args.host.now) (g.H.Host.state c.feed.new.host)
    (does_then_part g.H.Host.tells _ _ c.args.session.now.store c.pieces.session.store c.feed.new.self.store c.args.session.now.refused c.pieces.session.refused
    (g.H.Host.state c.args.host.now) (g.H.Host.state c.pieces.host) (g.H.Host.state c.feed.new.host)
    reached.fed.does (c.in_err-feed.ensures.part c.pieces.invariant.1 reached.fed.splits.no_lf c.pieces.invariant.2)) told

pub returns-then-n-eq0-clause-alone : goal.returns-then-n-eq0-clause-alone
returns-then-n-eq0-clause-alone g c told =
    does_alone g.H.Host.tells _ c.args.session.now.store c.pieces.session.store c.args.session.now.refused c.pieces.session.refused (g.H.Host.state c.args.host.now) (g.H.Host.state c.pieces.host) c.pieces.invariant.4.fed.does told
