use Rattle.std.proofs.Common.{◌≡◌, [], arith}
use Rattle.std.specs.Prelude.{⊤}
use Rattle.std.proofs.lemmas.List.{nil_from_length}
use Rattle.std.proofs.lemmas.Result.{err_from_is_err_and}
use Rattle.aria_key.specs.Path.{passed}
use Rattle.aria_key.specs.Reading.{keys_file, OfKeyPage}
use Rattle.aria_key.proofs.Reading.{reads_one, cause_then}
use Rattle.aria_key.proofs.GoingUp.{up_on, up_ends, up_none, up_cause}
use Rattle.aria_key.proofs.way_up.next_low.Goals as goal

pub returns-in-None-clause-next : goal.returns-in-None-clause-next
returns-in-None-clause-next g c = λ t next h.
    up_none g.P.Pages.tells c.args.slot c.loop-level._level (passed c.args.path) (passed c.loop-level.way) (g.P.Pages.state c.args.pages.now) (g.P.Pages.state c.loop-level.pages) c.loop-level.invariant.way c.in-None.ensures t next h

pub returns-in_err-found-in-Some-clause-cause : goal.returns-in_err-found-in-Some-clause-cause
returns-in_err-found-in-Some-clause-cause g c =
    let old = g.P.Pages.state c.args.pages.now in
    let now = g.P.Pages.state c.loop-level.pages in
    let new = g.P.Pages.state c.entry_at.new.pages in
    let way = c.loop-level.invariant.way in
    let p = err_from_is_err_and c.from_residual.result c.from_residual.ensures.1 in
    rw (p.1, p.2) (cause_then g.P.Pages.tells c.loop-level._level _ _ old now new _ way.reads
    (up_cause g.P.Pages.tells g.P.Pages.logged c.args.slot c.loop-level._level (passed c.args.path) (passed c.loop-level.way) (passed c.up.new.self) c.in-Some.step old now new way c.in-Some.ensures) c.in_err-found-in-Some.ensures.cause)

pub returns-in-Some-found-clause-next : goal.returns-in-Some-found-clause-next
returns-in-Some-found-clause-next g c = λ t next h.
    up_ends g.P.Pages.tells c.args.slot c.loop-level._level (passed c.args.path) (passed c.loop-level.way) (passed c.up.new.self) c.in-Some.step (g.P.Pages.state c.args.pages.now) (g.P.Pages.state c.loop-level.pages) c.in_ok-found-in-Some.found c.in-Some-found.entry
    c.loop-level.invariant.way c.in-Some.ensures c.in_ok-found-in-Some.ensures.entry c.in-Some-found.is t next h

pub loop-level-preserved : goal.loop-level-preserved
loop-level-preserved g c =
    let now = g.P.Pages.state c.loop-level.pages in
    let new = g.P.Pages.state c.entry_at.new.pages in
    record {
      stands = c.in_ok-found-in-Some.ensures.stands;
      moves = g.met.P.Pages.stays_on c.args.pages.now c.loop-level.pages c.entry_at.new.pages c.loop-level.invariant.moves c.in_ok-found-in-Some.ensures.moves;
      way = up_on g.P.Pages.tells c.args.slot c.loop-level._level (passed c.args.path) (passed c.loop-level.way) (passed c.up.new.self) c.in-Some.step (g.P.Pages.state c.args.pages.now) now new c.in_ok-found-in-Some.found c.loop-level.invariant.way
          (reads_one g.P.Pages.tells 1 (OfKeyPage g.P.Pages.tells g.P.Pages.logged (λ x. ⊤) (keys_file now c.args.slot) c.in-Some.step.page now new) now new c.in_ok-found-in-Some.ensures.loads c.in_ok-found-in-Some.ensures.answers c.in_ok-found-in-Some.ensures.cause) c.in-Some.ensures c.in_ok-found-in-Some.ensures.entry c.in-None-found.is;
    }

pub returns-clause-next : goal.returns-clause-next
returns-clause-next g c = λ t next h.
    let way = c.loop-level.invariant.way in
    let none : passed c.loop-level.way ≡ [] = nil_from_length (passed c.loop-level.way) (omega (arith, way.few, c.loop-level-test.false)) in
    up_none g.P.Pages.tells c.args.slot c.loop-level._level (passed c.args.path) (passed c.loop-level.way) (g.P.Pages.state c.args.pages.now) (g.P.Pages.state c.loop-level.pages) way none t next h
