use Rattle.std.proofs.lemmas.Result.{err_from_is_err_and}
use Rattle.std.specs.Prelude.{⊤}
use Rattle.aria_key.specs.Reading.{keys_file, OfKeyPage}
use Rattle.aria_key.proofs.Reading.{reads_one, cause_then}
use Rattle.aria_key.proofs.Finding.{way_begins, way_on, way_ends, way_cause}
use Rattle.aria_key.proofs.descent.find.Goals as goal

pub loop-level-init : goal.loop-level-init
loop-level-init g c = record {
  stands = c.requires.stands;
  moves = g.met.P.Pages.stays_same c.args.pages.now;
  way = way_begins g.P.Pages.tells c.args.slot c.args.root c.args.entry.now c.new-path.result (g.P.Pages.state c.args.pages.now) c.new-path.ensures.passed c.new-path.ensures.len;
}

pub returns-in_err-looked-clause-cause : goal.returns-in_err-looked-clause-cause
returns-in_err-looked-clause-cause g c =
    let old = g.P.Pages.state c.args.pages.now in
    let now = g.P.Pages.state c.loop-level.pages in
    let new = g.P.Pages.state c.look.new.pages in
    let way = c.loop-level.invariant.way in
    let p = err_from_is_err_and c.from_residual.result c.from_residual.ensures.1 in
    rw (p.1, p.2) (cause_then g.P.Pages.tells c.loop-level._level _ _ old now new _ way.reads
    (way_cause g.P.Pages.tells g.P.Pages.logged c.args.slot c.args.root c.args.entry.now c.loop-level._level c.loop-level.page c.loop-level.path old now new way) c.in_err-looked.ensures.cause)

pub returns-in-Leaf-clause-found : goal.returns-in-Leaf-clause-found
returns-in-Leaf-clause-found g c = λ t key levels walk tree.
    way_ends g.P.Pages.tells c.args.slot c.args.root c.args.entry.now c.loop-level._level c.loop-level.page c.loop-level.path (g.P.Pages.state c.args.pages.now) (g.P.Pages.state c.loop-level.pages) c.in_ok-looked.looked
    c.loop-level.invariant.way c.in_ok-looked.ensures.looked c.in-Leaf.is t key levels walk tree

pub loop-level-preserved : goal.loop-level-preserved
loop-level-preserved g c =
    let now = g.P.Pages.state c.loop-level.pages in
    let new = g.P.Pages.state c.look.new.pages in
    record {
      stands = c.in_ok-looked.ensures.stands;
      moves = g.met.P.Pages.stays_on c.args.pages.now c.loop-level.pages c.look.new.pages c.loop-level.invariant.moves c.in_ok-looked.ensures.moves;
      way = way_on g.P.Pages.tells c.args.slot c.args.root c.args.entry.now c.loop-level._level c.loop-level.page c.loop-level.path c.push.new.self (g.P.Pages.state c.args.pages.now) now new c.in_ok-looked.looked c.loop-level.invariant.way
          (reads_one g.P.Pages.tells 1 (OfKeyPage g.P.Pages.tells g.P.Pages.logged (λ x. ⊤) (keys_file now c.args.slot) c.loop-level.page now new) now new c.in_ok-looked.ensures.loads c.in_ok-looked.ensures.answers c.in_ok-looked.ensures.cause) c.in_ok-looked.ensures.looked c.in-Node.is c.push.ensures.passed c.push.ensures.len;
    }
