use Rattle.std.proofs.Common.{List, ℕ, subst}
use Rattle.aria_key.specs.Reading.{keys_file, OfTree, HasRoot}
use Rattle.aria_key.specs.WayUp.{IsPresent}
use Rattle.aria_key.proofs.Going.{Sought, TellsSought, goes_on, goes_out, has_item}
use Rattle.aria_key.proofs.Reading.{reads_one, cause_found}
use Rattle.aria_key.proofs.cursor.go_on.Goals as goal

pub returns-then-on-eq0-clause-cause : goal.returns-then-on-eq0-clause-cause
returns-then-on-eq0-clause-cause g c =
    let tells = g.P.Pages.tells in
    let logged = g.P.Pages.logged in
    let old = g.P.Pages.state c.args.pages.now in
    let now = g.P.Pages.state c.enter.new.pages in
    let new = g.P.Pages.state c.stop.new.self in
    let at = c.args.cursor.now in
    let reads = reads_one tells 33 (OfTree tells logged (HasRoot old (keys_file old at.slot) at.root) (keys_file old at.slot) old now) old now c.in_ok-on-in-Some.ensures.loads c.in_ok-on-in-Some.ensures.answers c.in_ok-on-in-Some.ensures.cause in
    cause_found tells 33 _ old now new _ c.stop.result reads c.stop.ensures.fault c.stop.ensures.stops (
      c.file-file.ensures,
      λ t h.
          let told : TellsSought at.slot at.root c.in-Some.low old c.in_ok-on-in-Some.on = λ key levels walk tree. subst (λ (l : List ℕ). Sought at.slot at.root l old c.in_ok-on-in-Some.on key levels walk) c.as_slice.ensures (c.in_ok-on-in-Some.ensures.sought t key levels walk tree) in
          has_item at c.in_ok-on-in-Some.on c.in-Some.low old h c.in-Some.is told c.if-on-eq0.true,
    )

pub returns-in_ok-fetch-in-None-clause-on : goal.returns-in_ok-fetch-in-None-clause-on
returns-in_ok-fetch-in-None-clause-on g c = λ t rest none ahead.
    let tells = g.P.Pages.tells in
    let old = g.P.Pages.state c.args.pages.now in
    let new = g.P.Pages.state c.fetch.new.pages in
    let at = c.args.cursor.now in
    let reads = reads_one tells 1 (OfTree tells g.P.Pages.logged (IsPresent old (keys_file old at.slot) at.page) (keys_file old at.slot) old new) old new c.in_ok-fetch-in-None.ensures.loads c.in_ok-fetch-in-None.ensures.answers c.in_ok-fetch-in-None.ensures.cause in
    goes_out tells 1 at rest old new reads t ahead none c.in-None.is

pub returns-else-on-eq0-clause-on : goal.returns-else-on-eq0-clause-on
returns-else-on-eq0-clause-on g c = λ t rest none ahead.
    let tells = g.P.Pages.tells in
    let old = g.P.Pages.state c.args.pages.now in
    let new = g.P.Pages.state c.enter.new.pages in
    let at = c.args.cursor.now in
    let reads = reads_one tells 33 (OfTree tells g.P.Pages.logged (HasRoot old (keys_file old at.slot) at.root) (keys_file old at.slot) old new) old new c.in_ok-on-in-Some.ensures.loads c.in_ok-on-in-Some.ensures.answers c.in_ok-on-in-Some.ensures.cause in
    let told : TellsSought at.slot at.root c.in-Some.low old c.in_ok-on-in-Some.on = λ key levels walk tree. subst (λ (l : List ℕ). Sought at.slot at.root l old c.in_ok-on-in-Some.on key levels walk) c.as_slice.ensures (c.in_ok-on-in-Some.ensures.sought t key levels walk tree) in
    goes_on tells 33 at c.in_ok-on-in-Some.on rest c.in-Some.low old new reads t c.in_ok-on-in-Some.ensures.slot ahead none c.in-Some.is told
