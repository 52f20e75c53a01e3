use Rattle.std.proofs.lemmas.Result.{err_from_is_err_and}
use Rattle.aria_key.specs.Reading.{keys_file, OfTree, HasRoot}
use Rattle.aria_key.specs.WayUp.{IsPresent}
use Rattle.aria_key.specs.Ahead.{HasKey}
use Rattle.aria_key.proofs.Going.{key_root, key_ahead}
use Rattle.aria_key.proofs.Reading.{reads_one, cause_then}
use Rattle.aria_key.proofs.Then.{tree_then}
use Rattle.aria_key.proofs.cursor.seek.Goals as goal

pub returns-in_err-cursor-clause-cause : goal.returns-in_err-cursor-clause-cause
returns-in_err-cursor-clause-cause g c =
    let tells = g.P.Pages.tells in
    let logged = g.P.Pages.logged in
    let old = g.P.Pages.state c.args.pages.now in
    let now = g.P.Pages.state c.root_of.new.pages in
    let new = g.P.Pages.state c.enter.new.pages in
    let slot = c.args.slot in
    let root = c.in_ok-root.root in
    let first = reads_one tells 1 (OfTree tells logged (IsPresent old (keys_file old slot) 0) (keys_file old slot) old now) old now c.in_ok-root.ensures.loads c.in_ok-root.ensures.answers c.in_ok-root.ensures.cause in
    let p = err_from_is_err_and c.from_residual-in_err-cursor.result c.from_residual-in_err-cursor.ensures.1 in
    rw (p.1, p.2) (cause_then tells 1 _ _ old now new _ first
    (tree_then tells logged (HasRoot now (keys_file now slot) root) (HasKey old (keys_file old slot) c.args.key) slot 1 old now new first (λ t h. key_root tells 1 slot c.args.key root old now first t h (c.in_ok-root.ensures.root t h.holds.header h.holds.file.there) (λ e. c.if-root-eq0.false e))) c.in_err-cursor.ensures.cause)

pub returns-clause-ahead : goal.returns-clause-ahead
returns-clause-ahead g c = λ t keys walks holds low.
    let tells = g.P.Pages.tells in
    let logged = g.P.Pages.logged in
    let old = g.P.Pages.state c.args.pages.now in
    let now = g.P.Pages.state c.root_of.new.pages in
    let new = g.P.Pages.state c.enter.new.pages in
    let slot = c.args.slot in
    let root = c.in_ok-root.root in
    let first = reads_one tells 1 (OfTree tells logged (IsPresent old (keys_file old slot) 0) (keys_file old slot) old now) old now c.in_ok-root.ensures.loads c.in_ok-root.ensures.answers c.in_ok-root.ensures.cause in
    let second = reads_one tells 33 (OfTree tells logged (HasRoot now (keys_file now slot) root) (keys_file now slot) now new) now new c.in_ok-cursor.ensures.loads c.in_ok-cursor.ensures.answers c.in_ok-cursor.ensures.cause in
    key_ahead tells 1 33 slot keys c.args.key root walks c.in_ok-cursor.cursor c.args.entry.now old now new first second t holds low (c.in_ok-root.ensures.root t holds.header holds.file.there) (λ e. c.if-root-eq0.false e) c.in_ok-cursor.ensures.slot (c.in_ok-cursor.ensures.sought t)
