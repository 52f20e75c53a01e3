use Rattle.std.proofs.Common.{refl}
use Rattle.std.proofs.lemmas.Result.{err_from_is_err_and}
use Rattle.aria_keypage.specs.declared.kind.Kind.TheVariants.{Leaf}
use Rattle.aria_key.specs.Path.{passed}
use Rattle.aria_key.specs.Held.{Takes}
use Rattle.aria_key.specs.Reading.{keys_file, Reads, OfTree, HasRoot}
use Rattle.aria_key.specs.WayUp.{HasWay}
use Rattle.aria_key.proofs.Arriving.{leaf_there, way_there, arrives}
use Rattle.aria_key.proofs.Reading.{reads_one, reads_on, cause_then}
use Rattle.aria_key.proofs.Then.{page_then, tree_then}
use Rattle.aria_key.proofs.entering.enter.Goals as goal

pub returns-in_err-next-clause-cause : goal.returns-in_err-next-clause-cause
returns-in_err-next-clause-cause g c =
    let tells = g.P.Pages.tells in
    let logged = g.P.Pages.logged in
    let old = g.P.Pages.state c.args.pages.now in
    let now = g.P.Pages.state c.find.new.pages in
    let new = g.P.Pages.state c.next_low.new.pages in
    let f = c.in_ok-found.found in
    let first = reads_one tells 16 (OfTree tells logged (HasRoot old (keys_file old c.args.slot) c.args.root) (keys_file old c.args.slot) old now) old now c.in_ok-found.ensures.loads c.in_ok-found.ensures.answers c.in_ok-found.ensures.cause in
    let p = err_from_is_err_and c.from_residual-in_err-next.result c.from_residual-in_err-next.ensures.1 in
    rw (p.1, p.2) (cause_then tells 16 _ _ old now new _ first
    (tree_then tells logged (HasWay now (keys_file now c.args.slot) (passed f.path)) (HasRoot old (keys_file old c.args.slot) c.args.root) c.args.slot 16 old now new first (λ t r. way_there tells c.args.slot 16 c.args.root c.args.entry.now old now f.page f.at f.same (passed f.path) first t (c.in_ok-found.ensures.found t) r)) c.in_err-next.ensures.cause)

pub returns-in_err-entered-clause-cause : goal.returns-in_err-entered-clause-cause
returns-in_err-entered-clause-cause g c =
    let tells = g.P.Pages.tells in
    let logged = g.P.Pages.logged in
    let old = g.P.Pages.state c.args.pages.now in
    let mid = g.P.Pages.state c.find.new.pages in
    let now = g.P.Pages.state c.next_low.new.pages in
    let new = g.P.Pages.state c.enter_leaf.new.pages in
    let f = c.in_ok-found.found in
    let first = reads_one tells 16 (OfTree tells logged (HasRoot old (keys_file old c.args.slot) c.args.root) (keys_file old c.args.slot) old mid) old mid c.in_ok-found.ensures.loads c.in_ok-found.ensures.answers c.in_ok-found.ensures.cause in
    let second = reads_one tells 16 (OfTree tells logged (HasWay mid (keys_file mid c.args.slot) (passed f.path)) (keys_file mid c.args.slot) mid now) mid now c.in_ok-next.ensures.loads c.in_ok-next.ensures.answers c.in_ok-next.ensures.cause in
    let both : Reads tells 32 old now = reads_on tells 16 16 old mid now first second in
    let p = err_from_is_err_and c.from_residual-in_err-entered.result c.from_residual-in_err-entered.ensures.1 in
    rw (p.1, p.2) (cause_then tells 32 _ _ old now new _ both
    (page_then tells logged (Takes Leaf f.at) (HasRoot old (keys_file old c.args.slot) c.args.root) c.args.slot 32 f.page old now new both (λ t r. leaf_there c.args.slot c.args.root c.args.entry.now old f.page f.at f.same (passed f.path) (c.in_ok-found.ensures.found t) r)) c.in_err-entered.ensures.cause)

pub returns-clause-sought : goal.returns-clause-sought
returns-clause-sought g c = λ t key levels walk tree.
    let tells = g.P.Pages.tells in
    let logged = g.P.Pages.logged in
    let old = g.P.Pages.state c.args.pages.now in
    let mid = g.P.Pages.state c.find.new.pages in
    let now = g.P.Pages.state c.next_low.new.pages in
    let f = c.in_ok-found.found in
    let first = reads_one tells 16 (OfTree tells logged (HasRoot old (keys_file old c.args.slot) c.args.root) (keys_file old c.args.slot) old mid) old mid c.in_ok-found.ensures.loads c.in_ok-found.ensures.answers c.in_ok-found.ensures.cause in
    let second = reads_one tells 16 (OfTree tells logged (HasWay mid (keys_file mid c.args.slot) (passed f.path)) (keys_file mid c.args.slot) mid now) mid now c.in_ok-next.ensures.loads c.in_ok-next.ensures.answers c.in_ok-next.ensures.cause in
    let both : Reads tells 32 old now = reads_on tells 16 16 old mid now first second in
    arrives tells c.args.slot 16 32 key c.args.root c.args.entry.now levels walk old mid now f.at f.same (passed f.path)
    (record { slot = c.args.slot; root = c.args.root; page = f.page; left = c.in_ok-entered.entered.left; reader = c.in_ok-entered.entered.reader; target = 0; next = c.in_ok-next.next })
    first both t tree (c.in_ok-found.ensures.found t) (c.in_ok-next.ensures.next t) (c.in_ok-entered.ensures.entered t) refl
