use Rattle.std.proofs.Common.{◌∙◌, ℕ, Bool, subst}
use Rattle.std.proofs.lemmas.Result.{err_from_is_err_and}
use Rattle.aria_key.specs.Rest.{from}
use Rattle.aria_key.specs.Reading.{keys_file, OfTree}
use Rattle.aria_key.specs.Ahead.{HasAhead, HasKey, IsNext}
use Rattle.aria_key.proofs.Fronts.{key-rises, found-first, found-none}
use Rattle.aria_key.proofs.Reading.{reads_one, cause_then}
use Rattle.aria_key.proofs.Then.{tree_then}
use Rattle.aria_key.proofs.prefix.first_with_prefix.Goals as goal

pub returns-in_err-more-clause-cause : goal.returns-in_err-more-clause-cause
returns-in_err-more-clause-cause g c =
    let tells = g.P.Pages.tells in
    let logged = g.P.Pages.logged in
    let old = g.P.Pages.state c.args.pages.now in
    let now = g.P.Pages.state c.seek.new.pages in
    let new = g.P.Pages.state c.next.new.pages in
    let slot = c.args.slot in
    let at = c.in_ok-cursor.cursor in
    let first = reads_one tells 40 (OfTree tells logged (HasKey old (keys_file old slot) c.args.key) (keys_file old slot) old now) old now c.in_ok-cursor.ensures.loads c.in_ok-cursor.ensures.answers c.in_ok-cursor.ensures.cause in
    let p = err_from_is_err_and c.from_residual-in_err-more.result c.from_residual-in_err-more.ensures.1 in
    rw (p.1, p.2) (cause_then tells 40 _ _ old now new _ first
    (λ f k. tree_then tells logged (HasAhead now at) (HasKey old (keys_file old slot) c.args.key) slot 40 old now new first (λ t h. record { rest = from c.args.prefix.now (h.walks c.args.key); ahead = c.in_ok-cursor.ensures.ahead t h.keys h.walks h.holds h.low }) f
    (subst (λ (n : ℕ). OfTree tells logged (HasAhead now at) (keys_file now n) now new f) c.in_ok-cursor.ensures.slot k)) c.in_err-more.ensures.cause)

pub returns-then-not-more-clause-first : goal.returns-then-not-more-clause-first
returns-then-not-more-clause-first g c = λ t keys walks holds low.
    let rest = from c.args.prefix.now (walks c.args.key) in
    let ahead = c.in_ok-cursor.ensures.ahead t keys walks holds low in
    let n = subst (λ (b : Bool). IsNext (g.P.Pages.state c.next.new.pages) rest c.next.new.cursor b) c.if-not-more.true (c.in_ok-more.ensures.next t rest ahead) in
    found-none c.args.prefix.now (walks c.args.key) (key-rises keys _ c.args.key _ walks holds low) n.0

pub returns-clause-first : goal.returns-clause-first
returns-clause-first g c = λ t keys walks holds low.
    let rest = from c.args.prefix.now (walks c.args.key) in
    let ahead = c.in_ok-cursor.ensures.ahead t keys walks holds low in
    let n = subst (λ (b : Bool). IsNext (g.P.Pages.state c.next.new.pages) rest c.next.new.cursor b) c.if-not-more.false (c.in_ok-more.ensures.next t rest ahead) in
    c.found_in.ensures ∙ found-first c.args.prefix.now _ _ n.item n.more (walks c.args.key) (key-rises keys _ c.args.key _ walks holds low) n.parts n.entry_is n.target_is
