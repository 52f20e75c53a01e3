use Rattle.std.proofs.Common.{ℕ, Bool, subst}
use Rattle.std.proofs.lemmas.Result.{err_from_is_err_and}
use Rattle.aria_key.specs.Reading.{keys_file, OfTree}
use Rattle.aria_key.specs.Ahead.{GoesOn, IsSpent, IsSet}
use Rattle.aria_key.proofs.Reading.{reads_one, cause_then}
use Rattle.aria_key.proofs.Then.{tree_then}
use Rattle.aria_key.proofs.cursor.next_leaf.Goals as goal

pub returns-then-not-on-clause-next : goal.returns-then-not-on-clause-next
returns-then-not-on-clause-next g c = λ t rest none ahead.
    subst (λ (b : Bool). GoesOn (g.P.Pages.state c.go_on.new.pages) rest c.go_on.new.cursor b) c.if-not-on.true (c.in_ok-on.ensures.on t rest none ahead)

pub returns-in_err-read_item-clause-cause : goal.returns-in_err-read_item-clause-cause
returns-in_err-read_item-clause-cause g c =
    let tells = g.P.Pages.tells in
    let logged = g.P.Pages.logged in
    let old = g.P.Pages.state c.args.pages.now in
    let now = g.P.Pages.state c.go_on.new.pages in
    let new = g.P.Pages.state c.read_item.new.pages in
    let at = c.args.cursor.now in
    let on = c.go_on.new.cursor in
    let first = reads_one tells 33 (OfTree tells logged (IsSpent old at) (keys_file old at.slot) old now) old now c.in_ok-on.ensures.loads c.in_ok-on.ensures.answers c.in_ok-on.ensures.cause in
    let p = err_from_is_err_and c.from_residual-in_err-read_item.result c.from_residual-in_err-read_item.ensures.1 in
    rw (p.1, p.2) (cause_then tells 33 _ _ old now new _ first
    (λ f k. tree_then tells logged (IsSet now on) (IsSpent old at) at.slot 33 old now new first (λ t h. record { rest = h.rest; ready = subst (λ (b : Bool). GoesOn now h.rest on b) c.if-not-on.false (c.in_ok-on.ensures.on t h.rest h.none h.ahead) }) f
    (subst (λ (n : ℕ). OfTree tells logged (IsSet now on) (keys_file now n) now new f) c.in_ok-on.ensures.slot k)) c.in_err-read_item.ensures.cause)

pub returns-clause-next : goal.returns-clause-next
returns-clause-next g c = λ t rest none ahead.
    c.in_ok-read_item.ensures.next t rest (subst (λ (b : Bool). GoesOn (g.P.Pages.state c.go_on.new.pages) rest c.go_on.new.cursor b) c.if-not-on.false (c.in_ok-on.ensures.on t rest none ahead))
