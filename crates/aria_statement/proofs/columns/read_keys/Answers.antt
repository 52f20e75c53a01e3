use Rattle.std.proofs.Common.{sym, arith, map}
use Rattle.std.proofs.lemmas.Result.{err_from_is_err_and}
use Rattle.std.proofs.lemmas.List.{map-append}
use Rattle.aria_model.specs.Grammar.{key, another_key}
use Rattle.aria_statement.specs.Lexing.{left}
use Rattle.aria_statement.specs.Writing.{key_seen}
use Rattle.aria_statement.proofs.Items.{goes_on, is_done, is_fault}
use Rattle.aria_statement.proofs.Shorter.{keys_shorten}
use Rattle.aria_statement.proofs.columns.read_keys.Goals as goal

pub returns-in_err-key : goal.returns-in_err-key
returns-in_err-key c =
    let p = err_from_is_err_and c.from_residual.result c.from_residual.ensures.1 in
    rw (p.1, p.2) (is_fault key another_key (map key_seen c.loop-keys.keys) (left c.args.line.now c.loop-keys.next) _ c.in_err-key.field-0.0 keys_shorten c.in_err-key.ensures c.loop-keys.invariant)

pub returns-in-None : goal.returns-in-None
returns-in-None c = rw (c.in_ok-push.ensures.ok, map-append) (is_done key another_key (map key_seen c.loop-keys.keys) (left c.args.line.now c.loop-keys.next) _ (key_seen c.in_ok-key.key) (left c.args.line.now c.in_ok-key.behind) keys_shorten c.in_ok-key.ensures (sym c.in-None.ensures) c.loop-keys.invariant)

pub loop-keys-smaller : goal.loop-keys-smaller
loop-keys-smaller c = omega (arith, keys_shorten.shorter (left c.args.line.now c.loop-keys.next) ((key_seen c.in_ok-key.key), left c.args.line.now c.in_ok-key.behind) c.in_ok-key.ensures, keys_shorten.no_longer (left c.args.line.now c.in_ok-key.behind) (left c.args.line.now c.in-Some.place) (sym c.in-Some.ensures))

pub loop-keys-preserved : goal.loop-keys-preserved
loop-keys-preserved c = rw (c.in_ok-push.ensures.ok, map-append) (goes_on key another_key (map key_seen c.loop-keys.keys) (left c.args.line.now c.loop-keys.next) _ (key_seen c.in_ok-key.key) (left c.args.line.now c.in_ok-key.behind) (left c.args.line.now c.in-Some.place) keys_shorten c.in_ok-key.ensures (sym c.in-Some.ensures) c.loop-keys.invariant)
