use Rattle.std.proofs.Common.{ℕ, List, arith}
use Rattle.aria_record.specs.declared.record.Record.{Record}
use Rattle.aria_record.proofs.Records.{rest_within}
use Rattle.aria_record.proofs.group_codec.decode.Goals as goal

pub overflow_sub-result : goal.overflow_sub-result
overflow_sub-result c =
    let read = rw c.in-Some.is at c.in_ok-group_at.ensures in
    let x : List Record × List ℕ = (c.in-Some.group, c.in-Some.rest.now) in
    rest_within c.args.bytes.now x (λ i. omega (arith, c.type_inv.bytes i)) read

pub returns-in-Some : goal.returns-in-Some
returns-in-Some c =
    let read = rw c.in-Some.is at c.in_ok-group_at.ensures in
    let x : List Record × List ℕ = (c.in-Some.group, c.in-Some.rest.now) in
    let within = rest_within c.args.bytes.now x (λ i. omega (arith, c.type_inv.bytes i)) read in
    (c.in-Some.rest.now, read, omega (arith, within))
