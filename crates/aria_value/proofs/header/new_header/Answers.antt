use Rattle.aria_value.proofs.Headers.{header_spelled, header_short}
use Rattle.aria_value.proofs.header.new_header.Goals as goal

pub returns-clause-spelled : goal.returns-clause-spelled
returns-clause-spelled c =
    header_spelled c.args.definition.now c.args.plain c.args.created c.args.format c.new-out.result c.push_front.new.out c.push_lsn.new.out c.push_fields.new.out c.push_counted_u16.new.out c.in_ok-stored.stored c.as_slice.result.now
    c.new-out.ensures c.in_ok-push_front.ensures c.in_ok-push_lsn.ensures c.in_ok-push_fields.ensures c.in_ok-push_counted_u16.ensures c.as_slice.ensures c.in_ok-stored.ensures.spelled

pub returns-clause-length : goal.returns-clause-length
returns-clause-length c = header_short c.args.definition.now c.args.plain c.args.created c.args.format c.push_counted_u16.new.out c.requires c.in_ok-stored.ensures.names (returns-clause-spelled c)
