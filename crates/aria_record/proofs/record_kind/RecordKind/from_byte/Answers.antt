use Rattle.aria_record.proofs.Records.{with_found, with_only}
use Rattle.aria_record.proofs.record_kind.RecordKind.from_byte.Goals as goal

pub returns-clause-found : goal.returns-clause-found
returns-clause-found c = with_found c.args.byte c.kind_with.result c.kind_with.ensures

pub returns-clause-only : goal.returns-clause-only
returns-clause-only c = λ kind is. with_only c.args.byte c.kind_with.result kind c.kind_with.ensures is
