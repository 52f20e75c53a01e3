use Rattle.aria_record.proofs.Records.{result_alone}
use Rattle.aria_record.proofs.group_codec.encode_group.Goals as goal

pub returns-clause-alone : goal.returns-clause-alone
returns-clause-alone c = λ other rest is. result_alone c.encode.result c.args.group.now other rest c.encode.ensures c.requires is
