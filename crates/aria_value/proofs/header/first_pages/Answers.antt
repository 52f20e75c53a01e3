use Rattle.aria_value.proofs.Headers.{page_read}
use Rattle.aria_value.proofs.header.first_pages.Goals as goal

pub returns-clause-read : goal.returns-clause-read
returns-clause-read c = λ lsn.
    page_read c.args.definition.now c.args.plain c.args.created c.args.format c.new_page-index.result c.as_slice.result.now c.in_ok-header.header _ c.requires.definition c.in_ok-header.ensures.names lsn c.requires.format
    c.new_page-index.ensures.body c.as_slice.ensures c.in_ok-header.ensures.spelled
