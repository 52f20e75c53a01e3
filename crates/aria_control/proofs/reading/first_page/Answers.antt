use Rattle.aria_control.proofs.Kept.{first_page, none_blank, pages_there}
use Rattle.aria_control.proofs.reading.first_page.Goals as goal

pub returns-then-pages-eq0-clause-page : goal.returns-then-pages-eq0-clause-page
returns-then-pages-eq0-clause-page g c = λ told. none_blank _ c.args.pages (c.requires told) c.if-pages-eq0.true

pub returns-clause-page : goal.returns-clause-page
returns-clause-page g c = λ told.
    c.unless_blank.ensures _ (pages_there _ c.args.pages (c.requires told) c.if-pages-eq0.false) (first_page _ c.read_page.new.into (c.in_ok-read_page.ensures.page told))
