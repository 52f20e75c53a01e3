use Rattle.aria_page.proofs.Pages.{sound_if_zero}
use Rattle.aria_page.proofs.page.Page.is_sound.Goals as goal

pub returns-else-sums : goal.returns-else-sums
returns-else-sums c = sound_if_zero c.args.self.now c.bytes.result.now c.are_zero.result c.bytes.ensures.len c.bytes.ensures.value c.are_zero.ensures c.if-sums.ensures.1
