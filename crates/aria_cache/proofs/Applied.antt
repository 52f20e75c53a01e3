-- An edit of the log, made in a page.
use Rattle.std.proofs.Common.{◌≡◌, ◌∙◌, ℕ, List, length, ap, arith}
use Rattle.aria_page.specs.Page.{page_body, with_body}
use Rattle.aria_page.proofs.Edits.{page_body-with_body}

-- the page with another body has it
pub body_applied : (text old new : List ℕ) → length old ≡ 8192 → new ≡ with_body text old → page_body new ≡ text
body_applied text old new long is = ap page_body is ∙ page_body-with_body text old (omega (arith, long))
