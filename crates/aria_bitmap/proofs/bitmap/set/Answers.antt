use Rattle.std.proofs.Common.{◌≡◌, ◌+◌, ◌*◌, ◌/◌, ap, sym, ◌∙◌, arith, List, ℕ}
use Rattle.aria_page.specs.Page.{page_body, with_body, with_bytes}
use Rattle.aria_page.proofs.Edits.{put_in_body, page_body-with_body}
use Rattle.aria_bitmap.proofs.bitmap.set.Goals as goal

-- the body with the group in its place
changed : (c : goal.After-put) → c.put.new.self ≡ with_body (with_bytes (1 + 3 * (c.args.nth / 8)) c.changed-bytes.result (page_body c.args.bitmap.now)) c.args.bitmap.now
changed c =
    let at : 11 + c.place.result ≡ 11 + (1 + 3 * (c.args.nth / 8)) = omega arith in
    c.put.ensures.bytes
    ∙ ap (λ (n : ℕ). with_bytes n c.changed-bytes.result c.args.bitmap.now) at
    ∙ put_in_body (1 + 3 * (c.args.nth / 8)) c.changed-bytes.result c.args.bitmap.now

body_is : (c : goal.After-put) → page_body c.put.new.self ≡ with_bytes (1 + 3 * (c.args.nth / 8)) c.changed-bytes.result (page_body c.args.bitmap.now)
body_is c = ap page_body (changed c) ∙ page_body-with_body (with_bytes (1 + 3 * (c.args.nth / 8)) c.changed-bytes.result (page_body c.args.bitmap.now)) c.args.bitmap.now (omega arith)

pub returns-clause-sets : goal.returns-clause-sets
returns-clause-sets c =
    rw (body_is c, sym c.body.ensures.value) c.changed-bytes.ensures.sets

pub returns-clause-body_alone : goal.returns-clause-body_alone
returns-clause-body_alone c = changed c ∙ ap (λ (body : List ℕ). with_body body c.args.bitmap.now) (sym (body_is c))
