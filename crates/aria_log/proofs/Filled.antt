-- The page that is filled, byte after byte, and the page that is written from it.
use Rattle.std.proofs.Common.{◌≡◌, ℕ, ◌+◌, ◌-◌, ◌<◌, ◌≤◌, ◌^◌, Bool, Some, List, [], ◌++◌, length, take, drop, min, refl, ◌∙◌, ap, arith, length-append}
use Rattle.std.proofs.lemmas.List.{length-take}
use Rattle.aria_page.specs.Page.{Sums, with_bytes, with_sum, zero_page}
use Rattle.aria_log.specs.declared.log.Log.{Log as LogValue}
use Rattle.aria_log.specs.LogPage.{log_head, log_body, read_log_page}
use Rattle.aria_log.specs.Log.{Fills}
use Rattle.aria_log.proofs.LogPages.{valid_reads}
use Rattle.aria_log.proofs.Sealing.{filled_more, sealed_is_page}

-- bytes from the front of a piece were put into the page
pub fills_more : (old new : LogValue) (number : ℕ) (held piece part : List ℕ) (count : ℕ) → Fills old number held → length old.page ≡ 8192 → old.used ≤ 8176
    → count ≡ min (8176 - old.used) (length piece) → part ≡ take count piece → new.page ≡ with_bytes (16 + old.used) part old.page → new.number ≡ old.number → new.used ≡ old.used + count
    → Fills new number (held ++ part)
fills_more old new number held piece part count is long fits counts part_is page number_is used_is =
    let len : length part ≡ count = ap length part_is ∙ length-take count piece ∙ omega arith in
    record {
      number_is = number_is ∙ is.number_is;
      used_is = used_is ∙ omega (arith, len, is.used_is, length-append held part);
      body_is = filled_more old.page new.page held part old.used long is.body_is is.used_is (omega (arith, len)) page;
    }

-- the page that is written reads as what was filled in
pub written_reads : (log : LogValue) (page : List ℕ) (number : ℕ) (begins : Bool) (held : List ℕ) → Fills log number held → log.used ≤ 8176 → 1 ≤ length held → log.number < 2 ^ 34 - 1 → Sums page
    → page ≡ with_sum (log_head log.number begins log.used ++ drop 16 log.page) → read_log_page log.number page ≡ Some (begins, held)
written_reads log page number begins held is fits some low sums page_is =
    valid_reads log.number begins held page (record {
      sums = sums;
      spelled = sealed_is_page log.page page held log.number log.used begins is.body_is is.used_is page_is;
      used = some;
      fits = omega (arith, is.used_is);
      low = low;
    })

-- the body of the page of zeros is that of a page that holds nothing
pub zero_fills : drop 16 zero_page ≡ log_body []
unfolding zero_page log_body
zero_fills = refl
